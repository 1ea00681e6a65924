use Rattle.std.proofs.Common.{arith}
use Rattle.std.proofs.lemmas.Result.{IfOk-weaker}
use Rattle.std.proofs.lemmas.Grind.{common_steps}
use Rattle.wl_wire.proofs.message.room_for.Goals as goal

pub returns-clause-empty : goal.returns-clause-empty
returns-clause-empty g c = c.with_capacity.ensures.items

pub returns-clause-room : goal.returns-clause-room
returns-clause-room g c = IfOk-weaker c.with_capacity.result _ _ (λ new is. omega (arith, is, c.len.ensures.value)) c.with_capacity.ensures.capacity

pub returns-clause-inline : goal.returns-clause-inline
returns-clause-inline g c = λ few. c.with_capacity.ensures.succeeds (omega (arith, few, c.len.ensures.value))

pub allocator-requires : goal.allocator-requires
allocator-requires g c = grind (arith, common_steps)

pub len-requires : goal.len-requires
len-requires g c = grind (arith, common_steps)

pub with_capacity-requires : goal.with_capacity-requires
with_capacity-requires g c = grind (arith, common_steps)
