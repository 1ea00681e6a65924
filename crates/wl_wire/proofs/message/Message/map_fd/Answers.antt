use Rattle.std.proofs.Common.{refl, arith}
use Rattle.std.proofs.lemmas.Grind.{common_steps}
use Rattle.wl_wire.proofs.message.Message.map_fd.Goals as goal

pub returns-clause-mapped : goal.returns-clause-mapped
returns-clause-mapped g c = c.map_arguments.ensures.mapped

pub returns-in_default-clause-inline : goal.returns-in_default-clause-inline
returns-in_default-clause-inline g c = λ few. c.in_default.ensures.inline few

pub returns-in_default-clause-refused : goal.returns-in_default-clause-refused
returns-in_default-clause-refused g c = refl

pub room_for-requires : goal.room_for-requires
room_for-requires g c = omega arith

pub array_drop-old-inside-requires : goal.array_drop-old-inside-requires
array_drop-old-inside-requires g c = grind (arith, common_steps)
