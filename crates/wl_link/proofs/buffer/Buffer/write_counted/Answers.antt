use Rattle.std.proofs.Common.{arith}
use Rattle.std.proofs.lemmas.Grind.{common_steps}
use Rattle.wl_link.proofs.buffer.Buffer.write_counted.Goals as goal

pub returns-clause-message : goal.returns-clause-message
returns-clause-message g c = c.in_ok-count.ensures.message

pub write_after-requires : goal.write_after-requires
write_after-requires g c = omega arith

pub returns-in_err-count-clause-appended : goal.returns-in_err-count-clause-appended
returns-in_err-count-clause-appended g c = grind (arith, common_steps)

pub overflow_add-self : goal.overflow_add-self
overflow_add-self g c = grind (arith, common_steps)

pub invariant_of-self-2 : goal.invariant_of-self-2
invariant_of-self-2 g c = grind (arith, common_steps)

pub returns-clause-appended : goal.returns-clause-appended
returns-clause-appended g c = grind (arith, common_steps)
