use Rattle.std.proofs.Common.{arith}
use Rattle.std.proofs.lemmas.Grind.{common_steps}
use Rattle.wl_link.proofs.buffer.Buffer.put.Goals as goal

pub returns-in-Ok-clause-fits : goal.returns-in-Ok-clause-fits
returns-in-Ok-clause-fits g c = λ e. cc

pub returns-in-Ok-clause-message : goal.returns-in-Ok-clause-message
returns-in-Ok-clause-message g c = c.in-Ok.ensures.message

pub write_at_front-requires : goal.write_at_front-requires
write_at_front-requires g c = omega arith

pub overflow_add-self : goal.overflow_add-self
overflow_add-self g c = grind (arith, common_steps)

pub invariant_of-self : goal.invariant_of-self
invariant_of-self g c = grind (arith, common_steps)

pub returns-in-Ok-clause-appended : goal.returns-in-Ok-clause-appended
returns-in-Ok-clause-appended g c = grind (arith, common_steps)

pub returns-in-Err-clause-appended : goal.returns-in-Err-clause-appended
returns-in-Err-clause-appended g c = grind (arith, common_steps)

pub returns-in-Err-clause-fits : goal.returns-in-Err-clause-fits
returns-in-Err-clause-fits g c = grind (arith, common_steps)
