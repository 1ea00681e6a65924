-- That what came stands behind what was not read yet.
use Rattle.wl_guard.proofs.guard.arrive_at.Goals as goal

pub returns-in-Ok-clause-passed : goal.returns-in-Ok-clause-passed
returns-in-Ok-clause-passed c = rw (← c.in-Ok.ensures.ok) c.pass_and_tell.ensures
