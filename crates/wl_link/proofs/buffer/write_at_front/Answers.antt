use Rattle.std.proofs.Common.{arith}
use Rattle.wl_link.proofs.buffer.write_at_front.Goals as goal

pub returns-clause-appended : goal.returns-clause-appended
returns-clause-appended g c = rw (c.move_to_front.auto.storage, c.move_to_front.ensures) at c.write_after.ensures.appended

pub returns-clause-message : goal.returns-clause-message
returns-clause-message g c = c.write_after.ensures.message

pub returns-clause-room : goal.returns-clause-room
returns-clause-room g c = omega (arith, c.write_after.ensures.room, c.move_to_front.auto.storage)

pub returns-clause-too_small : goal.returns-clause-too_small
returns-clause-too_small g c = λ refused. omega (arith, c.write_after.ensures.too_small refused, c.move_to_front.auto.storage)
