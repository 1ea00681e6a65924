use Rattle.wl_server_model.proofs.OverRuns.Noted.EarlierFirst.{earlier_notes_first, earlier_wait_first}
use Rattle.wl_server.proofs.laws.notes_come_in_the_order_of_time.Goals as goal

pub returns : goal.returns
returns g c = record { run = earlier_notes_first _; waiting = earlier_wait_first _ }
