use Rattle.wl_server_model.proofs.OverRuns.Killed.ViolationLaws.{live_keep_none, readings_alone_break}
use Rattle.wl_server.proofs.laws.only_a_killed_client_keeps_a_violation.Goals as goal

pub returns : goal.returns
returns g c = record { run = live_keep_none _; others = readings_alone_break _ }
