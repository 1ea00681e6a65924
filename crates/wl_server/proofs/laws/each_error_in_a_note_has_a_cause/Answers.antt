use Rattle.wl_server_model.proofs.OverRuns.Noted.ErrorLaws.{each_call_causes, each_error_is_caused}
use Rattle.wl_server.proofs.laws.each_error_in_a_note_has_a_cause.Goals as goal

pub returns : goal.returns
returns g c = record { call = each_call_causes _; run = each_error_is_caused _ }
