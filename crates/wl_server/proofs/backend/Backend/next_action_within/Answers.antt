use Rattle.std.proofs.lemmas.Result.{err_from_is_err_and}
use Rattle.wl_server.proofs.backend.Backend.next_action_within.Goals as goal

pub returns-in_err-next_action_within_into : goal.returns-in_err-next_action_within_into
returns-in_err-next_action_within_into g c =
    let is = err_from_is_err_and c.from_residual.result c.from_residual.ensures.1 in
    let said = c.in_err-next_action_within_into.ensures in
    rw (is.1, is.2) (record { call = said.call; plain = said.plain; reason = said.reason; cutting = said.cutting; room = said.room })
