use Rattle.std.proofs.Common.{refl}
use Rattle.wl_server_model.proofs.Dispatches.Joining.{reached_none}
use Rattle.wl_server_model.proofs.Dispatches.Serving.{handles_by}
use Rattle.wl_server.proofs.backend.Backend.handle.Goals as goal

pub returns-in-Ok : goal.returns-in-Ok
returns-in-Ok g c =
    let h = c.request_lent-user_data in
    rw c.in-Request.is (handles_by _ _ _ _ _ _ _ _ _ _ _ (h.result, h.ensures.answers, refl) h.ensures.reached c.in-Ok.ensures.call)

pub returns-in-Err : goal.returns-in-Err
returns-in-Err g c =
    let h = c.request_lent-user_data in
    rw c.in-Request.is (handles_by _ _ _ _ _ _ _ _ _ _ _ (h.result, h.ensures.answers, refl) h.ensures.reached c.in-Err.ensures.call)

pub returns-in-Ok-finish_bind : goal.returns-in-Ok-finish_bind
returns-in-Ok-finish_bind g c =
    let h = c.bind-user_data in
    rw c.in-Bind.is (handles_by _ _ _ _ _ _ _ _ _ _ _ (h.result, h.ensures.answers, refl) h.ensures.reached c.in-Ok-finish_bind.ensures.call)

pub returns-in-Err-finish_bind : goal.returns-in-Err-finish_bind
returns-in-Err-finish_bind g c =
    let h = c.bind-user_data in
    rw c.in-Bind.is (handles_by _ _ _ _ _ _ _ _ _ _ _ (h.result, h.ensures.answers, refl) h.ensures.reached c.in-Err-finish_bind.ensures.call)

pub returns-in-Ok-finish_request : goal.returns-in-Ok-finish_request
returns-in-Ok-finish_request g c =
    rw c.in-Registry.is (handles_by _ _ _ _ _ _ _ _ _ _ _ (refl, refl, refl) reached_none c.in-Ok-finish_request.ensures.call)

pub returns-in-Err-finish_request : goal.returns-in-Err-finish_request
returns-in-Err-finish_request g c =
    rw c.in-Registry.is (handles_by _ _ _ _ _ _ _ _ _ _ _ (refl, refl, refl) reached_none c.in-Err-finish_request.ensures.call)
