-- What the functions share that hand out an action.
use Rattle.std.specs.Prelude.{◌≡◌, Bool, false, Option, Result, Ok, Err, MatchResult}
use Rattle.wl_server_client.specs.Ids.{ClientParts}
use Rattle.wl_server_client.specs.declared.error.ActionError.{ActionError}
use Rattle.wl_server_client.specs.declared.reading.action.Action.{Action}
use Rattle.wl_host.specs.Actions.{HandsFrom, Lent, ReadsAllowed, kills, with_kept}
use Rattle.wl_host.specs.Calls.{CoreState}
use Rattle.wl_flat.specs.Status.{of_action}
use Rattle.wl_host.specs.declared.server.ledger.Ledger.{Ledger}
use Rattle.wl_flat.specs.declared.status.Status.{Status}

-- the status of an answer, or of why nothing was read
abbrev pub status_of_next : Result Status ActionError → Status
status_of_next (Ok s) = s
status_of_next (Err e) = of_action e

abbrev pub is_killed_in : Result Status ActionError → Bool
is_killed_in (Ok s) = false
is_killed_in (Err e) = kills e

-- what was read is handed out; or nothing was read, and the lent memory is as it was
abbrev pub AnswersNext : CoreState → Ledger → Result Action ActionError → Lent → Result Status ActionError → Lent → Ledger → Type 0
AnswersNext core l read before result after l' =
    MatchResult read
    (λ action. (s : Status) × (result ≡ Ok s) × HandsFrom core l action before.arguments before.bytes s after l')
    (λ e. (result ≡ Err e) × (after ≡ before) × (l' ≡ l))

-- the next action of a client with this ledger
abbrev pub NextOf : Bool → CoreState → ClientParts → Ledger → Lent → Result Status ActionError → Lent → CoreState → Ledger → Type 0
NextOf refuses before id l lent result lent' after l' =
    (read : Result Action ActionError) × (left : Option Action) × ReadsAllowed refuses before id l.kept read left after
    × AnswersNext after (with_kept l left) read lent result lent' l'
