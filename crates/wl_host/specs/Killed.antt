-- When a client may have been killed, and that a cleanup looks for killed clients then.
use Rattle.std.specs.Prelude.{◌≡◌, ◌≢◌, false, true, Bool, Option, None, Some}
use Rattle.wl_server_client.specs.declared.reading.action.OpenAction.TheVariants as opened
use Rattle.wl_server_client.specs.Ids.{ClientParts, IdParts}
use Rattle.wl_server_model.specs.Plain.{action_in, killed_in}
use Rattle.wl_host.specs.Calls.{CoreState}
use Rattle.wl_host.specs.Seats.{ledger_of}
use Rattle.wl_host.specs.Server.{ServerState}
use Rattle.wl_host.specs.declared.server.ledger.Ledger.{Ledger}

-- no client that is stored is killed
abbrev pub NobodyIsKilled : CoreState → Type 0
NobodyIsKilled core = (id : ClientParts) → killed_in core id ≢ Some true

-- while the next cleanup would not look for killed clients, nobody is killed
abbrev pub IsSettled : ServerState → Type 0
IsSettled s = s.may_clean_up ≡ false → NobodyIsKilled s.core

-- if that is so before a call, it is so after it
abbrev pub StaysSettled : ServerState → ServerState → Type 0
StaysSettled before after = IsSettled before → IsSettled after

-- it is kept of the client, beside the core, whether its open request ends the object that it was sent to
abbrev pub KnowsEnd : ServerState → ClientParts → Type 0
KnowsEnd s id =
    (l : Ledger) (sender : IdParts) (ends : Bool) (created : Option IdParts) → ledger_of id s.seats.ledgers ≡ Some l → l.kept ≡ None
    → action_in s.core id ≡ Some (opened.Request sender ends created) → l.ends_sender ≡ ends
