-- A client that is inserted: its messages are told if that was set, and none was yet.
use Rattle.std.proofs.Common.{◌≡◌, ℕ, zero, suc, ◌+◌, ◌-◌, ◌<◌, Bool, true, false, List, [], ◌∷◌, Option, None, Some, Ok, Err, length, length-append, ap, arith, inl, inr, refl, subst, sym, ◌∙◌}
use Rattle.std.proofs.lemmas.Bool.{eq-eqb}
use Rattle.std.proofs.lemmas.List.{length-replicate}
use Rattle.std.specs.Prelude.{if◌then◌else◌, option_map, replicate, slice_set}
use Rattle.wl_link.specs.Link.{LinkState}
use Rattle.wl_link.specs.Mailbox.{MailboxState}
use Rattle.wl_server_model.proofs.Plain.Clients.{inserts_client}
use Rattle.wl_server_client.specs.Ids.{ClientParts}
use Rattle.wl_server_model.specs.Lookups.{transport_of}
use Rattle.wl_server_client.specs.Part.{Part}
use Rattle.wl_host.specs.Calls.{InsertsClient, new_mailbox}
use Rattle.wl_host.specs.Clients.{inserted}
use Rattle.wl_flat.specs.Flat.{client_of, flat_client}
use Rattle.wl_host.specs.Hearing.{is_told}
use Rattle.wl_host.specs.Seats.{SeatsState, if_serial, ledger_at, ledger_of, new_ledger, padded, seated}
use Rattle.wl_host.specs.Server.{ServerState}
use Rattle.wl_flat.specs.Told.{first_telling, new_telling}
use Rattle.wl_host.specs.Watching.{Watches}
use Rattle.wl_flat.specs.ToldRuns.{new_watched}
use Rattle.wl_flat.specs.declared.flat.FlatClientId.{FlatClientId}
use Rattle.wl_flat.specs.declared.flat.FlatGlobalId.{FlatGlobalId}
use Rattle.wl_host.specs.declared.server.HostClient.{HostClient}
use Rattle.wl_host.specs.declared.server.ledger.Ledger.{Ledger}
use Rattle.wl_flat.specs.declared.telling.Telling.{Telling}

-- ---- its ledger

there : (ledgers : List (Option Ledger)) (n : ℕ) (l : Ledger) → n < length ledgers → ledger_at n (slice_set ledgers n (Some l)) ≡ Some l
there [] n l h = absurd (omega (arith, h))
there (o ∷ ledgers) zero l h = refl
there (o ∷ ledgers) (suc n) l h = there ledgers n l (omega (arith, h))

padded_beyond : (ledgers : List (Option Ledger)) (slot : ℕ) → slot < length (padded ledgers slot)
padded_beyond ledgers slot =
    let nobody : Option Ledger = None in
    let more = length-replicate (slot + 1 - length ledgers) nobody in
    let long = length-append ledgers (replicate (slot + 1 - length ledgers) nobody) in omega (arith, long, more)

seated_ledger : (s : SeatsState) (id : ClientParts) (u : ℕ) (t : Option Telling) → ledger_of id (seated s id u t).ledgers ≡ Some (new_ledger id u t)
seated_ledger s id u t =
    let l : Ledger = new_ledger id u t in
    ap (if_serial id.serial) (there (padded s.ledgers id.slot) id.slot l (padded_beyond s.ledgers id.slot))
    ∙ ap (λ (b : Bool). if b then Some l else None) (eq-eqb id.serial id.serial refl)

-- ---- the client

pub begins : (before after : ServerState) (user_data groups : ℕ) (hidden : List FlatGlobalId) (client : FlatClientId) → before.tells ≡ true
    → InsertsClient before.core user_data groups hidden (Ok client) after.core → after ≡ inserted before after.core (Ok client) user_data
    → Watches (client_of client) after new_watched
begins before after user_data groups hidden client on (inl (viewer, Ok id, sees, call, is)) after_is =
    let (link, (limit, limits, link_is), stored, noted, others) = (inserts_client new_mailbox viewer (Ok id) call).client in
    let named : client ≡ flat_client id = cc in
    let same : client_of client ≡ id = ap client_of named in
    let has : transport_of after.core.server id ≡ Some new_mailbox
    = ap (option_map (λ (p : Part MailboxState ℕ HostClient). p.link.transport)) stored ∙ ap (λ (l : LinkState MailboxState). Some l.transport) link_is in record {
      ledger = new_ledger (client_of client) user_data (Some new_telling);
      mailbox = new_mailbox;
      is_seated = ap (λ (s : ServerState). ledger_of (client_of client) s.seats.ledgers) after_is
          ∙ seated_ledger before.seats (client_of client) user_data (first_telling before.tells)
          ∙ ap (λ (b : Bool). Some (new_ledger (client_of client) user_data (first_telling b))) on;
      is_stored = subst (λ (i : ClientParts). transport_of after.core.server i ≡ Some new_mailbox) (sym same) has;
      telling = refl;
      waiting = refl;
    }
begins before after user_data groups hidden client on (inl (viewer, Err e, sees, call, is)) after_is = cc
begins before after user_data groups hidden client on (inr (inl (full, next), same)) after_is = cc
begins before after user_data groups hidden client on (inr (inr lacked, same)) after_is = cc

pub begins_untold : (before after : ServerState) (user_data : ℕ) (client : FlatClientId) → before.tells ≡ false
    → after ≡ inserted before after.core (Ok client) user_data → is_told (ledger_of (client_of client) after.seats.ledgers) ≡ false
begins_untold before after user_data client off after_is =
    ap (λ (s : ServerState). is_told (ledger_of (client_of client) s.seats.ledgers)) after_is
    ∙ ap is_told (seated_ledger before.seats (client_of client) user_data (first_telling before.tells))
    ∙ ap (λ (b : Bool). is_told (Some (new_ledger (client_of client) user_data (first_telling b)))) off
