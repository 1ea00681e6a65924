-- No descriptor is lost, or comes out twice, by a call that inserts a client or has clients told of something.
use Rattle.std.specs.Prelude.{Result, Ok, Err, replicate}
use Rattle.std.proofs.Common.{inl, inr, subst, ◌∙◌, ◌≡◌, ℕ, ℤ, ◌+◌, ◌-◌, ◌++◌, ◌<◌, ◌≤◌, List, [], Option, None, Some, length, nat_lt, true, false, refl, ap, arith, length-append}
use Rattle.std.proofs.lemmas.List.{get_or-append_right, get_or-replicate, length-replicate}
use Rattle.std.proofs.lemmas.List.Folds.{sum_by-replicate}
use Rattle.std.proofs.lemmas.List.Sums.{sum_by-append, sum_by-set, sum_by_push}
use Rattle.std.proofs.lemmas.Option.{slice_get-get_or, slice_get_past}
use Rattle.std.proofs.Math.ListN.{get_or, get_or-append}
use Rattle.std.specs.List.{sum_by}
use Rattle.wl_server_client.specs.Ids.{ClientParts}
use Rattle.wl_link.specs.Mailbox.{MailboxState}
use Rattle.wl_server_client.specs.declared.error.InsertClientError.{InsertClientError}
use Rattle.wl_flat.proofs.Queues.{conserves_given_up}
use Rattle.wl_host.specs.Calls.{CoreState, InsertsClient, new_mailbox}
use Rattle.wl_flat.specs.Status.{flattened, of_insert}
use Rattle.wl_flat.specs.Flat.{flat_client}
use Rattle.wl_host.specs.Visibility.{IsViewer}
use Rattle.wl_flat.specs.declared.flat.FlatClientId.{FlatClientId}
use Rattle.wl_flat.specs.declared.flat.FlatGlobalId.{FlatGlobalId}
use Rattle.wl_host.specs.declared.server.HostClient.{HostClient}
use Rattle.wl_flat.specs.declared.status.Status.{Status}
use Rattle.wl_flat.specs.declared.telling.Telling.{Telling}
use Rattle.wl_flat.specs.Descriptors.{Conserves, given_up, kept_in}
use Rattle.wl_host.specs.Seats.{InsertsInto, SeatsState, departed, departed_of, kept_by_departed, kept_by_seat, kept_by_seats, ledger_at, left_by, new_ledger, padded, seated}
use Rattle.wl_flat.specs.Sending.{empty_mailbox}
use Rattle.wl_host.specs.Server.{ServerState, kept_by_server}
use Rattle.wl_host.specs.declared.server.ledger.Ledger.{Ledger}

-- the same ledgers and queues are kept
pub conserves_kept : (b a : ServerState) → a.seats.ledgers ≡ b.seats.ledgers → a.seats.gone ≡ b.seats.gone → a.seats.left ≡ b.seats.left
    → Conserves kept_by_server b [] [] a
conserves_kept b a ledgers gone left = record { each = λ d. rw (ledgers, gone, left) refl }

-- ---- a new client

-- who has the seat, if the list has a place for it
seat_of : (ledgers : List (Option Ledger)) (slot : ℕ) → get_or (padded ledgers slot) slot None ≡ ledger_at slot ledgers
seat_of ledgers slot = elim (nat_lt slot (length ledgers)) as (λ b. nat_lt slot (length ledgers) ≡ b → get_or (padded ledgers slot) slot None ≡ ledger_at slot ledgers) [
  | true ↦ λ e.
      let within : slot < length ledgers = grind (arith, e) in
      let there = slice_get-get_or ledgers slot None within in
      rw (get_or-append ledgers (replicate (slot + 1 - length ledgers) None) None slot within, there) refl
  | false ↦ λ e.
      let past : length ledgers ≤ slot = grind (arith, e) in
      let more : slot - length ledgers < slot + 1 - length ledgers = omega arith in
      let none = slice_get_past ledgers slot past in
      rw (get_or-append_right ledgers (replicate (slot + 1 - length ledgers) None) (length ledgers) slot None refl past, none)
      (get_or-replicate (slot + 1 - length ledgers) (slot - length ledgers) None None more)
] refl

-- whoever had the seat is gone, and what was kept of that client is kept
goes : (d : ℤ) (s : SeatsState) (o : Option Ledger)
    → sum_by (kept_by_departed d) (s.gone ++ departed_of o) + sum_by (kept_in d) (s.left ++ left_by o)
    ≡ sum_by (kept_by_departed d) s.gone + (sum_by (kept_in d) s.left + kept_by_seat d o)
goes d s None =
    let g = sum_by-append (kept_by_departed d) s.gone [] in
    let l = sum_by-append (kept_in d) s.left [] in omega (arith, g, l)
goes d s (Some l) =
    let b = sum_by_push (kept_by_departed d) s.gone (departed l empty_mailbox) in
    let c = sum_by_push (kept_in d) s.left (given_up l.received) in
    let g = (conserves_given_up l.received).each d in omega (arith, b, c, g)

pub conserves_seated : (s : SeatsState) (id : ClientParts) (u : ℕ) (t : Option Telling) → Conserves kept_by_seats s [] [] (seated s id u t)
conserves_seated s id u t = record {
  each = λ d.
      let f = kept_by_seat d in
      let more = id.slot + 1 - length s.ledgers in
      let long = length-append s.ledgers (replicate more None) in
      let nobody : Option Ledger = None in
      let added = length-replicate more nobody in
      let within : id.slot < length (padded s.ledgers id.slot) = omega (arith, long, added) in
      let put = sum_by-set f (padded s.ledgers id.slot) id.slot (Some (new_ledger id u t)) None within in
      let all = sum_by-append f s.ledgers (replicate more None) in
      let none = sum_by-replicate f more None in
      let seat = ap f (seat_of s.ledgers id.slot) in
      let gone = goes d s (ledger_at id.slot s.ledgers) in omega (arith, put, all, none, seat, gone);
}

pub conserves_inserted : (b a : ServerState) (id : ClientParts) (u : ℕ) (t : Option Telling) → a.seats ≡ seated b.seats id u t → Conserves kept_by_server b [] [] a
conserves_inserted b a id u t e = record { each = λ d. rw e ((conserves_seated b.seats id u t).each d) }

-- ---- what the call answers

-- the id as a flat one
abbrev pub told_id : Result ClientParts Status → Result FlatClientId Status
told_id (Ok id) = Ok (flat_client id)
told_id (Err s) = Err s

flat_answer : (answer : Result ClientParts InsertClientError) → told_id (flattened (λ id. id) of_insert answer) ≡ flattened flat_client of_insert answer
flat_answer (Ok id) = refl
flat_answer (Err e) = refl

-- the core was asked to insert the client, and its id is told
pub inserts_viewer : (before : CoreState) (m : MailboxState) (client : HostClient) (u groups : ℕ) (hidden : List FlatGlobalId) (r : Result ClientParts Status)
    (result : Result FlatClientId Status) (after : CoreState)
    → m ≡ new_mailbox → IsViewer u groups hidden client → result ≡ told_id r → InsertsInto before m client r after → InsertsClient before u groups hidden result after
inserts_viewer before m client u groups hidden r result after is viewer told inserts =
    let named = subst (λ (x : MailboxState). InsertsInto before x client r after) is inserts in
    elim named [
      | inl asked ↦ inl (client, asked.0, viewer, asked.1, told ∙ ap told_id asked.2 ∙ flat_answer asked.0)
      | inr refused ↦ inr (elim refused.0 [ inl full ↦ inl (told ∙ ap told_id full.0, full.1) | inr memory ↦ inr (told ∙ ap told_id memory) ], refused.1)
    ]
