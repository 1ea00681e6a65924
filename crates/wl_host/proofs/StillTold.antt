-- What other calls leave: which registries were told of which globals.
use Rattle.std.proofs.Common.{◌≡◌, ◌∙◌, ℕ, ℤ, Bool, true, false, List, [], Option, None, Some, Result, Ok, Err, refl, ap}
use mathlib.Core.Logic.{inl, inr}
use Rattle.std.specs.Global.{Global}
use Rattle.std.specs.Prelude.{◌==◌, MatchResult, Vec}
use Rattle.wl_link.proofs.Calls.Branches.{either_bool, either_option}
use Rattle.wl_link.specs.Mailbox.{MailboxState}
use Rattle.wl_server_client.specs.declared.notes.Note.{Note}
use Rattle.wl_server_client.specs.Ids.{ClientParts}
use Rattle.wl_server_model.specs.Lookups.{transport_of}
use Rattle.wl_wire.specs.declared.error.OutOfMemory.{OutOfMemory}
use Rattle.wl_host.specs.Actions.{EndsAsAction, EndsBind, EndsRequest, Lent, NextAction, ended, is_killed_by, marked_if, zero_for}
use Rattle.wl_host.specs.Cleaning.{CleansUp, DropsNotes, DropsUnlessKept}
use Rattle.wl_host.specs.Events.{Passed, SendsEvent}
use Rattle.wl_flat.specs.Flat.{client_of}
use Rattle.wl_host.specs.Notes.{Fetches}
use Rattle.wl_host.specs.Seats.{gone_all, ledger_of}
use Rattle.wl_host.specs.Server.{Received, ReceivedBy, Sent, SentBy, ServerState, TakesOut}
use Rattle.wl_flat.specs.Kinds as kinds
use Rattle.wl_flat.specs.declared.flat.FlatAction.{FlatAction}
use Rattle.wl_flat.specs.declared.flat.FlatArgument.{FlatArgument}
use Rattle.wl_host.specs.declared.server.ledger.Ledger.{Ledger}
use Rattle.wl_flat.specs.declared.status.Status.{Status}
use Rattle.wl_flat.specs.declared.status.Status.TheVariants as status

-- the session is so
same_told : (b a : ServerState) → a ≡ b → a.told ≡ b.told
same_told b a e = ap (λ (s : ServerState). s.told) e

pub received_told : (b a : ServerState) (id : ClientParts) (bytes : List ℕ) (ds : List ℤ) (s : Status) → Received b id bytes ds s a → a.told ≡ b.told
received_told b a id bytes ds s h = by (ledger_of id b.seats.ledgers) (transport_of b.core.server id) h
  where
    by : (o : Option Ledger) (t : Option MailboxState) → ReceivedBy o t b id bytes ds s a → a.told ≡ b.told
    by None t g = same_told b a g.1
    by (Some l) None g = same_told b a g.1
    by (Some l) (Some m) g =
        elim g [
          | inl y ↦ ap (λ (s : ServerState). s.told) y.1
          | inr n ↦ same_told b a n.1
        ]

-- ---- what is sent

pub sent_told : (b a : ServerState) (id : ClientParts) (count : ℕ) (s : Status) → Sent b id count s a → a.told ≡ b.told
sent_told b a id count s h = by (ledger_of id b.seats.ledgers) (transport_of b.core.server id) h
  where
    by : (o : Option Ledger) (t : Option MailboxState) → SentBy o t b id count s a → a.told ≡ b.told
    by None t g = same_told b a g.1
    by (Some l) None g = same_told b a g.1
    by (Some l) (Some m) g = ap (λ (s : ServerState). s.told) g.1

-- ---- actions

marked_told : (killed : Bool) (s : ServerState) → (marked_if killed s).told ≡ s.told
marked_told true s = refl
marked_told false s = refl

ended_told : (ends : Bool) (id : ClientParts) (s : ServerState) → (ended ends id s).told ≡ s.told
ended_told true id s = refl
ended_told false id s = refl

pub action_told : (b a : ServerState) (id : ClientParts) (arguments : List FlatArgument) (bytes : List ℕ) (s : Status) (lent : Lent) (out : List ℤ)
    → NextAction b id arguments bytes s lent out a → a.told ≡ b.told
action_told b a id arguments bytes s lent out h =
    elim (either_option (ledger_of id b.seats.ledgers) h) [
      | inl (none, g) ↦ same_told b a g.2
      | inr (l, is, (read, left, core, l', reads, hands, after)) ↦ ap (λ (s : ServerState). s.told) after ∙ marked_told (is_killed_by read) _
    ]

pub request_told : (b a : ServerState) (id : ClientParts) (u : Option ℕ) (result : Result Bool Status) → EndsRequest b id u result a → a.told ≡ b.told
request_told b a id u result h =
    elim (either_option (ledger_of id b.seats.ledgers) h) [
      | inl (none, g) ↦ same_told b a g.1
      | inr (l, is, g) ↦
          elim (either_option l.kept g) [
            | inr (kept, at, f) ↦ same_told b a f.1
            | inl (none, (answer, core, call, returns, told, after)) ↦ ap (λ (s : ServerState). s.told) after ∙ ended_told l.ends_sender id _
          ]
    ]

pub bind_told : (b a : ServerState) (id : ClientParts) (u : ℕ) (result : Result Bool Status) → EndsBind b id u result a → a.told ≡ b.told
bind_told b a id u result h =
    elim (either_option (ledger_of id b.seats.ledgers) h) [
      | inl (none, g) ↦ same_told b a g.1
      | inr (l, is, g) ↦
          elim (either_option l.kept g) [
            | inr (kept, at, f) ↦ same_told b a f.1
            | inl (none, (answer, core, call, returns, told, after)) ↦ ap (λ (s : ServerState). s.told) after
          ]
    ]

pub action_ends_told : (b a : ServerState) (id : ClientParts) (action : FlatAction) (result : Result Bool Status) → EndsAsAction b id action result a → a.told ≡ b.told
action_ends_told b a id action result h =
    elim (either_bool (action.kind == kinds.request) h) [
      | inl request ↦ request_told b a id (zero_for action.created) result request
      | inr bind ↦ bind_told b a id 0 result bind
    ]

pub event_told : (b a : ServerState) (p : Passed) (s : Status) → SendsEvent b p s a → a.told ≡ b.told
event_told b a p s h =
    elim (either_option (ledger_of (client_of p.sender.client) b.seats.ledgers) h) [
      | inl (none, g) ↦ same_told b a g.1
      | inr (l, is, (q, g)) ↦
          elim g [
            | inl sent ↦ ap (λ (s : ServerState). s.told) sent.1
            | inr refused ↦ same_told b a refused.1
          ]
    ]

-- ---- a cleanup

fetch_told : (b m : ServerState) (fetched : Result (Unit {0}) Status) → Fetches b fetched m → m.told ≡ b.told
fetch_told b m fetched fetches = elim fetches [
  | inl none ↦ same_told b m none.2
  | inr asked ↦ by asked.1.0 asked.1.2
]
  where
    by : (answer : Result (Vec (Note ℕ) Global) OutOfMemory)
        → MatchResult answer (λ taken. (fetched ≡ Ok tt) × (m ≡ record b { core = m.core; notes = taken.items; may_have_notes = false }))
        (λ _. (fetched ≡ Err status.OutOfMemory) × (m ≡ record b { core = m.core }))
        → m.told ≡ b.told
    by (Ok taken) h = ap (λ (s : ServerState). s.told) h.1
    by (Err e) h = ap (λ (s : ServerState). s.told) h.1

drop_told : (m a : ServerState) → DropsNotes m a → a.told ≡ m.told
drop_told m a (mid, fetched, fetches, is) = ap (λ (s : ServerState). s.told) is ∙ fetch_told (record m { notes = [] }) mid fetched fetches

taken_out_told : (b m : ServerState) (result : Result (Unit {0}) Status) → TakesOut b result m → m.told ≡ b.told
taken_out_told b m result h = elim h [
  | inl none ↦ same_told b m none.2
  | inr looked ↦ by looked.1.0 looked.1.2
]
  where
    by : (answer : Result (Vec (ClientParts × MailboxState) Global) OutOfMemory)
        → MatchResult answer
        (λ out. (result ≡ Ok tt) × (m ≡ record b { core = m.core; seats = gone_all b.seats out.items; may_clean_up = false; may_have_notes = true }))
        (λ _. (result ≡ Err status.OutOfMemory) × (m ≡ record b { core = m.core }))
        → m.told ≡ b.told
    by (Ok out) h = ap (λ (s : ServerState). s.told) h.1
    by (Err e) h = ap (λ (s : ServerState). s.told) h.1

pub cleanup_told : (b a : ServerState) (s : Status) → CleansUp b s a → a.told ≡ b.told
cleanup_told b a s (m, result, taken, told) = by result told ∙ taken_out_told b m result taken
  where
    by : (result : Result (Unit {0}) Status) → MatchResult result (λ _. (s ≡ status.Ok) × DropsUnlessKept m a) (λ e. (s ≡ e) × (a ≡ m)) → a.told ≡ m.told
    by (Ok u) told = elim told.1 [
      | inl kept ↦ same_told m a kept.1
      | inr dropped ↦ drop_told m a dropped.1
    ]
    by (Err e) told = same_told m a told.1
