-- What is kept of the clients of a server's session beside its core, and what becomes of it.
use Rattle.std.specs.Prelude.{◌≡◌, ◌⊎◌, ℕ, zero, suc, ℤ, ◌+◌, ◌==◌, ◌-◌, ◌++◌, List, [], ◌∷◌, length, nat_lt, Bool, false, Option, None, Some, Result, Err, if◌then◌else◌, replicate, slice_get, slice_set}
use Rattle.std.specs.List.{list_any, sum_by}
use Rattle.std.specs.Option.{option_map_or}
use Rattle.wl_link.specs.Mailbox.{MailboxState}
use Rattle.wl_server_client.specs.declared.error.InsertClientError.{InsertClientError}
use Rattle.wl_server_model.specs.declared.step.Reply.TheVariants as reply
use Rattle.wl_server_model.specs.declared.step.Step.TheVariants as step
use Rattle.wl_server_model.specs.Backend.{Calls}
use Rattle.wl_server_client.specs.Ids.{ClientParts}
use Rattle.wl_server_model.specs.Next.{NextClient}
use Rattle.wl_flat.specs.Sending.{all_taken_out, empty_mailbox}
use Rattle.wl_host.specs.Calls.{CoreState, world}
use Rattle.wl_flat.specs.Status.{flattened, of_insert}
use Rattle.wl_flat.specs.Descriptors.{Descriptors, given_up, kept_in, no_descriptors}
use Rattle.wl_host.specs.declared.server.ledger.Departed.{Departed}
use Rattle.wl_host.specs.declared.server.ledger.Ledger.{Ledger}
use Rattle.wl_host.specs.declared.server.HostClient.{HostClient}
use Rattle.wl_flat.specs.declared.status.Status.{Status}
use Rattle.wl_flat.specs.declared.status.Status.TheVariants as status
use Rattle.wl_flat.specs.declared.telling.Telling.{Telling}

-- What is kept beside the core: the ledgers of the clients that the core has, by slot; the clients that are gone and were not
-- handed out, the oldest first; descriptors that were passed over and that no client has any more; and the slots of the
-- clients that are to be asked for what is to be sent, in order.
pub record SeatsState : Type 0 where
  pub ledgers : List (Option Ledger)
  pub gone : List Departed
  pub left : List Descriptors
  pub writable : List ℕ

-- ---- ledgers

-- what is kept of a client that was inserted just now
abbrev pub new_ledger : ClientParts → ℕ → Option Telling → Ledger
new_ledger id u t =
    record { id = id; user_data = u; received = no_descriptors; sending = no_descriptors; kept = None; ends_sender = false; telling = t }

abbrev pub no_seats : SeatsState
no_seats = record { ledgers = []; gone = []; left = []; writable = [] }

-- the ledger at a slot
abbrev pub ledger_at : ℕ → List (Option Ledger) → Option Ledger
ledger_at slot ledgers = option_map_or (λ l. l) (slice_get ledgers slot) None

abbrev pub if_serial : ℕ → Option Ledger → Option Ledger
if_serial serial None = None
if_serial serial (Some l) = if l.id.serial == serial then Some l else None

-- the ledger of a client
abbrev pub ledger_of : ClientParts → List (Option Ledger) → Option Ledger
ledger_of id ledgers = if_serial id.serial (ledger_at id.slot ledgers)

-- with another ledger of the client
abbrev pub with_ledger : SeatsState → ClientParts → Ledger → SeatsState
with_ledger s id l = record s { ledgers = slice_set s.ledgers id.slot (Some l) }

-- ---- the slots that are to be asked

-- the slot is one of them
abbrev pub is_among : ℕ → List ℕ → Bool
is_among slot slots = list_any (λ k. k == slot) slots

-- the slot is one of them at the end, and is not added twice
abbrev pub added : ℕ → List ℕ → List ℕ
added slot slots = if is_among slot slots then slots else slots ++ slot ∷ []

-- the client at the slot is to be asked, if the slot is known
abbrev pub listed : SeatsState → ℕ → SeatsState
listed s slot = record s { writable = if nat_lt slot (length s.ledgers) then added slot s.writable else s.writable }

-- each of the first slots is one of them
abbrev pub added_below : ℕ → List ℕ → List ℕ
added_below zero slots = slots
added_below (suc n) slots = added n (added_below n slots)

-- each client is to be asked
abbrev pub listed_all : SeatsState → SeatsState
listed_all s = record s { writable = added_below (length s.ledgers) s.writable }

-- ---- clients that are gone

-- what is left of a client that the core let go, but for what arrived
abbrev pub departed : Ledger → MailboxState → Departed
departed l m = record { id = l.id; user_data = l.user_data; sending = l.sending; mailbox = m }

-- the core let the client at the slot go: nothing that arrived will be read
abbrev pub gone_from : SeatsState → ℕ → Option Ledger → MailboxState → SeatsState
gone_from s slot None m = s
gone_from s slot (Some l) m = record {
  ledgers = slice_set s.ledgers slot None;
  gone = s.gone ++ departed l m ∷ [];
  left = s.left ++ given_up l.received ∷ [];
  writable = s.writable;
}

abbrev pub gone_with : SeatsState → ClientParts → MailboxState → SeatsState
gone_with s id m = gone_from s id.slot (ledger_of id s.ledgers) m

-- and so all of these
abbrev pub gone_all : SeatsState → List (ClientParts × MailboxState) → SeatsState
gone_all s [] = s
gone_all s (e ∷ es) = gone_all (gone_with s e.0 e.1) es

-- ---- a new client

-- the list with a place for the slot
abbrev pub padded : List (Option Ledger) → ℕ → List (Option Ledger)
padded ledgers slot = ledgers ++ replicate (slot + 1 - length ledgers) None

abbrev pub departed_of : Option Ledger → List Departed
departed_of None = []
departed_of (Some l) = departed l empty_mailbox ∷ []

abbrev pub left_by : Option Ledger → List Descriptors
left_by None = []
left_by (Some l) = given_up l.received ∷ []

-- The core is asked to insert the client. Or it has no slot or no serial left, or there was no memory for what is kept of the client.
abbrev pub InsertsInto : CoreState → MailboxState → HostClient → Result ClientParts Status → CoreState → Type 0
InsertsInto before m client result after =
    ((answer : Result ClientParts InsertClientError)
    × Calls world before (step.InsertClient m client) (reply.InsertClient answer) after × (result ≡ flattened (λ id. id) of_insert answer))
    ⊎ ((((result ≡ Err status.Full) × NextClient before.server.last_client before.server.clients None) ⊎ (result ≡ Err status.OutOfMemory)) × (after ≡ before))

-- A new client has a ledger. A client whose slot the core gave to it is gone.
abbrev pub seated : SeatsState → ClientParts → ℕ → Option Telling → SeatsState
seated s id u t = record {
  ledgers = slice_set (padded s.ledgers id.slot) id.slot (Some (new_ledger id u t));
  gone = s.gone ++ departed_of (ledger_at id.slot s.ledgers);
  left = s.left ++ left_by (ledger_at id.slot s.ledgers);
  writable = s.writable;
}

-- what is left of what was to be sent to a client, once the mailbox was handed out with its descriptors
abbrev pub left_of : Departed → Descriptors
left_of g = given_up (all_taken_out g.sending g.mailbox.waiting.tokens)

-- the first client that is gone was handed out
abbrev pub without_first : SeatsState → List Departed → SeatsState
without_first s [] = s
without_first s (g ∷ gs) = record s { gone = gs; left = s.left ++ left_of g ∷ [] }

abbrev pub left_by_first : SeatsState → SeatsState
left_by_first s = without_first s s.gone

-- ---- descriptors that were passed over

-- the first one that was passed over came out
abbrev pub PassesOut : Descriptors → ℤ → Descriptors → Type 0
PassesOut before d after = before ≡ record after { passed = d ∷ after.passed }

-- of a ledger
abbrev pub LedgerPassesOut : Ledger → ℤ → Ledger → Type 0
LedgerPassesOut before d after =
    ((q : Descriptors) × PassesOut before.received d q × (after ≡ record before { received = q }))
    ⊎ ((q : Descriptors) × PassesOut before.sending d q × (after ≡ record before { sending = q }))

-- of the client at a slot
abbrev pub SeatPassesOut : List (Option Ledger) → ℕ → ℤ → List (Option Ledger) → Type 0
SeatPassesOut before slot d after =
    (l l' : Ledger) × (ledger_at slot before ≡ Some l) × LedgerPassesOut l d l' × (after ≡ slice_set before slot (Some l'))

-- no descriptor was passed over that did not come out
abbrev pub HasNonePassed : Ledger → Type 0
HasNonePassed l = (l.received.passed ≡ []) × (l.sending.passed ≡ [])

abbrev pub SeatHasNonePassed : Option Ledger → Type 0
SeatHasNonePassed None = Unit {0}
SeatHasNonePassed (Some l) = HasNonePassed l

-- no descriptor is kept
abbrev pub IsEmpty : Descriptors → Type 0
IsEmpty q = (q.passed ≡ []) × (q.held ≡ [])

abbrev pub AllEmpty : List Descriptors → Type 0
AllEmpty [] = Unit {0}
AllEmpty (q ∷ qs) = IsEmpty q × AllEmpty qs

-- the next one of queues of which all was passed over; the empty ones before it are gone
abbrev pub LeftPassesOut : List Descriptors → ℤ → List Descriptors → Type 0
LeftPassesOut [] d after = ⊥
LeftPassesOut (q ∷ qs) d after = ((r : Descriptors) × PassesOut (given_up q) d r × (after ≡ r ∷ qs)) ⊎ (IsEmpty q × LeftPassesOut qs d after)

-- One came out: of a client that is gone, if there is one; else of a client that the core has. Or there is none.
abbrev pub PassesNext : SeatsState → Option ℤ → SeatsState → Type 0
PassesNext before None after =
    ((slot : ℕ) → SeatHasNonePassed (ledger_at slot before.ledgers)) × AllEmpty before.left × (after ≡ record before { left = [] })
PassesNext before (Some d) after =
    (LeftPassesOut before.left d after.left × (after ≡ record before { left = after.left }))
    ⊎ (AllEmpty before.left × ((slot : ℕ) × SeatPassesOut before.ledgers slot d after.ledgers) × (after ≡ record before { ledgers = after.ledgers; left = [] }))

-- ---- how often a descriptor is kept

abbrev pub kept_by_ledger : ℤ → Ledger → ℕ
kept_by_ledger d l = kept_in d l.received + kept_in d l.sending

abbrev pub kept_by_seat : ℤ → Option Ledger → ℕ
kept_by_seat d None = 0
kept_by_seat d (Some l) = kept_by_ledger d l

abbrev pub kept_by_departed : ℤ → Departed → ℕ
kept_by_departed d g = kept_in d g.sending

abbrev pub kept_by_seats : ℤ → SeatsState → ℕ
kept_by_seats d s = sum_by (kept_by_seat d) s.ledgers + (sum_by (kept_by_departed d) s.gone + sum_by (kept_in d) s.left)
