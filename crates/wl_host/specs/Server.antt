-- What contracts see of a server's session, and what its calls do.
use Rattle.std.specs.Prelude.{◌≡◌, ◌⊎◌, ℕ, ℤ, ◌==◌, ◌||◌, List, [], ◌∷◌, length, map, nat_lt, not, Bool, true, false, Option, None, Some, Result, Ok, Err, IfOk, is_err, MatchOption, MatchResult, if◌then◌else◌}
use Rattle.std.specs.Option.{option_map_or}
use Rattle.wl_wire.specs.declared.error.IoFault.{IoFault}
use Rattle.wl_wire.specs.declared.error.OutOfMemory.{OutOfMemory}
use Rattle.wl_link.specs.Link.{offer_of}
use Rattle.wl_link.specs.Mailbox.{MailboxSends, MailboxState, mailbox_answer}
use Rattle.wl_link.specs.Puts.{lacks_memory}
use Rattle.wl_link.specs.declared.mailbox.Ending.{Ending}
use Rattle.wl_server_client.specs.declared.notes.Note.{Note}
use Rattle.wl_server_client.specs.declared.notes.DisconnectReason.TheVariants as reason
use Rattle.wl_server_model.specs.declared.step.Reply.TheVariants as reply
use Rattle.wl_server_model.specs.declared.step.Step.TheVariants as step
use Rattle.wl_server_model.specs.Backend.{Calls}
use Rattle.wl_server_client.specs.Ids.{ClientParts}
use Rattle.wl_server.specs.Lending.{state_over}
use Rattle.wl_server_model.specs.Lookups.{transport_of}
use Rattle.wl_server_client.specs.Part.{Part}
use Rattle.wl_server_model.specs.Plain.{FlushedAs, client_in}
use Rattle.wl_flat.specs.Arrivals.{MayArrive, RefusesArrival, mailbox_with}
use Rattle.wl_host.specs.Calls.{CoreState, world}
use Rattle.wl_flat.specs.Descriptors.{Descriptors, put_in}
use Rattle.wl_flat.specs.Flat.{client_of, flat_client, over_front}
use Rattle.wl_host.specs.Hearing.{ledger_after, with_heard}
use Rattle.wl_host.specs.Seats.{PassesNext, SeatsState, added, gone_all, is_among, kept_by_seats, ledger_at, ledger_of, left_by_first, listed, with_ledger}
use Rattle.wl_flat.specs.Sending.{Copied, copied, counts_of, descriptors_of, mailbox_after, came_out, shown, some_of}
use Rattle.wl_flat.specs.declared.flat.FlatClientId.{FlatClientId}
use Rattle.wl_flat.specs.declared.flat.Gone.{Gone}
use Rattle.wl_host.specs.declared.server.HostClient.{HostClient}
use Rattle.wl_host.specs.declared.server.ledger.Departed.{Departed}
use Rattle.wl_host.specs.declared.server.ledger.Ledger.{Ledger}
use Rattle.wl_host.specs.declared.server.registries.Told.{Told}
use Rattle.wl_flat.specs.declared.status.Status.{Status}
use Rattle.wl_flat.specs.declared.status.Status.TheVariants as status
use Rattle.wl_flat.specs.Status.{is_done}

-- The core, and what is kept beside it; the notes that were taken from the core and not handed out, the oldest first; and
-- whether there may be something to be cleaned up, and notes to be taken; whether requests with a null that the table forbids
-- are refused, and notes are kept for the host; of which global which registry was told, of those that are handed out; and whether the
-- messages of clients that are inserted are told.
pub record ServerState : Type 0 where
  pub core : CoreState
  pub seats : SeatsState
  pub notes : List (Note ℕ)
  pub may_clean_up : Bool
  pub may_have_notes : Bool
  pub refuses_nulls : Bool
  pub keeps_notes : Bool
  pub told : List Told
  pub tells : Bool

-- how often a descriptor is kept
abbrev pub kept_by_server : ℤ → ServerState → ℕ
kept_by_server d s = kept_by_seats d s.seats

-- ---- statuses

-- what was found, or `WouldBlock`
abbrev pub or_would_block : {A : Type 0} → Option A → Result A Status
or_would_block None = Err status.WouldBlock
or_would_block (Some x) = Ok x

-- the client is not stored
abbrev pub IsNotStored : ServerState → Status → ServerState → Type 0
IsNotStored before s after = (s ≡ status.InvalidId) × (after ≡ before)

-- ---- what arrives

-- the client's mailbox is so, and so is the queue of what arrived
abbrev pub with_arrivals : ServerState → ClientParts → Ledger → MailboxState → Descriptors → ServerState
with_arrivals s id l m q = record s { core = state_over s.core id m; seats = with_ledger s.seats id (record l { received = q }) }

-- The bytes arrived, with tokens for the descriptors, and are to be told once they are read, if the client's messages are told. Or they are
-- refused, and nothing is changed.
abbrev pub ReceivedBy : Option Ledger → Option MailboxState → ServerState → ClientParts → List ℕ → List ℤ → Status → ServerState → Type 0
ReceivedBy None m before id bytes descriptors s after = IsNotStored before s after
ReceivedBy (Some l) None before id bytes descriptors s after = IsNotStored before s after
ReceivedBy (Some l) (Some m) before id bytes descriptors s after =
    ((s ≡ status.Ok) × (after ≡ with_arrivals before id (with_heard bytes descriptors l) (mailbox_with m l.received bytes descriptors) (put_in l.received descriptors))
    × MayArrive m bytes descriptors)
    ⊎ (RefusesArrival m bytes descriptors s × (after ≡ before))

abbrev pub Received : ServerState → ClientParts → List ℕ → List ℤ → Status → ServerState → Type 0
Received before id bytes descriptors s after =
    ReceivedBy (ledger_of id before.seats.ledgers) (transport_of before.core.server id) before id bytes descriptors s after

-- the descriptors went in if the status is `Ok`
abbrev pub went_in : Status → List ℤ → List ℤ
went_in s descriptors = if is_done s then descriptors else []

-- what comes behind the bytes that arrived
abbrev pub Ends : ServerState → ClientParts → Ending → Status → ServerState → Type 0
Ends before id ending s after =
    MatchOption (transport_of before.core.server id) (IsNotStored before s after)
    (λ m. (s ≡ status.Ok) × (after ≡ record before { core = state_over before.core id (record m { ending = ending }) }))

-- the client is killed
abbrev pub FailsSends : ServerState → ClientParts → Status → ServerState → Type 0
FailsSends before id s after =
    MatchOption (transport_of before.core.server id) (IsNotStored before s after)
    (λ m. (s ≡ status.Ok) × Calls world before.core (step.KillClient id reason.ConnectionClosed) reply.KillClient after.core
    × (after ≡ record before { core = after.core; may_clean_up = true; may_have_notes = true }))

-- ---- what is to be sent

-- bytes wait in the client's mailbox
abbrev pub has_bytes : CoreState → ClientParts → Bool
has_bytes c id = option_map_or (λ m. not (length m.waiting.bytes == 0)) (transport_of c.server id) false

-- What came of asking a client: it is found if there is something in its mailbox. Else there may have been no memory to put there
-- what waits in the core.
abbrev pub asked : ClientParts → Result (Unit {0}) IoFault → Bool → Result (Option ClientParts) OutOfMemory
asked id answer has = if has then Ok (Some id) else (if lacks_memory answer then Err _ else Ok None)

-- What waits in the core is put into the client's mailbox. Nothing becomes of other clients.
abbrev pub AsksClient : CoreState → ClientParts → Result (Option ClientParts) OutOfMemory → CoreState → Type 0
AsksClient before id one after =
    (answer : Result (Unit {0}) IoFault) × Calls world before (step.Flush (Some id)) (reply.Flush answer) after
    × FlushedAs MailboxSends before (Some id) answer after × (one ≡ asked id answer (has_bytes after id))

-- The client that has the slot is asked. A slot without a client is passed over.
abbrev pub Asks : CoreState → Option Ledger → Result (Option ClientParts) OutOfMemory → CoreState → Type 0
Asks before None one after = (one ≡ Ok None) × (after ≡ before)
Asks before (Some l) one after = AsksClient before l.id one after

-- The clients at these slots are asked in turn, until one is found; and the slots behind it are left. It ends also with a client
-- for which there was no memory: that one is asked again, behind the others.
abbrev pub AsksInTurn : List (Option Ledger) → CoreState → List ℕ → Result (Option ClientParts) OutOfMemory → List ℕ → CoreState → Type 0
AsksInTurn ledgers before [] found rest after = (found ≡ Ok None) × (rest ≡ []) × (after ≡ before)
AsksInTurn ledgers before (slot ∷ slots) found rest after =
    (one : Result (Option ClientParts) OutOfMemory) × (mid : CoreState) × Asks before (ledger_at slot ledgers) one mid
    × MatchResult one
    (λ o. MatchOption o (AsksInTurn ledgers mid slots found rest after) (λ id. (found ≡ one) × (rest ≡ slots) × (after ≡ mid)))
    (λ e. (found ≡ one) × (rest ≡ added slot slots) × (after ≡ mid))

-- the client that was found, or why none was
abbrev pub told_of : Result (Option ClientParts) OutOfMemory → Result FlatClientId Status
told_of (Ok None) = Err status.WouldBlock
told_of (Ok (Some id)) = Ok (flat_client id)
told_of (Err e) = Err status.OutOfMemory

abbrev pub NextWritable : ServerState → Result FlatClientId Status → ServerState → Type 0
NextWritable before result after =
    (found : Result (Option ClientParts) OutOfMemory)
    × AsksInTurn before.seats.ledgers before.core before.seats.writable found after.seats.writable after.core
    × (result ≡ told_of found)
    × (after ≡ record before { core = after.core; seats = record before.seats { writable = after.seats.writable } })

-- bytes wait in the mailbox of a client that was found
abbrev pub FoundHasBytes : CoreState → Result FlatClientId Status → Type 0
FoundHasBytes core result = IfOk result (λ client. has_bytes core (client_of client) ≡ true)

-- no bytes wait for the client in the core, or its mailbox takes none of them: the room of it is used up
abbrev pub IsDrained : Option (Part MailboxState ℕ HostClient) → Type 0
IsDrained None = Unit {0}
IsDrained (Some p) = (p.link.outgoing.bytes ≡ []) ⊎ (is_err (mailbox_answer p.link.transport (offer_of p.link.outgoing)) ≡ true)

-- none wait in the mailbox of the client on the seat, if there is one, nor for it in the core
abbrev pub SeatHasNoBytes : CoreState → Option Ledger → Type 0
SeatHasNoBytes core None = Unit {0}
SeatHasNoBytes core (Some l) = (has_bytes core l.id ≡ false) × IsDrained (client_in core l.id)

-- if no client has something to be sent, no bytes wait for those that were to be asked
abbrev pub NoneAskedHasBytes : SeatsState → CoreState → Result FlatClientId Status → Type 0
NoneAskedHasBytes asked core result =
    result ≡ Err status.WouldBlock → (slot : ℕ) → is_among slot asked.writable ≡ true → SeatHasNoBytes core (ledger_at slot asked.ledgers)

abbrev pub to_send_of : Option Ledger → Option MailboxState → List ℕ → List ℤ → Copied
to_send_of None m bytes descriptors = record { status = status.InvalidId; bytes = bytes; descriptors = descriptors; counts = counts_of 0 0 }
to_send_of (Some l) None bytes descriptors = record { status = status.InvalidId; bytes = bytes; descriptors = descriptors; counts = counts_of 0 0 }
to_send_of (Some l) (Some m) bytes descriptors = copied m.waiting l.sending bytes descriptors

-- what is to be sent to the client, copied to lent memory
abbrev pub to_send : ServerState → ClientParts → List ℕ → List ℤ → Copied
to_send s id bytes descriptors = to_send_of (ledger_of id s.seats.ledgers) (transport_of s.core.server id) bytes descriptors

-- if nothing is left in the mailbox, the client is to be asked again: the core may have more
abbrev pub asked_again : SeatsState → ℕ → MailboxState → SeatsState
asked_again s slot m = if length m.waiting.bytes == 0 then listed s slot else s

abbrev pub after_sent : ServerState → ClientParts → ℕ → Ledger → MailboxState → ServerState
after_sent s id count l m = record s {
  core = state_over s.core id (mailbox_after count m);
  seats = asked_again (with_ledger s.seats id (ledger_after count m l)) id.slot (mailbox_after count m);
}

abbrev pub SentBy : Option Ledger → Option MailboxState → ServerState → ClientParts → ℕ → Status → ServerState → Type 0
SentBy None m before id count s after = IsNotStored before s after
SentBy (Some l) None before id count s after = IsNotStored before s after
SentBy (Some l) (Some m) before id count s after = (s ≡ status.Ok) × (after ≡ after_sent before id count l m)

-- so many bytes were sent to the client
abbrev pub Sent : ServerState → ClientParts → ℕ → Status → ServerState → Type 0
Sent before id count s after = SentBy (ledger_of id before.seats.ledgers) (transport_of before.core.server id) before id count s after

abbrev pub sent_by : Option Ledger → Option MailboxState → ℕ → List ℤ
sent_by None m count = []
sent_by (Some l) None count = []
sent_by (Some l) (Some m) count = came_out count m l.sending

-- the descriptors that are sent with so many bytes
abbrev pub sent_with : ServerState → ClientParts → ℕ → List ℤ
sent_with s id count = sent_by (ledger_of id s.seats.ledgers) (transport_of s.core.server id) count

-- ---- clients that are gone

-- the cleanup of the core; or no call since the last one can have killed a client or ended an object
abbrev pub TakesOut : ServerState → Result (Unit {0}) Status → ServerState → Type 0
TakesOut before result after =
    ((before.may_clean_up ≡ false) × (result ≡ Ok tt) × (after ≡ before))
    ⊎ ((before.may_clean_up ≡ true) × ((answer : _) × Calls world before.core step.Cleanup (reply.Cleanup answer) after.core
    × MatchResult answer
    (λ out. (result ≡ Ok tt) × (after ≡ record before { core = after.core; seats = gone_all before.seats out.items; may_clean_up = false; may_have_notes = true }))
    (λ _. (result ≡ Err status.OutOfMemory) × (after ≡ record before { core = after.core }))))

-- the client as a flat struct
abbrev pub flat_gone : Departed → Gone
flat_gone g = record { client = flat_client g.id; «data» = g.user_data; waiting = counts_of (length g.mailbox.waiting.bytes) (length g.mailbox.waiting.tokens) }

-- the lent memory has no room for what is to be sent
abbrev pub is_too_small : MailboxState → List ℕ → List ℤ → Bool
is_too_small m bytes descriptors = nat_lt (length bytes) (length m.waiting.bytes) || nat_lt (length descriptors) (length m.waiting.tokens)

-- what `next_gone` answered, what it wrote, and the session after it
pub record HandedOut : Type 0 where
  pub status : Status
  pub out : Gone
  pub bytes : List ℕ
  pub descriptors : List ℤ
  pub after : ServerState

abbrev pub handed_if : Bool → ServerState → Departed → Gone → List ℕ → List ℤ → HandedOut
handed_if true s g out bytes descriptors = record { status = status.TooSmall; out = flat_gone g; bytes = bytes; descriptors = descriptors; after = s }
handed_if false s g out bytes descriptors = record {
  status = status.Ok;
  out = flat_gone g;
  bytes = over_front g.mailbox.waiting.bytes bytes;
  descriptors = over_front (map shown (descriptors_of g.sending g.mailbox.waiting.tokens)) descriptors;
  after = record s { seats = left_by_first s.seats };
}

-- the first client that is gone, with all that is to be sent to it, if there is room
abbrev pub handed_out : ServerState → List Departed → Gone → List ℕ → List ℤ → HandedOut
handed_out s [] out bytes descriptors = record { status = status.WouldBlock; out = out; bytes = bytes; descriptors = descriptors; after = s }
handed_out s (g ∷ gs) out bytes descriptors = handed_if (is_too_small g.mailbox bytes descriptors) s g out bytes descriptors

abbrev pub next_gone : ServerState → Gone → List ℕ → List ℤ → HandedOut
next_gone s out bytes descriptors = handed_out s s.seats.gone out bytes descriptors

abbrev pub sent_to_first : List Departed → List ℤ
sent_to_first [] = []
sent_to_first (g ∷ gs) = some_of (descriptors_of g.sending g.mailbox.waiting.tokens)

-- the descriptors that come out with the first client that is gone
abbrev pub gone_with_first : ServerState → Status → List ℤ
gone_with_first s answer = if is_done answer then sent_to_first s.seats.gone else []

-- ---- descriptors that belong to nobody

abbrev pub NextDropped : ServerState → Result ℤ Status → ServerState → Type 0
NextDropped before result after =
    (found : Option ℤ) × PassesNext before.seats found after.seats × (result ≡ or_would_block found) × (after ≡ record before { seats = after.seats })

-- the descriptor that was handed out, if one was
abbrev pub handed : Result ℤ Status → List ℤ
handed (Ok d) = d ∷ []
handed (Err s) = []
