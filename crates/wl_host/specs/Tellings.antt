-- The calls of a server's session that tell of its clients, or that what is told comes from.
use Rattle.std.specs.Prelude.{◌≡◌, ℕ, ℤ, ◌+◌, List, [], length, min, MatchOption, MatchResult, Option, Some, Result, Ok, if◌then◌else◌, slice_get}
use Rattle.std.specs.Option.{option_map_or}
use Rattle.wl_wire.specs.declared.error.OutOfMemory.{OutOfMemory}
use Rattle.wl_link.specs.Mailbox.{MailboxState}
use Rattle.wl_server_client.specs.Ids.{ClientParts}
use Rattle.wl_server_model.specs.Lookups.{transport_of, waiting_of}
use Rattle.wl_host.specs.Actions.{HandsNothing, Lent, NextAction}
use Rattle.wl_flat.specs.Flat.{none_told}
use Rattle.wl_host.specs.Hearing.{LedgerCatchesUp, LedgerTells}
use Rattle.wl_host.specs.Seats.{ledger_of, with_ledger}
use Rattle.wl_flat.specs.Sending.{Copied, counts_of}
use Rattle.wl_host.specs.Server.{Sent, ServerState, sent_with, to_send}
use Rattle.wl_flat.specs.Status.{is_done}
use Rattle.wl_flat.specs.Told.{LentTold}
use Rattle.wl_flat.specs.declared.flat.FlatArgument.{FlatArgument}
use Rattle.wl_host.specs.declared.server.ledger.Ledger.{Ledger}
use Rattle.wl_flat.specs.declared.status.Status.{Status}
use Rattle.wl_flat.specs.declared.status.Status.TheVariants as status

-- the session with another ledger of the client
abbrev pub with_seat : ServerState → ClientParts → Ledger → ServerState
with_seat s id l = record s { seats = with_ledger s.seats id l }

-- ---- what the session has read and written

-- how many bytes arrived that the session did not read: in its link, and in the mailbox
abbrev pub unread_of : List ℕ → MailboxState → ℕ
unread_of counts m = min (option_map_or (λ n. n) (slice_get counts 0) 0 + length m.arrived.bytes) 18446744073709551615

-- of a client of the session; 0 of one that is not stored
abbrev pub unread_if : Option (List ℕ) → Option MailboxState → ℕ
unread_if (Some counts) (Some m) = unread_of counts m
unread_if _ _ = 0

abbrev pub unread_by : ServerState → ClientParts → ℕ
unread_by s id = unread_if (waiting_of s.core.server id) (transport_of s.core.server id)

-- What is told of the client catches up with the session: all that it has read may be told, and then what it has written, as far as that
-- is in the mailbox.
abbrev pub CatchesUpOf : ServerState → ClientParts → Option Ledger → Option (List ℕ) → Option MailboxState → Result (Unit {0}) OutOfMemory → ServerState → Type 0
CatchesUpOf before id (Some l) (Some counts) (Some m) result after =
    (l' : Ledger) × LedgerCatchesUp (unread_of counts m) m l result l' × (after ≡ with_seat before id l')
CatchesUpOf before id _ _ _ result after = (result ≡ Ok tt) × (after ≡ before)

abbrev pub CatchesUpWith : ServerState → ClientParts → Result (Unit {0}) OutOfMemory → ServerState → Type 0
CatchesUpWith before id result after =
    CatchesUpOf before id (ledger_of id before.seats.ledgers) (waiting_of before.core.server id) (transport_of before.core.server id) result after

-- ---- the calls

-- Before the next action is read, what is told catches up. Without memory for that nothing is read.
abbrev pub ReadsTold : ServerState → ClientParts → List FlatArgument → List ℕ → Status → Lent → List ℤ → ServerState → Type 0
ReadsTold before id arguments bytes s lent out after =
    (result : Result (Unit {0}) OutOfMemory) × (mid : ServerState) × CatchesUpWith before id result mid
    × MatchResult result
    (λ _. NextAction mid id arguments bytes s lent out after)
    (λ _. HandsNothing status.OutOfMemory arguments bytes s lent × (out ≡ []) × (after ≡ mid))

-- Before what is to be sent is copied, what is told catches up with it. Without memory for that nothing is copied.
abbrev pub none_copied : List ℕ → List ℤ → Copied
none_copied bytes descriptors = record { status = status.OutOfMemory; bytes = bytes; descriptors = descriptors; counts = counts_of 0 0 }

abbrev pub CopiesTold : ServerState → ClientParts → List ℕ → List ℤ → Copied → ServerState → Type 0
CopiesTold before id bytes descriptors copied after =
    (result : Result (Unit {0}) OutOfMemory) × CatchesUpWith before id result after
    × MatchResult result (λ _. copied ≡ to_send before id bytes descriptors) (λ _. copied ≡ none_copied bytes descriptors)

-- Before the bytes that were sent leave the mailbox, what is told catches up. Without memory for that nothing else is changed.
abbrev pub SendsTold : ServerState → ClientParts → ℕ → Status → ServerState → Type 0
SendsTold before id count s after =
    (result : Result (Unit {0}) OutOfMemory) × (mid : ServerState) × CatchesUpWith before id result mid
    × MatchResult result (λ _. Sent mid id count s after) (λ _. (s ≡ status.OutOfMemory) × (after ≡ mid))

-- the descriptors that are sent with so many bytes, if the answer says so
abbrev pub sent_told : ServerState → ClientParts → ℕ → Status → List ℤ
sent_told s id count answer = if is_done answer then sent_with s id count else []

-- nothing is told
abbrev pub TellsNothing : Status → ServerState → LentTold → Status → LentTold → ServerState → Type 0
TellsNothing e before lent s lent' after = (s ≡ e) × (lent' ≡ record lent { out = none_told }) × (after ≡ before)

-- what is told of the client once it has caught up
abbrev pub TellsNextOf : ServerState → ClientParts → LentTold → Status → LentTold → ServerState → Type 0
TellsNextOf before id lent s lent' after =
    MatchOption (ledger_of id before.seats.ledgers)
    (TellsNothing status.InvalidId before lent s lent' after)
    (λ l. (l' : Ledger) × LedgerTells before.core.server.offer.table l lent s lent' l' × (after ≡ with_seat before id l'))

-- The next message of the client is told, if some are. What is told catches up before.
abbrev pub NextTold : ServerState → ClientParts → LentTold → Status → LentTold → ServerState → Type 0
NextTold before id lent s lent' after =
    (result : Result (Unit {0}) OutOfMemory) × (mid : ServerState) × CatchesUpWith before id result mid
    × MatchResult result (λ _. TellsNextOf mid id lent s lent' after) (λ _. TellsNothing status.OutOfMemory mid lent s lent' after)
