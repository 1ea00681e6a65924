-- What is told of a client, as it stands in its ledger.
use Rattle.std.specs.Prelude.{◌≡◌, ◌⊎◌, ℕ, ℤ, Bool, false, is_some, List, MatchOption, Option, None, Some, Result, Ok}
use Rattle.std.specs.Option.{option_map}
use Rattle.wl_wire.specs.declared.error.OutOfMemory.{OutOfMemory}
use Rattle.wl_wire.specs.Table.{InterfaceRow}
use Rattle.wl_link.specs.Mailbox.{MailboxState}
use Rattle.wl_follow.specs.declared.side.Side.TheVariants.{Client}
use Rattle.wl_flat.specs.Arrivals.{MayArrive, RefusesArrival, mailbox_with}
use Rattle.wl_flat.specs.Descriptors.{put_in}
use Rattle.wl_flat.specs.Flat.{none_told}
use Rattle.wl_flat.specs.Sending.{queue_after, sent_of}
use Rattle.wl_flat.specs.Told.{CatchesUp, LentTold, TellsNextTo, came_in, left_off, waiting_in}
use Rattle.wl_host.specs.declared.server.ledger.Ledger.{Ledger}
use Rattle.wl_flat.specs.declared.status.Status.{Status}
use Rattle.wl_flat.specs.declared.status.Status.TheVariants as status
use Rattle.wl_flat.specs.declared.telling.Telling.{Telling}

-- this arrived, and is to be told once it is read, if the client's messages are told
abbrev pub with_heard : List ℕ → List ℤ → Ledger → Ledger
with_heard bytes descriptors l = record l { telling = option_map (came_in Client bytes descriptors) l.telling }

-- the client is stored, and its messages are told
abbrev pub is_told : Option Ledger → Bool
is_told None = false
is_told (Some l) = is_some l.telling

abbrev pub TakesIn : MailboxState → Ledger → List ℕ → List ℤ → Status → MailboxState → Ledger → Type 0
TakesIn m l bytes descriptors s m' l' =
    ((s ≡ status.Ok) × (m' ≡ mailbox_with m l.received bytes descriptors)
    × (l' ≡ record (with_heard bytes descriptors l) { received = put_in l.received descriptors }) × MayArrive m bytes descriptors)
    ⊎ (RefusesArrival m bytes descriptors s × (m' ≡ m) × (l' ≡ l))

-- so many of the bytes in the mailbox were sent, or all if there are fewer
abbrev pub ledger_after : ℕ → MailboxState → Ledger → Ledger
ledger_after count m l = record l { sending = queue_after count m l.sending; telling = option_map (left_off (sent_of count m)) l.telling }

-- what is told catches up with the session, if something is
abbrev pub LedgerCatchesUp : ℕ → MailboxState → Ledger → Result (Unit {0}) OutOfMemory → Ledger → Type 0
LedgerCatchesUp unread m l result l' =
    MatchOption l.telling ((result ≡ Ok tt) × (l' ≡ l))
    (λ t. (t' : Telling) × CatchesUp Client unread (waiting_in m l.sending) t result t' × (l' ≡ record l { telling = Some t' }))

-- the next message is told, if some are
abbrev pub LedgerTells : List InterfaceRow → Ledger → LentTold → Status → LentTold → Ledger → Type 0
LedgerTells table l lent s lent' l' =
    MatchOption l.telling ((s ≡ status.InvalidId) × (lent' ≡ record lent { out = none_told }) × (l' ≡ l))
    (λ t. (t' : Telling) × TellsNextTo table t lent s lent' t' × (l' ≡ record l { telling = Some t' }))
