-- The calls of a client's session that tell of its messages, or that what is told comes from.
use Rattle.std.specs.Prelude.{◌≡◌, ◌⊎◌, ℕ, ℤ, ◌+◌, Bool, true, false, List, [], length, min, MatchBool, MatchOption, MatchResult, Option, None, Some, Result, Ok, if◌then◌else◌}
use Rattle.std.specs.Option.{option_map}
use Rattle.wl_wire.specs.declared.error.OutOfMemory.{OutOfMemory}
use Rattle.wl_wire.specs.Table.{InterfaceRow}
use Rattle.wl_link.specs.Exchange.{Queue}
use Rattle.wl_link.specs.Mailbox.{MailboxState}
use Rattle.wl_follow.specs.declared.side.Side.TheVariants.{Server}
use Rattle.wl_flat.specs.Arrivals.{Arrives}
use Rattle.wl_host_client.specs.Client.{HandsNext, HostedClient, LentForEvent, Receives, has_failed, mailbox_of, sent, sent_descriptors, to_send}
use Rattle.wl_flat.specs.Descriptors.{Descriptors}
use Rattle.wl_flat.specs.Flat.{none_told}
use Rattle.wl_flat.specs.Sending.{Copied, copied, counts_of, sent_of}
use Rattle.wl_flat.specs.Told.{CatchesUp, LentTold, TellsNextTo, came_in, left_off, new_telling, waiting_in}
use Rattle.wl_flat.specs.ToldRuns.{Deed, Does, Leads, Watched}
use Rattle.wl_flat.specs.declared.status.Status.{Status}
use Rattle.wl_flat.specs.declared.status.Status.TheVariants as status
use Rattle.wl_flat.specs.declared.telling.Telling.{Telling}

-- ---- the setting

-- Messages are told from now on; or there was no memory for that, and nothing is changed.
abbrev pub BeginsTelling : HostedClient → Status → HostedClient → Type 0
BeginsTelling before s after =
    ((s ≡ status.Ok) × (after ≡ record before { telling = Some new_telling })) ⊎ ((s ≡ status.OutOfMemory) × (after ≡ before))

-- They are told of a session of which nothing was received or sent. A setting that is made twice is made once.
abbrev pub SetsTelling : Bool → HostedClient → Status → HostedClient → Type 0
SetsTelling false before s after = (s ≡ status.Ok) × (after ≡ record before { telling = None })
SetsTelling true before s after =
    MatchOption before.telling
    (MatchBool before.is_new (BeginsTelling before s after) ((s ≡ status.InUse) × (after ≡ before)))
    (λ t. (s ≡ status.Ok) × (after ≡ before))

-- ---- what is told, if messages are

-- this arrived, if the status says so
abbrev pub heard_by : Status → List ℕ → List ℤ → Option Telling → Option Telling
heard_by status.Ok bytes descriptors t = option_map (came_in Server bytes descriptors) t
heard_by s bytes descriptors t = t

-- bytes and descriptors arrive, or they are refused
abbrev pub ArrivesTold : MailboxState → Descriptors → Option Telling → List ℕ → List ℤ → Status → MailboxState → Descriptors → Option Telling → Type 0
ArrivesTold m q t bytes descriptors s m' q' t' = Arrives m q bytes descriptors s m' q' × (t' ≡ heard_by s bytes descriptors t)

-- it catches up with the session, which had not read so many bytes, and has this in its mailbox
abbrev pub CatchesUpIfTold : ℕ → Queue → Option Telling → Result (Unit {0}) OutOfMemory → Option Telling → Type 0
CatchesUpIfTold unread w t result t' =
    MatchOption t ((result ≡ Ok tt) × (t' ≡ t))
    (λ x. (x' : Telling) × CatchesUp Server unread w x result x' × (t' ≡ Some x'))

-- the next message is told by this table
abbrev pub TellsIfTold : List InterfaceRow → Option Telling → LentTold → Status → LentTold → Option Telling → Type 0
TellsIfTold table t lent s lent' t' =
    MatchOption t ((s ≡ status.InvalidId) × (lent' ≡ record lent { out = none_told }) × (t' ≡ t))
    (λ x. (x' : Telling) × TellsNextTo table x lent s lent' x' × (t' ≡ Some x'))

-- ---- what the session has read and written

-- how many bytes arrived that the session did not read: in its link, and in the mailbox
abbrev pub unread_by : HostedClient → ℕ
unread_by s = min (length s.core.session.link.incoming.bytes + length (mailbox_of s).arrived.bytes) 18446744073709551615

-- What is told catches up with the session: all that it has read may be told, and then what it has written, as far as that is in the
-- mailbox.
abbrev pub CatchesUpWith : HostedClient → Result (Unit {0}) OutOfMemory → HostedClient → Type 0
CatchesUpWith before result after =
    (t : Option Telling) × CatchesUpIfTold (unread_by before) (waiting_in (mailbox_of before) before.departures) before.telling result t
    × (after ≡ record before { telling = t })

-- ---- the calls

-- A session is new until something was received, or sent.
abbrev pub new_after : Status → Bool → Bool
new_after status.Ok is_new = false
new_after s is_new = is_new

-- Bytes and descriptors arrive, to be told once they are read; or they are refused.
abbrev pub ReceivesTold : HostedClient → List ℕ → List ℤ → Status → HostedClient → Type 0
ReceivesTold before bytes descriptors s after =
    (mid : HostedClient) × Receives before bytes descriptors s mid
    × (after ≡ record mid { telling = heard_by s bytes descriptors before.telling; is_new = new_after s before.is_new })

-- Before the next event is read, what is told catches up. Without memory for that nothing is read.
abbrev pub ReadsTold : HostedClient → LentForEvent → Status → List ℤ → HostedClient → LentForEvent → Type 0
ReadsTold before lent s out after lent' =
    (result : Result (Unit {0}) OutOfMemory) × (mid : HostedClient) × CatchesUpWith before result mid
    × MatchResult result
    (λ _. HandsNext mid lent s out after lent')
    (λ _. (s ≡ status.OutOfMemory) × (out ≡ []) × (lent' ≡ lent) × (after ≡ mid))

abbrev pub none_copied : List ℕ → List ℤ → Copied
none_copied bytes descriptors = record { status = status.OutOfMemory; bytes = bytes; descriptors = descriptors; counts = counts_of 0 0 }

-- Before what is to be sent is copied, what is told catches up with it. Without memory for that nothing is copied.
abbrev pub CopiesTold : HostedClient → List ℕ → List ℤ → Copied → HostedClient → Type 0
CopiesTold before bytes descriptors answer after =
    (result : Result (Unit {0}) OutOfMemory) × CatchesUpWith before result after
    × MatchResult result
    (λ _. answer ≡ copied (to_send before) before.departures bytes descriptors)
    (λ _. answer ≡ none_copied bytes descriptors)

-- So many of the bytes in the mailbox were sent. Of a session that has failed nothing is.
abbrev pub left_by : HostedClient → ℕ → HostedClient
left_by s count =
    if has_failed s then s else
    record (sent s count) { telling = option_map (left_off (sent_of count (mailbox_of s))) s.telling; is_new = false }

-- Before the bytes that were sent leave the mailbox, what is told catches up. Without memory for that nothing else is changed.
abbrev pub SendsTold : HostedClient → ℕ → Status → HostedClient → Type 0
SendsTold before count s after =
    (result : Result (Unit {0}) OutOfMemory) × (mid : HostedClient) × CatchesUpWith before result mid
    × MatchResult result
    (λ _. (s ≡ status.Ok) × (after ≡ left_by mid count))
    (λ _. (s ≡ status.OutOfMemory) × (after ≡ mid))

-- the descriptors that are sent with so many bytes, if the answer says so
abbrev pub sent_told : HostedClient → ℕ → Status → List ℤ
sent_told s count status.Ok = sent_descriptors s count
sent_told s count answer = []

-- nothing is told
abbrev pub TellsNothing : Status → HostedClient → LentTold → Status → LentTold → HostedClient → Type 0
TellsNothing e before lent s lent' after = (s ≡ e) × (lent' ≡ record lent { out = none_told }) × (after ≡ before)

-- the next message that caught up is told, if messages are
abbrev pub TellsNextOf : HostedClient → LentTold → Status → LentTold → HostedClient → Type 0
TellsNextOf before lent s lent' after =
    (t : Option Telling) × TellsIfTold before.core.session.table before.telling lent s lent' t × (after ≡ record before { telling = t })

-- The next message is told, if messages are. What is told catches up before.
abbrev pub NextTold : HostedClient → LentTold → Status → LentTold → HostedClient → Type 0
NextTold before lent s lent' after =
    (result : Result (Unit {0}) OutOfMemory) × (mid : HostedClient) × CatchesUpWith before result mid
    × MatchResult result (λ _. TellsNextOf mid lent s lent' after) (λ _. TellsNothing status.OutOfMemory mid lent s lent' after)

-- ---- calls one after another

-- The session keeps this: its messages are told, and this waits in its mailbox.
pub record Watches (s : HostedClient) (w : Watched) : Type 0 where
  pub telling : s.telling ≡ Some w.telling
  pub waiting : w.waiting ≡ waiting_in (mailbox_of s) s.departures

-- a call comes to this
abbrev pub ComesTo : Watched → Deed → HostedClient → Type 0
ComesTo w d after = (w' : Watched) × Does Server w d w' × Watches after w'

-- and so one that comes to several deeds
abbrev pub ComesToAll : Watched → List Deed → HostedClient → Type 0
ComesToAll w run after = (w' : Watched) × Leads Server w run w' × Watches after w'
