-- That what is told of a client's session catches up with it, and that the next message is told.
use Rattle.std.proofs.Common.{◌≡◌, ◌∙◌, ◌+◌, ℕ, ℤ, Bool, false, true, List, [], Option, None, Some, Result, Ok, Err, ap, arith, length, min, refl, subst, sym}
use Rattle.std.specs.Prelude.{if◌then◌else◌, option_map}
use Rattle.wl_wire.specs.declared.error.OutOfMemory.{OutOfMemory}
use Rattle.wl_wire.specs.Table.{InterfaceRow}
use Rattle.wl_link.specs.Exchange.{Queue}
use Rattle.wl_link.specs.Mailbox.{MailboxState}
use Rattle.wl_follow.specs.declared.side.Side.TheVariants.{Server}
use Rattle.wl_flat.proofs.Sending.{copied_is}
use Rattle.wl_host_client.proofs.ClientDescriptors.{conserves_received, conserves_sent}
use Rattle.wl_flat.proofs.Queues.{conserves_out}
use Rattle.wl_host_client.proofs.EventsAllowed.{event_allowed}
use Rattle.wl_host_client.specs.Allowed.{LendsAllowedEvent}
use Rattle.wl_host_client.specs.Client.{ConservesClient, HandsNext, HostedClient, LentForEvent, has_failed, kept_by_client, mailbox_of, sent, sent_descriptors, taken_in, to_send, with_mailbox}
use Rattle.wl_host_client.specs.ClientTellings.{CatchesUpIfTold, CatchesUpWith, CopiesTold, NextTold, ReadsTold, ReceivesTold, SendsTold, TellsIfTold, TellsNextOf, left_by, unread_by}
use Rattle.wl_flat.specs.Flat.{none_told}
use Rattle.wl_flat.specs.Sending.{Copied, copied, counts_of, mailbox_after, queue_after, sent_of}
use Rattle.wl_flat.specs.Told.{CatchesUp, LentTold, TellsNextTo, left_off, waiting_in}
use Rattle.wl_flat.specs.declared.flat.Counts.{Counts}
use Rattle.wl_flat.specs.declared.status.Status.{Status}
use Rattle.wl_flat.specs.declared.status.Status.TheVariants as status
use Rattle.wl_flat.specs.declared.telling.Telling.{Telling}

-- ---- what is told, if messages are

abbrev done : Result (Unit {0}) OutOfMemory
done = Ok tt

pub catches_told : (o : Option Telling) (t t' : Telling) (unread : ℕ) (w : Queue) (r : Result (Unit {0}) OutOfMemory) → o ≡ Some t
    → CatchesUp Server unread w t r t' → CatchesUpIfTold unread w o r (Some t')
catches_told o t t' unread w r is up =
    subst (λ (x : Option Telling). CatchesUpIfTold unread w x r (Some t')) (sym is) (t', up, refl)

pub catches_none : (o o' : Option Telling) (unread : ℕ) (w : Queue) → o ≡ None → o' ≡ o → CatchesUpIfTold unread w o done o'
catches_none o o' unread w none same =
    subst (λ (x : Option Telling). CatchesUpIfTold unread w x done o') (sym none) (refl, same ∙ none)

pub tells_told : (o : Option Telling) (t t' : Telling) (table : List InterfaceRow) (lent : LentTold) (s : Status) (lent' : LentTold) → o ≡ Some t
    → TellsNextTo table t lent s lent' t' → TellsIfTold table o lent s lent' (Some t')
tells_told o t t' table lent s lent' is next =
    subst (λ (x : Option Telling). TellsIfTold table x lent s lent' (Some t')) (sym is) (t', next, refl)

pub tells_none : (o o' : Option Telling) (table : List InterfaceRow) (lent : LentTold) (s : Status) (lent' : LentTold) → o ≡ None → o' ≡ o
    → s ≡ status.InvalidId → lent' ≡ record lent { out = none_told } → TellsIfTold table o lent s lent' o'
tells_none o o' table lent s lent' none same s_is lent_is =
    subst (λ (x : Option Telling). TellsIfTold table x lent s lent' o') (sym none) (s_is, lent_is, same ∙ none)

-- ---- of the session

-- how many bytes were not read, as they are counted
pub counted_unread : (s : HostedClient) (a b x : ℕ) → a ≡ length s.core.session.link.incoming.bytes → b ≡ length (mailbox_of s).arrived.bytes
    → x ≡ min (a + b) 18446744073709551615 → x ≡ unread_by s
counted_unread s a b x ea eb ex = omega (arith, ea, eb, ex)

pub catches_counted : (b : HostedClient) (x : ℕ) (m : MailboxState) (r : Result (Unit {0}) OutOfMemory) (t : Option Telling) → x ≡ unread_by b → m ≡ mailbox_of b
    → CatchesUpIfTold x (waiting_in m b.departures) b.telling r t → CatchesUpWith b r (record b { telling = t })
catches_counted b x m r t counted same catches = (
  t,
  subst (λ (n : ℕ). CatchesUpIfTold n (waiting_in (mailbox_of b) b.departures) b.telling r t) counted
      (subst (λ (n : MailboxState). CatchesUpIfTold x (waiting_in n b.departures) b.telling r t) same catches),
  refl,
)

pub tells_by : (b : HostedClient) (table : List InterfaceRow) (lent : LentTold) (s : Status) (lent' : LentTold) (t : Option Telling) → table ≡ b.core.session.table
    → TellsIfTold table b.telling lent s lent' t → TellsNextOf b lent s lent' (record b { telling = t })
tells_by b table lent s lent' t same tells =
    (t, subst (λ (rows : List InterfaceRow). TellsIfTold rows b.telling lent s lent' t) same tells, refl)

-- ---- the calls that begin so

-- what catches up leaves all else as it is
pub caught_beside : (b a : HostedClient) (r : Result (Unit {0}) OutOfMemory) → CatchesUpWith b r a → a ≡ record b { telling = a.telling }
caught_beside b a r (t, catches, is) =
    is ∙ ap (λ (s : HostedClient). let x : HostedClient = record b { telling = s.telling } in x) (sym is)

pub conserves_caught : (b a : HostedClient) (r : Result (Unit {0}) OutOfMemory) → CatchesUpWith b r a → ConservesClient b [] [] a
conserves_caught b a r (t, catches, is) = record {
  each = λ d. let same : kept_by_client d a ≡ kept_by_client d b = ap (kept_by_client d) is in omega (arith, same);
}

pub copies_caught : (b a : HostedClient) (bytes : List ℕ) (ds : List ℤ) (s : Status) (bytes' : List ℕ) (ds' : List ℤ) (counts : Counts)
    → CatchesUpWith b (Ok tt) a → s ≡ (copied (to_send a) a.departures bytes ds).status → bytes' ≡ (copied (to_send a) a.departures bytes ds).bytes
    → ds' ≡ (copied (to_send a) a.departures bytes ds).descriptors → counts ≡ (copied (to_send a) a.departures bytes ds).counts
    → CopiesTold b bytes ds (record { status = s; bytes = bytes'; descriptors = ds'; counts = counts }) a
copies_caught b a bytes ds s bytes' ds' counts caught e f g h = (
  Ok tt,
  caught,
  copied_is (copied (to_send a) a.departures bytes ds) s bytes' ds' counts e f g h
      ∙ ap (λ (x : HostedClient). copied (to_send x) x.departures bytes ds) (caught_beside b a (Ok tt) caught),
)

pub copies_nothing : (b a : HostedClient) (e : OutOfMemory) (bytes : List ℕ) (ds : List ℤ) (counts : Counts) → CatchesUpWith b (Err e) a
    → counts ≡ counts_of 0 0 → CopiesTold b bytes ds (record { status = status.OutOfMemory; bytes = bytes; descriptors = ds; counts = counts }) a
copies_nothing b a e bytes ds counts caught is =
    (Err e, caught, ap (λ (v : Counts). let x : Copied = record { status = status.OutOfMemory; bytes = bytes; descriptors = ds; counts = v } in x) is)

pub reads_caught : (b m a : HostedClient) (lent : LentForEvent) (s : Status) (out : List ℤ) (lent' : LentForEvent) → CatchesUpWith b (Ok tt) m
    → HandsNext m lent s out a lent' → ReadsTold b lent s out a lent'
reads_caught b m a lent s out lent' caught h = (Ok tt, m, caught, h)

pub reads_nothing : (b m : HostedClient) (e : OutOfMemory) (lent : LentForEvent) → CatchesUpWith b (Err e) m
    → ReadsTold b lent status.OutOfMemory [] m lent
reads_nothing b m e lent caught = (Err e, m, caught, (refl, refl, refl, refl))

-- nothing that is forbidden is handed out
pub told_event_allowed : (b a : HostedClient) (lent lent' : LentForEvent) (out : List ℤ) → b.refuses_nulls ≡ true → ReadsTold b lent status.Ok out a lent'
    → LendsAllowedEvent b a.core lent lent' × (lent'.out.forbidden_null ≡ 0)
told_event_allowed b a lent lent' out on (Ok ok, m, (t, catches, is), h) =
    subst (λ (s : HostedClient). LendsAllowedEvent s a.core lent lent' × (lent'.out.forbidden_null ≡ 0)) is
    (event_allowed m a lent lent' out (ap (λ (s : HostedClient). s.refuses_nulls) is ∙ on) h)
told_event_allowed b a lent lent' out on (Err e, m, caught, (wrong, none, same, is)) = cc

-- the descriptors that are sent are those that wait before it catches up
pub caught_descriptors : (b a : HostedClient) (r : Result (Unit {0}) OutOfMemory) (count : ℕ) → CatchesUpWith b r a
    → sent_descriptors a count ≡ sent_descriptors b count
caught_descriptors b a r count caught = ap (λ (x : HostedClient). sent_descriptors x count) (caught_beside b a r caught)

-- what arrives is kept, whether it is told or not
pub conserves_heard : (b : HostedClient) (bytes : List ℕ) (ds : List ℤ) (s : Status) (a : HostedClient) → ReceivesTold b bytes ds s a
    → ConservesClient b (taken_in s ds) [] a
conserves_heard b bytes ds s a (mid, arrives, is) = record {
  each = λ d.
      let c = (conserves_received b bytes ds s mid arrives).each d in
      let i : kept_by_client d a ≡ kept_by_client d mid = ap (kept_by_client d) is in omega (arith, c, i);
}

-- what leaves leaves with what is sent
left_kept : (d : ℤ) (b : HostedClient) (count : ℕ) → kept_by_client d (left_by b count) ≡ kept_by_client d (sent b count)
left_kept d b count = by (has_failed b)
  where
    gone : HostedClient
    gone = record (with_mailbox b (mailbox_after count (mailbox_of b))) { departures = queue_after count (mailbox_of b) b.departures }

    by : (failed : Bool)
        → kept_by_client d (if failed then b else
        (record (if failed then b else gone) { telling = option_map (left_off (sent_of count (mailbox_of b))) b.telling; is_new = false }))
        ≡ kept_by_client d (if failed then b else gone)
    by true = refl
    by false = refl

pub conserves_left : (b a : HostedClient) (count : ℕ) → a ≡ left_by b count → ConservesClient b [] (sent_descriptors b count) a
conserves_left b a count is = record {
  each = λ d.
      let c = (conserves_sent b count (sent b count) refl).each d in
      let k = left_kept d b count in let i = ap (kept_by_client d) is in omega (arith, c, k, i);
}

pub sends_caught : (b m a : HostedClient) (count : ℕ) → CatchesUpWith b (Ok tt) m → a ≡ left_by m count → SendsTold b count status.Ok a
sends_caught b m a count caught is = (Ok tt, m, caught, (refl, is))

pub sends_nothing : (b m : HostedClient) (e : OutOfMemory) (count : ℕ) → CatchesUpWith b (Err e) m → SendsTold b count status.OutOfMemory m
sends_nothing b m e count caught = (Err e, m, caught, (refl, refl))

pub conserves_sent_caught : (b m a : HostedClient) (count : ℕ) → CatchesUpWith b (Ok tt) m → ConservesClient m [] (sent_descriptors m count) a
    → ConservesClient b [] (sent_descriptors b count) a
conserves_sent_caught b m a count caught h =
    conserves_out (conserves_caught b m (Ok tt) caught)
    (subst (λ (ds : List ℤ). ConservesClient m [] ds a) (caught_descriptors b m (Ok tt) count caught) h)

-- ---- what is told

pub tells_caught : (b m a : HostedClient) (lent : LentTold) (s : Status) (lent' : LentTold) → CatchesUpWith b (Ok tt) m → TellsNextOf m lent s lent' a
    → NextTold b lent s lent' a
tells_caught b m a lent s lent' caught h = (Ok tt, m, caught, h)

pub tells_nothing : (b m : HostedClient) (e : OutOfMemory) (lent lent' : LentTold) → CatchesUpWith b (Err e) m → lent' ≡ record lent { out = none_told }
    → NextTold b lent status.OutOfMemory lent' m
tells_nothing b m e lent lent' caught is = (Err e, m, caught, (refl, is, refl))
