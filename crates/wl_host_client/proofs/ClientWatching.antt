-- What the calls of a client's session come to, if its messages are told.
use Rattle.std.proofs.Common.{◌≡◌, ◌∙◌, ℕ, ℤ, Bool, true, false, List, [], ◌∷◌, Option, None, Some, Result, Ok, Err, ap, inl, inr, length, min, refl, subst, sym}
use Rattle.std.specs.Prelude.{MatchBool, MatchOption, if◌then◌else◌, option_map}
use Rattle.wl_wire.specs.declared.error.OutOfMemory.{OutOfMemory}
use Rattle.wl_wire.specs.Table.{InterfaceRow}
use Rattle.wl_link.specs.Exchange.{Queue}
use Rattle.wl_link.specs.Mailbox.{MailboxState, behind, front}
use Rattle.wl_follow.specs.declared.side.Side.TheVariants.{Server}
use Rattle.wl_flat.proofs.ToldRuns.{found_by, left_waiting}
use Rattle.wl_flat.specs.Arrivals.{Arrives}
use Rattle.wl_host_client.specs.Client.{HostedClient, has_failed, mailbox_of, with_mailbox}
use Rattle.wl_host_client.specs.ClientTellings.{BeginsTelling, CatchesUpWith, ComesTo, ComesToAll, NextTold, ReceivesTold, SendsTold, SetsTelling, TellsNextOf, Watches, heard_by, left_by, unread_by}
use Rattle.wl_flat.specs.Flat.{none_told}
use Rattle.wl_flat.specs.Sending.{mailbox_after, queue_after, sent_of}
use Rattle.wl_flat.specs.Told.{CatchesUp, LentTold, TellsNextTo, came_in, left_off, new_telling, waiting_in}
use Rattle.wl_flat.specs.ToldRuns.{AreTold, CaughtUp, Deed, Heard, IsFound, SentOff, Watched, Wrote, new_watched}
use Rattle.wl_flat.specs.declared.status.Status.{Status}
use Rattle.wl_flat.specs.declared.status.Status.TheVariants as status
use Rattle.wl_flat.specs.declared.telling.Telling.{Telling}

-- ---- the setting

-- nothing is told yet, and this waits in the mailbox
abbrev begun : HostedClient → Watched
begun s = record { telling = new_telling; waiting = waiting_in (mailbox_of s) s.departures }

pub begins : (before after : HostedClient) → before.telling ≡ None → SetsTelling true before status.Ok after
    → ComesTo new_watched (Wrote (waiting_in (mailbox_of after) after.departures)) after
begins before after untold h = (begun after, refl, record { telling = set before.is_new set_by; waiting = refl })
  where
    set_by : MatchBool before.is_new (BeginsTelling before status.Ok after) ((status.Ok ≡ status.InUse) × (after ≡ before))
    set_by = subst (λ (o : Option Telling). MatchOption o
        (MatchBool before.is_new (BeginsTelling before status.Ok after) ((status.Ok ≡ status.InUse) × (after ≡ before)))
        (λ t. (status.Ok ≡ status.Ok) × (after ≡ before))) untold h

    set : (b : Bool) → MatchBool b (BeginsTelling before status.Ok after) ((status.Ok ≡ status.InUse) × (after ≡ before)) → after.telling ≡ Some new_telling
    set true (inl (ok, is)) = ap (λ (s : HostedClient). s.telling) is
    set true (inr (wrong, same)) = cc
    set false (wrong, same) = cc

-- ---- what arrives

pub comes_received : (before after : HostedClient) (bytes : List ℕ) (ds : List ℤ) (w : Watched) → Watches before w
    → ReceivesTold before bytes ds status.Ok after → ComesTo w (Heard bytes ds) after
comes_received before after bytes ds w x (mid, (mailbox, arrivals, arrives, mid_is), is) = (
  record w { telling = came_in Server bytes ds w.telling },
  refl,
  record {
    telling = ap (λ (s : HostedClient). s.telling) is ∙ ap (option_map (came_in Server bytes ds)) x.telling;
    waiting = x.waiting ∙ same_waiting arrives ∙ sym (ap (λ (s : HostedClient). waiting_in (mailbox_of s) s.departures) (is_received ∙ refl));
  },
)
  where
    -- the session with the mailbox and the descriptors that arrived
    got : HostedClient
    got = record (record (with_mailbox before mailbox) { arrivals = arrivals }) {
      telling = heard_by status.Ok bytes ds before.telling;
      is_new = false;
    }

    is_received : after ≡ got
    is_received = is ∙ ap (λ (s : HostedClient). let t : HostedClient = record s { telling = heard_by status.Ok bytes ds before.telling; is_new = false } in t) mid_is

    same_waiting : Arrives (mailbox_of before) before.arrivals bytes ds status.Ok mailbox arrivals
        → waiting_in (mailbox_of before) before.departures ≡ waiting_in mailbox before.departures
    same_waiting (inl (ok, m_is, q_is, may)) = ap (λ (m : MailboxState). waiting_in m before.departures) (sym m_is)
    same_waiting (inr (refused, m_is, q_is)) = ap (λ (m : MailboxState). waiting_in m before.departures) (sym m_is)

-- ---- catching up

-- the session with another telling
watches_put : (before after : HostedClient) (w : Watched) (x : Watches before w) (t : Telling) (o : Option Telling) → o ≡ Some t
    → after ≡ record before { telling = o } → Watches after (record w { telling = t })
watches_put before after w x t o o_is is = record {
  telling = ap (λ (s : HostedClient). s.telling) is ∙ o_is;
  waiting = x.waiting ∙ sym (ap (λ (s : HostedClient). waiting_in (mailbox_of s) s.departures) is);
}

caught : (before after : HostedClient) (r : Result (Unit {0}) OutOfMemory) (w : Watched) → Watches before w → CatchesUpWith before r after
    → (t : Telling) × CatchesUp Server (unread_by before) w.waiting w.telling r t × Watches after (record w { telling = t })
    × (after ≡ record before { telling = Some t })
caught before after r w x (o, catches, is) =
    let (t, up, o_is) =
    subst (λ (m : Option Telling). MatchOption m ((r ≡ Ok tt) × (o ≡ m))
    (λ y. (y' : Telling) × CatchesUp Server (unread_by before) (waiting_in (mailbox_of before) before.departures) y r y' × (o ≡ Some y'))) x.telling catches in (
      t,
      subst (λ (q : Queue). CatchesUp Server (unread_by before) q w.telling r t) (sym x.waiting) up,
      watches_put before after w x t o o_is is,
      is ∙ ap (λ (m : Option Telling). let s : HostedClient = record before { telling = m } in s) o_is,
    )

pub comes_caught : (before after : HostedClient) (r : Result (Unit {0}) OutOfMemory) (w : Watched) → Watches before w
    → CatchesUpWith before r after → ComesTo w (CaughtUp (unread_by before) r) after
comes_caught before after r w x h = let (t, up, watches, is) = caught before after r w x h in (record w { telling = t }, (t, up, refl), watches)

-- ---- what is sent

off : (before after : HostedClient) (count : ℕ) (w : Watched) → Watches before w → has_failed before ≡ false → after ≡ left_by before count
    → Watches after (record { telling = left_off (min count (length w.waiting.bytes)) w.telling; waiting = behind (min count (length w.waiting.bytes)) w.waiting })
off before after count w x lives is =
    let m : MailboxState = mailbox_of before in
    let left : HostedClient = record (record (with_mailbox before (mailbox_after count m)) { departures = queue_after count m before.departures }) {
      telling = option_map (left_off (sent_of count m)) before.telling;
      is_new = false;
    } in
    let after_is : after ≡ left = is
    ∙ ap (λ (b : Bool). if b then before else (record (if b then before else
    (record (with_mailbox before (mailbox_after count m)) { departures = queue_after count m before.departures })) {
      telling = option_map (left_off (sent_of count m)) before.telling;
      is_new = false;
    })) lives in
    let same : min count (length w.waiting.bytes) ≡ sent_of count m = ap (λ (q : Queue). min count (length q.bytes)) x.waiting in record {
      telling = ap (λ (s : HostedClient). s.telling) after_is ∙ ap (option_map (left_off (sent_of count m))) x.telling
          ∙ ap (λ (k : ℕ). Some (left_off k w.telling)) (sym same);
      waiting = ap (λ (k : ℕ). behind k w.waiting) same ∙ ap (behind (sent_of count m)) x.waiting ∙ left_waiting count m before.departures
          ∙ sym (ap (λ (s : HostedClient). waiting_in (mailbox_of s) s.departures) after_is);
    }

pub comes_sent : (before after : HostedClient) (count : ℕ) (w : Watched) → Watches before w → has_failed before ≡ false
    → SendsTold before count status.Ok after
    → (n : ℕ) × (n ≡ min count (length w.waiting.bytes)) × ComesTo w (SentOff (unread_by before) n (front n w.waiting)) after
comes_sent before after count w x lives (Ok done, mid, up, (ok, is)) =
    let (t, catches, watches, mid_is) = caught before mid (Ok done) w x up in
    let n : ℕ = min count (length w.waiting.bytes) in
    let still : has_failed mid ≡ false = ap has_failed mid_is ∙ lives in
    (n, refl, (record { telling = left_off n t; waiting = behind n w.waiting }, (t, catches, refl, refl), off mid after count (record w { telling = t }) watches still is))
comes_sent before after count w x lives (Err e, mid, up, (wrong, is)) = cc

-- ---- what is told

found_next : (before after : HostedClient) (lent : LentTold) (s : Status) (lent' : LentTold) (w : Watched) → Watches before w
    → TellsNextOf before lent s lent' after → (d : Deed) × IsFound before.core.session.table lent s lent' d × ComesTo w d after
found_next before after lent s lent' w x (o, tells, is) =
    let table : List InterfaceRow = before.core.session.table in
    let (t, next, o_is) =
    subst (λ (m : Option Telling). MatchOption m ((s ≡ status.InvalidId) × (lent' ≡ record lent { out = none_told }) × (o ≡ m))
    (λ y. (y' : Telling) × TellsNextTo table y lent s lent' y' × (o ≡ Some y'))) x.telling tells in
    let (d, found, does) = found_by Server table w lent s lent' t next in
    (d, found, (record w { telling = t }, does, watches_put before after w x t o o_is is))

pub comes_next : (before after : HostedClient) (lent : LentTold) (s : Status) (lent' : LentTold) (w : Watched) → Watches before w
    → NextTold before lent s lent' after
    → (run : List Deed) × AreTold before.core.session.table (unread_by before) lent s lent' run × ComesToAll w run after
comes_next before after lent s lent' w x (Ok done, mid, up, h) =
    let (t, catches, watches, mid_is) = caught before mid (Ok done) w x up in
    let v : Watched = record w { telling = t } in
    let (d, found, (w', does, watched)) = found_next mid after lent s lent' v watches h in (
      CaughtUp (unread_by before) (Ok done) ∷ (d ∷ []),
      (refl, subst (λ (m : HostedClient). IsFound m.core.session.table lent s lent' d) mid_is found),
      (w', (v, (t, catches, refl), (w', does, refl)), watched),
    )
comes_next before after lent s lent' w x (Err e, mid, up, (s_is, lent_is, after_is)) =
    let (t, catches, watches, mid_is) = caught before mid (Err e) w x up in
    let v : Watched = record w { telling = t } in (
      CaughtUp (unread_by before) (Err e) ∷ [],
      (refl, s_is, lent_is),
      (v, (v, (t, catches, refl), refl), subst (λ (m : HostedClient). Watches m v) (sym after_is) watches),
    )
