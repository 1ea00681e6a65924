-- Where messages are not told, the calls of a client's session do what they would do if there were no telling.
use Rattle.std.proofs.Common.{◌≡◌, ◌∙◌, ℕ, ℤ, Bool, true, false, List, Option, None, Some, Result, Ok, Err, ap, refl, subst, sym}
use Rattle.std.specs.Prelude.{MatchOption, if◌then◌else◌, option_map}
use Rattle.wl_wire.specs.declared.error.OutOfMemory.{OutOfMemory}
use Rattle.wl_follow.specs.declared.side.Side.TheVariants.{Server}
use Rattle.wl_host_client.specs.Client.{HandsNext, HostedClient, LentForEvent, Receives, has_failed, mailbox_of, sent, to_send, with_mailbox}
use Rattle.wl_host_client.specs.ClientTellings.{CatchesUpWith, CopiesTold, NextTold, ReadsTold, ReceivesTold, SendsTold, TellsNextOf, TellsNothing, heard_by, left_by, new_after, unread_by}
use Rattle.wl_flat.specs.Flat.{none_told}
use Rattle.wl_flat.specs.Sending.{Copied, copied, mailbox_after, queue_after, sent_of}
use Rattle.wl_host_client.specs.Tables.{IsNewClient}
use Rattle.wl_flat.specs.Told.{CatchesUp, LentTold, TellsNextTo, came_in, left_off, waiting_in}
use Rattle.wl_flat.specs.declared.rows.Rows.{Rows}
use Rattle.wl_flat.specs.declared.status.Status.{Status}
use Rattle.wl_flat.specs.declared.status.Status.TheVariants as status
use Rattle.wl_flat.specs.declared.telling.Telling.{Telling}

pub new_untold : (rows : Rows) (s : HostedClient) → IsNewClient rows s → s.telling ≡ None
new_untold rows s (table, of_rows, over) = ap (λ (t : HostedClient). t.telling) over.1

-- with what is told as it is, the session is as it is
same_telling : (s : HostedClient) (t : Option Telling) → s.telling ≡ None → t ≡ None → record s { telling = t } ≡ s
same_telling s t none is = ap (λ (o : Option Telling). let x : HostedClient = record s { telling = o } in x) (is ∙ sym none)

caught_untold : (before after : HostedClient) (r : Result (Unit {0}) OutOfMemory) → before.telling ≡ None → CatchesUpWith before r after
    → (r ≡ Ok tt) × (after ≡ before)
caught_untold before after r none (t, catches, is) = by before.telling none catches
  where
    by : (o : Option Telling) → o ≡ None
        → MatchOption o ((r ≡ Ok tt) × (t ≡ o))
        (λ x. (x' : Telling) × CatchesUp Server (unread_by before) (waiting_in (mailbox_of before) before.departures) x r x' × (t ≡ Some x'))
        → (r ≡ Ok tt) × (after ≡ before)
    by None e (ok, same) = (ok, is ∙ same_telling before t none same)
    by (Some x) e h = cc

heard_untold : (s : Status) (bytes : List ℕ) (ds : List ℤ) (t : Option Telling) → t ≡ None → heard_by s bytes ds t ≡ None
heard_untold status.Ok bytes ds t none = ap (option_map (came_in Server bytes ds)) none
heard_untold _ bytes ds t none = none

pub untold_received : (before after : HostedClient) (bytes : List ℕ) (ds : List ℤ) (s : Status) → before.telling ≡ None
    → ReceivesTold before bytes ds s after → (mid : HostedClient) × Receives before bytes ds s mid × (after ≡ record mid { is_new = new_after s before.is_new })
untold_received before after bytes ds s none (mid, (mailbox, arrivals, arrives, mid_is), is) = (
  mid,
  (mailbox, arrivals, arrives, mid_is),
  is
      ∙ ap (λ (o : Option Telling). let x : HostedClient = record mid { telling = o; is_new = new_after s before.is_new } in x)
      (heard_untold s bytes ds before.telling none ∙ sym (ap (λ (x : HostedClient). x.telling) mid_is ∙ none)),
)

pub untold_event : (before after : HostedClient) (lent lent' : LentForEvent) (s : Status) (out : List ℤ) → before.telling ≡ None
    → ReadsTold before lent s out after lent' → HandsNext before lent s out after lent'
untold_event before after lent lent' s out none (Ok done, mid, caught, h) =
    let same = (caught_untold before mid (Ok done) none caught).1 in subst (λ (m : HostedClient). HandsNext m lent s out after lent') same h
untold_event before after lent lent' s out none (Err e, mid, caught, h) = let no = (caught_untold before mid (Err e) none caught).0 in absurd cc

pub untold_copied : (before after : HostedClient) (bytes : List ℕ) (ds : List ℤ) (x : Copied) → before.telling ≡ None → CopiesTold before bytes ds x after
    → (x ≡ copied (to_send before) before.departures bytes ds) × (after ≡ before)
untold_copied before after bytes ds x none (Ok done, caught, h) = (h, (caught_untold before after (Ok done) none caught).1)
untold_copied before after bytes ds x none (Err e, caught, h) = let no = (caught_untold before after (Err e) none caught).0 in absurd cc

-- what was sent leaves nothing of what is told
left_untold : (s : HostedClient) (count : ℕ) → s.telling ≡ None → left_by s count ≡ record (sent s count) { is_new = if has_failed s then s.is_new else false }
left_untold s count none = by (has_failed s)
  where
    gone : HostedClient
    gone = record (with_mailbox s (mailbox_after count (mailbox_of s))) { departures = queue_after count (mailbox_of s) s.departures }

    left : Option Telling
    left = option_map (left_off (sent_of count (mailbox_of s))) s.telling

    left_is : left ≡ s.telling
    left_is = ap (option_map (left_off (sent_of count (mailbox_of s)))) none ∙ sym none

    by : (failed : Bool)
        → (if failed then s else (record (if failed then s else gone) { telling = left; is_new = false }))
        ≡ record (if failed then s else gone) { is_new = if failed then s.is_new else false }
    by true = refl
    by false = ap (λ (o : Option Telling). let x : HostedClient = record gone { telling = o; is_new = false } in x) left_is

pub untold_sent : (before after : HostedClient) (count : ℕ) (s : Status) → before.telling ≡ None → SendsTold before count s after
    → (s ≡ status.Ok) × (after ≡ record (sent before count) { is_new = if has_failed before then before.is_new else false })
untold_sent before after count s none (Ok done, mid, caught, (ok, is)) =
    let same = (caught_untold before mid (Ok done) none caught).1 in
    let left : after ≡ left_by before count = is ∙ ap (λ (m : HostedClient). left_by m count) same in
    (ok, left ∙ left_untold before count none)
untold_sent before after count s none (Err e, mid, caught, h) = let no = (caught_untold before mid (Err e) none caught).0 in absurd cc

told_untold : (before after : HostedClient) (lent lent' : LentTold) (s : Status) → before.telling ≡ None → TellsNextOf before lent s lent' after
    → TellsNothing status.InvalidId before lent s lent' after
told_untold before after lent lent' s none (t, tells, is) = by before.telling none tells
  where
    by : (o : Option Telling) → o ≡ None
        → MatchOption o ((s ≡ status.InvalidId) × (lent' ≡ record lent { out = none_told }) × (t ≡ o))
        (λ x. (x' : Telling) × TellsNextTo before.core.session.table x lent s lent' x' × (t ≡ Some x'))
        → TellsNothing status.InvalidId before lent s lent' after
    by None e (s_is, lent_is, same) = (s_is, lent_is, is ∙ same_telling before t none same)
    by (Some x) e h = cc

pub untold_next : (before after : HostedClient) (lent : LentTold) (s : Status) (lent' : LentTold) → before.telling ≡ None → NextTold before lent s lent' after
    → TellsNothing status.InvalidId before lent s lent' after
untold_next before after lent s lent' none (Ok done, mid, caught, h) =
    let same = (caught_untold before mid (Ok done) none caught).1 in
    told_untold before after lent lent' s none (subst (λ (m : HostedClient). TellsNextOf m lent s lent' after) same h)
untold_next before after lent s lent' none (Err e, mid, caught, h) = let no = (caught_untold before mid (Err e) none caught).0 in absurd cc
