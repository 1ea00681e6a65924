-- That all that is heard and said is told once, in its order.
use Rattle.std.specs.Prelude.{◌≡◌, ◌⊎◌, ℕ, ◌+◌, ◌-◌, ◌≤◌, ◌==◌, ◌++◌, Bool, true, false, List, [], ◌∷◌, Option, None, Some, Result, Ok, Err, drop, length, take, if◌then◌else◌, map}
use Rattle.std.proofs.Common.{ap, append_assoc, append-nil, arith, inl, inr, refl, subst, sym, ◌∙◌}
use Rattle.std.proofs.Math.Seq.{take-length}
use Rattle.std.proofs.lemmas.List.{length-append, length-drop, take-append-drop, take-append-le}
use Rattle.wl_wire.specs.declared.argument.Token.{Token}
use Rattle.wl_wire.specs.declared.error.OutOfMemory.{OutOfMemory}
use Rattle.wl_wire.specs.declared.message.Message.{Message}
use Rattle.wl_wire.specs.Message.{content}
use Rattle.wl_wire.specs.Table.{InterfaceRow}
use Rattle.wl_link.specs.Exchange.{Queue, joined, nothing}
use Rattle.wl_link.specs.Mailbox.{behind, front, MailboxState}
use Rattle.wl_link.proofs.Calls.Branches.{either_bool}
use Rattle.wl_link.proofs.Calls.QueueLaws.{joined_assoc, joined_nothing, queue_is}
use Rattle.wl_follow.specs.Following.{FollowState, Tells, Turns, came_from, new_follower, released_to, sent, turned, with_sent}
use Rattle.wl_follow.specs.Runs.{Call, Came, Released, TookNothing, TookOut, from_side}
use Rattle.wl_follow.specs.Runs as calls
use Rattle.wl_follow.specs.Sent.{SentState, more_sent, ready_more, released_but, untold}
use Rattle.wl_follow.specs.Sides.{other_side}
use Rattle.wl_follow.specs.declared.follower.Stretch.{Stretch}
use Rattle.wl_follow.specs.declared.follower.Told.{Told}
use Rattle.wl_follow.specs.declared.side.Side.{Side}
use Rattle.wl_follow.specs.declared.side.Side.TheVariants.{Client, Server}
use Rattle.wl_follow.proofs.Runs.{calls_keep, turns_come}
use Rattle.wl_flat.specs.Told.{CatchesUp, HandsTold, LentTold, args_in, as_tokens, caught_up, fits_told, left_off, said_part, unsaid, TellsNextTo, waiting_in}
use Rattle.wl_flat.specs.ToldRuns.{CaughtUp, Deed, Does, Found, FoundAgain, FoundNone, Heard, LackedMemory, Leads, NothingWaits, SentOff, Watched, Wrote, all_found, all_handed, all_heard, all_sent, all_told, found_in, handed_if, handed_in, heard_in, kept_in, list_of, new_watched, sent_in, told_in, IsFound}
use Rattle.wl_flat.specs.declared.status.Status.{Status}
use Rattle.wl_flat.specs.declared.status.Status.TheVariants as status
use Rattle.wl_flat.specs.declared.telling.Telling.{Telling}
use Rattle.wl_flat.specs.Descriptors.{Descriptors}
use Rattle.wl_flat.specs.Sending.{all_taken_out, descriptors_of, mailbox_after, queue_after, sent_of, shown}

-- ---- the calls of the follower in a deed

abbrev IsFollowed : Side → FollowState → Type 0
IsFollowed side f = (sent side f).is_followed ≡ true

-- the calls lead from one follower to another, and in them this is told of a side, and comes from it behind `q`
abbrev Calls : Side → Queue → FollowState → FollowState → Queue → Queue → Type 0
Calls side q f f' told came =
    (run : List Call) × calls.Leads f run f' × (calls.all_told side run ≡ told) × (calls.came_behind side q run ≡ came)

-- what is told of the side, behind what was told before, and what is not told then
keeps : (side : Side) (before q : Queue) (f f' : FollowState) (told came : Queue) → q ≡ joined before (untold (sent side f)) → Calls side q f f' told came
    → IsFollowed side f' → (joined (joined before told) (untold (sent side f')) ≡ came) × IsFollowed side f
keeps side before q f f' told came q_is (run, leads, told_is, came_is) on =
    let kept = calls_keep side before run f f' leads on in (
      ap (λ (x : Queue). joined (joined before x) (untold (sent side f'))) (sym told_is)
          ∙ kept.0 ∙ ap (λ (x : Queue). calls.came_behind side x run) (sym q_is) ∙ came_is,
      kept.1,
    )

no_calls : (side : Side) (q : Queue) (f f' : FollowState) → f' ≡ f → Calls side q f f' nothing q
no_calls side q f f' same = ([], same, refl, refl)

-- what comes from a side, and from the other one
pub from_own : (side : Side) (q : Queue) → from_side side side q ≡ q
from_own Client q = refl
from_own Server q = refl

pub from_other : (side : Side) (q : Queue) → from_side side (other_side side) q ≡ nothing
from_other Client q = refl
from_other Server q = refl

to_other : (side : Side) (q : Queue) → from_side (other_side side) side q ≡ nothing
to_other Client q = refl
to_other Server q = refl

none_from : (side by : Side) → from_side side by nothing ≡ nothing
none_from Client Client = refl
none_from Client Server = refl
none_from Server Client = refl
none_from Server Server = refl

-- what the side says, as a catching up has it: the other side of the peer says this
abbrev said_by : Side → Side → Queue → Queue
said_by peer side u = from_side side (other_side peer) u

none_joined : (peer side : Side) (q : Queue) → joined q (said_by peer side nothing) ≡ q
none_joined peer side q = ap (λ (x : Queue). joined q x) (none_from side (other_side peer)) ∙ joined_nothing q

-- what is heard may be told
releases : (peer side : Side) (q : Queue) (unread : ℕ) (f f' : FollowState) → f' ≡ released_to peer unread f → Calls side q f f' nothing q
releases peer side q unread f f' is = (Released peer unread ∷ [], (f', is, refl), refl, refl)

-- and what is said comes
says : (peer side : Side) (q : Queue) (unread : ℕ) (u : Queue) (f f' : FollowState) → f' ≡ came_from (other_side peer) u (released_to peer unread f)
    → Calls side q f f' nothing (joined q (said_by peer side u))
says peer side q unread u f f' is =
    (Released peer unread ∷ (Came (other_side peer) u ∷ []), (released_to peer unread f, refl, (f', is, refl)), refl, refl)

-- and may be told
says_all : (peer side : Side) (q : Queue) (unread : ℕ) (u : Queue) (f f' : FollowState)
    → f' ≡ released_to (other_side peer) 0 (came_from (other_side peer) u (released_to peer unread f))
    → Calls side q f f' nothing (joined q (said_by peer side u))
says_all peer side q unread u f f' is = (
  Released peer unread ∷ (Came (other_side peer) u ∷ (Released (other_side peer) 0 ∷ [])),
  (
    released_to peer unread f,
    refl,
    (came_from (other_side peer) u (released_to peer unread f), refl, (f', is, refl)),
  ),
  refl,
  refl,
)

-- ---- what is said, as far as the follower has it

-- the follower has no more than waits
pub record IsWithin (w : Watched) : Type 0 where
  pub bytes : w.telling.said ≤ length w.waiting.bytes
  pub tokens : w.telling.said_tokens ≤ length w.waiting.tokens

said_whole : (w : Queue) (t : Telling) → joined (said_part w t) (unsaid w t) ≡ w
said_whole w t = queue_is _ _ (take-append-drop t.said w.bytes) (take-append-drop t.said_tokens w.tokens)

-- all of it, once it has that many
said_all : (w : Queue) (t : Telling) → t.said ≡ length w.bytes → t.said_tokens ≡ length w.tokens → said_part w t ≡ w
said_all w t bytes tokens =
    queue_is _ _ (ap (λ (n : ℕ). take n w.bytes) bytes ∙ take-length w.bytes) (ap (λ (n : ℕ). take n w.tokens) tokens ∙ take-length w.tokens)

-- more is put behind it
said_more : (w : Watched) (more : Queue) → IsWithin w → said_part (joined w.waiting more) w.telling ≡ said_part w.waiting w.telling
said_more w more within =
    queue_is _ _
    (let h = within.bytes in take-append-le w.telling.said w.waiting.bytes more.bytes h)
    (let h = within.tokens in take-append-le w.telling.said_tokens w.waiting.tokens more.tokens h)

-- what goes and what is left
front_and_behind : (n : ℕ) (q : Queue) → joined (front n q) (behind n q) ≡ q
front_and_behind n q = queue_is _ _ (take-append-drop n q.bytes) (tokens (n == 0))
  where
    tokens : (none : Bool) → (if none then [] else q.tokens) ++ (if none then q.tokens else []) ≡ q.tokens
    tokens true = refl
    tokens false = append-nil q.tokens

-- what is left is all said, if all that was there is
tokens_left : (n : ℕ) (xs : List Token) (k : ℕ) → k ≡ length xs → (if n == 0 then k else 0) ≡ length (if n == 0 then xs else [])
tokens_left n xs k is = by (n == 0)
  where
    by : (b : Bool) → (if b then k else 0) ≡ length (if b then xs else [])
    by true = is
    by false = refl

bytes_left : (n : ℕ) (xs : List ℕ) (k : ℕ) → k ≡ length xs → k - n ≡ length (drop n xs)
bytes_left n xs k is = omega (arith, is, length-drop n xs)

left_all : (n : ℕ) (w : Queue) (t : Telling) → t.said ≡ length w.bytes → t.said_tokens ≡ length w.tokens → said_part (behind n w) (left_off n t) ≡ behind n w
left_all n w t bytes tokens =
    said_all (behind n w) (left_off n t) (bytes_left n w.bytes t.said bytes) (tokens_left n w.tokens t.said_tokens tokens)

-- ---- catching up

-- what a telling has after it caught up
abbrev HasAll : Queue → Telling → Type 0
HasAll w t = (t.said ≡ length w.bytes) × (t.said_tokens ≡ length w.tokens)

caught_all : (peer : Side) (unread : ℕ) (w : Queue) (t t' : Telling) → t' ≡ caught_up peer unread w t → HasAll w t'
caught_all peer unread w t t' is = (ap (λ (x : Telling). x.said) is, ap (λ (x : Telling). x.said_tokens) is)

-- What the follower has of what waits after it caught up, as far as there was memory.
abbrev Catches : Side → Side → Queue → Queue → Telling → Telling → Type 0
Catches peer side q w t t' =
    (told : Queue) × Calls side q t.follower t'.follower nothing (joined q (said_by peer side told)) × (joined (said_part w t) told ≡ said_part w t')
    × (t'.kept ≡ t.kept) × ((HasAll w t') ⊎ ((t'.said ≡ t.said) × (t'.said_tokens ≡ t.said_tokens)))

catches : (peer side : Side) (q : Queue) (unread : ℕ) (w : Queue) (t : Telling) (r : Result (Unit {0}) OutOfMemory) (t' : Telling)
    → CatchesUp peer unread w t r t' → Catches peer side q w t t'
catches peer side q unread w t (Ok done) t' is =
    let all = caught_all peer unread w t t' is in (
      unsaid w t,
      says_all peer side q unread (unsaid w t) t.follower t'.follower (ap (λ (x : Telling). x.follower) is),
      said_whole w t ∙ sym (said_all w t' all.0 all.1),
      ap (λ (x : Telling). x.kept) is,
      inl all,
    )
catches peer side q unread w t (Err e) t' (inl same) = (
  nothing,
  subst (λ (x : Queue). Calls side q t.follower t'.follower nothing x) (sym (none_joined peer side q)) (no_calls side q t.follower t'.follower (ap (λ (x : Telling). x.follower) same)),
  joined_nothing (said_part w t) ∙ ap (said_part w) (sym same),
  ap (λ (x : Telling). x.kept) same,
  inr (ap (λ (x : Telling). x.said) same, ap (λ (x : Telling). x.said_tokens) same),
)
catches peer side q unread w t (Err e) t' (inr (inl is)) = (
  nothing,
  subst (λ (x : Queue). Calls side q t.follower t'.follower nothing x) (sym (none_joined peer side q)) (releases peer side q unread t.follower t'.follower (ap (λ (x : Telling). x.follower) is)),
  joined_nothing (said_part w t) ∙ ap (said_part w) (sym is),
  ap (λ (x : Telling). x.kept) is,
  inr (ap (λ (x : Telling). x.said) is, ap (λ (x : Telling). x.said_tokens) is),
)
catches peer side q unread w t (Err e) t' (inr (inr is)) =
    let bytes : t'.said ≡ length w.bytes = ap (λ (x : Telling). x.said) is in
    let tokens : t'.said_tokens ≡ length w.tokens = ap (λ (x : Telling). x.said_tokens) is in (
      unsaid w t,
      says peer side q unread (unsaid w t) t.follower t'.follower (ap (λ (x : Telling). x.follower) is),
      said_whole w t ∙ sym (said_all w t' bytes tokens),
      ap (λ (x : Telling). x.kept) is,
      inl (bytes, tokens),
    )

-- ---- what is handed out or kept

pub hands_by : (t t' : Telling) (found : Told × Message ℕ Token) (lent : LentTold) (s : Status) (lent' : LentTold) → HandsTold t found lent s lent' t'
    → ((s ≡ status.Ok) × (t' ≡ t)) ⊎ ((s ≡ status.TooSmall) × (t' ≡ record t { kept = Some found }))
hands_by t t' found lent s lent' h =
    elim (either_bool (fits_told (args_in found.0.what (content found.1)) lent.arguments lent.bytes) h) [
      | inl here ↦ inl (here.0, here.1)
      | inr here ↦ inr (here.0, here.1)
    ]

pub hands_follower : (t : Telling) (found : Told × Message ℕ Token) (lent : LentTold) (s : Status) (lent' : LentTold) (t' : Telling) → HandsTold t found lent s lent' t'
    → t'.follower ≡ t.follower
hands_follower t found lent s lent' t' h =
    elim (hands_by t t' found lent s lent' h) [ inl x ↦ ap (λ (y : Telling). y.follower) x.1 | inr x ↦ ap (λ (y : Telling). y.follower) x.1 ]

hands_said : (t : Telling) (found : Told × Message ℕ Token) (lent : LentTold) (s : Status) (lent' : LentTold) (t' : Telling) → HandsTold t found lent s lent' t'
    → t'.said ≡ t.said
hands_said t found lent s lent' t' h =
    elim (hands_by t t' found lent s lent' h) [ inl x ↦ ap (λ (y : Telling). y.said) x.1 | inr x ↦ ap (λ (y : Telling). y.said) x.1 ]

hands_tokens : (t : Telling) (found : Told × Message ℕ Token) (lent : LentTold) (s : Status) (lent' : LentTold) (t' : Telling) → HandsTold t found lent s lent' t'
    → t'.said_tokens ≡ t.said_tokens
hands_tokens t found lent s lent' t' h =
    elim (hands_by t t' found lent s lent' h) [ inl x ↦ ap (λ (y : Telling). y.said_tokens) x.1 | inr x ↦ ap (λ (y : Telling). y.said_tokens) x.1 ]

hands_or_keeps : (t : Telling) (found : Told × Message ℕ Token) (lent : LentTold) (s : Status) (lent' : LentTold) (t' : Telling) → t.kept ≡ None
    → HandsTold t found lent s lent' t' → handed_if s found ++ kept_in t' ≡ found ∷ []
hands_or_keeps t found lent s lent' t' none h =
    elim (hands_by t t' found lent s lent' h) [
      | inl x ↦ ap (λ (e : Status). handed_if e found ++ kept_in t') x.0 ∙ ap (λ (y : Telling). found ∷ list_of y.kept) x.1 ∙ ap (λ (k : Option (Told × Message ℕ Token)). found ∷ list_of k) none
      | inr x ↦ ap (λ (e : Status). handed_if e found ++ kept_in t') x.0 ∙ ap kept_in x.1
    ]

-- the follower's call
tells_call : (side : Side) (q : Queue) (table : List InterfaceRow) (f f' : FollowState) (found : Told × Message ℕ Token) (piece : Queue)
    → Tells table f found.0 (content found.1) piece f' → Calls side q f f' (from_side side found.0.side piece) q
tells_call side q table f f' found piece tells =
    (TookOut table found.0 (content found.1) piece ∷ [], (f', tells, refl), joined_nothing (from_side side found.0.side piece), refl)

-- and where it tells nothing
turns_call : (side : Side) (q : Queue) (table : List InterfaceRow) (f f' : FollowState) → (stretches : List Stretch) × Turns table f stretches f'
    → Calls side q f f' nothing q
turns_call side q table f f' turns = (TookNothing table ∷ [], (f', turns, refl), refl, refl)

-- ---- how much the follower has

same_said : (b a : Watched) (out : Queue) → a.waiting ≡ b.waiting → a.telling.said ≡ b.telling.said → a.telling.said_tokens ≡ b.telling.said_tokens
    → joined out (said_part b.waiting b.telling) ≡ joined (joined out nothing) (said_part a.waiting a.telling)
same_said b a out waiting said tokens =
    ap (λ (x : Queue). joined out x)
    (queue_is _ _
    (ap (λ (n : ℕ). take n b.waiting.bytes) (sym said) ∙ ap (λ (w : Queue). take a.telling.said w.bytes) (sym waiting))
    (ap (λ (n : ℕ). take n b.waiting.tokens) (sym tokens) ∙ ap (λ (w : Queue). take a.telling.said_tokens w.tokens) (sym waiting)))
    ∙ ap (λ (x : Queue). joined x (said_part a.waiting a.telling)) (sym (joined_nothing out))

same_within : (b a : Watched) → a.waiting ≡ b.waiting → a.telling.said ≡ b.telling.said → a.telling.said_tokens ≡ b.telling.said_tokens → IsWithin b → IsWithin a
same_within b a waiting said tokens within =
    let bytes = ap (λ (w : Queue). length w.bytes) waiting in
    let more = ap (λ (w : Queue). length w.tokens) waiting in
    record { bytes = omega (arith, bytes, said, within.bytes); tokens = omega (arith, more, tokens, within.tokens) }

caught_within : (b : Watched) (t : Telling) → IsWithin b → (HasAll b.waiting t) ⊎ ((t.said ≡ b.telling.said) × (t.said_tokens ≡ b.telling.said_tokens))
    → IsWithin (record b { telling = t })
caught_within b t within (inl all) = let x = all.0 in let y = all.1 in record { bytes = omega (arith, x); tokens = omega (arith, y) }
caught_within b t within (inr same) =
    let x = same.0 in let y = same.1 in record { bytes = omega (arith, x, within.bytes); tokens = omega (arith, y, within.tokens) }

more_within : (b : Watched) (more : Queue) → IsWithin b → IsWithin (record b { waiting = joined b.waiting more })
more_within b more within = record {
  bytes = omega (arith, length-append b.waiting.bytes more.bytes, within.bytes);
  tokens = omega (arith, length-append b.waiting.tokens more.tokens, within.tokens);
}

left_within : (n : ℕ) (w : Queue) (t : Telling) → t.said ≡ length w.bytes → t.said_tokens ≡ length w.tokens
    → IsWithin (record { telling = left_off n t; waiting = behind n w })
left_within n w t bytes tokens =
    let x = bytes_left n w.bytes t.said bytes in
    let y = tokens_left n w.tokens t.said_tokens tokens in
    record { bytes = omega (arith, x); tokens = omega (arith, y) }

within_after : (peer : Side) (b a : Watched) (d : Deed) → Does peer b d a → IsWithin b → IsWithin a
within_after peer b a (Heard bytes ds) is within =
    same_within b a (ap (λ (w : Watched). w.waiting) is) (ap (λ (w : Watched). w.telling.said) is) (ap (λ (w : Watched). w.telling.said_tokens) is) within
within_after peer b a (CaughtUp unread r) (t, caught, is) within =
    subst IsWithin (sym is) (caught_within b t within (catches peer peer nothing unread b.waiting b.telling r t caught).4)
within_after peer b a (Wrote more) is within = subst IsWithin (sym is) (more_within b more within)
within_after peer b a (SentOff unread n gone) (t, caught, gone_is, is) within =
    let all = caught_all peer unread b.waiting b.telling t caught in subst IsWithin (sym is) (left_within n b.waiting t all.0 all.1)
within_after peer b a (Found table found piece lent s lent') (f, t, none, tells, hands, is) within =
    same_within b a (ap (λ (w : Watched). w.waiting) is)
    (ap (λ (w : Watched). w.telling.said) is ∙ hands_said (record b.telling { follower = f }) found lent s lent' t hands)
    (ap (λ (w : Watched). w.telling.said_tokens) is ∙ hands_tokens (record b.telling { follower = f }) found lent s lent' t hands) within
within_after peer b a (FoundAgain found lent s lent') (t, kept, hands, is) within =
    same_within b a (ap (λ (w : Watched). w.waiting) is)
    (ap (λ (w : Watched). w.telling.said) is ∙ hands_said (record b.telling { kept = None }) found lent s lent' t hands)
    (ap (λ (w : Watched). w.telling.said_tokens) is ∙ hands_tokens (record b.telling { kept = None }) found lent s lent' t hands) within
within_after peer b a (FoundNone table) (f, none, turns, is) within =
    same_within b a (ap (λ (w : Watched). w.waiting) is) (ap (λ (w : Watched). w.telling.said) is) (ap (λ (w : Watched). w.telling.said_tokens) is) within
within_after peer b a (LackedMemory table) (f, none, turns, is) within =
    same_within b a (ap (λ (w : Watched). w.waiting) is) (ap (λ (w : Watched). w.telling.said) is) (ap (λ (w : Watched). w.telling.said_tokens) is) within

-- ---- what is heard

-- what catches up is no more of what the peer says
caught_heard : (peer : Side) (q : Queue) (f f' : FollowState) (told : Queue) → Calls peer q f f' nothing (joined q (said_by peer peer told))
    → Calls peer q f f' nothing (joined q nothing)
caught_heard peer q f f' told c = subst (λ (x : Queue). Calls peer q f f' nothing (joined q x)) (from_other peer told) c

-- and all of what the other side does
caught_said : (peer : Side) (q : Queue) (f f' : FollowState) (told : Queue)
    → Calls (other_side peer) q f f' nothing (joined q (said_by peer (other_side peer) told)) → Calls (other_side peer) q f f' nothing (joined q told)
caught_said peer q f f' told c = subst (λ (x : Queue). Calls (other_side peer) q f f' nothing (joined q x)) (from_own (other_side peer) told) c

none_sent : (side : Side) → untold (sent side new_follower) ≡ nothing
none_sent Client = refl
none_sent Server = refl

-- where nothing is told
heard_none : (peer : Side) (before : Queue) (b a : Watched) (f : FollowState) (table : List InterfaceRow) → (stretches : List Stretch) × Turns table b.telling.follower stretches f
    → a.telling.follower ≡ f → IsFollowed peer a.telling.follower
    → (joined (joined before nothing) (untold (sent peer a.telling.follower)) ≡ joined (joined before (untold (sent peer b.telling.follower))) nothing)
    × IsFollowed peer b.telling.follower
heard_none peer before b a f table turns same on =
    let q : Queue = joined before (untold (sent peer b.telling.follower)) in
    keeps peer before q b.telling.follower a.telling.follower nothing (joined q nothing) refl
    (subst (λ (x : Queue). Calls peer q b.telling.follower a.telling.follower nothing x) (sym (joined_nothing q))
    (subst (λ (g : FollowState). Calls peer q b.telling.follower g nothing q) (sym same) (turns_call peer q table b.telling.follower f turns))) on

heard_step : (peer : Side) (before : Queue) (b a : Watched) (d : Deed) → Does peer b d a → IsFollowed peer a.telling.follower
    → (joined (joined before (told_in peer d)) (untold (sent peer a.telling.follower)) ≡ joined (joined before (untold (sent peer b.telling.follower))) (heard_in d))
    × IsFollowed peer b.telling.follower
heard_step peer before b a (Heard bytes ds) is on =
    let q : Queue = record { bytes = bytes; tokens = as_tokens ds } in
    keeps peer before (joined before (untold (sent peer b.telling.follower))) b.telling.follower a.telling.follower nothing
    (joined (joined before (untold (sent peer b.telling.follower))) q) refl (
      Came peer q ∷ [],
      (a.telling.follower, ap (λ (w : Watched). w.telling.follower) is, refl),
      refl,
      ap (λ (x : Queue). joined (joined before (untold (sent peer b.telling.follower))) x) (from_own peer q),
    ) on
heard_step peer before b a (CaughtUp unread r) (t, caught, is) on =
    let q : Queue = joined before (untold (sent peer b.telling.follower)) in
    let same : a.telling.follower ≡ t.follower = ap (λ (w : Watched). w.telling.follower) is in
    let c = catches peer peer q unread b.waiting b.telling r t caught in
    keeps peer before q b.telling.follower a.telling.follower nothing (joined q nothing) refl
    (subst (λ (f : FollowState). Calls peer q b.telling.follower f nothing (joined q nothing)) (sym same)
    (caught_heard peer q b.telling.follower t.follower c.0 c.1)) on
heard_step peer before b a (Wrote more) is on =
    let q : Queue = joined before (untold (sent peer b.telling.follower)) in
    keeps peer before q b.telling.follower a.telling.follower nothing (joined q nothing) refl
    (subst (λ (x : Queue). Calls peer q b.telling.follower a.telling.follower nothing x) (sym (joined_nothing q))
    (no_calls peer q b.telling.follower a.telling.follower (ap (λ (w : Watched). w.telling.follower) is))) on
heard_step peer before b a (SentOff unread n out) (t, caught, out_is, is) on =
    let q : Queue = joined before (untold (sent peer b.telling.follower)) in
    let same : a.telling.follower ≡ t.follower = ap (λ (w : Watched). w.telling.follower) is in
    let c = catches peer peer q unread b.waiting b.telling (Ok tt) t caught in
    keeps peer before q b.telling.follower a.telling.follower nothing (joined q nothing) refl
    (subst (λ (f : FollowState). Calls peer q b.telling.follower f nothing (joined q nothing)) (sym same)
    (caught_heard peer q b.telling.follower t.follower c.0 c.1)) on
heard_step peer before b a (Found table found piece lent s lent') (f, t, none, tells, hands, is) on =
    let q : Queue = joined before (untold (sent peer b.telling.follower)) in
    let same : a.telling.follower ≡ f = ap (λ (w : Watched). w.telling.follower) is ∙ hands_follower (record b.telling { follower = f }) found lent s lent' t hands in
    keeps peer before q b.telling.follower a.telling.follower (from_side peer found.0.side piece) (joined q nothing) refl
    (subst (λ (x : Queue). Calls peer q b.telling.follower a.telling.follower (from_side peer found.0.side piece) x) (sym (joined_nothing q))
    (subst (λ (g : FollowState). Calls peer q b.telling.follower g (from_side peer found.0.side piece) q) (sym same)
    (tells_call peer q table b.telling.follower f found piece tells))) on
heard_step peer before b a (FoundAgain found lent s lent') (t, kept, hands, is) on =
    let q : Queue = joined before (untold (sent peer b.telling.follower)) in
    let same : a.telling.follower ≡ b.telling.follower = ap (λ (w : Watched). w.telling.follower) is ∙ hands_follower (record b.telling { kept = None }) found lent s lent' t hands in
    keeps peer before q b.telling.follower a.telling.follower nothing (joined q nothing) refl
    (subst (λ (x : Queue). Calls peer q b.telling.follower a.telling.follower nothing x) (sym (joined_nothing q))
    (no_calls peer q b.telling.follower a.telling.follower same)) on
heard_step peer before b a (FoundNone table) (f, none, (stretches, turns, last, order), is) on =
    heard_none peer before b a f table (stretches, turns) (ap (λ (w : Watched). w.telling.follower) is) on
heard_step peer before b a (LackedMemory table) (f, none, turns, is) on = heard_none peer before b a f table turns (ap (λ (w : Watched). w.telling.follower) is) on

heard_run : (peer : Side) (before : Queue) (run : List Deed) (b a : Watched) → Leads peer b run a → IsFollowed peer a.telling.follower
    → (joined (joined before (all_told peer run)) (untold (sent peer a.telling.follower)) ≡ joined (joined before (untold (sent peer b.telling.follower))) (all_heard run))
    × IsFollowed peer b.telling.follower
heard_run peer before [] b a is on = (
  ap (λ (q : Queue). joined q (untold (sent peer a.telling.follower))) (joined_nothing before)
      ∙ ap (λ (w : Watched). joined before (untold (sent peer w.telling.follower))) is
      ∙ sym (joined_nothing (joined before (untold (sent peer b.telling.follower)))),
  sym (ap (λ (w : Watched). (sent peer w.telling.follower).is_followed) is) ∙ on,
)
heard_run peer before (d ∷ run) b a (mid, does, leads) on =
    let rest = heard_run peer (joined before (told_in peer d)) run mid a leads on in
    let one = heard_step peer before b mid d does rest.1 in (
      ap (λ (q : Queue). joined q (untold (sent peer a.telling.follower))) (sym (joined_assoc before (told_in peer d) (all_told peer run)))
          ∙ rest.0 ∙ ap (λ (q : Queue). joined q (all_heard run)) one.0
          ∙ joined_assoc (joined before (untold (sent peer b.telling.follower))) (heard_in d) (all_heard run),
      one.1,
    )

pub heard_once : (peer : Side) (run : List Deed) (a : Watched) → Leads peer new_watched run a → (sent peer a.telling.follower).is_followed ≡ true
    → joined (all_told peer run) (untold (sent peer a.telling.follower)) ≡ all_heard run
heard_once peer run a leads on =
    (heard_run peer nothing run new_watched a leads on).0 ∙ ap (λ (q : Queue). joined (joined nothing q) (all_heard run)) (none_sent peer)

-- ---- what is said

-- where nothing is told
said_none : (peer : Side) (before out : Queue) (b a : Watched) (f : FollowState) (table : List InterfaceRow) → (stretches : List Stretch) × Turns table b.telling.follower stretches f
    → a.telling.follower ≡ f → joined out (said_part b.waiting b.telling) ≡ joined (joined out nothing) (said_part a.waiting a.telling)
    → IsFollowed (other_side peer) a.telling.follower
    → (joined before (untold (sent (other_side peer) b.telling.follower)) ≡ joined out (said_part b.waiting b.telling)
    → joined (joined before nothing) (untold (sent (other_side peer) a.telling.follower)) ≡ joined (joined out nothing) (said_part a.waiting a.telling))
    × IsFollowed (other_side peer) b.telling.follower
said_none peer before out b a f table turns same said on =
    let u : Queue = joined before (untold (sent (other_side peer) b.telling.follower)) in
    let k = keeps (other_side peer) before u b.telling.follower a.telling.follower nothing u refl
    (subst (λ (g : FollowState). Calls (other_side peer) u b.telling.follower g nothing u) (sym same) (turns_call (other_side peer) u table b.telling.follower f turns)) on in
    (λ e. k.0 ∙ e ∙ said, k.1)

-- what is said with a deed, if this was said with those before it
said_step : (peer : Side) (before out : Queue) (b a : Watched) (d : Deed) → Does peer b d a → IsWithin b → IsFollowed (other_side peer) a.telling.follower
    → (joined before (untold (sent (other_side peer) b.telling.follower)) ≡ joined out (said_part b.waiting b.telling)
    → joined (joined before (told_in (other_side peer) d)) (untold (sent (other_side peer) a.telling.follower)) ≡ joined (joined out (sent_in d)) (said_part a.waiting a.telling))
    × IsFollowed (other_side peer) b.telling.follower
said_step peer before out b a (Heard bytes ds) is within on =
    let q : Queue = record { bytes = bytes; tokens = as_tokens ds } in
    let u : Queue = joined before (untold (sent (other_side peer) b.telling.follower)) in
    let k = keeps (other_side peer) before u b.telling.follower a.telling.follower nothing u refl (
      Came peer q ∷ [],
      (a.telling.follower, ap (λ (w : Watched). w.telling.follower) is, refl),
      refl,
      ap (λ (x : Queue). joined u x) (to_other peer q) ∙ joined_nothing u,
    ) on in (
      λ e. k.0 ∙ e ∙ same_said b a out (ap (λ (w : Watched). w.waiting) is) (ap (λ (w : Watched). w.telling.said) is) (ap (λ (w : Watched). w.telling.said_tokens) is),
      k.1,
    )
said_step peer before out b a (CaughtUp unread r) (t, caught, is) within on =
    let u : Queue = joined before (untold (sent (other_side peer) b.telling.follower)) in
    let same : a.telling.follower ≡ t.follower = ap (λ (w : Watched). w.telling.follower) is in
    let c = catches peer (other_side peer) u unread b.waiting b.telling r t caught in
    let k = keeps (other_side peer) before u b.telling.follower a.telling.follower nothing (joined u c.0) refl
    (subst (λ (f : FollowState). Calls (other_side peer) u b.telling.follower f nothing (joined u c.0)) (sym same)
    (caught_said peer u b.telling.follower t.follower c.0 c.1)) on in (
      λ e. k.0 ∙ ap (λ (x : Queue). joined x c.0) e ∙ joined_assoc out (said_part b.waiting b.telling) c.0 ∙ ap (λ (x : Queue). joined out x) c.2
          ∙ ap (λ (x : Queue). joined x (said_part b.waiting t)) (sym (joined_nothing out))
          ∙ ap (λ (w : Watched). joined (joined out nothing) (said_part w.waiting w.telling)) (sym is),
      k.1,
    )
said_step peer before out b a (Wrote more) is within on =
    let u : Queue = joined before (untold (sent (other_side peer) b.telling.follower)) in
    let k = keeps (other_side peer) before u b.telling.follower a.telling.follower nothing u refl
    (no_calls (other_side peer) u b.telling.follower a.telling.follower (ap (λ (w : Watched). w.telling.follower) is)) on in (
      λ e. k.0 ∙ e ∙ ap (λ (x : Queue). joined out x) (sym (said_more b more within))
          ∙ ap (λ (x : Queue). joined x (said_part (joined b.waiting more) b.telling)) (sym (joined_nothing out))
          ∙ ap (λ (w : Watched). joined (joined out nothing) (said_part w.waiting w.telling)) (sym is),
      k.1,
    )
said_step peer before out b a (SentOff unread n gone) (t, caught, gone_is, is) within on =
    let u : Queue = joined before (untold (sent (other_side peer) b.telling.follower)) in
    let same : a.telling.follower ≡ t.follower = ap (λ (w : Watched). w.telling.follower) is in
    let c = catches peer (other_side peer) u unread b.waiting b.telling (Ok tt) t caught in
    let all = caught_all peer unread b.waiting b.telling t caught in
    let k = keeps (other_side peer) before u b.telling.follower a.telling.follower nothing (joined u c.0) refl
    (subst (λ (f : FollowState). Calls (other_side peer) u b.telling.follower f nothing (joined u c.0)) (sym same)
    (caught_said peer u b.telling.follower t.follower c.0 c.1)) on in (
      λ e. k.0 ∙ ap (λ (x : Queue). joined x c.0) e ∙ joined_assoc out (said_part b.waiting b.telling) c.0
          ∙ ap (λ (x : Queue). joined out x) (c.2 ∙ said_all b.waiting t all.0 all.1 ∙ sym (front_and_behind n b.waiting))
          ∙ sym (joined_assoc out (front n b.waiting) (behind n b.waiting))
          ∙ ap (λ (x : Queue). joined (joined out x) (behind n b.waiting)) (sym gone_is)
          ∙ ap (λ (x : Queue). joined (joined out gone) x) (sym (left_all n b.waiting t all.0 all.1))
          ∙ ap (λ (w : Watched). joined (joined out gone) (said_part w.waiting w.telling)) (sym is),
      k.1,
    )
said_step peer before out b a (Found table found piece lent s lent') (f, t, none, tells, hands, is) within on =
    let u : Queue = joined before (untold (sent (other_side peer) b.telling.follower)) in
    let same : a.telling.follower ≡ f = ap (λ (w : Watched). w.telling.follower) is ∙ hands_follower (record b.telling { follower = f }) found lent s lent' t hands in
    let said : a.telling.said ≡ b.telling.said = ap (λ (w : Watched). w.telling.said) is ∙ hands_said (record b.telling { follower = f }) found lent s lent' t hands in
    let tokens : a.telling.said_tokens ≡ b.telling.said_tokens
    = ap (λ (w : Watched). w.telling.said_tokens) is ∙ hands_tokens (record b.telling { follower = f }) found lent s lent' t hands in
    let k = keeps (other_side peer) before u b.telling.follower a.telling.follower (from_side (other_side peer) found.0.side piece) u refl
    (subst (λ (g : FollowState). Calls (other_side peer) u b.telling.follower g (from_side (other_side peer) found.0.side piece) u) (sym same)
    (tells_call (other_side peer) u table b.telling.follower f found piece tells)) on in (
      λ e. k.0 ∙ e ∙ same_said b a out (ap (λ (w : Watched). w.waiting) is) said tokens,
      k.1,
    )
said_step peer before out b a (FoundAgain found lent s lent') (t, kept, hands, is) within on =
    let u : Queue = joined before (untold (sent (other_side peer) b.telling.follower)) in
    let same : a.telling.follower ≡ b.telling.follower = ap (λ (w : Watched). w.telling.follower) is ∙ hands_follower (record b.telling { kept = None }) found lent s lent' t hands in
    let said : a.telling.said ≡ b.telling.said = ap (λ (w : Watched). w.telling.said) is ∙ hands_said (record b.telling { kept = None }) found lent s lent' t hands in
    let tokens : a.telling.said_tokens ≡ b.telling.said_tokens
    = ap (λ (w : Watched). w.telling.said_tokens) is ∙ hands_tokens (record b.telling { kept = None }) found lent s lent' t hands in
    let k = keeps (other_side peer) before u b.telling.follower a.telling.follower nothing u refl (no_calls (other_side peer) u b.telling.follower a.telling.follower same) on in (
      λ e. k.0 ∙ e ∙ same_said b a out (ap (λ (w : Watched). w.waiting) is) said tokens,
      k.1,
    )
said_step peer before out b a (FoundNone table) (f, none, (stretches, turns, last, order), is) within on =
    said_none peer before out b a f table (stretches, turns) (ap (λ (w : Watched). w.telling.follower) is)
    (same_said b a out (ap (λ (w : Watched). w.waiting) is) (ap (λ (w : Watched). w.telling.said) is) (ap (λ (w : Watched). w.telling.said_tokens) is)) on
said_step peer before out b a (LackedMemory table) (f, none, turns, is) within on =
    said_none peer before out b a f table turns (ap (λ (w : Watched). w.telling.follower) is)
    (same_said b a out (ap (λ (w : Watched). w.waiting) is) (ap (λ (w : Watched). w.telling.said) is) (ap (λ (w : Watched). w.telling.said_tokens) is)) on

said_run : (peer : Side) (before out : Queue) (run : List Deed) (b a : Watched) → Leads peer b run a → IsWithin b → IsFollowed (other_side peer) a.telling.follower
    → (joined before (untold (sent (other_side peer) b.telling.follower)) ≡ joined out (said_part b.waiting b.telling)
    → joined (joined before (all_told (other_side peer) run)) (untold (sent (other_side peer) a.telling.follower)) ≡ joined (joined out (all_sent run)) (said_part a.waiting a.telling))
    × IsFollowed (other_side peer) b.telling.follower
said_run peer before out [] b a is within on = (
  λ e. ap (λ (q : Queue). joined q (untold (sent (other_side peer) a.telling.follower))) (joined_nothing before)
      ∙ ap (λ (w : Watched). joined before (untold (sent (other_side peer) w.telling.follower))) is ∙ e
      ∙ ap (λ (q : Queue). joined q (said_part b.waiting b.telling)) (sym (joined_nothing out))
      ∙ ap (λ (w : Watched). joined (joined out nothing) (said_part w.waiting w.telling)) (sym is),
  sym (ap (λ (w : Watched). (sent (other_side peer) w.telling.follower).is_followed) is) ∙ on,
)
said_run peer before out (d ∷ run) b a (mid, does, leads) within on =
    let inside = within_after peer b mid d does within in
    let rest = said_run peer (joined before (told_in (other_side peer) d)) (joined out (sent_in d)) run mid a leads inside on in
    let one = said_step peer before out b mid d does within rest.1 in (
      λ e. ap (λ (q : Queue). joined q (untold (sent (other_side peer) a.telling.follower))) (sym (joined_assoc before (told_in (other_side peer) d) (all_told (other_side peer) run)))
          ∙ rest.0 (one.0 e)
          ∙ ap (λ (q : Queue). joined q (said_part a.waiting a.telling)) (joined_assoc out (sent_in d) (all_sent run)),
      one.1,
    )

pub said_once : (peer : Side) (run : List Deed) (a : Watched) → Leads peer new_watched run a → (sent (other_side peer) a.telling.follower).is_followed ≡ true
    → joined (all_told (other_side peer) run) (untold (sent (other_side peer) a.telling.follower)) ≡ joined (all_sent run) (said_part a.waiting a.telling)
said_once peer run a leads on =
    (said_run peer nothing nothing run new_watched a leads (record { bytes = omega arith; tokens = omega arith }) on).0
    (ap (λ (q : Queue). joined nothing q) (none_sent (other_side peer)))

-- ---- what is handed out

handed_once_step : (peer : Side) (b a : Watched) (d : Deed) → Does peer b d a → handed_in d ++ kept_in a.telling ≡ kept_in b.telling ++ found_in d
handed_once_step peer b a (Heard bytes ds) is = ap (λ (w : Watched). kept_in w.telling) is ∙ sym (append-nil (kept_in b.telling))
handed_once_step peer b a (CaughtUp unread r) (t, caught, is) =
    ap (λ (w : Watched). kept_in w.telling) is ∙ ap list_of (catches peer peer nothing unread b.waiting b.telling r t caught).3 ∙ sym (append-nil (kept_in b.telling))
handed_once_step peer b a (Wrote more) is = ap (λ (w : Watched). kept_in w.telling) is ∙ sym (append-nil (kept_in b.telling))
handed_once_step peer b a (SentOff unread n out) (t, caught, out_is, is) =
    ap (λ (w : Watched). kept_in w.telling) is ∙ ap list_of (catches peer peer nothing unread b.waiting b.telling (Ok tt) t caught).3 ∙ sym (append-nil (kept_in b.telling))
handed_once_step peer b a (Found table found piece lent s lent') (f, t, none, tells, hands, is) =
    ap (λ (w : Watched). handed_if s found ++ kept_in w.telling) is
    ∙ hands_or_keeps (record b.telling { follower = f }) found lent s lent' t none hands
    ∙ ap (λ (k : Option (Told × Message ℕ Token)). list_of k ++ found ∷ []) (sym none)
handed_once_step peer b a (FoundAgain found lent s lent') (t, kept, hands, is) =
    ap (λ (w : Watched). handed_if s found ++ kept_in w.telling) is
    ∙ hands_or_keeps (record b.telling { kept = None }) found lent s lent' t refl hands
    ∙ ap list_of (sym kept) ∙ sym (append-nil (kept_in b.telling))
handed_once_step peer b a (FoundNone table) (f, none, turns, is) = ap (λ (w : Watched). kept_in w.telling) is ∙ sym (append-nil (kept_in b.telling))
handed_once_step peer b a (LackedMemory table) (f, none, turns, is) = ap (λ (w : Watched). kept_in w.telling) is ∙ sym (append-nil (kept_in b.telling))

handed_run : (peer : Side) (run : List Deed) (b a : Watched) → Leads peer b run a → all_handed run ++ kept_in a.telling ≡ kept_in b.telling ++ all_found run
handed_run peer [] b a is = ap (λ (w : Watched). kept_in w.telling) is ∙ sym (append-nil (kept_in b.telling))
handed_run peer (d ∷ run) b a (mid, does, leads) =
    append_assoc (handed_in d) (all_handed run) (kept_in a.telling)
    ∙ ap (λ (xs : List (Told × Message ℕ Token)). handed_in d ++ xs) (handed_run peer run mid a leads)
    ∙ sym (append_assoc (handed_in d) (kept_in mid.telling) (all_found run))
    ∙ ap (λ (xs : List (Told × Message ℕ Token)). xs ++ all_found run) (handed_once_step peer b mid d does)
    ∙ append_assoc (kept_in b.telling) (found_in d) (all_found run)

pub handed_once : (peer : Side) (run : List Deed) (a : Watched) → Leads peer new_watched run a → all_handed run ++ kept_in a.telling ≡ all_found run
handed_once peer run a leads = handed_run peer run new_watched a leads

-- ---- all that is released comes to its turn

leads_join : (xs ys : List Call) (f g h : FollowState) → calls.Leads f xs g → calls.Leads g ys h → calls.Leads f (xs ++ ys) h
leads_join [] ys f g h same more = subst (λ (x : FollowState). calls.Leads x ys h) same more
leads_join (x ∷ xs) ys f g h (mid, does, leads) more = (mid, does, leads_join xs ys mid g h leads more)

caught_calls : (peer : Side) (b a : Watched) (unread : ℕ) (r : Result (Unit {0}) OutOfMemory) (t : Telling) → CatchesUp peer unread b.waiting b.telling r t
    → a.telling.follower ≡ t.follower → (run : List Call) × calls.Leads b.telling.follower run a.telling.follower
caught_calls peer b a unread r t caught same =
    let (told, (run, leads, told_is, came_is), said, kept, has) = catches peer peer nothing unread b.waiting b.telling r t caught in
    (run, subst (λ (f : FollowState). calls.Leads b.telling.follower run f) (sym same) leads)

-- the follower's calls in a deed
deed_calls : (peer : Side) (b a : Watched) (d : Deed) → Does peer b d a → (run : List Call) × calls.Leads b.telling.follower run a.telling.follower
deed_calls peer b a (Heard bytes ds) is =
    (Came peer (record { bytes = bytes; tokens = as_tokens ds }) ∷ [], (a.telling.follower, ap (λ (w : Watched). w.telling.follower) is, refl))
deed_calls peer b a (CaughtUp unread r) (t, caught, is) = caught_calls peer b a unread r t caught (ap (λ (w : Watched). w.telling.follower) is)
deed_calls peer b a (Wrote more) is = ([], ap (λ (w : Watched). w.telling.follower) is)
deed_calls peer b a (SentOff unread n out) (t, caught, out_is, is) = caught_calls peer b a unread (Ok tt) t caught (ap (λ (w : Watched). w.telling.follower) is)
deed_calls peer b a (Found table found piece lent s lent') (f, t, none, tells, hands, is) =
    let same : a.telling.follower ≡ f = ap (λ (w : Watched). w.telling.follower) is ∙ hands_follower (record b.telling { follower = f }) found lent s lent' t hands in
    (TookOut table found.0 (content found.1) piece ∷ [], (f, tells, same))
deed_calls peer b a (FoundAgain found lent s lent') (t, kept, hands, is) =
    ([], ap (λ (w : Watched). w.telling.follower) is ∙ hands_follower (record b.telling { kept = None }) found lent s lent' t hands)
deed_calls peer b a (FoundNone table) (f, none, (stretches, turns, last, order), is) =
    (TookNothing table ∷ [], (f, (stretches, turns), ap (λ (w : Watched). w.telling.follower) is))
deed_calls peer b a (LackedMemory table) (f, none, turns, is) = (TookNothing table ∷ [], (f, turns, ap (λ (w : Watched). w.telling.follower) is))

run_calls : (peer : Side) (run : List Deed) (b a : Watched) → Leads peer b run a → (all : List Call) × calls.Leads b.telling.follower all a.telling.follower
run_calls peer [] b a is = ([], ap (λ (w : Watched). w.telling.follower) is)
run_calls peer (d ∷ run) b a (mid, does, leads) =
    let (xs, one) = deed_calls peer b mid d does in
    let (ys, rest) = run_calls peer run mid a leads in
    (xs ++ ys, leads_join xs ys b.telling.follower mid.telling.follower a.telling.follower one rest)

-- all but the last bytes are released, so many
released_all : (left : ℕ) (s : SentState) → length s.bytes ≤ (released_but left s).released + left
released_all left s = omega arith

-- a turn leaves what is untold, and how much of it is released
turn_leaves : (side turn : Side) (count : ℕ) (rest : List Stretch) (f : FollowState)
    → let g : FollowState = with_sent turn (ready_more count (sent turn f)) (record f { order = rest; side = turn }) in
    ((sent side g).bytes ≡ (sent side f).bytes) × ((sent side g).released ≡ (sent side f).released)
turn_leaves Client Client count rest f = (refl, refl)
turn_leaves Client Server count rest f = (refl, refl)
turn_leaves Server Client count rest f = (refl, refl)
turn_leaves Server Server count rest f = (refl, refl)

turns_leave : (table : List InterfaceRow) (side : Side) (stretches : List Stretch) (f f' : FollowState) → Turns table f stretches f'
    → ((sent side f').bytes ≡ (sent side f).bytes) × ((sent side f').released ≡ (sent side f).released)
turns_leave table side [] f f' same = (ap (λ (g : FollowState). (sent side g).bytes) same, ap (λ (g : FollowState). (sent side g).released) same)
turns_leave table side (stretch ∷ stretches) f f' (rest, is, none, more) =
    let one = turn_leaves side stretch.side stretch.count rest f in
    let two = turns_leave table side stretches (turned stretch rest f) f' more in
    (two.0 ∙ one.0, two.1 ∙ one.1)

-- so many bytes of a side are not released, or fewer
abbrev HasReleased : Side → ℕ → FollowState → Type 0
HasReleased side left f = length (sent side f).bytes ≤ (sent side f).released + left

still_released : (table : List InterfaceRow) (side : Side) (left : ℕ) (stretches : List Stretch) (f f' : FollowState) → Turns table f stretches f' → HasReleased side left f
    → HasReleased side left f'
still_released table side left stretches f f' turns has =
    let leaves = turns_leave table side stretches f f' turns in
    let bytes = ap (λ (xs : List ℕ). length xs) leaves.0 in
    let released = leaves.1 in omega (arith, bytes, released, has)

-- all is released that a catching up saw, of either side
caught_released : (peer : Side) (unread : ℕ) (w : Queue) (t : Telling)
    → HasReleased peer unread (caught_up peer unread w t).follower × HasReleased (other_side peer) 0 (caught_up peer unread w t).follower
caught_released Client unread w t =
    let said : Queue = unsaid w t in (released_all unread t.follower.client, released_all 0 (more_sent said.bytes said.tokens t.follower.server))
caught_released Server unread w t =
    let said : Queue = unsaid w t in (released_all unread t.follower.server, released_all 0 (more_sent said.bytes said.tokens t.follower.client))

pub none_waits : (peer : Side) (run : List Deed) (unread : ℕ) (table : List InterfaceRow) (w a : Watched) → Leads peer new_watched run w
    → Leads peer w (CaughtUp unread (Ok tt) ∷ (FoundNone table ∷ [])) a → NothingWaits peer unread a
none_waits peer run unread table w a before (mid, (t, caught, mid_is), (last, (f, none, (stretches, turns, spent, order), last_is), a_is)) =
    let (xs, first) = run_calls peer run new_watched w before in
    let (ys, more) = run_calls peer (CaughtUp unread (Ok tt) ∷ (FoundNone table ∷ [])) w a (mid, (t, caught, mid_is), (last, (f, none, (stretches, turns, spent, order), last_is), a_is)) in
    let all = leads_join xs ys new_follower w.telling.follower a.telling.follower first more in
    let is : a ≡ record w { telling = record t { follower = f } }
    = a_is ∙ last_is ∙ ap (λ (m : Watched). let v : Watched = record m { telling = record m.telling { follower = f } } in v) mid_is in
    let follower : a.telling.follower ≡ f = ap (λ (v : Watched). v.telling.follower) is in
    let path : Turns table (caught_up peer unread w.waiting w.telling).follower stretches f =
    subst (λ (x : Telling). Turns table x.follower stretches f) caught (subst (λ (m : Watched). Turns table m.telling.follower stretches f) mid_is turns) in
    let both = caught_released peer unread w.waiting w.telling in
    let heard : HasReleased peer unread f = still_released table peer unread stretches (caught_up peer unread w.waiting w.telling).follower f path both.0 in
    let said : HasReleased (other_side peer) 0 f =
    still_released table (other_side peer) 0 stretches (caught_up peer unread w.waiting w.telling).follower f path both.1 in
    let nothing_left : a.telling.follower.order ≡ [] = ap (λ (g : FollowState). g.order) follower ∙ order in
    let has = caught_all peer unread w.waiting w.telling t caught in record {
      order = nothing_left;
      heard = λ on.
          let come = turns_come a.telling.follower (xs ++ ys) peer all on nothing_left in
          let released = subst (HasReleased peer unread) (sym follower) heard in (come, omega (arith, come, released));
      said = λ on.
          let come = turns_come a.telling.follower (xs ++ ys) (other_side peer) all on nothing_left in
          let released = subst (HasReleased (other_side peer) 0) (sym follower) said in (come, omega (arith, come, released));
      mailbox = ap (λ (v : Watched). said_part v.waiting v.telling) is ∙ said_all w.waiting t has.0 has.1 ∙ sym (ap (λ (v : Watched). v.waiting) is);
    }

-- a message that was found is handed out or kept
handed_or_kept : (t t' : Telling) (found : Told × Message ℕ Token) (lent : LentTold) (s : Status) (lent' : LentTold) → HandsTold t found lent s lent' t'
    → (s ≡ status.Ok) ⊎ (s ≡ status.TooSmall)
handed_or_kept t t' found lent s lent' h = elim (hands_by t t' found lent s lent' h) [ inl x ↦ inl x.0 | inr x ↦ inr x.0 ]

pub found_by : (peer : Side) (table : List InterfaceRow) (w : Watched) (lent : LentTold) (s : Status) (lent' : LentTold) (t' : Telling)
    → TellsNextTo table w.telling lent s lent' t' → (d : Deed) × IsFound table lent s lent' d × Does peer w d (record w { telling = t' })
found_by peer table w lent s lent' t' (Ok None, mid, (none, tells, mid_is), (s_is, t_is, lent_is)) = (
  FoundNone table,
  (refl, s_is, lent_is),
  (mid.follower, none, tells, ap (λ (t : Telling). let v : Watched = record w { telling = t } in v) (t_is ∙ mid_is)),
)
found_by peer table w lent s lent' t' (Ok (Some found), mid, inl (kept, mid_is), hands) = (
  FoundAgain found lent s lent',
  (refl, refl, refl, handed_or_kept mid t' found lent s lent' hands),
  (t', kept, subst (λ (t : Telling). HandsTold t found lent s lent' t') mid_is hands, refl),
)
found_by peer table w lent s lent' t' (Ok (Some found), mid, inr (none, (piece, tells), mid_is), hands) = (
  Found table found piece lent s lent',
  (refl, refl, refl, refl, handed_or_kept mid t' found lent s lent' hands),
  (mid.follower, t', none, tells, subst (λ (t : Telling). HandsTold t found lent s lent' t') mid_is hands, refl),
)
found_by peer table w lent s lent' t' (Err e, mid, (none, turns, mid_is), (s_is, t_is, lent_is)) = (
  LackedMemory table,
  (refl, s_is, lent_is),
  (mid.follower, none, turns, ap (λ (t : Telling). let v : Watched = record w { telling = t } in v) (t_is ∙ mid_is)),
)

-- what waits once so many of the bytes were sent
pub left_waiting : (count : ℕ) (m : MailboxState) (q : Descriptors) → behind (sent_of count m) (waiting_in m q) ≡ waiting_in (mailbox_after count m) (queue_after count m q)
left_waiting count m q = queue_is _ _ refl (by (sent_of count m == 0))
  where
    by : (b : Bool) → (if b then as_tokens (map shown (descriptors_of q m.waiting.tokens)) else [])
        ≡ as_tokens (map shown (descriptors_of (if b then q else all_taken_out q m.waiting.tokens) (if b then m.waiting.tokens else [])))
    by true = refl
    by false = refl
