-- That each message is told once, and that all that is released comes to its turn.
use Rattle.std.specs.Prelude.{◌≡◌, ℕ, ◌+◌, ◌-◌, ◌≤◌, ◌==◌, Bool, true, false, List, [], ◌∷◌, ◌++◌, drop, length, max, min, None, take, if◌then◌else◌}
use Rattle.std.proofs.Common.{ap, arith, length-append, refl, subst, sym, ◌∙◌}
use Rattle.std.proofs.lemmas.Bool.{eqb-true}
use Rattle.std.proofs.lemmas.List.{length-take, take-append-drop}
use Rattle.std.proofs.Math.Seq.{take-append_seam}
use Rattle.wl_wire.specs.declared.argument.ArgumentType.{ArgumentType}
use Rattle.wl_wire.specs.declared.argument.Token.{Token}
use Rattle.wl_wire.specs.Message.{WireMessage}
use Rattle.wl_wire.specs.Parse.{IsWhole, fd_count, length_of}
use Rattle.wl_wire.specs.Table.{InterfaceRow}
use Rattle.wl_link.specs.Exchange.{Queue, joined, nothing}
use Rattle.wl_link.specs.Store.{Store}
use Rattle.wl_link.proofs.Calls.QueueLaws.{joined_assoc, joined_nothing, queue_is}
use Rattle.wl_follow.specs.Following.{FollowState, Tells, TellsFront, Turns, came_from, new_follower, released_to, sent, stretch_of, taken_back, turned, with_sent}
use Rattle.wl_follow.specs.Runs.{Call, Came, Does, Leads, Released, TookBack, TookNothing, TookOut, all_came, all_told, came_behind, came_by, count_of, from_side, own_count, told_in, without_last}
use Rattle.wl_follow.specs.Sent.{SentState, first_piece, last_part, left_bytes, less_sent, more_sent, ready_more, ready_part, released_but, released_count, untold, without_first}
use Rattle.wl_follow.specs.declared.follower.Stretch.{Stretch}
use Rattle.wl_follow.specs.declared.follower.Told.{Told}
use Rattle.wl_follow.specs.declared.follower.What.{What}
use Rattle.wl_follow.specs.declared.follower.What.TheVariants as what
use Rattle.wl_follow.specs.declared.side.Side.{Side}
use Rattle.wl_follow.specs.declared.side.Side.TheVariants.{Client, Server}

abbrev IsFollowed : Side → FollowState → Type 0
IsFollowed side f = (sent side f).is_followed ≡ true

-- nothing is told of the side, and it is followed as before
abbrev Keeps : Side → FollowState → FollowState → Type 0
Keeps side before after =
    (untold (sent side after) ≡ untold (sent side before)) × ((sent side after).is_followed ≡ (sent side before).is_followed)

-- ---- turns

turn_keeps : (side turn : Side) (count : ℕ) (rest : List Stretch) (f : FollowState)
    → Keeps side f (with_sent turn (ready_more count (sent turn f)) (record f { order = rest; side = turn }))
turn_keeps Client Client count rest f = (refl, refl)
turn_keeps Client Server count rest f = (refl, refl)
turn_keeps Server Client count rest f = (refl, refl)
turn_keeps Server Server count rest f = (refl, refl)

turns_keep : (table : List InterfaceRow) (side : Side) (stretches : List Stretch) (before after : FollowState) → Turns table before stretches after
    → Keeps side before after
turns_keep table side [] before after same =
    (ap (λ (f : FollowState). untold (sent side f)) same, ap (λ (f : FollowState). (sent side f).is_followed) same)
turns_keep table side (stretch ∷ stretches) before after (rest, is, none, more) =
    let one = turn_keeps side stretch.side stretch.count rest before in
    let two = turns_keep table side stretches (turned stretch rest before) after more in
    (two.0 ∙ one.0, two.1 ∙ one.1)

-- ---- what was sent

-- what is kept of a side, by whether it is followed
abbrev kept_of : SentState → Queue → Bool → SentState
kept_of s q b = if b then (record s { bytes = s.bytes ++ q.bytes; tokens = s.tokens ++ q.tokens }) else s

more_keeps : (s : SentState) (q : Queue) → (more_sent q.bytes q.tokens s).is_followed ≡ true
    → (untold (more_sent q.bytes q.tokens s) ≡ joined (untold s) q) × (s.is_followed ≡ true)
more_keeps s q on = at s.is_followed refl
  where
    at : (b : Bool) → s.is_followed ≡ b → (untold (more_sent q.bytes q.tokens s) ≡ joined (untold s) q) × (s.is_followed ≡ true)
    at true is = (ap (λ (b : Bool). untold (kept_of s q b)) is, is)
    at false is =
        let off : s.is_followed ≡ true = sym (ap (λ (b : Bool). (kept_of s q b).is_followed) is) ∙ on in
        absurd cc

came_keeps : (side by : Side) (q : Queue) (f : FollowState) → IsFollowed side (came_from by q f)
    → (untold (sent side (came_from by q f)) ≡ joined (untold (sent side f)) (from_side side by q)) × IsFollowed side f
came_keeps Client Client q f on = more_keeps f.client q on
came_keeps Client Server q f on = (sym (joined_nothing (untold f.client)), on)
came_keeps Server Client q f on = (sym (joined_nothing (untold f.server)), on)
came_keeps Server Server q f on = more_keeps f.server q on

-- what is left of a side once some was taken back, by whether it is followed
abbrev less_of : SentState → ℕ → ℕ → Bool → SentState
less_of s bytes tokens b =
    if b then (record s { bytes = take (left_bytes bytes s) s.bytes; tokens = take (length s.tokens - tokens) s.tokens }) else s

less_keeps : (s : SentState) (bytes tokens : ℕ) → (less_sent bytes tokens s).is_followed ≡ true
    → (joined (untold (less_sent bytes tokens s)) (last_part bytes tokens s) ≡ untold s) × (s.is_followed ≡ true)
less_keeps s bytes tokens on = at s.is_followed refl
  where
    at : (b : Bool) → s.is_followed ≡ b
        → (joined (untold (less_sent bytes tokens s)) (last_part bytes tokens s) ≡ untold s) × (s.is_followed ≡ true)
    at true is = (
      ap (λ (b : Bool). joined (untold (less_of s bytes tokens b)) (last_part bytes tokens s)) is
          ∙ queue_is _ _ (take-append-drop (left_bytes bytes s) s.bytes) (take-append-drop (length s.tokens - tokens) s.tokens),
      is,
    )
    at false is =
        let off : s.is_followed ≡ true = sym (ap (λ (b : Bool). (less_of s bytes tokens b).is_followed) is) ∙ on in
        absurd cc

back_keeps : (side by : Side) (bytes tokens : ℕ) (f : FollowState) → IsFollowed side (taken_back by bytes tokens f)
    → (joined (untold (sent side (taken_back by bytes tokens f))) (from_side side by (last_part bytes tokens (sent by f))) ≡ untold (sent side f))
    × IsFollowed side f
back_keeps Client Client bytes tokens f on = less_keeps f.client bytes tokens on
back_keeps Client Server bytes tokens f on = (joined_nothing (untold f.client), on)
back_keeps Server Client bytes tokens f on = (joined_nothing (untold f.server), on)
back_keeps Server Server bytes tokens f on = less_keeps f.server bytes tokens on

release_keeps : (side by : Side) (left : ℕ) (order : List Stretch) (f : FollowState)
    → Keeps side f (record (with_sent by (released_but left (sent by f)) f) { order = order })
release_keeps Client Client left order f = (refl, refl)
release_keeps Client Server left order f = (refl, refl)
release_keeps Server Client left order f = (refl, refl)
release_keeps Server Server left order f = (refl, refl)

-- ---- what is told

first_is : (signature : List ArgumentType) (s : SentState) → joined (first_piece signature s) (untold (without_first signature s)) ≡ untold s
first_is signature s = queue_is _ _ (take-append-drop (length_of (ready_part s).bytes) s.bytes) (take-append-drop (fd_count signature) s.tokens)

first_goes : (signature : List ArgumentType) (s s' : SentState) (piece : Queue) → piece ≡ first_piece signature s → s' ≡ without_first signature s
    → joined piece (untold s') ≡ untold s
first_goes signature s s' piece piece_is is =
    ap (λ (p : Queue). joined p (untold s')) piece_is ∙ ap (λ (x : SentState). joined (first_piece signature s) (untold x)) is ∙ first_is signature s

module _ (table : List InterfaceRow) where
  front_goes : (side : Side) (o : Store (Unit {0})) (s : SentState) (w : What) (m : WireMessage) (piece : Queue) (o' : Store (Unit {0})) (s' : SentState)
      → TellsFront table side o s w m piece o' s' → s'.is_followed ≡ true → (joined piece (untold s') ≡ untold s) × (s.is_followed ≡ true)
  front_goes side o s (what.Message interface) m piece o' s' (object, row, reads, i, noted, piece_is, is) on =
      (first_goes row.signature s s' piece piece_is is, sym (ap (λ (x : SentState). x.is_followed) is) ∙ on)
  front_goes side o s (what.Refused interface fault) m piece o' s' (object, row, reads, i, noted, piece_is, is) on =
      let off : s'.is_followed ≡ false = ap (λ (x : SentState). x.is_followed) is in absurd cc
  front_goes side o s (what.Unknown sender opcode) m piece o' s' (whole, a, b, unknown, same, piece_is, is) on =
      (first_goes [] s s' piece piece_is is, sym (ap (λ (x : SentState). x.is_followed) is) ∙ on)
  front_goes side o s what.Malformed m piece o' s' (no_message, same, piece_is, is) on =
      let off : s'.is_followed ≡ false = ap (λ (x : SentState). x.is_followed) is in absurd cc

  front_of : (side turn : Side) (by : Side) (mid after : FollowState) (w : What) (m : WireMessage) (piece : Queue) (o' : Store (Unit {0})) (left : SentState)
      → by ≡ turn → TellsFront table turn mid.objects (sent turn mid) w m piece o' left → after ≡ with_sent turn left (record mid { objects = o' })
      → IsFollowed side after → (joined (from_side side by piece) (untold (sent side after)) ≡ untold (sent side mid)) × IsFollowed side mid
  front_of Client Client by mid after w m piece o' left by_is front is on =
      let same : after.client ≡ left = ap (λ (f : FollowState). f.client) is in
      let goes = front_goes Client mid.objects mid.client w m piece o' left front (sym (ap (λ (s : SentState). s.is_followed) same) ∙ on) in
      (ap (λ (b : Side). joined (from_side Client b piece) (untold after.client)) by_is ∙ ap (λ (s : SentState). joined piece (untold s)) same ∙ goes.0, goes.1)
  front_of Client Server by mid after w m piece o' left by_is front is on =
      let same : after.client ≡ mid.client = ap (λ (f : FollowState). f.client) is in
      (ap (λ (b : Side). joined (from_side Client b piece) (untold after.client)) by_is ∙ ap untold same, sym (ap (λ (s : SentState). s.is_followed) same) ∙ on)
  front_of Server Client by mid after w m piece o' left by_is front is on =
      let same : after.server ≡ mid.server = ap (λ (f : FollowState). f.server) is in
      (ap (λ (b : Side). joined (from_side Server b piece) (untold after.server)) by_is ∙ ap untold same, sym (ap (λ (s : SentState). s.is_followed) same) ∙ on)
  front_of Server Server by mid after w m piece o' left by_is front is on =
      let same : after.server ≡ left = ap (λ (f : FollowState). f.server) is in
      let goes = front_goes Server mid.objects mid.server w m piece o' left front (sym (ap (λ (s : SentState). s.is_followed) same) ∙ on) in
      (ap (λ (b : Side). joined (from_side Server b piece) (untold after.server)) by_is ∙ ap (λ (s : SentState). joined piece (untold s)) same ∙ goes.0, goes.1)

-- ---- a call

-- what was put behind and is taken away again
last_gone : (q x : Queue) → without_last x (joined q x) ≡ q
last_gone q x = queue_is _ _ (take_front q.bytes x.bytes) (take_front q.tokens x.tokens)
  where
    take_front : {A : Type 0} (a b : List A) → take (length (a ++ b) - length b) (a ++ b) ≡ a
    take_front a b =
        let n : length (a ++ b) - length b ≡ length a = omega (arith, length-append a b) in
        ap (λ (k : ℕ). take k (a ++ b)) n ∙ take-append_seam a b

module _ (side : Side) where
  -- What was told before, and what is told in the call, and what is untold then, is what came before and in the call.
  call_keeps : (told : Queue) (c : Call) (before after : FollowState) → Does before c after → IsFollowed side after
      → (joined (joined told (told_in side c)) (untold (sent side after)) ≡ came_by side (joined told (untold (sent side before))) c) × IsFollowed side before
  call_keeps told (Came by came) before after is on =
      let keeps = came_keeps side by came before (sym (ap (λ (f : FollowState). (sent side f).is_followed) is) ∙ on) in (
        ap (λ (q : Queue). joined q (untold (sent side after))) (joined_nothing told)
            ∙ ap (λ (q : Queue). joined told q) (ap (λ (f : FollowState). untold (sent side f)) is ∙ keeps.0)
            ∙ sym (joined_assoc told (untold (sent side before)) (from_side side by came)),
        keeps.1,
      )
  call_keeps told (TookBack by bytes tokens taken) before after (taken_is, is) on =
      let x : Queue = from_side side by taken in
      let keeps = back_keeps side by bytes tokens before (sym (ap (λ (f : FollowState). (sent side f).is_followed) is) ∙ on) in
      let back : joined (untold (sent side after)) x ≡ untold (sent side before) =
      ap (λ (f : FollowState). joined (untold (sent side f)) x) is
      ∙ ap (λ (q : Queue). joined (untold (sent side (taken_back by bytes tokens before))) (from_side side by q)) taken_is ∙ keeps.0 in (
        ap (λ (q : Queue). joined q (untold (sent side after))) (joined_nothing told)
            ∙ sym (last_gone (joined told (untold (sent side after))) x)
            ∙ ap (λ (q : Queue). without_last x q) (joined_assoc told (untold (sent side after)) x ∙ ap (λ (q : Queue). joined told q) back),
        keeps.1,
      )
  call_keeps told (Released by left) before after is on =
      let keeps = release_keeps side by left (before.order ++ stretch_of by (released_count left (sent by before))) before in (
        ap (λ (q : Queue). joined q (untold (sent side after))) (joined_nothing told)
            ∙ ap (λ (q : Queue). joined told q) (ap (λ (f : FollowState). untold (sent side f)) is ∙ keeps.0),
        sym keeps.1 ∙ sym (ap (λ (f : FollowState). (sent side f).is_followed) is) ∙ on,
      )
  call_keeps told (TookOut table what m piece) before after tells on =
      let turns = turns_keep table side tells.stretches before tells.mid tells.turns in
      let front = front_of table side tells.mid.side what.side tells.mid after what.what m piece tells.objects tells.left tells.side tells.front tells.after_is on in (
        joined_assoc told (from_side side what.side piece) (untold (sent side after)) ∙ ap (λ (q : Queue). joined told q) (front.0 ∙ turns.0),
        sym turns.1 ∙ front.1,
      )
  call_keeps told (TookNothing table) before after (stretches, turns) on =
      let keeps = turns_keep table side stretches before after turns in (
        ap (λ (q : Queue). joined q (untold (sent side after))) (joined_nothing told) ∙ ap (λ (q : Queue). joined told q) keeps.0,
        sym keeps.1 ∙ on,
      )

  -- So it is of calls one after another.
  pub calls_keep : (told : Queue) (calls : List Call) (before after : FollowState) → Leads before calls after → IsFollowed side after
      → (joined (joined told (all_told side calls)) (untold (sent side after)) ≡ came_behind side (joined told (untold (sent side before))) calls)
      × IsFollowed side before
  calls_keep told [] before after is on = (
    ap (λ (q : Queue). joined q (untold (sent side after))) (joined_nothing told)
        ∙ ap (λ (f : FollowState). joined told (untold (sent side f))) is,
    sym (ap (λ (f : FollowState). (sent side f).is_followed) is) ∙ on,
  )
  calls_keep told (c ∷ calls) before after (mid, does, leads) on =
      let rest = calls_keep (joined told (told_in side c)) calls mid after leads on in
      let one = call_keeps told c before mid does rest.1 in (
        ap (λ (q : Queue). joined q (untold (sent side after))) (sym (joined_assoc told (told_in side c) (all_told side calls)))
            ∙ rest.0 ∙ ap (λ (q : Queue). came_behind side q calls) one.0,
        one.1,
      )

none_sent : (side : Side) → untold (sent side new_follower) ≡ nothing
none_sent Client = refl
none_sent Server = refl

pub told_once : (after : FollowState) (calls : List Call) (side : Side) → Leads new_follower calls after → IsFollowed side after
    → joined (all_told side calls) (untold (sent side after)) ≡ all_came side calls
told_once after calls side leads on =
    (calls_keep side nothing calls new_follower after leads on).0 ∙ ap (λ (q : Queue). came_behind side (joined nothing q) calls) (none_sent side)

-- ---- turns that are still to come

-- what is released of the side, and not ready, is what the stretches have
abbrev IsCounted : Side → FollowState → Type 0
IsCounted side f = IsFollowed side f → (sent side f).released ≡ (sent side f).ready + count_of side f.order

none_own : (side by : Side) → own_count side by 0 ≡ 0
none_own Client Client = refl
none_own Client Server = refl
none_own Server Client = refl
none_own Server Server = refl

count_stretch : (side by : Side) (count : ℕ) → count_of side (stretch_of by count) ≡ own_count side by count
count_stretch side by count = at (count == 0) refl
  where
    at : (b : Bool) → (count == 0) ≡ b → count_of side (stretch_of by count) ≡ own_count side by count
    at true is =
        ap (λ (b : Bool). count_of side (if b then [] else (record { side = by; count = count } ∷ []))) is
        ∙ sym (none_own side by) ∙ sym (ap (own_count side by) (eqb-true count 0 is))
    at false is =
        let one : count_of side (stretch_of by count) ≡ own_count side by count + 0
        = ap (λ (b : Bool). count_of side (if b then [] else (record { side = by; count = count } ∷ []))) is in
        omega (arith, one)

count_append : (side by : Side) (order : List Stretch) (count : ℕ)
    → count_of side (order ++ stretch_of by count) ≡ count_of side order + own_count side by count
count_append side by [] count = let one = count_stretch side by count in omega (arith, one)
count_append side by (s ∷ order) count = let more = count_append side by order count in omega (arith, more)

module _ (count : ℕ) (rest : List Stretch) (f : FollowState) where
  turn_counts : (side turn : Side)
      → (IsFollowed side f → (sent side f).released ≡ (sent side f).ready + (own_count side turn count + count_of side rest))
      → IsCounted side (with_sent turn (ready_more count (sent turn f)) (record f { order = rest; side = turn }))
  turn_counts Client Client counts on = let is = counts on in omega (arith, is)
  turn_counts Client Server counts on = let is = counts on in omega (arith, is)
  turn_counts Server Client counts on = let is = counts on in omega (arith, is)
  turn_counts Server Server counts on = let is = counts on in omega (arith, is)

module _ (table : List InterfaceRow) (side : Side) where
  turns_count : (stretches : List Stretch) (before after : FollowState) → Turns table before stretches after → IsCounted side before → IsCounted side after
  turns_count [] before after same counts = subst (IsCounted side) (sym same) counts
  turns_count (stretch ∷ stretches) before after (rest, is, none, more) counts =
      turns_count stretches (turned stretch rest before) after more
      (turn_counts stretch.count rest before side stretch.side
      (λ on. counts on ∙ ap (λ (o : List Stretch). (sent side before).ready + count_of side o) is))

  -- what is told was ready
  first_counts : (signature : List ArgumentType) (s s' : SentState) (n : ℕ) → IsWhole (ready_part s).bytes → s' ≡ without_first signature s
      → s.released ≡ s.ready + n → s'.released ≡ s'.ready + n
  first_counts signature s s' n whole is counts =
      omega (
        arith,
        counts,
        whole.there,
        length-take s.ready s.bytes,
        ap (λ (x : SentState). x.released) is,
        ap (λ (x : SentState). x.ready) is,
      )

  front_counts : (by : Side) (o : Store (Unit {0})) (s : SentState) (w : What) (m : WireMessage) (piece : Queue) (o' : Store (Unit {0})) (s' : SentState) (n : ℕ)
      → TellsFront table by o s w m piece o' s' → s'.is_followed ≡ true → (s.is_followed ≡ true → s.released ≡ s.ready + n) → s'.released ≡ s'.ready + n
  front_counts by o s (what.Message interface) m piece o' s' n (object, row, reads, i, noted, piece_is, is) on counts =
      let message = reads.1 in
      first_counts row.signature s s' n message.whole is (counts (sym (ap (λ (x : SentState). x.is_followed) is) ∙ on))
  front_counts by o s (what.Refused interface fault) m piece o' s' n (object, row, reads, i, noted, piece_is, is) on counts =
      let off : s'.is_followed ≡ false = ap (λ (x : SentState). x.is_followed) is in absurd cc
  front_counts by o s (what.Unknown sender opcode) m piece o' s' n (whole, a, b, unknown, same, piece_is, is) on counts =
      first_counts [] s s' n whole is (counts (sym (ap (λ (x : SentState). x.is_followed) is) ∙ on))
  front_counts by o s what.Malformed m piece o' s' n (no_message, same, piece_is, is) on counts =
      let off : s'.is_followed ≡ false = ap (λ (x : SentState). x.is_followed) is in absurd cc

more_counts : (s : SentState) (q : Queue) (n : ℕ) → (s.is_followed ≡ true → s.released ≡ s.ready + n)
    → (more_sent q.bytes q.tokens s).is_followed ≡ true → (more_sent q.bytes q.tokens s).released ≡ (more_sent q.bytes q.tokens s).ready + n
more_counts s q n counts on =
    let keeps = more_keeps s q on in
    let is : more_sent q.bytes q.tokens s ≡ record s { bytes = s.bytes ++ q.bytes; tokens = s.tokens ++ q.tokens }
    = ap (kept_of s q) keeps.1 in
    ap (λ (x : SentState). x.released) is ∙ counts keeps.1 ∙ ap (λ (x : SentState). x.ready + n) (sym is)

less_counts : (s : SentState) (bytes tokens : ℕ) (n : ℕ) → (s.is_followed ≡ true → s.released ≡ s.ready + n)
    → (less_sent bytes tokens s).is_followed ≡ true → (less_sent bytes tokens s).released ≡ (less_sent bytes tokens s).ready + n
less_counts s bytes tokens n counts on =
    let keeps = less_keeps s bytes tokens on in
    let is : less_sent bytes tokens s ≡ less_of s bytes tokens true = ap (less_of s bytes tokens) keeps.1 in
    ap (λ (x : SentState). x.released) is ∙ counts keeps.1 ∙ ap (λ (x : SentState). x.ready + n) (sym is)

module _ (table : List InterfaceRow) where
  told_counts : (side turn : Side) (mid : FollowState) (w : What) (m : WireMessage) (piece : Queue) (o' : Store (Unit {0})) (left : SentState)
      → TellsFront table turn mid.objects (sent turn mid) w m piece o' left → IsCounted side mid → IsCounted side (with_sent turn left (record mid { objects = o' }))
  told_counts Client Client mid w m piece o' left front counts on =
      front_counts table Client Client mid.objects mid.client w m piece o' left (count_of Client mid.order) front on counts
  told_counts Client Server mid w m piece o' left front counts on = counts on
  told_counts Server Client mid w m piece o' left front counts on = counts on
  told_counts Server Server mid w m piece o' left front counts on =
      front_counts table Server Server mid.objects mid.server w m piece o' left (count_of Server mid.order) front on counts

came_counts : (side by : Side) (q : Queue) (f : FollowState) → IsCounted side f → IsCounted side (came_from by q f)
came_counts Client Client q f counts on = more_counts f.client q (count_of Client f.order) counts on
came_counts Client Server q f counts on = counts on
came_counts Server Client q f counts on = counts on
came_counts Server Server q f counts on = more_counts f.server q (count_of Server f.order) counts on

back_counts : (side by : Side) (bytes tokens : ℕ) (f : FollowState) → IsCounted side f → IsCounted side (taken_back by bytes tokens f)
back_counts Client Client bytes tokens f counts on = less_counts f.client bytes tokens (count_of Client f.order) counts on
back_counts Client Server bytes tokens f counts on = counts on
back_counts Server Client bytes tokens f counts on = counts on
back_counts Server Server bytes tokens f counts on = less_counts f.server bytes tokens (count_of Server f.order) counts on

release_counts : (side by : Side) (left : ℕ) (f : FollowState) → IsCounted side f → IsCounted side (released_to by left f)
release_counts Client Client left f counts on =
    let before = counts on in omega (arith, before, count_append Client Client f.order (released_count left f.client))
release_counts Client Server left f counts on =
    let before = counts on in omega (arith, before, count_append Client Server f.order (released_count left f.server))
release_counts Server Client left f counts on =
    let before = counts on in omega (arith, before, count_append Server Client f.order (released_count left f.client))
release_counts Server Server left f counts on =
    let before = counts on in omega (arith, before, count_append Server Server f.order (released_count left f.server))

call_counts : (side : Side) (c : Call) (before after : FollowState) → Does before c after → IsCounted side before → IsCounted side after
call_counts side (Came by came) before after is counts = subst (IsCounted side) (sym is) (came_counts side by came before counts)
call_counts side (TookBack by bytes tokens taken) before after is counts = subst (IsCounted side) (sym is.1) (back_counts side by bytes tokens before counts)
call_counts side (Released by left) before after is counts = subst (IsCounted side) (sym is) (release_counts side by left before counts)
call_counts side (TookOut table told m piece) before after tells counts =
    subst (IsCounted side) (sym tells.after_is)
    (told_counts table side tells.mid.side tells.mid told.what m piece tells.objects tells.left tells.front
    (turns_count table side tells.stretches before tells.mid tells.turns counts))
call_counts side (TookNothing table) before after (stretches, turns) counts = turns_count table side stretches before after turns counts

calls_count : (side : Side) (calls : List Call) (before after : FollowState) → Leads before calls after → IsCounted side before → IsCounted side after
calls_count side [] before after is counts = subst (IsCounted side) (sym is) counts
calls_count side (c ∷ calls) before after (mid, does, leads) counts = calls_count side calls mid after leads (call_counts side c before mid does counts)

none_counted : (side : Side) → IsCounted side new_follower
none_counted Client on = refl
none_counted Server on = refl

pub turns_come : (after : FollowState) (calls : List Call) (side : Side) → Leads new_follower calls after → IsFollowed side after → after.order ≡ []
    → (sent side after).ready ≡ (sent side after).released
turns_come after calls side leads on none =
    let counts = calls_count side calls new_follower after leads (none_counted side) on in
    omega (arith, counts, ap (count_of side) none)
