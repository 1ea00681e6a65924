-- How many bytes may wait.
use Rattle.std.specs.Prelude.{◌≡◌, ℕ, ◌+◌, ◌<◌, ◌≤◌, ◌⊎◌, ◌==◌, Bool, true, false, List, [], ◌∷◌, drop, length, min, nat_le, nat_lt, Option, None, Some, IsSome, if◌then◌else◌}
use Rattle.std.proofs.Common.{ap, arith, inl, inr, refl, subst, sym, ◌∙◌}
use Rattle.std.proofs.Math.Nat.{le-max_left, le-max_right}
use Rattle.std.proofs.lemmas.Bool.{or_parts}
use Rattle.std.proofs.lemmas.Bool.Decides.{nat_tests}
use Rattle.std.proofs.lemmas.List.{length-append, length-drop}
use Rattle.wl_link.specs.Exchange.{Queue, joined, nothing}
use Rattle.wl_link.proofs.Calls.QueueLaws.{joined_nothing}
use Rattle.wl_follow.specs.Sides.{other_side}
use Rattle.wl_follow.specs.declared.side.Side.{Side}
use Rattle.wl_follow.specs.declared.side.Side.TheVariants.{Client, Server}
use Rattle.wl_guard.specs.Ends.{StopsBy, hoards, told_end}
use Rattle.wl_guard.specs.Guard.{Arrives, GuardState, Sent, new_guard, to_send, unread}
use Rattle.wl_guard.specs.Known.{Known}
use Rattle.wl_guard.specs.Passages.{all_pieces, all_sent}
use Rattle.wl_guard.specs.Policy.{PolicyState}
use Rattle.wl_guard.specs.Queues.{left_after, offered}
use Rattle.wl_guard.specs.Runs.{Call, Came, Does, GaveBack, HungUp, Leads, WasSent, came_in, error_to, most_came}
use Rattle.wl_guard.specs.declared.ending.End.{End}
use Rattle.wl_guard.proofs.Long.{all_long}
use Rattle.wl_guard.proofs.Passing.{pieces_are}
use Rattle.wl_guard.proofs.Runs.{back_keeps, back_reads, back_sends, hang_ends, hang_sends, not_some, sent_keeps, sent_reads, told_joined, told_none, told_server}

-- what waits to be read is less than a message and 112 tokens
hoards_none : (q : Queue) → hoards q ≡ false → (length q.bytes ≤ 65535) × (length q.tokens ≤ 112)
hoards_none q is =
    let parts = or_parts (nat_lt 112 (length q.tokens)) (nat_le 65536 (length q.bytes)) is in
    let tokens = parts.0 in
    let bytes = parts.1 in
    let few : length q.bytes < 65536 = grind (arith, nat_tests, bytes) in
    (omega (arith, few), grind (arith, nat_tests, tokens))

left_fewer : (count : ℕ) (q : Queue) → length (left_after count q).bytes ≤ length q.bytes
left_fewer count q = go (count == 0)
  where
    go : (b : Bool) → length (if b then q else (record { bytes = drop (min count (offered q)) q.bytes; tokens = drop 28 q.tokens })).bytes ≤ length q.bytes
    go true = omega arith
    go false = omega (arith, length-drop (min count (offered q)) q.bytes)

sent_fewer : (by side : Side) (count : ℕ) (before after : GuardState) → Sent by count before after → length (to_send side after).bytes ≤ length (to_send side before).bytes
sent_fewer Client Client count before after is =
    let same = ap (λ (g : GuardState). length g.to_client.bytes) is in let few = left_fewer count before.to_client in omega (arith, same, few)
sent_fewer Client Server count before after is = let same = ap (λ (g : GuardState). length g.to_server.bytes) is in omega (arith, same)
sent_fewer Server Client count before after is = let same = ap (λ (g : GuardState). length g.to_client.bytes) is in omega (arith, same)
sent_fewer Server Server count before after is =
    let same = ap (λ (g : GuardState). length g.to_server.bytes) is in let few = left_fewer count before.to_server in omega (arith, same, few)

module _ (p : PolicyState) where
  -- the error depends on what is known and on the end alone
  same_error : (side : Side) (before after : GuardState) → after.known ≡ before.known → after.end ≡ before.end → error_to p side after ≡ error_to p side before
  same_error Client before after known_is end_is =
      ap (λ (k : Known). told_end p k after.end nothing) known_is ∙ ap (λ (e : Option End). told_end p before.known e nothing) end_is
  same_error Server before after known_is end_is = refl

  -- before an end there is none
  no_error : (side : Side) (g : GuardState) → g.end ≡ None → length (error_to p side g).bytes ≡ 0
  no_error Client g begun = ap (λ (q : Queue). length q.bytes) (told_none p g.known g.end nothing begun)
  no_error Server g begun = refl

  -- what waits to be read of a side
  abbrev ReadsOn : Side → GuardState → Type 0
  ReadsOn side g = g.end ≡ None → hoards (unread side g) ≡ false

  stops_reading : (side : Side) (last k : Known) (rest : Queue) (e : Option End) → StopsBy p side last rest e k → e ≡ None → hoards rest ≡ false
  stops_reading side last k rest None stops is = stops.2
  stops_reading side last k rest (Some e) stops is = let wrong = is in absurd cc

  came_reads : (by side : Side) (came : Queue) (before after : GuardState) → Arrives p by came before after → ReadsOn side before → ReadsOn side after
  came_reads Client Client came before after arrives on = stops_reading Client arrives.at.last after.known after.from_client after.end arrives.at.stops
  came_reads Client Server came before after arrives on = λ begun. ap (λ (q : Queue). hoards q) arrives.other ∙ on arrives.begun
  came_reads Server Client came before after arrives on = λ begun. ap (λ (q : Queue). hoards q) arrives.other ∙ on arrives.begun
  came_reads Server Server came before after arrives on = stops_reading Server arrives.at.last after.known after.from_server after.end arrives.at.stops

  call_reads : (side : Side) (c : Call) (before after : GuardState) → Does p before c after → ReadsOn side before → ReadsOn side after
  call_reads side (Came by came passages) before after (arrives, is) on = came_reads by side came before after arrives on
  call_reads side (WasSent by out) before after (count, is, out_is) on =
      λ begun. ap (λ (q : Queue). hoards q) (sent_reads by side count before after is) ∙ on (sym (sent_keeps by count before after is).1 ∙ begun)
  call_reads side (GaveBack t) before after back on = λ begun. go (sym (back_keeps before after t back).end ∙ begun) (back_reads side before after t back)
    where
      go : before.end ≡ None → (IsSome before.end) ⊎ (unread side after ≡ unread side before) → hoards (unread side after) ≡ false
      go same (inl some) = absurd (not_some before.end same some)
      go same (inr reads) = ap (λ (q : Queue). hoards q) reads ∙ on same
  call_reads side HungUp before after hangs on = λ begun. absurd (not_some after.end begun (hang_ends before after hangs))

  -- ---- what waits for a side

  module _ (most : ℕ) where
    abbrev Waits : Side → GuardState → Type 0
    Waits side g = length (to_send side g).bytes ≤ p.limits.waiting + 65535 + most + length (error_to p side g).bytes

    -- what came from a side, for the other one
    came_for : (by : Side) (came : Queue) (before after : GuardState) → Arrives p by came before after → ReadsOn by before → length came.bytes ≤ most → Waits (other_side by) after
    came_for by came before after arrives on few =
        let room = arrives.room in
        let sent = ap (λ (q : Queue). length q.bytes) arrives.at.sent in
        let a = length-append (to_send (other_side by) before).bytes (all_sent arrives.at.passages).bytes in
        let long = all_long p by arrives.at.passages before.known arrives.at.last (joined (unread by before) came) (unread by after) arrives.at.passes in
        let all = ap (λ (q : Queue). length q.bytes) (pieces_are p by arrives.at.passages before.known arrives.at.last (joined (unread by before) came) (unread by after) arrives.at.passes) in
        let b = length-append (all_pieces arrives.at.passages).bytes (unread by after).bytes in
        let d = length-append (unread by before).bytes came.bytes in
        let waited = (hoards_none (unread by before) (on arrives.begun)).0 in
        omega (arith, room, sent, a, long, all, b, d, waited, few)

    -- and for itself
    came_back : (by : Side) (came : Queue) (before after : GuardState) → Arrives p by came before after → Waits by before → Waits by after
    came_back Client came before after arrives few =
        let told = ap (λ (q : Queue). length q.bytes)
        (arrives.at.told ∙ ap (λ (q : Queue). told_end p after.known after.end q) (sym (joined_nothing before.to_client))
        ∙ sym (told_joined p after.known after.end before.to_client nothing)) in
        let a = length-append before.to_client.bytes (told_end p after.known after.end nothing).bytes in
        let none = no_error Client before arrives.begun in
        omega (arith, told, a, none, few)
    came_back Server came before after arrives few =
        let told = ap (λ (q : Queue). length q.bytes)
        (arrives.at.told ∙ told_server p arrives.at.last after.known after.from_server after.end before.to_server arrives.at.stops) in
        omega (arith, told, few)

    call_waits : (side : Side) (c : Call) (before after : GuardState) → length (came_in (other_side side) c).bytes ≤ most → Does p before c after
        → ReadsOn (other_side side) before → Waits side before → Waits side after
    call_waits Client (Came Client came passages) before after few (arrives, is) on waits = came_back Client came before after arrives waits
    call_waits Client (Came Server came passages) before after few (arrives, is) on waits = came_for Server came before after arrives on few
    call_waits Server (Came Client came passages) before after few (arrives, is) on waits = came_for Client came before after arrives on few
    call_waits Server (Came Server came passages) before after few (arrives, is) on waits = came_back Server came before after arrives waits
    call_waits side (WasSent by out) before after few (count, is, out_is) on waits =
        let fewer = sent_fewer by side count before after is in
        let keeps = sent_keeps by count before after is in
        let same = ap (λ (q : Queue). length q.bytes) (same_error side before after keeps.0 keeps.1) in
        omega (arith, fewer, same, waits)
    call_waits side (GaveBack t) before after few back on waits =
        let keeps = back_keeps before after t back in
        let sends = ap (λ (q : Queue). length q.bytes) (back_sends side before after keeps) in
        let same = ap (λ (q : Queue). length q.bytes) (same_error side before after keeps.known keeps.end) in
        omega (arith, sends, same, waits)
    call_waits side HungUp before after few hangs on waits =
        let sends = ap (λ (q : Queue). length q.bytes) (hang_sends side before after hangs) in
        let none = no_error side before hangs.0 in
        omega (arith, sends, none, waits)

    all_wait : (side : Side) (calls : List Call) (before after : GuardState) → most_came (other_side side) calls ≤ most → Leads p before calls after
        → ReadsOn (other_side side) before → Waits side before → Waits side after
    all_wait side [] before after few is on waits = subst (λ (g : GuardState). Waits side g) (sym is) waits
    all_wait side (c ∷ calls) before after few (mid, one, more) on waits =
        let here = le-max_left (length (came_in (other_side side) c).bytes) (most_came (other_side side) calls) in
        let rest = le-max_right (length (came_in (other_side side) c).bytes) (most_came (other_side side) calls) in
        all_wait side calls mid after (omega (arith, rest, few)) more (call_reads (other_side side) c before mid one on)
        (call_waits side c before mid (omega (arith, here, few)) one on waits)

  all_read : (side : Side) (calls : List Call) (before after : GuardState) → Leads p before calls after → ReadsOn side before → ReadsOn side after
  all_read side [] before after is on = subst (λ (g : GuardState). ReadsOn side g) (sym is) on
  all_read side (c ∷ calls) before after (mid, one, more) on = all_read side calls mid after more (call_reads side c before mid one on)

reads_first : (side : Side) → hoards (unread side new_guard) ≡ false
reads_first Client = refl
reads_first Server = refl

first_few : (side : Side) → length (to_send side new_guard).bytes ≡ 0
first_few Client = refl
first_few Server = refl

pub waits_few : (p : PolicyState) (calls : List Call) (after : GuardState) (side : Side) → Leads p new_guard calls after
    → (length (to_send side after).bytes ≤ p.limits.waiting + 65535 + most_came (other_side side) calls + length (error_to p side after).bytes)
    × (after.end ≡ None → (length (unread side after).bytes ≤ 65535) × (length (unread side after).tokens ≤ 112))
waits_few p calls after side leads = (
  all_wait p (most_came (other_side side) calls) side calls new_guard after (omega arith) leads (λ begun. reads_first (other_side side))
      (let none = first_few side in omega (arith, none)),
  λ begun. hoards_none (unread side after) (all_read p side calls new_guard after leads (λ new. reads_first side) begun),
)
