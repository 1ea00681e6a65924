-- That no receive of a link finds its storage full, where each message is no longer than that may become.
use Rattle.std.proofs.Common.{◌≡◌, ◌≢◌, ◌<◌, ◌≤◌, ℕ, ◌*◌, ◌-◌, ◌&&◌, Bool, true, false, List, [], ◌∷◌, ◌++◌, length, Option, None, Some, Result, Ok, Err, refl, sym, ap, subst, ◌∙◌, true≢false, arith, cond}
use Rattle.std.specs.Prelude.{nat_le, nat_lt}
use Rattle.std.proofs.lemmas.Bool.{leb-false, leb-true, ltb-false}
use Rattle.std.proofs.lemmas.List.{length-append, length-drop}
use mathlib.Core.Logic.{inl, inr}
use Rattle.wl_wire.specs.declared.argument.ArgumentType.{ArgumentType}
use Rattle.wl_wire.specs.declared.error.IoFault.{IoFault}
use Rattle.wl_wire.specs.declared.error.MessageParseError.TheVariants as errors
use Rattle.wl_wire.specs.Message.{WireMessage}
use Rattle.wl_wire.specs.Parse.{length_of}
use Rattle.wl_link.specs.Exchange.{Queue, nothing}
use Rattle.wl_link.specs.Link.{IsAfter, EachWithin, FilledBy, FindsRoom, LacksBytes, LinkState, ReadOne, free_room, grown_capacity, incoming_limit, with_transport}
use Rattle.wl_link.proofs.Calls.QueueLaws.{joined_nothing}
use Rattle.wl_link.specs.Reader.{came_by}
use Rattle.wl_link.proofs.Calls.LaterLaws.{lacks_bytes, other_reads}
use Rattle.wl_link.specs.Sides.{ByFill, InNeed, InTime, ByRead, ReceiverCall, ReceiverRun, RoomLaw, all_came, brought_by as call_came, roomy}
use Rattle.wl_link.proofs.Streams.StreamLaws.{read_left, read_same}
use Rattle.wl_link.proofs.Streams.LengthLaws.{each_fits, each_later, flows_came, flows_taken}

-- ---- the receiving side of a link

-- what waits lies in the storage, which holds a header at least
record Holds {T : Type 0} (l : LinkState T) : Type 0 where
  header : 8 ≤ l.incoming_capacity
  within : length l.incoming.bytes ≤ l.incoming_capacity

module _ {T : Type 0} (l : LinkState T) (holds : Holds l) where
  least_room : l.incoming_capacity ≤ grown_capacity l
  least_room = at (nat_le l.incoming_capacity (length l.incoming.bytes) && nat_lt l.incoming_capacity (incoming_limit l.limit))
    where
      at : (b : Bool) → l.incoming_capacity ≤ cond b (l.incoming_capacity * 2) l.incoming_capacity
      at true = omega arith
      at false = omega arith

  finds_room : FindsRoom l (grown_capacity l)
  finds_room lacks fits =
      at (nat_le l.incoming_capacity (length l.incoming.bytes)) (nat_lt l.incoming_capacity (incoming_limit l.limit)) refl refl
    where
      at : (full small : Bool) → nat_le l.incoming_capacity (length l.incoming.bytes) ≡ full → nat_lt l.incoming_capacity (incoming_limit l.limit) ≡ small
          → length l.incoming.bytes < cond (full && small) (l.incoming_capacity * 2) l.incoming_capacity
      at false small free is = leb-false l.incoming_capacity (length l.incoming.bytes) free
      at true true full is = omega (arith, holds.header, holds.within)
      at true false full large = absurd (never lacks)
        where
          never : LacksBytes l.incoming.bytes → ⊥
          never (inl short) = omega (arith, short, holds.header, leb-true l.incoming_capacity (length l.incoming.bytes) full)
          never (inr short) =
              let most : incoming_limit l.limit ≤ l.incoming_capacity = ltb-false l.incoming_capacity (incoming_limit l.limit) large in
              let taken = leb-true l.incoming_capacity (length l.incoming.bytes) full in
              omega (arith, short, most, taken, fits (omega (arith, holds.header, taken)))

-- What is to come, and what waits, has messages that are no longer than the storage may become; what waits lacks data
-- where that is said.
record Ready {T : Type 0} (l : LinkState T) (lacking : Bool) (came : List ℕ) : Type 0 where
  holds : Holds l
  lacks : lacking ≡ true → LacksBytes l.incoming.bytes
  each : EachWithin (incoming_limit l.limit) (l.incoming.bytes ++ came)

module _ {T : Type 0} (receives : T → ℕ → Result Queue IoFault → T → Type 0)
    (within_room : (before after : T) (room : ℕ) (came : Queue) → receives before room (Ok came) after → length came.bytes ≤ room)
    (look_up : ℕ → ℕ → Option (List ArgumentType)) where
  fill_holds : (before after : LinkState T) (r : Result Queue IoFault) (answer : Result (Unit {0}) IoFault) → Holds before → FilledBy receives before r answer after
      → Holds after
  fill_holds before after (Ok came) answer holds filled =
      let few = within_room before.transport after.transport (free_room before) came filled.0 in
      let least = least_room before holds in
      subst Holds (sym filled.2) (record {
        header = omega (arith, holds.header, least);
        within = omega (arith, few, least, holds.within, length-append before.incoming.bytes came.bytes);
      })
  fill_holds before after (Err f) answer holds filled =
      let least = least_room before holds in
      subst Holds (sym filled.2) (record { header = omega (arith, holds.header, least); within = omega (arith, least, holds.within) })

  came_same : (r : Result Queue IoFault) → came_by r ≡ call_came (ByFill (Some r))
  came_same (Ok came) = refl
  came_same (Err f) = refl

  fill_ready : (before after : LinkState T) (r : Result Queue IoFault) (answer : Result (Unit {0}) IoFault) (lacking : Bool) (more : List ℕ)
      → Ready before lacking ((call_came (ByFill (Some r))).bytes ++ more) → FilledBy receives before r answer after → Ready after false more
  fill_ready before after r answer lacking more ready filled =
      let flows = flows_came receives before after r answer filled in
      let f = flows.behind more in
      let came = subst (λ (q : Queue). IsAfter f.0 (before.incoming.bytes ++ (q.bytes ++ more)) (after.incoming.bytes ++ more)) (came_same r) f.1 in
      record {
        holds = fill_holds before after r answer ready.holds filled;
        lacks = λ no. absurd (true≢false (sym no));
        each = subst (λ (limit : Option ℕ). EachWithin (incoming_limit limit) (after.incoming.bytes ++ more)) (sym flows.limit) (each_later f.0 _ _ ready.each came);
      }

  taken_ready : (before after : LinkState T) (m : WireMessage) (lacking : Bool) (more : List ℕ) → Ready before lacking more
      → ReadOne (λ sender opcode found. found ≡ look_up sender opcode) before (Ok m) after → Ready after false more
  taken_ready before after m lacking more ready read =
      let flows = flows_taken look_up before after m read in
      let f = flows.behind more in
      let taken = read_left receives look_up nothing before after m read in
      let same = (other_reads (λ sender opcode g. g ≡ look_up sender opcode) before before nothing (sym (joined_nothing before.incoming)) m after read).0 in
      let room : after.incoming_capacity ≡ before.incoming_capacity = ap (λ (l : LinkState T). l.incoming_capacity) same in
      let fewer : length after.incoming.bytes ≡ length before.incoming.bytes - length_of before.incoming.bytes
      = ap (λ (q : Queue). length q.bytes) taken.3 ∙ length-drop (length_of before.incoming.bytes) before.incoming.bytes in
      record {
        holds = record { header = omega (arith, room, ready.holds.header); within = omega (arith, fewer, room, ready.holds.within) };
        lacks = λ no. absurd (true≢false (sym no));
        each = subst (λ (limit : Option ℕ). EachWithin (incoming_limit limit) (after.incoming.bytes ++ more)) (sym flows.limit) (each_later f.0 _ _ ready.each f.1);
      }

  refused_ready : (before after : LinkState T) (lacking now : Bool) (more : List ℕ) → Ready before lacking more → after ≡ before
      → (now ≡ true → LacksBytes before.incoming.bytes) → Ready after now more
  refused_ready before after lacking now more ready same lacks =
      subst (λ (l : LinkState T). Ready l now more) (sym same) (record { holds = ready.holds; lacks = lacks; each = ready.each })

  moved_ready : (l : LinkState T) (t : T) (lacking : Bool) (more : List ℕ) → Ready l lacking more → Ready (with_transport l t) lacking more
  moved_ready l t lacking more ready = record { holds = record { header = ready.holds.header; within = ready.holds.within }; lacks = ready.lacks; each = ready.each }

  none_full : (before full : LinkState T) (got : List ReceiverCall) (lacking : Bool) → Ready before lacking (all_came got).bytes → InNeed lacking got → InTime got
      → ReceiverRun receives look_up before got full → ReceiverRun (roomy receives) look_up before got full
  none_full before full [] lacking ready need in_time run = run
  none_full before full (ByFill None ∷ cs) lacking ready need in_time (t, mid, same, rest) =
      let next = subst (λ (l : LinkState T). Ready l lacking (all_came cs).bytes) (sym same) (moved_ready before t lacking (all_came cs).bytes ready) in
      (t, mid, same, none_full mid full cs lacking next need in_time.1 rest)
  none_full before full (ByFill (Some r) ∷ cs) lacking ready need in_time (t, mid, (answer, filled), rest) =
      let here = moved_ready before t lacking (all_came (ByFill (Some r) ∷ cs)).bytes ready in
      let finds = finds_room (with_transport before t) here.holds (here.lacks need.0) (each_fits (with_transport before t) before.limit _ refl here.each) in
      let some : free_room (with_transport before t) ≢ 0 = λ none. omega (arith, finds, none) in
      let next = fill_ready (with_transport before t) mid r answer lacking (all_came cs).bytes here filled in
      (t, mid, (answer, ((filled.0, some), filled.1, filled.2)), none_full mid full cs false next need.1 in_time.1 rest)
  none_full before full (ByRead (Ok m) ∷ cs) lacking ready need in_time (t, mid, read, rest) =
      let here = moved_ready before t lacking (all_came cs).bytes ready in
      (t, mid, read, none_full mid full cs false (taken_ready (with_transport before t) mid m lacking (all_came cs).bytes here read) need in_time.1 rest)
  none_full before full (ByRead (Err errors.MissingData) ∷ cs) lacking ready need in_time (t, mid, read, rest) =
      let here = moved_ready before t lacking (all_came cs).bytes ready in
      let same = read_same receives look_up nothing (with_transport before t) mid errors.MissingData read in
      let short = subst (λ (l : LinkState T). ReadOne (λ sender opcode found. found ≡ look_up sender opcode) (with_transport before t) (Err errors.MissingData) l) same read in
      let lacks = lacks_bytes (λ sender opcode found. found ≡ look_up sender opcode) (with_transport before t) short in
      (t, mid, read, none_full mid full cs true (refused_ready (with_transport before t) mid lacking true (all_came cs).bytes here same (λ yes. lacks)) need in_time.1 rest)
  none_full before full (ByRead (Err errors.MissingFD) ∷ cs) lacking ready need in_time run = absurd (in_time.0 refl)
  none_full before full (ByRead (Err errors.Malformed) ∷ cs) lacking ready need in_time (t, mid, read, rest) =
      let here = moved_ready before t lacking (all_came cs).bytes ready in
      let same = read_same receives look_up nothing (with_transport before t) mid errors.Malformed read in
      (t, mid, read, none_full mid full cs false (refused_ready (with_transport before t) mid lacking false (all_came cs).bytes here same (λ no. absurd (true≢false (sym no)))) need in_time.1 rest)
  none_full before full (ByRead (Err errors.OutOfMemory) ∷ cs) lacking ready need in_time (t, mid, read, rest) =
      let here = moved_ready before t lacking (all_came cs).bytes ready in
      let same = read_same receives look_up nothing (with_transport before t) mid errors.OutOfMemory read in
      (t, mid, read, none_full mid full cs false (refused_ready (with_transport before t) mid lacking false (all_came cs).bytes here same (λ no. absurd (true≢false (sym no)))) need in_time.1 rest)

pub room_law : {T : Type 0} (receives : T → ℕ → Result Queue IoFault → T → Type 0)
    → ((before after : T) (room : ℕ) (came : Queue) → receives before room (Ok came) after → length came.bytes ≤ room) → RoomLaw receives
room_law receives within_room look_up empty full got run starts header each need in_time =
    let nothing_waits : empty.incoming.bytes ≡ [] = ap (λ (q : Queue). q.bytes) starts in
    none_full receives within_room look_up empty full got true
    (record {
      holds = record { header = header; within = omega (arith, ap length nothing_waits) };
      lacks = λ yes. inl (omega (arith, ap length nothing_waits));
      each = subst (λ (bs : List ℕ). EachWithin (incoming_limit empty.limit) (bs ++ (all_came got).bytes)) (sym nothing_waits) each;
    })
    need in_time run
