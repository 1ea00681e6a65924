-- What is true of the seats at any time, after something changed.
use Rattle.std.proofs.Common.{◌≡◌, ℕ, ◌+◌, ◌-◌, ◌*◌, ◌^◌, ◌≤◌, ◌<◌, max, Bool, true, false, List, Option, None, Some, length, length-append, ap, sym, subst, ◌∙◌, arith}
use Rattle.std.proofs.lemmas.Bool.{false≢true, lt-ltb}
use Rattle.std.proofs.lemmas.List.{length-replicate}
use Rattle.std.proofs.lemmas.Option.{slice_get_within}
use Rattle.std.specs.List.{sum_by}
use Rattle.std.specs.Prelude.{if◌then◌else◌, nat_lt, replicate, slice_set, vec_len}
use Rattle.std.specs.Vec.{with_item}
use Rattle.std.specs.VecDeque.{deque_capacity, deque_len}
use Rattle.wl_server_client.specs.Ids.{ClientParts}
use Rattle.wl_host.proofs.Ledgers.{added_is_among, marked_added, marked_none, marked_padded, marked_seated, marked_set, slot_of_client, taken_few, taken_less, taken_replaced}
use Rattle.wl_host.specs.Inside.Seats.{AreMarked, AreSeats, taken}
use Rattle.wl_host.specs.Inside.Slots.{Slots, with_slot}
use Rattle.wl_host.specs.Seats.{HasNonePassed, SeatsState, added, added_below, is_among, ledger_of, listed_all, padded}
use Rattle.wl_host.specs.contracts.server.seats.Seats.{the_view}
use Rattle.wl_host.specs.declared.server.ledger.Ledger.{Ledger}
use Rattle.wl_host.specs.declared.server.seats.Seats.TheInside.{Inside}

-- descriptors came out
pub seats_passed : (s t : Inside) → AreSeats s → vec_len t.ledgers ≡ vec_len s.ledgers → sum_by taken t.ledgers.items ≡ sum_by taken s.ledgers.items → t.gone ≡ s.gone
    → deque_len t.left ≤ deque_len s.left → deque_capacity t.left ≡ deque_capacity s.left → t.writable ≡ s.writable → t.marked.room ≡ s.marked.room
    → AreMarked t.marked.slots t.ledgers.items → AreSeats t
seats_passed s t are len sum gone left capacity writable room marks =
    let g = ap (λ q. deque_len q) gone in
    let h = ap (λ q. deque_capacity q) gone in
    let w = ap (λ (q : Slots). q.room) writable in record {
      slots = omega (arith, are.slots, len);
      gone = omega (arith, are.gone, sum, g, h);
      left = omega (arith, are.left, sum, g, left, capacity);
      writable = omega (arith, are.writable, len, w);
      marked = omega (arith, are.marked, len, room);
      marks = marks;
    }

-- the slot was marked
marks_added : (q : Slots) (slot : ℕ) (ledgers : List (Option Ledger)) → AreMarked q.slots ledgers → AreMarked (with_slot q slot).slots ledgers
marks_added q slot ledgers marks = by (nat_lt slot q.room)
  where
    by : (b : Bool) → AreMarked (if b then added slot q.slots else q.slots) ledgers
    by true = marked_added q.slots ledgers slot marks
    by false = marks

pub seats_marked : (s : Inside) (m : Slots) (slot : ℕ) → AreSeats s → m ≡ with_slot s.marked slot → AreSeats (record s { marked = m })
seats_marked s m slot are e = record {
  slots = are.slots;
  gone = are.gone;
  left = are.left;
  writable = are.writable;
  marked = let r = ap (λ (q : Slots). q.room) e in omega (arith, are.marked, r);
  marks = subst (λ (q : Slots). AreMarked q.slots s.ledgers.items) (sym e) (marks_added s.marked slot s.ledgers.items are.marks);
}

-- the ledger of a client that is marked is another one
pub seats_lent : (s : Inside) (m : Slots) (id : ClientParts) (n : ℕ) (l k : Ledger) → AreSeats s → m ≡ with_slot s.marked n → n ≡ id.slot → ledger_of id s.ledgers.items ≡ Some l
    → AreSeats (record s { ledgers = with_item s.ledgers id.slot (Some k); marked = m })
seats_lent s m id n l k are e at seated = record {
  slots = are.slots;
  gone = let t = taken_replaced s.ledgers.items id l k seated in omega (arith, are.gone, t);
  left = let t = taken_replaced s.ledgers.items id l k seated in omega (arith, are.left, t);
  writable = are.writable;
  marked = let r = ap (λ (q : Slots). q.room) e in omega (arith, are.marked, r);
  marks = subst (λ (q : Slots). AreMarked q.slots (slice_set s.ledgers.items id.slot (Some k))) (sym f)
      (marked_set (with_slot s.marked id.slot).slots s.ledgers.items id.slot (Some k) (marks_added s.marked id.slot s.ledgers.items are.marks)
      (there (nat_lt id.slot s.marked.room) (lt-ltb id.slot s.marked.room (omega (arith, are.marked, known)))));
}
  where
    f : m ≡ with_slot s.marked id.slot
    f = e ∙ ap (with_slot s.marked) at

    known : id.slot < vec_len s.ledgers
    known = let w = slice_get_within s.ledgers.items id.slot (Some l) (slot_of_client id s.ledgers.items l seated) in let o = s.ledgers.ok in omega (arith, w, o)

    there : (b : Bool) → b ≡ true → is_among id.slot (if b then added id.slot s.marked.slots else s.marked.slots) ≡ true
    there true e = added_is_among id.slot s.marked.slots
    there false e = absurd (false≢true e)

-- a client is gone
pub seats_gone : (s t : Inside) (id : ClientParts) (l : Ledger) → AreSeats s → ledger_of id s.ledgers.items ≡ Some l → t.ledgers.items ≡ slice_set s.ledgers.items id.slot None
    → vec_len t.ledgers ≡ vec_len s.ledgers → deque_len t.gone ≡ deque_len s.gone + 1 → deque_capacity t.gone ≡ deque_capacity s.gone
    → deque_len t.left ≡ deque_len s.left + 1 → deque_capacity t.left ≡ deque_capacity s.left → t.writable ≡ s.writable → t.marked ≡ s.marked → AreSeats t
seats_gone s t id l are seated items len gone gone_room left left_room writable marked =
    let less = taken_less s.ledgers.items id l seated in
    let sum = ap (sum_by taken) items in
    let w = ap (λ (q : Slots). q.room) writable in
    let m = ap (λ (q : Slots). q.room) marked in record {
      slots = omega (arith, are.slots, len);
      gone = omega (arith, are.gone, less, sum, gone, gone_room);
      left = omega (arith, are.left, less, sum, gone, left, left_room);
      writable = omega (arith, are.writable, len, w);
      marked = omega (arith, are.marked, len, m);
      marks = subst (λ (q : Slots). AreMarked q.slots t.ledgers.items) (sym marked)
          (subst (AreMarked s.marked.slots) (sym items) (marked_none s.marked.slots s.ledgers.items id.slot are.marks));
    }

-- there is room to let a client go
pub room_to_go : (s : Inside) (id : ClientParts) (l : Ledger) → AreSeats s → ledger_of id s.ledgers.items ≡ Some l
    → (deque_len s.gone < deque_capacity s.gone) × (deque_len s.left < deque_capacity s.left)
room_to_go s id l are seated =
    let less = taken_less s.ledgers.items id l seated in (omega (arith, are.gone, less), omega (arith, are.left, less))

-- slots were listed
pub seats_listed : (s t : Inside) → AreSeats s → t ≡ record s { writable = t.writable } → t.writable.room ≡ s.writable.room → AreSeats t
seats_listed s t are beside room = subst AreSeats (sym beside) (record {
  slots = are.slots;
  gone = are.gone;
  left = are.left;
  writable = omega (arith, are.writable, room);
  marked = are.marked;
  marks = are.marks;
})

pub all_listed : (s t : Inside) (n : ℕ) → t ≡ record s { writable = t.writable } → t.writable.slots ≡ added_below n s.writable.slots → n ≡ length s.ledgers.items
    → the_view t ≡ listed_all (the_view s)
all_listed s t n beside listed all =
    ap the_view beside ∙ ap (λ (ws : List ℕ). let v : SeatsState = record (the_view s) { writable = ws } in v) (listed ∙ ap (λ m. added_below m s.writable.slots) all)

-- a client was seated, in a place for which room was made
pub seats_seated : (s t : Inside) (slot : ℕ) (l : Ledger) → AreSeats s → HasNonePassed l → slot < 2 ^ 32
    → t.ledgers.items ≡ slice_set (padded s.ledgers.items slot) slot (Some l) → vec_len t.ledgers ≡ max (vec_len s.ledgers) (slot + 1)
    → deque_len t.gone ≤ deque_len s.gone + 1 → deque_len t.left ≤ deque_len s.left + 1
    → deque_len s.gone + (max (vec_len s.ledgers) (slot + 1) + 1) ≤ deque_capacity t.gone
    → deque_len s.left + (deque_len s.gone + 2 * (max (vec_len s.ledgers) (slot + 1) + 1)) ≤ deque_capacity t.left
    → s.writable.room ≤ t.writable.room → slot + 1 ≤ t.writable.room → s.marked.room ≤ t.marked.room → slot + 1 ≤ t.marked.room → t.marked.slots ≡ s.marked.slots → AreSeats t
seats_seated s t slot l are none below items len gone left gone_room left_room writable writable_slot marked marked_slot same =
    let few = taken_few t.ledgers.items in
    let ok = t.ledgers.ok in
    let sok = s.ledgers.ok in
    let pad = replicate (slot + 1 - length s.ledgers.items) None in
    let none_there : Option Ledger = None in
    let place : slot < length (padded s.ledgers.items slot) = omega (arith, length-append s.ledgers.items pad, length-replicate (slot + 1 - length s.ledgers.items) none_there) in record {
      slots = omega (arith, are.slots, below, len);
      gone = omega (arith, few, ok, len, gone, gone_room);
      left = omega (arith, few, ok, len, gone, left, left_room);
      writable = omega (arith, are.writable, len, writable, writable_slot);
      marked = omega (arith, are.marked, len, marked, marked_slot);
      marks = subst (λ (ms : List ℕ). AreMarked ms t.ledgers.items) (sym same) (subst (AreMarked s.marked.slots) (sym items)
          (marked_seated s.marked.slots (padded s.ledgers.items slot) slot l (marked_padded s.marked.slots s.ledgers.items (slot + 1 - length s.ledgers.items) are.marks) none place));
    }
