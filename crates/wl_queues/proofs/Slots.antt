-- The list of objects that are unused, as slots change.
use Rattle.std.proofs.Common.{◌≡◌, ℕ, zero, suc, ◌+◌, ◌-◌, ◌<◌, ◌≤◌, List, [], ◌∷◌, ◌++◌, length, get_or, Bool, true, false, refl, sym, ap, ◌∙◌, arith, subst}
use Rattle.std.specs.Prelude.{if◌then◌else◌, ◌==◌, ◌&&◌, ◌||◌, not, slice_set, cond}
use Rattle.std.specs.List.{count_by}
use Rattle.std.specs.VecDeque.{deque_capacity, deque_len}
use Rattle.std.specs.declared.collections.VecDeque.{VecDeque}
use Rattle.std.proofs.lemmas.Bool.Decides.{nat_tests}
use Rattle.std.proofs.lemmas.Grind.{common_steps}
use Rattle.std.proofs.lemmas.List.Sums.{sum_by-set}
use Rattle.wl_queues.specs.declared.objects.Fate.{Fate}
use Rattle.wl_queues.specs.declared.objects.Fate.TheVariants.{Alive, Destroyed, Free}
use Rattle.wl_queues.specs.declared.objects.Slot.{Slot}
use Rattle.wl_queues.specs.Objects.{is_alive, is_destroyed}
use Rattle.wl_queues.specs.Inside.Slots.{IsListed, are_distinct, is_in, is_pending, is_unused, no_slot, slot_at}

abbrev one_if : Bool → ℕ
one_if b = if b then 1 else 0

-- ---- one slot changes

pub slot-set : (slots : List Slot) (i : ℕ) (s : Slot) (p : ℕ) → i < length slots → slot_at (slice_set slots i s) p ≡ (if p == i then s else slot_at slots p)
slot-set slots i s p lt = grind (arith, nat_tests, common_steps)

-- a slot that is not there has no object, and no references
pub slot-inside : (slots : List Slot) (p : ℕ) → (slot_at slots p ≡ no_slot → ⊥) → p < length slots
slot-inside [] p some = absurd (some refl)
slot-inside (x ∷ slots) zero some = omega arith
slot-inside (x ∷ slots) (suc p) some = grind (arith, slot-inside slots p some)

slot-alive : (slots : List Slot) (p : ℕ) → (slot_at slots p).object.fate ≡ Alive → p < length slots
slot-alive slots p alive = slot-inside slots p (λ e. other (sym (ap (λ s. s.object.fate) e) ∙ alive))
  where
    other : Free ≡ Alive → ⊥
    other h = grind (arith, h)

slot-referred : (slots : List Slot) (p : ℕ) → 0 < (slot_at slots p).references → p < length slots
slot-referred slots p some = slot-inside slots p (λ e. omega (arith, some, ap (λ s. s.references) e))

pub slot-unused : (slots : List Slot) (p : ℕ) → is_unused (slot_at slots p) ≡ true → p < length slots
slot-unused slots p unused = slot-inside slots p (λ e. other (sym (ap is_unused e) ∙ unused))
  where
    other : false ≡ true → ⊥
    other h = grind (arith, h)

-- what an index lends is the slot
slot-is : (slots : List Slot) (p : ℕ) (x : Slot) → p < length slots → x ≡ get_or slots p x → x ≡ slot_at slots p
slot-is [] p x lt is = absurd (omega arith)
slot-is (s ∷ slots) zero x lt is = is
slot-is (s ∷ slots) (suc p) x lt is = slot-is slots p x (omega arith) is

-- how many objects may become unused, once one slot has changed
pub pending-set : (slots : List Slot) (i : ℕ) (s : Slot) → i < length slots →
    count_by is_pending (slice_set slots i s) + one_if (is_pending (slot_at slots i)) ≡ count_by is_pending slots + one_if (is_pending s)
pending-set slots i s lt = sum_by-set (λ x. cond (is_pending x) 1 0) slots i s no_slot lt

-- ---- a list of slots

in-push : (xs : List ℕ) (x o : ℕ) → is_in o (xs ++ x ∷ []) ≡ (is_in o xs || (x == o))
in-push [] x o = grind (arith, nat_tests)
in-push (y ∷ xs) x o = grind (arith, nat_tests, in-push xs x o)

distinct-push : (xs : List ℕ) (x : ℕ) → are_distinct xs ≡ true → is_in x xs ≡ false → are_distinct (xs ++ x ∷ []) ≡ true
distinct-push [] x once out = refl
distinct-push (y ∷ xs) x once out = grind (arith, nat_tests, in-push xs x y, distinct-push xs x, once, out)

module _ {A : Type 0} where
  -- a slot changes, and it is unused now if it was so before; no more slots may become unused, or there is room for one more
  pub listed-set : (slots : List Slot) (u v : VecDeque ℕ A) (i : ℕ) (s : Slot) → i < length slots → IsListed slots u → v.items ≡ u.items → is_unused s ≡ is_unused (slot_at slots i) →
      deque_len v + (count_by is_pending slots + one_if (is_pending s)) ≤ deque_capacity v + one_if (is_pending (slot_at slots i)) → IsListed (slice_set slots i s) v
  listed-set slots u v i s lt l items same room = record {
    each = λ o. ap (is_in o) items ∙ (l.each o ∙ (at o (o == i) refl ∙ sym (ap is_unused (slot-set slots i s o lt))));
    once = ap are_distinct items ∙ l.once;
    room = grind (arith, room, pending-set slots i s lt);
  }
    where
      at : (o : ℕ) (b : Bool) → (o == i) ≡ b → is_unused (slot_at slots o) ≡ is_unused (if b then s else slot_at slots o)
      at o true here = let e : o ≡ i = grind (arith, nat_tests, here) in ap (λ n. is_unused (slot_at slots n)) e ∙ sym same
      at o false other = refl

  -- a slot becomes unused, and is listed
  pub listed-more : (slots : List Slot) (u v : VecDeque ℕ A) (i : ℕ) (s : Slot) → i < length slots → IsListed slots u → is_pending (slot_at slots i) ≡ true → is_unused (slot_at slots i) ≡ false →
      is_unused s ≡ true → is_pending s ≡ false → v.items ≡ u.items ++ i ∷ [] → deque_len v ≡ deque_len u + 1 → deque_capacity v ≡ deque_capacity u → IsListed (slice_set slots i s) v
  listed-more slots u v i s lt l before used unused after items len capacity = record {
    each = λ o. ap (is_in o) items ∙ (in-push u.items i o ∙ (at o (o == i) refl ∙ sym (ap is_unused (slot-set slots i s o lt))));
    once = ap are_distinct items ∙ distinct-push u.items i l.once (l.each i ∙ used);
    room = grind (arith, before, after, len, capacity, l.room, pending-set slots i s lt);
  }
    where
      at : (o : ℕ) (b : Bool) → (o == i) ≡ b → (is_in o u.items || (i == o)) ≡ is_unused (if b then s else slot_at slots o)
      at o true here = grind (arith, nat_tests, here, unused)
      at o false other = grind (arith, nat_tests, other, l.each o)

-- ---- the calls

and-split : (a b : Bool) → (a && b) ≡ true → (a ≡ true) × (b ≡ true)
and-split true b h = (refl, h)
and-split false b h = absurd (grind (arith, h))

one-less : (d : Bool) (n : ℕ) → 0 < n → (d && (n == 1)) ≡ false → (d && (n - 1 == 0)) ≡ (d && (n == 0))
one-less true n some last = grind (arith, nat_tests, some, last)
one-less false n some last = refl

pending-less : (a d : Bool) (n : ℕ) → 0 < n → one_if (a || (d && not (n - 1 == 0))) ≤ one_if (a || (d && not (n == 0)))
pending-less true d n some = omega arith
pending-less false false n some = omega arith
pending-less false true n some = grind (arith, nat_tests, some)

module _ {A : Type 0} where
  -- the object that is first in the list is unused
  pub first-unused : (slots : List Slot) (u : VecDeque ℕ A) (o : ℕ) (later : List ℕ) → IsListed slots u → u.items ≡ o ∷ later → is_unused (slot_at slots o) ≡ true
  first-unused slots u o later l items = sym (l.each o) ∙ (ap (is_in o) items ∙ here o later)
    where
      here : (o : ℕ) (later : List ℕ) → is_in o (o ∷ later) ≡ true
      here o later = grind (arith, nat_tests)

  -- an object is destroyed that nothing refers to
  pub listed-destroyed : (slots : List Slot) (u v : VecDeque ℕ A) (o : ℕ) (x y : Slot) → (slot_at slots o).object.fate ≡ Alive → x ≡ get_or slots o x → y ≡ get_or slots o y → IsListed slots u → y.references ≡ 0 →
      v.items ≡ u.items ++ o ∷ [] → deque_len v ≡ deque_len u + 1 → deque_capacity v ≡ deque_capacity u →
      IsListed (slice_set slots o (record { object = record { queue = x.object.queue; fate = Destroyed; content = x.object.content }; references = x.references; next = x.next })) v
  listed-destroyed slots u v o x y alive isx isy l none items len capacity =
      let lt = slot-alive slots o alive in
      let same = slot-is slots o x lt isx ∙ sym (slot-is slots o y lt isy) in
      let zero-times : x.references ≡ 0 = ap (λ s. s.references) same ∙ none in
      listed-more slots u v o _ lt l
      (ap (λ f. is_alive f || (is_destroyed f && not ((slot_at slots o).references == 0))) alive)
      (ap (λ f. is_destroyed f && ((slot_at slots o).references == 0)) alive)
      (ap (λ n. n == 0) zero-times) (ap (λ n. not (n == 0)) zero-times) items len capacity

  -- an object is referred to once less, and for the last time
  pub listed-last : (slots : List Slot) (u v : VecDeque ℕ A) (o : ℕ) (x y : Slot) → 0 < (slot_at slots o).references → x ≡ get_or slots o x → y ≡ get_or slots o y → IsListed slots u →
      (is_destroyed y.object.fate && (y.references == 1)) ≡ true → v.items ≡ u.items ++ o ∷ [] → deque_len v ≡ deque_len u + 1 → deque_capacity v ≡ deque_capacity u →
      IsListed (slice_set slots o (record { object = x.object; references = y.references - 1; next = x.next })) v
  listed-last slots u v o x y some isx isy l last items len capacity =
      let lt = slot-referred slots o some in
      let ey = slot-is slots o y lt isy in
      let same = slot-is slots o x lt isx ∙ sym ey in
      let both = and-split (is_destroyed y.object.fate) (y.references == 1) last in
      let one : y.references ≡ 1 = grind (arith, nat_tests, both.1) in
      let gone : is_destroyed x.object.fate ≡ true = ap (λ s. is_destroyed s.object.fate) same ∙ both.0 in
      let live = not-alive x.object.fate gone in
      listed-more slots u v o _ lt l
      (ap is_pending (sym ey) ∙ (ap (λ n. is_alive y.object.fate || (is_destroyed y.object.fate && not (n == 0))) one ∙ pending-gone y.object.fate both.0))
      (ap is_unused (sym ey) ∙ (ap (λ n. is_destroyed y.object.fate && (n == 0)) one ∙ and-false (is_destroyed y.object.fate)))
      (ap (λ n. is_destroyed x.object.fate && (n - 1 == 0)) one ∙ (ap (λ d. d && true) gone))
      (ap (λ n. is_alive x.object.fate || (is_destroyed x.object.fate && not (n - 1 == 0))) one ∙ (ap (λ a. a || (is_destroyed x.object.fate && false)) live ∙ and-false (is_destroyed x.object.fate)))
      items len capacity
    where
      not-alive : (f : Fate) → is_destroyed f ≡ true → is_alive f ≡ false
      not-alive Free h = refl
      not-alive Alive h = absurd (grind (arith, h))
      not-alive Destroyed h = refl

      and-false : (b : Bool) → (b && false) ≡ false
      and-false true = refl
      and-false false = refl

      pending-gone : (f : Fate) → is_destroyed f ≡ true → (is_alive f || (is_destroyed f && true)) ≡ true
      pending-gone Free h = absurd (grind (arith, h))
      pending-gone Alive h = refl
      pending-gone Destroyed h = refl

  -- and it is not for the last time
  pub listed-fewer : (slots : List Slot) (u : VecDeque ℕ A) (o : ℕ) (x y : Slot) → 0 < (slot_at slots o).references → x ≡ get_or slots o x → y ≡ get_or slots o y → IsListed slots u →
      (is_destroyed y.object.fate && (y.references == 1)) ≡ false → IsListed (slice_set slots o (record { object = x.object; references = y.references - 1; next = x.next })) u
  listed-fewer slots u o x y some isx isy l last =
      let lt = slot-referred slots o some in
      let ey = slot-is slots o y lt isy in
      let same = slot-is slots o x lt isx ∙ sym ey in
      let positive : 0 < y.references = subst (λ s. 0 < s.references) (sym ey) some in
      let unused = ap (λ s. is_destroyed s.object.fate && (y.references - 1 == 0)) same ∙ (one-less (is_destroyed y.object.fate) y.references positive last ∙ ap is_unused ey) in
      let fewer = subst (λ s. one_if (is_alive s.object.fate || (is_destroyed s.object.fate && not (y.references - 1 == 0))) ≤ one_if (is_pending y)) (sym same)
      (pending-less (is_alive y.object.fate) (is_destroyed y.object.fate) y.references positive) in
      let here = ap (λ s. one_if (is_pending s)) ey in
      listed-set slots u u o _ lt l refl unused (omega (arith, l.room, fewer, here))
