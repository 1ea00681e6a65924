-- Places in order of time, and those of one kind among them: those of an earlier point come first among those of a later one.
use Rattle.std.proofs.Common.{◌≡◌, ◌∙◌, ℕ, zero, suc, ◌+◌, ◌<◌, ◌≤◌, Bool, true, false, not, get_or, List, [], ◌∷◌, ◌++◌, map, refl, sym, ap, subst, arith, append-nil}
use Rattle.std.specs.List.{AllByRecursion, sum_by}
use Rattle.std.specs.Prelude.{◌==◌, if◌then◌else◌, IsPermutation}
use Rattle.std.proofs.lemmas.Bool.{eqb-true, eq-eqb, false≢true, ne_eqb}
use Rattle.std.proofs.lemmas.List.Sorted.{sum_by-IsPermutation}
use Rattle.std.proofs.lemmas.List.Sums.{sum_by-append, sum_by-cons}
use Rattle.wl_server_client.specs.declared.notes.queues.NotePlace.{NotePlace}
use Rattle.wl_server_model.specs.NoteOrder.{IsNoLater, Rise, all_places, times_at}
use Rattle.wl_server_client.specs.NoteTimes.{RiseWithin, place_at, places_of}
use Rattle.wl_server_client.specs.Stored.{NoteTimes}
use Rattle.wl_server_client.proofs.CallSteps.Numbers.{rise_up}

-- ---- lists in order, by recursion

abbrev pub Sorted : List NotePlace → Type 0
Sorted [] = Unit {0}
Sorted (p ∷ ps) = AllByRecursion (IsNoLater p) ps × Sorted ps

all_more : (P Q : NotePlace → Type 0) → ((p : NotePlace) → P p → Q p) → (ps : List NotePlace) → AllByRecursion P ps → AllByRecursion Q ps
all_more P Q more [] all = tt
all_more P Q more (p ∷ ps) (here, all) = (more p here, all_more P Q more ps all)

pub later_refl : (p : NotePlace) → IsNoLater p p
later_refl p = (λ w. w, λ e. omega arith, λ e n. omega arith)

-- a place that is no later than another, and no earlier
one_place : (p q : NotePlace) → IsNoLater p q → IsNoLater q p → p ≡ q
one_place p q first second = grind (arith, false≢true)

pub sorted_of : (ps : List NotePlace) → Rise ps → Sorted ps
sorted_of [] rise = tt
sorted_of (p ∷ []) rise = (tt, tt)
sorted_of (p ∷ q ∷ ps) rise =
    let rest = sorted_of (q ∷ ps) (λ k d below. let same : suc k + 1 ≡ suc (k + 1) = omega arith in
    subst (λ (m : ℕ). IsNoLater (get_or (q ∷ ps) k d) (get_or (p ∷ q ∷ ps) m d)) same (rise (suc k) d (omega (arith, below)))) in
    let first : IsNoLater p q = rise 0 p (omega arith) in
    ((first, all_more (IsNoLater q) (IsNoLater p) (λ r after. (grind (arith, false≢true))) ps rest.0), rest)

-- ---- what is early comes first

-- what a place of this slot counts for
abbrev pub in_slot : ℕ → (NotePlace → ℕ) → NotePlace → ℕ
in_slot slot f p = if p.slot == slot then f p else 0

abbrev as_one : Bool → ℕ
as_one b = if b then 1 else 0

-- one of the same kind and number counts for one
abbrev pub like : NotePlace → NotePlace → ℕ
like q p = if as_one p.waits == as_one q.waits then as_one (p.number == q.number) else 0

-- how often a place is there
abbrev pub often : NotePlace → List NotePlace → ℕ
often q ps = sum_by (in_slot q.slot (like q)) ps

often_cons : (q p : NotePlace) (ps : List NotePlace) → often q (p ∷ ps) ≡ in_slot q.slot (like q) p + often q ps
often_cons q p ps = sum_by-cons (in_slot q.slot (like q)) p ps

there_first : (q : NotePlace) (ps : List NotePlace) → 1 ≤ often q (q ∷ ps)
there_first q ps =
    grind (arith, often_cons q q ps, eq-eqb (as_one q.waits) (as_one q.waits) refl, eq-eqb q.number q.number refl, eq-eqb q.slot q.slot refl)

-- what holds of all places holds of one that is there
holds_there : (P : NotePlace → Type 0) (q : NotePlace) (ps : List NotePlace) → AllByRecursion P ps → 1 ≤ often q ps → P q
holds_there P q [] all some = absurd (omega (arith, some))
holds_there P q (p ∷ ps) (here, all) some = grind (arith, often_cons q p ps, in_slot, like, eqb-true, holds_there P q ps all)

-- One order begins as another, if what is no later than a place of that is as often in both.
early_first : (a b : List NotePlace) → Sorted a → Sorted b → ((q r : NotePlace) → IsNoLater q r → 1 ≤ often r a → often q a ≡ often q b)
    → (rest : List NotePlace) × (b ≡ a ++ rest)
early_first [] b up up' same = (b, refl)
early_first (x ∷ a) [] up up' same =
    let here = there_first x a in absurd (omega (arith, here, same x x (later_refl x) here))
early_first (x ∷ a) (y ∷ b) (after_x, up) (after_y, up') same =
    let here = there_first x a in
    let first = holds_there (IsNoLater y) x (y ∷ b) (later_refl y, after_y) (omega (arith, here, same x x (later_refl x) here)) in
    let back = holds_there (IsNoLater x) y (x ∷ a) (later_refl x, after_x) (omega (arith, there_first y b, same y x first here)) in
    let is = one_place y x first back in
    let (rest, behind) = early_first a b up up' (λ q r less some.
    omega (arith, often_cons q x a, often_cons q y b, ap (in_slot q.slot (like q)) is, same q r less (omega (arith, some, often_cons r x a)))) in
    (rest, ap (λ (p : NotePlace). p ∷ b) is ∙ ap (λ (l : List NotePlace). x ∷ l) behind)

-- two orders of the same places are one
pub one_order : (a b : List NotePlace) → Sorted a → Sorted b → ((q : NotePlace) → often q a ≡ often q b) → a ≡ b
one_order a b up up' same =
    let (rest, is) = early_first a b up up' (λ q r less some. same q) in
    sym (is ∙ (ap (λ (l : List NotePlace). a ++ l) (none rest (λ q. sym (ap (often q) is) ∙ sym (same q))) ∙ append-nil a))
  where
    none : (rest : List NotePlace) → ((q : NotePlace) → often q (a ++ rest) ≡ often q a) → rest ≡ []
    none [] more = refl
    none (p ∷ rest) more = absurd (omega (arith, more p, sum_by-append (in_slot p.slot (like p)) a (p ∷ rest), there_first p rest))

-- ---- the places of one kind: of notes that were made, or of those that wait

abbrev is_kind : Bool → Bool → Bool
is_kind true waits = waits
is_kind false waits = not waits

abbrev pub kind_of : Bool → NoteTimes → List ℕ
kind_of true t = t.waiting
kind_of false t = t.made

abbrev pub only : Bool → List NotePlace → List NotePlace
only v [] = []
only v (p ∷ ps) = if is_kind v p.waits then p ∷ only v ps else only v ps

all_only : (P : NotePlace → Type 0) (v : Bool) (ps : List NotePlace) → AllByRecursion P ps → AllByRecursion P (only v ps)
all_only P v [] all = tt
all_only P v (p ∷ ps) (here, all) = grind (arith, all_only P v ps all, is_kind v p.waits)

sorted_only : (v : Bool) (ps : List NotePlace) → Sorted ps → Sorted (only v ps)
sorted_only v [] up = tt
sorted_only v (p ∷ ps) (after, up) = grind (arith, sorted_only v ps up, all_only (IsNoLater p) v ps after, is_kind v p.waits)

sum_only : (f : NotePlace → ℕ) (v : Bool) (ps : List NotePlace) → sum_by f (only v ps) ≡ sum_by (λ p. if is_kind v p.waits then f p else 0) ps
sum_only f v [] = refl
sum_only f v (p ∷ ps) =
    let one = sum_by-cons f p (only v ps) in
    let all = sum_by-cons (λ (q : NotePlace). if is_kind v q.waits then f q else 0) p ps in
    grind (arith, one, all, sum_only f v ps, is_kind v p.waits)

none_made : (p : NotePlace) (ps : List NotePlace) → p.waits ≡ true → AllByRecursion (IsNoLater p) ps → only false ps ≡ []
none_made p [] waits all = refl
none_made p (q ∷ ps) waits (here, all) = grind (arith, here.0 waits, none_made p ps waits all)

-- those that were made come before those that wait
pub parted : (ps : List NotePlace) → Sorted ps → ps ≡ only false ps ++ only true ps
parted [] up = refl
parted (p ∷ ps) (after, up) = grind (arith, parted ps up, none_made p ps, p.waits)

-- ---- the places of all clients

-- in a list of numbers, of those of these kinds and of this slot
list_sum : (f : NotePlace → ℕ) (kinds : Bool → Bool) (u : Bool) (k slot : ℕ) (ns : List ℕ)
    → sum_by (λ p. if kinds p.waits then in_slot slot f p else 0) (map (place_at u k) ns)
    ≡ (if kinds u then (if k == slot then sum_by (λ n. f (place_at u slot n)) ns else 0) else 0)
list_sum f kinds u k slot [] = grind (arith, kinds u, k == slot)
list_sum f kinds u k slot (n ∷ ns) =
    let all = sum_by-cons (λ (p : NotePlace). if kinds p.waits then in_slot slot f p else 0) (place_at u k n) (map (place_at u k) ns) in
    let one = sum_by-cons (λ (m : ℕ). f (place_at u slot m)) n ns in
    grind (arith, all, one, list_sum f kinds u k slot ns, eqb-true k slot, kinds u, k == slot)

-- The places of a slot among those of all clients are its client's.
module _ (f : NotePlace → ℕ) (kinds : Bool → Bool) (slot : ℕ) (waits : Bool) where
  abbrev counted : NotePlace → ℕ
  counted p = if kinds p.waits then in_slot slot f p else 0

  abbrev of_client : NoteTimes → ℕ
  of_client t = (if kinds false then sum_by (λ n. f (place_at false slot n)) t.made else 0)
      + (if waits then (if kinds true then sum_by (λ n. f (place_at true slot n)) t.waiting else 0) else 0)

  own : (k : ℕ) (t : NoteTimes) → sum_by counted (places_of waits k t) ≡ (if k == slot then of_client t else 0)
  own k t = grind (arith, sum_by-append, list_sum, waits, k == slot, kinds true, kinds false)

  past : (k : ℕ) (ts : List NoteTimes) → slot < k → sum_by counted (all_places waits k ts) ≡ 0
  past k [] less = refl
  past k (t ∷ ts) less = grind (arith, sum_by-append, places_of, all_places, ne_eqb, past (k + 1) ts, own k t)

  among : (k j : ℕ) (ts : List NoteTimes) → slot ≡ k + j → sum_by counted (all_places waits k ts) ≡ of_client (times_at j ts)
  among k j [] is = grind (arith, kinds true, kinds false, waits)
  among k zero (t ∷ ts) is = grind (arith, sum_by-append, places_of, all_places, eq-eqb, past, own k t)
  among k (suc j) (t ∷ ts) is = grind (arith, sum_by-append, places_of, all_places, ne_eqb, among (k + 1) j ts, own k t)

-- these are the places of one kind, in order
pub record IsOf (v : Bool) (ts : List NoteTimes) (order : List NotePlace) : Type 0 where
  pub sorted : Sorted order
  pub counts : (f : NotePlace → ℕ) (slot : ℕ) → sum_by (in_slot slot f) order ≡ sum_by (λ n. f (place_at v slot n)) (kind_of v (times_at slot ts))

pub of_made : (ts : List NoteTimes) (ps : List NotePlace) → Rise ps → IsPermutation (all_places false 0 ts) ps → IsOf false ts ps
of_made ts ps rise moved = record {
  sorted = sorted_of ps rise;
  counts = λ f slot. let all = sum_by-IsPermutation (in_slot slot f) (all_places false 0 ts) ps moved in
      let mine = among f (λ b. true) slot false 0 slot ts (omega arith) in omega (arith, all, mine);
}

pub of_kind : (v : Bool) (ts : List NoteTimes) (ps : List NotePlace) → Rise ps → IsPermutation (all_places true 0 ts) ps → IsOf v ts (only v ps)
of_kind v ts ps rise moved = record {
  sorted = sorted_only v ps (sorted_of ps rise);
  counts = λ f slot. sum_only (in_slot slot f) v ps ∙ (sum_by-IsPermutation (counted f (is_kind v) slot true) (all_places true 0 ts) ps moved
      ∙ (among f (is_kind v) slot true 0 slot ts (omega arith) ∙ one f slot));
}
  where
    one : (f : NotePlace → ℕ) (slot : ℕ)
        → of_client f (is_kind v) slot true (times_at slot ts) ≡ sum_by (λ n. f (place_at v slot n)) (kind_of v (times_at slot ts))
    one f slot = grind (arith, v)

-- ---- two orders, at an earlier point and at a later one

sum_none : (h : ℕ → ℕ) (low : ℕ) (ns : List ℕ) (next : ℕ) → RiseWithin low ns next → ((n : ℕ) → low ≤ n → n < next → h n ≡ 0) → sum_by h ns ≡ 0
sum_none h low [] next rise none = refl
sum_none h low (n ∷ ns) next (first, rest) none =
    let less = rise_up (n + 1) ns next rest in
    let others = sum_none h (n + 1) ns next rest (λ m low' less'. none m (omega (arith, first, low')) less') in
    omega (arith, sum_by-cons h n ns, none n first (omega (arith, less)), others)

pub earlier_first : (v : Bool) (ts ts' : List NoteTimes) (a b : List NotePlace) (next next' : ℕ) → IsOf v ts a → IsOf v ts' b
    → ((slot : ℕ) → RiseWithin 0 (kind_of v (times_at slot ts)) next)
    → ((slot : ℕ) → (more : List ℕ) × (kind_of v (times_at slot ts') ≡ kind_of v (times_at slot ts) ++ more) × RiseWithin next more next')
    → (rest : List NotePlace) × (b ≡ a ++ rest)
earlier_first v ts ts' a b next next' of of' rise grow = early_first a b of.sorted of'.sorted same
  where
    low : (r : NotePlace) → 1 ≤ often r a → (r.waits ≡ v) × (r.number < next)
    low r some =
        let none = sum_none (λ n. like r (place_at v r.slot n)) 0 (kind_of v (times_at r.slot ts)) next (rise r.slot) in
        grind (arith, of.counts (like r) r.slot, none, eqb-true)

    same : (q r : NotePlace) → IsNoLater q r → 1 ≤ often r a → often q a ≡ often q b
    same q r less some =
        let (more, is, later) = grow q.slot in
        let (kind, below) = low r some in
        let none = sum_none (λ n. like q (place_at v q.slot n)) next more next' later (λ n high high'. (grind (arith, eqb-true, less.1))) in
        of.counts (like q) q.slot ∙ ((grind (arith, none, is, sum_by-append)) ∙ sym (of'.counts (like q) q.slot))
