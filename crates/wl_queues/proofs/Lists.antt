-- The queues and their events, as one queue changes.
use Rattle.std.proofs.Common.{◌≡◌, ℕ, zero, suc, ◌+◌, ◌<◌, List, [], ◌∷◌, ◌++◌, length, get_or, map, Bool, true, false, refl, sym, ap, ◌∙◌, arith, subst}
use Rattle.std.specs.Prelude.{if◌then◌else◌, ◌==◌, All, slice_set}
use Rattle.std.specs.List.{sum_by}
use Rattle.std.proofs.lemmas.Bool.Decides.{nat_tests}
use Rattle.std.proofs.lemmas.List.Elements.{All-cons, All-head, All-nil, All-tail}
use Rattle.std.proofs.lemmas.List.Sums.{sum_by-cons}
use Rattle.wl_queues.specs.declared.events.Event.{Event}
use Rattle.wl_queues.specs.declared.events.Held.{Held}
use Rattle.wl_queues.specs.declared.queues.Queue.{Queue}
use Rattle.wl_queues.specs.Events.{IsFirstSender, times_named}
use Rattle.wl_queues.specs.Inside.Counts.{dropped_at, events_of, is_gone, named_by_held, named_by_queue, named_in_hand, named_waiting, waiting_at}
use Rattle.wl_queues.specs.Queues.{QueuesState, IsUnnamed, with_waiting}

-- a function of an element that changes
map-at : {X Y : Type 0} (f : X → Y) (xs : List X) (i : ℕ) (x : X) (n : ℕ) (d : Y) → i < length xs → get_or (map f (slice_set xs i x)) n d ≡ (if n == i then f x else get_or (map f xs) n d)
map-at f [] i x n d lt = absurd (omega arith)
map-at f (y ∷ xs) zero x zero d lt = refl
map-at f (y ∷ xs) zero x (suc n) d lt = sym (ap (λ b. if b then f x else get_or (map f xs) n d) (differ n))
  where
    differ : (n : ℕ) → (suc n == 0) ≡ false
    differ n = grind (arith, nat_tests)
map-at f (y ∷ xs) (suc i) x zero d lt = sym (ap (λ b. if b then f x else f y) (differ i))
  where
    differ : (i : ℕ) → (0 == suc i) ≡ false
    differ i = grind (arith, nat_tests)
map-at f (y ∷ xs) (suc i) x (suc n) d lt = map-at f xs i x n d (omega arith) ∙ ap (λ b. if b then f x else get_or (map f xs) n d) (less i n)
  where
    less : (i n : ℕ) → (n == i) ≡ (suc n == suc i)
    less i n = grind (arith, nat_tests)

-- a new element whose value is that of one which is not there
map-pushed : {X Y : Type 0} (f : X → Y) (xs : List X) (x : X) (n : ℕ) (d : Y) → f x ≡ d → get_or (map f (xs ++ x ∷ [])) n d ≡ get_or (map f xs) n d
map-pushed f [] x zero d is = is
map-pushed f [] x (suc n) d is = refl
map-pushed f (y ∷ xs) x zero d is = refl
map-pushed f (y ∷ xs) x (suc n) d is = map-pushed f xs x n d is

-- the value of an element that is there
map-there : {X Y : Type 0} (f : X → Y) (xs : List X) (i : ℕ) (x : X) (d : Y) → i < length xs → x ≡ get_or xs i x → get_or (map f xs) i d ≡ f x
map-there f [] i x d lt is = absurd (omega arith)
map-there f (y ∷ xs) zero x d lt is = ap f (sym is)
map-there f (y ∷ xs) (suc i) x d lt is = map-there f xs i x d (omega arith) is

-- what no event names is named no times, and the other way round
zero-of-all : {X : Type 0} (f : X → ℕ) (xs : List X) → All (λ x. f x ≡ 0) xs → sum_by f xs ≡ 0
zero-of-all f [] all = refl
zero-of-all f (x ∷ xs) all = sum_by-cons f x xs ∙ omega (arith, All-head (λ x. f x ≡ 0) x xs all, zero-of-all f xs (All-tail (λ x. f x ≡ 0) x xs all))

all-of-zero : {X : Type 0} (f : X → ℕ) (xs : List X) → sum_by f xs ≡ 0 → All (λ x. f x ≡ 0) xs
all-of-zero f [] none = All-nil (λ x. f x ≡ 0)
all-of-zero f (x ∷ xs) none =
    let both = sum_by-cons f x xs in
    All-cons (λ x. f x ≡ 0) x xs (omega (arith, both, none)) (all-of-zero f xs (omega (arith, both, none)))

module _ {E : Type 0} where
  -- what is found at the front is the first event
  pub first-there : (events : List (Event E)) (e : Event E) → 0 < length events → e ≡ get_or events 0 e → (later : List (Event E)) × (events ≡ e ∷ later)
  first-there [] e some is = absurd (omega arith)
  first-there (x ∷ later) e some is = (later, ap (λ y. y ∷ later) (sym is))

  -- two events that are first are for one object
  pub same-sender : (events : List (Event E)) (o : ℕ) (e : Event E) (later : List (Event E)) → IsFirstSender o events → events ≡ e ∷ later → o ≡ e.sender
  same-sender events o e later first is = first.3 ∙ ap (λ ws. (get_or ws 0 e).sender) (sym first.2 ∙ is)

  pub waiting-set : (queues : List (Queue E)) (i : ℕ) (q : Queue E) (n : ℕ) → i < length queues → waiting_at (slice_set queues i q) n ≡ with_waiting i q.events.items (waiting_at queues) n
  waiting-set queues i q n lt = map-at events_of queues i q n [] lt

  pub dropped-set : (queues : List (Queue E)) (i : ℕ) (q : Queue E) (n : ℕ) → i < length queues → dropped_at (slice_set queues i q) n ≡ (if n == i then q.is_dropped else dropped_at queues n)
  dropped-set queues i q n lt = map-at is_gone queues i q n false lt

  pub waiting-push : (queues : List (Queue E)) (q : Queue E) (n : ℕ) → q.events.items ≡ [] → waiting_at (queues ++ q ∷ []) n ≡ waiting_at queues n
  waiting-push queues q n none = map-pushed events_of queues q n [] none

  pub dropped-push : (queues : List (Queue E)) (q : Queue E) (n : ℕ) → q.is_dropped ≡ false → dropped_at (queues ++ q ∷ []) n ≡ dropped_at queues n
  dropped-push queues q n kept = map-pushed is_gone queues q n false kept

  pub waiting-there : (queues : List (Queue E)) (i : ℕ) (q : Queue E) → i < length queues → q ≡ get_or queues i q → waiting_at queues i ≡ q.events.items
  waiting-there queues i q lt is = map-there events_of queues i q [] lt is

  pub dropped-there : (queues : List (Queue E)) (i : ℕ) (q : Queue E) → i < length queues → q ≡ get_or queues i q → dropped_at queues i ≡ q.is_dropped
  dropped-there queues i q lt is = map-there is_gone queues i q false lt is

  -- a queue whose events stay as they were
  pub waiting-kept : (queues : List (Queue E)) (i : ℕ) (q p : Queue E) (n : ℕ) → i < length queues → q ≡ get_or queues i q → p.events.items ≡ q.events.items → waiting_at (slice_set queues i p) n ≡ waiting_at queues n
  waiting-kept queues i q p n lt is same = waiting-set queues i p n lt ∙ either (n == i) refl
    where
      either : (b : Bool) → (n == i) ≡ b → (if b then p.events.items else waiting_at queues n) ≡ waiting_at queues n
      either true here = let e : i ≡ n = grind (arith, nat_tests, here) in same ∙ (sym (waiting-there queues i q lt is) ∙ ap (waiting_at queues) e)
      either false other = refl

  -- a queue that is not dropped by what changes
  pub dropped-kept : (queues : List (Queue E)) (i : ℕ) (q p : Queue E) (n : ℕ) → i < length queues → q ≡ get_or queues i q → p.is_dropped ≡ q.is_dropped → dropped_at (slice_set queues i p) n ≡ dropped_at queues n
  dropped-kept queues i q p n lt is same = dropped-set queues i p n lt ∙ either (n == i) refl
    where
      either : (b : Bool) → (n == i) ≡ b → (if b then p.is_dropped else dropped_at queues n) ≡ dropped_at queues n
      either true here = let e : i ≡ n = grind (arith, nat_tests, here) in same ∙ (sym (dropped-there queues i q lt is) ∙ ap (dropped_at queues) e)
      either false other = refl

  -- ---- how often an object is named

  waiting-zero : (o : ℕ) (queues : List (Queue E)) (n : ℕ) → named_waiting o queues ≡ 0 → sum_by (times_named o) (waiting_at queues n) ≡ 0
  waiting-zero o [] n none = refl
  waiting-zero o (q ∷ queues) zero none = omega (arith, none, sum_by-cons (named_by_queue o) q queues)
  waiting-zero o (q ∷ queues) (suc n) none = waiting-zero o queues n (omega (arith, none, sum_by-cons (named_by_queue o) q queues))

  zero-waiting : (o : ℕ) (queues : List (Queue E)) → ((n : ℕ) → sum_by (times_named o) (waiting_at queues n) ≡ 0) → named_waiting o queues ≡ 0
  zero-waiting o [] each = refl
  zero-waiting o (q ∷ queues) each = sum_by-cons (named_by_queue o) q queues ∙ omega (arith, each 0, zero-waiting o queues (λ n. each (suc n)))

  pub unnamed-of-zero : (s : QueuesState E) (o : ℕ) (queues : List (Queue E)) (in_hand : List (Held E)) → ((n : ℕ) → s.waiting n ≡ waiting_at queues n) → s.in_hand ≡ in_hand →
      named_waiting o queues + named_in_hand o in_hand ≡ 0 → IsUnnamed s o
  unnamed-of-zero s o queues in_hand waiting held none = record {
    waiting = λ n. subst (All (λ e. times_named o e ≡ 0)) (sym (waiting n)) (all-of-zero (times_named o) (waiting_at queues n) (waiting-zero o queues n (omega (arith, none))));
    in_hand = subst (All (λ h. times_named o h.event ≡ 0)) (sym held) (all-of-zero (named_by_held o) in_hand (omega (arith, none)));
  }

  pub zero-of-unnamed : (s : QueuesState E) (o : ℕ) (queues : List (Queue E)) (in_hand : List (Held E)) → ((n : ℕ) → s.waiting n ≡ waiting_at queues n) → s.in_hand ≡ in_hand →
      IsUnnamed s o → named_waiting o queues + named_in_hand o in_hand ≡ 0
  zero-of-unnamed s o queues in_hand waiting held u =
      let a = zero-waiting o queues (λ n. ap (sum_by (times_named o)) (sym (waiting n)) ∙ zero-of-all (times_named o) (s.waiting n) (u.waiting n)) in
      let b = ap (named_in_hand o) (sym held) ∙ zero-of-all (named_by_held o) s.in_hand u.in_hand in
      omega (arith, a, b)
