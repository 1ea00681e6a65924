-- The ledgers of clients by slot: what a look-up reads, and what becomes of the list. And that no descriptor is lost, or handed
-- out twice.
use Rattle.std.proofs.Common.{◌≡◌, ◌≢◌, ℕ, ℤ, zero, suc, ◌+◌, ◌-◌, ◌++◌, ◌<◌, ◌≤◌, Bool, true, false, ◌||◌, List, [], ◌∷◌, Option, None, Some, length, refl, ap, sym, ◌∙◌, arith, append_assoc, subst, is_some, get_or, true≢false, inl, inr}
use Rattle.std.proofs.lemmas.Bool.{eqb-true, eq-eqb, false≢true}
use Rattle.std.proofs.lemmas.List.{replicate_more, set-get_or}
use Rattle.std.proofs.lemmas.List.Sums.{sum_by-cons, sum_by-set}
use Rattle.std.proofs.lemmas.Option.{get_or_from_slice_get, slice_get-get_or, slice_get_within}
use Rattle.std.specs.List.{slice_get, slice_index_or, sum_by}
use Rattle.std.specs.Option.{option_map_or}
use Rattle.std.specs.Prelude.{IfNone, MatchOption, option_to_list, replicate, slice_set, ◌==◌, if◌then◌else◌}
use Rattle.wl_server_client.specs.Ids.{ClientParts}
use Rattle.wl_host.proofs.Slots.{among_added}
use Rattle.wl_flat.specs.Descriptors.{Conserves, Descriptors}
use Rattle.wl_host.specs.Inside.Seats.{AreMarked, IsMarked, PassesOutOf, taken}
use Rattle.wl_host.specs.Seats.{HasNonePassed, LedgerPassesOut, PassesOut, SeatHasNonePassed, SeatPassesOut, SeatsState, added, if_serial, is_among, kept_by_ledger, kept_by_seat, kept_by_seats, ledger_at, ledger_of, padded, with_ledger}
use Rattle.wl_host.specs.declared.server.ledger.Ledger.{Ledger}

-- ---- lists

get_set_other : {A : Type 0} (xs : List A) (i j : ℕ) (y : A) → i ≢ j → slice_get (slice_set xs i y) j ≡ slice_get xs j
get_set_other [] i j y differ = refl
get_set_other (z ∷ xs) zero zero y differ = absurd (differ refl)
get_set_other (z ∷ xs) zero (suc j) y differ = refl
get_set_other (z ∷ xs) (suc i) zero y differ = refl
get_set_other (z ∷ xs) (suc i) (suc j) y differ = get_set_other xs i j y (λ e. differ (ap suc e))

other_of : (i j : ℕ) → (i == j) ≡ false → i ≢ j
other_of i j differ e = true≢false (sym (eq-eqb i j e) ∙ differ)

-- ---- look-ups

-- the ledger at a slot stands in the list
pub slot_of_ledger : (n : ℕ) (ledgers : List (Option Ledger)) (l : Ledger) → ledger_at n ledgers ≡ Some l → slice_get ledgers n ≡ Some (Some l)
slot_of_ledger n [] l e = cc
slot_of_ledger zero (o ∷ ledgers) l e = ap Some e
slot_of_ledger (suc n) (o ∷ ledgers) l e = slot_of_ledger n ledgers l e

of_serial : (serial : ℕ) (o : Option Ledger) (l : Ledger) → if_serial serial o ≡ Some l → o ≡ Some l
of_serial serial None l e = e
of_serial serial (Some k) l e = by (k.id.serial == serial) e
  where
    by : (b : Bool) → (if b then Some k else None) ≡ Some l → Some k ≡ Some l
    by true e = e
    by false e = cc

-- the ledger of a client stands at its slot
pub slot_of_client : (id : ClientParts) (ledgers : List (Option Ledger)) (l : Ledger) → ledger_of id ledgers ≡ Some l → slice_get ledgers id.slot ≡ Some (Some l)
slot_of_client id ledgers l e = slot_of_ledger id.slot ledgers l (of_serial id.serial (ledger_at id.slot ledgers) l e)

pub ledger_at_slot : (n : ℕ) (ledgers : List (Option Ledger)) (o : Option Ledger) → slice_get ledgers n ≡ Some o → ledger_at n ledgers ≡ o
ledger_at_slot n ledgers o e = rw e refl

seat_holds : (ledgers : List (Option Ledger)) (id : ClientParts) (x : Option Ledger) → is_some (ledger_of id ledgers) ≡ true → x ≡ slice_index_or ledgers id.slot x
    → slice_get ledgers id.slot ≡ Some x
seat_holds ledgers id x some value = by (ledger_of id ledgers) refl some
  where
    by : (o : Option Ledger) → ledger_of id ledgers ≡ o → is_some o ≡ true → slice_get ledgers id.slot ≡ Some x
    by None e some = absurd (false≢true some)
    by (Some l) e some =
        let at = slot_of_client id ledgers l e in
        let g = get_or_from_slice_get ledgers id.slot (Some l) x at in at ∙ ap Some (sym (value ∙ g))

-- what is read at the slot of a client that is seated is its ledger
pub ledger_reads : (ledgers : List (Option Ledger)) (id : ClientParts) (n : ℕ) (x : Option Ledger) → is_some (ledger_of id ledgers) ≡ true
    → n ≡ id.slot → x ≡ slice_index_or ledgers n x → x ≡ ledger_of id ledgers
ledger_reads ledgers id n x some at value =
    let holds = seat_holds ledgers id x some (subst (λ (i : ℕ). x ≡ slice_index_or ledgers i x) at value) in
    let reads : ledger_of id ledgers ≡ if_serial id.serial x = ap (if_serial id.serial) (ledger_at_slot id.slot ledgers x holds) in
    sym (reads ∙ same x (sym (ap is_some reads) ∙ some))
  where
    same : (o : Option Ledger) → is_some (if_serial id.serial o) ≡ true → if_serial id.serial o ≡ o
    same None is = refl
    same (Some s) is = of (s.id.serial == id.serial) is
      where
        of : (b : Bool) → is_some (if b then Some s else None) ≡ true → (if b then Some s else None) ≡ Some s
        of true is = refl
        of false is = absurd (false≢true is)

-- ---- marks

-- another ledger at a slot that is marked
pub marked_set : (marked : List ℕ) (ledgers : List (Option Ledger)) (slot : ℕ) (o : Option Ledger) → AreMarked marked ledgers → is_among slot marked ≡ true
    → AreMarked marked (slice_set ledgers slot o)
marked_set marked ledgers slot o marks there = λ k. by k (slot == k) refl
  where
    at_mark : (k : ℕ) (p : Option Ledger) → is_among k marked ≡ true → IsMarked marked k p
    at_mark k None e = tt
    at_mark k (Some l) e = inl e

    other : (ledgers : List (Option Ledger)) (slot k : ℕ) → (slot == k) ≡ false → ledger_at k (slice_set ledgers slot o) ≡ ledger_at k ledgers
    other ledgers slot k differ = ap (λ (p : Option (Option Ledger)). option_map_or (λ l. l) p None) (get_set_other ledgers slot k o (other_of slot k differ))

    by : (k : ℕ) (b : Bool) → (slot == k) ≡ b → IsMarked marked k (ledger_at k (slice_set ledgers slot o))
    by k true e = at_mark k _ (ap (λ j. is_among j marked) (sym (eqb-true slot k e)) ∙ there)
    by k false e = subst (IsMarked marked k) (sym (other ledgers slot k e)) (marks k)

-- no ledger at a slot
pub marked_none : (marked : List ℕ) (ledgers : List (Option Ledger)) (slot : ℕ) → AreMarked marked ledgers → AreMarked marked (slice_set ledgers slot None)
marked_none marked ledgers slot marks = λ k. by k (slot == k) refl
  where
    here : (ledgers : List (Option Ledger)) (slot : ℕ) → ledger_at slot (slice_set ledgers slot None) ≡ None
    here [] slot = refl
    here (o ∷ ledgers) zero = refl
    here (o ∷ ledgers) (suc slot) = here ledgers slot

    by : (k : ℕ) (b : Bool) → (slot == k) ≡ b → IsMarked marked k (ledger_at k (slice_set ledgers slot None))
    by k true e = subst (λ (j : ℕ). IsMarked marked k (ledger_at j (slice_set ledgers slot None))) (eqb-true slot k e) (subst (IsMarked marked k) (sym (here ledgers slot)) tt)
    by k false e = subst (IsMarked marked k) (sym (ap (λ (p : Option (Option Ledger)). option_map_or (λ l. l) p None) (get_set_other ledgers slot k None (other_of slot k e)))) (marks k)

-- the first slot is no longer marked: its client has no descriptors that were passed over
pub marked_without : (slot : ℕ) (marked : List ℕ) (ledgers : List (Option Ledger)) → AreMarked (slot ∷ marked) ledgers → SeatHasNonePassed (ledger_at slot ledgers)
    → AreMarked marked ledgers
marked_without slot marked ledgers marks none = λ k. by k (slot == k) refl
  where
    with_none : (k : ℕ) (p : Option Ledger) → SeatHasNonePassed p → IsMarked marked k p
    with_none k None e = tt
    with_none k (Some l) e = inr e

    on : (k : ℕ) (p : Option Ledger) → (slot == k) ≡ false → IsMarked (slot ∷ marked) k p → IsMarked marked k p
    on k None e m = tt
    on k (Some l) e m = elim m [ inl a ↦ inl (sym (ap (λ b. b || is_among k marked) e) ∙ a) | inr b ↦ inr b ]

    by : (k : ℕ) (b : Bool) → (slot == k) ≡ b → IsMarked marked k (ledger_at k ledgers)
    by k true e = with_none k _ (subst (λ (j : ℕ). SeatHasNonePassed (ledger_at j ledgers)) (eqb-true slot k e) none)
    by k false e = on k _ e (marks k)

-- none is marked: no client has such descriptors
pub none_marked : (ledgers : List (Option Ledger)) → AreMarked [] ledgers → (slot : ℕ) → SeatHasNonePassed (ledger_at slot ledgers)
none_marked ledgers marks slot = by (ledger_at slot ledgers) (marks slot)
  where
    by : (p : Option Ledger) → IsMarked [] slot p → SeatHasNonePassed p
    by None m = tt
    by (Some l) m = elim m [ inl a ↦ absurd (false≢true a) | inr b ↦ b ]

-- more are marked
pub marked_added : (marked : List ℕ) (ledgers : List (Option Ledger)) (slot : ℕ) → AreMarked marked ledgers → AreMarked (added slot marked) ledgers
marked_added marked ledgers slot marks = λ k. by k (ledger_at k ledgers) (marks k)
  where
    or_left : (b c : Bool) → b ≡ true → (b || c) ≡ true
    or_left true c e = refl
    or_left false c e = absurd (false≢true e)

    keeps : (k : ℕ) (b : Bool) → is_among k marked ≡ true → is_among k (if b then marked else marked ++ slot ∷ []) ≡ true
    keeps k true e = e
    keeps k false e = among_added k slot marked ∙ or_left (is_among k marked) (slot == k) e

    by : (k : ℕ) (p : Option Ledger) → IsMarked marked k p → IsMarked (added slot marked) k p
    by k None m = tt
    by k (Some l) m = elim m [ inl a ↦ inl (keeps k (is_among slot marked) a) | inr b ↦ inr b ]

pub added_is_among : (slot : ℕ) (slots : List ℕ) → is_among slot (added slot slots) ≡ true
added_is_among slot slots = by (is_among slot slots) refl
  where
    or_right : (b c : Bool) → c ≡ true → (b || c) ≡ true
    or_right true c e = refl
    or_right false c e = e

    by : (b : Bool) → is_among slot slots ≡ b → is_among slot (if b then slots else slots ++ slot ∷ []) ≡ true
    by true e = e
    by false e = among_added slot slot slots ∙ or_right (is_among slot slots) (slot == slot) (eq-eqb slot slot refl)

-- ---- sums over the ledgers

-- one ledger in place of another
pub sum_replaced : {X : Type 0} (f : X → ℕ) (xs : List X) (n : ℕ) (x y : X) → slice_get xs n ≡ Some x → sum_by f (slice_set xs n y) + f x ≡ sum_by f xs + f y
sum_replaced f xs n x y e =
    let h = sum_by-set f xs n y x (slice_get_within xs n x e) in
    let g = get_or_from_slice_get xs n x x e in
    let r = ap f g in omega (arith, h, r)

-- ---- descriptors that were passed over

same_descriptors : (q r : Descriptors) → r.passed ≡ q.passed → r.held ≡ q.held → r.front ≡ q.front → r ≡ q
same_descriptors q r p h f =
    ap (λ (x : List ℤ). let c : Descriptors = record { passed = x; held = r.held; front = r.front } in c) p
    ∙ (ap (λ (x : List ℤ). let c : Descriptors = record { passed = q.passed; held = x; front = r.front } in c) h
    ∙ ap (λ (x : ℕ). let c : Descriptors = record { passed = q.passed; held = q.held; front = x } in c) f)

passes : (q r : Descriptors) (d : ℤ) → q.passed ≡ d ∷ r.passed → r.held ≡ q.held → r.front ≡ q.front → PassesOut q d r
passes q r d p h f = same_descriptors (record r { passed = d ∷ r.passed }) q p (sym h) (sym f)

abbrev with_queues : Ledger → Descriptors → Descriptors → Ledger
with_queues l q r = record l { received = q; sending = r }

-- of what is to be sent, if none was of what arrived
pub ledger_second : (l : Ledger) (q r : Descriptors) (o : Option ℤ) → l.received.passed ≡ q.passed → q.held ≡ l.received.held → q.front ≡ l.received.front → l.received.passed ≡ []
    → l.sending.passed ≡ option_to_list o ++ r.passed → r.held ≡ l.sending.held → r.front ≡ l.sending.front → IfNone o (l.sending.passed ≡ [])
    → MatchOption o (HasNonePassed l × (with_queues l q r ≡ l)) (λ d. LedgerPassesOut l d (with_queues l q r))
ledger_second l q r None e g k n p h f z =
    ((n, z), ap (λ x. with_queues l x r) (same_descriptors l.received q (sym e) g k) ∙ ap (λ x. with_queues l l.received x) (same_descriptors l.sending r (sym p) h f))
ledger_second l q r (Some d) e g k n p h f z = inr (r, passes l.sending r d p h f, ap (λ x. with_queues l x r) (same_descriptors l.received q (sym e) g k))

-- an item in its own place
pub set_same : {A : Type 0} (xs : List A) (i : ℕ) (x : A) → slice_get xs i ≡ Some x → slice_set xs i x ≡ xs
set_same xs i x e = ap (slice_set xs i) (sym (get_or_from_slice_get xs i x x e)) ∙ set-get_or xs i x

-- of the client at a slot
pub passed_at : (ledgers : List (Option Ledger)) (slot : ℕ) (seat after : Option Ledger) (o : Option ℤ) → slice_get ledgers slot ≡ Some seat
    → MatchOption o (SeatHasNonePassed seat × (after ≡ seat)) (λ d. PassesOutOf seat d after)
    → MatchOption o (SeatHasNonePassed (ledger_at slot ledgers) × (slice_set ledgers slot after ≡ ledgers)) (λ d. SeatPassesOut ledgers slot d (slice_set ledgers slot after))
passed_at ledgers slot seat after None e h =
    (subst SeatHasNonePassed (sym (ledger_at_slot slot ledgers seat e)) h.0, ap (slice_set ledgers slot) h.1 ∙ set_same ledgers slot seat e)
passed_at ledgers slot seat after (Some d) e h = (h.0, h.1, ledger_at_slot slot ledgers seat e ∙ h.2, h.3, ap (slice_set ledgers slot) h.4)

-- how many clients there are stays
pub taken_passed : (before after : List (Option Ledger)) (o : Option ℤ) → MatchOption o (after ≡ before) (λ d. (slot : ℕ) × SeatPassesOut before slot d after)
    → sum_by taken after ≡ sum_by taken before
taken_passed before after None h = ap (sum_by taken) h
taken_passed before after (Some d) h =
    let at = h.1 in
    let r = sum_replaced taken before h.0 (Some at.0) (Some at.1) (slot_of_ledger h.0 before at.0 at.2) in
    let w = ap (sum_by taken) at.4 in omega (arith, r, w)

pub taken_after : (before after : List (Option Ledger)) (o : Option ℤ) (marked : List ℕ) → MatchOption o ((marked ≡ []) × (after ≡ before)) (λ d. (slot : ℕ) × SeatPassesOut before slot d after)
    → sum_by taken after ≡ sum_by taken before
taken_after before after None marked h = taken_passed before after None h.1
taken_after before after (Some d) marked h = taken_passed before after (Some d) h

-- and so it is when a ledger is replaced, or taken away
pub taken_replaced : (ledgers : List (Option Ledger)) (id : ClientParts) (l k : Ledger) → ledger_of id ledgers ≡ Some l → sum_by taken (slice_set ledgers id.slot (Some k)) ≡ sum_by taken ledgers
taken_replaced ledgers id l k e = let r = sum_replaced taken ledgers id.slot (Some l) (Some k) (slot_of_client id ledgers l e) in omega (arith, r)

pub taken_less : (ledgers : List (Option Ledger)) (id : ClientParts) (l : Ledger) → ledger_of id ledgers ≡ Some l → sum_by taken (slice_set ledgers id.slot None) + 1 ≡ sum_by taken ledgers
taken_less ledgers id l e = let r = sum_replaced taken ledgers id.slot (Some l) None (slot_of_client id ledgers l e) in omega (arith, r)

-- ---- descriptors

-- a ledger is replaced
pub conserves_ledger : (s : SeatsState) (id : ClientParts) (l k : Ledger) (i o : List ℤ) → ledger_of id s.ledgers ≡ Some l → Conserves kept_by_ledger l i o k
    → Conserves kept_by_seats s i o (with_ledger s id k)
conserves_ledger s id l k i o e c = record { each = λ d. let h = sum_replaced (kept_by_seat d) s.ledgers id.slot (Some l) (Some k) (slot_of_client id s.ledgers l e) in omega (arith, h, c.each d) }

-- ---- a new client

at_none : (n k : ℕ) → ledger_at k (replicate n None) ≡ None
at_none zero k = refl
at_none (suc n) zero = refl
at_none (suc n) (suc k) = at_none n k

-- places without a ledger are added
pub ledger_at_padded : (ledgers : List (Option Ledger)) (n k : ℕ) → ledger_at k (ledgers ++ replicate n None) ≡ ledger_at k ledgers
ledger_at_padded [] n k = at_none n k
ledger_at_padded (o ∷ ledgers) n zero = refl
ledger_at_padded (o ∷ ledgers) n (suc k) = ledger_at_padded ledgers n k

-- what is read at a slot is the ledger there
pub padded_reads : (ledgers : List (Option Ledger)) (n slot : ℕ) (x : Option Ledger) → slot < length (ledgers ++ replicate n None) → x ≡ get_or (ledgers ++ replicate n None) slot x
    → x ≡ ledger_at slot ledgers
padded_reads ledgers n slot x h e =
    sym (ledger_at_slot slot (ledgers ++ replicate n None) x (slice_get-get_or (ledgers ++ replicate n None) slot x h ∙ ap Some (sym e))) ∙ ledger_at_padded ledgers n slot

pub marked_padded : (marked : List ℕ) (ledgers : List (Option Ledger)) (n : ℕ) → AreMarked marked ledgers → AreMarked marked (ledgers ++ replicate n None)
marked_padded marked ledgers n marks = λ k. subst (IsMarked marked k) (sym (ledger_at_padded ledgers n k)) (marks k)

pub marked_seated : (marked : List ℕ) (ledgers : List (Option Ledger)) (slot : ℕ) (l : Ledger) → AreMarked marked ledgers → HasNonePassed l → slot < length ledgers
    → AreMarked marked (slice_set ledgers slot (Some l))
marked_seated marked ledgers slot l marks none h = λ k. by k (slot == k) refl
  where
    here : (ledgers : List (Option Ledger)) (slot : ℕ) → slot < length ledgers → ledger_at slot (slice_set ledgers slot (Some l)) ≡ Some l
    here [] slot h = absurd (omega (arith, h))
    here (o ∷ ledgers) zero h = refl
    here (o ∷ ledgers) (suc slot) h = here ledgers slot (omega (arith, h))

    by : (k : ℕ) (b : Bool) → (slot == k) ≡ b → IsMarked marked k (ledger_at k (slice_set ledgers slot (Some l)))
    by k true e = subst (λ (j : ℕ). IsMarked marked k (ledger_at j (slice_set ledgers slot (Some l)))) (eqb-true slot k e) (subst (IsMarked marked k) (sym (here ledgers slot h)) (inr none))
    by k false e = subst (IsMarked marked k) (sym (ap (λ (p : Option (Option Ledger)). option_map_or (λ l. l) p None) (get_set_other ledgers slot k (Some l) (other_of slot k e)))) (marks k)

-- no more are seated than there are places
pub taken_few : (ledgers : List (Option Ledger)) → sum_by taken ledgers ≤ length ledgers
taken_few [] = omega arith
taken_few (None ∷ ledgers) = let h = taken_few ledgers in let s = sum_by-cons taken None ledgers in omega (arith, h, s)
taken_few (Some l ∷ ledgers) = let h = taken_few ledgers in let s = sum_by-cons taken (Some l) ledgers in omega (arith, h, s)

-- a place more
pub more_padded : (before items : List (Option Ledger)) (i n : ℕ) → items ≡ before ++ replicate (i - n) None → n ≤ i → items ++ None ∷ [] ≡ before ++ replicate (i + 1 - n) None
more_padded before items i n e h =
    let there : Option Ledger = None in
    let s : i - n + 1 ≡ i + 1 - n = omega (arith, h) in
    ap (λ xs. xs ++ there ∷ []) e ∙ (append_assoc before (replicate (i - n) there) (there ∷ []) ∙ ap (λ xs. before ++ xs) (replicate_more (i - n) there ∙ ap (λ k. replicate k there) s))

pub put_value : (before items : List (Option Ledger)) (n slot at : ℕ) (x : Option Ledger) → items ≡ before ++ replicate n None → at ≡ slot → at < length items → x ≡ get_or items at x
    → x ≡ ledger_at slot before
put_value before items n slot at x e f h g =
    let long = ap length e in
    let within : slot < length (before ++ replicate n None) = omega (arith, h, f, long) in
    padded_reads before n slot x within (g ∙ (ap (λ xs. get_or xs at x) e ∙ ap (λ k. get_or (before ++ replicate n None) k x) f))

pub put_after : (before items : List (Option Ledger)) (n slot at : ℕ) (y : Option Ledger) (l : Ledger) → items ≡ before ++ replicate n None → n ≡ slot + 1 - length before → at ≡ slot → y ≡ Some l
    → slice_set items at y ≡ slice_set (padded before slot) slot (Some l)
put_after before items n slot at y l e m f g =
    ap (λ xs. slice_set xs at y) (e ∙ ap (λ k. before ++ replicate k None) m) ∙ (ap (λ k. slice_set (padded before slot) k y) f ∙ ap (slice_set (padded before slot) slot) g)
