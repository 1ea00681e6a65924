-- What every schedule keeps: the readers are those of the threads, and none waits for a turn that is still to come.
use Rattle.std.proofs.Common.{◌≡◌, ◌⊎◌, le_trans, ℕ, zero, suc, ◌+◌, ◌-◌, ◌<◌, ◌≤◌, List, [], ◌∷◌, length, get_or, Bool, true, false, refl, arith, sym, inl, inr, subst}
use Rattle.std.specs.Prelude.{if◌then◌else◌, ◌==◌, ◌||◌, nat_lt, nat_le, replicate, slice_set, cond}
use Rattle.std.specs.List.{count_by}
use Rattle.std.proofs.lemmas.Grind.{common_steps}
use Rattle.std.proofs.lemmas.Bool.Decides.{nat_tests}
use Rattle.std.proofs.lemmas.List.Sums.{sum_by-cons, sum_by-set}
use Rattle.wl_queues.specs.Readers.{ReadersState, begun, cancelled, greatest, is_last, turn_of, turns}
use Rattle.wl_queues.specs.Schedules.{Place, Elsewhere, Prepared, Reading, Waiting, Act, Prepares, Begins, Ends, Cancels, Looks, Step, World, AtMostOneReads, IsAwaited, NoneIsLeftWaiting, acted, begins_with, is_prepared, moved, place_by, place_of, reads, run, stepped, takes_part}

record Keeps (w : World) : Type 0 where
  prepared : w.readers.prepared ≡ count_by is_prepared w.threads
  reading : (if w.readers.is_reading then 1 else 0) ≡ count_by reads w.threads
  past : (u s : ℕ) → place_of w u ≡ Waiting s → s ≤ w.readers.ended
  awaited : (u : ℕ) → place_of w u ≡ Waiting w.readers.ended → 0 < w.readers.prepared + (if w.readers.is_reading then 1 else 0)

-- how many threads pass a test once one of them is at another place
count-moved : (test : Place → Bool) (places : List Place) (t : ℕ) (p : Place) → t < length places →
    count_by test (slice_set places t p) + (if test (get_or places t Elsewhere) then 1 else 0) ≡ count_by test places + (if test p then 1 else 0)
count-moved test places t p lt = sum_by-set (λ x. cond (test x) 1 0) places t p Elsewhere lt

-- who waits once a thread is at another place: that thread, or one that waited before
waits-moved : (places : List Place) (t u s : ℕ) (p : Place) → t < length places → get_or (slice_set places t p) u Elsewhere ≡ Waiting s →
    (p ≡ Waiting s) ⊎ (get_or places u Elsewhere ≡ Waiting s)
waits-moved places t u s p lt e = grind (arith, nat_tests, common_steps, e)

-- a thread that has prepared is counted
has-prepared : (w : World) (t : ℕ) → t < length w.threads → Keeps w → place_of w t ≡ Prepared → 0 < w.readers.prepared
has-prepared w t lt k is = grind (arith, is, k.prepared, count-moved is_prepared w.threads t Elsewhere lt)

abbrev one_if : Bool → ℕ
one_if b = if b then 1 else 0

-- a thread goes to another place, by which the readers change
moved-keeps : (w : World) (t : ℕ) (from p : Place) (r : ReadersState) → t < length w.threads → Keeps w → place_of w t ≡ from →
    r.prepared + one_if (is_prepared from) ≡ w.readers.prepared + one_if (is_prepared p) →
    one_if r.is_reading + one_if (reads from) ≡ one_if w.readers.is_reading + one_if (reads p) →
    w.readers.ended ≤ r.ended →
    ((s : ℕ) → p ≡ Waiting s → s ≤ r.ended) →
    ((u : ℕ) → (p ≡ Waiting r.ended) ⊎ (place_of w u ≡ Waiting r.ended) → 0 < r.prepared + one_if r.is_reading) →
    Keeps (moved w t p r)
moved-keeps w t from p r lt k is prepared reading later past awaited = record {
  prepared = grind (arith, is, k.prepared, prepared, count-moved is_prepared w.threads t p lt);
  reading = grind (arith, is, k.reading, reading, count-moved reads w.threads t p lt);
  past = λ u s h. elim (waits-moved w.threads t u s p lt h) [ inl here ↦ past s here | inr there ↦ le_trans (k.past u s there) later ];
  awaited = λ u h. awaited u (waits-moved w.threads t u r.ended p lt h);
}

-- a turn has ended, and nobody waits for the next one
nobody-yet : (w : World) (u n : ℕ) → Keeps w → place_of w u ≡ Waiting (w.readers.ended + 1) → 0 < n
nobody-yet w u n k h = absurd (omega (arith, k.past u (w.readers.ended + 1) h))

turn-is : (r : ReadersState) (b : Bool) → 0 < r.prepared → is_last r ≡ b → place_by (turn_of r) ≡ (if b then Reading else Waiting r.ended)
turn-is r true some last = grind (arith, nat_tests, some, last)
turn-is r false some last = grind (arith, nat_tests, some, last)

begun-is : (r : ReadersState) (b : Bool) → 0 < r.prepared → is_last r ≡ b → begun r ≡ record { prepared = r.prepared - 1; is_reading = b || r.is_reading; ended = r.ended }
begun-is r b some last = grind (arith, nat_tests, some, last)

cancelled-is : (r : ReadersState) (b : Bool) → 0 < r.prepared → is_last r ≡ b → cancelled r ≡ record { prepared = r.prepared - 1; is_reading = r.is_reading; ended = if b then r.ended + 1 else r.ended }
cancelled-is r b some last = grind (arith, nat_tests, some, last)

begin-keeps : (w : World) (t : ℕ) → t < length w.threads → Keeps w → place_of w t ≡ Prepared → 0 < w.readers.prepared → (b : Bool) → is_last w.readers ≡ b →
    Keeps (moved w t (if b then Reading else Waiting w.readers.ended) (record { prepared = w.readers.prepared - 1; is_reading = b || w.readers.is_reading; ended = w.readers.ended }))
begin-keeps w t lt k is some true last =
    moved-keeps w t Prepared Reading _ lt k is (omega arith) (grind (arith, nat_tests, last)) (omega arith) (λ s e. grind (arith, e)) (λ u e. omega arith)
begin-keeps w t lt k is some false last =
    moved-keeps w t Prepared (Waiting w.readers.ended) _ lt k is (omega arith) refl (omega arith) (λ s e. grind (arith, e)) (λ u e. grind (arith, nat_tests, last, some))

cancel-keeps : (w : World) (t : ℕ) → t < length w.threads → Keeps w → place_of w t ≡ Prepared → 0 < w.readers.prepared → (b : Bool) → is_last w.readers ≡ b →
    Keeps (moved w t Elsewhere (record { prepared = w.readers.prepared - 1; is_reading = w.readers.is_reading; ended = if b then w.readers.ended + 1 else w.readers.ended }))
cancel-keeps w t lt k is some true last =
    moved-keeps w t Prepared Elsewhere _ lt k is (omega arith) refl (omega arith) (λ s e. grind (arith, e))
    (λ u e. elim e [ inl here ↦ grind (arith, here) | inr there ↦ nobody-yet w u _ k there ])
cancel-keeps w t lt k is some false last =
    moved-keeps w t Prepared Elsewhere _ lt k is (omega arith) refl (omega arith) (λ s e. grind (arith, e)) (λ u e. grind (arith, nat_tests, last, some))

end-keeps : (w : World) (t : ℕ) → t < length w.threads → Keeps w → place_of w t ≡ Reading → (b : Bool) → w.readers.is_reading ≡ b →
    Keeps (moved w t Elsewhere (if b then record { prepared = w.readers.prepared; is_reading = false; ended = w.readers.ended + 1 } else w.readers))
end-keeps w t lt k is true reading =
    moved-keeps w t Reading Elsewhere _ lt k is refl (grind (arith, reading)) (omega arith) (λ s e. grind (arith, e))
    (λ u e. elim e [ inl here ↦ grind (arith, here) | inr there ↦ nobody-yet w u _ k there ])
end-keeps w t lt k is false reading = absurd (grind (arith, is, reading, k.reading, count-moved reads w.threads t Elsewhere lt))

prepare-keeps : (w : World) (t : ℕ) → t < length w.threads → Keeps w → place_of w t ≡ Elsewhere → (b : Bool) →
    Keeps (if b then w else moved w t Prepared (if b then w.readers else record { prepared = w.readers.prepared + 1; is_reading = w.readers.is_reading; ended = w.readers.ended }))
prepare-keeps w t lt k is true = k
prepare-keeps w t lt k is false = moved-keeps w t Elsewhere Prepared _ lt k is (omega arith) refl (omega arith) (λ s e. grind (arith, e)) (λ u e. omega arith)

look-keeps : (w : World) (t s : ℕ) → t < length w.threads → Keeps w → place_of w t ≡ Waiting s → (b : Bool) → Keeps (if b then w else moved w t Elsewhere w.readers)
look-keeps w t s lt k is true = k
look-keeps w t s lt k is false =
    moved-keeps w t (Waiting s) Elsewhere _ lt k is (omega arith) refl (omega arith) (λ s e. grind (arith, e))
    (λ u e. elim e [ inl here ↦ grind (arith, here) | inr there ↦ k.awaited u there ])

acted-keeps : (w : World) (t : ℕ) → t < length w.threads → Keeps w → (p : Place) → place_of w t ≡ p → (act : Act) → Keeps (acted w t p act)
acted-keeps w t lt k Elsewhere is (Prepares has_events) = prepare-keeps w t lt k is (has_events || nat_le greatest (turns w.readers))
acted-keeps w t lt k Prepared is Begins =
    let some = has-prepared w t lt k is in
    rw (turn-is w.readers (is_last w.readers) some refl, begun-is w.readers (is_last w.readers) some refl) (begin-keeps w t lt k is some (is_last w.readers) refl)
acted-keeps w t lt k Prepared is Cancels =
    let some = has-prepared w t lt k is in
    rw (cancelled-is w.readers (is_last w.readers) some refl) (cancel-keeps w t lt k is some (is_last w.readers) refl)
acted-keeps w t lt k Reading is Ends = end-keeps w t lt k is w.readers.is_reading refl
acted-keeps w t lt k (Waiting s) is Looks = look-keeps w t s lt k is (w.readers.ended == s)
acted-keeps w t lt k _ is _ = k

step-keeps : (w : World) (s : Step) → Keeps w → (b : Bool) → nat_lt s.thread (length w.threads) ≡ b → Keeps (if b then acted w s.thread (place_of w s.thread) s.act else w)
step-keeps w s k true there = acted-keeps w s.thread (grind (arith, nat_tests, there)) k (place_of w s.thread) refl s.act
step-keeps w s k false there = k

run-keeps : (w : World) (steps : List Step) → Keeps w → Keeps (run w steps)
run-keeps w [] k = k
run-keeps w (s ∷ steps) k = run-keeps (stepped w s) steps (step-keeps w s k (nat_lt s.thread (length w.threads)) refl)

none : (test : Place → Bool) (n : ℕ) → test Elsewhere ≡ false → count_by test (replicate n Elsewhere) ≡ 0
none test zero out = refl
none test (suc n) out = grind (arith, out, none test n out)

nobody-waits : (n u s : ℕ) → get_or (replicate n Elsewhere) u Elsewhere ≡ Waiting s → ⊥
nobody-waits zero u s e = grind (arith, e)
nobody-waits (suc n) zero s e = grind (arith, e)
nobody-waits (suc n) (suc u) s e = nobody-waits n u s e

start-keeps : (threads : ℕ) → Keeps (begins_with threads)
start-keeps threads = record {
  prepared = sym (none is_prepared threads refl);
  reading = sym (none reads threads refl);
  past = λ u s e. absurd (nobody-waits threads u s e);
  awaited = λ u e. absurd (nobody-waits threads u 0 e);
}

count-cons : (test : Place → Bool) (p : Place) (places : List Place) → count_by test (p ∷ places) ≡ one_if (test p) + count_by test places
count-cons test p places = sum_by-cons (λ x. cond (test x) 1 0) p places

parts : (p : Place) → one_if (takes_part p) ≡ one_if (is_prepared p) + one_if (reads p)
parts Elsewhere = omega arith
parts Prepared = omega arith
parts Reading = omega arith
parts (Waiting s) = omega arith

-- those that take part have prepared, or read
both : (places : List Place) → count_by takes_part places ≡ count_by is_prepared places + count_by reads places
both [] = refl
both (p ∷ places) = omega (arith, both places, parts p, count-cons takes_part p places, count-cons is_prepared p places, count-cons reads p places)

one-at-most : (b : Bool) → one_if b ≤ 1
one-at-most true = omega arith
one-at-most false = omega arith

is-awaited : (w : World) (u s : ℕ) → Keeps w → place_of w u ≡ Waiting s → (b : Bool) → (s == w.readers.ended) ≡ b → IsAwaited w s
is-awaited w u s k waits true same =
    let e : s ≡ w.readers.ended = grind (arith, nat_tests, same) in
    inr (e, grind (arith, both w.threads, k.prepared, k.reading, k.awaited u (subst (λ n. place_of w u ≡ Waiting n) e waits)))
is-awaited w u s k waits false other = inl (grind (arith, nat_tests, other, k.past u s waits))

pub at_most_one_reads : AtMostOneReads
at_most_one_reads threads steps =
    let k = run-keeps (begins_with threads) steps (start-keeps threads) in
    grind (arith, k.reading, one-at-most (run (begins_with threads) steps).readers.is_reading)

pub none_is_left_waiting : NoneIsLeftWaiting
none_is_left_waiting threads steps thread ended waits =
    let w = run (begins_with threads) steps in
    is-awaited w thread ended (run-keeps (begins_with threads) steps (start-keeps threads)) waits (ended == w.readers.ended) refl
