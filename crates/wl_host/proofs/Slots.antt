-- Slots in an order, when one is added or taken off.
use Rattle.std.proofs.Common.{◌≡◌, ℕ, zero, suc, ◌+◌, ◌-◌, ◌++◌, ◌<◌, ◌≤◌, Bool, true, false, ◌||◌, not, cond, List, [], ◌∷◌, length, length-append, take, refl, ap, sym, ◌∙◌, arith, get_or-set_same, get_or-set_other, true≢false}
use Rattle.std.proofs.lemmas.Bool.{eqb-true, eq-eqb, false≢true}
use Rattle.std.proofs.lemmas.List.{length-replicate, take_all}
use Rattle.std.proofs.lemmas.List.Sums.{count_by-le-length, sum_by-set}
use Rattle.std.proofs.Math.ListN.{get_or, replicate, set}
use Rattle.std.specs.List.{count_by}
use Rattle.std.specs.Prelude.{◌==◌}
use Rattle.wl_host.specs.Inside.Slots.{AllOnce, AreSlots}
use Rattle.wl_host.specs.Seats.{is_among}

-- ---- which are among them

pub among_added : (k s : ℕ) (slots : List ℕ) → is_among k (slots ++ s ∷ []) ≡ (is_among k slots || (s == k))
among_added k s [] = or_false (s == k)
  where
    or_false : (b : Bool) → (b || false) ≡ (false || b)
    or_false true = refl
    or_false false = refl
among_added k s (j ∷ slots) = next (j == k) _ _ _ (among_added k s slots)
  where
    next : (b c d e : Bool) → c ≡ (d || e) → (b || c) ≡ ((b || d) || e)
    next true c d e h = refl
    next false c d e h = h

not_among_tail : (k j : ℕ) (slots : List ℕ) → is_among k (j ∷ slots) ≡ false → is_among k slots ≡ false
not_among_tail k j slots e = by (j == k) (is_among k slots) e
  where
    by : (b c : Bool) → (b || c) ≡ false → c ≡ false
    by true c e = absurd (true≢false e)
    by false c e = e

not_among_head : (k j : ℕ) (slots : List ℕ) → is_among k (j ∷ slots) ≡ false → (j == k) ≡ false
not_among_head k j slots e = by (j == k) (is_among k slots) e
  where
    by : (b c : Bool) → (b || c) ≡ false → b ≡ false
    by true c e = absurd (true≢false e)
    by false c e = refl

eqb_sym : (j k : ℕ) → (j == k) ≡ false → (k == j) ≡ false
eqb_sym j k e = by (k == j) refl
  where
    by : (b : Bool) → (k == j) ≡ b → (k == j) ≡ false
    by true h = absurd (true≢false (sym (eq-eqb j k (sym (eqb-true k j h))) ∙ e))
    by false h = h

pub once_added : (s : ℕ) (slots : List ℕ) → AllOnce slots → is_among s slots ≡ false → AllOnce (slots ++ s ∷ [])
once_added s [] once e = (refl, tt)
once_added s (j ∷ slots) once e =
    let h = among_added j s slots in
    let a = eqb_sym j s (not_among_head s j slots e) in (
      h ∙ both (is_among j slots) (s == j) once.0 a,
      once_added s slots once.1 (not_among_tail s j slots e),
    )
  where
    both : (b c : Bool) → b ≡ false → c ≡ false → (b || c) ≡ false
    both true c e f = e
    both false c e f = f

-- ---- the flags

at_flag : (flags : List Bool) (s k : ℕ) (b : Bool) → s < length flags → (s == k) ≡ true → get_or (set flags s b) k false ≡ b
at_flag flags s k b h e = let f = eqb-true s k e in let g = get_or-set_same flags s b false h in cc

other_flag : (flags : List Bool) (s k : ℕ) (b : Bool) → (s == k) ≡ false → get_or (set flags s b) k false ≡ get_or flags k false
other_flag flags s k b e = get_or-set_other flags s k b false (λ f. true≢false (sym (eq-eqb s k (sym f)) ∙ e))

told_added : (slots : List ℕ) (flags : List Bool) (s k : ℕ) → s < length flags → is_among k slots ≡ get_or flags k false
    → is_among k (slots ++ s ∷ []) ≡ get_or (set flags s true) k false
told_added slots flags s k h e = among_added k s slots ∙ by (s == k) refl
  where
    or_true : (b : Bool) → (b || true) ≡ true
    or_true true = refl
    or_true false = refl

    or_no : (b : Bool) → (b || false) ≡ b
    or_no true = refl
    or_no false = refl

    by : (b : Bool) → (s == k) ≡ b → (is_among k slots || (s == k)) ≡ get_or (set flags s true) k false
    by true f = rw f (or_true (is_among k slots) ∙ sym (at_flag flags s k true h f))
    by false f = rw f (or_no (is_among k slots) ∙ (e ∙ sym (other_flag flags s k true f)))

abbrev off : Bool → ℕ
off b = cond (not b) 1 0

flag_off : (flags : List Bool) (s : ℕ) (b : Bool) → s < length flags → count_by not (set flags s b) + cond (not (get_or flags s false)) 1 0 ≡ count_by not flags + cond (not b) 1 0
flag_off flags s b h = sum_by-set (λ x. cond (not x) 1 0) flags s b false h

-- ---- what is true at any time

pub room_for_slot : (n c : ℕ) (slots : List ℕ) (flags : List Bool) (s : ℕ) → AreSlots n c slots flags → s < length flags → get_or flags s false ≡ false → n < c
room_for_slot n c slots flags s are h e =
    let f = flag_off flags s true h in
    let g = ap off e in
    let i = are.fits in omega (arith, f, g, i)

pub slots_added : (n c : ℕ) (slots : List ℕ) (flags : List Bool) (s : ℕ) → AreSlots n c slots flags → s < length flags → get_or flags s false ≡ false
    → AreSlots (n + 1) c (slots ++ s ∷ []) (set flags s true)
slots_added n c slots flags s are h e = record {
  fits =
      let f = flag_off flags s true h in
      let g = ap off e in
      let i = are.fits in omega (arith, f, g, i);
  told = λ k. told_added slots flags s k h (are.told k);
  once = once_added s slots are.once (are.told s ∙ e);
}

told_off : (slots : List ℕ) (flags : List Bool) (s k : ℕ) → s < length flags → is_among s slots ≡ false → is_among k (s ∷ slots) ≡ get_or flags k false
    → is_among k slots ≡ get_or (set flags s false) k false
told_off slots flags s k h gone e = by (s == k) refl
  where
    by : (b : Bool) → (s == k) ≡ b → is_among k slots ≡ get_or (set flags s false) k false
    by true f = (let g = eqb-true s k f in let n : is_among k slots ≡ false = subst_among s k g gone in n) ∙ sym (at_flag flags s k false h f)
      where
        subst_among : (s k : ℕ) → s ≡ k → is_among s slots ≡ false → is_among k slots ≡ false
        subst_among s k g n = ap (λ j. is_among j slots) (sym g) ∙ n
    by false f = sym (ap (λ b. b || is_among k slots) f) ∙ (e ∙ sym (other_flag flags s k false f))

-- the first one was there
pub first_known : (n c : ℕ) (slots : List ℕ) (flags : List Bool) (s : ℕ) → AreSlots n c (s ∷ slots) flags → s < length flags
first_known n c slots flags s are = within flags s (sym (are.told s) ∙ here)
  where
    here : is_among s (s ∷ slots) ≡ true
    here = ap (λ b. b || is_among s slots) (eq-eqb s s refl)

    within : (flags : List Bool) (s : ℕ) → get_or flags s false ≡ true → s < length flags
    within [] s e = absurd (false≢true e)
    within (b ∷ flags) zero e = omega arith
    within (b ∷ flags) (suc s) e = let h = within flags s e in omega (arith, h)

pub slots_off : (n m c : ℕ) (slots : List ℕ) (flags : List Bool) (s : ℕ) → AreSlots n c (s ∷ slots) flags → m + 1 ≡ n → AreSlots m c slots (set flags s false)
slots_off n m c slots flags s are e =
    let h = first_known n c slots flags s are in record {
      fits =
          let f = flag_off flags s false h in
          let i = are.fits in omega (arith, f, i, e);
      told = λ k. told_off slots flags s k h are.once.0 (are.told k);
      once = are.once.1;
    }

none_told : (m k : ℕ) → get_or (replicate m false) k false ≡ false
none_told zero k = refl
none_told (suc m) zero = refl
none_told (suc m) (suc k) = none_told m k

told_padded : (m : ℕ) (flags : List Bool) (k : ℕ) → get_or (flags ++ replicate m false) k false ≡ get_or flags k false
told_padded m [] k = none_told m k
told_padded m (b ∷ flags) zero = refl
told_padded m (b ∷ flags) (suc k) = told_padded m flags k

-- there is room for more
pub slots_grown : (n c d count : ℕ) (slots : List ℕ) (flags : List Bool) → AreSlots n c slots flags → length flags ≤ count → n + count ≤ d
    → AreSlots n d slots (take count flags ++ replicate (count - length flags) false)
slots_grown n c d count slots flags are h r =
    let t = take_all count flags h in
    let more = replicate (count - length flags) false in
    let long : length (take count flags ++ more) ≡ count = omega (arith, length-append (take count flags) more, length-replicate (count - length flags) false, ap length t) in
    let few = count_by-le-length not (take count flags ++ more) in record {
      fits = omega (arith, few, long, r);
      told = λ k. are.told k ∙ (sym (told_padded (count - length flags) flags k) ∙ ap (λ xs. get_or (xs ++ more) k false) (sym t));
      once = are.once;
    }

pub slots_roomier : (n c d : ℕ) (slots : List ℕ) (flags : List Bool) → AreSlots n c slots flags → c ≤ d → AreSlots n d slots flags
slots_roomier n c d slots flags are h = record { fits = omega (arith, are.fits, h); told = are.told; once = are.once }
