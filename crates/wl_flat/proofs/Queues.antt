-- Lists of which the first items were passed over, after an item was taken out or the last ones were taken back. And that no
-- call of a queue loses a descriptor or hands one out twice.
use Rattle.std.proofs.Common.{◌≡◌, ℕ, ℤ, suc, ◌+◌, ◌-◌, ◌++◌, ◌<◌, ◌≤◌, List, [], ◌∷◌, Option, None, Some, length, take, drop, drop-cons, refl, ap, sym, ◌∙◌, arith, add-one}
use Rattle.std.proofs.lemmas.List.{drop-drop, drop-take, length-drop, length-take-le, take-append-drop, take-take, take_more_set}
use Rattle.std.proofs.lemmas.List.FromFn.{map-range_with_len_more}
use Rattle.std.proofs.lemmas.Option.{get_or_from_slice_get, slice_get_within}
use Rattle.std.proofs.Math.ListN.{set}
use Rattle.std.proofs.Math.Seq.{drop-append_seam, take-add, take-append_seam}
use Rattle.std.specs.List.{remove, slice_get}
use Rattle.std.specs.Prelude.{option_to_list}
use Rattle.wl_wire.specs.declared.argument.Token.{Token}
use Rattle.wl_flat.specs.Descriptors.{Conserves, Descriptors, descriptor_of, distance, given_up, kept_in, last_held, next_tokens, occurrences, put_in, taken_out, token_after, without}
use Rattle.wl_flat.specs.Sending.{all_taken_out, descriptors_of, some_of}

-- the last ones were taken back
pub passed_of_shorter : {X : Type 0} (p n : ℕ) (xs : List X) → take p (take (p + n) xs) ≡ take p xs
passed_of_shorter p n xs = take-take p (p + n) xs (omega arith)

pub held_of_shorter : {X : Type 0} (p n : ℕ) (xs : List X) → drop p (take (p + n) xs) ≡ take n (drop p xs)
held_of_shorter p n xs = drop-take p n xs

-- only the last ones are left
pub passed_of_last : {X : Type 0} (p n : ℕ) (xs : List X) → take (p + n) xs ≡ take p xs ++ take n (drop p xs)
passed_of_last p n xs = take-add p n xs

pub held_of_last : {X : Type 0} (p n : ℕ) (xs : List X) → drop (p + n) xs ≡ drop n (drop p xs)
held_of_last p n xs = sym (drop-drop n p xs ∙ ap (λ k. drop k xs) (omega arith))

-- an item was taken out, and those before it are passed over
pub front_of : {X : Type 0} (n : ℕ) (ys zs : List X) → length ys ≡ n → take n (ys ++ zs) ≡ ys
front_of n ys zs e = let t = take-append_seam ys zs in cc

pub rest_of : {X : Type 0} (n : ℕ) (ys zs : List X) → length ys ≡ n → drop n (ys ++ zs) ≡ zs
rest_of n ys zs e = let t = drop-append_seam ys zs in cc

pub passed_of_taken : {X : Type 0} (p d : ℕ) (xs : List X) → p + d < length xs → take (p + d) (remove xs (p + d)) ≡ take p xs ++ take d (drop p xs)
passed_of_taken p d xs h =
    let l = length-take-le (p + d) xs (omega (arith, h)) in
    let t = front_of (p + d) (take (p + d) xs) (drop (suc (p + d)) xs) l in
    let a = take-add p d xs in cc

pub held_of_taken : {X : Type 0} (p d : ℕ) (xs : List X) → p + d < length xs → drop (p + d) (remove xs (p + d)) ≡ drop (d + 1) (drop p xs)
held_of_taken p d xs h =
    let l = length-take-le (p + d) xs (omega (arith, h)) in
    let t = rest_of (p + d) (take (p + d) xs) (drop (suc (p + d)) xs) l in
    let b = drop-drop (d + 1) p xs in
    let s : suc (p + d) ≡ p + (d + 1) = omega arith in cc

-- one token more is written
pub tokens_more : (q : Descriptors) (n : ℕ) (ts : List Token) (t : Token) → n < length ts → take n ts ≡ next_tokens q n → t ≡ token_after q (length q.held + n) → take (n + 1) (set ts n t) ≡ next_tokens q (n + 1)
tokens_more q n ts t h e f =
    let a = take_more_set ts n t h in
    let b = map-range_with_len_more (token_after q) (length q.held) n (length q.held + n) refl in cc

-- ---- each descriptor comes out once

pub occurrences_append : (d : ℤ) (xs ys : List ℤ) → occurrences d (xs ++ ys) ≡ occurrences d xs + occurrences d ys
occurrences_append d [] ys = omega arith
occurrences_append d (x ∷ xs) ys = let h = occurrences_append d xs ys in omega arith

-- an item, and those before and behind it
pub occurrences_around : (d : ℤ) (xs : List ℤ) (n : ℕ) (x : ℤ) → slice_get xs n ≡ Some x → occurrences d xs ≡ occurrences d (take n xs) + occurrences d (x ∷ []) + occurrences d (drop (n + 1) xs)
occurrences_around d xs n x e =
    let t = take-append-drop n xs in
    let c = drop-cons xs n x (slice_get_within xs n x e) in
    let g = get_or_from_slice_get xs n x x e in
    let a = occurrences_append d (take n xs) (drop n xs) in
    let w : occurrences d xs ≡ occurrences d (take n xs ++ drop n xs) = ap (occurrences d) (sym t) in
    let e : drop n xs ≡ x ∷ drop (n + 1) xs = cc (add-one n) in
    let b : occurrences d (drop n xs) ≡ occurrences d (x ∷ drop (n + 1) xs) = ap (occurrences d) e in omega arith

pub conserves_put_in : (q : Descriptors) (xs : List ℤ) → Conserves kept_in q xs [] (put_in q xs)
conserves_put_in q xs = record { each = λ d. omega (arith, occurrences_append d q.held xs) }

pub conserves_given_up : (q : Descriptors) → Conserves kept_in q [] [] (given_up q)
conserves_given_up q = record { each = λ d. omega (arith, occurrences_append d q.passed q.held) }

pub conserves_last_held : (q : Descriptors) (count : ℕ) → Conserves kept_in q [] [] (last_held count q)
conserves_last_held q count = record {
  each = λ d.
      let n = length q.held - count in
      let t = ap (occurrences d) (take-append-drop n q.held) in
      omega (arith, t, occurrences_append d (take n q.held) (drop n q.held), occurrences_append d q.passed (take n q.held));
}

-- no more are held then
pub few_last_held : (q : Descriptors) (count : ℕ) → length (last_held count q).held ≤ count
few_last_held q count = let l = length-drop (length q.held - count) q.held in omega (arith, l)

-- the first one that was passed over came out
pub conserves_passed : (q r : Descriptors) (x : Option ℤ) → q.passed ≡ option_to_list x ++ r.passed → r.held ≡ q.held → Conserves kept_in q [] (option_to_list x) r
conserves_passed q r x e h = record { each = λ d. let a = occurrences_append d (option_to_list x) r.passed in rw (e, h) (omega arith) }

pub conserves_taken : (q : Descriptors) (t : Token) (x : Option ℤ) → descriptor_of q t ≡ x → Conserves kept_in q [] (option_to_list x) (taken_out q t x)
conserves_taken q t None e = record { each = λ d. refl }
conserves_taken q t (Some x) e = record { each = λ d. omega (arith, occurrences_append d q.passed (take (distance q t) q.held), occurrences_around d q.held (distance q t) x e) }

pub conserves_without : (q : Descriptors) (t : Token) → Conserves kept_in q [] (option_to_list (descriptor_of q t)) (without q t)
conserves_without q t = conserves_taken q t (descriptor_of q t) refl

-- ---- of whatever descriptors are kept in

module _ {S : Type 0} {kept : ℤ → S → ℕ} where
  pub conserves_nothing : (s : S) → Conserves kept s [] [] s
  conserves_nothing s = record { each = λ d. refl }

  -- one call after another
  pub conserves_on : {a b c : S} {i j o p : List ℤ} → Conserves kept a i o b → Conserves kept b j p c → Conserves kept a (i ++ j) (o ++ p) c
  conserves_on {a} {b} {c} {i} {j} {o} {p} f g =
      record { each = λ d. omega (arith, f.each d, g.each d, occurrences_append d i j, occurrences_append d o p) }

  -- where nothing more goes in
  pub conserves_out : {a b c : S} {o p : List ℤ} → Conserves kept a [] o b → Conserves kept b [] p c → Conserves kept a [] (o ++ p) c
  conserves_out {a} {b} {c} {o} {p} f g = record { each = λ d. omega (arith, f.each d, g.each d, occurrences_append d o p) }

some_of_cons : (x : Option ℤ) (xs : List (Option ℤ)) → some_of (x ∷ xs) ≡ option_to_list x ++ some_of xs
some_of_cons None xs = refl
some_of_cons (Some x) xs = refl

-- they are taken out one after another
pub conserves_taken_out : (q : Descriptors) (ts : List Token) → Conserves kept_in q [] (some_of (descriptors_of q ts)) (all_taken_out q ts)
conserves_taken_out q [] = conserves_nothing q
conserves_taken_out q (t ∷ ts) =
    let h = conserves_out (conserves_without q t) (conserves_taken_out (without q t) ts) in
    rw some_of_cons h
