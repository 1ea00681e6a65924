-- The descriptors of tokens, taken out one after another.
use Rattle.std.proofs.Common.{◌≡◌, ℕ, ℤ, suc, zero, ◌+◌, ◌++◌, ◌<◌, ◌≤◌, List, [], ◌∷◌, Option, None, Some, length, map, take, drop, refl, ap, sym, ◌∙◌, arith, get_or}
use Rattle.std.proofs.lemmas.List.{drop-drop, map-append, take_more}
use Rattle.std.proofs.lemmas.Option.{slice_get_within}
use Rattle.std.proofs.Math.Seq.{drop-cons}
use Rattle.std.specs.List.{slice_get}
use Rattle.std.specs.Prelude.{◌-◌, ◌^◌, ◌%◌, MatchOption}
use Rattle.wl_wire.specs.declared.argument.Token.{Token}
use Rattle.wl_flat.specs.Descriptors.{Descriptors, descriptor_of, distance, unsigned, without}
use Rattle.wl_flat.specs.Inside.Sending.{ShowsNext, place_of}
use Rattle.wl_flat.specs.Sending.{all_taken_out, descriptors_of, shown, Copied}
use Rattle.wl_flat.specs.declared.flat.Counts.{Counts}
use Rattle.wl_flat.specs.declared.status.Status.{Status}

-- ---- tokens one after another

pub all_taken_out_append : (q : Descriptors) (us vs : List Token) → all_taken_out q (us ++ vs) ≡ all_taken_out (all_taken_out q us) vs
all_taken_out_append q [] vs = refl
all_taken_out_append q (u ∷ us) vs = all_taken_out_append (without q u) us vs

pub descriptors_of_append : (q : Descriptors) (us vs : List Token) → descriptors_of q (us ++ vs) ≡ descriptors_of q us ++ descriptors_of (all_taken_out q us) vs
descriptors_of_append q [] vs = refl
descriptors_of_append q (u ∷ us) vs = ap (λ xs. descriptor_of q u ∷ xs) (descriptors_of_append (without q u) us vs)

-- one token more
pub all_taken_out_more : (q : Descriptors) (ts : List Token) (i : ℕ) (t : Token) → i < length ts → t ≡ get_or ts i t
    → all_taken_out q (take (i + 1) ts) ≡ without (all_taken_out q (take i ts)) t
all_taken_out_more q ts i t h e =
    ap (all_taken_out q) (take_more ts i t h) ∙ (all_taken_out_append q (take i ts) (get_or ts i t ∷ []) ∙ ap (without (all_taken_out q (take i ts))) (sym e))

pub descriptors_of_more : (q : Descriptors) (ts : List Token) (i : ℕ) (t : Token) → i < length ts → t ≡ get_or ts i t
    → descriptors_of q (take (i + 1) ts) ≡ descriptors_of q (take i ts) ++ descriptor_of (all_taken_out q (take i ts)) t ∷ []
descriptors_of_more q ts i t h e =
    ap (descriptors_of q) (take_more ts i t h) ∙ (descriptors_of_append q (take i ts) (get_or ts i t ∷ []) ∙ ap (λ u. descriptors_of q (take i ts) ++ descriptor_of (all_taken_out q (take i ts)) u ∷ []) (sym e))

-- the first of those that are left was taken out
pub taken_next : (q : Descriptors) (ts : List Token) (i : ℕ) (t : Token) → i < length ts → t ≡ get_or ts i t
    → all_taken_out (without q t) (drop (i + 1) ts) ≡ all_taken_out q (drop i ts)
taken_next q ts i t h e =
    let d = drop-cons ts i t h in
    let s : suc i ≡ i + 1 = omega arith in
    let f : drop i ts ≡ t ∷ drop (i + 1) ts = cc in sym (ap (all_taken_out q) f)

-- ---- items behind the first ones

pub get_behind : {X : Type 0} (xs : List X) (n k : ℕ) → slice_get (drop n xs) k ≡ slice_get xs (n + k)
get_behind xs zero k = let e : zero + k ≡ k = omega arith in rw e refl
get_behind [] (suc n) k = refl
get_behind (x ∷ xs) (suc n) k = let e : suc n + k ≡ suc (n + k) = omega arith in rw e (get_behind xs n k)

-- ---- a token more is shown

-- what is held behind the first ones, and the token of the first of them, after a token more
held_next : (q r : Descriptors) (t : Token) (front taken front' taken' : ℕ) (x : ℤ) → r.held ≡ drop taken q.held → r.front ≡ front → ShowsNext q t front taken x front' taken'
    → ((without r t).held ≡ drop taken' q.held) × ((without r t).front ≡ front') × (x ≡ shown (descriptor_of r t))
held_next q r t front taken front' taken' x held at h = by (slice_get q.held (place_of t front taken)) found h.number h.next
  where
    found : descriptor_of r t ≡ slice_get q.held (place_of t front taken)
    found = ap (λ xs. slice_get xs (distance r t)) held ∙ (get_behind q.held taken (distance r t) ∙ ap (λ (f : ℕ). slice_get q.held (taken + (unsigned t + (2 ^ 32 - f)) % 2 ^ 32)) at)

    by : (o : Option ℤ) → descriptor_of r t ≡ o → x ≡ shown o
        → MatchOption o ((front' ≡ front) × (taken' ≡ taken)) (λ d. (front' ≡ (unsigned t + 1) % 2 ^ 32) × (taken' ≡ place_of t front taken + 1))
        → ((without r t).held ≡ drop taken' q.held) × ((without r t).front ≡ front') × (x ≡ shown (descriptor_of r t))
    by None e s m = rw e (held ∙ ap (λ n. drop n q.held) (sym m.1), at ∙ sym m.0, s)
    by (Some d) e s m =
        let n : taken' ≡ taken + (distance r t + 1) = m.1 ∙ (let p = ap (λ (f : ℕ). taken + (unsigned t + (2 ^ 32 - f)) % 2 ^ 32) (sym at) in omega (arith, p)) in
        rw e (ap (drop (distance r t + 1)) held ∙ (drop-drop (distance r t + 1) taken q.held ∙ ap (λ k. drop k q.held) (sym n)), sym m.0, s)

pub shown_more : (q : Descriptors) (ts : List Token) (i : ℕ) (t : Token) (front taken front' taken' : ℕ) (x : ℤ) → ShowsNext q t front taken x front' taken'
    → (all_taken_out q (take i ts)).held ≡ drop taken q.held → (all_taken_out q (take i ts)).front ≡ front → i < length ts → t ≡ get_or ts i t
    → ((all_taken_out q (take (i + 1) ts)).held ≡ drop taken' q.held) × ((all_taken_out q (take (i + 1) ts)).front ≡ front')
    × (map shown (descriptors_of q (take (i + 1) ts)) ≡ map shown (descriptors_of q (take i ts)) ++ x ∷ [])
shown_more q ts i t front taken front' taken' x s held at h e =
    let n = held_next q (all_taken_out q (take i ts)) t front taken front' taken' x held at s in
    let m = all_taken_out_more q ts i t h e in
    let d = descriptors_of_more q ts i t h e in (
      ap (λ (r : Descriptors). r.held) m ∙ n.0,
      ap (λ (r : Descriptors). r.front) m ∙ n.1,
      ap (map shown) d ∙ (map-append shown (descriptors_of q (take i ts)) (descriptor_of (all_taken_out q (take i ts)) t ∷ []) ∙ ap (λ y. map shown (descriptors_of q (take i ts)) ++ y ∷ []) (sym n.2)),
    )

pub few_next : (q : Descriptors) (t : Token) (front taken front' taken' : ℕ) (x : ℤ) → taken ≤ length q.held → ShowsNext q t front taken x front' taken' → taken' ≤ length q.held
few_next q t front taken front' taken' x few h = by (slice_get q.held (place_of t front taken)) refl h.next
  where
    by : (o : Option ℤ) → slice_get q.held (place_of t front taken) ≡ o
        → MatchOption o ((front' ≡ front) × (taken' ≡ taken)) (λ d. (front' ≡ (unsigned t + 1) % 2 ^ 32) × (taken' ≡ place_of t front taken + 1)) → taken' ≤ length q.held
    by None e m = omega (arith, few, m.1)
    by (Some d) e m = let w = slice_get_within q.held (place_of t front taken) d e in omega (arith, w, m.1)

-- what is copied, part by part
pub copied_is : (x : Copied) (s : Status) (bytes : List ℕ) (ds : List ℤ) (counts : Counts) → s ≡ x.status → bytes ≡ x.bytes → ds ≡ x.descriptors → counts ≡ x.counts
    → (let y : Copied = record { status = s; bytes = bytes; descriptors = ds; counts = counts } in y) ≡ x
copied_is x s bytes ds counts a b c d =
    ap (λ (v : Status). let y : Copied = record { status = v; bytes = bytes; descriptors = ds; counts = counts } in y) a
    ∙ ap (λ (v : List ℕ). let y : Copied = record { status = x.status; bytes = v; descriptors = ds; counts = counts } in y) b
    ∙ ap (λ (v : List ℤ). let y : Copied = record { status = x.status; bytes = x.bytes; descriptors = v; counts = counts } in y) c
    ∙ ap (λ (v : Counts). let y : Copied = record { status = x.status; bytes = x.bytes; descriptors = x.descriptors; counts = v } in y) d
