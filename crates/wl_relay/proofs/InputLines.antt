-- The lines of an input, one after another.
use Rattle.std.proofs.Common.{◌≡◌, ◌≢◌, ℕ, suc, ◌<◌, ◌-◌, ◌==◌, ◌&&◌, nat_lt, Bool, true, false, List, [], ◌∷◌, length, take, cond, refl, sym, ap, ◌∙◌, arith}
use Rattle.std.specs.Prelude.{◌⊎◌}
use Rattle.std.specs.Io.BufRead.{drop_through, first_piece, strip_last, take_through}
use Rattle.std.specs.List.{onto_first, slice_index}
use Rattle.std.proofs.lemmas.Bool.{lt-ltb}
use Rattle.std.proofs.lemmas.List.Splits.{length-slice_split}
use mathlib.Core.Logic.{inl, inr}
use Rattle.wl_relay.specs.Input.{Line, lines, whole_lines}
use Rattle.wl_relay.specs.Words.{parts}

-- what stands between the line feeds
abbrev pieces : List ℕ → List Line
pieces input = parts 10 input

-- the first line is followed by the pieces after its line feed, or by none where the input ends without one
abbrev ArePieces : List ℕ → Type 0
ArePieces input = (pieces input ≡ first_piece 10 input ∷ pieces (drop_through 10 input))
    ⊎ ((pieces input ≡ first_piece 10 input ∷ []) × (drop_through 10 input ≡ []))

-- without its last byte, which has this place, if that is a line feed
abbrev cut_at : ℕ → List ℕ → List ℕ
cut_at last xs = cond (slice_index xs last == 10) (take last xs) xs

strip_is : (x : ℕ) (xs : List ℕ) → strip_last 10 (x ∷ xs) ≡ cut_at (length xs) (x ∷ xs)
strip_is x xs =
    let some : nat_lt 0 (length (x ∷ xs)) ≡ true = lt-ltb 0 (length (x ∷ xs)) (omega arith) in
    let last : length (x ∷ xs) - 1 ≡ length xs = omega arith in
    ap (λ (b : Bool). cond (b && (slice_index (x ∷ xs) (length (x ∷ xs) - 1) == 10)) (take (length (x ∷ xs) - 1) (x ∷ xs)) (x ∷ xs)) some
    ∙ ap (λ (m : ℕ). cut_at m (x ∷ xs)) last

strip_more : (x y : ℕ) (ys : List ℕ) → strip_last 10 (x ∷ y ∷ ys) ≡ x ∷ strip_last 10 (y ∷ ys)
strip_more x y ys =
    let size : length (y ∷ ys) ≡ suc (length ys) = omega arith in
    strip_is x (y ∷ ys) ∙ ap (λ (m : ℕ). cut_at m (x ∷ y ∷ ys)) size ∙ at (slice_index (y ∷ ys) (length ys) == 10)
    ∙ ap (λ (l : List ℕ). x ∷ l) (sym (strip_is y ys))
  where
    at : (b : Bool) → cond b (x ∷ take (length ys) (y ∷ ys)) (x ∷ y ∷ ys) ≡ x ∷ cond b (take (length ys) (y ∷ ys)) (y ∷ ys)
    at true = refl
    at false = refl

stripped : (x : ℕ) (xs : List ℕ) → (x == 10) ≡ false → strip_last 10 (x ∷ take_through 10 xs) ≡ x ∷ strip_last 10 (take_through 10 xs)
stripped x [] e = strip_is x [] ∙ ap (λ (b : Bool). cond b [] (x ∷ [])) e
stripped x (y ∷ ys) e = at (y == 10)
  where
    at : (b : Bool) → strip_last 10 (x ∷ cond b (y ∷ []) (y ∷ take_through 10 ys)) ≡ x ∷ strip_last 10 (cond b (y ∷ []) (y ∷ take_through 10 ys))
    at true = strip_more x y []
    at false = strip_more x y (take_through 10 ys)

onto : (x : ℕ) (ls rest : List (List ℕ)) (l : List ℕ) → ls ≡ l ∷ rest → onto_first x ls ≡ (x ∷ l) ∷ rest
onto x ls rest l e = ap (onto_first x) e

-- a byte that is no line feed stands in front of the first line
one_more : (x : ℕ) (xs : List ℕ) → drop_through 10 (x ∷ xs) ≡ drop_through 10 xs → first_piece 10 (x ∷ xs) ≡ x ∷ first_piece 10 xs
    → pieces (x ∷ xs) ≡ onto_first x (pieces xs) → ArePieces xs → ArePieces (x ∷ xs)
one_more x xs dropped first all (inl l) =
    inl (all ∙ onto x (pieces xs) (pieces (drop_through 10 xs)) (first_piece 10 xs) l ∙ ap (λ (f : List ℕ). f ∷ pieces (drop_through 10 xs)) (sym first)
    ∙ ap (λ (d : List ℕ). first_piece 10 (x ∷ xs) ∷ pieces d) (sym dropped))
one_more x xs dropped first all (inr l) =
    inr (all ∙ onto x (pieces xs) [] (first_piece 10 xs) l.0 ∙ ap (λ (f : List ℕ). f ∷ []) (sym first), dropped ∙ l.1)

first_of : (x : ℕ) (xs : List ℕ) (b : Bool) → (x == 10) ≡ b → ArePieces xs → ArePieces (x ∷ xs)
first_of x xs true e h =
    let taken : take_through 10 (x ∷ xs) ≡ x ∷ [] = ap (λ (b : Bool). cond b (x ∷ []) (x ∷ take_through 10 xs)) e in
    let dropped : drop_through 10 (x ∷ xs) ≡ xs = ap (λ (b : Bool). cond b xs (drop_through 10 xs)) e in
    let first : first_piece 10 (x ∷ xs) ≡ [] = ap (strip_last 10) taken ∙ strip_is x [] ∙ ap (λ (b : Bool). cond b [] (x ∷ [])) e in
    let all : pieces (x ∷ xs) ≡ [] ∷ pieces xs = ap (λ (b : Bool). cond b ([] ∷ pieces xs) (onto_first x (pieces xs))) e in
    inl (all ∙ ap (λ (f : List ℕ). f ∷ pieces xs) (sym first) ∙ ap (λ (d : List ℕ). first_piece 10 (x ∷ xs) ∷ pieces d) (sym dropped))
first_of x xs false e h =
    let taken : take_through 10 (x ∷ xs) ≡ x ∷ take_through 10 xs = ap (λ (b : Bool). cond b (x ∷ []) (x ∷ take_through 10 xs)) e in
    let dropped : drop_through 10 (x ∷ xs) ≡ drop_through 10 xs = ap (λ (b : Bool). cond b xs (drop_through 10 xs)) e in
    let first : first_piece 10 (x ∷ xs) ≡ x ∷ first_piece 10 xs = ap (strip_last 10) taken ∙ stripped x xs e in
    let all : pieces (x ∷ xs) ≡ onto_first x (pieces xs) = ap (λ (b : Bool). cond b ([] ∷ pieces xs) (onto_first x (pieces xs))) e in
    one_more x xs dropped first all h

are_pieces : (input : List ℕ) → ArePieces input
are_pieces [] = inr (refl, refl)
are_pieces (x ∷ xs) = first_of x xs (x == 10) refl (are_pieces xs)

some_piece : (input : List ℕ) → 0 < length (pieces input)
some_piece input = let count = length-slice_split (λ (b : ℕ). b == 10) input in omega (arith, count)

-- nothing is dropped after a piece that others follow
pub goes_on : (line : Line) (rest : List Line) → 0 < length rest → whole_lines (line ∷ rest) ≡ line ∷ whole_lines rest
goes_on line [] some = absurd (omega arith)
goes_on line (next ∷ rest) some = refl

-- an input of one empty piece is empty
only_empty : (input : List ℕ) → pieces input ≡ [] ∷ [] → input ≡ []
only_empty [] e = refl
only_empty (x ∷ xs) e = at (x == 10) refl (pieces xs) refl
  where
    at : (b : Bool) → (x == 10) ≡ b → (ps : List Line) → pieces xs ≡ ps → x ∷ xs ≡ []
    at true is ps same =
        let all : pieces (x ∷ xs) ≡ [] ∷ pieces xs = ap (λ (b : Bool). cond b ([] ∷ pieces xs) (onto_first x (pieces xs))) is in
        let n = ap length (sym all ∙ e) in
        let some = some_piece xs in
        absurd (omega (arith, n, some))
    at false is [] same = let some = some_piece xs in let n = ap length same in absurd (omega (arith, some, n))
    at false is (p ∷ ps) same =
        let all : pieces (x ∷ xs) ≡ onto_first x (pieces xs) = ap (λ (b : Bool). cond b ([] ∷ pieces xs) (onto_first x (pieces xs))) is in
        let two = sym (ap (onto_first x) same) ∙ sym all ∙ e in
        absurd (cc)

last_line : (line : Line) → line ≢ [] → whole_lines (line ∷ []) ≡ line ∷ []
last_line [] some = absurd (some refl)
last_line (x ∷ xs) some = refl

-- the first line, and those after it
pub first_line : (input : List ℕ) → input ≢ [] → lines input ≡ first_piece 10 input ∷ lines (drop_through 10 input)
first_line input some = at (are_pieces input)
  where
    at : ArePieces input → lines input ≡ first_piece 10 input ∷ lines (drop_through 10 input)
    at (inl l) = ap whole_lines l ∙ goes_on (first_piece 10 input) (pieces (drop_through 10 input)) (some_piece (drop_through 10 input))
    at (inr l) =
        let filled : first_piece 10 input ≢ [] = λ (e : first_piece 10 input ≡ []). some (only_empty input (l.0 ∙ ap (λ (p : Line). p ∷ []) e)) in
        ap whole_lines l.0 ∙ last_line (first_piece 10 input) filled ∙ ap (λ (d : List ℕ). first_piece 10 input ∷ lines d) (sym l.1)

-- the line that was read, without its line feed
pub is_first : (rest line front : List ℕ) → line ≡ take_through 10 rest → front ≡ strip_last 10 line → front ≡ first_piece 10 rest
is_first rest line front read cut = cut ∙ ap (strip_last 10) read

-- something is read of an input that is not empty
pub some_input : (rest line : List ℕ) → line ≡ take_through 10 rest → 0 < length line → rest ≢ []
some_input rest line read some none =
    let n = ap length (read ∙ ap (take_through 10) none) in omega (arith, n, some)
