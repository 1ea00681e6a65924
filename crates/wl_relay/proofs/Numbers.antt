-- Which words are numbers, and lists of them.
use Rattle.std.proofs.Common.{◌≡◌, ◌≢◌, ℕ, zero, suc, ◌+◌, ◌<◌, ◌≤◌, ◌==◌, List, [], ◌∷◌, ◌++◌, length, map, take, get_or, take-suc, SFits, w32, ℤ, pos, Option, Some, None, Result, Ok, Err, Vec, Global, sym, ap, subst, ◌∙◌, refl, arith, codes}
use Rattle.std.specs.Prelude.{IfOk, MatchOption}
use Rattle.std.specs.Result.{result_ok}
use Rattle.std.specs.Fmt.{decimal}
use Rattle.std.specs.List.{All, AllZip}
use Rattle.std.specs.Str.Parse.{AllDigits, ParsesUnsigned, digits_value}
use Rattle.std.proofs.lemmas.Fmt.{decimal-digits_value, decimal_injective, decimal_nonempty, digits_decimal, first_decimal, parse-decimal, decimal_digit}
use Rattle.std.proofs.lemmas.Int.{ints}
use Rattle.std.proofs.lemmas.List.{map-append}
use Rattle.std.proofs.lemmas.List.Elements.{All-push}
use Rattle.std.proofs.lemmas.List.Splits.{length-slice_split}
use Rattle.std.proofs.lemmas.Str.Parse.{IsNumeralModel, numerals_by_value, tells_digits, parse_plain, digit_at}
use Rattle.wl_wire.specs.declared.argument.Token.{Token}
use Rattle.wl_relay.specs.Words.{AreNumbers, AreTokens, Finds, FindsAll, IsNumber, IsTokenNumber, parts, token}

pub own : IsNumeralModel (AllDigits 10) (digits_value 10)
own = numerals_by_value (AllDigits 10) tells_digits

-- a number begins with a digit
pub first_digit : (n : ℕ) (bs : List ℕ) → IsNumber n bs → 48 ≤ get_or bs 0 0
first_digit n bs h =
    let all = digits_decimal own n (omega arith) in
    let some = decimal_nonempty n (omega arith) in
    let range = digit_at (decimal n) 0 all some in
    subst (λ (xs : List ℕ). 48 ≤ get_or xs 0 0) (sym h.1) range.0

pub signed : (bs : List ℕ) → get_or bs 0 0 ≡ 43 → (n : ℕ) → ¬ (IsNumber n bs)
signed bs plus n h = let d = first_digit n bs h in omega arith

-- only 0 begins with 0
pub zero_led : (bs : List ℕ) → get_or bs 0 0 ≡ 48 → 1 < length bs → (n : ℕ) → ¬ (IsNumber n bs)
zero_led bs first more zero h =
    let e : decimal 0 ≡ 48 ∷ [] = decimal_digit 0 (omega arith) in
    let l : length bs ≡ 1 = ap length (h.1 ∙ e) in
    omega arith
zero_led bs first more (suc n) h =
    let d = first_decimal (suc n) (omega arith) (omega arith) in
    let same : get_or bs 0 0 ≡ get_or (decimal (suc n)) 0 0 = ap (λ (xs : List ℕ). get_or xs 0 0) h.1 in
    omega arith

pub parsed : {E : Type 0} (bs : List ℕ) (r : Result ℕ E) (found : Option ℕ) → ParsesUnsigned 32 10 bs r → get_or bs 0 0 ≢ 43
    → (get_or bs 0 0 ≡ 48 → length bs ≤ 1) → found ≡ result_ok r → Finds IsNumber bs found
parsed {E} bs (Ok n) found h plus led e =
    let w = parse_plain own {E = E} 32 bs (Ok n) h plus in
    let one : get_or bs 0 0 ≡ 48 → length bs ≡ 1 = λ (first : get_or bs 0 0 ≡ 48). let most = led first in omega (arith, w.0.1) in
    let back = decimal-digits_value own bs w.0.0 w.0.1 one (omega (arith, w.0.2)) in
    let is : IsNumber n bs = (omega (arith, w.0.2, w.1), sym back ∙ ap decimal (sym w.1)) in
    subst (λ (f : Option ℕ). Finds IsNumber bs f) (sym e) is
parsed {E} bs (Err x) found h plus led e =
    let none : (n : ℕ) → ¬ (IsNumber n bs) = λ (n : ℕ) (is : IsNumber n bs). let ok : Err x ≡ Ok n = parse-decimal 32 n bs (Err x) (omega arith) (omega arith) is.1 h in cc in
    subst (λ (f : Option ℕ). Finds IsNumber bs f) (sym e) none

-- a part of a list of numbers is one
pub listed_at : (ns : List ℕ) (ws : List (List ℕ)) (i : ℕ) (w : List ℕ) → AllZip IsNumber ns ws → i < length ws → w ≡ get_or ws i w
    → (n : ℕ) × IsNumber n w
listed_at [] [] i w h lt e = absurd (omega arith)
listed_at [] (v ∷ ws) i w h lt e = absurd h
listed_at (n ∷ ns) [] i w h lt e = absurd h
listed_at (n ∷ ns) (v ∷ ws) zero w h lt e = (n, subst (λ (x : List ℕ). IsNumber n x) (sym e) h.0)
listed_at (n ∷ ns) (v ∷ ws) (suc i) w h lt e = listed_at ns ws i w h.1 (omega arith) e

-- one part more
pub push_number : (ns : List ℕ) (ws : List (List ℕ)) (n : ℕ) (w : List ℕ) → AllZip IsNumber ns ws → IsNumber n w
    → AllZip IsNumber (ns ++ n ∷ []) (ws ++ w ∷ [])
push_number [] [] n w h is = (is, tt)
push_number [] (v ∷ ws) n w h is = absurd h
push_number (m ∷ ns) [] n w h is = absurd h
push_number (m ∷ ns) (v ∷ ws) n w h is = (h.0, push_number ns ws n w h.1 is)

-- one token more
pub push_token : (ns : List ℕ) (i : ℕ) (z : ℤ) (tokens : List Token) → i < length ns → SFits w32 (pos (get_or ns i 0)) → z ≡ pos (get_or ns i 0)
    → All IsTokenNumber (take i ns) × (tokens ≡ map token (take i ns))
    → All IsTokenNumber (take (i + 1) ns) × (tokens ++ record { 0 = z } ∷ [] ≡ map token (take (i + 1) ns))
push_token ns i z tokens lt fits same h =
    let next : suc i ≡ i + 1 = omega arith in
    let more : take (i + 1) ns ≡ take i ns ++ get_or ns i 0 ∷ [] =
    ap (λ (n : ℕ). take n ns) (sym next) ∙ take-suc ns i 0 lt in
    let small : IsTokenNumber (get_or ns i 0) = omega (arith, ints, fits) in
    let one : tokens ++ record { 0 = z } ∷ [] ≡ map token (take i ns) ++ token (get_or ns i 0) ∷ [] =
    ap (λ (y : ℤ). tokens ++ record { 0 = y } ∷ []) same ∙ ap (λ (ts : List Token). ts ++ token (get_or ns i 0) ∷ []) h.1 in
    rw (more, map-append token (take i ns) (get_or ns i 0 ∷ [])) (All-push IsTokenNumber (take i ns) (get_or ns i 0) h.0 small, one)

-- a word lists its own numbers and no others
pub unique : (xs ys : List ℕ) (ws : List (List ℕ)) → AllZip IsNumber xs ws → AllZip IsNumber ys ws → xs ≡ ys
unique [] [] ws h k = refl
unique [] (y ∷ ys) [] h k = absurd k
unique [] (y ∷ ys) (w ∷ ws) h k = absurd h
unique (x ∷ xs) [] [] h k = absurd h
unique (x ∷ xs) [] (w ∷ ws) h k = absurd k
unique (x ∷ xs) (y ∷ ys) [] h k = absurd h
unique (x ∷ xs) (y ∷ ys) (w ∷ ws) h k =
    let first = decimal_injective x y (omega (arith, h.0.0)) (omega (arith, k.0.0)) (sym h.0.1 ∙ k.0.1) in
    let rest = unique xs ys ws h.1 k.1 in
    cc

-- a word lists some number
lists_some : (ws : List (List ℕ)) → AllZip IsNumber [] ws → 0 < length ws → ⊥
lists_some [] h some = omega arith
lists_some (w ∷ ws) h some = h

tokens_are : (word numbers : List ℕ) → AreNumbers numbers word → All IsTokenNumber numbers → AreTokens (map token numbers) word
tokens_are word [] are all =
    let count = length-slice_split (λ (b : ℕ). b == 44) word in
    absurd (lists_some (parts 44 word) are (omega (arith, count)))
tokens_are word (n ∷ numbers) are all = (n ∷ numbers, are, all, refl)

no_tokens : (word numbers : List ℕ) → word ≢ codes "-" → AreNumbers numbers word → ¬ (All IsTokenNumber numbers)
    → (tokens : List Token) → ¬ (AreTokens tokens word)
no_tokens word numbers filled are large [] h = filled h
no_tokens word numbers filled are large (t ∷ tokens) h =
    let same = unique h.0 numbers (parts 44 word) h.1 are in
    large (subst (λ (ns : List ℕ). All IsTokenNumber ns) same h.2)

-- the tokens of a word that is not `-`, by the numbers that it lists
pub tokens_found : {E : Type 0} (word numbers : List ℕ) (r : Result (Option (Vec Token Global)) E) → word ≢ codes "-" → AreNumbers numbers word
    → IfOk r (λ found. MatchOption found (¬ (All IsTokenNumber numbers)) (λ tokens. All IsTokenNumber numbers × (tokens.items ≡ map token numbers)))
    → IfOk r (FindsAll AreTokens word)
tokens_found word numbers (Ok (Some tokens)) filled are h =
    subst (λ (ts : List Token). AreTokens ts word) (sym h.1) (tokens_are word numbers are h.0)
tokens_found word numbers (Ok None) filled are h = no_tokens word numbers filled are h
tokens_found word numbers (Err e) filled are h = tt
