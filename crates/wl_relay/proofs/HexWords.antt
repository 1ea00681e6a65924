-- Which words are bytes in hex.
use Rattle.std.proofs.Common.{◌≡◌, ◌≢◌, ℕ, suc, ◌<◌, ◌≤◌, List, [], ◌∷◌, ◌++◌, length, get_or, Option, Some, None, Result, Ok, Err, Vec, Global, ap, arith, codes}
use Rattle.std.specs.Prelude.{IfOk}
use Rattle.std.specs.List.{flat_map}
use Rattle.std.proofs.lemmas.List.Elements.{All-tail}
use Rattle.wl_relay.specs.Words.{AreBytes, AreHex, FindsAll, IsByte}
use Rattle.wl_relay.specs.Words.{hex_digits}

-- what stands behind the digits of some bytes is the digits of the others
pub behind : (read rest xs : List ℕ) → AreHex xs (flat_map hex_digits read ++ rest) → (ys : List ℕ) × AreHex ys rest
behind [] rest xs h = (xs, h)
behind (x ∷ read) rest [] h = absurd (let e = h.1 in cc)
behind (x ∷ read) rest (y ∷ xs) h =
    let e = h.1 in
    let tail : flat_map hex_digits read ++ rest ≡ flat_map hex_digits xs = cc in
    behind read rest xs (All-tail IsByte y xs h.0, tail)

-- the two digits at the front are those of a byte
pub front_byte : (rest xs : List ℕ) → AreHex xs rest → 2 ≤ length rest
    → (b : ℕ) × (b < 256) × (get_or rest 0 0 ∷ get_or rest 1 0 ∷ [] ≡ hex_digits b)
front_byte rest [] h two = let none : length rest ≡ 0 = ap length h.1 in absurd (omega arith)
front_byte rest (b ∷ xs) h two =
    (b, h.0 0 0 (omega arith), ap (λ (text : List ℕ). get_or text 0 0 ∷ get_or text 1 0 ∷ []) h.1)

-- one digit is no byte
pub no_single : (rest xs : List ℕ) → AreHex xs rest → length rest < 2 → length rest ≡ 0
no_single rest [] h short = ap length h.1
no_single rest (b ∷ xs) h short =
    let l : length rest ≡ suc (suc (length (flat_map hex_digits xs))) = ap length h.1 in absurd (omega arith)

bytes_are : (word bytes : List ℕ) → 0 < length word → AreHex bytes word → AreBytes bytes word
bytes_are word [] some h = let none : length word ≡ 0 = ap length h.1 in absurd (omega arith)
bytes_are word (b ∷ bytes) some h = h

no_bytes : (word : List ℕ) → word ≢ codes "-" → ((bytes : List ℕ) → ¬ (AreHex bytes word)) → (bytes : List ℕ) → ¬ (AreBytes bytes word)
no_bytes word filled none [] h = filled h
no_bytes word filled none (b ∷ bytes) h = none (b ∷ bytes) h

-- the bytes of a word that is neither empty nor `-`
pub bytes_found : {E : Type 0} (word : List ℕ) (r : Result (Option (Vec ℕ Global)) E) → word ≢ codes "-" → 0 < length word
    → IfOk r (FindsAll AreHex word) → IfOk r (FindsAll AreBytes word)
bytes_found word (Ok (Some bytes)) filled some h = bytes_are word bytes.items some h
bytes_found word (Ok None) filled some h = no_bytes word filled h
bytes_found word (Err e) filled some h = tt
