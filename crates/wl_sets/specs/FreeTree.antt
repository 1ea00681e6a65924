-- Flags as a tree of words: which places of a range are free.
--
-- Flag 64w + b is bit b of word w of the lowest level. The words of each level are the flags of the level above: flag w
-- says that word w is not 0. There are as many levels as it takes to come to one word.
use Rattle.std.specs.Prelude.{Vec, vec_len, slice_set, ◌≢◌, vec_capacity, nat_lt, ◌≡◌, ◌==◌, ◌+◌, ◌-◌, ◌*◌, ◌/◌, ◌<◌, ◌≤◌, ◌^◌, ◌&&◌, ◌||◌, ℕ, List, [], ◌∷◌, ◌++◌, Bool, true, false, not, Option, None, Some, length, if◌then◌else◌, slice_index_or}
use Rattle.std.specs.Int.{bit_at, trailing_zeros, w64}

-- ---- the tree

-- a word of a level, which is 0 past the last
abbrev pub word : List ℕ → ℕ → ℕ
word words i = slice_index_or words i 0

-- some bit of the word is set
abbrev pub is_set : ℕ → Bool
is_set word = not (word == 0)

abbrev pub as_bit : Bool → ℕ
as_bit flag = if flag then 1 else 0

-- one level over so many flags: a word for each 64, of which each bit is its flag
pub record IsLevel (flag : ℕ → Bool) (count : ℕ) (words : List ℕ) : Type 0 where
  pub len : length words ≡ (count + 63) / 64
  pub small : (w : ℕ) → word words w < 2 ^ 64
  pub bits : (w b : ℕ) → w < length words → b < 64 → bit_at (word words w) b ≡ as_bit (flag (64 * w + b))

-- how many flags the level above this one has: one for each word, and none if there is only one word
abbrev pub flags_above : ℕ → ℕ
flags_above words = if nat_lt 1 words then words else 0

-- the words of each level, from the lowest up, over so many flags
abbrev pub IsTree : (ℕ → Bool) → ℕ → List (List ℕ) → Type 0
IsTree flag count [] = count ≡ 0
IsTree flag count (words ∷ up) = IsLevel flag count words × IsTree (λ w. is_set (word words w)) (flags_above (length words)) up

-- how many levels have words
abbrev pub height : List (List ℕ) → ℕ
height [] = 0
height ([] ∷ up) = 0
height ((_ ∷ _) ∷ up) = height up + 1

-- as many levels as it takes to come from so many flags to one word, which has 64
pub record IsHeight (count levels : ℕ) : Type 0 where
  pub none : count ≡ 0 → levels ≡ 0
  pub some : 0 < count → 0 < levels
  pub enough : 0 < count → count ≤ 64 ^ levels
  pub wanted : 1 < levels → 64 ^ (levels - 1) < count

-- the lowest level is one word
abbrev pub is_one_word : List (List ℕ) → Bool
is_one_word [] = false
is_one_word (words ∷ up) = length words == 1

-- the level above the lowest is one word
abbrev pub is_one_word_above : List (List ℕ) → Bool
is_one_word_above [] = false
is_one_word_above (words ∷ up) = is_one_word up

-- ---- a search

-- the least number whose flag is set
pub record IsLeast (flag : ℕ → Bool) (n : ℕ) : Type 0 where
  pub here : flag n ≡ true
  pub below : (j : ℕ) → j < n → flag j ≡ false

-- the least number whose flag is set, or that no flag below the count is
abbrev pub FindsLeast : (ℕ → Bool) → ℕ → Option ℕ → Type 0
FindsLeast flag count None = (j : ℕ) → j < count → flag j ≡ false
FindsLeast flag count (Some n) = IsLeast flag n

-- the flag of the lowest bit that is set in a word, if one is
abbrev pub lowest_bit : ℕ → ℕ → Option ℕ
lowest_bit at word = if word == 0 then None else Some (64 * at + trailing_zeros w64 word)

-- how many words a search reads: one on each level, or the highest alone if no flag is set
abbrev pub reads_of : Option ℕ → List (List ℕ) → ℕ
reads_of (Some n) levels = height levels
reads_of None levels = if height levels == 0 then 0 else 1

-- ---- changes

-- the flags with one of them changed
abbrev pub changed : (ℕ → Bool) → ℕ → Bool → ℕ → Bool
changed flag at on = λ j. if j == at then on else flag j

-- the levels with a first word added to the lowest; the word has this flag
abbrev pub with_first : Bool → List (List ℕ) → List (List ℕ)
with_first on [] = []
with_first on (words ∷ up) = (words ++ as_bit on ∷ []) ∷ up

-- ---- what holds of the levels, whatever their flags are

-- they are a tree of some flags
abbrev pub IsSomeTree : List (List ℕ) → Type 0
IsSomeTree levels = (flag : ℕ → Bool) × (count : ℕ) × (count < 4294967296) × IsTree flag count levels

-- none is set past the last
abbrev pub IsWholeTree : List (List ℕ) → Type 0
IsWholeTree levels =
    (flag : ℕ → Bool) × (count : ℕ) × (count < 4294967296) × ((j : ℕ) → count ≤ j → flag j ≡ false) × IsTree flag count levels

-- and this is the number of one of them
abbrev pub HasFlag : ℕ → List (List ℕ) → Type 0
HasFlag at levels = (flag : ℕ → Bool) × (count : ℕ) × (at < count) × IsTree flag count levels

-- the answer is the least that is set
abbrev pub IsLeastOf : List (List ℕ) → Option ℕ → Type 0
IsLeastOf levels answer = (flag : ℕ → Bool) (count : ℕ) → IsTree flag count levels → FindsLeast flag count answer

-- there are as many levels as it takes
abbrev pub HasHeight : List (List ℕ) → Type 0
HasHeight levels = (flag : ℕ → Bool) (count : ℕ) → IsTree flag count levels → IsHeight count (height levels)

-- the flags are the same
abbrev pub KeepsFlags : List (List ℕ) → List (List ℕ) → Type 0
KeepsFlags before after = (flag : ℕ → Bool) (count : ℕ) → IsTree flag count before → IsTree flag count after

-- one of them is changed
abbrev pub ChangesFlag : ℕ → Bool → List (List ℕ) → List (List ℕ) → Type 0
ChangesFlag at on before after =
    (flag : ℕ → Bool) (count : ℕ) → at < count → IsTree flag count before → IsTree (changed flag at on) count after

-- the one that was found is cleared, if its number is below the end
abbrev pub TakesLeast : ℕ → List (List ℕ) → Option ℕ → List (List ℕ) → Type 0
TakesLeast end before None after = after ≡ before
TakesLeast end before (Some at) after = (at < end → ChangesFlag at false before after) × (end ≤ at → after ≡ before)

-- a bit of the only word is cleared, if its number is below the end
abbrev pub ClearsBelow : ℕ → List ℕ → Option ℕ → List ℕ → Type 0
ClearsBelow end before None after = after ≡ before
ClearsBelow end before (Some at) after =
    (at < 64) × (at < end → (new : ℕ) × (new < 2 ^ 64) × (after ≡ slice_set before 0 new) × (bit_at new at ≡ 0)
    × ((i : ℕ) → i < 64 → i ≢ at → bit_at new i ≡ bit_at (word before 0) i))
    × (end ≤ at → after ≡ before)

-- there is one more, which is not set
abbrev pub AddsFlag : ℕ → List (List ℕ) → List (List ℕ) → Type 0
AddsFlag count before after =
    (flag : ℕ → Bool) → ((j : ℕ) → count ≤ j → flag j ≡ false) → IsTree flag count before → IsTree flag (count + 1) after

-- ---- capacity

-- whether a vector has capacity for one item more
abbrev pub has_capacity : {A Z : Type 0} → Vec A Z → Bool
has_capacity v = nat_lt (vec_len v) (vec_capacity v)

module _ {Z : Type 0} where
  abbrev pub words_of : List (Vec ℕ Z) → List (List ℕ)
  words_of [] = []
  words_of (words ∷ up) = words.items ∷ words_of up

  -- each level has capacity for one word more, and so has one without words above them
  abbrev pub is_ready : List (Vec ℕ Z) → Bool
  is_ready [] = false
  is_ready (words ∷ up) = has_capacity words && (vec_len words == 0 || is_ready up)

  -- each level has capacity for one word more; if there was no level without words, one is still wanted
  abbrev pub RoomMade : Bool → List (Vec ℕ Z) → List (Vec ℕ Z) → Type 0
  RoomMade true before after = is_ready after ≡ true
  RoomMade false before after =
      (is_ready before ≡ false) × ((top : Vec ℕ Z) → vec_len top ≡ 0 → has_capacity top ≡ true → is_ready (after ++ top ∷ []) ≡ true)
