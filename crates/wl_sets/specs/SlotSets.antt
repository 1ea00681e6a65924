-- Sets of slots, with a bit for each slot.
use Rattle.std.specs.Prelude.{◌≡◌, ◌≢◌, ◌⊎◌, ℕ, ◌/◌, ◌%◌, Bool, true, List, slice_get}
use Rattle.std.specs.Int.{bit_at}
use Rattle.std.specs.Option.{option_map_or}

-- a word of a set; all bits of one that is not there are set
abbrev pub word_in : List ℕ → ℕ → ℕ
word_in words row = option_map_or (λ w. w) (slice_get words row) 0xFFFFFFFFFFFFFFFF

-- the slot is not in the set
unfoldable pub IsOut : List ℕ → ℕ → Type 0
IsOut words slot = bit_at (word_in words (slot / 64)) (slot % 64) ≡ 0

-- The slot was added. No other was taken out.
abbrev pub Adds : ℕ → List ℕ → List ℕ → Type 0
Adds slot before after = (k : ℕ) → IsOut after k → (k ≢ slot) × IsOut before k

-- The slot was taken out, if the flag is set. No other was.
abbrev pub TakesOut : ℕ → Bool → List ℕ → List ℕ → Type 0
TakesOut slot flag before after = (k : ℕ) → IsOut after k → ((k ≡ slot) × (flag ≡ true)) ⊎ IsOut before k
