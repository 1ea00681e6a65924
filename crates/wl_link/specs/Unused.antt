-- The numbers that were never in use.
use Rattle.std.specs.Prelude.{◌≡◌, ℕ, ◌<◌, ◌≤◌, Option, None, Some}
use Rattle.wl_link.specs.Store.{Range, Store, held, first_unused}

-- the numbers that either side gives out
abbrev pub all_numbers : Range
all_numbers = record { first = 1; end = 0x100000000 }

module _ {D : Type 0} where
  -- the least number of the range that was never in use
  pub record IsLeastUnused (range : Range) (store : Store D) (n : ℕ) : Type 0 where
    pub within : range.first ≤ n
    pub below : n < range.end
    pub absent : held store n ≡ None
    pub unused : n ≡ first_unused store n
    pub least : (k : ℕ) → range.first ≤ k → k < n → k < first_unused store k

  -- every number of the range was in use
  pub record IsUsedUp (range : Range) (store : Store D) : Type 0 where
    pub each : (k : ℕ) → range.first ≤ k → k < range.end → k < first_unused store k

  -- the number that was never in use and is next
  abbrev pub NextUnused : Range → Store D → Option ℕ → Type 0
  NextUnused range store (Some n) = IsLeastUnused range store n
  NextUnused range store None = IsUsedUp range store
