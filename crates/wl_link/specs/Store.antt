-- The objects of a session by their numbers.
--
-- Each side gives out the numbers of a range of its own, and 0 is no number of an object. The numbers of a range that
-- were ever in use lie below its first unused number, which never falls.
use Rattle.std.specs.Prelude.{◌≡◌, ℕ, ◌+◌, ◌<◌, ◌≤◌, Bool, true, not, ◌&&◌, ◌==◌, nat_lt, nat_le, if◌then◌else◌, Option, None, Some, is_some, List, Contains, AllPairs, ◌↔◌}
use Rattle.std.specs.Ordering.{nat_cmp}
use Rattle.std.specs.FinMap as map
use Rattle.wl_link.specs.declared.object.Object.{Object}

-- the numbers from `first` on and below `end`
pub record Range : Type 0 where
  pub first : ℕ
  pub end : ℕ

-- the numbers that a client gives out
abbrev pub client_range : Range
client_range = record { first = 1; end = 0xFF000000 }

-- the numbers that a server gives out
abbrev pub server_range : Range
server_range = record { first = 0xFF000000; end = 0x100000000 }

-- the kept objects by number, and the first number of each range that was never in use
pub record Store (D : Type 0) : Type 0 where
  pub objects : map.FinMap nat_cmp (Object D)
  pub client_unused : ℕ
  pub server_unused : ℕ

abbrev pub is_server_number : ℕ → Bool
is_server_number n = nat_le server_range.first n

-- the first unused number of its range, once a number is in use
abbrev pub unused_after : ℕ → ℕ → ℕ
unused_after unused n = if n == unused then n + 1 else unused

module _ {D : Type 0} where
  abbrev pub empty_store : Store D
  empty_store = record { objects = map.empty; client_unused = client_range.first; server_unused = server_range.first }

  -- the object that a number holds
  abbrev pub held : Store D → ℕ → Option (Object D)
  held store n = map.get store.objects n

  -- the first unused number of the range of a number
  abbrev pub first_unused : Store D → ℕ → ℕ
  first_unused store n = if is_server_number n then store.server_unused else store.client_unused

  -- the number holds no object and was in use before, or is the first that was not
  abbrev pub is_free : Store D → ℕ → Bool
  is_free store n = not (is_some (held store n)) && (nat_lt 0 n && nat_le n (first_unused store n))

  -- the number was in use before, and holds no object
  abbrev pub is_vacant : Store D → ℕ → Bool
  is_vacant store n = (nat_lt 0 n && nat_lt n (first_unused store n)) && not (is_some (held store n))

  -- the store with an object put at a number
  abbrev pub stored : Store D → ℕ → Object D → Store D
  stored store n x = record {
    objects = map.insert store.objects n x;
    client_unused = if is_server_number n then store.client_unused else unused_after store.client_unused n;
    server_unused = if is_server_number n then unused_after store.server_unused n else store.server_unused;
  }

  -- the store without the object of a number
  abbrev pub removed : Store D → ℕ → Store D
  removed store n = record store { objects = map.remove store.objects n }

  -- the store with another value at a number that holds an object
  abbrev pub rewritten : Store D → ℕ → Object D → Store D
  rewritten store n x = record store { objects = map.insert store.objects n x }

  -- the least number of the range that holds no object
  pub record IsLeastAbsent (range : Range) (store : Store D) (n : ℕ) : Type 0 where
    pub within : range.first ≤ n
    pub below : n < range.end
    pub absent : held store n ≡ None
    pub least : (k : ℕ) → range.first ≤ k → k < n → is_some (held store k) ≡ true

  -- every number of the range holds an object
  pub record IsFull (range : Range) (store : Store D) : Type 0 where
    pub each : (k : ℕ) → range.first ≤ k → k < range.end → is_some (held store k) ≡ true

  -- the walk over a store: each kept object once, with its number, by ascending number
  pub record IsWalk (store : Store D) (walk : List (ℕ × Object D)) : Type 0 where
    pub ascending : AllPairs (λ a b. a.0 < b.0) walk
    pub each : (n : ℕ) (x : Object D) → Contains walk (n, x) ↔ (held store n ≡ Some x)
