-- The descriptors of tokens, one after another.
use Rattle.std.specs.Prelude.{◌≡◌, ℕ, ℤ, ◌+◌, ◌-◌, ◌^◌, ◌%◌, MatchOption, slice_get}
use Rattle.wl_wire.specs.declared.argument.Token.{Token}
use Rattle.wl_flat.specs.Descriptors.{Descriptors, unsigned}
use Rattle.wl_flat.specs.Sending.{shown}

-- how many of all that are held stand before the one of this token, where so many were taken and the next token is `front`
abbrev pub place_of : Token → ℕ → ℕ → ℕ
place_of t front taken = taken + (unsigned t + (2 ^ 32 - front)) % 2 ^ 32

-- the descriptor of the token is shown, and is taken, if it is held behind those that were taken
pub record ShowsNext (q : Descriptors) (t : Token) (front taken : ℕ) (x : ℤ) (front' taken' : ℕ) : Type 0 where
  pub number : x ≡ shown (slice_get q.held (place_of t front taken))
  pub next : MatchOption (slice_get q.held (place_of t front taken))
      ((front' ≡ front) × (taken' ≡ taken))
      (λ d. (front' ≡ (unsigned t + 1) % 2 ^ 32) × (taken' ≡ place_of t front taken + 1))
