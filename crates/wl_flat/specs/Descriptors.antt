-- The descriptors that went into a session and did not come out yet, and what each call does to them.
use Rattle.std.specs.Prelude.{◌≡◌, ◌≤◌, ℕ, ℤ, ◌+◌, ◌-◌, ◌^◌, ◌%◌, ◌++◌, List, [], ◌∷◌, length, map, take, drop, Option, None, Some, if◌then◌else◌, slice_get}
use Rattle.std.specs.Int.{w32, cast_signed, cast_unsigned}
use Rattle.std.specs.List.{range_with_len}
use Rattle.std.specs.Ordering.{int_eq}
use Rattle.wl_wire.specs.declared.argument.Token.{Token}

-- Those that were passed over; those that the core holds, in order; and the token of the first of these, without its sign.
pub record Descriptors : Type 0 where
  pub passed : List ℤ
  pub held : List ℤ
  pub front : ℕ

-- a token as a number without a sign
abbrev pub unsigned : Token → ℕ
unsigned t = cast_unsigned w32 t.0

-- the token of the held descriptor that has so many before it
abbrev pub token_after : Descriptors → ℕ → Token
token_after q n = record { 0 = cast_signed w32 ((q.front + n) % 2 ^ 32) }

-- the tokens of so many descriptors that are put in next
abbrev pub next_tokens : Descriptors → ℕ → List Token
next_tokens q count = map (token_after q) (range_with_len (length q.held) count)

-- how many held descriptors stand before the one of this token; as many as are held, or more, if none has it
abbrev pub distance : Descriptors → Token → ℕ
distance q t = (unsigned t + (2 ^ 32 - q.front)) % 2 ^ 32

-- the descriptor of this token, if it is held
abbrev pub descriptor_of : Descriptors → Token → Option ℤ
descriptor_of q t = slice_get q.held (distance q t)

-- descriptors were put in behind the others
abbrev pub put_in : Descriptors → List ℤ → Descriptors
put_in q xs = record q { held = q.held ++ xs }

-- descriptors were put in behind the others, and nothing else happened
pub record IsLonger (q r : Descriptors) : Type 0 where
  pub passed : r.passed ≡ q.passed
  pub front : r.front ≡ q.front
  pub held : take (length q.held) r.held ≡ q.held
  pub more : length q.held ≤ length r.held

-- a descriptor was taken out, and those before it were passed over; or no descriptor had the token
abbrev pub taken_out : Descriptors → Token → Option ℤ → Descriptors
taken_out q t None = q
taken_out q t (Some x) = record {
  passed = q.passed ++ take (distance q t) q.held;
  held = drop (distance q t + 1) q.held;
  front = (unsigned t + 1) % 2 ^ 32;
}

-- the descriptor of this token was taken out, if it was held
abbrev pub without : Descriptors → Token → Descriptors
without q t = taken_out q t (descriptor_of q t)

-- the core holds only the last ones, so many, any more: those before them were passed over
abbrev pub last_held : ℕ → Descriptors → Descriptors
last_held count q = record {
  passed = q.passed ++ take (length q.held - count) q.held;
  held = drop (length q.held - count) q.held;
  front = (q.front + (length q.held - count)) % 2 ^ 32;
}

-- the core holds none any more
abbrev pub given_up : Descriptors → Descriptors
given_up q = record { passed = q.passed ++ q.held; held = []; front = q.front }

-- ---- each descriptor comes out once

-- how often the number stands in the list
abbrev pub occurrences : ℤ → List ℤ → ℕ
occurrences d [] = 0
occurrences d (x ∷ xs) = (if int_eq d x then 1 else 0) + occurrences d xs

-- how often it is kept
abbrev pub kept_in : ℤ → Descriptors → ℕ
kept_in d q = occurrences d q.passed + occurrences d q.held

-- Nothing is lost and nothing comes out twice: for each number, how often it was kept before and how often it went in are how
-- often it is kept after and how often it came out. `kept` counts in what is kept.
pub record Conserves {S : Type 0} (kept : ℤ → S → ℕ) (before : S) (went_in came_out : List ℤ) (after : S) : Type 0 where
  pub each : (d : ℤ) → kept d before + occurrences d went_in ≡ kept d after + occurrences d came_out

-- nothing went in yet
abbrev pub no_descriptors : Descriptors
no_descriptors = record { passed = []; held = []; front = 0 }
