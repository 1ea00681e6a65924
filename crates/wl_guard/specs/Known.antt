-- What a guard knows of a session: the objects, what the client was told of globals, and which objects the client has ended.
use Rattle.std.specs.Prelude.{ℕ, Bool, false, not, ◌&&◌, ◌||◌, ◌==◌, ◌-◌, nat_le, nat_lt, List, [], ◌∷◌, filter, is_some, length, Option, None, Some, if◌then◌else◌}
use Rattle.std.specs.List.{list_any}
use Rattle.wl_link.specs.Store.{Store, client_range, server_range}
use Rattle.wl_follow.specs.Objects.{first_objects}
use Rattle.wl_follow.specs.declared.side.Side.{Side}
use Rattle.wl_follow.specs.declared.side.Side.TheVariants.{Client, Server}
use Rattle.wl_guard.specs.declared.policy.Limits.{Limits}
use Rattle.wl_guard.specs.declared.session.Told.{Told}
use Rattle.wl_guard.specs.declared.session.Session.{Session}

-- The kept objects; the last announcement of each number of a global, handed on or not; and the numbers of objects that the client
-- has ended by a destructor, and that no event has made new or told to be free since.
pub record Known : Type 0 where
  pub objects : Store (Unit {0})
  pub told : List Told
  pub ended : List ℕ

abbrev pub known : Session → Known
known s = record { objects = s.objects.store; told = s.told.items; ended = s.ended.items }

-- a session that begins
abbrev pub nothing_known : Known
nothing_known = record { objects = first_objects; told = []; ended = [] }

-- ---- announcements

-- the last announcement of the number
abbrev pub told_of : List Told → ℕ → Option Told
told_of [] number = None
told_of (t ∷ ts) number = if t.number == number then Some t else told_of ts number

-- with this announcement, in the place of an earlier one of its number
abbrev pub with_told : List Told → Told → List Told
with_told [] t = t ∷ []
with_told (s ∷ ts) t = if s.number == t.number then t ∷ ts else s ∷ with_told ts t

-- the number is remembered, or one more may be
abbrev pub has_place : Limits → List Told → ℕ → Bool
has_place limits told number = is_some (told_of told number) || nat_lt (length told) limits.globals

-- ---- objects

-- the number is one of these
abbrev pub is_one_of : List ℕ → ℕ → Bool
is_one_of numbers number = list_any (λ n. n == number) numbers

abbrev pub without : Option ℕ → List ℕ → List ℕ
without None numbers = numbers
without (Some number) numbers = filter (λ n. not (n == number)) numbers

-- the number is one that the side gives out, beyond the limit
abbrev pub is_beyond : Limits → Side → Option ℕ → Bool
is_beyond limits side None = false
is_beyond limits Client (Some number) = nat_lt number client_range.end && nat_le limits.objects number
is_beyond limits Server (Some number) = nat_le server_range.first number && nat_le limits.objects (number - server_range.first)
