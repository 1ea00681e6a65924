-- Nulls that the table forbids: an argument is a null string or a null object, and its place in the signature allows no null.
use Rattle.std.specs.Fmt.{decimal}
use Rattle.std.specs.List.{position, zip}
use Rattle.std.specs.Prelude.{◌≡◌, ◌↔◌, ◌<◌, ℕ, ◌+◌, ◌++◌, ◌==◌, ◌&&◌, List, [], codes, Bool, true, false, not, IsSomeAnd, IsTrue, Option, None, Some, slice_get}
use Rattle.wl_wire.specs.Table.{MessageRow}
use Rattle.wl_wire.specs.declared.argument.AllowNull.TheVariants.{Yes}
use Rattle.wl_wire.specs.declared.argument.Argument.{Argument}
use Rattle.wl_wire.specs.declared.argument.Argument.TheVariants as arg
use Rattle.wl_wire.specs.declared.argument.ArgumentType.{ArgumentType}
use Rattle.wl_wire.specs.declared.argument.ArgumentType.TheVariants as kind
use Rattle.wl_wire.specs.declared.argument.Token.{Token}
use Rattle.wl_flat.specs.Flat.{count_number}
use Rattle.wl_flat.specs.declared.flat.FlatObjectId.{FlatObjectId}

-- the signature of a message of the table; empty if the table has no such message
abbrev pub signature_of : Option MessageRow → List ArgumentType
signature_of None = []
signature_of (Some row) = row.signature

-- a string or an object of this type may be null
abbrev pub allows_null : ArgumentType → Bool
allows_null (kind.Str Yes) = true
allows_null (kind.Object Yes) = true
allows_null _ = false

-- `flat` gives an id as a flat struct, which is null if its number is 0
module _ {Id : Type 0} (flat : Id → FlatObjectId) where
  -- it is a string or an object, and null
  abbrev pub is_null : Argument Id Token → Bool
  is_null (arg.Str None) = true
  is_null (arg.Object id) = (flat id).number == 0
  is_null _ = false

  -- it is null, and its type allows no null
  abbrev pub is_forbidden : ArgumentType × Argument Id Token → Bool
  is_forbidden typed = is_null typed.1 && not (allows_null typed.0)

  -- the argument at that place is null, and the signature allows no null there
  abbrev pub IsForbiddenAt : List ArgumentType → List (Argument Id Token) → ℕ → Type 0
  IsForbiddenAt signature args n =
      IsSomeAnd (slice_get signature n) (λ type. IsSomeAnd (slice_get args n) (λ a. IsTrue (is_forbidden (type, a))))

-- a place, counted from 1; 0 if there is none
abbrev pub counted_from_one : Option ℕ → ℕ
counted_from_one None = 0
counted_from_one (Some n) = count_number (n + 1)

-- the place of the first argument that is null where the signature allows no null, counted from 1; 0 if there is none
abbrev pub forbidden_null : {Id : Type 0} → (Id → FlatObjectId) → List ArgumentType → List (Argument Id Token) → ℕ
forbidden_null flat signature args = counted_from_one (position (is_forbidden flat) (zip signature args))

-- ---- nulls that are refused

-- what the call that sets it says: 0 is off
abbrev pub sets : ℕ → Bool
sets is_on = not (is_on == 0)

-- a message whose first null that is forbidden has this place is refused
abbrev pub is_refused : Bool → ℕ → Bool
is_refused false place = false
is_refused true place = not (place == 0)

-- the name of a message of the table; empty if the table has no such message
abbrev pub name_in : Option MessageRow → List ℕ
name_in None = []
name_in (Some row) = row.name

-- The text that says of a null that it is refused: its place, whether the message is a request or an event, the name of its
-- interface, and its own. "Invalid null argument 2 in request thing.name."
abbrev pub null_text : List ℕ → List ℕ → List ℕ → ℕ → List ℕ
null_text kind interface message place =
    codes "Invalid null argument "
    ++ (decimal place ++ (codes " in " ++ (kind ++ (codes " " ++ (interface ++ (codes "." ++ (message ++ codes ".")))))))

-- ---- what the place says

-- it is the first that is
abbrev pub IsFirstAt : {Id : Type 0} → (Id → FlatObjectId) → List ArgumentType → List (Argument Id Token) → ℕ → Type 0
IsFirstAt flat signature args n =
    IsForbiddenAt flat signature args n × ((m : ℕ) → m < n → ¬ (IsForbiddenAt flat signature args m))

-- what such a number says: 0 if no argument is a null that is forbidden, and else which is the first
pub record TellsNull {Id : Type 0} (flat : Id → FlatObjectId) (signature : List ArgumentType) (args : List (Argument Id Token)) (told : ℕ) : Type 0 where
  pub none : (told ≡ 0) ↔ ((n : ℕ) → ¬ (IsForbiddenAt flat signature args n))
  pub first : (n : ℕ) → IsFirstAt flat signature args n → told ≡ count_number (n + 1)
