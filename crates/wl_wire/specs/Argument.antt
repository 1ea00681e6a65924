-- Arguments and their types.
use Rattle.std.specs.Prelude.{◌≡◌, ℕ, List, map}
use Rattle.wl_wire.specs.declared.argument.AllowNull.TheVariants.{Yes}
use Rattle.wl_wire.specs.declared.argument.ArgumentType.{ArgumentType}
use Rattle.wl_wire.specs.declared.argument.ArgumentType.TheVariants as kind
use Rattle.wl_wire.specs.declared.argument.Argument.{Argument}
use Rattle.wl_wire.specs.declared.argument.Argument.TheVariants as arg
use Rattle.wl_wire.specs.declared.argument.Token.{Token}

-- an argument on the wire: ids are numbers, descriptors are tokens
abbrev pub WireArgument : Type 0
WireArgument = Argument ℕ Token

-- the type, as one that allows null
abbrev pub kind_of : ArgumentType → ArgumentType
kind_of kind.Int = kind.Int
kind_of kind.Uint = kind.Uint
kind_of kind.Fixed = kind.Fixed
kind_of (kind.Str _) = kind.Str Yes
kind_of (kind.Object _) = kind.Object Yes
kind_of kind.NewId = kind.NewId
kind_of kind.Array = kind.Array
kind_of kind.Fd = kind.Fd

-- the type of an argument; that of a string or an object allows null
abbrev pub type_of : {Id Fd : Type 0} → Argument Id Fd → ArgumentType
type_of (arg.Int _) = kind.Int
type_of (arg.Uint _) = kind.Uint
type_of (arg.Fixed _) = kind.Fixed
type_of (arg.Str _) = kind.Str Yes
type_of (arg.Object _) = kind.Object Yes
type_of (arg.NewId _) = kind.NewId
type_of (arg.Array _) = kind.Array
type_of (arg.Fd _) = kind.Fd

-- the arguments fit the signature: as many, of the same type at each place; null is not looked at
abbrev pub Matches : {Id Fd : Type 0} → List ArgumentType → List (Argument Id Fd) → Type 0
Matches signature args = map kind_of signature ≡ map type_of args
