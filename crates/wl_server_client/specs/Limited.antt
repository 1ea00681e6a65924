-- How many objects a client may have, if the program sets a limit.
--
-- The limit is the greatest number at which a request may make an object. So a client makes at most so many objects of its own
-- numbers, its display among them. A client uses a number again once it is free: it needs as many numbers as it ever had objects
-- at once, those included of whose ends it has not heard.
use Rattle.std.specs.Prelude.{ℕ, List, Bool, false, if◌then◌else◌, nat_lt, Option, None, Some}
use Rattle.std.specs.List.{list_any}
use Rattle.wl_wire.specs.declared.argument.Argument.TheVariants as arg
use Rattle.wl_wire.specs.Argument.{WireArgument}

-- the number is above the limit, if there is one
abbrev pub is_above : Option ℕ → ℕ → Bool
is_above None n = false
is_above (Some limit) n = nat_lt limit n

-- the argument is a new id above the limit
abbrev pub is_new_above : ℕ → WireArgument → Bool
is_new_above limit (arg.NewId n) = nat_lt limit n
is_new_above limit _ = false

-- the limit, if a new id among the arguments is above it
abbrev pub limit_passed : Option ℕ → List WireArgument → Option ℕ
limit_passed None args = None
limit_passed (Some limit) args = if list_any (is_new_above limit) args then Some limit else None
