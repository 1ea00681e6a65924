-- Objects with the program's data of them.
use Rattle.std.specs.Prelude.{ℕ, Option, unwrap_or}
use Rattle.wl_server_client.specs.Ids.{IdParts}
use Rattle.wl_flat.specs.Flat.{flat_resource}
use Rattle.wl_flat.specs.declared.flat.FlatHeldObject.{FlatHeldObject}

-- an object as it was found, with its data, or 0 without any
abbrev pub flat_held : IdParts × Option ℕ → FlatHeldObject
flat_held held = record { object = flat_resource held.0; «data» = unwrap_or held.1 0 }
