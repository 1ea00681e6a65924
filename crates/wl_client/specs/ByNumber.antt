-- What a number holds.
use Rattle.std.specs.Prelude.{ℕ, Option, option_map}
use Rattle.wl_link.specs.Store.{held}
use Rattle.wl_client.specs.ObjectId.{IdParts}
use Rattle.wl_client.specs.Session.{SessionState, id_at}

-- the object that a number holds, also one that the client destroyed
abbrev pub object_at : {T U : Type 0} → SessionState T U → ℕ → Option IdParts
object_at s n = option_map (id_at n) (held s.store n)
