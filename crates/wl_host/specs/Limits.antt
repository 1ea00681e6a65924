-- Limits that the host sets for all clients.
use Rattle.std.specs.Prelude.{ℕ, ◌==◌, if◌then◌else◌, Option, None, Some}

-- the limit of objects that a call passes; 0 is none
abbrev pub object_limit_of : ℕ → Option ℕ
object_limit_of limit = if limit == 0 then None else Some limit
