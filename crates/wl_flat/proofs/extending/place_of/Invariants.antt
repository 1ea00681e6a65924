use Rattle.std.proofs.Common.{◌≡◌, drop}
use Rattle.std.specs.List.{position_from}
use Rattle.std.specs.Str.{bytes_eq}
use Rattle.wl_flat.proofs.extending.place_of.Given as goal

abbrev pub invariant-loop-place : goal.invariant-loop-place
invariant-loop-place l = position_from (λ row. bytes_eq l.name row.name) 0 l.protocol ≡ position_from (λ row. bytes_eq l.name row.name) l.place (drop l.place l.protocol)
