-- No argument before the index is forbidden.
use Rattle.std.proofs.Common.{◌≡◌, drop}
use Rattle.std.specs.List.{position_from, zip}
use Rattle.wl_flat.specs.Nulls.{is_forbidden}
use Rattle.wl_flat.proofs.nulls.forbidden_null.Given as goal

abbrev pub invariant-loop-index : goal.invariant-loop-index
invariant-loop-index g l =
    let found = position_from (is_forbidden g.O.Objects.flat_of) in
    found l.index (zip (drop l.index l.signature) (drop l.index l.args)) ≡ found 0 (zip l.signature l.args)
