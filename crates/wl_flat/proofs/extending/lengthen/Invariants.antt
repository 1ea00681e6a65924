use Rattle.std.proofs.Common.{Result, map}
use Rattle.std.specs.Vec.Iter.{into_iter_items}
use Rattle.wl_flat.specs.declared.extending.ExtensionFault.{ExtensionFault}
use Rattle.wl_flat.specs.Extending.{Lengthens, longer_seen}
use Rattle.wl_flat.proofs.extending.lengthen.Given as goal

-- what is made of those that are left is made of all
abbrev pub invariant-loop-more : goal.invariant-loop-more
invariant-loop-more g l =
    (result : Result (Unit {0}) ExtensionFault) (after : _)
    → Lengthens g.T.Growing.grows l.core (map longer_seen (into_iter_items l.more-iterator)) result after
    → Lengthens g.T.Growing.grows l.fn.core (map longer_seen l.fn.longer.items) result after
