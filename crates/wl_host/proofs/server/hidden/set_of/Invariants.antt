use Rattle.std.proofs.Common.{◌≡◌, take}
use Rattle.std.specs.BTreeSet.{contains}
use Rattle.std.specs.List.{list_any}
use Rattle.std.specs.Ordering.{eq_by_cmp}
use Rattle.wl_host.proofs.server.hidden.set_of.Given as goal

-- the set has the keys that came so far
abbrev pub invariant-loop-key : goal.invariant-loop-key
invariant-loop-key g l = (q : _) → contains g.K.Ord.cmp l.set q ≡ list_any (eq_by_cmp g.K.Ord.cmp q) (take l.key-index l.keys)
