use Rattle.std.proofs.Common.{◌++◌, ◌+◌, ◌≤◌, List, length, reverse}
use Rattle.wl_wire.specs.declared.argument.Argument.{Argument}
use Rattle.wl_wire.specs.MapFd.{MapsFds}
use Rattle.wl_wire.proofs.message.map_arguments.Given as goal

-- whatever the arguments that are left become, they end the whole
abbrev pub invariant-loop-arg : goal.invariant-loop-arg
invariant-loop-arg g l = record {
  callable : goal.F-IsAlwaysCallable g l.f;
  room : length l.args.items + length l.old.items ≤ l.args.capacity;
  left : (rest : List (Argument g.row.Id.Denot g.row.T.Denot)) (last : _) → MapsFds (goal.F-step g) l.f (reverse l.old.items) rest last
      → MapsFds (goal.F-step g) l.fn.f l.fn.old.items (l.args.items ++ rest) last;
}

abbrev pub decreases-loop-arg : goal.decreases-loop-arg
decreases-loop-arg g l = length l.old.items
