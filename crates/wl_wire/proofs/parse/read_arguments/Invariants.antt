use Rattle.std.proofs.Common.{◌≡◌, ◌+◌, ◌-◌, ◌≤◌, length, drop}
use Rattle.wl_wire.specs.Inside.Cursor.{arguments_at, with_front}
use Rattle.wl_wire.proofs.parse.read_arguments.Given as goal

abbrev pub invariant-loop-kind : goal.invariant-loop-kind
invariant-loop-kind l =
    (with_front l.args.items (arguments_at (drop l.kind-index l.signature) l.rest (drop l.used l.fds.items)) ≡ with_front l.fn.args.items (arguments_at l.signature l.payload l.fds.items))
    × (length l.args.items + (length l.signature - l.kind-index) ≤ l.args.capacity)
    × (l.fn.args.capacity ≤ l.args.capacity)
