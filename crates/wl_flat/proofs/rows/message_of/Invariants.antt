use Rattle.std.proofs.Common.{◌≡◌, drop}
use Rattle.wl_wire.specs.Table.{message_row}
use Rattle.wl_flat.specs.Rows.{with_arguments}
use Rattle.wl_flat.proofs.rows.message_of.Given as goal

-- the arguments that are left go behind those that were pushed
abbrev pub invariant-loop-argument : goal.invariant-loop-argument
invariant-loop-argument l =
    with_arguments l.fn.arguments (message_row l.initial.message) ≡ with_arguments (drop l.argument-index l.arguments) (message_row l.message)
