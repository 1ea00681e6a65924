use Rattle.std.proofs.Common.{◌≡◌, drop, map}
use Rattle.wl_wire.specs.Table.{message_row}
use Rattle.wl_flat.specs.Joining.{unlike_from}
use Rattle.wl_flat.proofs.joining.first_unlike.Given as goal

abbrev pub invariant-loop-opcode : goal.invariant-loop-opcode
invariant-loop-opcode l =
    unlike_from 0 (map message_row l.there) (map message_row l.said) ≡ unlike_from l.opcode (map message_row (drop l.opcode l.there)) (map message_row (drop l.opcode l.said))
