use Rattle.std.proofs.Common.{◌≡◌, length, take, map}
use Rattle.wl_wire.specs.Argument.{kind_of, type_of}
use Rattle.wl_wire.proofs.protocol.check_for_signature.Given as goal

abbrev pub invariant-loop-kind : goal.invariant-loop-kind
invariant-loop-kind g l = map kind_of (take (length l.yielded) l.signature) ≡ map type_of (take (length l.yielded) l.args)
