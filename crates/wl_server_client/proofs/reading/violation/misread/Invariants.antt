use Rattle.std.proofs.Common.{◌≡◌, ◌+◌, length}
use Rattle.wl_server_client.specs.Violations.{misread}
use Rattle.wl_server_client.proofs.reading.violation.misread.Given as goal

-- what is wrong with the arguments that are left is what is wrong with all
abbrev pub invariant-loop-kind : goal.invariant-loop-kind
invariant-loop-kind l = record {
  left : misread l.place l.kinds l.bytes ≡ misread 0 l.fn.signature l.fn.payload;
  places : l.place + length l.kinds ≡ length l.fn.signature;
}

abbrev pub decreases-loop-kind : goal.decreases-loop-kind
decreases-loop-kind l = length l.kinds
