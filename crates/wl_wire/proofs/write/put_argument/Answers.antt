use Rattle.std.proofs.Common.{sym}
use Rattle.wl_wire.specs.Message.{piece}
use Rattle.wl_wire.proofs.Pieces.{overwritten-nil}
use Rattle.wl_wire.proofs.write.put_argument.Goals as goal

pub returns-in-Fd-clause-bytes : goal.returns-in-Fd-clause-bytes
unfolding piece
returns-in-Fd-clause-bytes g c = rw c.in-Fd.is (sym (overwritten-nil c.args.payload.now c.args.at))
