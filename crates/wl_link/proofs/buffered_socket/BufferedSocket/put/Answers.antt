use Rattle.std.proofs.Common.{arith}
use Rattle.std.proofs.lemmas.Grind.{common_steps}
use Rattle.wl_link.proofs.buffered_socket.BufferedSocket.put.Goals as goal

pub put-written-requires : goal.put-written-requires
put-written-requires g c = grind (arith, common_steps)
