use Rattle.std.proofs.Common.{arith}
use Rattle.std.proofs.lemmas.Grind.{common_steps}
use Rattle.wl_link.proofs.memory.MemoryTransport.rcv_msg.Goals as goal

pub returns-then-is_empty-3-clause-received : goal.returns-then-is_empty-3-clause-received
returns-then-is_empty-3-clause-received c = grind (arith, common_steps)

pub returns-then-is_empty-3-clause-lands : goal.returns-then-is_empty-3-clause-lands
returns-then-is_empty-3-clause-lands c = grind (arith, common_steps)

pub returns-then-is_empty-3-clause-room : goal.returns-then-is_empty-3-clause-room
returns-then-is_empty-3-clause-room c = grind (arith, common_steps)

pub returns-else-is_empty-3-clause-lands : goal.returns-else-is_empty-3-clause-lands
returns-else-is_empty-3-clause-lands c = grind (arith, common_steps)
