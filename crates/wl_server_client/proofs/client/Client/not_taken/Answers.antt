use Rattle.std.proofs.Common.{arith, option_map}
use Rattle.std.proofs.lemmas.Grind.{common_steps}
use Rattle.wl_server_client.proofs.Readings.OneMessage.{message_unread, halts_so}
use Rattle.wl_server_client.proofs.client.Client.not_taken.Goals as goal
use Rattle.wl_server_client.specs.Reading.{row_asks}
use mathlib.Core.Logic.{inl, inr}

pub returns-in-Malformed-clause-handles : goal.returns-in-Malformed-clause-handles
returns-in-Malformed-clause-handles g c r h within = grind (arith, common_steps, message_unread)

pub returns-in-OutOfMemory-clause-handles : goal.returns-in-OutOfMemory-clause-handles
returns-in-OutOfMemory-clause-handles g c r h within = grind (arith, common_steps, halts_so, inr, inl, row_asks, option_map)
