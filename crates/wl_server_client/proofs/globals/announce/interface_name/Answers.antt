use Rattle.std.proofs.Common.{arith}
use Rattle.std.proofs.lemmas.Grind.{common_steps}
use Rattle.wl_server_client.proofs.Readings.Texts.{free_name}
use Rattle.wl_server_client.proofs.globals.announce.interface_name.Goals as goal

pub string_of_bytes-requires : goal.string_of_bytes-requires
string_of_bytes-requires c = grind (arith, common_steps, free_name)
