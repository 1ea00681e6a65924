use Rattle.std.proofs.Common.{arith}
use Rattle.std.proofs.lemmas.Grind.{common_steps}
use Rattle.std.proofs.lemmas.Option.{slice_get_read, slice_get_past}
use Rattle.std.proofs.lemmas.Bool.{eq-eqb, ne_eqb}
use Rattle.wl_server.proofs.backend.Backend.client.Goals as goal
use Rattle.std.specs.Option.{option_map_or}
use Rattle.std.specs.Prelude.{slice_get}
use Rattle.wl_server_model.specs.Server.{if_serial}

pub returns-in_err-get : goal.returns-in_err-get
returns-in_err-get g c = grind (arith, common_steps, if_serial, option_map_or, slice_get, slice_get_past)

pub returns-in_err-client : goal.returns-in_err-client
returns-in_err-client g c = grind (arith, common_steps, if_serial, option_map_or, slice_get, slice_get_read)

pub returns-then-client-serial : goal.returns-then-client-serial
returns-then-client-serial g c = grind (arith, common_steps, if_serial, option_map_or, slice_get, slice_get_read, eq-eqb)

pub returns-else-client-serial : goal.returns-else-client-serial
returns-else-client-serial g c = grind (arith, if_serial, option_map_or, slice_get, slice_get_read, ne_eqb)
