use Rattle.wl_server_client.proofs.Readings.Texts.{free_both, free_decimal}
use Rattle.std.proofs.Common.{arith}
use Rattle.wl_server_client.proofs.posted_errors.new_id_text.Goals as goal
use Rattle.std.proofs.lemmas.Grind.{common_steps}

pub c_string-requires : goal.c_string-requires
c_string-requires c = grind (arith, common_steps, free_both, free_decimal)
