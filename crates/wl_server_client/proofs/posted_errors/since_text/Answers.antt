use Rattle.std.proofs.Common.{arith}
use Rattle.std.proofs.lemmas.Grind.{common_steps}
use Rattle.wl_server_client.proofs.Readings.Texts.{free_name, free_both, free_decimal}
use Rattle.wl_server_client.proofs.posted_errors.since_text.Goals as goal

pub c_string-requires : goal.c_string-requires
c_string-requires c = grind (arith, common_steps, free_both, free_decimal, free_name)
