use Rattle.std.proofs.Common.{arith}
use Rattle.std.proofs.lemmas.Grind.{common_steps}
use Rattle.wl_server_client.proofs.Readings.Texts.{free_name, free_both, free_decimal, one_name}
use Rattle.wl_server_client.proofs.posted_errors.fault_text.Goals as goal

pub c_string-requires : goal.c_string-requires
c_string-requires c = grind (arith, common_steps, free_both, free_decimal)

pub c_string-requires-in-NullObject : goal.c_string-requires-in-NullObject
c_string-requires-in-NullObject c = grind (arith, common_steps, free_both, free_name)

pub returns-in_ok-text-in-NullObject : goal.returns-in_ok-text-in-NullObject
returns-in_ok-text-in-NullObject c = grind (arith, common_steps, one_name)
