use Rattle.std.proofs.Common.{◌∙◌, arith}
use Rattle.wl_server_client.proofs.Readings.Texts.{one_name, free_name, free_both, free_decimal}
use Rattle.wl_server_client.proofs.posted_errors.wrong_interface_text.Goals as goal
use Rattle.std.proofs.lemmas.Grind.{common_steps}

pub c_string-requires : goal.c_string-requires
c_string-requires c = grind (arith, common_steps, free_both, free_decimal, free_name)

pub returns : goal.returns
returns c = rw (← c.name-interface.ensures.name, ← c.as_str-request.ensures.value, ← c.name-asked.ensures.name, ← c.name-got.ensures.name, ← one_name)
    (c.c_string.ensures ∙ c.in_ok-text.ensures.ok)
