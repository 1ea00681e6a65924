use Rattle.std.proofs.Common.{◌∙◌, refl, sym, arith}
use Rattle.std.proofs.lemmas.Grind.{common_steps}
use Rattle.std.proofs.lemmas.Str.{utf8_lossy_empty}
use Rattle.wl_server_client.proofs.Readings.Texts.{free_lossy, free_string}
use Rattle.wl_server_client.proofs.posted_errors.given_name.Goals as goal

pub returns-in_default-clause-text : goal.returns-in_default-clause-text
returns-in_default-clause-text c = rw c.in_default.is (c.new.ensures.bytes ∙ sym (utf8_lossy_empty _ refl))

pub returns-clause-no_zero : goal.returns-clause-no_zero
returns-clause-no_zero c = grind (arith, common_steps, free_lossy, free_string)
