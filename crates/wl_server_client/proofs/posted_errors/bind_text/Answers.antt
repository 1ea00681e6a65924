use Rattle.std.proofs.Common.{arith, subst, sym}
use Rattle.std.specs.String.{string_bytes}
use Rattle.wl_server_client.proofs.Readings.Texts.{IsFree, free_both, free_decimal}
use Rattle.wl_server_client.proofs.posted_errors.bind_text.Goals as goal

pub c_string-requires : goal.c_string-requires
c_string-requires c = subst IsFree (sym c.in_ok-text.ensures.ok)
    (grind (arith, free_both, free_decimal, string_bytes c.in_ok-interface.interface, c.in_ok-interface.ensures.no_zero))
