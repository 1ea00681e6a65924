use Rattle.std.proofs.Common.{arith}
use Rattle.wl_link.proofs.Limits.{rounded_is_limit}
use Rattle.wl_link.proofs.limit.rounded_up.Goals as goal

pub returns : goal.returns
returns c =
    rounded_is_limit c.args.asked c.max.result c.next_power_of_two.result (omega arith) c.max.ensures
    (c.next_power_of_two.ensures.power, c.next_power_of_two.ensures.lower_bound, c.next_power_of_two.ensures.upper_bound)
