use Rattle.std.proofs.Common.{arith}
use Rattle.wl_link.proofs.Calls.Growth.{doubled_again}
use Rattle.wl_link.proofs.limit.grown_size.Goals as goal

pub doublings-preserved : goal.doublings-preserved
doublings-preserved c = (
  doubled_again c.args.limit c.args.needed c.args.size c.doublings.grown c.in_ok-grown.grown c.doublings.invariant.0 (c.wants_more.ensures.0 c.doublings-test.true) c.in_ok-grown.ensures.1,
  omega (arith, c.in_ok-grown.ensures.1),
)
