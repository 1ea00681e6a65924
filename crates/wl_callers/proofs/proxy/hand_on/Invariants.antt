use Rattle.wl_callers.proofs.Handing.{SoFar}
use Rattle.wl_callers.proofs.proxy.hand_on.Given as goal

abbrev pub invariant-loop-count : goal.invariant-loop-count
invariant-loop-count g l = SoFar g.T.Transport.sends g.T.Transport.receives l.fn.client.session l.fn.out.items l.out.items l._count l.client.session
