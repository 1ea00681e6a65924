use Rattle.std.proofs.Common.{◌≡◌, drop}
use Rattle.wl_flat.specs.Sending.{all_taken_out}
use Rattle.wl_flat.proofs.outgoing.take_all_out.Given as goal

abbrev pub invariant-loop-token : goal.invariant-loop-token
invariant-loop-token l = all_taken_out l.queue (drop l.token-index l.tokens) ≡ all_taken_out l.fn.queue l.tokens
