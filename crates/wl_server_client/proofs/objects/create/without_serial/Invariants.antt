use Rattle.std.proofs.Common.{◌≡◌, ◌≤◌, ◌<◌, ◌+◌, ℕ, is_some, true}
use Rattle.wl_link.specs.Store.{held}
use Rattle.wl_server_client.proofs.objects.create.without_serial.Given as goal

abbrev pub invariant-loop-place : goal.invariant-loop-place
invariant-loop-place g l = (k : ℕ) → 0xFF000000 ≤ k → k < 0xFF000000 + l.place → is_some (held l.objects.store k) ≡ true
