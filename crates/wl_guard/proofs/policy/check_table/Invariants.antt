-- That no interface so far lets the client choose.
use Rattle.std.proofs.Common.{◌≡◌, ℕ, ◌<◌, false}
use Rattle.wl_guard.specs.Policy.{lets_choose_at}
use Rattle.wl_guard.proofs.policy.check_table.Given as goal

abbrev pub invariant-loop-place : goal.invariant-loop-place
invariant-loop-place l = (n : ℕ) → n < l.place → lets_choose_at l.table n ≡ false
