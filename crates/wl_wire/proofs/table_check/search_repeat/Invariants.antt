use Rattle.std.proofs.Common.{◌≡◌, ℕ, ◌<◌, ◌≤◌, false}
use Rattle.wl_wire.specs.Inside.TableCheck.{is_repeated_behind}
use Rattle.wl_wire.proofs.table_check.search_repeat.Given as goal

abbrev pub invariant-loop-at : goal.invariant-loop-at
invariant-loop-at l = (k : ℕ) → l.fn.from ≤ k → k < l.at → is_repeated_behind l.kept l.interfaces k ≡ false
