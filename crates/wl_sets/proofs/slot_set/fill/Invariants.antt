use Rattle.std.proofs.Common.{◌≡◌, ℕ, ◌<◌, length, Some, slice_get}
use Rattle.wl_sets.proofs.slot_set.fill.Given as goal

abbrev pub invariant-loop-row : goal.invariant-loop-row
invariant-loop-row l = record {
  set : (r : ℕ) → r < l.row → slice_get l.words r ≡ Some 0xFFFFFFFFFFFFFFFF;
  ends : l.row-end ≡ length l.words;
}
