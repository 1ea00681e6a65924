-- That none of the announcements so far is of the number.
use Rattle.std.proofs.Common.{◌≡◌, ◌++◌, drop, take}
use Rattle.wl_guard.specs.Known.{with_told}
use Rattle.wl_guard.proofs.session.remember.Given as goal

abbrev pub invariant-loop-place : goal.invariant-loop-place
invariant-loop-place l = record {
  same : l.told.items ≡ l.fn.told.items;
  front : with_told l.fn.told.items l.announced ≡ take l.place l.fn.told.items ++ with_told (drop l.place l.fn.told.items) l.announced;
}
