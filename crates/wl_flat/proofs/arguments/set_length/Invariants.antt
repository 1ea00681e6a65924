use Rattle.std.proofs.Common.{◌≡◌, ◌+◌, ◌-◌, length}
use Rattle.smallvec.specs.SmallVec.{HasRoomFor}
use Rattle.wl_flat.proofs.arguments.set_length.Given as goal

abbrev pub invariant-loop-place : goal.invariant-loop-place
invariant-loop-place g l = record {
  appended : length l.args.items + l.missing ≡ l.count + l._place;
  room : HasRoomFor l.args (l.missing - l._place);
}
