-- It was the turn of some stretches, and nothing could be told.
use Rattle.std.proofs.Common.{◌≤◌, List, length}
use Rattle.wl_wire.specs.declared.message.TheConstants.{INLINE_ARGS}
use Rattle.wl_follow.specs.Following.{Turns}
use Rattle.wl_follow.specs.declared.follower.Stretch.{Stretch}
use Rattle.wl_follow.proofs.follower.Follower.next.Given as goal

abbrev pub invariant-loop-told : goal.invariant-loop-told
invariant-loop-told l = record {
  turns : (stretches : List Stretch) × Turns l.table l.fn.self stretches l.self;
  capacity : INLINE_ARGS ≤ l.message.args.capacity;
}

abbrev pub decreases-loop-told : goal.decreases-loop-told
decreases-loop-told l = length l.self.order
