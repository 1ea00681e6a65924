-- That what is told is the first that can be told, in the order of the turns.
use Rattle.std.proofs.Common.{refl, rules}
use Rattle.wl_wire.specs.Message.{content}
use Rattle.wl_follow.proofs.Turns.{told_after, turn_after}
use Rattle.wl_follow.proofs.follower.Follower.next.Goals as goal

pub returns-in-Some-clause-told : goal.returns-in-Some-clause-told
returns-in-Some-clause-told c =
    told_after c.args.table.now c.args.self.now c.loop-told.self c.tell.new.self c.in-Some.told (content c.tell.new.message) c.loop-told.invariant.turns
    (rw c.in-Some.is at c.in_ok-told.ensures.told)

pub loop-told-preserved : goal.loop-told-preserved
loop-told-preserved c = record {
  turns = turn_after c.args.table.now c.args.self.now c.loop-told.self c.tell.new.self c.turn.new.self c.loop-told.invariant.turns
      (rw c.in_default.is at c.in_ok-told.ensures.told)
      (c.if-not-turn.ensures.turned refl);
  capacity = c.tell.ensures.capacity;
}
