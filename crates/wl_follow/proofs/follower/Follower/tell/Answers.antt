use Rattle.wl_wire.specs.Message.{content}
use Rattle.wl_follow.proofs.Telling.{told_at_once}
use Rattle.wl_follow.proofs.follower.Follower.tell.Goals as goal

pub returns-in-Some-clause-told : goal.returns-in-Some-clause-told
returns-in-Some-clause-told c =
    let told = rw c.in-Some.is at c.in_ok-what.ensures.told in
    rw (← c.self.view_is) (told_at_once c.args.table.now _ c.tell_of.new.self c.in-Some.what (content c.tell_of.new.message) (rw (← c.self.view_is) at told))
