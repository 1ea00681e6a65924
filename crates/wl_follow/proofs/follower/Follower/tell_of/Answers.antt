-- That what was told is of the side.
use Rattle.std.proofs.Common.{refl}
use Rattle.wl_wire.specs.Message.{content}
use Rattle.wl_follow.specs.declared.side.Side.TheVariants.{Client, Server}
use Rattle.wl_follow.proofs.Telling.{side_told}
use Rattle.wl_follow.proofs.follower.Follower.tell_of.Goals as goal

pub returns-in-Client-clause-told : goal.returns-in-Client-clause-told
returns-in-Client-clause-told c =
    rw (← c.self.view_is)
    (side_told c.args.table.now c.args.side Client _ _ c.tell_front.new.sent c.tell_front.new.objects.store c.tell_front.result (content c.tell_front.new.message)
    c.in-Client.is refl c.tell_front.ensures.told)

pub returns-in-Server-clause-told : goal.returns-in-Server-clause-told
returns-in-Server-clause-told c =
    rw (← c.self.view_is)
    (side_told c.args.table.now c.args.side Server _ _ c.tell_front-in-Server.new.sent c.tell_front-in-Server.new.objects.store c.tell_front-in-Server.result
    (content c.tell_front-in-Server.new.message) c.in-Server.is refl c.tell_front-in-Server.ensures.told)
