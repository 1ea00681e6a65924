use Rattle.std.proofs.Common.{rules, ◌≡◌, Some, inr}
use Rattle.wl_server_model.specs.Lookups.{global_info_by}
use Rattle.wl_flat.specs.Flat.{global_of}
use Rattle.wl_host.proofs.server.Server.announce_global.Goals as goal

pub returns-clause-call : goal.returns-clause-call
returns-clause-call c =
    let there : global_info_by c.self.inside.core.server (global_of c.args.global.now) ≡ Some c.in-Ok.info = search rules in
    rw (← c.self.view_is, there) (
      c.make_room.new.told.items,
      c.make_room.ensures.kept,
      inr (c.write_global.new.event, c.send_event_lent-answer.result, search rules, search rules, search rules, search rules),
    )
