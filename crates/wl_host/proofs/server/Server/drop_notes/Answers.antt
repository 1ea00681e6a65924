use Rattle.std.proofs.Common.{ap, subst}
use Rattle.wl_host.specs.Notes.{Fetches}
use Rattle.wl_host.specs.Server.{ServerState}
use Rattle.wl_host.proofs.Cleaning.{drops}
use Rattle.wl_host.proofs.server.Server.drop_notes.Goals as goal

pub returns : goal.returns
returns c =
    let fetches = subst (λ (s : ServerState). Fetches (record s { notes = c.new.result.items }) c.fetch_notes.result c.fetch_notes.new.self) c.self.view_is c.fetch_notes.ensures in
    drops c.args.self.now c.fetch_notes.new.self _ c.fetch_notes.result c.new.result.items c.new-2.result.items c.new.ensures.items fetches c.new-2.ensures.items
    (ap (λ (s : ServerState). let t : ServerState = record s { notes = c.new-2.result.items } in t) c.self-2.view_is)
