use Rattle.std.proofs.Common.{◌≡◌, ap}
use Rattle.wl_host.proofs.Handing.{bind_ends, ends_open}
use Rattle.wl_host.specs.Actions.{EndsBindOf}
use Rattle.wl_flat.specs.Flat.{client_of}
use Rattle.wl_host.specs.Seats.{ledger_of}
use Rattle.wl_host.specs.Server.{ServerState}
use Rattle.wl_host.proofs.server.Server.finish_bind.Goals as goal

pub returns-clause-call : goal.returns-clause-call
returns-clause-call c =
    let before = c.args.self.now in
    let id = c.id-id.result in
    let core = c.finish_bind_returning.new.self in
    let v : c.self.inside.core ≡ before.core = ap (λ (s : ServerState). s.core) c.self.view_is in
    bind_ends before _ id (client_of c.args.client.now) c.args.user_data c.is_kept.result c.id-id.ensures.id
    (ends_open before _ c.is_kept.result (EndsBindOf before id c.args.user_data) c.in_default.field-0 (ledger_of id before.seats.ledgers) c.in_default.ensures
    (λ l e. (c.finish_bind_returning.result, core, rw (← v) c.finish_bind_returning.ensures.call, rw (← v) c.finish_bind_returning.ensures.data, c.is_kept.ensures, ap (λ (s : ServerState). record s { core = core }) c.self.view_is)))
