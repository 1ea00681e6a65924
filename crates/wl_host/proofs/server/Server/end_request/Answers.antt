use Rattle.std.proofs.Common.{◌≡◌, ◌∙◌, ap, rules}
use Rattle.wl_host.proofs.Handing.{ends_open}
use Rattle.wl_host.specs.Actions.{EndsRequestOf, ended}
use Rattle.wl_host.specs.Seats.{ledger_of}
use Rattle.wl_host.specs.Server.{ServerState}
use Rattle.wl_host.proofs.server.Server.end_request.Goals as goal

pub returns-clause-call : goal.returns-clause-call
returns-clause-call c =
    let before = c.args.self.now in
    let id = c.args.id.now in
    let core = c.finish_request_returning-answer.new.self in
    let v : c.self.inside.core ≡ before.core = ap (λ (s : ServerState). s.core) c.self.view_is in
    let k : c.tell_end.new.self ≡ ended c.in-Ok.ends_sender id (record before { core = core }) = search rules in
    ends_open before c.tell_end.new.self c.is_kept.result (EndsRequestOf before id c.args.user_data) c.in-Ok.ends_sender (ledger_of id before.seats.ledgers) c.in-Ok.ensures
    (λ l e. (c.finish_request_returning-answer.result, core, rw (← v) c.finish_request_returning-answer.ensures.call, rw (← v) c.finish_request_returning-answer.ensures.data, c.is_kept.ensures, k ∙ ap (λ b. ended b id (record before { core = core })) e))
