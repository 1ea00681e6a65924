use Rattle.std.proofs.Common.{◌∙◌, ◌<◌, Some, length, ap, sym, rules}
use Rattle.std.proofs.lemmas.Option.{slice_get-get_or}
use Rattle.wl_host.proofs.Ledgers.{passed_at}
use Rattle.wl_host.proofs.server.seats.next_passed_at.Goals as goal

pub returns-clause-passed : goal.returns-clause-passed
returns-clause-passed c =
    let known : c.args.slot < length c.args.ledgers.now.items = search rules in
    passed_at c.args.ledgers.now.items c.args.slot c.index_mut.result.now c.next_passed_of.new.seat c.next_passed_of.result
    (slice_get-get_or c.args.ledgers.now.items c.args.slot c.index_mut.result.now known ∙ ap Some (sym c.index_mut.ensures.value)) c.next_passed_of.ensures
