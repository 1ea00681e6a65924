use Rattle.std.proofs.Common.{◌≡◌, ◌<◌, ◌-◌, suc, length, arith, rules, vec_len}
use Rattle.wl_wire.specs.Table.{message_row}
use Rattle.wl_relay.specs.Rows.{with_event}
use Rattle.wl_relay.proofs.LastRow.{last_changed, event_added}
use Rattle.wl_relay.proofs.rows.add_event.Goals as goal

pub returns-clause-added : goal.returns-clause-added
returns-clause-added c = λ _.
    let interfaces = c.args.interfaces.now in
    let last = c.in-Some.last.now in
    let some : 0 < vec_len interfaces = search rules in
    let size : suc (vec_len interfaces - 1) ≡ length interfaces.items = omega arith in
    last_changed (λ row. with_event row (message_row c.args.message)) interfaces.items (vec_len interfaces - 1) last _ size c.in-Some.ensures.value
    (event_added last c.push.new.self c.args.message c.in_ok-push.ensures.items)
