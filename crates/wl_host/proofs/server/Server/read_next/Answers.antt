use Rattle.std.proofs.Common.{◌≡◌, Some, rules}
use Rattle.wl_host.proofs.Handing.{next_handed}
use Rattle.wl_host.specs.Actions.{marked_if}
use Rattle.wl_flat.specs.Flat.{client_of}
use Rattle.wl_host.specs.Inside.Actions.{is_killed_in}
use Rattle.wl_host.specs.Seats.{ledger_of, listed, with_ledger}
use Rattle.wl_host.proofs.server.Server.read_next.Goals as goal

pub returns : goal.returns
returns c =
    let before = c.args.self.now in
    let id = client_of c.args.client.now in
    let n = c.next_of-answer in
    let l = c.in-Some.ledger.now in
    let s : ledger_of id before.seats.ledgers ≡ Some l = search rules in
    let k : c.tell_next.new.self ≡ marked_if (is_killed_in n.result) (record before { core = n.new.core; seats = listed (with_ledger before.seats id n.new.ledger) id.slot }) = search rules in
    next_handed before c.tell_next.new.self id c.id-id.result c.self.inside.refuses_nulls c.self.inside.core c.none.result c.args.arguments.now c.args.bytes.now n.result c.tell_next.result
    (record { out = n.new.out; arguments = n.new.arguments; bytes = n.new.bytes }) n.new.core l n.new.ledger
    c.id-id.ensures.id (search rules) (search rules) c.none.ensures s n.ensures c.tell_next.ensures.status k
