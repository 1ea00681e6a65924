use Rattle.std.proofs.Common.{◌≡◌, ◌∙◌, ◌+◌, ◌-◌, ◌<◌, ◌≤◌, length, arith, vec_len}
use Rattle.wl_host.proofs.Ledgers.{more_padded, put_after, put_value}
use Rattle.wl_host.proofs.server.seats.put_ledger.Goals as goal

pub loop-missing-preserved : goal.loop-missing-preserved
loop-missing-preserved c =
    let inv = c.loop-missing.invariant in
    let p = c.push_reserved.ensures in
    let from = c.loop-missing.auto._missing in
    let known : vec_len c.args.ledgers.now ≤ c.loop-missing._missing = omega (arith, from, c.len-missing.ensures) in record {
      items = p.items ∙ more_padded c.args.ledgers.now.items c.loop-missing.ledgers.items c.loop-missing._missing (vec_len c.args.ledgers.now) inv.items known;
      len = omega (arith, p.len, inv.len);
      few = omega (arith, c.loop-missing-test.true, c.slot-slot.ensures);
      capacity = p.capacity ∙ inv.capacity;
    }

pub returns-clause-value : goal.returns-clause-value
returns-clause-value c =
    let inv = c.loop-missing.invariant in
    let from = c.loop-missing.auto._missing in
    let ok = c.loop-missing.ledgers.ok in
    let within : c.slot-slot.result < length c.loop-missing.ledgers.items = omega (arith, inv.len, c.loop-missing-test.false, ok) in
    c.replace.ensures.value ∙ put_value c.args.ledgers.now.items c.loop-missing.ledgers.items _ c.args.ledger.id.slot c.slot-slot.result c.index_mut.result.now inv.items c.slot-slot.ensures within c.index_mut.ensures.value

pub returns-clause-after : goal.returns-clause-after
returns-clause-after c =
    let inv = c.loop-missing.invariant in
    let from = c.loop-missing.auto._missing in
    let ok = c.args.ledgers.now.ok in
    let many : c.loop-missing._missing - vec_len c.args.ledgers.now ≡ c.args.ledger.id.slot + 1 - length c.args.ledgers.now.items = omega (arith, from, inv.few, ok, c.len-missing.ensures, c.slot-slot.ensures, c.loop-missing-test.false) in
    put_after c.args.ledgers.now.items c.loop-missing.ledgers.items _ c.args.ledger.id.slot c.slot-slot.result c.replace.new.self c.args.ledger inv.items many c.slot-slot.ensures c.replace.ensures.after

pub returns-clause-len : goal.returns-clause-len
returns-clause-len c =
    let inv = c.loop-missing.invariant in
    let from = c.loop-missing.auto._missing in
    omega (arith, from, inv.few, inv.len, c.len-missing.ensures, c.slot-slot.ensures, c.loop-missing-test.false)
