use Rattle.std.proofs.Common.{◌∙◌, ◌<◌, ◌^◌, ap, arith, refl, rules, sym}
use Rattle.std.proofs.lemmas.Grind.{common_steps}
use Rattle.wl_server_client.specs.Ids.{ClientParts}
use Rattle.wl_host.proofs.Inserting.{as_told, none_passed, seats_put}
use Rattle.wl_host.specs.declared.server.ledger.Ledger.{Ledger}
use Rattle.wl_host.proofs.server.seats.Seats.insert.Goals as goal

pub invariant_of-self-in-Some-put_ledger : goal.invariant_of-self-in-Some-put_ledger
invariant_of-self-in-Some-put_ledger c =
    let told = as_told _ _ _ _ c.in_ok-id.id c.in-Some.next c.in_ok-id.ensures.call c.in-Some.ensures.given in
    let at = ap (λ (l : Ledger). l.id.slot) c.new-ledger.ensures ∙ (ap (λ (i : ClientParts). i.slot) told ∙ sym c.slot-slot.ensures) in
    let below : c.slot-slot.result < 2 ^ 32 = search rules in
    let m = c.make_all_room.ensures in
    let p = c.put_ledger.ensures in
    let g = c.let_go.ensures.gone in
    let l = c.let_go.ensures.left in
    let w = c.make_all_room.ensures.writable in
    let k = c.make_all_room.ensures.marked in
    let r = c.in_ok-make_all_room.ensures.listed in
    seats_put c.self.inside _ c.slot-slot.result _ c.new-ledger.result c.make_all_room.new.ledgers c.make_all_room.new.gone c.make_all_room.new.left c.self.invariant
    (none_passed _ _ _ _ c.new-ledger.ensures) below at m.ledgers c.in_ok-make_all_room.ensures.room m.gone m.left p.after p.len
    (omega (arith, g.1.0)) g.1.1 (omega (arith, l.1.0)) l.1.1 w.1 r.0 k.1 r.1 k.0

pub invariant_of-self-in_default-put_ledger : goal.invariant_of-self-in_default-put_ledger
invariant_of-self-in_default-put_ledger c =
    let told = as_told _ _ _ _ c.in_ok-id.id c.in-Some.next c.in_ok-id.ensures.call c.in-Some.ensures.given in
    let at = ap (λ (l : Ledger). l.id.slot) c.new-ledger.ensures ∙ (ap (λ (i : ClientParts). i.slot) told ∙ sym c.slot-slot.ensures) in
    let below : c.slot-slot.result < 2 ^ 32 = search rules in
    let m = c.make_all_room.ensures in
    let p = c.put_ledger.ensures in
    let w = c.make_all_room.ensures.writable in
    let k = c.make_all_room.ensures.marked in
    let r = c.in_ok-make_all_room.ensures.listed in
    seats_put c.self.inside _ c.slot-slot.result _ c.new-ledger.result c.make_all_room.new.ledgers c.make_all_room.new.gone c.make_all_room.new.left c.self.invariant
    (none_passed _ _ _ _ c.new-ledger.ensures) below at m.ledgers c.in_ok-make_all_room.ensures.room m.gone m.left p.after p.len
    (omega arith) refl (omega arith) refl w.1 r.0 k.1 r.1 k.0

pub invariant_of-self : goal.invariant_of-self
invariant_of-self c = grind (arith, common_steps)

pub invariant_of-self-in_err-id : goal.invariant_of-self-in_err-id
invariant_of-self-in_err-id c = grind (arith, common_steps)

pub returns-in_err-id-clause-ok : goal.returns-in_err-id-clause-ok
returns-in_err-id-clause-ok c = grind (arith, common_steps)

pub returns-in_err-id-clause-err : goal.returns-in_err-id-clause-err
returns-in_err-id-clause-err c = grind (arith, common_steps)

pub let_go-requires-clause-gone : goal.let_go-requires-clause-gone
let_go-requires-clause-gone c = grind (arith, common_steps)
