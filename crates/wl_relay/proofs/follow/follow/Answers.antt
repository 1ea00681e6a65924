-- That a fault adds its line behind those of the messages before it, and that a side that is not read adds none.
use Rattle.std.proofs.Common.{◌≡◌, Option, subst, false, true}
use Rattle.std.proofs.lemmas.Result.{on_ok_weaker}
use Rattle.wl_follow.specs.declared.side.Fault.{Fault}
use Rattle.wl_relay.specs.Inside.Passing.{ReadsUpTo}
use Rattle.wl_relay.specs.Log.{follows, known}
use Rattle.wl_relay.proofs.Lines.{awaiting_grows, fault_grows, on_ok_both, unread_grows}
use Rattle.wl_relay.proofs.follow.follow.Goals as goal

pub returns-then-not-follows-clause-logged : goal.returns-then-not-follows-clause-logged
returns-then-not-follows-clause-logged c =
    let k = known c.args.notes.now in
    let unread_is : follows c.args.side k ≡ false = cc in
    on_ok_weaker c.hand_on_rest.result
    (λ handed. unread_grows c.args.table.now c.args.side k c.args.from.now c.hand_on_rest.new.from c.args.to.now c.hand_on_rest.new.to unread_is handed)
    c.hand_on_rest.ensures.handed

pub returns-in-Some-clause-logged : goal.returns-in-Some-clause-logged
returns-in-Some-clause-logged c =
    let k = known c.args.notes.now in
    let k1 = known c.pass.new.notes in
    let upto = subst (λ (o : Option Fault). ReadsUpTo c.args.table.now c.args.side k c.args.from.now c.args.to.now o k1 c.pass.new.from c.pass.new.to)
    c.in-Some.is c.in_ok-fault.ensures.reads in
    let read_is : follows c.args.side k ≡ true = cc in
    on_ok_both c.give_up.result _ _ _
    (λ told handed. fault_grows c.args.table.now c.args.side c.in-Some.fault k k1 (known c.give_up.new.notes)
    c.args.from.now c.pass.new.from c.give_up.new.from c.args.to.now c.pass.new.to c.give_up.new.to read_is upto c.in_ok-fault.ensures.way_back.0 told handed)
    c.give_up.ensures.told c.give_up.ensures.handed

pub returns-in-None-clause-logged : goal.returns-in-None-clause-logged
returns-in-None-clause-logged c =
    let k = known c.args.notes.now in
    let k1 = known c.pass.new.notes in
    let upto = subst (λ (o : Option Fault). ReadsUpTo c.args.table.now c.args.side k c.args.from.now c.args.to.now o k1 c.pass.new.from c.pass.new.to)
    c.in-None.is c.in_ok-fault.ensures.reads in
    let read_is : follows c.args.side k ≡ true = cc in
    awaiting_grows c.args.table.now c.args.side k k1 c.args.from.now c.pass.new.from c.args.to.now c.pass.new.to read_is upto c.in_ok-fault.ensures.way_back.0
