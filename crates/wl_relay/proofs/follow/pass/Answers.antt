-- That each message that is passed has its line behind those of the messages before it.
use Rattle.std.proofs.Common.{refl, rules, subst, ◌∙◌}
use Rattle.wl_link.specs.MailboxLink.{still_to_read, still_to_send}
use Rattle.wl_relay.specs.Inside.Passing.{PassesAs}
use Rattle.wl_relay.specs.Log.{known}
use Rattle.wl_relay.specs.declared.follow.Passed.{Passed}
use Rattle.wl_relay.specs.declared.follow.Passed.TheVariants as passed
use Rattle.wl_relay.proofs.Lines.{reads_after, reads_nothing, then_awaits, then_stops}
use Rattle.wl_relay.proofs.Settings.{keep_after}
use Rattle.wl_relay.proofs.follow.pass.Goals as goal

pub loop-fault-init : goal.loop-fault-init
loop-fault-init c = record {
  kept = search rules;
  reads = reads_nothing c.args.table.now c.args.side (known c.args.notes.now) (still_to_read c.args.from.now) (still_to_send c.args.to.now);
  way_back = (refl, refl, refl);
  settings = ((refl, refl), (refl, refl));
}

pub loop-fault-preserved : goal.loop-fault-preserved
loop-fault-preserved c =
    let read : PassesAs c.args.table.now c.args.side (known c.loop-fault.notes) c.loop-fault.from c.loop-fault.to passed.One (known c.pass_one.new.notes) c.pass_one.new.from c.pass_one.new.to
    = subst (λ (p : Passed). PassesAs c.args.table.now c.args.side (known c.loop-fault.notes) c.loop-fault.from c.loop-fault.to p (known c.pass_one.new.notes) c.pass_one.new.from c.pass_one.new.to)
    c.in-One.is c.in_ok-pass_one.ensures.reads in
    let back = c.in_ok-pass_one.ensures.way_back in
    let before = c.loop-fault.invariant.way_back in record {
      kept = search rules;
      reads = reads_after c.args.table.now c.args.side (known c.args.notes.now) (known c.loop-fault.notes) (known c.pass_one.new.notes)
          (still_to_read c.args.from.now) (still_to_read c.loop-fault.from) (still_to_read c.pass_one.new.from)
          (still_to_send c.args.to.now) (still_to_send c.loop-fault.to) (still_to_send c.pass_one.new.to) c.loop-fault.invariant.reads read.0;
      way_back = (back.0 ∙ before.0, back.1 ∙ before.1, back.2 ∙ before.2);
      settings = keep_after c.args.from.now c.loop-fault.from c.pass_one.new.from c.args.to.now c.loop-fault.to c.pass_one.new.to
          c.loop-fault.invariant.settings c.pass_one.ensures.settings;
    }

pub returns-in-Nothing-clause-reads : goal.returns-in-Nothing-clause-reads
returns-in-Nothing-clause-reads c =
    then_awaits c.args.table.now c.args.side (known c.args.notes.now) (known c.loop-fault.notes) (known c.pass_one.new.notes)
    c.args.from.now c.loop-fault.from c.pass_one.new.from c.args.to.now c.loop-fault.to c.pass_one.new.to c.loop-fault.invariant.reads
    (subst (λ (p : Passed). PassesAs c.args.table.now c.args.side (known c.loop-fault.notes) c.loop-fault.from c.loop-fault.to p (known c.pass_one.new.notes) c.pass_one.new.from c.pass_one.new.to)
    c.in-Nothing.is c.in_ok-pass_one.ensures.reads)

pub returns-in-Fault-clause-reads : goal.returns-in-Fault-clause-reads
returns-in-Fault-clause-reads c =
    then_stops c.args.table.now c.args.side (known c.args.notes.now) (known c.loop-fault.notes) (known c.pass_one.new.notes)
    c.args.from.now c.loop-fault.from c.pass_one.new.from c.args.to.now c.loop-fault.to c.pass_one.new.to c.loop-fault.invariant.reads c.in-Fault.fault
    (subst (λ (p : Passed). PassesAs c.args.table.now c.args.side (known c.loop-fault.notes) c.loop-fault.from c.loop-fault.to p (known c.pass_one.new.notes) c.pass_one.new.from c.pass_one.new.to)
    c.in-Fault.is c.in_ok-pass_one.ensures.reads)
