use Rattle.std.proofs.Common.{◌≡◌, ◌+◌, ◌∷◌, ◌∙◌, true, false, drop, sym, add-one, drop-cons}
use Rattle.wl_host.specs.Registries.{is_of}
use Rattle.wl_host.proofs.Withdrawing.{first_passed, first_told}
use Rattle.wl_host.proofs.server.registries.tell_removals.Goals.{then-eq, else-eq}
use Rattle.wl_host.proofs.server.registries.tell_removals.Goals as goal

pub loop-one-preserved : goal.loop-one-preserved
loop-one-preserved c =
    let l = c.loop-one in
    let told = c.args.told.now in
    let global = c.args.global.now in
    let t = c.one-item.result in
    let rest = drop (l.one-index + 1) told in
    let d : drop l.one-index told ≡ t ∷ rest = let k = drop-cons told l.one-index t c.loop-one-test.true in let i = c.one-item.is in let o = add-one l.one-index in cc in
    elim c.if-eq.branch [
      | then-eq w ↦
          let answer = w.tell_removal-answer in
          let is : is_of global t ≡ true = sym w.if-eq.ensures in
          rw (w.core-is, w.event-is, w.status-is) (record {
            opcode = answer.ensures.opcode ∙ l.invariant.opcode;
            args = rw answer.ensures.args l.invariant.args;
            told = λ s after more. l.invariant.told s after (rw d (first_told global.name global l.core after t rest l.status s answer.result answer.new.core is
                (answer.ensures.told global.name l.invariant.args) (rw w.said_with-status.ensures at more)));
          })
      | else-eq w ↦
          let is : is_of global t ≡ false = sym w.if-eq.ensures in
          rw (w.core-is, w.event-is, w.status-is) (record {
            opcode = l.invariant.opcode;
            args = l.invariant.args;
            told = λ s after more. l.invariant.told s after (rw d (first_passed global.name global l.core after t rest l.status s is more));
          })
    ]
