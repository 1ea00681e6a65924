-- That the message that was read is passed as it was judged, or breaks the rule.
use Rattle.std.proofs.Common.{refl}
use Rattle.wl_wire.specs.Message.{content}
use Rattle.wl_wire.specs.Table.{message_row}
use Rattle.wl_follow.specs.Objects.{object_of}
use Rattle.wl_guard.proofs.Passing.{found_passed, is_there_under, judged_broken, noted_broken}
use Rattle.wl_guard.proofs.session.pass_found.Goals as goal

pub returns-in-Err-clause-steps : goal.returns-in-Err-clause-steps
returns-in-Err-clause-steps c =
    let found = c.args.found in (
      (refl, refl, refl),
      refl,
      judged_broken c.args.policy.now found.side (record { objects = c.args.objects.now.store; told = c.args.told.now.items; ended = c.args.ended.now.items }) c.args.from.now (object_of found.interface found.version) (message_row found.desc.now) (content c.args.message.now)
          c.in-Err.rule c.judge.new.told.items c.as_slice.result.now c.first_length-len.result c.in_ok-fate.field-0 c.requires.reads c.as_slice.ensures.value (c.first_length-len.ensures c.requires.reads.1.whole.header) c.in-Err.is c.in_ok-fate.ensures,
    )

pub returns-in-Some-clause-steps : goal.returns-in-Some-clause-steps
returns-in-Some-clause-steps c =
    let found = c.args.found in (
      (refl, refl, refl),
      rw c.in-Some.is at c.in_ok-noted.ensures.refused,
      noted_broken c.args.policy.now found.side (record { objects = c.args.objects.now.store; told = c.args.told.now.items; ended = c.args.ended.now.items }) c.args.from.now (object_of found.interface found.version) (message_row found.desc.now) (content c.args.message.now)
          c.rule_of.result c.judge.new.told.items c.as_slice.result.now c.first_length-len.result c.in_ok-fate.field-0 c.in-Ok.fate c.in_ok-noted.noted c.in-Some.fault c.note_under.new.objects.store
          c.requires.reads c.as_slice.ensures.value (c.first_length-len.ensures c.requires.reads.1.whole.header) c.in-Ok.is c.in_ok-fate.ensures c.in-Some.is (rw c.table.ensures at c.in_ok-noted.ensures.noted) c.rule_of.ensures,
    )

pub carry-requires-clause-there : goal.carry-requires-clause-there
carry-requires-clause-there c =
    let found = c.args.found in
    is_there_under c.args.from.now (message_row found.desc.now).signature c.as_slice-signature.result.now (content c.args.message.now) c.as_slice-signature.ensures.value c.requires.reads.1

pub returns-clause-steps : goal.returns-clause-steps
returns-clause-steps c =
    let found = c.args.found in
    found_passed c.args.policy.now found.side (record { objects = c.args.objects.now.store; told = c.args.told.now.items; ended = c.args.ended.now.items }) c.note_under.new.objects.store c.judge.new.told.items c.note_ended.new.ended.items c.args.from.now c.carry.new.from c.args.to.now c.carry.new.to
    c.args.released.now.items c.carry.new.released.items (object_of found.interface found.version) (message_row found.desc.now) (content c.args.message.now)
    c.in-Ok.fate c.as_slice-signature.result.now c.as_slice.result.now c.first_length-len.result c.in_ok-fate.field-0 c.in_ok-noted.noted c.requires.reads c.as_slice.ensures.value (c.first_length-len.ensures c.requires.reads.1.whole.header) c.in-Ok.is c.in_ok-fate.ensures
    c.in_default.is (rw c.table.ensures at c.in_ok-noted.ensures.noted) c.in_ok-note_ended.ensures c.as_slice-signature.ensures.value c.in_ok-carry.ensures.sent c.in_ok-carry.ensures.released c.in_ok-carry.ensures.taken
