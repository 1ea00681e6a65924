-- That the line of the first message tells of it, that its objects are noted, and that what goes on in its place is sent.
use Rattle.std.proofs.Common.{ap, refl, rules}
use Rattle.wl_wire.specs.Message.{content}
use Rattle.wl_wire.specs.Table.{message_row}
use Rattle.wl_follow.specs.Objects.{object_of}
use Rattle.wl_relay.specs.Log.{known}
use Rattle.wl_relay.proofs.Lines.{malformed_result, passes_result, refused_result, unknown_result, waits_result}
use Rattle.wl_relay.proofs.follow.pass_one.Goals as goal

pub returns-in-Err-Unknown-clause-reads : goal.returns-in-Err-Unknown-clause-reads
returns-in-Err-Unknown-clause-reads c =
    unknown_result c.args.table.now c.args.side (known c.args.notes.now) _ (known c.pass_unknown.new.notes) c.args.from.now c.read_front.new.from
    (ap known c.notes.view_is) c.read_front.ensures.unchanged _ _ c.in-Err-Unknown.sender c.in-Err-Unknown.opcode c.in-Err-Unknown.sender-is
    c.in-Err-Unknown.opcode-is c.pass_unknown.new.from c.args.to.now c.pass_unknown.new.to c.pass_unknown.result
    (rw c.in-Err-Unknown.field-0-is at c.in-Err-Unknown.ensures.none) c.pass_unknown.ensures.told

pub returns-in-Err-Incomplete-clause-reads : goal.returns-in-Err-Incomplete-clause-reads
returns-in-Err-Incomplete-clause-reads c =
    waits_result c.args.table.now c.args.side (known c.args.notes.now) _ _ c.args.from.now c.read_front.new.from
    (ap known c.notes.view_is) c.read_front.ensures.unchanged c.args.to.now
    (rw c.in-Err-Incomplete.field-0-is at c.in-Err-Incomplete.ensures.none) refl

pub returns-in-Err-Malformed-clause-reads : goal.returns-in-Err-Malformed-clause-reads
returns-in-Err-Malformed-clause-reads c =
    malformed_result c.args.table.now c.args.side (known c.args.notes.now) _ _ c.args.from.now c.read_front.new.from
    (ap known c.notes.view_is) c.read_front.ensures.unchanged c.args.to.now
    (rw c.in-Err-Malformed.field-0-is at c.in-Err-Malformed.ensures.none) refl

pub returns-in-Some-clause-reads : goal.returns-in-Some-clause-reads
returns-in-Some-clause-reads c =
    let found = c.in-Ok.found in
    refused_result c.args.table.now c.args.side (known c.args.notes.now) _ _ c.args.from.now c.read_front.new.from
    (ap known c.notes.view_is) c.read_front.ensures.unchanged (object_of found.interface found.version) (message_row found.desc.now) found.side
    c.as_slice-signature.result.now c.as_slice-signature.ensures.value c.in-Ok.ensures.side (content c.read_front.new.message) c.edit_of-edit.result
    c.in-Ok.ensures.found c.edit_of-edit.ensures.edits c.args.to.now c.in-Some.fault c.in_ok-noted.noted c.hears-heard.result
    c.note_unless_edited.new.objects.store c.in-Some.is c.hears-heard.ensures c.in_ok-noted.ensures c.in_ok-log_message.ensures refl

pub returns-clause-reads : goal.returns-clause-reads
returns-clause-reads c =
    let found = c.in-Ok.found in
    passes_result c.args.table.now c.args.side (known c.args.notes.now) _ _ c.args.from.now c.read_front.new.from
    (ap known c.notes.view_is) c.read_front.ensures.unchanged (object_of found.interface found.version) (message_row found.desc.now) found.side
    c.as_slice-signature.result.now c.as_slice-signature.ensures.value c.in-Ok.ensures.side (content c.read_front.new.message) c.edit_of-edit.result
    c.in-Ok.ensures.found c.edit_of-edit.ensures.edits c.args.to.now c.pass_on.new.from c.pass_on.new.to c.in_ok-passed.passed c.in_ok-noted.noted
    c.hears-heard.result c.in_default.is c.hears-heard.ensures c.in_ok-noted.ensures c.in_ok-log_message.ensures c.or_changed-notes-inside.ensures refl
    c.edit_of-edit.ensures.in_a_log c.in_ok-passed.ensures.passed
