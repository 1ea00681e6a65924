-- That a message that was read is there, and is told.
use Rattle.wl_wire.specs.Message.{content}
use Rattle.wl_wire.specs.Table.{message_row}
use Rattle.wl_follow.specs.Objects.{object_of}
use Rattle.wl_follow.specs.Sent.{ready_part}
use Rattle.wl_follow.proofs.Fronts.{is_there}
use Rattle.wl_follow.proofs.Telling.{message_told}
use Rattle.wl_follow.proofs.follower.tell_known.Goals as goal

pub take_first-requires : goal.take_first-requires
take_first-requires c =
    let found = c.args.found in
    is_there c.args.table.now c.args.objects.now.store found.side (ready_part c.args.sent.now) (object_of found.interface found.version) (message_row found.desc.now)
    (content c.args.message.now) c.as_slice.result.now c.as_slice.ensures.value c.requires

pub returns-in-None-clause-told : goal.returns-in-None-clause-told
returns-in-None-clause-told c =
    let found = c.args.found in
    message_told c.args.table.now found.side c.args.objects.now.store c.args.sent.now (object_of found.interface found.version) (message_row found.desc.now)
    (content c.args.message.now) c.in_ok-note_objects.field-0 c.note_objects.new.objects.store c.as_slice.result.now c.take_first.new.self c.requires c.in-None.is
    c.in_ok-note_objects.ensures.noted c.as_slice.ensures.value c.take_first.ensures
