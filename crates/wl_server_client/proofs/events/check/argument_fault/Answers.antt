use Rattle.wl_wire.specs.Table.{message_row}
use Rattle.wl_server_client.proofs.events.check.argument_fault.Goals as goal

pub returns-in-Object-Object : goal.returns-in-Object-Object
returns-in-Object-Object g c = rw (c.in-Object-Object.is-0, c.in-Object-Object.is-1) (c.object_fault.ensures (message_row c.args.desc.now))

pub returns-in-NewId-NewId : goal.returns-in-NewId-NewId
returns-in-NewId-NewId g c = rw (c.in-NewId-NewId.is-0, c.in-NewId-NewId.is-1) (c.new_id_fault.ensures c.args.asked)
