use Rattle.wl_wire.specs.declared.error.IoFault.TheVariants as fault
use Rattle.wl_client.proofs.Readings.{received, received_other}
use Rattle.wl_client.proofs.backend.Backend.receive.Goals as goal

pub returns-in-WouldBlock : goal.returns-in-WouldBlock
returns-in-WouldBlock g c =
    rw (← c.self.view_is)
    (received g.T.Transport.sends g.T.Transport.receives _ c.fill_incoming_buffers.new.self fault.WouldBlock (rw c.in-WouldBlock.is at c.in-Err.ensures.filled) c.fill_incoming_buffers.ensures.doubled)

pub returns-in-OutOfMemory : goal.returns-in-OutOfMemory
returns-in-OutOfMemory g c =
    rw (← c.self.view_is)
    (received g.T.Transport.sends g.T.Transport.receives _ c.fill_incoming_buffers.new.self fault.OutOfMemory (rw c.in-OutOfMemory.is at c.in-Err.ensures.filled) c.fill_incoming_buffers.ensures.doubled)

pub returns-in_default-fault : goal.returns-in_default-fault
returns-in_default-fault g c =
    rw (← c.self.view_is)
    (received_other g.T.Transport.sends g.T.Transport.receives _ c.fill_incoming_buffers.new.self c.in-Err.fault c.in_default-fault.not-WouldBlock c.in_default-fault.not-OutOfMemory c.in-Err.ensures.filled c.fill_incoming_buffers.ensures.doubled)
