use Rattle.std.proofs.Common.{refl}
use Rattle.wl_server_client.proofs.Readings.OneMessage.{fault_fills}
use Rattle.wl_server_client.proofs.client.Client.receive.Goals as goal
use Rattle.wl_server_client.specs.Stored.{no_times}
use Rattle.wl_server_client.proofs.Readings.Notes.{made_end}

pub returns-in_default-clause-fills : goal.returns-in_default-clause-fills
returns-in_default-clause-fills g c = rw (← c.self.view_is) (c.in_default.ensures.filled, c.fill_incoming_buffers.ensures.doubled, refl)

pub returns-in-WouldBlock-clause-fills : goal.returns-in-WouldBlock-clause-fills
returns-in-WouldBlock-clause-fills g c =
    rw (← c.self.view_is, c.in-WouldBlock.is)
    (let filled = rw c.in-WouldBlock.is at c.in-Err.ensures.filled in
    (c.fill_incoming_buffers.new.self, filled, c.fill_incoming_buffers.ensures.doubled, refl, made_end _ _ _))

pub returns-in-OutOfMemory-clause-fills : goal.returns-in-OutOfMemory-clause-fills
returns-in-OutOfMemory-clause-fills g c =
    rw (← c.self.view_is, c.in-OutOfMemory.is)
    (let filled = rw c.in-OutOfMemory.is at c.in-Err.ensures.filled in
    (c.fill_incoming_buffers.new.self, filled, c.fill_incoming_buffers.ensures.doubled, refl, made_end _ _ _))

pub returns-in_default-fault-clause-fills : goal.returns-in_default-fault-clause-fills
returns-in_default-fault-clause-fills g c =
    rw (← c.self.view_is)
    (fault_fills g.T.Transport.receives (record { serial = _; part = _; made = _; times = no_times }) c.kill.new.self c.fill_incoming_buffers.new.self c.in-Err.fault c.in_default-fault.not-WouldBlock c.in_default-fault.not-OutOfMemory c.in-Err.ensures.filled c.fill_incoming_buffers.ensures.doubled c.kill.ensures.killed)
