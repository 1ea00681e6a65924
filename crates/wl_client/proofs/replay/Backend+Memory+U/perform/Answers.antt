use Rattle.std.proofs.Common.{refl}
use Rattle.wl_client.proofs.replay.Backend+Memory+U.perform.Goals as goal

pub returns-in-SetData : goal.returns-in-SetData
returns-in-SetData g c = rw c.in-SetData.is (c.set_data.result, refl, c.set_data.ensures.refused, c.set_data.ensures.set)

pub returns-in-TakeNotes : goal.returns-in-TakeNotes
returns-in-TakeNotes g c =
    rw c.in-TakeNotes.is (c.take_notes.result, refl, c.take_notes.ensures.refused, c.take_notes.ensures.taken, c.take_notes.ensures.left)
