use Rattle.std.proofs.Common.{refl}
use Rattle.wl_client.proofs.OverRuns.AccountLaws.{calls}
use Rattle.wl_client.proofs.OverRuns.ReadingLaws.{next_event_cuts}
use Rattle.wl_client.proofs.OverRuns.RoomLaws.{next_event_room}
use Rattle.wl_client.proofs.Plain.Reading.{reads_event}
use Rattle.wl_client.proofs.Plain.ReadingEnds.{ends_for_a_reason}
use Rattle.wl_client.proofs.backend.Backend.next_event_into.Goals as goal

pub returns-clause-call : goal.returns-clause-call
returns-clause-call g c = calls g.T.Transport.sends g.T.Transport.receives _ _ _ _ (_, refl, c.read_next_into.ensures.next)

pub returns-clause-cutting : goal.returns-clause-cutting
returns-clause-cutting g c = next_event_cuts g.T.Transport.sends g.T.Transport.receives _ _ _ _ c.read_next_into.ensures.next

pub returns-clause-room : goal.returns-clause-room
returns-clause-room g c = next_event_room g.T.Transport.sends g.T.Transport.receives _ _ _ _ c.read_next_into.ensures.next

pub returns-clause-plain : goal.returns-clause-plain
returns-clause-plain g c = reads_event g.T.Transport.sends g.T.Transport.receives _ _ _ _ c.read_next_into.ensures.next

pub returns-clause-reason : goal.returns-clause-reason
returns-clause-reason g c = ends_for_a_reason g.T.Transport.sends g.T.Transport.receives _ _ _ _ c.read_next_into.ensures.next
