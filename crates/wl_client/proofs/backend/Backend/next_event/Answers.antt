use Rattle.std.proofs.Common.{Ok, Err, refl}
use Rattle.wl_client.proofs.OverRuns.AccountLaws.{calls}
use Rattle.wl_client.proofs.OverRuns.ReadingLaws.{next_event_cuts}
use Rattle.wl_client.proofs.OverRuns.RoomLaws.{next_event_room}
use Rattle.wl_client.proofs.Plain.Reading.{reads_event}
use Rattle.wl_client.proofs.Plain.ReadingEnds.{ends_for_a_reason}
use Rattle.wl_client.proofs.backend.Backend.next_event.Goals as goal

pub returns-in-Ok-clause-call : goal.returns-in-Ok-clause-call
returns-in-Ok-clause-call g c = calls g.T.Transport.sends g.T.Transport.receives _ _ _ _ (Ok c.read_next.new.event, refl, c.in-Ok.ensures)

pub returns-in-Ok-clause-plain : goal.returns-in-Ok-clause-plain
returns-in-Ok-clause-plain g c = reads_event g.T.Transport.sends g.T.Transport.receives _ _ _ _ c.in-Ok.ensures

pub returns-in-Ok-clause-cutting : goal.returns-in-Ok-clause-cutting
returns-in-Ok-clause-cutting g c = next_event_cuts g.T.Transport.sends g.T.Transport.receives _ _ _ _ c.in-Ok.ensures

pub returns-in-Ok-clause-room : goal.returns-in-Ok-clause-room
returns-in-Ok-clause-room g c = next_event_room g.T.Transport.sends g.T.Transport.receives _ _ _ _ c.in-Ok.ensures

pub returns-in-Err-clause-call : goal.returns-in-Err-clause-call
returns-in-Err-clause-call g c = calls g.T.Transport.sends g.T.Transport.receives _ _ _ _ (Err c.in-Err.error, refl, c.in-Err.ensures)

pub returns-in-Err-clause-plain : goal.returns-in-Err-clause-plain
returns-in-Err-clause-plain g c = reads_event g.T.Transport.sends g.T.Transport.receives _ _ _ _ c.in-Err.ensures

pub returns-in-Err-clause-cutting : goal.returns-in-Err-clause-cutting
returns-in-Err-clause-cutting g c = next_event_cuts g.T.Transport.sends g.T.Transport.receives _ _ _ _ c.in-Err.ensures

pub returns-in-Err-clause-room : goal.returns-in-Err-clause-room
returns-in-Err-clause-room g c = next_event_room g.T.Transport.sends g.T.Transport.receives _ _ _ _ c.in-Err.ensures

pub returns-in-Ok-clause-reason : goal.returns-in-Ok-clause-reason
returns-in-Ok-clause-reason g c = ends_for_a_reason g.T.Transport.sends g.T.Transport.receives _ _ _ _ c.in-Ok.ensures

pub returns-in-Err-clause-reason : goal.returns-in-Err-clause-reason
returns-in-Err-clause-reason g c = ends_for_a_reason g.T.Transport.sends g.T.Transport.receives _ _ _ _ c.in-Err.ensures
