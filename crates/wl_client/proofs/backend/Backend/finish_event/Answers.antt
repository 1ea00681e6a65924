use Rattle.std.proofs.Common.{refl}
use Rattle.wl_client.proofs.OverRuns.ReadingLaws.{finish_cuts}
use Rattle.wl_client.proofs.Plain.Finishing.{ends_event}
use Rattle.wl_client.proofs.backend.Backend.finish_event.Goals as goal

pub returns-clause-call : goal.returns-clause-call
returns-clause-call g c = (c.end_event.result, refl, c.end_event.ensures.refused, c.end_event.ensures.finished)

pub returns-clause-cutting : goal.returns-clause-cutting
returns-clause-cutting g c live accepted finishes = finish_cuts _ _ c.end_event.result _ c.end_event.ensures.finished live accepted finishes

pub returns-clause-plain : goal.returns-clause-plain
returns-clause-plain g c = ends_event _ _ c.end_event.result _ c.end_event.ensures.finished
