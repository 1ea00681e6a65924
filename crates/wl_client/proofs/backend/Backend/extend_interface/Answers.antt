use Rattle.std.proofs.Common.{refl}
use Rattle.wl_client.proofs.OverRuns.AccountLaws.{is_growth}
use Rattle.wl_client.proofs.backend.Backend.extend_interface.Goals as goal

pub returns-clause-call : goal.returns-clause-call
returns-clause-call g c =
    rw (← c.self.view_is)
    (is_growth g.T.Transport.sends g.T.Transport.receives _ _ _ _ (c.extend_row-answer.ensures.answer, rw c.extend_row-answer.ensures.table refl)
    c.lacks_memory-self-inside.ensures)

pub returns-clause-plain : goal.returns-clause-plain
returns-clause-plain g c =
    rw (← c.self.view_is)
    (record {
      answered = c.extend_row-answer.ensures.answer;
      table = c.extend_row-answer.ensures.table;
      objects = refl;
      last_serial = refl;
      notes = refl;
      link = refl;
      open_event = refl;
      error = refl;
      settings = (refl, (refl, refl));
    })
