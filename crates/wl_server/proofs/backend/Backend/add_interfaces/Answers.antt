use Rattle.std.proofs.Common.{refl, arith, true≢false}
use Rattle.wl_wire.specs.Table.{NewRows, interface_rows, refused_growth}
use Rattle.wl_server_model.specs.Steps.{lacks_growth}
use Rattle.wl_server_model.proofs.CallSteps.Feeling.{makes_unfelt}
use Rattle.wl_server_model.proofs.OverRuns.Alone.AccountLaws.{growth_lacked, is_growth}
use Rattle.wl_server.proofs.backend.Backend.add_interfaces.Goals as goal
use Rattle.wl_server_model.specs.Server.{seen}

pub returns-clause-call : goal.returns-clause-call
returns-clause-call g c = rw (← c.self.view_is, c.extend-answer.ensures.table)
    (is_growth _ _ _ _ _ (makes_unfelt _ _ _ (record { last = refl; client = λ b. tt; order = tt; room = λ b. tt; notes = λ b a h. h })
    c.lacks_memory-self-inside.result _ refl c.extend-answer.ensures.answer (growth_lacked g.row.T.Denot g.row.U.Denot g.row.G.Denot g.row.C.Denot
    (NewRows (interface_rows c.args.interfaces.items)) c.extend-answer.result _ c.lacks_memory-self-inside.ensures) (λ id b. (refl, refl, refl))
    c.self.invariant.2))

pub returns-clause-answer : goal.returns-clause-answer
returns-clause-answer g c = rw (← c.self.view_is) c.extend-answer.ensures.answer

pub returns-clause-server : goal.returns-clause-server
returns-clause-server g c = rw (← c.self.view_is, c.extend-answer.ensures.table) refl

pub returns-clause-plain : goal.returns-clause-plain
returns-clause-plain g c = grind (arith, refused_growth, lacks_growth, true≢false, seen, returns-clause-call g c, returns-clause-server g c)
