-- How a handler comes to its promise: by joining what its calls say of themselves.
use Rattle.std.proofs.Common.{◌≡◌, true, List, [], ◌∷◌, ◌++◌, refl}
use Rattle.wl_server_model.specs.declared.step.Reply.{Reply}
use Rattle.wl_server_model.specs.declared.step.Step.{Step}
use Rattle.wl_server_model.specs.Backend.{BackendState, Calls, IsChange}
use Rattle.wl_server_client.specs.Ids.{ClientParts}
use Rattle.wl_server_model.proofs.OverRuns.Alone.IsolationLaw.{join_runs}
use Rattle.wl_server_model.specs.PartStep.{Asked, World}
use Rattle.wl_server_model.specs.Reached.{AllSpare, Reached, spares}
use Rattle.wl_server_model.specs.Server.{ServerState}
use Rattle.wl_server_model.specs.Steps.{Entry, OneStep}

module _ {T U G C : Type 0} where
  pub all_spare : (id : ClientParts) (run more : List (Entry T U G C)) → AllSpare id run → AllSpare id more → AllSpare id (run ++ more)
  all_spare id [] more one two = two
  all_spare id (e ∷ run) more (spared, one) two = (spared, all_spare id run more one two)

-- a handler that makes no call
pub reached_none : {T U G C : Type 0} {w : World T G C} {id : ClientParts} {s : ServerState T U G C} → Reached w id s s
reached_none = record { run = []; leads = refl; spared = tt }

reached_one : {T U G C : Type 0} {w : World T G C} {id : ClientParts} {before after : ServerState T U G C} {e : Entry T U G C}
    → OneStep w before e after → spares id e.call ≡ true
    → Reached w id before after
reached_one {after = after} {e = e} one spared = record { run = e ∷ []; leads = (after, one, refl); spared = (spared, tt) }

-- one call, which is not about reading or ending this client's action
pub reached_by : {T U G C : Type 0} {w : World T G C} {id : ClientParts} {before after : BackendState T U G C} {s : Step T U G C} {answer : Reply T U}
    → Calls w before s answer after → spares {T = T} {U = U} {G = G} {C = C} id (Asked s answer) ≡ true → Reached w id before.server after.server
reached_by calls spared = let (e, is, refused, one) = calls.step in reached_one one (rw is spared)

-- a change of a client's transport
pub reached_change : {T U G C : Type 0} {w : World T G C} {id target : ClientParts} {before after : ServerState T U G C} {t : T}
    → IsChange w before target t after → Reached w id before after
reached_change change = let (e, is, refused, one) = change.step in reached_one one (rw is refl)

-- one part behind another
pub reached_both : {T U G C : Type 0} {w : World T G C} {id : ClientParts} {before mid after : ServerState T U G C}
    → Reached w id before mid → Reached w id mid after → Reached w id before after
reached_both {T} {U} {G} {C} {w} {id} {before} {mid} {after} one two = record {
  run = one.run ++ two.run;
  leads = join_runs w before mid after one.run two.run one.leads two.leads;
  spared = all_spare id one.run two.run one.spared two.spared;
}

-- and one more call
pub reached_then : {T U G C : Type 0} {w : World T G C} {id : ClientParts} {begun : ServerState T U G C} {before after : BackendState T U G C}
    {s : Step T U G C} {answer : Reply T U}
    → Reached w id begun before.server → Calls w before s answer after → spares {T = T} {U = U} {G = G} {C = C} id (Asked s answer) ≡ true
    → Reached w id begun after.server
reached_then so_far calls spared = reached_both so_far (reached_by calls spared)
