-- What a handler may have done to a server between two values of it.
use Rattle.std.specs.Prelude.{◌≡◌, List, [], ◌∷◌, Bool, true, false, not}
use Rattle.wl_server_model.specs.declared.step.Step.{Step}
use Rattle.wl_server_model.specs.declared.step.Step.TheVariants as step
use Rattle.wl_server_client.specs.Ids.{ClientParts, same_client}
use Rattle.wl_server_model.specs.PartStep.{Asked, Call, Changed, Grown, World}
use Rattle.wl_server_model.specs.Runs.{Leads}
use Rattle.wl_server_model.specs.Server.{ServerState}
use Rattle.wl_server_model.specs.Steps.{Entry}

-- whether a step reads this client, or ends its action
abbrev pub reads_or_finishes : {T U G C : Type 0} → ClientParts → Step T U G C → Bool
reads_or_finishes id (step.NextAction target) = same_client target id
reads_or_finishes id (step.NextActionWithin target _) = same_client target id
reads_or_finishes id (step.FinishRequest target _) = same_client target id
reads_or_finishes id (step.FinishBind target _) = same_client target id
reads_or_finishes id _ = false

module _ {T U G C : Type 0} where
  -- a call that neither reads this client nor ends its action
  abbrev pub spares : ClientParts → Call T U G C → Bool
  spares id (Asked s answer) = not (reads_or_finishes id s)
  spares id (Changed target t) = true
  spares id (Grown rows answer) = true

  abbrev pub AllSpare : ClientParts → List (Entry T U G C) → Type 0
  AllSpare id [] = Unit {0}
  AllSpare id (e ∷ run) = (spares id e.call ≡ true) × AllSpare id run

-- Calls lead from one value of a server to another, and none of them reads this client or ends its action.
pub record Reached {T U G C : Type 0} (w : World T G C) (id : ClientParts) (before after : ServerState T U G C) : Type 0 where
  pub run : List (Entry T U G C)
  pub leads : Leads w before run after
  pub spared : AllSpare id run
