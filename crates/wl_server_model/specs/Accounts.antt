-- What holds of each client of a server over a run: seven laws, of one and the same history of deeds.
use Rattle.std.specs.Prelude.{List, [], ◌∷◌, ◌++◌}
use Rattle.wl_wire.specs.Table.{InterfaceRow}
use Rattle.wl_link.specs.Runs.{RunEntry}
use Rattle.wl_server_model.specs.declared.step.Reply.{Reply}
use Rattle.wl_server_model.specs.declared.step.Step.{Step}
use Rattle.wl_server_model.specs.Announced.{EachAnnouncesShown}
use Rattle.wl_server_model.specs.GivenOnce.{GivesOnce}
use Rattle.wl_server_model.specs.Identified.{EachHasOwnIds}
use Rattle.wl_server_model.specs.Killed.{EachStaysKilled}
use Rattle.wl_server_model.specs.Logged.{EachLogIsSpelled}
use Rattle.wl_server_model.specs.NotedOnce.{EachIsNoted}
use Rattle.wl_server_model.specs.PartStep.{World}
use Rattle.wl_server_model.specs.Runs.{AreOf, IsIsolated, Leads}
use Rattle.wl_server_model.specs.Server.{ServerState, new_server}
use Rattle.wl_server_model.specs.Steps.{Entry}

-- Of a run: each client is alone (`Runs`), has ids of its own (`Identified`), its log is what was sent and what
-- waits (`Logged`), its registries announce what it is shown (`Announced`), its end is noted (`NotedOnce`), and once it is
-- killed it stays so (`Killed`). No id of a client or of a global is given twice (`GivenOnce`). All of them speak of the
-- same deeds.
pub record IsAccountedFor {T U G C : Type 0} (w : World T G C) (table : List InterfaceRow) (run : List (Entry T U G C)) (after : ServerState T U G C) : Type 0 where
  pub isolated : IsIsolated w table run after
  pub ids : EachHasOwnIds w table run after
  pub logs : EachLogIsSpelled run after
  pub announcements : EachAnnouncesShown w run after
  pub notes : EachIsNoted run after
  pub killed : EachStaysKilled w table run after
  pub given : GivesOnce w table run after

-- these steps of a new server, with these replies, are the calls of a run of which these laws hold
abbrev pub AreAccountedFor : {T U G C : Type 0} → World T G C → List InterfaceRow → List (RunEntry (Step T U G C) (Reply T U)) → ServerState T U G C → Type 0
AreAccountedFor {T = T} {U = U} {G = G} {C = C} w table steps after =
    (run : List (Entry T U G C)) × AreOf steps run × Leads w (new_server table) run after × IsAccountedFor w table run after

-- Each run of a new server that led to `before` leads, with this call after it, to `after`, and these laws hold of it.
abbrev pub StaysAccountedFor : {T U G C : Type 0} → World T G C → ServerState T U G C → Entry T U G C → ServerState T U G C → Type 0
StaysAccountedFor {T = T} {U = U} {G = G} {C = C} w before e after =
    (table : List InterfaceRow) (run : List (Entry T U G C)) → Leads w (new_server table) run before
    → Leads w (new_server table) (run ++ e ∷ []) after × IsAccountedFor w table (run ++ e ∷ []) after
