-- Runs over the transport by script, whose entries are steps with their replies, changes of a client's transport, and what the
-- table was asked to take.
use Rattle.std.specs.Prelude.{Bool, List, ◌++◌, length}
use Rattle.wl_wire.specs.Table.{InterfaceRow}
use Rattle.wl_link.specs.Runs.{RunEntry, IsWhereItStops, entries}
use Rattle.wl_link.specs.Script.{Script}
use Rattle.wl_server_model.specs.declared.step.Reply.{Reply}
use Rattle.wl_server_model.specs.declared.step.Step.{Step}
use Rattle.wl_server_model.specs.Accounts.{IsAccountedFor}
use Rattle.wl_server_client.specs.Ids.{ClientParts, GlobalParts}
use Rattle.wl_server_model.specs.PartStep.{over_scripts}
use Rattle.wl_server_model.specs.Runs.{AreOf, Leads}
use Rattle.wl_server_model.specs.Server.{ServerState, new_server}
use Rattle.wl_server_model.specs.Steps.{Entry}
use Rattle.wl_server_model.specs.Stretches.{EachPartIsCut}

module _ {U G C : Type 0} (views : G → ClientParts → C → GlobalParts → Bool) where
  -- The steps with these replies are the calls of entries that lead from one value of a server to another. They extend each
  -- history of a new server that led to the first, even if transports were changed or the table grew in it: `IsAccountedFor`
  -- holds of the history with these entries after it. Cutting does not matter to any part of it, whatever the deeds of the
  -- steps are.
  pub record Extends (before : ServerState Script U G C) (steps : List (RunEntry (Step Script U G C) (Reply Script U))) (after : ServerState Script U G C) : Type 0 where
    pub run : List (Entry Script U G C)
    pub are : AreOf steps run
    pub leads : Leads (over_scripts views) before run after
    pub accounted : (table : List InterfaceRow) (history : List (Entry Script U G C)) → Leads (over_scripts views) (new_server table) history before
        → Leads (over_scripts views) (new_server table) (history ++ run) after × IsAccountedFor (over_scripts views) table (history ++ run) after
    pub cut : (begun : ServerState Script U G C) (history more : List (Entry Script U G C)) → Leads (over_scripts views) begun history before
        → AreOf steps more → Leads (over_scripts views) before more after → EachPartIsCut views begun (history ++ more)

  -- The same for steps that stopped because memory was refused in one of them; those before it have these replies. It holds
  -- with that step, if it was begun.
  abbrev pub ExtendsUpTo : ServerState Script U G C → List (Step Script U G C) → List (Reply Script U) → ServerState Script U G C → Type 0
  ExtendsUpTo before steps replies after =
      (last : List (RunEntry (Step Script U G C) (Reply Script U))) × IsWhereItStops steps (length replies) last
      × Extends before (entries steps replies ++ last) after
