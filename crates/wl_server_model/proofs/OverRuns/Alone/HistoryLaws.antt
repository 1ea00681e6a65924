-- That steps over the transport by script extend each history that led to the value in which they begin.
use Rattle.std.proofs.Common.{ℕ, Bool, List, ◌++◌}
use Rattle.wl_link.proofs.OverRuns.RunLaws.{stopped_leads}
use Rattle.wl_link.specs.Runs.{RunEntry, entries}
use Rattle.wl_link.specs.Script.{Script}
use Rattle.wl_link.specs.ScriptLaws.{script_within_offer}
use Rattle.wl_server_model.specs.declared.step.Reply.{Reply}
use Rattle.wl_server_model.specs.declared.step.Step.{Step}
use Rattle.wl_server_model.specs.Histories.{Extends, ExtendsUpTo}
use Rattle.wl_server_client.specs.Ids.{ClientParts, GlobalParts}
use Rattle.wl_server_model.specs.PartStep.{over_scripts}
use Rattle.wl_server_model.specs.Runs.{Performs, StopsAt}
use Rattle.wl_server_model.specs.Server.{ServerState, new_server}
use Rattle.wl_server_model.specs.Steps.{StepOf}
use Rattle.wl_server_model.proofs.OverRuns.Alone.AccountLaws.{is_accounted_for}
use Rattle.wl_server_model.proofs.OverRuns.Alone.IsolationLaw.{join_runs, performed}
use Rattle.wl_server_model.proofs.OverRuns.Cut.StretchLaws.{each_part_is_cut}

module _ {U G C : Type 0} (views : G → ClientParts → C → GlobalParts → Bool) where
  pub extends : (before after : ServerState Script U G C) (steps : List (RunEntry (Step Script U G C) (Reply Script U)))
      → Performs (over_scripts views) before steps after → Extends views before steps after
  extends before after steps performs =
      let (run, are, leads) = performed (over_scripts views) before after steps performs in
      record {
        run = run;
        are = are;
        leads = leads;
        accounted = λ table history led. (
            let longer = join_runs (over_scripts views) (new_server table) before after history run led leads in
            (longer, is_accounted_for (over_scripts views) (record { law = script_within_offer }) table (history ++ run) after longer)
            );
        cut = λ begun history more led are_so leads_so. each_part_is_cut views begun (history ++ more);
      }

  pub extends_up_to : (before after : ServerState Script U G C) (steps : List (Step Script U G C)) (n : ℕ) (replies : List (Reply Script U))
      → StopsAt (over_scripts views) before steps n replies after → ExtendsUpTo views before steps replies after
  extends_up_to before after steps n replies stops =
      let (last, one, leads) = stopped_leads (StepOf (over_scripts views)) before after steps n replies stops in
      (last, one, extends before after (entries steps replies ++ last) leads)
