-- That a public call keeps a history accounted for, and that a run over the transport by script is a part of one.
use Rattle.std.proofs.Common.{◌≡◌, ℕ, Bool, List, [], ◌∷◌, ◌++◌, Result, Ok, Err, refl, subst, arith}
use Rattle.std.specs.Prelude.{◌⊎◌}
use mathlib.Core.Logic.{inl, inr}
use Rattle.wl_wire.specs.declared.error.IoFault.{IoFault}
use Rattle.wl_wire.specs.declared.error.OutOfMemory.{OutOfMemory}
use Rattle.wl_wire.specs.declared.protocol.TableError.{TableError}
use Rattle.wl_wire.specs.Table.{Growth, InterfaceRow, refused_growth}
use Rattle.wl_link.proofs.OverRuns.RunLaws.{stopped_leads}
use Rattle.wl_link.specs.declared.memory.ArriveError.{ArriveError}
use Rattle.wl_link.specs.declared.memory.ArriveError.TheVariants as arrive
use Rattle.wl_link.specs.Exchange.{Queue}
use Rattle.wl_link.specs.Script.{Script, ScriptSends, ScriptReceives}
use Rattle.wl_client.specs.declared.step.Reply.{Reply}
use Rattle.wl_client.specs.declared.step.Step.{Step}
use Rattle.wl_client.proofs.OverRuns.FailedLaws.{IsKept, calls_kept, steps_kept}
use Rattle.wl_client.proofs.OverRuns.IdentityLaws.{accounted}
use Rattle.wl_client.proofs.OverRuns.StretchLaws.{parts_cut}
use Rattle.wl_client.specs.Accounts.{AccountsForStopped, Calls, CallsLocally, IsChange, IsGrowth, StaysAccountedFor}
use Rattle.wl_client.specs.Histories.{Called, Changed, Deed, Does, EachStandsFor, Grown, History, StandsFor, called}
use Rattle.wl_client.specs.Session.{ClientState, IsConnected, SessionState, over_transport}
use Rattle.wl_client.specs.Steps.{ArrivesWith, CallOf, Entry, InterfacesAdded, IsOfScript, Leads, LocalCall, Making, Scripts, StepOf, StopsAt, entries}

module _ {T U : Type 0} (makes : Making T U) where
  -- ---- histories behind one another

  pub history_joins : (start mid after : SessionState T U) (deeds others : List (Deed T U)) → History makes start deeds mid → History makes mid others after
      → History makes start (deeds ++ others) after
  history_joins start mid after [] others same leads = subst (λ (s : SessionState T U). History makes s others after) same leads
  history_joins start mid after (d ∷ deeds) others (next, first, rest) leads = (next, first, history_joins next mid after deeds others rest leads)

  module _ (kept : IsKept makes) where
    stays_accounted_for : (before : SessionState T U) (d : Deed T U) (after : SessionState T U) → Does makes before d after → StaysAccountedFor makes before d after
    stays_accounted_for before d after does table transport begun deeds connected leads =
        let longer = history_joins begun before after deeds (d ∷ []) leads (after, does, refl) in
        (longer, accounted makes kept table transport begun after (deeds ++ d ∷ []) connected longer)

    calls_by : (before : ClientState T U) (call : Step U) (answer : Reply U) (after : ClientState T U)
        → makes before.session call answer after.refused after.session → Calls makes before call answer after
    calls_by before call answer after by = record {
      step = by;
      accounted = stays_accounted_for before.session (Called (record { step = call; answer = answer; refused = after.refused })) after.session by;
    }

    change_by : (before : SessionState T U) (t : T) → IsChange makes before t (over_transport before t)
    change_by before t = record { change = refl; accounted = stays_accounted_for before (Changed t) (over_transport before t) refl }

    growth_by : (before : ClientState T U) (rows : Growth) (answer : Result (Unit {0}) TableError) (after : ClientState T U)
        → InterfacesAdded before.session rows answer after.session → after.refused ≡ refused_growth answer → IsGrowth makes before rows answer after
    growth_by before rows answer after added refused = record {
      growth = added;
      refused = refused;
      accounted = stays_accounted_for before.session (Grown rows answer) after.session added;
    }

-- ---- a public call

module _ {T U : Type 0} (sends : T → Queue → Result ℕ IoFault → T → Type 0) (receives : T → ℕ → Result Queue IoFault → T → Type 0) where
  pub calls : (before : ClientState T U) (call : Step U) (answer : Reply U) (after : ClientState T U)
      → CallOf sends receives before.session call answer after.refused after.session → Calls (CallOf sends receives) before call answer after
  calls = calls_by (CallOf sends receives) (calls_kept sends receives)

  local_call : (before : SessionState T U) (call : Step U) (answer : Reply U) (refused : Bool) (after : SessionState T U)
      → LocalCall before call answer refused after → CallOf sends receives before call answer refused after
  local_call before call answer refused after h1 = grind (arith)

  -- a call that neither sends nor receives, over this transport
  pub local_calls : (before after : ClientState T U) (call : Step U) (answer : Reply U) → CallsLocally before call answer after
      → Calls (CallOf sends receives) before call answer after
  local_calls before after call answer h = calls before call answer after (local_call before.session call answer after.refused after.session h)

  pub is_change : (before : SessionState T U) (t : T) → IsChange (CallOf sends receives) before t (over_transport before t)
  is_change = change_by (CallOf sends receives) (calls_kept sends receives)

  pub is_growth : (before : ClientState T U) (rows : Growth) (answer : Result (Unit {0}) TableError) (after : ClientState T U)
      → InterfacesAdded before.session rows answer after.session → after.refused ≡ refused_growth answer → IsGrowth (CallOf sends receives) before rows answer after
  is_growth = growth_by (CallOf sends receives) (calls_kept sends receives)

-- ---- the transport by script

module _ {U : Type 0} where
  -- a run is a part of a history
  pub run_history : (before after : SessionState Script U) (run : List (Entry U)) → Leads before run after → History StepOf before (called run) after
  run_history before after [] same = same
  run_history before after (e ∷ run) (mid, by, leads) = (mid, by, run_history mid after run leads)

  -- and a history of entries is a run
  pub history_run : (before after : SessionState Script U) (run : List (Entry U)) → History StepOf before (called run) after → Leads before run after
  history_run before after [] same = same
  history_run before after (e ∷ run) (mid, by, leads) = (mid, by, history_run mid after run leads)

  pub joined_history : (begun mid after : SessionState Script U) (deeds : List (Deed Script U)) (run : List (Entry U)) → History StepOf begun deeds mid
      → Leads mid run after → History StepOf begun (deeds ++ called run) after
  joined_history begun mid after deeds run leads behind =
      history_joins StepOf begun mid after deeds (called run) leads (run_history mid after run behind)

  -- a call of a session over this transport is a step
  pub call_step : (before : SessionState Script U) (call : Step U) (answer : Reply U) (refused : Bool) (after : SessionState Script U)
      → CallOf ScriptSends ScriptReceives before call answer refused after → StepOf before call answer refused after
  call_step before call answer refused after h1 = grind (arith)

  -- and a step is such a call, or a change of the transport
  abbrev IsChanged : SessionState Script U → SessionState Script U → Type 0
  IsChanged before after = (t : Script) × (after ≡ over_transport before t)

  scripts_change : (before : SessionState Script U) (script : Script) (r : Result (Unit {0}) OutOfMemory) (after : SessionState Script U)
      → Scripts before script r after → IsChanged before after
  scripts_change before script (Ok u) after same = (script, same)
  scripts_change before script (Err e) after same = (before.link.transport, same)

  arrives_change : (before : SessionState Script U) (chunk : Queue) (r : Result (Unit {0}) ArriveError) (after : SessionState Script U)
      → ArrivesWith before chunk r after → IsChanged before after
  arrives_change before chunk (Ok u) after h = (_, h.1)
  arrives_change before chunk (Err arrive.TooManyTokens) after h = (before.link.transport, h.1)
  arrives_change before chunk (Err arrive.OutOfMemory) after h = (before.link.transport, h.1)

  pub call_or_change : (before : SessionState Script U) (call : Step U) (answer : Reply U) (refused : Bool) (after : SessionState Script U)
      → StepOf before call answer refused after → CallOf ScriptSends ScriptReceives before call answer refused after ⊎ (IsOfScript call × (t : Script) × (after ≡ over_transport before t))
  call_or_change before call answer refused after h1 = grind (arith, arrives_change, scripts_change)

  pub call_history : (before after : SessionState Script U) (deeds : List (Deed Script U)) → History (CallOf ScriptSends ScriptReceives) before deeds after
      → History StepOf before deeds after
  call_history before after [] same = same
  call_history before after (Called e ∷ deeds) (mid, by, leads) =
      (mid, call_step before e.step e.answer e.refused mid by, call_history mid after deeds leads)
  call_history before after (Changed t ∷ deeds) (mid, same, leads) = (mid, same, call_history mid after deeds leads)
  call_history before after (Grown rows answer ∷ deeds) (mid, added, leads) = (mid, added, call_history mid after deeds leads)

  -- and a history of steps stands for one of such calls, with changes of the transport
  pub history_of_calls : (before after : SessionState Script U) (deeds : List (Deed Script U)) → History StepOf before deeds after
      → (others : List (Deed Script U)) × EachStandsFor deeds others × History (CallOf ScriptSends ScriptReceives) before others after
  history_of_calls before after [] same = ([], refl, same)
  history_of_calls before after (d ∷ deeds) (mid, does, leads) =
      let (others, stand, behind) = history_of_calls mid after deeds leads in
      let (first, stands, does_so) = on d does in
      (first ∷ others, (stands, stand), (mid, does_so, behind))
    where
      on : (d : Deed Script U) → Does StepOf before d mid → (first : Deed Script U) × StandsFor d first × Does (CallOf ScriptSends ScriptReceives) before first mid
      on (Called e) by =
          elim (call_or_change before e.step e.answer e.refused mid by) [
            | inl call ↦ (Called e, refl, call)
            | inr (scripted, t, same) ↦ (Changed t, scripted, same)
          ]
      on (Changed t) same = (Changed t, refl, same)
      on (Grown rows answer) added = (Grown rows answer, refl, added)

  -- a run that stopped is accounted for, with the step that met a want of memory
  pub stopped_accounts : (s after : SessionState Script U) (steps : List (Step U)) (n : ℕ) (replies : List (Reply U)) → StopsAt s steps n replies after
      → (table : List InterfaceRow) (transport : Script) (begun : SessionState Script U) (deeds : List (Deed Script U)) → IsConnected table transport begun
      → History StepOf begun deeds s → AccountsForStopped begun deeds steps replies after
  stopped_accounts s after steps n replies stops table transport begun deeds connected before =
      let (last, one, leads) = stopped_leads StepOf s after steps n replies stops in
      let whole = joined_history begun s after deeds (entries steps replies ++ last) before leads in (
        last,
        one,
        whole,
        accounted StepOf steps_kept table transport begun after (deeds ++ called (entries steps replies ++ last)) connected whole,
        parts_cut begun (deeds ++ called (entries steps replies ++ last)),
      )
