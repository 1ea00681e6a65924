-- A call over a transport whose sends and receives are those of a script, as one over the transport by script; and the other way.
use Rattle.std.proofs.Common.{◌≡◌, ◌+◌, Bool, true, false, List, [], ◌∷◌, ◌++◌, Option, None, Some, Err, refl, arith}
use mathlib.Core.Logic.{inl, inr}
use Rattle.std.specs.Prelude.{MatchOption}
use Rattle.std.proofs.lemmas.Bool.{false≢true}
use Rattle.wl_link.specs.Script.{Script, ScriptReceives, ScriptSends}
use Rattle.wl_server_client.specs.declared.error.ScriptError.TheVariants as script
use Rattle.wl_server_model.specs.declared.step.Reply.{Reply}
use Rattle.wl_server_model.specs.declared.step.Step.{Step}
use Rattle.wl_server_model.specs.declared.step.Step.TheVariants as step
use Rattle.wl_server_model.proofs.CallSteps.Slots.{same_is, same_self}
use Rattle.wl_server_model.proofs.OverRuns.Alone.AccountLaws.{calls}
use Rattle.wl_server_model.specs.Backend.{BackendState, Calls}
use Rattle.wl_server_client.specs.Deeds.{Deed, notes_in}
use Rattle.wl_server_client.specs.Globals.{Offer}
use Rattle.wl_server_client.specs.Ids.{ClientParts, GlobalParts, same_client}
use Rattle.wl_server_model.specs.Moves.{Accept, AcceptFault, Arrive, ArriveFault, Move, Moved, TakeSent}
use Rattle.wl_server_client.specs.Part.{Part}
use Rattle.wl_server_model.specs.PartStep.{Asked, Call, Changed, MovedFor, OfClient, PartStep, Quietly, Unfelt, WithTransport, World, lacks_move, over, over_scripts}
use Rattle.wl_server_model.specs.Runs.{Leads}
use Rattle.wl_server_model.specs.Server.{Seen, ServerState, seen}
use Rattle.wl_server_model.specs.Steps.{EachStandsFor, Entry, IsChangeFor, MakesNotes, OneStep, StandsFor, StepOf}

module _ {U G C : Type 0} (w : World Script G C) where
  abbrev Moves : Moved → Move → Bool → List (Deed U) → Part Script U C → Part Script U C → Type 0
  Moves answer m lacked did p q = (lacked ≡ lacks_move answer) × (did ≡ []) × WithTransport (λ t t'. w.moves t m answer t') p q

  abbrev OnMoved : Option (Part Script U C) → Moved → Move → Seen Script U C → Bool → List (Deed U) → Seen Script U C → Type 0
  OnMoved o answer m before lacked did after =
      MatchOption o ((answer ≡ Err script.InvalidId) × Unfelt before lacked did after)
      (λ p. (q : Part Script U C) × Moves answer m lacked did p q × (after ≡ record { part = Some q; made = before.made ++ notes_in did }))

  abbrev OfMoved : Bool → Moved → Move → Seen Script U C → Bool → List (Deed U) → Seen Script U C → Type 0
  OfMoved b answer m before lacked did after =
      OfClient b before (λ p q. Moves answer m lacked did p q) (answer ≡ Err script.InvalidId) lacked did after

abbrev pub by_script : {G C : Type 0} → (G → ClientParts → C → GlobalParts → Bool) → World Script G C
by_script views = over ScriptSends ScriptReceives views

module _ {U G C : Type 0} (views : G → ClientParts → C → GlobalParts → Bool) where
  module _ (id : ClientParts) (offer : Offer G) where
    -- no other transport makes the moves of a script: but those that name nobody are alike
    moved : (target : ClientParts) (m : Move) (answer : Moved) (before : Seen Script U C) (lacked : Bool) (did : List (Deed U))
        (after : Seen Script U C)
        → MovedFor (by_script views) id offer target m answer before lacked did after
        → MovedFor (over_scripts views) id offer target m answer before lacked did after
    moved target m answer before lacked did after h = grind (arith, over_scripts)

    part_step : (s : Step Script U G C) (answer : Reply Script U) (before : Seen Script U C) (lacked : Bool) (did : List (Deed U))
        (after : Seen Script U C)
        → PartStep (by_script views) id offer s answer before lacked did after
        → PartStep (over_scripts views) id offer s answer before lacked did after
    part_step (step.Arrive target bytes tokens) answer before lacked did after (r, is, h) =
        (r, is, moved target (Arrive (record { bytes = bytes.items; tokens = tokens.items })) _ before lacked did after h)
    part_step (step.ArriveFault target f) answer before lacked did after (r, is, h) =
        (r, is, moved target (ArriveFault f) _ before lacked did after h)
    part_step (step.Accept target n) answer before lacked did after (r, is, h) = (r, is, moved target (Accept n) _ before lacked did after h)
    part_step (step.AcceptFault target f) answer before lacked did after (r, is, h) =
        (r, is, moved target (AcceptFault f) _ before lacked did after h)
    part_step (step.TakeSent target) answer before lacked did after (r, is, h) = (r, is, moved target TakeSent _ before lacked did after h)
    part_step s answer before lacked did after h = h

  pub one_over_script : (before : ServerState Script U G C) (e : Entry Script U G C) (after : ServerState Script U G C)
      → OneStep (by_script views) before e after → OneStep (over_scripts views) before e after
  one_over_script before e after one = grind (arith, part_step)

  pub run_over_script : (before : ServerState Script U G C) (run : List (Entry Script U G C)) (after : ServerState Script U G C)
      → Leads (by_script views) before run after → Leads (over_scripts views) before run after
  run_over_script before [] after same = same
  run_over_script before (e ∷ run) after (mid, one, leads) = (mid, one_over_script before e mid one, run_over_script mid run after leads)

  pub step_over_script : (before : ServerState Script U G C) (s : Step Script U G C) (answer : Reply Script U) (refused : Bool)
      (after : ServerState Script U G C)
      → StepOf (by_script views) before s answer refused after → StepOf (over_scripts views) before s answer refused after
  step_over_script before s answer refused after (e, call, is, one) = (e, call, is, one_over_script before e after one)

  pub over_script : (before : BackendState Script U G C) (s : Step Script U G C) (answer : Reply Script U) (after : BackendState Script U G C)
      → Calls (by_script views) before s answer after → Calls (over_scripts views) before s answer after
  over_script before s answer after call = calls _ _ _ _ _ (step_over_script before.server s answer after.refused after.server call.step)

-- ---- a step over the transport by script as a call, or as a change of a client's transport

abbrev blank : Script
blank = record { arrivals = []; answers = []; sent = [] }

module _ {U G C : Type 0} (views : G → ClientParts → C → GlobalParts → Bool) (before after : ServerState Script U G C) where
  -- an entry over the transport by script stands for one over every transport
  abbrev pub Stands : Entry Script U G C → Type 0
  Stands e = (other : Entry Script U G C) × StandsFor e other × OneStep (by_script views) before other after

  abbrev IsSet : ClientParts → Script → Bool → ClientParts → List (Deed U) → Type 0
  IsSet target t b id did =
      OfClient b (seen id before) (λ p q. Quietly {U = U} false did (WithTransport (λ _ t'. t' ≡ t) p q)) (Unit {0}) false did (seen id after)

  module _ (e : Entry Script U G C) (target : ClientParts) (m : Move)
      (moves : (id : ClientParts) → (answer : Moved)
      × MovedFor (over_scripts views) id before.offer target m answer (seen id before) (e.lacks id) (e.did id) (seen id after)) where
    -- what the move makes of the transport of its client, if there is one
    becomes : (t : Script) × IsSet target t true target (e.did target)
    becomes = of (seen target before).part refl (rw (same_self target) at (moves target).1)
      where
        of : (o : Option (Part Script U C)) → (seen target before).part ≡ o → OnMoved (over_scripts views) o (moves target).0 m (seen target before)
            (e.lacks target) (e.did target) (seen target after)
            → (t : Script) × IsSet target t true target (e.did target)
        of None is (missing, (lacked, none, same)) = (blank, (grind (arith, is, lacked, none, same)))
        of (Some p) is (q, (lacked, none, (t, by, set)), same) = (t, rw is (q, (refl, none, (t, refl, set)), same))

    each_set : (id : ClientParts) → IsSet target becomes.0 (same_client target id) id (e.did id)
    each_set id = on (same_client target id) refl (moves id).1
      where
        on : (b : Bool) → same_client target id ≡ b
            → OfMoved (over_scripts views) b (moves id).0 m (seen id before) (e.lacks id) (e.did id) (seen id after)
            → IsSet target becomes.0 b id (e.did id)
        on h1 same h = grind (arith, becomes, same_is)

    stands : after.offer ≡ before.offer → after.last_client ≡ before.last_client + 0 → MakesNotes before after
        → IsChangeFor e.call (Changed target becomes.0) → Stands e
    stands offer last notes is = (
      record { call = Changed target becomes.0; refused = false; lacks = λ id. false; did = e.did },
      inr (is, refl, refl),
      grind (arith, false≢true, each_set),
    )

  pub call_or_change : (e : Entry Script U G C) → OneStep (over_scripts views) before e after → Stands e
  call_or_change e one = on e.call one
    where
      with_call : Call Script U G C → Entry Script U G C
      with_call call = record e { call = call }

      on : (call : Call Script U G C) → OneStep (over_scripts views) before (with_call call) after → Stands (with_call call)
      on (Asked (step.Arrive target bytes tokens) answer) one =
          stands (with_call (Asked (step.Arrive target bytes tokens) answer)) target (Arrive (record { bytes = bytes.items; tokens = tokens.items }))
          (λ id. (_, (one.each id).2)) one.offer one.last one.notes refl
      on (Asked (step.ArriveFault target f) answer) one =
          stands (with_call (Asked (step.ArriveFault target f) answer)) target (ArriveFault f)
          (λ id. (_, (one.each id).2)) one.offer one.last one.notes refl
      on (Asked (step.Accept target n) answer) one =
          stands (with_call (Asked (step.Accept target n) answer)) target (Accept n) (λ id. (_, (one.each id).2)) one.offer one.last one.notes refl
      on (Asked (step.AcceptFault target f) answer) one =
          stands (with_call (Asked (step.AcceptFault target f) answer)) target (AcceptFault f)
          (λ id. (_, (one.each id).2)) one.offer one.last one.notes refl
      on (Asked (step.TakeSent target) answer) one =
          stands (with_call (Asked (step.TakeSent target) answer)) target TakeSent (λ id. (_, (one.each id).2)) one.offer one.last one.notes refl
      on call one = (
        with_call call,
        inl refl,
        grind (arith),
      )

module _ {U G C : Type 0} (views : G → ClientParts → C → GlobalParts → Bool) where
  -- a run over the transport by script stands for one of calls over it, with changes of a client's transport
  pub run_of_calls : (before : ServerState Script U G C) (run : List (Entry Script U G C)) (after : ServerState Script U G C)
      → Leads (over_scripts views) before run after
      → (others : List (Entry Script U G C)) × EachStandsFor run others × Leads (by_script views) before others after
  run_of_calls before [] after same = ([], refl, same)
  run_of_calls before (e ∷ run) after (mid, one, leads) =
      let (others, stand, behind) = run_of_calls mid run after leads in
      let (other, stands, made) = call_or_change views before mid e one in
      (other ∷ others, (stands, stand), (mid, made, behind))
