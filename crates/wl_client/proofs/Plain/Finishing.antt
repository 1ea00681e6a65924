-- The end of an event.
use Rattle.std.proofs.Common.{◌≡◌, Bool, true, false, cond, Option, None, Some, IsSome, is_some, option_map, Result, Err, refl, sym, ap, ◌∙◌, true≢false, arith}
use Rattle.std.specs.Prelude.{◌&&◌}
use Rattle.wl_link.proofs.Calls.Branches.{both_option}
use Rattle.wl_link.specs.declared.object.Object.{Object}
use Rattle.wl_link.specs.Store.{Store}
use Rattle.wl_client.specs.declared.error.FinishError.{FinishError}
use Rattle.wl_client.specs.declared.error.FinishRefused.{FinishRefused}
use Rattle.wl_client.specs.declared.event.OpenEvent.{OpenEvent}
use Rattle.wl_client.specs.declared.objects.Kept.{Kept}
use Rattle.wl_client.specs.Finish.{Finishes, Refuses, after_destructor, core_finished, data_given, refusal, with_data_for, with_dead}
use Rattle.wl_client.specs.ObjectId.{IdParts}
use Rattle.wl_client.specs.Objects.{info_in, user_data_in}
use Rattle.wl_client.specs.Plain.{EndsEvent, EventIsEnded, NotEnded, is_made, same_object, with_end}
use Rattle.wl_client.specs.Session.{Core, SessionState, alive, core_of, flagged, id_at, named, noted, with_core, with_user_data}
use Rattle.wl_client.proofs.OverRuns.ReadingLaws.{finish_as}
use Rattle.wl_client.proofs.Plain.Naming.{names_so, rewritten_named, rewritten_others, same_names}

-- ---- data are given to the object that an id names

alive_given : {U : Type 0} (o : Option (Object (Kept U))) (u : U) → alive o ≡ None → alive (option_map (with_user_data u) o) ≡ None
alive_given o u h1 = grind (arith, with_user_data, true≢false, is_some)

data_in_given : {U : Type 0} (o : Option (Object (Kept U))) (u : U) → IsSome o → user_data_in (option_map (with_user_data u) o) ≡ Some u
data_in_given None u some = absurd (true≢false (sym some))
data_in_given (Some x) u some = refl

module _ {U : Type 0} (store : Store (Kept U)) (id : IdParts) (u : U) where
  given_named : named (data_given store id.number (named store id) u) id ≡ option_map (with_user_data u) (named store id)
  given_named = grind (arith, named, data_given, option_map, with_user_data, rewritten_named, names_so)

  given_others : (other : IdParts) → same_object id other ≡ false → named (data_given store id.number (named store id) u) other ≡ named store other
  given_others other differ = grind (arith, named, data_given, rewritten_others, with_user_data, names_so)

  -- what is not alive stays so
  given_gone : (other : IdParts) → alive (named store other) ≡ None → alive (named (data_given store id.number (named store id) u) other) ≡ None
  given_gone other gone = at (same_object id other) refl
    where
      after : Store (Kept U)
      after = data_given store id.number (named store id) u

      at : (b : Bool) → same_object id other ≡ b → alive (named after other) ≡ None
      at false differ = ap alive (given_others other differ) ∙ gone
      at true same = grind (arith, alive, same_names, after, given_named, alive_given, named)

-- ---- the sender is destroyed

module _ {U : Type 0} (c : Core U) (id : IdParts) where
  abbrev dead : Core U
  dead = with_dead c id.number (named c.store id)

  dead_here : named dead.store id ≡ option_map (flagged true) (named c.store id)
  dead_here = grind (arith, named, with_dead, option_map, flagged, rewritten_named, names_so)

  dead_others : (other : IdParts) → same_object id other ≡ false → named dead.store other ≡ named c.store other
  dead_others other differ = grind (arith, named, with_dead, rewritten_others, flagged, names_so)

  dead_kept : (other : IdParts) → IsSome (named c.store other) → IsSome (named dead.store other)
  dead_kept other kept = grind (arith, same_object, option_map, flagged, named, is_some, dead_others, same_names, dead_here)

  dead_gone : alive (named dead.store id) ≡ None
  dead_gone = grind (arith, alive, dead_here, named, option_map, flagged)

  dead_notes : dead.notes ≡ with_end c.notes id.number (alive (named c.store id))
  dead_notes = grind (arith, named, with_dead, with_end, alive, noted, id_at)

-- ---- an event

module _ {T U : Type 0} (s : SessionState T U) (event : OpenEvent) (u : Option U) where
  abbrev closed : Core U
  closed = record (core_of s) { open_event = None }

  abbrev ended : Core U
  ended = after_destructor closed event

  ended_others : (id : IdParts) → (event.is_destructor && same_object event.sender id) ≡ false → named ended.store id ≡ named s.store id
  ended_others id differ = at event.is_destructor differ
    where
      at : (b : Bool) → (b && same_object event.sender id) ≡ false
          → named (cond b (dead closed event.sender) closed).store id ≡ named s.store id
      at true differ = dead_others closed event.sender id differ
      at false differ = refl

  ended_kept : (id : IdParts) → IsSome (named s.store id) → IsSome (named ended.store id)
  ended_kept id kept = at event.is_destructor
    where
      at : (b : Bool) → IsSome (named (cond b (dead closed event.sender) closed).store id)
      at true = dead_kept closed event.sender id kept
      at false = kept

  ended_gone : event.is_destructor ≡ true → alive (named ended.store event.sender) ≡ None
  ended_gone is = at event.is_destructor is
    where
      at : (b : Bool) → b ≡ true → alive (named (cond b (dead closed event.sender) closed).store event.sender) ≡ None
      at true is = dead_gone closed event.sender
      at false is = absurd (true≢false (sym is))

  ended_notes : ended.notes ≡ cond event.is_destructor (with_end s.notes event.sender.number (alive (named s.store event.sender))) s.notes
  ended_notes = grind (arith, with_end, alive, named, dead_notes)

  -- the destructor changes nothing else
  ended_rest : (ended.open_event ≡ None) × (ended.error ≡ s.error) × (ended.table ≡ s.table)
  ended_rest = grind (arith, with_dead, named)

  ended_settings : (ended.passes_over ≡ s.passes_over) × (ended.keeps_freed ≡ s.keeps_freed) × (ended.freed ≡ s.freed)
  ended_settings = grind (arith, with_dead, named)

-- the object that the event made gets the data; all else is as it was
module _ {U : Type 0} (c : Core U) where
  given_rest : (created : Option IdParts) (u : Option U)
      → ((with_data_for c created u).open_event ≡ c.open_event) × ((with_data_for c created u).error ≡ c.error) × ((with_data_for c created u).notes ≡ c.notes)
      × ((with_data_for c created u).table ≡ c.table)
  given_rest created u = grind (arith)

  given_settings : (created : Option IdParts) (u : Option U)
      → ((with_data_for c created u).passes_over ≡ c.passes_over) × ((with_data_for c created u).keeps_freed ≡ c.keeps_freed)
      × ((with_data_for c created u).freed ≡ c.freed)
  given_settings created u = grind (arith)

  given_elsewhere : (created : Option IdParts) (u : Option U) (id : IdParts) → is_made created id ≡ false → named (with_data_for c created u).store id ≡ named c.store id
  given_elsewhere created u id h1 = grind (arith, given_others)

  given_none : (created : Option IdParts) (u : Option U) (id : IdParts) → alive (named c.store id) ≡ None → alive (named (with_data_for c created u).store id) ≡ None
  given_none created u id h1 = grind (arith, given_gone)

  given_data : (created : Option IdParts) (u : Option U) (id : IdParts) (d : U) → created ≡ Some id → u ≡ Some d → IsSome (named c.store id)
      → user_data_in (named (with_data_for c created u).store id) ≡ Some d
  given_data created u id d made given kept = grind (arith, user_data_in, named, with_data_for, given_named, data_in_given)

fitting : {U : Type 0} (created : Option IdParts) (u : Option U) → refusal created u ≡ None → is_some u ≡ is_some created
fitting created u h1 = grind (arith, true≢false, is_some)

-- why it was refused
unfitting : {T U : Type 0} (s : SessionState T U) (event : OpenEvent) (created : Option IdParts) (u : Option U) (e : FinishError) → s.open_event ≡ Some event → event.created ≡ created
    → refusal created u ≡ Some e → NotEnded s u e
unfitting s event created u e h1 h2 h3 = grind (arith, true≢false, is_some)

module _ {T U : Type 0} (s : SessionState T U) (u : Option U) where
  is_ended : (event : OpenEvent) → s.open_event ≡ Some event → refusal event.created u ≡ None → EventIsEnded s event u (with_core s (core_finished (core_of s) event u))
  is_ended event some fits =
      let c : Core U = ended s event u in
      let rest = given_rest c event.created u in
      let given = given_settings c event.created u in
      let kept = ended_settings s event u in
      record {
        was_open = some;
        closed = rest.0 ∙ (ended_rest s event u).0;
        fits = fitting event.created u fits;
        created = λ id d made given kept. given_data c event.created u id d made given (ended_kept s event u id kept);
        ended = λ is. ap (info_in event.sender.number) (given_none c event.created u event.sender (ended_gone s event u is));
        notes = rest.2 ∙ ended_notes s event u;
        others = λ id differ other. given_elsewhere c event.created u id other ∙ ended_others s event u id differ;
        error = rest.1 ∙ (ended_rest s event u).1;
        table = rest.3 ∙ (ended_rest s event u).2;
        link = refl;
        settings = (given.0 ∙ kept.0, (given.1 ∙ kept.1, given.2 ∙ kept.2));
      }

  refused_so : (e other : FinishError) (d : Option U) (after : SessionState T U) → Refuses s u other (Err (record { error = e; user_data = d })) after → NotEnded s u other
      → (d ≡ u) × (after ≡ s) × NotEnded s u e
  refused_so e other d after (is, same) why = grind (arith)

  pub ends_event : (answer : Result (Unit {0}) (FinishRefused U)) (after : SessionState T U) → Finishes s u answer after → EndsEvent s u answer after
  ends_event answer after h1 = grind (arith, finish_as, is_ended, both_option, refused_so, refusal, fitting, unfitting)
