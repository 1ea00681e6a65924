-- That no id of a client or of a global is given twice, and that one which names none any longer never names one again.
use Rattle.std.proofs.Common.{◌≡◌, ◌≢◌, ◌⊎◌, ℕ, ◌+◌, ◌<◌, ◌≤◌, Bool, false, cond, eqb, List, [], ◌∷◌, Option, None, Some, is_some, Ok, refl, sym, ap, subst, ◌∙◌, true≢false, arith}
use mathlib.Core.Logic.{inl, inr}
use Rattle.std.specs.Prelude.{◌&&◌, IsSome, is_ok, nat_le, option_map, slice_get}
use Rattle.std.proofs.lemmas.Bool.{cases_eq, eqb-true, eq-eqb, ne_eqb, cases_Bool}
use Rattle.std.proofs.lemmas.Option.{same_Some, none-some}
use Rattle.wl_wire.specs.declared.interface.InterfaceId.{InterfaceId}
use Rattle.wl_wire.specs.Table.{InterfaceRow}
use Rattle.wl_link.specs.declared.object.Object.{Object}
use Rattle.wl_link.proofs.Calls.Branches.{either_bool, either_option}
use Rattle.wl_link.specs.Identity.{named_in}
use Rattle.wl_link.specs.Store.{held, stored}
use Rattle.wl_link.proofs.Ids.StoreLaws.{held_empty, removed_here, removed_other, rewritten_here, rewritten_other, stored_here, stored_other}
use Rattle.wl_server_client.specs.declared.globals.KeptGlobal.{KeptGlobal}
use Rattle.wl_server_model.specs.declared.step.Reply.TheVariants as reply
use Rattle.wl_server_model.specs.declared.step.Step.TheVariants as step
use Rattle.wl_server_model.specs.GivenOnce.{ClientsRise, GivesOnce, GlobalsRise, Offers, SomeCall, global_by, global_over, same_global}
use Rattle.wl_server_client.specs.Globals.{CreatesGlobal, Globals, IsNextGlobal, Offer, as_disabled, disabled, disabled_at, freed, freed_at, global_of, global_serial, new_global, new_offer}
use Rattle.wl_server_client.specs.Ids.{ClientParts, GlobalParts, same_client}
use Rattle.wl_server_model.specs.PartStep.{Asked, Call, World}
use Rattle.wl_server_model.specs.Runs.{Inserts, IsNotInserted, Leads, SharedAlone}
use Rattle.wl_server_model.specs.Server.{ServerState, new_server, seen}
use Rattle.wl_server_model.specs.Steps.{AnswersShared, Entry, inserted_by, offer_after}
use Rattle.wl_server_model.proofs.OverRuns.Alone.IsolationLaw.{one_more, shared_run, split_run}
use Rattle.wl_server_model.proofs.OverRuns.Killed.KilledLaws.{out_next, out_run}
use Rattle.wl_server_model.proofs.GlobalCalls.AtName.{created_next, next_absent}
use Rattle.wl_server_model.proofs.OverRuns.Outcome.NumberLaws.{global_is}
use Rattle.wl_server_model.proofs.CallSteps.Slots.{same_parts}

some_none : {A : Type 0} {o : Option A} → IsSome o → o ≡ None → ⊥
some_none some none = true≢false (sym some ∙ ap is_some none)

-- ---- the global that an id names

module _ {G : Type 0} where
  -- what the id names, if its name holds that
  abbrev named_at : GlobalParts → Option (Object (KeptGlobal G)) → Option (Object (KeptGlobal G))
  named_at g o = cond (eqb g.name 0) None (named_in global_serial (record { number = g.name; serial = g.serial }) o)

  none_at : (g : GlobalParts) → named_at g None ≡ None
  none_at g = grind (arith, eqb, global_serial)

-- ---- two ids

-- of one name they are the same if their serials are
same_named : (target g : GlobalParts) → g.name ≡ target.name → same_global target g ≡ eqb target.serial g.serial
same_named target g same = ap (λ (b : Bool). b && eqb target.serial g.serial) (eq-eqb target.name g.name (sym same))

-- ---- what a call does to what an id names

module _ {G : Type 0} where
  -- a change of what the target names, of each id
  abbrev pub Changes : (Option (Object (KeptGlobal G)) → Option (Object (KeptGlobal G))) → Globals G → GlobalParts → Globals G → Type 0
  Changes change globals target after =
      (g : GlobalParts) → global_of after g ≡ cond (same_global target g) (change (global_of globals g)) (global_of globals g)

  -- nothing has changed, where the target names none
  none_changes : (change : Option (Object (KeptGlobal G)) → Option (Object (KeptGlobal G))) → change None ≡ None
      → (globals : Globals G) (target : GlobalParts)
      → global_of globals target ≡ None → Changes change globals target globals
  none_changes change nothing globals target none g = grind (arith, same_global, global_of, eqb, global_is, eqb-true, true≢false)

  -- the value at the name is another, or there is none
  one_changes : (change : Option (Object (KeptGlobal G)) → Option (Object (KeptGlobal G))) → change None ≡ None
      → (globals after : Globals G) (target : GlobalParts) (x : Object (KeptGlobal G))
      → global_of globals target ≡ Some x
      → ((g : GlobalParts) → g.name ≢ target.name → held after.store g.name ≡ held globals.store g.name)
      → ((g : GlobalParts) → g.name ≡ target.name → (z : Bool) → eqb g.name 0 ≡ z
      → global_of after g ≡ cond z None (cond (eqb x.value.serial g.serial) (change (Some x)) None))
      → Changes change globals target after
  one_changes change nothing globals after target x is elsewhere here g =
      elim (cases_eq g.name target.name) [
        | inl same ↦ grind (arith, eqb, both, cond, named_at, held, global_serial, global_of, same_Some, eqb-true, none-some, same_named)
        | inr other ↦ grind (arith, named_at, cond, global_of, eqb, ne_eqb)
      ]
    where
      both : (z b : Bool) → cond z None (cond b (change (Some x)) None)
          ≡ cond b (change (cond z None (cond b (Some x) None))) (cond z None (cond b (Some x) None))
      both z b = grind (arith)

  pub disabled_changes : (globals : Globals G) (target : GlobalParts) → Changes (option_map as_disabled) globals target (disabled globals target)
  disabled_changes globals target =
      grind (arith, global_of, none_changes, option_map, as_disabled, one_changes, disabled_at, rewritten_other, named_at, rewritten_here, cond, eqb)

  pub freed_changes : (globals : Globals G) (target : GlobalParts) → Changes (λ o. None) globals target (freed globals target)
  freed_changes globals target = grind (arith, global_of, none_changes, one_changes, freed_at, removed_other, named_at, removed_here, none_at, eqb)

  created_other : (globals : Globals G) (i : InterfaceId) (version : ℕ) (handler : G) (new : GlobalParts) → IsNextGlobal globals new
      → (last : ℕ) (g : GlobalParts)
      → (g.serial ≢ new.serial) → global_of (record globals { store = stored globals.store new.name (new_global i version new.serial handler); last_serial = last }) g ≡ global_of globals g
  created_other globals i version handler new by last g older =
      let free : held globals.store new.name ≡ None = next_absent globals new by in
      grind (arith, new_global, cases_eq, stored_here, eqb, true≢false, ne_eqb, none_at, stored_other)

  -- nor does any other id
  pub created_elsewhere : (globals : Globals G) (i : InterfaceId) (version : ℕ) (handler : G) (new : GlobalParts) → IsNextGlobal globals new
      → (last : ℕ) (g : GlobalParts)
      → same_global new g ≡ false → global_of (record globals { store = stored globals.store new.name (new_global i version new.serial handler); last_serial = last }) g ≡ global_of globals g
  created_elsewhere globals i version handler new h1 last g h2 =
      grind (arith, cases_eq, created_other, true≢false, same_named, eq-eqb, named_at, stored_other, new_global, stored_here, eqb, ne_eqb, none_at)

-- ---- a call

module _ {G : Type 0} where
  -- a global that is created has the next id
  next_in : (offer : Offer G) (i : InterfaceId) (version : ℕ) (g : GlobalParts) → CreatesGlobal offer.table offer.globals i version (Ok g)
      → IsNextGlobal offer.globals g
  next_in offer i version g by = created_next offer.table offer.globals i version g by

module _ {T U G C : Type 0} where
  offered_next : (offer : Offer G) (call : Call T U G C) (g : GlobalParts) → AnswersShared offer call → Offers g call → IsNextGlobal offer.globals g
  offered_next offer call g by (i, version, handler, is) = next_in offer i version g (subst (λ (c : Call T U G C). AnswersShared offer c) is by)

  offered_last : (offer : Offer G) (call : Call T U G C) (g : GlobalParts) → Offers g call → (offer_after offer call).globals.last_serial ≡ g.serial
  offered_last offer call g (i, version, handler, is) = ap (λ (c : Call T U G C). (offer_after offer c).globals.last_serial) is

  -- the last serial of a global never falls
  last_grows : (offer : Offer G) (call : Call T U G C) → AnswersShared offer call
      → offer.globals.last_serial ≤ (offer_after offer call).globals.last_serial
  last_grows offer call h1 = grind (arith, next_in, global_of)

  -- what the id of a global that was given before names after a call
  named_by : (offer : Offer G) (call : Call T U G C) (g : GlobalParts) → AnswersShared offer call → g.serial ≤ offer.globals.last_serial
      → global_of (offer_after offer call).globals g ≡ global_by g call (global_of offer.globals g)
  named_by offer call g h1 h2 = grind (arith, next_in, created_other, disabled_changes, freed_changes, either_option, slice_get, true≢false, is_ok, either_bool, nat_le, new_global, cases_eq, stored_here, eqb, ne_eqb, none_at, stored_other, global_of, none_changes, option_map, as_disabled, one_changes, disabled_at, rewritten_other, named_at, rewritten_here, freed_at, removed_other, removed_here)

  -- an id names after a call what it named before, or the global that the call creates
  named_before : (offer : Offer G) (call : Call T U G C) (g : GlobalParts) → AnswersShared offer call
      → IsSome (global_of (offer_after offer call).globals g)
      → IsSome (global_of offer.globals g) ⊎ Offers g call
  named_before offer (Asked (step.CreateGlobal i version handler) (reply.CreateGlobal (Ok new))) g by some =
      elim (cases_Bool (same_global new g)) [
        | inl same ↦ inr (i, version, handler, ap (λ (x : GlobalParts). Asked (step.CreateGlobal i version handler) (reply.CreateGlobal (Ok x))) (grind (arith, global_is, eqb-true, same_global)))
        | inr other ↦ inl (subst IsSome (created_elsewhere offer.globals i version handler new
            (next_in offer i version new by) new.serial g other) some)
      ]
  named_before offer _ g by some = grind (arith, some_none, option_map, as_disabled, same_global, global_of, disabled_changes, freed_changes)

  -- ---- a run of the shared calls

  -- each id that is given in a run comes behind those before it, and is not behind the last
  pub clients_given : (offer offer' : Offer G) (last last' : ℕ) (run : List (Entry T U G C)) → SharedAlone offer last run offer' last'
      → (last ≤ last') × ((new : ClientParts) → SomeCall (Inserts new) run → (last < new.serial) × (new.serial ≤ last'))
  clients_given offer offer' last last' [] (same, is) = (omega (arith, is), λ new none. absurd none)
  clients_given offer offer' last last' (e ∷ run) (by, next, rest) =
      let (grown, more) = clients_given (offer_after offer e.call) offer' (last + inserted_by e.call) last' run rest in
      (omega (arith, grown), λ new some. (grind (arith, next new, one_more e.call new, more new)))

  globals_given : (offer offer' : Offer G) (last last' : ℕ) (run : List (Entry T U G C)) → SharedAlone offer last run offer' last'
      → (offer.globals.last_serial ≤ offer'.globals.last_serial)
      × ((new : GlobalParts) → SomeCall (Offers new) run → (offer.globals.last_serial < new.serial) × (new.serial ≤ offer'.globals.last_serial))
  globals_given offer offer' last last' [] (same, is) =
      (let e = ap (λ (o : Offer G). o.globals.last_serial) same in omega (arith, e), λ new none. absurd none)
  globals_given offer offer' last last' (e ∷ run) (by, next, rest) =
      let (grown, more) = globals_given (offer_after offer e.call) offer' (last + inserted_by e.call) last' run rest in
      let step = last_grows offer e.call by in
      (omega (arith, grown, step), λ new some. (grind (arith, offered_next offer e.call new by, offered_last offer e.call new, more new)))

  clients_rise : (offer offer' : Offer G) (last last' : ℕ) (run : List (Entry T U G C)) → SharedAlone offer last run offer' last' → ClientsRise run
  clients_rise offer offer' last last' [] shared = tt
  clients_rise offer offer' last last' (e ∷ run) (by, next, rest) =
      let more = (clients_given (offer_after offer e.call) offer' (last + inserted_by e.call) last' run rest).1 in
      let rise = clients_rise (offer_after offer e.call) offer' (last + inserted_by e.call) last' run rest in
      (λ old new is later. (omega (arith, (next old is).1, one_more e.call old is, (more new later).0)), rise)

  globals_rise : (offer offer' : Offer G) (last last' : ℕ) (run : List (Entry T U G C)) → SharedAlone offer last run offer' last' → GlobalsRise run
  globals_rise offer offer' last last' [] shared = tt
  globals_rise offer offer' last last' (e ∷ run) (by, next, rest) =
      let more = (globals_given (offer_after offer e.call) offer' (last + inserted_by e.call) last' run rest).1 in
      let rise = globals_rise (offer_after offer e.call) offer' (last + inserted_by e.call) last' run rest in
      (λ old new is later. (omega (arith, offered_last offer e.call old is, (more new later).0)), rise)

  -- what the id of a global that was given before names after a run
  named_over : (offer offer' : Offer G) (last last' : ℕ) (run : List (Entry T U G C)) → SharedAlone offer last run offer' last' → (g : GlobalParts)
      → g.serial ≤ offer.globals.last_serial
      → global_of offer'.globals g ≡ global_over g run (global_of offer.globals g)
  named_over offer offer' last last' [] (same, is) g given = ap (λ (o : Offer G). global_of o.globals g) same
  named_over offer offer' last last' (e ∷ run)
      (by, next, rest) g given = grind (arith, offer_after, inserted_by, last_grows, global_over, named_by, named_over (offer_after offer e.call) offer' (last + inserted_by e.call) last' run rest g)

  made_over : (offer offer' : Offer G) (last last' : ℕ) (run : List (Entry T U G C)) → SharedAlone offer last run offer' last' → (g : GlobalParts)
      → IsSome (global_of offer'.globals g)
      → IsSome (global_of offer.globals g) ⊎ SomeCall (Offers g) run
  made_over offer offer' last last' [] (same, is) g some = inl (subst (λ (o : Offer G). IsSome (global_of o.globals g)) same some)
  made_over offer offer' last last' (e ∷ run)
      (by, next, rest) g some = grind (arith, offer_after, inserted_by, named_before, made_over (offer_after offer e.call) offer' (last + inserted_by e.call) last' run rest g some)

  none_over : (g : GlobalParts) (run : List (Entry T U G C)) → global_over g run None ≡ None
  none_over g [] = refl
  none_over g (e ∷ run) = ap (global_over g run) (grind (arith, same_global, option_map, as_disabled, e.call)) ∙ none_over g run

  -- ---- the clients that a run inserts

  either_inserts : (id : ClientParts) (call : Call T U G C) → Inserts id call ⊎ IsNotInserted id call
  either_inserts id (Asked (step.InsertClient transport client_data) (reply.InsertClient (Ok new))) =
      elim (cases_parts id new) [
        | inl same ↦ inl (transport, client_data, ap (λ (k : ClientParts). Asked (step.InsertClient transport client_data) (reply.InsertClient (Ok k))) same)
        | inr other ↦ inr (λ k (t, c, is). (grind (arith)))
      ]
    where
      cases_parts : (a b : ClientParts) → (b ≡ a) ⊎ (same_client b a ≡ false)
      cases_parts a b = grind (arith, same_parts, eqb, eqb-true, same_client)
  either_inserts id call = inr (λ new (t, c, is). absurd cc)

  client_made_over : (w : World T G C) (before after : ServerState T U G C) (run : List (Entry T U G C)) (id : ClientParts) → Leads w before run after
      → IsSome (seen id after).part
      → IsSome (seen id before).part ⊎ SomeCall (Inserts id) run
  client_made_over w before after [] id same some = inl (subst (λ (s : ServerState T U G C). IsSome (seen id s).part) same some)
  client_made_over w before after (e ∷ run) id (mid, by, leads) some =
      elim (client_made_over w mid after run id leads some) [
        | inr later ↦ inr (inr later)
        | inl now ↦
            elim (either_inserts id e.call) [
              | inl is ↦ inr (inl is)
              | inr other ↦ inl (stored_before (seen id before).part refl other now)
            ]
      ]
    where
      stored_before : (o : Option _) → (seen id before).part ≡ o → IsNotInserted id e.call → IsSome (seen id mid).part → IsSome o
      stored_before (Some p) there other now = refl
      stored_before None none other now = absurd (some_none now (out_next w id before mid e none other by))

-- ---- every run of a new server

module _ {T U G C : Type 0} where
  pub gives_once : (w : World T G C) (table : List InterfaceRow) (run : List (Entry T U G C)) (after : ServerState T U G C)
      → Leads w (new_server table) run after
      → GivesOnce w table run after
  gives_once w table run after leads =
      let shared = shared_run w (new_server table) after run leads in
      record {
        clients = clients_rise (new_offer table) after.offer 0 after.last_client run shared;
        globals = globals_rise (new_offer table) after.offer 0 after.last_client run shared;
        client_made = λ id some. (
            elim (client_made_over w (new_server table) after run id leads some) [
              | inl new ↦ absurd (true≢false (sym new))
              | inr made ↦ made
            ]
            );
        global_made = λ g some. (
            elim (made_over (new_offer table) after.offer 0 after.last_client run shared g some) [
              | inl new ↦ absurd (some_none new (ap (named_at g) (held_empty g.name) ∙ none_at g))
              | inr made ↦ made
            ]
            );
        names_global = λ g i version handler earlier later e split creates. let (mid, first, (next, by, rest)) =
            split_run w (new_server table) after earlier (e ∷ later)
            (subst (λ (r : List (Entry T U G C)). Leads w (new_server table) r after) split leads) in
            let call : Call T U G C = Asked (step.CreateGlobal i version handler) (reply.CreateGlobal (Ok g)) in
            let offered : next.offer ≡ offer_after mid.offer call =
            by.offer ∙ ap (λ (c : Call T U G C). offer_after mid.offer c) creates in
            let number = offered_next mid.offer e.call g by.global (i, version, handler, creates) in
            let last : next.offer.globals.last_serial ≡ g.serial = ap (λ (o : Offer G). o.globals.last_serial) offered in
            named_over next.offer after.offer next.last_client after.last_client later (shared_run w next after later rest) g (omega (arith, last))
            ∙ ap (global_over g later) (ap (λ (o : Offer G). global_of o.globals g) offered
            ∙ (grind (arith, new_global, stored_here, eqb, ne_eqb, eq-eqb, mid.offer.globals, g.serial)));
        no_client_again = λ id done later point split first others made none. (
            (out_run w id point after later ((clients_given (new_offer table) point.offer 0 point.last_client done
            (shared_run w (new_server table) point done first)).1 id made).1 none others).none
            );
        no_global_again = λ g done later point split first others made none. (
            let given = ((globals_given (new_offer table) point.offer 0 point.last_client done
            (shared_run w (new_server table) point done first)).1 g made).1 in
            named_over point.offer after.offer point.last_client after.last_client later (shared_run w point after later others) g given
            ∙ ap (global_over g later) none ∙ none_over g later
            );
      }
