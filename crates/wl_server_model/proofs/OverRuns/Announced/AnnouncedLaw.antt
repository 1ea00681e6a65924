-- That what a client's registries announced is what it is shown: over every run.
use Rattle.std.proofs.Common.{◌≡◌, ◌≢◌, ℕ, ◌≤◌, Bool, true, false, List, [], ◌∷◌, ◌++◌, map, append-nil, append_assoc, Option, None, Some, Result, Ok, Err, MatchBool, MatchOption, refl, sym, ap, subst, ◌∙◌, true≢false, arith, cond, eqb, codes, ◌⊎◌, not}
use mathlib.Core.Logic.{inl, inr}
use Rattle.std.specs.Prelude.{◌+◌, Contains, Vec, if◌then◌else◌, slice_get, MatchBool}
use Rattle.std.specs.Global.{Global}
use Rattle.std.proofs.lemmas.Bool.{cases_eq, eq-eqb, ne_eqb}
use Rattle.std.proofs.lemmas.Option.{same_Some, none-some}
use Rattle.wl_wire.specs.declared.error.IoFault.{IoFault}
use Rattle.wl_wire.specs.declared.error.OutOfMemory.{OutOfMemory}
use Rattle.wl_wire.specs.declared.interface.InterfaceId.{InterfaceId}
use Rattle.wl_wire.specs.declared.protocol.TableError.{TableError}
use Rattle.wl_wire.specs.Table.{Extension, InterfaceRow, LongerRow, NewRows, after_extension}
use Rattle.wl_link.specs.declared.object.Object.{Object}
use Rattle.wl_link.proofs.Calls.Branches.{either_bool, either_option}
use Rattle.wl_link.specs.Identity.{Id}
use Rattle.wl_link.specs.Link.{LinkState, with_transport}
use Rattle.wl_link.specs.Puts.{Said}
use Rattle.wl_link.specs.Store.{empty_store, held, stored}
use Rattle.wl_link.proofs.Ids.StoreLaws.{held_empty, stored_here, stored_other}
use Rattle.wl_server_client.specs.declared.error.GlobalError.{GlobalError}
use Rattle.wl_server_client.specs.declared.objects.Kept.{Kept}
use Rattle.wl_server_client.specs.declared.globals.KeptGlobal.{KeptGlobal}
use Rattle.wl_server_client.specs.declared.notes.Happening.{Happening}
use Rattle.wl_server_client.specs.declared.notes.Note.{Note}
use Rattle.wl_server_model.specs.declared.step.Reply.{Reply}
use Rattle.wl_server_model.specs.declared.step.Step.{Step}
use Rattle.wl_server_model.specs.declared.step.Step.TheVariants as step
use Rattle.wl_server_model.proofs.OverRuns.Ids.AmongLaws.{among_contains, contains_among, among_both, among_first, among_later, among_filter, filter_among}
use Rattle.wl_server_model.specs.Announced.{AreSameGlobals, EachAnnouncesShown, IsAlwaysLeftAlone, IsLeftAlone, announced, shown_of, Announced, announced_as, announced_over, without_name}
use Rattle.wl_server_client.specs.Chosen.{has_version, is_free_own, with_version}
use Rattle.wl_server_client.specs.Deeds.{Deed, NoteTaken, Noted, log_of, registries_in}
use Rattle.wl_server_client.specs.Felt.{Hears, removals, announcements, is_first}
use Rattle.wl_server_client.specs.Globals.{CreatesGlobal, Globals, Offer, global_of, handing_registries, is_enabled, keeping, new_offer, with_created, with_globals, with_table, Shown, new_global, disabled_at, freed_at}
use Rattle.wl_server_client.specs.Ids.{ClientParts, GlobalParts, same_client}
use Rattle.wl_server_model.proofs.OverRuns.Alone.IsolationLaw.{offer_run, shared_run, split_run}
use Rattle.wl_server_model.specs.Moves.{Move, Moved}
use Rattle.wl_server_model.proofs.OverRuns.Alone.OwnRuns.{AreMine, are_mine}
use Rattle.wl_server_client.specs.Part.{Part, display_object, id_of, with_link, named, last_possible_serial}
use Rattle.wl_server_model.specs.PartStep.{Asked, Call, Changed, CleanedAs, FeelsGlobal, FeelsLoss, FlushedFor, Grown, MovedFor, NotesTaken, OfClient, OnPart, PartCall, PartStep, ReadsFor, Unfelt, World}
use Rattle.wl_server_model.specs.Runs.{Alone, Leads, Own, SharedAlone, just_inserted, concerns, history, is_about, mine, offer_over}
use Rattle.wl_server_model.specs.Server.{Seen, ServerState, new_server, seen}
use Rattle.wl_server_model.proofs.OverRuns.Announced.InterfaceLaws.{HasInterfaces, after_call, after_run, at_first}
use Rattle.wl_server_model.proofs.OverRuns.Announced.ShownLaws.{among_shown, shown_among, Hides, StaysShown, IsShown, created_new, created_old, stored_stays, created_only, hidden_old, hidden_only, renamed_stays, hidden_stays, disabled_hides, removed_hides}
use Rattle.wl_server_model.specs.Steps.{Entry, AnswersShared, inserted_by, offer_after}
use Rattle.wl_server_model.proofs.OverRuns.Announced.WatchedCalls.{destroys_lives, finishes_bind_lives, finishes_lives, relinked_lives, sends_lives, none_done, quietly}
use Rattle.wl_server_model.proofs.OverRuns.Announced.WatchedReadings.{next_action_lives}
use Rattle.wl_server_model.proofs.OverRuns.Announced.WatchedVerdicts.{PartLives, log_both, registries_both, carried_to, exchanged, tells_lives, silent_sends, IsSilent}
use Rattle.wl_server_model.proofs.OverRuns.Announced.Watching.{Watch, part_scene, Scene, scene_of, told_all, told_none, steady_same, rewrote_goes, wrote_goes, born_goes, Goes, goes_not, Announces, goes_so}
use Rattle.wl_server_model.proofs.OverRuns.Announced.AnnouncementLaws.{announced-append, some_turns}
use Rattle.wl_server_client.specs.Telling.{Core, Tells, core_of, global_message, making, removal_message, speaker, tells}
use Rattle.std.specs.Option.{option_map_or}
use Rattle.wl_wire.proofs.Extension.{name_stays}
use Rattle.wl_wire.proofs.Growth.{row_stays}
use Rattle.wl_server_model.proofs.GlobalCalls.AtName.{created_next, next_absent}
use Rattle.wl_server_model.proofs.ObjectCalls.Choosing.{either_flag, own_absent}
use Rattle.wl_server_client.proofs.ObjectCalls.Destroying.{named_is_held}
use Rattle.wl_server_client.specs.Objects.{new_object}
use Rattle.wl_server_model.proofs.OverRuns.Ids.NamedLaws.{far_offer, inserted}
use Rattle.wl_server_model.specs.Named.{offer_through}
use Rattle.wl_server_model.proofs.OverRuns.Moves.BaseMovesLaw.{doings_noted, doings_taken}
use Rattle.wl_server_model.proofs.OverRuns.Moves.BaseMoves.{Doings}

-- ---- a registry that is watched over the calls that each client feels: globals that come and go

-- more interfaces are nothing to what is shown: each global has the same name of its interface
growth_stays : {G C : Type 0} (views : G → ClientParts → C → GlobalParts → Bool) (client : ClientParts) (client_data : C) (offer : Offer G)
    → HasInterfaces offer
    → (new : List InterfaceRow) → StaysShown views client client_data offer (with_table offer (offer.table ++ new))
growth_stays views client client_data offer known new =
    renamed_stays views client client_data offer (with_table offer (offer.table ++ new)) refl (λ a x at.
    ap (λ (name : List ℕ). let g : Announced = record { name = a.name; interface = name; version = x.version } in g) (grind (arith, option_map_or, codes, row_stays, a.name)))

-- and so are more messages of one of them, taken or refused
extension_stays : {G C : Type 0} (views : G → ClientParts → C → GlobalParts → Bool) (client : ClientParts) (client_data : C) (offer : Offer G)
    → (more : Extension) (answer : Result (Unit {0}) TableError) → StaysShown views client client_data offer (with_table offer (after_extension offer.table more answer))
extension_stays views client client_data offer more answer =
    renamed_stays views client client_data offer (with_table offer (after_extension offer.table more answer)) refl (λ a x at.
    ap (λ (name : List ℕ). let g : Announced = record { name = a.name; interface = name; version = x.version } in g) (name_stays offer.table more answer x.interface.0))

module _ {G C : Type 0} (views : G → ClientParts → C → GlobalParts → Bool) (client : ClientParts) (r : Id) {U : Type 0} (offer : Offer G)
    (s : Scene U C) where
  abbrev Shows : Offer G → Announced → Type 0
  Shows o a = IsShown views client s.client_data o a

  abbrev Watches : Offer G → List Announced → List Id → Type 0
  Watches o told made = Watch views client r o s told made

  -- ---- a global is created

  pub global_watch : (i : InterfaceId) (version : ℕ) (handler : G) (g : GlobalParts) → held offer.globals.store g.name ≡ None
      → (told : List Announced) (made : List Id)
      → Watch views client r offer s told made
      → Watch views client r (with_globals offer (with_created offer.globals i version handler (Ok g))) s
      (announced_over r told (if views handler client s.client_data g then announcements offer.table s.registries
      (record { name = g.name; interface = i; version = version }) else []))
      made
  global_watch i version handler g free told made w = go (views handler client s.client_data g) refl
    where
      created : Offer G
      created = with_globals offer (with_created offer.globals i version handler (Ok g))

      new : Shown
      new = record { name = g.name; interface = i; version = version }

      x : Object (KeptGlobal G)
      x = new_global i version g.serial handler

      old : (a : Announced) → Shows offer a → Shows created a
      old = created_old views client s.client_data offer g.name x g.serial free

      only : (a : Announced) → Shows created a → Shows offer a ⊎ ((views handler client s.client_data g ≡ true) × (announced_as offer.table new ≡ a))
      only = created_only views client s.client_data offer g.name x g.serial free

      message : Id → Said
      message y = making (is_first s.registries y) (global_message offer.table y new)

      go : (b : Bool) → views handler client s.client_data g ≡ b
          → Watches created (announced_over r told (cond b (announcements offer.table s.registries new) [])) made
      go true visible =
          told_all views client r offer created s message (λ y. refl) told made
          (λ among tells. some_turns r message (λ y. refl) (λ l. l ++ announced_as offer.table new ∷ []) (λ y l. refl)
          (Announces (Shows offer) (Shows created)) (Announces (Shows created) (Shows created))
          (λ l h. record { told = h.told; tells = λ a is. h.tells a (old a is) })
          (λ l h. record {
            told = λ a there. (elim (among_both l (announced_as offer.table new ∷ []) a there) [
              | inl before ↦ h.told a before
              | inr (inl is) ↦ subst (Shows created) is (created_new views client s.client_data offer g.name x g.serial free visible)
              | inr (inr none) ↦ absurd none
            ]);
            tells = λ a is. (grind (arith, only a is, among_first, among_later));
          })
          told s.registries among (record { told = λ a there. old a (tells.told a there); tells = tells.tells })) w
      go false unseen =
          told_none views client r offer created s
          (record { kept = old; only = λ a is. (elim (only a is) [ inl before ↦ before | inr (passes, same) ↦ absurd (true≢false (sym passes ∙ unseen)) ]) }) told made w

  -- ---- a global is announced no more

  pub loss_watch : (name : ℕ) (after : Globals G) → Hides views client s.client_data offer name after → (told : List Announced) (made : List Id)
      → Watch views client r offer s told made
      → Watch views client r (with_globals offer after) s (announced_over r told (map (removal_message name) s.registries)) made
  loss_watch name after hides told made w =
      told_all views client r offer (with_globals offer after) s (removal_message name) (λ y. refl) told made
      (λ among tells. some_turns r (removal_message name) (λ y. refl) (without_name name) (λ y l. refl)
      (Announces (Shows (with_globals offer after)) (Shows offer)) (Announces (Shows (with_globals offer after)) (Shows (with_globals offer after)))
      (λ l h. record { told = λ a there. (only a (h.told a there)).0; tells = h.tells })
      (λ l h. record {
        told = λ a there.
            let (kept, passes) = among_filter (λ z. not (eqb z.name name)) l a there in
            hidden_old views client s.client_data offer name after hides a (h.told a kept) (λ same. (grind (arith, not, eq-eqb, true≢false)));
        tells = λ a is. filter_among (λ z. not (eqb z.name name)) l a (h.tells a is) (ap not (ne_eqb a.name name (only a is).1));
      })
      told s.registries among (record { told = tells.told; tells = λ a is. tells.tells a (only a is).0 })) w
    where
      only : (a : Announced) → Shows (with_globals offer after) a → Shows offer a × (a.name ≢ name)
      only = hidden_only views client s.client_data offer name after hides

-- ---- notes put nothing

module _ {U : Type 0} where
  silent_notes : (notes : List (Happening U)) → IsSilent (map Noted notes)
  silent_notes notes = (ap (λ (d : Doings U). d.put) (doings_noted notes), ap (λ (d : Doings U). d.registries) (doings_noted notes))

  silent_taken : (notes : List (Happening U)) → IsSilent (map NoteTaken notes)
  silent_taken notes = (ap (λ (d : Doings U). d.put) (doings_taken notes), ap (λ (d : Doings U). d.registries) (doings_taken notes))

-- ---- the globals that are created in a client's run have names that were free

module _ {T U G C : Type 0} where
  abbrev AreNumbered : Offer G → List (Own T U G C) → Type 0
  AreNumbered offer [] = Unit {0}
  AreNumbered offer (e ∷ run) = AnswersShared offer e.call × AreNumbered (offer_after offer e.call) run

  mine_numbered : (id : ClientParts) (offer : Offer G) (last : ℕ) (run : List (Entry T U G C)) (offer' : Offer G) (last' : ℕ)
      → SharedAlone offer last run offer' last'
      → AreNumbered offer (mine id run)
  mine_numbered id offer last [] offer' last' shared = tt
  mine_numbered id offer last (e ∷ run) offer' last' (by, next, rest) =
      grind (arith, far_offer, mine, mine_numbered id (offer_after offer e.call) (last + inserted_by e.call) run offer' last' rest)

module _ {T U G C : Type 0} (w : World T G C) (id : ClientParts) (r : Id) where
  abbrev Watched : Offer G → Part T U C → List Announced → List Id → Type 0
  Watched offer p told made = Watch w.views id r offer (part_scene p) told made

  -- the registry is watched while its client is live
  abbrev SeenWatched : Offer G → Seen T U C → List Announced → List Id → Type 0
  SeenWatched offer s told made = MatchOption s.part (Unit {0}) (λ p. p.is_killed ≡ false → Watched offer p told made)

  record Follows (offer offer' : Offer G) (s : Seen T U C) (did : List (Deed U)) (t : Seen T U C) : Type 0 where
    watch : (told : List Announced) (made : List Id) → SeenWatched offer s told made
        → SeenWatched offer' t (announced_over r told (log_of did)) (made ++ registries_in did)

  -- ---- forms of a call

  unfelt_follows : (offer : Offer G) (s : Seen T U C) (lacked : Bool) (did : List (Deed U)) (t : Seen T U C) → Unfelt s lacked did t
      → Follows offer offer s did t
  unfelt_follows offer s lacked did t (no_memory, none, same) = grind (arith, log_of, registries_in, append-nil)

  -- where the offer becomes another that shows the same
  unfelt_stays : (offer offer' : Offer G) (s : Seen T U C) (lacked : Bool) (did : List (Deed U)) (t : Seen T U C)
      → ((client_data : C) → StaysShown w.views id client_data offer offer')
      → Unfelt s lacked did t → Follows offer offer' s did t
  unfelt_stays offer offer' s lacked did t stays (no_memory, none, same) = grind (arith, log_of, registries_in, append-nil, still)
    where
      still : (o : Option (Part T U C)) (told : List Announced) (made : List Id)
          → MatchOption o (Unit {0}) (λ p. p.is_killed ≡ false → Watched offer p told made)
          → MatchOption o (Unit {0}) (λ p. p.is_killed ≡ false → Watched offer' p told made)
      still None told made is = tt
      still (Some p) told made is = λ on. told_none w.views id r offer offer' (part_scene p) (stays p.client_data) told made (is on)

  -- a step that each client feels, where the offer becomes this
  feels_follows : (offer offer' : Offer G) (s : Seen T U C) (R : Part T U C → Part T U C → Type 0) (missing : Type 0) (lacked : Bool)
      (did : List (Deed U)) (t : Seen T U C)
      → ((p q : Part T U C) → R p q → PartLives w.views id r offer offer' p did q) → OnPart s R missing lacked did t → Follows offer offer' s did t
  feels_follows offer offer' s R missing lacked did t leads h = grind (arith, either_option, log_of, registries_in)

  -- a step that is about this client or about another
  of_client : (offer : Offer G) (b : Bool) (s : Seen T U C) (R : Part T U C → Part T U C → Type 0) (missing : Type 0) (lacked : Bool)
      (did : List (Deed U)) (t : Seen T U C)
      → ((p q : Part T U C) → R p q → PartLives w.views id r offer offer p did q) → OfClient b s R missing lacked did t → Follows offer offer s did t
  of_client offer true s R missing lacked did t lives h = grind (arith, feels_follows, either_option, log_of, registries_in)
  of_client offer false s R missing lacked did t lives h = unfelt_follows offer s lacked did t h

  -- ---- globals

  -- what all registries of a live client are told
  hears_leads : (offer offer' : Offer G) (messages : List Said) (p q : Part T U C) (lacked : Bool) (did : List (Deed U))
      → ((told : List Announced) (made : List Id) → Watched offer p told made → Watched offer' p (announced_over r told messages) made)
      → Hears w.sends p messages lacked did q → PartLives w.views id r offer offer' p did q
  hears_leads offer offer' messages p q lacked did watch h = go p.is_killed refl h
    where
      over : q.is_killed ≡ true → PartLives w.views id r offer offer' p did q
      over dead = goes_not w.views id r offer offer' (part_scene p) (log_of did) (registries_in did) (part_scene q) dead

      go : (b : Bool) → p.is_killed ≡ b → MatchBool b ((lacked ≡ false) × (did ≡ []) × (q ≡ p))
          (Tells w.sends (tells (core_of p) messages) p.link lacked did q)
          → PartLives w.views id r offer offer' p did q
      go true was (no_memory, none, same) = over (ap (λ (x : Part T U C). x.is_killed) same ∙ was)
      go false was (es, gave, end, by, is, same) =
          let so = exchanged es gave end.core in
          elim (carried_to w.sends speaker (λ d f. refl) (core_of p) (tells (core_of p) messages) (record { last = λ d killed. killed; starved = inl refl; silent = λ e. refl })
          p.link es gave lacked end by) [
            | inl dead ↦ over (ap (λ (x : Part T U C). x.is_killed) same ∙ dead)
            | inr (inl (starved, at, no_log, no_registries)) ↦ over
                (ap (λ (x : Part T U C). x.is_killed) same ∙ ap (λ (c : Core U C). c.is_killed) (at ∙ sym starved))
            | inr (inr (at, fits, said, none)) ↦
                subst (λ (t : Scene U C). Goes w.views id r offer offer' (part_scene p) (log_of did) (registries_in did) t)
                (sym (ap part_scene same ∙ ap scene_of at))
                (goes_so w.views id r offer offer' (part_scene p) (part_scene p) messages (log_of did) [] (registries_in did) (ap log_of is ∙ so.0 ∙ said) (ap registries_in is ∙ so.1 ∙ none)
                (record { watch = λ told made was on. subst (λ (l : List Id). Watched offer' p (announced_over r told messages) l) (sym (append-nil made)) (watch told made (was on)) }))
          ]

  global_follows : (offer : Offer G) (i : InterfaceId) (version : ℕ) (handler : G) (a : Result GlobalParts GlobalError) (s : Seen T U C)
      (lacked : Bool) (did : List (Deed U))
      (t : Seen T U C) → CreatesGlobal offer.table offer.globals i version a → FeelsGlobal w id offer i version handler a s lacked did t
      → Follows offer (with_globals offer (with_created offer.globals i version handler a)) s did t
  global_follows offer i version handler (Ok g) s lacked did t creates h =
      feels_follows offer (with_globals offer (with_created offer.globals i version handler (Ok g))) s _ (Unit {0}) lacked did t
      (λ p q heard.
      hears_leads offer (with_globals offer (with_created offer.globals i version handler (Ok g))) _ p q lacked did
      (global_watch w.views id r offer (part_scene p) i version handler g (next_absent offer.globals g (created_next offer.table offer.globals i version g creates))) heard) h
  global_follows offer i version handler (Err e) s lacked did t creates h = unfelt_follows offer s lacked did t h

  loss_follows : (offer : Offer G) (g : GlobalParts) (at : Option (Object (KeptGlobal G)) → Globals G) → at None ≡ offer.globals
      → ((client_data : C) (x : Object (KeptGlobal G)) → Hides w.views id client_data offer g.name (at (Some x)))
      → (s : Seen T U C) (lacked : Bool) (did : List (Deed U)) (t : Seen T U C) → FeelsLoss w id offer g s lacked did t
      → Follows offer (with_globals offer (at (global_of offer.globals g))) s did t
  loss_follows offer g at none hides s lacked did t h = go (is_enabled (global_of offer.globals g)) refl h
    where
      after : Offer G
      after = with_globals offer (at (global_of offer.globals g))

      gone : (o : Option (Object (KeptGlobal G))) → is_enabled o ≡ true → (client_data : C) → Hides w.views id client_data offer g.name (at o)
      gone None on client_data = absurd (true≢false (sym on))
      gone (Some x) on client_data = hides client_data x

      go : (b : Bool) → is_enabled (global_of offer.globals g) ≡ b
          → MatchBool b (OnPart s (λ p q. Hears w.sends p (removals p g.name) lacked did q) (Unit {0}) lacked did t) (Unfelt s lacked did t)
          → Follows offer after s did t
      go true on felt =
          feels_follows offer after s _ (Unit {0}) lacked did t
          (λ p q heard.
          hears_leads offer after (removals p g.name) p q lacked did
          (loss_watch w.views id r offer (part_scene p) g.name (at (global_of offer.globals g)) (gone (global_of offer.globals g) on p.client_data)) heard) felt
      go false off felt =
          unfelt_stays offer after s lacked did t (λ client_data. hidden_stays w.views id client_data offer g at none (hides client_data) off) felt

  -- ---- flushes, cleanups, notes, readings, moves

  flushed_follows : (offer : Offer G) (target : Option ClientParts) (answer : Result (Unit {0}) IoFault) (s : Seen T U C) (lacked : Bool)
      (did : List (Deed U)) (t : Seen T U C)
      → FlushedFor w id offer target answer s lacked did t → Follows offer offer s did t
  flushed_follows offer None answer s lacked did t (is, h) =
      of_client offer true s _ (Unit {0}) lacked did t (λ p q f.
      (grind (arith, either_bool, none_done, quietly, with_link, log_of, silent_sends, registries_in, steady_same, part_scene, w.views, w.sends))) h
  flushed_follows offer (Some target) answer s lacked did t h =
      of_client offer (same_client target id) s _ _ lacked did t (λ p q f.
      (grind (arith, quietly, with_link, log_of, silent_sends, registries_in, steady_same, part_scene, w.views, w.sends))) h

  cleanup_follows : (offer : Offer G) (answer : Result (Vec (ClientParts × T) Global) OutOfMemory) (s : Seen T U C) (lacked : Bool)
      (did : List (Deed U)) (t : Seen T U C)
      → CleanedAs w id offer answer s lacked did t → Follows offer offer s did t
  cleanup_follows offer answer s lacked did t h1 =
      grind (arith, unfelt_follows, either_option, either_bool, log_of, registries_in, silent_notes, append-nil)

  taken_follows : (offer : Offer G) (answer : Result (Vec (Note U) Global) OutOfMemory) (s : Seen T U C) (lacked : Bool) (did : List (Deed U))
      (t : Seen T U C)
      → NotesTaken w id offer answer s lacked did t → Follows offer offer s did t
  taken_follows offer answer s lacked did t h1 = grind (arith, unfelt_follows, log_of, registries_in, silent_taken, append-nil)

  moved_follows : (offer : Offer G) (target : ClientParts) (m : Move) (answer : Moved) (s : Seen T U C) (lacked : Bool) (did : List (Deed U))
      (t : Seen T U C)
      → MovedFor w id offer target m answer s lacked did t → Follows offer offer s did t
  moved_follows offer target m answer s lacked did t h =
      of_client offer (same_client target id) s _ _ lacked did t
      (λ p q (no_memory, none, (x, becomes, same)). relinked_lives w.views id r offer p (with_transport p.link x) did q none same) h

  reads_follows : (offer : Offer G) (target : ClientParts) (n : _) (answer : _) (n' : _) (s : Seen T U C) (lacked : Bool) (did : List (Deed U))
      (t : Seen T U C)
      → ReadsFor w id offer target n answer n' s lacked did t → Follows offer offer s did t
  reads_follows offer target n answer n' s lacked did t h =
      of_client offer (same_client target id) s _ _ lacked did t
      (λ p q read. next_action_lives w.views id r offer w.sends w.receives n p answer n' lacked did q read) h

  -- ---- a call

  -- a call that is about this client, or about none
  step_follows : (offer : Offer G) → HasInterfaces offer
      → (call : Step T U G C) (answer : Reply T U) (s : Seen T U C) (lacked : Bool) (did : List (Deed U)) (t : Seen T U C)
      → is_about id call ≡ true → AnswersShared {T = T} {U = U} {C = C} offer (Asked call answer)
      → IsLeftAlone {T = T} {U = U} {G = G} {C = C} r (Asked call answer)
      → PartStep w id offer call answer s lacked did t → Follows offer (offer_after {T = T} {U = U} {C = C} offer (Asked call answer)) s did t
  step_follows offer known (step.InsertClient transport client_data) answer s lacked did t about numbered alone h = absurd (true≢false (sym about))
  step_follows offer known (step.SetObjectData o u) answer s lacked did t about numbered alone (a, is, h) =
      of_client offer (same_client o.client id) s _ _ lacked did t (λ p q (no_memory, none, set). (elim (either_option (named p.store o) set) [
        | inl (nobody, (is, same)) ↦ none_done w.views id r offer p q did none same
        | inr (x, some, (is, same)) ↦
            quietly w.views id r offer p q _ did (ap log_of none, ap registries_in none) same (wrote_goes w.views id r offer
            (part_scene p) o.number x u (named_is_held p.store o x some))
      ])) h
  step_follows offer known (step.CreateObject target i version u) answer s lacked did t about numbered alone (a, is, h) =
      of_client offer (same_client target id) s _ _ lacked did t
      (λ p q (no_memory, none, created). (elim (either_option (slice_get offer.table i.0) created) [
        | inl (unknown, (is, same)) ↦ none_done w.views id r offer p q did none same
        | inr (row, known, inl (full, is, same)) ↦ none_done w.views id r offer p q did none same
        | inr (row, known, inr (n, least, g)) ↦
            elim (either_bool (eqb p.last_serial last_possible_serial) g) [
              | inl (is, same) ↦ none_done w.views id r offer p q did none same
              | inr (inr (is, unused, same)) ↦ none_done w.views id r offer p q did none same
              | inr (inl (is, same)) ↦
                  quietly w.views id r offer p q _ did (ap log_of none, ap registries_in none) same
                  (born_goes w.views id r offer (part_scene p) n (new_object p i version u) least.absent refl)
            ]
      ])) h
  step_follows offer known (step.SetObjectVersion o version) answer s lacked did t about numbered alone (a, is, h) =
      of_client offer (same_client o.client id) s _ _ lacked did t (λ p q (no_memory, none, set). (elim (either_option (named p.store o) set) [
        | inl (nobody, (is, same)) ↦ none_done w.views id r offer p q did none same
        | inr (x, some, by) ↦ elim (either_bool (has_version offer.table x.interface version) by) [
          | inr (is, same) ↦ none_done w.views id r offer p q did none same
          | inl (is, same) ↦
              quietly w.views id r offer p q _ did (ap log_of none, ap registries_in none) same (rewrote_goes w.views id r offer
              (part_scene p) o.number x (with_version version x) (named_is_held p.store o x some) refl refl)
        ]
      ])) h
  step_follows offer known (step.CreateObjectAt target i version n u) answer s lacked did t about numbered alone (a, is, h) =
      of_client offer (same_client target id) s _ _ lacked did t
      (λ p q (no_memory, none, created). (elim (either_option (slice_get offer.table i.0) created) [
        | inl (unknown, (is, same)) ↦ none_done w.views id r offer p q did none same
        | inr (row, known, more) ↦
            elim (either_bool (eqb p.last_serial last_possible_serial) more) [
              | inl (is, same) ↦ none_done w.views id r offer p q did none same
              | inr by ↦
                  elim (either_flag (is_free_own p.store n) by) [
                    | inr (taken, (is, same)) ↦ none_done w.views id r offer p q did none same
                    | inl (free, inr (is, unused, same)) ↦ none_done w.views id r offer p q did none same
                    | inl (free, inl (is, same)) ↦
                        quietly w.views id r offer p q _ did (ap log_of none, ap registries_in none) same
                        (born_goes w.views id r offer (part_scene p) n (new_object p i version u) (own_absent p.store n free).0 refl)
                  ]
            ]
      ])) h
  step_follows offer known (step.DestroyObject o) answer s lacked did t about numbered alone (a, is, h) =
      let left : id_of o ≡ r → a ≢ Ok tt = subst (λ (x : Reply T U). IsLeftAlone {T = T} {U = U} {G = G} {C = C} r
      (Asked (step.DestroyObject o) x)) is alone in
      of_client offer (same_client o.client id) s _ _ lacked did t (λ p q d. destroys_lives w.views id r offer w.sends p o a lacked did q left d) h
  step_follows offer known (step.SendEvent m) answer s lacked did t about numbered alone (a, is, h) =
      let left : id_of m.sender_id ≡ r → a ≢ Ok tt = subst (λ (x : Reply T U). IsLeftAlone {T = T} {U = U} {G = G} {C = C} r
      (Asked (step.SendEvent m) x)) is alone in
      of_client offer (same_client m.sender_id.client id) s _ _ lacked did t
      (λ p q d. sends_lives w.views id r offer w.sends p _ a lacked did q left d) h
  step_follows offer known (step.PostError o code text) answer s lacked did t about numbered alone (is, h) =
      of_client offer (same_client o.client id) s _ _ lacked did t
      (λ p q d. (grind (arith, either_bool, eqb, none_done, tells_lives, core_of, goes_not, part_scene, w.views, w.sends))) h
  step_follows offer known (step.KillClient target reason) answer s lacked did t about numbered alone (is, h) =
      grind (arith, of_client, same_client, goes_not, part_scene, log_of, registries_in)
  step_follows offer known (step.DisableGlobal g) answer s lacked did t about numbered alone (is, h) =
      loss_follows offer g (disabled_at offer.globals g.name) refl
      (λ client_data x. disabled_hides w.views id client_data offer g.name x) s lacked did t h
  step_follows offer known (step.RemoveGlobal g) answer s lacked did t about numbered alone (is, h) =
      loss_follows offer g (freed_at offer.globals g.name) refl (λ client_data x. removed_hides w.views id client_data offer g.name) s lacked did t h
  step_follows offer known (step.KeepGlobalNames keep) answer s lacked did t about numbered alone (is, h) =
      unfelt_stays offer (keeping offer keep) s lacked did t (λ client_data. stored_stays w.views id client_data offer (keeping offer keep) refl refl) h
  step_follows offer known (step.HandOutRegistries hands) answer s lacked did t about numbered alone (is, h) =
      unfelt_stays offer (handing_registries offer hands) s lacked did t
      (λ client_data. stored_stays w.views id client_data offer (handing_registries offer hands) refl refl) h
  step_follows offer known (step.SetDefaultMaxBufferSize limit) answer s lacked did t about numbered alone (is, h) =
      unfelt_stays offer (record offer { default_limit = limit }) s lacked did t
      (λ client_data. renamed_stays w.views id client_data offer _ refl (λ a x at. refl)) h
  step_follows offer known (step.SetObjectLimit limit) answer s lacked did t about numbered alone (is, h) =
      unfelt_stays offer (record offer { object_limit = limit }) s lacked did t
      (λ client_data. renamed_stays w.views id client_data offer _ refl (λ a x at. refl)) h
  step_follows offer known (step.SetClientMaxBufferSize target limit) answer s lacked did t about numbered alone (is, h) =
      of_client offer (same_client target id) s _ _ lacked did t
      (λ p q (no_memory, none, (link, set, same)). relinked_lives w.views id r offer p link did q none same) h
  step_follows offer known (step.FinishRequest target u) answer s lacked did t about numbered alone (a, is, h) =
      of_client offer (same_client target id) s _ _ lacked did t (λ p q f. finishes_lives w.views id r offer w.sends p u a lacked did q f) h
  step_follows offer known (step.FinishBind target u) answer s lacked did t about numbered alone (a, is, h) =
      of_client offer (same_client target id) s _ _ lacked did t (λ p q f. finishes_bind_lives w.views id r offer p u a lacked did q f) h
  step_follows offer known call answer s lacked did t about numbered alone h =
      grind (arith, offer_after, moved_follows, global_follows, flushed_follows, reads_follows, cleanup_follows, taken_follows)

  call_follows : (offer : Offer G) → HasInterfaces offer
      → (call : Call T U G C) (s : Seen T U C) (lacked : Bool) (did : List (Deed U)) (t : Seen T U C) → concerns id call ≡ true
      → AnswersShared offer call → IsLeftAlone r call → PartCall w id offer call s lacked did t → Follows offer (offer_after offer call) s did t
  call_follows offer known (Asked call answer) s lacked did t about numbered alone h =
      step_follows offer known call answer s lacked did t about numbered alone h
  call_follows offer known (Changed target x) s lacked did t about numbered alone h =
      of_client offer (same_client target id) s _ _ lacked did t
      (λ p q (no_memory, none, (y, becomes, same)). relinked_lives w.views id r offer p (with_transport p.link y) did q none same) h
  call_follows offer known (Grown (NewRows rows) (Ok u)) s lacked did t about numbered alone h =
      unfelt_stays offer (with_table offer (offer.table ++ rows)) s lacked did t
      (λ client_data. growth_stays w.views id client_data offer known rows) h
  call_follows offer known (Grown (NewRows rows) (Err e)) s lacked did t about numbered alone h = unfelt_follows offer s lacked did t h
  call_follows offer known (Grown (LongerRow more) answer) s lacked did t about numbered alone h =
      unfelt_stays offer (with_table offer (after_extension offer.table more answer)) s lacked did t
      (λ client_data. extension_stays w.views id client_data offer more answer) h

  -- ---- a run

  run_follows : (offer : Offer G) → HasInterfaces offer → (s : Seen T U C) (run : List (Own T U G C)) (t : Seen T U C) → AreMine id run
      → AreNumbered offer run → IsAlwaysLeftAlone r run
      → Alone w id offer s run t → Follows offer (offer_through offer run) s (history run) t
  run_follows offer known s [] t own numbered alone same = grind (arith, append-nil)
  run_follows offer known s (e ∷ run) t own numbered alone
      (mid, by, rest) = grind (arith, call_follows, offer_after, after_call, offer_through, registries_in, history, append_assoc, announced-append, log_of, log_both, registries_both, run_follows (offer_after offer e.call) (after_call offer e.call known numbered.0) mid run t own.1 numbered.1 alone.1 rest)

  -- a client to which nothing happened yet
  begun_watched : (offer : Offer G) (link : LinkState T) (client_data : C) → SeenWatched offer (just_inserted link client_data) [] []
  begun_watched offer link client_data on = grind (arith, most, none-some)
    where
      most : (n : ℕ) (x : Object (Kept U)) → held (stored empty_store 1 display_object) n ≡ Some x → x.value.serial ≤ 0
      most n x holds =
          elim (cases_eq n 1) [
            | inl same ↦
                omega (arith, ap (λ (y : Object (Kept U)). y.value.serial) (sym (same_Some display_object x (sym (stored_here empty_store 1 display_object n same) ∙ holds))))
            | inr other ↦ absurd (none-some _ (sym (stored_other empty_store 1 display_object n other ∙ held_empty n) ∙ holds))
          ]

  own_announced : (offer : Offer G) → HasInterfaces offer → (link : LinkState T) (client_data : C) (run : List (Own T U G C)) (t : Seen T U C)
      → AreMine id run → AreNumbered offer run
      → IsAlwaysLeftAlone r run → Alone w id offer (just_inserted link client_data) run t → Contains (registries_in (history run)) r
      → MatchOption t.part (Unit {0})
      (λ p. p.is_killed ≡ false → AreSameGlobals (announced (log_of (history run)) r) (shown_of w.views (offer_through offer run) id p.client_data))
  own_announced offer known link client_data run t own numbered left alone there =
      of_watched t.part ((run_follows offer known (just_inserted link client_data) run t own numbered left alone).watch [] []
      (begun_watched offer link client_data))
    where
      of_watched : (o : Option (Part T U C))
          → MatchOption o (Unit {0}) (λ p. p.is_killed ≡ false
          → Watched (offer_through offer run) p (announced (log_of (history run)) r) (registries_in (history run)))
          → MatchOption o (Unit {0})
          (λ p. p.is_killed ≡ false → AreSameGlobals (announced (log_of (history run)) r)
          (shown_of w.views (offer_through offer run) id p.client_data))
      of_watched None is = tt
      of_watched (Some p) is =
          grind (arith, among_contains, registries_in, history, contains_among, shown_of, shown_among, announced, log_of, among_shown)

-- ---- of every client of a server

module _ {T U G C : Type 0} where
  pub each_announces : (w : World T G C) (table : List InterfaceRow) (run : List (Entry T U G C)) (after : ServerState T U G C)
      → Leads w (new_server table) run after
      → EachAnnouncesShown w run after
  each_announces w table run after leads id transport client_data earlier later e split inserts r there left =
      let is = inserted w table run after leads id transport client_data earlier later e split inserts in
      let (mid, first, rest) = split_run w (new_server table) after (earlier ++ e ∷ []) later
      (subst (λ (l : List (Entry T U G C)). Leads w (new_server table) l after) (split ∙ sym (append_assoc earlier (e ∷ []) later)) leads) in
      let at : mid.offer ≡ offer_over (new_offer table) (earlier ++ e ∷ []) = offer_run w (new_server table) mid (earlier ++ e ∷ []) first in
      let offer : Offer G = offer_over (new_offer table) (earlier ++ e ∷ []) in
      let known : HasInterfaces offer = grind (arith, after_run, new_offer, at_first, shared_run, new_server) in
      let numbered = mine_numbered id offer mid.last_client later after.offer after.last_client
      (subst (λ (o : Offer G). SharedAlone o mid.last_client later after.offer after.last_client) at (shared_run w mid after later rest)) in
      subst (λ (o : Offer G). MatchOption (seen id after).part (Unit {0})
      (λ p. p.is_killed ≡ false → AreSameGlobals (announced (log_of (history (mine id later))) r) (shown_of w.views o id p.client_data))) (sym is.offered)
      (own_announced w id r offer known is.link client_data (mine id later) (seen id after) (are_mine id later) numbered left is.alone there)
