-- A registry that is watched over what the program does with its client.
use Rattle.std.proofs.Common.{◌≡◌, ◌≢◌, ◌⊎◌, ℕ, Bool, true, false, cond, eqb, List, [], ◌∷◌, ◌++◌, map, Option, None, Some, is_some, Result, Ok, Err, MatchResult, refl, sym, ap, ◌∙◌, arith}
use mathlib.Core.Logic.{inl, inr}
use Rattle.wl_wire.specs.declared.error.IoFault.{IoFault}
use Rattle.wl_wire.specs.declared.error.IoFault.TheVariants as fault
use Rattle.wl_link.specs.declared.object.Object.{Object}
use Rattle.wl_link.proofs.Calls.Branches.{either_bool, either_option}
use Rattle.wl_link.specs.Exchange.{Queue, Sending}
use Rattle.wl_link.specs.Identity.{Id}
use Rattle.wl_link.specs.Link.{LinkState}
use Rattle.wl_link.specs.Puts.{Said}
use Rattle.wl_server_client.specs.declared.reading.action.OpenAction.TheVariants as opened
use Rattle.wl_server_client.specs.declared.error.DestroyError.{DestroyError}
use Rattle.wl_server_client.specs.declared.error.EventError.{EventError}
use Rattle.wl_server_client.specs.declared.error.FinishRefused.{FinishRefused}
use Rattle.wl_server_client.specs.declared.objects.Kept.{Kept}
use Rattle.wl_server_client.specs.Deeds.{Deed, Sent, left_if, log_of, registries_in}
use Rattle.wl_server_model.proofs.OverRuns.Moves.DoingsLaws.{told_deeds}
use Rattle.wl_server_client.specs.Events.{SendsEvent, SendsGranted, SentAs, SessionMessage, ends_closed, ends_sender, event_check, said}
use Rattle.wl_server_client.specs.Finish.{FinishesBind, FinishesRequest, core_finished, finish_verdict, data_given, ended_by, ends, refusal, store_with_data}
use Rattle.wl_server_client.specs.Globals.{Offer}
use Rattle.wl_server_client.specs.Ids.{ClientParts, GlobalParts, IdParts}
use Rattle.wl_server_model.proofs.OverRuns.Moves.MovesOfCalls.{granted_named, leaving_by, left_deeds, named_serial}
use Rattle.wl_server_client.specs.Objects.{Destroys, destroyable, unless_refused, without, without_noted}
use Rattle.wl_server_client.specs.Part.{Part, end_note, id_at, id_of, named, with_link}
use Rattle.wl_server_client.specs.Telling.{Core, Did, Tells, core_of, delete_message, deletions, tells}
use Rattle.wl_server_model.proofs.OverRuns.Announced.WatchedReadings.{deletions_other}
use Rattle.wl_server_model.proofs.OverRuns.Announced.WatchedVerdicts.{IsSilent, PartLives, log_both, registries_both, silent_sends, tells_lives}
use Rattle.wl_server_model.proofs.OverRuns.Announced.Watching.{Goes, Scene, goes_not, goes_on, goes_so, goes_then, others_goes, part_scene, scene_of, set_action_goes, steady_same, went_goes, wrote_goes}
use Rattle.wl_server_client.proofs.ObjectCalls.Destroying.{named_is_held}
use Rattle.std.proofs.lemmas.Option.{none-some}

-- ---- deeds that put nothing

module _ {U : Type 0} where
  silent_left : (client : ClientParts) (waits : Bool) (id : IdParts) (x : Object (Kept U)) (b : Bool)
      → IsSilent (told_deeds (cond b [] (map Did (left_deeds client waits id x))))
  silent_left client waits id x b = grind (arith, end_note, id_at, left_if, id_of)

module _ {G C : Type 0} (views : G → ClientParts → C → GlobalParts → Bool) (client : ClientParts) (r : Id) {U : Type 0} (offer : Offer G) where
  abbrev Change : Scene U C → List Said → List Id → Scene U C → Type 0
  Change s put regs t = Goes views client r offer offer s put regs t

  abbrev Still : Scene U C → Scene U C → Type 0
  Still s t = Change s [] [] t

  abbrev Run : {T : Type 0} → Part T U C → List (Deed U) → Part T U C → Type 0
  Run p did q = PartLives views client r offer offer p did q

  -- ---- forms of a call

  -- nothing is put
  pub quietly : {T : Type 0} (p q e : Part T U C) (did : List (Deed U)) → IsSilent did → q ≡ e → Still (part_scene p) (part_scene e) → Run p did q
  quietly p q e did silent same still = grind (arith, goes_so, part_scene, log_of, registries_in)

  pub none_done : {T : Type 0} (p q : Part T U C) (did : List (Deed U)) → did ≡ [] → q ≡ p → Run p did q
  none_done p q did none same = grind (arith, quietly, log_of, registries_in, steady_same, part_scene)

  -- ---- an object that leaves

  -- the object that an id names, which is not the registry
  without_still : (c : Core U C) (id : IdParts) (x : Object (Kept U)) → named c.store id ≡ Some x → (id_of id ≢ r)
      → Still (scene_of c) (scene_of (without c id.number x))
  without_still c id x is other =
      went_goes views client r offer (scene_of c) id.number x (named_is_held c.store id x is) (λ told made w among same. other (sym
      (ap (λ (s : ℕ). record { number = id.number; serial = s }) (named_serial c.store id x is)) ∙ same))

  -- an object leaves, and its number is told
  leaves_lives : {T : Type 0} (sends : T → Queue → Result ℕ IoFault → T → Type 0) (p : Part T U C) (e starved : Core U C) (waits asks : Bool)
      (id : IdParts) (x : Object (Kept U))
      (link : LinkState T) (lacked : Bool) (did : List (Deed U)) (q : Part T U C) → (starved.is_killed ≡ true) ⊎ (starved ≡ core_of p)
      → (lacked ≡ false → Still (part_scene p) (scene_of e))
      → Tells sends (leaving_by client e starved waits asks id x (deletions id.number)) link lacked did q → Run p did q
  leaves_lives sends p e starved waits asks id x link lacked did q back still tells' =
      tells_lives views client r offer sends p (leaving_by client e starved waits asks id x (deletions id.number)) link lacked did q
      (record {
        last = λ d killed'. killed';
        starved = elim back [ inl dead ↦ inl dead | inr same ↦ inr (same, (silent_left client waits id x (is_some (named p.store id))).1, (grind (arith, delete_message, id.number))) ];
        silent = λ d. (silent_left client waits id x (is_some (named d.store id))).0;
      })
      (λ fits.
      goes_so views client r offer offer (part_scene p) (scene_of e) (deletions id.number) (deletions id.number) [] _ refl
      (silent_left client waits id x (is_some (named e.store id))).1
      (goes_on views client r offer (part_scene p) (part_scene p) (scene_of e) (deletions id.number) []
      (grind (arith, others_goes, deletions, deletions_other, part_scene p, id.number)) (still (fits refl))))
      tells'

  pub destroys_lives : {T : Type 0} (sends : T → Queue → Result ℕ IoFault → T → Type 0) (p : Part T U C) (id : IdParts)
      (answer : Result (Unit {0}) DestroyError) (lacked : Bool)
      (did : List (Deed U)) (q : Part T U C) → (id_of id ≡ r → answer ≢ Ok tt) → Destroys sends client p id answer lacked did q → Run p did q
  destroys_lives sends p id answer lacked did q alone h =
      elim (either_option (destroyable p id) h) [
        | inl (none, (is, no_memory, nothing, same)) ↦ none_done p q did nothing same
        | inr (x, some, (is, tells')) ↦
            leaves_lives sends p (without_noted client (core_of p) id.number x) (core_of p) true (is_some x.value.user_data) id x p.link lacked did q
            (inr refl)
            (λ fine. without_still (core_of p) id x (grind (arith, eqb, named)) (λ same. alone same (is ∙ ap (unless_refused _) fine))) tells'
      ]

  -- ---- flushes, and what the program does to a transport

  pub relinked_lives : {T : Type 0} (p : Part T U C) (link : LinkState T) (did : List (Deed U)) (q : Part T U C) → did ≡ [] → q ≡ with_link p link
      → Run p did q
  relinked_lives p link did q none same = grind (arith, quietly, with_link, log_of, registries_in, steady_same, part_scene)

  -- ---- an event

  module _ {T : Type 0} (sends : T → Queue → Result ℕ IoFault → T → Type 0) (m : SessionMessage) (sender : Object (Kept U)) where
    module _ (p : Part T U C) (b : Bool) (es : List Sending) (link : LinkState T) (answer : Result (Unit {0}) EventError) (lacked : Bool)
        (rest did : List (Deed U)) (q : Part T U C)
        (is : named p.store m.sender ≡ Some sender) (alone : id_of m.sender ≡ r → answer ≢ Ok tt) (did_so : did ≡ map Sent es ++ rest) where
      after_sends : Run p rest q → Run p did q
      after_sends lives = grind (arith, goes_so, part_scene, log_of, registries_in, log_both, silent_sends, registries_both)

      -- the sender is not the registry: it may leave
      sender_lives : (d : Bool) (more : List (Deed U)) → id_of m.sender ≢ r
          → Tells sends (ends_sender client (core_of p) m sender d) link lacked more q → Run p more q
      sender_lives false more other tells' =
          tells_lives views client r offer sends p (tells (core_of p) []) link lacked more q
          (record { last = λ d killed'. killed'; starved = inl refl; silent = λ e. refl })
          (λ fits. steady_same views client r offer (part_scene p)) tells'
      sender_lives true more other tells' =
          leaves_lives sends p (without_noted client (core_of p) m.sender.number sender) _ true false m.sender sender link lacked more q (inl refl)
          (λ fine. without_still (core_of p) m.sender sender is other) tells'

      sent_lives : (w : Result (Unit {0}) IoFault) → SentAs sends client p m sender b w link answer lacked rest q → Run p did q
      sent_lives (Ok u) (more, tells', is_ok, rest_so) =
          let other : id_of m.sender ≢ r = λ same. alone same is_ok in
          after_sends (goes_so views client r offer offer (part_scene p) (part_scene q) (said m ∷ log_of more) (log_of rest) (registries_in more) (registries_in rest)
          (ap log_of rest_so) (ap registries_in rest_so)
          (goes_then views client r offer (part_scene p) (part_scene p) (part_scene q) (said m ∷ []) (log_of more) [] (registries_in more)
          (others_goes views client r offer (part_scene p) (said m ∷ []) (λ told made w ours. (other, tt))) (sender_lives b more other tells')))
      sent_lives (Err fault.OutOfMemory) (is_err, no_memory, none, same) =
          grind (arith, after_sends, part_scene, log_of, registries_in, goes_so, steady_same)
      sent_lives _ h = grind (arith, after_sends, tells_lives, ends_closed, core_of, silent_left, is_some, named, goes_not, part_scene, h.0)

    granted_lives : (p : Part T U C) (b : Bool) (answer : Result (Unit {0}) EventError) (lacked : Bool) (did : List (Deed U)) (q : Part T U C)
        → named p.store m.sender ≡ Some sender → (id_of m.sender ≡ r → answer ≢ Ok tt) → SendsGranted sends client p m sender b answer lacked did q
        → Run p did q
    granted_lives p b answer lacked did q is alone h9 = grind (arith, none_done, sent_lives)

  pub sends_lives : {T : Type 0} (sends : T → Queue → Result ℕ IoFault → T → Type 0) (p : Part T U C) (m : SessionMessage)
      (answer : Result (Unit {0}) EventError) (lacked : Bool)
      (did : List (Deed U)) (q : Part T U C) → (id_of m.sender ≡ r → answer ≢ Ok tt) → SendsEvent sends client offer.table p m answer lacked did q
      → Run p did q
  sends_lives sends p m answer lacked did q alone h = grind (arith, either_bool, none_done, checked, event_check)
    where
      checked : (t : Result (Object (Kept U) × Bool) EventError) → event_check client p.store offer.table m ≡ t
          → MatchResult t (λ g. SendsGranted sends client p m g.0 g.1 answer lacked did q)
          (λ e. (answer ≡ Err e) × (lacked ≡ false) × (did ≡ []) × (q ≡ p)) → Run p did q
      checked (Ok g) is h = granted_lives sends m g.0 p g.1 answer lacked did q (granted_named client p.store offer.table m g is) alone h
      checked (Err e) is (is_err, no_memory, none, same) = none_done p q did none same

  -- ---- the end of an action

  finish_still : (c : Core U C) (created : Option IdParts) (u : Option U) → Still (scene_of c) (scene_of (core_finished c created u))
  finish_still c created u = goes_on views client r offer (scene_of c) (scene_of over) (scene_of (core_finished c created u)) [] []
      (set_action_goes views client r offer (scene_of c) None (λ sender b made is. absurd (none-some _ is))) (given created u)
    where
      over : Core U C
      over = record c { action = None }

      given : (created : Option IdParts) (u : Option U) → Still (scene_of over) (scene_of (core_finished c created u))
      given (Some id) (Some u) = go (named c.store id) refl
        where
          go : (o : Option (Object (Kept U))) → named c.store id ≡ o
              → Still (scene_of over) (scene_of (record over { store = data_given c.store id.number o u }))
          go None e = steady_same views client r offer (scene_of over)
          go (Some x) e = wrote_goes views client r offer (scene_of over) id.number x u (named_is_held c.store id x e)
      given _ _ = steady_same views client r offer (scene_of over)

  module _ {T : Type 0} (sends : T → Queue → Result ℕ IoFault → T → Type 0) (p : Part T U C) (sender : IdParts) (b : Bool) (created : Option IdParts)
      (u : Option U)
      (open' : p.action ≡ Some (opened.Request sender b created)) (lacked : Bool) (did : List (Deed U)) (q : Part T U C) where
    ends_lives : (o : Option (Object (Kept U))) → ((x : Object (Kept U)) → o ≡ Some x → named p.store sender ≡ Some x)
        → Tells sends (ends client (core_of p) sender o created u) p.link lacked did q → Run p did q
    ends_lives None is tells' =
        tells_lives views client r offer sends p (finish_verdict (core_of p) created u) p.link lacked did q
        (record { last = λ d killed'. killed'; starved = inl refl; silent = λ e. refl })
        (λ fits. finish_still (core_of p) created u) tells'
    ends_lives (Some x) is tells' =
        leaves_lives sends p (core_finished (without (core_of p) sender.number x) created u) (core_of p) false
        (is_some x.value.user_data) sender x p.link lacked did q (inr refl)
        (λ fine.
        goes_on views client r offer (part_scene p) (scene_of (without (core_of p) sender.number x))
        (scene_of (core_finished (without (core_of p) sender.number x) created u)) [] []
        (went_goes views client r offer (scene_of (core_of p)) sender.number x (named_is_held (core_of p).store sender x (is x refl))
        (λ told made w among same. w.open_other sender b created open' among (sym (ap (λ (s : ℕ). record { number = sender.number; serial = s })
        (named_serial (core_of p).store sender x (is x refl))) ∙ same)))
        (finish_still (without (core_of p) sender.number x) created u)) tells'

  pub finishes_lives : {T : Type 0} (sends : T → Queue → Result ℕ IoFault → T → Type 0) (p : Part T U C) (u : Option U)
      (answer : Result (Unit {0}) (FinishRefused (Option U)))
      (lacked : Bool) (did : List (Deed U)) (q : Part T U C) → FinishesRequest sends client p u answer lacked did q → Run p did q
  finishes_lives sends p u answer lacked did q h =
      elim (either_option p.action h) [
        | inl (none, refuses) ↦ none_done p q did refuses.2 refuses.3
        | inr (opened.Bind object, is, refuses) ↦ none_done p q did refuses.2 refuses.3
        | inr (opened.Request sender b created, is, g) ↦
            elim (either_option (refusal p.is_killed created u) g) [
              | inr (e, why, refuses) ↦ none_done p q did refuses.2 refuses.3
              | inl (none, (is', tells')) ↦
                  ends_lives sends p sender b created u is lacked did q (ended_by p.store sender b) (λ x e.
                  (grind (arith, none-some, p.store))) tells'
            ]
      ]

  pub finishes_bind_lives : {T : Type 0} (p : Part T U C) (u : U) (answer : Result (Unit {0}) (FinishRefused U)) (lacked : Bool) (did : List (Deed U))
      (q : Part T U C)
      → FinishesBind p u answer lacked did q → Run p did q
  finishes_bind_lives p u answer lacked did q h =
      elim (either_option p.action h) [
        | inl (none, refuses) ↦ none_done p q did refuses.2 refuses.3
        | inr (opened.Request sender b created, is, refuses) ↦ none_done p q did refuses.2 refuses.3
        | inr (opened.Bind object, is, (is', no_memory, none, same)) ↦
            quietly p q (record p { action = None; store = store_with_data p.store (Some object) (Some u) }) did
            (ap log_of none, ap registries_in none) same
            (finish_still (core_of p) (Some object) (Some u))
      ]
