-- The ends of actions, and what becomes of their data.
use Rattle.std.proofs.Common.{◌≡◌, Bool, false, List, [], None, Some, Result, Ok, Err, refl, arith, append-nil, ℕ, true, cond, eqb-true, ◌++◌, Option, is_some, ap, ◌∙◌, true≢false, ◌∷◌}
use Rattle.std.specs.Prelude.{option_map, ◌⊎◌, IsSome, slice_set}
use Rattle.wl_link.proofs.Calls.Branches.{either_option}
use Rattle.wl_server_client.specs.declared.error.FinishRefused.{FinishRefused}
use Rattle.wl_server_model.specs.Backend.{BackendState, Calls}
use Rattle.wl_server_client.specs.Deeds.{Deed, notes_in}
use Rattle.wl_server_client.specs.Finish.{FinishesBind, data_given, FinishesRequest, ended_by, ends, refusal, store_with_data}
use Rattle.wl_server_client.specs.Ids.{ClientParts, IdParts}
use Rattle.wl_server_model.specs.Lookups.{and_then}
use Rattle.wl_server_client.specs.Part.{Part, id_of, named, same_id, with_user_data, serial_of, end_note, id_at, note_of_end}
use Rattle.wl_server_model.specs.PartStep.{World, Asked}
use Rattle.wl_server_model.specs.Plain.{BindEndedAs, EndsBind, EndsOpenRequest, IsRefusedWhole, RequestEndedAs, RequestIsEnded, RequestRefusedAs, is_made, with_given, EndIsTold, end_note_of, notes_if_kept, sender_notes, ReturnsBindData, ReturnsRequestData, client_in}
use Rattle.wl_server_model.specs.Server.{Seen, seen, client_at}
use Rattle.wl_server_client.specs.Stored.{Stored}
use Rattle.wl_server_model.proofs.Plain.Base.{IsOfOne, OnOne, became, made_stay, not_stored, nothing_changes, nothing_new, of_one, refine, stored_stay}
use Rattle.wl_server_client.proofs.ObjectCalls.Naming.{names_so, rewritten_named, rewritten_others, removed_named, removed_others}
use Rattle.wl_link.specs.Reader.{Verdict}
use mathlib.Core.Logic.{inl, inr}
use Rattle.wl_wire.specs.declared.error.IoFault.{IoFault}
use Rattle.wl_link.specs.declared.object.Object.{Object}
use Rattle.wl_link.specs.Exchange.{Queue}
use Rattle.wl_link.specs.Store.{Store, removed}
use Rattle.wl_server_client.specs.declared.error.FinishError.{FinishError}
use Rattle.wl_server_client.specs.declared.notes.DisconnectReason.TheVariants.{ConnectionClosed}
use Rattle.wl_server_client.specs.declared.notes.Happening.TheVariants.{Disconnected}
use Rattle.wl_server_client.specs.declared.objects.Kept.{Kept}
use Rattle.wl_server_client.specs.Inside.Carried.{told_notes}
use Rattle.wl_server_client.specs.Inside.Finishing.{BindLeaves, RequestLeaves}
use Rattle.wl_server_client.specs.Objects.{unless_refused}
use Rattle.wl_server_model.specs.Steps.{Makes}
use Rattle.wl_server_client.specs.Telling.{core_of, closed_down, end_deeds, Core, Told}
use Rattle.wl_server_model.proofs.Plain.Verdicts.{IsTold, told}
use Rattle.std.specs.Result.{result_and}
use Rattle.wl_sets.proofs.Lists.{get_set_same}
use Rattle.wl_server_client.specs.declared.error.FinishError.TheVariants as finish
use Rattle.wl_server_client.specs.declared.reading.action.OpenAction.TheVariants as opened
use Rattle.wl_server_model.specs.declared.step.Reply.TheVariants as reply
use Rattle.wl_server_model.specs.declared.step.Step.TheVariants as step

-- ---- the end of a bind

-- what the end of a bind does to its client
abbrev EndsBindFor : {T U C : Type 0} → U → Result (Unit {0}) (FinishRefused U) → ClientParts → Bool → List (Deed U) → Part T U C → Part T U C
    → Type 0
EndsBindFor u answer client lacked did p q = FinishesBind p u answer lacked did q

-- the bind that is ended, and what the client is after it
record HasBound {T U C : Type 0} (p : Part T U C) (u : U) (did : List (Deed U)) (q : Part T U C) : Type 0 where
  object : IdParts
  open_is : p.action ≡ Some (opened.Bind object)
  did_is : did ≡ []
  part_is : q ≡ record p { action = None; store = data_given p.store object.number (named p.store object) u }

bound_ok : {T U C : Type 0} (u : U) (lacked : Bool) (did : List (Deed U)) (p q : Part T U C) → FinishesBind p u (Ok tt) lacked did q
    → HasBound p u did q
bound_ok u lacked did p q h = grind (arith, either_option)

module _ {T U C : Type 0} (target : ClientParts) (u : U) (s t : Seen T U C) where
  -- what it leaves, by the answer
  abbrev LeavesOfBind : Result (Unit {0}) (FinishRefused U) → Type 0
  LeavesOfBind (Ok _) =
      (object : IdParts) × (and_then s.part (λ p. p.action) ≡ Some (opened.Bind object)) × (and_then t.part (λ p. p.action) ≡ None)
      × (and_then t.part (λ p. named p.store object) ≡ option_map (with_user_data u) (and_then s.part (λ p. named p.store object)))
      × ((other : IdParts) → same_id (id_of object) (id_of other) ≡ false
      → and_then t.part (λ p. named p.store other) ≡ and_then s.part (λ p. named p.store other))
  LeavesOfBind (Err r) = (r.user_data ≡ u) × (t ≡ s)

  leaves_of_bind : (answer : Result (Unit {0}) (FinishRefused U)) (lacked : Bool)
      → OnOne (EndsBindFor u answer target) (answer ≡ Err (record { error = finish.InvalidId; user_data = u })) s lacked t → LeavesOfBind answer
  leaves_of_bind answer lacked h = grind (arith, either_option, bound_ok, and_then, named, option_map, with_user_data, rewritten_named, names_so, rewritten_others, nothing_new, notes_in, append-nil)

module _ {T U G C : Type 0} {w : World T G C} {before after : BackendState T U G C} (target : ClientParts) (u : U) where
  pub ends_bind : (answer : Result (Unit {0}) (FinishRefused U)) → Calls w before (step.FinishBind target u) (reply.FinishBind answer) after
      → EndsBind before target u answer after
  ends_bind answer call = record {
    bind = ended answer (leaves_of_bind target u _ _ answer after.refused one.own);
    clients = one.clients;
    notes = made_stay one (λ did p q r. (grind (arith, either_option, notes_in)));
    globals = one.globals;
    memory = elim one.own [ not_stored none is calm same ↦ calm | became p q did there r same ↦ grind (arith, either_option) ];
  }
    where
      one : IsOfOne before after target (EndsBindFor u answer target) (answer ≡ Err (record { error = finish.InvalidId; user_data = u }))
      one = of_one call.step target (EndsBindFor u answer) _ (λ id s t lacked did (r, is, h). let e : r ≡ answer = cc in rw e at h) refl refl refl

      ended : (r : Result (Unit {0}) (FinishRefused U)) → LeavesOfBind target u (seen target before.server) (seen target after.server) r
          → BindEndedAs before target u r after
      ended (Ok ok) left = left
      ended (Err r) (back, same) = (back, nothing_changes one same)

-- ---- the end of a request

-- ---- two ids of a client that are the same name the same

module _ {U : Type 0} where
  -- ---- the object that was made gets its data

  made_named : (store : Store (Kept U)) (id : IdParts) (u : Option U)
      → named (store_with_data store (Some id) u) id ≡ option_map (with_given u) (named store id)
  made_named store id u = grind (arith, named, option_map, with_user_data, rewritten_named, names_so, with_given)

  made_others : (store : Store (Kept U)) (created : Option IdParts) (u : Option U) (other : IdParts) → is_made created other ≡ false
      → named (store_with_data store created u) other ≡ named store other
  made_others store created u other h1 = grind (arith, named, rewritten_others, with_user_data, names_so)

  -- what names none goes on to
  made_none : (store : Store (Kept U)) (created : Option IdParts) (u : Option U) (o : IdParts) → named store o ≡ None
      → named (store_with_data store created u) o ≡ None
  made_none store created u o h1 =
      grind (arith, same_id, id_of, named, store_with_data, made_others, true≢false, serial_of, eqb-true, made_named, option_map, with_given)

  -- ---- the sender that is ended

  abbrev left_by : Store (Kept U) → ℕ → Option (Object (Kept U)) → Store (Kept U)
  left_by store n None = store
  left_by store n (Some x) = removed store n

  ended_named : (store : Store (Kept U)) (sender : IdParts) (is_destructor : Bool) (x : Object (Kept U))
      → ended_by store sender is_destructor ≡ Some x
      → (is_destructor ≡ true) × (named store sender ≡ Some x)
  ended_named store sender h3 x is = grind (arith)

-- ---- what a finish comes to

abbrev Answer : Type 0 → Type 0
Answer U = Result (Unit {0}) (FinishRefused (Option U))

abbrev RefusedFor : {U : Type 0} → Option U → FinishError → Answer U
RefusedFor u e = Err (record { error = e; user_data = u })

module _ {T U C : Type 0} where
  -- why it is refused, whatever memory there is
  abbrev Why : Part T U C → Option U → FinishError → Type 0
  Why p u finish.InvalidId = ⊥
  Why p u finish.NoOpenAction = p.action ≡ None
  Why p u finish.WrongKind = (object : IdParts) × (p.action ≡ Some (opened.Bind object))
  Why p u finish.MissingObjectData =
      (sender : IdParts) × (is_destructor : Bool) × (made : IdParts) × (p.action ≡ Some (opened.Request sender is_destructor (Some made)))
      × (u ≡ None) × (p.is_killed ≡ false)
  Why p u finish.UnexpectedData =
      (sender : IdParts) × (is_destructor : Bool) × (p.action ≡ Some (opened.Request sender is_destructor None)) × IsSome u
  Why p u finish.OutOfMemory = ⊥

-- what is noted in an end that is accepted: the sender that leaves, and the end of a client that could not be told
abbrev IsNoted : {T U C : Type 0} → ClientParts → Part T U C → Part T U C → IdParts → Bool → List (Deed U) → Type 0
IsNoted client p q sender is_destructor did =
    ((q.is_killed ≡ p.is_killed) × (notes_in did ≡ notes_if_kept client sender.number (ended_by p.store sender is_destructor)))
    ⊎ ((is_destructor ≡ true) × (q.is_killed ≡ true)
    × (notes_in did ≡ notes_if_kept client sender.number (ended_by p.store sender is_destructor) ++ cond p.is_killed [] (Disconnected ConnectionClosed ∷ [])))

-- what the call is of a client that is stored: it is refused, or there is no memory for the end of the sender, or the request is ended
data Comes {T U C : Type 0} (client : ClientParts) (u : Option U) (answer : Answer U) (lacked : Bool) (did : List (Deed U))
    (p q : Part T U C) : Type 0 where
  is_refused : (e : FinishError) → Why p u e → answer ≡ RefusedFor u e → lacked ≡ false → did ≡ [] → q ≡ p → Comes client u answer lacked did p q
  is_starved : (sender : IdParts) (is_destructor : Bool) (created : Option IdParts) → p.action ≡ Some (opened.Request sender is_destructor created)
      → is_destructor ≡ true
      → IsSome (named p.store sender) → answer ≡ RefusedFor u finish.OutOfMemory → lacked ≡ true → core_of q ≡ core_of p → notes_in did ≡ []
      → Comes client u answer lacked did p q
  is_ended : (sender : IdParts) (is_destructor : Bool) (created : Option IdParts) → p.action ≡ Some (opened.Request sender is_destructor created)
      → refusal p.is_killed created u ≡ None → answer ≡ Ok tt → lacked ≡ false
      → q.store ≡ store_with_data (left_by p.store sender.number (ended_by p.store sender is_destructor)) created u
      → q.action ≡ None → IsNoted client p q sender is_destructor did → Comes client u answer lacked did p q

module _ {T U C : Type 0} (client : ClientParts) (u : Option U) (p q : Part T U C) (sender : IdParts) (is_destructor : Bool)
    (created : Option IdParts) (did : List (Deed U)) where
  abbrev verdict : Option (Object (Kept U)) → Verdict (Core U C) (Told U)
  verdict o = ends client (core_of p) sender o created u

  ended_part : (o : Option (Object (Kept U))) → IsTold (verdict o) false did q
      → (q.store ≡ store_with_data (left_by p.store sender.number o) created u) × (q.action ≡ None)
  ended_part o t = grind (arith, ends, core_of, true≢false, closed_down, o)

  part_noted : (o : Option (Object (Kept U))) → ended_by p.store sender is_destructor ≡ o → IsTold (verdict o) false did q
      → IsNoted client p q sender is_destructor did
  part_noted o is t =
      grind (arith, ends, told_notes, notes_in, end_deeds, append-nil, is_some, note_of_end, id_of, id_at, end_note, ended_named, closed_down, core_of, true≢false, made_none, removed_named, o)

  starved_part : (o : Option (Object (Kept U))) → ended_by p.store sender is_destructor ≡ o → IsTold (verdict o) true did q
      → (is_destructor ≡ true) × IsSome (named p.store sender) × (core_of q ≡ core_of p) × (notes_in did ≡ [])
  starved_part o is t = grind (arith, ends, core_of, is_some, true≢false, named, ended_named, notes_in, end_deeds, told_notes, o)

  taken : (lacked : Bool) (answer : Answer U) → p.action ≡ Some (opened.Request sender is_destructor created) → refusal p.is_killed created u ≡ None
      → answer ≡ unless_refused (record { error = finish.OutOfMemory; user_data = u }) lacked
      → IsTold (verdict (ended_by p.store sender is_destructor)) lacked did q
      → Comes client u answer lacked did p q
  taken true answer is_open fits says t = let (destroys, there, core, silent) = starved_part _ refl t in is_starved sender is_destructor created is_open destroys there says refl core silent
  taken false answer is_open fits says t = let (store, action) = ended_part _ t in is_ended sender is_destructor created is_open fits says refl store action (part_noted _ refl t)

  refused_why : (e : FinishError) → p.action ≡ Some (opened.Request sender is_destructor created) → refusal p.is_killed created u ≡ Some e → Why p u e
  refused_why e is_open is = grind (arith, refusal, created, u)

comes_to : {T U C : Type 0} (sends : T → Queue → Result ℕ IoFault → T → Type 0) (client : ClientParts) (u : Option U) (answer : Answer U)
    (lacked : Bool) (did : List (Deed U)) (p q : Part T U C)
    → FinishesRequest sends client p u answer lacked did q → Comes client u answer lacked did p q
comes_to sends client u answer lacked did p q h =
    elim (either_option p.action h) [
      | inl (none, (says, calm, nothing, same)) ↦ is_refused finish.NoOpenAction none says calm nothing same
      | inr (opened.Bind object, is, (says, calm, nothing, same)) ↦ is_refused finish.WrongKind (object, is) says calm nothing same
      | inr (opened.Request sender is_destructor created, is, is_open) ↦
          elim (either_option (refusal p.is_killed created u) is_open) [
            | inl (fits, (says, tells)) ↦ taken client u p q sender is_destructor created did lacked answer is fits says
                (told sends _ p.link lacked did q tells)
            | inr (e, why, (says, calm, nothing, same)) ↦ is_refused e
                (refused_why client u p q sender is_destructor created did e is why) says calm nothing same
          ]
    ]

-- ---- of a call

module _ {T U G C : Type 0} (w : World T G C) (before after : BackendState T U G C) (target : ClientParts) (u : Option U) where
  abbrev Ending : Answer U → Type 0
  Ending answer = IsOfOne before after target (Comes target u answer) (answer ≡ RefusedFor u finish.InvalidId)

  -- ---- by the answer

  refused_as : (p : Part T U C) (e : FinishError) → (seen target before.server).part ≡ Some p → Why p u e → IsRefusedWhole before after
      → RequestRefusedAs before target u e after
  refused_as p e there why whole = grind (arith, is_some, option_map, e)

  module _ (p q : Part T U C) (did : List (Deed U)) (sender : IdParts) (is_destructor : Bool) (created : Option IdParts)
      (there : (seen target before.server).part ≡ Some p)
      (same : seen target after.server ≡ record { part = Some q; made = (seen target before.server).made ++ notes_in did }) where
    end_told : IsNoted target p q sender is_destructor did → EndIsTold before target sender is_destructor after
    end_told noted = grind (arith, option_map, notes_if_kept, ended_by, sender_notes, named, end_note_of)

    ended_as : p.action ≡ Some (opened.Request sender is_destructor created) → refusal p.is_killed created u ≡ None
        → q.store ≡ store_with_data (left_by p.store sender.number (ended_by p.store sender is_destructor)) created u → q.action ≡ None
        → IsNoted target p q sender is_destructor did
        → RequestIsEnded before target sender is_destructor created u after
    ended_as is_open fits store none_open noted =
        let now : (seen target after.server).part ≡ Some q = ap (λ (x : Seen T U C). x.part) same in
        let left : Store (Kept U) = left_by p.store sender.number (ended_by p.store sender is_destructor) in
        let found : (id : IdParts) → and_then (seen target after.server).part (λ p. named p.store id) ≡ named (store_with_data left created u) id =
        λ id. ap (λ (x : Option (Part T U C)). and_then x (λ p. named p.store id)) now ∙ ap (λ (s : Store (Kept U)). named s id) store in
        let had : (id : IdParts) → and_then (seen target before.server).part (λ p. named p.store id) ≡ named p.store id =
        λ id. ap (λ (x : Option (Part T U C)). and_then x (λ p. named p.store id)) there in
        record {
          was_open = ap (λ (x : Option (Part T U C)). and_then x (λ p. p.action)) there ∙ is_open;
          is_finished = ap (λ (x : Option (Part T U C)). and_then x (λ p. p.action)) now ∙ none_open;
          fits = grind (arith, refusal, option_map, created, fits);
          gone = λ ends. found sender ∙ made_none left created u sender (grind (arith, removed_named, true≢false, p.store, sender, is_destructor));
          made = grind (arith, named, store_with_data, made_named, option_map, with_given, ended_named, removed_others, names_so, true≢false, same_id, id_of);
          others = grind (arith, made_others, ended_named, removed_others, names_so, true≢false, same_id, id_of);
          told = end_told noted;
        }

  request_ended_as : (answer : Answer U) → Ending answer → RequestEndedAs before target u answer after
  request_ended_as answer one =
      elim one.own [
        | not_stored none is calm same ↦ rw is (refl, (none, (nothing_changes one same, calm)))
        | became p q did there so same ↦
            elim so [
              | is_refused e why is calm none stays ↦ rw is
                  (refl, refused_as p e there why (nothing_changes one (nothing_new _ _ p q did there stays (ap notes_in none) same), calm))
              | is_starved sender is_destructor created is_open destroys kept is lacks core silent ↦
                  rw is (refl, (sender, created, (grind (arith, and_then)), (grind (arith, and_then, is_some, named)), (grind (arith, option_map)), (grind (arith, append-nil)), lacks))
              | is_ended sender is_destructor created is_open fits is calm store none_open noted ↦
                  rw is (sender, is_destructor, created, ended_as p q did sender is_destructor created there same is_open fits store none_open noted, calm)
            ]
      ]

  pub request_ends : (answer : Answer U) → Makes w before.server
      (Asked (step.FinishRequest target u) (reply.FinishRequest answer)) after.refused after.server
      → EndsOpenRequest before target u answer after
  request_ends answer made =
      let one : Ending answer = refine (of_one made target (λ id lacked did p q. FinishesRequest w.sends id p u answer lacked did q) _ (λ id s t lacked did (r, is, h). let e : r ≡ answer = cc in rw e at h)
      refl refl refl) (comes_to w.sends target u answer) in
      record { request = request_ended_as answer one; clients = one.clients; stored = stored_stay one; globals = one.globals }

  pub ends_open_request : (answer : Answer U) → Calls w before (step.FinishRequest target u) (reply.FinishRequest answer) after
      → EndsOpenRequest before target u answer after
  ends_open_request answer call = request_ends answer call.step

-- ---- what becomes of the data of an action, in the words of the look-ups

-- ---- data that are given

-- ---- the client that was looked up

module _ {T U G C : Type 0} (before after : BackendState T U G C) (id : ClientParts) (s t : Stored T U C)
    (there : Some s ≡ client_at id before.server.clients) (same : t.serial ≡ s.serial)
    (now : after.server.clients ≡ slice_set before.server.clients id.slot (Some t)) where
  parts : (client_in before id ≡ Some s.part) × (client_in after id ≡ Some t.part)
  parts = grind (arith, option_map, get_set_same)

  pub bind_returns : (u : U) (answer : Result (Option U) (FinishRefused U)) → BindLeaves s.part u answer t.part
      → EndsBind before id u (result_and answer (Ok tt)) after
      → ReturnsBindData before id u answer after
  bind_returns u answer leaves ends = let (was, is) = parts in grind (arith)

  pub request_returns : (u : Option U) (answer : Result (Option U) (FinishRefused (Option U))) → RequestLeaves s.part u answer t.part
      → EndsOpenRequest before id u (result_and answer (Ok tt)) after → ReturnsRequestData before id u answer after
  request_returns u answer leaves ends = let (was, is) = parts in grind (arith)
