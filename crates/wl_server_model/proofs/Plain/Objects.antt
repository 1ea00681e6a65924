-- The calls on objects: one gets data, is created, or is destroyed.
use Rattle.std.proofs.Common.{◌≡◌, Bool, List, None, Some, Result, Err, MatchResult, option_map, refl, ap, arith, true≢false, append-nil, ℕ, [], Ok, true, false, cond, eqb-true, ◌++◌}
use Rattle.wl_link.proofs.Calls.Branches.{either_option, map_result}
use Rattle.wl_link.specs.declared.object.Object.{Object}
use Rattle.wl_server_client.specs.declared.error.InvalidId.{InvalidId}
use Rattle.wl_server_client.specs.declared.objects.Kept.{Kept}
use Rattle.wl_server_model.specs.Backend.{BackendState, Calls}
use Rattle.wl_server_client.specs.Deeds.{Deed, notes_in}
use Rattle.wl_server_model.specs.Identified.{named_of, waiting_of}
use Rattle.wl_server_client.specs.Ids.{ClientParts, IdParts, same_client}
use Rattle.wl_server_client.specs.Objects.{DataSet, Creates, new_object, with_new_at, Destroys, destroyable, destroys}
use Rattle.wl_server_client.specs.Part.{Part, named, with_user_data, fresh_object, id_at, id_of, last_possible_serial, same_id, serial_of, note_of_end}
use Rattle.wl_server_model.specs.PartStep.{Quietly, World, lacks_create}
use Rattle.wl_server_model.specs.Plain.{SetsObjectData, without_objects, CreatedAs, CreatesObject, OtherObjectsStay, DestroyedAs, DestroysObject}
use Rattle.wl_server_model.specs.Plain.DataInPlace.{LendsObjectData, SetsWhatIsLeft}
use Rattle.wl_server_model.specs.Server.{Seen, seen}
use Rattle.wl_server_model.proofs.Plain.Base.{IsOfOne, OnOne, became, made_stay, names_stay, not_stored, nothing_changes, nothing_new, of_one, stays, stored_stay}
use Rattle.wl_server_client.proofs.ObjectCalls.Naming.{names_so, rewritten_named, rewritten_others, both_none, named_here, nothing_has, other_named, removed_named, removed_others}
use Rattle.std.proofs.lemmas.Bool.{eq-eqb, ne_eqb}
use Rattle.std.specs.Prelude.{slice_get, ◌⊎◌}
use Rattle.wl_wire.specs.declared.interface.InterfaceId.{InterfaceId}
use Rattle.wl_wire.specs.Table.{InterfaceRow}
use Rattle.wl_link.proofs.Ids.StoreLaws.{held_stored, stored_here}
use Rattle.wl_link.specs.Store.{IsLeastAbsent, held, server_range, stored, removed}
use Rattle.wl_server_client.specs.declared.error.CreateError.{CreateError}
use mathlib.Core.Logic.{inl, inr}
use Rattle.wl_wire.specs.declared.error.IoFault.{IoFault}
use Rattle.wl_link.specs.Exchange.{Queue}
use Rattle.wl_server_client.specs.declared.error.DestroyError.{DestroyError}
use Rattle.wl_server_client.specs.Telling.{closed_down, core_of}
use Rattle.wl_server_model.proofs.Plain.Verdicts.{IsTold, told}
use Rattle.wl_server_model.specs.declared.step.Reply.TheVariants as reply
use Rattle.wl_server_model.specs.declared.step.Step.TheVariants as step
use Rattle.wl_server_client.specs.declared.error.CreateError.TheVariants as create
use Rattle.wl_server_client.specs.declared.error.DestroyError.TheVariants as destroy

-- ---- an object that gets data

-- what the call does to its client
abbrev Sets : {T U C : Type 0} → IdParts → U → Result (Unit {0}) InvalidId → ClientParts → Bool → List (Deed U) → Part T U C → Part T U C → Type 0
Sets o u answer id lacked did p q = Quietly lacked did (DataSet p o u answer q)

set_own : {T U C : Type 0} (o : IdParts) (u : U) (answer : Result (Unit {0}) InvalidId) (s t : Seen T U C) (lacked : Bool)
    → OnOne (Sets o u answer o.client) (answer ≡ Err _) s lacked t
    → MatchResult answer (λ _. (x : Object (Kept U)) × (named_of s o ≡ Some x) × (named_of t o ≡ Some (with_user_data u x)))
    (λ _. (named_of s o ≡ None) × (t ≡ s))
set_own o u answer s t lacked h = grind (arith, either_option, named, rewritten_named, with_user_data, names_so, nothing_new, append-nil, notes_in)

module _ {T U G C : Type 0} {w : World T G C} {before after : BackendState T U G C} where
  pub sets_object_data : (o : IdParts) (u : U) (answer : Result (Unit {0}) InvalidId)
      → Calls w before (step.SetObjectData o u) (reply.SetObjectData answer) after
      → SetsObjectData before o u answer after
  sets_object_data o u answer call = record {
    object =
        map_result answer (λ ok found. found) (λ e (none, same). (none, nothing_changes one same)) (set_own o u answer _ _ after.refused one.own);
    objects = λ other differ. names_stay one other
        (λ about did p q there r. (grind (arith, either_option, named, rewritten_others, with_user_data, names_so, true≢false, same_client o.client other.client)));
    rest = stays one (option_map without_objects) o.client (λ about did p q there r. (grind (arith, either_option, named, without_objects)));
    clients = one.clients;
    notes = made_stay one (λ did p q r. ap notes_in r.1);
    globals = one.globals;
    memory = elim one.own [ not_stored none is calm same ↦ calm | became p q did there r same ↦ r.0 ];
  }
    where
      one : IsOfOne before after o.client (Sets o u answer o.client) (answer ≡ Err _)
      one = of_one call.step o.client (Sets o u answer) _ (λ id s t lacked did (r, is, h). let e : r ≡ answer = cc in rw e at h) refl refl refl

-- ---- data that are lent

module _ {T U G C R : Type 0} (lend : U → R → U → Type 0) (w : World T G C) where
  pub sets_what_is_left : (before : BackendState T U G C) (o : IdParts) (answer : Result R InvalidId) (after : BackendState T U G C)
      → LendsObjectData lend w before o answer after
      → SetsWhatIsLeft lend before o answer after
  sets_what_is_left before o answer after h = grind (arith, either_option)

-- ---- a new object of the server's

-- the object was put at a number that held none
record IsNew {T U C : Type 0} (client : ClientParts) (p : Part T U C) (i : InterfaceId) (version : ℕ) (u : U) (id : IdParts)
    (q : Part T U C) : Type 0 where
  n : ℕ
  absent : IsLeastAbsent server_range p.store n
  id_is : id ≡ id_at client n (new_object p i version u)
  part_is : q ≡ with_new_at p n (new_object p i version u)

module _ {T U C : Type 0} (table : List InterfaceRow) (client : ClientParts) (p : Part T U C) (i : InterfaceId) (version : ℕ) (u : U) where
  made_new : (id : IdParts) (q : Part T U C) → Creates table client p i version u (Ok id) q → IsNew client p i version u id q
  made_new id q h = grind (arith, slice_get, last_possible_serial)

module _ {T U C : Type 0} {client : ClientParts} {p : Part T U C} {i : InterfaceId} {version : ℕ} {u : U} {id : IdParts} {q : Part T U C}
    (new : IsNew client p i version u id q) where
  abbrev made : Object (Kept U)
  made = new_object p i version u

  new_after : named q.store id ≡ Some (fresh_object i version id.serial (Some u))
  new_after = grind (arith, named, stored, made, named_here, id_at, ne_eqb, stored_here, eq-eqb, fresh_object)

  new_client : id.client ≡ client
  new_client = ap (λ (o : IdParts). o.client) new.id_is

  new_interface : id.interface ≡ i
  new_interface = ap (λ (o : IdParts). o.interface) new.id_is

-- ---- the call

-- what it does to its client
abbrev CreatesFor : {T U C : Type 0} → List InterfaceRow → InterfaceId → ℕ → U → Result IdParts CreateError → ClientParts → Bool → List (Deed U)
    → Part T U C → Part T U C → Type 0
CreatesFor table i version u answer client lacked did p q = (lacked ≡ lacks_create answer) × (did ≡ []) × Creates table client p i version u answer q

module _ {T U G C : Type 0} (before after : BackendState T U G C) (target : ClientParts) (i : InterfaceId) (version : ℕ) (u : U) where
  abbrev Creating : Result IdParts CreateError → Type 0
  Creating answer = IsOfOne before after target (CreatesFor before.server.offer.table i version u answer target) (answer ≡ Err create.InvalidId)

  created : (id : IdParts) (s t : Seen T U C) (lacked : Bool) → OnOne (CreatesFor before.server.offer.table i version u (Ok id) target)
      (◌≡◌ {A = Result IdParts CreateError} (Ok id) (Err create.InvalidId)) s lacked t
      → (id.client ≡ target) × (id.interface ≡ i) × (named_of s id ≡ None) × (named_of t id ≡ Some (fresh_object i version id.serial (Some u)))
  created id s t lacked h = grind (arith, made_new, new_client, new_interface, named, serial_of, id_of, id_at, both_none, new_after)

  created_others : (id : IdParts) → Creating (Ok id) → OtherObjectsStay before id after
  created_others id one other differ =
      names_stay one other (grind (arith, named, other_named, stored, made, held_stored, nothing_has, held, same_id, id_of, made_new, true≢false, same_client))

  not_created : (e : CreateError) (s t : Seen T U C) (lacked : Bool) → OnOne (CreatesFor before.server.offer.table i version u (Err e) target)
      (◌≡◌ {A = Result IdParts CreateError} (Err e) (Err create.InvalidId)) s lacked t
      → t ≡ s
  not_created e s t lacked h = grind (arith, slice_get, last_possible_serial, nothing_new, notes_in, append-nil)

  created_as : (answer : Result IdParts CreateError) → Creating answer → CreatedAs before target i version u answer after
  created_as (Ok id) one = let (of, interface, none, new) = created id _ _ after.refused one.own in (of, interface, rw of none, rw of new, created_others id one)
  created_as (Err e) one = nothing_changes one (not_created e _ _ after.refused one.own)

module _ {T U G C : Type 0} {w : World T G C} {before after : BackendState T U G C} (target : ClientParts) (i : InterfaceId) (version : ℕ)
    (u : U) where
  pub creates_object : (answer : Result IdParts CreateError) → Calls w before (step.CreateObject target i version u) (reply.CreateObject answer) after
      → CreatesObject before target i version u answer after
  creates_object answer call = record {
    object = created_as before after target i version u answer one;
    clients = one.clients;
    notes = made_stay one (λ did p q r. ap notes_in r.1);
    globals = one.globals;
    memory = elim one.own [ not_stored none is calm same ↦ grind (arith, is) | became p q did there r same ↦ r.0 ];
  }
    where
      one : Creating before after target i version u answer
      one = of_one call.step target (CreatesFor before.server.offer.table i version u answer) _
          (λ id s t lacked did (r, is, h). let e : r ≡ answer = cc in rw e at h) refl refl refl

-- ---- an object that the program destroys

-- what the call does to its client
abbrev DestroysFor : {T U C : Type 0} → (T → Queue → Result ℕ IoFault → T → Type 0) → IdParts → Result (Unit {0}) DestroyError → ClientParts → Bool
    → List (Deed U) → Part T U C → Part T U C → Type 0
DestroysFor sends o answer client lacked did p q = Destroys sends client p o answer lacked did q

-- the object leaves the store, or that stays
left_store : {T U C : Type 0} (o : IdParts) (x : Object (Kept U)) (p q : Part T U C) (lacked : Bool) (did : List (Deed U))
    → IsTold (destroys o.client (core_of p) o x) lacked did q
    → q.store ≡ cond lacked p.store (removed p.store o.number)
left_store o x p q lacked did t = grind (arith, core_of, cond, closed_down)

destroy_others : {T U C : Type 0} (sends : T → Queue → Result ℕ IoFault → T → Type 0) (o : IdParts) (p q : Part T U C)
    (answer : Result (Unit {0}) DestroyError) (lacked : Bool) (did : List (Deed U))
    → DestroysFor sends o answer o.client lacked did p q → (other : IdParts) → same_id (id_of o) (id_of other) ≡ false
    → named q.store other ≡ named p.store other
destroy_others sends o p q answer lacked did h other differ =
    elim (either_option (destroyable p o) h) [
      | inl (none, (is, calm, nothing, same)) ↦ ap (λ (y : Part _ _ _). named y.store other) same
      | inr (x, is, (says, tells)) ↦ let store =
          left_store o x p q lacked did (told sends _ p.link lacked did q tells) in grind (arith, store, lacked, named, removed_others, names_so)
    ]

module _ {T U C : Type 0} (sends : T → Queue → Result ℕ IoFault → T → Type 0) (o : IdParts) (s t : Seen T U C) (lacked : Bool) where
  -- what it leaves, by the answer
  abbrev Leaves : Result (Unit {0}) DestroyError → Type 0
  Leaves (Ok _) =
      (x : Object (Kept U)) × (named_of s o ≡ Some x) × (named_of t o ≡ None)
      × (waiting_of t.part ≡ waiting_of s.part ++ note_of_end o.client o.number x) × (lacked ≡ false)
  Leaves (Err destroy.InvalidId) = ((o.number ≡ 1) ⊎ (named_of s o ≡ None)) × (t ≡ s) × (lacked ≡ false)
  Leaves (Err destroy.OutOfMemory) = (named_of t o ≡ named_of s o) × (lacked ≡ true)

  leaves : (answer : Result (Unit {0}) DestroyError) → OnOne (DestroysFor sends o answer o.client) (answer ≡ Err destroy.InvalidId) s lacked t
      → Leaves answer
  leaves answer h = grind (arith, either_option, destroyable, told, destroys, core_of, named, removed_named, note_of_end, waiting_of, nothing_new, notes_in, append-nil, eqb-true)

module _ {T U G C : Type 0} {before after : BackendState T U G C} (sends : T → Queue → Result ℕ IoFault → T → Type 0) (o : IdParts)
    (answer : Result (Unit {0}) DestroyError)
    (one : IsOfOne before after o.client (DestroysFor sends o answer o.client) (answer ≡ Err destroy.InvalidId)) where
  destroyed_as : (r : Result (Unit {0}) DestroyError) → Leaves sends o (seen o.client before.server) (seen o.client after.server) after.refused r
      → DestroyedAs before o r after
  destroyed_as (Ok ok) left = left
  destroyed_as (Err destroy.InvalidId) (why, same, calm) = (why, nothing_changes one same, calm)
  destroyed_as (Err destroy.OutOfMemory) left = left

  -- an id of another number or serial
  destroyed_others : OtherObjectsStay before o after
  destroyed_others other differ = names_stay one other
      (λ about did p q there r. destroy_others sends o p q answer after.refused did r other (grind (arith, same_client o.client other.client)))

module _ {T U G C : Type 0} {w : World T G C} {before after : BackendState T U G C} (o : IdParts) where
  pub destroys_object : (answer : Result (Unit {0}) DestroyError) → Calls w before (step.DestroyObject o) (reply.DestroyObject answer) after
      → DestroysObject before o answer after
  destroys_object answer call = record {
    object = destroyed_as w.sends o answer one answer (leaves w.sends o _ _ after.refused answer one.own);
    objects = destroyed_others w.sends o answer one;
    clients = one.clients;
    stored = stored_stay one;
    globals = one.globals;
  }
    where
      one : IsOfOne before after o.client (DestroysFor w.sends o answer o.client) (answer ≡ Err destroy.InvalidId)
      one = of_one call.step o.client (DestroysFor w.sends o answer) _
          (λ id s t lacked did (r, is, h). let e : r ≡ answer = cc in rw e at h) refl refl refl
