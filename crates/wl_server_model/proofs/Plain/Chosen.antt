-- The calls by which the program chooses an object's version or number.
use Rattle.std.proofs.Common.{◌≡◌, ℕ, Bool, true, false, List, [], None, Some, Result, Ok, Err, IfOk, option_map, refl, ap, arith, true≢false, append-nil}
use mathlib.Core.Logic.{inl, inr}
use Rattle.std.specs.Prelude.{◌==◌, slice_get}
use Rattle.wl_wire.specs.declared.interface.InterfaceId.{InterfaceId}
use Rattle.wl_wire.specs.Table.{InterfaceRow}
use Rattle.wl_link.proofs.Calls.Branches.{either_option}
use Rattle.wl_link.proofs.Ids.StoreLaws.{held_stored, stored_here}
use Rattle.wl_link.specs.declared.object.Object.{Object}
use Rattle.wl_link.specs.Store.{held, stored}
use Rattle.wl_server_client.specs.declared.error.CreateAtError.{CreateAtError}
use Rattle.wl_server_client.specs.declared.error.CreateAtError.TheVariants as create
use Rattle.wl_server_client.specs.declared.error.VersionError.{VersionError}
use Rattle.wl_server_client.specs.declared.error.VersionError.TheVariants as wrong
use Rattle.wl_server_client.specs.declared.objects.Kept.{Kept}
use Rattle.wl_server_model.specs.declared.step.Reply.TheVariants as reply
use Rattle.wl_server_model.specs.declared.step.Step.TheVariants as step
use Rattle.wl_server_model.specs.Backend.{BackendState, Calls}
use Rattle.wl_server_client.specs.Chosen.{CreatesNumbered, VersionSet, has_version, is_free_own, with_version}
use Rattle.wl_server_client.specs.Deeds.{Deed, notes_in}
use Rattle.wl_server_model.specs.Identified.{named_of}
use Rattle.wl_server_client.specs.Ids.{ClientParts, IdParts, same_client}
use Rattle.wl_server_client.specs.Objects.{new_object, with_new_at}
use Rattle.wl_server_client.specs.Part.{Part, fresh_object, id_at, id_of, last_possible_serial, named, same_id, serial_of}
use Rattle.wl_server_model.specs.PartStep.{Quietly, World, lacks_create_at}
use Rattle.wl_server_model.specs.Plain.{CreatedAs, OtherObjectsStay, without_objects}
use Rattle.wl_server_model.specs.Plain.Chosen.{CreatesObjectAt, SetsObjectVersion, VersionSetAs}
use Rattle.wl_server_model.specs.Server.{Seen, seen}
use Rattle.wl_server_model.proofs.ObjectCalls.Choosing.{either_flag, own_absent}
use Rattle.wl_server_model.proofs.Plain.Base.{IsOfOne, OnOne, became, made_stay, names_stay, not_stored, nothing_changes, nothing_new, of_one, stays}
use Rattle.wl_server_client.proofs.ObjectCalls.Naming.{both_none, named_here, names_so, nothing_has, other_named, rewritten_named, rewritten_others}
use Rattle.std.proofs.lemmas.Bool.{eq-eqb, ne_eqb}

-- ---- a version

-- what the call does to its client
abbrev SetsFor : {T U C : Type 0} → List InterfaceRow → IdParts → ℕ → Result (Unit {0}) VersionError → ClientParts → Bool → List (Deed U)
    → Part T U C → Part T U C → Type 0
SetsFor table o version answer id lacked did p q = Quietly lacked did (VersionSet table p o version answer q)

module _ {T U C : Type 0} (table : List InterfaceRow) (o : IdParts) (version : ℕ) (s t : Seen T U C) (lacked : Bool) where
  -- what it comes to, by the answer
  abbrev Leaves : Result (Unit {0}) VersionError → Type 0
  Leaves (Ok _) =
      (x : Object (Kept U)) × (named_of s o ≡ Some x) × (has_version table x.interface version ≡ true) × (named_of t o ≡ Some (with_version version x))
  Leaves (Err wrong.InvalidId) = (named_of s o ≡ None) × (t ≡ s)
  Leaves (Err wrong.UnknownVersion) =
      (x : Object (Kept U)) × (named_of s o ≡ Some x) × (has_version table x.interface version ≡ false) × (t ≡ s)

  leaves : (answer : Result (Unit {0}) VersionError) → OnOne (SetsFor table o version answer o.client) (answer ≡ Err wrong.InvalidId) s lacked t
      → Leaves answer
  leaves answer h =
      grind (arith, either_option, either_flag, named, rewritten_named, with_version, has_version, names_so, nothing_new, append-nil, notes_in)

module _ {T U G C : Type 0} {w : World T G C} {before after : BackendState T U G C} where
  pub sets_object_version : (o : IdParts) (version : ℕ) (answer : Result (Unit {0}) VersionError)
      → Calls w before (step.SetObjectVersion o version) (reply.SetObjectVersion answer) after
      → SetsObjectVersion before o version answer after
  sets_object_version o version answer call = record {
    object = set_as answer (leaves before.server.offer.table o version _ _ after.refused answer one.own);
    objects = λ other differ. names_stay one other
        (λ about did p q there r. (grind (arith, either_option, either_flag, named, rewritten_others, with_version, has_version, names_so, true≢false, same_client o.client other.client)));
    rest = stays one (option_map without_objects) o.client
        (λ about did p q there r. (grind (arith, either_option, either_flag, named, has_version, without_objects)));
    clients = one.clients;
    notes = made_stay one (λ did p q r. ap notes_in r.1);
    globals = one.globals;
    memory = elim one.own [ not_stored none is calm same ↦ calm | became p q did there r same ↦ r.0 ];
  }
    where
      one : IsOfOne before after o.client (SetsFor before.server.offer.table o version answer o.client) (answer ≡ Err wrong.InvalidId)
      one = of_one call.step o.client (SetsFor before.server.offer.table o version answer) _
          (λ id s t lacked did (r, is, h). let e : r ≡ answer = cc in rw e at h) refl refl refl

      set_as : (r : Result (Unit {0}) VersionError)
          → Leaves before.server.offer.table o version (seen o.client before.server) (seen o.client after.server) after.refused r
          → VersionSetAs before o version r after
      set_as (Ok ok) left = left
      set_as (Err wrong.InvalidId) (none, same) = (none, nothing_changes one same)
      set_as (Err wrong.UnknownVersion) (x, there, lacks, same) = (x, there, lacks, nothing_changes one same)

-- ---- a number

-- what the call does to its client
abbrev NumbersFor : {T U C : Type 0} → List InterfaceRow → InterfaceId → ℕ → ℕ → U → Result IdParts CreateAtError → ClientParts → Bool → List (Deed U)
    → Part T U C → Part T U C → Type 0
NumbersFor table i version n u answer client lacked did p q =
    (lacked ≡ lacks_create_at answer) × (did ≡ []) × CreatesNumbered table client p i version n u answer q

module _ {T U C : Type 0} (table : List InterfaceRow) (client : ClientParts) (p : Part T U C) (i : InterfaceId) (version n : ℕ) (u : U) where
  -- an object was put at the number, which held none
  record IsPut (id : IdParts) (q : Part T U C) : Type 0 where
    absent : held p.store n ≡ None
    positive : (n == 0) ≡ false
    id_is : id ≡ id_at client n (new_object p i version u)
    part_is : q ≡ with_new_at p n (new_object p i version u)

  put_new : (id : IdParts) (q : Part T U C) → CreatesNumbered table client p i version n u (Ok id) q → IsPut id q
  put_new id q h =
      elim (either_option (slice_get table i.0) h) [
        | inl (none, (is, same)) ↦ absurd cc
        | inr (row, some, more) ↦
            elim (either_flag (p.last_serial == last_possible_serial) more) [
              | inl (full, (is, same)) ↦ absurd cc
              | inr (left, by) ↦
                  elim (either_flag (is_free_own p.store n) by) [
                    | inr (taken, (is, same)) ↦ absurd cc
                    | inl (free, inr (is, unused, same)) ↦ absurd cc
                    | inl (free, inl (is, same)) ↦
                        let (absent, ne) = own_absent p.store n free in
                        record { absent = absent; positive = ne_eqb n 0 ne; id_is = grind (arith, is); part_is = same }
                  ]
            ]
      ]

  same_part : (e : CreateAtError) (q : Part T U C) → CreatesNumbered table client p i version n u (Err e) q → q ≡ p
  same_part e q h =
      elim (either_option (slice_get table i.0) h) [
        | inl (none, (is, same)) ↦ same
        | inr (row, some, more) ↦
            elim (either_flag (p.last_serial == last_possible_serial) more) [
              | inl (full, (is, same)) ↦ same
              | inr (left, by) ↦
                  elim (either_flag (is_free_own p.store n) by) [
                    | inr (taken, (is, same)) ↦ same
                    | inl (free, inr (is, unused, same)) ↦ same
                    | inl (free, inl (is, same)) ↦ absurd cc
                  ]
            ]
      ]

module _ {T U G C : Type 0} (before after : BackendState T U G C) (target : ClientParts) (i : InterfaceId) (version n : ℕ) (u : U) where
  abbrev table_of : List InterfaceRow
  table_of = before.server.offer.table

  abbrev Numbering : Result IdParts CreateAtError → Type 0
  Numbering answer = IsOfOne before after target (NumbersFor table_of i version n u answer target) (answer ≡ Err create.InvalidId)

  put_at : (id : IdParts) (s t : Seen T U C) (lacked : Bool) → OnOne (NumbersFor table_of i version n u (Ok id) target)
      (◌≡◌ {A = Result IdParts CreateAtError} (Ok id) (Err create.InvalidId)) s lacked t
      → (id.client ≡ target) × (id.interface ≡ i) × (id.number ≡ n) × (named_of s id ≡ None)
      × (named_of t id ≡ Some (fresh_object i version id.serial (Some u)))
  put_at id s t lacked h =
      grind (arith, put_new, named, serial_of, id_of, id_at, both_none, named_here, stored, stored_here, eq-eqb, fresh_object, new_object)

  others_at : (id : IdParts) → Numbering (Ok id) → OtherObjectsStay before id after
  others_at id one other differ =
      names_stay one other (grind (arith, named, other_named, stored, held_stored, nothing_has, held, same_id, id_of, id_at, put_new, new_object, true≢false, same_client))

  none_at : (e : CreateAtError) (s t : Seen T U C) (lacked : Bool) → OnOne (NumbersFor table_of i version n u (Err e) target)
      (◌≡◌ {A = Result IdParts CreateAtError} (Err e) (Err create.InvalidId)) s lacked t
      → t ≡ s
  none_at e s t lacked h = grind (arith, same_part, nothing_new, notes_in, append-nil)

  numbered_as : (answer : Result IdParts CreateAtError) → Numbering answer
      → CreatedAs before target i version u answer after × IfOk answer (λ id. id.number ≡ n)
  numbered_as (Ok id) one =
      let (of, interface, number, none, new) = put_at id _ _ after.refused one.own in
      ((of, interface, rw of none, rw of new, others_at id one), number)
  numbered_as (Err e) one = (nothing_changes one (none_at e _ _ after.refused one.own), tt)

module _ {T U G C : Type 0} {w : World T G C} {before after : BackendState T U G C} (target : ClientParts) (i : InterfaceId) (version n : ℕ)
    (u : U) where
  pub creates_object_at : (answer : Result IdParts CreateAtError)
      → Calls w before (step.CreateObjectAt target i version n u) (reply.CreateObjectAt answer) after
      → CreatesObjectAt before target i version n u answer after
  creates_object_at answer call =
      let (object, number) = numbered_as before after target i version n u answer one in
      record {
        object = object;
        number = number;
        clients = one.clients;
        notes = made_stay one (λ did p q r. ap notes_in r.1);
        globals = one.globals;
        memory = elim one.own [ not_stored none is calm same ↦ grind (arith, is) | became p q did there r same ↦ r.0 ];
      }
    where
      one : Numbering before after target i version n u answer
      one = of_one call.step target (NumbersFor before.server.offer.table i version n u answer) _
          (λ id s t lacked did (r, is, h). let e : r ≡ answer = cc in rw e at h) refl refl refl
