-- What ids name after a message was handled: what they named, but for those that it made.
use Rattle.std.proofs.Common.{◌≡◌, ◌⊎◌, ◌≤◌, ◌+◌, ℕ, Bool, true, false, cond, eqb, eqb-true, List, [], ◌∷◌, ◌++◌, Option, None, Some, IsSome, is_some, Ok, Err, refl, sym, subst, arith, true≢false}
use mathlib.Core.Logic.{inl, inr}
use Rattle.std.proofs.lemmas.Bool.{eq-eqb, ne_eqb}
use Rattle.std.specs.Prelude.{◌==◌, MatchBool}
use Rattle.wl_wire.specs.declared.argument.Argument.{Argument}
use Rattle.wl_wire.specs.declared.argument.Argument.TheVariants as arg
use Rattle.wl_wire.specs.declared.argument.Token.{Token}
use Rattle.wl_wire.specs.declared.interface.InterfaceId.{InterfaceId}
use Rattle.wl_wire.specs.Argument.{WireArgument}
use Rattle.wl_wire.specs.Message.{WireMessage}
use Rattle.wl_wire.specs.MessageRows.{next_interface}
use Rattle.wl_wire.specs.Table.{InterfaceRow, MessageRow}
use Rattle.wl_link.proofs.Calls.Branches.{at_true}
use Rattle.wl_link.proofs.Ids.StoreLaws.{held_removed, held_rewritten, held_stored}
use Rattle.wl_link.specs.declared.object.Object.{Object}
use Rattle.wl_link.specs.Identity.{Objects, named_in}
use Rattle.wl_link.specs.Store.{Store, held, stored}
use Rattle.wl_client.specs.declared.objects.Kept.{Kept}
use Rattle.wl_client.specs.declared.event_fault.EventFault.TheVariants as wrong
use Rattle.wl_client.specs.Events.{Converted, Converting, Deletes, DisplayEvent, Fails, Outcome, Unreadable, Whole, Wrong, convert, convert_one, display_event, going_on, is_valid_new, made_object, object_argument, start, deleted, deleted_at, vacated, with_made_object, with_new_argument, with_new_at, with_object_argument}
use Rattle.wl_client.specs.Handling.{Breaks, Handling, HandsOut, Swallows, event_of, handling, handling_by, of_converted, of_display, of_event, opened_of, row_in}
use Rattle.wl_client.specs.ObjectId.{IdParts}
use Rattle.wl_client.specs.Plain.{IdsStay, IsOld, StaysAs}
use Rattle.wl_client.specs.Session.{alive, id_of, named, serial_of, with_id_deleted}
use Rattle.wl_client.proofs.Handling.{either_way}
use Rattle.wl_client.proofs.Plain.Naming.{both_none}
use Rattle.wl_client.proofs.Plain.Opening.{new_number, vacated_elsewhere}

module _ {U : Type 0} where
  -- ---- what an object stays as

  stays_same : (o : Option (Object (Kept U))) → StaysAs o o
  stays_same o = grind (arith)

  stays_then : (a b c : Option (Object (Kept U))) → StaysAs a b → StaysAs b c → StaysAs a c
  stays_then a b c h1 h2 = grind (arith)

  -- one that was not destroyed is not destroyed
  live_still : (a b : Option (Object (Kept U))) → IsSome (alive a) → StaysAs a b → IsSome (alive b)
  live_still a b h1 h2 = grind (arith, true≢false, alive)

  -- ---- what ids name

  pub ids_same : (a : Objects (Kept U)) → IdsStay a a
  ids_same a = record { serials = omega arith; ids = λ id old. stays_same (named a.store id) }

  old_still : (a b : Objects (Kept U)) → IdsStay a b → (id : IdParts) → IsOld a id → IsOld b id
  old_still a b stay id (inl live) = inl (live_still (named a.store id) (named b.store id) live (stay.ids id (inl live)))
  old_still a b stay id (inr given) = let more = stay.serials in inr (omega (arith, given, more))

  pub ids_then : (a b c : Objects (Kept U)) → IdsStay a b → IdsStay b c → IdsStay a c
  ids_then a b c first second = grind (arith, stays_then, named, old_still)

  -- what the id names where its number holds this
  abbrev names_at : IdParts → Option (Object (Kept U)) → Option (Object (Kept U))
  names_at id o = cond (id.number == 0) None (named_in serial_of (id_of id) o)

  -- one number of a store was changed
  module _ (before after : Store (Kept U)) (n : ℕ) (new : Option (Object (Kept U)))
      (holds : (m : ℕ) → held after m ≡ cond (eqb m n) new (held before m)) (id : IdParts) where
    by_number : (id.number ≡ n → StaysAs (names_at id (held before n)) (names_at id new)) → StaysAs (named before id) (named after id)
    by_number there = grind (arith, eqb, named, held, stays_same, eqb-true)

  -- ---- a number whose id the server deleted

  -- what it then holds, if it had this object
  abbrev left_of : Object (Kept U) → Option (Object (Kept U))
  left_of y = cond y.value.client_destroyed None (Some (with_id_deleted y))

  held_deleted : (store : Store (Kept U)) (n : ℕ) (y : Object (Kept U)) (m : ℕ) → held (deleted_at store n (Some y)) m ≡ cond (eqb m n) (left_of y) (held store m)
  held_deleted store n y m = grind (arith, held_removed, held_rewritten, with_id_deleted)

  stays_left : (id : IdParts) (y : Object (Kept U)) → StaysAs (names_at id (Some y)) (names_at id (left_of y))
  stays_left id y = at y.value.client_destroyed refl
    where
      gone : y.value.client_destroyed ≡ true → (zero same : Bool) → StaysAs (cond zero None (cond same (Some y) None)) (cond zero None None)
      gone is true same = refl
      gone is false true =
          subst (λ (b : Bool). MatchBool b ((None ≡ Some y) ⊎ (◌≡◌ {A = Option (Object (Kept U))} None None)) ((None ≡ Some y) ⊎ (None ≡ Some (with_id_deleted y)))) (sym is) (inr refl)
      gone is false false = refl

      flags : y.value.client_destroyed ≡ false → (zero same : Bool)
          → StaysAs (cond zero None (cond same (Some y) None)) (cond zero None (cond same (Some (with_id_deleted y)) None))
      flags is true same = refl
      flags is false true =
          subst (λ (b : Bool). MatchBool b ((Some (with_id_deleted y) ≡ Some y) ⊎ (Some (with_id_deleted y) ≡ None))
          ((Some (with_id_deleted y) ≡ Some y) ⊎ (Some (with_id_deleted y) ≡ Some (with_id_deleted y)))) (sym is) (inr refl)
      flags is false false = refl

      at : (b : Bool) → y.value.client_destroyed ≡ b → StaysAs (names_at id (Some y)) (names_at id (cond b None (Some (with_id_deleted y))))
      at true is = gone is (id.number == 0) (y.value.serial == id.serial)
      at false is = flags is (id.number == 0) (y.value.serial == id.serial)

  ids_by_deletion : (a : Objects (Kept U)) (n : ℕ) → IdsStay a (record a { store = deleted a.store n })
  ids_by_deletion a n = record { serials = omega arith; ids = λ id old. at id (held a.store n) refl }
    where
      at : (id : IdParts) (o : Option (Object (Kept U))) → held a.store n ≡ o → StaysAs (named a.store id) (named (deleted_at a.store n o) id)
      at id None is = stays_same (named a.store id)
      at id (Some y) is = by_number a.store (deleted_at a.store n (Some y)) n (left_of y) (held_deleted a.store n y) id (λ same. rw is (stays_left id y))

  -- ---- a new object

  destroyed_is : (y : Object (Kept U)) → alive (Some y) ≡ None → y.value.client_destroyed ≡ true
  destroyed_is y none = grind (arith, true≢false, is_some)

  left_by : (id : IdParts) (o : Option (Object (Kept U))) → alive o ≡ None → (z : Bool) → StaysAs (cond z None (named_in serial_of (id_of id) o)) None
  left_by id o h1 z = grind (arith, at_true, destroyed_is)

  unnamed_by : (id : IdParts) (o : Option (Object (Kept U))) → alive o ≡ None → (z : Bool) → alive (cond z None (named_in serial_of (id_of id) o)) ≡ None
  unnamed_by id o h1 z = grind (arith, alive)

  ids_by_new : (a : Objects (Kept U)) (n : ℕ) (y : Object (Kept U)) → is_valid_new a n ≡ true → y.value.serial ≡ a.last_serial + 1 → IdsStay a (with_made_object a n y)
  ids_by_new a n y valid next = record {
    serials = omega arith;
    ids = λ id old. by_number a.store (stored (vacated a.store n) n y) n (Some y) holds id (λ same. there id same old);
  }
    where
      free : alive (held a.store n) ≡ None
      free = new_number a n valid

      holds : (m : ℕ) → held (stored (vacated a.store n) n y) m ≡ cond (eqb m n) (Some y) (held a.store m)
      holds m = grind (arith, held_stored, vacated, eqb, held, vacated_elsewhere, true≢false, eq-eqb)

      unnamed : (id : IdParts) → id.serial ≤ a.last_serial → names_at id (Some y) ≡ None
      unnamed id given = grind (arith, ne_eqb, both_none)

      there : (id : IdParts) → id.number ≡ n → IsOld a id → StaysAs (names_at id (held a.store n)) (names_at id (Some y))
      there id h1 h2 = grind (arith, held, unnamed, left_by, free, true≢false, is_some, alive, unnamed_by)

-- ---- the arguments of an event

module _ {U : Type 0} (version : ℕ) (destroyed : Bool) (first : Objects (Kept U)) where
  abbrev ByOne : Converted U → Type 0
  ByOne (Ok next) = IdsStay first next.1.objects
  ByOne (Err w) = Unit {0}

  abbrev By : Outcome U → Type 0
  By (Whole c args) = IdsStay first c.objects
  By (Wrong w objects) = IdsStay first objects

  by_one : (c : Converting U) (a : WireArgument) → IdsStay first c.objects → ByOne (convert_one version destroyed c a)
  by_one c (arg.Object n) so = grind (arith, object_argument, next_interface, with_object_argument)
  by_one c (arg.NewId n) so = new c.child
    where
      valid : (i : InterfaceId) (b : Bool) → is_valid_new c.objects n ≡ b
          → ByOne (cond b (Ok (with_new_at version destroyed c n i)) (Err (wrong.InvalidNewId n i)))
      valid i false free = tt
      valid i true free =
          ids_then first c.objects _ so (ids_by_new c.objects n (made_object version destroyed i (c.objects.last_serial + 1)) free refl)

      new : (o : Option InterfaceId) → ByOne (with_new_argument version destroyed c n o)
      new None = tt
      new (Some i) = valid i (is_valid_new c.objects n) refl
  by_one c _ so = so

  by_all : (c : Converting U) (done : List (Argument IdParts Token)) (args : List WireArgument) → IdsStay first c.objects → By (convert version destroyed c done args)
  by_all c done [] so = so
  by_all c done (a ∷ args) so =
      at (convert_one version destroyed c a) (by_one c a so) (λ next holds. by_all next.1 (done ++ next.0 ∷ []) args holds)
    where
      at : (r : Converted U) → ByOne r
          → ((next : Argument IdParts Token × Converting U) → IdsStay first next.1.objects → By (convert version destroyed next.1 (done ++ next.0 ∷ []) args))
          → By (going_on r c.objects (λ b next. convert version destroyed next (done ++ b ∷ []) args))
      at (Ok next) holds again = again next holds
      at (Err w) holds again = so

-- ---- a message

-- each id but those that are made names what it named
abbrev pub IdsStayIn : {U : Type 0} → Objects (Kept U) → Handling U → Type 0
IdsStayIn first (Swallows objects) = IdsStay first objects
IdsStayIn first (HandsOut m event objects) = IdsStay first objects
IdsStayIn first (Breaks e objects) = IdsStay first objects

module _ {U : Type 0} (table : List InterfaceRow) (objects : Objects (Kept U)) (m : WireMessage) where
  by_display : (d : DisplayEvent) → IdsStayIn objects (of_display table objects d)
  by_display (Fails code n text) = ids_same objects
  by_display (Deletes n) = ids_by_deletion objects n
  by_display Unreadable = ids_same objects

  by_converted : (x : Object (Kept U)) (row : MessageRow) (outcome : Outcome U) → By x.version x.value.client_destroyed objects outcome
      → IdsStayIn objects (of_converted table objects m x row outcome)
  by_converted x row outcome h1 = grind (arith, event_of, opened_of)

  by_event : (o : Option (Object (Kept U))) (r : Option MessageRow) → IdsStayIn objects (of_event table objects m o r)
  by_event (Some x) (Some row) =
      by_converted x row (convert x.version x.value.client_destroyed (start objects row) [] m.args)
      (by_all x.version x.value.client_destroyed objects (start objects row) [] m.args (ids_same objects))
  by_event None None = ids_same objects
  by_event None (Some row) = ids_same objects
  by_event (Some x) None = ids_same objects

  ids_stay : IdsStayIn objects (handling table objects m)
  ids_stay = grind (arith, of_display, display_event, of_event, held, row_in, by_display, by_event)

  pub ids_stay_by : (passes : Bool) → IdsStayIn objects (handling_by passes table objects m)
  ids_stay_by passes = either_way (IdsStayIn objects) passes table objects m (ids_same objects) ids_stay
