-- What is known of an event that is handed out, and of the object that it made.
use Rattle.std.proofs.Common.{◌≡◌, ◌≢◌, ℕ, Bool, true, false, not, cond, List, [], ◌∷◌, ◌++◌, Option, None, Some, is_some, Result, Ok, Err, MatchOption, refl, sym, ap, ap₂, subst, ◌∙◌, true≢false, arith}
use Rattle.std.proofs.lemmas.Bool.{eq-eqb}
use Rattle.std.specs.List.{list_any}
use Rattle.std.specs.Prelude.{◌&&◌, ◌||◌, ◌==◌, ◌+◌, IsSome, nat_le, option_map}
use Rattle.wl_wire.specs.declared.argument.Argument.{Argument}
use Rattle.wl_wire.specs.declared.argument.Argument.TheVariants as arg
use Rattle.wl_wire.specs.declared.argument.ArgumentType.{ArgumentType}
use Rattle.wl_wire.specs.declared.argument.ArgumentType.TheVariants as kind
use Rattle.wl_wire.specs.declared.argument.Token.{Token}
use Rattle.wl_wire.specs.declared.error.IoFault.{IoFault}
use Rattle.wl_wire.specs.declared.interface.InterfaceId.{InterfaceId}
use Rattle.wl_wire.specs.Argument.{WireArgument, kind_of, type_of}
use Rattle.wl_wire.specs.Message.{WireMessage}
use Rattle.wl_wire.specs.MessageRows.{creates, event_row, next_interface}
use Rattle.wl_wire.specs.Parse.{opcode_of, sender_of}
use Rattle.wl_wire.specs.Reading.{Reads}
use Rattle.wl_wire.specs.Table.{InterfaceRow, MessageRow, is_new_id}
use Rattle.wl_wire.proofs.Spelling.CursorLaws.{piece_fits}
use Rattle.wl_link.proofs.Calls.Branches.{either_bool}
use Rattle.wl_link.proofs.Ids.StoreLaws.{removed_other, rewritten_here, rewritten_other, stored_here, stored_other}
use Rattle.wl_link.specs.declared.object.Object.{Object}
use Rattle.wl_link.specs.Exchange.{Queue}
use Rattle.wl_link.specs.Identity.{Objects}
use Rattle.wl_link.specs.Link.{LinkState}
use Rattle.wl_link.specs.Reader.{ReaderState, ReadsAs}
use Rattle.wl_link.specs.Store.{Store, held, is_free, is_server_number, removed, rewritten, stored}
use Rattle.wl_client.specs.declared.event.OpenEvent.{OpenEvent}
use Rattle.wl_client.specs.declared.objects.Kept.{Kept}
use Rattle.wl_client.specs.declared.event_fault.EventFault.{EventFault}
use Rattle.wl_client.specs.declared.event_fault.EventFault.TheVariants as wrong
use Rattle.wl_client.specs.Events.{Converted, Converting, DisplayEvent, Outcome, Whole, Wrong, convert, convert_one, display_event, going_on, is_destroyed, is_valid_new, made_object, object_argument, start, deleted, vacated, with_new_argument, with_new_at, with_object_argument}
use Rattle.wl_client.specs.Handling.{Breaks, Handling, HandsOut, Swallows, event_of, handling, handling_by, is_passed_over, of_converted, of_display, of_event, opened_of, row_in, signature_by, signature_in}
use Rattle.wl_client.specs.ObjectId.{IdParts}
use Rattle.wl_client.specs.Plain.{IsMade, new_id_in}
use Rattle.wl_client.specs.Reading.{client}
use Rattle.wl_client.specs.Requests.{SessionMessage}
use Rattle.wl_client.specs.Session.{Core, alive, id_at, last_possible_serial, with_id_deleted}
use Rattle.wl_client.proofs.Handling.{either_way}

both : (a b : Bool) → (a && b) ≡ true → (a ≡ true) × (b ≡ true)
both true b is = (refl, is)
both false b is = absurd (true≢false (sym is))

holds_none : {A : Type 0} (o : Option A) → not (is_some o) ≡ true → o ≡ None
holds_none None is = refl
holds_none (Some x) is = absurd (true≢false (sym is))

none_some : {A : Type 0} {x : A} → None ≡ Some x → ⊥
none_some e = true≢false (sym (ap is_some e))

pub none_unless : {A : Type 0} (o : Option A) → (IsSome o → ⊥) → o ≡ None
none_unless None never = refl
none_unless (Some x) never = absurd (never refl)

or_true : (a : Bool) → true ≡ (a || true)
or_true true = refl
or_true false = refl

or_false : (a : Bool) → a ≡ (a || false)
or_false true = refl
or_false false = refl

or_both : (a b c : Bool) → ((a || b) || c) ≡ (a || (b || c))
or_both true b c = refl
or_both false b c = refl

-- ---- new ids among arguments

abbrev is_new : {Id Fd : Type 0} → Argument Id Fd → Bool
is_new a = is_new_id (type_of a)

new_of_kind : (k : ArgumentType) → is_new_id (kind_of k) ≡ is_new_id k
new_of_kind kind.NewId = refl
new_of_kind _ = refl

new_in_both : (signature : List ArgumentType) (args : List WireArgument) (payload : List ℕ) (fds : List Token) → Reads signature args payload fds
    → list_any is_new_id signature ≡ list_any is_new args
unfolding Reads
new_in_both [] [] payload fds r = refl
new_in_both (k ∷ signature) (a ∷ args) payload fds r =
    ap₂ (λ (x y : Bool). x || y) (sym (new_of_kind k) ∙ ap is_new_id (piece_fits k a r.0 r.5).0) (new_in_both signature args r.1 r.2 r.6)
new_in_both _ _ payload fds r = absurd r

-- behind the arguments comes one more
new_behind : (done : List (Argument IdParts Token)) (b : Argument IdParts Token) → new_id_in (b ∷ []) ≡ None
    → new_id_in (done ++ b ∷ []) ≡ new_id_in done
new_behind [] b none = none
new_behind (arg.NewId id ∷ done) b none = refl
new_behind (_ ∷ done) b none = new_behind done b none

new_first : (done : List (Argument IdParts Token)) (id : IdParts) → new_id_in done ≡ None → new_id_in (done ++ arg.NewId id ∷ []) ≡ Some id
new_first [] id none = refl
new_first (arg.NewId other ∷ done) id none = absurd (none_some (sym none))
new_first (_ ∷ done) id none = new_first done id none

-- ---- a message that was read

no_error : {A E : Type 0} {x : A} {e : E} → ◌≡◌ {A = Result A E} (Ok x) (Err e) → ⊥
no_error is = grind (arith, true≢false)

module _ {T U : Type 0} (sends : T → Queue → Result ℕ IoFault → T → Type 0) (p : ReaderState T (Core U)) (m : WireMessage) (link : LinkState T) where
  -- it makes an object by the table exactly if one of its arguments is a new number
  pub makes_new : ReadsAs sends client p (Ok m) link → (row : MessageRow) → row_in p.core.table (held p.core.store m.sender) m.opcode ≡ Some row
      → creates row ≡ list_any is_new m.args
  makes_new read row has = grind (arith, either_bool, nat_le, no_error, signature_by, signature_in, is_passed_over, sender_of, opcode_of, creates, list_any, ap₂, option_map, is_new_id, new_in_both)

-- ---- objects that the client has not destroyed

module _ {U : Type 0} where
  alive_is : (o : Option (Object (Kept U))) → IsSome (alive o) → (x : Object (Kept U)) × (o ≡ Some x) × (x.value.client_destroyed ≡ false)
  alive_is o h1 = grind (arith, true≢false)

  -- their numbers still have one each
  abbrev pub Stay : Store (Kept U) → Store (Kept U) → Type 0
  Stay s t = (k : ℕ) → IsSome (alive (held s k)) → IsSome (alive (held t k))

  -- so a number that has none had none
  pub had_none : (s t : Store (Kept U)) (n : ℕ) → Stay s t → alive (held t n) ≡ None → alive (held s n) ≡ None
  had_none s t n stay none = none_unless (alive (held s n)) (λ is. true≢false (sym (stay n is) ∙ ap is_some none))

  -- a number that is vacated is another one's
  pub vacated_elsewhere : (store : Store (Kept U)) (k n : ℕ) → k ≢ n → held (vacated store n) k ≡ held store k
  vacated_elsewhere store k n differ = grind (arith, is_destroyed, held, removed, removed_other)

  -- the number of such an object is not free
  other_number : (objects : Objects (Kept U)) (k n : ℕ) (x : Object (Kept U)) → x.value.client_destroyed ≡ false → held objects.store k ≡ Some x
      → is_valid_new objects n ≡ true → k ≢ n
  other_number objects k n x live holds valid same = grind (arith, none_some, holds_none, held, is_some, is_free, vacated, last_possible_serial, both, is_server_number, removed, is_destroyed)

  -- a new object takes a number that had none
  pub new_number : (objects : Objects (Kept U)) (n : ℕ) → is_valid_new objects n ≡ true → alive (held objects.store n) ≡ None
  new_number objects n valid = grind (arith, none_unless, alive, held, alive_is, other_number)

  stay_by_new : (objects : Objects (Kept U)) (n : ℕ) (y : Object (Kept U)) → is_valid_new objects n ≡ true
      → Stay objects.store (stored (vacated objects.store n) n y)
  stay_by_new objects n y valid k is = grind (arith, alive_is, held, other_number, alive, stored_other, vacated, vacated_elsewhere)

  stay_by_deletion : (store : Store (Kept U)) (n : ℕ) → Stay store (deleted store n)
  stay_by_deletion store n = grind (arith, held, removed, rewritten, with_id_deleted, alive_is, true≢false, alive, removed_other, rewritten_here, rewritten_other)

-- the arguments of an event leave them
module _ {U : Type 0} (version : ℕ) (destroyed : Bool) (first : Store (Kept U)) where
  abbrev StayByOne : Converted U → Type 0
  StayByOne (Ok next) = Stay first next.1.objects.store
  StayByOne (Err w) = Unit {0}

  abbrev StayBy : Outcome U → Type 0
  StayBy (Whole c args) = Stay first c.objects.store
  StayBy (Wrong w objects) = Unit {0}

  stay_by_one : (c : Converting U) (a : WireArgument) → Stay first c.objects.store → StayByOne (convert_one version destroyed c a)
  stay_by_one c (arg.Object n) so = grind (arith, object_argument, next_interface, with_object_argument)
  stay_by_one c (arg.NewId n) so = new c.child
    where
      valid : (i : InterfaceId) (b : Bool) → is_valid_new c.objects n ≡ b
          → StayByOne (cond b (Ok (with_new_at version destroyed c n i)) (Err (wrong.InvalidNewId n i)))
      valid i false free = tt
      valid i true free = λ k is. stay_by_new c.objects n (made_object version destroyed i (c.objects.last_serial + 1)) free k (so k is)

      new : (o : Option InterfaceId) → StayByOne (with_new_argument version destroyed c n o)
      new None = tt
      new (Some i) = valid i (is_valid_new c.objects n) refl
  stay_by_one c _ so = so

  stay_by_all : (c : Converting U) (done : List (Argument IdParts Token)) (args : List WireArgument) → Stay first c.objects.store
      → StayBy (convert version destroyed c done args)
  stay_by_all c done [] so = so
  stay_by_all c done (a ∷ args) so =
      at (convert_one version destroyed c a) (stay_by_one c a so) (λ next holds. stay_by_all next.1 (done ++ next.0 ∷ []) args holds)
    where
      at : (r : Converted U) → StayByOne r
          → ((next : Argument IdParts Token × Converting U) → Stay first next.1.objects.store
          → StayBy (convert version destroyed next.1 (done ++ next.0 ∷ []) args))
          → StayBy (going_on r c.objects (λ b next. convert version destroyed next (done ++ b ∷ []) args))
      at (Ok next) holds again = again next holds
      at (Err w) holds again = tt

-- ---- the arguments of an event of the object `x`, which the number `k` holds

module _ {U : Type 0} (first : Store (Kept U)) (x : Object (Kept U)) (row : MessageRow) (k : ℕ) (live : x.value.client_destroyed ≡ false) where
  -- the object that was made so far, if any, is the one that the table names, and its number had none before
  abbrev MadeSo : Option IdParts → Option InterfaceId → Store (Kept U) → Type 0
  MadeSo None child store = child ≡ row.child_interface
  MadeSo (Some id) child store =
      (child ≡ None) × (alive (held first id.number) ≡ None) × (row.child_interface ≡ Some id.interface)
      × (held store id.number ≡ Some (made_object x.version x.value.client_destroyed id.interface id.serial))

  record SoFar (c : Converting U) (done : List (Argument IdParts Token)) : Type 0 where
    receiver : held c.objects.store k ≡ Some x
    stay : Stay first c.objects.store
    named : c.created ≡ new_id_in done
    made : MadeSo c.created c.child c.objects.store

  abbrev HoldsOfOne : Converting U → List (Argument IdParts Token) → WireArgument → Converted U → Type 0
  HoldsOfOne c done a (Ok next) = SoFar next.1 (done ++ next.0 ∷ []) × (is_some next.1.created ≡ (is_some c.created || is_new a))
  HoldsOfOne c done a (Err w) = Unit {0}

  abbrev HoldsOf : Converting U → List WireArgument → Outcome U → Type 0
  HoldsOf c args (Whole d all) = SoFar d all × (is_some d.created ≡ (is_some c.created || list_any is_new args))
  HoldsOf c args (Wrong w objects) = Unit {0}

  named_by : (created : Option IdParts) (child : Option InterfaceId) (store : Store (Kept U)) (i : InterfaceId) → MadeSo created child store → child ≡ Some i
      → (created ≡ None) × (row.child_interface ≡ Some i)
  named_by None child store i made is = (refl, sym made ∙ is)
  named_by (Some id) child store i made is = absurd (none_some (sym made.0 ∙ is))

  -- an argument that makes nothing
  passed : (c : Converting U) (done : List (Argument IdParts Token)) (asked : List InterfaceId) (b : Argument IdParts Token)
      → new_id_in (b ∷ []) ≡ None → SoFar c done
      → SoFar (record c { asked = asked }) (done ++ b ∷ []) × (is_some c.created ≡ (is_some c.created || false))
  passed c done asked b none so = grind (arith, new_behind, or_false, is_some)

  one : (c : Converting U) (done : List (Argument IdParts Token)) (a : WireArgument) → SoFar c done
      → HoldsOfOne c done a (convert_one x.version x.value.client_destroyed c a)
  one c done (arg.Int z) so = passed c done c.asked (arg.Int z) refl so
  one c done (arg.Uint n) so = passed c done c.asked (arg.Uint n) refl so
  one c done (arg.Fixed z) so = passed c done c.asked (arg.Fixed z) refl so
  one c done (arg.Str text) so = passed c done c.asked (arg.Str text) refl so
  one c done (arg.Array bytes) so = passed c done c.asked (arg.Array bytes) refl so
  one c done (arg.Fd token) so = passed c done c.asked (arg.Fd token) refl so
  one c done (arg.Object n) so = at (object_argument c.objects.store (next_interface c.asked) n)
    where
      at : (r : Result IdParts EventFault) → HoldsOfOne c done (arg.Object n) (with_object_argument c r)
      at (Ok id) = passed c done _ (arg.Object id) refl so
      at (Err w) = tt
  one c done (arg.NewId n) so = new c.child refl
    where
      valid : (i : InterfaceId) → c.child ≡ Some i → (b : Bool) → is_valid_new c.objects n ≡ b
          → HoldsOfOne c done (arg.NewId n) (cond b (Ok (with_new_at x.version x.value.client_destroyed c n i)) (Err (wrong.InvalidNewId n i)))
      valid i is false free = tt
      valid i is true free =
          let y = made_object x.version x.value.client_destroyed i (c.objects.last_serial + 1) in
          let apart = other_number c.objects k n x live so.receiver free in
          let (none, named) = named_by c.created c.child c.objects.store i so.made is in (
            record {
              receiver = stored_other (vacated c.objects.store n) n y k apart ∙ vacated_elsewhere c.objects.store k n apart ∙ so.receiver;
              stay = λ j some. stay_by_new c.objects n y free j (so.stay j some);
              named = sym (new_first done (id_at n y) (sym so.named ∙ none));
              made = (
                refl,
                had_none first c.objects.store n so.stay (new_number c.objects n free),
                named,
                stored_here (vacated c.objects.store n) n y n refl,
              );
            },
            or_true (is_some c.created),
          )

      new : (o : Option InterfaceId) → c.child ≡ o → HoldsOfOne c done (arg.NewId n) (with_new_argument x.version x.value.client_destroyed c n o)
      new None is = tt
      new (Some i) is = valid i is (is_valid_new c.objects n) refl

  all : (c : Converting U) (done : List (Argument IdParts Token)) (args : List WireArgument) → SoFar c done
      → HoldsOf c args (convert x.version x.value.client_destroyed c done args)
  all c done [] so = (so, or_false (is_some c.created))
  all c done (a ∷ args) so =
      at (convert_one x.version x.value.client_destroyed c a) (one c done a so) (λ next holds. all next.1 (done ++ next.0 ∷ []) args holds)
    where
      behind : (next : Argument IdParts Token × Converting U) → is_some next.1.created ≡ (is_some c.created || is_new a) → (o : Outcome U)
          → HoldsOf next.1 args o
          → HoldsOf c (a ∷ args) o
      behind next h1 o h2 = grind (arith, list_any, or_both, is_some)

      at : (r : Converted U) → HoldsOfOne c done a r
          → ((next : Argument IdParts Token × Converting U) → SoFar next.1 (done ++ next.0 ∷ [])
          → HoldsOf next.1 args (convert x.version x.value.client_destroyed next.1 (done ++ next.0 ∷ []) args))
          → HoldsOf c (a ∷ args) (going_on r c.objects (λ b next. convert x.version x.value.client_destroyed next (done ++ b ∷ []) args))
      at r h1 h2 = grind (arith, behind, convert)

-- ---- an event

module _ {U : Type 0} (table : List InterfaceRow) where
  pub record Opens (first : Store (Kept U)) (m : SessionMessage) (event : OpenEvent) (objects : Objects (Kept U)) : Type 0 where
    pub sender : Object (Kept U)
    pub row : MessageRow
    pub not_display : m.sender.number ≢ 1
    pub holds : held objects.store m.sender.number ≡ Some sender
    pub sender_is : m.sender ≡ id_at m.sender.number sender
    pub live : sender.value.client_destroyed ≡ false
    pub has : event_row table sender.interface m.opcode ≡ Some row
    pub event_is : event ≡ record { sender = m.sender; is_destructor = row.is_destructor; created = new_id_in m.args }
    pub makes : is_some (new_id_in m.args) ≡ creates row
    pub made : MatchOption (new_id_in m.args) (Unit {0}) (IsMade first row sender.version objects.store)

  abbrev pub OpensIn : Store (Kept U) → Handling U → Type 0
  OpensIn first (Swallows objects) = Stay first objects.store
  OpensIn first (HandsOut m event objects) = Opens first m event objects
  OpensIn first (Breaks e objects) = Unit {0}

  module _ (objects : Objects (Kept U)) (m : WireMessage)
      (makes : (row : MessageRow) → row_in table (held objects.store m.sender) m.opcode ≡ Some row → creates row ≡ list_any is_new m.args) where
    of_display_none : (d : DisplayEvent) → OpensIn objects.store (of_display table objects d)
    of_display_none d = grind (arith, stay_by_deletion)

    made_new : (x : Object (Kept U)) (row : MessageRow) (live : x.value.client_destroyed ≡ false) (created : Option IdParts) (child : Option InterfaceId) (store : Store (Kept U))
        → MadeSo objects.store x row m.sender live created child store → MatchOption created (Unit {0}) (IsMade objects.store row x.version store)
    made_new x row live created child store h1 = grind (arith, made_object)

    converted : m.sender ≢ 1 → (x : Object (Kept U)) (row : MessageRow) → held objects.store m.sender ≡ Some x → event_row table x.interface m.opcode ≡ Some row
        → creates row ≡ list_any is_new m.args → (b : Bool) → x.value.client_destroyed ≡ b → (outcome : Outcome U)
        → StayBy x.version x.value.client_destroyed objects.store outcome
        → ((live : x.value.client_destroyed ≡ false) → HoldsOf objects.store x row m.sender live (start objects row) m.args outcome)
        → OpensIn objects.store (of_converted table objects m x row outcome)
    converted other x row holds has fits b is (Wrong w after) stay so = tt
    converted other x row holds has fits true is (Whole c args) stay so = grind (arith, event_of, opened_of)
    converted other x row holds has fits false is (Whole c args) stay so =
        let (kept, new) = so is in
        subst (λ (b : Bool). OpensIn objects.store (cond b (Swallows c.objects) (HandsOut (event_of m x args) (opened_of m x row c.created) c.objects)))
        (sym is)
        (record {
          sender = x;
          row = row;
          not_display = other;
          holds = kept.receiver;
          sender_is = refl;
          live = is;
          has = has;
          event_is = ap (λ (o : Option IdParts). opened_of m x row o) kept.named;
          makes = ap is_some (sym kept.named) ∙ new ∙ sym fits;
          made =
              subst (λ (o : Option IdParts). MatchOption o (Unit {0}) (IsMade objects.store row x.version c.objects.store)) kept.named
              (made_new x row is c.created c.child c.objects.store kept.made);
        })

    event : m.sender ≢ 1 → (o : Option (Object (Kept U))) → held objects.store m.sender ≡ o → (r : Option MessageRow) → row_in table o m.opcode ≡ r
        → OpensIn objects.store (of_event table objects m o r)
    event other None is None has = tt
    event other None is (Some row) has = tt
    event other (Some x) is None has = tt
    event other (Some x) is (Some row) has =
        converted other x row is has (makes row (ap (λ (o : Option (Object (Kept U))). row_in table o m.opcode) is ∙ has)) x.value.client_destroyed refl _
        (stay_by_all x.version x.value.client_destroyed objects.store (start objects row) [] m.args (λ k some. some))
        (λ live.
        all objects.store x row m.sender live (start objects row) [] m.args
        (record { receiver = is; stay = λ k some. some; named = refl; made = refl }))

    opens : OpensIn objects.store (handling table objects m)
    opens = at (m.sender == 1) refl
      where
        at : (b : Bool) → (m.sender == 1) ≡ b
            → OpensIn objects.store (cond b (of_display table objects (display_event m.opcode m.args))
            (of_event table objects m (held objects.store m.sender) (row_in table (held objects.store m.sender) m.opcode)))
        at true is = of_display_none (display_event m.opcode m.args)
        at false is =
            event (λ same. true≢false (sym (eq-eqb m.sender 1 same) ∙ is)) (held objects.store m.sender) refl (row_in table (held objects.store m.sender) m.opcode) refl

    pub opens_by : (passes : Bool) → OpensIn objects.store (handling_by passes table objects m)
    opens_by passes = either_way (OpensIn objects.store) passes table objects m (λ k some. some) opens
