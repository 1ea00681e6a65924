-- How a reading ends, over its turns.
use Rattle.std.proofs.Common.{◌≡◌, ◌≢◌, ◌⊎◌, ℕ, Bool, true, false, cond, eqb, eqb-true, ◌||◌, List, [], ◌∷◌, ◌++◌, map, append-nil, append_assoc, Option, None, Some, is_some, Result, Ok, Err, MatchResult, refl, sym, ap, ap₂, subst, ◌∙◌, true≢false, arith}
use mathlib.Core.Logic.{inl, inr}
use Rattle.std.proofs.lemmas.Bool.{eq-eqb}
use Rattle.std.specs.Prelude.{length, nat_le, option_map}
use Rattle.wl_wire.specs.declared.argument.Argument.{Argument}
use Rattle.wl_wire.specs.declared.argument.Argument.TheVariants as arg
use Rattle.wl_wire.specs.declared.argument.ArgumentType.{ArgumentType}
use Rattle.wl_wire.specs.declared.argument.Token.{Token}
use Rattle.wl_wire.specs.declared.error.IoFault.{IoFault}
use Rattle.wl_wire.specs.declared.error.IoFault.TheVariants as fault
use Rattle.wl_wire.specs.declared.error.ProtocolError.{ProtocolError}
use Rattle.wl_wire.specs.declared.interface.InterfaceId.{InterfaceId}
use Rattle.wl_wire.specs.Argument.{WireArgument}
use Rattle.wl_wire.specs.Message.{WireMessage}
use Rattle.wl_wire.specs.MessageRows.{event_row, fits, next_interface}
use Rattle.wl_wire.specs.Parse.{opcode_of, sender_of}
use Rattle.wl_wire.specs.Table.{MessageRow}
use Rattle.wl_link.proofs.Calls.Branches.{either_bool, either_option}
use Rattle.wl_link.proofs.Ids.StoreLaws.{stored_here, stored_other}
use Rattle.wl_link.specs.declared.object.Object.{Object}
use Rattle.wl_link.specs.Exchange.{Queue, Sending}
use Rattle.wl_link.specs.Identity.{Objects}
use Rattle.wl_link.specs.Link.{FilledBy, LinkState, ReadFound, count_of, counted_answer}
use Rattle.wl_link.specs.Puts.{lacks_memory}
use Rattle.wl_link.specs.Reader.{CarriesOut, Given, Gives, Halts, HandedOut, Handled, ReaderState, Reads, ReadsAs, Received, Turn, Unread, Verdict, came_to, given_first, put_and_gave, stops, with_link}
use Rattle.wl_link.specs.Store.{Store, held, stored}
use Rattle.wl_client.specs.declared.error.EventError.{EventError}
use Rattle.wl_client.specs.declared.error.EventError.TheVariants as no_event
use Rattle.wl_client.specs.declared.error.WaylandError.{WaylandError}
use Rattle.wl_client.specs.declared.error.WaylandError.TheVariants.{Io, Protocol}
use Rattle.wl_client.specs.declared.event.OpenEvent.{OpenEvent}
use Rattle.wl_client.specs.declared.objects.Kept.{Kept}
use Rattle.wl_client.specs.declared.event_fault.EventFault.{EventFault}
use Rattle.wl_client.specs.declared.event_fault.EventFault.TheVariants as wrong
use Rattle.wl_client.specs.Events.{Converted, Converting, DisplayEvent, Outcome, Whole, Wrong, convert, convert_one, delete_event, display_event, error_event, error_of, going_on, is_valid_new, made_object, object_argument_of, start, vacated, with_new_argument, with_new_at, with_object_argument}
use Rattle.wl_client.specs.Freeing.{freed_as, freeing}
use Rattle.wl_client.specs.Handling.{Breaks, Handling, HandsOut, Swallows, event_of, handed, handling, handling_by, is_passed_over, of_converted, of_display, of_event, opened_of, row_in, signature_by, signature_in}
use Rattle.wl_client.specs.ObjectId.{IdParts}
use Rattle.wl_client.specs.Plain.{CanRead, EventIsOpen}
use Rattle.wl_client.specs.Reading.{NextEvent, answered, client, core_after, event_in, fails_by, faulted, objects_in, reader_state_of, reads_on, receives_allowed, starved_to, verdict, with_objects}
use Rattle.wl_client.specs.ReadingEnds.{EndsForAReason, FoundError, FoundEvent, HasFailedBy, HasWrongArgument, IsWrong, IsWrongArgument, LastReceiveFailed, ObjectsFit, OfLast, ReadingEnds, TellsError, TurnLeads, has_new, left_behind, on_the_wire}
use Rattle.wl_client.specs.Requests.{SessionMessage}
use Rattle.wl_client.specs.Session.{Core, SessionState, id_at, null_parts}
use Rattle.wl_client.proofs.Plain.Opening.{Opens, OpensIn, makes_new, opens_by, vacated_elsewhere}
use Rattle.wl_client.proofs.Plain.Reading.{failed_off, live_on, opened_off, stopped, when_true}

none_some : {A : Type 0} {x : A} → None ≡ Some x → ⊥
none_some e = true≢false (sym (ap is_some e))

no_error : {A E : Type 0} {x : A} {e : E} → ◌≡◌ {A = Result A E} (Ok x) (Err e) → ⊥
no_error is = grind (arith, true≢false)

-- a number that the test told from another one
other_than : (n k : ℕ) → eqb n k ≡ false → eqb k k ≡ true → n ≢ k
other_than n k differ same is = true≢false (sym same ∙ ap (λ (i : ℕ). eqb i k) (sym is) ∙ differ)

-- ---- what is wrong with the arguments of an event

-- the argument is a number of an object, or a new one
abbrev means_object : WireArgument → Bool
means_object (arg.Object n) = true
means_object (arg.NewId n) = true
means_object _ = false

abbrev is_new : WireArgument → Bool
is_new (arg.NewId n) = true
is_new _ = false

abbrev number_in : WireArgument → ℕ
number_in (arg.Object n) = n
number_in (arg.NewId n) = n
number_in _ = 0

abbrev has_none : List WireArgument → Bool
has_none [] = true
has_none (x ∷ xs) = false

no_split : (xs ys : List WireArgument) (a : WireArgument) → [] ≡ xs ++ a ∷ ys → ⊥
no_split [] ys a is = true≢false (ap has_none is)
no_split (x ∷ xs) ys a is = true≢false (ap has_none is)

of_cons : (x y : WireArgument) (xs ys : List WireArgument) → x ∷ xs ≡ y ∷ ys → (x ≡ y) × (xs ≡ ys)
of_cons x y xs ys is = grind (arith)

module _ {U : Type 0} (version : ℕ) (destroyed : Bool) where
  -- this is wrong with an argument behind these, once the arguments were gone through so far
  abbrev WrongBehind : Converting U → Objects (Kept U) → List WireArgument → EventFault → WireArgument → Type 0
  WrongBehind c o earlier w a = IsWrongArgument (next_interface (left_behind c.asked earlier)) c.child (has_new earlier) c.objects o w a

  -- the objects are these at the end: once an object was made they stay
  abbrev EndsAs : Converting U → Objects (Kept U) → Type 0
  EndsAs c o = c.child ≡ None → o ≡ c.objects

  abbrev OneWrong : Converting U → WireArgument → Converted U → Type 0
  OneWrong c a (Ok next) =
      ((o : Objects (Kept U)) → EndsAs next.1 o → EndsAs c o)
      × ((o : Objects (Kept U)) (earlier : List WireArgument) (w : EventFault) (b : WireArgument) → EndsAs next.1 o → WrongBehind next.1 o earlier w b
      → WrongBehind c o (a ∷ earlier) w b)
      × ((o : Objects (Kept U)) (earlier : List WireArgument) (w : EventFault) (b : WireArgument) → EndsAs next.1 o → WrongBehind c o (a ∷ earlier) w b
      → WrongBehind next.1 o earlier w b)
      × ((o : Objects (Kept U)) (w : EventFault) → WrongBehind c o [] w a → ⊥)
  OneWrong c a (Err w) = WrongBehind c c.objects [] w a

  -- an object was made at the number
  none_before : (s : Store (Kept U)) (n : ℕ) (x : Object (Kept U)) (k : ℕ) → held (stored (vacated s n) n x) k ≡ None → held s k ≡ None
  none_before s n x k none = grind (arith, eqb, held, none_some, stored_here, vacated, eqb-true, true≢false, eq-eqb, stored_other, vacated_elsewhere)

  behind_made : (c next : Converting U) (n : ℕ) (i : InterfaceId) → c.child ≡ Some i → next.child ≡ None → next.asked ≡ c.asked
      → ((k : ℕ) → held next.objects.store k ≡ None → held c.objects.store k ≡ None)
      → (o : Objects (Kept U)) (earlier : List WireArgument) (w : EventFault) (b : WireArgument) → EndsAs next o → WrongBehind next o earlier w b
      → WrongBehind c o (arg.NewId n ∷ earlier) w b
  behind_made c next n i h1 h2 h3 h4 o earlier w b h5 h6 = grind (arith, has_new, held, next_interface, left_behind, none_some)

  before_made : (c next : Converting U) (n : ℕ) → next.child ≡ None → next.asked ≡ c.asked
      → (o : Objects (Kept U)) (earlier : List WireArgument) (w : EventFault) (b : WireArgument) → EndsAs next o → WrongBehind c o (arg.NewId n ∷ earlier) w b
      → WrongBehind next o earlier w b
  before_made c next n h1 h2 o earlier w b h3 h4 = grind (arith, held, next_interface, left_behind, has_new, true≢false)

  -- nothing is wrong with an argument that means no object, with null, with an object that fits, and with a new number that is valid
  right_value : (c : Converting U) (a : WireArgument) → means_object a ≡ false → (o : Objects (Kept U)) (w : EventFault) → WrongBehind c o [] w a → ⊥
  right_value c a h1 o w h2 = grind (arith, true≢false)

  right_null : (c : Converting U) (n : ℕ) → n ≡ 0 → (o : Objects (Kept U)) (w : EventFault) → WrongBehind c o [] w (arg.Object n) → ⊥
  right_null c n h1 o w h2 = grind (arith, true≢false)

  right_object : (c : Converting U) (n : ℕ) (x : Object (Kept U)) → held c.objects.store n ≡ Some x → fits (next_interface c.asked) x.interface ≡ true
      → (o : Objects (Kept U)) (w : EventFault) → WrongBehind c o [] w (arg.Object n) → ⊥
  right_object c n x h1 h2 o w h3 = grind (arith, none_some, held, true≢false, ap₂, fits)

  right_new : (c : Converting U) (n : ℕ) (i : InterfaceId) → c.child ≡ Some i → is_valid_new c.objects n ≡ true
      → (o : Objects (Kept U)) (w : EventFault) → WrongBehind c o [] w (arg.NewId n) → ⊥
  right_new c n i h1 h2 o w h3 = grind (arith, true≢false, is_valid_new, none_some)

  wrong_one : (c : Converting U) (a : WireArgument) → OneWrong c a (convert_one version destroyed c a)
  wrong_one c (arg.Object n) = grind (arith, eqb, held, with_object_argument, object_argument_of, next_interface, fits, id_at, right_object, null_parts, right_null, eqb-true, other_than)
  wrong_one c (arg.NewId n) = new c.child refl
    where
      valid : (i : InterfaceId) → c.child ≡ Some i → (b : Bool) → is_valid_new c.objects n ≡ b
          → OneWrong c (arg.NewId n) (cond b (Ok (with_new_at version destroyed c n i)) (Err (wrong.InvalidNewId n i)))
      valid i h1 b h2 = grind (arith, with_new_at, held, none_before, made_object, none_some, behind_made, before_made, right_new)

      new : (o : Option InterfaceId) → c.child ≡ o → OneWrong c (arg.NewId n) (with_new_argument version destroyed c n o)
      new None makes = (refl, inr (refl, inl makes))
      new (Some i) makes = valid i makes (is_valid_new c.objects n) refl
  wrong_one c (arg.Int z) = (λ o ends. ends, λ o earlier w b ends so. so, λ o earlier w b ends so. so, right_value c (arg.Int z) refl)
  wrong_one c (arg.Uint n) = (λ o ends. ends, λ o earlier w b ends so. so, λ o earlier w b ends so. so, right_value c (arg.Uint n) refl)
  wrong_one c (arg.Fixed z) = (λ o ends. ends, λ o earlier w b ends so. so, λ o earlier w b ends so. so, right_value c (arg.Fixed z) refl)
  wrong_one c (arg.Str text) = (λ o ends. ends, λ o earlier w b ends so. so, λ o earlier w b ends so. so, right_value c (arg.Str text) refl)
  wrong_one c (arg.Array bytes) = (λ o ends. ends, λ o earlier w b ends so. so, λ o earlier w b ends so. so, right_value c (arg.Array bytes) refl)
  wrong_one c (arg.Fd token) = (λ o ends. ends, λ o earlier w b ends so. so, λ o earlier w b ends so. so, right_value c (arg.Fd token) refl)

  -- nothing is wrong with each of these arguments
  abbrev RightBefore : Converting U → Objects (Kept U) → List WireArgument → Type 0
  RightBefore c o earlier = (xs ys : List WireArgument) (a : WireArgument) (w : EventFault) → earlier ≡ xs ++ a ∷ ys → ¬ WrongBehind c o xs w a

  right_first : (c next : Converting U) (b : Argument IdParts Token) (a : WireArgument) (o : Objects (Kept U)) (earlier : List WireArgument) → EndsAs next o → OneWrong c a (Ok (b, next))
      → RightBefore next o earlier → RightBefore c o (a ∷ earlier)
  right_first c next b a o earlier ends so right [] ys x w split bad =
      so.3 o w (subst (λ (y : WireArgument). WrongBehind c o [] w y) (sym (of_cons a x earlier ys split).0) bad)
  right_first c next b a o earlier ends so right (z ∷ xs) ys x w split bad = grind (arith, of_cons)

  abbrev AllWrong : Converting U → List WireArgument → Outcome U → Type 0
  AllWrong c args (Whole e all) = Unit {0}
  AllWrong c args (Wrong w o) =
      EndsAs c o
      × ((earlier : List WireArgument) × (a : WireArgument) × (later : List WireArgument) × (args ≡ earlier ++ a ∷ later) × WrongBehind c o earlier w a
      × RightBefore c o earlier)

  wrong_all : (c : Converting U) (done : List (Argument IdParts Token)) (args : List WireArgument) → AllWrong c args (convert version destroyed c done args)
  wrong_all c done [] = tt
  wrong_all c done (a ∷ args) = at (convert_one version destroyed c a) (wrong_one c a) (λ next all. wrong_all next all args)
    where
      behind : (b : Argument IdParts Token) (next : Converting U) → OneWrong c a (Ok (b, next)) → (o : Outcome U) → AllWrong next args o → AllWrong c (a ∷ args) o
      behind b next so (Whole e all) h = tt
      behind b next so (Wrong w o) (ends, (earlier, x, later, split, bad, right)) = (
        so.0 o ends,
        (
          a ∷ earlier,
          x,
          later,
          ap (λ (xs : List WireArgument). a ∷ xs) split,
          so.1 o earlier w x ends bad,
          right_first c next b a o earlier ends so right,
        ),
      )

      at : (r : Converted U) → OneWrong c a r
          → ((next : Converting U) (all : List (Argument IdParts Token)) → AllWrong next args (convert version destroyed next all args))
          → AllWrong c (a ∷ args) (going_on r c.objects (λ b next. convert version destroyed next (done ++ b ∷ []) args))
      at (Ok (b, next)) so rest = behind b next so (convert version destroyed next (done ++ b ∷ []) args) (rest next (done ++ b ∷ []))
      at (Err w) so rest = (λ none. refl, ([], a, args, refl, so, λ xs ys x f split bad. no_split xs ys x split))

-- ---- the arguments of an event that is handed out

module _ {U : Type 0} (version : ℕ) (destroyed : Bool) where
  -- once an object was made, the store stays
  abbrev EndsIn : Converting U → Store (Kept U) → Type 0
  EndsIn c s = c.child ≡ None → s ≡ c.objects.store

  abbrev One : Converting U → WireArgument → Converted U → Type 0
  One c x (Ok next) =
      (on_the_wire next.0 ≡ x) × ((s : Store (Kept U)) → EndsIn next.1 s → EndsIn c s)
      × ((s : Store (Kept U)) (more : List (Argument IdParts Token)) → EndsIn next.1 s → ObjectsFit next.1.objects.store s next.1.asked more
      → ObjectsFit c.objects.store s c.asked (next.0 ∷ more))
  One c x (Err w) = Unit {0}

  one : (c : Converting U) (x : WireArgument) → One c x (convert_one version destroyed c x)
  one c (arg.Int z) = (refl, λ s h. h, λ s more ends fit. fit)
  one c (arg.Uint n) = (refl, λ s h. h, λ s more ends fit. fit)
  one c (arg.Fixed z) = (refl, λ s h. h, λ s more ends fit. fit)
  one c (arg.Str text) = (refl, λ s h. h, λ s more ends fit. fit)
  one c (arg.Array bytes) = (refl, λ s h. h, λ s more ends fit. fit)
  one c (arg.Fd token) = (refl, λ s h. h, λ s more ends fit. fit)
  one c (arg.Object n) = grind (arith, eqb, held, with_object_argument, object_argument_of, next_interface, fits, id_at, null_parts, eqb-true)
  one c (arg.NewId n) = new c.child refl
    where
      valid : (i : InterfaceId) → c.child ≡ Some i → (b : Bool)
          → One c (arg.NewId n) (cond b (Ok (with_new_at version destroyed c n i)) (Err (wrong.InvalidNewId n i)))
      valid i h1 b = grind (arith, with_new_at, none_some)

      new : (o : Option InterfaceId) → c.child ≡ o → One c (arg.NewId n) (with_new_argument version destroyed c n o)
      new None is = tt
      new (Some i) is = valid i is (is_valid_new c.objects n)

  -- what the arguments became: behind those that were gone through stand theirs
  abbrev Came : Converting U → List (Argument IdParts Token) → List WireArgument → Outcome U → Type 0
  Came c done args (Whole e all) =
      (more : List (Argument IdParts Token)) × (all ≡ done ++ more) × (map on_the_wire more ≡ args) × EndsIn c e.objects.store
      × ObjectsFit c.objects.store e.objects.store c.asked more
  Came c done args (Wrong w o) = Unit {0}

  came_then : (c next : Converting U) (done : List (Argument IdParts Token)) (b : Argument IdParts Token) (x : WireArgument) (args : List WireArgument) → One c x (Ok (b, next))
      → (o : Outcome U) → Came next (done ++ b ∷ []) args o → Came c done (x ∷ args) o
  came_then c next done b x args (is, ends, fit) (Whole e all) (more, all_is, numbers, end, rest) = (
    b ∷ more,
    all_is ∙ append_assoc done (b ∷ []) more,
    ap (λ (y : WireArgument). y ∷ map on_the_wire more) is ∙ ap (λ (ys : List WireArgument). x ∷ ys) numbers,
    ends e.objects.store end,
    fit e.objects.store more end rest,
  )
  came_then c next done b x args so (Wrong w o) h = tt

  converts : (c : Converting U) (done : List (Argument IdParts Token)) (args : List WireArgument) → Came c done args (convert version destroyed c done args)
  converts c done [] = ([], sym (append-nil done), refl, λ none. refl, tt)
  converts c done (x ∷ args) = at (convert_one version destroyed c x) (one c x) (λ next all. converts next all args)
    where
      at : (r : Converted U) → One c x r
          → ((next : Converting U) (all : List (Argument IdParts Token)) → Came next all args (convert version destroyed next all args))
          → Came c done (x ∷ args) (going_on r c.objects (λ b next. convert version destroyed next (done ++ b ∷ []) args))
      at (Ok (b, next)) so rest = came_then c next done b x args so (convert version destroyed next (done ++ b ∷ []) args) (rest next (done ++ b ∷ []))
      at (Err w) so rest = tt

-- ---- what a message is

module _ {U : Type 0} (c : Core U) (m : WireMessage) where
  -- this is its event
  record IsEvent (event : SessionMessage) (store : Store (Kept U)) : Type 0 where
    receiver : Object (Kept U)
    row : MessageRow
    not_display : m.sender ≢ 1
    was_held : held c.store m.sender ≡ Some receiver
    live : receiver.value.client_destroyed ≡ false
    by_table : event_row c.table receiver.interface m.opcode ≡ Some row
    sender_is : event.sender ≡ id_at m.sender receiver
    opcode_is : event.opcode ≡ m.opcode
    args_are : map on_the_wire event.args ≡ m.args
    objects_fit : ObjectsFit c.store store row.arg_interfaces event.args

  abbrev So : Handling U → Type 0
  So (Swallows o) = Unit {0}
  So (HandsOut event opened o) = IsEvent event o.store
  So (Breaks e o) =
      (end : Core U) → end.store ≡ o.store → end.last_serial ≡ o.last_serial
      → TellsError c m e ⊎ ((w : EventFault) × IsWrong w c m end × (e ≡ error_of c.table w))

  -- ---- an event of the display

  unreadable : m.sender ≡ 1 → ((n code : ℕ) (text : List ℕ) → m.opcode ≡ 0 → ¬ (m.args ≡ arg.Object n ∷ arg.Uint code ∷ arg.Str (Some text) ∷ []))
      → ((n : ℕ) → m.opcode ≡ 1 → ¬ (m.args ≡ arg.Uint n ∷ [])) → (e : ProtocolError) → e ≡ error_of c.table wrong.Malformed
      → (end : Core U) → TellsError c m e ⊎ ((w : EventFault) × IsWrong w c m end × (e ≡ error_of c.table w))
  unreadable sender no_error' no_deletion e is end = inr (wrong.Malformed, (sender, no_error', no_deletion), is)

  told_so : m.sender ≡ 1 → m.opcode ≡ 0 → (args : List WireArgument) → m.args ≡ args → So (of_display c.table (objects_in c) (error_event args))
  told_so sender zero (arg.Object n ∷ arg.Uint code ∷ arg.Str (Some text) ∷ []) is = λ end same last. inl (sender, zero, (n, code, text, is, refl))
  told_so sender zero _ is = grind (arith, true≢false, eqb)

  deleted_so : m.sender ≡ 1 → m.opcode ≡ 1 → (args : List WireArgument) → m.args ≡ args → So (of_display c.table (objects_in c) (delete_event args))
  deleted_so h1 h2 args h3 = grind (arith, one, true≢false, eqb)

  display_so : m.sender ≡ 1 → So (of_display c.table (objects_in c) (display_event m.opcode m.args))
  display_so sender = at (eqb m.opcode 0) (eqb m.opcode 1) refl refl
    where
      at : (a b : Bool) → eqb m.opcode 0 ≡ a → eqb m.opcode 1 ≡ b
          → So (of_display c.table (objects_in c) (cond a (error_event m.args) (cond b (delete_event m.args) DisplayEvent.Unreadable)))
      at a b h1 h2 = grind (arith, one, told_so, eqb-true, deleted_so, other_than)

  -- ---- an event of another object

  wrong_so : (w : EventFault) (end : Core U) → HasWrongArgument w c m end → IsWrong w c m end
  wrong_so w end h1 = grind (arith)

  converted_so : m.sender ≢ 1 → (x : Object (Kept U)) (row : MessageRow) → held c.store m.sender ≡ Some x → event_row c.table x.interface m.opcode ≡ Some row → (o : Outcome U)
      → AllWrong x.version x.value.client_destroyed (start (objects_in c) row) m.args o → Came x.version x.value.client_destroyed (start (objects_in c) row) [] m.args o
      → So (of_converted c.table (objects_in c) m x row o)
  converted_so other x row there has (Wrong w o) (ends, (earlier, a, later, split, bad, right)) came = grind (arith, wrong_so, objects_in, ap₂)
  converted_so other x row there has (Whole e args) bad (more, is, numbers, ends, fit) = grind (arith, event_of, opened_of, on_the_wire)

  event_so : m.sender ≢ 1 → (signature : List ArgumentType) → signature_in c.table c.store m.sender m.opcode ≡ Some signature
      → (o : Option (Object (Kept U))) → held c.store m.sender ≡ o → (r : Option MessageRow) → row_in c.table o m.opcode ≡ r → So (of_event c.table (objects_in c) m o r)
  event_so h1 signature h2 o h3 r h4 = grind (arith, none_some, option_map, row_in, converted_so, wrong_all, start, objects_in, converts)

  handling_so : (signature : List ArgumentType) → signature_in c.table c.store m.sender m.opcode ≡ Some signature → So (handling c.table (objects_in c) m)
  handling_so signature signed = at (eqb m.sender 1) refl
    where
      at : (b : Bool) → eqb m.sender 1 ≡ b
          → So (cond b (of_display c.table (objects_in c) (display_event m.opcode m.args))
          (of_event c.table (objects_in c) m (held c.store m.sender) (row_in c.table (held c.store m.sender) m.opcode)))
      at true is = display_so (eqb-true m.sender 1 is)
      at false is = event_so (other_than m.sender 1 is refl) signature signed (held c.store m.sender) refl (row_in c.table (held c.store m.sender) m.opcode) refl

  handling_by_so : (passes : Bool) (signature : List ArgumentType) → signature_by passes c.table c.store m.sender m.opcode ≡ Some signature
      → So (handling_by passes c.table (objects_in c) m)
  handling_by_so passes signature = at (is_passed_over passes (held c.store m.sender) (row_in c.table (held c.store m.sender) m.opcode))
    where
      at : (b : Bool) → cond b (Some []) (signature_in c.table c.store m.sender m.opcode) ≡ Some signature
          → So (cond b (Swallows (objects_in c)) (handling c.table (objects_in c) m))
      at true is = tt
      at false is = handling_so signature is

-- ---- turns

later_turn : (f : IoFault) (t : Turn) (turns : List Turn) → LastReceiveFailed f turns → LastReceiveFailed f (t ∷ turns)
later_turn f t [] (r, is, failed) = absurd (none_some is)
later_turn f t (u ∷ turns) last = last

or_true : (a b : Bool) → b ≡ true → (a || b) ≡ true
or_true true b is = refl
or_true false b is = is

or_first : (a b : Bool) → a ≡ true → (a || b) ≡ true
or_first true b is = refl
or_first false b is = absurd (true≢false (sym is))

split_result : {A E : Type 0} {P : A → Type 0} {Q : E → Type 0} (r : Result A E) → MatchResult r P Q → ((x : A) × (r ≡ Ok x) × P x) ⊎ ((e : E) × (r ≡ Err e) × Q e)
split_result (Ok x) p = inl (x, refl, p)
split_result (Err e) q = inr (e, refl, q)

module _ {T U : Type 0} (sends : T → Queue → Result ℕ IoFault → T → Type 0) (receives : T → ℕ → Result Queue IoFault → T → Type 0) where
  -- a message that was read has its signature from the table
  signed : (p : ReaderState T (Core U)) (m : WireMessage) (link : LinkState T) → ReadsAs sends client p (Ok m) link
      → (signature : List ArgumentType) × (signature_by p.core.passes_over p.core.table p.core.store m.sender m.opcode ≡ Some signature)
  signed p m link read =
      elim (either_bool (nat_le 8 (length p.link.incoming.bytes)) read) [
        | inl (found, is, h) ↦ at found is h
        | inr (none, same) ↦ absurd (no_error none)
      ]
    where
      at : (found : Option (List ArgumentType))
          → found ≡ signature_by p.core.passes_over p.core.table p.core.store (sender_of p.link.incoming.bytes) (opcode_of p.link.incoming.bytes)
          → ReadFound found p.link (Ok m) link → (signature : List ArgumentType) × (signature_by p.core.passes_over p.core.table p.core.store m.sender m.opcode ≡ Some signature)
      at None is (none, same) = absurd (no_error none)
      at (Some signature) is (message, after) =
          (signature, ap₂ (λ (n opcode : ℕ). signature_by p.core.passes_over p.core.table p.core.store n opcode) message.sender message.opcode ∙ sym is)

  -- what a message gives, and what the core is then, with memory or without
  carries : (c : Core U) (h : Handling U) (link : LinkState T) (es : List Sending) (first : List (Given SessionMessage)) (lacked : Bool) (mid : ReaderState T (Core U))
      → CarriesOut sends client (verdict c h) link es first lacked mid
      → (first ≡ map HandedOut (handed h)) × ((mid.core ≡ core_after c h) ⊎ ((mid.core ≡ starved_to c h) × (lacked ≡ true)))
  carries c h link es first lacked mid h1 = grind (arith, put_and_gave, handed, came_to, client, verdict)

  abbrev Of : Option IdParts → Turn → ReaderState T (Core U) → Handling U → Type 0
  Of id t before (Swallows o) = Unit {0}
  Of id t before (HandsOut event opened o) =
      (end : ReaderState T (Core U)) → end.core ≡ core_after (freeing before.core id) (HandsOut event opened o) → FoundEvent sends receives event end t before
  Of id t before (Breaks e o) =
      (end : ReaderState T (Core U)) → end.core.store ≡ o.store → end.core.last_serial ≡ o.last_serial → FoundError sends receives e end t before

  -- what a turn came to: it gave nothing, and the session is read on; or the reading ends here
  abbrev Turned : Turn → ReaderState T (Core U) → List (Given SessionMessage) → Bool → ReaderState T (Core U) → Type 0
  Turned t before first lacked mid =
      (CanRead mid.core × (first ≡ []))
      ⊎ ((reads_on mid.core ≡ false) × ((left : ℕ) (refused : Bool) → (lacked ≡ true → refused ≡ true) → ReadingEnds sends receives before (t ∷ []) (event_in first) refused left mid))

  module _ (id : Option IdParts) (t : Turn) (before : ReaderState T (Core U)) (live : CanRead before.core) (first : List (Given SessionMessage)) (lacked : Bool) (mid : ReaderState T (Core U)) where
    of_last : (P : Turn → ReaderState T (Core U) → Type 0) → P t before → OfLast sends receives P before (t ∷ [])
    of_last P so = ([], t, before, refl, refl, so)

    broke : (e : ProtocolError) (o : Objects (Kept U)) (why : WaylandError) → Of id t before (Breaks e o) → first ≡ []
        → mid.core ≡ fails_by (with_objects (freeing before.core id) o) why
        → ((refused : Bool) → (lacked ≡ true → refused ≡ true) → FoundError sends receives e mid t before → HasFailedBy sends receives why before (t ∷ []) refused mid)
        → Turned t before first lacked mid
    broke e o why found none is by = grind (arith, failed_off, is_some, event_in)

    turned : (h : Handling U) → Of id t before h → first ≡ map HandedOut (handed h)
        → (mid.core ≡ core_after (freeing before.core id) h) ⊎ ((mid.core ≡ starved_to (freeing before.core id) h) × (lacked ≡ true))
        → Turned t before first lacked mid
    turned (Swallows o) found none (inl is) = inl ((ap (λ (d : Core U). d.error) is ∙ live.0, ap (λ (d : Core U). d.open_event) is ∙ live.1), none)
    turned (Swallows o) found none (inr (is, was)) = inl ((ap (λ (d : Core U). d.error) is ∙ live.0, ap (λ (d : Core U). d.open_event) is ∙ live.1), none)
    turned (HandsOut event opened o) found one' came = hands (at came)
      where
        at : (mid.core ≡ core_after (freeing before.core id) (HandsOut event opened o)) ⊎ ((mid.core ≡ starved_to (freeing before.core id) (HandsOut event opened o)) × (lacked ≡ true))
            → mid.core ≡ core_after (freeing before.core id) (HandsOut event opened o)
        at (inl is) = is
        at (inr (is, was)) = is

        hands : mid.core ≡ core_after (freeing before.core id) (HandsOut event opened o) → Turned t before first lacked mid
        hands is = inr (
          opened_off mid.core opened (ap (λ (d : Core U). d.open_event) is),
          λ left refused lacks.
              subst (λ (g : List (Given SessionMessage)). ReadingEnds sends receives before (t ∷ []) (event_in g) refused left mid) (sym one')
              (of_last (FoundEvent sends receives event mid) (found mid is)),
        )
    turned (Breaks e o) found none (inl is) = broke e o (Protocol e) found none is (λ refused lacks so. of_last (FoundError sends receives e mid) so)
    turned (Breaks e o) found none (inr (is, was)) =
        broke e o (Io fault.OutOfMemory) found none is (λ refused lacks so. (lacks was, (e, of_last (FoundError sends receives e mid) so)))

  -- the event is open then
  is_open : (c d : Core U) (id : Option IdParts) (event : SessionMessage) (opened : OpenEvent) (o : Objects (Kept U)) → CanRead c → Opens c.table c.store event opened o
      → d ≡ core_after (freeing c id) (HandsOut event opened o) → EventIsOpen c event d
  is_open c d id event opened o live so is = grind (arith)

  -- a message that was taken
  handled_of : (id : Option IdParts) (es : List Sending) (before : ReaderState T (Core U)) → CanRead before.core → (m : WireMessage) (link : LinkState T) → ReadsAs sends client before (Ok m) link
      → (h : Handling U) → OpensIn before.core.table before.core.store h → So before.core m h → Of id (Handled es) before h
  handled_of id es before live m link read (Swallows o) open' so = tt
  handled_of id es before live m link read (HandsOut event opened o) open' so = λ end is. (
    m,
    link,
    read,
    record {
      receiver = so.receiver;
      row = so.row;
      not_display = so.not_display;
      was_held = so.was_held;
      live = so.live;
      by_table = so.by_table;
      sender_is = so.sender_is;
      opcode_is = so.opcode_is;
      args_are = so.args_are;
      objects_fit =
          subst (λ (s : Store (Kept U)). ObjectsFit before.core.store s so.row.arg_interfaces event.args) (sym (ap (λ (d : Core U). d.store) is)) so.objects_fit;
      opens = is_open before.core end.core id event opened o live open' is;
    },
  )
  handled_of id es before live m link read (Breaks e o) open' so = λ end same last. (m, link, read, so end.core same last)

  -- ---- over the turns of a reading

  last_later : (P : Turn → ReaderState T (Core U) → Type 0) (t : Turn) (turns : List Turn) (start mid : ReaderState T (Core U)) → TurnLeads sends receives t start mid
      → OfLast sends receives P mid turns → OfLast sends receives P start (t ∷ turns)
  last_later P t turns start mid leads (earlier, u, before, split, led, so) = (t ∷ earlier, u, before, ap (λ (us : List Turn). t ∷ us) split, (mid, leads, led), so)

  failed_later : (why : WaylandError) (t : Turn) (turns : List Turn) (lacked refused : Bool) (end start mid : ReaderState T (Core U)) → TurnLeads sends receives t start mid
      → HasFailedBy sends receives why mid turns refused end → HasFailedBy sends receives why start (t ∷ turns) (lacked || refused) end
  failed_later (Io fault.OutOfMemory) t turns lacked refused end start mid leads (was, (e, so)) =
      (or_true lacked refused was, (e, last_later (FoundError sends receives e end) t turns start mid leads so))
  failed_later (Io fault.WouldBlock) t turns lacked refused end start mid leads so = so
  failed_later (Io f) t turns lacked refused end start mid leads so = later_turn f t turns so
  failed_later (Protocol e) t turns lacked refused end start mid leads so = last_later (FoundError sends receives e end) t turns start mid leads so

  -- another turn stands before
  ends_later : (t : Turn) (turns : List Turn) (answer : Result SessionMessage EventError) (lacked refused : Bool) (left : ℕ) (end start mid : ReaderState T (Core U)) → TurnLeads sends receives t start mid
      → ReadingEnds sends receives mid turns answer refused left end → ReadingEnds sends receives start (t ∷ turns) answer (lacked || refused) left end
  ends_later t turns (Ok event) lacked refused left end start mid leads so = last_later (FoundEvent sends receives event end) t turns start mid leads so
  ends_later t turns (Err no_event.EventOpen) lacked refused left end start mid leads so = so
  ends_later t turns (Err no_event.WouldBlock) lacked refused left end start mid leads (can, inl last) = (can, inl (later_turn _ t turns last))
  ends_later t turns (Err no_event.WouldBlock) lacked refused left end start mid leads (can, inr so) = (can, inr so)
  ends_later t turns (Err no_event.OutOfMemory) lacked refused left end start mid leads (can, inl last) = (can, inl (later_turn _ t turns last))
  ends_later t turns (Err no_event.OutOfMemory) lacked refused left end start mid leads (can, inr (was, so)) = (can, inr (or_true lacked refused was, so))
  ends_later t turns (Err no_event.Failed) lacked refused left end start mid leads (why, is, idle, by) = (why, is, idle, failed_later why t turns lacked refused end start mid leads by)

  abbrev Done : ReaderState T (Core U) → List Turn → Gives SessionMessage → ReaderState T (Core U) → Type 0
  Done start turns out end = ReadingEnds sends receives start turns (answered out.stopped out.gave) out.refused out.left end

  done_at : (start : ReaderState T (Core U)) (turns : List Turn) (out out' : Gives SessionMessage) (end end' : ReaderState T (Core U)) → out ≡ out' → end ≡ end' → Done start turns out' end'
      → Done start turns out end
  done_at start turns out out' end end' is same so =
      subst (λ (o : Gives SessionMessage). Done start turns o end) (sym is) (subst (λ (e : ReaderState T (Core U)). Done start turns out' e) (sym same) so)

  -- the reading stops here
  halts_end : (left : ℕ) (before : ReaderState T (Core U)) (out : Gives SessionMessage) → CanRead before.core → Halts sends client left before out → Done before [] out before
  halts_end left before out h1 h2 = grind (arith, done_at)

  -- a receive failed
  receive_ends : (start : ReaderState T (Core U)) → CanRead start.core → (got : Result Queue IoFault) (link : LinkState T) (n : ℕ) (f : IoFault) → counted_answer (count_of got) ≡ Err f
      → Done start (Received got ∷ []) (stops (Some f) (lacks_memory (Err f)) n) (record { core = faulted start.core f; link = link })
  receive_ends start can got link n fault.WouldBlock failed = (can, inl (got, refl, failed))
  receive_ends start can got link n fault.OutOfMemory failed = (can, inl (got, refl, failed))
  receive_ends start can got link n fault.Pipe failed = (Io fault.Pipe, refl, can.1, (got, refl, failed))
  receive_ends start can got link n fault.TooBig failed = (Io fault.TooBig, refl, can.1, (got, refl, failed))
  receive_ends start can got link n fault.Proto failed = (Io fault.Proto, refl, can.1, (got, refl, failed))
  receive_ends start can got link n fault.InvalidInput failed = (Io fault.InvalidInput, refl, can.1, (got, refl, failed))
  receive_ends start can got link n (fault.Other k) failed = (Io (fault.Other k), refl, can.1, (got, refl, failed))

  then_ends : (t : Turn) (start : ReaderState T (Core U)) (left : ℕ) (mid end : ReaderState T (Core U)) (turns : List Turn) (first : List (Given SessionMessage)) (lacked : Bool)
      (rest out : Gives SessionMessage) → out ≡ given_first first lacked rest → TurnLeads sends receives t start mid → Turned t start first lacked mid
      → Reads sends client receives left mid turns rest end → (CanRead mid.core → Done mid turns rest end) → Done start (t ∷ turns) out end
  then_ends t start left mid end turns first lacked rest out split leads (inl (can, none)) reads more = grind (arith, done_at, given_first, ends_later, answered)
  then_ends t start left mid end turns first lacked rest out split leads (inr (off, so)) reads more =
      let (over, rest_is, same) = ends_here turns reads in
      subst (λ (ts : List Turn). Done start (t ∷ ts) out end) (sym over)
      (done_at start (t ∷ []) out (given_first first lacked (stops None false left)) end mid (split ∙ ap (λ (r : Gives SessionMessage). given_first first lacked r) rest_is) same
      (subst (λ (g : List (Given SessionMessage)). ReadingEnds sends receives start (t ∷ []) (event_in g) (lacked || false) left mid) (sym (append-nil first))
      (so left (lacked || false) (λ was. or_first lacked false was))))
    where
      ends_here : (turns : List Turn) → Reads sends client receives left mid turns rest end → (turns ≡ []) × (rest ≡ stops None false left) × (end ≡ mid)
      ends_here [] reads = let (is, same) = stopped sends receives left mid end [] rest reads off in (refl, is, same)
      ends_here (Received r ∷ turns) h = absurd (true≢false (sym h.0 ∙ off))
      ends_here (Handled es ∷ turns) h = absurd (true≢false (sym h.0 ∙ off))
      ends_here (Unread es ∷ turns) h = absurd (true≢false (sym h.0 ∙ off))

  read_ends : (left : ℕ) (before : ReaderState T (Core U)) (turns : List Turn) (out : Gives SessionMessage) (end : ReaderState T (Core U)) → CanRead before.core
      → Reads sends client receives left before turns out end → Done before turns out end
  read_ends left before [] out end can (same, stops') =
      done_at before [] out out end before refl same (halts_end left before out can (when_true _ (reads_on before.core) (live_on before.core can) stops'))
  read_ends left before (Received got ∷ turns) out end can (on, lacks, (n, is, (link, filled, room, h))) =
      elim (split_result (counted_answer (count_of got)) h) [
        | inl (u, ok, more) ↦
            ends_later (Received got) turns (answered out.stopped out.gave) false out.refused out.left end before (with_link before link)
            (link, subst (λ (c : Result (Unit {0}) IoFault). FilledBy receives before.link got c link) ok filled, refl)
            (read_ends n (with_link before link) turns out end can more)
        | inr (f, failed, (over, is_out, same)) ↦
            subst (λ (ts : List Turn). Done before (Received got ∷ ts) out end) (sym over)
            (done_at before (Received got ∷ []) out _ end _ is_out same (receive_ends before can got link n f failed))
      ]
  read_ends left before (Handled es ∷ turns) out end can (on, (v, link, first, lacked, mid, rest, (m, read, is), by, split, more)) =
      let h = handling_by before.core.passes_over before.core.table (objects_in before.core) m in
      let id = freed_as before.core.passes_over before.core.table (objects_in before.core) m h in
      let so = carries (freeing before.core id) h link es first lacked mid (subst (λ (w : Verdict (Core U) SessionMessage). CarriesOut sends client w link es first lacked mid) is by) in
      let (signature, has) = signed before m link read in
      let of' = handled_of id es before can m link read h (opens_by before.core.table (objects_in before.core) m (makes_new sends before m link read) before.core.passes_over)
      (handling_by_so before.core m before.core.passes_over signature has) in
      then_ends (Handled es) before left mid end turns first lacked rest out split (v, link, first, lacked, (m, read, is), by)
      (turned id (Handled es) before can first lacked mid h of' so.0 so.1) more (λ can'. read_ends left mid turns rest end can' more)
  read_ends left before (Unread es ∷ turns) out end can (on, (v, link, first, lacked, mid, rest, (read, same, is), by, split, more)) =
      let h : Handling U = Breaks (error_of before.core.table wrong.Malformed) (objects_in before.core) in
      let so = carries before.core h link es first lacked mid (subst (λ (w : Verdict (Core U) SessionMessage). CarriesOut sends client w link es first lacked mid) is by) in
      then_ends (Unread es) before left mid end turns first lacked rest out split (v, link, first, lacked, (read, same, is), by)
      (turned None (Unread es) before can first lacked mid h (λ e store last. (read, refl)) so.0 so.1) more (λ can'. read_ends left mid turns rest end can' more)

  -- a reading of a session that can be read
  pub reading_ends : (left : ℕ) (before after : SessionState T U) (turns : List Turn) (out : Gives SessionMessage) → before.error ≡ None → before.open_event ≡ None
      → Reads sends client receives left (reader_state_of before) turns out (reader_state_of after)
      → ReadingEnds sends receives (reader_state_of before) turns (answered out.stopped out.gave) out.refused out.left (reader_state_of after)
  reading_ends left before after turns out fine idle reads = read_ends left (reader_state_of before) turns out (reader_state_of after) (fine, idle) reads

  pub ends_for_a_reason : (before : SessionState T U) (answer : Result SessionMessage EventError) (refused : Bool) (after : SessionState T U) → NextEvent sends receives before answer refused after
      → EndsForAReason sends receives before answer refused after
  ends_for_a_reason before answer refused after h fine idle = grind (arith, either_option, none_some, reader_state_of, answered, reading_ends, receives_allowed)
