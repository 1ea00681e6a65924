-- How the handling of a message leads to a turn of a reading.
use Rattle.std.proofs.Common.{◌≡◌, ◌≢◌, ◌∙◌, ◌==◌, ℕ, Bool, cond, true, false, List, [], Option, None, Some, is_some, option_map, Result, Ok, Err, MatchOption, refl, sym, ap, ap₂, subst, true≢false}
use mathlib.Core.Logic.{inl, inr}
use Rattle.std.proofs.lemmas.Bool.{eq-eqb, ne_eqb}
use Rattle.wl_wire.specs.declared.argument.ArgumentType.{ArgumentType}
use Rattle.wl_wire.specs.declared.argument.Token.{Token}
use Rattle.wl_wire.specs.declared.message.Message.{Message}
use Rattle.wl_wire.specs.Message.{WireMessage}
use Rattle.wl_wire.specs.Table.{InterfaceRow, MessageRow}
use Rattle.wl_link.specs.declared.object.Object.{Object}
use Rattle.wl_link.specs.Identity.{Objects}
use Rattle.wl_link.specs.Link.{LinkState}
use Rattle.wl_link.specs.Store.{Store, held}
use Rattle.wl_client.specs.declared.error.WaylandError.{WaylandError}
use Rattle.wl_client.specs.declared.event.OpenEvent.{OpenEvent}
use Rattle.wl_client.specs.declared.event_fault.EventFault.{EventFault}
use Rattle.wl_client.specs.declared.message.MessageEnd.{MessageEnd}
use Rattle.wl_client.specs.declared.message.MessageEnd.TheVariants as came
use Rattle.wl_client.specs.declared.objects.Kept.{Kept}
use Rattle.wl_client.specs.declared.objects.Note.{Note}
use Rattle.wl_client.specs.Events.{Outcome, Whole, Wrong, convert, display_event, error_of, start}
use Rattle.wl_client.specs.Freeing.{deleted_number, destroyed_at, first_new_id, freed_as, freed_by, with_freed}
use Rattle.wl_client.specs.Handling.{Handling, Swallows, HandsOut, Breaks, handling, handling_by, is_passed_over, objects_after, of_converted, of_display, of_event, row_in, signature_by, signature_in}
use Rattle.wl_client.specs.ObjectId.{IdParts}
use Rattle.wl_client.specs.Reading.{with_link}
use Rattle.wl_client.specs.Requests.{SessionMessage, session_content}
use Rattle.wl_client.specs.Session.{SessionState}
use Rattle.wl_client.specs.Inside.ReadingLoop.{Carries, EndsWith, HandledAs, HandledTo, MessageResult, GaveEvent, WentOn, Ended, ReadsIn, HandlesMessage, Stores, message_result}

-- the session of these parts
abbrev session_of : {T U : Type 0} → Bool → List InterfaceRow → LinkState T → Objects (Kept U) → Option WaylandError → Option OpenEvent → List Note → Bool → List IdParts
    → SessionState T U
session_of passes table link objects error opened notes keeps freed = record {
  table = table;
  link = link;
  store = objects.store;
  last_serial = objects.last_serial;
  error = error;
  open_event = opened;
  notes = notes;
  passes_over = passes;
  keeps_freed = keeps;
  freed = freed;
}

-- ---- what is passed over

-- what holds of a message that does nothing and of one that is handled holds of each
pub either_way : {U : Type 0} (P : Handling U → Type 0) (passes : Bool) (table : List InterfaceRow) (objects : Objects (Kept U)) (m : WireMessage)
    → P (Swallows objects) → P (handling table objects m) → P (handling_by passes table objects m)
either_way P passes table objects m over handled =
    at (is_passed_over passes (held objects.store m.sender) (row_in table (held objects.store m.sender) m.opcode))
  where
    at : (b : Bool) → P (cond b (Swallows objects) (handling table objects m))
    at true = over
    at false = handled

-- so of the id of an object that leaves its number
pub either_way_freed : {U : Type 0} (P : Option IdParts → Handling U → Type 0) (passes : Bool) (table : List InterfaceRow) (objects : Objects (Kept U)) (m : WireMessage)
    → P None (Swallows objects) → P (freed_by objects m (objects_after (handling table objects m))) (handling table objects m)
    → P (freed_as passes table objects m (handling_by passes table objects m)) (handling_by passes table objects m)
either_way_freed P passes table objects m over handled =
    at (is_passed_over passes (held objects.store m.sender) (row_in table (held objects.store m.sender) m.opcode))
  where
    at : (b : Bool) → P (cond b None (freed_by objects m (objects_after (cond b (Swallows objects) (handling table objects m)))))
        (cond b (Swallows objects) (handling table objects m))
    at true = over
    at false = handled

-- a message for which the table has an event is handled
pub known_handled : {U : Type 0} (passes : Bool) (table : List InterfaceRow) (objects : Objects (Kept U)) (m : WireMessage) (row : MessageRow)
    → row_in table (held objects.store m.sender) m.opcode ≡ Some row → handling_by passes table objects m ≡ handling table objects m
known_handled passes table objects m row has =
    ap (λ (r : Option MessageRow). cond (is_passed_over passes (held objects.store m.sender) r) (Swallows objects) (handling table objects m)) has

-- and frees what that frees
pub known_freed : {U : Type 0} (passes : Bool) (table : List InterfaceRow) (objects : Objects (Kept U)) (m : WireMessage) (row : MessageRow)
    → row_in table (held objects.store m.sender) m.opcode ≡ Some row
    → freed_as passes table objects m (handling_by passes table objects m) ≡ freed_by objects m (objects_after (handling table objects m))
known_freed passes table objects m row has =
    ap (λ (r : Option MessageRow). cond (is_passed_over passes (held objects.store m.sender) r) None
    (freed_by objects m (objects_after (cond (is_passed_over passes (held objects.store m.sender) r) (Swallows objects) (handling table objects m))))) has

-- and is read by what that says
pub known_signature : {U : Type 0} (passes : Bool) (table : List InterfaceRow) (store : Store (Kept U)) (sender opcode : ℕ) (signature : List ArgumentType)
    → signature_in table store sender opcode ≡ Some signature → signature_by passes table store sender opcode ≡ Some signature
known_signature passes table store sender opcode signature = at (row_in table (held store sender) opcode)
  where
    at : (r : Option MessageRow) → option_map (λ row. row.signature) r ≡ Some signature
        → cond (is_passed_over passes (held store sender) r) (Some []) (option_map (λ row. row.signature) r) ≡ Some signature
    at None is = absurd (true≢false (ap is_some (sym is)))
    at (Some row) is = is

module _ {T U : Type 0} (passes : Bool) (table : List InterfaceRow) (link link' : LinkState T) (objects objects' : Objects (Kept U))
    (error error' : Option WaylandError) (opened opened' : Option OpenEvent) (notes : List Note) (keeps keeps' : Bool) (freed freed' : List IdParts)
    (stays : keeps' ≡ keeps) where
  abbrev before : SessionState T U
  before = session_of passes table link objects error opened notes keeps freed

  abbrev after : SessionState T U
  after = session_of passes table link' objects' error' opened' notes keeps' freed'

  -- with the ids that wait then
  abbrev told : SessionState T U
  told = session_of passes table link' objects error opened notes keeps freed'

  carried : (h : Handling U) (message_result : MessageResult) → Carries h message_result objects' error error' opened opened' → HandledTo told h message_result after
  carried (Swallows o) WentOn (same, error_same, opened_same) = λ i. session_of passes table link' (same i) (error_same i) (opened_same i) notes (stays i) freed'
  carried (HandsOut m event o) (GaveEvent e) (content, same, error_same, opens) =
      (content, λ i. session_of passes table link' (same i) (error_same i) (opens i) notes (stays i) freed')
  carried (Breaks e o) (Ended end) (same, opened_same, (failed, inl (unasked, stores))) =
      (failed, inl (unasked, λ i. session_of passes table link' (same i) (stores i) (opened_same i) notes (stays i) freed'))
  carried (Breaks e o) (Ended end) (same, opened_same, (failed, inr (asked, stores))) =
      (failed, inr (asked, λ i. session_of passes table link' (same i) (stores i) (opened_same i) notes (stays i) freed'))
  carried _ _ h = absurd h

  -- the message was taken off the link
  handled_handles : (m : WireMessage) (message_result : MessageResult) → ReadsIn passes table objects.store link (Ok m) link'
      → freed' ≡ with_freed keeps freed (freed_as passes table objects m (handling_by passes table objects m))
      → Carries (handling_by passes table objects m) message_result objects' error error' opened opened' → HandlesMessage before message_result after
  handled_handles m message_result read is h =
      inr (
        m,
        link',
        read,
        subst (λ (ids : List IdParts). HandledTo (session_of passes table link' objects error opened notes keeps ids) (handling_by passes table objects m) message_result after) is
            (carried (handling_by passes table objects m) message_result h),
      )

  -- the objects are as the message leaves them
  carried_objects : (h : Handling U) (message_result : MessageResult) → Carries h message_result objects' error error' opened opened' → objects' ≡ objects_after h
  carried_objects (Swallows o) WentOn h = h.0
  carried_objects (HandsOut m event o) (GaveEvent e) h = h.1
  carried_objects (Breaks e o) (Ended end) h = h.0
  carried_objects _ _ h = absurd h

-- ---- an event of another object than the display

module _ {U : Type 0} (table : List InterfaceRow) (objects objects' : Objects (Kept U)) (m : WireMessage) (row : MessageRow)
    (error : Option WaylandError) (opened opened' : Option OpenEvent) where
  abbrev converted_of : Object (Kept U) → Outcome U
  converted_of x = convert x.version x.value.client_destroyed (start objects row) [] m.args

  -- what became of it, as `handle_event` says
  abbrev Became : Result Bool EventFault → SessionMessage → Object (Kept U) → Outcome U → Type 0
  Became r event x o = HandledAs m x row o r event opened opened' objects'

  handling_is : (x : Object (Kept U)) → m.sender ≢ 1 → held objects.store m.sender ≡ Some x → row_in table (held objects.store m.sender) m.opcode ≡ Some row
      → handling table objects m ≡ of_converted table objects m x row (converted_of x)
  handling_is x other holds has =
      ap (λ (b : Bool). cond b (of_display table objects (display_event m.opcode m.args))
      (of_event table objects m (held objects.store m.sender) (row_in table (held objects.store m.sender) m.opcode))) (ne_eqb m.sender 1 other)
      ∙ ap₂ (of_event table objects m) holds has

  carries : (r : Result Bool EventFault) (event : SessionMessage) (to : MessageResult) (error' : Option WaylandError)
      → ((x : Object (Kept U)) (o : Outcome U) → Became r event x o → Carries (of_converted table objects m x row o) to objects' error error' opened opened')
      → m.sender ≢ 1 → row_in table (held objects.store m.sender) m.opcode ≡ Some row
      → MatchOption (held objects.store m.sender) ⊥ (λ x. Became r event x (converted_of x))
      → Carries (handling table objects m) to objects' error error' opened opened'
  carries r event to error' each other has became = at (held objects.store m.sender) refl became
    where
      at : (o : Option (Object (Kept U))) → held objects.store m.sender ≡ o → MatchOption o ⊥ (λ x. Became r event x (converted_of x))
          → Carries (handling table objects m) to objects' error error' opened opened'
      at None e became = absurd became
      at (Some x) e became =
          subst (λ (h : Handling U). Carries h to objects' error error' opened opened') (sym (handling_is x other e has)) (each x (converted_of x) became)

  event_carries : (r : Result Bool EventFault) (end : MessageEnd) (e : Message IdParts Token) (error' : Option WaylandError) → EndsWith table r end error error'
      → m.sender ≢ 1 → row_in table (held objects.store m.sender) m.opcode ≡ Some row
      → MatchOption (held objects.store m.sender) ⊥ (λ x. Became r (session_content e) x (converted_of x))
      → Carries (handling table objects m) (message_result end e) objects' error error' opened opened'
  event_carries r end e error' ends = carries r (session_content e) (message_result end e) error' (each r end ends)
    where
      each : (r : Result Bool EventFault) (end : MessageEnd) → EndsWith table r end error error' → (x : Object (Kept U)) (o : Outcome U)
          → Became r (session_content e) x o → Carries (of_converted table objects m x row o) (message_result end e) objects' error error' opened opened'
      each (Ok true) came.Event stays x (Whole c args) (live, is, opens, objects_is) = rw live (is, objects_is, stays, opens)
      each (Ok false) came.Continues stays x (Whole c args) (over, same, objects_is) = rw over (objects_is, stays, same)
      each (Err fault) (came.Ends end) stores x (Wrong w over) (same, opened_is, objects_is) =
          (objects_is, opened_is, subst (λ (v : EventFault). Stores (error_of table v) end error') same stores)
      each (Err fault) (came.Ends end) ends x (Whole c args) became = absurd became
      each (Ok true) came.Event ends x (Wrong w over) became = absurd became
      each (Ok false) came.Continues ends x (Wrong w over) became = absurd became
      each _ _ ends x o became = absurd ends

-- ---- the message was taken, and handled

module _ {T U : Type 0} (passes : Bool) (table : List InterfaceRow) (link link' : LinkState T) (store taken_store : Store (Kept U)) (last : ℕ) (objects' : Objects (Kept U))
    (m : WireMessage) (error : Option WaylandError) (opened : Option OpenEvent) (notes : List Note) (keeps kept keeps' : Bool) (freed waiting freed' : List IdParts)
    (same : taken_store ≡ store) (stays : (kept ≡ keeps) × (waiting ≡ freed)) (keeps_is : keeps' ≡ kept) (read : ReadsIn passes table store link (Ok m) link') where
  abbrev objects_at : Store (Kept U) → Objects (Kept U)
  objects_at s = record { store = s; last_serial = last }

  -- the ids that wait then, with that of an object that leaves its number
  waits_then : (id id' : Option IdParts) → freed' ≡ with_freed kept waiting id → id ≡ id' → freed' ≡ with_freed keeps freed id'
  waits_then id id' is other =
      is ∙ ap₂ (λ (b : Bool) (ids : List IdParts). with_freed b ids id) stays.0 stays.1 ∙ ap (λ (i : Option IdParts). with_freed keeps freed i) other

  -- which object that is, by who sent the message
  abbrev leaving : Bool → Option IdParts
  leaving b = cond b (destroyed_at store (deleted_number (display_event m.opcode m.args)))
      (cond ((objects_after (handling table (objects_at store) m)).last_serial == last) None (destroyed_at store (first_new_id m.args)))

  -- it was handled as one for which the table has an event
  known_handles : (row : MessageRow) (error' : Option WaylandError) (opened' : Option OpenEvent) (to : MessageResult)
      → row_in table (held store m.sender) m.opcode ≡ Some row
      → freed' ≡ with_freed keeps freed (freed_by (objects_at store) m (objects_after (handling table (objects_at store) m)))
      → Carries (handling table (objects_at store) m) to objects' error error' opened opened'
      → HandlesMessage (session_of passes table link (objects_at store) error opened notes keeps freed) to
      (session_of passes table link' objects' error' opened' notes keeps' freed')
  known_handles row error' opened' to has is came =
      handled_handles passes table link link' (objects_at store) objects' error error' opened opened' notes keeps keeps' freed freed' (keeps_is ∙ stays.0) m to read
      (is ∙ ap (λ (i : Option IdParts). with_freed keeps freed i) (sym (known_freed passes table (objects_at store) m row has)))
      (subst (λ (h : Handling U). Carries h to objects' error error' opened opened') (sym (known_handled passes table (objects_at store) m row has)) came)

  pub display_handles : (row : MessageRow) (error' : Option WaylandError) (to : MessageResult) → row_in table (held store m.sender) m.opcode ≡ Some row → m.sender ≡ 1
      → freed' ≡ with_freed kept waiting (destroyed_at taken_store (deleted_number (display_event m.opcode m.args)))
      → Carries (handling table (objects_at taken_store) m) to objects' error error' opened opened
      → HandlesMessage (session_of passes table link (objects_at store) error opened notes keeps freed) to
      (session_of passes table link' objects' error' opened notes keeps' freed')
  display_handles row error' to has display is came =
      known_handles row error' opened to has
      (waits_then _ _ is (ap (λ (s : Store (Kept U)). destroyed_at s (deleted_number (display_event m.opcode m.args))) same ∙ sym (ap leaving (eq-eqb m.sender 1 display))))
      (subst (λ (s : Store (Kept U)). Carries (handling table (objects_at s) m) to objects' error error' opened opened) same came)

  module _ (row : MessageRow) (opened' : Option OpenEvent) (other : m.sender ≢ 1) (has : row_in table (held store m.sender) m.opcode ≡ Some row) where
    abbrev Came : Result Bool EventFault → SessionMessage → Store (Kept U) → Type 0
    Came r event s =
        MatchOption (held s m.sender) ⊥
        (λ x. HandledAs m x row (convert x.version x.value.client_destroyed (start (objects_at s) row) [] m.args) r event opened opened' objects')

    abbrev taken_over : ℕ → Store (Kept U) → Option IdParts
    taken_over n s = cond (n == last) None (destroyed_at s (first_new_id m.args))

    pub event_handles : (r : Result Bool EventFault) (end : MessageEnd) (e : Message IdParts Token) (error' : Option WaylandError)
        → EndsWith table r end error error' → Came r (session_content e) taken_store
        → freed' ≡ with_freed kept waiting (taken_over objects'.last_serial taken_store)
        → HandlesMessage (session_of passes table link (objects_at store) error opened notes keeps freed) (message_result end e)
        (session_of passes table link' objects' error' opened' notes keeps' freed')
    event_handles r end e error' ends came is =
        known_handles row error' opened' (message_result end e) has
        (waits_then _ _ is
        (ap (taken_over objects'.last_serial) same ∙ ap (λ (o : Objects (Kept U)). taken_over o.last_serial store) led ∙ sym (ap leaving (ne_eqb m.sender 1 other)))) carries'
      where
        carries' : Carries (handling table (objects_at store) m) (message_result end e) objects' error error' opened opened'
        carries' = event_carries table (objects_at store) objects' m row error opened opened' r end e error' ends other has (subst (Came r (session_content e)) same came)

        led : objects' ≡ objects_after (handling table (objects_at store) m)
        led = carried_objects passes table link link' (objects_at store) objects' error error' opened opened' notes keeps keeps' freed freed' (keeps_is ∙ stays.0)
            (handling table (objects_at store) m) (message_result end e) carries'

  -- it was passed over
  pub passed_handles : is_passed_over passes (held store m.sender) (row_in table (held store m.sender) m.opcode) ≡ true → objects' ≡ objects_at store → freed' ≡ waiting
      → HandlesMessage (session_of passes table link (objects_at store) error opened notes keeps freed) WentOn
      (session_of passes table link' objects' error opened notes keeps' freed')
  passed_handles over still none =
      handled_handles passes table link link' (objects_at store) objects' error error opened opened notes keeps keeps' freed freed' (keeps_is ∙ stays.0) m WentOn read
      (none ∙ stays.1
      ∙ ap (λ (b : Bool). with_freed keeps freed (cond b None
      (freed_by (objects_at store) m (objects_after (cond b (Swallows (objects_at store)) (handling table (objects_at store) m)))))) (sym over))
      (subst (λ (b : Bool). Carries (cond b (Swallows (objects_at store)) (handling table (objects_at store) m)) WentOn objects' error error opened opened) (sym over)
      (still, refl, refl))
