-- That an object leaves its number only where both sides have given it up.
use Rattle.std.proofs.Common.{◌≡◌, ◌≢◌, ◌⊎◌, ℕ, Bool, true, false, cond, eqb, eqb-true, List, [], ◌∷◌, ◌++◌, ◌+◌, ◌&&◌, Option, None, Some, is_some, Result, Ok, Err, MatchResult, refl, sym, ap, subst, ◌∙◌, true≢false}
use mathlib.Core.Logic.{inl, inr}
use Rattle.std.proofs.lemmas.Bool.{cases_eq}
use Rattle.std.proofs.lemmas.Option.{same_Some}
use Rattle.std.specs.Prelude.{MatchBool, MatchOption, option_map}
use Rattle.wl_wire.specs.declared.argument.Argument.{Argument}
use Rattle.wl_wire.specs.declared.argument.Argument.TheVariants as arg
use Rattle.wl_wire.specs.declared.argument.Token.{Token}
use Rattle.wl_wire.specs.declared.error.IoFault.{IoFault}
use Rattle.wl_wire.specs.declared.error.IoFault.TheVariants as fault
use Rattle.wl_wire.specs.declared.interface.InterfaceId.{InterfaceId}
use Rattle.wl_wire.specs.Argument.{WireArgument}
use Rattle.wl_wire.specs.Message.{WireMessage}
use Rattle.wl_wire.specs.MessageRows.{next_interface}
use Rattle.wl_wire.specs.Table.{InterfaceRow, MessageRow}
use Rattle.wl_link.proofs.Calls.Branches.{either_bool, either_option, either_result}
use Rattle.wl_link.proofs.Ids.StoreLaws.{removed_here, removed_other, rewritten_here, rewritten_other, stored_here, stored_other}
use Rattle.wl_link.specs.declared.object.Object.{Object}
use Rattle.wl_link.specs.Exchange.{Queue}
use Rattle.wl_link.specs.Identity.{Objects}
use Rattle.wl_link.specs.Link.{FilledBy, LinkState, count_of, counted_answer}
use Rattle.wl_link.specs.Puts.{lacks_memory}
use Rattle.wl_link.specs.Reader.{CarriesOut, Gives, Handled, ReaderState, Reads, ReadsAs, Received, Turn, Unread, Verdict, with_link}
use Rattle.wl_link.specs.Store.{Store, held, is_server_number, removed, rewritten, stored}
use Rattle.wl_client.specs.declared.error.EventError.{EventError}
use Rattle.wl_client.specs.declared.error.FlushError.{FlushError}
use Rattle.wl_client.specs.declared.error.RequestError.{RequestError}
use Rattle.wl_client.specs.declared.event.OpenEvent.{OpenEvent}
use Rattle.wl_client.specs.declared.event_fault.EventFault.{EventFault}
use Rattle.wl_client.specs.declared.event_fault.EventFault.TheVariants as wrong
use Rattle.wl_client.specs.declared.objects.Kept.{Kept}
use Rattle.wl_client.specs.declared.step.Step.{Step}
use Rattle.wl_client.specs.declared.step.Step.TheVariants as step
use Rattle.wl_client.specs.Events.{Converted, Converting, Outcome, Unreadable, Whole, Wrong, convert, convert_one, delete_event, deleted, deleted_at, display_event, error_event, error_of, going_on, is_valid_new, made_object, object_argument, start, vacated, with_new_argument, with_new_at, with_object_argument}
use Rattle.wl_client.specs.Finish.{Finishes, FlushEnds, SessionFlushed, after_destructor, core_finished, data_given, refusal, with_data_for, with_dead}
use Rattle.wl_client.specs.Handling.{Breaks, Handling, HandsOut, Swallows, event_of, handling, handling_by, objects_after, of_converted, of_display, of_event, opened_of, row_in}
use Rattle.wl_client.specs.Histories.{Called, Changed, Deed, Does, Grown, History}
use Rattle.wl_client.specs.Numbers.{DeletesId, HasOrLeft, IsDelete, KeepsNumber, LeavesNumber, NumberMoves, ReadsDelete, SomeTookDelete, TookDelete}
use Rattle.wl_client.specs.ObjectId.{IdParts}
use Rattle.wl_client.specs.Objects.{DataSet, DestroyedBy, ReclaimedBy, destroyable}
use Rattle.wl_client.specs.Reading.{NextEvent, client, core_after, event_content, faulted, freed_core, objects_in, reader_state_of, receives_allowed, starved_to}
use Rattle.wl_client.specs.ReadingEnds.{TurnLeads}
use Rattle.wl_client.specs.Requests.{Numbered, Requested, Sent, SentAs, SentWithChild, SessionMessage, Spec, Written, ended_by, error_after, new_child, number_of_new, request_check, session_content, wire_message, with_born, with_ended}
use Rattle.wl_client.specs.Session.{Core, SessionState, core_of, flagged, last_possible_serial, named, with_id_deleted, with_user_data}
use Rattle.wl_client.specs.Steps.{CallOf, Entry}
use Rattle.wl_client.proofs.Handling.{either_way}
use Rattle.wl_client.proofs.Freeing.{hands_freed}
use Rattle.wl_client.proofs.Plain.Calls.{named_destroyable}
use Rattle.wl_client.proofs.Plain.Naming.{names_so}
use Rattle.wl_client.proofs.Plain.Opening.{vacated_elsewhere}
use Rattle.wl_client.proofs.Plain.Reading.{carries}

none_some : {A : Type 0} {x : A} → None ≡ Some x → ⊥
none_some e = true≢false (sym (ap is_some e))

first_of : (a b : Bool) → (a && b) ≡ true → a ≡ true
first_of true b is = refl
first_of false b is = absurd (true≢false (sym is))

-- ---- what `delete_id` leaves of an object

module _ {U : Type 0} where
  abbrev left_of : Option (Object (Kept U)) → Option (Object (Kept U))
  left_of None = None
  left_of (Some x) = cond x.value.client_destroyed None (Some (with_id_deleted x))

  left_twice : (o : Option (Object (Kept U))) → left_of (left_of o) ≡ left_of o
  left_twice None = refl
  left_twice (Some x) = at x.value.client_destroyed refl
    where
      at : (b : Bool) → x.value.client_destroyed ≡ b → left_of (cond b None (Some (with_id_deleted x))) ≡ cond b None (Some (with_id_deleted x))
      at true over = refl
      at false live = ap (λ (b : Bool). let o : Option (Object (Kept U)) = cond b None (Some (with_id_deleted x)) in o) live

  left_here : (store : Store (Kept U)) (n : ℕ) → held (deleted store n) n ≡ left_of (held store n)
  left_here store n = at (held store n) refl
    where
      by : (x : Object (Kept U)) (b : Bool) → held (cond b (removed store n) (rewritten store n (with_id_deleted x))) n ≡ cond b None (Some (with_id_deleted x))
      by x true = removed_here store n n refl
      by x false = rewritten_here store n (with_id_deleted x) n refl

      at : (o : Option (Object (Kept U))) → held store n ≡ o → held (deleted_at store n o) n ≡ left_of o
      at None is = is
      at (Some x) is = by x x.value.client_destroyed

  left_elsewhere : (store : Store (Kept U)) (k n : ℕ) → n ≢ k → held (deleted store k) n ≡ held store n
  left_elsewhere store k n other = at (held store k)
    where
      by : (x : Object (Kept U)) (b : Bool) → held (cond b (removed store k) (rewritten store k (with_id_deleted x))) n ≡ held store n
      by x true = removed_other store k n other
      by x false = rewritten_other store k (with_id_deleted x) n other

      at : (o : Option (Object (Kept U))) → held (deleted_at store k o) n ≡ held store n
      at None = refl
      at (Some x) = by x x.value.client_destroyed

-- ---- a message, and a number of the client's range

module _ {U : Type 0} (n : ℕ) (of_client : is_server_number n ≡ false) where
  -- the number holds what it held
  abbrev Same : Store (Kept U) → Store (Kept U) → Type 0
  Same s t = held t n ≡ held s n

  -- a new object takes a number of the server's range
  made_elsewhere : (o : Objects (Kept U)) (k : ℕ) (x : Object (Kept U)) → is_valid_new o k ≡ true → Same o.store (stored (vacated o.store k) k x)
  made_elsewhere o k x valid =
      let other : n ≢ k = λ same. true≢false (sym (first_of (is_server_number k) _ valid) ∙ ap is_server_number (sym same) ∙ of_client) in
      stored_other (vacated o.store k) k x n other ∙ vacated_elsewhere o.store n k other

  module _ (version : ℕ) (destroyed : Bool) (first : Store (Kept U)) where
    abbrev SameByOne : Converted U → Type 0
    SameByOne (Ok next) = Same first next.1.objects.store
    SameByOne (Err w) = Unit {0}

    abbrev SameBy : Outcome U → Type 0
    SameBy (Whole c args) = Same first c.objects.store
    SameBy (Wrong w objects) = Same first objects.store

    same_by_one : (c : Converting U) (a : WireArgument) → Same first c.objects.store → SameByOne (convert_one version destroyed c a)
    same_by_one c (arg.Object k) so = by (object_argument c.objects.store (next_interface c.asked) k)
      where
        by : (r : Result IdParts EventFault) → SameByOne (with_object_argument c r)
        by (Ok id) = so
        by (Err w) = tt
    same_by_one c (arg.NewId k) so = new c.child
      where
        valid : (i : InterfaceId) (b : Bool) → is_valid_new c.objects k ≡ b
            → SameByOne (cond b (Ok (with_new_at version destroyed c k i)) (Err (wrong.InvalidNewId k i)))
        valid i false is = tt
        valid i true is = made_elsewhere c.objects k (made_object version destroyed i (c.objects.last_serial + 1)) is ∙ so

        new : (o : Option InterfaceId) → SameByOne (with_new_argument version destroyed c k o)
        new None = tt
        new (Some i) = valid i (is_valid_new c.objects k) refl
    same_by_one c _ so = so

    same_by_all : (c : Converting U) (done : List (Argument IdParts Token)) (args : List WireArgument) → Same first c.objects.store
        → SameBy (convert version destroyed c done args)
    same_by_all c done [] so = so
    same_by_all c done (a ∷ args) so =
        at (convert_one version destroyed c a) (same_by_one c a so) (λ next still. same_by_all next.1 (done ++ next.0 ∷ []) args still)
      where
        at : (r : Converted U) → SameByOne r
            → ((next : Argument IdParts Token × Converting U) → Same first next.1.objects.store
            → SameBy (convert version destroyed next.1 (done ++ next.0 ∷ []) args))
            → SameBy (going_on r c.objects (λ b next. convert version destroyed next (done ++ b ∷ []) args))
        at (Ok next) still again = again next still
        at (Err w) still again = so

  module _ (table : List InterfaceRow) (o : Objects (Kept U)) (m : WireMessage) where
    -- what the message makes of the number
    abbrev ByMessage : Handling U → Type 0
    ByMessage h = Same o.store (objects_after h).store ⊎ (IsDelete n m × (held (objects_after h).store n ≡ left_of (held o.store n)))

    deleted_by : m.sender ≡ 1 → m.opcode ≡ 1 → (args : List WireArgument) → m.args ≡ args → ByMessage (of_display table o (delete_event args))
    deleted_by sender one (arg.Uint k ∷ []) is =
        elim (cases_eq n k) [
          | inl same ↦
              inr (
                (sender, one, is ∙ ap (λ (i : ℕ). let args : List WireArgument = arg.Uint i ∷ [] in args) (sym same)),
                ap (λ (i : ℕ). held (deleted o.store i) n) (sym same) ∙ left_here o.store n,
              )
          | inr other ↦ inl (left_elsewhere o.store k n other)
        ]
    deleted_by sender one _ is = inl refl

    told_by : (args : List WireArgument) → ByMessage (of_display table o (error_event args))
    told_by (arg.Object k ∷ arg.Uint code ∷ arg.Str (Some text) ∷ []) = inl refl
    told_by _ = inl refl

    display_by : m.sender ≡ 1 → ByMessage (of_display table o (display_event m.opcode m.args))
    display_by sender = at (eqb m.opcode 0) (eqb m.opcode 1) refl
      where
        at : (a b : Bool) → eqb m.opcode 1 ≡ b → ByMessage (of_display table o (cond a (error_event m.args) (cond b (delete_event m.args) Unreadable)))
        at true b is = told_by m.args
        at false true is = deleted_by sender (eqb-true m.opcode 1 is) m.args refl
        at false false is = inl refl

    converted_by : (receiver : Object (Kept U)) (row : MessageRow) (outcome : Outcome U) → SameBy receiver.version receiver.value.client_destroyed o.store outcome
        → ByMessage (of_converted table o m receiver row outcome)
    converted_by receiver row (Wrong w objects) same = inl same
    converted_by receiver row (Whole c args) same = at receiver.value.client_destroyed
      where
        at : (b : Bool) → ByMessage (cond b (Swallows c.objects) (HandsOut (event_of m receiver args) (opened_of m receiver row c.created) c.objects))
        at true = inl same
        at false = inl same

    event_by : (receiver : Option (Object (Kept U))) (row : Option MessageRow) → ByMessage (of_event table o m receiver row)
    event_by (Some receiver) (Some row) =
        converted_by receiver row _ (same_by_all receiver.version receiver.value.client_destroyed o.store (start o row) [] m.args refl)
    event_by (Some receiver) None = inl refl
    event_by None row = inl refl

    handled_by : ByMessage (handling table o m)
    handled_by = at (eqb m.sender 1) refl
      where
        at : (b : Bool) → eqb m.sender 1 ≡ b
            → ByMessage (cond b (of_display table o (display_event m.opcode m.args)) (of_event table o m (held o.store m.sender) (row_in table (held o.store m.sender) m.opcode)))
        at true is = display_by (eqb-true m.sender 1 is)
        at false is = event_by (held o.store m.sender) (row_in table (held o.store m.sender) m.opcode)

    handled_by_either : (passes : Bool) → ByMessage (handling_by passes table o m)
    handled_by_either passes = either_way ByMessage passes table o m (inl refl) handled_by

-- ---- a reading

module _ {U : Type 0} where
  faulted_store : (c : Core U) (f : IoFault) → (faulted c f).store ≡ c.store
  faulted_store c fault.WouldBlock = refl
  faulted_store c fault.OutOfMemory = refl
  faulted_store c _ = refl

  -- with or without memory, the objects are as the message leaves them
  after_store : (c d : Core U) (h : Handling U) → (d ≡ core_after c h) ⊎ (d ≡ starved_to c h) → d.store ≡ (objects_after h).store
  after_store c d (Swallows o) (inl is) = ap (λ (e : Core U). e.store) is
  after_store c d (Swallows o) (inr is) = ap (λ (e : Core U). e.store) is
  after_store c d (HandsOut m event o) (inl is) = ap (λ (e : Core U). e.store) is
  after_store c d (HandsOut m event o) (inr is) = ap (λ (e : Core U). e.store) is
  after_store c d (Breaks e o) (inl is) = ap (λ (e : Core U). e.store) is
  after_store c d (Breaks e o) (inr is) = ap (λ (e : Core U). e.store) is

split_result : {A E : Type 0} {P : A → Type 0} {Q : E → Type 0} (r : Result A E) → MatchResult r P Q → ((x : A) × (r ≡ Ok x) × P x) ⊎ ((e : E) × (r ≡ Err e) × Q e)
split_result (Ok x) p = inl (x, refl, p)
split_result (Err e) q = inr (e, refl, q)

module _ {T U : Type 0} (sends : T → Queue → Result ℕ IoFault → T → Type 0) (receives : T → ℕ → Result Queue IoFault → T → Type 0)
    (n : ℕ) (of_client : is_server_number n ≡ false) where
  abbrev at_number : ReaderState T (Core U) → Option (Object (Kept U))
  at_number p = held p.core.store n

  -- the number holds what it held; or its id was deleted, and it holds what that leaves
  abbrev ByReading : ReaderState T (Core U) → List Turn → ReaderState T (Core U) → Type 0
  ByReading start turns end =
      (at_number end ≡ at_number start) ⊎ (SomeTookDelete sends receives n start turns × (at_number end ≡ left_of (at_number start)))

  abbrev ByTurn : Turn → ReaderState T (Core U) → ReaderState T (Core U) → Type 0
  ByTurn t start mid = (at_number mid ≡ at_number start) ⊎ (TookDelete sends receives n t start × (at_number mid ≡ left_of (at_number start)))

  by_then : (t : Turn) (turns : List Turn) (start mid end : ReaderState T (Core U)) → TurnLeads sends receives t start mid → ByTurn t start mid
      → ByReading mid turns end → ByReading start (t ∷ turns) end
  by_then t turns start mid end leads (inl same) (inl still) = inl (still ∙ same)
  by_then t turns start mid end leads (inl same) (inr (some, is)) = inr (inr (mid, leads, some), is ∙ ap left_of same)
  by_then t turns start mid end leads (inr (took, is)) (inl still) = inr (inl took, still ∙ is)
  by_then t turns start mid end leads (inr (took, is)) (inr (some, again)) = inr (inl took, again ∙ ap left_of is ∙ left_twice (at_number start))

  reading_by : (left : ℕ) (start : ReaderState T (Core U)) (turns : List Turn) (out : Gives SessionMessage) (end : ReaderState T (Core U))
      → Reads sends client receives left start turns out end → ByReading start turns end
  reading_by left start [] out end (same, ends) = inl (ap at_number same)
  reading_by left start (Received got ∷ turns) out end (on, lacks, (k, is, (link, filled, room, h))) =
      elim (split_result (counted_answer (count_of got)) h) [
        | inl (u, ok, more) ↦
            by_then (Received got) turns start (with_link start link) end
            (link, subst (λ (c : Result (Unit {0}) IoFault). FilledBy receives start.link got c link) ok filled, refl) (inl refl)
            (reading_by k (with_link start link) turns out end more)
        | inr (f, failed, (over, is_out, same)) ↦ inl (ap at_number same ∙ ap (λ store. held store n) (faulted_store start.core f))
      ]
  reading_by left start (Handled es ∷ turns) out end (on, (v, link, first, lacked, mid, rest, (m, read, is), by, split, more)) =
      let h = handling_by start.core.passes_over start.core.table (objects_in start.core) m in
      let came = carries sends receives (freed_core start.core m h) h link es first lacked mid (subst (λ (w : Verdict (Core U) SessionMessage). CarriesOut sends client w link es first lacked mid) is by) in
      by_then (Handled es) turns start mid end (v, link, first, lacked, (m, read, is), by)
      (turned m link read (after_store (freed_core start.core m h) mid.core h came.1) (handled_by_either n of_client start.core.table (objects_in start.core) m start.core.passes_over))
      (reading_by left mid turns rest end more)
    where
      turned : (m : WireMessage) (link : LinkState T) → ReadsAs sends client start (Ok m) link → mid.core.store ≡ (objects_after (handling_by start.core.passes_over start.core.table (objects_in start.core) m)).store
          → ByMessage n of_client start.core.table (objects_in start.core) m (handling_by start.core.passes_over start.core.table (objects_in start.core) m) → ByTurn (Handled es) start mid
      turned m link read is (inl same) = inl (ap (λ store. held store n) is ∙ same)
      turned m link read is (inr (delete, same)) = inr ((m, link, read, delete), ap (λ store. held store n) is ∙ same)
  reading_by left start (Unread es ∷ turns) out end (on, (v, link, first, lacked, mid, rest, (read, same, is), by, split, more)) =
      let h : Handling U = Breaks (error_of start.core.table wrong.Malformed) (objects_in start.core) in
      let came = carries sends receives start.core h link es first lacked mid (subst (λ (w : Verdict (Core U) SessionMessage). CarriesOut sends client w link es first lacked mid) is by) in
      by_then (Unread es) turns start mid end (v, link, first, lacked, (read, same, is), by)
      (inl (ap (λ store. held store n) (after_store start.core mid.core h came.1)))
      (reading_by left mid turns rest end more)

  next_event_by : (s : SessionState T U) (answer : Result SessionMessage EventError) (refused : Bool) (after : SessionState T U) → NextEvent sends receives s answer refused after
      → (held after.store n ≡ held s.store n) ⊎ (ReadsDelete sends receives n s after × (held after.store n ≡ left_of (held s.store n)))
  next_event_by s answer refused after h =
      elim (either_option s.error h) [
        | inr (e, some, (is, calm, same)) ↦ inl (ap (λ (t : SessionState T U). held t.store n) same)
        | inl (none, g) ↦
            elim (either_option s.open_event g) [
              | inr (event, some, (is, calm, same)) ↦ inl (ap (λ (t : SessionState T U). held t.store n) same)
              | inl (closed, (turns, out, reads, is, gave, calm)) ↦ by turns out reads (reading_by receives_allowed (reader_state_of s) turns out (reader_state_of after) reads)
            ]
      ]
    where
      by : (turns : List Turn) (out : Gives SessionMessage) → Reads sends client receives receives_allowed (reader_state_of s) turns out (reader_state_of after)
          → ByReading (reader_state_of s) turns (reader_state_of after)
          → (held after.store n ≡ held s.store n) ⊎ (ReadsDelete sends receives n s after × (held after.store n ≡ left_of (held s.store n)))
      by turns out reads (inl same) = inl same
      by turns out reads (inr (some, is)) = inr ((turns, out, reads, some), is)

-- ---- the other calls

module _ {U : Type 0} (n : ℕ) where
  -- an object keeps its number, and whether its id is deleted; a new one has an id that is not
  abbrev KeptAt : Option (Object (Kept U)) → Option (Object (Kept U)) → Type 0
  KeptAt None p = (y : Object (Kept U)) → p ≡ Some y → y.value.id_deleted ≡ false
  KeptAt (Some x) p = (y : Object (Kept U)) × (p ≡ Some y) × (y.value.serial ≡ x.value.serial) × (y.value.id_deleted ≡ x.value.id_deleted)

  abbrev Keeps : Store (Kept U) → Store (Kept U) → Type 0
  Keeps s t = KeptAt (held s n) (held t n)

  kept_same : (o p : Option (Object (Kept U))) → p ≡ o → KeptAt o p
  kept_same None p same = λ y is. absurd (none_some (sym same ∙ is))
  kept_same (Some x) p same = (x, same, refl, refl)

  kept_then : (a b c : Option (Object (Kept U))) → KeptAt a b → KeptAt b c → KeptAt a c
  kept_then None None c new more = more
  kept_then None (Some y) c new (z, is, same, flag) = λ w here. ap (λ (v : Object (Kept U)). v.value.id_deleted) (same_Some w z (sym here ∙ is)) ∙ flag ∙ new y refl
  kept_then (Some x) None c (y, is, same, flag) more = absurd (none_some is)
  kept_then (Some x) (Some b) c (y, is, same, flag) (z, there, still, flag') =
      let e = same_Some b y is in
      (z, there, still ∙ ap (λ (v : Object (Kept U)). v.value.serial) e ∙ same, flag' ∙ ap (λ (v : Object (Kept U)). v.value.id_deleted) e ∙ flag)

  keeps_rewritten : (s : Store (Kept U)) (k : ℕ) (x y : Object (Kept U)) → held s k ≡ Some x → y.value.serial ≡ x.value.serial
      → y.value.id_deleted ≡ x.value.id_deleted → Keeps s (rewritten s k y)
  keeps_rewritten s k x y there same flag =
      elim (cases_eq n k) [
        | inl e ↦ subst (λ o. KeptAt o (held (rewritten s k y) n)) (sym (ap (held s) e ∙ there)) (y, rewritten_here s k y n e, same, flag)
        | inr other ↦ kept_same (held s n) (held (rewritten s k y) n) (rewritten_other s k y n other)
      ]

  keeps_stored : (s : Store (Kept U)) (k : ℕ) (y : Object (Kept U)) → held s k ≡ None → y.value.id_deleted ≡ false → Keeps s (stored s k y)
  keeps_stored s k y none flag =
      elim (cases_eq n k) [
        | inl e ↦
            subst (λ o. KeptAt o (held (stored s k y) n)) (sym (ap (held s) e ∙ none))
            (λ w here. ap (λ (v : Object (Kept U)). v.value.id_deleted) (same_Some w y (sym here ∙ stored_here s k y n e)) ∙ flag)
        | inr other ↦ kept_same (held s n) (held (stored s k y) n) (stored_other s k y n other)
      ]

  -- ---- the end of an event

  dead : (c : Core U) (k : ℕ) (o : Option (Object (Kept U))) → ((x : Object (Kept U)) → o ≡ Some x → held c.store k ≡ Some x) → Keeps c.store (with_dead c k o).store
  dead c k None there = kept_same (held c.store n) (held c.store n) refl
  dead c k (Some x) there = keeps_rewritten c.store k x (flagged true x) (there x refl) refl refl

  destructor : (c : Core U) (event : OpenEvent) → Keeps c.store (after_destructor c event).store
  destructor c event = at event.is_destructor
    where
      at : (b : Bool) → Keeps c.store (cond b (with_dead c event.sender.number (named c.store event.sender)) c).store
      at true = dead c event.sender.number (named c.store event.sender) (λ x is. (names_so c.store event.sender x is).holds)
      at false = kept_same (held c.store n) (held c.store n) refl

  gives : (c : Core U) (created : Option IdParts) (u : Option U) → Keeps c.store (with_data_for c created u).store
  gives c None u = kept_same (held c.store n) (held c.store n) refl
  gives c (Some id) None = kept_same (held c.store n) (held c.store n) refl
  gives c (Some id) (Some u) = at (named c.store id) refl
    where
      at : (o : Option (Object (Kept U))) → named c.store id ≡ o → Keeps c.store (data_given c.store id.number o u)
      at None is = kept_same (held c.store n) (held c.store n) refl
      at (Some x) is = keeps_rewritten c.store id.number x (with_user_data u x) (names_so c.store id x is).holds refl refl

module _ {T U : Type 0} (n : ℕ) (s after : SessionState T U) where
  same_store : (t : SessionState T U) → after ≡ t → t.store ≡ s.store → Keeps n s.store after.store
  same_store t same is = kept_same n (held s.store n) (held after.store n) (ap (λ (a : SessionState T U). held a.store n) same ∙ ap (λ store. held store n) is)

  comes_to : (t : SessionState T U) → after ≡ t → Keeps n s.store t.store → Keeps n s.store after.store
  comes_to t same keeps = subst (λ (a : SessionState T U). Keeps n s.store a.store) (sym same) keeps

  sets : (id : IdParts) (u : U) (answer : _) → DataSet s id u answer after → Keeps n s.store after.store
  sets id u answer h =
      elim (either_option (named s.store id) h) [
        | inl (none, (is, same)) ↦ same_store s same refl
        | inr (x, some, (is, same)) ↦ comes_to _ same (keeps_rewritten n s.store id.number x (with_user_data u x) (names_so s.store id x some).holds refl refl)
      ]

  destroys : (id : IdParts) (answer : _) → DestroyedBy s id answer after → Keeps n s.store after.store
  destroys id answer h =
      elim (either_option (destroyable s id) h) [
        | inl (none, (is, same)) ↦ same_store s same refl
        | inr (x, some, inr (is, same, has_data)) ↦ same_store s same refl
        | inr (x, some, inl (is, same)) ↦
            comes_to _ same (keeps_rewritten n s.store id.number x (flagged true x) (names_so s.store id x (named_destroyable s id x some)).holds refl refl)
      ]

  flush_ends : (r : Result (Unit {0}) IoFault) (t : SessionState T U) (answer : Result (Unit {0}) FlushError) → t.store ≡ s.store → FlushEnds t r answer after → Keeps n s.store after.store
  flush_ends (Ok u) t answer still (is, same) = same_store t same still
  flush_ends (Err fault.WouldBlock) t answer still (is, same) = same_store t same still
  flush_ends (Err fault.OutOfMemory) t answer still (is, same) = same_store t same still
  flush_ends (Err fault.Pipe) t answer still (is, same) = same_store _ same still
  flush_ends (Err fault.TooBig) t answer still (is, same) = same_store _ same still
  flush_ends (Err fault.Proto) t answer still (is, same) = same_store _ same still
  flush_ends (Err fault.InvalidInput) t answer still (is, same) = same_store _ same still
  flush_ends (Err (fault.Other k)) t answer still (is, same) = same_store _ same still

  flushes : (sends : T → Queue → Result ℕ IoFault → T → Type 0) (answer : Result (Unit {0}) FlushError) → SessionFlushed sends s answer after → Keeps n s.store after.store
  flushes sends answer h =
      elim (either_option s.error h) [
        | inl (none, (flushed, link, by, ends)) ↦ flush_ends flushed (record s { link = link }) answer refl ends
        | inr (e, some, (is, same)) ↦ same_store s same refl
      ]

  finishes : (u : Option U) (answer : _) → Finishes s u answer after → Keeps n s.store after.store
  finishes u answer h =
      elim (either_option s.open_event h) [
        | inl (none, (is, same)) ↦ same_store s same refl
        | inr (event, some, g) ↦
            elim (either_option (refusal event.created u) g) [
              | inr (e, why, (is, same)) ↦ same_store s same refl
              | inl (none, inr (ends_sender, (is, same))) ↦ same_store s same refl
              | inl (none, inl (is, same)) ↦ comes_to _ same (ended event)
            ]
      ]
    where
      ended : (event : OpenEvent) → Keeps n s.store (core_finished (core_of s) event u).store
      ended event =
          let c : Core U = record (core_of s) { open_event = None } in
          kept_then n (held s.store n) (held (after_destructor c event).store n) (held (with_data_for (after_destructor c event) event.created u).store n)
          (destructor n c event) (gives n (after_destructor c event) event.created u)

-- ---- a request

module _ {T U : Type 0} (n : ℕ) where
  -- a new object takes a number that holds none; one that ends has its number
  abbrev IsNew : SessionState T U → Option (Numbered U) → Type 0
  IsNew s None = Unit {0}
  IsNew s (Some new) = (held s.store new.0 ≡ None) × (new.1.value.id_deleted ≡ false)

  abbrev IsThere : SessionState T U → Option (Numbered U) → Type 0
  IsThere s None = Unit {0}
  IsThere s (Some o) = held s.store o.0 ≡ Some o.1

  born : (s : SessionState T U) (new : Option (Numbered U)) → IsNew s new → Keeps n s.store (with_born s new).store
  born s None fresh = kept_same n (held s.store n) (held s.store n) refl
  born s (Some (k, x)) (none, flag) = keeps_stored n s.store k x none flag

  ended : (s : SessionState T U) (o : Option (Numbered U)) → IsThere s o → Keeps n s.store (with_ended s o).store
  ended s None there = kept_same n (held s.store n) (held s.store n) refl
  ended s (Some (k, x)) there = keeps_rewritten n s.store k x (flagged true x) there refl refl

  there_still : (s : SessionState T U) (new o : Option (Numbered U)) → IsNew s new → IsThere s o → IsThere (with_born s new) o
  there_still s new None fresh there = tt
  there_still s None (Some (k, x)) fresh there = there
  there_still s (Some (j, y)) (Some (k, x)) (none, flag) there = stored_other s.store j y k (λ same. none_some (sym none ∙ ap (held s.store) (sym same) ∙ there)) ∙ there

  module _ (sends : T → Queue → Result ℕ IoFault → T → Type 0) (s : SessionState T U) (m : SessionMessage) (answer : Result IdParts RequestError) (after : SessionState T U) where
    written : (new o : Option (Numbered U)) → IsNew s new → IsThere s o → Written sends s (wire_message (number_of_new new) m) new o answer after → Keeps n s.store after.store
    written new o fresh there (w, link, by, end) =
        elim (either_bool (lacks_memory w) end) [
          | inl (is, same) ↦ same_store n s after _ same refl
          | inr (is, same) ↦
              let now : SessionState T U = record s { link = link; error = error_after s.error w } in
              comes_to n s after (with_ended (with_born now new) o) same
              (kept_then n (held s.store n) (held (with_born now new).store n) (held (with_ended (with_born now new) o).store n)
              (born now new (new_now now refl new fresh)) (ended (with_born now new) o (there_still now new o (new_now now refl new fresh) (there_now now refl o there))))
        ]
      where
        new_now : (now : SessionState T U) → s.store ≡ now.store → (new : Option (Numbered U)) → IsNew s new → IsNew now new
        new_now now same None fresh = tt
        new_now now same (Some (k, x)) fresh = (ap (λ store. held store k) (sym same) ∙ fresh.0, fresh.1)

        there_now : (now : SessionState T U) → s.store ≡ now.store → (o : Option (Numbered U)) → IsThere s o → IsThere now o
        there_now now same None there = tt
        there_now now same (Some (k, x)) there = ap (λ store. held store k) (sym same) ∙ there

    sent : (new o : Option (Numbered U)) → IsNew s new → IsThere s o → Sent sends s m new o answer after → Keeps n s.store after.store
    sent new o fresh there (inl (is, same, asks)) = same_store n s after s same refl
    sent new o fresh there (inr w) = written new o fresh there w

    sent_with_child : (child : Spec) (u : U) (o : Option (Numbered U)) → IsThere s o → SentWithChild sends s m child u o answer after → Keeps n s.store after.store
    sent_with_child child u o there (inl (full, is, same)) = same_store n s after s same refl
    sent_with_child child u o there (inr (k, least, end)) =
        elim (either_bool (eqb s.last_serial last_possible_serial) end) [
          | inl (is, same) ↦ same_store n s after s same refl
          | inr w ↦ sent (Some (k, new_child s child u)) o (least.absent, refl) there w
        ]

    sent_as : (child : Option Spec) (u : Option U) (o : Option (Numbered U)) → IsThere s o → SentAs sends s m child u o answer after → Keeps n s.store after.store
    sent_as None u o there w = sent None o tt there w
    sent_as (Some child) None o there w = absurd w
    sent_as (Some child) (Some u) o there w = sent_with_child child u o there w

    ended_there : (b : Bool) → IsThere s (ended_by s.store m b)
    ended_there false = tt
    ended_there true = at (named s.store m.sender) refl
      where
        at : (o : Option (Object (Kept U))) → named s.store m.sender ≡ o → IsThere s (option_map (λ x. (m.sender.number, x)) o)
        at None is = tt
        at (Some x) is = (names_so s.store m.sender x is).holds

    requests : (u : Option U) (spec : Option Spec) → Requested sends s m u spec answer after → Keeps n s.store after.store
    requests u spec h =
        elim (either_result (request_check s.table s.store m (is_some u) spec) h) [
          | inl (g, w) ↦ sent_as g.child u (ended_by s.store m g.is_destructor) (ended_there g.is_destructor) w
          | inr (e, (is, same)) ↦ same_store n s after s same refl
        ]

-- ---- a deed

module _ {T U : Type 0} (sends : T → Queue → Result ℕ IoFault → T → Type 0) (receives : T → ℕ → Result Queue IoFault → T → Type 0)
    (n : ℕ) (of_client : is_server_number n ≡ false) where
  module _ (s : SessionState T U) (d : Deed T U) (after : SessionState T U) where
    quiet : Keeps n s.store after.store → NumberMoves sends receives n s d after
    quiet = at (held s.store n)
      where
        at : (o : Option (Object (Kept U))) → KeptAt n o (held after.store n)
            → MatchOption o ((y : Object (Kept U)) → held after.store n ≡ Some y → y.value.id_deleted ≡ false)
            (λ x. KeepsNumber sends receives n x s d after ⊎ LeavesNumber sends receives n x s d after)
        at None new = new
        at (Some x) (y, is, same, flag) = inl (y, is, same, λ was. inl (sym flag ∙ was))

    -- its id was deleted
    loses : DeletesId sends receives n s d after → held after.store n ≡ left_of (held s.store n) → NumberMoves sends receives n s d after
    loses deletes = at (held s.store n)
      where
        by : (x : Object (Kept U)) (b : Bool) → x.value.client_destroyed ≡ b → held after.store n ≡ cond b None (Some (with_id_deleted x))
            → KeepsNumber sends receives n x s d after ⊎ LeavesNumber sends receives n x s d after
        by x true over is = inr (is, over, inr deletes)
        by x false live is = inl (with_id_deleted x, is, refl, λ was. inr deletes)

        at : (o : Option (Object (Kept U))) → held after.store n ≡ left_of o
            → MatchOption o ((y : Object (Kept U)) → held after.store n ≡ Some y → y.value.id_deleted ≡ false)
            (λ x. KeepsNumber sends receives n x s d after ⊎ LeavesNumber sends receives n x s d after)
        at None is = λ y there. absurd (none_some (sym is ∙ there))
        at (Some x) is = by x x.value.client_destroyed refl is

    -- it is reclaimed
    reclaims : (id : IdParts) (answer : _) → ReclaimedBy s id answer after → NumberMoves sends receives n s d after
    reclaims id answer h =
        elim (either_option (named s.store id) h) [
          | inl (none, (is, same)) ↦ quiet (same_store n s after s same refl)
          | inr (x, some, end) ↦ by x (names_so s.store id x some).holds x.value.client_destroyed x.value.id_deleted refl refl end
        ]
      where
        left : (x : Object (Kept U)) → held s.store id.number ≡ Some x → x.value.client_destroyed ≡ true → x.value.id_deleted ≡ true
            → after ≡ record s { store = removed s.store id.number } → NumberMoves sends receives n s d after
        left x there over flag same =
            elim (cases_eq n id.number) [
              | inl e ↦
                  subst (λ (o : Option (Object (Kept U))). MatchOption o ((y : Object (Kept U)) → held after.store n ≡ Some y → y.value.id_deleted ≡ false)
                  (λ x. KeepsNumber sends receives n x s d after ⊎ LeavesNumber sends receives n x s d after))
                  (sym (ap (held s.store) e ∙ there))
                  (inr (ap (λ (a : SessionState T U). held a.store n) same ∙ removed_here s.store id.number n e, over, inl flag))
              | inr other ↦
                  quiet (kept_same n (held s.store n) (held after.store n) (ap (λ (a : SessionState T U). held a.store n) same ∙ removed_other s.store id.number n other))
            ]

        by : (x : Object (Kept U)) → held s.store id.number ≡ Some x → (a b : Bool) → x.value.client_destroyed ≡ a → x.value.id_deleted ≡ b
            → MatchBool (a && b) ((answer ≡ Ok tt) × (after ≡ record s { store = removed s.store id.number })) ((answer ≡ Err _) × (after ≡ s))
            → NumberMoves sends receives n s d after
        by x there true true over flag (is, same) = left x there over flag same
        by x there true false over flag (is, same) = quiet (same_store n s after s same refl)
        by x there false b live flag (is, same) = quiet (same_store n s after s same refl)

  -- a call
  called : (s : SessionState T U) (e : Entry U) (after : SessionState T U) (call : Step U) → e.step ≡ call → CallOf sends receives s call e.answer e.refused after
      → NumberMoves sends receives n s (Called e) after
  called s e after (step.SetData id u) is (r, a, calm, h) = quiet s (Called e) after (sets n s after id u r h)
  called s e after (step.DestroyObject id) is (r, a, calm, h) = quiet s (Called e) after (destroys n s after id r h)
  called s e after (step.Reclaim id) is (r, a, calm, h) = reclaims s (Called e) after id r h
  called s e after (step.SendRequest m u spec) is (r, a, calm, h) = quiet s (Called e) after (requests n sends s (session_content m) r after u spec h)
  called s e after step.Flush is (r, a, calm, h) = quiet s (Called e) after (flushes n s after sends r h)
  called s e after step.NextEvent is (r, a, h) = at (next_event_by sends receives n of_client s (event_content r) e.refused after h)
    where
      at : (held after.store n ≡ held s.store n) ⊎ (ReadsDelete sends receives n s after × (held after.store n ≡ left_of (held s.store n)))
          → NumberMoves sends receives n s (Called e) after
      at (inl same) = quiet s (Called e) after (kept_same n (held s.store n) (held after.store n) same)
      at (inr (reads, left)) = loses s (Called e) after (is, reads) left
  called s e after (step.FinishEvent u) is (r, a, calm, h) = quiet s (Called e) after (finishes n s after u r h)
  called s e after (step.Fail f) is (a, calm, same) = quiet s (Called e) after (same_store n s after _ same refl)
  called s e after step.DispatchInnerQueue is (a, calm, same) = quiet s (Called e) after (same_store n s after s same refl)
  called s e after (step.SetMaxBufferSize limit) is (a, calm, (link, set, same)) = quiet s (Called e) after (same_store n s after _ same refl)
  called s e after (step.PassOverUnknownSenders passes) is (a, calm, same) = quiet s (Called e) after (same_store n s after _ same refl)
  called s e after step.TakeNotes is (notes, a, calm, taken, same) = quiet s (Called e) after (same_store n s after _ same refl)
  called s e after (step.KeepFreed keeps) is (a, calm, same) = quiet s (Called e) after (same_store n s after _ same refl)
  called s e after step.NextFreed is (id, a, calm, h) = quiet s (Called e) after (same_store n s after _ (hands_freed s id after h).0 refl)
  called s e after _ is h = absurd h

  pub number_moves : (s : SessionState T U) (d : Deed T U) (after : SessionState T U) → Does (CallOf sends receives) s d after → NumberMoves sends receives n s d after
  number_moves s (Called e) after by = called s e after e.step refl by
  number_moves s (Changed t) after same = quiet s (Changed t) after (same_store n s after _ same refl)
  number_moves s (Grown growth answer) after (answers, same) = quiet s (Grown growth answer) after (same_store n s after _ same refl)

  -- ---- a history

  pub has_or_left : (s : SessionState T U) (deeds : List (Deed T U)) (after : SessionState T U) → History (CallOf sends receives) s deeds after
      → (x : Object (Kept U)) → held s.store n ≡ Some x → HasOrLeft sends receives n x s deeds after
  has_or_left s [] after same x there = inl (x, ap (λ (a : SessionState T U). held a.store n) same ∙ there, refl)
  has_or_left s (d ∷ deeds) after (mid, by, leads) x there =
      at (subst (λ (o : Option (Object (Kept U))). MatchOption o ((y : Object (Kept U)) → held mid.store n ≡ Some y → y.value.id_deleted ≡ false)
      (λ x. KeepsNumber sends receives n x s d mid ⊎ LeavesNumber sends receives n x s d mid)) there (number_moves s d mid by))
      (λ y is. has_or_left mid deeds after leads y is)
    where
      later : (y : Object (Kept U)) → y.value.serial ≡ x.value.serial → HasOrLeft sends receives n y mid deeds after → HasOrLeft sends receives n x s (d ∷ deeds) after
      later y same (inl (z, is, still)) = inl (z, is, still ∙ same)
      later y same (inr left) = inr (record {
        earlier = d ∷ left.earlier;
        deed = left.deed;
        later = left.later;
        split = ap (λ (all : List (Deed T U)). d ∷ all) left.split;
        before = left.before;
        after = left.after;
        leads = (mid, by, left.leads);
        does = left.does;
        goes_on = left.goes_on;
        object = left.object;
        holds = left.holds;
        same = left.same ∙ same;
        leaves = left.leaves;
      })

      at : KeepsNumber sends receives n x s d mid ⊎ LeavesNumber sends receives n x s d mid
          → ((y : Object (Kept U)) → held mid.store n ≡ Some y → HasOrLeft sends receives n y mid deeds after) → HasOrLeft sends receives n x s (d ∷ deeds) after
      at (inl (y, is, same, flag)) again = later y same (again y is)
      at (inr leaves) again = inr (record {
        earlier = [];
        deed = d;
        later = deeds;
        split = refl;
        before = s;
        after = mid;
        leads = refl;
        does = by;
        goes_on = leads;
        object = x;
        holds = there;
        same = refl;
        leaves = leaves;
      })
