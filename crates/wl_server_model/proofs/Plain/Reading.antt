-- A reading of one client.
use Rattle.std.proofs.Common.{◌≡◌, ℕ, Bool, true, false, List, ◌++◌, append-nil, Option, Some, is_some, Result, Err, refl, sym, ap, subst, ◌∙◌, arith, true≢false, cond, [], None, ◌≤◌, eqb, eqb-true, IsSome}
use mathlib.Core.Logic.{inl, inr}
use Rattle.std.specs.Prelude.{◌⊎◌, IsSome, min, option_map, nat_lt, ◌==◌}
use Rattle.wl_wire.specs.declared.error.IoFault.{IoFault}
use Rattle.wl_wire.specs.declared.error.IoFault.TheVariants as fault
use Rattle.wl_link.proofs.Calls.Branches.{either_option}
use Rattle.wl_link.specs.Exchange.{Queue}
use Rattle.wl_wire.specs.MessageRows.{request_row}
use Rattle.wl_link.specs.Reader.{ReaderState, Turn, handled_in, Gives, Reads, Verdict}
use Rattle.wl_link.specs.Store.{held, Store, removed}
use Rattle.wl_server_client.specs.declared.error.ActionError.{ActionError}
use Rattle.wl_server_client.specs.declared.error.ActionError.TheVariants.{Io, ActionOpen}
use Rattle.wl_server_client.specs.declared.reading.action.Action.{Action}
use Rattle.wl_server_client.specs.declared.reading.action.Reading.{Reading}
use Rattle.wl_server_model.specs.declared.step.Reply.TheVariants as reply
use Rattle.wl_server_model.specs.declared.step.Step.TheVariants as step
use Rattle.wl_server_model.specs.Backend.{BackendState, Calls}
use Rattle.wl_server_client.specs.Deeds.{Bind, Deed, Handed, Registry, Request, notes_in}
use Rattle.wl_server_client.specs.Ids.{ClientParts, IdParts, same_client}
use Rattle.wl_server_client.specs.Part.{Part, fresh_object, id_at, named, id_of, serial_of}
use Rattle.wl_server_model.specs.PartStep.{Asked, World, around}
use Rattle.wl_server_model.specs.Steps.{Makes}
use Rattle.wl_server_model.specs.Plain.{client_in, object_in}
use Rattle.wl_server_model.specs.Plain.Reading.{IsHandedOut, IsOld, OpenReadAs, ReadAs, ReadingMemory, ReadsClient, ReadsWithin}
use Rattle.wl_server_client.specs.Reading.{Around, NextAction, action_content, answered, new_reading, read_on, binds, breaks, converted, garbled, hands_registry, other_request, server, registers, syncs, unread}
use Rattle.wl_server_model.specs.ReadingEnds.{ComesOfLast, EndsForAReason, ReadingEnds}
use Rattle.wl_server_model.specs.Server.{Seen, seen}
use Rattle.wl_server_client.specs.Telling.{Core, end_deeds, part_of, reader_part, Told, closed_down, objects_in, core_of}
use Rattle.wl_server_model.proofs.Dispatches.Receiving.{reading_bounded}
use Rattle.wl_server_model.proofs.Plain.Base.{Change, IsOfOne, became, names_stay, none_and_some, not_stored, nothing_new, of_one, of_own, one_of, one_value, part_of_call, refine, same_is, split_bool, stored_stay, when_false}
use Rattle.wl_server_model.proofs.Plain.ReadingEnds.{MemoryOf, reading_ends, reading_memory, notes_of_reading, either_request}
use Rattle.wl_wire.specs.Message.{WireMessage}
use Rattle.wl_wire.specs.Table.{MessageRow, callback_id, registry_id}
use Rattle.wl_link.specs.declared.object.Object.{Object}
use Rattle.wl_server_client.specs.declared.objects.Kept.{Kept}
use Rattle.wl_server_client.specs.declared.reading.violation.Violation.{Violation}
use Rattle.wl_server_client.specs.Requests.{Outcome, convert, start, Whole, Wrong, is_valid_new, made_object, with_made}
use Rattle.wl_server_model.proofs.OverRuns.Announced.RequestCases.{request_case}
use Rattle.std.proofs.lemmas.Bool.{ne_eqb}
use Rattle.wl_wire.specs.declared.interface.InterfaceId.{InterfaceId}
use Rattle.wl_link.proofs.Ids.StoreLaws.{held_removed, held_stored}
use Rattle.wl_link.specs.Identity.{Objects, named_in}
use Rattle.wl_link.proofs.Readings.RespectLaws.{reads_respect}
use Rattle.wl_link.specs.Respect as respect
use Rattle.wl_server_model.proofs.OverRuns.Moves.MovesOfRequests.{Came, converts, valid_new}

-- ---- what ids name after a reading: what they named, but for those that it made

module _ {U : Type 0} where
  -- ---- what ids name

  abbrev pub Old : Objects (Kept U) → IdParts → Type 0
  Old o id = IsSome (named o.store id) ⊎ (id.serial ≤ o.last_serial)

  pub record IdsStay (a b : Objects (Kept U)) : Type 0 where
    pub serials : a.last_serial ≤ b.last_serial
    pub ids : (id : IdParts) → Old a id → named b.store id ≡ named a.store id

  ids_same : (a : Objects (Kept U)) → IdsStay a a
  ids_same a = record { serials = omega arith; ids = λ id old. refl }

  -- what the id names where its number holds this
  abbrev names_at : IdParts → Option (Object (Kept U)) → Option (Object (Kept U))
  names_at id o = cond (id.number == 0) None (named_in serial_of (id_of id) o)

  -- one number of a store was changed
  module _ (before after : Store (Kept U)) (n : ℕ) (new : Option (Object (Kept U)))
      (holds : (m : ℕ) → held after m ≡ cond (eqb m n) new (held before m)) (id : IdParts) where
    by_number : (id.number ≡ n → names_at id new ≡ names_at id (held before n)) → named after id ≡ named before id
    by_number there = grind (arith, eqb, eqb-true)

  -- ---- a new object

  module _ (a : Objects (Kept U)) (n : ℕ) (i : InterfaceId) (version : ℕ) (valid : is_valid_new a n ≡ true) where
    none_at : (id : IdParts) → names_at id (held a.store n) ≡ None
    none_at id = ap (names_at id) (valid_new a n valid).0 ∙ (grind (arith, id.number == 0))

    ids_by_new : IdsStay a (with_made a n i version)
    ids_by_new = grind (arith, by_number, with_made, made_object, held_stored, ne_eqb, none_at, true≢false, is_some)

    -- it is gone again at once
    ids_by_brief : IdsStay a (record (with_made a n i version) { store = removed (with_made a n i version).store n })
    ids_by_brief = record {
      serials = omega arith;
      ids = λ id old.
          by_number a.store (removed (with_made a n i version).store n) n None holds id (λ same. (grind (arith, id.number == 0)) ∙ sym (none_at id));
    }
      where
        holds : (m : ℕ) → held (removed (with_made a n i version).store n) m ≡ cond (eqb m n) None (held a.store m)
        holds m = held_removed (with_made a n i version).store n m ∙ (grind (arith, held_stored, made_object, cond, held, eqb m n))

-- ---- a verdict

module _ {U G C : Type 0} (a : Around G C) (c : Core U C) where
  -- whatever becomes of the verdict, each id but those that it made names what it named
  abbrev Keeps : Verdict (Core U C) (Told U) → Type 0
  Keeps v = respect.Keeps (server a) (λ c gave d. IdsStay (objects_in c) (objects_in d)) c v

  -- if its objects are these
  keeps_by : (o : Objects (Kept U)) → IdsStay (objects_in c) o → (v : Verdict (Core U C) (Told U)) → objects_in v.core ≡ o → objects_in v.starved ≡ o
      → ((d : Core U C) → objects_in (v.last d) ≡ objects_in d) → Keeps v
  keeps_by o stay v core starved last =
      record { carried = λ put others wrote is written. (grind (arith, objects_in, closed_down)); starved = λ asks. (grind (arith, objects_in)) }

  breaks_keeps : (w : Violation) (code : ℕ) (text : List ℕ) → Keeps (breaks a c w code text)
  breaks_keeps w code text = keeps_by (objects_in c) (ids_same (objects_in c)) (breaks a c w code text) refl refl (λ d. refl)

  converted_keeps : (m : WireMessage) (receiver : Object (Kept U)) (row : MessageRow) (o : Outcome U)
      → Came (λ ids objects. IdsStay (objects_in c) objects) o
      → Keeps (converted a c m receiver row o)
  converted_keeps m receiver row (Wrong place w objects) so = keeps_by objects so.1 _ refl refl (λ d. refl)
  converted_keeps m receiver row (Whole d args) so = keeps_by d.objects so.0 _ refl refl (λ e. refl)

  other_keeps : (m : WireMessage) (receiver : Object (Kept U)) (row : MessageRow) → Keeps (other_request a c m receiver row)
  other_keeps m receiver row =
      let so = converted_keeps m receiver row (convert a.client receiver.version (start (objects_in c) row) [] m.args)
      (converts a.client receiver.version (λ ids objects. IdsStay (objects_in c) objects)
      (λ ids o n i valid so. (grind (arith, is_some, objects_in c, ids_by_new o n i receiver.version valid))) (λ ids o n x there so. so)
      (λ ids o so. so)
      (start (objects_in c) row) [] m.args (ids_same (objects_in c), λ id among. among)) in
      either_request (nat_lt receiver.version row.since) Keeps (breaks_keeps _ 1 _) so

  garbled_keeps : (w : Violation) → Keeps (garbled c w)
  garbled_keeps w = keeps_by (objects_in c) (ids_same (objects_in c)) (garbled c w) refl refl (λ d. refl)

  handles_keeps : (m : WireMessage) → Keeps ((server a).handles c m)
  handles_keeps m =
      request_case a c Keeps garbled_keeps breaks_keeps
      (λ n valid. keeps_by _ (ids_by_brief (objects_in c) n callback_id 1 valid) (syncs a c n) refl refl (λ d. refl))
      (λ n valid. keeps_by _ (ids_by_new (objects_in c) n registry_id 1 valid) (registers a c n) refl refl (λ d. refl))
      (λ n valid. keeps_by _ (ids_by_new (objects_in c) n registry_id 1 valid) (hands_registry a c n) refl refl (λ d. refl))
      (λ g version n x valid. keeps_by _ (ids_by_new (objects_in c) n x.interface version valid) (binds a c g version n x) refl refl (λ d. refl)) m
      (λ receiver row holds other. other_keeps m receiver row)

-- ---- a reading

module _ {T U G C : Type 0} (sends : T → Queue → Result ℕ IoFault → T → Type 0) (receives : T → ℕ → Result Queue IoFault → T → Type 0)
    (a : Around G C) where
  pub reads_keep : (left : ℕ) (before : ReaderState T (Core U C)) (turns : List Turn) (out : Gives (Told U)) (end : ReaderState T (Core U C))
      → Reads sends (server a) receives left before turns out end → IdsStay (objects_in before.core) (objects_in end.core)
  reads_keep left before turns out end reads =
      reads_respect sends receives (server a) (λ c gave d. IdsStay (objects_in c) (objects_in d))
      (record {
        same = λ c. ids_same (objects_in c);
        joins = λ c d e gave others. (λ first second. grind (arith, is_some, objects_in c, objects_in d, objects_in e));
        handles = λ c m on. handles_keeps a c m;
        malformed = λ c u on. garbled_keeps a c (unread a.table c.store u);
        faulted = λ c f on. (grind (arith, ids_same, objects_in));
      })
      left before end turns out reads

-- ---- of one client

module _ {T U G C : Type 0} (sends : T → Queue → Result ℕ IoFault → T → Type 0) (receives : T → ℕ → Result Queue IoFault → T → Type 0)
    (a : Around G C) where
  -- what a reading is of a client that is stored: nothing is read, since an action is open, or it is killed; or it is read
  pub data Comes (r : Reading) (answer : Result Handed ActionError) (left : Reading) (lacked : Bool) (did : List (Deed U))
      (p q : Part T U C) : Type 0 where
    is_open : IsSome p.action → answer ≡ Err ActionOpen → left ≡ r → lacked ≡ false → did ≡ [] → q ≡ p → Comes r answer left lacked did p q
    is_dead : p.action ≡ None → p.is_killed ≡ true → answer ≡ Err (Io fault.Pipe) → left ≡ r → lacked ≡ false → did ≡ [] → q ≡ p
        → Comes r answer left lacked did p q
    is_read : p.action ≡ None → p.is_killed ≡ false → (turns : List Turn) (out : Gives (Told U)) (end : ReaderState T (Core U C))
        → Reads sends (server a) receives r.turns_left (reader_part p) turns out end → answer ≡ answered out.stopped out.gave
        → left ≡ read_on r out.left (handled_in turns)
        → lacked ≡ out.refused → q ≡ part_of end → notes_in did ≡ notes_in (end_deeds {U = U} end.core.ended)
        → ReadingEnds sends receives a (reader_part p) turns answer lacked out.left end
        → MemoryOf answer lacked → IdsStay (objects_in (core_of p)) (objects_in end.core) → Comes r answer left lacked did p q

  pub comes_to : (r : Reading) (answer : Result Handed ActionError) (left : Reading) (lacked : Bool) (did : List (Deed U)) (p q : Part T U C)
      → NextAction sends receives a r p answer left lacked did q → Comes r answer left lacked did p q
  comes_to r answer left lacked did p q h =
      elim (either_option p.action h) [
        | inr (action, is, (says, same, calm, none, stays)) ↦ is_open (ap is_some is) says same calm none stays
        | inl (idle, g) ↦
            elim (split_bool p.is_killed g) [
              | inl (dead, (says, same, calm, none, stays)) ↦ is_dead idle dead says same calm none stays
              | inr (live, (turns, out, end, reads, says, left_is, lacks, did_so, ends)) ↦
                  is_read idle live turns out end reads says left_is lacks ends
                  (ap notes_in did_so ∙ notes_of_reading sends receives a r.turns_left (reader_part p) turns out end reads)
                  (rw (says, lacks) (reading_ends sends receives a r.turns_left p turns out end live idle reads))
                  (rw (says, lacks) (reading_memory sends receives a r.turns_left p turns out end live idle reads))
                  (reads_keep sends receives a r.turns_left (reader_part p) turns out end reads)
            ]
      ]

  handed_out : (h : Handed) (start : ReaderState T (Core U C)) (turns : List Turn) (end : ReaderState T (Core U C))
      → ComesOfLast sends receives a h start turns end
      → IsHandedOut a.table a.hands_registries a.client h (part_of end)
  handed_out (Request sender opcode args is_destructor created) start turns end (earlier, es, before, split, led, (m, link, read, its)) =
      grind (arith, held, id_at, request_row)
  handed_out (Bind global object) start turns end
      (earlier, es, before, split, led, (m, link, read, (x, interface, version, kept, held_before, registry, args, there, named', may, of, of_interface, free, holds, open'))) = grind (arith, fresh_object)
  handed_out (Registry object) start turns end
      (earlier, es, before, split, led, (m, link, read, (x, held_before, display, hands, later, args, of, of_interface, free, holds, open'))) =
      (hands, of, of_interface, holds, open')

  open_as : (start : ReaderState T (Core U C)) (turns : List Turn) (answer : Result Handed ActionError) (lacked : Bool) (left : ℕ)
      (end : ReaderState T (Core U C)) (s t : Seen T U C)
      → ReadingEnds sends receives a start turns answer lacked left end
      → t ≡ record { part = Some (part_of end); made = s.made ++ notes_in (end_deeds {U = U} end.core.ended) }
      → OpenReadAs a.table a.hands_registries a.client answer s (part_of end) t
  open_as start turns answer lacked left end s t ends is = grind (arith, handed_out, notes_in, end_deeds, append-nil, true≢false, answer)

-- ---- the call

module _ {T U G C : Type 0} (w : World T G C) (before after : BackendState T U G C) (id : ClientParts) (r : Reading)
    (answer : Result Action ActionError) (left : Reading) where
  abbrev here : Around G C
  here = around w id before.server.offer

  abbrev pub IsReading : Type 0
  IsReading = IsOfOne before after id (Comes w.sends w.receives here r (action_content answer) left)
      ((action_content answer ≡ Err (Io fault.InvalidInput)) × (left ≡ r))

  module _ (one : IsReading) where
    pub reads_as : ReadAs before.server.offer.table before.server.offer.hands_registries id (action_content answer) (seen id before.server) (seen id after.server)
    reads_as =
        elim one.own [
          | not_stored none (says, l) calm same ↦ inl (none, says, same)
          | became p q did there so same ↦
              elim so [
                | is_open some says l calm none stays ↦ inr (p, there, inl (some, says, nothing_new _ _ p q did there stays (ap notes_in none) same))
                | is_dead idle dead says l calm none stays ↦ inr
                    (p, there, inr (inl (idle, dead, says, nothing_new _ _ p q did there stays (ap notes_in none) same)))
                | is_read idle live turns out end reads says l lacks is noted ends memory ids ↦
                    inr (p, there, inr (inr (idle, live, (part_of end, open_as w.sends w.receives here (reader_part p) turns _ _ _ end _ _ ends (same ∙ (grind (arith)))))))
              ]
        ]

    -- whether memory was refused
    reads_memory : ReadingMemory before id (action_content answer) after
    reads_memory =
        elim one.own [
          | not_stored none (says, l) calm same ↦ rw says calm
          | became p q did there so same ↦
              elim so [
                | is_open some says l calm none stays ↦ rw says calm
                | is_dead idle dead says l calm none stays ↦ rw says (λ lacks. absurd (true≢false (sym lacks ∙ calm)))
                | is_read idle live turns out end reads says l lacks is noted ends memory ids ↦ (grind (arith, option_map, answer, memory, ends, same, there))
              ]
        ]

    names_old : (other : IdParts) → IsOld (client_in before other.client) other → object_in after other ≡ object_in before other
    names_old other old =
        names_stay one other
        (λ about did p q there so. ids_old p q did so
        (subst (λ (o : Option (Part T U C)). IsOld o other) (rw (same_is id other.client about) at there) old))
      where
        ids_old : (p q : Part T U C) (did : List (Deed U)) → Comes w.sends w.receives here r (action_content answer) left after.refused did p q
            → IsOld (Some p) other
            → named q.store other ≡ named p.store other
        ids_old p q did so old =
            elim so [
              | is_open some says l calm none stays ↦ ap (λ (x : Part T U C). named x.store other) stays
              | is_dead idle dead says l calm none stays ↦ ap (λ (x : Part T U C). named x.store other) stays
              | is_read idle live turns out end reads says l lacks is noted ends memory ids ↦ ap (λ (x : Part T U C). named x.store other) is
                  ∙ ids.ids other old
            ]

    pub reads_client : ReadsClient before id answer after
    reads_client = record { client = reads_as; objects = names_old; clients = one.clients; stored = stored_stay one; globals = one.globals; memory = reads_memory }

    -- why it ends
    pub ends_for_a_reason : EndsForAReason w before id r answer left after
    ends_for_a_reason p' there' live' idle' =
        elim one.own [
          | not_stored none m calm same ↦ absurd (none_and_some _ none there')
          | became p q did there so same ↦
              let e : p' ≡ p = one_value _ there' there in
              elim so [
                | is_open some says l calm none stays ↦ absurd (grind (arith))
                | is_dead idle dead says l calm none stays ↦ absurd (grind (arith, true≢false))
                | is_read idle live turns out end reads says l lacks is noted ends memory ids ↦ rw e
                    (turns, out, end, reads, says, lacks, ends, l, same ∙ (grind (arith)))
              ]
        ]

module _ {T U G C : Type 0} (w : World T G C) (before after : BackendState T U G C) (id : ClientParts) where
  abbrev Reads' : Reading → Result Action ActionError → Reading → ClientParts → Change T U C
  Reads' r answer left client lacked did p q =
      NextAction w.sends w.receives (around w client before.server.offer) r p (action_content answer) left lacked did q

  next_action_one : (answer : Result Action ActionError) → Calls w before (step.NextAction id) (reply.NextAction answer) after
      → (left : Reading) × IsReading w before after id new_reading answer left
  next_action_one answer call =
      let (a, left, is, h) = part_of_call call.step.3 call.step.1 id in
      let e : a ≡ answer = cc in (
        left,
        refine (of_own call.step id (Reads' new_reading answer left id) _ (one_of id _ _ _ _ _ _ (rw e at h)) (λ other differ. let (a, l, is, h) = part_of_call call.step.3 call.step.1 other in when_false _ (same_client id other) differ h)
            refl refl refl) (comes_to w.sends w.receives (around w id before.server.offer) new_reading (action_content answer) left),
      )

  pub within_one : (reading left : Reading) (answer : Result Action ActionError)
      → Makes w before.server (Asked (step.NextActionWithin id reading) (reply.NextActionWithin answer left)) after.refused after.server
      → IsReading w before after id reading answer left
  within_one reading left answer made =
      refine (of_one made id (Reads' reading answer left) _
      (λ client s t lacked did (a, l, is, h). let e : a ≡ answer = cc in let same : l ≡ left = cc in rw (e, same) at h) refl refl refl)
      (comes_to w.sends w.receives (around w id before.server.offer) reading (action_content answer) left)

  pub next_action_reads : (answer : Result Action ActionError) → Calls w before (step.NextAction id) (reply.NextAction answer) after
      → ReadsClient before id answer after
  next_action_reads answer call = let (left, one) = next_action_one answer call in reads_client w before after id new_reading answer left one

  pub next_action_ends : (answer : Result Action ActionError) → Calls w before (step.NextAction id) (reply.NextAction answer) after
      → (left : Reading) × EndsForAReason w before id new_reading answer left after
  next_action_ends answer call = let (left, one) = next_action_one answer call in (left, ends_for_a_reason w before after id new_reading answer left one)

  pub reads_within : (reading left : Reading) (answer : Result Action ActionError)
      → Calls w before (step.NextActionWithin id reading) (reply.NextActionWithin answer left) after
      → ReadsWithin before id reading answer left after
  reads_within reading left answer call =
      let one = within_one reading left answer call.step in
      let (e, is, refused, by) = call.step in
      let few = reading_bounded w id before.server after.server e reading left answer is by in
      record {
        reads = reads_client w before after id reading answer left one;
        turns = omega (arith, few);
        count = elim one.own [
          | not_stored none (says, l) calm same ↦ grind (arith, min)
          | became p q did there so same ↦ grind (arith, min)
        ];
      }

  pub next_action_within_ends : (reading left : Reading) (answer : Result Action ActionError)
      → Calls w before (step.NextActionWithin id reading) (reply.NextActionWithin answer left) after
      → EndsForAReason w before id reading answer left after
  next_action_within_ends reading left answer call =
      ends_for_a_reason w before after id reading answer left (within_one reading left answer call.step)
