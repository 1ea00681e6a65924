-- That a reading makes no object above the limit.
use Rattle.std.proofs.Common.{◌≡◌, ◌≢◌, ◌<◌, ◌∙◌, ℕ, Bool, true, false, cond, eqb, List, [], ◌∷◌, ◌++◌, Option, None, Some, Result, Ok, Err, refl, sym, ap, subst, arith, length}
use mathlib.Core.Logic.{inl, inr}
use Rattle.std.specs.Prelude.{nat_lt}
use Rattle.std.specs.List.{list_any}
use Rattle.std.proofs.lemmas.Bool.{or_parts}
use Rattle.wl_wire.specs.declared.argument.Argument.{Argument}
use Rattle.wl_wire.specs.declared.argument.Argument.TheVariants as arg
use Rattle.wl_wire.specs.declared.argument.Token.{Token}
use Rattle.wl_wire.specs.declared.error.IoFault.{IoFault}
use Rattle.wl_wire.specs.declared.error.IoFault.TheVariants as fault
use Rattle.wl_wire.specs.declared.interface.InterfaceId.{InterfaceId}
use Rattle.wl_wire.specs.Argument.{WireArgument}
use Rattle.wl_wire.specs.Message.{WireMessage}
use Rattle.wl_wire.specs.Table.{MessageRow, callback_id, display_id, registry_id}
use Rattle.wl_link.specs.declared.object.Object.{Object}
use Rattle.wl_link.specs.Exchange.{Queue}
use Rattle.wl_link.specs.Reader.{Gives, ReaderState, Reads, Turn, Verdict, came_to}
use Rattle.wl_link.specs.Respect as respect
use Rattle.wl_link.specs.Store.{Store, held, stored}
use Rattle.wl_link.proofs.Calls.Branches.{either_option}
use Rattle.wl_link.proofs.Ids.StoreLaws.{removed_other, stored_other}
use Rattle.wl_link.proofs.Readings.RespectLaws.{reads_respect}
use Rattle.wl_server_client.specs.declared.globals.KeptGlobal.{KeptGlobal}
use Rattle.wl_server_client.specs.declared.objects.Kept.{Kept}
use Rattle.wl_server_client.specs.declared.error.ActionError.{ActionError}
use Rattle.wl_server_client.specs.declared.reading.response.RequestFault.{RequestFault}
use Rattle.wl_server_client.specs.declared.reading.action.Reading.{Reading}
use Rattle.wl_server_client.specs.declared.reading.violation.Violation.{Violation}
use Rattle.wl_server_model.specs.declared.step.Step.TheVariants as step
use Rattle.wl_server_client.specs.Deeds.{Deed, Handed}
use Rattle.wl_server_client.specs.Ids.{ClientParts, IdParts}
use Rattle.wl_server_client.specs.Limited.{is_new_above, limit_passed}
use Rattle.wl_server_client.specs.Part.{Part}
use Rattle.wl_server_model.specs.PartStep.{Asked, Call, ReadsFor, World, around}
use Rattle.wl_server_client.specs.Reading.{Around, NextAction, binds, binds_to, breaks, by_interface, converted, display_request, faulted, garbled, hands_registry, may_bind, new_reading, other_request, registers, registry_request, request, row_in, sent_to, server, syncs, unless_passed, unread}
use Rattle.wl_server_client.specs.Requests.{Converted, Converting, Outcome, Whole, Wrong, convert, convert_one, going_on, is_valid_new, made_object, start, with_new_argument, with_object_argument}
use Rattle.wl_server_model.specs.Server.{Seen, ServerState, seen}
use Rattle.wl_server_model.specs.Steps.{Entry, OneStep}
use Rattle.wl_server_client.specs.Telling.{Core, Told, closed_down, objects_in, reader_part}
use Rattle.wl_server_client.specs.Violations.{Addressed}
use Rattle.wl_server_model.specs.WithinLimit.{ReadsWithinLimit, SameAbove, StaysWithin}
use Rattle.wl_server_model.proofs.Plain.Base.{none_and_some, one_value, own, part_of_call}
use Rattle.wl_server_model.proofs.Plain.Reading.{comes_to, is_dead, is_open, is_read}
use Rattle.wl_server_model.proofs.Plain.ReadingEnds.{either_request}

-- a number that is above the limit is another than one that is not
not_that : (limit n m : ℕ) → nat_lt limit n ≡ false → limit < m → m ≢ n
not_that limit n m within above same = absurd (grind (arith, nat_lt))

module _ {U : Type 0} (limit : ℕ) (before : Store (Kept U)) where
  abbrev Same : Store (Kept U) → Type 0
  Same after = SameAbove limit before after

  -- an object at a number that is not above it
  same_stored : (now : Store (Kept U)) (n : ℕ) (x : Object (Kept U)) → nat_lt limit n ≡ false → Same now → Same (stored now n x)
  same_stored now n x within same m above = stored_other now n x m (not_that limit n m within above) ∙ same m above

  -- ---- the arguments of a request

  module _ (client : ClientParts) (version : ℕ) where
    -- the objects as they are after one argument
    abbrev SameOne : Converted U → Type 0
    SameOne (Ok next) = Same next.1.objects.store
    SameOne (Err w) = Unit {0}

    same_object : (d : Converting U) (r : Result IdParts RequestFault) → Same d.objects.store → SameOne (with_object_argument d r)
    same_object d (Ok id) same = same
    same_object d (Err w) same = tt

    same_new : (d : Converting U) (n : ℕ) (child : Option InterfaceId) → nat_lt limit n ≡ false → Same d.objects.store
        → SameOne (with_new_argument client version d n child)
    same_new d n None within same = tt
    same_new d n (Some i) within same =
        either_request (is_valid_new d.objects n) SameOne
        (same_stored d.objects.store n (made_object d.objects i version) within same) tt

    same_one : (d : Converting U) (x : WireArgument) → is_new_above limit x ≡ false → Same d.objects.store → SameOne (convert_one client version d x)
    same_one d (arg.Object n) within same = same_object d _ same
    same_one d (arg.NewId n) within same = same_new d n d.child within same
    same_one d _ within same = same

    -- and after all
    abbrev SameAll : Outcome U → Type 0
    SameAll (Whole d args) = Same d.objects.store
    SameAll (Wrong place w objects) = Same objects.store

    same_on : (d : Converting U) (r : Converted U) (place : ℕ) (on : Argument IdParts Token → Converting U → Outcome U) → Same d.objects.store → SameOne r
        → ((b : Argument IdParts Token) (next : Converting U) → Same next.objects.store → SameAll (on b next))
        → SameAll (going_on r place d.objects on)
    same_on d (Ok next) place on same one more = more next.0 next.1 one
    same_on d (Err w) place on same one more = same

    same_convert : (d : Converting U) (done : List (Argument IdParts Token)) (args : List WireArgument) → list_any (is_new_above limit) args ≡ false
        → Same d.objects.store → SameAll (convert client version d done args)
    same_convert d done [] within same = same
    same_convert d done (x ∷ args) within same =
        let (first, others) = or_parts (is_new_above limit x) (list_any (is_new_above limit) args) within in
        same_on d (convert_one client version d x) (length done) _ same (same_one d x first same)
        (λ b next so. same_convert next (done ++ b ∷ []) args others so)

-- ---- a verdict

module _ {U G C : Type 0} (a : Around G C) (limit : ℕ) (c : Core U C) where
  -- whatever becomes of the verdict, the numbers above the limit hold what they held
  abbrev Keeps : Verdict (Core U C) (Told U) → Type 0
  Keeps v = respect.Keeps (server a) (λ c gave d. SameAbove limit c.store d.store) c v

  -- if its store is this
  keeps_by : (s : Store (Kept U)) → SameAbove limit c.store s → (v : Verdict (Core U C) (Told U)) → v.core.store ≡ s → v.starved.store ≡ s
      → ((d : Core U C) → (v.last d).store ≡ d.store) → Keeps v
  keeps_by s same v core starved last =
      record {
        carried = λ put others wrote is written. subst (λ (t : Store (Kept U)). SameAbove limit c.store t) (sym (left wrote)) same;
        starved = λ asks. subst (λ (t : Store (Kept U)). SameAbove limit c.store t) (sym starved) same;
      }
    where
      left : (wrote : Result (Unit {0}) IoFault) → (came_to (server a) v wrote).store ≡ s
      left (Ok u) = last v.core ∙ core
      left (Err fault.OutOfMemory) = starved
      left (Err f) = last (closed_down v.core) ∙ core

  keeps_breaks : (w : Violation) (code : ℕ) (text : List ℕ) → Keeps (breaks a c w code text)
  keeps_breaks w code text = keeps_by c.store (λ n above. refl) (breaks a c w code text) refl refl (λ d. refl)

  keeps_garbled : (w : Violation) → Keeps (garbled c w)
  keeps_garbled w = keeps_by c.store (λ n above. refl) (garbled c w) refl refl (λ d. refl)

  -- ---- requests to a display and to a registry

  keeps_syncs : (n : ℕ) → nat_lt limit n ≡ false → Keeps (syncs a c n)
  keeps_syncs n within =
      let x : Object (Kept U) = made_object (objects_in c) callback_id 1 in
      keeps_by _ (λ m above. removed_other (stored c.store n x) n m (not_that limit n m within above)
      ∙ stored_other c.store n x m (not_that limit n m within above)) (syncs a c n) refl refl (λ d. refl)

  keeps_registers : (n : ℕ) → nat_lt limit n ≡ false → Keeps (registers a c n)
  keeps_registers n within =
      keeps_by _ (same_stored limit c.store c.store n (made_object (objects_in c) registry_id 1) within (λ m above. refl)) (registers a c n) refl refl (λ d. refl)

  keeps_hands_registry : (n : ℕ) → nat_lt limit n ≡ false → Keeps (hands_registry a c n)
  keeps_hands_registry n within =
      keeps_by _ (same_stored limit c.store c.store n (made_object (objects_in c) registry_id 1) within (λ m above. refl)) (hands_registry a c n) refl refl
      (λ d. refl)

  keeps_binds : (g version n : ℕ) (x : Object (KeptGlobal G)) → nat_lt limit n ≡ false → Keeps (binds a c g version n x)
  keeps_binds g version n x within =
      keeps_by _ (same_stored limit c.store c.store n (made_object (objects_in c) x.interface version) within (λ m above. refl))
      (binds a c g version n x) refl refl (λ d. refl)

  -- the one argument is not above the limit
  alone : (n : ℕ) → list_any (is_new_above limit) (arg.NewId n ∷ []) ≡ false → nat_lt limit n ≡ false
  alone n within = (or_parts (nat_lt limit n) false within).0

  keeps_display : (to : Addressed) (opcode : ℕ) (args : List WireArgument) → list_any (is_new_above limit) args ≡ false
      → Keeps (display_request a c to opcode args)
  keeps_display to opcode (arg.NewId n ∷ []) within =
      either_request (is_valid_new (objects_in c) n) Keeps
      (either_request (eqb opcode 0) Keeps (keeps_syncs n (alone n within))
      (either_request a.hands_registries Keeps (keeps_hands_registry n (alone n within)) (keeps_registers n (alone n within)))) (keeps_breaks _ 0 _)
  keeps_display to opcode _ within = keeps_garbled _

  keeps_binds_to : (to : Addressed) (g : ℕ) (name : Option (List ℕ)) (version n : ℕ) (global : Option (Object (KeptGlobal G))) → nat_lt limit n ≡ false
      → Keeps (binds_to a c to g name version n global)
  keeps_binds_to to g name version n None within = keeps_breaks _ 0 _
  keeps_binds_to to g name version n (Some x) within =
      either_request (may_bind a c g name version x) Keeps
      (either_request (is_valid_new (objects_in c) n) Keeps (keeps_binds g version n x within) (keeps_breaks _ 0 _)) (keeps_breaks _ 0 _)

  keeps_registry : (to : Addressed) (args : List WireArgument) → list_any (is_new_above limit) args ≡ false → Keeps (registry_request a c to args)
  keeps_registry to (arg.Uint g ∷ arg.Str name ∷ arg.Uint version ∷ arg.NewId n ∷ []) within =
      keeps_binds_to to g name version n (held a.globals.store g) (alone n within)
  keeps_registry to _ within = keeps_garbled _

  -- ---- other requests

  keeps_converted : (m : WireMessage) (receiver : Object (Kept U)) (row : MessageRow) (o : Outcome U) → SameAll limit c.store a.client receiver.version o
      → Keeps (converted a c m receiver row o)
  keeps_converted m receiver row (Wrong place w objects) same = keeps_by objects.store same _ refl refl (λ d. refl)
  keeps_converted m receiver row (Whole d args) same = keeps_by d.objects.store same _ refl refl (λ e. refl)

  keeps_other : (m : WireMessage) (receiver : Object (Kept U)) (row : MessageRow) → list_any (is_new_above limit) m.args ≡ false
      → Keeps (other_request a c m receiver row)
  keeps_other m receiver row within =
      either_request (nat_lt receiver.version row.since) Keeps (keeps_breaks _ 1 _)
      (keeps_converted m receiver row (convert a.client receiver.version (start (objects_in c) row) [] m.args)
      (same_convert limit c.store a.client receiver.version (start (objects_in c) row) [] m.args within (λ n above. refl)))

  -- ---- a message

  module _ (limited : a.object_limit ≡ Some limit) where
    keeps_within : (m : WireMessage) (receiver : Object (Kept U)) (row : MessageRow) → list_any (is_new_above limit) m.args ≡ false
        → Keeps (by_interface a c m receiver row)
    keeps_within m receiver row within =
        either_request (eqb receiver.interface.0 display_id.0) Keeps (keeps_display (sent_to m receiver) m.opcode m.args within)
        (either_request (eqb receiver.interface.0 registry_id.0) Keeps (keeps_registry (sent_to m receiver) m.args within)
        (keeps_other m receiver row within))

    -- it passed the limit, or did not
    keeps_limited : (to : Addressed) (args : List WireArgument) (v : Verdict (Core U C) (Told U)) (b : Bool) → list_any (is_new_above limit) args ≡ b
        → (list_any (is_new_above limit) args ≡ false → Keeps v)
        → Keeps (unless_passed a c to (cond b (Some limit) None) v)
    keeps_limited to args v true is within = keeps_breaks _ 2 _
    keeps_limited to args v false is within = within is

    keeps_request : (m : WireMessage) (receiver : Option (Object (Kept U))) (row : Option MessageRow) → Keeps (request a c m receiver row)
    keeps_request m (Some receiver) (Some row) =
        subst (λ (l : Option ℕ). Keeps (unless_passed a c (sent_to m receiver) (limit_passed l m.args) (by_interface a c m receiver row))) (sym limited)
        (keeps_limited (sent_to m receiver) m.args (by_interface a c m receiver row) (list_any (is_new_above limit) m.args) refl (keeps_within m receiver row))
    keeps_request m None None = keeps_garbled _
    keeps_request m None (Some row) = keeps_garbled _
    keeps_request m (Some receiver) None = keeps_garbled _

    keeps_handles : (m : WireMessage) → Keeps ((server a).handles c m)
    keeps_handles m = keeps_request m (held c.store m.sender) (row_in a.table (held c.store m.sender) m.opcode)

-- ---- a reading

module _ {T U G C : Type 0} (sends : T → Queue → Result ℕ IoFault → T → Type 0) (receives : T → ℕ → Result Queue IoFault → T → Type 0)
    (a : Around G C) (limit : ℕ) (limited : a.object_limit ≡ Some limit) where
  same_faulted : (c : Core U C) (f : IoFault) → SameAbove limit c.store (faulted c f).store
  same_faulted c fault.WouldBlock n above = refl
  same_faulted c fault.OutOfMemory n above = refl
  same_faulted c f n above = refl

  reads_within : (left : ℕ) (before : ReaderState T (Core U C)) (turns : List Turn) (out : Gives (Told U)) (end : ReaderState T (Core U C))
      → Reads sends (server a) receives left before turns out end → SameAbove limit before.core.store end.core.store
  reads_within left before turns out end reads =
      reads_respect sends receives (server a) (λ c gave d. SameAbove limit c.store d.store)
      (record {
        same = λ c n above. refl;
        joins = λ c d e gave others one more n above. more n above ∙ one n above;
        handles = λ c m on. keeps_handles a limit c limited m;
        malformed = λ c u on. keeps_garbled a limit c (unread a.table c.store u);
        faulted = λ c f on. same_faulted c f;
      })
      left before end turns out reads

  pub next_action_within : (r : Reading) (p : Part T U C) (answer : Result Handed ActionError) (r' : Reading) (lacked : Bool) (did : List (Deed U))
      (q : Part T U C)
      → NextAction sends receives a r p answer r' lacked did q → SameAbove limit p.store q.store
  next_action_within r p answer r' lacked did q h n above =
      elim (comes_to sends receives a r answer r' lacked did p q h) [
        | is_open some says left calm none same ↦ ap (λ (x : Part T U C). held x.store n) same
        | is_dead idle dead says left calm none same ↦ ap (λ (x : Part T U C). held x.store n) same
        | is_read idle live turns out end reads says left lacks same noted ends memory ids ↦
            ap (λ (x : Part T U C). held x.store n) same ∙ reads_within r.turns_left (reader_part p) turns out end reads n above
      ]

-- ---- a call

module _ {T U G C : Type 0} {w : World T G C} {before after : ServerState T U G C} {e : Entry T U G C} (one : OneStep w before e after) where
  stays_within : (id : ClientParts) (r : Reading) (answer : Result Handed ActionError) (left : Reading)
      → ReadsFor w id before.offer id r answer left (seen id before) (e.lacks id) (e.did id) (seen id after) → StaysWithin before after id
  stays_within id r answer left h limit p q limited there here n above =
      elim (either_option (seen id before).part (own id (seen id before) _ _ (e.lacks id) (e.did id) (seen id after) h)) [
        | inl (none, missing) ↦ absurd (none_and_some _ none there)
        | inr (p', there', (q', next, same)) ↦
            ap (λ (x : Part T U C). held x.store n) (one_value _ here (ap (λ (s : Seen T U C). s.part) same))
            ∙ (next_action_within w.sends w.receives (around w id before.offer) limit limited r p' answer left (e.lacks id) (e.did id) q' next n above
            ∙ ap (λ (x : Part T U C). held x.store n) (one_value _ there' there))
      ]

  pub reads_within_limit : ReadsWithinLimit before after e.call
  reads_within_limit = go e.call refl
    where
      go : (call : Call T U G C) → e.call ≡ call → ReadsWithinLimit before after call
      go (Asked (step.NextAction id) answer) is = let (r, left, says, h) = part_of_call one is id in stays_within id new_reading _ left h
      go (Asked (step.NextActionWithin id reading) answer) is = let (r, left, says, h) = part_of_call one is id in stays_within id reading _ left h
      go _ is = tt
