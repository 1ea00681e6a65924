-- How a reading ends, over its turns; and that only the end of its client is noted in it.
use Rattle.std.proofs.Common.{◌≡◌, ℕ, List, [], ◌++◌, map, Result, refl, sym, ap, subst, ◌∙◌, arith, ◌⊎◌, Bool, true, false, not, cond, eqb, eqb-true, ◌&&◌, ◌∷◌, append-nil, append_assoc, Option, None, Some, is_none, is_some, Ok, Err, true≢false, MatchOption, ap₂, length, is_ok}
use Rattle.std.specs.Prelude.{nat_lt, IsSome, MatchOption, MatchResult, ◌||◌, option_map}
use Rattle.wl_wire.specs.declared.error.IoFault.{IoFault}
use Rattle.wl_wire.specs.Message.{WireMessage}
use Rattle.wl_wire.specs.Parse.{opcode_of, sender_of}
use Rattle.wl_wire.specs.Table.{MessageRow, display_id, registry_id, is_new_id}
use Rattle.wl_link.specs.declared.object.Object.{Object}
use Rattle.wl_link.specs.Exchange.{Queue, Sending}
use Rattle.wl_link.specs.Puts.{Said, lacks_memory}
use Rattle.wl_link.specs.Reader.{Gives, Reads, Turn, Verdict, came_to, put_and_gave, ReaderState, CarriesOut, Given, Handled, HandedOut, Halts, ReadsAs, Received, Unread, given_first, stops, unreadable, unreadable_front, with_link}
use Rattle.wl_link.proofs.Readings.RespectLaws.{reads_respect}
use Rattle.wl_link.specs.Respect.{Keeps}
use Rattle.wl_server_client.specs.declared.objects.Kept.{Kept}
use Rattle.wl_server_client.specs.Deeds.{Deed, Put, came_in, notes_in, Handed, Remembered}
use Rattle.wl_server_client.specs.Reading.{Around, breaks, converted, exchanges_in, garbled, server, action_in, answered, binds, binds_to, by_interface, display_request, hands_out, hands_registry, may_bind, new_at, other_request, reads_on, refuses_bind, registry_request, replies, request, row_in, sent_to, stops_if, synced, unless_passed, unread, with_registry, registers, syncs}
use Rattle.wl_server_client.specs.Requests.{Outcome, Whole, Wrong, convert, start, is_valid_new, made_id, made_object, with_made, Converted, Converting, allows_null, convert_one, going_on, kinds_after, object_found, with_new_argument, with_object_argument}
use Rattle.wl_server_client.specs.Telling.{Core, Told, deeds_in, deeds_of, end_deeds, objects_in, Did, deletions, done_message, introductions, reader_part, with_objects}
use Rattle.wl_server_client.specs.Violations.{Addressed, interface_of, violation}
use Rattle.wl_server_model.proofs.OverRuns.Announced.RequestCases.{request_case}
use Rattle.wl_server_model.proofs.OverRuns.Moves.BaseMoves.{Doings}
use Rattle.wl_server_model.proofs.OverRuns.Moves.DoingsLaws.{doings_in_both, told_deeds}
use Rattle.wl_server_client.proofs.Readings.Notes.{notes_append}
use Rattle.wl_server_client.proofs.Readings.OneMessage.{deeds_append, notes_of_exchanges}
use mathlib.Core.Logic.{inl, inr}
use Rattle.wl_wire.specs.Argument.{WireArgument, type_of}
use Rattle.wl_wire.specs.MessageRows.{request_row, creates, next_interface}
use Rattle.wl_link.proofs.Ids.StoreLaws.{stored_here, held_stored}
use Rattle.wl_link.specs.Link.{FilledBy, LinkState, count_of, counted_answer}
use Rattle.wl_link.specs.Store.{held, Store}
use Rattle.wl_server_client.specs.declared.error.ActionError.{ActionError}
use Rattle.wl_server_client.specs.declared.error.ActionError.TheVariants.{ActionOpen, Io}
use Rattle.wl_server_client.specs.declared.globals.KeptGlobal.{KeptGlobal}
use Rattle.wl_server_client.specs.declared.notes.DisconnectReason.TheVariants.{ConnectionClosed}
use Rattle.wl_server_client.specs.declared.reading.action.OpenAction.{OpenAction}
use Rattle.wl_server_client.specs.Errors.{limit_text, new_id_text}
use Rattle.wl_server_client.specs.Limited.{limit_passed}
use Rattle.wl_server_client.specs.Globals.{global_at, shown}
use Rattle.wl_server_client.specs.Ids.{IdParts, ClientParts}
use Rattle.wl_server_client.specs.Part.{Part, id_at, fresh_object, null_id}
use Rattle.wl_server_model.specs.ReadingEnds.{BrokeOrClosed, ComesOfFront, FoundNoMessage, IsOfFront, KeepsFront, KeepsNone, LastReceiveFailed, LeavesClient, MakesItsObject, ReadingEnds, StopsItself, TookMessage, TurnLeads, ObjectsFit, new_id_in}
use Rattle.wl_server_model.proofs.OverRuns.Moves.MovesOfRequests.{valid_new}
use Rattle.wl_server_model.proofs.Plain.Base.{none_and_some, when_false, when_true}
use Rattle.wl_server_model.proofs.Plain.Verdicts.{carried, no_flush}
use Rattle.wl_server_client.proofs.Readings.Handling.{behind_puts}
use Rattle.std.proofs.lemmas.Option.{none-some}
use Rattle.std.specs.List.{list_any}
use Rattle.wl_wire.specs.declared.argument.Argument.{Argument}
use Rattle.wl_wire.specs.declared.argument.ArgumentType.{ArgumentType}
use Rattle.wl_wire.specs.declared.argument.Token.{Token}
use Rattle.wl_wire.specs.declared.interface.InterfaceId.{InterfaceId}
use Rattle.wl_wire.specs.Reading.{Reads as ReadsArguments}
use Rattle.wl_wire.proofs.Spelling.CursorLaws.{piece_fits}
use Rattle.wl_server_client.specs.Events.{wire_argument}
use Rattle.wl_wire.specs.declared.argument.Argument.TheVariants as arg
use Rattle.wl_wire.specs.declared.error.IoFault.TheVariants as fault
use Rattle.wl_server_client.specs.declared.reading.action.OpenAction.TheVariants as opened
use Rattle.wl_server_client.specs.Deeds as deeds
use Rattle.wl_server_client.specs.Telling as telling
use Rattle.wl_server_client.specs.declared.reading.response.RequestFault.TheVariants as wrong
use Rattle.wl_server_client.specs.declared.reading.violation.MessageFault.{MessageFault}
use Rattle.wl_server_client.specs.declared.reading.violation.MessageFault.TheVariants as message
use Rattle.wl_server_client.specs.declared.reading.violation.Violation.{Violation}

-- ---- what is noted in a reading

module _ {U : Type 0} where
  -- neither a note nor a receive
  abbrev pub Bare : List (Deed U) → Type 0
  Bare did = (notes_in did ≡ []) × (came_in did ≡ [])

  bare_both : (x y : List (Deed U)) → Bare x → Bare y → Bare (x ++ y)
  bare_both x y none nothing =
      let all = doings_in_both x y in (
        ap (λ (d : Doings U). d.notes) all ∙ (ap (λ l. l ++ notes_in y) none.0 ∙ nothing.0),
        ap (λ (d : Doings U). d.came) all ∙ (ap (λ l. l ++ came_in y) none.1 ∙ nothing.1),
      )

  bare_given : (put : List Said) (events : List (Told U)) → Bare (told_deeds events) → Bare (deeds_in (put_and_gave put events))
  bare_given [] events bare = bare
  bare_given (m ∷ put) events bare = bare_given put events bare

module _ {T U G C : Type 0} (sends : T → Queue → Result ℕ IoFault → T → Type 0) (receives : T → ℕ → Result Queue IoFault → T → Type 0)
    (a : Around G C) where
  -- what it hands out
  abbrev IsBare : Verdict (Core U C) (Told U) → Type 0
  IsBare v = (d : Core U C) → Bare (told_deeds (v.events d))

  converted_bare : (c : Core U C) (m : WireMessage) (receiver : Object (Kept U)) (row : MessageRow) (o : Outcome U)
      → IsBare (converted a c m receiver row o)
  converted_bare c m receiver row o d = grind (arith, o, told_deeds)

  verdict_bare : (c : Core U C) (v : Verdict (Core U C) (Told U)) → IsBare v → Keeps (server a) (λ c gave d. Bare (deeds_in gave)) c v
  verdict_bare c v bare = record {
    carried = λ put others wrote is written. bare_given put (v.events (came_to (server a) v wrote)) (bare (came_to (server a) v wrote));
    starved = λ asks. bare v.starved;
  }

  pub reads_bare : (left : ℕ) (before : ReaderState T (Core U C)) (turns : List Turn) (out : Gives (Told U)) (end : ReaderState T (Core U C))
      → Reads sends (server a) receives left before turns out end → Bare (deeds_in out.gave)
  reads_bare left before turns out end reads =
      reads_respect sends receives (server a) (λ c gave d. Bare (deeds_in gave))
      (record {
        same = λ c. (refl, refl);
        joins = λ c d e gave others x y. subst Bare (sym (deeds_append gave others)) (bare_both (deeds_in gave) (deeds_in others) x y);
        handles = λ c m on. verdict_bare c ((server a).handles c m) (request_case a c IsBare (λ w d. (refl, refl)) (λ w code text d. (refl, refl))
            (λ n valid. (λ d. grind (arith, told_deeds))) (λ n valid.
            (λ d. grind (arith, told_deeds))) (λ n valid d. (refl, refl)) (λ g version n x valid d. (refl, refl)) m
            (λ receiver row holds other. (grind (arith, nat_lt, breaks, converted, convert, start, objects_in, converted_bare))));
        malformed = λ c u on. verdict_bare c (garbled c (unread a.table c.store u)) (λ d. (refl, refl));
        faulted = λ c f on. (refl, refl);
      })
      left before end turns out reads

  -- only the end of the client is noted
  pub notes_of_reading : (left : ℕ) (before : ReaderState T (Core U C)) (turns : List Turn) (out : Gives (Told U)) (end : ReaderState T (Core U C))
      → Reads sends (server a) receives left before turns out end
      → notes_in (deeds_of (exchanges_in turns) out.gave end.core) ≡ notes_in (end_deeds {U = U} end.core.ended)
  notes_of_reading left before turns out end reads = grind (arith, notes_append, exchanges_in, deeds_in, end_deeds, notes_of_exchanges, reads_bare)

-- ---- how it ends

-- ---- new ids among arguments

abbrev is_new : {Id Fd : Type 0} → Argument Id Fd → Bool
is_new a = is_new_id (type_of a)

new_in_both : (signature : List ArgumentType) (args : List WireArgument) (payload : List ℕ) (fds : List Token)
    → ReadsArguments signature args payload fds
    → list_any is_new_id signature ≡ list_any is_new args
unfolding ReadsArguments
new_in_both [] [] payload fds r = refl
new_in_both (k ∷ signature) (a ∷ args) payload fds r = grind (arith, is_new_id, piece_fits, new_in_both signature args r.1 r.2 r.6)
new_in_both _ _ payload fds r = absurd r

new_on_the_wire : (args : List (Argument IdParts Token)) → is_some (new_id_in args) ≡ list_any is_new (map wire_argument args)
new_on_the_wire [] = refl
new_on_the_wire (x ∷ args) = grind (arith, x, new_on_the_wire args)

module _ {T U G C : Type 0} (sends : T → Queue → Result ℕ IoFault → T → Type 0) (a : Around G C) (p : ReaderState T (Core U C)) (m : WireMessage)
    (link : LinkState T) where
  -- a message that was read has its signature from the table
  pub read_signed : ReadsAs sends (server a) p (Ok m) link
      → (signature : List ArgumentType)
      × (option_map (λ (r : MessageRow). r.signature) (row_in a.table (held p.core.store m.sender) m.opcode) ≡ Some signature)
      × (list_any is_new_id signature ≡ list_any is_new m.args)
  read_signed read = grind (arith, true≢false, is_new_id, ap₂, new_in_both)

  -- it is to an object that is kept, and the table has the request
  pub read_row : ReadsAs sends (server a) p (Ok m) link
      → (receiver : Object (Kept U)) × (row : MessageRow) × (held p.core.store m.sender ≡ Some receiver)
      × (request_row a.table receiver.interface m.opcode ≡ Some row)
  read_row read = grind (arith, read_signed, option_map, row_in)

  -- it makes an object by the table exactly if one of its arguments is a new number
  pub makes_new : ReadsAs sends (server a) p (Ok m) link → (row : MessageRow) → row_in a.table (held p.core.store m.sender) m.opcode ≡ Some row
      → creates row ≡ list_any is_new m.args
  makes_new read row has = grind (arith, read_signed, is_new_id)

module _ {U : Type 0} where
  -- each object that was kept still is, at its number
  abbrev pub Grown : Store (Kept U) → Store (Kept U) → Type 0
  Grown s t = (k : ℕ) (x : Object (Kept U)) → held s k ≡ Some x → held t k ≡ Some x

module _ {U : Type 0} (client : ClientParts) (version : ℕ) where
  -- The object of this id is new, and of this version.
  abbrev IsMade : Store (Kept U) → Store (Kept U) → IdParts → Type 0
  IsMade before after id =
      (id.client ≡ client) × (held before id.number ≡ None) × (held after id.number ≡ Some (fresh_object id.interface version id.serial None))

  -- The arguments have no new id, and made nothing. Or they have one, and made its object, of the interface that was left.
  abbrev pub Making : Converting U → Converting U → List (Argument IdParts Token) → Type 0
  Making d e more =
      ((new_id_in more ≡ None) × (e.created ≡ d.created))
      ⊎ ((id : IdParts) × (d.child ≡ Some id.interface) × (new_id_in more ≡ Some id) × (e.created ≡ Some id)
      × IsMade d.objects.store e.objects.store id)

  -- what one argument became
  abbrev One : Converting U → WireArgument → Converted U → Type 0
  One d x (Ok next) =
      (wire_argument next.0 ≡ x) × Grown d.objects.store next.1.objects.store
      × ((s : Store (Kept U)) (more : List (Argument IdParts Token)) → Grown next.1.objects.store s → ObjectsFit client s next.1.kinds next.1.asked more
      → ObjectsFit client s d.kinds d.asked (next.0 ∷ more))
      × ((e : Converting U) (more : List (Argument IdParts Token)) → Grown next.1.objects.store e.objects.store → Making next.1 e more
      → Making d e (next.0 ∷ more))
  One d x (Err w) = Unit {0}

  one_object : (d : Converting U) (n : ℕ) (null b : Bool) → allows_null d.kinds ≡ null → eqb n 0 ≡ b
      → One d (arg.Object n) (with_object_argument d
      (cond b (cond null (Ok (null_id client)) (Err wrong.NullObject)) (object_found client (next_interface d.asked) n (held d.objects.store n))))
  one_object d n null b h1 h2 = grind (arith, with_object_argument, eqb-true)

  one_new : (d : Converting U) (n : ℕ) (child : Option InterfaceId) → d.child ≡ child
      → One d (arg.NewId n) (with_new_argument client version d n child)
  one_new d n None left = tt
  one_new d n (Some i) left = go (is_valid_new d.objects n) refl
    where
      go : (b : Bool) → is_valid_new d.objects n ≡ b
          → One d (arg.NewId n) (cond b
          (Ok (
            arg.NewId (made_id client d.objects n i),
            record {
              objects = with_made d.objects n i version;
              kinds = kinds_after d.kinds;
              asked = d.asked;
              child = None;
              created = Some (made_id client d.objects n i);
            },
          ))
          (Err (wrong.InvalidNewId n)))
      go true valid = (
        refl,
        (λ k x there. grind (arith, held_stored, made_object, eqb, none-some, valid_new, held, eqb-true, d.objects)),
        λ s more grown rest. rest,
        λ e more grown made. elim made [
          | inl (none, created) ↦
              inr (
                made_id client d.objects n i,
                left,
                refl,
                created,
                (
                  refl,
                  (valid_new d.objects n valid).0,
                  grown n (made_object d.objects i version) (stored_here d.objects.store n (made_object d.objects i version) n refl),
                ),
              )
          | inr (id, none, new, created, is) ↦ absurd (none-some _ none)
        ],
      )
      go false valid = tt

  -- what the arguments became: behind those that were gone through stand theirs
  abbrev pub Came : Converting U → List (Argument IdParts Token) → List WireArgument → Outcome U → Type 0
  Came d done args (Whole e all) =
      (more : List (Argument IdParts Token)) × (all ≡ done ++ more) × (map wire_argument more ≡ args) × Grown d.objects.store e.objects.store
      × ObjectsFit client e.objects.store d.kinds d.asked more × Making d e more
  Came d done args (Wrong place w objects) = Unit {0}

  came_then : (d next : Converting U) (done : List (Argument IdParts Token)) (b : Argument IdParts Token) (x : WireArgument)
      (args : List WireArgument) → One d x (Ok (b, next))
      → (o : Outcome U) → Came next (done ++ b ∷ []) args o → Came d done (x ∷ args) o
  came_then d next done b x args (is, grown, fit, makes) (Whole e all) (more, all_is, numbers, grown', fits', made) = (
    b ∷ more,
    all_is ∙ append_assoc done (b ∷ []) more,
    ap (λ (y : WireArgument). y ∷ map wire_argument more) is ∙ ap (λ (ys : List WireArgument). x ∷ ys) numbers,
    λ k y there. grown' k y (grown k y there),
    fit e.objects.store more grown' fits',
    makes e more grown' made,
  )
  came_then d next done b x args so (Wrong place w objects) h = tt

  goes_on : (d : Converting U) (done : List (Argument IdParts Token)) (x : WireArgument) (args : List WireArgument) (r : Converted U) → One d x r
      → ((next : Converting U) (all : List (Argument IdParts Token)) → Came next all args (convert client version next all args))
      → Came d done (x ∷ args) (going_on r (length done) d.objects (λ b next. convert client version next (done ++ b ∷ []) args))
  goes_on d done x args (Ok (b, next)) so rest =
      came_then d next done b x args so (convert client version next (done ++ b ∷ []) args) (rest next (done ++ b ∷ []))
  goes_on d done x args (Err w) so rest = tt

  pub converts : (d : Converting U) (done : List (Argument IdParts Token)) (args : List WireArgument)
      → Came d done args (convert client version d done args)
  converts d done [] = ([], sym (append-nil done), refl, λ k x there. there, tt, inl (refl, refl))
  converts d done (x ∷ args) = goes_on d done x args (convert_one client version d x) (grind (arith, one_object, allows_null, eqb, one_new))
      (λ next all. converts next all args)

-- one of two verdicts
pub either_request : {V : Type 0} (b : Bool) (P : V → Type 0) {x y : V} → P x → P y → P (cond b x y)
either_request true P one other = one
either_request false P one other = other

later_turn : (f : IoFault) (t : Turn) (turns : List Turn) → LastReceiveFailed f turns → LastReceiveFailed f (t ∷ turns)
later_turn f t [] (r, is, failed) = absurd (none_and_some None refl is)
later_turn f t (u ∷ turns) last = last

pub or_true : (a b : Bool) → b ≡ true → (a || b) ≡ true
or_true true b is = refl
or_true false b is = is

pub split_result : {A E : Type 0} {P : A → Type 0} {Q : E → Type 0} (r : Result A E) → MatchResult r P Q
    → ((x : A) × (r ≡ Ok x) × P x) ⊎ ((e : E) × (r ≡ Err e) × Q e)
split_result (Ok x) p = inl (x, refl, p)
split_result (Err e) q = inr (e, refl, q)

-- the turn took a message
abbrev TookOne : Turn → Type 0
TookOne t = (es : List Sending) × (t ≡ Handled es)

-- ---- what was given

module _ {U : Type 0} where
  -- it answers nothing, so what comes behind it answers
  abbrev Silent : List (Given (Told U)) → Type 0
  Silent first = (rest : List (Given (Told U))) → action_in (first ++ rest) ≡ action_in rest

-- ---- a core that is read

module _ {U C : Type 0} where
  -- it is live, no action is open, and it was not ended
  pub record IsRead (c : Core U C) : Type 0 where
    pub live : c.is_killed ≡ false
    pub idle : c.action ≡ None
    pub fresh : c.ended ≡ None

  pub reads_of : (c : Core U C) → IsRead c → reads_on c ≡ true
  reads_of c r = ap (λ (b : Bool). not b && is_none c.action) r.live ∙ ap (λ (o : Option OpenAction). is_none o) r.idle

-- Memory was refused in a reading if the answer is `OutOfMemory`, and it may have been if it is `Pipe`. Else it was not.
abbrev pub MemoryOf : Result Handed ActionError → Bool → Type 0
MemoryOf (Err (Io fault.OutOfMemory)) refused = refused ≡ true
MemoryOf (Err (Io fault.Pipe)) refused = Unit {0}
MemoryOf _ refused = refused ≡ false

-- ---- a bind

module _ {U G C : Type 0} (a : Around G C) (c : Core U C) (P : Verdict (Core U C) (Told U) → Type 0) where
  -- it holds of each bind that these arguments may ask for
  abbrev Bound : List WireArgument → Type 0
  Bound args =
      (g : ℕ) (interface : List ℕ) (version n : ℕ) (kept : Object (KeptGlobal G))
      → args ≡ arg.Uint g ∷ arg.Str (Some interface) ∷ arg.Uint version ∷ arg.NewId n ∷ []
      → held a.globals.store g ≡ Some kept → may_bind a c g (Some interface) version kept ≡ true → is_valid_new (objects_in c) n ≡ true
      → P (binds a c g version n kept)

  -- they are none of a bind
  abbrev AreUnbound : List WireArgument → Type 0
  AreUnbound args = (g version n : ℕ) (name : Option (List ℕ)) → ¬ (args ≡ arg.Uint g ∷ arg.Str name ∷ arg.Uint version ∷ arg.NewId n ∷ [])

  bound_case : (to : Addressed) (args : List WireArgument) → (AreUnbound args → (f : MessageFault) → P (garbled c (violation to f)))
      → ((f : MessageFault) (code : ℕ) (text : List ℕ) → P (breaks a c (violation to f) code text)) → Bound args
      → P (registry_request a c to args)
  bound_case to args garbled' breaks' bound = grind (arith, args, held, binds_to, refuses_bind, may_bind, is_valid_new, objects_in, true≢false)

  -- ---- a request to a display

  -- they are not those of one
  abbrev AreUnasked : List WireArgument → Type 0
  AreUnasked args = (n : ℕ) → ¬ (args ≡ arg.NewId n ∷ [])

  -- it holds of the registry that is handed out, if they ask for one
  abbrev HandsOutIfAsked : ℕ → List WireArgument → Type 0
  HandsOutIfAsked opcode args =
      (n : ℕ) → args ≡ arg.NewId n ∷ [] → a.hands_registries ≡ true → eqb opcode 0 ≡ false → is_valid_new (objects_in c) n ≡ true → P (hands_registry a c n)

  asked_new : (to : Addressed) (opcode n : ℕ) (valid is_sync hands : Bool) → is_valid_new (objects_in c) n ≡ valid → eqb opcode 0 ≡ is_sync
      → a.hands_registries ≡ hands → ((f : MessageFault) (code : ℕ) (text : List ℕ) → P (breaks a c (violation to f) code text))
      → ((n : ℕ) → P (syncs a c n)) → ((n : ℕ) → P (registers a c n)) → HandsOutIfAsked opcode (arg.NewId n ∷ [])
      → P (cond valid (cond is_sync (syncs a c n) (cond hands (hands_registry a c n) (registers a c n)))
      (breaks a c (violation to (message.WrongArgument 0 (wrong.InvalidNewId n))) 0 (new_id_text n)))
  asked_new to opcode n true true hands v s h breaks' syncs' registers' hands' = syncs' n
  asked_new to opcode n true false true v s h breaks' syncs' registers' hands' = hands' n refl h s v
  asked_new to opcode n true false false v s h breaks' syncs' registers' hands' = registers' n
  asked_new to opcode n false is_sync hands v s h breaks' syncs' registers' hands' = breaks' _ 0 _

  asked_case : (to : Addressed) (opcode : ℕ) (args : List WireArgument)
      → (AreUnasked args → (f : MessageFault) → P (garbled c (violation to f)))
      → ((f : MessageFault) (code : ℕ) (text : List ℕ) → P (breaks a c (violation to f) code text))
      → ((n : ℕ) → P (syncs a c n)) → ((n : ℕ) → P (registers a c n)) → HandsOutIfAsked opcode args → P (display_request a c to opcode args)
  asked_case to opcode (arg.NewId n ∷ []) garbled' breaks' syncs' registers' hands' =
      asked_new to opcode n (is_valid_new (objects_in c) n) (eqb opcode 0) a.hands_registries refl refl refl breaks' syncs' registers' hands'
  asked_case to opcode _ garbled' breaks' syncs' registers' hands' = garbled' (λ n is. absurd cc) message.UnknownOpcode

module _ {T U G C : Type 0} (sends : T → Queue → Result ℕ IoFault → T → Type 0) (receives : T → ℕ → Result Queue IoFault → T → Type 0)
    (a : Around G C) where
  -- what is answered at the end of a reading for what the message at the front came to in this turn
  abbrev pub Answers : Turn → ReaderState T (Core U C) → Result Handed ActionError → ReaderState T (Core U C) → Type 0
  Answers t before (Ok h) end =
      (end.core.is_killed ≡ false) × (end.core.ended ≡ None) × KeepsNone before end × TookOne t × ComesOfFront sends a h before end
  Answers t before (Err (Io fault.Proto)) end =
      FoundNoMessage sends a t before × KeepsFront before end × (end.core.ended ≡ Some ConnectionClosed) × LeavesClient fault.Proto end.core
  Answers t before (Err (Io fault.Pipe)) end =
      TookMessage sends a t before × BrokeOrClosed before before end × IsSome end.core.ended × LeavesClient fault.Pipe end.core
  Answers t before (Err e) end = ⊥

  answers_end : (t : Turn) (before : ReaderState T (Core U C)) (refused : Bool) (left : ℕ) (answer : Result Handed ActionError)
      (end : ReaderState T (Core U C)) → Answers t before answer end
      → ReadingEnds sends receives a before (t ∷ []) answer refused left end
  answers_end t before refused left (Ok h) end (live, fresh, none, (es, is), comes) =
      (live, fresh, none, ([], es, before, ap (λ (u : Turn). u ∷ []) is, refl, comes))
  answers_end t before refused left (Err (Io fault.Proto)) end (found, front, is, leaves) =
      (inr (([], t, before, refl, refl, (found, front)), is), leaves)
  answers_end t before refused left (Err (Io fault.Pipe)) end (took, keeps, is, leaves) =
      (inr (([], t, before, refl, refl, (took, keeps)), is), leaves)
  answers_end t before refused left _ end so = absurd so

  -- what a verdict came to: the client is read on, and nothing is answered; or this is answered
  abbrev pub Turned : Turn → ReaderState T (Core U C) → List (Given (Told U)) → Bool → ReaderState T (Core U C) → Type 0
  Turned t before first lacked mid =
      (IsRead mid.core × Silent first × (lacked ≡ false) × KeepsNone before mid)
      ⊎ ((reads_on mid.core ≡ false) × (Answers t before (action_in first) mid × MemoryOf (action_in first) lacked))

  abbrev Turns : (List Sending → Turn) → ReaderState T (Core U C) → Verdict (Core U C) (Told U) → LinkState T → Type 0
  Turns turn before v link =
      (es : List Sending) (first : List (Given (Told U))) (lacked : Bool) (mid : ReaderState T (Core U C))
      → CarriesOut sends (server a) v link es first lacked mid
      → Turned (turn es) before first lacked mid

  -- a killed client is read no more
  not_read : (c : Core U C) → c.is_killed ≡ true → reads_on c ≡ false
  not_read c is = ap (λ (b : Bool). not b && is_none c.action) is

  -- ---- bytes that are no message

  pub garbled_turns : (turn : List Sending → Turn) (before : ReaderState T (Core U C)) (c : Core U C) (w : Violation) → IsOfFront before w
      → IsRead c → ((es : List Sending) → FoundNoMessage sends a (turn es) before)
      → (link : LinkState T) → Turns turn before (garbled c w) link
  garbled_turns turn before c w front h1 h2 link = grind (arith, true≢false, not_read, action_in, behind_puts, not, is_none, is_some, lacks_memory, no_flush)

  -- ---- a client that broke the protocol

  abbrev Ended : Core U C → Type 0
  Ended e = (e.is_killed ≡ true) × IsSome e.ended × (e.action ≡ None)

  ended_turned : (t : Turn) (before : ReaderState T (Core U C)) (first : List (Given (Told U))) (lacked : Bool) (mid : ReaderState T (Core U C))
      → TookMessage sends a t before → BrokeOrClosed before before mid
      → action_in first ≡ Err (Io fault.Pipe) → Ended mid.core → Turned t before first lacked mid
  ended_turned t before first lacked mid took keeps is ended = grind (arith, not_read)

  breaks_turns : (turn : List Sending → Turn) (before : ReaderState T (Core U C)) (m : Core U C) (w : Violation) → IsOfFront before w
      → (code : ℕ) (text : List ℕ) → IsRead m
      → ((es : List Sending) → TookMessage sends a (turn es) before) → (link : LinkState T) → Turns turn before (breaks a m w code text) link
  breaks_turns turn before m w front code text h1 h2 link = grind (arith, ended_turned, action_in, behind_puts, true≢false, is_some, not_read)

  -- ---- a request that the server answers

  -- these deeds answer nothing
  abbrev Mute : List (Deed U) → Type 0
  Mute did = (rest : List (Given (Told U))) → action_in (map HandedOut (map Did did) ++ rest) ≡ action_in rest

  abbrev stops_when : (b : Bool) → List (Told U)
  stops_when b = cond b (telling.Stops fault.Pipe ∷ []) []

  handed_both : (x y : List (Told U)) → map HandedOut (x ++ y) ≡ map HandedOut x ++ map HandedOut y
  handed_both [] y = refl
  handed_both (e ∷ x) y = ap (λ (es : List (Given (Told U))). HandedOut e ∷ es) (handed_both x y)

  replies_turns : (turn : List Sending → Turn) (before : ReaderState T (Core U C)) (m : Core U C) (puts : List Said) (did : List (Deed U)) → Mute did
      → IsRead m → m.violation ≡ before.core.violation
      → ((es : List Sending) → TookMessage sends a (turn es) before) → (link : LinkState T) → Turns turn before (replies m puts did) link
  replies_turns turn before m puts did h1 h2 same h3 link = grind (arith, true≢false, is_some, put_and_gave, map, stops_if, stops_when, lacks_memory, no_flush, append-nil, append_assoc, behind_puts, came_to, server, replies, ended_turned, action_in, handed_both, not_read)

  -- ---- an action

  hands_out_turns : (before : ReaderState T (Core U C)) (m : Core U C) (action : OpenAction) (h : Handed) → m.is_killed ≡ false → m.ended ≡ None
      → m.violation ≡ before.core.violation → ((link : LinkState T) → ComesOfFront sends a h before (record { core = record m { action = Some action }; link = link }))
      → (link : LinkState T)
      → Turns Handled before (hands_out m action h) link
  hands_out_turns before m action h live fresh same comes link es first lacked mid by =
      let (came, (put, given)) = carried (server a) (λ c f. refl) sends (hands_out m action h) link es first lacked mid by in
      let says : action_in first ≡ Ok h = ap action_in given ∙ behind_puts put _ in
      let core : mid.core ≡ record m { action = Some action } = grind (arith, came, true≢false) in
      let is : mid ≡ record { core = record m { action = Some action }; link = mid.link } = ap (λ (c : Core U C). let x : ReaderState T
      (Core U C) = record { core = c; link = mid.link } in x) core in
      inr ((grind (arith, core, live)), rw says (((grind (arith, core)), (grind (arith, core)), ap (λ (c : Core U C). c.violation) core ∙ same, (es, refl), rw is (comes mid.link)), (grind (arith, came))))

  module _ (c : Core U C) (r : IsRead c) (from link : LinkState T) (m : WireMessage)
      (read : ReadsAs sends (server a) (record { core = c; link = from }) (Ok m) link) where
    abbrev here : ReaderState T (Core U C)
    here = record { core = c; link = from }

    took : (es : List Sending) → TookMessage sends a (Handled es) here
    took es = (m, link, read)

    -- it has the header at the front
    heads : (m.sender ≡ sender_of from.incoming.bytes) × (m.opcode ≡ opcode_of from.incoming.bytes)
    heads = grind (arith, true≢false, is_ok)

    -- so has a violation of it
    front : (receiver : Object (Kept U)) → held c.store m.sender ≡ Some receiver → (f : MessageFault)
        → IsOfFront here (violation (sent_to m receiver) f)
    front receiver holds f = record { sender_id = heads.0; opcode = heads.1; interface = sym (ap (interface_of {U = U}) holds) }

    converted_turns : (receiver : Object (Kept U)) (row : MessageRow) → held c.store m.sender ≡ Some receiver
        → request_row a.table receiver.interface m.opcode ≡ Some row
        → (o : Outcome U)
        → Came a.client receiver.version (start (objects_in c) row) [] m.args o → Turns Handled here (converted a c m receiver row o) link
    converted_turns receiver row holds has (Wrong place w objects) came =
        breaks_turns Handled here (with_objects c objects) _ (front receiver holds (message.WrongArgument place w)) 0 _
        (record { live = r.live; idle = r.idle; fresh = r.fresh }) took link
    converted_turns receiver row holds has (Whole d args) (more, is, numbers, grown, fit, made) =
        hands_out_turns here (with_objects c d.objects) (opened.Request id row.is_destructor d.created)
        (deeds.Request id m.opcode args row.is_destructor d.created) r.live r.fresh refl
        (λ l. (
          m,
          link,
          read,
          grind (arith, request, map, made_so),
        )) link
      where
        id : IdParts
        id = id_at a.client m.sender receiver

        by_row : row_in a.table (held c.store m.sender) m.opcode ≡ Some row
        by_row = ap (λ (o : Option (Object (Kept U))). row_in a.table o m.opcode) holds ∙ has

        made_so : MakesItsObject a.client d.objects.store row receiver.version more d.created
            × MatchOption d.created (Unit {0}) (λ id. held c.store id.number ≡ None)
        made_so = grind (arith, is_some, new_on_the_wire, is_new, a.client, receiver.version, objects_in c, m.args, makes_new sends a here m link read row by_row)

    other_turns : (receiver : Object (Kept U)) (row : MessageRow) → held c.store m.sender ≡ Some receiver
        → request_row a.table receiver.interface m.opcode ≡ Some row
        → Turns Handled here (other_request a c m receiver row) link
    other_turns receiver row holds has =
        either_request (nat_lt receiver.version row.since) (λ v. Turns Handled here v link)
        (breaks_turns Handled here c _ (front receiver holds (message.SinceLater receiver.version row.since)) 1 _ r took link)
        (converted_turns receiver row holds has (convert a.client receiver.version (start (objects_in c) row) [] m.args)
        (converts a.client receiver.version (start (objects_in c) row) [] m.args))

    binds_turns : (x : Object (Kept U)) → held c.store m.sender ≡ Some x → eqb x.interface.0 registry_id.0 ≡ true
        → Bound a c (λ v. Turns Handled here v link) m.args
    binds_turns x holds registry g interface version n kept args there may valid =
        hands_out_turns here (with_objects c (with_made (objects_in c) n kept.interface version)) (opened.Bind (made_id a.client
        (objects_in c) n kept.interface)) (deeds.Bind (global_at g kept) (made_id a.client (objects_in c) n kept.interface)) r.live r.fresh refl
        (λ l. (
          m,
          link,
          read,
          (
            x,
            interface,
            version,
            kept,
            holds,
            eqb-true x.interface.0 registry_id.0 registry,
            args,
            there,
            refl,
            may,
            refl,
            refl,
            (valid_new (objects_in c) n valid).0,
            stored_here c.store n (made_object (objects_in c) kept.interface version) n refl,
            refl,
          ),
        )) link

    registry_turns : (x : Object (Kept U)) → held c.store m.sender ≡ Some x → eqb x.interface.0 display_id.0 ≡ true
        → HandsOutIfAsked a c (λ v. Turns Handled here v link) m.opcode m.args
    registry_turns x holds display n args hands later valid =
        hands_out_turns here (with_objects c (with_made (objects_in c) n registry_id 1)) (opened.Bind (made_id a.client (objects_in c) n registry_id))
        (deeds.Registry (made_id a.client (objects_in c) n registry_id)) r.live r.fresh refl
        (λ l. (
          m,
          link,
          read,
          (
            x,
            holds,
            eqb-true x.interface.0 display_id.0 display,
            hands,
            λ zero. true≢false (ap (λ (o : ℕ). eqb o 0) (sym zero) ∙ later),
            args,
            refl,
            refl,
            (valid_new (objects_in c) n valid).0,
            stored_here c.store n (made_object (objects_in c) registry_id 1) n refl,
            refl,
          ),
        )) link

    pub request_turns : Turns Handled here ((server a).handles c m) link
    request_turns =
        let (receiver, row, holds, has) = read_row sends a here m link read in
        subst (λ (o : Option (Object (Kept U))). P (request a c m o (row_in a.table o m.opcode))) (sym holds)
        (subst (λ (o : Option MessageRow). P (request a c m (Some receiver) o)) (sym has)
        (limited receiver holds (limit_passed a.object_limit m.args) (by_interface a c m receiver row)
        (go receiver row holds has (eqb receiver.interface.0 display_id.0) (eqb receiver.interface.0 registry_id.0) refl refl)))
      where
        P : Verdict (Core U C) (Told U) → Type 0
        P v = Turns Handled here v link

        -- a request that passed the limit breaks the protocol
        limited : (receiver : Object (Kept U)) → held c.store m.sender ≡ Some receiver → (passed : Option ℕ) (v : Verdict (Core U C) (Told U)) → P v
            → P (unless_passed a c (sent_to m receiver) passed v)
        limited receiver holds None v other = other
        limited receiver holds (Some limit) v other =
            breaks_turns Handled here c _ (front receiver holds (message.TooManyObjects limit)) 2 (limit_text limit) r took link

        go : (receiver : Object (Kept U)) (row : MessageRow) → held c.store m.sender ≡ Some receiver
            → request_row a.table receiver.interface m.opcode ≡ Some row → (b t : Bool)
            → eqb receiver.interface.0 display_id.0 ≡ b → eqb receiver.interface.0 registry_id.0 ≡ t
            → P (cond b (display_request a c (sent_to m receiver) m.opcode m.args)
            (cond t (registry_request a c (sent_to m receiver) m.args) (other_request a c m receiver row)))
        go receiver row holds has true t display registry =
            asked_case a c P (sent_to m receiver) m.opcode m.args
            (λ unasked f. garbled_turns Handled here c _ (front receiver holds f) r
            (λ es. (m, link, read, (receiver, holds, inl (eqb-true receiver.interface.0 display_id.0 display, unasked)))) link)
            (λ f code text. breaks_turns Handled here c _ (front receiver holds f) code text r took link)
            (λ n. replies_turns Handled here (synced a c n) (done_message (new_at a c n) ∷ deletions n) [] (λ rest. refl)
            (record { live = r.live; idle = r.idle; fresh = r.fresh }) refl took link)
            (λ n. replies_turns Handled here (with_registry a c n)
            (introductions a.table (new_at a c n) 0 (shown a.views a.globals a.client c.client_data)) (Remembered (new_at a c n) ∷ []) (λ rest. refl) (record { live = r.live; idle = r.idle; fresh = r.fresh }) refl took link)
            (registry_turns receiver holds display)
        go receiver row holds has false true display registry =
            bound_case a c P (sent_to m receiver) m.args
            (λ unbound f. garbled_turns Handled here c _ (front receiver holds f) r
            (λ es. (m, link, read, (receiver, holds, inr (eqb-true receiver.interface.0 registry_id.0 registry, unbound)))) link)
            (λ f code text. breaks_turns Handled here c _ (front receiver holds f) code text r took link) (binds_turns receiver holds registry)
        go receiver row holds has false false display registry = other_turns receiver row holds has

  -- ---- over the turns

  itself_later : (f : IoFault) (t : Turn) (turns : List Turn) (lacked refused : Bool) (left : ℕ) (end start mid : ReaderState T (Core U C))
      → TurnLeads sends receives a t start mid → KeepsNone start mid
      → StopsItself sends receives a f mid turns refused left end → StopsItself sends receives a f start (t ∷ turns) (lacked || refused) left end
  itself_later fault.WouldBlock t turns lacked refused left end start mid leads same (none, lacks, keeps) = (none, lacks, keeps ∙ same)
  itself_later fault.OutOfMemory t turns lacked refused left end start mid leads same
      (so, asks, keeps) = (or_true lacked refused so, asks, keeps ∙ same)
  itself_later fault.Proto t turns lacked refused left end start mid leads same
      (found, so) = ((t ∷ found.0, found.1, found.2, ap (λ (us : List Turn). t ∷ us) found.3, (mid, leads, found.4), found.5), so)
  itself_later fault.Pipe t turns lacked refused left end start mid leads same
      ((earlier, u, before, split, led, (took, keeps)), so) =
      ((t ∷ earlier, u, before, ap (λ (us : List Turn). t ∷ us) split, (mid, leads, led), (took, front_or_closed before keeps)), so)
    where
      front_or_closed : (before : ReaderState T (Core U C)) → BrokeOrClosed mid before end → BrokeOrClosed start before end
      front_or_closed before (inl broke) = inl broke
      front_or_closed before (inr (none, closed)) = inr (none ∙ same, closed)
  itself_later _ t turns lacked refused left end start mid leads same so = so

  -- another turn stands before
  ends_later : (t : Turn) (turns : List Turn) (answer : Result Handed ActionError) (lacked refused : Bool) (left : ℕ) (end : ReaderState T (Core U C))
      → (start mid : ReaderState T (Core U C)) → TurnLeads sends receives a t start mid → KeepsNone start mid
      → ReadingEnds sends receives a mid turns answer refused left end
      → ReadingEnds sends receives a start (t ∷ turns) answer (lacked || refused) left end
  ends_later t turns (Ok h) lacked refused left end start mid leads same (live, fresh, none, (earlier, es, before, split, led, comes)) =
      (live, fresh, none ∙ same, (t ∷ earlier, es, before, ap (λ (us : List Turn). t ∷ us) split, (mid, leads, led), comes))
  ends_later t turns (Err ActionOpen) lacked refused left end start mid leads same so = so
  ends_later t turns (Err (Io f)) lacked refused left end start mid leads same (inl (last, none), leaves) =
      (inl (later_turn f t turns last, none ∙ same), leaves)
  ends_later t turns (Err (Io f)) lacked refused left end start mid leads same (inr so, leaves) =
      (inr (itself_later f t turns lacked refused left end start mid leads same so), leaves)

  pub still_answered : (stopped : Option IoFault) (first gave : List (Given (Told U))) → Silent first
      → answered stopped (first ++ gave) ≡ answered stopped gave
  still_answered None first gave silent = silent gave
  still_answered (Some f) first gave silent = refl

  abbrev pub Done : ReaderState T (Core U C) → List Turn → Gives (Told U) → ReaderState T (Core U C) → Type 0
  Done start turns out end = ReadingEnds sends receives a start turns (answered out.stopped out.gave) out.refused out.left end

  abbrev pub MemoryAt : Gives (Told U) → Type 0
  MemoryAt out = MemoryOf (answered out.stopped out.gave) out.refused

  -- the reading stops here
  halts_end : (left : ℕ) (before : ReaderState T (Core U C)) (out : Gives (Told U)) → IsRead before.core → Halts sends (server a) left before out
      → Done before [] out before
  halts_end left before out r (inl (lacks, none, is)) = rw is (inr (none, lacks, refl), (r.live, r.fresh, r.idle))
  halts_end left before out r (inr (inl (asks, is))) = rw is (inr (refl, inl asks, refl), (r.live, r.fresh, r.idle))
  halts_end left before out r (inr (inr (lacks, (n, one, is)))) = rw is (inr (refl, inr lacks, refl), (r.live, r.fresh, r.idle))

  -- an action or a reason is there, and nothing more is read
  no_more : (left : ℕ) (mid end : ReaderState T (Core U C)) (turns : List Turn) (rest : Gives (Told U)) → reads_on mid.core ≡ false
      → Reads sends (server a) receives left mid turns rest end → (turns ≡ []) × (end ≡ mid) × (rest ≡ stops None false left)
  no_more left mid end [] rest off (same, stops') = (refl, same, when_false _ (reads_on mid.core) off stops')
  no_more left mid end (Received r ∷ turns) rest off h = absurd (true≢false (sym h.0 ∙ off))
  no_more left mid end (Handled es ∷ turns) rest off h = absurd (true≢false (sym h.0 ∙ off))
  no_more left mid end (Unread es ∷ turns) rest off h = absurd (true≢false (sym h.0 ∙ off))

  module _ (t : Turn) (start mid end : ReaderState T (Core U C)) (left : ℕ) (turns : List Turn) (first : List (Given (Told U))) (lacked : Bool)
      (rest out : Gives (Told U)) where
    then_ends : out ≡ given_first first lacked rest → TurnLeads sends receives a t start mid → Turned t start first lacked mid
        → Reads sends (server a) receives left mid turns rest end
        → (IsRead mid.core → Done mid turns rest end) → Done start (t ∷ turns) out end
    then_ends h1 h2 h3 h4 h5 =
        grind (arith, given_first, still_answered, ends_later, answered, no_more, later_turn, itself_later, stops, reads_on, action_in, append-nil, answers_end, true≢false)

    then_memory : out ≡ given_first first lacked rest → Turned t start first lacked mid → Reads sends (server a) receives left mid turns rest end
        → (IsRead mid.core → MemoryAt rest) → MemoryAt out
    then_memory h1 h2 h3 h4 = grind (arith, still_answered, answered, true≢false, given_first, no_more, action_in, append-nil)

    then_both : out ≡ given_first first lacked rest → TurnLeads sends receives a t start mid → Turned t start first lacked mid
        → Reads sends (server a) receives left mid turns rest end
        → (IsRead mid.core → Done mid turns rest end × MemoryAt rest) → Done start (t ∷ turns) out end × MemoryAt out
    then_both split leads turned more on = (then_ends split leads turned more (λ r. (on r).0), then_memory split turned more (λ r. (on r).1))

  -- the violation of malformed bytes is of the front
  unread_front : (before : ReaderState T (Core U C)) → IsOfFront before (unread a.table before.core.store (unreadable_front sends (server a) before))
  unread_front before = go ((server a).signature before.core (sender_of raw) (opcode_of raw))
    where
      raw : List ℕ
      raw = before.link.incoming.bytes

      go : (signature : Option (List ArgumentType)) → IsOfFront before (unread a.table before.core.store (unreadable signature raw))
      go None = record { sender_id = refl; opcode = refl; interface = refl }
      go (Some signature) = record { sender_id = refl; opcode = refl; interface = refl }

  pub read_ends : (left : ℕ) (before : ReaderState T (Core U C)) (turns : List Turn) (out : Gives (Told U)) (end : ReaderState T (Core U C))
      → IsRead before.core
      → Reads sends (server a) receives left before turns out end → Done before turns out end × MemoryAt out
  read_ends left before [] out end r (same, stops') = grind (arith, halts_end, when_true, reads_on, reads_of, true≢false, not, is_none)
  read_ends left before (Received got ∷ turns) out end r (on, lacks, (n, is, (link, filled, room, h))) =
      elim (split_result (counted_answer (count_of got)) h) [
        | inl (u, ok, more) ↦
            let (ends, memory) = read_ends n (with_link before link) turns out end r more in (
              ends_later (Received got) turns (answered out.stopped out.gave) false out.refused out.left end before (with_link before link)
                  (link, subst (λ (c : Result (Unit {0}) IoFault). FilledBy receives before.link got c link) ok filled, refl) refl ends,
              memory,
            )
        | inr (f, failed, (over, stopped, same)) ↦ grind (arith, true≢false, is_some, lacks_memory)
      ]
  read_ends left before (Handled es ∷ turns) out end r (on, (v, link, first, lacked, mid, rest, (m, read, is), by, split, more)) =
      then_both (Handled es) before mid end left turns first lacked rest out split (v, link, first, lacked, (m, read, is), by)
      (request_turns before.core r before.link link m read es first lacked mid
      (subst (λ (w : Verdict (Core U C) (Told U)). CarriesOut sends (server a) w link es first lacked mid) is by)) more (λ r'. read_ends left mid turns rest end r' more)
  read_ends left before (Unread es ∷ turns) out end r (on, (v, link, first, lacked, mid, rest, (read, same, is), by, split, more)) =
      then_both (Unread es) before mid end left turns first lacked rest out split (v, link, first, lacked, (read, same, is), by)
      (grind (arith, garbled_turns, server, unread_front)) more (λ r'. read_ends left mid turns rest end r' more)

  -- a reading of a live client without an open action
  pub reading_ends : (left : ℕ) (before : Part T U C) (turns : List Turn) (out : Gives (Told U)) (end : ReaderState T (Core U C))
      → before.is_killed ≡ false → before.action ≡ None
      → Reads sends (server a) receives left (reader_part before) turns out end → Done (reader_part before) turns out end
  reading_ends left before turns out end live idle reads =
      (read_ends left (reader_part before) turns out end (record { live = live; idle = idle; fresh = refl }) reads).0

  pub reading_memory : (left : ℕ) (before : Part T U C) (turns : List Turn) (out : Gives (Told U)) (end : ReaderState T (Core U C))
      → before.is_killed ≡ false → before.action ≡ None
      → Reads sends (server a) receives left (reader_part before) turns out end → MemoryAt out
  reading_memory left before turns out end live idle reads =
      (read_ends left (reader_part before) turns out end (record { live = live; idle = idle; fresh = refl }) reads).1
