-- That what a request comes to is a chain of base moves.
use Rattle.std.proofs.Common.{◌≡◌, ◌≢◌, ◌⊎◌, ℕ, Bool, true, false, cond, eqb, List, [], ◌∷◌, ◌++◌, Option, None, Some, is_some, Result, Ok, Err, refl, sym, ap, append-nil, true≢false, arith, length}
use mathlib.Core.Logic.{inl, inr}
use Rattle.std.specs.Prelude.{nat_lt}
use Rattle.wl_wire.specs.declared.argument.Argument.{Argument}
use Rattle.wl_wire.specs.declared.argument.Token.{Token}
use Rattle.wl_wire.specs.declared.error.IoFault.{IoFault}
use Rattle.wl_wire.specs.declared.interface.InterfaceId.{InterfaceId}
use Rattle.wl_wire.specs.Argument.{WireArgument}
use Rattle.wl_wire.specs.MessageRows.{fits}
use Rattle.wl_wire.specs.Message.{WireMessage}
use Rattle.wl_wire.specs.Table.{MessageRow, callback_id, registry_id}
use Rattle.wl_link.specs.declared.object.Object.{Object}
use Rattle.wl_link.specs.Exchange.{Queue}
use Rattle.wl_link.specs.Identity.{Objects, Found, HandedId, New, argument_ids}
use Rattle.wl_link.specs.Link.{LinkState}
use Rattle.wl_link.specs.Reader.{Verdict}
use Rattle.wl_link.specs.Store.{held, is_free, is_server_number}
use Rattle.wl_link.proofs.Ids.StoreLaws.{stored_here}
use Rattle.wl_server_client.specs.declared.reading.action.OpenAction.{OpenAction}
use Rattle.wl_server_client.specs.declared.reading.action.OpenAction.TheVariants as opened
use Rattle.wl_server_client.specs.declared.objects.Kept.{Kept}
use Rattle.wl_server_client.specs.declared.globals.KeptGlobal.{KeptGlobal}
use Rattle.wl_server_client.specs.declared.notes.DisconnectReason.TheVariants.{ConnectionClosed, ProtocolError as BrokeProtocol}
use Rattle.wl_server_client.specs.declared.notes.Happening.{Happening}
use Rattle.wl_server_client.specs.declared.reading.response.RequestFault.TheVariants as wrong
use Rattle.wl_server_client.specs.declared.reading.violation.Violation.{Violation}
use Rattle.wl_server_model.proofs.OverRuns.Ids.AmongLaws.{among_both, among_first, among_later}
use Rattle.wl_server_model.specs.HandedIds.{created_ids}
use Rattle.wl_server_client.specs.Deeds.{IsAmong, Acted, Deed, Handed, Remembered}
use Rattle.wl_server_model.proofs.OverRuns.Moves.BaseMoves.{Doings, Kind, MayRead, all_action_ids, born, broke, followed, found, found_none, handed_out, handing, moved, opens, remembered, stayed, went}
use Rattle.wl_server_client.specs.Deeds as deeds
use Rattle.wl_server_model.proofs.OverRuns.Moves.DoingsLaws.{IsQuiet, joined_none, told_stops, told_did}
use Rattle.wl_server_client.specs.Errors.{error_of, fault_text}
use Rattle.wl_server_client.specs.Globals.{global_at}
use Rattle.wl_server_client.specs.Ids.{ClientParts, IdParts}
use Rattle.wl_server_model.proofs.OverRuns.Moves.MovesOfVerdicts.{Comes, Go, Lands, at, lands_at, lands_not, lands_killed, comes_silently}
use Rattle.wl_server_client.specs.Part.{Part, display_of, id_at, last_possible_serial, null_id}
use Rattle.wl_server_client.specs.Reading.{Around, binds, breaking, breaks, converted, garbled, hands_out, hands_registry, new_at, other_request, replies, server, stops_if, synced, with_registry}
use Rattle.wl_server_model.proofs.OverRuns.Announced.RequestCases.{request_case}
use Rattle.wl_server_client.specs.Requests.{Converted, Converting, Outcome, Whole, Wrong, allows_null, convert, convert_one, going_on, is_valid_new, kinds_after, made_id, made_object, object_found, start, with_made, with_new_argument, with_object_argument}
use Rattle.wl_server_client.specs.Telling.{Core, Told, objects_in, with_objects}
use Rattle.wl_link.proofs.Ids.HandedIds.{argument_ids_both}
use Rattle.std.proofs.lemmas.Bool.{cases_Bool}

-- a number that a client may use holds none, and is not 0
pub valid_new : {U : Type 0} (o : Objects (Kept U)) (n : ℕ) → is_valid_new o n ≡ true → (held o.store n ≡ None) × (n ≢ 0)
valid_new o n valid = grind (arith, true≢false, is_free, eqb, last_possible_serial, is_server_number, held, nat_lt, is_some)

-- ---- the arguments of a request

-- what is made is among the arguments
among_args : (sender : HandedId IdParts) (args made : List (HandedId IdParts)) → ((id : HandedId IdParts) → IsAmong made id → IsAmong args id)
    → (id : HandedId IdParts) → IsAmong ((sender ∷ (args ++ made)) ++ []) id → IsAmong (sender ∷ args) id
among_args sender args made there id among = grind (arith, append-nil, among_both args made id)

-- what holds of the ids that came up in the arguments and of the objects as they then are: so far, and in the end
module _ {U : Type 0} (P : List (HandedId IdParts) → Objects (Kept U) → Type 0) where
  -- what an argument became
  abbrev One : List (HandedId IdParts) → Converting U → Converted U → Type 0
  One ids d (Ok next) =
      P (ids ++ argument_ids (next.0 ∷ [])) next.1.objects
      × ((id : HandedId IdParts) → IsAmong (created_ids next.1.created) id
      → IsAmong (created_ids d.created) id ⊎ IsAmong (argument_ids (next.0 ∷ [])) id)
  One ids d (Err wrong) = Unit {0}

  abbrev pub SoFar : Converting U → List (Argument IdParts Token) → Type 0
  SoFar d args = P (argument_ids args) d.objects × ((id : HandedId IdParts) → IsAmong (created_ids d.created) id → IsAmong (argument_ids args) id)

  abbrev pub Came : Outcome U → Type 0
  Came (Whole d args) = SoFar d args
  Came (Wrong place w objects) = (ids : List (HandedId IdParts)) × P ids objects

-- It holds on over an object that is made, and over an id that is made of an object or of none.
module _ {U : Type 0} (client : ClientParts) (version : ℕ) (P : List (HandedId IdParts) → Objects (Kept U) → Type 0)
    (makes : (ids : List (HandedId IdParts)) (o : Objects (Kept U)) (n : ℕ) (i : InterfaceId) → is_valid_new o n ≡ true → P ids o
    → P (ids ++ New (made_id client o n i) ∷ []) (with_made o n i version))
    (finds : (ids : List (HandedId IdParts)) (o : Objects (Kept U)) (n : ℕ) (x : Object (Kept U)) → held o.store n ≡ Some x → P ids o
    → P (ids ++ Found (id_at client n x) ∷ []) o)
    (finds_none : (ids : List (HandedId IdParts)) (o : Objects (Kept U)) → P ids o → P (ids ++ Found (null_id client) ∷ []) o) where
  converts_object : (ids : List (HandedId IdParts)) (d : Converting U) (null : Bool) (asked : InterfaceId) (n : ℕ) (b : Bool) → P ids d.objects
      → One P ids d (with_object_argument d (cond b (cond null (Ok (null_id client)) (Err wrong.NullObject))
      (object_found client asked n (held d.objects.store n))))
  converts_object ids d null asked n b so = grind (arith, with_object_argument, finds, fits, held, finds_none)

  converts_new : (ids : List (HandedId IdParts)) (d : Converting U) (n : ℕ) (child : Option InterfaceId) → P ids d.objects
      → One P ids d (with_new_argument client version d n child)
  converts_new ids d n None so = tt
  converts_new ids d n (Some i) so = grind (arith, is_valid_new, made_id, with_made, kinds_after, makes)

  goes_on : (d : Converting U) (done : List (Argument IdParts Token)) (args : List WireArgument)
      → ((next : Converting U) (more : List (Argument IdParts Token)) → SoFar P next more → Came P (convert client version next more args))
      → (r : Converted U) → One P (argument_ids done) d r → SoFar P d done
      → Came P (going_on r (length done) d.objects (λ b next. convert client version next (done ++ b ∷ []) args))
  goes_on d done args rest (Ok next) (one, more) (so, among) = grind (arith, argument_ids_both, among_first, argument_ids, among_later)
  goes_on d done args rest (Err w) one (so, among) = (argument_ids done, so)

  pub converts : (d : Converting U) (done : List (Argument IdParts Token)) (args : List WireArgument) → SoFar P d done
      → Came P (convert client version d done args)
  converts d done [] so = so
  converts d done (x ∷ args) so =
      goes_on d done args (λ next more so-far. converts next more args so-far) (convert_one client version d x)
      (grind (arith, converts_object, allows_null, eqb, converts_new, append-nil, argument_ids done, so.0)) so

module _ {T U G C : Type 0} (kind : Kind) (sends : T → Queue → Result ℕ IoFault → T → Type 0) (receives : T → ℕ → Result Queue IoFault → T → Type 0)
    (a : Around G C) where
  abbrev Move : Part T U C → Doings U → Part T U C → Type 0
  Move p d q = Go kind sends receives a.client p d q

  abbrev place : Core U C → LinkState T → Part T U C
  place c l = at kind sends receives a.client c l

  abbrev pub Lead : Core U C → List (Deed U) → Core U C → Type 0
  Lead c made e = Lands kind sends receives a.client c made e

  abbrev pub Come : Core U C → Verdict (Core U C) (Told U) → Type 0
  Come c v = Comes kind sends receives a.client c v

  -- ---- objects that are made

  -- from some objects to others, over any link
  abbrev Over : Core U C → Objects (Kept U) → List (HandedId IdParts) → Objects (Kept U) → Type 0
  Over c o ids o' = (l : LinkState T) → Move (place (with_objects c o) l) (handing ids) (place (with_objects c o') l)

  makes_object : (c : Core U C) (version : ℕ) (o : Objects (Kept U)) (n : ℕ) (i : InterfaceId) → is_valid_new o n ≡ true
      → Over c o (New (made_id a.client o n i) ∷ []) (with_made o n i version)
  makes_object c version o n i valid l = moved (born n (made_object o i version) (valid_new o n valid).0 (valid_new o n valid).1 refl refl refl)

  -- and no id of them is handed out
  unseen : {p q : Part T U C} {ids : List (HandedId IdParts)} → Move p (handing ids) q → Move p (handing []) q
  unseen moves = handed_out [] moves (λ id among. absurd among) refl

  -- ---- forms of a verdict

  -- it is kept how the client broke the protocol
  breaking_lands : MayRead kind a.table a.client → (c m : Core U C) (w : Violation) → Lead c [] m → Lead c [] (breaking m w)
  breaking_lands may c m w lead = record {
    moves = λ l. followed (lead.moves l) (moved (broke w may.reads refl refl)) (sym (joined_none _));
    calm = lead.calm;
  }

  pub garbled_comes : MayRead kind a.table a.client → (c : Core U C) (w : Violation) → c.ended ≡ None → Come c (garbled c w)
  garbled_comes may c w none =
      comes_silently kind sends receives a.client c (garbled c w)
      (lands_killed kind sends receives a.client c [] (breaking c w) ConnectionClosed kind.closes
      (breaking_lands may c c w (lands_not kind sends receives a.client c none))) (λ e. refl)
      (inl refl) refl

  breaks_comes : MayRead kind a.table a.client → (c m : Core U C) (w : Violation) (code : ℕ) (text : List ℕ) → Lead c [] m
      → Come c (breaks a m w code text)
  breaks_comes may c m w code text lead =
      comes_silently kind sends receives a.client c (breaks a m w code text) (breaking_lands may c m w lead) (λ e. refl)
      (inr (BrokeProtocol (error_of a.table (display_of a.client) code text), may.displays code text, refl)) refl

  -- whatever is put
  replies_comes : (c m : Core U C) (did : List (Deed U)) → Lead c did m → IsQuiet did → Come c (replies m [] did)
  replies_comes c m did lead quiet = (did, lead, λ e same. told_did did (stops_if e) (told_stops e), quiet, inl refl, inl refl)

  hands_out_comes : (c m : Core U C) (action : OpenAction) (h : Handed) → Lead c (Acted h ∷ []) (record m { action = Some action })
      → Come c (hands_out m action h)
  hands_out_comes c m action h lead = (Acted h ∷ [], lead, λ e same. refl, (refl, refl), inl refl, inl refl)

  -- ---- requests to a display and to a registry

  binds_comes : MayRead kind a.table a.client → (c : Core U C) (g version n : ℕ) (x : Object (KeptGlobal G)) → c.ended ≡ None
      → is_valid_new (objects_in c) n ≡ true → Come c (binds a c g version n x)
  binds_comes may c g version n x none valid =
      let id : IdParts = made_id a.client (objects_in c) n x.interface in
      hands_out_comes c (with_objects c (with_made (objects_in c) n x.interface version)) (opened.Bind id) (deeds.Bind (global_at g x) id)
      (lands_at kind sends receives a.client c (Acted (deeds.Bind (global_at g x) id) ∷ [])
      (record (with_objects c (with_made (objects_in c) n x.interface version)) { action = Some (opened.Bind id) }) none
      (λ l. followed (makes_object c version (objects_in c) n x.interface valid l)
      (moved (opens (opened.Bind id) (deeds.Bind (global_at g x) id) may.reads refl refl refl)) refl))

  hands_registry_comes : MayRead kind a.table a.client → (c : Core U C) (n : ℕ) → c.ended ≡ None → is_valid_new (objects_in c) n ≡ true
      → Come c (hands_registry a c n)
  hands_registry_comes may c n none valid =
      let id : IdParts = made_id a.client (objects_in c) n registry_id in
      hands_out_comes c (with_objects c (with_made (objects_in c) n registry_id 1)) (opened.Bind id) (deeds.Registry id)
      (lands_at kind sends receives a.client c (Acted (deeds.Registry id) ∷ [])
      (record (with_objects c (with_made (objects_in c) n registry_id 1)) { action = Some (opened.Bind id) }) none
      (λ l. followed (makes_object c 1 (objects_in c) n registry_id valid l)
      (moved (opens (opened.Bind id) (deeds.Registry id) may.reads refl refl refl)) refl))

  -- ---- other requests

  module _ (c : Core U C) (m : WireMessage) (receiver : Object (Kept U)) (row : MessageRow) (none : c.ended ≡ None)
      (holds : held c.store m.sender ≡ Some receiver)
      (other : eqb receiver.interface.0 registry_id.0 ≡ false) (may : MayRead kind a.table a.client) where
    -- the action is opened, its sender's id is made, and then those of its arguments
    hands_out_converted : (d : Converting U) (args : List (Argument IdParts Token))
        → ((e : Core U C) → SoFar (Over e (objects_in c)) d args)
        → Come c (converted a c m receiver row (Whole d args))
    hands_out_converted d args so =
        let id : IdParts = id_at a.client m.sender receiver in
        let action : OpenAction = opened.Request id row.is_destructor d.created in
        let h : Handed = deeds.Request id m.opcode args row.is_destructor d.created in
        let opening : Core U C = record c { action = Some action } in
        hands_out_comes c (with_objects c d.objects) action h
        (lands_at kind sends receives a.client c (Acted h ∷ []) (record (with_objects c d.objects) { action = Some action }) none
        (λ l. handed_out (all_action_ids (h ∷ []))
        (followed (moved {p = place c l} {q = place opening l} (opens action h may.reads ((receiver, holds, refl, other), refl, refl, refl) refl refl))
        (followed (moved {p = place opening l} {q = place opening l} (found m.sender receiver holds refl refl)) ((so opening).0 l) refl) refl)
        (among_args (Found id) (argument_ids args) (created_ids d.created) (so c).1) refl))

    converted_comes : (outcome : Outcome U) → ((e : Core U C) → Came (Over e (objects_in c)) outcome)
        → Come c (converted a c m receiver row outcome)
    converted_comes (Wrong place w objects) came =
        breaks_comes may c (with_objects c objects) _ 0 (fault_text a.table receiver.interface row w)
        (lands_at kind sends receives a.client c [] (with_objects c objects) none
        (λ l. unseen ((came c).1 l)))
    converted_comes (Whole d args) came = hands_out_converted d args came

    other_comes : Come c (other_request a c m receiver row)
    other_comes =
        elim (cases_Bool (nat_lt receiver.version row.since)) [
          | inl early ↦ rw early (breaks_comes may c c _ 1 _ (lands_not kind sends receives a.client c none))
          | inr ok ↦
              rw ok
              (converted_comes (convert a.client receiver.version (start (objects_in c) row) [] m.args)
              (λ e. converts a.client receiver.version (Over e (objects_in c))
              (λ ids o n i valid so l. followed (so l) (makes_object e receiver.version o n i valid l) refl)
              (λ ids o n x there so l. followed (so l) (moved (found n x there refl refl)) refl)
              (λ ids o so l. followed (so l) (moved (found_none refl refl)) refl)
              (start (objects_in c) row) [] m.args (λ l. stayed refl refl, λ id among. among)))
        ]

  -- ---- a message

  pub handles_comes : MayRead kind a.table a.client → (c : Core U C) (m : WireMessage) → c.ended ≡ None → Come c ((server a).handles c m)
  handles_comes may c m none =
      request_case a c (Come c) (λ w. garbled_comes may c w none) (λ w code text. breaks_comes may c c w code text (lands_not kind sends receives a.client c none))
      (λ n valid. replies_comes c (synced a c n) [] (lands_at kind sends receives a.client c [] (synced a c n) none
      (λ l. followed (unseen (makes_object c 1 (objects_in c) n callback_id valid l))
      (moved (went n (made_object (objects_in c) callback_id 1) true (stored_here c.store n (made_object (objects_in c) callback_id 1) n refl) refl
      (ap (λ (w : List (Happening U)). record (place (synced a c n) l) { waiting = w }) (sym (append-nil c.waiting))))) refl)) (refl, refl))
      (λ n valid. replies_comes c (with_registry a c n) (Remembered (new_at a c n) ∷ [])
      (lands_at kind sends receives a.client c (Remembered (new_at a c n) ∷ []) (with_registry a c n) none
      (λ l. followed (unseen (makes_object c 1 (objects_in c) n registry_id valid l))
      (moved (remembered n (made_object (objects_in c) registry_id 1)
      (stored_here c.store n (made_object (objects_in c) registry_id 1) n refl) refl refl refl)) refl)) (refl, refl))
      (λ n valid. hands_registry_comes may c n none valid) (λ g version n x valid. binds_comes may c g version n x none valid) m
      (λ receiver row holds other. other_comes c m receiver row none holds other may)
