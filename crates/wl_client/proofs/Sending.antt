-- What a request that is sent changes, from the steps of its sending.
use Rattle.std.proofs.Common.{◌≡◌, ℕ, ◌++◌, ◌∷◌, [], List, Bool, true, false, eqb, cond, Option, Some, None, IfSome, is_some, map, option_map, Result, Ok, Err, MatchBool, refl, sym, ap, ◌∙◌, subst, inr}
use Rattle.std.specs.Result.{is_err}
use Rattle.std.proofs.lemmas.Bool.{false≢true, true≢false}
use Rattle.wl_wire.specs.declared.error.IoFault.{IoFault}
use Rattle.wl_wire.specs.declared.error.OutOfMemory.{OutOfMemory}
use Rattle.wl_wire.specs.declared.argument.Argument.{Argument}
use Rattle.wl_wire.specs.declared.argument.Argument.TheVariants as arg
use Rattle.wl_wire.specs.declared.argument.Token.{Token}
use Rattle.wl_wire.specs.declared.message.Message.{Message}
use Rattle.wl_wire.specs.Argument.{WireArgument}
use Rattle.wl_wire.specs.MapIds.{numbered, with_ids}
use Rattle.wl_wire.specs.Message.{WireMessage}
use Rattle.wl_link.specs.declared.object.Object.{Object}
use Rattle.wl_link.specs.Exchange.{Queue}
use Rattle.wl_link.specs.Identity.{Id, named_in}
use Rattle.wl_link.specs.Link.{LinkState, Wrote}
use Rattle.wl_link.specs.Store.{Store, held}
use Rattle.wl_link.proofs.Ids.StoreLaws.{stored_other}
use Rattle.wl_link.specs.Puts.{lacks_memory}
use Rattle.wl_client.specs.declared.error.RequestError.{RequestError}
use Rattle.wl_client.specs.declared.error.RequestError.TheVariants as refused
use Rattle.wl_client.specs.declared.error.WaylandError.{WaylandError}
use Rattle.wl_client.specs.declared.objects.Kept.{Kept}
use Rattle.wl_client.specs.declared.objects.Note.{Note}
use Rattle.wl_client.specs.declared.objects.Note.TheVariants.{Destroyed}
use Rattle.wl_client.specs.ObjectId.{IdParts}
use Rattle.wl_client.specs.Requests.{SessionMessage, Spec, Numbered, session_content, wire_argument, wire_message, number_of_new, id_of_new, ended_by, error_after, with_born, with_ended, Sent, SentWithChild, new_child}
use Rattle.wl_client.specs.Inside.Sending.{IsNext, IsNextObject, WrittenTo, store_with, serial_with, ended_of, given_up_at, store_ending, notes_ending}
use Rattle.wl_client.specs.Session.{SessionState, serial_of, named, noted, id_at}

-- ---- what a number holds

chosen : {X : Type 0} (b : Bool) (y x : X) → cond b (Some y) None ≡ Some x → y ≡ x
chosen true y x e = cc
chosen false y x e = absurd cc

module _ {U : Type 0} where
  found : (id : Id) (h : Option (Object (Kept U))) (x : Object (Kept U)) → named_in serial_of id h ≡ Some x → h ≡ Some x
  found id None x e = absurd cc
  found id (Some y) x e = ap Some (chosen (eqb (serial_of y.value) id.serial) y x e)

  not_null : (b : Bool) (id : Id) (h : Option (Object (Kept U))) (x : Object (Kept U)) → cond b None (named_in serial_of id h) ≡ Some x → h ≡ Some x
  not_null true id h x e = absurd cc
  not_null false id h x e = found id h x e

  -- an object that an id names is the one at the id's number
  named_held : (store : Store (Kept U)) (id : IdParts) (x : Object (Kept U)) → named store id ≡ Some x → held store id.number ≡ Some x
  named_held store id x e = not_null (eqb id.number 0) (record { number = id.number; serial = id.serial }) (held store id.number) x e

  -- a new object is not put where there is one
  still_held : (store : Store (Kept U)) (last : ℕ) (new : Option (Numbered U)) (k : ℕ) (x : Object (Kept U)) → IfSome new (IsNext store last)
      → held store k ≡ Some x → held (store_with store new) k ≡ Some x
  still_held store last None k x next here = here
  still_held store last (Some new) k x next here =
      stored_other store new.0 new.1 k
      (λ e. let none : Some x ≡ None = sym here ∙ ap (held store) e ∙ next.number.absent in absurd cc)
      ∙ here

  sender_held : (store : Store (Kept U)) (last : ℕ) (new : Option (Numbered U)) (m : SessionMessage) (sender : Option (Object (Kept U)))
      → IfSome new (IsNext store last) → named store m.sender ≡ sender
      → IfSome {T = Numbered U} (option_map (λ x. (m.sender.number, x)) sender) (λ e. held (store_with store new) e.0 ≡ Some e.1)
  sender_held store last new m None next is = tt
  sender_held store last new m (Some x) next is = still_held store last new m.sender.number x next (named_held store m.sender x is)

  -- a sender that ends is still at its number
  ended_held : (store : Store (Kept U)) (last : ℕ) (new : Option (Numbered U)) (m : SessionMessage) (is_destructor : Bool)
      → IfSome new (IsNext store last) → IfSome (ended_by store m is_destructor) (λ e. held (store_with store new) e.0 ≡ Some e.1)
  ended_held store last new m false next = tt
  ended_held store last new m true next = sender_held store last new m (named store m.sender) next refl

  noted_is : (notes : List Note) (u : Option U) (id : IdParts) → cond (is_some u) (notes ++ Destroyed id ∷ []) notes ≡ noted notes u id
  noted_is notes None id = refl
  noted_is notes (Some u) id = refl

-- ---- the message that is written

request_argument : (n : ℕ) (a : Argument IdParts Token) → with_ids (λ id. id.number) (λ _. n) a ≡ wire_argument n a
request_argument n (arg.Int z) = refl
request_argument n _ = refl

request_arguments : (n : ℕ) (args : List (Argument IdParts Token)) → map (with_ids (λ id. id.number) (λ _. n)) args ≡ map (wire_argument n) args
request_arguments n [] = refl
request_arguments n (a ∷ args) = rw (request_argument n a, request_arguments n args) refl

-- where each id has its own number, but the new object this one
pub request_numbered : (n : ℕ) (m : Message IdParts Token) → numbered (λ id. id.number) (λ _. n) m ≡ wire_message n (session_content m)
request_numbered n m =
    ap (λ (args : List WireArgument). record { sender = m.sender_id.number; opcode = m.opcode; args = args }) (request_arguments n m.args.items)

-- ---- the session after it

module _ {T U : Type 0} where
  -- the session with the new object and without the sender that ends
  abbrev changed : SessionState T U → Option (Numbered U) → Option (Numbered U) → SessionState T U
  changed s new ended = record s {
    store = store_ending (store_with s.store new) (ended_of ended);
    last_serial = serial_with s.last_serial new;
    notes = notes_ending s.notes (ended_of ended);
  }

  changed_is : (s : SessionState T U) (new ended : Option (Numbered U)) → IfSome ended (λ e. held (store_with s.store new) e.0 ≡ Some e.1)
      → changed s new ended ≡ with_ended (with_born s new) ended
  changed_is s None None here = refl
  changed_is s (Some new) None here = refl
  changed_is s None (Some e) here =
      ap (λ (store : Store (Kept U)). record s { store = store; notes = notes_ending s.notes (ended_of (Some e)) })
      (ap (given_up_at s.store e.0) here)
      ∙ ap (λ (notes : List Note). record s { store = given_up_at s.store e.0 (Some e.1); notes = notes })
      (noted_is s.notes e.1.value.user_data (id_at e.0 e.1))
  changed_is s (Some new) (Some e) here =
      let born = with_born s (Some new) in
      ap (λ (store : Store (Kept U)). record born { store = store; notes = notes_ending s.notes (ended_of (Some e)) })
      (ap (given_up_at born.store e.0) here)
      ∙ ap (λ (notes : List Note). record born { store = given_up_at born.store e.0 (Some e.1); notes = notes })
      (noted_is s.notes e.1.value.user_data (id_at e.0 e.1))

  module _ (sends : T → Queue → Result ℕ IoFault → T → Type 0) (before : SessionState T U) (m : SessionMessage) (new : Option (Numbered U))
      (wire : WireMessage) (written : Result (Unit {0}) OutOfMemory) (link : LinkState T) (error : Option WaylandError)
      (wire-is : wire ≡ wire_message (number_of_new new) m) (wrote : WrittenTo sends before.link before.error wire written link error) where
    abbrev no_memory : Result IdParts RequestError
    no_memory = Err refused.OutOfMemory

    abbrev done_with : Result IdParts RequestError
    done_with = Ok (id_of_new new)

    lacked : (b : Bool) (ended : Option (Numbered U)) (answer : Option WaylandError)
        → MatchBool b ((written ≡ Err _) × (error ≡ before.error)) ((written ≡ Ok tt) × (error ≡ answer)) → is_err written ≡ true
        → MatchBool b ((no_memory ≡ no_memory) × (record before { link = link; error = error } ≡ record before { link = link }))
        ((no_memory ≡ Ok (id_of_new new))
        × (record before { link = link; error = error } ≡ with_ended (with_born (record before { link = link; error = answer }) new) ended))
    lacked true ended answer h failed = (refl, ap (λ (e : Option WaylandError). record before { link = link; error = e }) h.1)
    lacked false ended answer h failed = absurd (false≢true (sym (ap is_err h.0) ∙ failed))

    -- there was no memory for the write
    pub sent_lacking : (ended : Option (Numbered U)) (store : Store (Kept U)) (notes : List Note)
        → store ≡ before.store → notes ≡ before.notes → is_err written ≡ true
        → Sent sends before m new ended (Err refused.OutOfMemory) (record before { link = link; error = error; store = store; notes = notes })
    sent_lacking ended store notes store-is notes-is failed =
        rw (store-is, notes-is)
        (inr
        (wrote.0, link, subst (λ (w : WireMessage). Wrote sends before.link w wrote.0 link) wire-is wrote.1, lacked (lacks_memory wrote.0) ended (error_after before.error wrote.0) wrote.2 failed))

    done : (b : Bool) (ended : Option (Numbered U)) (answer : Option WaylandError) (after : SessionState T U)
        → after ≡ with_ended (with_born (record before { link = link; error = error }) new) ended
        → MatchBool b ((written ≡ Err _) × (error ≡ before.error)) ((written ≡ Ok tt) × (error ≡ answer)) → is_err written ≡ false
        → MatchBool b ((done_with ≡ Err refused.OutOfMemory) × (after ≡ record before { link = link }))
        ((done_with ≡ Ok (id_of_new new))
        × (after ≡ with_ended (with_born (record before { link = link; error = answer }) new) ended))
    done true ended answer after is h went = absurd (true≢false (sym (ap is_err h.0) ∙ went))
    done false ended answer after is h went =
        (refl, is ∙ ap (λ (e : Option WaylandError). with_ended (with_born (record before { link = link; error = e }) new) ended) h.1)

    -- the message is written
    pub sent_done : (is_destructor : Bool) (id : IdParts) (last_serial : ℕ) (roomy put store : Store (Kept U)) (room notes : List Note)
        (ended : Option (IdParts × Bool))
        → IfSome new (IsNext before.store before.last_serial) → ended ≡ ended_of (ended_by before.store m is_destructor)
        → roomy ≡ before.store → put ≡ store_with roomy new → store ≡ store_ending put ended
        → room ≡ before.notes → notes ≡ notes_ending room ended
        → last_serial ≡ serial_with before.last_serial new → id ≡ id_of_new new → is_err written ≡ false
        → Sent sends before m new (ended_by before.store m is_destructor) (Ok id)
        (record before { link = link; error = error; store = store; last_serial = last_serial; notes = notes })
    sent_done is_destructor id last_serial roomy put store room notes ended_of-value next ended_of-is roomy-is put-is store-is room-is notes-is serial-is id-is went =
        let ended = ended_by before.store m is_destructor in
        let after : SessionState T U = record before { link = link; error = error } in
        let here = ended_held before.store before.last_serial new m is_destructor next in
        rw (store-is, put-is, roomy-is, serial-is, notes-is, room-is, ended_of-is, id-is)
        (inr
        (wrote.0, link, subst (λ (w : WireMessage). Wrote sends before.link w wrote.0 link) wire-is wrote.1, done (lacks_memory wrote.0) ended (error_after before.error wrote.0) _ (changed_is after new ended here) wrote.2 went))

  -- a request that creates an object is sent with it
  pub sent_with_child : (sends : T → Queue → Result ℕ IoFault → T → Type 0) (before mid after : SessionState T U) (m : SessionMessage) (child : Spec) (u : U)
      (is_destructor : Bool) (new : Numbered U) (answer : Result IdParts RequestError)
      → IsNextObject before child u new → mid ≡ before
      → Sent sends mid m (Some new) (ended_by mid.store m is_destructor) answer after
      → SentWithChild sends before m child u (ended_by before.store m is_destructor) answer after
  sent_with_child sends before mid after m child u is_destructor new answer next mid-is sent =
      let ended = ended_by before.store m is_destructor in
      let one = subst (λ (s : SessionState T U). Sent sends s m (Some new) (ended_by s.store m is_destructor) answer after) mid-is sent in
      let two = subst (λ (x : Object (Kept U)). Sent sends before m (Some (new.0, x)) ended answer after) next.2 one in
      let three = subst (λ b. MatchBool b ((answer ≡ Err refused.SerialsExhausted) × (after ≡ before)) (Sent sends before m (Some (new.0, new_child before child u)) ended answer after)) (sym next.1) two in
      inr (new.0, next.0, three)
