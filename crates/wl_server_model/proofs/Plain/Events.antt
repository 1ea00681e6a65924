-- An event that the program sends.
use Rattle.wl_server_client.specs.declared.notes.Happening.{Happening}
use Rattle.std.proofs.Common.{◌≡◌, ℕ, Bool, true, false, cond, List, [], ◌∷◌, ◌++◌, append-nil, map, Option, None, Some, is_some, Result, Ok, Err, refl, sym, ap, ◌∙◌, true≢false, arith}
use mathlib.Core.Logic.{inl, inr}
use Rattle.std.specs.Prelude.{◌⊎◌, option_map, ◌≢◌}
use Rattle.wl_wire.specs.declared.argument.Argument.{Argument}
use Rattle.wl_wire.specs.declared.argument.ArgumentType.{ArgumentType}
use Rattle.wl_wire.specs.declared.argument.Token.{Token}
use Rattle.wl_wire.specs.declared.error.IoFault.{IoFault}
use Rattle.wl_wire.specs.declared.error.IoFault.TheVariants as fault
use Rattle.wl_wire.specs.declared.message.Message.{Message}
use Rattle.wl_wire.specs.declared.interface.InterfaceId.{InterfaceId}
use Rattle.wl_wire.specs.MessageRows.{event_row, left_after, next_interface}
use Rattle.wl_wire.specs.Table.{InterfaceRow, MessageRow}
use Rattle.wl_link.specs.declared.object.Object.{Object}
use Rattle.wl_link.specs.Exchange.{Queue, Sending}
use Rattle.wl_link.specs.Identity.{Id}
use Rattle.wl_link.specs.Refusals.{first_refusal}
use Rattle.wl_link.specs.Store.{Store, removed}
use Rattle.wl_server_client.specs.declared.error.EventError.{EventError}
use Rattle.wl_server_client.specs.declared.error.EventError.TheVariants as refused
use Rattle.wl_server_client.specs.declared.notes.DisconnectReason.TheVariants.{ConnectionClosed}
use Rattle.wl_server_client.specs.declared.notes.Happening.TheVariants.{Disconnected}
use Rattle.wl_server_client.specs.declared.objects.Kept.{Kept}
use Rattle.wl_server_model.specs.declared.step.Reply.TheVariants as reply
use Rattle.wl_server_model.specs.declared.step.Step.TheVariants as step
use Rattle.wl_server_model.specs.Backend.{BackendState, Calls}
use Rattle.wl_server_client.specs.Deeds.{Deed, Sent, left_if, notes_in}
use Rattle.wl_server_client.specs.Events.{SendsEvent, SendsGranted, SentAs, SessionMessage, argument_fault, argument_faults, checked_row, ends_closed, ends_sender, event_check, granted, session_content}
use Rattle.wl_server_model.specs.Identified.{waiting_of}
use Rattle.wl_server_client.specs.Ids.{ClientParts, IdParts, same_client}
use Rattle.wl_server_client.specs.Inside.Carried.{told_notes}
use Rattle.wl_server_model.specs.Lookups.{and_then, client_of}
use Rattle.wl_server_client.specs.Part.{Part, id_of, named, note_of_end}
use Rattle.wl_server_model.specs.PartStep.{World}
use Rattle.wl_server_model.specs.Plain.{IsUnchanged, OtherObjectsStay, client_in}
use Rattle.wl_server_model.specs.Plain.Events.{ChecksTo, EmitsEvent, EventIsPut, EventMemory, EventSentAs}
use Rattle.wl_server_model.specs.Server.{seen}
use Rattle.wl_server_client.specs.Telling.{Core, Did, Tells, closed_down, core_of, end_deeds}
use Rattle.wl_server_model.proofs.OverRuns.Moves.MovesOfCalls.{granted_named}
use Rattle.wl_server_model.proofs.Plain.Base.{IsOfOne, became, names_stay, refine, nothing_changes, nothing_new, of_one, split_bool, stored_stay, not_stored}
use Rattle.wl_server_client.proofs.ObjectCalls.Naming.{names_so, removed_named, removed_others}
use Rattle.wl_server_model.proofs.Plain.Verdicts.{IsTold, told}
use Rattle.wl_server_model.proofs.Plain.ReadingEnds.{split_result}

-- sends are no notes
behind_sends : {U : Type 0} (es : List Sending) (rest : List (Deed U)) → notes_in (map Sent es ++ rest) ≡ notes_in rest
behind_sends [] rest = refl
behind_sends (e ∷ es) rest = behind_sends es rest

-- nor is what is told of an object that left
left_silent : {U : Type 0} (kept : Bool) (id : Id) (u : Option U) → told_notes (cond kept [] (map Did (left_if id u))) ≡ []
left_silent kept id u = grind (arith)

-- ---- no check is refused for want of memory

module _ {U : Type 0} (client : ClientParts) (store : Store (Kept U)) where
  argument_calm : (row : MessageRow) (k : ArgumentType) (asked : InterfaceId) (x : Argument IdParts Token)
      → argument_fault client store row k asked x ≡ Some refused.OutOfMemory → ⊥
  argument_calm row k asked x is = grind (arith, k, x)

  arguments_calm : (row : MessageRow) (kinds : List ArgumentType) (asked : List InterfaceId) (args : List (Argument IdParts Token))
      → first_refusal (argument_faults client store row kinds asked args) ≡ Some refused.OutOfMemory → ⊥
  arguments_calm row [] asked args is = absurd cc
  arguments_calm row (k ∷ kinds) asked [] is = absurd cc
  arguments_calm row (k ∷ kinds) asked (x ∷ args) is =
      grind (arith, argument_calm, arguments_calm row kinds (left_after x asked) args, argument_fault client store row k (next_interface asked) x)

  never_memory : (table : List InterfaceRow) (m : SessionMessage) → event_check client store table m ≡ Err refused.OutOfMemory → ⊥
  never_memory table m is = grind (arith, arguments_calm, checked_row, event_row, named)

-- ---- of one client

module _ {T U C : Type 0} (sends : T → Queue → Result ℕ IoFault → T → Type 0) (client : ClientParts) (table : List InterfaceRow)
    (m : SessionMessage) where
  -- The event is put. If it ends its sender, that has left. The client lives on, or is closed down.
  record IsPut (p : Part T U C) (x : Object (Kept U)) (ends lacked : Bool) (notes : List (Happening U)) (q : Part T U C) : Type 0 where
    store_is : q.store ≡ cond ends (removed p.store m.sender.number) p.store
    waiting_is : q.waiting ≡ p.waiting ++ cond ends (note_of_end client m.sender.number x) []
    told : ((q.is_killed ≡ false) × (lacked ≡ false) × (notes ≡ [])) ⊎ ((q.is_killed ≡ true) × (notes ≡ Disconnected ConnectionClosed ∷ []))

  -- what the call is of a client that is stored: nothing, as it is killed, or the event is refused; or the event is granted, and there
  -- is no memory for it, or it is put
  data Comes (answer : Result (Unit {0}) EventError) (lacked : Bool) (did : List (Deed U)) (p q : Part T U C) : Type 0 where
    is_dropped : p.is_killed ≡ true → answer ≡ Ok tt → lacked ≡ false → did ≡ [] → q ≡ p → Comes answer lacked did p q
    is_denied : (e : EventError) → e ≢ refused.OutOfMemory → p.is_killed ≡ false → event_check client p.store table m ≡ Err e → answer ≡ Err e
        → lacked ≡ false → did ≡ [] → q ≡ p → Comes answer lacked did p q
    is_kept : (x : Object (Kept U)) (ends : Bool) → p.is_killed ≡ false → event_check client p.store table m ≡ Ok (x, ends)
        → answer ≡ Err refused.OutOfMemory → lacked ≡ true
        → core_of q ≡ core_of p → notes_in did ≡ [] → Comes answer lacked did p q
    is_put : (x : Object (Kept U)) (ends : Bool) → p.is_killed ≡ false → event_check client p.store table m ≡ Ok (x, ends) → answer ≡ Ok tt
        → IsPut p x ends lacked (notes_in did) q
        → Comes answer lacked did p q

  quiet : (ends : Bool) (c d : Core U C) (x : Object (Kept U)) → told_notes ((ends_sender client c m x ends).events d) ≡ []
  quiet true c d x = left_silent (is_some (named d.store m.sender)) (id_of m.sender) x.value.user_data
  quiet false c d x = refl

  module _ (p q : Part T U C) (live : p.is_killed ≡ false) (x : Object (Kept U)) (ends lacked : Bool) (did : List (Deed U)) where
    put_told : IsTold (ends_sender client (core_of p) m x ends) lacked did q → IsPut p x ends lacked (notes_in did) q
    put_told t = grind (arith, ends, cond, notes_in, end_deeds, append-nil, closed_down, true≢false, quiet)

    -- the event could not be put: the client is closed down
    put_closed : IsTold (ends_closed client (core_of p) m x ends) lacked did q → IsPut p x ends lacked (notes_in did) q
    put_closed t = grind (arith, ends, cond, notes_in, end_deeds, append-nil, closed_down, true≢false, quiet)

  granted_comes : (p q : Part T U C) (x : Object (Kept U)) (ends : Bool) (answer : Result (Unit {0}) EventError) (lacked : Bool) (did : List (Deed U))
      → p.is_killed ≡ false
      → event_check client p.store table m ≡ Ok (x, ends) → SendsGranted sends client p m x ends answer lacked did q → Comes answer lacked did p q
  granted_comes p q x ends answer lacked did live is (inl (asks, says, lacks, none, same)) =
      is_kept x ends live is says lacks (ap core_of same) (ap notes_in none)
  granted_comes p q x ends answer lacked did live is (inr (es, rest, wrote, link, by, sent, did_so)) = at wrote sent
    where
      silent : notes_in did ≡ notes_in rest
      silent = ap notes_in did_so ∙ behind_sends es rest

      closed : Tells sends (ends_closed client (core_of p) m x ends) link lacked rest q → answer ≡ Ok tt → Comes answer lacked did p q
      closed tells' says = is_put x ends live is says (rw silent (put_closed p q live x ends lacked rest (told sends _ link lacked rest q tells')))

      at : (wrote : Result (Unit {0}) IoFault) → SentAs sends client p m x ends wrote link answer lacked rest q → Comes answer lacked did p q
      at (Ok u) (more, tells', says, put_so) = is_put x ends live is says
          (rw (silent ∙ ap notes_in put_so) (put_told p q live x ends lacked more (told sends _ link lacked more q tells')))
      at (Err fault.OutOfMemory) (says, lacks, none, same) = is_kept x ends live is says lacks (ap core_of same) (silent ∙ ap notes_in none)
      at (Err other) sent = closed sent.0 sent.1

  comes_to : (answer : Result (Unit {0}) EventError) (lacked : Bool) (did : List (Deed U)) (p q : Part T U C)
      → SendsEvent sends client table p m answer lacked did q → Comes answer lacked did p q
  comes_to answer lacked did p q h =
      elim (split_bool p.is_killed h) [
        | inl (dead, (is, calm, none, same)) ↦ is_dropped dead is calm none same
        | inr (live, checked) ↦
            elim (split_result (event_check client p.store table m) checked) [
              | inl (g, is, granted) ↦ granted_comes p q g.0 g.1 answer lacked did live is granted
              | inr (e, is, (answered, calm, none, same)) ↦
                  is_denied e (λ memory. never_memory client p.store table m (rw memory at is)) live is answered calm none same
            ]
      ]

-- ---- the call

module _ {T U G C : Type 0} (w : World T G C) (before after : BackendState T U G C) (message : Message IdParts Token)
    (answer : Result (Unit {0}) EventError) where
  abbrev m : SessionMessage
  m = session_content message

  abbrev client : ClientParts
  client = message.sender_id.client

  module _ (one : IsOfOne before after client (Comes w.sends client before.server.offer.table m answer) (answer ≡ Err refused.InvalidId)) where
    sent_as : EventSentAs before m answer after
    sent_as =
        elim one.own [
          | not_stored none is calm same ↦ rw is (inl (none, refl), nothing_changes one same)
          | became p q did there comes same ↦
              elim comes [
                | is_dropped dead is calm none stays ↦
                    rw is (inl (ap (option_map (λ (y : Part T U C). y.is_killed)) there ∙ ap Some dead, nothing_changes one (nothing_new _ _ p q did there stays (ap notes_in none) same)))
                | is_denied e other live check is calm none stays ↦
                    rw is (was_denied e other
                    (inr (p, there, live, check), nothing_changes one (nothing_new _ _ p q did there stays (ap notes_in none) same)))
                | is_kept x ends live check is lacks core silent ↦ rw is
                    (((x, ends), (p, there, live, check)), lacks, (grind (arith, option_map, core_of)), (grind (arith, append-nil)))
                | is_put x ends live check is so ↦ rw is (inr (x, ends, (p, there, live, check), event_put p q x ends did there same live check so))
              ]
        ]
      where
        was_denied : (e : EventError) → (e ≡ refused.OutOfMemory → ⊥)
            → (((client_in before m.sender.client ≡ None) × (e ≡ refused.InvalidId)) ⊎ ChecksTo before m (Err e)) × IsUnchanged before after
            → EventSentAs before m (Err e) after
        was_denied refused.OutOfMemory never so = absurd (never refl)
        was_denied _ never so = so

        event_put : (p q : Part T U C) (x : Object (Kept U)) (ends : Bool) (did : List (Deed U)) → client_of before.server client ≡ Some p
            → seen client after.server ≡ record { part = Some q; made = (seen client before.server).made ++ notes_in did } → p.is_killed ≡ false
            → event_check client p.store before.server.offer.table m ≡ Ok (x, ends)
            → IsPut w.sends client before.server.offer.table m p x ends after.refused (notes_in did) q → EventIsPut before m.sender x ends after
        event_put p q x ends did there same live check put' =
            grind (arith, and_then, named, m, waiting_of, cond, note_of_end, client, option_map, seen, append-nil, removed_named, granted_named client p.store before.server.offer.table m (x, ends) check)

    -- another id of the client names what it named
    others_stay : OtherObjectsStay before m.sender after
    others_stay other differ = names_stay one other
        (grind (arith, removed_others, names_so, granted_named, named, true≢false, same_client client other.client))

    event_memory : EventMemory before client answer after
    event_memory =
        elim one.own [
          | not_stored none is calm same ↦ rw is calm
          | became p q did there comes same ↦
              elim comes [
                | is_dropped dead is calm none stays ↦ rw is (λ lacks. absurd (true≢false (sym lacks ∙ calm)))
                | is_denied e other live check is calm none stays ↦ rw is (grind (arith, e, calm, other))
                | is_kept x ends live check is lacks core silent ↦ rw is lacks
                | is_put x ends live check is so ↦ rw is (λ lacks. (grind (arith, option_map, true≢false)))
              ]
        ]

module _ {T U G C : Type 0} (w : World T G C) (before after : BackendState T U G C) (message : Message IdParts Token) where
  pub emits_event : (answer : Result (Unit {0}) EventError) → Calls w before (step.SendEvent message) (reply.SendEvent answer) after
      → EmitsEvent before (session_content message) answer after
  emits_event answer call = record {
    event = sent_as w before after message answer one;
    objects = others_stay w before after message answer one;
    clients = one.clients;
    stored = stored_stay one;
    globals = one.globals;
    memory = event_memory w before after message answer one;
  }
    where
      one : IsOfOne before after message.sender_id.client
          (Comes w.sends message.sender_id.client before.server.offer.table (session_content message) answer) (answer ≡ Err refused.InvalidId)
      one = refine (of_one call.step message.sender_id.client (λ id lacked did p q. SendsEvent w.sends id before.server.offer.table p (session_content message) answer lacked did q) _
          (λ id s t lacked did (r, is, h). let e : r ≡ answer = cc in rw e at h) refl refl refl) (comes_to w.sends message.sender_id.client before.server.offer.table (session_content message) answer)
