-- A registry that is watched over the readings of its client.
use Rattle.std.proofs.Common.{◌≡◌, ◌≢◌, ℕ, Bool, true, false, cond, eqb, List, [], ◌∷◌, ◌++◌, append-nil, Some, Result, refl, sym, subst, true≢false, arith}
use mathlib.Core.Logic.{inl}
use Rattle.std.specs.Prelude.{nat_lt}
use Rattle.wl_wire.specs.declared.error.IoFault.{IoFault}
use Rattle.wl_wire.specs.Message.{WireMessage}
use Rattle.wl_wire.specs.Table.{MessageRow, callback_id, name_of, registry_id}
use Rattle.wl_link.specs.declared.object.Object.{Object}
use Rattle.wl_link.proofs.Calls.Branches.{either_bool, either_option, either_result}
use Rattle.wl_link.specs.Exchange.{Queue, Sending}
use Rattle.wl_link.specs.Identity.{HandedId, Id, Objects}
use Rattle.wl_link.specs.Link.{LinkState, count_of, counted_answer}
use Rattle.wl_link.specs.Puts.{Said}
use Rattle.wl_link.specs.Reader.{CarriesOut, Given, Gives, Handled, Reads, Received, Turn, Unread, Verdict, with_link, ReaderState}
use Rattle.wl_link.specs.Store.{held}
use Rattle.wl_link.proofs.Ids.StoreLaws.{stored_here}
use Rattle.wl_server_client.specs.declared.reading.action.OpenAction.{OpenAction}
use Rattle.wl_server_client.specs.declared.reading.action.OpenAction.TheVariants as opened
use Rattle.wl_server_client.specs.declared.reading.action.Reading.{Reading}
use Rattle.wl_server_client.specs.declared.error.ActionError.{ActionError}
use Rattle.wl_server_client.specs.declared.objects.Kept.{Kept}
use Rattle.wl_server_client.specs.declared.globals.KeptGlobal.{KeptGlobal}
use Rattle.wl_server_client.specs.declared.reading.violation.Violation.{Violation}
use Rattle.wl_server_model.proofs.OverRuns.Announced.AnnouncementLaws.{AreOfOthers}
use Rattle.wl_server_client.specs.Deeds.{Deed, Handed, Remembered, log_of, registries_in}
use Rattle.wl_server_client.specs.Deeds as deeds
use Rattle.wl_server_client.specs.Errors.{fault_text, since_text}
use Rattle.wl_server_client.specs.Globals.{Offer, global_at}
use Rattle.wl_server_client.specs.Ids.{ClientParts, GlobalParts, IdParts}
use Rattle.wl_server_model.proofs.OverRuns.Moves.MovesOfReadings.{gave_none}
use Rattle.wl_server_model.proofs.OverRuns.Moves.MovesOfRequests.{Came, converts, valid_new}
use Rattle.wl_server_client.specs.Part.{Part, id_at, id_of}
use Rattle.wl_server_client.specs.Reading.{Around, NextAction, binds, breaks, converted, faulted, garbled, hands_out, hands_registry, new_at, other_request, replies, sent_to, server, stops_if, synced, syncs, with_registry}
use Rattle.wl_server_model.proofs.OverRuns.Announced.RequestCases.{request_case}
use Rattle.wl_server_client.specs.Requests.{Outcome, Whole, Wrong, convert, is_valid_new, made_id, made_object, start, with_made}
use Rattle.wl_server_client.specs.Telling.{Core, Told, deeds_in, delete_message, deletions, done_message, objects_in, reader_part, with_objects}
use Rattle.wl_server_client.specs.Violations.{violation}
use Rattle.wl_server_client.specs.declared.reading.violation.MessageFault.TheVariants as message
use Rattle.wl_server_model.proofs.OverRuns.Announced.WatchedVerdicts.{CoreLives, Forms, Leads, PartLives, carried_to, log_both, registries_both, turned, verdict_lives, told_replies}
use Rattle.wl_server_model.proofs.OverRuns.Announced.Watching.{Goes, Scene, born_goes, goes_then, kept_other, others_goes, part_scene, registers_goes, scene_of, set_action_goes, steady_same, went_goes, goes_not, goes_on, goes_so, steady}
use Rattle.wl_server_client.proofs.Readings.OneMessage.{deeds_append}

-- the messages that a display sends are of no registry
pub deletions_other : (r : Id) (n : ℕ) → ((k : ℕ) → record { number = k; serial = 0 } ≢ r) → AreOfOthers r (deletions n)
deletions_other r n display = go _
  where
    go : (b : Bool) → AreOfOthers r (cond b [] (delete_message n ∷ []))
    go true = tt
    go false = (display 1, tt)

-- what a reading asks beside its client
abbrev around_of : {G C : Type 0} → (G → ClientParts → C → GlobalParts → Bool) → ClientParts → Offer G → Around G C
around_of views client offer = record {
  table = offer.table;
  client = client;
  globals = offer.globals;
  views = views;
  object_limit = offer.object_limit;
  hands_registries = offer.hands_registries;
}

module _ {G C : Type 0} (views : G → ClientParts → C → GlobalParts → Bool) (client : ClientParts) (r : Id) {U : Type 0} (offer : Offer G) where
  abbrev Change : Scene U C → List Said → List Id → Scene U C → Type 0
  Change s put regs t = Goes views client r offer offer s put regs t

  -- a verdict that is carried out over the client
  record Handles (c : Core U C) (v : Verdict (Core U C) (Told U)) : Type 0 where
    forms : Forms c v
    leads : Leads views client r offer c v

  -- ---- verdicts that end the client

  garbled_handles : (c : Core U C) (w : Violation) → Handles c (garbled c w)
  garbled_handles c w = grind (arith, goes_not, scene_of)

  breaks_handles : (c m : Core U C) (w : Violation) (code : ℕ) (text : List ℕ)
      → Handles c (breaks (around_of views client offer) m w code text)
  breaks_handles c m w code text = grind (arith, goes_not, scene_of)

  -- ---- verdicts that answer

  replies_handles : (c m : Core U C) (puts : List Said) (did : List (Deed U)) → log_of did ≡ []
      → Change (scene_of c) puts (registries_in did) (scene_of m)
      → Handles c (replies m puts did)
  replies_handles c m puts did quiet goes = grind (arith, goes_so, scene_of, registries_in, stops_if, told_replies)

  hands_out_handles : (c m : Core U C) (action : OpenAction) (h : Handed) → Change (scene_of c) [] [] (scene_of (record m { action = Some action }))
      → Handles c (hands_out m action h)
  hands_out_handles c m action h goes = grind (arith, scene_of)

  -- ---- a display's

  syncs_handles : (c : Core U C) (n : ℕ) → is_valid_new (objects_in c) n ≡ true → Handles c (syncs (around_of views client offer) c n)
  syncs_handles c n valid =
      replies_handles c after says [] refl
      (goes_then views client r offer (scene_of c) made (scene_of after) [] says [] []
      (born_goes views client r offer (scene_of c) n x (valid_new (objects_in c) n valid).0 refl)
      (goes_on views client r offer made made (scene_of after) says []
      (grind (arith, others_goes, made, says, done_message, new_at, around_of, deletions, kept_other, x, stored_here, deletions_other))
      (went_goes views client r offer made n x (stored_here c.store n x n refl)
      (λ told regs w is. kept_other views client r offer made told regs w (inl is) n x (stored_here c.store n x n refl) refl))))
    where
      x : Object (Kept U)
      x = made_object (objects_in c) callback_id 1

      made : Scene U C
      made = scene_of (with_objects c (with_made (objects_in c) n callback_id 1))

      after : Core U C
      after = synced (around_of views client offer) c n

      says : List Said
      says = done_message (new_at (around_of views client offer) c n) ∷ deletions n

  -- ---- a registry's

  binds_handles : (c : Core U C) (g version n : ℕ) (x : Object (KeptGlobal G)) → is_valid_new (objects_in c) n ≡ true
      → Handles c (binds (around_of views client offer) c g version n x)
  binds_handles c g version n x valid =
      hands_out_handles c made (opened.Bind id) (deeds.Bind (global_at g x) id)
      (goes_then views client r offer (scene_of c) (scene_of made) (scene_of (record made { action = Some (opened.Bind id) })) [] [] [] []
      (born_goes views client r offer (scene_of c) n (made_object (objects_in c) x.interface version) (valid_new (objects_in c) n valid).0 refl)
      (set_action_goes views client r offer (scene_of made) (Some (opened.Bind id)) (λ sender b created is. cc)))
    where
      id : IdParts
      id = made_id client (objects_in c) n x.interface

      made : Core U C
      made = with_objects c (with_made (objects_in c) n x.interface version)

  -- nothing is announced on a registry that is handed out, and it is none of those that are watched
  hands_registry_handles : (c : Core U C) (n : ℕ) → is_valid_new (objects_in c) n ≡ true
      → Handles c (hands_registry (around_of views client offer) c n)
  hands_registry_handles c n valid =
      hands_out_handles c made (opened.Bind id) (deeds.Registry id)
      (goes_then views client r offer (scene_of c) (scene_of made) (scene_of (record made { action = Some (opened.Bind id) })) [] [] [] []
      (born_goes views client r offer (scene_of c) n (made_object (objects_in c) registry_id 1) (valid_new (objects_in c) n valid).0 refl)
      (set_action_goes views client r offer (scene_of made) (Some (opened.Bind id)) (λ sender b created is. cc)))
    where
      id : IdParts
      id = made_id client (objects_in c) n registry_id

      made : Core U C
      made = with_objects c (with_made (objects_in c) n registry_id 1)

  -- ---- other requests

  -- from some objects to others, whatever ids came up
  abbrev Over : Core U C → Objects (Kept U) → List (HandedId IdParts) → Objects (Kept U) → Type 0
  Over c o ids o' = Change (scene_of (with_objects c o)) [] [] (scene_of (with_objects c o'))

  module _ (c : Core U C) (m : WireMessage) (receiver : Object (Kept U)) (row : MessageRow) (holds : held c.store m.sender ≡ Some receiver)
      (other : eqb receiver.interface.0 registry_id.0 ≡ false) where
    abbrev id : IdParts
    id = id_at client m.sender receiver

    -- the action is open, and then the arguments make their objects
    converted_handles : (outcome : Outcome U) → ((e : Core U C) → Came (Over e (objects_in c)) outcome)
        → Handles c (converted (around_of views client offer) c m receiver row outcome)
    converted_handles (Wrong place w objects) came =
        breaks_handles c (with_objects c objects) _ 0 (fault_text offer.table receiver.interface row w)
    converted_handles (Whole d args) came =
        let opening : Core U C = record c { action = Some (opened.Request id row.is_destructor d.created) } in
        hands_out_handles c (with_objects c d.objects) (opened.Request id row.is_destructor d.created) _
        (goes_then views client r offer (scene_of c) (scene_of opening) (scene_of (with_objects opening d.objects)) [] [] [] []
        (steady views client r offer (scene_of c) (scene_of opening) refl (λ told made w. (grind (arith, id_of, scene_of c, row.is_destructor, d.created)))) (came opening).0)

    other_handles : Handles c (other_request (around_of views client offer) c m receiver row)
    other_handles = go (nat_lt receiver.version row.since)
      where
        go : (b : Bool) → Handles c (cond b
            (breaks (around_of views client offer) c (violation (sent_to m receiver) (message.SinceLater receiver.version row.since)) 1
            (since_text m.opcode receiver.version row.since (name_of offer.table receiver.interface.0) m.sender))
            (converted (around_of views client offer) c m receiver row (convert client receiver.version (start (objects_in c) row) [] m.args)))
        go true = breaks_handles c c _ 1 _
        go false =
            converted_handles (convert client receiver.version (start (objects_in c) row) [] m.args)
            (λ e. converts client receiver.version (Over e (objects_in c))
            (λ ids o n i valid so. goes_then views client r offer _ _ _ [] [] [] [] so
            (born_goes views client r offer (scene_of (with_objects e o)) n (made_object o i receiver.version) (valid_new o n valid).0 refl))
            (λ ids o n x there so. so) (λ ids o so. so) (start (objects_in c) row) [] m.args
            (steady_same views client r offer (scene_of (with_objects e (objects_in c))), λ id among. among))

  handles : (c : Core U C) (m : WireMessage) → Handles c ((server (around_of views client offer)).handles c m)
  handles c m =
      request_case (around_of views client offer) c (Handles c) (garbled_handles c) (λ w code text. breaks_handles c c w code text) (syncs_handles c)
      (λ n valid. replies_handles c (with_registry (around_of views client offer) c n) _ (Remembered (new_at (around_of views client offer) c n) ∷ []) refl
      (registers_goes views client r offer (scene_of c) n (made_object (objects_in c) registry_id 1) (valid_new (objects_in c) n valid).0 refl refl))
      (hands_registry_handles c) (binds_handles c) m
      (λ receiver row holds other. other_handles c m receiver row holds other)

  -- ---- a reading

  module _ {T : Type 0} (sends : T → Queue → Result ℕ IoFault → T → Type 0) (receives : T → ℕ → Result Queue IoFault → T → Type 0) where
    abbrev Gave : Core U C → List (Given (Told U)) → Core U C → Type 0
    Gave c gave e = CoreLives views client r offer c (log_of (deeds_in gave)) (registries_in (deeds_in gave)) e

    none_gave : (c : Core U C) (gave : List (Given (Told U))) → gave ≡ [] → Gave c gave c
    none_gave c gave none = subst (λ (g : List (Given (Told U))). Gave c g c) (sym none) (steady_same views client r offer (scene_of c))

    gave_then : (c m e : Core U C) (first rest : List (Given (Told U))) → Gave c first m → Gave m rest e → Gave c (first ++ rest) e
    gave_then c m e first rest one more =
        grind (arith, goes_so, scene_of, log_of, deeds_in, registries_in, deeds_append, log_both, registries_both, goes_then)

    turn_lives : (before : ReaderState T (Core U C)) (link : LinkState T) (v : Verdict (Core U C) (Told U)) → Handles before.core v
        → (es : List Sending) (first : List (Given (Told U)))
        (lacked : Bool) (mid : ReaderState T (Core U C)) → CarriesOut sends (server (around_of views client offer)) v link es first lacked mid
        → Gave before.core first mid.core
    turn_lives before link v h es first lacked mid by =
        verdict_lives views client r offer before.core v first lacked mid.core (λ told. h.leads)
        (carried_to sends (server (around_of views client offer)) (λ d f. refl) before.core v h.forms link es first lacked mid by)

    faulted_lives : (c : Core U C) (f : IoFault) → Gave c [] (faulted c f)
    faulted_lives c f = grind (arith, none_gave, goes_not, scene_of, steady_same, true≢false)

    reads_lives : (left : ℕ) (before : ReaderState T (Core U C)) (turns : List Turn) (out : Gives (Told U)) (after : ReaderState T (Core U C))
        → Reads sends (server (around_of views client offer)) receives left before turns out after → Gave before.core out.gave after.core
    reads_lives left before [] out after (same, ends) =
        subst (λ (e : ReaderState T (Core U C)). Gave before.core out.gave e.core) (sym same)
        (none_gave before.core out.gave (gave_none sends (around_of views client offer) left before out ends))
    reads_lives left before (Received t ∷ turns) out after (on, lacks, (n, is, (link, filled, room, h))) =
        grind (arith, either_result, counted_answer, count_of, with_link, faulted, faulted_lives, reads_lives n (with_link before link) turns out after)
    reads_lives left before (Handled es ∷ turns) out after (on, (v, link, first, lacked, mid, rest, (m, read, is), by, split, more)) =
        subst (λ (o : Gives (Told U)). Gave before.core o.gave after.core) (sym split)
        (gave_then before.core mid.core after.core first rest.gave
        (turn_lives before link v (subst (λ (w : Verdict (Core U C) (Told U)). Handles before.core w) (sym is)
        (handles before.core m)) es first lacked mid by)
        (reads_lives left mid turns rest after more))
    reads_lives left before (Unread es ∷ turns) out after (on, (v, link, first, lacked, mid, rest, (read, same, is), by, split, more)) =
        grind (arith, gave_then, turn_lives, garbled_handles, reads_lives left mid turns rest after more)

    pub next_action_lives : (t : Reading) (p : Part T U C) (answer : Result Handed ActionError) (t' : Reading) (lacked : Bool) (did : List (Deed U))
        (q : Part T U C)
        → NextAction sends receives (around_of views client offer) t p answer t' lacked did q
        → PartLives views client r offer offer p did q
    next_action_lives t p answer t' lacked did q h1 = grind (arith, either_option, either_bool, turned, goes_so, part_scene, scene_of, log_of, deeds_in, registries_in, reads_lives, reader_part, append-nil, none_gave, gave_none, around_of, either_result, counted_answer, count_of, with_link, faulted, faulted_lives, gave_then, turn_lives, handles, garbled_handles, steady_same)
