-- What a fresh server sends to its first client for a `wl_display.sync`.
use Rattle.std.proofs.Common.{◌≡◌, ℕ, ◌≤◌, List, [], ◌∷◌, ◌++◌, length, map, true, false, Bool, Option, None, Some, is_some, Result, Ok, Err, MatchBool, MatchOption, refl, ◌∙◌, ap, sym, subst, inl, inr, arith, lit<, lit≤, true≢false}
use Rattle.std.specs.Prelude.{not, ◌&&◌, ◌==◌, nat_lt, nat_le, option_map, if◌then◌else◌}
use Rattle.std.proofs.lemmas.Bool.{le-leb}
use Rattle.wl_wire.specs.declared.argument.Argument.TheVariants as arg
use Rattle.wl_wire.specs.declared.argument.ArgumentType.{ArgumentType}
use Rattle.wl_wire.specs.declared.argument.ArgumentType.TheVariants as kind
use Rattle.wl_wire.specs.declared.error.IoFault.{IoFault}
use Rattle.wl_wire.specs.declared.error.IoFault.TheVariants as fault
use Rattle.wl_wire.specs.Message.{WireMessage, word, piece, size}
use Rattle.wl_wire.specs.Parse.{sender_of, second_word, opcode_of, ReadsMessage}
use Rattle.wl_wire.specs.Table.{MessageRow, fixed_rows}
use Rattle.wl_wire.specs.Inside.Cursor.{arguments_at}
use Rattle.wl_wire.specs.Pieces.{word_at, argument_at}
use Rattle.wl_wire.proofs.Spelling.CursorLaws.{arguments_read}
use Rattle.wl_link.specs.declared.object.Object.{Object}
use Rattle.wl_link.specs.Exchange.{Queue, Sending, nothing, joined}
use Rattle.wl_link.specs.Link.{LinkState, FlushedBy, IsFresh, WroteBy, needed, spelled, with_outgoing, offer_of, left_of}
use Rattle.wl_link.specs.Puts.{Said}
use Rattle.wl_link.specs.Reader.{CarriesOut, Given, Gives, Handled, Lacks, Queued, ReaderState, Reads, ReadsAs, Received, Turn, Verdict, stops}
use Rattle.wl_link.specs.Script.{Script, ScriptReceives, ScriptSends, script_after_send}
use Rattle.wl_link.specs.Store.{Store, empty_store, held, stored}
use Rattle.wl_link.proofs.Calls.NumberLaws.{fresh_one}
use Rattle.wl_link.specs.Link.{IsLimit}
use Rattle.wl_link.proofs.Calls.OneScript.{script_receives_function, script_sends_function}
use Rattle.wl_link.proofs.Calls.WriteLaws.{room_stays}
use Rattle.wl_link.proofs.Ids.StoreLaws.{held_empty, stored_here, stored_other}
use Rattle.wl_server_client.specs.declared.error.ActionError.TheVariants.{Io}
use Rattle.wl_server_client.specs.declared.objects.Kept.{Kept}
use Rattle.wl_server_client.specs.declared.reading.action.Reading.{Reading}
use Rattle.wl_server_client.specs.declared.reading.response.RequestFault.TheVariants as wrong
use Rattle.wl_server_client.specs.declared.reading.violation.MessageFault.TheVariants as message
use Rattle.wl_server_client.specs.declared.reading.violation.Violation.{Violation}
use Rattle.wl_server_client.specs.Deeds.{Deed, notes_in}
use Rattle.wl_server_client.specs.declared.error.ActionError.{ActionError}
use Rattle.wl_server_client.specs.declared.error.InsertClientError.{InsertClientError}
use Rattle.wl_server_client.specs.declared.reading.action.Action.{Action}
use Rattle.wl_server_model.specs.declared.step.Reply.{Reply}
use Rattle.wl_server_model.specs.declared.step.Reply.TheVariants as reply
use Rattle.wl_server_model.specs.declared.step.Step.{Step}
use Rattle.wl_server_model.specs.declared.step.Step.TheVariants as step
use Rattle.wl_server_model.specs.Backend.{BackendState, Calls}
use Rattle.wl_server_client.specs.Errors.{new_id_text}
use Rattle.wl_server_client.specs.Felt.{FlushedTo}
use Rattle.wl_server_client.specs.Globals.{Offer, new_offer}
use Rattle.wl_server_client.specs.Ids.{ClientParts, GlobalParts, same_client}
use Rattle.wl_server_client.specs.Part.{Part, display_object, fresh_part, last_possible_serial}
use Rattle.wl_server_model.specs.PartStep.{Call, Inserted, InsertedAs, OfClient, OnPart, PartCall, PartStep, Unfelt, World, around, over}
use Rattle.wl_server_client.specs.Reading.{Around, NextAction, action_content, breaks, new_reading, request, row_in, sent_to, server, syncs}
use Rattle.wl_server_client.specs.Requests.{is_valid_new}
use Rattle.wl_server_model.specs.Server.{Seen, ServerState, new_server, seen}
use Rattle.wl_server_model.specs.Steps.{Entry, IsRefused, offer_after}
use Rattle.wl_server_client.specs.Telling.{Core, Told, core_of, objects_in, part_of, reader_part}
use Rattle.wl_server_client.specs.Violations.{violation}
use Rattle.wl_bench.specs.Sync.{HasAsked, WasSent, all_bytes, answer_bytes, bringing, one_argument, request_bytes}
use Rattle.wl_server_model.proofs.OverRuns.Alone.IsolationLaw.{same_self}
use Rattle.wl_server_model.proofs.OverRuns.Outcome.PartOutcome.{flushed_one, next_action_one}

-- ---- the link

abbrev came : Queue
came = record { bytes = request_bytes; tokens = [] }

-- a transport from which the request comes
abbrev arriving : Script
arriving = bringing request_bytes

abbrev arrived : Script
arrived = record { arrivals = []; answers = []; sent = [] }

abbrev link_with : Script → Queue → Queue → LinkState Script
link_with transport incoming outgoing = record { transport = transport; incoming = incoming; incoming_capacity = 4096; outgoing = outgoing; outgoing_capacity = 4096; limit = Some 4096 }

abbrev sync : WireMessage
sync = one_argument 1 0 (arg.NewId 2)

-- the callback 2 is done
abbrev done : WireMessage
done = one_argument 2 0 (arg.Uint 0)

-- the number 2 is free again
abbrev deleted : WireMessage
deleted = one_argument 1 1 (arg.Uint 2)

abbrev with_done : Queue
with_done = joined nothing (spelled done)

abbrev answer_queue : Queue
answer_queue = joined with_done (spelled deleted)

-- ---- the request is read

abbrev sync_signature : List ArgumentType
sync_signature = kind.NewId ∷ []

sync_read : ReadsMessage request_bytes sync_signature [] sync
unfolding sender_of second_word word_at argument_at arguments_at
sync_read = record {
  whole = record { header = lit≤ tt; counts_header = lit≤ tt; there = lit≤ tt };
  sender = refl;
  opcode = refl;
  args = (arguments_read sync_signature (2 ∷ 0 ∷ 0 ∷ 0 ∷ []) [] (arg.NewId 2 ∷ []) [] refl).0;
}

sender_is : sender_of request_bytes ≡ 1
unfolding sender_of
sender_is = refl

opcode_is : opcode_of request_bytes ≡ 0
unfolding second_word
opcode_is = refl

-- ---- the two events are put

done_size : size done ≡ 12
unfolding word piece
done_size = refl

deleted_size : size deleted ≡ 12
unfolding word piece
deleted_size = refl

-- a short message is written at once where there is room
short_wrote : (before : LinkState Script) (m : WireMessage) → size m ≤ 65535 → needed before (size m) ≤ before.outgoing_capacity
    → WroteBy ScriptSends before m [] (Ok tt) (with_outgoing before before.transport (joined before.outgoing (spelled m)))
short_wrote before m small room =
    rw (le-leb (size m) 65535 small)
    (inr (
      before,
      (room_stays before.limit (needed before (size m)) before.outgoing_capacity room, refl),
      rw (le-leb (needed before (size m)) before.outgoing_capacity room) (refl, inl (refl, refl)),
    ))

done_wrote : WroteBy ScriptSends (link_with arrived nothing nothing) done [] (Ok tt) (link_with arrived nothing with_done)
done_wrote = short_wrote (link_with arrived nothing nothing) done (omega (arith, done_size)) (omega (arith, done_size))

with_done_length : length with_done.bytes ≡ 12
unfolding word piece
with_done_length = refl

deleted_wrote : WroteBy ScriptSends (link_with arrived nothing with_done) deleted [] (Ok tt) (link_with arrived nothing answer_queue)
deleted_wrote =
    short_wrote (link_with arrived nothing with_done) deleted (omega (arith, deleted_size)) (omega (arith, deleted_size, with_done_length))

said : ℕ → WireMessage → Said
said serial m = record { serial = serial; message = m; makes_text = false }

-- ---- the flush

abbrev answer_offer : Queue
answer_offer = offer_of answer_queue

abbrev answer_sending : Sending
answer_sending = record { offer = answer_offer; answer = Ok 24 }

abbrev sent_script : Script
sent_script = script_after_send arrived answer_offer

abbrev sent_link : LinkState Script
sent_link = with_outgoing (link_with arrived nothing answer_queue) sent_script (left_of 24 answer_queue)

-- a transport with no answers to come takes all of it in one send
answer_flushed : FlushedBy ScriptSends (link_with arrived nothing answer_queue) (answer_sending ∷ []) (Ok tt) sent_link
unfolding word piece
answer_flushed = ((sent_script, inl (refl, refl), refl), ((λ e. absurd cc), refl, (refl, refl, refl)), refl)

sent_is : all_bytes sent_script.sent ≡ answer_bytes
unfolding word piece
sent_is = refl

-- ---- the client

limit_4096 : IsLimit 4096 4096
limit_4096 = ((λ _. ((12, refl), lit≤ tt, lit≤ tt, λ p power least enough. least)), λ lt. absurd (omega arith))

limit_is : IsFresh arriving (Some 4096) (link_with arriving nothing nothing)
limit_is = (Some 4096, (4096, refl, limit_4096), refl)

module _ (U G C : Type 0) (views : G → ClientParts → C → GlobalParts → Bool) (client : ClientParts) (client_data : C) where
  abbrev display_alone : Store (Kept U)
  display_alone = stored empty_store 1 display_object

  abbrev pub first_part : Part Script U C
  first_part = fresh_part (link_with arriving nothing nothing) client_data

  abbrev place : Around G C
  place = record {
    table = fixed_rows;
    client = client;
    globals = (new_offer fixed_rows).globals;
    views = views;
    object_limit = None;
    hands_registries = false;
  }

  display_held : held display_alone 1 ≡ Some display_object
  display_held = stored_here empty_store 1 display_object 1 refl

  number_free : held display_alone 2 ≡ None
  number_free = stored_other empty_store 1 display_object 2 (λ e. omega (arith, e)) ∙ held_empty 2

  abbrev first_core : Core U C
  first_core = core_of first_part

  -- the callback may have the number 2
  may_be_made : is_valid_new (objects_in first_core) 2 ≡ true
  may_be_made = ap (λ (o : Option (Object (Kept U))). not (is_some o) && (nat_lt 0 2 && nat_le 2 2) && not (0 == last_possible_serial)) number_free

  abbrev verdict : Verdict (Core U C) (Told U)
  verdict = syncs place first_core 2

  -- how the client would break the protocol if it might not
  abbrev how : Violation
  how = violation (sent_to {U = U} sync display_object) (message.WrongArgument 0 (wrong.InvalidNewId 2))

  verdict_is : verdict ≡ (server {U = U} place).handles first_core sync
  verdict_is =
      sym
      (ap (λ (o : Option (Object (Kept U))). request place first_core sync o (row_in fixed_rows o 0)) display_held
      ∙ ap (λ (b : Bool). if b then verdict else breaks place first_core how 0 (new_id_text 2)) may_be_made)

  signature_is : Some sync_signature ≡ (server {U = U} place).signature first_core (sender_of request_bytes) (opcode_of request_bytes)
  signature_is = sym
      (ap (λ (n : ℕ). option_map (λ (row : MessageRow). row.signature) (row_in fixed_rows (held display_alone n) (opcode_of request_bytes))) sender_is
      ∙ ap (λ (n : ℕ). option_map (λ (row : MessageRow). row.signature) (row_in fixed_rows (held display_alone 1) n)) opcode_is
      ∙ ap (λ (o : Option (Object (Kept U))). option_map (λ (row : MessageRow). row.signature) (row_in fixed_rows o 0)) display_held)

  abbrev State : Type 0
  State = ReaderState Script (Core U C)

  abbrev begun : State
  begun = reader_part first_part

  abbrev holding : State
  holding = record { core = first_core; link = link_with arrived came nothing }

  abbrev answered : State
  answered = record { core = verdict.core; link = link_with arrived nothing answer_queue }

  -- nothing that waits is a message yet
  empty_lacks : (s : State) → s.link.incoming ≡ nothing → Lacks ScriptSends (server place) s
  empty_lacks s none = inl (rw none (refl, refl))

  sync_is_read : ReadsAs ScriptSends (server {U = U} place) holding (Ok sync) (link_with arrived nothing nothing)
  unfolding second_word
  sync_is_read = (Some sync_signature, signature_is, (sync_read, refl))

  abbrev given : List (Given (Told U))
  given = map Queued verdict.puts

  answer_carried : CarriesOut ScriptSends (server {U = U} place) verdict (link_with arrived nothing nothing) [] given false answered
  answer_carried =
      inl (
        [],
        [],
        verdict.puts,
        Ok tt,
        link_with arrived nothing answer_queue,
        false,
        (
          [],
          Ok tt,
          link_with arrived nothing with_done,
          inl done_wrote,
          (
            [],
            _,
            refl,
            refl,
            ([], Ok tt, link_with arrived nothing answer_queue, inl deleted_wrote, ([], _, refl, refl, (refl, refl, refl, refl))),
          ),
        ),
        (refl, refl, refl),
        refl,
        refl,
        refl,
        refl,
      )

  abbrev turns : List Turn
  turns = Received (Ok came) ∷ Handled [] ∷ Received (Err fault.WouldBlock) ∷ []

  abbrev gives : Gives (Told U)
  gives = record { gave = given; stopped = Some fault.WouldBlock; refused = false; left = 62 }

  -- and nothing more comes
  nothing_more : Reads ScriptSends (server {U = U} place) ScriptReceives 63 answered (Received (Err fault.WouldBlock) ∷ []) (stops (Some fault.WouldBlock) false 62) answered
  nothing_more = (
    refl,
    empty_lacks answered refl,
    (
      62,
      refl,
      (
        link_with arrived nothing answer_queue,
        (inl (tt, refl, refl), refl, refl),
        (λ lacks fits. lit< tt),
        (refl, refl, refl),
      ),
    ),
  )

  all_read : Reads ScriptSends (server {U = U} place) ScriptReceives 64 begun turns gives answered
  all_read = (
    refl,
    empty_lacks begun refl,
    (
      63,
      refl,
      (
        link_with arrived came nothing,
        (inl (lit≤ tt, refl, refl), refl, refl),
        (λ lacks fits. lit< tt),
        (
          refl,
          (
            verdict,
            link_with arrived nothing nothing,
            given,
            false,
            answered,
            stops (Some fault.WouldBlock) false 62,
            (sync, sync_is_read, verdict_is),
            answer_carried,
            refl,
            nothing_more,
          ),
        ),
      ),
    ),
  )

  abbrev answered_part : Part Script U C
  answered_part = part_of answered

  -- the reading of the request
  request_read : (left : Reading) × (did : List (Deed U))
      × NextAction ScriptSends ScriptReceives place new_reading first_part (Err (Io fault.WouldBlock)) left false did answered_part
  request_read = (_, _, (turns, gives, answered, all_read, refl, refl, refl, refl, refl))

  answer_sent : (did : List (Deed U)) × FlushedTo ScriptSends answered_part (Ok tt) false did (record answered_part { link = sent_link })
  answer_sent = (_, (answer_sending ∷ [], sent_link, answer_flushed, refl, refl, refl))

  -- whatever the calls of the server do with memory at hand, they do this
  pub first_answer : (link : LinkState Script) (left : Reading) (did sent : List (Deed U)) (mid after : Part Script U C)
      → IsFresh arriving (Some 4096) link
      → NextAction ScriptSends ScriptReceives place new_reading (fresh_part link client_data) (Err (Io fault.WouldBlock)) left false did mid
      → FlushedTo ScriptSends mid (Ok tt) false sent after
      → all_bytes after.link.transport.sent ≡ answer_bytes
  first_answer link left did sent mid after fresh read flushed =
      let link_is : link ≡ link_with arriving nothing nothing = fresh_one arriving (Some 4096) link _ fresh limit_is in
      let reads = subst (λ (l : LinkState Script). NextAction ScriptSends ScriptReceives place new_reading (fresh_part l client_data) (Err (Io fault.WouldBlock)) left false did mid) link_is read in
      let one = next_action_one ScriptSends script_sends_function ScriptReceives script_receives_function place new_reading first_part
      (Err (Io fault.WouldBlock)) (Err (Io fault.WouldBlock)) left request_read.0 did request_read.1 mid answered_part reads request_read.2 in
      let flushes = subst (λ (p : Part Script U C). FlushedTo ScriptSends p (Ok tt) false sent after) one.0.after flushed in
      let two = flushed_one ScriptSends script_sends_function answered_part (Ok tt) (Ok tt) sent answer_sent.0 after _ flushes answer_sent.1 in
      ap (λ (p : Part Script U C). all_bytes p.link.transport.sent) two.after ∙ sent_is

-- ---- the calls of the server

abbrev reading_of : {T U : Type 0} → Reply T U → Result Action ActionError
reading_of (reply.NextAction r) = r
reading_of _ = Err (Io fault.WouldBlock)

abbrev inserted_as : {T U : Type 0} → Reply T U → Option (Result ClientParts InsertClientError)
inserted_as (reply.InsertClient r) = Some r
inserted_as _ = None

abbrev flushed_as : {T U : Type 0} → Reply T U → Result (Unit {0}) IoFault
flushed_as (reply.Flush r) = r
flushed_as _ = Ok tt

module _ (U G C : Type 0) (views : G → ClientParts → C → GlobalParts → Bool) where
  abbrev w : World Script G C
  w = over ScriptSends ScriptReceives views

  abbrev Backend : Type 0
  Backend = BackendState Script U G C

  -- where no memory was refused in a call, none was to a client
  none_lacked : (e : Entry Script U G C) (id : ClientParts) → IsRefused e → e.refused ≡ false → (b : Bool) → e.lacks id ≡ b → e.lacks id ≡ false
  none_lacked e id refused none true lacked = absurd (true≢false (sym (refused.1 (inr (id, lacked))) ∙ none))
  none_lacked e id refused none false lacked = lacked

  -- what a call is to one client
  to_client : (before after : Backend) (s : Step Script U G C) (answer : Reply Script U) (id : ClientParts) → Calls w before s answer after
      → (lacked : Bool) × (did : List (Deed U)) × (after.refused ≡ false → lacked ≡ false)
      × PartStep w id before.server.offer s answer (seen id before.server) lacked did (seen id after.server)
  to_client before after s answer id calls =
      let (e, is, refused, one) = calls.step in (
        e.lacks id,
        e.did id,
        λ none. none_lacked e id one.refused (refused ∙ none) (e.lacks id) refl,
        subst (λ (c : Call Script U G C). PartCall w id before.server.offer c (seen id before.server) (e.lacks id) (e.did id) (seen id after.server)) is (one.each id),
      )

  -- a call about a client that is stored
  of_stored : (id : ClientParts) (before after : Seen Script U C) (p : Part Script U C) (R : Part Script U C → Part Script U C → Type 0) (missing : Type 0) (lacked : Bool) (did : List (Deed U))
      → before.part ≡ Some p → OfClient (same_client id id) before R missing lacked did after → (q : Part Script U C) × R p q × (after.part ≡ Some q)
  of_stored id before after p R missing lacked did there h =
      let own = subst (λ (b : Bool). MatchBool b (OnPart before R missing lacked did after) (Unfelt before lacked did after)) (same_self id) h in
      let (q, r, is) = subst (λ (o : Option (Part Script U C)). MatchOption o (missing × Unfelt before lacked did after)
      (λ x. (q : Part Script U C) × R x q × (after ≡ record { part = Some q; made = before.made ++ notes_in did }))) there own in
      (q, r, ap (λ (x : Seen Script U C). x.part) is)

  -- ---- the insertion

  pub has_asked : (before after : Backend) (transport : Script) (client_data : C) (id : ClientParts) → before.server ≡ new_server fixed_rows → transport ≡ bringing request_bytes
      → Calls w before (step.InsertClient transport client_data) (reply.InsertClient (Ok id)) after → HasAsked after.server id
  has_asked before after transport client_data id fresh brings calls =
      let (lacked, did, none, (r, is, inserted)) = to_client before after (step.InsertClient transport client_data) (reply.InsertClient (Ok id)) id calls in
      at r lacked did (ap inserted_as is) inserted
    where
      offer_is : after.server.offer ≡ new_offer fixed_rows
      offer_is =
          let (e, is, refused, one) = calls.step in
          one.offer ∙ ap (λ (c : Call Script U G C). offer_after before.server.offer c) is ∙ ap (λ (s : ServerState Script U G C). s.offer) fresh

      at : (r : Result ClientParts InsertClientError) (lacked : Bool) (did : List (Deed U)) → Some (Ok id) ≡ Some r
          → InsertedAs w id before.server.offer transport client_data r (seen id before.server) lacked did (seen id after.server) → HasAsked after.server id
      at (Err e) lacked did is inserted = absurd cc
      at (Ok new) lacked did is inserted =
          let new_is : new ≡ id = cc in
          let same : same_client new id ≡ true = ap (λ (i : ClientParts). same_client i id) new_is ∙ same_self id in
          let (link, begun, unlacked, deeds, seen_is) = subst (λ (b : Bool). MatchBool b
          (Inserted w id before.server.offer transport client_data (seen id before.server) lacked did (seen id after.server)) (Unfelt (seen id before.server) lacked did (seen id after.server))) same inserted in
          let limit : before.server.offer.default_limit ≡ 4096 = ap (λ (s : ServerState Script U G C). s.offer.default_limit) fresh in
          let brought = subst (λ (n : ℕ). IsFresh transport (Some n) link) limit begun in
          (link, client_data, subst (λ (t : Script). IsFresh t (Some 4096) link) brings brought, ap (λ (x : Seen Script U C). x.part) seen_is, offer_is)

  -- ---- the reading, and the flush

  -- the client's part behind the reading, and behind the flush
  pub was_answered : (before mid after : Backend) (id : ClientParts) (error : ActionError) → HasAsked before.server id → error ≡ Io fault.WouldBlock
      → Calls w before (step.NextAction id) (reply.NextAction (Err error)) mid → mid.refused ≡ false
      → Calls w mid (step.Flush (Some id)) (reply.Flush (Ok tt)) after → WasSent after.server id answer_bytes
  was_answered before mid after id error (link, client_data, fresh, there, offer) blocks reading memory flush =
      let (lacked, did, none, (r, left, is, reads)) = to_client before mid (step.NextAction id) (reply.NextAction (Err error)) id reading in
      let (p, read, here) = of_stored id (seen id before.server) (seen id mid.server) (fresh_part link client_data) _ _ lacked did there reads in
      let (lacked', sent, none', (f, is', flushes)) = to_client mid after (step.Flush (Some id)) (reply.Flush (Ok tt)) id flush in
      let (q, flushed, left_here) = of_stored id (seen id mid.server) (seen id after.server) p _ _ lacked' sent here flushes in
      let answered = subst (λ (x : Result Action ActionError). NextAction ScriptSends ScriptReceives (around w id before.server.offer) new_reading (fresh_part link client_data) (action_content x) left lacked did p)
      (sym (ap reading_of is) ∙ ap Err blocks) read in
      let unlacked = subst (λ (b : Bool). NextAction ScriptSends ScriptReceives (around w id before.server.offer) new_reading (fresh_part link client_data) (Err (Io fault.WouldBlock)) left b did p)
      (none memory) answered in
      let offered = subst (λ (o : Offer G). NextAction ScriptSends ScriptReceives (around w id o) new_reading (fresh_part link client_data) (Err (Io fault.WouldBlock)) left false did p)
      offer unlacked in
      let went = subst (λ (x : Result (Unit {0}) IoFault). FlushedTo ScriptSends p x lacked' sent q) (sym (ap flushed_as is')) flushed in
      let (es, l, by, lacks, deeds, is_q) = went in
      let sent_so = subst (λ (b : Bool). FlushedTo ScriptSends p (Ok tt) b sent q) lacks went in
      let bytes = first_answer U G C views id client_data link left did sent p q fresh offered sent_so in
      (q.link.transport, ap (λ (o : Option (Part Script U C)). option_map (λ (x : Part Script U C). x.link.transport) o) left_here, bytes)
