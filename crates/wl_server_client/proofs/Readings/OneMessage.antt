-- How turns and receives join to a reading of a client.
use Rattle.std.proofs.Common.{◌≡◌, nat_le, ◌≢◌, ◌∙◌, ℕ, suc, ◌+◌, ◌<◌, ◌≤◌, Bool, true, false, List, [], ◌∷◌, ◌++◌, append-nil, append_assoc, length, Option, None, Some, is_some, option_map, Result, Ok, Err, is_ok, refl, sym, ap, ap₂, subst, arith, true≢false, MatchResult}
use mathlib.Core.Logic.{inl, inr}
use Rattle.wl_wire.specs.declared.argument.Argument.{Argument}
use Rattle.wl_wire.specs.declared.argument.Token.{Token}
use Rattle.wl_wire.specs.declared.error.IoFault.{IoFault}
use Rattle.wl_wire.specs.declared.error.IoFault.TheVariants as fault
use Rattle.wl_wire.specs.declared.error.MessageParseError.{MessageParseError}
use Rattle.wl_wire.specs.declared.interface.InterfaceId.{InterfaceId}
use Rattle.wl_wire.specs.Message.{WireMessage}
use Rattle.wl_wire.specs.Parse.{opcode_of, sender_of}
use Rattle.wl_link.proofs.Calls.Branches.{at_false, at_true}
use Rattle.wl_link.specs.Exchange.{Queue, Sending}
use Rattle.wl_link.proofs.Streams.LengthLaws.{carries_stays}
use Rattle.wl_link.specs.Link.{Filled, FindsRoom, LinkState, ReadOne, grown_capacity, FilledBy}
use Rattle.wl_link.proofs.Readings.ReaderLoops.{room_found}
use Rattle.wl_link.specs.Puts.{lacks_memory}
use Rattle.wl_link.specs.Reader.{CarriesOut, Given, Gives, Halts, Handled, Leaves, Reads, Received, Takes, Turn, Unread, Verdict, given_first, handled_in, stops, unreadable_front, ReaderState}
use Rattle.wl_link.specs.declared.object.Object.{Object}
use Rattle.wl_link.specs.Store.{Store, held}
use Rattle.wl_wire.specs.Table.{InterfaceRow, message_row}
use Rattle.wl_server_client.specs.declared.reading.action.OpenAction.{OpenAction}
use Rattle.wl_server_client.specs.declared.reading.action.Reading.{Reading}
use Rattle.wl_server_client.specs.declared.error.ActionError.{ActionError}
use Rattle.wl_server_client.specs.declared.error.ActionError.TheVariants.{ActionOpen, Io}
use Rattle.wl_server_client.specs.declared.notes.DisconnectReason.TheVariants.{ConnectionClosed}
use Rattle.wl_server_client.specs.declared.reading.action.Found.{Found}
use Rattle.wl_server_client.specs.declared.reading.action.NoAction.{NoAction}
use Rattle.wl_server_client.specs.declared.objects.ClientObjects.{ClientObjects}
use Rattle.wl_server_client.specs.declared.objects.Kept.{Kept}
use Rattle.wl_server_client.specs.declared.reading.front_request.FrontRequest.{FrontRequest}
use Rattle.wl_server_client.specs.declared.reading.response.Response.{Response}
use Rattle.wl_server_client.specs.declared.reading.violation.Violation.{Violation}
use Rattle.wl_server_client.specs.Inside.Client.{Does}
use Rattle.wl_server_client.specs.Ids.{IdParts}
use Rattle.wl_server_client.specs.Inside.Responses.{TookRequest, addressed_by, core_with, response_to}
use Rattle.wl_server_client.specs.Deeds.{Deed, Handed, notes_in}
use Rattle.wl_server_client.specs.Part.{Part}
use Rattle.wl_server_client.specs.Reading.{Around, action_in, NextAction, answered, exchanges_in, faulted, garbled, read_on, reads_on, request, request_to, row_in, server, unread}
use Rattle.wl_server_client.specs.Stored.{Stored, untimed}
use Rattle.wl_server_client.specs.Telling.{Core, Kills, Told, core_of, deeds_in, deeds_of, end_deeds, part_of, reader_part}
use Rattle.wl_server_client.specs.Violations.{Addressed, addressed}
use Rattle.wl_server_client.specs.Inside.ReadingLoop.{Acts, Ended, EndsAs, Fills, ReadsOn, WentOn, IsHandled, IsFront, LacksIn, LacksMore, Live, ReadsIn, MessageResult, HandlesMessage, answer_of, counted, linked, refused_of, stored_as}
use Rattle.wl_server_client.proofs.Readings.Notes.{notes_append, notes_of_sends, made_end}
use Rattle.wl_server_client.proofs.ObjectCalls.Posting.{kills_is}
use Rattle.wl_server_client.proofs.CallSteps.Doing.{does_quietly}
use Rattle.wl_server_client.proofs.Readings.Finishing.{where_none, where_some}
use Rattle.std.proofs.Math.Bool.{or-false}

abbrev most : ℕ
most = 0xFFFFFFFFFFFFFFFF

handled_append : (a b : List Turn) → handled_in (a ++ b) ≡ handled_in a + handled_in b
handled_append [] b = omega arith
handled_append (turn ∷ a) b = grind (arith, handled_append a b, turn)

module _ {U : Type 0} where
  pub deeds_append : (a b : List (Given (Told U))) → deeds_in (a ++ b) ≡ deeds_in a ++ deeds_in b
  deeds_append [] b = refl
  deeds_append (given ∷ a) b = grind (arith, deeds_append a b, given)

module _ {T U C : Type 0} where
  live_reads : (p : Part T U C) → Live p → reads_on (core_of p) ≡ true
  live_reads p (live, unopened) = rw (live, unopened) refl

-- ---- a read under the signature of the request at the front

module _ {T U : Type 0} (table : List InterfaceRow) (store : Store (Kept U)) (link : LinkState T) (r : FrontRequest)
    (front : IsFront table store link r) (after : LinkState T) where
  pub read_in : (answer : Result WireMessage MessageParseError) → ReadOne (λ _ _ f. f ≡ Some r.desc.now.signature.items) link answer after
      → ReadsIn table store link answer after
  read_in answer read = grind (arith, nat_le, option_map, row_in)

  pub row_read : (m : WireMessage) → ReadOne (λ _ _ f. f ≡ Some r.desc.now.signature.items) link (Ok m) after
      → row_in table (held store m.sender) m.opcode ≡ Some (message_row r.desc.now)
  row_read m read = grind (arith, true≢false, is_ok, front.row)

  -- the message that was read is addressed as the request at the front
  heads : (m : WireMessage) → ReadOne (λ _ _ f. f ≡ Some r.desc.now.signature.items) link (Ok m) after
      → (m.sender ≡ sender_of link.incoming.bytes) × (m.opcode ≡ opcode_of link.incoming.bytes)
  heads m read = grind (arith, true≢false, is_ok)

  pub sent_as : (m : WireMessage) → ReadOne (λ _ _ f. f ≡ Some r.desc.now.signature.items) link (Ok m) after → (x : Object (Kept U))
      → held store m.sender ≡ Some x → addressed m.sender (Some x) m.opcode ≡ addressed_by r
  sent_as m read x holds =
      let h = heads m read in
      let from = front.sender x (ap (held store) (sym h.0) ∙ holds) in
      let to : ℕ → InterfaceId → ℕ → Addressed = λ n i o. record { sender = n; interface = i; opcode = o } in
      ap (λ n. to n x.interface m.opcode) (h.0 ∙ sym front.number)
      ∙ (ap (λ i. to r.number i m.opcode) from.1 ∙ ap (λ o. to r.number r.sender.interface o) (h.1 ∙ sym front.opcode))

module _ {T U G C : Type 0} (sends : T → Queue → Result ℕ IoFault → T → Type 0) (receives : T → ℕ → Result Queue IoFault → T → Type 0)
    (a : Around G C) where
  -- ---- joining

  pub goes_none : (s : Stored T U C) (r : Reading) → r.read ≤ most → Live s.part → ReadsOn sends receives a s r s r
  goes_none s r within live = record {
    first = [];
    gave = [];
    leads = λ turns rest end reads. reads;
    silent = λ rest. refl;
    no_note = refl;
    read = omega (arith, within);
    live = live;
    serial = refl;
    made = refl;
  }

  pub goes_goes : (s m e : Stored T U C) (r q t : Reading) → ReadsOn sends receives a s r m q → ReadsOn sends receives a m q e t
      → ReadsOn sends receives a s r e t
  goes_goes s m e r q t one two = record {
    first = one.first ++ two.first;
    gave = one.gave ++ two.gave;
    leads = λ turns rest end reads. rw (append_assoc one.first two.first turns, append_assoc one.gave two.gave rest.gave)
        (one.leads (two.first ++ turns) (given_first two.gave false rest) end (two.leads turns rest end reads));
    silent = λ rest. ap action_in (append_assoc one.gave two.gave rest) ∙ one.silent (two.gave ++ rest) ∙ two.silent rest;
    no_note = grind (arith, notes_in, deeds_append, notes_append, deeds_in, one.gave, two.gave, one.no_note, two.no_note);
    read = omega (arith, one.read, two.read, handled_append one.first two.first);
    live = two.live;
    serial = two.serial ∙ one.serial;
    made = two.made ∙ one.made;
  }

  pub goes_ends : (s m e : Stored T U C) (r q t : Reading) (answer : Result Handed NoAction) → ReadsOn sends receives a s r m q
      → EndsAs sends receives a m q answer e t
      → EndsAs sends receives a s r answer e t
  goes_ends s m e r q t answer one two = record {
    turns = one.first ++ two.turns;
    out = given_first one.gave false two.out;
    end = two.end;
    reads = one.leads two.turns two.out two.end two.reads;
    answer_is = two.answer_is ∙ quiet two.out.stopped;
    refused_is = two.refused_is;
    left = two.left;
    read = omega (arith, one.read, two.read, handled_append one.first two.turns);
    no_note = grind (arith, notes_in, deeds_append, notes_append, deeds_in, one.gave, two.out.gave, one.no_note, two.no_note);
    after_is = two.after_is ∙ rw (one.serial, one.made) refl;
  }
    where
      quiet : (o : Option IoFault) → answered o two.out.gave ≡ answered o (one.gave ++ two.out.gave)
      quiet None = sym (one.silent two.out.gave)
      quiet (Some f) = refl

  -- ---- a message

  module _ (s : Stored T U C) (r r' : Reading) (live : Live s.part) where
    on : reads_on (core_of s.part) ≡ true
    on = live_reads s.part live

    -- what is held of the client, once the message was taken
    module _ (v : Verdict (Core U C) (Told U)) (p : Part T U C) (t : List Sending → Turn)
        (found : (m : ℕ) (es : List Sending) (first : List (Given (Told U))) (lacked : Bool) (mid : ReaderState T (Core U C)) (turns : List Turn)
        (rest : Gives (Told U)) (end : ReaderState T (Core U C))
        → CarriesOut sends (server a) v p.link es first lacked mid → Reads sends (server a) receives m mid turns rest end
        → Reads sends (server a) receives m (reader_part s.part) (t es ∷ turns) (given_first first lacked rest) end)
        (left : r'.turns_left ≡ r.turns_left) (read : (es : List Sending) → r'.read ≡ counted r.read (handled_in (t es ∷ []))) where
      abbrev Came : MessageResult → Stored T U C → Type 0
      Came to after = IsHandled sends v (record s { part = p }) to after

      ends_so : (answer : Result Handed NoAction) (to : MessageResult) (after : Stored T U C) (i : Came to after)
          → (i.refused ≡ refused_of answer) × (reads_on i.end.core ≡ false) × (action_in i.gave ≡ answer_of answer)
          → EndsAs sends receives a s r answer after r'
      ends_so answer to after i (refuses, off, says) =
          let rest : Gives (Told U) = stops None false r.turns_left in
          record {
            turns = t i.es ∷ [];
            out = given_first i.gave i.refused rest;
            end = i.end;
            reads = found r.turns_left i.es i.gave i.refused i.end [] rest i.end i.carried
                (refl, at_false (Halts sends (server a) r.turns_left i.end rest) (reads_on i.end.core) off refl);
            answer_is = sym (ap action_in (append-nil i.gave) ∙ says);
            refused_is = sym (or-false i.refused ∙ refuses);
            left = left;
            read = read i.es;
            no_note = ap (λ (l : List (Given (Told U))). notes_in (deeds_in l)) (append-nil i.gave) ∙ i.no_note;
            after_is = i.after_is;
          }

      goes_so : (after : Stored T U C) → Came WentOn after → ReadsOn sends receives a s r after r'
      goes_so after i =
          let (calm, unended, alive, unopened, silent) = i.says in
          record {
            first = t i.es ∷ [];
            gave = i.gave;
            leads = λ turns rest last reads. subst (λ (b : Bool). Reads sends (server a) receives r.turns_left (reader_part s.part) (t i.es ∷ turns)
                (given_first i.gave b rest) last) calm
                (found r.turns_left i.es i.gave i.refused i.end turns rest last i.carried (grind (arith, reader_part, server, i.after_is)));
            silent = silent;
            no_note = i.no_note;
            read = read i.es;
            live = (ap (λ (x : Stored T U C). x.part.is_killed) i.after_is ∙ alive, ap (λ (x : Stored T U C). x.part.action) i.after_is ∙ unopened);
            serial = ap (λ (x : Stored T U C). x.serial) i.after_is;
            made = ap (λ (x : Stored T U C). x.made) i.after_is ∙ rw unended (append-nil s.made);
          }

      handles_so : (to : MessageResult) (after : Stored T U C) → Came to after → length p.link.incoming.bytes < length s.part.link.incoming.bytes
          → HandlesMessage sends receives a s r to after r'
      handles_so (Acts h) after i fewer = ends_so (Ok h) (Acts h) after i i.says
      handles_so WentOn after i fewer = (
        goes_so after i,
        left,
        (let kept = carries_stays sends (server a) v p.link i.end i.es i.gave i.refused i.carried in
            omega (arith, ap (λ (x : Stored T U C). length x.part.link.incoming.bytes) i.after_is ∙ ap (λ (q : Queue). length q.bytes) kept.incoming, fewer)),
      )
      handles_so LacksMore after i fewer = absurd i.says
      handles_so (Ended end) after i fewer = ends_so (Err end) (Ended end) after i i.says

    -- the message at the front was taken and handled
    pub message_handled : (v : Verdict (Core U C) (Told U)) (p : Part T U C) (to : MessageResult) (after : Stored T U C)
        → Takes sends (server a) (reader_part s.part) v p.link → IsHandled sends v (record s { part = p }) to after
        → length p.link.incoming.bytes < length s.part.link.incoming.bytes → r'.turns_left ≡ r.turns_left
        → r'.read ≡ counted r.read 1 → HandlesMessage sends receives a s r to after r'
    message_handled v p to after taken handled fewer left read =
        handles_so v p (λ es. Handled es)
        (λ m es first lacked mid turns rest end carried reads. (on, (v, p.link, first, lacked, mid, rest, taken, carried, refl, reads))) left
        (λ es. read) to
        after handled fewer

  -- how the bytes at the front break the protocol, if they are malformed
  abbrev pub found_unread : Part T U C → Violation
  found_unread p = unread a.table p.store (unreadable_front sends (server a) (reader_part p))

  -- malformed bytes stay, and the connection is closed
  pub message_unread : (s : Stored T U C) (r : Reading) (end : NoAction) (after : Stored T U C) → Live s.part → r.read ≤ most
      → Leaves sends (server a) (reader_part s.part) (garbled (core_of s.part) (found_unread s.part)) s.part.link
      → IsHandled sends (garbled (core_of s.part) (found_unread s.part)) s (Ended end) after → HandlesMessage sends receives a s r (Ended end) after r
  message_unread s r end after live within leaves i =
      ends_so s r r live (garbled (core_of s.part) (found_unread s.part)) s.part (λ es. Unread es)
      (λ m es first lacked mid turns rest last carried reads. (on s r r live, (garbled (core_of s.part) (found_unread s.part), s.part.link, first, lacked, mid, rest, leaves, carried, refl, reads)))
      refl (λ es. (omega (arith, within))) (Err end) (Ended end) after i i.says

  -- ---- where it halts

  pub halts_so : (s after : Stored T U C) (r r' : Reading) (end : NoAction) → Live s.part → r'.read ≡ counted r.read 0
      → Halts sends (server a) r.turns_left (reader_part s.part) (stops (Some end.fault) end.refused r'.turns_left)
      → untimed after ≡ stored_as s (reader_part s.part) → EndsAs sends receives a s r (Err end) after r'
  halts_so s after r r' end live read halts is =
      let out : Gives (Told U) = stops (Some end.fault) end.refused r'.turns_left in
      record {
        turns = [];
        out = out;
        end = reader_part s.part;
        reads = (refl, at_true (out ≡ stops None false r.turns_left) (reads_on (core_of s.part)) (live_reads s.part live) halts);
        answer_is = refl;
        refused_is = refl;
        left = refl;
        read = read;
        no_note = refl;
        after_is = is;
      }

  -- no receive is left
  pub none_left : (s : Stored T U C) (r : Reading) → Live s.part → r.read ≤ most → LacksIn sends receives a s.part → r.turns_left ≡ 0
      → EndsAs sends receives a s r (Err (record { fault = fault.WouldBlock; refused = false })) s r
  none_left s r live within lacks none = halts_so s s r r _ live (omega (arith, within)) (inl (lacks, none, refl)) (made_end s.serial s.part s.made)

  -- ---- a message was taken

  -- the client with these objects, once the request was gone through
  abbrev pub gone_through : Stored T U C → LinkState T → ClientObjects U → Stored T U C
  gone_through s link objects = record {
    serial = s.serial;
    part = record s.part { link = link; store = objects.map.store; last_serial = objects.last_serial; registries = objects.registries.items };
    made = s.made;
    times = s.times;
  }

  pub message_taken : (front : FrontRequest) (s : Stored T U C) (r r' : Reading) (link : LinkState T) (objects objects' : ClientObjects U) (response : Response) (f : Found)
      (args : List (Argument IdParts Token))
      (to : MessageResult) (after : Stored T U C)
      → Live s.part → core_with (core_of s.part) s.part.client_data objects ≡ core_of s.part
      → TookRequest a s.part.client_data front objects s.part.link (Ok response) f args objects' link
      → IsHandled sends (response_to a (core_of (gone_through s link objects').part) (addressed_by front) response f args) (gone_through s link objects') to after
      → length link.incoming.bytes < length s.part.link.incoming.bytes → r'.turns_left ≡ r.turns_left → r'.read ≡ counted r.read 1
      → HandlesMessage sends receives a s r to after r'
  message_taken front s r r' link objects objects' response f args to after live same (m, row, read, is, responds) handled fewer left count =
      let store : objects.map.store ≡ s.part.store = ap (λ (core : Core U C). core.store) same in
      let (x, holds) : (x : Object (Kept U)) × (held objects.map.store m.sender ≡ Some x) = grind (arith, held objects.map.store m.sender) in
      let here : held s.part.store m.sender ≡ Some x = rw (← store) holds in
      let there : row_in a.table (held s.part.store m.sender) m.opcode ≡ Some row = rw (← store) is in
      let v = response_to a (core_of (gone_through s link objects').part) (addressed_by front) response f args in
      let verdict : request_to a (core_of s.part) m x row ≡ v
      = subst (λ (core : Core U C). request_to a core m x row ≡ v) same (responds x (core_of s.part) holds) in
      message_handled s r r' live v (gone_through s link objects').part to after
      (m, rw (← store) read, sym verdict ∙ sym (ap₂ (request a (core_of s.part) m) here there))
      handled fewer left count

  -- ---- receives

  pub goes_within : (s m : Stored T U C) (r q : Reading) → ReadsOn sends receives a s r m q → q.read ≤ most
  goes_within s m r q g = let e = g.read in omega (arith, e)

  module _ (s : Stored T U C) (r q : Reading) (live : Live s.part) (within : r.read ≤ most) (lacks : LacksIn sends receives a s.part)
      (left : r.turns_left ≡ suc q.turns_left)
      (read : q.read ≡ r.read) where
    -- a receive, and what follows
    receive_reads : (rc : Result Queue IoFault) (answer : Result (Unit {0}) IoFault) (link : LinkState T) (turns : List Turn) (out : Gives (Told U))
        (end : ReaderState T (Core U C)) → FilledBy receives s.part.link rc answer link → FindsRoom s.part.link (grown_capacity s.part.link)
        → MatchResult answer (λ _. Reads sends (server a) receives q.turns_left (record { core = core_of s.part; link = link }) turns out end)
        (λ f. (turns ≡ []) × (out ≡ stops (Some f) (lacks_memory (Err f)) q.turns_left)
        × (end ≡ record { core = faulted (core_of s.part) f; link = link }))
        → Reads sends (server a) receives r.turns_left (reader_part s.part) (Received rc ∷ turns) out end
    receive_reads rc answer link turns out end made finds follows =
        let room = room_found receives s.part.link link rc answer made finds in
        (live_reads s.part live, lacks, (q.turns_left, left, (link, (made.0, refl, made.2), room, rw (← made.1) follows)))

    -- a receive after which it goes on
    pub fills_goes : (after : Stored T U C) → Fills receives s None after → ReadsOn sends receives a s r after q
    fills_goes after (inr (impossible, same, asks), finds, is) = grind (arith)
    fills_goes after (inl (rc, made), finds, is) = record {
      first = Received rc ∷ [];
      gave = [];
      leads = λ turns rest end reads. receive_reads rc (Ok tt) after.part.link turns rest end made finds (rw is at reads);
      silent = λ rest. refl;
      no_note = refl;
      read = read ∙ (omega (arith, within));
      live = (ap (λ (x : Stored T U C). x.part.is_killed) is ∙ live.0, ap (λ (x : Stored T U C). x.part.action) is ∙ live.1);
      serial = ap (λ (x : Stored T U C). x.serial) is;
      made = ap (λ (x : Stored T U C). x.made) is;
    }

    -- a receive that ends it
    pub fills_ends : (end : NoAction) (after : Stored T U C) → Fills receives s (Some end) after → EndsAs sends receives a s r (Err end) after q
    fills_ends end after (link, inl (rc, made), finds, refused, is) =
        let out : Gives (Told U) = stops (Some end.fault) (lacks_memory (Err end.fault)) q.turns_left in
        let last : ReaderState T (Core U C) = record { core = faulted (core_of s.part) end.fault; link = link } in
        record {
          turns = Received rc ∷ [];
          out = out;
          end = last;
          reads = receive_reads rc (Err end.fault) link [] out last made finds (refl, refl, refl);
          answer_is = refl;
          refused_is = refused;
          left = refl;
          read = read ∙ (omega (arith, within));
          no_note = refl;
          after_is = is;
        }
    fills_ends end after (link, inr (failed, same, asks), finds, refused, is) =
        let memory : end.fault ≡ fault.OutOfMemory = grind (arith, end.fault) in
        halts_so s after r q end live (read ∙ (omega (arith, within))) (inr (inr ((lacks, asks), (q.turns_left, left, rw (refused, memory) refl))))
        (is ∙ rw (memory, same) refl)

-- ---- an open action is answered first, and then that the client was killed

pub live_is : {A : Type 0} (o : Option A) → is_some o ≡ false → o ≡ None
live_is h1 none = grind (arith, true≢false)

-- a receive is no note, nor is a send
pub notes_of_exchanges : {U : Type 0} (turns : List Turn) → notes_in {U = U} (exchanges_in turns) ≡ []
notes_of_exchanges [] = refl
notes_of_exchanges {U} (turn ∷ turns) = grind (arith, notes_append, notes_of_sends, notes_of_exchanges {U = U} turns, turn)

module _ {T U G C : Type 0} (sends : T → Queue → Result ℕ IoFault → T → Type 0) (receives : T → ℕ → Result Queue IoFault → T → Type 0)
    (a : Around G C)
    (s after : Stored T U C) (r r' : Reading) where
  abbrev pub NextDoes : Result Handed ActionError → Bool → Type 0
  NextDoes answer refused = Does s (λ p did q. NextAction sends receives a r p answer r' refused did q) after

  -- a reading that ended is what is told of one
  pub reading_done : (answer : Result Handed NoAction) → Live s.part → EndsAs sends receives a s r answer after r'
      → NextDoes (answer_of answer) (refused_of answer)
  reading_done answer live e =
      let did : List (Deed U) = deeds_of (exchanges_in e.turns) e.out.gave e.end.core in
      let notes : notes_in did ≡ notes_in (end_deeds {U = U} e.end.core.ended)
      = grind (arith, notes_append, exchanges_in, deeds_in, end_deeds, notes_in, notes_of_exchanges) in
      let reading : r' ≡ read_on r e.out.left (handled_in e.turns) = grind (arith, e.left, e.read) in (
        did,
        part_of e.end,
        where_none s.part.action (sym live.1) _ _
            (at_false _ s.part.is_killed live.0 (e.turns, e.out, e.end, e.reads, e.answer_is, reading, e.refused_is, refl, refl)),
        e.after_is ∙ rw notes refl,
      )

  -- nothing is read: an open action is answered first, and then that the client was killed
  pub open_done : r' ≡ r → after ≡ s → is_some s.part.action ≡ true → NextDoes (Err ActionOpen) false
  open_done left same some =
      let (action, is) : (x : OpenAction) × (Some x ≡ s.part.action) = grind (arith, s.part.action) in
      rw same (does_quietly s (λ p did q. NextAction sends receives a r p (Err ActionOpen) r' false did q) s.part
      (where_some s.part.action action is _ _ (refl, left, refl, refl, refl)))

  pub killed_done : r' ≡ r → after ≡ s → is_some s.part.action ≡ false → s.part.is_killed ≡ true → NextDoes (Err (Io fault.Pipe)) false
  killed_done left same none dead =
      rw same (does_quietly s (λ p did q. NextAction sends receives a r p (Err (Io fault.Pipe)) r' false did q) s.part
      (where_none s.part.action (sym (live_is s.part.action none)) _ _ (at_true _ s.part.is_killed dead (refl, left, refl, refl, refl))))

-- a fault that kills
pub fault_fills : {T U C : Type 0} (receives : T → ℕ → Result Queue IoFault → T → Type 0) (s after : Stored T U C) (link : LinkState T) (f : IoFault)
    → f ≢ fault.WouldBlock → f ≢ fault.OutOfMemory → Filled receives s.part.link (Err f) link → FindsRoom s.part.link (grown_capacity s.part.link)
    → Does (linked s link) (λ p did q. Kills p ConnectionClosed did q) after
    → Fills receives s (Some (record { fault = f; refused = false })) after
fault_fills receives s after link f blocks memory filled finds kills =
    (link, filled, finds, sym (grind (arith)), kills_is (linked s link) after ConnectionClosed kills ∙ (grind (arith)))
