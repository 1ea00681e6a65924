-- What the functions of a reading say to each other.
use Rattle.std.specs.Prelude.{◌≡◌, ◌⊎◌, ◌<◌, ◌≤◌, ◌+◌, ℕ, min, length, List, [], ◌++◌, Bool, true, false, Option, None, Some, option_map, Result, Ok, Err}
use Rattle.wl_wire.specs.declared.argument.Argument.{Argument}
use Rattle.wl_wire.specs.declared.argument.Token.{Token}
use Rattle.wl_wire.specs.declared.error.IoFault.{IoFault}
use Rattle.wl_wire.specs.declared.error.MessageParseError.{MessageParseError}
use Rattle.wl_wire.specs.declared.error.MessageParseError.TheVariants as parse
use Rattle.wl_wire.specs.Message.{WireMessage}
use Rattle.wl_wire.specs.Parse.{IsThere, opcode_of, sender_of}
use Rattle.wl_wire.specs.Table.{InterfaceRow, IsAcceptedTable, MessageRow, message_row}
use Rattle.wl_link.specs.Exchange.{Queue, Sending}
use Rattle.wl_link.specs.Link.{Filled, FindsRoom, LinkState, ReadOne, grown_capacity}
use Rattle.wl_link.specs.Puts.{lacks_memory}
use Rattle.wl_link.specs.Reader.{CarriesOut, Given, Gives, Lacks, Reads, Turn, Verdict, given_first, handled_in}
use Rattle.wl_link.specs.Reader.{ReaderState}
use Rattle.wl_link.specs.Store.{Store, held}
use Rattle.wl_link.specs.declared.object.Object.{Object}
use Rattle.wl_server_client.specs.declared.reading.action.Reading.{Reading}
use Rattle.wl_server_client.specs.declared.error.ActionError.{ActionError}
use Rattle.wl_server_client.specs.declared.error.ActionError.TheVariants.{Io}
use Rattle.wl_server_client.specs.declared.objects.Kept.{Kept}
use Rattle.wl_server_client.specs.declared.reading.Surroundings.{Surroundings}
use Rattle.wl_server_client.specs.declared.reading.front_request.FrontRequest.{FrontRequest}
use Rattle.wl_server_client.specs.declared.reading.front_request.Sender.{Sender}
use Rattle.wl_server_client.specs.declared.reading.action.Found.{Found}
use Rattle.wl_server_client.specs.declared.reading.action.Found.TheVariants as found
use Rattle.wl_server_client.specs.declared.reading.action.NoAction.{NoAction}
use Rattle.wl_server_client.specs.declared.reading.action.MessageEnd.{MessageEnd}
use Rattle.wl_server_client.specs.declared.reading.action.MessageEnd.TheVariants as came
use Rattle.wl_server_client.specs.Deeds.{Bind, Handed, Registry, Request, notes_in}
use Rattle.wl_server_client.specs.Ids.{ClientParts, GlobalParts, IdParts}
use Rattle.wl_server_client.specs.Part.{Part, with_link}
use Rattle.wl_server_client.specs.Reading.{Around, action_in, answered, faulted, reads_on, row_asks, row_in, server}
use Rattle.wl_server_client.specs.Stored.{Stored, no_times, untimed}
use Rattle.wl_server_client.specs.Telling.{Core, Told, core_of, deeds_in, end_deeds, part_of, reader_part, speaker}

-- what a reading looks at beside its own client, without the last serial of a global
abbrev pub around_of : {G C : Type 0} → (G → ClientParts → C → GlobalParts → Bool) → Surroundings G → Around G C
around_of views s = record {
  table = s.protocol.now;
  client = s.client;
  globals = record { store = s.globals.now.store; last_serial = 0; keeps_names = false };
  views = views;
  object_limit = s.object_limit;
  hands_registries = s.hands_registries;
}

-- ---- a message is taken

module _ {U : Type 0} where
  -- these are the serial, the interface and the version of the object
  abbrev pub IsSenderOf : Sender → Object (Kept U) → Type 0
  IsSenderOf sender x = (x.value.serial ≡ sender.serial) × (x.interface ≡ sender.interface) × (x.version ≡ sender.version)

  -- what the read of the message at the front answers under the signatures of a client's objects
  abbrev pub ReadsIn : {T : Type 0} → List InterfaceRow → Store (Kept U) → LinkState T → Result WireMessage MessageParseError → LinkState T → Type 0
  ReadsIn table store before answer after =
      ReadOne (λ sender opcode found. found ≡ option_map (λ row. row.signature) (row_in table (held store sender) opcode)) before answer after

  -- the message at the front, which is there whole, asks for memory before it is read
  abbrev pub RequestAsks : List InterfaceRow → Store (Kept U) → Queue → Type 0
  RequestAsks table store incoming =
      (row : MessageRow) × (row_in table (held store (sender_of incoming.bytes)) (opcode_of incoming.bytes) ≡ Some row)
      × (row_asks (Some row) ≡ true) × IsThere incoming.bytes row.signature incoming.tokens

  -- no message was taken, for this reason
  abbrev pub NotTaken : {T : Type 0} → List InterfaceRow → Store (Kept U) → LinkState T → MessageParseError → Type 0
  NotTaken table store link e = ReadsIn table store link (Err e) link ⊎ ((e ≡ parse.OutOfMemory) × RequestAsks table store link.incoming)

  -- the message at the front, whose header is there, is this request
  pub record IsFront {T : Type 0} (table : List InterfaceRow) (store : Store (Kept U)) (link : LinkState T) (request : FrontRequest) : Type 0 where
    pub counts_header : 8 ≤ length link.incoming.bytes
    pub number : request.number ≡ sender_of link.incoming.bytes
    pub opcode : request.opcode ≡ opcode_of link.incoming.bytes
    pub row : Some (message_row request.desc.now) ≡ row_in table (held store (sender_of link.incoming.bytes)) (opcode_of link.incoming.bytes)
    pub sender : (x : Object (Kept U)) → held store (sender_of link.incoming.bytes) ≡ Some x → IsSenderOf request.sender x
    pub accepted : IsAcceptedTable table

-- ---- what the handling of a message comes to

-- the action that is handed out, with the arguments of a request
abbrev pub found_with : Found → List (Argument IdParts Token) → Handed
found_with (found.Request sender opcode is_destructor created) args = Request sender opcode args is_destructor created
found_with (found.Bind global object) args = Bind global object
found_with (found.Registry object) args = Registry object

-- what the handling of a message came to, with the action that it hands out
pub data MessageResult : Type 0 where
  Acts : Handed → MessageResult
  WentOn : MessageResult
  LacksMore : MessageResult
  Ended : NoAction → MessageResult

-- an action that is handed out stands in a place of its own
abbrev pub message_result : MessageEnd → Handed → MessageResult
message_result came.HandsOut h = Acts h
message_result came.Continues h = WentOn
message_result came.Lacks h = LacksMore
message_result (came.Ends e) h = Ended e

-- the answer of a reading, and whether memory was refused in it
abbrev pub answer_of : Result Handed NoAction → Result Handed ActionError
answer_of (Ok h) = Ok h
answer_of (Err e) = Err (Io e.fault)

abbrev pub refused_of : Result Handed NoAction → Bool
refused_of (Ok h) = false
refused_of (Err e) = e.refused

-- the count of requests stops at the greatest number
abbrev pub counted : ℕ → ℕ → ℕ
counted read handled = min (read + handled) 0xFFFFFFFFFFFFFFFF

module _ {U : Type 0} where
  -- neither an action nor the end of the reading is among it
  abbrev pub IsSilent : List (Given (Told U)) → Type 0
  IsSilent gave = (rest : List (Given (Told U))) → action_in (gave ++ rest) ≡ action_in rest

  abbrev pub HasNoNote : List (Given (Told U)) → Type 0
  HasNoNote gave = notes_in (deeds_in gave) ≡ []

module _ {U C : Type 0} where
  -- what was given, and the core after it, show that it came to this
  abbrev pub Says : MessageResult → List (Given (Told U)) → Bool → Core U C → Type 0
  Says (Acts h) gave refused c = (refused ≡ false) × (reads_on c ≡ false) × (action_in gave ≡ Ok h)
  Says WentOn gave refused c = (refused ≡ false) × (c.ended ≡ None) × (c.is_killed ≡ false) × (c.action ≡ None) × IsSilent gave
  Says LacksMore gave refused c = ⊥
  Says (Ended end) gave refused c = (refused ≡ end.refused) × (reads_on c ≡ false) × (action_in gave ≡ Err (Io end.fault))

module _ {T U C : Type 0} where
  abbrev pub Live : Part T U C → Type 0
  Live p = (p.is_killed ≡ false) × (p.action ≡ None)

  abbrev pub linked : Stored T U C → LinkState T → Stored T U C
  linked s link = record s { part = with_link s.part link }

  -- the stored client after a reading that left the reader so, with the note of its end
  abbrev pub stored_as : Stored T U C → ReaderState T (Core U C) → Stored T U C
  stored_as before end =
      record { serial = before.serial; part = part_of end; made = before.made ++ notes_in (end_deeds end.core.ended); times = no_times }

  -- a verdict was carried out for a message, and it came to this
  pub record IsHandled (sends : T → Queue → Result ℕ IoFault → T → Type 0) (v : Verdict (Core U C) (Told U)) (before : Stored T U C) (to : MessageResult)
      (after : Stored T U C) : Type 0 where
    pub es : List Sending
    pub gave : List (Given (Told U))
    pub refused : Bool
    pub end : ReaderState T (Core U C)
    pub carried : CarriesOut sends speaker v before.part.link es gave refused end
    pub no_note : HasNoNote gave
    pub says : Says to gave refused end.core
    pub after_is : untimed after ≡ stored_as before end

module _ {T U G C : Type 0} (sends : T → Queue → Result ℕ IoFault → T → Type 0) (receives : T → ℕ → Result Queue IoFault → T → Type 0)
    (a : Around G C) where
  abbrev pub LacksIn : Part T U C → Type 0
  LacksIn p = Lacks sends (server a) (reader_part p)

  -- if a reading that begins now, with so many receives left, may end so, then one that began at `start` may, with these
  -- entries and what they gave before it
  abbrev pub ReadSoFar : ℕ → Part T U C → List Turn → List (Given (Told U)) → ℕ → Part T U C → Type 0
  ReadSoFar left start first gave left' now =
      (turns : List Turn) (rest : Gives (Told U)) (end : ReaderState T (Core U C)) → Reads sends (server a) receives left' (reader_part now) turns rest end
      → Reads sends (server a) receives left (reader_part start) (first ++ turns) (given_first gave false rest) end

  -- what a reading has done so far; it goes on
  pub record ReadsOn (before : Stored T U C) (r : Reading) (now : Stored T U C) (r' : Reading) : Type 0 where
    pub first : List Turn
    pub gave : List (Given (Told U))
    pub leads : ReadSoFar r.turns_left before.part first gave r'.turns_left now.part
    pub silent : IsSilent gave
    pub no_note : HasNoNote gave
    pub read : r'.read ≡ counted r.read (handled_in first)
    pub live : Live now.part
    pub serial : now.serial ≡ before.serial
    pub made : now.made ≡ before.made

  -- a reading ended so
  pub record EndsAs (before : Stored T U C) (r : Reading) (answer : Result Handed NoAction) (after : Stored T U C) (r' : Reading) : Type 0 where
    pub turns : List Turn
    pub out : Gives (Told U)
    pub end : ReaderState T (Core U C)
    pub reads : Reads sends (server a) receives r.turns_left (reader_part before.part) turns out end
    pub answer_is : answer_of answer ≡ answered out.stopped out.gave
    pub refused_is : refused_of answer ≡ out.refused
    pub left : r'.turns_left ≡ out.left
    pub read : r'.read ≡ counted r.read (handled_in turns)
    pub no_note : HasNoNote out.gave
    pub after_is : untimed after ≡ stored_as before end

  -- the message at the front was handled, if one is there
  abbrev pub HandlesMessage : Stored T U C → Reading → MessageResult → Stored T U C → Reading → Type 0
  HandlesMessage before r (Acts h) after r' = EndsAs before r (Ok h) after r'
  HandlesMessage before r WentOn after r' =
      ReadsOn before r after r' × (r'.turns_left ≡ r.turns_left) × (length after.part.link.incoming.bytes < length before.part.link.incoming.bytes)
  HandlesMessage before r LacksMore after r' = LacksIn before.part × (after ≡ before) × (r' ≡ r)
  HandlesMessage before r (Ended end) after r' = EndsAs before r (Err end) after r'

  -- each message that was there whole was handled, and it came to this
  abbrev pub Waited : Stored T U C → Reading → Option (Result Handed NoAction) → Stored T U C → Reading → Type 0
  Waited before r None after r' = ReadsOn before r after r' × (r'.turns_left ≡ r.turns_left) × LacksIn after.part
  Waited before r (Some answer) after r' = EndsAs before r answer after r'

module _ {T U C : Type 0} (receives : T → ℕ → Result Queue IoFault → T → Type 0) where
  -- a receive was made, or there was no memory for it; and why it ends the reading, if it does
  abbrev pub Fills : Stored T U C → Option NoAction → Stored T U C → Type 0
  Fills before None after =
      Filled receives before.part.link (Ok tt) after.part.link × FindsRoom before.part.link (grown_capacity before.part.link)
      × (after ≡ linked before after.part.link)
  Fills before (Some end) after =
      (link : LinkState T) × Filled receives before.part.link (Err end.fault) link
      × FindsRoom before.part.link (grown_capacity before.part.link) × (end.refused ≡ lacks_memory (Err end.fault))
      × (untimed after ≡ stored_as before (record { core = faulted (core_of before.part) end.fault; link = link }))
