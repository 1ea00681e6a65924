-- The client as a reader of messages (`Reader` of `wl_link`): what each message, and the end of an event, does to its core.
use Rattle.std.specs.Prelude.{◌≡◌, ◌⊎◌, ℕ, length, List, [], ◌∷◌, Bool, true, false, ◌&&◌, ◌||◌, nat_lt, if◌then◌else◌, Option, None, Some, is_some, is_none, Result, Ok, Err, MatchOption}
use Rattle.wl_wire.specs.declared.argument.Token.{Token}
use Rattle.wl_wire.specs.declared.error.IoFault.{IoFault}
use Rattle.wl_wire.specs.declared.error.IoFault.TheVariants as fault
use Rattle.wl_wire.specs.declared.error.MessageParseError.{MessageParseError}
use Rattle.wl_wire.specs.declared.error.MessageParseError.TheVariants as parse
use Rattle.wl_wire.specs.declared.message.Message.{Message}
use Rattle.wl_wire.specs.Message.{WireMessage}
use Rattle.wl_wire.specs.MessageRows.{creates}
use Rattle.wl_wire.specs.Table.{MessageRow}
use Rattle.wl_link.specs.declared.object.Object.{Object}
use Rattle.wl_link.specs.Exchange.{Queue}
use Rattle.wl_link.specs.Identity.{Objects}
use Rattle.wl_link.specs.Link.{FindsRoom, LinkState, ReadOne}
use Rattle.wl_link.specs.Reader.{Given, Gives, HandedOut, ReaderState, Queued, Reader, Reads, Turn, Verdict}
use Rattle.wl_link.specs.Store.{held}
use Rattle.wl_client.specs.declared.error.EventError.{EventError}
use Rattle.wl_client.specs.declared.error.EventError.TheVariants as no_event
use Rattle.wl_client.specs.declared.error.WaylandError.{WaylandError}
use Rattle.wl_client.specs.declared.error.WaylandError.TheVariants.{Io, Protocol}
use Rattle.wl_client.specs.declared.event_fault.EventFault.TheVariants as wrong
use Rattle.wl_client.specs.declared.objects.Kept.{Kept}
use Rattle.wl_client.specs.declared.event.OpenEvent.{OpenEvent}
use Rattle.wl_client.specs.ObjectId.{IdParts}
use Rattle.wl_client.specs.Events.{error_of}
use Rattle.wl_client.specs.Finish.{core_finished, refusal}
use Rattle.wl_client.specs.Freeing.{freed_as, freed_asks, freeing}
use Rattle.wl_client.specs.Handling.{Handling, Swallows, HandsOut, Breaks, handed, handling_by, row_in, signature_by}
use Rattle.wl_client.specs.Requests.{SessionMessage, session_content}
use Rattle.wl_client.specs.Session.{Core, SessionState, alive, core_of, named}

-- how many receives a reading makes at most
abbrev pub receives_allowed : ℕ
receives_allowed = 64

-- the answer of a reading, with the event as contracts see it
abbrev pub event_content : Result (Message IdParts Token) EventError → Result SessionMessage EventError
event_content (Ok m) = Ok (session_content m)
event_content (Err e) = Err e

-- an event asks for memory before it is read: for the object that it makes, or for arguments beyond four
abbrev pub row_asks : Option MessageRow → Bool
row_asks None = false
row_asks (Some row) = creates row || nat_lt 4 (length row.signature)

module _ {U : Type 0} where
  abbrev pub objects_in : Core U → Objects (Kept U)
  objects_in c = record { store = c.store; last_serial = c.last_serial }

  abbrev pub with_objects : Core U → Objects (Kept U) → Core U
  with_objects c objects = record c { store = objects.store; last_serial = objects.last_serial }

  abbrev pub fails_by : Core U → WaylandError → Core U
  fails_by c e = record c { error = Some e }

  -- ---- the handling of an event

  abbrev pub core_after : Core U → Handling U → Core U
  core_after c (Swallows o) = with_objects c o
  core_after c (HandsOut m event o) = record (with_objects c o) { open_event = Some event }
  core_after c (Breaks e o) = fails_by (with_objects c o) (Protocol e)

  -- if there is no memory for an error's texts, `OutOfMemory` is stored in its place; another message asks for no memory
  abbrev pub starved_to : Core U → Handling U → Core U
  starved_to c (Breaks e o) = fails_by (with_objects c o) (Io fault.OutOfMemory)
  starved_to c h = core_after c h

  abbrev pub breaks : Handling U → Bool
  breaks (Breaks e o) = true
  breaks _ = false

  -- a client puts nothing while it reads
  abbrev pub verdict : Core U → Handling U → Verdict (Core U) SessionMessage
  verdict c h = record {
    core = core_after c h;
    puts = [];
    flushes = false;
    last = λ d. d;
    asks = breaks h;
    starved = starved_to c h;
    events = λ d. handed h;
  }

  -- the core with the id of the object that leaves its number by this message, if there is one and the program has ids kept
  abbrev pub freed_core : Core U → WireMessage → Handling U → Core U
  freed_core c m h = freeing c (freed_as c.passes_over c.table (objects_in c) m h)

  abbrev pub verdict_of : Core U → WireMessage → Handling U → Verdict (Core U) SessionMessage
  verdict_of c m h = verdict (freed_core c m h) h

  -- ---- a finish

  abbrev pub has_data : Option (Object (Kept U)) → Bool
  has_data None = false
  has_data (Some x) = is_some x.value.user_data

  -- there may be no memory for the note of an object that the event ends
  abbrev pub finish_verdict : Core U → OpenEvent → Option U → Verdict (Core U) SessionMessage
  finish_verdict c event u = record {
    core = core_finished c event u;
    puts = [];
    flushes = false;
    last = λ d. d;
    asks = event.is_destructor && has_data (alive (named c.store event.sender));
    starved = c;
    events = λ d. [];
  }

  -- the verdict if an event is finished with these data; `None` if no event is open, or they do not fit
  abbrev pub finish : Core U → Option WaylandError → Option OpenEvent → Option U → Option (Verdict (Core U) SessionMessage)
  finish c None (Some event) u = if is_none (refusal event.created u) then Some (finish_verdict c event u) else None
  finish c _ _ u = None

  -- ---- the reader

  -- a fault of the transport is stored, unless more may be received later
  abbrev pub faulted : Core U → IoFault → Core U
  faulted c fault.WouldBlock = c
  faulted c fault.OutOfMemory = c
  faulted c other = fails_by c (Io other)

  abbrev pub reads_on : Core U → Bool
  reads_on c = is_none c.error && is_none c.open_event

  -- the client as a reader
  abbrev pub client : Reader (Core U) SessionMessage (Option U)
  client = record {
    reads_on = reads_on;
    signature = λ c sender opcode. signature_by c.passes_over c.table c.store sender opcode;
    asks = λ c sender opcode. row_asks (row_in c.table (held c.store sender) opcode) || freed_asks c.keeps_freed sender opcode;
    handles = λ c m. verdict_of c m (handling_by c.passes_over c.table (objects_in c) m);
    malformed = λ c u. verdict c (Breaks (error_of c.table wrong.Malformed) (objects_in c));
    takes = λ c u. finish c c.error c.open_event u;
    broken = λ c f. fails_by c (Io f);
    faulted = faulted;
  }

-- ---- a reading's answer

abbrev pub event_in : List (Given SessionMessage) → Result SessionMessage EventError
event_in (HandedOut m ∷ gave) = Ok m
event_in (Queued m ∷ gave) = event_in gave
event_in [] = Err no_event.Failed

abbrev pub by_fault : IoFault → EventError
by_fault fault.WouldBlock = no_event.WouldBlock
by_fault fault.OutOfMemory = no_event.OutOfMemory
by_fault other = no_event.Failed

-- the answer of a reading that ended so and gave this
abbrev pub answered : Option IoFault → List (Given SessionMessage) → Result SessionMessage EventError
answered None gave = event_in gave
answered (Some f) gave = Err (by_fault f)

-- what an answer hands out
abbrev pub handed_by : Result SessionMessage EventError → List (Given SessionMessage)
handed_by (Ok m) = HandedOut m ∷ []
handed_by (Err e) = []

module _ {T U : Type 0} where
  abbrev pub with_link : SessionState T U → LinkState T → SessionState T U
  with_link s link = record s { link = link }

  abbrev pub with_error : SessionState T U → WaylandError → SessionState T U
  with_error s e = record s { error = Some e }

  -- the session as the state of a reader
  abbrev pub reader_state_of : SessionState T U → ReaderState T (Core U)
  reader_state_of s = record { core = core_of s; link = s.link }

  -- what a read of the message at the front answers, and the link after it
  abbrev pub ReadsAs : SessionState T U → Result WireMessage MessageParseError → LinkState T → Type 0
  ReadsAs s answer link = ReadOne (λ sender opcode found. found ≡ signature_by s.passes_over s.table s.store sender opcode) s.link answer link

  -- of the message at the front bytes or tokens are lacking
  abbrev pub Lacks : SessionState T U → Type 0
  Lacks s = ReadsAs s (Err parse.MissingData) s.link ⊎ ReadsAs s (Err parse.MissingFD) s.link

  -- If a reading ends the session because no bytes came, a byte was free for what the message at the front lacks, unless
  -- that message is longer than the incoming buffer may become.
  abbrev pub EndsWithRoom : SessionState T U → SessionState T U → Type 0
  EndsWithRoom before after = before.error ≡ None → after.error ≡ Some (Io fault.Pipe) → FindsRoom after.link after.link.incoming_capacity

  module _ (sends : T → Queue → Result ℕ IoFault → T → Type 0) (receives : T → ℕ → Result Queue IoFault → T → Type 0) where
    -- a reading answers so
    abbrev pub ReadsTo : SessionState T U → Result SessionMessage EventError → Bool → SessionState T U → Type 0
    ReadsTo before answer refused after =
        (turns : List Turn) × (out : Gives SessionMessage) × Reads sends client receives receives_allowed (reader_state_of before) turns out (reader_state_of after)
        × (answer ≡ answered out.stopped out.gave) × (out.gave ≡ handed_by answer) × (refused ≡ out.refused)

    -- a stored error is reported first, and then that an event is open
    abbrev pub NextEvent : SessionState T U → Result SessionMessage EventError → Bool → SessionState T U → Type 0
    NextEvent before answer refused after =
        MatchOption before.error
        (MatchOption before.open_event (ReadsTo before answer refused after)
        (λ _. (answer ≡ Err no_event.EventOpen) × (refused ≡ false) × (after ≡ before)))
        (λ _. (answer ≡ Err no_event.Failed) × (refused ≡ false) × (after ≡ before))
