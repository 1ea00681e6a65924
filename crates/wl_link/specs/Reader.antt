-- A reader of messages: what it holds, and how it reads. Each of the two sessions is one.
--
-- A reader has a link and a *core*, which is all else that it holds. For each message there is a *verdict*, a function of
-- the core and the message. It says what the core becomes, which messages are *put* (written after what waits to be
-- sent), and what is handed out; and what the core becomes if memory is refused. A *reading* is a list of receives and of
-- verdicts that were carried out. It goes on while the core reads on.
use Rattle.std.specs.Prelude.{◌≡◌, ◌≢◌, ◌⊎◌, ℕ, suc, ◌+◌, Bool, true, false, ◌||◌, List, [], ◌∷◌, ◌++◌, Option, None, Some, Result, Ok, Err, MatchResult, MatchBool, map}
use Rattle.wl_wire.specs.declared.argument.ArgumentType.{ArgumentType}
use Rattle.wl_wire.specs.declared.error.IoFault.{IoFault}
use Rattle.wl_wire.specs.declared.error.MessageParseError.{MessageParseError}
use Rattle.wl_wire.specs.declared.error.IoFault.TheVariants as fault
use Rattle.wl_wire.specs.declared.error.MessageParseError.TheVariants as parse
use Rattle.wl_wire.specs.Message.{WireMessage}
use Rattle.wl_wire.specs.Parse.{IsThere, length_of, opcode_of, payload_of, sender_of}
use Rattle.wl_link.specs.Exchange.{Queue, Sending, joined, nothing}
use Rattle.wl_link.specs.Link.{FilledBy, FindsRoom, LinkState, ReadOne, ReceiveAsks, count_of, counted_answer}
use Rattle.wl_link.specs.Puts.{FlushesOut, PutsOut, Said, lacks_memory}

-- a malformed message: its header, and the bytes of its arguments, if there is a signature for them
pub record Unreadable : Type 0 where
  pub sender : ℕ
  pub opcode : ℕ
  pub size : ℕ
  pub payload : List ℕ

abbrev pub unreadable : Option (List ArgumentType) → List ℕ → Unreadable
unreadable None raw = record { sender = sender_of raw; opcode = opcode_of raw; size = length_of raw; payload = [] }
unreadable (Some signature) raw =
    record { sender = sender_of raw; opcode = opcode_of raw; size = length_of raw; payload = payload_of raw }

-- what a message, malformed bytes, or the end of what is open does
pub record Verdict (Core Event : Type 0) : Type 0 where
  -- what the core becomes at once
  pub core : Core
  -- the messages that are put, up to the first that fails, and whether a flush follows
  pub puts : List Said
  pub flushes : Bool
  -- what the core becomes after that
  pub last : Core → Core
  -- whether memory is asked for before anything is put; and what the core becomes if it is refused, then or for a put
  pub asks : Bool
  pub starved : Core
  -- what is handed out; it depends on what the core became
  pub events : Core → List Event

pub record Reader (Core Event Finish : Type 0) : Type 0 where
  -- it is live, and nothing that was handed out is open
  pub reads_on : Core → Bool
  pub signature : Core → ℕ → ℕ → Option (List ArgumentType)
  -- a message of that sender and opcode asks for memory before it is read
  pub asks : Core → ℕ → ℕ → Bool
  pub handles : Core → WireMessage → Verdict Core Event
  pub malformed : Core → Unreadable → Verdict Core Event
  -- the verdict if what is open is ended with these data; `None` if it cannot be
  pub takes : Core → Finish → Option (Verdict Core Event)
  -- what the core becomes if a write failed, and if a receive failed
  pub broken : Core → IoFault → Core
  pub faulted : Core → IoFault → Core

-- what a reader holds
pub record ReaderState (T Core : Type 0) : Type 0 where
  pub core : Core
  pub link : LinkState T

-- what a reader gives to others: a message that was put, or what was handed out
pub data Given (Event : Type 0) : Type 0 where
  Queued : Said → Given Event
  HandedOut : Event → Given Event

-- the messages that were put
abbrev pub queued_in : {Event : Type 0} → List (Given Event) → List Said
queued_in [] = []
queued_in (Queued m ∷ gave) = m ∷ queued_in gave
queued_in (HandedOut _ ∷ gave) = queued_in gave

-- an entry of a reading: a receive, or the handling of a message or of malformed bytes, with the sends that it made
pub data Turn : Type 0 where
  Received : Result Queue IoFault → Turn
  Handled : List Sending → Turn
  Unread : List Sending → Turn

-- what a reading gives: messages and events, the fault that ended it if the core would read on, whether memory was
-- refused, and how many receives are left
pub record Gives (Event : Type 0) : Type 0 where
  pub gave : List (Given Event)
  pub stopped : Option IoFault
  pub refused : Bool
  pub left : ℕ

-- nothing was given, and the reading ends here
abbrev pub stops : {Event : Type 0} → Option IoFault → Bool → ℕ → Gives Event
stops stopped refused left = record { gave = []; stopped = stopped; refused = refused; left = left }

-- what was given first, and then the rest
abbrev pub given_first : {Event : Type 0} → List (Given Event) → Bool → Gives Event → Gives Event
given_first first refused rest = record rest { gave = first ++ rest.gave; refused = refused || rest.refused }

-- how many messages were handled
abbrev pub handled_in : List Turn → ℕ
handled_in [] = 0
handled_in (Handled es ∷ turns) = handled_in turns + 1
handled_in (_ ∷ turns) = handled_in turns

-- the receive brought a byte, or would have blocked
abbrev pub IsFed : Result Queue IoFault → Type 0
IsFed (Ok came) = came.bytes ≢ []
IsFed (Err f) = f ≡ fault.WouldBlock

abbrev pub AllFed : List Turn → Type 0
AllFed [] = Unit {0}
AllFed (Received r ∷ turns) = IsFed r × AllFed turns
AllFed (Handled es ∷ turns) = AllFed turns
AllFed (Unread es ∷ turns) = AllFed turns

abbrev pub came_by : Result Queue IoFault → Queue
came_by (Ok came) = came
came_by (Err f) = nothing

-- what all receives brought
abbrev pub received_in : List Turn → Queue
received_in [] = nothing
received_in (Received r ∷ turns) = joined (came_by r) (received_in turns)
received_in (Handled es ∷ turns) = received_in turns
received_in (Unread es ∷ turns) = received_in turns

abbrev pub sends_in : List Turn → List Sending
sends_in [] = []
sends_in (Received r ∷ turns) = sends_in turns
sends_in (Handled es ∷ turns) = es ++ sends_in turns
sends_in (Unread es ∷ turns) = es ++ sends_in turns

module _ {T Core : Type 0} where
  abbrev pub with_link : ReaderState T Core → LinkState T → ReaderState T Core
  with_link p link = record { core = p.core; link = link }

-- ---- a verdict is carried out

abbrev pub put_and_gave : {Event : Type 0} → List Said → List Event → List (Given Event)
put_and_gave put events = map Queued put ++ map HandedOut events

module _ {Core Event Finish : Type 0} (reader : Reader Core Event Finish) where
  -- what the core becomes if the messages were put, or if a write failed in this way
  abbrev pub came_to : Verdict Core Event → Result (Unit {0}) IoFault → Core
  came_to v (Ok _) = v.last v.core
  came_to v (Err fault.OutOfMemory) = v.starved
  came_to v (Err f) = v.last (reader.broken v.core f)

module _ {T Core Event Finish : Type 0} (sends : T → Queue → Result ℕ IoFault → T → Type 0) (reader : Reader Core Event Finish) where
  -- the messages of a verdict are put, and what waits is flushed if the verdict says so
  abbrev pub Carries : Verdict Core Event → LinkState T → List Sending → List (Given Event) → Bool → ReaderState T Core → Type 0
  Carries v before es gave refused after =
      (first : List Sending) × (others : List Sending) × (put : List Said) × (wrote : Result (Unit {0}) IoFault) × (mid : LinkState T) × (lacked : Bool)
      × PutsOut sends before v.puts first put wrote mid × FlushesOut sends v.flushes mid others lacked after.link
      × (es ≡ first ++ others) × (after.core ≡ came_to reader v wrote) × (gave ≡ put_and_gave put (v.events (came_to reader v wrote)))
      × (refused ≡ lacks_memory wrote || lacked)

  -- memory is refused, and nothing is put
  abbrev pub Starves : Verdict Core Event → LinkState T → List Sending → List (Given Event) → Bool → ReaderState T Core → Type 0
  Starves v before es gave refused after =
      (v.asks ≡ true) × (refused ≡ true) × (es ≡ []) × (gave ≡ map HandedOut (v.events v.starved)) × (after ≡ record { core = v.starved; link = before })

  -- a verdict is carried out: with these sends, giving this; `refused` says whether memory was refused
  abbrev pub CarriesOut : Verdict Core Event → LinkState T → List Sending → List (Given Event) → Bool → ReaderState T Core → Type 0
  CarriesOut v before es gave refused after = Carries v before es gave refused after ⊎ Starves v before es gave refused after

  -- ---- a reading

  -- a read of the message at the front answers so, under the signature that the core has for it
  abbrev pub ReadsAs : ReaderState T Core → Result WireMessage MessageParseError → LinkState T → Type 0
  ReadsAs p answer link = ReadOne (λ sender opcode found. found ≡ reader.signature p.core sender opcode) p.link answer link

  -- bytes or tokens of the message at the front are lacking
  abbrev pub Lacks : ReaderState T Core → Type 0
  Lacks p = ReadsAs p (Err parse.MissingData) p.link ⊎ ReadsAs p (Err parse.MissingFD) p.link

  -- the message at the front is there to its end, with its tokens
  abbrev pub IsThereWhole : ReaderState T Core → Type 0
  IsThereWhole p =
      (signature : List ArgumentType)
      × (reader.signature p.core (sender_of p.link.incoming.bytes) (opcode_of p.link.incoming.bytes) ≡ Some signature)
      × IsThere p.link.incoming.bytes signature p.link.incoming.tokens

  -- the message at the front asks for memory: if it is there whole, before it is read, or for its texts and arrays
  abbrev pub FrontAsks : ReaderState T Core → Type 0
  FrontAsks p =
      ((reader.asks p.core (sender_of p.link.incoming.bytes) (opcode_of p.link.incoming.bytes) ≡ true) × IsThereWhole p)
      ⊎ ReadsAs p (Err parse.OutOfMemory) p.link

  -- the bytes at the front as a malformed message
  abbrev pub unreadable_front : ReaderState T Core → Unreadable
  unreadable_front p =
      unreadable (reader.signature p.core (sender_of p.link.incoming.bytes) (opcode_of p.link.incoming.bytes)) p.link.incoming.bytes

  -- the message at the front is taken, and has this verdict; or the bytes there are malformed, and stay (`Leaves`)
  abbrev pub Takes : ReaderState T Core → Verdict Core Event → LinkState T → Type 0
  Takes p v link = (m : WireMessage) × ReadsAs p (Ok m) link × (v ≡ reader.handles p.core m)

  abbrev pub Leaves : ReaderState T Core → Verdict Core Event → LinkState T → Type 0
  Leaves p v link = ReadsAs p (Err parse.Malformed) p.link × (link ≡ p.link) × (v ≡ reader.malformed p.core (unreadable_front p))

  -- no receive is left; or memory is refused, if the message at the front or a receive asks for some
  abbrev pub Halts : ℕ → ReaderState T Core → Gives Event → Type 0
  Halts left p out =
      (Lacks p × (left ≡ 0) × (out ≡ stops (Some fault.WouldBlock) false left))
      ⊎ ((FrontAsks p × (out ≡ stops (Some fault.OutOfMemory) true left))
      ⊎ ((Lacks p × ReceiveAsks p.link) × ((n : ℕ) × (left ≡ suc n) × (out ≡ stops (Some fault.OutOfMemory) true n))))

  -- the reading ends here: the core no longer reads on, or the reading has to stop (`Halts`)
  abbrev pub Stops : ℕ → ReaderState T Core → Gives Event → Type 0
  Stops left p out = MatchBool (reader.reads_on p.core) (Halts left p out) (out ≡ stops None false left)

  -- a verdict is carried out, and then the reading goes on
  abbrev pub Then : (ReaderState T Core → Verdict Core Event → LinkState T → Type 0) → ReaderState T Core → List Sending → Gives Event
      → (ReaderState T Core → Gives Event → Type 0) → Type 0
  Then Found before es out on =
      (reader.reads_on before.core ≡ true)
      × ((v : Verdict Core Event) × (link : LinkState T) × (first : List (Given Event)) × (lacked : Bool) × (mid : ReaderState T Core) × (rest : Gives Event)
      × Found before v link × CarriesOut v link es first lacked mid × (out ≡ given_first first lacked rest) × on mid rest)

  -- A reading with so many receives left. A receive is made only if bytes or tokens are lacking. If the message at the front
  -- lacks bytes, and is no longer than the incoming buffer may become, the receive finds a byte free.
  abbrev pub Reads : (T → ℕ → Result Queue IoFault → T → Type 0) → ℕ → ReaderState T Core → List Turn → Gives Event → ReaderState T Core → Type 0
  Reads receives left before [] out after = (after ≡ before) × Stops left before out
  Reads receives left before (Received r ∷ turns) out after =
      (reader.reads_on before.core ≡ true) × Lacks before
      × ((n : ℕ) × (left ≡ suc n)
      × ((link : LinkState T) × FilledBy receives before.link r (counted_answer (count_of r)) link × FindsRoom before.link link.incoming_capacity
      × MatchResult (counted_answer (count_of r))
      (λ _. Reads receives n (with_link before link) turns out after)
      (λ f. (turns ≡ []) × (out ≡ stops (Some f) (lacks_memory (Err f)) n) × (after ≡ record { core = reader.faulted before.core f; link = link }))))
  Reads receives left before (Handled es ∷ turns) out after =
      Then Takes before es out (λ mid rest. Reads receives left mid turns rest after)
  Reads receives left before (Unread es ∷ turns) out after =
      Then Leaves before es out (λ mid rest. Reads receives left mid turns rest after)

  -- what is open is ended with these data
  abbrev pub Ends : ReaderState T Core → Finish → List Sending → List (Given Event) → Bool → ReaderState T Core → Type 0
  Ends before u es gave refused after =
      (v : Verdict Core Event) × (reader.takes before.core u ≡ Some v) × CarriesOut v before.link es gave refused after
