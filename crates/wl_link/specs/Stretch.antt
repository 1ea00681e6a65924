-- A *stretch*: a list of acts over the transport by script. In each act bytes arrive, the reader reads, or what is open is
-- ended.
use Rattle.std.specs.Prelude.{◌≡◌, ◌⊎◌, ◌<◌, ℕ, false, List, [], ◌∷◌, ◌++◌, None, Some, Result, Err, length}
use Rattle.wl_wire.specs.declared.error.IoFault.{IoFault}
use Rattle.wl_wire.specs.declared.error.IoFault.TheVariants as fault
use Rattle.wl_wire.specs.declared.error.MessageParseError.TheVariants as parse
use Rattle.wl_link.specs.Exchange.{Queue, Sending, joined, nothing}
use Rattle.wl_link.specs.Link.{EachWithin, FrontFits, LinkState, incoming_limit, with_transport}
use Rattle.wl_link.specs.Reader.{Ends, Given, Gives, IsFed, Lacks, ReaderState, Reader, Reads, ReadsAs, Turn, came_by, with_link}
use Rattle.wl_link.specs.Served.{Served, state_as}
use Rattle.wl_link.specs.Script.{Script, ScriptReceives, ScriptSends}

-- ---- what has not been received yet

-- all arrivals, joined
abbrev pub left_over : List (Result Queue IoFault) → Queue
left_over [] = nothing
left_over (r ∷ arrivals) = joined (came_by r) (left_over arrivals)

-- each arrival brings a byte, or says that the transport would block
abbrev pub AllPieces : List (Result Queue IoFault) → Type 0
AllPieces [] = Unit {0}
AllPieces (r ∷ arrivals) = IsFed r × AllPieces arrivals

-- the script without its arrivals, which no send looks at
abbrev pub sending_side : Script → Script
sending_side script = record { arrivals = []; answers = script.answers; sent = script.sent }

-- ---- acts

-- something arrives; a reading gives this; or what is open is ended with these data, which gives this
pub data Act (Event Finish : Type 0) : Type 0 where
  Arrived : Result Queue IoFault → Act Event Finish
  HasRead : Gives Event → Act Event Finish
  HasEnded : Finish → List (Given Event) → Act Event Finish

module _ {Event Finish : Type 0} where
  abbrev pub arrived_by : Act Event Finish → Queue
  arrived_by (Arrived r) = came_by r
  arrived_by _ = nothing

  -- what arrived in all
  abbrev pub arrived : List (Act Event Finish) → Queue
  arrived [] = nothing
  arrived (a ∷ acts) = joined (arrived_by a) (arrived acts)

  abbrev pub ended_by : Act Event Finish → List Finish
  ended_by (HasEnded u _) = u ∷ []
  ended_by _ = []

  -- the data with which something was ended
  abbrev pub ended : List (Act Event Finish) → List Finish
  ended [] = []
  ended (a ∷ acts) = ended_by a ++ ended acts

  abbrev pub given_by : Act Event Finish → List (Given Event)
  given_by (Arrived _) = []
  given_by (HasRead out) = out.gave
  given_by (HasEnded _ gave) = gave

  -- what was given in all
  abbrev pub given_in : List (Act Event Finish) → List (Given Event)
  given_in [] = []
  given_in (a ∷ acts) = given_by a ++ given_in acts

  -- a reading that ended because the transport would block
  abbrev pub IsWaiting : Act Event Finish → Type 0
  IsWaiting (HasRead out) = out.stopped ≡ Some fault.WouldBlock
  IsWaiting _ = ⊥

  -- the last act is such a reading
  abbrev pub EndsWaiting : List (Act Event Finish) → Type 0
  EndsWaiting [] = ⊥
  EndsWaiting (a ∷ []) = IsWaiting a
  EndsWaiting (_ ∷ acts) = EndsWaiting acts

module _ {Core : Type 0} where
  abbrev pub arrivals_of : ReaderState Script Core → List (Result Queue IoFault)
  arrivals_of p = p.link.transport.arrivals

  abbrev pub with_arrival : ReaderState Script Core → Result Queue IoFault → ReaderState Script Core
  with_arrival p r = with_link p (with_transport p.link (record p.link.transport { arrivals = arrivals_of p ++ r ∷ [] }))

-- a byte of the incoming buffer is free
abbrev pub HasByteFree : LinkState Script → Type 0
HasByteFree link = length link.incoming.bytes < link.incoming_capacity

module _ {Core Event Finish : Type 0} (reader : Reader Core Event Finish) where
  -- an act, in which memory is not refused
  abbrev pub Does : ReaderState Script Core → Act Event Finish → ReaderState Script Core → Type 0
  Does before (Arrived r) after = IsFed r × (after ≡ with_arrival before r)
  Does before (HasRead out) after =
      (out.refused ≡ false) × ((left : ℕ) × (turns : List Turn) × Reads ScriptSends reader ScriptReceives left before turns out after)
  Does before (HasEnded u gave) after =
      (reader.reads_on before.core ≡ false) × ((es : List Sending) × Ends ScriptSends reader before u es gave false after)

  -- the acts, one after another
  abbrev pub DoesAll : ReaderState Script Core → List (Act Event Finish) → ReaderState Script Core → Type 0
  DoesAll before [] after = after ≡ before
  DoesAll before (a ∷ acts) after = (mid : ReaderState Script Core) × Does before a mid × DoesAll mid acts after

  -- the message at the front is there whole, but for its tokens
  abbrev pub LacksTokens : Core → LinkState Script → Type 0
  LacksTokens core link = ReadsAs ScriptSends reader (record { core = core; link = link }) (Err parse.MissingFD) link

  -- the rest of the message at the front may come: it is no longer than the incoming buffer may become, and its bytes are
  -- not all there
  abbrev pub MayCome : Core → LinkState Script → Type 0
  MayCome core link = FrontFits link × (LacksTokens core link → ⊥)

  -- a receive of no bytes may have ended the reader, whose core was this one then, and bytes or tokens were lacking
  abbrev pub MayEndFrom : Core → ReaderState Script Core → Type 0
  MayEndFrom core after = (after.core ≡ reader.faulted core fault.Pipe) × Lacks ScriptSends reader (record { core = core; link = after.link })

  -- No receive found the buffer full: if a receive of no bytes may have ended the reader, then a byte is free, or the rest
  -- of the message at the front may come, for which a receive finds a byte free.
  abbrev pub NotFull : ReaderState Script Core → Type 0
  NotFull after = (core : Core) → MayEndFrom core after → HasByteFree after.link ⊎ MayCome core after.link

  -- the reader no longer reads on, and nothing is open that could be ended
  abbrev pub IsOver : Core → Type 0
  IsOver core = (reader.reads_on core ≡ false) × ((u : Finish) → reader.takes core u ≡ None)

  -- a receive that would block changes nothing in the core, and the end of the stream is the end of the reader
  pub record EndsByPipe : Type 0 where
    pub blocks : (core : Core) → reader.faulted core fault.WouldBlock ≡ core
    pub over : (core : Core) → IsOver (reader.faulted core fault.Pipe)

  -- The acts lead from `before` to `after`. At their end the reader no longer reads on, or the last act is a reading that
  -- would block, and no arrival is left.
  pub record Spans (before : ReaderState Script Core) (acts : List (Act Event Finish)) (after : ReaderState Script Core) : Type 0 where
    pub does : DoesAll before acts after
    pub pieces : AllPieces (arrivals_of before)
    pub ends : (reader.reads_on after.core ≡ false) ⊎ (EndsWaiting acts × (arrivals_of after ≡ []))

  -- a stretch in which no receive found the buffer full
  pub record IsStretch (before : ReaderState Script Core) (acts : List (Act Event Finish)) (after : ReaderState Script Core) : Type 0 where
    pub spans : Spans before acts after
    pub roomy : NotFull after

  -- A stretch of messages that are no longer than the incoming buffer may become, and whose tokens come no later than the
  -- last byte: if a receive of no bytes may have ended the reader, the message at the front does not lack tokens alone.
  pub record IsStretchWithin (before : ReaderState Script Core) (acts : List (Act Event Finish)) (after : ReaderState Script Core) : Type 0 where
    pub spans : Spans before acts after
    pub within : EachWithin (incoming_limit before.link.limit) (joined before.link.incoming (joined (left_over (arrivals_of before)) (arrived acts))).bytes
    pub in_time : (core : Core) → after.core ≡ reader.faulted core fault.Pipe → LacksTokens core after.link → ⊥

  -- What the stretch gave, and the reader after it, are what is served of all that arrived, if what is open is ended with
  -- the same data, and the script answers the sends.
  abbrev pub IsStretchServed : ReaderState Script Core → List (Act Event Finish) → ReaderState Script Core → Type 0
  IsStretchServed before acts after =
      Served ScriptSends reader before (joined (left_over (arrivals_of before)) (arrived acts)) (sending_side before.link.transport) (ended acts) (given_in acts)
      (state_as after (left_over (arrivals_of after)) (sending_side after.link.transport))
