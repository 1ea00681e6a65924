-- What is *served* of bytes and tokens: what a reader does with them if they all wait already, nothing more is received,
-- and memory is not refused.
--
-- The reader here has another transport, of which only the sends count.
use Rattle.std.specs.Prelude.{◌≡◌, ◌⊎◌, ℕ, zero, suc, Bool, false, List, [], ◌∷◌, ◌++◌, None, Result, MatchBool, ◌↔◌}
use Rattle.wl_wire.specs.declared.error.IoFault.{IoFault}
use Rattle.wl_link.specs.Exchange.{Chain, Queue, Sending, joined}
use Rattle.wl_link.specs.Link.{LinkState}
use Rattle.wl_link.specs.Reader.{CarriesOut, Ends, Given, Lacks, Leaves, ReaderState, Reader, Takes, Verdict}

-- the answers to sends, in order
abbrev pub Answers : Type 0
Answers = List (Result ℕ IoFault)

-- the transport that gives each send the next of these answers
abbrev pub AsTold : Answers → Queue → Result ℕ IoFault → Answers → Type 0
AsTold before offer answer after = before ≡ answer ∷ after

abbrev pub link_as : {T S : Type 0} → LinkState T → Queue → S → LinkState S
link_as l more transport = record {
  transport = transport;
  incoming = joined l.incoming more;
  incoming_capacity = 0;
  outgoing = l.outgoing;
  outgoing_capacity = l.outgoing_capacity;
  limit = l.limit;
}

module _ {T Core : Type 0} where
  -- the reader with `more` after what waits, over another transport; it does not receive, and has no incoming capacity
  abbrev pub state_as : {S : Type 0} → ReaderState T Core → Queue → S → ReaderState S Core
  state_as p more transport = record { core = p.core; link = link_as p.link more transport }

module _ {T Core Event Finish : Type 0} (sends : T → Queue → Result ℕ IoFault → T → Type 0) (reader : Reader Core Event Finish) where
  -- ---- one message

  -- the verdict of what stands at the front, a message or malformed bytes
  abbrev pub Finds : ReaderState T Core → Verdict Core Event → LinkState T → Type 0
  Finds p v link = Takes sends reader p v link ⊎ Leaves sends reader p v link

  -- what is open is ended with the next of the finishes
  abbrev pub TakesNext : ReaderState T Core → List Finish → List (Given Event) → ReaderState T Core → List Finish → Type 0
  TakesNext p [] gave after left = ⊥
  TakesNext p (u ∷ finishes) gave after left = (es : List Sending) × Ends sends reader p u es gave false after × (left ≡ finishes)

  -- the message at the front is handled, or the malformed bytes there
  abbrev pub Handles : ReaderState T Core → List (Given Event) → Bool → ReaderState T Core → Type 0
  Handles p gave refused after = (v : Verdict Core Event) × (link : LinkState T) × (es : List Sending) × Finds p v link × CarriesOut sends reader v link es gave refused after

  -- one step: the front is handled if the reader reads on, and else what is open is ended
  abbrev pub ServesOne : ReaderState T Core → List Finish → List (Given Event) → ReaderState T Core → List Finish → Type 0
  ServesOne p finishes gave after left =
      MatchBool (reader.reads_on p.core) (Handles p gave false after × (left ≡ finishes)) (TakesNext p finishes gave after left)

  -- n such steps
  abbrev pub Serves : ℕ → ReaderState T Core → List Finish → List (Given Event) → ReaderState T Core → List Finish → Type 0
  Serves zero p finishes gave after left = (gave ≡ []) × (after ≡ p) × (left ≡ finishes)
  Serves (suc n) p finishes gave after left =
      (first : List (Given Event)) × (others : List (Given Event)) × (mid : ReaderState T Core) × (between : List Finish)
      × ServesOne p finishes first mid between × (gave ≡ first ++ others) × Serves n mid between others after left

  abbrev pub NoneFits : Core → List Finish → Type 0
  NoneFits core [] = Unit {0}
  NoneFits core (u ∷ finishes) = reader.takes core u ≡ None

  -- no step is left: bytes or tokens are lacking, or the next of the finishes does not fit
  abbrev pub Rests : ReaderState T Core → List Finish → Type 0
  Rests p finishes = MatchBool (reader.reads_on p.core) (Lacks sends reader p) (NoneFits p.core finishes)

  -- steps until none is left
  pub record ServedFrom (p : ReaderState T Core) (finishes : List Finish) (gave : List (Given Event)) (after : ReaderState T Core) : Type 0 where
    pub count : ℕ
    pub left : List Finish
    pub serves : Serves count p finishes gave after left
    pub rests : Rests after left

-- what is served if `more` stands after what waits, what is open is ended with `finishes`, one after another, and
-- `transport` answers the sends
abbrev pub Served : {T S Core Event Finish : Type 0} → (S → Queue → Result ℕ IoFault → S → Type 0) → Reader Core Event Finish → ReaderState T Core → Queue → S → List Finish
    → List (Given Event) → ReaderState S Core → Type 0
Served sends reader p more transport finishes gave after = ServedFrom sends reader (state_as p more transport) finishes gave after

-- The reader `before` served over `came` and any rest gives `gave`, and then what the reader `after` served over that rest
-- gives. This holds for each rest, and over each transport that allows these sends.
abbrev pub GoesOnAs : {T S Core Event Finish : Type 0} → (S → Queue → Result ℕ IoFault → S → Type 0) → Reader Core Event Finish → ReaderState T Core → Queue → List Sending
    → List Finish → List (Given Event) → ReaderState T Core → List Finish → Type 0
GoesOnAs {S = S} {Core = Core} {Event = Event} sends reader before came es finishes gave after left =
    (rest : Queue) (first later : S) (all : List (Given Event)) (end : ReaderState S Core) → Chain sends first es later →
    Served sends reader before (joined came rest) first finishes all end
    ↔ ((others : List (Given Event)) × (all ≡ gave ++ others) × Served sends reader after rest later left others end)
