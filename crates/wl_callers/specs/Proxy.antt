-- What a proxy reads of a server, and hands on.
use Rattle.std.specs.Prelude.{◌≡◌, ◌⊎◌, ◌<◌, ℕ, Bool, List, [], ◌∷◌, ◌++◌, length, None, Result, Ok, Err}
use Rattle.wl_wire.specs.declared.argument.Token.{Token}
use Rattle.wl_wire.specs.declared.error.IoFault.{IoFault}
use Rattle.wl_wire.specs.declared.message.Message.{Message}
use Rattle.wl_link.specs.Exchange.{Queue}
use Rattle.wl_client.specs.declared.error.EventError.{EventError}
use Rattle.wl_client.specs.declared.error.EventError.TheVariants.{EventOpen, OutOfMemory, WouldBlock}
use Rattle.wl_client.specs.declared.error.FinishRefused.{FinishRefused}
use Rattle.wl_client.specs.Finish.{Finishes}
use Rattle.wl_client.specs.ObjectId.{IdParts}
use Rattle.wl_client.specs.Reading.{NextEvent, event_content}
use Rattle.wl_client.specs.Session.{SessionState}

abbrev pub Event : Type 0
Event = Message IdParts Token

-- the answer of the loop if a reading gives no event: that it would block is no error
abbrev pub ended : EventError → Result (Unit {0}) EventError
ended WouldBlock = Ok tt
ended error = Err error

module _ {T U : Type 0} (sends : T → Queue → Result ℕ IoFault → T → Type 0) (receives : T → ℕ → Result Queue IoFault → T → Type 0) where
  -- a reading with this answer
  abbrev pub ReadsEvent : SessionState T U → Result Event EventError → SessionState T U → Type 0
  ReadsEvent before answer after = (refused : Bool) × NextEvent sends receives before (event_content answer) refused after

  -- an event is read and then finished, with this answer
  abbrev pub ReadsOne : SessionState T U → Event → Result (Unit {0}) (FinishRefused U) → SessionState T U → Type 0
  ReadsOne before event answer after = (read : SessionState T U) × ReadsEvent before (Ok event) read × Finishes read None answer after

  -- these events are read and finished, one after another
  abbrev pub ReadsEach : SessionState T U → List Event → SessionState T U → Type 0
  ReadsEach before [] after = after ≡ before
  ReadsEach before (event ∷ events) after = (mid : SessionState T U) × ReadsOne before event (Ok tt) mid × ReadsEach mid events after

  -- Why nothing more is read after so many events, if at most so many may be read; and the event that could not be finished,
  -- if there is one.
  abbrev pub Stops : ℕ → ℕ → SessionState T U → Result (Unit {0}) EventError → List Event → SessionState T U → Type 0
  Stops most count mid answer left after =
      ((answer ≡ Ok tt) × (count ≡ most) × (left ≡ []) × (after ≡ mid))
      ⊎ (count < most)
      × (((answer ≡ Err OutOfMemory) × (left ≡ []) × (after ≡ mid))
      ⊎ ((error : EventError) × (answer ≡ ended error) × (left ≡ []) × ReadsEvent mid (Err error) after)
      ⊎ ((answer ≡ Err EventOpen) × (event : Event) × (refused : FinishRefused U) × (left ≡ event ∷ []) × ReadsOne mid event (Err refused) after))

  -- The events that were read were appended to the list, in order. Each was finished; only the last one may not have been.
  abbrev pub HandsOn : SessionState T U → ℕ → List Event → Result (Unit {0}) EventError → List Event → SessionState T U → Type 0
  HandsOn before most listed answer now_listed after =
      (events : List Event) × (left : List Event) × (mid : SessionState T U) × ReadsEach before events mid
      × (now_listed ≡ listed ++ (events ++ left)) × Stops most (length events) mid answer left after
