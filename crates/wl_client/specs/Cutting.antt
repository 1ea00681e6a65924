-- That it does not matter to a client how bytes and tokens are cut into receives: what its readings hand out, store and
-- note is what is served of all that came, joined.
--
-- What is served (`Served` of `wl_link`) is said of the client as a reader. A client sends nothing while it reads, so the
-- transport for the sends is one that is never asked.
use Rattle.std.specs.Prelude.{◌≡◌, ℕ, Bool, false, List, [], ◌∷◌, Option, None, Result, Ok}
use Rattle.wl_wire.specs.declared.error.IoFault.{IoFault}
use Rattle.wl_link.specs.Exchange.{Queue, nothing}
use Rattle.wl_link.specs.Reader.{AllFed, Given, Gives, ReaderState, Reads, Turn, received_in}
use Rattle.wl_link.specs.Served.{GoesOnAs, Served}
use Rattle.wl_client.specs.declared.error.EventError.{EventError}
use Rattle.wl_client.specs.declared.error.FinishRefused.{FinishRefused}
use Rattle.wl_client.specs.declared.step.Reply.{Reply}
use Rattle.wl_client.specs.declared.step.Reply.TheVariants as reply
use Rattle.wl_client.specs.declared.step.Step.{Step}
use Rattle.wl_client.specs.declared.step.Step.TheVariants as step
use Rattle.wl_client.specs.Reading.{answered, client, event_content, handed_by, reader_state_of, receives_allowed}
use Rattle.wl_client.specs.Requests.{SessionMessage}
use Rattle.wl_client.specs.Session.{Core, SessionState}

-- no send is made
abbrev pub no_sends : {S : Type 0} → S → Queue → Result ℕ IoFault → S → Type 0
no_sends before offer answer after = ⊥

module _ {T U : Type 0} where
  -- what a client hands out, and what it becomes, if `more` stands after what waits and its events are ended with these data
  abbrev pub IsServed : ReaderState T (Core U) → Queue → List (Option U) → List (Given SessionMessage) → ReaderState (Unit {0}) (Core U) → Type 0
  IsServed p more finishes gave end = Served no_sends client p more tt finishes gave end

  -- The client `before`, served over `came` and any rest, gives `gave`, and then what the client `after` gives, served over
  -- that rest.
  abbrev pub GoesOn : ReaderState T (Core U) → Queue → List (Option U) → List (Given SessionMessage) → ReaderState T (Core U) → List (Option U) → Type 0
  GoesOn before came finishes gave after left = GoesOnAs (no_sends {S = Unit {0}}) client before came [] finishes gave after left

  -- A reading of a live session with no open event, in which memory is not refused, is a list of receives and messages with
  -- this answer. If each receive brought a byte or would have blocked, then what is served of the session before it is what
  -- the reading handed out, and then what is served of the session after it.
  abbrev pub CutsReading : (T → Queue → Result ℕ IoFault → T → Type 0) → (T → ℕ → Result Queue IoFault → T → Type 0) → SessionState T U
      → Result SessionMessage EventError → Bool → SessionState T U → Type 0
  CutsReading sends receives before answer refused after =
      before.error ≡ None → before.open_event ≡ None → refused ≡ false →
      (turns : List Turn) × (out : Gives SessionMessage) × Reads sends client receives receives_allowed (reader_state_of before) turns out (reader_state_of after)
      × (answer ≡ answered out.stopped out.gave)
      × (AllFed turns → (finishes : List (Option U)) → GoesOn (reader_state_of before) (received_in turns) finishes (handed_by answer) (reader_state_of after) finishes)

  -- a finish of a live session that is accepted is the next of the finishes
  abbrev pub CutsFinish : SessionState T U → Option U → Result (Unit {0}) (FinishRefused U) → SessionState T U → Type 0
  CutsFinish before u answer after =
      before.error ≡ None → answer ≡ Ok tt → (finishes : List (Option U)) → GoesOn (reader_state_of before) nothing (u ∷ finishes) [] (reader_state_of after) finishes

  -- it does not matter to this call how bytes are cut, if it reads or finishes an event
  abbrev pub IsCut : (T → Queue → Result ℕ IoFault → T → Type 0) → (T → ℕ → Result Queue IoFault → T → Type 0) → SessionState T U → Step U → Reply U → Bool
      → SessionState T U → Type 0
  IsCut sends receives before step.NextEvent (reply.NextEvent answer) refused after = CutsReading sends receives before (event_content answer) refused after
  IsCut sends receives before (step.FinishEvent u) (reply.FinishEvent answer) refused after = CutsFinish before u answer after
  IsCut sends receives before _ answer refused after = Unit {0}
