-- Messages that a session puts (writes after what waits to be sent), up to the first that fails.
use Rattle.std.specs.Prelude.{◌≡◌, ◌⊎◌, ℕ, Bool, true, false, List, [], ◌∷◌, ◌++◌, Result, Ok, Err, MatchResult, MatchBool, map}
use Rattle.wl_wire.specs.declared.error.IoFault.{IoFault}
use Rattle.wl_wire.specs.declared.error.IoFault.TheVariants as fault
use Rattle.wl_wire.specs.Message.{WireMessage}
use Rattle.wl_link.specs.Exchange.{Queue, Sending}
use Rattle.wl_link.specs.Link.{FlushedBy, LinkState, WroteBy}

abbrev pub lacks_memory : Result (Unit {0}) IoFault → Bool
lacks_memory (Err fault.OutOfMemory) = true
lacks_memory _ = false

-- A message that is put, and the serial of the object that sends it, which tells that object from others of its number.
-- `makes_text` says that a text of it is made when it is put, which takes memory. Else each text is there before.
pub record Said : Type 0 where
  pub serial : ℕ
  pub message : WireMessage
  pub makes_text : Bool

abbrev pub messages_of : List Said → List WireMessage
messages_of said = map (λ s. s.message) said

module _ {T : Type 0} (sends : T → Queue → Result ℕ IoFault → T → Type 0) where
  -- the message is written; or there was no memory for its text, if that is made only now
  abbrev pub PutBy : LinkState T → Said → List Sending → Result (Unit {0}) IoFault → LinkState T → Type 0
  PutBy before m es answer after =
      WroteBy sends before m.message es answer after ⊎ ((es ≡ []) × (answer ≡ Err fault.OutOfMemory) × (after ≡ before) × (m.makes_text ≡ true))

  -- the messages are put one after another, up to the first that fails
  abbrev pub PutsOut : LinkState T → List Said → List Sending → List Said → Result (Unit {0}) IoFault → LinkState T → Type 0
  PutsOut before [] es put answer after = (es ≡ []) × (put ≡ []) × (answer ≡ Ok tt) × (after ≡ before)
  PutsOut before (m ∷ ms) es put answer after =
      (first : List Sending) × (one : Result (Unit {0}) IoFault) × (mid : LinkState T) × PutBy before m first one mid
      × MatchResult one
      (λ _. (others : List Sending) × (more : List Said) × (es ≡ first ++ others) × (put ≡ m ∷ more) × PutsOut mid ms others more answer after)
      (λ f. (es ≡ first) × (put ≡ []) × (answer ≡ Err f) × (after ≡ mid))

  -- a fault of the flush is dropped
  abbrev pub FlushesOut : Bool → LinkState T → List Sending → Bool → LinkState T → Type 0
  FlushesOut flushes before es lacked after =
      MatchBool flushes ((answer : Result (Unit {0}) IoFault) × FlushedBy sends before es answer after × (lacked ≡ lacks_memory answer))
      ((es ≡ []) × (after ≡ before) × (lacked ≡ false))
