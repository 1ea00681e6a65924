-- How the entries of a reading (receives, and messages that are handled) join to a reading, as the loops of both sessions
-- say it.
use Rattle.std.proofs.Common.{◌≡◌, ◌⊎◌, ℕ, Bool, List, Option, None, Some, Result, Ok, Err}
use Rattle.wl_wire.specs.declared.error.IoFault.{IoFault}
use Rattle.wl_link.specs.Exchange.{Queue}
use Rattle.wl_link.specs.Link.{FilledBy, FindsRoom, LinkState, ReceiveAsks, count_of, counted_answer}
use Rattle.wl_link.specs.Reader.{Given, Gives, ReaderState, Reader, Reads, Turn, given_first, stops, with_link}
use Rattle.wl_wire.specs.declared.error.IoFault.TheVariants as fault

module _ {T Core Event Finish : Type 0} (sends : T → Queue → Result ℕ IoFault → T → Type 0) (receives : T → ℕ → Result Queue IoFault → T → Type 0)
    (reader : Reader Core Event Finish) where
  abbrev pub HasReading : ℕ → ReaderState T Core → Gives Event → ReaderState T Core → Type 0
  HasReading left before out after = (turns : List Turn) × Reads sends reader receives left before turns out after

  -- if a reading that begins now may end so, then one that began at `start` may, with what was given so far before it
  abbrev pub LeadsOn : ReaderState T Core → List (Given Event) → Bool → ReaderState T Core → Type 0
  LeadsOn start gave refused now = (left : ℕ) (rest : Gives Event) (end : ReaderState T Core) → HasReading left now rest end → HasReading left start (given_first gave refused rest) end

  -- the reading ends so, however many receives are left
  abbrev pub EndsSo : ReaderState T Core → List (Given Event) → Bool → Option IoFault → Bool → ReaderState T Core → Type 0
  EndsSo start gave refused stopped lacked after = (left : ℕ) → HasReading left start (given_first gave refused (stops stopped lacked left)) after

  -- a receive was made, or there was no memory for it
  abbrev pub ReceivedTo : ReaderState T Core → Option IoFault → ReaderState T Core → Type 0
  ReceivedTo before None after =
      (r : Result Queue IoFault) × FilledBy receives before.link r (counted_answer (count_of r)) after.link × FindsRoom before.link after.link.incoming_capacity
      × (counted_answer (count_of r) ≡ Ok tt) × (after ≡ with_link before after.link)
  ReceivedTo before (Some f) after =
      ((r : Result Queue IoFault) × (link : LinkState T) × FilledBy receives before.link r (counted_answer (count_of r)) link × FindsRoom before.link link.incoming_capacity
      × (counted_answer (count_of r) ≡ Err f) × (after ≡ record { core = reader.faulted before.core f; link = link }))
      ⊎ ((f ≡ fault.OutOfMemory) × (after ≡ before) × ReceiveAsks before.link)
