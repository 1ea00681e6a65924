-- Calls of a mailbox one after another, those of its host among them, and that nothing is lost between them.
use Rattle.std.specs.Prelude.{◌≡◌, ◌<◌, ◌+◌, ◌⊎◌, ℕ, List, [], ◌∷◌, length, Option, Result, Ok}
use Rattle.wl_wire.specs.declared.error.IoFault.{IoFault}
use Rattle.wl_link.specs.Exchange.{Queue, joined, nothing}
use Rattle.wl_link.specs.Mailbox.{MailboxState, MailboxReceives, MailboxSends, behind, front}
use Rattle.wl_link.specs.declared.mailbox.Ending.{Ending}

-- The host put this in; a receive into so much room gave this; a send of this was answered so; the host took so many bytes
-- out, and this with them; or it said what comes after the arrivals, what the room is, and what sends answer.
pub data MailboxCall : Type 0 where
  PutIn : Queue → MailboxCall
  Received : ℕ → Result Queue IoFault → MailboxCall
  Sent : Queue → Result ℕ IoFault → MailboxCall
  TakenOut : ℕ → Queue → MailboxCall
  Told : Ending → ℕ → Option IoFault → MailboxCall

-- what the call does
abbrev pub Does : MailboxState → MailboxCall → MailboxState → Type 0
Does before (PutIn chunk) after = after ≡ record before { arrived = joined before.arrived chunk }
Does before (Received room answer) after = MailboxReceives before room answer after
Does before (Sent offer answer) after = MailboxSends before offer answer after
Does before (TakenOut n out) after = (out ≡ front n before.waiting) × (after ≡ record before { waiting = behind n before.waiting })
Does before (Told end room fault) after = after ≡ record before { ending = end; room = room; send_fault = fault }

abbrev pub DoesAll : MailboxState → List MailboxCall → MailboxState → Type 0
DoesAll before [] after = after ≡ before
DoesAll before (c ∷ calls) after = (mid : MailboxState) × Does before c mid × DoesAll mid calls after

-- ---- what went in, and what came out

abbrev pub arrived_by : MailboxCall → Queue
arrived_by (PutIn chunk) = chunk
arrived_by _ = nothing

abbrev pub received_by : MailboxCall → Queue
received_by (Received room (Ok came)) = came
received_by _ = nothing

-- a send that was not refused took all that it was offered
abbrev pub accepted_by : MailboxCall → Queue
accepted_by (Sent offer (Ok n)) = offer
accepted_by _ = nothing

abbrev pub taken_out_by : MailboxCall → Queue
taken_out_by (TakenOut n out) = out
taken_out_by _ = nothing

-- one after another
abbrev pub in_all : (MailboxCall → Queue) → List MailboxCall → Queue
in_all by [] = nothing
in_all by (c ∷ calls) = joined (by c) (in_all by calls)

-- What was received, and then what is left, is what was left before, and then what arrived. What the host took out, and then
-- what waits, is what waited before, and then what the sends took.
pub record MailboxKeeps (calls : List MailboxCall) (before after : MailboxState) : Type 0 where
  pub arrived : joined (in_all received_by calls) after.arrived ≡ joined before.arrived (in_all arrived_by calls)
  pub sent : joined (in_all taken_out_by calls) after.waiting ≡ joined before.waiting (in_all accepted_by calls)

-- a send leaves what waited, or fewer bytes than the room and the offer have together
abbrev pub StaysWithinRoom : MailboxState → Queue → MailboxState → Type 0
StaysWithinRoom before offer after = (after.waiting ≡ before.waiting) ⊎ (length after.waiting.bytes < before.room + length offer.bytes)
