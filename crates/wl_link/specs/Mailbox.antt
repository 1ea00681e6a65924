-- The transport by mailbox: what its calls do, those of a transport and those of its host.
use Rattle.std.specs.Prelude.{◌≡◌, ◌≢◌, ℕ, zero, suc, ◌+◌, ◌≤◌, ◌⊎◌, ◌∷◌, List, [], length, take, drop, nat_le, nat_lt, ◌==◌, ◌&&◌, Bool, Option, None, Some, Result, Ok, Err, IfOk, IsOk, if◌then◌else◌}
use Rattle.wl_wire.specs.declared.argument.Token.{Token}
use Rattle.wl_wire.specs.declared.error.IoFault.{IoFault}
use Rattle.wl_wire.specs.declared.error.IoFault.TheVariants as fault
use Rattle.wl_link.specs.Exchange.{Queue, nothing, joined}
use Rattle.wl_link.specs.declared.mailbox.Ending.{Ending}
use Rattle.wl_link.specs.declared.mailbox.Ending.TheVariants as ending

-- What arrived and was not received, and what comes after it; what was sent and not taken out by the host; how many bytes
-- of that leave no room; and what each send answers, if sends fail.
pub record MailboxState : Type 0 where
  pub arrived : Queue
  pub ending : Ending
  pub waiting : Queue
  pub room : ℕ
  pub send_fault : Option IoFault

-- ---- the host

-- the first bytes, and the tokens, which go with the first byte
abbrev pub front : ℕ → Queue → Queue
front n q = record { bytes = take n q.bytes; tokens = if n == 0 then [] else q.tokens }

-- and what is left
abbrev pub behind : ℕ → Queue → Queue
behind n q = record { bytes = drop n q.bytes; tokens = if n == 0 then q.tokens else [] }

-- ---- sending

-- fewer bytes wait than there is room for, and no more than 28 tokens would wait
abbrev pub has_room : MailboxState → Queue → Bool
has_room m offer = nat_lt (length m.waiting.bytes) m.room && nat_le (length m.waiting.tokens + length offer.tokens) 28

-- a send takes all that it is offered, or nothing
abbrev pub answer_under : Option IoFault → Bool → ℕ → Result ℕ IoFault
answer_under None room offered = if room then Ok offered else Err fault.WouldBlock
answer_under (Some fault) room offered = Err fault

abbrev pub mailbox_answer : MailboxState → Queue → Result ℕ IoFault
mailbox_answer m offer = answer_under m.send_fault (has_room m offer) (length offer.bytes)

-- what is taken stands after what waits: tokens also if there are no bytes
abbrev pub kept_by : Result ℕ IoFault → Queue → Queue → Queue
kept_by (Ok n) waiting offer = joined waiting offer
kept_by (Err fault) waiting offer = waiting

abbrev pub mailbox_after_send : MailboxState → Queue → MailboxState
mailbox_after_send m offer = record m { waiting = kept_by (mailbox_answer m offer) m.waiting offer }

-- what a send does; or there was no memory for what it would take, and nothing changed
abbrev pub MailboxSends : MailboxState → Queue → Result ℕ IoFault → MailboxState → Type 0
MailboxSends before offer answer after =
    ((answer ≡ mailbox_answer before offer) × (after ≡ mailbox_after_send before offer))
    ⊎ ((answer ≡ Err fault.OutOfMemory) × (after ≡ before) × IsOk (mailbox_answer before offer) × (offer ≢ nothing))

-- ---- receiving

-- what a receive answers once no bytes are left
abbrev pub end_answer : Ending → Result Queue IoFault
end_answer ending.Open = Err fault.WouldBlock
end_answer ending.Ended = Ok nothing
end_answer (ending.Failed fault) = Err fault

-- what arrived, given into so much room: the bytes that fit, and all tokens; if no bytes are left, what comes after them
abbrev pub given : List ℕ → List Token → Ending → ℕ → Result Queue IoFault
given [] tokens end room = end_answer end
given (b ∷ bytes) tokens end room = Ok (record { bytes = take room (b ∷ bytes); tokens = tokens })

-- and what is left; tokens without bytes stay
abbrev pub left : List ℕ → List Token → ℕ → Queue
left [] tokens room = record { bytes = []; tokens = tokens }
left (b ∷ bytes) tokens room = record { bytes = drop room (b ∷ bytes); tokens = [] }

-- if there is no room, nothing is received
abbrev pub mailbox_gives : MailboxState → ℕ → Result Queue IoFault
mailbox_gives m zero = Ok nothing
mailbox_gives m (suc n) = given m.arrived.bytes m.arrived.tokens m.ending (suc n)

abbrev pub mailbox_after_receive : MailboxState → ℕ → MailboxState
mailbox_after_receive m zero = m
mailbox_after_receive m (suc n) = record m { arrived = left m.arrived.bytes m.arrived.tokens (suc n) }

-- What a receive does; no more tokens wait than a receive may give. Or there was no memory for the tokens, and nothing
-- changed.
abbrev pub MailboxReceives : MailboxState → ℕ → Result Queue IoFault → MailboxState → Type 0
MailboxReceives before room answer after =
    (IfOk answer (λ came. length came.tokens ≤ 28) × (answer ≡ mailbox_gives before room) × (after ≡ mailbox_after_receive before room))
    ⊎ ((answer ≡ Err fault.OutOfMemory) × (after ≡ before) × IfOk (mailbox_gives before room) (λ came. came.tokens ≢ []))
