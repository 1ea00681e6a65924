-- What a transport is offered and what it answers, as facts about whole lists.
use Rattle.std.specs.Prelude.{◌≡◌, ℕ, ◌≤◌, List, [], ◌∷◌, ◌++◌, length, take, drop, Result, Ok, Err}
use Rattle.wl_wire.specs.declared.argument.Token.{Token}
use Rattle.wl_wire.specs.declared.error.IoFault.{IoFault}
use Rattle.std.proofs.Common.{◌≢◌}
use Rattle.wl_wire.specs.declared.error.IoFault.TheVariants as fault

-- bytes in their order, and tokens in theirs: a message, an offer, or what waits on one side of a link
pub record Queue : Type 0 where
  pub bytes : List ℕ
  pub tokens : List Token

abbrev pub nothing : Queue
nothing = record { bytes = []; tokens = [] }

-- one queue after another
abbrev pub joined : Queue → Queue → Queue
joined q r = record { bytes = q.bytes ++ r.bytes; tokens = q.tokens ++ r.tokens }

-- ---- a receive

-- What came by a receive that answered this, with this buffer after it, and these tokens before and after it: the first
-- bytes of the buffer, and the tokens after those that waited before.
abbrev pub receipt : Result ℕ IoFault → List ℕ → List Token → List Token → Result Queue IoFault
receipt (Ok n) buffer before after = Ok (record { bytes = take n buffer; tokens = drop (length before) after })
receipt (Err fault) buffer before after = Err fault

-- What came stands at the buffer's front, and after the tokens that waited. A fault changes neither.
abbrev pub Lands : Result ℕ IoFault → List ℕ → List Token → List ℕ → List Token → Type 0
Lands (Ok n) buffer tokens buffer' tokens' = (n ≤ length buffer) × (take (length tokens) tokens' ≡ tokens)
Lands (Err fault) buffer tokens buffer' tokens' = (buffer' ≡ buffer) × (tokens' ≡ tokens)

-- ---- sends one after another

-- a send: what was offered, and what was answered
pub record Sending : Type 0 where
  pub offer : Queue
  pub answer : Result ℕ IoFault

-- the transport allows these sends, one after another, from its value before to its value after
abbrev pub Chain : {T : Type 0} → (T → Queue → Result ℕ IoFault → T → Type 0) → T → List Sending → T → Type 0
Chain sends before [] after = after ≡ before
Chain {T = T} sends before (e ∷ es) after = (mid : T) × sends before e.offer e.answer mid × Chain sends mid es after

-- ---- what may be asked of a transport

-- two sends of one offer have one answer and leave one value, if memory is refused in neither
abbrev pub IsFunction : {T : Type 0} → (T → Queue → Result ℕ IoFault → T → Type 0) → Type 0
IsFunction {T = T} sends =
    (before : T) (offer : Queue) (one two : Result ℕ IoFault) (after after' : T)
    → sends before offer one after → sends before offer two after' → one ≢ Err fault.OutOfMemory → two ≢ Err fault.OutOfMemory
    → (one ≡ two) × (after ≡ after')

-- and so have two receives into the same room
abbrev pub IsReceiveFunction : {T : Type 0} → (T → ℕ → Result Queue IoFault → T → Type 0) → Type 0
IsReceiveFunction {T = T} receives =
    (before : T) (room : ℕ) (one two : Result Queue IoFault) (after after' : T)
    → receives before room one after → receives before room two after' → one ≢ Err fault.OutOfMemory → two ≢ Err fault.OutOfMemory
    → (one ≡ two) × (after ≡ after')

-- no more is taken than is offered
pub record IsWithinOffer {T : Type 0} (sends : T → Queue → Result ℕ IoFault → T → Type 0) : Type 0 where
  pub law : (before after : T) (offer : Queue) (n : ℕ) → sends before offer (Ok n) after → n ≤ length offer.bytes

-- the transport answers each send that it may be offered, and memory is not refused
abbrev pub AlwaysAnswers : {S : Type 0} → (S → Queue → Result ℕ IoFault → S → Type 0) → Type 0
AlwaysAnswers {S = S} sends = (t : S) (offer : Queue) → (answer : Result ℕ IoFault) × (u : S) × sends t offer answer u × (answer ≢ Err fault.OutOfMemory)
