-- What the sends of a call took or dropped, and that nothing else is lost.
use Rattle.std.specs.Prelude.{◌≡◌, ◌≢◌, ℕ, List, [], ◌∷◌, ◌++◌, ◌*◌, length, take, drop, ◌==◌, Result, Ok, Err, if◌then◌else◌}
use Rattle.std.specs.List.{AllByRecursion}
use Rattle.wl_wire.specs.declared.argument.Token.{Token}
use Rattle.wl_wire.specs.declared.error.IoFault.{IoFault}
use Rattle.wl_wire.specs.Message.{WireMessage}
use Rattle.wl_link.specs.Exchange.{Queue, Sending, joined, nothing}
use Rattle.wl_link.specs.Link.{LinkState, FlushedBy, WroteBy, spelled}

-- with a count above 0 that many bytes and all tokens that were offered; with a count 0 or a fault nothing
abbrev pub taken_by : Result ℕ IoFault → Queue → Queue
taken_by (Ok n) offer = record { bytes = take n offer.bytes; tokens = if n == 0 then [] else offer.tokens }
taken_by (Err fault) offer = nothing

-- what the transport took, one send after another
abbrev pub taken : List Sending → Queue
taken [] = nothing
taken (e ∷ es) = joined (taken_by e.answer e.offer) (taken es)

-- the tokens that no longer wait: also those that a count 0 dropped
abbrev pub gone_by : Result ℕ IoFault → Queue → List Token
gone_by (Ok n) offer = offer.tokens
gone_by (Err fault) offer = []

abbrev pub gone : List Sending → List Token
gone [] = []
gone (e ∷ es) = gone_by e.answer e.offer ++ gone es

-- no send answered 0; so no tokens were dropped
abbrev pub NoZero : List Sending → Type 0
NoZero es = AllByRecursion (λ e. e.answer ≢ Ok 0) es

-- What is gone, and then what waits, is what waited, and then what was added.
pub record LosesNothing (es : List Sending) (before added after : Queue) : Type 0 where
  pub bytes : (taken es).bytes ++ after.bytes ≡ before.bytes ++ added.bytes
  pub tokens : gone es ++ after.tokens ≡ before.tokens ++ added.tokens

-- what a write adds, by its answer
abbrev pub queued_by : Result (Unit {0}) IoFault → WireMessage → Queue
queued_by (Ok u) m = spelled m
queued_by (Err fault) m = nothing

-- What a flush's sends took or dropped, and what waits after it, is what waited.
abbrev pub FlushKeeps : {T : Type 0} → (T → Queue → Result ℕ IoFault → T → Type 0) → LinkState T → Result (Unit {0}) IoFault → LinkState T → Type 0
FlushKeeps sends before answer after =
    (es : List Sending) × FlushedBy sends before es answer after × LosesNothing es before.outgoing nothing after.outgoing

-- If a flush with these sends is answered by Ok, and none of them answered 0, it leaves no bytes, and of the tokens those
-- after the first 28 for each byte.
abbrev pub Drains : List Sending → Queue → Result (Unit {0}) IoFault → Queue → Type 0
Drains es before answer after =
    answer ≡ Ok tt → NoZero es → (after.bytes ≡ []) × (after.tokens ≡ drop (28 * length before.bytes) before.tokens)

-- so does a flush with its sends
abbrev pub FlushDrains : {T : Type 0} → (T → Queue → Result ℕ IoFault → T → Type 0) → LinkState T → Result (Unit {0}) IoFault → LinkState T → Type 0
FlushDrains sends before answer after = (es : List Sending) × FlushedBy sends before es answer after × Drains es before.outgoing answer after.outgoing

-- A write that is answered by Ok adds one message to what was taken and what waits; another adds nothing.
abbrev pub WriteKeeps : {T : Type 0} → (T → Queue → Result ℕ IoFault → T → Type 0) → LinkState T → WireMessage → Result (Unit {0}) IoFault → LinkState T → Type 0
WriteKeeps sends before m answer after =
    (es : List Sending) × WroteBy sends before m es answer after × LosesNothing es before.outgoing (queued_by answer m) after.outgoing
