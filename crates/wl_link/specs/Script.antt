-- The transport by script: what each of its calls answers is a function of its value.
use Rattle.std.specs.Prelude.{◌≡◌, ◌≢◌, ℕ, zero, suc, ◌≤◌, ◌⊎◌, min, List, [], ◌∷◌, ◌++◌, length, take, drop, nat_le, ◌==◌, Result, Ok, Err, IfOk, if◌then◌else◌, Vec}
use Rattle.std.specs.Global.{Global}
use Rattle.wl_wire.specs.declared.argument.Token.{Token}
use Rattle.wl_wire.specs.declared.error.IoFault.{IoFault}
use Rattle.wl_wire.specs.declared.error.IoFault.TheVariants as fault
use Rattle.wl_link.specs.Exchange.{Queue}

-- What is to arrive, each a chunk or a fault; the answers to the sends that are to come; and what was taken of the sends
-- that were made. Each list has the oldest first.
pub record Script : Type 0 where
  pub arrivals : List (Result Queue IoFault)
  pub answers : List (Result ℕ IoFault)
  pub sent : List Queue

abbrev pub parcel : Vec ℕ Global × Vec Token Global → Queue
parcel p = record { bytes = p.0.items; tokens = p.1.items }

-- ---- sending

-- how many of so many bytes the next send takes: all if no answer is left, and never more than are offered
abbrev pub count_taken : List (Result ℕ IoFault) → ℕ → Result ℕ IoFault
count_taken [] offered = Ok offered
count_taken (Ok n ∷ answers) offered = Ok (min n offered)
count_taken (Err fault ∷ answers) offered = Err fault

-- what is recorded of a send: with a count above 0 that many bytes and all tokens, and else nothing
abbrev pub recorded : Result ℕ IoFault → Queue → List Queue
recorded (Ok n) offer = if n == 0 then [] else (record { bytes = take n offer.bytes; tokens = offer.tokens } ∷ [])
recorded (Err fault) offer = []

abbrev pub send_answer : Script → Queue → Result ℕ IoFault
send_answer script offer = count_taken script.answers (length offer.bytes)

abbrev pub script_after_send : Script → Queue → Script
script_after_send script offer = record {
  arrivals = script.arrivals;
  answers = drop 1 script.answers;
  sent = script.sent ++ recorded (send_answer script offer) offer;
}

-- what a send does; or there was no memory for the record, and nothing changed
abbrev pub ScriptSends : Script → Queue → Result ℕ IoFault → Script → Type 0
ScriptSends before offer answer after =
    ((answer ≡ send_answer before offer) × (after ≡ script_after_send before offer))
    ⊎ ((answer ≡ Err fault.OutOfMemory) × (after ≡ before) × (recorded (send_answer before offer) offer ≢ []))

-- ---- receiving

-- what the first arrival gives into so much room: the bytes that fit, and all tokens
abbrev pub given : List (Result Queue IoFault) → ℕ → Result Queue IoFault
given [] room = Err fault.WouldBlock
given (Ok chunk ∷ arrivals) room = Ok (record { bytes = take room chunk.bytes; tokens = chunk.tokens })
given (Err fault ∷ arrivals) room = Err fault

-- the arrivals that are left; the bytes of a chunk that did not fit are the first of them
abbrev pub arrivals_after : List (Result Queue IoFault) → ℕ → List (Result Queue IoFault)
arrivals_after [] room = []
arrivals_after (Ok chunk ∷ arrivals) room =
    if nat_le (length chunk.bytes) room then arrivals else (Ok (record { bytes = drop room chunk.bytes; tokens = [] }) ∷ arrivals)
arrivals_after (Err fault ∷ arrivals) room = arrivals

-- if there is no room, nothing is taken from the script
abbrev pub script_gives : Script → ℕ → Result Queue IoFault
script_gives script zero = Ok (record { bytes = []; tokens = [] })
script_gives script (suc n) = given script.arrivals (suc n)

abbrev pub script_after_receive : Script → ℕ → Script
script_after_receive script zero = script
script_after_receive script (suc n) =
    record { arrivals = arrivals_after script.arrivals (suc n); answers = script.answers; sent = script.sent }

-- What a receive does; no chunk has more tokens than a receive may give. Or there was no memory for the tokens, and
-- nothing changed.
abbrev pub ScriptReceives : Script → ℕ → Result Queue IoFault → Script → Type 0
ScriptReceives before room answer after =
    (IfOk answer (λ came. length came.tokens ≤ 28) × (answer ≡ script_gives before room) × (after ≡ script_after_receive before room))
    ⊎ ((answer ≡ Err fault.OutOfMemory) × (after ≡ before) × IfOk (script_gives before room) (λ came. came.tokens ≢ []))
