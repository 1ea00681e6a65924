-- What a program does to the transport of a client.
use Rattle.std.specs.Prelude.{◌≡◌, ℕ, ◌<◌, List, [], ◌∷◌, ◌++◌, length, map, Result, Ok, Err, Vec}
use Rattle.std.specs.Global.{Global}
use Rattle.wl_wire.specs.declared.argument.Token.{Token}
use Rattle.wl_wire.specs.declared.error.IoFault.{IoFault}
use Rattle.wl_link.specs.Exchange.{Queue}
use Rattle.wl_link.specs.Script.{Script, parcel}
use Rattle.wl_server_client.specs.declared.error.InvalidId.{InvalidId}
use Rattle.wl_server_client.specs.declared.error.ScriptError.{ScriptError}
use Rattle.wl_server_client.specs.declared.error.ScriptError.TheVariants as refused

-- a call of a transport by script
pub data Move : Type 0 where
  Arrive : Queue → Move
  ArriveFault : IoFault → Move
  Accept : ℕ → Move
  AcceptFault : IoFault → Move
  TakeSent : Move

-- what a move answers: nothing, or what was sent
abbrev pub Moved : Type 0
Moved = Result (List Queue) ScriptError

abbrev pub nothing_taken : Result (Unit {0}) ScriptError → Moved
nothing_taken (Ok _) = Ok []
nothing_taken (Err e) = Err e

abbrev pub taken : Result (Vec (Vec ℕ Global × Vec Token Global) Global) InvalidId → Moved
taken (Ok sent) = Ok (map parcel sent.items)
taken (Err _) = Err refused.InvalidId

-- the script with one more arrival or answer, after those that are there
abbrev pub with_arrival : Script → Result Queue IoFault → Script
with_arrival s arrival = record s { arrivals = s.arrivals ++ arrival ∷ [] }

abbrev pub with_answer : Script → Result ℕ IoFault → Script
with_answer s answer = record s { answers = s.answers ++ answer ∷ [] }

-- a move that fails only if memory is refused
abbrev pub Becomes : Script → Script → Moved → Script → Type 0
Becomes before script (Ok given) after = (given ≡ []) × (after ≡ script)
Becomes before script (Err refused.OutOfMemory) after = after ≡ before
Becomes before script (Err other) after = ⊥

-- a chunk arrives, unless it has more than 28 tokens or there is no memory for it
abbrev pub ArrivesWith : Script → Queue → Moved → Script → Type 0
ArrivesWith before chunk (Ok given) after = ¬ (28 < length chunk.tokens) × (given ≡ []) × (after ≡ with_arrival before (Ok chunk))
ArrivesWith before chunk (Err refused.TooManyTokens) after = (28 < length chunk.tokens) × (after ≡ before)
ArrivesWith before chunk (Err refused.OutOfMemory) after = ¬ (28 < length chunk.tokens) × (after ≡ before)
ArrivesWith before chunk (Err refused.InvalidId) after = ⊥

-- the moves of a transport by script; its client is stored
abbrev pub ScriptMoves : Script → Move → Moved → Script → Type 0
ScriptMoves before (Arrive chunk) answer after = ArrivesWith before chunk answer after
ScriptMoves before (ArriveFault f) answer after = Becomes before (with_arrival before (Err f)) answer after
ScriptMoves before (Accept n) answer after = Becomes before (with_answer before (Ok n)) answer after
ScriptMoves before (AcceptFault f) answer after = Becomes before (with_answer before (Err f)) answer after
ScriptMoves before TakeSent answer after = (answer ≡ Ok before.sent) × (after ≡ record before { sent = [] })

-- another transport has no such calls
abbrev pub no_moves : {T : Type 0} → T → Move → Moved → T → Type 0
no_moves before m answer after = ⊥
