-- What a program makes of the transport by script between the calls of a session, in the words of the contracts of `Memory`.
use Rattle.std.specs.Prelude.{◌≡◌, ◌<◌, ◌↔◌, ◌++◌, ◌∷◌, [], length, Result, Ok, Err, OnErr, OnOk}
use Rattle.wl_wire.specs.declared.error.OutOfMemory.{OutOfMemory}
use Rattle.wl_link.specs.declared.memory.ArriveError.{ArriveError}
use Rattle.wl_link.specs.declared.memory.ArriveError.TheVariants as arrive
use Rattle.wl_link.specs.Exchange.{Queue}
use Rattle.wl_link.specs.Script.{Script}

-- a chunk arrives, as `Memory::arrive` answers
abbrev pub Arrives : Script → Queue → Result (Unit {0}) ArriveError → Script → Type 0
Arrives before chunk answer after =
    OnOk answer (after ≡ record before { arrivals = before.arrivals ++ Ok chunk ∷ [] })
    × ((answer ≡ Err arrive.TooManyTokens) ↔ (28 < length chunk.tokens))
    × OnErr answer (after ≡ before)

-- the script becomes this one, unless there is no memory
abbrev pub Becomes : Script → Script → Result (Unit {0}) OutOfMemory → Script → Type 0
Becomes before script answer after = OnOk answer (after ≡ script) × OnErr answer (after ≡ before)
