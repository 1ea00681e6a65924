-- What a recording is compared with, and the verdict.
use Rattle.std.specs.Prelude.{◌≡◌, ◌≢◌, ℕ, suc, ◌<◌, ◌≤◌, List, [], ◌∷◌, ◌++◌, length, map, codes, ⊤, Result, Ok, Err}
use Rattle.std.specs.Fmt.{decimal}
use Rattle.wl_bench.specs.declared.command.Command.{Command}
use Rattle.wl_bench.specs.declared.stop.Stop.{Stop}
use Rattle.wl_bench.specs.declared.stop.Stop.TheVariants.{BadLine, Failed, Usage, Differs}
use Rattle.wl_bench.specs.Answers.{Line}
use Rattle.wl_bench.specs.Bench.{BenchState, NamesNone}
use Rattle.wl_bench.specs.Commands.{IsLine}
use Rattle.wl_bench.specs.Record.{Leads, Recorded, quoted, recording_of}
use Rattle.wl_replay.specs.declared.recording.Replayed.{Replayed}
use Rattle.wl_replay.specs.declared.recording.Replayed.TheVariants as replayed

-- the numbers of commands, each greater than the one before; that of the first is greater than this
abbrev pub Ascend : ℕ → List Recorded → Type 0
Ascend last [] = ⊤
Ascend last (t ∷ told) = (last < t.number) × (t.number ≤ 4294967295) × Ascend t.number told

-- the number of the last of them, or this number if there is none
abbrev pub last_number : ℕ → List Recorded → ℕ
last_number last [] = last
last_number last (t ∷ told) = last_number t.number told

-- The lines are the record of these commands, whose numbers ascend from 1 on; only these lines of output are missing at the
-- end. They belong to the last command, since no line of a command begins with `> `. The notes of two clients are in the
-- order in which this run gave them.
abbrev pub IsRecord : BenchState → List Line → List Recorded → List Line → BenchState → Type 0
IsRecord before all told missing after =
    (recording_of told ≡ all ++ map quoted missing) × Ascend 0 told × Leads before told after

-- a line of output
abbrev pub IsOutput : Line → Type 0
IsOutput line = (output : Line) × (line ≡ quoted output)

-- The line is no command after the one of this number: it is not a greater number, a space and a command; or the command
-- names a slot at which no client was inserted.
abbrev pub IsNoCommand : ℕ → BenchState → Line → Type 0
IsNoCommand last b line =
    (n : ℕ) → last < n → n ≤ 4294967295 → (text : Line) → line ≡ decimal n ++ 32 ∷ text
    → (command : Command) → IsLine command text → NamesNone b command

-- the line is another than the output that is missing; or it is output, and none is missing
abbrev pub IsAnother : List Line → Line → Type 0
IsAnother [] line = IsOutput line
IsAnother (output ∷ missing) line = line ≢ quoted output

-- the lines go on otherwise than with the missing output: they end, or the first of them is another
abbrev pub GoesOff : List Line → List Line → Type 0
GoesOff missing [] = missing ≢ []
GoesOff missing (line ∷ rest) = IsAnother missing line

-- The verdict about a recording of these lines. It is `Same` if the lines are the record of their own commands, of which it
-- gives the count. It differs at the first line that is another than in that record, even if the record goes on after the
-- last line. It is bad at the first line that is no command while no output is missing. Of a replay that failed nothing is
-- said.
abbrev pub Replays : BenchState → List Line → Result Replayed Stop → Type 0
Replays before all (Ok (replayed.Same count)) =
    (told : List Recorded) × (after : BenchState) × IsRecord before all told [] after × (count ≡ length told)
Replays before all (Ok (replayed.Differs place)) =
    (front rest : List Line) × (told : List Recorded) × (missing : List Line) × (after : BenchState)
    × (all ≡ front ++ rest) × (place ≡ suc (length front)) × IsRecord before front told missing after × GoesOff missing rest
Replays before all (Err (BadLine place)) =
    (front rest : List Line) × (line : Line) × (told : List Recorded) × (after : BenchState)
    × (all ≡ front ++ line ∷ rest) × (place ≡ suc (length front)) × IsRecord before front told [] after
    × ¬ (IsOutput line) × IsNoCommand (last_number 0 told) after line
Replays before all (Err Failed) = ⊤
Replays before all (Err Usage) = ⊥
Replays before all (Err Differs) = ⊥

-- the line that gives the verdict
abbrev pub verdict_text : Replayed → Line
verdict_text (replayed.Same count) = codes "same " ++ decimal count
verdict_text (replayed.Differs place) = codes "differs at line " ++ decimal place
