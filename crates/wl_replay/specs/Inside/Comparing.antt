-- What a comparison of a recording holds, and what each line does to it.
use Rattle.std.specs.Prelude.{◌≡◌, ◌≢◌, ℕ, ◌+◌, ◌<◌, ◌≤◌, List, [], ◌∷◌, ◌++◌, map, drop, ◌⊎◌, ⊤}
use Rattle.std.specs.Fmt.{decimal}
use Rattle.std.specs.List.{All}
use Rattle.std.specs.String.{string_bytes}
use Rattle.wl_bench.specs.declared.command.Command.{Command}
use Rattle.wl_replay.specs.declared.recording.Comparison.{Comparison}
use Rattle.wl_replay.specs.declared.recording.Replayed.{Replayed}
use Rattle.wl_replay.specs.declared.recording.Replayed.TheVariants as replayed
use Rattle.wl_bench.specs.declared.stop.Stop.{Stop}
use Rattle.wl_bench.specs.declared.stop.Stop.TheVariants.{BadLine, Failed, Usage, Differs}
use Rattle.wl_bench.specs.Answers.{Line}
use Rattle.wl_bench.specs.Commands.{IsLine}
use Rattle.wl_bench.specs.Record.{Leads, Recorded, command_line, quoted}
use Rattle.wl_replay.specs.Replay.{IsNoCommand, IsOutput}

-- no byte of it is a space
abbrev pub IsWord : Line → Type 0
IsWord text = All (λ b. b ≢ 32) text

-- the line is this number, a space, and this command
abbrev pub IsNumbered : ℕ × Command → Line → Type 0
IsNumbered p line = (text : Line) × (line ≡ decimal p.0 ++ 32 ∷ text) × (p.0 ≤ 4294967295) × IsLine p.1 text

-- the output of the last command that was not found yet
abbrev pub missing_in : Comparison → List Line
missing_in c = drop c.found (map string_bytes c.lines.items)

-- the line is that of this command, which is carried out; the output that it prints is missing from then on
abbrev pub CarriesOut : Comparison → Line → Recorded → Comparison → Type 0
CarriesOut before line t after =
    (line ≡ command_line t) × (before.last < t.number) × (t.number ≤ 4294967295) × Leads before.bench (t ∷ []) after.bench
    × (after.last ≡ t.number) × (after.count ≡ before.count + 1) × (missing_in after ≡ t.answer)

-- the line is the first of the missing output
abbrev pub Finds : Comparison → Line → Comparison → Type 0
Finds before line after =
    (output : Line) × (line ≡ quoted output) × (missing_in before ≡ output ∷ missing_in after)
    × (after.bench ≡ before.bench) × (after.last ≡ before.last) × (after.count ≡ before.count)

-- the recording is the same with this line
abbrev pub GoesOn : Comparison → Line → Comparison → Type 0
GoesOn before line after = Finds before line after ⊎ ((missing_in before ≡ []) × (t : Recorded) × CarriesOut before line t after)

-- the recording is bad at this line, which has this number; or something failed
abbrev pub IsBadAt : Comparison → Line → ℕ → Stop → Type 0
IsBadAt c line place (BadLine n) = (n ≡ place) × (missing_in c ≡ []) × ¬ (IsOutput line) × IsNoCommand c.last c.bench line
IsBadAt c line place Failed = ⊤
IsBadAt c line place Usage = ⊥
IsBadAt c line place Differs = ⊥

-- the verdict of a comparison if the recording ends here; `place` is the number of the line after the last one
abbrev pub EndsWith : Comparison → ℕ → Replayed → Type 0
EndsWith c place (replayed.Same count) = (missing_in c ≡ []) × (count ≡ c.count)
EndsWith c place (replayed.Differs n) = (missing_in c ≢ []) × (n ≡ place)
