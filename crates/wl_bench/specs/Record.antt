-- The record of numbered commands, and how runs of lines end.
use Rattle.std.specs.Prelude.{◌≡◌, ◌≢◌, ℕ, suc, ◌+◌, List, [], ◌∷◌, ◌++◌, length, map, ◌⊎◌, ⊤, Option, Result, Ok, Err, if◌then◌else◌}
use Rattle.std.specs.Fmt.{decimal}
use Rattle.std.specs.Io.KnownBytes.{Appends, Keeps}
use Rattle.std.specs.List.{flat_map}
use Rattle.std.specs.Str.{bytes_eq}
use Rattle.wl_bench.specs.declared.command.Command.{Command}
use Rattle.wl_bench.specs.declared.commands.Form.{Form}
use Rattle.wl_bench.specs.declared.commands.Form.TheVariants as form
use Rattle.wl_bench.specs.declared.stop.Stop.{Stop}
use Rattle.wl_bench.specs.declared.stop.Stop.TheVariants.{BadLine, Failed, Usage, Differs}
use Rattle.wl_bench.specs.Answers.{Line}
use Rattle.wl_bench.specs.Bench.{BenchState, Does, NamesNone}
use Rattle.wl_bench.specs.Commands.{IsLine, parts}

-- ---- lines

-- the lines of an input, without their line feeds; what stands after the last line feed is a line if it is not empty
abbrev pub whole_lines : List Line → List Line
whole_lines [] = []
whole_lines (line ∷ []) = if bytes_eq line [] then [] else line ∷ []
whole_lines (line ∷ next ∷ rest) = line ∷ whole_lines (next ∷ rest)

abbrev pub lines : List ℕ → List Line
lines input = whole_lines (parts 10 input)

-- a line with its line feed
abbrev pub fed : Line → List ℕ
fed line = line ++ 10 ∷ []

abbrev pub text_of : List Line → List ℕ
text_of all = flat_map fed all

-- ---- the record of commands

-- a command that was carried out: its number, the text of its line, and the lines that it printed
pub record Recorded : Type 0 where
  pub number : ℕ
  pub line : Line
  pub answer : List Line

-- a line of output, after `> `
abbrev pub quoted : Line → Line
quoted line = 62 ∷ 32 ∷ line

-- the line of a command: its number, a space, and its text
abbrev pub command_line : Recorded → Line
command_line t = decimal t.number ++ 32 ∷ t.line

-- the record of a command
abbrev pub record_of : Recorded → List Line
record_of t = command_line t ∷ map quoted t.answer

-- and of several: the record of numbered commands that printed this
abbrev pub recording_of : List Recorded → List Line
recording_of all = flat_map record_of all

-- Each is a command under its number, which prints this after the commands before it. The notes of two clients are in the
-- order in which the run gave them.
abbrev pub Leads : BenchState → List Recorded → BenchState → Type 0
Leads before [] after = after ≡ before
Leads before (t ∷ all) after =
    (command : Command) × IsLine command t.line × (mid : BenchState) × Does before t.number command t.answer mid × Leads mid all after

-- ---- runs of lines

-- the commands of lines, of which this is the number of the first: each line that is not empty, under its number
abbrev pub AreOf : ℕ → List Line → List Recorded → Type 0
AreOf n [] [] = ⊤
AreOf n [] (t ∷ all) = ⊥
AreOf n ([] ∷ rest) all = AreOf (suc n) rest all
AreOf n ((b ∷ line) ∷ rest) [] = ⊥
AreOf n ((b ∷ line) ∷ rest) (t ∷ all) = (t.number ≡ n) × (t.line ≡ b ∷ line) × AreOf (suc n) rest all

-- a line is bad: it is not empty, and it is no command, or one that names a slot at which no client was inserted
abbrev pub IsBad : BenchState → Line → Type 0
IsBad b line = (line ≢ []) × ((command : Command) → IsLine command line → NamesNone b command)

-- what is written of a command: the lines that it printed, or its record
abbrev pub written_of : Form → Recorded → List Line
written_of form.Answers t = t.answer
written_of form.Record t = record_of t

abbrev pub written : Form → List Recorded → List Line
written f all = flat_map (written_of f) all

-- How a run over these lines ends, and what it has written after what the writer held, if that is known. The first line has
-- this number. The run ends with `Ok` if each line is empty or a command, and else at the first bad line, with its number.
-- Nothing is said of a run that failed.
abbrev pub Runs : Form → ℕ → BenchState → List Line → Result (Unit {0}) Stop → Option (List ℕ) → Option (List ℕ) → Type 0
Runs f n before all (Ok _) held held' =
    (told : List Recorded) × (after : BenchState) × AreOf n all told × Leads before told after × Appends held held' (text_of (written f told))
Runs f n before all (Err (BadLine m)) held held' =
    (front rest : List Line) × (line : Line) × (told : List Recorded) × (after : BenchState)
    × (all ≡ front ++ line ∷ rest) × (m ≡ n + length front) × AreOf n front told × Leads before told after
    × IsBad after line × Appends held held' (text_of (written f told))
Runs f n before all (Err Failed) held held' = ⊤
Runs f n before all (Err Usage) held held' = ⊥
Runs f n before all (Err Differs) held held' = ⊥

-- what a line does in a run: nothing, if it is empty, or it is a command, and is carried out and written
abbrev pub Answers : Form → ℕ → BenchState → Line → BenchState → Option (List ℕ) → Option (List ℕ) → Type 0
Answers f n before line after held held' =
    ((line ≡ []) × (after ≡ before) × Keeps held held')
    ⊎ ((t : Recorded) × (t.number ≡ n) × (t.line ≡ line) × (line ≢ []) × Leads before (t ∷ []) after
    × Appends held held' (text_of (written_of f t)))

-- a run that does not go on after a line: the line is bad, and has this number; or something failed
abbrev pub StopsAt : ℕ → BenchState → Line → Stop → Option (List ℕ) → Option (List ℕ) → Type 0
StopsAt n b line (BadLine m) held held' = (m ≡ n) × IsBad b line × Keeps held held'
StopsAt n b line Failed held held' = ⊤
StopsAt n b line Usage held held' = ⊥
StopsAt n b line Differs held held' = ⊥
