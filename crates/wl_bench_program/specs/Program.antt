-- What the program `wl-bench` does for its arguments: what it prints, what it tells on standard error, and its exit status.
use Rattle.std.specs.Prelude.{◌≡◌, ◌≢◌, ℕ, List, [], ◌∷◌, ◌++◌, codes, ⊤, Option, IfSome, Result, Ok, Err}
use Rattle.std.specs.Fmt.{decimal}
use Rattle.std.specs.Io.KnownBytes.{Appends, Keeps}
use Rattle.std.specs.IoError.{error_kind}
use Rattle.std.specs.declared.io.Error.{Error}
use Rattle.std.specs.declared.io.ErrorKind.TheVariants.{InvalidData}
use Rattle.wl_bench.specs.declared.commands.Form.TheVariants as form
use Rattle.wl_bench.specs.declared.stop.Stop.{Stop}
use Rattle.wl_bench.specs.declared.stop.Stop.TheVariants.{BadLine, Failed, Usage, Differs}
use Rattle.wl_bench.specs.Answers.{Line}
use Rattle.wl_bench.specs.Bench.{new_bench}
use Rattle.wl_bench.specs.Hex.{hex_text}
use Rattle.wl_bench.specs.Record.{Runs, fed, lines, text_of}
use Rattle.wl_bench.specs.Sync.{answer_bytes, request_bytes}
use Rattle.wl_bench.specs.Table.{bench_rows}
use Rattle.wl_replay.specs.declared.recording.Replayed.{Replayed}
use Rattle.wl_replay.specs.declared.recording.Replayed.TheVariants as replayed
use Rattle.wl_replay.specs.Replay.{Replays, verdict_text}
use Rattle.wl_bench_program.specs.declared.arguments.Program.{Program}
use Rattle.wl_bench_program.specs.declared.arguments.Program.TheVariants as program

-- ---- what the arguments ask for

-- the word names what the program is to do
abbrev pub Names : Program → Line → Type 0
Names program.Sync word = word ≡ codes "sync"
Names program.Run word = word ≡ codes "run"
Names program.Record word = word ≡ codes "record"
Names program.Replay word = word ≡ codes "replay"

-- the arguments are the name under which this program was called, and one word, which names what it is to do
abbrev pub AsksFor : Program → List Line → Type 0
AsksFor asked args = (name word : Line) × (args ≡ name ∷ word ∷ []) × Names asked word

-- what arguments ask for, or `Usage` if that is nothing
abbrev pub Asks : List Line → Result Program Stop → Type 0
Asks args (Ok asked) = AsksFor asked args
Asks args (Err Usage) = (asked : Program) → ¬ (AsksFor asked args)
Asks args (Err Failed) = ⊥
Asks args (Err Differs) = ⊥
Asks args (Err (BadLine n)) = ⊥

-- The same for arguments that could not be read, for this reason. Those that are no text ask for nothing.
abbrev pub AsksUnread : Error → Result Program Stop → Type 0
AsksUnread error asked = (error_kind error ≡ InvalidData → asked ≡ Err Usage) × (error_kind error ≢ InvalidData → asked ≡ Err Failed)

-- ---- what is done, and printed

-- how the program ends, if not before its work is done
abbrev pub End : Type 0
End = Result (Unit {0}) Stop

-- the first exchange: what the client sends, and what the server answers, a line each
abbrev pub exchange : List ℕ
exchange = text_of (hex_text request_bytes ∷ hex_text answer_bytes ∷ [])

-- how the first exchange ends, and what it prints after what the writer held
abbrev pub Exchanges : End → Option (List ℕ) → Option (List ℕ) → Type 0
Exchanges (Ok done) held held' = Appends held held' exchange
Exchanges (Err Failed) held held' = ⊤
Exchanges (Err Usage) held held' = ⊥
Exchanges (Err Differs) held held' = ⊥
Exchanges (Err (BadLine n)) held held' = ⊥

-- a recording that differs ends the program otherwise than one that is the same
abbrev pub end_of : Replayed → End
end_of (replayed.Same count) = Ok tt
end_of (replayed.Differs place) = Err Differs

-- what a replay that came to this prints, and how the program then ends; of a recording with a bad line nothing is printed
abbrev pub Concludes : Result Replayed Stop → End → Option (List ℕ) → Option (List ℕ) → Type 0
Concludes (Ok verdict) end held held' = (end ≡ end_of verdict) × Appends held held' (fed (verdict_text verdict))
Concludes (Err (BadLine n)) end held held' = (end ≡ Err (BadLine n)) × Keeps held held'
Concludes (Err Failed) end held held' = end ≡ Err Failed
Concludes (Err Usage) end held held' = end ≡ Err Usage
Concludes (Err Differs) end held held' = end ≡ Err Differs

-- What the program does with its input, if that is known: how it ends, and what it prints.
abbrev pub Does : Program → Option (List ℕ) → End → Option (List ℕ) → Option (List ℕ) → Type 0
Does program.Sync input end held held' = Exchanges end held held'
Does program.Run input end held held' =
    IfSome input (λ bytes. Runs form.Answers 1 (new_bench bench_rows) (lines bytes) end held held')
Does program.Record input end held held' =
    IfSome input (λ bytes. Runs form.Record 1 (new_bench bench_rows) (lines bytes) end held held')
Does program.Replay input end held held' =
    (answer : Result Replayed Stop) × IfSome input (λ bytes. Replays (new_bench bench_rows) (lines bytes) answer)
    × Concludes answer end held held'

-- the same, where nothing is done if nothing was asked for
abbrev pub DoesAsked : Result Program Stop → Option (List ℕ) → End → Option (List ℕ) → Option (List ℕ) → Type 0
DoesAsked (Ok asked) input end held held' = Does asked input end held held'
DoesAsked (Err stop) input end held held' = (end ≡ Err stop) × Keeps held held'

-- ---- how it ends

-- the exit status
abbrev pub status_of : End → ℕ
status_of (Ok done) = 0
status_of (Err Differs) = 1
status_of (Err Usage) = 2
status_of (Err (BadLine n)) = 2
status_of (Err Failed) = 3

-- what is told on standard error
abbrev pub told_of : End → List ℕ
told_of (Ok done) = []
told_of (Err Differs) = []
told_of (Err Usage) = fed (codes "usage: wl-bench sync | run | record | replay")
told_of (Err (BadLine n)) = fed (codes "line " ++ decimal n ++ codes ": bad command")
told_of (Err Failed) = fed (codes "failed")
