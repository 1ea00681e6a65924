-- That a recording has one verdict: it is compared with what its commands print today.
use Rattle.std.specs.Prelude.{◌≡◌, ◌≢◌, ℕ, suc, List, [], ◌∷◌, ◌++◌, length, ⊤, Result, Ok, Err}
use Rattle.wl_bench.specs.declared.stop.Stop.{Stop}
use Rattle.wl_bench.specs.declared.stop.Stop.TheVariants.{BadLine, Failed, Usage, Differs}
use Rattle.wl_bench.specs.Answers.{Line}
use Rattle.wl_bench.specs.Record.{Recorded, recording_of, text_of}
use Rattle.wl_replay.specs.declared.recording.Replayed.{Replayed}
use Rattle.wl_replay.specs.declared.recording.Replayed.TheVariants as replayed

-- what is left of two lists of lines differs in its first line, or one of them has ended
abbrev pub DifferAtOnce : List Line → List Line → Type 0
DifferAtOnce [] [] = ⊥
DifferAtOnce (line ∷ rest) (other ∷ others) = line ≢ other
DifferAtOnce rest others = ⊤

-- the first line in which two lists of lines differ has this number, counted from 1
abbrev pub FirstDifference : List Line → List Line → ℕ → Type 0
FirstDifference all today place =
    (front rest others : List Line) × (all ≡ front ++ rest) × (today ≡ front ++ others) × (place ≡ suc (length front)) × DifferAtOnce rest others

-- The verdict about a recording of these lines, where its commands print this today. It is `Same` if the lines are the record of
-- today, and gives the count of commands; else it names the first line that differs from that record. No line is bad. Of a
-- replay that failed nothing is said.
abbrev pub ComparesWith : List Line → List Recorded → Result Replayed Stop → Type 0
ComparesWith all today (Ok (replayed.Same count)) = (all ≡ recording_of today) × (count ≡ length today)
ComparesWith all today (Ok (replayed.Differs place)) = FirstDifference all (recording_of today) place
ComparesWith all today (Err (BadLine place)) = ⊥
ComparesWith all today (Err Failed) = ⊤
ComparesWith all today (Err Usage) = ⊥
ComparesWith all today (Err Differs) = ⊥

-- The verdict is that the text is the same, and the record of so many commands.
abbrev pub IsSameRecord : List ℕ → Result Replayed Stop → Type 0
IsSameRecord text verdict = (told : List Recorded) × (text ≡ text_of (recording_of told)) × (verdict ≡ Ok (replayed.Same (length told)))
