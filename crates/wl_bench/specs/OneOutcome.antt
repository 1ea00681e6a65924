-- That a command has one outcome: what it prints, and how the bench looks afterwards; and so has the record of commands.
--
-- `ordered` says whether the order of the notes of different clients counts.
use Rattle.std.specs.Prelude.{⊤, ◌≡◌, ℕ, Bool, IsTrue, List, [], ◌∷◌}
use Rattle.wl_server_client.specs.declared.notes.Note.{Note}
use Rattle.wl_server_client.specs.Ids.{ClientParts}
use Rattle.wl_server_model.specs.Outcome.Whole.{SameServer}
use Rattle.wl_server_model.specs.Server.{notes_of}
use Rattle.wl_bench.specs.declared.command.Command.{Command}
use Rattle.wl_bench.specs.declared.command.Command.TheVariants.{Notes}
use Rattle.wl_bench.specs.Answers.{Line, note_lines}
use Rattle.wl_bench.specs.Bench.{BenchState}
use Rattle.wl_bench.specs.Commands.{IsLine}
use Rattle.wl_bench.specs.Record.{Recorded}

-- Two benches look the same: so do their servers, and the same was made last under each number.
pub record LookSame (ordered : Bool) (a b : BenchState) : Type 0 where
  pub server : SameServer ordered a.server b.server
  pub clients : a.clients ≡ b.clients
  pub globals : a.globals ≡ b.globals

-- the lines of notes, which are the same but for the order between the notes of two clients
abbrev pub TellSameNotes : List Line → List Line → Type 0
TellSameNotes out out' =
    (notes : List (Note ℕ)) × (notes' : List (Note ℕ)) × (out ≡ note_lines notes) × (out' ≡ note_lines notes')
    × ((client : ClientParts) → notes_of client notes ≡ notes_of client notes')

-- a command whose lines have one order: it takes no notes, or their order counts
abbrev pub IsSettled : Bool → Command → Type 0
IsSettled ordered command = command ≡ Notes → IsTrue ordered

-- a command printed the same twice
abbrev pub PrintSame : Bool → Command → List Line → List Line → Type 0
PrintSame ordered command out out' = (IsSettled ordered command → out ≡ out') × (command ≡ Notes → TellSameNotes out out')

-- ---- records

-- each line is such a command
abbrev pub AreSettled : Bool → List Recorded → Type 0
AreSettled ordered [] = ⊤
AreSettled ordered (t ∷ all) = ((command : Command) → IsLine command t.line → IsSettled ordered command) × AreSettled ordered all

-- the records are of the same lines, under the same numbers
abbrev pub OfSameLines : List Recorded → List Recorded → Type 0
OfSameLines [] [] = ⊤
OfSameLines [] (u ∷ all') = ⊥
OfSameLines (t ∷ all) [] = ⊥
OfSameLines (t ∷ all) (u ∷ all') = (t.number ≡ u.number) × (t.line ≡ u.line) × OfSameLines all all'
