use Rattle.std.proofs.Common.{◌≡◌, ◌++◌, take, map}
use Rattle.std.specs.String.{string_bytes}
use Rattle.wl_bench.specs.Answers.{note_text}
use Rattle.wl_bench.proofs.answer.push_notes.Given as goal

abbrev pub invariant-loop-note : goal.invariant-loop-note
invariant-loop-note l = map string_bytes l.lines.items ≡ map string_bytes l.fn.lines.items ++ map note_text (take l.note-index l.notes)
