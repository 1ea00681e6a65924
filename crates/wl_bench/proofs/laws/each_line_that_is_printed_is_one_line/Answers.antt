use Rattle.wl_bench.proofs.NoteLines.{each_line_is_one, steps_cause}
use Rattle.wl_bench.proofs.laws.each_line_that_is_printed_is_one_line.Goals as goal

pub returns : goal.returns
returns c =
    let calls = c.each_error_in_a_note_has_a_cause.ensures.call in
    each_line_is_one (steps_cause c.calls_over_scripts_are_steps.ensures.change calls) calls
