use Rattle.std.proofs.Common.{subst, Option}
use Rattle.wl_bench.specs.Commands.{Finds, IsLine}
use Rattle.wl_bench.specs.declared.command.Command.{Command}
use Rattle.wl_replay.proofs.Recordings.{not_command, not_cut, not_numbered}
use Rattle.wl_replay.proofs.recording.numbered_command.Goals as goal

pub returns-in_default : goal.returns-in_default
returns-in_default c = not_cut c.args.line.now c.in_default.ensures

pub returns-in_default-number_of : goal.returns-in_default-number_of
returns-in_default-number_of c =
    not_numbered c.args.line.now c.in-Some.word.now c.in-Some.text.now c.in-Some.ensures.0 c.in-Some.ensures.1 c.in_default-number_of.ensures

pub returns-in-None : goal.returns-in-None
returns-in-None c =
    let none = subst (λ (found : Option Command). Finds IsLine c.in-Some.text.now found) c.in-None.is c.in_ok-command.ensures.found in
    not_command c.args.line.now c.in-Some.word.now c.in-Some.text.now c.in-Some.ensures.0 c.in-Some.ensures.1 none
