use Rattle.std.proofs.Common.{rules}
use mathlib.Core.Logic.{inr}
use Rattle.wl_relay.specs.Inside.Gathering.{came_of}
use Rattle.wl_relay.specs.Program.{IsArrival}
use Rattle.wl_relay.proofs.commands.answer_line.Goals as goal

pub returns-in-Some-clause-bad : goal.returns-in-Some-clause-bad
returns-in-Some-clause-bad g c = λ refused.
    let a = c.in-Some.arrival in
    let is : IsArrival a.side (came_of a) c.args.line.now = search rules in
    inr (a.side, came_of a, is, c.carry_out.ensures.too_many refused)
