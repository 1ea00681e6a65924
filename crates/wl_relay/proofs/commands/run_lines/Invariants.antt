use Rattle.wl_relay.specs.Inside.Reading.{HasAnswered}
use Rattle.wl_relay.specs.Program.{HasNoneReady}
use Rattle.wl_relay.proofs.commands.run_lines.Given as goal

abbrev pub invariant-loop-number : goal.invariant-loop-number
invariant-loop-number g l = HasNoneReady l.relay
    × HasAnswered l.mode l.before l.number (g.R.Read.remaining l.fn.reader) (g.R.Read.remaining l.reader) l.fn.relay l.relay (g.W.Write.contents l.fn.writer) (g.W.Write.contents l.writer)
