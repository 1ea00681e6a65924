use Rattle.std.proofs.Common.{take}
use Rattle.wl_relay.specs.Inside.Gathering.{ArgumentsOf}
use Rattle.wl_relay.specs.Words.{spoken}
use Rattle.wl_relay.proofs.rows.arguments_of.Given as goal

abbrev pub invariant-loop-word : goal.invariant-loop-word
invariant-loop-word l = ArgumentsOf (spoken (take l.word-index l.words)) l.arguments
