use Rattle.wl_relay.proofs.Gathered.{gathers_more, no_arguments}
use Rattle.wl_relay.proofs.rows.arguments_of.Goals as goal

pub returns-in-None : goal.returns-in-None
returns-in-None c = no_arguments c.args.words.now c.loop-word.word-index _ c.loop-word-test.true c.in-None.ensures

pub loop-word-preserved : goal.loop-word-preserved
loop-word-preserved c =
    let pushed = c.in_ok-push-in-Some.ensures in
    gathers_more c.args.words.now c.loop-word.word-index _ c.loop-word.arguments c.push.new.self c.in-Some.kind c.loop-word-test.true
    c.loop-word.invariant c.in-Some.ensures pushed.types pushed.child pushed.places
