use Rattle.server_examples.specs.Room.{OnlyCalls}
use Rattle.server_examples.proofs.tests.room.tell_all.Given as goal

abbrev pub invariant-loop-member : goal.invariant-loop-member
invariant-loop-member l = OnlyCalls l.fn.server.server l.server.server
