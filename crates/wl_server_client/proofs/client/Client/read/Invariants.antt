use Rattle.std.proofs.Common.{Some, ◌≤◌}
use Rattle.wl_server_client.specs.NoteTimes.{IsNumbered, NotesInTime}
use Rattle.wl_server_client.specs.Inside.ReadingLoop.{ReadsOn, around_of}
use Rattle.wl_server_client.proofs.client.Client.read.Given as goal

-- the reading came so far, and goes on
abbrev pub invariant-loop-end : goal.invariant-loop-end
invariant-loop-end g l = record {
  place : 4 ≤ l.message.args.capacity;
  goes : ReadsOn g.T.Transport.sends g.T.Transport.receives (around_of g.G.GlobalHandler.views l.fn.around) l.fn.self l.fn.reading l.self l.reading;
  in_time : NotesInTime l.fn.self.times l.fn.numbers l.self.times l.numbers;
  numbered : IsNumbered (Some l.fn.self) → IsNumbered (Some l.self);
}

abbrev pub decreases-loop-end : goal.decreases-loop-end
decreases-loop-end g l = l.reading.turns_left
