use Rattle.std.proofs.Common.{◌≡◌, ◌+◌, ◌≤◌, false, length}
use Rattle.std.specs.Prelude.{vec_len, vec_capacity}
use Rattle.wl_link.proofs.OverRuns.RunLaws.{MadeSoFar}
use Rattle.wl_client.specs.Steps.{StepOf}
use Rattle.wl_client.proofs.replay.Backend+Memory+U.perform_all.Given as goal

abbrev pub invariant-loop-step : goal.invariant-loop-step
invariant-loop-step g l = record {
  so_far : MadeSoFar StepOf l.fn.self.session l.fn.steps.items l.replies.items l.steps.items l.self.session;
  room : vec_len l.replies + vec_len l.steps ≤ vec_capacity l.replies;
  fewer : vec_len l.steps ≤ vec_len l.fn.steps;
  calm : l.self.refused ≡ false;
}

abbrev pub decreases-loop-step : goal.decreases-loop-step
decreases-loop-step g l = length l.steps.items
