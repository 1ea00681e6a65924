use Rattle.std.proofs.Common.{◌≡◌, ◌+◌, ◌≤◌, false, length}
use Rattle.std.specs.Prelude.{vec_len, vec_capacity}
use Rattle.wl_link.proofs.OverRuns.RunLaws.{MadeSoFar}
use Rattle.wl_server_model.specs.PartStep.{over_scripts}
use Rattle.wl_server_model.specs.Steps.{StepOf}
use Rattle.wl_server.proofs.runs.replay.Backend+Memory+U+G+C.perform_all.Given as goal

abbrev pub invariant-loop-step : goal.invariant-loop-step
invariant-loop-step g l = record {
  so_far : MadeSoFar (StepOf (over_scripts g.G.GlobalHandler.views)) l.fn.self.server l.fn.steps.items l.replies.items l.steps.items l.self.server;
  room : vec_len l.replies + vec_len l.steps ≤ vec_capacity l.replies;
  fewer : vec_len l.steps ≤ vec_len l.fn.steps;
  calm : l.self.refused ≡ false;
}

abbrev pub decreases-loop-step : goal.decreases-loop-step
decreases-loop-step g l = length l.steps.items
