use Rattle.std.proofs.lemmas.Result.{err_from_is_err_and}
use Rattle.wl_bench_program.proofs.Replays.{replay_failed}
use Rattle.wl_bench_program.proofs.performing.carry_out.Goals as goal

pub returns-in_err-new-in-Replay : goal.returns-in_err-new-in-Replay
returns-in_err-new-in-Replay g c =
    let p = err_from_is_err_and c.from_residual-in_err-new-in-Replay.result c.from_residual-in_err-new-in-Replay.ensures.1 in
    rw (c.in-Replay.is, p.1, p.2) (replay_failed _ _ _)
