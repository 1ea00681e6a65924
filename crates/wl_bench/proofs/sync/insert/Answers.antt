use Rattle.std.proofs.Common.{ap, ◌∙◌}
use Rattle.wl_bench.specs.Sync.{bringing}
use Rattle.wl_bench.proofs.FirstAnswer.{has_asked}
use Rattle.wl_bench.proofs.sync.insert.Goals as goal

pub returns-clause-ok : goal.returns-clause-ok
returns-clause-ok c = λ fresh brings. has_asked _ _ _ _ c.args.server.now _ _ _ _ fresh (c.in_ok-transport.ensures.ok ∙ ap bringing brings) c.in_ok-insert_client.ensures.call
