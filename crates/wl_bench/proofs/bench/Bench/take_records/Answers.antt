use Rattle.std.proofs.Common.{◌∙◌, ap, subst, ◌++◌, map, List}
use Rattle.wl_bench.specs.Bench.{BenchServer, BenchState, BenchStep, TakesRecords, take_step}
use Rattle.wl_bench.proofs.Slots.{takes_records}
use Rattle.wl_bench.proofs.bench.Bench.take_records.Goals as goal

pub returns-in-Ok-clause-taken : goal.returns-in-Ok-clause-taken
returns-in-Ok-clause-taken c =
    let steps = c.in_ok-push_takes.ensures.steps ∙ ap (λ (l : List BenchStep). l ++ map take_step c.args.heard.now) c.new-steps.ensures.items in
    subst (λ (s : BenchServer). TakesRecords s c.args.heard.now c.in-Ok.taken.items c.replay.new.self.server)
    (ap (λ (b : BenchState). b.server) c.self.view_is)
    (takes_records _ _ _ c.args.heard.now c.in-Ok.taken.items steps c.in-Ok.ensures.count c.in-Ok.ensures.steps)
