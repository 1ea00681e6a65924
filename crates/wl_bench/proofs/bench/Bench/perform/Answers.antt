use Rattle.std.proofs.Common.{◌∙◌, ap, subst, [], ◌++◌, ◌∷◌, map, List}
use Rattle.std.proofs.lemmas.List.{length-map}
use Rattle.wl_bench.specs.Bench.{BenchServer, BenchState, BenchStep, Replies, take_step}
use Rattle.wl_bench.proofs.Making.{made}
use Rattle.wl_bench.proofs.bench.Bench.perform.Goals as goal

pub returns-in-Ok-clause-made : goal.returns-in-Ok-clause-made
returns-in-Ok-clause-made c =
    let steps = c.in_ok-push_takes.ensures.steps
    ∙ ap (λ (l : List BenchStep). l ++ map take_step c.args.heard.now)
    (c.in_ok-push.ensures.items ∙ ap (λ (l : List BenchStep). l ++ c.args.step ∷ []) c.new-steps.ensures.items) in
    subst (λ (s : BenchServer). Replies s (c.args.step ∷ []) c.args.heard.now c.in-Ok.replies.items c.replay.new.self.server)
    (ap (λ (b : BenchState). b.server) c.self.view_is)
    (made _ _ _ c.args.step c.args.heard.now c.in-Ok.replies.items steps c.in-Ok.ensures.count (length-map c.args.heard.now take_step) c.in-Ok.ensures.steps)
