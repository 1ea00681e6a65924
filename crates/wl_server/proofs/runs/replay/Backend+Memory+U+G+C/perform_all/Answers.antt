use Rattle.std.proofs.Common.{◌≡◌, [], arith, ap, refl, sym, subst, ◌∙◌}
use Rattle.std.proofs.lemmas.Bool.{false≢true}
use Rattle.wl_link.proofs.OverRuns.RunLaws.{begins, empty_of, ends, more, stops}
use Rattle.wl_server_model.specs.PartStep.{over_scripts}
use Rattle.wl_server_model.specs.Steps.{StepOf}
use Rattle.wl_server.proofs.runs.replay.Backend+Memory+U+G+C.perform_all.Goals as goal

pub loop-step-init : goal.loop-step-init
loop-step-init g c =
    rw (← c.self.view_is, c.in-Ok.ensures.items, c.requires)
    (record {
      so_far = begins (StepOf (over_scripts g.G.GlobalHandler.views)) _ _ _ c.reverse.ensures.items;
      room = omega (arith, c.in-Ok.ensures.ok, c.reverse.ensures.len, c.len.ensures);
      fewer = omega (arith, c.reverse.ensures.len);
      calm = refl;
    })

pub returns-then-self-clause-stopped : goal.returns-then-self-clause-stopped
returns-then-self-clause-stopped g c refused =
    stops (StepOf (over_scripts g.G.GlobalHandler.views)) _ _ _ _ c.loop-step.replies.items c.loop-step.steps.items c.pop.new.self.items c.in-Some.step c.perform-reply.result
    c.in-Some.ensures.items c.loop-step.invariant.so_far
    (subst (λ b. StepOf (over_scripts g.G.GlobalHandler.views) c.loop-step.self.server c.in-Some.step c.perform-reply.result b c.perform-reply.new.self.server) refused c.perform-reply.ensures.step)

pub loop-step-preserved : goal.loop-step-preserved
loop-step-preserved g c =
    let calm = sym (ap (λ s. s.refused) c.self-in-Some.view_is) ∙ c.if-self.false in
    rw c.push_reserved.ensures.items
    (record {
      so_far = more (StepOf (over_scripts g.G.GlobalHandler.views)) _ _ _ _ c.loop-step.replies.items c.loop-step.steps.items c.pop.new.self.items c.in-Some.step c.perform-reply.result
          c.in-Some.ensures.items c.loop-step.invariant.so_far
          (subst (λ b. StepOf (over_scripts g.G.GlobalHandler.views) c.loop-step.self.server c.in-Some.step c.perform-reply.result b c.perform-reply.new.self.server) calm c.perform-reply.ensures.step);
      room = omega (arith, c.loop-step.invariant.room, c.in-Some.ensures.len, c.push_reserved.ensures.len, c.push_reserved.ensures.capacity);
      fewer = omega (arith, c.loop-step.invariant.fewer, c.in-Some.ensures.len);
      calm = calm;
    })

pub returns-clause-made : goal.returns-clause-made
returns-clause-made g c calm =
    let none : c.loop-step.steps.items ≡ [] = empty_of c.loop-step.steps.len c.loop-step.steps.items c.loop-step.steps.ok.0
    (λ some. false≢true (c.in_default-pop.ensures.variant.1 some)) in
    ends (StepOf (over_scripts g.G.GlobalHandler.views)) c.args.self.now.server c.loop-step.self.server c.args.steps.now.items c.loop-step.replies.items c.loop-step.steps.items none c.loop-step.invariant.so_far
