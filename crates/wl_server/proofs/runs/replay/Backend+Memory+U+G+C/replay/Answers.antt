use Rattle.std.proofs.Common.{ℕ, ◌∙◌, ap, length, subst, sym, arith}
use Rattle.std.proofs.lemmas.Bool.{false≢true}
use Rattle.wl_link.proofs.OverRuns.RunLaws.{joins}
use Rattle.wl_link.specs.Runs.{entries}
use Rattle.wl_server_model.proofs.OverRuns.Alone.HistoryLaws.{extends, extends_up_to}
use Rattle.wl_server_model.proofs.OverRuns.Outcome.MoveLaws.{scripts_determined}
use Rattle.wl_server_model.specs.PartStep.{over_scripts}
use Rattle.wl_server_model.specs.Runs.{StopsAt}
use Rattle.wl_server_model.proofs.OverRuns.Outcome.WholeRuns.{performance_one}
use Rattle.wl_server.proofs.runs.replay.Backend+Memory+U+G+C.replay.Goals as goal

pub returns-then-self-clause-stopped : goal.returns-then-self-clause-stopped
returns-then-self-clause-stopped g c =
    subst (λ (n : ℕ). StopsAt (over_scripts g.G.GlobalHandler.views) c.args.self.now.server c.args.steps.items n c.perform_all.new.replies.items c.perform_all.new.self.server)
    (sym (c.len.ensures ∙ c.perform_all.new.replies.ok.0))
    (c.perform_all.ensures.stopped (sym (ap (λ s. s.refused) c.self.view_is) ∙ c.if-self.true))

pub returns-then-self-clause-none : goal.returns-then-self-clause-none
returns-then-self-clause-none g c none =
    absurd (false≢true (sym (c.perform_all.ensures.none none) ∙ sym (ap (λ s. s.refused) c.self.view_is) ∙ c.if-self.true))

pub returns-clause-count : goal.returns-clause-count
returns-clause-count g c = (c.perform_all.ensures.made (sym (ap (λ s. s.refused) c.self.view_is) ∙ c.if-self.false)).1

pub returns-clause-steps : goal.returns-clause-steps
returns-clause-steps g c = (c.perform_all.ensures.made (sym (ap (λ s. s.refused) c.self.view_is) ∙ c.if-self.false)).0

pub returns-clause-joined : goal.returns-clause-joined
returns-clause-joined g c begun run before = grind (arith, joins, over_scripts, entries, returns-clause-steps)

pub returns-clause-outcome : goal.returns-clause-outcome
returns-clause-outcome g c ordered same other others alike many leads =
    performance_one (over_scripts g.G.GlobalHandler.views) (scripts_determined g.G.GlobalHandler.views)
    ordered c.args.self.now.server same c.perform_all.new.self.server other c.args.steps.items c.perform_all.new.replies.items others
    (returns-clause-count g c) many alike (returns-clause-steps g c) leads

pub returns-clause-history : goal.returns-clause-history
returns-clause-history g c = grind (arith, extends, entries, returns-clause-steps, over_scripts)

pub returns-then-self-clause-stopped_history : goal.returns-then-self-clause-stopped_history
returns-then-self-clause-stopped_history g c =
    extends_up_to g.G.GlobalHandler.views c.args.self.now.server c.perform_all.new.self.server
    c.args.steps.items (length c.perform_all.new.replies.items) c.perform_all.new.replies.items
    (c.perform_all.ensures.stopped (sym (ap (λ s. s.refused) c.self.view_is) ∙ c.if-self.true))
