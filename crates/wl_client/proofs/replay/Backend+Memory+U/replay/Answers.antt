use Rattle.std.proofs.Common.{ℕ, ◌++◌, ◌∙◌, ap, subst, sym}
use Rattle.wl_client.specs.Steps.{StepOf, StopsAt, entries}
use Rattle.wl_client.proofs.OverRuns.AccountLaws.{joined_history, stopped_accounts}
use Rattle.wl_client.proofs.OverRuns.FailedLaws.{steps_kept}
use Rattle.wl_client.proofs.OverRuns.IdentityLaws.{accounted, keeps_naming}
use Rattle.wl_client.proofs.OverRuns.OutcomeLaws.{run_one}
use Rattle.wl_client.proofs.OverRuns.StretchLaws.{parts_cut}
use Rattle.wl_client.specs.Histories.{called}
use Rattle.wl_client.proofs.replay.Backend+Memory+U.replay.Goals as goal

pub returns-then-self-clause-stopped : goal.returns-then-self-clause-stopped
returns-then-self-clause-stopped g c =
    subst (λ (n : ℕ). StopsAt c.args.self.now.session c.args.steps.items n c.perform_all.new.replies.items c.perform_all.new.self.session)
    (sym (c.len.ensures ∙ c.perform_all.new.replies.ok.0))
    (c.perform_all.ensures.stopped (sym (ap (λ s. s.refused) c.self-2.view_is) ∙ c.if-self.true))

pub returns-clause-count : goal.returns-clause-count
returns-clause-count g c = (c.perform_all.ensures.made (sym (ap (λ s. s.refused) c.self-2.view_is) ∙ c.if-self.false)).1

pub returns-clause-steps : goal.returns-clause-steps
returns-clause-steps g c = (c.perform_all.ensures.made (sym (ap (λ s. s.refused) c.self-2.view_is) ∙ c.if-self.false)).0

pub returns-clause-joined : goal.returns-clause-joined
returns-clause-joined g c begun deeds before =
    joined_history begun c.args.self.now.session c.perform_all.new.self.session deeds (entries c.args.steps.items c.perform_all.new.replies.items) before
    (returns-clause-steps g c)

pub returns-clause-accounted : goal.returns-clause-accounted
returns-clause-accounted g c table transport begun deeds connected before =
    accounted StepOf steps_kept table transport begun c.perform_all.new.self.session (deeds ++ called (entries c.args.steps.items c.perform_all.new.replies.items)) connected
    (returns-clause-joined g c begun deeds before)

pub returns-then-self-clause-stopped_accounts : goal.returns-then-self-clause-stopped_accounts
returns-then-self-clause-stopped_accounts g c =
    stopped_accounts _ _ _ _ _ (returns-then-self-clause-stopped g c)

pub returns-clause-cutting : goal.returns-clause-cutting
returns-clause-cutting g c begun deeds before = parts_cut begun (deeds ++ called (entries c.args.steps.items c.perform_all.new.replies.items))

pub returns-clause-outcome : goal.returns-clause-outcome
returns-clause-outcome g c others other as_many leads =
    run_one c.args.self.now.session c.perform_all.new.self.session other c.args.steps.items c.perform_all.new.replies.items others
    (returns-clause-count g c) as_many (returns-clause-steps g c) leads

pub returns-clause-named : goal.returns-clause-named
returns-clause-named g c table transport begun point done later connected first others =
    keeps_naming StepOf steps_kept table transport begun point c.perform_all.new.self.session done (later ++ called (entries c.args.steps.items c.perform_all.new.replies.items)) connected first
    (joined_history point c.args.self.now.session c.perform_all.new.self.session later (entries c.args.steps.items c.perform_all.new.replies.items) others
    (returns-clause-steps g c))
