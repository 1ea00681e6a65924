use Rattle.std.proofs.Common.{◌∙◌, Some, ap, sym, false, Ok, refl}
use Rattle.wl_server_client.proofs.Readings.Finishing.{is_open, none_open, is_refused}
use Rattle.wl_server_client.proofs.client.Client.finish_bind.Goals as goal
use Rattle.wl_server_client.proofs.CallSteps.Doing.{does_quietly}
use Rattle.wl_server_client.specs.Finish.{FinishesOpenBind}
use Rattle.wl_server_client.specs.declared.error.FinishError.TheVariants as finish
use Rattle.wl_server_client.specs.Inside.Finishing.{part_finished}
use Rattle.wl_server_client.specs.declared.reading.action.OpenAction.TheVariants as opened

pub returns-in_default-clause-done : goal.returns-in_default-clause-done
returns-in_default-clause-done g c =
    none_open c.args.self.now c.args.user_data (λ a p answer refused did q. FinishesOpenBind p a c.args.user_data answer refused did q)
    (rw (← c.self.view_is) (sym c.get.ensures ∙ c.in_default.is))

pub returns-in-Bind-clause-done : goal.returns-in-Bind-clause-done
returns-in-Bind-clause-done g c =
    is_open c.args.self.now c.args.user_data (λ a p answer refused did q. FinishesOpenBind p a c.args.user_data answer refused did q)
    (opened.Bind c.in-Bind.object) (Ok tt) false c.finish_action.new.self
    (rw (← c.self.view_is) (sym c.get.ensures ∙ c.in-Some.is ∙ ap (λ a. Some a) c.in-Bind.is))
    (rw c.finish_action.ensures.finished (does_quietly c.args.self.now (λ p did q. FinishesOpenBind p (opened.Bind c.in-Bind.object) c.args.user_data
    (Ok tt) false did q) (part_finished c.args.self.now.part (Some c.in-Bind.object) (Some c.args.user_data)) (refl, refl, refl, refl)))

pub returns-in-Request-clause-done : goal.returns-in-Request-clause-done
returns-in-Request-clause-done g c =
    is_refused c.args.self.now c.args.user_data (λ a p answer refused did q. FinishesOpenBind p a c.args.user_data answer refused did q)
    (opened.Request c.in-Request.sender c.in-Request.is_destructor c.in-Request.created) finish.WrongKind
    (rw (← c.self.view_is) (sym c.get.ensures ∙ c.in-Some.is ∙ ap (λ a. Some a) c.in-Request.is)) (refl, refl, refl, refl)
