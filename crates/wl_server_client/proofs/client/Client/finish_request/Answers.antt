use Rattle.std.proofs.Common.{◌∙◌, Some, Ok, ap, sym, arith, refl}
use Rattle.std.specs.Result.{result_and}
use Rattle.wl_server_client.specs.declared.reading.action.OpenAction.TheVariants as opened
use Rattle.wl_server_client.proofs.Readings.Finishing.{is_open, none_open, is_refused}
use Rattle.wl_server_client.proofs.Readings.DataGiven.{request_leaves}
use Rattle.wl_server_client.proofs.client.Client.finish_request.Goals as goal
use Rattle.wl_server_client.specs.Finish.{FinishesOpen}
use Rattle.wl_server_client.specs.declared.error.FinishError.TheVariants as finish

pub returns-in_default-clause-done : goal.returns-in_default-clause-done
returns-in_default-clause-done g c =
    none_open c.args.self.now c.args.user_data
    (λ a p answer refused did q. FinishesOpen g.T.Transport.sends c.args.id.now p a c.args.user_data answer refused did q)
    (rw (← c.self.view_is) (sym c.get.ensures ∙ c.in_default.is))

pub returns-in-Request-clause-done : goal.returns-in-Request-clause-done
returns-in-Request-clause-done g c =
    is_open c.args.self.now c.args.user_data
    (λ a p answer refused did q. FinishesOpen g.T.Transport.sends c.args.id.now p a c.args.user_data answer refused did q)
    (opened.Request c.in-Request.sender c.in-Request.is_destructor c.in-Request.created)
    (result_and c.end_request.result (Ok tt)) _ c.end_request.new.self
    (rw (← c.self.view_is) (sym c.get.ensures ∙ c.in-Some.is ∙ ap (λ a. Some a) c.in-Request.is)) c.end_request.ensures.done

pub returns-in-Bind-clause-done : goal.returns-in-Bind-clause-done
returns-in-Bind-clause-done g c =
    is_refused c.args.self.now c.args.user_data
    (λ a p answer refused did q. FinishesOpen g.T.Transport.sends c.args.id.now p a c.args.user_data answer refused did q)
    (opened.Bind c.in-Bind.object) finish.WrongKind (rw (← c.self.view_is) (sym c.get.ensures ∙ c.in-Some.is ∙ ap (λ a. Some a) c.in-Bind.is))
    (refl, refl, refl, refl)

pub returns-in-Request-clause-back : goal.returns-in-Request-clause-back
returns-in-Request-clause-back g c = grind (arith, request_leaves)
