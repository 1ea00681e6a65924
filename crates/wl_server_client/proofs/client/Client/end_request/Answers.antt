use Rattle.std.proofs.Common.{◌∙◌, false, true, refl, sym, ap, arith, Ok}
use Rattle.std.proofs.lemmas.Grind.{common_steps}
use Rattle.wl_server_client.specs.Stored.{Stored, untimed}
use Rattle.wl_server_client.proofs.CallSteps.Numbers.{in_time_both, in_time_same}
use Rattle.wl_server_client.proofs.CallSteps.Doing.{told_untimed}
use Rattle.wl_server_client.proofs.Readings.Finishing.{ends_done, ends_starved, request_ends, request_refused}
use Rattle.wl_server_client.proofs.client.Client.end_request.Goals as goal
use Rattle.wl_server_client.proofs.ObjectCalls.Posting.{kills_is}

pub returns-in-Some-clause-done : goal.returns-in-Some-clause-done
returns-in-Some-clause-done g c = grind (arith, common_steps, request_refused)

pub returns-then-is_out_of_memory-clause-done : goal.returns-then-is_out_of_memory-clause-done
returns-then-is_out_of_memory-clause-done g c =
    request_ends g.T.Transport.sends c.args.id.now c.args.self.now c.args.sender.now c.args.is_destructor c.args.created c.args.user_data _ true c.end_sender-told.new.self
    (rw (← c.self.view_is) c.in_default.ensures) refl
    (ends_starved g.T.Transport.sends c.args.id.now c.args.self.now c.args.sender.now c.args.is_destructor c.args.created c.args.user_data _
    c.end_sender-told.new.self (rw (sym c.is_out_of_memory.ensures ∙ c.if-is_out_of_memory.true) at c.end_sender-told.ensures.ends))

pub returns-then-not-is_destructor-clause-done : goal.returns-then-not-is_destructor-clause-done
returns-then-not-is_destructor-clause-done g c =
    request_ends g.T.Transport.sends c.args.id.now c.args.self.now c.args.sender.now c.args.is_destructor c.args.created c.args.user_data _ false
    c.finish_action.new.self (rw (← c.self.view_is) c.in_default.ensures) refl (ends_done g.T.Transport.sends c.args.id.now c.args.self.now
    c.args.sender.now c.args.is_destructor c.args.created c.args.user_data (Ok tt) c.args.self.now c.finish_action.new.self
    (rw c.if-not-is_destructor.true (refl, refl)) (ap untimed c.finish_action.ensures.finished))

pub returns : goal.returns
returns g c =
    let closed = rw c.finish_action-back.ensures.finished at c.kill_unless_written.ensures.closed in
    let in_time = rw c.finish_action-back.ensures.finished at c.kill_unless_written.ensures.in_time in
    record {
      done = request_ends g.T.Transport.sends c.args.id.now c.args.self.now c.args.sender.now c.args.is_destructor c.args.created
          c.args.user_data _ false c.kill_unless_written.new.self (rw (← c.self.view_is) c.in_default.ensures) refl
          (ends_done g.T.Transport.sends c.args.id.now c.args.self.now c.args.sender.now c.args.is_destructor c.args.created c.args.user_data
          c.end_sender-told.result c.end_sender-told.new.self c.kill_unless_written.new.self
          (rw (sym c.is_out_of_memory.ensures ∙ c.if-is_out_of_memory.false) at c.end_sender-told.ensures.ends) (told_untimed _ c.end_sender-told.result _ _ closed));
      back = grind (arith, common_steps, kills_is);
      in_time = in_time_both _ _ _ _ _ _ c.end_sender-told.ensures.in_time in_time;
      numbered = grind (arith, common_steps);
    }

pub returns-then-not-is_destructor-clause-in_time : goal.returns-then-not-is_destructor-clause-in_time
returns-then-not-is_destructor-clause-in_time g c = in_time_same _ _ _ _ (ap (λ (s : Stored _ _ _). s.times) c.finish_action.ensures.finished) refl
