use Rattle.std.proofs.Common.{refl}
use Rattle.wl_server.proofs.CallSteps.Kept.{kept_written}
use Rattle.wl_server.proofs.CallSteps.OneClient.{done_to, none_stored}
use Rattle.wl_server.proofs.backend.Backend.read_client.Goals as goal

pub returns-in_default : goal.returns-in_default
returns-in_default g c = rw (← c.self.view_is) (record {
  fresh = λ fresh. none_stored _ _ _ _ refl c.args.id.now _ _ (λ i l d b a h. (_, c.args.reading.now, refl, h)) _ refl
      c.in_default.ensures.value (refl, fresh) c.self.invariant.2;
  within = none_stored _ _ _ _ refl c.args.id.now _ _ (λ i l d b a h. (_, c.args.reading.now, refl, h)) _ refl
      c.in_default.ensures.value (refl, refl) c.self.invariant.2;
  empty = c.drop_arguments.ensures;
})

pub returns-in_default-answer-clause-fresh : goal.returns-in_default-answer-clause-fresh
returns-in_default-answer-clause-fresh g c fresh =
    let found = c.find_action-answer.ensures in
    rw (← c.self.view_is) (done_to _ _ _ _ refl c.args.id.now _ _ (λ i l d b a h. (_, c.find_action-answer.new.reading, refl, h)) _ _
    c.find_action-answer.new.self _ refl c.in-Some.ensures.value (rw (fresh, c.in_default-answer.is) at found.does) _ found.in_time found.numbered
    c.self.invariant.2)

pub returns-in_default-answer-clause-within : goal.returns-in_default-answer-clause-within
returns-in_default-answer-clause-within g c =
    let found = c.find_action-answer.ensures in
    rw (← c.self.view_is) (done_to _ _ _ _ refl c.args.id.now _ _ (λ i l d b a h. (_, c.find_action-answer.new.reading, refl, h)) _ _
    c.find_action-answer.new.self _ refl c.in-Some.ensures.value (rw c.in_default-answer.is at found.does) _ found.in_time found.numbered
    c.self.invariant.2)

pub returns-clause-fresh : goal.returns-clause-fresh
returns-clause-fresh g c fresh =
    let found = c.find_action-answer.ensures in
    rw (← c.self.view_is) (done_to _ _ _ _ refl c.args.id.now _ _ (λ i l d b a h. (_, c.find_action-answer.new.reading, refl, h)) _ _
    c.find_action-answer.new.self _ refl c.in-Some.ensures.value (rw (fresh, c.in-Err.is) at found.does) _ found.in_time found.numbered
    c.self.invariant.2)

pub returns-clause-within : goal.returns-clause-within
returns-clause-within g c =
    let found = c.find_action-answer.ensures in
    rw (← c.self.view_is) (done_to _ _ _ _ refl c.args.id.now _ _ (λ i l d b a h. (_, c.find_action-answer.new.reading, refl, h)) _ _
    c.find_action-answer.new.self _ refl c.in-Some.ensures.value (rw c.in-Err.is at found.does) _ found.in_time found.numbered
    c.self.invariant.2)

pub invariant_of-self : goal.invariant_of-self
invariant_of-self g c = (c.self.invariant.0, c.self.invariant.1, c.self.invariant.2, c.in_default.ensures.touched c.self.invariant.3)

pub invariant_of-self-2 : goal.invariant_of-self-2
invariant_of-self-2 g c = kept_written _ _ _ _ _ _ _ _ _ _ c.in-Some.ensures.value c.find_action-answer.ensures.in_time
    c.find_action-answer.ensures.numbered c.in-Some.ensures.touched c.self.invariant

pub invariant_of-self-in_default-answer : goal.invariant_of-self-in_default-answer
invariant_of-self-in_default-answer g c = kept_written _ _ _ _ _ _ _ _ _ _ c.in-Some.ensures.value c.find_action-answer.ensures.in_time
    c.find_action-answer.ensures.numbered c.in-Some.ensures.touched c.self.invariant
