use Rattle.std.proofs.Common.{rules, inl, arith}
use Rattle.wl_host_client.proofs.ClientDescriptors.{conserves_given, taken_back}
use Rattle.wl_host_client.proofs.ClientNotes.{few_requested, told_notes, untold_notes}
use Rattle.wl_host_client.proofs.client.Client.send_request.Goals as goal

pub take_notes-requires : goal.take_notes-requires
take_notes-requires c =
    let few = few_requested _ _ _ _ _ _ c.in-Ok-answer.ensures.requested c.self.invariant in grind (arith, few)

pub invariant_of-self-in-Err : goal.invariant_of-self-in-Err
invariant_of-self-in-Err c = few_requested _ _ _ _ _ _ c.in-Err.ensures.requested c.self.invariant

-- the arguments that were read, the answer of the core, and the core before its notes were taken, are the witnesses
pub returns-in-Ok-answer-clause-call : goal.returns-in-Ok-answer-clause-call
returns-in-Ok-answer-clause-call c =
    inl (
      c.read_arguments.new.args.items,
      search rules,
      (c.send_request_lent-answer.result, c.send_request_lent-answer.new.self, search rules, search rules, search rules, search (rules, told_notes)),
    )

pub returns-in-Ok-answer-clause-descriptors : goal.returns-in-Ok-answer-clause-descriptors
returns-in-Ok-answer-clause-descriptors c = conserves_given _ _ _ (search rules) (search rules)

pub returns-in-Err-clause-call : goal.returns-in-Err-clause-call
returns-in-Err-clause-call c =
    let back = taken_back c.self.inside.departures _ _ c.in_ok-count.ensures.count in
    let none = few_requested _ _ _ _ _ _ c.in-Err.ensures.requested c.self.invariant in
    inl (
      c.read_arguments.new.args.items,
      search rules,
      (c.send_request_lent-answer.result, c.send_request_lent-answer.new.self, search rules, search rules, search rules, search (rules, untold_notes, back, none)),
    )
