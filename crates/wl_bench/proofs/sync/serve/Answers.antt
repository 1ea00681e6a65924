use Rattle.std.proofs.Common.{ap, ◌∙◌, sym}
use Rattle.wl_server_client.specs.declared.error.ActionError.TheVariants.{Io}
use Rattle.wl_bench.proofs.FirstAnswer.{was_answered}
use Rattle.wl_bench.proofs.sync.serve.Goals as goal

pub returns-clause-ok : goal.returns-clause-ok
returns-clause-ok c = λ asked.
    let blocked = c.in-Err-Io-WouldBlock in
    let blocks = blocked.field-0-is ∙ ap Io blocked.field-0-0-is in
    was_answered _ _ _ _ _ _ _ _ _ asked blocks blocked.ensures.call (sym c.memory_refused.ensures ∙ c.if-memory_refused.false) c.in_ok-flush.ensures.call
