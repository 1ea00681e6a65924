use Rattle.std.proofs.Common.{ap, drop, arith}
use Rattle.std.proofs.lemmas.List.{length-drop}
use Rattle.std.proofs.lemmas.Result.{on_err_weaker}
use Rattle.wl_link.proofs.Writing.{queued_behind}
use Rattle.wl_link.proofs.token_queue.TokenQueue.write.Goals as goal

pub returns-clause-tokens : goal.returns-clause-tokens
returns-clause-tokens g c =
    rw (← c.self.view_is)
    (queued_behind c.write_numbered.result c.self.inside.start c.self.inside.tokens.items c.write_numbered.new.fds.items _ (omega (arith, c.self.invariant)) c.write_numbered.ensures.tokens)

pub returns-clause-memory : goal.returns-clause-memory
returns-clause-memory g c = λ refused.
    let lacks = c.write_numbered.ensures.memory refused in
    rw (← c.self.view_is)
    (λ none. c.write_numbered.ensures.no_tokens none refused, omega (arith, lacks, c.self.invariant, length-drop c.self.inside.start c.self.inside.tokens.items))

pub returns-clause-written : goal.returns-clause-written
returns-clause-written g c = c.write_numbered.ensures.written

pub returns-clause-too_long : goal.returns-clause-too_long
returns-clause-too_long g c = c.write_numbered.ensures.too_long

pub returns-clause-too_small : goal.returns-clause-too_small
returns-clause-too_small g c = c.write_numbered.ensures.too_small

pub returns-clause-message : goal.returns-clause-message
returns-clause-message g c = c.write_numbered.ensures.message

pub returns-clause-unchanged : goal.returns-clause-unchanged
returns-clause-unchanged g c =
    rw (← c.self.view_is)
    (on_err_weaker c.write_numbered.result (λ same. (same.0, ap (drop c.self.inside.start) same.1)) c.write_numbered.ensures.unchanged)

pub write_numbered-requires : goal.write_numbered-requires
write_numbered-requires g c = omega arith
