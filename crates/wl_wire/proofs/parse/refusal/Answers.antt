use Rattle.std.proofs.Common.{sym, ◌∙◌, arith}
use Rattle.wl_wire.proofs.Spelling.CursorLaws.{some_read, none_reads}
use Rattle.wl_wire.proofs.parse.refusal.Goals as goal

pub returns-then-can_read-clause-refused : goal.returns-then-can_read-clause-refused
returns-then-can_read-clause-refused c =
    (omega (arith, c.fd_places.ensures), some_read c.args.signature.now c.args.payload.now c.args.fds.now (sym c.can_read.ensures ∙ c.if-can_read.true))

pub returns-else-can_read-clause-refused : goal.returns-else-can_read-clause-refused
returns-else-can_read-clause-refused c =
    (omega (arith, c.fd_places.ensures), none_reads c.args.signature.now c.args.payload.now c.args.fds.now (sym c.can_read.ensures ∙ c.if-can_read.false))
