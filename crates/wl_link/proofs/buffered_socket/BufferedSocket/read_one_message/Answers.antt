use Rattle.std.proofs.Common.{◌<◌, ◌≤◌, Ok, Err, Some, refl, inr, arith, ap, length}
use Rattle.std.proofs.lemmas.Result.{err_from_is_err_and}
use Rattle.std.proofs.lemmas.Grind.{common_steps}
use Rattle.wl_wire.specs.declared.error.MessageParseError.TheVariants as errors
use Rattle.wl_wire.specs.Message.{content}
use Rattle.wl_wire.specs.Parse.{length_of}
use Rattle.wl_link.specs.Link.{looked_up}
use Rattle.wl_link.proofs.Streams.StreamLaws.{read_takes}
use Rattle.wl_link.proofs.Calls.ReadLaws.{reads_one}
use Rattle.wl_link.specs.contracts.buffered_socket.BufferedSocket.read_one_message.F-FnOnce.{words}
use Rattle.wl_link.proofs.buffered_socket.BufferedSocket.read_one_message.Goals as goal

pub returns-clause-read : goal.returns-clause-read
returns-clause-read g c =
    reads_one (looked_up ((words g.row.T g.row.F g.F.FnOnce).post c.args.signature)) c.args.self.now c.read_under.new.self (Ok (content c.read_under.new.message)) c.bytes.result.now
    c.in-Some.header.sender_id c.in-Some.header.opcode c.in-Some-signature.signature.now (rw (← c.self.view_is) c.bytes.ensures) c.in-Some.ensures.0 c.in-Some.ensures.1 c.in-Some.ensures.2
    (Some c.in-Some-signature.signature, c.in-Some-signature.ensures, refl) (c.in_ok-read_under.ensures.found, c.in_ok-read_under.ensures.taken)

pub returns-in_err-read_under-clause-read : goal.returns-in_err-read_under-clause-read
returns-in_err-read_under-clause-read g c =
    let p = err_from_is_err_and c.from_residual.result c.from_residual.ensures.1 in
    rw (p.1, p.2)
    (reads_one (looked_up ((words g.row.T g.row.F g.F.FnOnce).post c.args.signature)) c.args.self.now c.read_under.new.self (Err c.in_err-read_under.field-0.0) c.bytes.result.now
    c.in-Some.header.sender_id c.in-Some.header.opcode c.in-Some-signature.signature.now (rw (← c.self.view_is) c.bytes.ensures) c.in-Some.ensures.0 c.in-Some.ensures.1 c.in-Some.ensures.2
    (Some c.in-Some-signature.signature, c.in-Some-signature.ensures, refl) (c.in_err-read_under.ensures.refused, c.in_err-read_under.ensures.small, c.in_err-read_under.ensures.unchanged))

pub returns-clause-first : goal.returns-clause-first
returns-clause-first g c = read_takes (looked_up ((words g.row.T g.row.F g.F.FnOnce).post c.args.signature)) c.args.self.now _ _ (returns-clause-read g c)

pub returns-then-len-header-clause-read : goal.returns-then-len-header-clause-read
returns-then-len-header-clause-read g c =
    let bytes = c.bytes.result.now in
    let short : length bytes < length_of bytes = omega (arith, ap length c.bytes.ensures, c.len.ensures.len, c.if-len-header.true, c.in-Some.ensures.3) in
    let counts : 8 ≤ length_of bytes = omega (arith, c.if-header-ge8.true, c.in-Some.ensures.3) in
    reads_one (looked_up ((words g.row.T g.row.F g.F.FnOnce).post c.args.signature)) c.args.self.now c.args.self.now (Err errors.MissingData) c.bytes.result.now
    c.in-Some.header.sender_id c.in-Some.header.opcode c.in-Some-signature.signature.now (rw (← c.self.view_is) c.bytes.ensures) c.in-Some.ensures.0 c.in-Some.ensures.1 c.in-Some.ensures.2
    (Some c.in-Some-signature.signature, c.in-Some-signature.ensures, refl) (rw (← c.self.view_is, ← c.bytes.ensures) (inr (c.in-Some.ensures.0, counts, short)), λ _ e. absurd cc, refl)

pub returns-clause-fewer : goal.returns-clause-fewer
returns-clause-fewer g c = grind (arith, common_steps)
