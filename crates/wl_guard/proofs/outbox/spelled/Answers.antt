-- That the message takes all of the room that was made for it.
use Rattle.std.proofs.Common.{List, ◌++◌, ap, arith, drop, ℕ, ◌∙◌}
use Rattle.wl_wire.specs.Message.{content, spelling}
use Rattle.wl_wire.proofs.Spelling.RoundTrip.{length-spelling}
use Rattle.wl_guard.proofs.Spelled.{overwritten}
use Rattle.wl_guard.proofs.outbox.spelled.Goals as goal

pub returns-in-Ok : goal.returns-in-Ok
returns-in-Ok c =
    let m = content c.args.message.now in
    let written = c.in-Ok.ensures.written in
    let size_is = c.in-Some.ensures in
    overwritten c.write_to_buffers.new.payload c.in_ok-bytes.bytes.items (spelling m) c.in_ok-bytes.bytes.len c.in-Ok.field-0
    (written.1 ∙ ap (λ (old : List ℕ). spelling m ++ drop c.in-Ok.field-0 old) c.deref_mut.ensures.value)
    (omega (arith, written.0, length-spelling m)) (omega arith) (omega (arith, written.0, size_is, c.in_ok-bytes.ensures.len))
