use Rattle.std.proofs.Common.{◌≡◌, Ok, true, false, arith}
use Rattle.std.proofs.lemmas.Grind.{common_steps}
use Rattle.wl_relay.proofs.Answers.{answered_bad, answered_end, answered_next, ready_after}
use Rattle.wl_relay.proofs.TableLines.{reads_lent}
use Rattle.wl_relay.proofs.commands.run_lines.Goals as goal

pub returns-then-not-branch : goal.returns-then-not-branch
returns-then-not-branch g c =
    let left = g.R.Read.remaining in
    let held = g.W.Write.contents in
    let none : c.read_line.result ≡ Ok false = grind (arith, common_steps) in
    answered_end c.args.mode c.args.before c.loop-number.number (left c.args.reader.now) (left c.loop-number.reader) c.args.relay.now
    c.loop-number.relay (held c.args.writer.now) (held c.loop-number.writer) c.loop-number.invariant.1 (c.read_line.ensures.none none)

pub returns-then-not-branch-2 : goal.returns-then-not-branch-2
returns-then-not-branch-2 g c =
    let left = g.R.Read.remaining in
    let held = g.W.Write.contents in
    let some : c.read_line.result ≡ Ok true = grind (arith, common_steps) in
    let refused : c.answer_line.result ≡ Ok false = grind (arith, common_steps) in
    let line = c.without_line_feed-front.result.now in
    let now = left c.loop-number.reader in
    let next = left c.read_line.new.reader in
    let read = reads_lent now next c.read_line.new.line.items c.as_slice.result.now line c.as_slice.ensures.value
    c.without_line_feed-front.ensures (c.read_line.ensures.read some)
    in
    answered_bad c.args.mode c.args.before c.loop-number.number (left c.args.reader.now) now next line c.args.relay.now c.loop-number.relay
    (held c.args.writer.now) (held c.loop-number.writer) (held c.answer_line.new.writer) c.loop-number.invariant.1 read
    (c.answer_line.ensures.bad refused) (c.answer_line.ensures.kept refused).1

pub loop-number-preserved : goal.loop-number-preserved
loop-number-preserved g c =
    let left = g.R.Read.remaining in
    let held = g.W.Write.contents in
    let some : c.read_line.result ≡ Ok true = grind (arith, common_steps) in
    let taken : c.answer_line.result ≡ Ok true = grind (arith, common_steps) in
    let line = c.without_line_feed-front.result.now in
    let now = left c.loop-number.reader in
    let next = left c.read_line.new.reader in
    let read = reads_lent now next c.read_line.new.line.items c.as_slice.result.now line c.as_slice.ensures.value
    c.without_line_feed-front.ensures (c.read_line.ensures.read some)
    in
    let is = c.answer_line.ensures.answered taken in
    let mid = held c.loop-number.writer in
    let after = held c.answer_line.new.writer in (
      ready_after c.args.mode c.loop-number.relay c.answer_line.new.relay line mid after is,
      answered_next c.args.mode c.args.before c.loop-number.number (left c.args.reader.now) now next line c.args.relay.now c.loop-number.relay
          c.answer_line.new.relay (held c.args.writer.now) mid after c.loop-number.invariant.1 read is,
    )
