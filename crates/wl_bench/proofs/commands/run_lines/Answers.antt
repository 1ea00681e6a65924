use Rattle.std.proofs.Common.{◌<◌, ◌∙◌, ap, arith, length}
use Rattle.std.proofs.lemmas.Result.{err_from_is_err_and}
use Rattle.std.specs.Io.BufRead.{strip_last}
use Rattle.wl_bench.proofs.RunLines.{at_end, at_first, at_next, at_stop}
use Rattle.wl_bench.proofs.commands.run_lines.Goals as goal

pub loop-number-init : goal.loop-number-init
loop-number-init g c = at_first _ (g.R.Read.remaining c.args.reader.now) _ _

pub returns-then-branch-eq0 : goal.returns-then-branch-eq0
returns-then-branch-eq0 g c = at_end _ _ _ _ _ _ _ _ c.loop-number.invariant (c.in_ok-read_until.ensures.end c.if-branch-eq0.true)

pub returns-in_err-answer_line : goal.returns-in_err-answer_line
returns-in_err-answer_line g c =
    let p = err_from_is_err_and c.from_residual-in_err-answer_line.result c.from_residual-in_err-answer_line.ensures.1 in
    let some : 0 < length c.read_until.new.buf.items = omega (arith, c.in_ok-read_until.ensures.ok, c.read_until.new.buf.ok.0, c.if-branch-eq0.false) in
    rw (p.1, p.2) (at_stop _ _ _ _ _ _ _ _ _ _ _ _ _ _ c.in_err-answer_line.field-0.0 c.loop-number.invariant c.clear.ensures.items some
    c.in_ok-read_until.ensures.bytes c.in_ok-read_until.ensures.rest
    (c.without_line_feed-front.ensures ∙ ap (strip_last 10) c.as_slice.ensures.value)
    c.in_err-answer_line.ensures.stops c.in_err-answer_line.ensures.same)

pub loop-number-preserved : goal.loop-number-preserved
loop-number-preserved g c =
    let some : 0 < length c.read_until.new.buf.items = omega (arith, c.in_ok-read_until.ensures.ok, c.read_until.new.buf.ok.0, c.if-branch-eq0.false) in
    at_next _ _ _ _ _ _ _ _ _ _ _ _ _ _ c.loop-number.invariant c.clear.ensures.items some c.in_ok-read_until.ensures.bytes
    c.in_ok-read_until.ensures.rest (c.without_line_feed-front.ensures ∙ ap (strip_last 10) c.as_slice.ensures.value) c.in_ok-answer_line.ensures.answers
