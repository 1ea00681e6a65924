use Rattle.std.proofs.Common.{◌≡◌, ◌<◌, ◌∙◌, Bool, true, false, ap, arith, length, rules, subst}
use Rattle.std.proofs.lemmas.Result.{err_from_is_err_and}
use Rattle.std.specs.Prelude.{MatchBool}
use Rattle.std.specs.Io.BufRead.{strip_last}
use Rattle.wl_bench.specs.Bench.{new_bench}
use Rattle.wl_replay.specs.Inside.Comparing.{GoesOn, missing_in}
use Rattle.wl_replay.specs.Replay.{IsAnother}
use Rattle.wl_bench.specs.Table.{bench_rows}
use Rattle.wl_replay.proofs.Recordings.{at_bad, at_last, at_line, at_other, at_start}
use Rattle.wl_replay.proofs.recording.Comparison.read.Goals as goal

pub loop-place-init : goal.loop-place-init
loop-place-init g c =
    at_start (g.R.Read.remaining c.args.reader.now) (new_bench bench_rows) c.args.self.now c.requires

pub returns-then-branch-eq0 : goal.returns-then-branch-eq0
returns-then-branch-eq0 g c =
    at_last _ _ _ _ c.loop-place.self _ c.loop-place.invariant (c.in_ok-read_until.ensures.end c.if-branch-eq0.true) c.end.ensures

pub returns-in_err-line : goal.returns-in_err-line
returns-in_err-line g c =
    let p = err_from_is_err_and c.from_residual-in_err-line.result c.from_residual-in_err-line.ensures.1 in
    let some : 0 < length c.read_until.new.buf.items = omega (arith, c.in_ok-read_until.ensures.ok, c.read_until.new.buf.ok.0, c.if-branch-eq0.false) in
    rw (p.1, p.2) (at_bad _ _ _ _ _ _ _ _ c.loop-place.self c.in_err-line.field-0.0 c.loop-place.invariant c.clear.ensures.items some
    c.in_ok-read_until.ensures.bytes c.in_ok-read_until.ensures.rest (c.without_line_feed.ensures ∙ ap (strip_last 10) c.as_slice.ensures.value)
    c.in_err-line.ensures.stops)

pub returns-then-not-branch : goal.returns-then-not-branch
returns-then-not-branch g c =
    let some : 0 < length c.read_until.new.buf.items = omega (arith, c.in_ok-read_until.ensures.ok, c.read_until.new.buf.ok.0, c.if-branch-eq0.false) in
    let other : c.in_ok-line.field-0 ≡ false = search rules in
    at_other _ _ _ _ _ _ _ _ c.loop-place.self c.loop-place.invariant c.clear.ensures.items some
    c.in_ok-read_until.ensures.bytes c.in_ok-read_until.ensures.rest (c.without_line_feed.ensures ∙ ap (strip_last 10) c.as_slice.ensures.value)
    (subst (λ (same : Bool). MatchBool same (GoesOn c.loop-place.self c.without_line_feed.result.now c.line.new.self)
    (IsAnother (missing_in c.loop-place.self) c.without_line_feed.result.now)) other c.in_ok-line.ensures.goes)

pub loop-place-preserved : goal.loop-place-preserved
loop-place-preserved g c =
    let some : 0 < length c.read_until.new.buf.items = omega (arith, c.in_ok-read_until.ensures.ok, c.read_until.new.buf.ok.0, c.if-branch-eq0.false) in
    let same : c.in_ok-line.field-0 ≡ true = search rules in
    at_line _ _ _ _ _ _ _ _ c.loop-place.self c.line.new.self c.loop-place.invariant c.clear.ensures.items some
    c.in_ok-read_until.ensures.bytes c.in_ok-read_until.ensures.rest (c.without_line_feed.ensures ∙ ap (strip_last 10) c.as_slice.ensures.value)
    (subst (λ (b : Bool). MatchBool b (GoesOn c.loop-place.self c.without_line_feed.result.now c.line.new.self)
    (IsAnother (missing_in c.loop-place.self) c.without_line_feed.result.now)) same c.in_ok-line.ensures.goes)
