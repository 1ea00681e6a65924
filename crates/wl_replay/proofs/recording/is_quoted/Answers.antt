use Rattle.std.proofs.Common.{◌≡◌, ◌≢◌, ◌∙◌, sym, ap, false, ℕ, List}
use Rattle.std.specs.Prelude.{IsTrue}
use Rattle.std.proofs.lemmas.Bool.{true≢false}
use Rattle.std.specs.Cmp.Lexicographic.{pointwise}
use Rattle.std.proofs.Common.{◌==◌}
use Rattle.wl_bench.specs.Record.{quoted}
use Rattle.wl_replay.proofs.Recordings.{is_quoted, not_quoted}
use Rattle.wl_replay.proofs.recording.is_quoted.Goals as goal

pub returns-in-Some : goal.returns-in-Some
returns-in-Some c =
    let begins = c.in-Some.ensures.cases in
    is_quoted c.args.line.now c.in-Some.rest.now c.args.output.now c.eq.result begins.0 begins.1
    (c.eq.ensures ∙ ap (λ (l : List ℕ). pointwise ◌==◌ c.in-Some.rest.now l) c.as_bytes.ensures.value)

pub returns-in-None : goal.returns-in-None
returns-in-None c =
    let other : c.args.line.now ≢ quoted c.args.output.now = not_quoted c.args.line.now c.args.output.now c.in-None.ensures.cases in
    (λ (h : IsTrue false). absurd (true≢false (sym h)), λ (e : c.args.line.now ≡ quoted c.args.output.now). absurd (other e))
