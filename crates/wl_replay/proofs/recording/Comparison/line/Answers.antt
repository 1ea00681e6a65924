use Rattle.std.proofs.Common.{◌≡◌, ◌<◌, ◌∙◌, ◌+◌, ap, subst, List, refl, length, get_or, String, Global}
use Rattle.std.specs.Prelude.{◌↔◌, IsTrue}
use Rattle.std.specs.String.{string_bytes}
use Rattle.wl_bench.specs.Answers.{Line}
use Rattle.wl_bench.specs.Record.{quoted}
use Rattle.wl_replay.proofs.Recordings.{compared, missing_more}
use Rattle.wl_replay.proofs.recording.Comparison.line.Goals as goal

pub returns-in-Some-clause-goes : goal.returns-in-Some-clause-goes
returns-in-Some-clause-goes c =
    let here = c.in-Some.ensures.lookup in
    let all = c.deref.ensures.value in
    let some : c.args.self.now.found < length c.args.self.now.lines.items =
    subst (λ (l : List (String Global)). c.args.self.now.found < length l) all here.3.0 in
    let is = here.1 ∙ ap (λ (l : List (String Global)). get_or l c.args.self.now.found c.in-Some.output.now) all in
    let same = subst (λ (o : Line). IsTrue c.is_quoted-is_same.result ↔ (c.args.line.now ≡ quoted o)) c.as_str.ensures.value c.is_quoted-is_same.ensures in
    compared c.args.self.now (record c.args.self.now { found = c.args.self.now.found + 1 }) c.args.line.now (string_bytes c.in-Some.output.now)
    c.is_quoted-is_same.result (missing_more c.args.self.now c.in-Some.output.now some is) refl refl refl same
