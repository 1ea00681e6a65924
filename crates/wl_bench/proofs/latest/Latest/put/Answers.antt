use Rattle.std.proofs.Common.{◌∙◌, length, length-append, arith, ap, None, ◌∷◌, [], List, Option}
use Rattle.wl_bench.specs.Bench.{with_latest}
use Rattle.wl_bench.proofs.Places.{ends, pads}
use Rattle.wl_bench.proofs.latest.Latest.put.Goals as goal

pub loop-count-preserved : goal.loop-count-preserved
loop-count-preserved g c =
    let inv = c.loop-count.invariant in
    let grown = c.in_ok-push.ensures.items in
    let size = ap length grown ∙ length-append c.loop-count.self.places.items (None ∷ []) in
    let same = ap (λ (ps : List (Option _)). with_latest c.args.number c.args.value ps) grown
    ∙ pads c.args.number c.args.value c.loop-count.self.places.items (omega (arith, inv.1, c.loop-count-test.true)) in
    (same ∙ inv.0, omega (arith, size, inv.1), omega (arith, c.loop-count-test.true))

pub returns : goal.returns
returns g c =
    let inv = c.loop-count.invariant in
    c.in_ok-push-2.ensures.items
    ∙ ends c.args.number c.args.value c.loop-count.self.places.items (omega (arith, inv.1, inv.2, c.loop-count-test.false)) ∙ inv.0
