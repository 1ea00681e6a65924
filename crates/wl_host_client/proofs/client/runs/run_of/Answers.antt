use Rattle.std.proofs.Common.{◌≡◌, Some, None, arith, drop, refl, rules, sym, ◌∙◌}
use Rattle.std.proofs.lemmas.List.{take_rest}
use Rattle.wl_host_client.specs.Runs.{front_of}
use Rattle.wl_host_client.proofs.Runs.{ends_before, ends_full, ends_with, enough, fits, goes_on}
use Rattle.wl_host_client.proofs.client.runs.run_of.Goals.{else-loop-test, then-loop-test+in_default}
use Rattle.wl_host_client.proofs.client.runs.run_of.Goals as goal

pub loop-init : goal.loop-init
loop-init c = (omega arith, omega arith, c.args.most, omega arith, refl)

pub returns-in-Some-ended : goal.returns-in-Some-ended
returns-in-Some-ended c =
    let (size, used, left, sum, same) = c.loop.invariant in
    let is : front_of c.args.core.now (drop c.loop.size c.args.bytes.now) ≡ Some c.in-Some.front = search (rules, take_rest) in
    sym (same ∙ ends_with left c.loop.counter c.args.most _ _ _ _ _ c.in-Some.front _ sum (search rules) is (sym c.ended.ensures ∙ c.in-Some-ended.is))

pub loop-preserved : goal.loop-preserved
loop-preserved c =
    let (size, used, left, sum, same) = c.loop.invariant in
    let is : front_of c.args.core.now (drop c.loop.size c.args.bytes.now) ≡ Some c.in-Some.front = search (rules, take_rest) in
    let ends = sym c.ended.ensures ∙ c.in_default-ended.is in
    let (x, sum', same') = goes_on left c.loop.counter c.args.most _ _ _ _ _ c.in-Some.front _ sum (search rules) is ends same in
    (fits _ c.args.bytes.now c.loop.size c.in-Some.front size is, enough c.in-Some.front c.args.came c.loop.size c.loop.used used ends, x, sum', same')

pub returns : goal.returns
returns c =
    let (size, used, left, sum, same) = c.loop.invariant in
    elim c.loop-test.branch [
      | else-loop-test w ↦ c.plain_run.ensures ∙ sym (same ∙ ends_full left c.loop.counter c.args.most _ _ _ _ _ sum (search rules))
      | then-loop-test+in_default w ↦
          let is : front_of c.args.core.now (drop c.loop.size c.args.bytes.now) ≡ None = search (rules, take_rest) in
          c.plain_run.ensures ∙ sym (same ∙ ends_before left _ _ _ _ _ is)
    ]
