use Rattle.std.proofs.Common.{◌≡◌, ◌∙◌, ◌+◌, ◌∷◌, ◌++◌, [], List, suc, arith, ap, sym, subst, map, take, take_all, take-suc, slice_index_or}
use Rattle.std.proofs.lemmas.List.{map-append}
use Rattle.wl_bench.specs.Bench.{BenchStep, accept_step}
use Rattle.wl_bench.proofs.Making.{MadeSoFar, last_made, next_made}
use Rattle.wl_bench.proofs.bench.Bench.accept.Goals as goal

pub loop-count-preserved : goal.loop-count-preserved
loop-count-preserved c =
    let i = c.loop-count.count-index in
    let front = c.in-Some.front.now in
    let x = slice_index_or front i 0 in
    let next : suc i ≡ i + 1 = omega arith in
    let more : take (i + 1) front ≡ take i front ++ x ∷ [] =
    ap (λ n. take n front) (sym next) ∙ take-suc front i 0 c.loop-count-test.true in
    let calls : map (accept_step c.args.client) (take i front) ++ accept_step c.args.client x ∷ [] ≡ map (accept_step c.args.client) (take (i + 1) front) =
    sym (map-append (accept_step c.args.client) (take i front) (x ∷ [])) ∙ ap (map (accept_step c.args.client)) (sym more) in
    let made = next_made _ _ _ _ _ _ c.loop-count.invariant.0 c.in_ok-perform.ensures.made in (
      subst (λ (s : List BenchStep). MadeSoFar c.args.self.now.server s c.perform.new.self.server) calls made,
      c.in_ok-perform.ensures.clients ∙ c.loop-count.invariant.1,
      c.in_ok-perform.ensures.globals ∙ c.loop-count.invariant.2,
    )

pub returns-clause-made : goal.returns-clause-made
returns-clause-made c =
    let whole = take_all c.loop-count.count-index c.in-Some.front.now c.loop-count-test.false in
    let calls = ap (λ xs. map (accept_step c.args.client) xs ++ accept_step c.args.client c.in-Some.last.now ∷ []) whole
    ∙ sym (map-append (accept_step c.args.client) c.in-Some.front.now (c.in-Some.last.now ∷ []))
    ∙ ap (map (accept_step c.args.client)) (sym c.in-Some.ensures.cases.0) in
    last_made c.args.self.now.server c.loop-count.self.server c.perform-2.new.self.server _ _ _ (c.args.client ∷ []) c.perform-2.result
    c.loop-count.invariant.0 calls c.perform-2.ensures.made
