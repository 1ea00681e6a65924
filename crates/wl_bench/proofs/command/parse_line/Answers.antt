use Rattle.std.proofs.Common.{◌≡◌, ◌∙◌, lit<, ℕ, List, Option, map, take, Bor, ap, refl, sym, subst}
use Rattle.std.specs.Iterator.Adapters.{take_count, take_source, take_steps}
use Rattle.std.proofs.lemmas.Iterator.{YieldsList, YieldsList-from_take}
use Rattle.std.proofs.lemmas.Iterator.Consumers.{map_from_collect}
use Rattle.std.proofs.lemmas.Iterator.Splits.{YieldsList-from_str_split}
use Rattle.wl_bench.specs.Commands.{words}
use Rattle.wl_bench.proofs.Lines.{first_words, line_found}
use Rattle.wl_bench.proofs.command.parse_line.Goals as goal

-- the first items of an iterator
first_of : {S A B : Type 0} {steps : S → Option A → S → Type 0} {v : A → B} {ys : List B} {t : S} {s : _} (n : ℕ) → take_source s ≡ t
    → YieldsList steps v t ys → take_count s ≡ n → YieldsList (take_steps steps) v s (take n ys)
first_of {steps = steps} {v = v} {ys = ys} n same yields count =
    YieldsList-from_take {ys = ys} n (subst (λ x. YieldsList steps v x ys) (sym same) yields) count

pub returns-clause-found : goal.returns-clause-found
returns-clause-found c =
    let now = λ (part : Bor (List ℕ)). part.now in
    let all = YieldsList-from_str_split 32 c.in-Ok.text.now (lit< tt) c.split.ensures.text c.split.ensures.has_more c.split.ensures.pattern in
    let cut = map_from_collect _ c.collect.ensures.ran (first_of 5 c.take.ensures.source all c.take.ensures.count) in
    let of_text : map now c.in_ok-words.words.items ≡ take 5 (words c.in-Ok.text.now) = rw c.in_ok-words.was at cut in
    let text = c.in-Ok.ensures.cases in
    let same : map now c.deref.result.now ≡ take 5 (words c.args.line.now) =
    ap (map now) c.deref.ensures.value ∙ of_text ∙ ap (λ (xs : List ℕ). take 5 (words xs)) text.0 in
    let found = first_words (words c.args.line.now) _ c.command_of.result same c.command_of.ensures in
    line_found c.args.line.now _ c.command_of.result text.1 refl found
