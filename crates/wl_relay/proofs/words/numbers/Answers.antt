use Rattle.std.proofs.Common.{lit<, ℕ, List, map, Bor, subst, ◌∷◌, []}
use Rattle.std.specs.List.{AllZip}
use Rattle.std.proofs.lemmas.Iterator.Consumers.{YieldsList-end, YieldsList-turn}
use Rattle.std.proofs.lemmas.Iterator.Splits.{YieldsList-from_str_split}
use Rattle.std.proofs.lemmas.List.{map-append}
use Rattle.wl_relay.specs.Words.{IsNumber, parts}
use Rattle.wl_relay.proofs.Numbers.{listed_at, push_number}
use Rattle.wl_relay.proofs.words.numbers.Goals as goal

-- a part that is no number is one of the word's
pub returns-in_default : goal.returns-in_default
returns-in_default c =
    let all = YieldsList-from_str_split {s = c.into_iter-part-iterator.result} 44 c.args.word.now (lit< tt) (cc) (cc) (cc) in
    let t = YieldsList-turn all c.loop-part.yielded _ c.loop-part.yielded_by _ _ c.in-Some.part c.in-Some.is c.next.ensures.steps in
    λ xs are. let at = listed_at xs (parts 44 c.args.word.now) _ _ are t.0 t.1 in c.in_default.ensures at.0 at.1

pub returns : goal.returns
returns c =
    let all = YieldsList-from_str_split {s = c.into_iter-part-iterator.result} 44 c.args.word.now (lit< tt) (cc) (cc) (cc) in
    let t = YieldsList-end all c.loop-part.yielded _ c.loop-part.yielded_by _ _ c.in-None.is c.next.ensures.steps in
    subst (λ (ws : List (List ℕ)). AllZip IsNumber c.loop-part.found.items ws) t.0 c.loop-part.invariant

pub loop-part-preserved : goal.loop-part-preserved
loop-part-preserved c =
    let now = λ (part : Bor (List ℕ)). part.now in
    rw (c.in_ok-push.ensures.items, map-append now c.loop-part.yielded (c.in-Some.part ∷ [])) (push_number c.loop-part.found.items (map now c.loop-part.yielded) _ _ c.loop-part.invariant c.in-Some-number.ensures)
