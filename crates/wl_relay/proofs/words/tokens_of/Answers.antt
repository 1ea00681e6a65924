use Rattle.std.proofs.Common.{◌≡◌, ◌∙◌, ℕ, ℤ, pos, SFits, w32, of_z, to_z, List, get_or, map, subst, sym, take_all}
use Rattle.std.proofs.lemmas.Int.{to_z-of_z}
use Rattle.std.specs.List.{All}
use Rattle.wl_relay.specs.Words.{IsTokenNumber, token}
use Rattle.wl_relay.proofs.Numbers.{push_token}
use Rattle.wl_relay.proofs.words.tokens_of.Goals as goal

pub returns : goal.returns
returns c =
    subst (λ (ns : List ℕ). All IsTokenNumber ns × (c.loop-number.tokens.items ≡ map token ns))
    (take_all c.loop-number.number-index c.args.numbers.now c.loop-number-test.false) c.loop-number.invariant

pub loop-number-preserved : goal.loop-number-preserved
loop-number-preserved c =
    let is = c.in-Ok.ensures in
    let kept : to_z w32 (of_z w32 c.in-Ok.token) ≡ pos (get_or c.args.numbers.now c.loop-number.number-index 0) =
    to_z-of_z w32 c.in-Ok.token (subst (λ (z : ℤ). SFits w32 z) (sym is.1) is.0) ∙ is.1
    in
    rw c.in_ok-push.ensures.items (push_token c.args.numbers.now c.loop-number.number-index _ c.loop-number.tokens.items c.loop-number-test.true is.0 kept c.loop-number.invariant)
