use Rattle.std.proofs.Common.{◌≡◌, ◌∙◌, ◌+◌, ◌∷◌, add-one, drop, drop-cons}
use Rattle.wl_flat.proofs.TellingNulls.{search_ends, search_fails, search_goes_on}
use Rattle.wl_flat.proofs.nulls.forbidden_null.Goals as goal

pub loop-index-preserved : goal.loop-index-preserved
loop-index-preserved g c =
    let l = c.loop-index in
    let a = c.index-args-index.result in
    let args = c.args.args.now in
    let d : drop l.index args ≡ a ∷ drop (l.index + 1) args = let k = drop-cons args l.index a c.loop-index-test.true in let i = c.index-args-index.is in let o = add-one l.index in cc in
    search_goes_on g.O.Objects.flat_of c.args.signature.now args l.index a c.is_forbidden.result _ d c.is_forbidden.ensures c.if-is_forbidden.false l.invariant

pub returns-then-is_forbidden : goal.returns-then-is_forbidden
returns-then-is_forbidden g c =
    let l = c.loop-index in
    let a = c.index-args-index.result in
    let args = c.args.args.now in
    let d : drop l.index args ≡ a ∷ drop (l.index + 1) args = let k = drop-cons args l.index a c.loop-index-test.true in let i = c.index-args-index.is in let o = add-one l.index in cc in
    c.count_number.ensures ∙ search_ends g.O.Objects.flat_of c.args.signature.now args l.index a c.is_forbidden.result d c.is_forbidden.ensures c.if-is_forbidden.true l.invariant

pub returns : goal.returns
returns g c = search_fails g.O.Objects.flat_of c.args.signature.now c.args.args.now c.loop-index.index c.loop-index-test.false c.loop-index.invariant
