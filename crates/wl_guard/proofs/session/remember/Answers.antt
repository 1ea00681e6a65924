-- That the announcement takes the place of the first one of its number.
use Rattle.std.proofs.Common.{List, ◌<◌, ap, arith, get_or, length, slice_set, sym, ◌∙◌}
use Rattle.wl_guard.specs.declared.session.Told.{Told}
use Rattle.wl_guard.proofs.Announced.{is_replaced}
use Rattle.wl_guard.proofs.session.remember.Goals as goal

pub returns-then-index-announced-clause-ok : goal.returns-then-index-announced-clause-ok
returns-then-index-announced-clause-ok c =
    let xs = c.args.told.now.items in
    let same = c.loop-place.invariant.same in
    let x = c.index.result.now in
    let whole = c.args.told.now.ok in
    let within : c.loop-place.place < length xs = omega (arith, whole, c.len-place-end.ensures) in
    ap (λ (ts : List Told). slice_set ts c.loop-place.place c.args.announced) same
    ∙ sym (c.loop-place.invariant.front
    ∙ is_replaced xs c.loop-place.place x c.args.announced within
    (c.index.ensures ∙ ap (λ (ts : List Told). get_or ts c.loop-place.place x) same) c.if-index-announced.true)
