use Rattle.std.proofs.Common.{◌≡◌, ◌+◌, ◌∷◌, ◌<◌, pos, get_or, drop, add-one, drop-cons, length, take, arith}
use Rattle.std.proofs.lemmas.List.{take_more_set}
use Rattle.wl_flat.proofs.Flattening.{longer_put, put_more, read_more}
use Rattle.wl_flat.specs.Flat.{flat_number}
use Rattle.wl_flat.proofs.arguments.fill_each.Goals as goal

pub loop-arg-preserved : goal.loop-arg-preserved
loop-arg-preserved g c =
    let l = c.loop-arg in
    let args = c.args.arguments.now in
    let none = flat_number 0 (pos 0) in
    let x = get_or args l.arg-index none in
    let a = c.fill_argument.new.place in
    let d : drop l.arg-index args ≡ x ∷ drop (l.arg-index + 1) args = let k = drop-cons args l.arg-index none c.loop-arg-test.true in let o = add-one l.arg-index in cc in
    let e = c.in-Ok.ensures in
    let within : l.count < length l.places = let same = l.auto.places in let long = c.requires in let counted = l.invariant.counted in let more = c.loop-arg-test.true in omega arith in
    record {
      counted = omega arith;
      read = rw (take_more_set l.places l.count a within) (read_more g.Id.FromFlat.stands_for c.args.bytes.now l.descriptors c.fill_argument.new.descriptors (take l.count l.places) x a (drop l.arg-index args) (drop (l.arg-index + 1) args) _ d e.ok e.put_in l.invariant.read);
      put = put_more l.descriptors c.fill_argument.new.descriptors _ x (drop l.arg-index args) (drop (l.arg-index + 1) args) d e.put_in l.invariant.put;
      longer = rw e.put_in (longer_put c.args.descriptors.now l.descriptors _ l.invariant.longer);
    }
