use Rattle.std.proofs.Common.{◌≡◌, ◌+◌, ◌<◌, ◌≤◌, ◌∷◌, length, drop, arith, add-one, drop-cons}
use Rattle.wl_flat.specs.Arguments.{bytes_of}
use Rattle.wl_flat.proofs.Flattening.{argument_more, behind_more, bytes_behind, bytes_more, length_more, queue_more}
use Rattle.wl_flat.proofs.arguments.write_arguments.Goals as goal

pub loop-arg-preserved : goal.loop-arg-preserved
loop-arg-preserved g c =
    let l = c.loop-arg in
    let a = c.arg-item.result in
    let args = c.args.args.now in
    let h : l.arg-index < length args = c.loop-arg-test.true in
    let d : drop l.arg-index args ≡ a ∷ drop (l.arg-index + 1) args = let k = drop-cons args l.arg-index a h in let i = c.arg-item.is in let o = add-one l.arg-index in cc in
    let w = c.write_argument-at in
    let e = w.ensures in
    let n = length_more (drop l.arg-index args) (drop (l.arg-index + 1) args) a d in
    let r : l.at + length (bytes_of a) ≤ length l.bytes = omega arith in
    record {
      counted = omega arith;
      arguments = argument_more g.O.Objects.flat_of (g.O.Objects.data_of c.args.objects.now) l.arguments l.count w.new.place l.descriptors w.new.descriptors l.at w.result (drop l.arg-index args) (drop (l.arg-index + 1) args) a _ (omega arith) d e.flat e.descriptors e.next l.invariant.arguments;
      behind_arguments = behind_more l.arguments c.args.arguments.now l.count w.new.place l.invariant.behind_arguments;
      bytes = bytes_more l.at w.result l.bytes w.new.bytes (drop l.arg-index args) (drop (l.arg-index + 1) args) a _ r d e.bytes e.next l.invariant.bytes;
      behind_bytes = bytes_behind l.at w.result l.bytes w.new.bytes c.args.bytes.now a r e.bytes e.next l.invariant.behind_bytes;
      place = let p = l.invariant.place in omega arith;
      queue = queue_more l.descriptors w.new.descriptors _ (drop l.arg-index args) (drop (l.arg-index + 1) args) a d e.descriptors l.invariant.queue;
    }
