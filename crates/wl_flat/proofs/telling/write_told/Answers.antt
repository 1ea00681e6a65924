use Rattle.std.proofs.Common.{◌≡◌, ◌+◌, ◌<◌, ◌≤◌, ◌∷◌, length, drop, ap, arith, add-one, drop-cons}
use Rattle.std.proofs.lemmas.Grind.{common_steps}
use Rattle.wl_flat.specs.Arguments.{bytes_of}
use Rattle.wl_flat.proofs.Flattening.{behind_more, bytes_behind, bytes_more, length_more}
use Rattle.wl_flat.proofs.Saying.{told_more}
use Rattle.wl_flat.proofs.telling.write_told.Goals as goal

pub loop-arg-preserved : goal.loop-arg-preserved
loop-arg-preserved c =
    let l = c.loop-arg in
    let a = c.arg-item.result in
    let args = c.args.args.now in
    let h : l.arg-index < length args = c.loop-arg-test.true in
    let d : drop l.arg-index args ≡ a ∷ drop (l.arg-index + 1) args = let k = drop-cons args l.arg-index a h in let i = c.arg-item.is in let o = add-one l.arg-index in cc in
    let e = c.told_argument.ensures in
    let n = length_more (drop l.arg-index args) (drop (l.arg-index + 1) args) a d in
    let r : l.at + length (bytes_of a) ≤ length l.bytes = omega arith in
    let small : c.length_of-at.result ≡ length (bytes_of a) = grind (arith, common_steps) in
    let b : l.at + c.length_of-at.result ≡ l.at + length (bytes_of a) = ap (λ k. l.at + k) small in
    record {
      counted = omega arith;
      arguments = told_more c.args.follower.now l.arguments l.count c.told_argument.result l.at (l.at + c.length_of-at.result) (drop l.arg-index args) (drop (l.arg-index + 1) args) a _ (omega arith) d e.flat b l.invariant.arguments;
      behind_arguments = behind_more l.arguments c.args.arguments.now l.count c.told_argument.result l.invariant.behind_arguments;
      bytes = bytes_more l.at (l.at + c.length_of-at.result) l.bytes c.told_argument.new.bytes (drop l.arg-index args) (drop (l.arg-index + 1) args) a _ r d e.bytes b l.invariant.bytes;
      behind_bytes = bytes_behind l.at (l.at + c.length_of-at.result) l.bytes c.told_argument.new.bytes c.args.bytes.now a r e.bytes b l.invariant.behind_bytes;
      place = let p = l.invariant.place in omega arith;
    }

pub told_argument-requires : goal.told_argument-requires
told_argument-requires c = grind (arith, common_steps)
