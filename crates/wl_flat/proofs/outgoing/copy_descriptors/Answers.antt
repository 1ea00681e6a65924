use Rattle.std.proofs.Common.{◌≡◌, ◌∙◌, [], ◌∷◌, ◌++◌, ◌+◌, ◌<◌, length, map, take, drop, ap, sym, arith, rules, of_z, to_z, w32}
use Rattle.std.proofs.lemmas.List.{drop-drop, drop-set-lt, take_more_set}
use Rattle.wl_flat.proofs.Sending.{few_next, shown_more}
use Rattle.wl_flat.specs.Sending.{descriptors_of, shown}
use Rattle.wl_flat.proofs.outgoing.copy_descriptors.Goals as goal

pub loop-index-preserved : goal.loop-index-preserved
loop-index-preserved c =
    let inv = c.loop-index.invariant in
    let before = c.loop-index.to in
    let i = c.loop-index.index in
    let x = to_z w32 (of_z w32 c.next_shown.result) in
    let same : to_z w32 (of_z w32 c.next_shown.result) ≡ c.next_shown.result = search rules in
    let within : c.loop-index.index < length c.loop-index.to = search rules in
    let s = shown_more c.args.queue.now c.args.tokens.now i _ _ _ _ _ _ c.next_shown.ensures inv.held inv.front c.loop-index-test.true (search rules) in record {
      held = s.0;
      front = s.1;
      few = few_next c.args.queue.now _ _ _ _ _ _ inv.few c.next_shown.ensures;
      written = take_more_set before i x within ∙ (ap (λ xs. xs ++ x ∷ []) inv.written
          ∙ (ap (λ y. map shown (descriptors_of c.args.queue.now (take i c.args.tokens.now)) ++ y ∷ []) same ∙ sym s.2));
      rest = drop-set-lt (i + 1) before i x (omega arith) ∙ (sym (drop-drop 1 i before) ∙ (ap (drop 1) inv.rest ∙ drop-drop 1 i c.args.to.now));
    }
