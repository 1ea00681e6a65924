use Rattle.std.proofs.Common.{◌≡◌, ◌∙◌, ◌+◌, ap, length, List, ℕ, [], ◌∷◌}
use Rattle.std.proofs.lemmas.List.{length-append}
use Rattle.std.specs.String.{string_bytes}
use Rattle.wl_wire.specs.Table.{interface_row}
use Rattle.wl_flat.proofs.RowsJoin.{is_other, other_long, others_more, primed_more, shorter_left}
use Rattle.wl_flat.proofs.joining.name_apart.Goals as goal

pub loop-said-smaller : goal.loop-said-smaller
loop-said-smaller c =
    let other = is_other _ _ _ c.fit_in.ensures c.in-Other.is in
    let more : length (string_bytes c.push_str.new.self) ≡ length (string_bytes c.loop-said.said.name) + 1 =
    ap length c.in_ok-push_str.ensures.bytes ∙ length-append (string_bytes c.loop-said.said.name) (39 ∷ []) in
    shorter_left _ _ _ (other_long c.args.protocol.now (interface_row c.loop-said.said) other) more

pub loop-said-preserved : goal.loop-said-preserved
loop-said-preserved c =
    let (n, is, before) = c.loop-said.invariant in
    let other = is_other _ _ _ c.fit_in.ensures c.in-Other.is in (
      n + 1,
      primed_more _ _ _ n is (ap (λ (k : List ℕ). record (interface_row c.loop-said.said) { name = k }) c.in_ok-push_str.ensures.bytes),
      others_more c.args.protocol.now _ _ n is other before,
    )
