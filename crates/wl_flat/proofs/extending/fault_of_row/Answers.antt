use Rattle.std.proofs.Common.{◌≡◌, ◌∙◌, sym, true, false, take}
use Rattle.std.specs.List.{list_any}
use Rattle.std.specs.Str.{bytes_eq}
use Rattle.std.specs.String.{string_bytes}
use Rattle.wl_flat.proofs.RowsExtend.{fault_once, fault_repeated}
use Rattle.wl_flat.proofs.extending.fault_of_row.Goals as goal

pub returns-then-any_named : goal.returns-then-any_named
returns-then-any_named c =
    let repeated : list_any (λ i. bytes_eq (string_bytes c.index-rows-at.result.name) (string_bytes i.name)) (take c.args.at c.args.rows.now) ≡ true =
    rw (← c.deref.ensures) (sym c.any_named.ensures ∙ c.if-any_named.true) in
    rw (c.from.ensures, c.from-repeated.ensures)
    (sym (fault_repeated c.args.protocol.now c.args.rows.now c.args.at c.index-rows-at.result c.requires c.index-rows-at.is repeated))

pub returns : goal.returns
returns c =
    let once : list_any (λ i. bytes_eq (string_bytes c.index-rows-at.result.name) (string_bytes i.name)) (take c.args.at c.args.rows.now) ≡ false =
    rw (← c.deref.ensures) (sym c.any_named.ensures ∙ c.if-any_named.false) in
    c.contradiction.ensures
    ∙ sym (fault_once c.args.protocol.now c.args.rows.now c.args.at c.index-rows-at.result c.requires c.index-rows-at.is once)
