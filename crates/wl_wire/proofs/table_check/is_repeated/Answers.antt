use Rattle.std.proofs.Common.{◌||◌, take, sym, ap, ◌∙◌}
use Rattle.std.specs.String.{string_bytes}
use Rattle.wl_wire.specs.declared.interface.Interface.{Interface}
use Rattle.wl_wire.specs.Table.{is_taken, fixed_rows}
use Rattle.wl_wire.proofs.Faults.{is_named, is_repeated-fixed, is_repeated-not_fixed}
use Rattle.wl_wire.proofs.table_check.is_repeated.Goals as goal

pub returns-then-is_fixed_name : goal.returns-then-is_fixed_name
returns-then-is_fixed_name c =
    let name = c.as_str-name.ensures.value ∙ ap (λ (i : Interface). string_bytes i.name) (sym c.index-interfaces-at.is) in
    let fixed = sym (c.is_fixed_name.ensures ∙ ap (is_taken fixed_rows) name) ∙ c.if-is_fixed_name.true in
    sym (is_repeated-fixed c.args.kept.now c.args.interfaces.now c.args.at c.index-interfaces-at.result c.requires c.index-interfaces-at.is fixed)

pub returns-then-any_named : goal.returns-then-any_named
returns-then-any_named c =
    let kept = c.args.kept.now in
    let xs = c.args.interfaces.now in
    let x = c.index-interfaces-at.result in
    let name = c.as_str-name.ensures.value ∙ ap (λ (i : Interface). string_bytes i.name) (sym c.index-interfaces-at.is) in
    let free = sym (c.is_fixed_name.ensures ∙ ap (is_taken fixed_rows) name) ∙ c.if-is_fixed_name.false in
    let kept_has = sym (c.any_named.ensures ∙ ap (λ n. is_named n kept) name) ∙ c.if-any_named.true in
    c.if-any_named.true ∙ sym (is_repeated-not_fixed kept xs c.args.at x c.requires c.index-interfaces-at.is free ∙ ap (λ b. b || is_named (string_bytes x.name) (take c.args.at xs)) kept_has)

pub returns-else-any_named : goal.returns-else-any_named
returns-else-any_named c =
    let kept = c.args.kept.now in
    let xs = c.args.interfaces.now in
    let x = c.index-interfaces-at.result in
    let name = c.as_str-name.ensures.value ∙ ap (λ (i : Interface). string_bytes i.name) (sym c.index-interfaces-at.is) in
    let free = sym (c.is_fixed_name.ensures ∙ ap (is_taken fixed_rows) name) ∙ c.if-is_fixed_name.false in
    let kept_lacks = sym (c.any_named.ensures ∙ ap (λ n. is_named n kept) name) ∙ c.if-any_named.false in
    c.any_named-else-any_named.ensures ∙ ap (λ n. is_named n (take c.args.at xs)) name
    ∙ sym (is_repeated-not_fixed kept xs c.args.at x c.requires c.index-interfaces-at.is free ∙ ap (λ b. b || is_named (string_bytes x.name) (take c.args.at xs)) kept_lacks)
