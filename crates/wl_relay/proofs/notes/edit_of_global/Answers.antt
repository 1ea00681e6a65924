-- That the version of the table is that of the interface whose name was found.
use Rattle.std.specs.Prelude.{◌≡◌, ℕ, zero, suc, ◌<◌, List, [], ◌∷◌, codes, length, slice_get, None, Option, Some}
use Rattle.std.specs.Option.{option_map_or}
use Rattle.std.proofs.Common.{ap, arith, refl, sym, ◌∙◌}
use Rattle.wl_wire.specs.Table.{InterfaceRow, interface_row}
use Rattle.wl_relay.proofs.notes.edit_of_global.Goals as goal

-- a place of a list has an element
has_one : {A : Type 0} (xs : List A) (n : ℕ) → n < length xs → slice_get xs n ≡ None → ⊥
has_one [] n within none = omega arith
has_one (x ∷ xs) zero within none = cc
has_one (x ∷ xs) (suc n) within none = has_one xs n (omega arith) none

pub returns-in_default-get : goal.returns-in_default-get
returns-in_default-get c =
    let row : InterfaceRow = interface_row c.in-Some-get.interface.now in
    let at : slice_get c.args.table.now c.in-Some.id.0 ≡ Some row = sym c.in-Some-get.ensures.interface in
    let name : row.name ≡ c.args.name.now
    = sym (ap (λ (o : Option InterfaceRow). option_map_or (λ r. r.name) o (codes "<unknown>")) at) ∙ c.in-Some.ensures.found.1 in
    (row.version, (c.in-Some.id.0, row, at, name, refl), c.if-interface-version.false)

pub returns-in_default-get-2 : goal.returns-in_default-get-2
returns-in_default-get-2 c =
    absurd (has_one c.args.table.now c.in-Some.id.0 c.in-Some.ensures.found.0 (sym (rw c.in_default-get.is at c.get.ensures.interface)))
