use Rattle.std.proofs.Common.{◌≡◌, ◌∙◌, ℕ, suc, ◌+◌, Some, None, true, false, arith, ap, drop, rules}
use Rattle.std.specs.Prelude.{slice_get}
use Rattle.std.specs.Str.{bytes_eq}
use Rattle.wl_wire.specs.declared.interface.InterfaceId.{InterfaceId}
use Rattle.wl_wire.specs.Table.{interface_row}
use Rattle.wl_bench.specs.Bench.{place_of}
use Rattle.wl_bench.proofs.Places.{found_at, none_left, passed}
use Rattle.wl_bench.proofs.table.interface_named.Goals as goal

at_place : (m n : ℕ) → m ≡ n → ◌≡◌ {A = InterfaceId} (record { 0 = m }) (record { 0 = n })
at_place m n e = ap (λ (k : ℕ). record { 0 = k }) e

pub returns-in_default-clause-named : goal.returns-in_default-clause-named
returns-in_default-clause-named c =
    let gone : slice_get c.args.table.now c.loop-place.place ≡ None = search rules in
    let none = none_left c.args.name.now c.loop-place.place c.args.table.now gone in
    let here : c.loop-place.place ≡ place_of c.args.name.now c.args.table.now = omega (arith, c.loop-place.invariant, none) in
    at_place _ _ here

pub returns-then-eq-clause-named : goal.returns-then-eq-clause-named
returns-then-eq-clause-named c =
    let row = interface_row c.in-Some.interface.now in
    let kept : slice_get c.args.table.now c.loop-place.place ≡ Some row = search rules in
    let same : bytes_eq row.name c.args.name.now ≡ true = search rules in
    let found = found_at c.args.name.now c.loop-place.place c.args.table.now row kept same in
    let here : c.loop-place.place ≡ place_of c.args.name.now c.args.table.now = omega (arith, c.loop-place.invariant, found) in
    at_place _ _ here

pub loop-place-preserved : goal.loop-place-preserved
loop-place-preserved c =
    let row = interface_row c.in-Some.interface.now in
    let kept : slice_get c.args.table.now c.loop-place.place ≡ Some row = search rules in
    let other : bytes_eq row.name c.args.name.now ≡ false = search rules in
    let next : suc c.loop-place.place ≡ c.loop-place.place + 1 = omega arith in
    let more = passed c.args.name.now c.loop-place.place c.args.table.now row kept other
    ∙ ap (λ (j : ℕ). suc (place_of c.args.name.now (drop j c.args.table.now))) next in
    omega (arith, c.loop-place.invariant, more)
