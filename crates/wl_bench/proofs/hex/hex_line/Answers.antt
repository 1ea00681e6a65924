use Rattle.std.proofs.Common.{rules, arith, ◌≡◌, ◌++◌, ◌+◌, ◌∷◌, [], List, ℕ, suc, false, Fits, w8, ap, subst, sym, ◌∙◌, slice_index_or, take, take_all, take-suc}
use Rattle.std.specs.List.{flat_map}
use Rattle.std.specs.String.{string_bytes}
use Rattle.std.proofs.lemmas.Fmt.{hex_byte}
use Rattle.std.proofs.lemmas.List.{flat_map_more}
use Rattle.wl_bench.specs.Hex.{hex_digits, hex_text, spaced_digits}
use Rattle.wl_bench.proofs.hex.hex_line.Goals as goal

pub loop-byte-preserved : goal.loop-byte-preserved
loop-byte-preserved c =
    let i = c.loop-byte.byte-index in
    let rest = c.in-Some.rest.now in
    let x : ℕ = slice_index_or rest i 0 in
    let small : Fits w8 x =
    subst (λ (xs : List ℕ). Fits w8 (slice_index_or xs (suc i) 0)) (c.in-Some.ensures.cases.0) (c.type_inv.bytes (suc i))
    in
    let two = hex_byte false x (omega (arith, small)) in
    let piece : string_bytes c.write-in-loop-byte.new.self ≡ string_bytes c.loop-byte.line ++ spaced_digits x = search (rules, two) in
    let first = string_bytes c.write.new.self in
    let next : suc i ≡ i + 1 = omega arith in
    let more : take (i + 1) rest ≡ take i rest ++ x ∷ [] =
    ap (λ (n : ℕ). take n rest) (sym next) ∙ take-suc rest i 0 c.loop-byte-test.true
    in
    piece ∙ ap (λ (xs : List ℕ). xs ++ spaced_digits x) c.loop-byte.invariant ∙ flat_map_more spaced_digits first (take i rest) x
    ∙ ap (λ (xs : List ℕ). first ++ flat_map spaced_digits xs) (sym more)

pub returns : goal.returns
returns c =
    let rest = c.in-Some.rest.now in
    let whole = take_all c.loop-byte.byte-index rest c.loop-byte-test.false in
    let small : Fits w8 c.in-Some.first.now =
    subst (λ (xs : List ℕ). Fits w8 (slice_index_or xs 0 0)) (c.in-Some.ensures.cases.0) (c.type_inv.bytes 0)
    in
    let two = hex_byte false c.in-Some.first.now (omega (arith, small)) in
    let first : string_bytes c.write.new.self ≡ hex_digits c.in-Some.first.now = search (rules, two) in
    c.loop-byte.invariant ∙ ap (λ (xs : List ℕ). string_bytes c.write.new.self ++ flat_map spaced_digits xs) whole
    ∙ ap (λ (xs : List ℕ). xs ++ flat_map spaced_digits rest) first
    ∙ sym (ap hex_text (c.in-Some.ensures.cases.0))
