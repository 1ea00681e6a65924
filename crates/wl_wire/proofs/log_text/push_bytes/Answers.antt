use Rattle.std.proofs.Common.{rules, arith, ◌≡◌, ◌++◌, ◌+◌, ◌∷◌, [], List, ℕ, suc, ap, sym, ◌∙◌, slice_index_or, take, take-suc}
use Rattle.std.specs.List.{flat_map}
use Rattle.std.specs.String.{string_bytes}
use Rattle.std.proofs.lemmas.List.{flat_map_more}
use Rattle.wl_wire.specs.LogText.{glyph}
use Rattle.wl_wire.proofs.log_text.push_bytes.Goals as goal

pub loop-byte-preserved : goal.loop-byte-preserved
loop-byte-preserved c =
    let i = c.loop-byte.byte-index in
    let bytes = c.args.bytes.now in
    let x : ℕ = slice_index_or bytes i 0 in
    let piece : string_bytes c.push_glyph.new.text ≡ string_bytes c.loop-byte.text ++ glyph x = search rules in
    let first = string_bytes c.args.text.now in
    let next : suc i ≡ i + 1 = omega arith in
    let more : take (i + 1) bytes ≡ take i bytes ++ x ∷ [] = ap (λ (n : ℕ). take n bytes) (sym next) ∙ take-suc bytes i 0 c.loop-byte-test.true in
    piece ∙ ap (λ (xs : List ℕ). xs ++ glyph x) c.loop-byte.invariant ∙ flat_map_more glyph first (take i bytes) x
    ∙ ap (λ (xs : List ℕ). first ++ flat_map glyph xs) (sym more)
