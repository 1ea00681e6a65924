use Rattle.std.proofs.Common.{rules, arith, ◌≡◌, ◌++◌, ◌+◌, ◌∷◌, [], List, ℕ, suc, Fits, w8, ap, sym, ◌∙◌, slice_index_or, take, take-suc, false}
use Rattle.std.specs.List.{flat_map}
use Rattle.std.specs.String.{string_bytes}
use Rattle.std.proofs.lemmas.Fmt.{hex_byte}
use Rattle.std.proofs.lemmas.List.{flat_map_more}
use Rattle.wl_relay.specs.Words.{hex_digits}
use Rattle.wl_relay.proofs.commands.push_bytes.Goals as goal

pub loop-byte-preserved : goal.loop-byte-preserved
loop-byte-preserved c =
    let i = c.loop-byte.byte-index in
    let bytes = c.args.bytes.now in
    let x : ℕ = slice_index_or bytes i 0 in
    let small : Fits w8 x = c.type_inv.bytes i in
    let two = hex_byte false x (omega (arith, small)) in
    let piece : string_bytes c.write.new.self ≡ string_bytes c.loop-byte.line ++ hex_digits x = search (rules, two) in
    let first = string_bytes c.args.line.now in
    let next : suc i ≡ i + 1 = omega arith in
    let more : take (i + 1) bytes ≡ take i bytes ++ x ∷ [] =
    ap (λ (n : ℕ). take n bytes) (sym next) ∙ take-suc bytes i 0 c.loop-byte-test.true
    in
    piece ∙ ap (λ (xs : List ℕ). xs ++ hex_digits x) c.loop-byte.invariant ∙ flat_map_more hex_digits first (take i bytes) x
    ∙ ap (λ (xs : List ℕ). first ++ flat_map hex_digits xs) (sym more)
