use Rattle.std.proofs.Common.{ℕ, List, arith, subst}
use Rattle.std.proofs.lemmas.Bool.Decides.{nat_tests}
use Rattle.wl_relay.specs.Words.{AreHex}
use Rattle.wl_relay.proofs.HexWords.{behind, front_byte, no_single}
use Rattle.wl_relay.proofs.words.hex_bytes.Goals as goal

pub returns-in_default-byte : goal.returns-in_default-byte
returns-in_default-byte c =
    λ (xs : List ℕ) (are : AreHex xs c.args.glyphs.now).
    let of_all = subst (λ (text : List ℕ). AreHex xs text) c.loop-rest.invariant.1 are in
    let ys = behind c.loop-rest.found.items c.loop-rest.rest.now xs of_all in
    let b = front_byte c.loop-rest.rest.now ys.0 ys.1 (omega (arith, c.in-len2-up.len_at_least)) in
    c.in_default-byte.ensures b.0 b.1 b.2

pub returns-else-is_empty : goal.returns-else-is_empty
returns-else-is_empty c =
    λ (xs : List ℕ) (are : AreHex xs c.args.glyphs.now).
    let of_all = subst (λ (text : List ℕ). AreHex xs text) c.loop-rest.invariant.1 are in
    let ys = behind c.loop-rest.found.items c.loop-rest.rest.now xs of_all in
    let none = no_single c.loop-rest.rest.now ys.0 ys.1 (omega (arith, c.in_default.len_below)) in
    grind (arith, nat_tests)
