-- What is written over a list of its length takes the place of all of it.
use Rattle.std.specs.Prelude.{◌≡◌, ℕ, List, [], ◌++◌, drop, length, take}
use Rattle.std.proofs.Common.{ap, append-nil, arith, ◌∙◌}
use Rattle.std.proofs.lemmas.List.{drop_all, take-append-le, take_all}

pub overwritten : (payload old text : List ℕ) (len n : ℕ) → payload ≡ text ++ drop n old → n ≡ length text → length old ≡ len → n ≡ len
    → take len (payload ++ drop (length payload) old) ≡ text
overwritten payload old text len n payload_is n_is old_is same =
    let none : drop n old ≡ [] = drop_all n old (omega (arith, old_is, same)) in
    let all : payload ≡ text = payload_is ∙ ap (λ (r : List ℕ). text ++ r) none ∙ append-nil text in
    let long : length payload ≡ len = ap (λ (l : List ℕ). length l) all ∙ omega (arith, n_is, same) in
    take-append-le len payload (drop (length payload) old) (omega (arith, long)) ∙ take_all len payload (omega (arith, long)) ∙ all
