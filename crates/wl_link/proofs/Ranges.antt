-- Parts of a storage.
use Rattle.std.proofs.Common.{◌≡◌, ℕ, ◌+◌, ◌-◌, ◌≤◌, List, length, take, drop, slice_range, sym, ◌∙◌, ap, arith}
use Rattle.std.proofs.lemmas.List.{drop-drop, drop-take, length-take}

-- where a part begins later, what stood before is dropped
pub slice_range_later : (xs : List ℕ) (start end n : ℕ) → start ≤ end → n ≤ length (slice_range xs start end)
    → slice_range xs (start + n) end ≡ drop n (slice_range xs start end)
slice_range_later xs start end n le within =
    let split : end - start ≡ n + (end - (start + n)) = omega (arith, length-take (end - start) (drop start xs)) in
    ap (λ (ys : List ℕ). take (end - (start + n)) ys) (sym (drop-drop n start xs)) ∙ sym (drop-take n (end - (start + n)) (drop start xs))
    ∙ ap (λ (k : ℕ). drop n (take k (drop start xs))) (sym split)
