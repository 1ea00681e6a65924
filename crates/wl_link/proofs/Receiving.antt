-- A receive behind bytes that were moved to the front of a storage.
use Rattle.std.proofs.Common.{◌≡◌, ℕ, ◌+◌, ◌-◌, ◌≤◌, List, ◌++◌, length, take, drop, slice_range, Result, Ok, Err, refl, sym, ◌∙◌, ap, subst, arith}
use Rattle.std.proofs.lemmas.List.{length-take, length-take-le, length-drop, take-append-le, take-append-drop, append-nil}
use Rattle.std.proofs.Math.Seq.{take-append-add}
use Rattle.std.proofs.Math.Nat.{sub-zero}
use borrow.Rule.Slice.PartMut.{put_mid, post_of}
use Rattle.wl_wire.specs.declared.argument.Token.{Token}
use Rattle.wl_wire.specs.declared.error.IoFault.{IoFault}
use Rattle.wl_link.specs.Exchange.{Queue, Lands, receipt}
use Rattle.wl_link.specs.Inside.WaitingBytes.{Received, beside, arrived}

pub front_and_part : (front part post : List ℕ) (w n : ℕ) → length front ≡ w → n ≤ length part
    → take (w + n) (front ++ (part ++ post)) ≡ front ++ take n part
front_and_part front part post w n e le =
    rw (← e) (take-append-add front (part ++ post) n ∙ ap (λ (ys : List ℕ). front ++ ys) (take-append-le n part post le))

module _ {T : Type 0} (receives : T → ℕ → Result Queue IoFault → T → Type 0) (t t' : T)
    (storage moved buffer : List ℕ) (start end : ℕ) (tokens tokens' : List Token)
    (ordered : start ≤ end) (within : end ≤ length storage) (same : length moved ≡ length storage)
    (whole : length buffer ≡ length (take (length moved - (end - start)) (drop (end - start) moved)))
    (front : slice_range moved 0 (end - start) ≡ slice_range storage start end) where
  room : length (take (length moved - (end - start)) (drop (end - start) moved)) ≡ length storage - length (slice_range storage start end)
  room = omega (arith, length-take (length moved - (end - start)) (drop (end - start) moved), length-drop (end - start) moved, length-take (end - start) (drop start storage), length-drop start storage)

  kept : take (end - start) moved ≡ slice_range storage start end
  kept = ap (λ (k : ℕ). take k moved) (sym (sub-zero (end - start))) ∙ front

  bytes : (n : ℕ) → n ≤ length buffer
      → slice_range (put_mid (end - start) (length moved - (end - start)) moved buffer) 0 (end - start + n) ≡ slice_range storage start end ++ take n buffer
  bytes n le =
      ap (λ (k : ℕ). take k (put_mid (end - start) (length moved - (end - start)) moved buffer)) (sub-zero (end - start + n))
      ∙ front_and_part (take (end - start) moved) buffer (post_of (end - start) (length moved - (end - start)) moved) (end - start) n (length-take-le (end - start) moved (omega arith)) le
      ∙ ap (λ (ys : List ℕ). ys ++ take n buffer) kept

  pub received_behind : (answer : Result ℕ IoFault)
      → receives t (length (take (length moved - (end - start)) (drop (end - start) moved))) (receipt answer buffer tokens tokens') t'
      → Lands answer (take (length moved - (end - start)) (drop (end - start) moved)) tokens buffer tokens'
      → Received receives t (beside (slice_range storage start end) tokens) (length storage) answer t'
      (beside (slice_range (put_mid (end - start) (length moved - (end - start)) moved buffer) 0 (end - start + arrived answer)) tokens')
  received_behind (Ok n) received lands =
      let le : n ≤ length buffer = omega (arith, lands.0) in
      let came : tokens' ≡ tokens ++ drop (length tokens) tokens' = sym (take-append-drop (length tokens) tokens') ∙ ap (λ (ts : List Token). ts ++ drop (length tokens) tokens') lands.1 in
      let waiting : beside (slice_range (put_mid (end - start) (length moved - (end - start)) moved buffer) 0 (end - start + n)) tokens' ≡ beside (slice_range storage start end ++ take n buffer) (tokens ++ drop (length tokens) tokens')
      = ap (λ (bs : List ℕ). beside bs tokens') (bytes n le) ∙ ap (λ (ts : List Token). beside (slice_range storage start end ++ take n buffer) ts) came in
      let counted : n ≡ length (take n buffer) = sym (length-take-le n buffer le) in
      (receipt (Ok n) buffer tokens tokens', subst (λ (k : ℕ). receives t k (receipt (Ok n) buffer tokens tokens') t') room received, (cc), waiting)
  received_behind (Err fault) received lands =
      let waiting : beside (slice_range (put_mid (end - start) (length moved - (end - start)) moved buffer) 0 (end - start + 0)) tokens' ≡ beside (slice_range storage start end) tokens
      = ap (λ (bs : List ℕ). beside bs tokens') (bytes 0 (omega arith) ∙ append-nil (slice_range storage start end)) ∙ ap (λ (ts : List Token). beside (slice_range storage start end) ts) lands.1 in
      (Err fault, subst (λ (k : ℕ). receives t k (Err fault) t') room received, refl, waiting)
