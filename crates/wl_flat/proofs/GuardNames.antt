-- Names of a rule that are not UTF-8.
use Rattle.std.proofs.Common.{◌≡◌, ℕ, List, true, false, refl}
use Rattle.std.proofs.lemmas.Str.{IsUtf8-from_is_utf8}
use Rattle.std.specs.Str.{IsUtf8, is_utf8}

pub is_no_text : (name : List ℕ) → (IsUtf8 name → ⊥) → is_utf8 name ≡ false
is_no_text name not_utf8 = elim (is_utf8 name) as (λ b. is_utf8 name ≡ b → is_utf8 name ≡ false) [
  | true ↦ λ e. absurd (not_utf8 (IsUtf8-from_is_utf8 _ e))
  | false ↦ λ e. e
] refl
