-- What a call did that answers that it was done, or why not, said of the place: as in `Calling`.
use Rattle.std.proofs.Common.{◌≡◌, ℕ}
use Rattle.std.specs.Prelude.{Option, Some, Result}
use Rattle.wl_c.proofs.Calling.{moved}
use Rattle.wl_c.specs.Queues.{Answered, number_of}
use Rattle.wl_flat.specs.declared.status.Status.{Status}

pub answered : {S : Type 0} (R : S → Result (Unit {0}) Status → S → Type 0) {before after : Option S} {w x y : S} {code : ℕ} {answer : Result (Unit {0}) Status} →
    before ≡ Some w → x ≡ w → after ≡ Some y → code ≡ number_of answer → R x answer y → Answered before code after R
answered R {answer = answer} took lent put told call =
    λ s t is_s is_t. (answer, told, moved (λ u v. R u answer v) took lent put is_s is_t call)
