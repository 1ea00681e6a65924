-- What a session's call did, said of the place: of the session that it held before, and of the one that it holds after.
--
-- In each lemma the place held `w`, which was taken out and lent to the call as `x`. The call made `y` of it, which was put back.
use Rattle.std.proofs.Common.{◌≡◌, ℕ, subst}
use Rattle.std.specs.Prelude.{Bool, Option, Some, Result}
use Rattle.wl_c.specs.Calls.{Added, Did, Extended, Gave, GaveFlag, Joined, Written, WrittenExtension, WrittenFault, WrittenNumber, flagged}
use Rattle.wl_flat.specs.Status.{code_of}
use Rattle.wl_flat.specs.declared.extending.ExtensionFault.{ExtensionFault}
use Rattle.wl_flat.specs.declared.rows.TableFault.{TableFault}
use Rattle.wl_flat.specs.declared.status.Status.{Status}

-- what holds of `x` and `y` holds of what is in the place
pub moved : {S : Type 0} (P : S → S → Type 0) {before after : Option S} {w x y s t : S} →
    before ≡ Some w → x ≡ w → after ≡ Some y → before ≡ Some s → after ≡ Some t → P x y → P s t
moved P {x = x} {y = y} {s = s} {t = t} took lent put is_s is_t holds =
    let at_s : x ≡ s = cc in let at_t : y ≡ t = cc in
    subst (λ (v : _). P s v) at_t (subst (λ (u : _). P u y) at_s holds)

-- what was lent to a call is what another place holds
pub lent : {S : Type 0} (P : S → Type 0) {before : Option S} {w x s : S} → before ≡ Some w → x ≡ w → before ≡ Some s → P x → P s
lent P {x = x} {s = s} took lends is_s holds = let at_s : x ≡ s = cc in subst (λ (v : _). P v) at_s holds

pub did : {S : Type 0} (R : S → Status → S → Type 0) {before after : Option S} {w x y : S} {code : ℕ} {status : Status} →
    before ≡ Some w → x ≡ w → after ≡ Some y → code ≡ code_of status → R x status y → Did before code after R
did R {status = status} took lent put told call =
    λ s t is_s is_t. (status, told, moved (λ u v. R u status v) took lent put is_s is_t call)

pub gave : {S A : Type 0} (R : S → Result A Status → S → Type 0) {before after : Option S} {w x y : S} {code : ℕ} {old new : A} {answer : Result A Status} →
    before ≡ Some w → x ≡ w → after ≡ Some y → Written answer code old new → R x answer y → Gave before code old new after R
gave R {answer = answer} took lent put told call =
    λ s t is_s is_t. (answer, told, moved (λ u v. R u answer v) took lent put is_s is_t call)

pub gave_flag : {S : Type 0} (R : S → Result Bool Status → S → Type 0) {before after : Option S} {w x y : S} {code old new : ℕ} {answer : Result Bool Status} →
    before ≡ Some w → x ≡ w → after ≡ Some y → Written (flagged answer) code old new → R x answer y → GaveFlag before code old new after R
gave_flag R {answer = answer} took lent put told call =
    λ s t is_s is_t. (answer, told, moved (λ u v. R u answer v) took lent put is_s is_t call)

pub added : {S : Type 0} (R : S → Result (Unit {0}) TableFault → S → Type 0) {before after : Option S} {w x y : S} {code : ℕ} {old new : TableFault} {answer : Result (Unit {0}) TableFault} →
    before ≡ Some w → x ≡ w → after ≡ Some y → WrittenFault answer code old new → R x answer y → Added before code old new after R
added R {answer = answer} took lent put told call =
    λ s t is_s is_t. (answer, told, moved (λ u v. R u answer v) took lent put is_s is_t call)

pub extended : {S : Type 0} (R : S → Result (Unit {0}) ExtensionFault → S → Type 0) {before after : Option S} {w x y : S} {code : ℕ} {old new : ExtensionFault} {answer : Result (Unit {0}) ExtensionFault} →
    before ≡ Some w → x ≡ w → after ≡ Some y → WrittenExtension answer code old new → R x answer y → Extended before code old new after R
extended R {answer = answer} took lent put told call =
    λ s t is_s is_t. (answer, told, moved (λ u v. R u answer v) took lent put is_s is_t call)

pub joined : {S : Type 0} (R : S → Result ℕ ExtensionFault → S → Type 0) {before after : Option S} {w x y : S} {code number number' : ℕ} {fault fault' : ExtensionFault} {answer : Result ℕ ExtensionFault} →
    before ≡ Some w → x ≡ w → after ≡ Some y → WrittenNumber answer code number number' fault fault' → R x answer y → Joined before code number number' fault fault' after R
joined R {answer = answer} took lent put told call =
    λ s t is_s is_t. (answer, told, moved (λ u v. R u answer v) took lent put is_s is_t call)
