-- A run of messages, message by message.
use Rattle.std.proofs.Common.{◌≡◌, ℕ, zero, suc, ◌≤◌, ◌<◌, ◌+◌, ◌-◌, ◌||◌, ◌∙◌, List, [], ◌∷◌, length, drop, map, Bool, true, false, None, Some, refl, ap, arith, rules}
use Rattle.std.proofs.lemmas.List.{length-drop}
use Rattle.std.specs.List.{list_any}
use Rattle.std.specs.Prelude.{nat_le, nat_lt, ◌&&◌, if◌then◌else◌}
use Rattle.wl_flat.specs.declared.flat.FlatRun.{FlatRun}
use Rattle.wl_host_client.specs.declared.client.runs.Front.{Front}
use Rattle.wl_host_client.specs.Client.{ClientCore}
use Rattle.wl_wire.specs.Parse.{sender_of}
use Rattle.wl_client.specs.ByNumber.{object_at}
use Rattle.wl_host_client.specs.Runs.{ended, ended_whole, front_of, front_of_sender, is_over, lacking, plain_run, run_behind, size_of, step}

pub any_map : {A B : Type 0} (f : B → Bool) (g : A → B) (xs : List A) → list_any f (map g xs) ≡ list_any (λ x. f (g x)) xs
any_map f g [] = refl
any_map f g (x ∷ xs) = ap (λ (b : Bool). f (g x) || b) (any_map f g xs)

no_more : (core : ClientCore) (bytes : List ℕ) (came size used : ℕ) → run_behind zero core bytes came size used ≡ plain_run size used
unfolding run_behind
no_more core bytes came size used = refl

one_more : (n : ℕ) (core : ClientCore) (bytes : List ℕ) (came size used : ℕ)
    → run_behind (suc n) core bytes came size used ≡ step (λ s u. run_behind n core bytes came s u) came size used (front_of core (drop size bytes))
unfolding run_behind
one_more n core bytes came size used = refl

-- there is no whole message
pub ends_before : (left : ℕ) (core : ClientCore) (bytes : List ℕ) (came size used : ℕ) → front_of core (drop size bytes) ≡ None
    → run_behind left core bytes came size used ≡ plain_run size used
ends_before zero core bytes came size used none = no_more core bytes came size used
ends_before (suc n) core bytes came size used none = one_more n core bytes came size used ∙ ap (step (λ s u. run_behind n core bytes came s u) came size used) none

-- no more messages may come
pub ends_full : (left counter most : ℕ) (core : ClientCore) (bytes : List ℕ) (came size used : ℕ) → left + counter ≡ most → most ≤ counter
    → run_behind left core bytes came size used ≡ plain_run size used
ends_full zero counter most core bytes came size used sum full = no_more core bytes came size used
ends_full (suc n) counter most core bytes came size used sum full = absurd (omega arith)

-- it ends with this message, or before it
pub ends_with : (left counter most : ℕ) (core : ClientCore) (bytes : List ℕ) (came size used : ℕ) (f : Front) (run : FlatRun)
    → left + counter ≡ most → counter < most → front_of core (drop size bytes) ≡ Some f → ended f came size used ≡ Some run
    → run_behind left core bytes came size used ≡ run
ends_with zero counter most core bytes came size used f run sum more is ends = absurd (omega arith)
ends_with (suc n) counter most core bytes came size used f run sum more is ends =
    one_more n core bytes came size used ∙ rw is (rw ends refl)

-- it goes on behind this message
pub goes_on : (left counter most : ℕ) (core : ClientCore) (bytes : List ℕ) (came size used : ℕ) (f : Front) (whole : FlatRun)
    → left + counter ≡ most → counter < most → front_of core (drop size bytes) ≡ Some f → ended f came size used ≡ None
    → whole ≡ run_behind left core bytes came size used
    → (x : ℕ) × (x + (counter + 1) ≡ most) × (whole ≡ run_behind x core bytes came (size + f.size) (used + f.needed))
goes_on zero counter most core bytes came size used f whole sum more is ends same = absurd (omega arith)
goes_on (suc n) counter most core bytes came size used f whole sum more is ends same =
    (n, omega arith, same ∙ one_more n core bytes came size used ∙ rw is (rw ends refl))

-- ---- what is in the run came

size_fits : (core : ClientCore) (bytes : List ℕ) (b : Bool) (f : Front)
    → b ≡ nat_le 8 (length bytes) && nat_le (size_of bytes) (length bytes)
    → (if b then Some (front_of_sender core bytes (object_at core.session (sender_of bytes))) else None) ≡ Some f → f.size ≤ length bytes
size_fits core bytes false f e is = absurd (cc)
size_fits core bytes true f e is = search (arith, rules)

whole_fits : (core : ClientCore) (bytes : List ℕ) (f : Front) → front_of core bytes ≡ Some f → f.size ≤ length bytes
unfolding front_of
whole_fits core bytes f is = size_fits core bytes _ f refl is

-- the message's bytes are there
pub fits : (core : ClientCore) (bytes : List ℕ) (size : ℕ) (f : Front) → size ≤ length bytes → front_of core (drop size bytes) ≡ Some f
    → size + f.size ≤ length bytes
fits core bytes size f within is =
    let there : f.size ≤ length bytes - size = rw (← length-drop size bytes) (whole_fits core (drop size bytes) f is) in omega (arith, there, within)

-- so many descriptors came
lacks_none : (f : Front) (came size used : ℕ) (b : Bool) → b ≡ nat_lt (came - used) f.needed
    → (if b then Some (lacking f size used) else if is_over size used f.needed then Some (plain_run size used) else ended_whole f f.deleted size used) ≡ None
    → f.needed ≤ came - used
lacks_none f came size used true e ends = absurd (cc)
lacks_none f came size used false e ends = search (arith, rules)

pub enough : (f : Front) (came size used : ℕ) → used ≤ came → ended f came size used ≡ None → used + f.needed ≤ came
enough f came size used few ends =
    let there = lacks_none f came size used _ refl ends in omega (arith, there, few)
