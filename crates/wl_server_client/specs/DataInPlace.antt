-- User data of an object that are lent to a closure.
use Rattle.std.specs.Prelude.{◌≡◌, Option, None, Some, Result, Ok, Err, MatchOption}
use Rattle.wl_link.specs.declared.object.Object.{Object}
use Rattle.wl_link.specs.Store.{Store, rewritten}
use Rattle.wl_server_client.specs.declared.error.InvalidId.{InvalidId}
use Rattle.wl_server_client.specs.declared.objects.Kept.{Kept}
use Rattle.wl_server_client.specs.Ids.{IdParts}
use Rattle.wl_server_client.specs.Part.{named, with_user_data}

module _ {U R : Type 0} (call : U → R → U → Type 0) where
  -- The closure is called once with the user data of the object, which then has what the call left. Without such data it is
  -- not called, and nothing is changed.
  abbrev pub LendsDataOf : Object (Kept U) → Option R → Object (Kept U) → Type 0
  LendsDataOf before answer after =
      MatchOption before.value.user_data ((answer ≡ None) × (after ≡ before))
      (λ u. (r : R) × (left : U) × call u r left × (answer ≡ Some r) × (after ≡ with_user_data left before))

  -- the same with the object that the id names, among the objects of a client
  abbrev pub LendsDataIn : Store (Kept U) → IdParts → Result R InvalidId → Store (Kept U) → Type 0
  LendsDataIn before id answer after =
      MatchOption (named before id) ((answer ≡ Err _) × (after ≡ before))
      (λ x. MatchOption x.value.user_data ((answer ≡ Err _) × (after ≡ before))
      (λ u. (r : R) × (left : U) × call u r left × (answer ≡ Ok r) × (after ≡ rewritten before id.number (with_user_data left x))))
