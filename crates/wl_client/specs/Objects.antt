-- What the calls on a session's objects answer, and what they change.
use Rattle.std.specs.Prelude.{◌≡◌, ℕ, ◌⊎◌, true, ◌==◌, ◌&&◌, if◌then◌else◌, Option, None, Some, IsSome, Result, Ok, Err, MatchBool, MatchOption}
use Rattle.wl_wire.specs.declared.interface.ObjectInfo.{ObjectInfo}
use Rattle.wl_link.specs.declared.object.Object.{Object}
use Rattle.wl_link.specs.Store.{Store, removed, rewritten}
use Rattle.wl_client.specs.declared.error.InvalidId.{InvalidId}
use Rattle.wl_client.specs.declared.error.DestroyError.{DestroyError}
use Rattle.wl_client.specs.declared.error.DestroyError.TheVariants as destroy
use Rattle.wl_client.specs.declared.objects.Kept.{Kept}
use Rattle.wl_client.specs.ObjectId.{IdParts}
use Rattle.wl_client.specs.Session.{SessionState, named, alive, flagged, noted, id_at, with_user_data}

module _ {U : Type 0} where
  abbrev pub info_in : ℕ → Option (Object (Kept U)) → Option ObjectInfo
  info_in n None = None
  info_in n (Some x) = Some (record { id = n; interface = x.interface; version = x.version })

  abbrev pub user_data_in : Option (Object (Kept U)) → Option U
  user_data_in None = None
  user_data_in (Some x) = x.value.user_data

  -- The closure is called once with the user data of the object, which then has what the call left. Without such data it is
  -- not called, and nothing is changed.
  abbrev pub LendsDataOf : {R : Type 0} → (U → R → U → Type 0) → Object (Kept U) → Option R → Object (Kept U) → Type 0
  LendsDataOf call before answer after =
      MatchOption before.value.user_data ((answer ≡ None) × (after ≡ before))
      (λ u. (r : _) × (left : U) × call u r left × (answer ≡ Some r) × (after ≡ with_user_data left before))

  -- the same with the object that the id names, among the objects of a session
  abbrev pub LendsDataIn : {R : Type 0} → (U → R → U → Type 0) → Store (Kept U) → IdParts → Result R InvalidId → Store (Kept U) → Type 0
  LendsDataIn call before id answer after =
      MatchOption (named before id) ((answer ≡ Err _) × (after ≡ before))
      (λ x. MatchOption x.value.user_data ((answer ≡ Err _) × (after ≡ before))
      (λ u. (r : _) × (left : U) × call u r left × (answer ≡ Ok r) × (after ≡ rewritten before id.number (with_user_data left x))))

  -- the object at the number is no longer the client's
  abbrev pub given_up : Store (Kept U) → ℕ → Object (Kept U) → Store (Kept U)
  given_up store n x = rewritten store n (flagged true x)

module _ {T U : Type 0} where
  -- what is known of the object that the id names, unless the client destroyed it
  abbrev pub info_of : SessionState T U → IdParts → Option ObjectInfo
  info_of s id = info_in id.number (alive (named s.store id))

  -- the user data of the object that the id names
  abbrev pub user_data_of : SessionState T U → IdParts → Option U
  user_data_of s id = user_data_in (named s.store id)

  -- the object that the id names gets the user data
  abbrev pub DataSet : SessionState T U → IdParts → U → Result (Unit {0}) InvalidId → SessionState T U → Type 0
  DataSet before id u answer after =
      MatchOption (named before.store id) ((answer ≡ Err _) × (after ≡ before))
      (λ x. (answer ≡ Ok tt) × (after ≡ record before { store = rewritten before.store id.number (with_user_data u x) }))

  -- The closure is called once with the user data of the object that the id names, which then has what the call left, as
  -- if that had been set. Without such data it is not called, and nothing is changed.
  abbrev pub LendsData : {R : Type 0} → (U → R → U → Type 0) → SessionState T U → IdParts → Result R InvalidId → SessionState T U → Type 0
  LendsData call before id answer after =
      MatchOption (user_data_of before id) ((answer ≡ Err _) × (after ≡ before))
      (λ u. (r : _) × (left : U) × call u r left × (answer ≡ Ok r) × DataSet before id left (Ok tt) after)

  -- the object that the client may destroy by the id: not the display, and none that it has destroyed
  abbrev pub destroyable : SessionState T U → IdParts → Option (Object (Kept U))
  destroyable s id = if id.number == 1 then None else alive (named s.store id)

  -- The object is flagged as destroyed by the client, and noted if it has user data. If there is no memory for the note,
  -- nothing is changed.
  abbrev pub DestroyedBy : SessionState T U → IdParts → Result (Unit {0}) DestroyError → SessionState T U → Type 0
  DestroyedBy before id answer after =
      MatchOption (destroyable before id) ((answer ≡ Err destroy.InvalidId) × (after ≡ before))
      (λ x. ((answer ≡ Ok tt) × (after ≡ record before {
        store = given_up before.store id.number x;
        notes = noted before.notes x.value.user_data (id_at id.number x);
      }))
      ⊎ ((answer ≡ Err destroy.OutOfMemory) × (after ≡ before) × IsSome x.value.user_data))

  -- The object leaves the map, if both sides have given it up: the client destroyed it, and the server had deleted its id before
  -- that. Else nothing is changed.
  abbrev pub ReclaimedBy : SessionState T U → IdParts → Result (Unit {0}) InvalidId → SessionState T U → Type 0
  ReclaimedBy before id answer after =
      MatchOption (named before.store id) ((answer ≡ Err _) × (after ≡ before))
      (λ x. MatchBool (x.value.client_destroyed && x.value.id_deleted)
      ((answer ≡ Ok tt) × (after ≡ record before { store = removed before.store id.number }))
      ((answer ≡ Err _) × (after ≡ before)))
