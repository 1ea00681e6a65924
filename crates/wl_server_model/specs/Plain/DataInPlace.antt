-- User data of an object that are lent to a closure, and what a program finds then.
use Rattle.std.specs.Prelude.{◌≡◌, false, Result, Ok, Err, MatchOption}
use Rattle.wl_server_client.specs.declared.error.InvalidId.{InvalidId}
use Rattle.wl_server_model.specs.declared.step.Reply.TheVariants as reply
use Rattle.wl_server_model.specs.declared.step.Step.TheVariants as step
use Rattle.wl_server_model.specs.Backend.{BackendState, Calls}
use Rattle.wl_server_client.specs.Ids.{IdParts}
use Rattle.wl_server_model.specs.Lookups.{object_data_of}
use Rattle.wl_server_model.specs.PartStep.{World}
use Rattle.wl_server_model.specs.Plain.{SetsObjectData}

module _ {U R : Type 0} (call : U → R → U → Type 0) where
  -- The closure is called once with the user data of the object that the id names. What it leaves is set as if
  -- `set_object_data` had been called with it. Without such data it is not called, and nothing is changed.
  abbrev pub LendsObjectData : {T G C : Type 0} → World T G C → BackendState T U G C → IdParts → Result R InvalidId → BackendState T U G C → Type 0
  LendsObjectData w before id answer after =
      MatchOption (object_data_of before.server id) ((answer ≡ Err _) × (after ≡ record before { refused = false }))
      (λ u. (r : R) × (left : U) × call u r left × (answer ≡ Ok r)
      × Calls w before (step.SetObjectData id left) (reply.SetObjectData (Ok tt)) after × SetsObjectData before id left (Ok tt) after)

  -- The closure is called once with the user data of the object that the id names, which has what the call left. Without such
  -- data it is not called, and nothing has changed.
  abbrev pub SetsWhatIsLeft : {T G C : Type 0} → BackendState T U G C → IdParts → Result R InvalidId → BackendState T U G C → Type 0
  SetsWhatIsLeft before id answer after =
      MatchOption (object_data_of before.server id) ((answer ≡ Err _) × (after ≡ record before { refused = false }))
      (λ u. (r : R) × (left : U) × call u r left × (answer ≡ Ok r) × SetsObjectData before id left (Ok tt) after)
