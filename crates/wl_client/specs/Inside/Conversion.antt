-- What the functions that go through the arguments of an event say to each other.
use Rattle.std.specs.Prelude.{◌≡◌, ◌≢◌, ℕ, Bool, true, List, Option, None, Some, Result, Ok, Err, false, ◌+◌}
use Rattle.std.specs.List.{list_any}
use Rattle.wl_wire.specs.declared.argument.Argument.{Argument}
use Rattle.wl_wire.specs.declared.argument.Token.{Token}
use Rattle.wl_wire.specs.declared.interface.InterfaceId.{InterfaceId}
use Rattle.wl_wire.specs.Argument.{WireArgument, type_of}
use Rattle.wl_wire.specs.Table.{is_new_id}
use Rattle.wl_link.specs.declared.object.Object.{Object}
use Rattle.wl_link.specs.Identity.{Objects}
use Rattle.wl_link.specs.ObjectMap.{MapState}
use Rattle.wl_client.specs.declared.event_arguments.Progress.{Progress}
use Rattle.wl_client.specs.declared.objects.Kept.{Kept}
use Rattle.wl_client.specs.ObjectId.{IdParts}
use Rattle.wl_client.specs.declared.event_fault.EventFault.{EventFault}
use Rattle.wl_client.specs.Session.{id_at}
use Rattle.wl_client.specs.Events.{Converting, Outcome, Whole, Wrong, convert_one, is_valid_new, made_object, with_made_object}

module _ {U : Type 0} where
  abbrev pub objects_in : MapState (Kept U) → ℕ → Objects (Kept U)
  objects_in map last_serial = record { store = map.store; last_serial = last_serial }

  abbrev pub state : MapState (Kept U) → ℕ → Progress → Converting U
  state map last_serial progress = record {
    objects = objects_in map last_serial;
    asked = progress.asked.now;
    child = progress.child;
    created = progress.created;
  }

  -- the map has capacity for the object that the event may yet make, if one of these arguments is a new id
  abbrev pub CanMake : Progress → List WireArgument → MapState (Kept U) → Type 0
  CanMake progress args map =
      progress.child ≢ None → list_any (λ a. is_new_id (type_of a)) args ≡ true → map.reserved ≡ true

  -- an object is made at that number, or no object may be made there and nothing is changed
  abbrev pub MakesObject : Objects (Kept U) → ℕ → Bool → InterfaceId → ℕ → Option IdParts → Objects (Kept U) → Type 0
  MakesObject before version destroyed i n None after = (is_valid_new before n ≡ false) × (after ≡ before)
  MakesObject before version destroyed i n (Some id) after =
      let x : Object (Kept U) = made_object version destroyed i (before.last_serial + 1) in
      (is_valid_new before n ≡ true) × (after ≡ with_made_object before n x) × (id ≡ id_at n x)

  -- what an argument became, and how far that leads
  abbrev pub Converts : ℕ → Bool → Converting U → WireArgument → Result (Argument IdParts Token) EventFault → Converting U → Type 0
  Converts version destroyed before a (Ok b) after = convert_one version destroyed before a ≡ Ok (b, after)
  Converts version destroyed before a (Err wrong) after =
      (convert_one version destroyed before a ≡ Err wrong) × (after.objects ≡ before.objects)

  -- the arguments were gone through to their end, with this outcome
  abbrev pub EndsWhole : Outcome U → Objects (Kept U) → Option IdParts → List (Argument IdParts Token) → Type 0
  EndsWhole (Whole c args) objects created args' = (c.objects ≡ objects) × (c.created ≡ created) × (args ≡ args')
  EndsWhole (Wrong _ _) objects created args' = ⊥
