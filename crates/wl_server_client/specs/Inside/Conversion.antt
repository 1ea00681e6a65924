-- What the functions that go through the arguments of a request say to each other.
use Rattle.std.specs.Prelude.{◌≡◌, ◌≢◌, ℕ, true, false, List, [], ◌∷◌, Option, None, Some, Result, Ok, Err, length}
use Rattle.std.specs.List.{list_any}
use Rattle.wl_wire.specs.declared.argument.Argument.{Argument}
use Rattle.wl_wire.specs.declared.argument.Argument.TheVariants as arg
use Rattle.wl_wire.specs.declared.argument.ArgumentType.{ArgumentType}
use Rattle.wl_wire.specs.declared.argument.Token.{Token}
use Rattle.wl_wire.specs.declared.interface.InterfaceId.{InterfaceId}
use Rattle.wl_wire.specs.Argument.{WireArgument, kind_of, type_of}
use Rattle.wl_wire.specs.Table.{is_new_id}
use Rattle.wl_link.specs.Identity.{Objects}
use Rattle.wl_server_client.specs.declared.reading.arguments.Progress.{Progress}
use Rattle.wl_server_client.specs.declared.objects.ClientObjects.{ClientObjects}
use Rattle.wl_server_client.specs.declared.objects.Kept.{Kept}
use Rattle.wl_server_client.specs.declared.reading.response.RequestFault.{RequestFault}
use Rattle.wl_server_client.specs.Ids.{ClientParts, IdParts}
use Rattle.wl_server_client.specs.Requests.{Converting, Outcome, Whole, Wrong, convert, is_valid_new, kinds_after, made_id, with_made, with_new_argument}

-- the argument is of the next type
abbrev pub IsNextKind : List ArgumentType → WireArgument → Type 0
IsNextKind [] a = ⊥
IsNextKind (k ∷ _) a = kind_of k ≡ type_of a

-- an argument that names no object, as it is handed out
abbrev pub plain : WireArgument → Option (Argument IdParts Token)
plain (arg.Int z) = Some (arg.Int z)
plain (arg.Uint n) = Some (arg.Uint n)
plain (arg.Fixed z) = Some (arg.Fixed z)
plain (arg.Str text) = Some (arg.Str text)
plain (arg.Object n) = None
plain (arg.NewId n) = None
plain (arg.Array bytes) = Some (arg.Array bytes)
plain (arg.Fd token) = Some (arg.Fd token)

module _ {U : Type 0} where
  abbrev pub objects_of : ClientObjects U → Objects (Kept U)
  objects_of objects = record { store = objects.map.store; last_serial = objects.last_serial }

  abbrev pub state : ClientObjects U → Progress → Converting U
  state objects progress = record {
    objects = objects_of objects;
    kinds = progress.kinds.now;
    asked = progress.asked.now;
    child = progress.child;
    created = progress.created;
  }

  -- the map has capacity for the object that the request may still make
  abbrev pub CanMake : Progress → ClientObjects U → Type 0
  CanMake progress objects =
      progress.child ≢ None → list_any is_new_id progress.kinds.now ≡ true → objects.map.reserved ≡ true

  -- an object is made at that number, or none may be made there and nothing is changed
  abbrev pub MakesObject : ClientParts → Objects (Kept U) → InterfaceId → ℕ → ℕ → Option IdParts → Objects (Kept U) → Type 0
  MakesObject client before i version n None after = (is_valid_new before n ≡ false) × (after ≡ before)
  MakesObject client before i version n (Some id) after =
      (is_valid_new before n ≡ true) × (after ≡ with_made before n i version) × (id ≡ made_id client before n i)

  -- what a new id became; its type was taken off the list before
  abbrev pub MakesNew : ClientParts → ℕ → Converting U → ℕ → Result IdParts RequestFault → Converting U → Type 0
  MakesNew client version before n (Ok id) after =
      with_new_argument client version before n before.child ≡ Ok (arg.NewId id, record after { kinds = kinds_after before.kinds })
  MakesNew client version before n (Err wrong) after =
      (with_new_argument client version before n before.child ≡ Err wrong) × (after.objects ≡ before.objects)

  -- an argument was converted, and stands behind those that were converted before it; or it is wrong
  abbrev pub Appends : ClientParts → ℕ → Converting U → List (Argument IdParts Token) → WireArgument → Result Unit RequestFault → Converting U → List (Argument IdParts Token) → Type 0
  Appends client version before done a (Ok _) after done' = convert client version before done (a ∷ []) ≡ Whole after done'
  Appends client version before done a (Err wrong) after done' =
      convert client version before done (a ∷ []) ≡ Wrong (length done') wrong after.objects

  -- the arguments were gone through to their end, with this outcome
  abbrev pub EndsWhole : Outcome U → Objects (Kept U) → Option IdParts → List (Argument IdParts Token) → Type 0
  EndsWhole (Whole c args) objects created args' = (c.objects ≡ objects) × (c.created ≡ created) × (args ≡ args')
  EndsWhole (Wrong _ _ _) objects created args' = ⊥
