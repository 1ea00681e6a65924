-- What a request of a client does to its objects.
--
-- Its arguments go from left to right. The number of an object becomes the id of the object that holds it; each object
-- argument takes the next of the table's interfaces. A new id makes an object.
use Rattle.std.specs.Prelude.{ℕ, ◌+◌, List, [], ◌∷◌, ◌++◌, Bool, true, false, not, ◌==◌, ◌&&◌, if◌then◌else◌, Option, None, Some, Result, Ok, Err, length}
use Rattle.wl_wire.specs.declared.argument.AllowNull.TheVariants.{Yes}
use Rattle.wl_wire.specs.declared.argument.Argument.{Argument}
use Rattle.wl_wire.specs.declared.argument.Argument.TheVariants as arg
use Rattle.wl_wire.specs.declared.argument.ArgumentType.{ArgumentType}
use Rattle.wl_wire.specs.declared.argument.ArgumentType.TheVariants as kind
use Rattle.wl_wire.specs.declared.argument.Token.{Token}
use Rattle.wl_wire.specs.declared.interface.InterfaceId.{InterfaceId}
use Rattle.wl_wire.specs.Argument.{WireArgument}
use Rattle.wl_wire.specs.MessageRows.{fits, next_interface, rest_of}
use Rattle.wl_wire.specs.Table.{MessageRow}
use Rattle.wl_link.specs.declared.object.Object.{Object}
use Rattle.wl_link.specs.Identity.{Objects}
use Rattle.wl_link.specs.Store.{Store, held, is_free, is_server_number, stored}
use Rattle.wl_server_client.specs.declared.objects.Kept.{Kept}
use Rattle.wl_server_client.specs.declared.reading.response.RequestFault.{RequestFault}
use Rattle.wl_server_client.specs.declared.reading.response.RequestFault.TheVariants as wrong
use Rattle.wl_server_client.specs.Ids.{ClientParts, IdParts}
use Rattle.wl_server_client.specs.Part.{fresh_object, id_at, last_possible_serial, null_id}

-- how far the arguments were gone through: the objects so far, the types and the interfaces not taken yet, the interface
-- of the object that the request may yet make, and the one that it made
pub record Converting (U : Type 0) : Type 0 where
  pub objects : Objects (Kept U)
  pub kinds : List ArgumentType
  pub asked : List InterfaceId
  pub child : Option InterfaceId
  pub created : Option IdParts

-- what an argument becomes, and how far the arguments were gone through then; or what is wrong with it
abbrev pub Converted : Type 0 → Type 0
Converted U = Result (Argument IdParts Token × Converting U) RequestFault

-- what the arguments became; or the place of the first that is wrong, what is wrong with it, and the objects as they then are
pub data Outcome (U : Type 0) : Type 0 where
  Whole : Converting U → List (Argument IdParts Token) → Outcome U
  Wrong : ℕ → RequestFault → Objects (Kept U) → Outcome U

-- null may stand at the next place
abbrev pub allows_null : List ArgumentType → Bool
allows_null (kind.Object Yes ∷ _) = true
allows_null _ = false

abbrev pub kinds_after : List ArgumentType → List ArgumentType
kinds_after [] = []
kinds_after (_ ∷ kinds) = kinds

module _ {U : Type 0} where
  -- ---- new objects

  -- the client may make an object at that number: it is one of its range, and free, and a serial is left
  abbrev pub is_valid_new : Objects (Kept U) → ℕ → Bool
  is_valid_new objects n =
      not (is_server_number n) && (is_free objects.store n && not (objects.last_serial == last_possible_serial))

  -- it has no user data yet
  abbrev pub made_object : Objects (Kept U) → InterfaceId → ℕ → Object (Kept U)
  made_object objects i version = fresh_object i version (objects.last_serial + 1) None

  abbrev pub with_made : Objects (Kept U) → ℕ → InterfaceId → ℕ → Objects (Kept U)
  with_made objects n i version =
      record { store = stored objects.store n (made_object objects i version); last_serial = objects.last_serial + 1 }

  abbrev pub made_id : ClientParts → Objects (Kept U) → ℕ → InterfaceId → IdParts
  made_id client objects n i = record { number = n; serial = objects.last_serial + 1; client = client; interface = i }

  -- ---- arguments

  abbrev pub object_found : ClientParts → InterfaceId → ℕ → Option (Object (Kept U)) → Result IdParts RequestFault
  object_found client asked n None = Err (wrong.UnknownId n)
  object_found client asked n (Some x) =
      if fits asked x.interface then Ok (id_at client n x) else Err (wrong.WrongInterface n asked x.interface)

  -- the id that the number of an object becomes
  abbrev pub object_argument : ClientParts → Store (Kept U) → Bool → InterfaceId → ℕ → Result IdParts RequestFault
  object_argument client store null asked n =
      if n == 0
      then (if null then Ok (null_id client) else Err wrong.NullObject)
      else object_found client asked n (held store n)

  -- an argument that is handed out as it came
  abbrev pub passed : Converting U → Argument IdParts Token → Converted U
  passed c a = Ok (a, record c { kinds = kinds_after c.kinds })

  abbrev pub with_object_argument : Converting U → Result IdParts RequestFault → Converted U
  with_object_argument c (Ok id) = Ok (arg.Object id, record c { kinds = kinds_after c.kinds; asked = rest_of c.asked })
  with_object_argument c (Err wrong) = Err wrong

  -- a request makes one object at most, of the interface that the table names, of this version
  abbrev pub with_new_argument : ClientParts → ℕ → Converting U → ℕ → Option InterfaceId → Converted U
  with_new_argument client version c n None = Err (wrong.InvalidNewId n)
  with_new_argument client version c n (Some i) =
      if is_valid_new c.objects n
      then Ok (
        arg.NewId (made_id client c.objects n i),
        record {
          objects = with_made c.objects n i version;
          kinds = kinds_after c.kinds;
          asked = c.asked;
          child = None;
          created = Some (made_id client c.objects n i);
        },
      )
      else Err (wrong.InvalidNewId n)

  -- what an argument of a request becomes; its object has this version
  abbrev pub convert_one : ClientParts → ℕ → Converting U → WireArgument → Converted U
  convert_one client version c (arg.Int z) = passed c (arg.Int z)
  convert_one client version c (arg.Uint n) = passed c (arg.Uint n)
  convert_one client version c (arg.Fixed z) = passed c (arg.Fixed z)
  convert_one client version c (arg.Str text) = passed c (arg.Str text)
  convert_one client version c (arg.Object n) =
      with_object_argument c (object_argument client c.objects.store (allows_null c.kinds) (next_interface c.asked) n)
  convert_one client version c (arg.NewId n) = with_new_argument client version c n c.child
  convert_one client version c (arg.Array bytes) = passed c (arg.Array bytes)
  convert_one client version c (arg.Fd token) = passed c (arg.Fd token)

  abbrev pub going_on : Converted U → ℕ → Objects (Kept U) → (Argument IdParts Token → Converting U → Outcome U) → Outcome U
  going_on (Ok next) place objects on = on next.0 next.1
  going_on (Err wrong) place objects on = Wrong place wrong objects

  -- all arguments, from left to right, after those that were gone through
  abbrev pub convert : ClientParts → ℕ → Converting U → List (Argument IdParts Token) → List WireArgument → Outcome U
  convert client version c done [] = Whole c done
  convert client version c done (a ∷ args) =
      going_on (convert_one client version c a) (length done) c.objects (λ b next. convert client version next (done ++ b ∷ []) args)

  abbrev pub start : Objects (Kept U) → MessageRow → Converting U
  start objects row = record {
    objects = objects;
    kinds = row.signature;
    asked = row.arg_interfaces;
    child = row.child_interface;
    created = None;
  }
