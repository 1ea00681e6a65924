-- What a request that is handed out where it stands hands out: its arguments are read and named in one pass, from left to right.
use Rattle.std.specs.Prelude.{◌≡◌, ◌≤◌, ℕ, Bool, false, List, [], ◌∷◌, ◌++◌, ◌==◌, if◌then◌else◌, Option, None, Some, Ok, Err, MatchOption, length}
use Rattle.wl_wire.specs.declared.argument.Argument.{Argument}
use Rattle.wl_wire.specs.declared.argument.Argument.TheVariants as arg
use Rattle.wl_wire.specs.declared.argument.ArgumentType.{ArgumentType}
use Rattle.wl_wire.specs.declared.argument.ArgumentType.TheVariants as kind
use Rattle.wl_wire.specs.declared.argument.Token.{Token}
use Rattle.wl_wire.specs.Argument.{WireArgument}
use Rattle.wl_wire.specs.Parse.{IsWhole, fd_count, payload_of}
use Rattle.wl_wire.specs.Pieces.{◌>>=◌, argument_at}
use Rattle.wl_wire.specs.Reading.{Reads}
use Rattle.wl_wire.specs.Table.{MessageRow, display_id, message_row, registry_id}
use Rattle.wl_link.specs.Identity.{Objects}
use Rattle.wl_link.specs.Link.{LinkState}
use Rattle.wl_server_client.specs.declared.objects.Kept.{Kept}
use Rattle.wl_server_client.specs.declared.reading.arguments.Progress.{Progress}
use Rattle.wl_server_client.specs.declared.reading.front_request.FrontRequest.{FrontRequest}
use Rattle.wl_server_client.specs.declared.reading.front_request.Sender.{Sender}
use Rattle.wl_server_client.specs.declared.reading.in_place.naming.Naming.{Naming}
use Rattle.wl_server_client.specs.Ids.{ClientParts, IdParts}
use Rattle.wl_server_client.specs.Limited.{is_above, limit_passed}
use Rattle.wl_server_client.specs.Requests.{Converting, Converted, Whole, convert, convert_one, made_id, start, with_made}
use Rattle.wl_server_client.specs.Inside.Conversion.{objects_of}

-- A request of this row to an object of this kind may be handed out where it stands: the object is neither a display nor a
-- registry, and it is of a version that has the request.
pub record MayStand (row : MessageRow) (sender : Sender) : Type 0 where
  pub no_display : (sender.interface.0 == display_id.0) ≡ false
  pub no_registry : (sender.interface.0 == registry_id.0) ≡ false
  pub since : row.since ≤ sender.version

-- ---- how far the arguments were gone through

module _ {U : Type 0} where
  -- the objects with the one that the request makes, if it does, which is of this version
  abbrev pub with_created : ℕ → Objects (Kept U) → Option IdParts → Objects (Kept U)
  with_created version objects None = objects
  with_created version objects (Some id) = with_made objects id.number id.interface version

  abbrev pub converting : Naming U → Progress → Converting U
  converting naming progress = record {
    objects = with_created naming.version (objects_of naming.objects.now) progress.created;
    kinds = progress.kinds.now;
    asked = progress.asked.now;
    child = progress.child;
    created = progress.created;
  }

  -- the object that the request makes has the id of a new object, and the request makes no other
  abbrev pub IsMade : Naming U → Progress → Type 0
  IsMade naming progress =
      MatchOption progress.created (Unit {0})
      (λ id. (progress.child ≡ None) × (id ≡ made_id naming.client (objects_of naming.objects.now) id.number id.interface))

-- ---- the arguments, named

-- the type of an integer or a fixed-point number
abbrev pub IsPlainNumber : ArgumentType → Type 0
IsPlainNumber kind.Int = Unit {0}
IsPlainNumber kind.Uint = Unit {0}
IsPlainNumber kind.Fixed = Unit {0}
IsPlainNumber _ = ⊥

-- the argument is a new id above the limit
abbrev pub is_beyond : Option ℕ → WireArgument → Bool
is_beyond limit (arg.NewId n) = is_above limit n
is_beyond limit _ = false

module _ {U : Type 0} (client : ClientParts) (limit : Option ℕ) (version : ℕ) where
  -- what was converted, behind what was before it, with what is left of the bytes and the tokens
  abbrev pub put_behind : List (Argument IdParts Token) → Converted U → List ℕ → List Token
      → Option (Converting U × List (Argument IdParts Token) × List ℕ × List Token)
  put_behind done (Ok x) rest left = Some (x.1, done ++ x.0 ∷ [], rest, left)
  put_behind done (Err wrong) rest left = None

  -- the argument of this type at the front, named; none if it is wrong, or a new id above the limit
  abbrev pub with_next : Converting U → List (Argument IdParts Token) → ArgumentType → List ℕ → List Token
      → Option (Converting U × List (Argument IdParts Token) × List ℕ × List Token)
  with_next c done k bytes fds =
      argument_at k bytes fds >>= λ x. if is_beyond limit x.0 then None else put_behind done (convert_one client version c x.0) x.1 x.2

  -- all of them
  abbrev pub named : Converting U → List (Argument IdParts Token) → List ArgumentType → List ℕ → List Token
      → Option (Converting U × List (Argument IdParts Token) × List Token)
  named c done [] bytes fds = Some (c, done, fds)
  named c done (k ∷ kinds) bytes fds = with_next c done k bytes fds >>= λ x. named x.0 x.1 kinds x.2 x.3

module _ {U : Type 0} where
  -- the argument of this type at the front was put behind those that were, and this is left of the bytes and the tokens
  abbrev pub PutsNext : Naming U → Progress → List (Argument IdParts Token) → ArgumentType → List ℕ → List Token
      → Progress → List (Argument IdParts Token) → List ℕ → List Token → Type 0
  PutsNext naming before done k bytes fds after done' rest left =
      with_next naming.client naming.limit naming.version (record (converting naming before) { kinds = k ∷ before.kinds.now }) done k bytes fds
      ≡ Some (converting naming after, done', rest, left)

  -- ---- the request

  -- The payload is arguments of this row's request, to an object of this version, and they become what is handed out: the objects
  -- are then so, and this is the one that was made. No new id among them is above the limit. So many tokens are theirs.
  pub record HandsOut (client : ClientParts) (limit : Option ℕ) (version : ℕ) (objects : Objects (Kept U)) (row : MessageRow) (payload : List ℕ) (fds : List Token)
      (created : Option IdParts) (tokens : ℕ) (after : Objects (Kept U)) (handed : List (Argument IdParts Token)) : Type 0 where
    pub args : List WireArgument
    pub reads : Reads row.signature args payload fds
    pub takes : tokens ≡ fd_count row.signature
    pub there : tokens ≤ length fds
    pub within : limit_passed limit args ≡ None
    pub done : Converting U
    pub converts : convert client version (start objects row) [] args ≡ Whole done handed
    pub objects_are : done.objects ≡ after
    pub created_is : done.created ≡ created

  -- the arguments of the request at the front were put so, and it made this object
  pub record IsPut {T : Type 0} (client : ClientParts) (limit : Option ℕ) (objects : Objects (Kept U)) (link : LinkState T) (request : FrontRequest) (after : Objects (Kept U))
      (handed : List (Argument IdParts Token)) (created : Option IdParts) (tokens : ℕ) : Type 0 where
    pub stands : MayStand (message_row request.desc.now) request.sender
    pub whole : IsWhole link.incoming.bytes
    pub hands : HandsOut client limit request.sender.version objects (message_row request.desc.now) (payload_of link.incoming.bytes) link.incoming.tokens created tokens after handed
