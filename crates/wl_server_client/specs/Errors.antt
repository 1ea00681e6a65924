-- The errors that a server posts, and what an error does to its client.
use Rattle.std.specs.Prelude.{◌≡◌, ℕ, List, [], ◌∷◌, ◌++◌, Bool, true, false, not, ◌&&◌, ◌==◌, if◌then◌else◌, is_some, Result, MatchBool, codes}
use Rattle.std.specs.Fmt.{decimal}
use Rattle.std.specs.Str.Lossy.{utf8_lossy}
use Rattle.wl_wire.specs.declared.error.IoFault.{IoFault}
use Rattle.wl_wire.specs.declared.error.ProtocolError.{ProtocolError}
use Rattle.wl_wire.specs.declared.interface.InterfaceId.{InterfaceId}
use Rattle.wl_wire.specs.Table.{InterfaceRow, MessageRow, name_of}
use Rattle.wl_link.specs.Exchange.{Queue}
use Rattle.wl_link.specs.Puts.{Said}
use Rattle.wl_link.specs.Reader.{Verdict}
use Rattle.wl_server_client.specs.declared.notes.DisconnectReason.TheVariants.{ProtocolError as BrokeProtocol}
use Rattle.wl_server_client.specs.declared.reading.response.RequestFault.{RequestFault}
use Rattle.wl_server_client.specs.declared.reading.response.RequestFault.TheVariants as wrong
use Rattle.wl_server_client.specs.Deeds.{Deed}
use Rattle.wl_server_client.specs.Ids.{IdParts}
use Rattle.wl_server_client.specs.Part.{Part, named}
use Rattle.wl_server_client.specs.Telling.{Core, Tells, Told, closed_down, core_of, error_message, killed}

-- ---- texts

-- a new id that cannot be used
abbrev pub new_id_text : ℕ → List ℕ
new_id_text n = codes "Invalid new_id: " ++ decimal n ++ codes "."

-- a bind that is refused; the interface is named by the client, and may be no text
abbrev pub bind_text : List ℕ → ℕ → ℕ → List ℕ
bind_text name version global =
    codes "Invalid binding of " ++ (utf8_lossy name ++ (codes " version " ++ (decimal version ++ (codes " for global " ++ (decimal global ++ codes ".")))))

-- a request that the object's version lacks
abbrev pub since_text : ℕ → ℕ → ℕ → List ℕ → ℕ → List ℕ
since_text opcode version since interface number =
    codes "invalid method "
    ++ (decimal opcode
    ++ (codes " (since "
    ++ (decimal version ++ (codes " < " ++ (decimal since ++ (codes "), object " ++ (interface ++ (codes "#" ++ decimal number))))))))

-- the request's name after its interface's
abbrev pub request_name : List InterfaceRow → InterfaceId → MessageRow → List ℕ
request_name table i row = name_of table i.0 ++ (codes "." ++ row.name)

-- an argument that is wrong
abbrev pub fault_text : List InterfaceRow → InterfaceId → MessageRow → RequestFault → List ℕ
fault_text table i row (wrong.InvalidNewId n) = new_id_text n
fault_text table i row (wrong.UnknownId n) = codes "Unknown id: " ++ decimal n ++ codes "."
fault_text table i row (wrong.WrongInterface n asked got) =
    codes "Invalid object "
    ++ (decimal n
    ++ (codes " in request "
    ++ (request_name table i row
    ++ (codes ": expected " ++ (name_of table asked.0 ++ (codes " but got " ++ (name_of table got.0 ++ codes ".")))))))
fault_text table i row wrong.NullObject = codes "Invalid null object in request " ++ (request_name table i row ++ codes ".")

-- a request that would make more objects than the limit allows
abbrev pub limit_text : ℕ → List ℕ
limit_text limit = codes "Too many objects: at most " ++ decimal limit ++ codes "."

-- ---- an error

-- what a client is killed for: the code, the object, the interface that the id has, and the text
abbrev pub error_of : List InterfaceRow → IdParts → ℕ → List ℕ → ProtocolError
error_of table id code text = record {
  code = code;
  object_id = id.number;
  object_interface = name_of table id.interface.0;
  message = utf8_lossy text;
}

module _ {U C : Type 0} where
  -- the error is put if the client is not killed and the object is kept
  abbrev pub error_messages : Core U C → IdParts → ℕ → List ℕ → List Said
  error_messages c id code text =
      if not c.is_killed && is_some (named c.store id) then (error_message id.number code text ∷ []) else []

  -- An error on an object: it is put, then what waits is flushed, even if the put failed, and the client is killed: for the
  -- error, or as closed if the put failed. The texts are made first. If there is no memory for them, nothing is put, and the
  -- client is killed as closed. For a killed client no texts are made.
  abbrev pub posts : List InterfaceRow → Core U C → IdParts → ℕ → List ℕ → Verdict (Core U C) (Told U)
  posts table c id code text = record {
    core = c;
    puts = error_messages c id code text;
    flushes = true;
    last = λ d. killed d (BrokeProtocol (error_of table id code text));
    asks = not c.is_killed;
    starved = closed_down c;
    events = λ d. [];
  }

  -- the program posts an error on an object; if the id is null, nothing is done
  abbrev pub PostsError : {T : Type 0} → (T → Queue → Result ℕ IoFault → T → Type 0) → List InterfaceRow → Part T U C → IdParts → ℕ → List ℕ
      → Bool → List (Deed U) → Part T U C → Type 0
  PostsError sends table before id code text refused did after =
      MatchBool (id.number == 0) ((refused ≡ false) × (did ≡ []) × (after ≡ before))
      (Tells sends (posts table (core_of before) id code text) before.link refused did after)
