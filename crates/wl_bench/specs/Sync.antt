-- The first exchange of a client and a server.
use Rattle.std.specs.Prelude.{◌≡◌, ℕ, List, [], ◌∷◌, Some, Ok}
use Rattle.std.specs.List.{flat_map}
use Rattle.wl_wire.specs.Argument.{WireArgument}
use Rattle.wl_wire.specs.Message.{WireMessage}
use Rattle.wl_wire.specs.Table.{fixed_rows}
use Rattle.wl_link.specs.Exchange.{Queue}
use Rattle.wl_link.specs.Link.{IsFresh as IsFreshLink, LinkState}
use Rattle.wl_link.specs.Script.{Script}
use Rattle.wl_client.specs.Session.{SessionState, IsConnected}
use Rattle.wl_server_client.specs.Globals.{new_offer}
use Rattle.wl_server_client.specs.Ids.{ClientParts}
use Rattle.wl_server_model.specs.Lookups.{client_of, transport_of}
use Rattle.wl_server_client.specs.Part.{fresh_part}
use Rattle.wl_server_model.specs.Server.{ServerState}

-- a message of one argument
abbrev pub one_argument : ℕ → ℕ → WireArgument → WireMessage
one_argument sender opcode argument = record { sender = sender; opcode = opcode; args = argument ∷ [] }

-- the bytes of what was sent, one send after another
abbrev pub all_bytes : List Queue → List ℕ
all_bytes sent = flat_map (λ (q : Queue). q.bytes) sent

-- a session over an empty script and the fixed interfaces alone, in which nothing has happened
abbrev pub IsFresh : {U : Type 0} → SessionState Script U → Type 0
IsFresh s = IsConnected fixed_rows (record { arrivals = []; answers = []; sent = [] }) s

-- ---- the request

-- `wl_display.sync` with the new object 2
abbrev pub request_bytes : List ℕ
request_bytes = 0x01 ∷ 0 ∷ 0 ∷ 0 ∷ 0x00 ∷ 0 ∷ 0x0c ∷ 0 ∷ 0x02 ∷ 0 ∷ 0 ∷ 0 ∷ []

-- ---- the server's answer

-- the callback 2 is done, and the number 2 is free again
abbrev pub answer_bytes : List ℕ
answer_bytes =
    0x02 ∷ 0 ∷ 0 ∷ 0 ∷ 0x00 ∷ 0 ∷ 0x0c ∷ 0 ∷ 0x00 ∷ 0 ∷ 0 ∷ 0
    ∷ 0x01 ∷ 0 ∷ 0 ∷ 0 ∷ 0x01 ∷ 0 ∷ 0x0c ∷ 0 ∷ 0x02 ∷ 0 ∷ 0 ∷ 0 ∷ []

-- a transport from which these bytes come
abbrev pub bringing : List ℕ → Script
bringing bytes = record { arrivals = Ok (record { bytes = bytes; tokens = [] }) ∷ []; answers = []; sent = [] }

module _ {U G C : Type 0} where
  -- a server over the fixed interfaces alone took a client from which the request comes, and nothing has happened since
  abbrev pub HasAsked : ServerState Script U G C → ClientParts → Type 0
  HasAsked s id =
      (link : LinkState Script) × (client_data : C) × IsFreshLink (bringing request_bytes) (Some 4096) link
      × (client_of s id ≡ Some (fresh_part link client_data)) × (s.offer ≡ new_offer fixed_rows)

  -- the client was sent these bytes
  abbrev pub WasSent : ServerState Script U G C → ClientParts → List ℕ → Type 0
  WasSent s id bytes = (t : Script) × (transport_of s id ≡ Some t) × (all_bytes t.sent ≡ bytes)
