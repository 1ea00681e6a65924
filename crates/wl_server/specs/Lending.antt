-- A server that lends the transport of a client.
use Rattle.std.specs.Prelude.{Result, option_map, slice_set}
use Rattle.std.specs.Borrow.{LendsIfOk, MutBor, Fml}
use denote.RattleType.{RattleType}
use Rattle.wl_server_client.specs.declared.error.InvalidId.{InvalidId}
use Rattle.wl_server_model.specs.Backend.{BackendState}
use Rattle.wl_server_client.specs.Ids.{ClientParts}
use Rattle.wl_server_model.specs.Server.{ServerState, stored_at}
use Rattle.wl_server.specs.contracts.backend.Backend as backend
use Rattle.wl_server_client.specs.Lending.{over_transport}

module _ {T U G C : Type 0} where
  -- the server with another value of the transport of the client at a slot
  abbrev pub server_over : ServerState T U G C → ClientParts → T → ServerState T U G C
  server_over s id transport = record s { clients = slice_set s.clients id.slot (option_map (λ c. over_transport c transport) (stored_at id.slot s.clients)) }

  abbrev pub state_over : BackendState T U G C → ClientParts → T → BackendState T U G C
  state_over b id transport = record b { server = server_over b.server id transport }

-- after the loan the server has the transport as it was left, and all else as it was
abbrev pub LendsServerTransport : (T U G C : RattleType) → MutBor (BackendState T.Denot U.Denot G.Denot C.Denot) → ClientParts → Result (MutBor T.Denot) InvalidId → Fml
LendsServerTransport T U G C b id transport = LendsIfOk (backend.the_row T U G C) T b transport (λ t. state_over b.now id t) b.now
