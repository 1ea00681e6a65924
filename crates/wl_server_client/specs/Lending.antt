-- A client that lends its transport.
use Rattle.std.specs.Borrow.{Lends, MutBor, Fml}
use denote.RattleType.{RattleType}
use Rattle.wl_link.specs.Link.{with_transport}
use Rattle.wl_server_client.specs.Part.{with_link}
use Rattle.wl_server_client.specs.Stored.{Stored}
use Rattle.wl_server_client.specs.contracts.client.Client as client

-- the client with another value of its transport
abbrev pub over_transport : {T U C : Type 0} → Stored T U C → T → Stored T U C
over_transport s transport = record s { part = with_link s.part (with_transport s.part.link transport) }

-- after the loan the client has the transport as it was left, and all else as it was
abbrev pub LendsTransportOf : (T U C : RattleType) → MutBor (Stored T.Denot U.Denot C.Denot) → MutBor T.Denot → Fml
LendsTransportOf T U C c transport = Lends (client.the_row T U C) T c transport (λ t. over_transport c.now t)
