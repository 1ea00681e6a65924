-- A session that lends its transport.
use Rattle.std.specs.Borrow.{Lends, MutBor, Fml}
use denote.RattleType.{RattleType}
use Rattle.wl_client.specs.Session.{ClientState, over_transport}
use Rattle.wl_client.specs.contracts.backend.Backend.{the_row}

-- the same for a client
abbrev pub client_over : {T U : Type 0} → ClientState T U → T → ClientState T U
client_over c transport = record c { session = over_transport c.session transport }

-- after the loan the client has the transport as it was left, and all else as it was
abbrev pub LendsClientTransport : (T U : RattleType) → MutBor (ClientState T.Denot U.Denot) → MutBor T.Denot → Fml
LendsClientTransport T U c transport = Lends (the_row T U) T c transport (λ t. client_over c.now t)
