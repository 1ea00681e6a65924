-- A link that lends its transport.
use Rattle.std.specs.Borrow.{Lends, MutBor, Fml}
use denote.RattleType.{RattleType}
use Rattle.wl_link.specs.Link.{LinkState, with_transport}
use Rattle.wl_link.specs.contracts.buffered_socket.BufferedSocket.{the_row}

-- after the loan the link has the transport as it was left, and all else as it was
abbrev pub LendsTransport : (T : RattleType) → MutBor (LinkState T.Denot) → MutBor T.Denot → Fml
LendsTransport T l transport = Lends (the_row T) T l transport (λ t. with_transport l.now t)
