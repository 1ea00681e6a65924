use Rattle.std.proofs.Common.{OnOk, subst}
use Rattle.wl_wire.specs.Message.{IsMessage, WireMessage}
use Rattle.wl_wire.proofs.Pieces.{own_numbers}
use Rattle.wl_link.specs.NothingLost.{WriteKeeps}
use Rattle.wl_link.specs.Link.{Wrote}
use Rattle.wl_link.proofs.buffered_socket.BufferedSocket.write_message.Goals as goal

pub returns-clause-wrote : goal.returns-clause-wrote
returns-clause-wrote g c =
    subst (λ (m : WireMessage). Wrote g.T.Transport.sends c.args.self.now m c.write_numbered.result c.write_numbered.new.self) (own_numbers c.args.message.now) c.write_numbered.ensures.wrote

pub returns-clause-kept : goal.returns-clause-kept
returns-clause-kept g c =
    subst (λ (m : WireMessage). WriteKeeps g.T.Transport.sends c.args.self.now m c.write_numbered.result c.write_numbered.new.self) (own_numbers c.args.message.now) c.write_numbered.ensures.kept

pub returns-clause-message : goal.returns-clause-message
returns-clause-message g c =
    subst (λ (m : WireMessage). OnOk c.write_numbered.result (IsMessage m)) (own_numbers c.args.message.now) c.write_numbered.ensures.message
