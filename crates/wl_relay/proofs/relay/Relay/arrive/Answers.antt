-- That what came is read behind what was there.
use Rattle.std.proofs.Common.{◌≡◌, ap, subst, sym, ◌∙◌, arith}
use Rattle.std.proofs.lemmas.Grind.{common_steps}
use Rattle.wl_link.specs.Exchange.{Queue, joined}
use Rattle.wl_link.specs.Link.{LinkState}
use Rattle.wl_link.specs.Mailbox.{MailboxState}
use Rattle.wl_link.specs.MailboxLink.{still_to_read, still_to_send}
use Rattle.wl_follow.specs.Sides.{other_side}
use Rattle.wl_follow.specs.declared.side.Side.{Side}
use Rattle.wl_relay.specs.Flow.{RelayState, not_received, to_read, to_send}
use Rattle.wl_relay.proofs.Lines.{arrives_logged, put_behind}
use Rattle.wl_relay.proofs.relay.Relay.arrive.Goals as goal
use Rattle.wl_relay.proofs.relay.Relay.arrive.Goals.{in-Client+in_ok-put_in-in-Client, in-Server+in_ok-put_in-in-Server}

pub returns-in-Ok-clause-logged : goal.returns-in-Ok-clause-logged
returns-in-Ok-clause-logged c =
    let came : Queue = record { bytes = c.args.bytes.now; tokens = c.args.tokens.now } in
    let mid : RelayState = c.match-side.self in
    let before : RelayState = c.args.self.now in
    let same_known : mid.known ≡ before.known
    = elim c.match-side.branch [
      | in-Client+in_ok-put_in-in-Client w ↦ ap (λ (r : RelayState). r.known) w.self-is ∙ ap (λ (r : RelayState). r.known) c.self.view_is
      | in-Server+in_ok-put_in-in-Server w ↦ ap (λ (r : RelayState). r.known) w.self-is ∙ ap (λ (r : RelayState). r.known) c.self.view_is
    ] in
    let same_table : mid.table ≡ before.table
    = elim c.match-side.branch [
      | in-Client+in_ok-put_in-in-Client w ↦ ap (λ (r : RelayState). r.table) w.self-is ∙ ap (λ (r : RelayState). r.table) c.self.view_is
      | in-Server+in_ok-put_in-in-Server w ↦ ap (λ (r : RelayState). r.table) w.self-is ∙ ap (λ (r : RelayState). r.table) c.self.view_is
    ] in
    let behind : to_read c.args.side mid ≡ joined (to_read c.args.side before) came
    = elim c.match-side.branch [
      | in-Client+in_ok-put_in-in-Client w ↦ subst (λ (s : Side). to_read s mid ≡ joined (to_read s before) came) (sym w.in-Client.is)
          (ap (λ (r : RelayState). still_to_read r.client) w.self-is
          ∙ put_behind c.self.inside.client w.put_in.new.link came w.in_ok-put_in-in-Client.ensures.put
          ∙ ap (λ (r : RelayState). joined (still_to_read r.client) came) c.self.view_is)
      | in-Server+in_ok-put_in-in-Server w ↦ subst (λ (s : Side). to_read s mid ≡ joined (to_read s before) came) (sym w.in-Server.is)
          (ap (λ (r : RelayState). still_to_read r.server) w.self-is
          ∙ put_behind c.self.inside.server w.put_in-in-Server.new.link came w.in_ok-put_in-in-Server.ensures.put
          ∙ ap (λ (r : RelayState). joined (still_to_read r.server) came) c.self.view_is)
    ] in
    let arrived : not_received c.args.side mid ≡ joined (not_received c.args.side before) came
    = elim c.match-side.branch [
      | in-Client+in_ok-put_in-in-Client w ↦ subst (λ (s : Side). not_received s mid ≡ joined (not_received s before) came) (sym w.in-Client.is)
          (ap (λ (r : RelayState). r.client.transport.arrived) w.self-is
          ∙ ap (λ (l : LinkState MailboxState). l.transport.arrived) w.in_ok-put_in-in-Client.ensures.put
          ∙ ap (λ (r : RelayState). joined r.client.transport.arrived came) c.self.view_is)
      | in-Server+in_ok-put_in-in-Server w ↦ subst (λ (s : Side). not_received s mid ≡ joined (not_received s before) came) (sym w.in-Server.is)
          (ap (λ (r : RelayState). r.server.transport.arrived) w.self-is
          ∙ ap (λ (l : LinkState MailboxState). l.transport.arrived) w.in_ok-put_in-in-Server.ensures.put
          ∙ ap (λ (r : RelayState). joined r.server.transport.arrived came) c.self.view_is)
    ] in
    let same_out : to_send (other_side c.args.side) mid ≡ to_send (other_side c.args.side) before
    = elim c.match-side.branch [
      | in-Client+in_ok-put_in-in-Client w ↦ subst (λ (s : Side). to_send (other_side s) mid ≡ to_send (other_side s) before) (sym w.in-Client.is)
          (ap (λ (r : RelayState). still_to_send r.server) w.self-is ∙ ap (λ (r : RelayState). still_to_send r.server) c.self.view_is)
      | in-Server+in_ok-put_in-in-Server w ↦ subst (λ (s : Side). to_send (other_side s) mid ≡ to_send (other_side s) before) (sym w.in-Server.is)
          (ap (λ (r : RelayState). still_to_send r.client) w.self-is ∙ ap (λ (r : RelayState). still_to_send r.client) c.self.view_is)
    ] in
    arrives_logged c.args.side came before mid c.receive_from.new.self same_known same_table behind arrived same_out c.in-Ok.ensures.logged

pub returns-in-Ok-clause-arrived : goal.returns-in-Ok-clause-arrived
returns-in-Ok-clause-arrived c = grind (arith, common_steps)
