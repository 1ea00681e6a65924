use Rattle.wl_client.specs.Requests.{session_content}
use Rattle.wl_client.proofs.Sending.{sent_with_child}
use Rattle.wl_client.proofs.backend.Backend.send_with_child.Goals as goal

pub returns : goal.returns
returns g c =
    sent_with_child g.T.Transport.sends c.args.self.now.session c.next_object.new.self.session _ (session_content c.args.message.now) c.args.child c.args.user_data c.args.is_destructor
    c.in_ok-new.new _ c.in_ok-new.ensures.next c.in_ok-new.ensures.unchanged c.send.ensures
