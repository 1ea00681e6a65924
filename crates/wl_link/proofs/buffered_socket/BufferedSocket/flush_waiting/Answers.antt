use Rattle.std.proofs.Common.{ℕ, Ok, Err, subst, arith}
use Rattle.std.proofs.lemmas.List.{nil_from_length}
use Rattle.wl_link.specs.Exchange.{Queue}
use Rattle.wl_link.specs.Link.{offer_of}
use Rattle.wl_link.specs.Inside.WaitingBytes.{beside}
use Rattle.wl_link.proofs.Calls.NothingLostLaws.{flush_keeps, flush_drains}
use Rattle.wl_link.proofs.Calls.FlushLaws.{some_bytes, offered, flush_done, flush_fails, flush_stops, flush_goes_on}
use Rattle.wl_link.proofs.buffered_socket.BufferedSocket.flush_waiting.Goals as goal

pub returns-in-Err-clause-flushed : goal.returns-in-Err-clause-flushed
returns-in-Err-clause-flushed g c =
    let q = beside c.loop-self.self-inside.outgoing.bytes c.loop-self.self-inside.tokens_out in
    let offer = offered q _ _ _ _ c.first_bytes-bytes.ensures c.bytes.ensures c.len-in-loop-self.ensures c.first-fds.ensures in
    flush_fails g.T.Transport.sends c.args.self.now _ c.in-Err.fault c.send_msg.new.self c.loop-self.invariant.0
    (some_bytes _ _ c.len.ensures.len c.loop-self-test.true)
    (subst (λ (o : Queue). g.T.Transport.sends c.loop-self.self-inside.transport o (Err c.in-Err.fault) c.send_msg.new.self) offer c.in-Err.ensures)

pub returns-in-Ok-eq0-clause-flushed : goal.returns-in-Ok-eq0-clause-flushed
returns-in-Ok-eq0-clause-flushed g c =
    let q = beside c.loop-self.self-inside.outgoing.bytes c.loop-self.self-inside.tokens_out in
    let offer = offered q _ _ _ _ c.first_bytes-bytes.ensures c.bytes.ensures c.len-in-loop-self.ensures c.first-fds.ensures in
    let send = subst (λ (o : Queue). g.T.Transport.sends c.loop-self.self-inside.transport o (Ok c.in-Ok-eq0.field-0) c.send_msg.new.self) offer c.in-Ok-eq0.ensures in
    rw c.drop_first.ensures
    (flush_stops g.T.Transport.sends c.args.self.now _ c.send_msg.new.self c.loop-self.invariant.0
    (some_bytes _ _ c.len.ensures.len c.loop-self-test.true)
    (subst (λ (n : ℕ). g.T.Transport.sends c.loop-self.self-inside.transport (offer_of q) (Ok n) c.send_msg.new.self) c.in-Ok-eq0.field-0-test send))

pub loop-self-preserved : goal.loop-self-preserved
loop-self-preserved g c =
    let q = beside c.loop-self.self-inside.outgoing.bytes c.loop-self.self-inside.tokens_out in
    let offer = offered q _ _ _ _ c.first_bytes-bytes.ensures c.bytes.ensures c.len-in-loop-self.ensures c.first-fds.ensures in (
      rw (c.consume.ensures, c.drop_first-in-Ok.ensures)
          (flush_goes_on g.T.Transport.sends c.args.self.now _ c.in-Ok.count c.send_msg.new.self c.loop-self.invariant.0
          (some_bytes _ _ c.len.ensures.len c.loop-self-test.true) c.in-Ok.count-test.1
          (subst (λ (o : Queue). g.T.Transport.sends c.loop-self.self-inside.transport o (Ok c.in-Ok.count) c.send_msg.new.self) offer c.in-Ok.ensures)),
      c.loop-self.invariant.1,
    )

pub returns-clause-flushed : goal.returns-clause-flushed
returns-clause-flushed g c =
    flush_done g.T.Transport.sends c.args.self.now _ c.loop-self.invariant.0 (nil_from_length c.loop-self.self-inside.outgoing.bytes (omega (arith, c.len.ensures.len)))

pub returns-in-Err-clause-kept : goal.returns-in-Err-clause-kept
returns-in-Err-clause-kept g c = flush_keeps g.T.Transport.sends (record { law = g.met.T.Transport.within_offer }) c.args.self.now _ _ (returns-in-Err-clause-flushed g c)

pub returns-in-Err-clause-drained : goal.returns-in-Err-clause-drained
returns-in-Err-clause-drained g c = flush_drains g.T.Transport.sends (record { law = g.met.T.Transport.within_offer }) c.args.self.now _ _ (returns-in-Err-clause-flushed g c)

pub returns-in-Ok-eq0-clause-kept : goal.returns-in-Ok-eq0-clause-kept
returns-in-Ok-eq0-clause-kept g c = flush_keeps g.T.Transport.sends (record { law = g.met.T.Transport.within_offer }) c.args.self.now _ _ (returns-in-Ok-eq0-clause-flushed g c)

pub returns-in-Ok-eq0-clause-drained : goal.returns-in-Ok-eq0-clause-drained
returns-in-Ok-eq0-clause-drained g c = flush_drains g.T.Transport.sends (record { law = g.met.T.Transport.within_offer }) c.args.self.now _ _ (returns-in-Ok-eq0-clause-flushed g c)

pub returns-clause-kept : goal.returns-clause-kept
returns-clause-kept g c = flush_keeps g.T.Transport.sends (record { law = g.met.T.Transport.within_offer }) c.args.self.now _ _ (returns-clause-flushed g c)

pub returns-clause-drained : goal.returns-clause-drained
returns-clause-drained g c = flush_drains g.T.Transport.sends (record { law = g.met.T.Transport.within_offer }) c.args.self.now _ _ (returns-clause-flushed g c)
