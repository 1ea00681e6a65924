-- That what leaves one link stands on the other.
use Rattle.std.proofs.Common.{rules, arith, ap, ◌≡◌, ◌∙◌, List, drop, take}
use Rattle.std.proofs.lemmas.Grind.{common_steps}
use Rattle.wl_wire.specs.declared.argument.Token.{Token}
use Rattle.wl_link.specs.Exchange.{Queue, joined}
use Rattle.wl_link.specs.Inside.HandFront.{first_part}
use Rattle.wl_link.specs.Inside.WaitingBytes.{Waiting, beside, waits}
use Rattle.wl_link.specs.Link.{LinkState, with_outgoing}
use Rattle.wl_link.proofs.Calls.QueueLaws.{queue_is}
use Rattle.wl_link.proofs.buffered_socket.BufferedSocket.hand_front.Goals as goal

pub returns-clause-handed : goal.returns-clause-handed
returns-clause-handed g c =
    let len = c.args.len in
    let count = c.args.count in
    let bytes : c.bytes-bytes.result.now ≡ c.args.self.now.incoming.bytes = search rules in
    let tokens : c.self.inside.tokens_in.items ≡ c.args.self.now.incoming.tokens = ap (λ (l : LinkState _). l.incoming.tokens) c.self.view_is in
    let state : Waiting → List Token → LinkState _ = λ w ts. record {
      transport = c.self.inside.transport;
      incoming = beside w.bytes ts;
      incoming_capacity = w.size;
      outgoing = beside c.self.inside.outgoing.bytes c.self.inside.tokens_out;
      outgoing_capacity = c.self.inside.outgoing.size;
      limit = c.self.inside.limit;
    } in (
      rw (← c.self.view_is)
          (ap (λ (w : Waiting). state w c.put_raw.new.tokens.items) c.consume.ensures
          ∙ ap (λ (ts : List Token). state (waits (drop len c.self.inside.incoming.bytes) c.self.inside.incoming.size) ts) c.in-Ok-put_raw.ensures.taken),
      (
        c.grow_for.new.self,
        c.in-Ok.ensures,
        c.in-Ok-put_raw.ensures.put
            ∙ ap (λ (q : Queue). with_outgoing c.grow_for.new.self c.grow_for.new.self.transport (joined c.grow_for.new.self.outgoing q))
            (queue_is _ (first_part len count c.args.self.now.incoming) (ap (take len) bytes) (ap (take count) tokens)),
      ),
    )

pub returns-clause-carried : goal.returns-clause-carried
returns-clause-carried g c = grind (arith, common_steps)
