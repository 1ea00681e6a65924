use Rattle.std.proofs.Common.{rules, arith, ap, subst, ◌≡◌, ◌∙◌, ℕ, length, Result, Ok, Err}
use Rattle.std.proofs.lemmas.List.{drop_all, take_all}
use Rattle.wl_link.specs.declared.buffered_socket.hand_on.HandOnError.{HandOnError}
use Rattle.wl_link.specs.declared.buffered_socket.hand_on.HandOnError.TheVariants as hand
use Rattle.wl_link.specs.Exchange.{Queue, joined, nothing}
use Rattle.wl_link.specs.HandOn.{HandsOnRest}
use Rattle.wl_link.specs.Inside.HandFront.{HandsFront, after_part, first_part}
use Rattle.wl_link.specs.Link.{LinkState, with_incoming, with_outgoing}
use Rattle.wl_link.proofs.Calls.QueueLaws.{queue_is}
use Rattle.wl_link.proofs.buffered_socket.BufferedSocket.hand_on_rest.Goals as goal

all_of : (q : Queue) → first_part (length q.bytes) (length q.tokens) q ≡ q
all_of q = queue_is _ q (take_all (length q.bytes) q.bytes (omega arith)) (take_all (length q.tokens) q.tokens (omega arith))

none_after : (q : Queue) → after_part (length q.bytes) (length q.tokens) q ≡ nothing
none_after q = queue_is _ nothing (drop_all (length q.bytes) q.bytes (omega arith)) (drop_all (length q.tokens) q.tokens (omega arith))

-- what is handed on is all that was received
rest_handed : {S R : Type 0} (from from' : LinkState R) (to to' : LinkState S) (answer : Result (Unit {0}) HandOnError)
    → HandsFront (length from.incoming.bytes) (length from.incoming.tokens) from to answer from' to' → HandsOnRest from to answer from' to'
rest_handed from from' to to' (Ok _) (taken, (grown, room, put)) = (
  taken ∙ ap (with_incoming from from.transport) (none_after from.incoming),
  (grown, room, put ∙ ap (λ (q : Queue). with_outgoing grown grown.transport (joined grown.outgoing q)) (all_of from.incoming)),
)
rest_handed from from' to to' (Err hand.NoRoom) h = h
rest_handed from from' to to' (Err hand.OutOfMemory) h = h
rest_handed from from' to to' (Err hand.MissingData) h = h
rest_handed from from' to to' (Err hand.Malformed) h = h
rest_handed from from' to to' (Err hand.MissingFD) h = h

pub returns-clause-handed : goal.returns-clause-handed
returns-clause-handed g c =
    let from = c.args.self.now in
    let to = c.args.to.now in
    let answer = c.hand_front.result in
    let from' = c.hand_front.new.self in
    let to' = c.hand_front.new.to in
    let bytes : c.len-len.result ≡ length from.incoming.bytes = search rules in
    let tokens : c.len-count.result ≡ length from.incoming.tokens = search rules in
    rest_handed from from' to to' answer
    (subst (λ (k : ℕ). HandsFront (length from.incoming.bytes) k from to answer from' to') tokens
    (subst (λ (n : ℕ). HandsFront n c.len-count.result from to answer from' to') bytes c.hand_front.ensures.handed))
