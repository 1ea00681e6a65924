use Rattle.std.proofs.Common.{rules, arith, ap, subst, ◌≡◌, ◌∙◌, ℕ, ◌≤◌, List, length, Result, Ok, Err}
use Rattle.wl_wire.specs.declared.argument.ArgumentType.{ArgumentType}
use Rattle.wl_wire.specs.Parse.{IsThere, IsWhole, fd_count, length_of}
use Rattle.wl_link.specs.declared.buffered_socket.hand_on.HandOnError.{HandOnError}
use Rattle.wl_link.specs.declared.buffered_socket.hand_on.HandOnError.TheVariants as hand
use Rattle.wl_link.specs.HandOn.{HandsOn}
use Rattle.wl_link.specs.Inside.HandFront.{HandsFront}
use Rattle.wl_link.specs.Link.{LinkState}
use Rattle.wl_link.proofs.buffered_socket.BufferedSocket.hand_on.Goals as goal

-- what is handed on is the message at the front, if it is there
handed_on : {S R : Type 0} (signature : List ArgumentType) (from from' : LinkState R) (to to' : LinkState S) (answer : Result (Unit {0}) HandOnError)
    → IsThere from.incoming.bytes signature from.incoming.tokens
    → HandsFront (length_of from.incoming.bytes) (fd_count signature) from to answer from' to' → HandsOn signature from to answer from' to'
handed_on signature from from' to to' (Ok _) there (taken, put) = (there, taken, put)
handed_on signature from from' to to' (Err hand.NoRoom) there (kept, grown, full) = (kept, (there, grown, full))
handed_on signature from from' to to' (Err hand.OutOfMemory) there (kept, why) = (kept, (there, why))
handed_on signature from from' to to' (Err hand.MissingData) there h = absurd h
handed_on signature from from' to to' (Err hand.Malformed) there h = absurd h
handed_on signature from from' to to' (Err hand.MissingFD) there h = absurd h

pub returns-clause-handed : goal.returns-clause-handed
returns-clause-handed g c =
    let from = c.args.self.now in
    let to = c.args.to.now in
    let answer = c.hand_front.result in
    let from' = c.hand_front.new.self in
    let to' = c.hand_front.new.to in
    let bytes : c.bytes-bytes.result.now ≡ from.incoming.bytes = search rules in
    let tokens_are : c.self.inside.tokens_in.items ≡ from.incoming.tokens = search rules in
    let len : c.in-Some.header.len ≡ length_of from.incoming.bytes = c.in-Some.ensures.3 ∙ ap length_of bytes in
    let count : c.fd_places-count.result ≡ fd_count c.args.signature.now = c.fd_places-count.ensures in
    let whole : IsWhole from.incoming.bytes = record {
      header = omega (arith, ap length bytes, c.in-Some.ensures.0);
      counts_header = omega (arith, len, c.if-header-lt8.false);
      there = omega (arith, len, ap length bytes, c.if-bytes-header.false);
    } in
    let tokens : fd_count c.args.signature.now ≤ length from.incoming.tokens = omega (arith, count, ap length tokens_are, c.len.ensures, c.if-len-count.false) in
    handed_on c.args.signature.now from from' to to' answer (whole, tokens)
    (subst (λ (k : ℕ). HandsFront (length_of from.incoming.bytes) k from to answer from' to') count
    (subst (λ (n : ℕ). HandsFront n c.fd_places-count.result from to answer from' to') len c.hand_front.ensures.handed))
