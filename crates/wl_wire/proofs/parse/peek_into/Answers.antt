-- The message that is looked at, and why there is none.
use Rattle.std.proofs.Common.{drop, List, ℕ, subst}
use Rattle.wl_wire.specs.declared.argument.Token.{Token}
use Rattle.wl_wire.specs.Parse.{payload_of}
use Rattle.wl_wire.specs.Inside.Cursor.{RefusesArguments}
use Rattle.wl_wire.proofs.Spelling.CursorLaws.{arguments_read}
use Rattle.wl_wire.proofs.Spelling.RoundTrip.{reads_match}
use Rattle.wl_wire.proofs.Whole.{payload-is, found_whole, refuses}
use Rattle.wl_wire.proofs.parse.peek_into.Goals as goal

pub returns-in_default-clause-refused : goal.returns-in_default-clause-refused
returns-in_default-clause-refused c =
    let payload = payload-is c.args.raw.now c.split_at.result.0.now c.in_ok-head.head.len c.in_ok-head.ensures.words.2 c.split_at.ensures.front in
    let at_payload = subst (λ (p : List ℕ). RefusesArguments c.args.signature.now p c.make_contiguous.result.now c.refusal.result) payload c.refusal.ensures.refused in
    refuses c.args.raw.now c.args.signature.now c.args.fds.now.items c.refusal.result c.in_ok-head.ensures.whole
    (subst (λ (t : List Token). RefusesArguments c.args.signature.now (payload_of c.args.raw.now) t c.refusal.result) c.make_contiguous.ensures.value at_payload)

pub returns-clause-found : goal.returns-clause-found
returns-clause-found c =
    let left = drop c.in-Ok._taken c.args.fds.now.items in
    let found = found_whole c.args.raw.now c.split_at.result.0.now c.in_ok-head.head.len c.args.signature.now c.args.fds.now.items c.clear.new.self.items c.read_arguments.new.args.items left
    c.in_ok-head.ensures.words.2 c.split_at.ensures.front c.clear.ensures.items c.in-Ok.ensures.found in
    record {
      whole = c.in_ok-head.ensures.whole;
      sender = c.in_ok-head.ensures.words.0;
      opcode = c.in_ok-head.ensures.words.1;
      args = (arguments_read c.args.signature.now (payload_of c.args.raw.now) c.args.fds.now.items c.read_arguments.new.args.items left found).0;
    }

pub returns-clause-matches : goal.returns-clause-matches
returns-clause-matches c = reads_match c.args.signature.now _ (payload_of c.args.raw.now) c.args.fds.now.items (returns-clause-found c).args
