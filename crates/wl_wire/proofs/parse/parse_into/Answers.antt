use Rattle.std.proofs.Common.{ap, drop, List, ℕ, ◌∙◌, subst}
use Rattle.wl_wire.specs.declared.argument.Token.{Token}
use Rattle.wl_wire.specs.Parse.{payload_of}
use Rattle.wl_wire.specs.Inside.Cursor.{RefusesArguments}
use Rattle.wl_wire.proofs.Spelling.CursorLaws.{arguments_read}
use Rattle.wl_wire.proofs.Spelling.RoundTrip.{reads_match}
use Rattle.wl_wire.proofs.Whole.{header_not_refused, only_memory, reads_back, payload-is, found_whole, left_is, refuses}
use Rattle.wl_wire.proofs.parse.parse_into.Goals as goal

pub returns-in_default-clause-refused : goal.returns-in_default-clause-refused
returns-in_default-clause-refused c =
    let payload = payload-is c.args.raw.now c.split_at.result.0.now c.in_ok-header.header.len c.in_ok-header.ensures.words.2 c.split_at.ensures.front in
    let at_payload = subst (λ (p : List ℕ). RefusesArguments c.args.signature.now p c.make_contiguous.result.now c.refusal.result) payload c.refusal.ensures.refused in
    refuses c.args.raw.now c.args.signature.now c.args.fds.now.items c.refusal.result c.in_ok-header.ensures.whole
    (subst (λ (t : List Token). RefusesArguments c.args.signature.now (payload_of c.args.raw.now) t c.refusal.result) c.make_contiguous.ensures.value at_payload)

pub returns-clause-found : goal.returns-clause-found
returns-clause-found c =
    let left = drop c.in-Ok.taken c.args.fds.now.items in
    let found = found_whole c.args.raw.now c.split_at.result.0.now c.in_ok-header.header.len c.args.signature.now c.args.fds.now.items c.clear.new.self.items c.read_arguments.new.args.items left
    c.in_ok-header.ensures.words.2 c.split_at.ensures.front c.clear.ensures.items c.in-Ok.ensures.found in
    record {
      whole = c.in_ok-header.ensures.whole;
      sender = c.in_ok-header.ensures.words.0;
      opcode = c.in_ok-header.ensures.words.1;
      args = (arguments_read c.args.signature.now (payload_of c.args.raw.now) c.args.fds.now.items c.read_arguments.new.args.items left found).0;
    }

pub returns-clause-matches : goal.returns-clause-matches
returns-clause-matches c = reads_match c.args.signature.now _ (payload_of c.args.raw.now) c.args.fds.now.items (returns-clause-found c).args

pub returns-clause-tokens : goal.returns-clause-tokens
returns-clause-tokens c =
    let left = drop c.in-Ok.taken c.args.fds.now.items in
    let found = found_whole c.args.raw.now c.split_at.result.0.now c.in_ok-header.header.len c.args.signature.now c.args.fds.now.items c.clear.new.self.items c.read_arguments.new.args.items left
    c.in_ok-header.ensures.words.2 c.split_at.ensures.front c.clear.ensures.items c.in-Ok.ensures.found in
    c.take_tokens.ensures.taken ∙ left_is c.args.signature.now (payload_of c.args.raw.now) c.args.fds.now.items c.read_arguments.new.args.items left found

pub returns-in_err-header-clause-written : goal.returns-in_err-header-clause-written
returns-in_err-header-clause-written c = λ m behind others ok same bytes tokens_are.
    header_not_refused m c.args.raw.now behind _ ok bytes c.in_err-header.ensures.refused

pub returns-in_default-clause-written : goal.returns-in_default-clause-written
returns-in_default-clause-written c = λ m behind others ok same bytes tokens_are.
    only_memory m c.args.raw.now behind c.args.signature.now c.args.fds.now.items others c.refusal.result ok same bytes tokens_are (returns-in_default-clause-refused c)

pub returns-clause-written : goal.returns-clause-written
returns-clause-written c = λ m behind others ok same bytes tokens_are.
    let back = reads_back m _ c.args.raw.now behind c.args.signature.now c.args.fds.now.items others ok same bytes tokens_are (returns-clause-found c) in
    (back.0, c.split_at.ensures.back ∙ ap (λ n. drop n c.args.raw.now) c.in_ok-header.ensures.words.2 ∙ back.1, returns-clause-tokens c ∙ back.2)
