use Rattle.std.proofs.Common.{◌≡◌, ap, arith, length, take}
use Rattle.std.proofs.lemmas.Grind.{common_steps}
use Rattle.wl_flat.proofs.Saying.{new_tokens, rest_of_slice, says_waiting}
use Rattle.wl_flat.specs.Told.{as_tokens}
use Rattle.wl_flat.proofs.telling.Telling.take_said.Goals as goal

pub returns-clause-ok : goal.returns-clause-ok
returns-clause-ok c =
    let t = c.args.self.now in
    let m = c.args.mailbox.now in
    let q = c.args.sending.now in
    let bytes = c.bytes-bytes.ensures in
    let waiting = c.tokens-waiting.ensures.tokens in
    let tokens : c.as_tokens.new.tokens ≡ as_tokens (take (length c.tokens-waiting.result.now) c.copy_descriptors.new.to) = grind (arith, common_steps) in
    says_waiting t c.args.peer c.other.result m q c.append.new.self _ _ _ _ c.other.ensures (ap length bytes) (ap length waiting)
    (rest_of_slice t.said c.min-before.result c.bytes-bytes.result.now m.waiting.bytes bytes c.min-before.ensures)
    (new_tokens t.said_tokens c.min-tokens_before.result q c.tokens-waiting.result.now m.waiting.tokens c.copy_descriptors.new.to _ c.as_tokens.new.tokens waiting
    c.copy_descriptors.ensures tokens c.min-tokens_before.ensures)
    c.in_ok-append.ensures.ok
