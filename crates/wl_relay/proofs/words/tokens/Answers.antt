use Rattle.std.proofs.Common.{rules, ◌≢◌, codes}
use Rattle.wl_relay.specs.Words.{AreNumbers}
use Rattle.wl_relay.proofs.Numbers.{tokens_found}
use Rattle.wl_relay.proofs.words.tokens.Goals as goal

pub returns-in-Some : goal.returns-in-Some
returns-in-Some c =
    let word = c.args.word.now in
    let filled : word ≢ codes "-" = search rules in
    let are : AreNumbers c.in-Some.numbers.items word = search rules in
    let tokens = rw c.as_slice.ensures.value at c.tokens_of.ensures in
    tokens_found word c.in-Some.numbers.items c.tokens_of.result filled are tokens
