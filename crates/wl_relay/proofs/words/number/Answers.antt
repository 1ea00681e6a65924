use Rattle.std.proofs.Common.{arith, lit<, ◌≡◌, ◌≢◌, ◌≤◌, length, get_or}
use Rattle.std.proofs.lemmas.Str.Pattern.{starts_char}
use Rattle.wl_relay.proofs.Numbers.{parsed, signed, zero_led}
use Rattle.wl_relay.proofs.words.number.Goals as goal
use Rattle.wl_relay.proofs.words.number.Goals.{else-word-gt1-via-then-word-gt1+else-starts_with-2, else-word-gt1-via-else-word-gt1}

pub returns-then-starts_with : goal.returns-then-starts_with
returns-then-starts_with c =
    let plus = starts_char 43 c.args.word.now c.starts_with.result c.starts_with.ensures.cases (lit< tt) (lit< tt) in
    signed c.args.word.now (plus.0 c.if-starts_with.true)

pub returns-then-starts_with-2 : goal.returns-then-starts_with-2
returns-then-starts_with-2 c =
    let zero = starts_char 48 c.args.word.now c.starts_with-then-word-gt1.result c.starts_with-then-word-gt1.ensures.cases (lit< tt) (lit< tt) in
    zero_led c.args.word.now (zero.0 c.if-starts_with-2.true) (omega arith)

pub returns : goal.returns
returns c =
    let word = c.args.word.now in
    let plus = starts_char 43 word c.starts_with.result c.starts_with.ensures.cases (lit< tt) (lit< tt) in
    let plain : get_or word 0 0 ≢ 43 = λ (e : get_or word 0 0 ≡ 43). let t = plus.1 e in cc in
    let led : get_or word 0 0 ≡ 48 → length word ≤ 1 =
    elim c.else-word-gt1.branch [
      | else-word-gt1-via-then-word-gt1+else-starts_with-2 w ↦ λ (e : get_or word 0 0 ≡ 48).
          let zero = starts_char 48 word w.starts_with-then-word-gt1.result w.starts_with-then-word-gt1.ensures.cases (lit< tt) (lit< tt) in
          let t = zero.1 e in
          absurd (cc)
      | else-word-gt1-via-else-word-gt1 w ↦ λ (e : get_or word 0 0 ≡ 48). omega arith
    ]
    in
    parsed word c.parse.result c.ok.result c.parse.ensures.value.0 plain led c.ok.ensures.value
