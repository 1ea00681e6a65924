use Rattle.std.proofs.Common.{◌≡◌, ◌+◌, ◌++◌, ℕ, arith, subst, take}
use Rattle.wl_wire.specs.Message.{word}
use Rattle.wl_link.proofs.Numbers.{number_behind}
use Rattle.wl_link.proofs.number_message.put_number.Goals as goal

pub returns : goal.returns
returns c =
    let at = c.args.at in
    let header : take (at + 8) c.put_word-2.new.storage ≡ take (at + 4) c.put_word.new.storage ++ word (786432 + c.args.message.now.opcode)
    = subst (λ (k : ℕ). take k c.put_word-2.new.storage ≡ take (at + 4) c.put_word.new.storage ++ word (786432 + c.args.message.now.opcode)) (omega arith)
    (rw c.from.ensures at c.put_word-2.ensures) in
    let last : take (at + 12) c.put_word-3.new.storage ≡ take (at + 8) c.put_word-2.new.storage ++ word c.args.message.now.number
    = subst (λ (k : ℕ). take k c.put_word-3.new.storage ≡ take (at + 8) c.put_word-2.new.storage ++ word c.args.message.now.number) (omega arith) c.put_word-3.ensures in
    number_behind c.args.message.now (take at c.args.storage.now) (take (at + 4) c.put_word.new.storage) (take (at + 8) c.put_word-2.new.storage)
    (take (at + 12) c.put_word-3.new.storage) c.put_word.ensures header last
