use Rattle.std.proofs.Common.{arith}
use Rattle.wl_wire.specs.MapIds.{numbered}
use Rattle.wl_link.proofs.Writing.{appended_behind}
use Rattle.wl_link.proofs.buffer.write_after.Goals as goal

pub returns-clause-appended : goal.returns-clause-appended
returns-clause-appended g c =
    appended_behind (numbered (g.N.Numbering.object_number c.args.numbers.now) (g.N.Numbering.new_number c.args.numbers.now) c.args.message.now) c.args.storage.now c.write.new.payload c.args.start c.args.end c.args.fds.now c.write.new.self
    c.requires.ordered c.requires.within c.write.result _ (omega arith)
    c.write.ensures.written c.write.ensures.tokens c.write.ensures.too_long c.write.ensures.too_small c.write.ensures.memory c.write.ensures.unchanged

pub returns-clause-message : goal.returns-clause-message
returns-clause-message g c = c.write.ensures.message

pub returns-clause-too_small : goal.returns-clause-too_small
returns-clause-too_small g c = λ refused. omega (arith, (c.write.ensures.too_small.0 refused).1, c.requires.within)

pub write-requires : goal.write-requires
write-requires g c = omega arith
