use Rattle.std.proofs.Common.{refl}
use Rattle.wl_wire.proofs.Pieces.{overwritten-counted}
use Rattle.wl_wire.proofs.write.put_counted.Goals as goal

pub returns-clause-bytes : goal.returns-clause-bytes
returns-clause-bytes c =
    rw (c.put_block.ensures, c.put_word-start.ensures.bytes, c.put_word-start.ensures.next, c.put_word.ensures.bytes, c.padding.ensures.padding)
    (overwritten-counted c.args.payload.now c.args.at c.args.bytes.now c.args.ending _ refl c.requires.ending c.requires.room)
