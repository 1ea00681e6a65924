use Rattle.wl_wire.specs.Message.{word}
use Rattle.wl_wire.proofs.Spelling.RoundTrip.{length-word}
use Rattle.wl_wire.proofs.Pieces.{overwritten-two}
use Rattle.wl_wire.proofs.write.put_header.Goals as goal

pub returns : goal.returns
returns c =
    rw (c.put_word-2.ensures.bytes, c.put_word.ensures.bytes, c.from.ensures)
    (overwritten-two c.args.payload.now (word c.args.sender) _ (length-word _) (length-word _) c.requires.room)
