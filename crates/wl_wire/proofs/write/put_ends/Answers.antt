use Rattle.std.proofs.Common.{◌-◌, length, drop, arith}
use Rattle.std.proofs.lemmas.List.{take_all, length-drop}
use Rattle.wl_wire.proofs.Pieces.{overwritten-ends}
use Rattle.wl_wire.proofs.write.put_ends.Goals as goal

pub returns : goal.returns
returns g c =
    let bytes = c.args.bytes.now in
    let last = length bytes - g.row.N in
    rw (c.put_bytes-2.ensures, c.put_bytes.ensures, c.copy_from_slice.ensures.after, c.copy_from_slice-2.ensures.after, take_all (length bytes - last) (drop last bytes) (omega (arith, length-drop last bytes)))
    (overwritten-ends c.args.payload.now bytes c.args.at last g.row.N (omega (arith, c.requires.least)) (omega (arith, c.requires.most)) c.requires.room)
