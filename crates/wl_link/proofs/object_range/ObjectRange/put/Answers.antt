use Rattle.std.proofs.Common.{◌<◌, arith, length, Some}
use Rattle.wl_link.specs.Inside.PlaceList.{free_flag}
use Rattle.wl_link.proofs.FreePlaces.{marks_set}
use Rattle.wl_link.proofs.object_range.ObjectRange.put.Goals as goal

pub returns-then-at-len-clause-free : goal.returns-then-at-len-clause-free
returns-then-at-len-clause-free g c =
    let places = c.args.self.now.slots.items in
    let inside : c.args.at < length places = omega (arith, c.if-at-len.true, c.len.ensures) in
    marks_set places c.args.at (Some c.args.object) c.mark.new.self.levels.items inside c.requires.free.small
    (c.mark.ensures.tree (free_flag places) (length places) inside c.requires.free.tree)
