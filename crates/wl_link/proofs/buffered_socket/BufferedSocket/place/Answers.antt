use Rattle.std.proofs.Common.{◌≡◌, true, false, [], refl}
use Rattle.std.proofs.lemmas.Result.{err_from_is_err_and}
use Rattle.wl_wire.specs.MapIds.{numbered}
use Rattle.wl_wire.specs.Message.{size}
use Rattle.wl_link.specs.Link.{has_room}
use Rattle.wl_link.proofs.Calls.WriteLaws.{placed_failed, placed_after, placed_full}
use Rattle.wl_link.proofs.buffered_socket.BufferedSocket.place.Goals as goal

pub returns-then-has_room-clause-placed : goal.returns-then-has_room-clause-placed
returns-then-has_room-clause-placed g c =
    let room : has_room c.args.self.now (size (numbered (g.N.Numbering.object_number c.args.numbers.now) (g.N.Numbering.new_number c.args.numbers.now) c.args.message.now)) ≡ true = cc (c.has_room.ensures, c.if-has_room.true, c.requires.len) in
    ([], rw room (refl, c.put.ensures.put))

pub returns-in_err-flush_for_room-clause-placed : goal.returns-in_err-flush_for_room-clause-placed
returns-in_err-flush_for_room-clause-placed g c =
    let no_room : has_room c.args.self.now (size (numbered (g.N.Numbering.object_number c.args.numbers.now) (g.N.Numbering.new_number c.args.numbers.now) c.args.message.now)) ≡ false = cc (c.has_room.ensures, c.if-has_room.false, c.requires.len) in
    let f = c.in_err-flush_for_room.ensures in
    let p = err_from_is_err_and c.from_residual.result c.from_residual.ensures.1 in
    rw (p.1, p.2) (placed_failed g.T.Transport.sends _ _ c.flush_for_room.new.self (numbered (g.N.Numbering.object_number c.args.numbers.now) (g.N.Numbering.new_number c.args.numbers.now) c.args.message.now) f.0 no_room f.1 _ f.2)

pub returns-then-has_room-2-clause-placed : goal.returns-then-has_room-2-clause-placed
returns-then-has_room-2-clause-placed g c =
    let no_room : has_room c.args.self.now (size (numbered (g.N.Numbering.object_number c.args.numbers.now) (g.N.Numbering.new_number c.args.numbers.now) c.args.message.now)) ≡ false = cc (c.has_room.ensures, c.if-has_room.false, c.requires.len) in
    let room : has_room c.flush_for_room.new.self (size (numbered (g.N.Numbering.object_number c.args.numbers.now) (g.N.Numbering.new_number c.args.numbers.now) c.args.message.now)) ≡ true = cc (c.has_room-2.ensures, c.if-has_room-2.true, c.requires.len) in
    let f = c.in_ok-flush_for_room.ensures in
    placed_after g.T.Transport.sends _ _ _ (numbered (g.N.Numbering.object_number c.args.numbers.now) (g.N.Numbering.new_number c.args.numbers.now) c.args.message.now) f.0 no_room f.1 tt _ f.2 room c.put-then-has_room-2.ensures.put

pub returns-clause-placed : goal.returns-clause-placed
returns-clause-placed g c =
    let no_room : has_room c.args.self.now (size (numbered (g.N.Numbering.object_number c.args.numbers.now) (g.N.Numbering.new_number c.args.numbers.now) c.args.message.now)) ≡ false = cc (c.has_room.ensures, c.if-has_room.false, c.requires.len) in
    let full : has_room c.flush_for_room.new.self (size (numbered (g.N.Numbering.object_number c.args.numbers.now) (g.N.Numbering.new_number c.args.numbers.now) c.args.message.now)) ≡ false = cc (c.has_room-2.ensures, c.if-has_room-2.false, c.requires.len) in
    let f = c.in_ok-flush_for_room.ensures in
    placed_full g.T.Transport.sends _ _ c.flush_for_room.new.self (numbered (g.N.Numbering.object_number c.args.numbers.now) (g.N.Numbering.new_number c.args.numbers.now) c.args.message.now) f.0 no_room f.1 tt f.2 full
