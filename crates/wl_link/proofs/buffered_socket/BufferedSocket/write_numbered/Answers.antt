use Rattle.wl_wire.specs.MapIds.{numbered}
use Rattle.wl_wire.specs.declared.error.MessageWriteError.{MessageWriteError}
use Rattle.wl_link.specs.Inside.WaitingBytes.{Appended, waits}
use Rattle.wl_link.proofs.Calls.WriteLaws.{wrote_answered}
use Rattle.wl_link.proofs.Calls.NothingLostLaws.{write_keeps}
use Rattle.std.proofs.Common.{Result, subst, arith}
use Rattle.std.proofs.lemmas.Grind.{common_steps}
use Rattle.wl_link.proofs.buffered_socket.BufferedSocket.write_numbered.Goals as goal

pub returns-in-Some-clause-wrote : goal.returns-in-Some-clause-wrote
returns-in-Some-clause-wrote g c =
    rw (← c.self.view_is, c.in-Some.ensures.1)
    (wrote_answered g.T.Transport.sends _ (numbered (g.N.Numbering.object_number c.args.numbers.now) (g.N.Numbering.new_number c.args.numbers.now) c.args.message.now) c.write.result c.write.new.self c.write.new.fds c.in-Some.ensures.0 c.write.ensures.appended)

pub returns-in-Some-clause-kept : goal.returns-in-Some-clause-kept
returns-in-Some-clause-kept g c =
    write_keeps g.T.Transport.sends (record { law = g.met.T.Transport.within_offer }) (numbered (g.N.Numbering.object_number c.args.numbers.now) (g.N.Numbering.new_number c.args.numbers.now) c.args.message.now) _ _ c.args.self.now (returns-in-Some-clause-wrote g c)

pub returns-in-None-clause-wrote : goal.returns-in-None-clause-wrote
returns-in-None-clause-wrote g c =
    let before = waits c.self.inside.outgoing.bytes c.self.inside.outgoing.size in
    let a = subst (λ (r : Result (Unit {0}) MessageWriteError). Appended before c.self.inside.tokens_out (numbered (g.N.Numbering.object_number c.args.numbers.now) (g.N.Numbering.new_number c.args.numbers.now) c.args.message.now) r c.write.new.self c.write.new.fds) c.in-None.ensures c.write.ensures.appended in
    rw (← c.self.view_is) (rw (a.1, a.2) at c.make_room_and_write.ensures.wrote)

pub returns-in-None-clause-kept : goal.returns-in-None-clause-kept
returns-in-None-clause-kept g c =
    write_keeps g.T.Transport.sends (record { law = g.met.T.Transport.within_offer }) (numbered (g.N.Numbering.object_number c.args.numbers.now) (g.N.Numbering.new_number c.args.numbers.now) c.args.message.now) _ _ c.args.self.now (returns-in-None-clause-wrote g c)

pub write-requires : goal.write-requires
write-requires g c = grind (arith, common_steps)

pub make_room_and_write-requires : goal.make_room_and_write-requires
make_room_and_write-requires g c = grind (arith, common_steps)
