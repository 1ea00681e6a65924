use Rattle.std.proofs.Common.{ℕ, refl, subst, arith}
use Rattle.std.proofs.lemmas.Grind.{common_steps}
use Rattle.wl_wire.specs.MapIds.{numbered}
use Rattle.wl_link.specs.Link.{Wants, Grown, needed}
use Rattle.wl_link.proofs.Calls.WriteLaws.{wrote_ungrown, wrote_placed}
use Rattle.wl_link.proofs.buffered_socket.BufferedSocket.make_room_and_write.Goals as goal

pub returns-in_default-grow_for-clause-wrote : goal.returns-in_default-grow_for-clause-wrote
returns-in_default-grow_for-clause-wrote g c =
    let l = c.args.self.now in
    let e = c.in_default-grow_for.ensures in
    wrote_ungrown g.T.Transport.sends l _ (numbered (g.N.Numbering.object_number c.args.numbers.now) (g.N.Numbering.new_number c.args.numbers.now) c.args.message.now) _ c.requires refl e.0
    (subst (λ (n : ℕ). Wants l.limit (needed l n) l.outgoing_capacity) c.in-Some.ensures e.1)

pub returns-clause-wrote : goal.returns-clause-wrote
returns-clause-wrote g c =
    let l = c.args.self.now in
    wrote_placed g.T.Transport.sends l _ (numbered (g.N.Numbering.object_number c.args.numbers.now) (g.N.Numbering.new_number c.args.numbers.now) c.args.message.now) _ c.grow_for.new.self c.requires
    (subst (λ (n : ℕ). Grown l n c.grow_for.new.self) c.in-Some.ensures c.in-Ok.ensures) c.place.ensures.placed

pub numbered_size-requires : goal.numbered_size-requires
numbered_size-requires g c = grind (arith, common_steps)

pub grow_for-requires : goal.grow_for-requires
grow_for-requires g c = grind (arith, common_steps)

pub place-requires : goal.place-requires
place-requires g c = grind (arith, common_steps)
