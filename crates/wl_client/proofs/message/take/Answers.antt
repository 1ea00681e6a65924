use Rattle.std.proofs.Common.{arith, ap, length, subst, sym, ◌∙◌}
use Rattle.std.specs.List.{list_any}
use Rattle.wl_wire.specs.Message.{content}
use Rattle.wl_wire.specs.Parse.{IsThere}
use Rattle.wl_wire.specs.Table.{is_new_id}
use Rattle.wl_link.proofs.Calls.TakenLaws.{as_many, read_there}
use Rattle.wl_client.proofs.NewIds.{new_matches}
use Rattle.wl_client.proofs.Taking.{read_header}
use Rattle.wl_client.proofs.message.take.Goals as goal

-- what was read was there whole
pub returns-clause-room : goal.returns-clause-room
returns-clause-room g c =
    let many = as_many _ _ (content c.read_with_signature.new.message) _ c.in_ok-read_with_signature.ensures.read in
    let there = read_there _ _ (content c.read_with_signature.new.message) _ c.in_ok-read_with_signature.ensures.read in
    let room = c.in-Ok.ensures.room (subst (λ s. IsThere c.args.socket.now.incoming.bytes s c.args.socket.now.incoming.tokens) c.as_slice-signature.ensures.value there) in
    omega (arith, many, room, ap length c.make_room.ensures.empty, ap length c.as_slice-signature.ensures.value)

-- the event has a new id exactly if its signature has one
pub returns-clause-can_make : goal.returns-clause-can_make
returns-clause-can_make g c new =
    let there = read_there _ _ (content c.read_with_signature.new.message) _ c.in_ok-read_with_signature.ensures.read in
    let matches = new_matches _ _ c.in_ok-read_with_signature.ensures.matches in
    c.in-Ok.ensures.can_make (subst (λ s. IsThere c.args.socket.now.incoming.bytes s c.args.socket.now.incoming.tokens) c.as_slice-signature.ensures.value there)
    (ap (λ s. list_any is_new_id s) (sym c.as_slice-signature.ensures.value) ∙ matches ∙ new)

pub returns-clause-makes : goal.returns-clause-makes
returns-clause-makes g c new =
    let there = read_there _ _ (content c.read_with_signature.new.message) _ c.in_ok-read_with_signature.ensures.read in
    let matches = new_matches _ _ c.in_ok-read_with_signature.ensures.matches in
    c.in-Ok.ensures.makes (subst (λ s. IsThere c.args.socket.now.incoming.bytes s c.args.socket.now.incoming.tokens) c.as_slice-signature.ensures.value there)
    (ap (λ s. list_any is_new_id s) (sym c.as_slice-signature.ensures.value) ∙ matches ∙ new)

-- the message has the header that was looked at
pub returns-clause-deletes : goal.returns-clause-deletes
returns-clause-deletes g c sender opcode =
    let there = read_there _ _ (content c.read_with_signature.new.message) _ c.in_ok-read_with_signature.ensures.read in
    let header = read_header _ _ (content c.read_with_signature.new.message) _ c.in_ok-read_with_signature.ensures.read in
    c.in-Ok.ensures.deletes (subst (λ s. IsThere c.args.socket.now.incoming.bytes s c.args.socket.now.incoming.tokens) c.as_slice-signature.ensures.value there)
    (c.requires.header.1 ∙ sym header.0 ∙ sender) (c.requires.header.2 ∙ sym header.1 ∙ opcode)
