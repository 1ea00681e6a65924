use Rattle.std.specs.Prelude.{nat_lt}
use Rattle.std.proofs.Common.{length, [], ◌∷◌, ◌∙◌, refl}
use Rattle.wl_link.specs.Identity.{Id}
use Rattle.wl_wire.specs.Table.{name_of}
use Rattle.wl_server_client.specs.Inside.News.{room_in}
use Rattle.wl_server_client.specs.Globals.{shown_as}
use Rattle.wl_server_client.specs.Telling.{global_message, making}
use Rattle.std.proofs.lemmas.Bool.{lt-ltb}
use Rattle.wl_server_client.proofs.GlobalCalls.PutEach.{each_starved, wrote_by}
use Rattle.wl_server_client.proofs.GlobalCalls.Putting.{puts_one}
use Rattle.wl_server_client.proofs.globals.new_registry.put_global.Goals as goal

pub returns-clause-puts : goal.returns-clause-puts
returns-clause-puts g c serial =
    let registry : Id = record { number = c.args.message.now.sender_id; serial = serial } in
    let m = making (nat_lt (room_in c.args.message.now.args.items) (length (name_of c.args.protocol.now c.args.global.now.interface.0)))
    (global_message c.args.protocol.now registry (shown_as (c.args.name, c.args.global.now))) in
    puts_one g.T.Transport.sends c.args.socket.now c.write_message.new.self m c.write_message.result
    (wrote_by g.T.Transport.sends c.args.socket.now c.write_message.new.self registry _ _ _ _ _ _ _ c.in-Ok.ensures.sender
    (c.in-Ok.ensures.opcode ∙ c.requires.opcode) c.in-Ok.ensures.news refl c.write_message.ensures.wrote)

pub returns-in_default-clause-puts : goal.returns-in_default-clause-puts
returns-in_default-clause-puts g c serial =
    let registry : Id = record { number = c.args.message.now.sender_id; serial = serial } in
    each_starved g.T.Transport.sends (λ (r : Id). making (nat_lt (room_in c.args.message.now.args.items) (length (name_of c.args.protocol.now c.args.global.now.interface.0)))
    (global_message c.args.protocol.now r (shown_as (c.args.name, c.args.global.now)))) c.args.socket.now (registry ∷ []) (λ none. cc) (λ r rest is. lt-ltb _ _ c.in_default.ensures.full)
