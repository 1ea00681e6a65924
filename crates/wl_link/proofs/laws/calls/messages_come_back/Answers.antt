use Rattle.wl_link.proofs.Streams.RoomLaws.{room_law}
use Rattle.wl_link.proofs.Streams.StreamLaws.{stream_law, all_read_law}
use Rattle.wl_link.proofs.laws.calls.messages_come_back.Goals as goal

pub returns-clause-in_order : goal.returns-clause-in_order
returns-clause-in_order g c = stream_law g.S.Transport.sends g.R.Transport.receives (record { law = g.met.S.Transport.within_offer })

pub returns-clause-all : goal.returns-clause-all
returns-clause-all g c = all_read_law g.S.Transport.sends g.R.Transport.receives (record { law = g.met.S.Transport.within_offer })

pub returns-clause-room : goal.returns-clause-room
returns-clause-room g c = room_law g.R.Transport.receives g.met.R.Transport.within_room
