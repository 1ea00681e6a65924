use Rattle.wl_link.specs.Exchange.{Queue}
use Rattle.wl_relay.specs.Inside.Gathering.{came_of}
use Rattle.wl_relay.proofs.Answers.{taken}
use Rattle.wl_relay.proofs.commands.carry_out.Goals as goal

pub returns-clause-answered : goal.returns-clause-answered
returns-clause-answered g c = λ _.
    let written = c.in_ok-write_answer.ensures.written in
    let came : Queue = record { bytes = c.as_slice-bytes.result.now; tokens = c.as_slice-tokens.result.now } in
    let arrived = c.in-Ok.ensures in
    let takes = taken c.args.arrival.now.side c.args.relay.now c.arrive.new.self came (came_of c.args.arrival.now) c.as_slice-bytes.ensures.value
    c.as_slice-tokens.ensures.value arrived.arrived arrived.logged arrived.read arrived.other_way
    in
    (written.0, (c.arrive.new.self, takes, written.1), written.2)
