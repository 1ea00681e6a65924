use Rattle.std.proofs.Common.{refl}
use Rattle.wl_client.proofs.replay.Backend+Memory+U.perform_script.Goals as goal

pub returns-in-ArriveFault : goal.returns-in-ArriveFault
returns-in-ArriveFault g c =
    rw c.in-ArriveFault.is (c.arrive_fault.result, refl, c.arrive_fault.ensures.refused, c.arrive_fault.ensures.scripted)

pub returns-in-Accept : goal.returns-in-Accept
returns-in-Accept g c = rw c.in-Accept.is (c.script_answer.result, refl, c.script_answer.ensures.refused, c.script_answer.ensures.scripted)

pub returns-in-AcceptFault : goal.returns-in-AcceptFault
returns-in-AcceptFault g c =
    rw c.in-AcceptFault.is
    (c.script_answer-in-AcceptFault.result, refl, c.script_answer-in-AcceptFault.ensures.refused, c.script_answer-in-AcceptFault.ensures.scripted)

pub returns-in-TakeSent : goal.returns-in-TakeSent
returns-in-TakeSent g c =
    rw c.in-TakeSent.is (c.take_sent.result, refl, c.take_sent.ensures.refused, c.take_sent.ensures.taken, c.take_sent.ensures.left)
