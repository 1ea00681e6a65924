use Rattle.std.proofs.Common.{◌≡◌, true, false, ap, arith, inr, not, refl, true≢false}
use Rattle.std.proofs.lemmas.Grind.{common_steps}
use Rattle.wl_server_client.proofs.CallSteps.Numbers.{in_time_both}
use Rattle.wl_server_client.proofs.ObjectCalls.Posting.{posted_dead, posted_live, kills_is}
use Rattle.wl_server_client.proofs.ObjectCalls.Told.{lacked_exactly, told_exactly}
use Rattle.wl_server_client.proofs.client.Client.tell_error_and_kill.Goals as goal

pub returns-then-self-clause-carried : goal.returns-then-self-clause-carried
returns-then-self-clause-carried g c =
    posted_dead g.T.Transport.sends c.args.protocol.now c.args.self.now c.args.id.now c.args.code c.args.text _ _ _
    (rw (← c.self.view_is) c.if-self.true) c.flush_dropped.ensures.flushed.1 c.flush_dropped.ensures.rest

pub returns-then-refused-clause-carried : goal.returns-then-refused-clause-carried
returns-then-refused-clause-carried g c = rw c.if-refused.true
    (posted_live g.T.Transport.sends c.args.protocol.now c.args.self.now c.args.id.now c.args.code c.args.text c.put_posted-wrote.new.self
    c.flush_dropped-lacked.new.self c.kill_unless_written-refused.new.self c.kill.new.self _ _ _ true _ c.in-Ok.ensures c.put_posted-wrote.ensures.put
    c.put_posted-wrote.ensures.rest c.flush_dropped-lacked.ensures.flushed.1 c.flush_dropped-lacked.ensures.rest c.if-refused.ensures.refused
    c.kill_unless_written-refused.ensures.closed c.kill.ensures.killed)

pub returns-else-refused-clause-carried : goal.returns-else-refused-clause-carried
returns-else-refused-clause-carried g c =
    posted_live g.T.Transport.sends c.args.protocol.now c.args.self.now c.args.id.now c.args.code c.args.text c.put_posted-wrote.new.self
    c.flush_dropped-lacked.new.self c.kill_unless_written-refused.new.self c.kill.new.self _ _ _ false _ c.in-Ok.ensures
    c.put_posted-wrote.ensures.put c.put_posted-wrote.ensures.rest c.flush_dropped-lacked.ensures.flushed.1 c.flush_dropped-lacked.ensures.rest
    c.if-refused.ensures.refused c.kill_unless_written-refused.ensures.closed c.kill.ensures.killed

pub returns-in-Err-clause-carried : goal.returns-in-Err-clause-carried
returns-in-Err-clause-carried g c =
    let live : c.args.self.now.part.is_killed ≡ false = rw (← c.self.view_is) c.if-self.false in
    let closed = kills_is c.args.self.now c.kill_unless_written.new.self _ c.kill_unless_written.ensures.closed in
    rw c.kill_unless_written.ensures.refused (_, c.args.self.now.part.link, inr (ap not live, refl, refl, refl), closed)

pub returns-then-self-clause-exactly : goal.returns-then-self-clause-exactly
returns-then-self-clause-exactly g c = grind (arith, common_steps, true≢false)

pub returns-then-refused-clause-exactly : goal.returns-then-refused-clause-exactly
returns-then-refused-clause-exactly g c = λ live kept. rw c.if-refused.true
    (told_exactly g.T.Transport.sends _ c.put_posted-wrote.new.self c.flush_dropped-lacked.new.self c.kill_unless_written-refused.new.self
    c.kill.new.self _ c.args.id.now.number c.args.code c.args.text _ _ true _ (c.put_posted-wrote.ensures.wrote kept)
    c.flush_dropped-lacked.ensures.flushed.1 c.if-refused.ensures.refused c.kill_unless_written-refused.ensures.closed c.kill.ensures.killed)

pub returns-else-refused-clause-exactly : goal.returns-else-refused-clause-exactly
returns-else-refused-clause-exactly g c = λ live kept.
    told_exactly g.T.Transport.sends _ c.put_posted-wrote.new.self c.flush_dropped-lacked.new.self c.kill_unless_written-refused.new.self
    c.kill.new.self _ c.args.id.now.number c.args.code c.args.text _ _ false _ (c.put_posted-wrote.ensures.wrote kept)
    c.flush_dropped-lacked.ensures.flushed.1 c.if-refused.ensures.refused c.kill_unless_written-refused.ensures.closed c.kill.ensures.killed

pub returns-in-Err-clause-exactly : goal.returns-in-Err-clause-exactly
returns-in-Err-clause-exactly g c = grind (arith, common_steps, lacked_exactly)

pub returns-then-refused-clause-in_time : goal.returns-then-refused-clause-in_time
returns-then-refused-clause-in_time g c =
    let told = rw (c.flush_dropped-lacked.ensures.rest, c.put_posted-wrote.ensures.rest) at c.kill_unless_written-refused.ensures.in_time in
    in_time_both _ _ _ _ _ _ told c.kill.ensures.in_time

pub returns-else-refused-clause-in_time : goal.returns-else-refused-clause-in_time
returns-else-refused-clause-in_time g c =
    let told = rw (c.flush_dropped-lacked.ensures.rest, c.put_posted-wrote.ensures.rest) at c.kill_unless_written-refused.ensures.in_time in
    in_time_both _ _ _ _ _ _ told c.kill.ensures.in_time
