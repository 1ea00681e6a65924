use Rattle.wl_server_client.specs.Inside.Responses.{code_of, text_of}
use Rattle.wl_server_client.specs.Inside.ReadingLoop.{around_of}
use Rattle.wl_server_client.proofs.Readings.Handling.{broke, broke_starved}
use Rattle.wl_server_client.proofs.client.Client.kill_for_breach.Goals as goal

pub returns-clause-handled : goal.returns-clause-handled
returns-clause-handled g c =
    rw (← c.self.view_is, ← c.in-Ok.ensures.text, ← c.in-Ok.ensures.code, ← c.fault.ensures, ← c.violation.ensures)
    (broke g.T.Transport.sends (around_of g.G.GlobalHandler.views c.args.around.now) _ c.tell_error_and_kill-refused.new.self
    c.violation.result c.in-Ok.code c.in-Ok.text c.tell_error_and_kill-refused.result
    (rw c.from_parts-display.ensures at c.tell_error_and_kill-refused.ensures.carried))

pub returns-in_default-clause-handled : goal.returns-in_default-clause-handled
returns-in_default-clause-handled g c =
    rw (← c.self.view_is, c.kill_unless_written-refused.ensures.refused, ← c.fault.ensures, ← c.violation.ensures)
    (broke_starved g.T.Transport.sends (around_of g.G.GlobalHandler.views c.args.around.now) _ c.kill_unless_written-refused.new.self
    c.violation.result (code_of c.args.breach.now)
    (text_of c.args.around.now.protocol.now c.args.breach.now) (rw (← c.self.view_is) at c.requires.live)
    c.kill_unless_written-refused.ensures.closed)
