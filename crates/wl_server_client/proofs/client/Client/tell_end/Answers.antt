use Rattle.wl_server_client.proofs.client.Client.tell_end.Goals as goal

pub returns-clause-tells : goal.returns-clause-tells
returns-clause-tells g c = rw (← c.self.view_is)
    (c.put_end-answer.result, c.put_end-answer.new.socket, c.put_end-answer.ensures, c.kill_unless_written.ensures.refused, c.kill_unless_written.ensures.closed)
