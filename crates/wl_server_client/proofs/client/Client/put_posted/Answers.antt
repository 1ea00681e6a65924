use Rattle.std.proofs.Common.{is_some, arith}
use Rattle.std.proofs.lemmas.Grind.{common_steps}
use Rattle.wl_server_client.proofs.ObjectCalls.Posting.{puts_error, puts_no_error}
use Rattle.wl_server_client.proofs.client.Client.put_posted.Goals as goal

pub returns-then-is_none-clause-put : goal.returns-then-is_none-clause-put
returns-then-is_none-clause-put g c = grind (arith, common_steps, puts_no_error, is_some)

pub returns-clause-put : goal.returns-clause-put
returns-clause-put g c =
    puts_error g.T.Transport.sends c.args.self.now.part c.args.id.now c.args.code c.args.text c.requires c.protocol_id.result c.put_error.result
    c.args.self.now.part.link c.put_error.new.socket c.protocol_id.ensures
    (rw (← c.self.view_is) (grind (arith, is_some, c.named_in.ensures, c.if-is_none.ensures)))
    (rw (← c.self.view_is) c.put_error.ensures.puts)

pub returns-then-is_none-clause-wrote : goal.returns-then-is_none-clause-wrote
returns-then-is_none-clause-wrote g c = grind (arith, common_steps, is_some)

pub returns-clause-wrote : goal.returns-clause-wrote
returns-clause-wrote g c = λ kept. rw (← c.self.view_is, ← c.protocol_id.ensures) c.put_error.ensures.wrote
