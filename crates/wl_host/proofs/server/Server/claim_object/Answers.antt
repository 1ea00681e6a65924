use Rattle.std.proofs.Common.{rules}
use Rattle.wl_host.proofs.Claiming.{created_at_refused, created_refused, taken_refused}
use Rattle.wl_host.proofs.server.Server.claim_object.Goals as goal

pub returns-then-number-eq0-clause-refused : goal.returns-then-number-eq0-clause-refused
returns-then-number-eq0-clause-refused c = created_refused _ _ c.args.client.now c.args.interface c.args.version c.args.user_data _ (c.create_object.ensures.created (search rules))

pub returns-in-Some-clause-refused : goal.returns-in-Some-clause-refused
returns-in-Some-clause-refused c = taken_refused _ _ c.in-Some.object c.args.version c.args.user_data _ c.take_object.ensures.call

pub returns-in-None-clause-refused : goal.returns-in-None-clause-refused
returns-in-None-clause-refused c =
    created_at_refused _ _ c.args.client.now c.args.interface c.args.version c.args.number c.args.user_data _ (c.create_object_at.ensures.created (search rules))
