use Rattle.std.proofs.Common.{rules, Ok, Err, inl}
use Rattle.wl_host.proofs.server.Server.create_global.Goals as goal

-- the global, and the answer of the core
pub returns-in-Ok-clause-call : goal.returns-in-Ok-clause-call
returns-in-Ok-clause-call c =
    inl (record { user_data = c.args.user_data; groups = c.args.groups; hidden = c.in_ok-hidden.hidden }, Ok c.in-Ok.id, search rules, search rules, search rules)

pub returns-in-Err-clause-call : goal.returns-in-Err-clause-call
returns-in-Err-clause-call c =
    inl (record { user_data = c.args.user_data; groups = c.args.groups; hidden = c.in_ok-hidden.hidden }, Err c.in-Err.error, search rules, search rules, search rules)
