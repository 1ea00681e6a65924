-- That all that waits in the mailbox is taken out.
use Rattle.std.proofs.Common.{rules}
use Rattle.wl_link.proofs.Calls.QueueLaws.{queue_is}
use Rattle.wl_relay.proofs.Flows.{given_out, none_out}
use Rattle.wl_relay.proofs.relay.take_out.Goals as goal

pub returns-clause-given : goal.returns-clause-given
returns-clause-given c = search (rules, given_out)

pub returns-clause-none_ready : goal.returns-clause-none_ready
returns-clause-none_ready c = search (rules, none_out)

pub returns-clause-all : goal.returns-clause-all
returns-clause-all c = search (rules, queue_is)
