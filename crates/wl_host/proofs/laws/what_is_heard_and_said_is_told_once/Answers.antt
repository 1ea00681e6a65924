use Rattle.wl_follow.specs.declared.side.Side.TheVariants.{Client}
use Rattle.wl_host.proofs.Beginning.{begins}
use Rattle.wl_flat.proofs.OnlyRead.{only_read}
use Rattle.wl_flat.proofs.ToldRuns.{handed_once, heard_once, none_waits, said_once}
use Rattle.wl_host.proofs.Watching.{comes_caught, comes_next, comes_received, comes_sent}
use Rattle.wl_host.proofs.laws.what_is_heard_and_said_is_told_once.Goals as goal

pub returns-clause-heard : goal.returns-clause-heard
returns-clause-heard c = heard_once Client

pub returns-clause-said : goal.returns-clause-said
returns-clause-said c = said_once Client

pub returns-clause-handed_out : goal.returns-clause-handed_out
returns-clause-handed_out c = handed_once Client

pub returns-clause-read : goal.returns-clause-read
returns-clause-read c = only_read Client

pub returns-clause-all : goal.returns-clause-all
returns-clause-all c = none_waits Client

pub returns-clause-insert_client : goal.returns-clause-insert_client
returns-clause-insert_client c = begins

pub returns-clause-received : goal.returns-clause-received
returns-clause-received c = comes_received

pub returns-clause-caught_up : goal.returns-clause-caught_up
returns-clause-caught_up c = comes_caught

pub returns-clause-sent : goal.returns-clause-sent
returns-clause-sent c = comes_sent

pub returns-clause-next_told : goal.returns-clause-next_told
returns-clause-next_told c = comes_next
