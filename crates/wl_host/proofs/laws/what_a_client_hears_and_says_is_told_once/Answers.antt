use Rattle.wl_follow.specs.declared.side.Side.TheVariants.{Server}
use Rattle.wl_host_client.proofs.ClientWatching.{begins, comes_caught, comes_next, comes_received, comes_sent}
use Rattle.wl_flat.proofs.OnlyRead.{only_read}
use Rattle.wl_flat.proofs.ToldRuns.{handed_once, heard_once, none_waits, said_once}
use Rattle.wl_host.proofs.laws.what_a_client_hears_and_says_is_told_once.Goals as goal

pub returns-clause-heard : goal.returns-clause-heard
returns-clause-heard c = heard_once Server

pub returns-clause-said : goal.returns-clause-said
returns-clause-said c = said_once Server

pub returns-clause-handed_out : goal.returns-clause-handed_out
returns-clause-handed_out c = handed_once Server

pub returns-clause-read : goal.returns-clause-read
returns-clause-read c = only_read Server

pub returns-clause-all : goal.returns-clause-all
returns-clause-all c = none_waits Server

pub returns-clause-tell_messages : goal.returns-clause-tell_messages
returns-clause-tell_messages c = begins

pub returns-clause-received : goal.returns-clause-received
returns-clause-received c = comes_received

pub returns-clause-caught_up : goal.returns-clause-caught_up
returns-clause-caught_up c = comes_caught

pub returns-clause-sent : goal.returns-clause-sent
returns-clause-sent c = comes_sent

pub returns-clause-next_told : goal.returns-clause-next_told
returns-clause-next_told c = comes_next
