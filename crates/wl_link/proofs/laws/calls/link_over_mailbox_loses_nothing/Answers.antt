-- That a link over a mailbox loses nothing.
use Rattle.wl_link.proofs.Calls.MailboxLinkLaws.{fill_keeps, flush_keeps_all}
use Rattle.wl_link.proofs.laws.calls.link_over_mailbox_loses_nothing.Goals as goal

pub returns-clause-received : goal.returns-clause-received
returns-clause-received c = λ before after answer filled. fill_keeps before after answer filled

pub returns-clause-sent : goal.returns-clause-sent
returns-clause-sent c = λ before after answer flushed. flush_keeps_all before after answer flushed
