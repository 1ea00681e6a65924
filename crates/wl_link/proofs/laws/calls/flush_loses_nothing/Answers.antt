use Rattle.wl_link.proofs.Calls.NothingLostLaws.{flush_drained, flush_drains, flush_keeps, flush_kept}
use Rattle.wl_link.proofs.laws.calls.flush_loses_nothing.Goals as goal

pub returns-clause-kept : goal.returns-clause-kept
returns-clause-kept g c = flush_keeps g.T.Transport.sends (record { law = g.met.T.Transport.within_offer })

pub returns-clause-drained : goal.returns-clause-drained
returns-clause-drained g c = flush_drains g.T.Transport.sends (record { law = g.met.T.Transport.within_offer })

pub returns-clause-each : goal.returns-clause-each
returns-clause-each g c = λ before after es answer flushed. flush_kept g.T.Transport.sends (record { law = g.met.T.Transport.within_offer }) before after es answer flushed

pub returns-clause-each_drained : goal.returns-clause-each_drained
returns-clause-each_drained g c = λ before after es answer flushed. flush_drained g.T.Transport.sends (record { law = g.met.T.Transport.within_offer }) before after es answer flushed
