use Rattle.wl_link.proofs.Calls.NothingLostLaws.{write_keeps, write_kept}
use Rattle.wl_link.proofs.laws.calls.write_loses_nothing.Goals as goal

pub returns-clause-kept : goal.returns-clause-kept
returns-clause-kept g c = λ before after m answer w. write_keeps g.T.Transport.sends (record { law = g.met.T.Transport.within_offer }) m after answer before w

pub returns-clause-each : goal.returns-clause-each
returns-clause-each g c = λ before after m es answer wrote. write_kept g.T.Transport.sends (record { law = g.met.T.Transport.within_offer }) m after answer before es wrote
