use Rattle.wl_link.proofs.Readings.LogLaws.{carries_kept, puts_kept, reads_kept}
use Rattle.wl_link.proofs.laws.readers.nothing_that_is_put_is_lost.Goals as goal

pub returns-clause-puts : goal.returns-clause-puts
returns-clause-puts g c = λ before after messages put es answer puts.
    puts_kept g.T.Transport.sends (record { law = g.met.T.Transport.within_offer }) messages before after es put answer puts

pub returns-clause-reading : goal.returns-clause-reading
returns-clause-reading g c = λ reader left before after turns out reads.
    reads_kept g.T.Transport.sends (record { law = g.met.T.Transport.within_offer }) reader g.T.Transport.receives after left before turns out reads

pub returns-clause-finish : goal.returns-clause-finish
returns-clause-finish g c = λ reader before after u es gave refused ends.
    carries_kept g.T.Transport.sends (record { law = g.met.T.Transport.within_offer }) reader ends.0 before.link after es gave refused ends.2
