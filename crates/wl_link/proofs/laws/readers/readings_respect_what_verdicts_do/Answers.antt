use Rattle.std.proofs.Common.{IsTrue}
use Rattle.wl_link.proofs.Readings.RespectLaws.{ends_respect, reads_respect, respects_all}
use Rattle.wl_link.proofs.laws.readers.readings_respect_what_verdicts_do.Goals as goal

pub returns-clause-reading : goal.returns-clause-reading
returns-clause-reading g c = λ reader holds respects left before after turns out.
    reads_respect g.T.Transport.sends g.T.Transport.receives reader (λ x gave y. IsTrue (holds x gave y)) respects left before after turns out

pub returns-clause-finish : goal.returns-clause-finish
returns-clause-finish g c = λ reader holds respects before after u es gave refused.
    ends_respect g.T.Transport.sends g.T.Transport.receives reader (λ x gave y. IsTrue (holds x gave y)) respects before after u es gave refused

pub returns-clause-cores : goal.returns-clause-cores
returns-clause-cores g c = λ reader holds respects. respects_all reader (λ x y. IsTrue (holds x y)) respects
