use Rattle.std.proofs.Common.{Ok, refl}
use Rattle.wl_client.proofs.OverRuns.ReadingLaws.{call_cuts, finish_cuts, one_served, reading_cuts, some_served}
use Rattle.wl_client.proofs.laws.cutting_does_not_matter_to_a_client.Goals as goal

pub returns-clause-reading : goal.returns-clause-reading
returns-clause-reading g c = reading_cuts g.T.Transport.sends g.T.Transport.receives

pub returns-clause-finish : goal.returns-clause-finish
returns-clause-finish g c before after u live finishes = finish_cuts before u (Ok tt) after finishes live refl

pub returns-clause-call : goal.returns-clause-call
returns-clause-call g c before after call answer refused h = call_cuts g.T.Transport.sends g.T.Transport.receives before after call answer refused h

pub returns-clause-one : goal.returns-clause-one
returns-clause-one g c = one_served

pub returns-clause-some : goal.returns-clause-some
returns-clause-some g c = some_served
