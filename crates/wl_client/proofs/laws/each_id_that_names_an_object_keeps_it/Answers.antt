use Rattle.wl_client.proofs.OverRuns.FailedLaws.{calls_kept}
use Rattle.wl_client.proofs.OverRuns.IdentityLaws.{keeps_naming, names_none_again}
use Rattle.wl_client.specs.Steps.{CallOf}
use Rattle.wl_client.proofs.laws.each_id_that_names_an_object_keeps_it.Goals as goal

pub returns-clause-named : goal.returns-clause-named
returns-clause-named g c = keeps_naming (CallOf g.T.Transport.sends g.T.Transport.receives) (calls_kept g.T.Transport.sends g.T.Transport.receives)

pub returns-clause-none : goal.returns-clause-none
returns-clause-none g c = names_none_again (CallOf g.T.Transport.sends g.T.Transport.receives) (calls_kept g.T.Transport.sends g.T.Transport.receives)
