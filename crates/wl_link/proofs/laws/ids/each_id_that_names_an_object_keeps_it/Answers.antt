use Rattle.wl_link.proofs.Ids.NamedLaw.{named_law, none_again_law}
use Rattle.wl_link.proofs.laws.ids.each_id_that_names_an_object_keeps_it.Goals as goal

pub returns-clause-named : goal.returns-clause-named
returns-clause-named g c = named_law

pub returns-clause-none : goal.returns-clause-none
returns-clause-none g c = none_again_law
