use Rattle.wl_link.specs.Served.{AsTold}
use Rattle.wl_link.proofs.Readings.ServedLaws.{served_one, told_function}
use Rattle.wl_link.proofs.laws.readers.what_is_served_has_one_outcome.Goals as goal

pub returns-clause-transport : goal.returns-clause-transport
returns-clause-transport g c = λ function reader before x y finishes a b. served_one g.S.Transport.sends function reader before x y finishes a b

pub returns-clause-told : goal.returns-clause-told
returns-clause-told g c = λ reader before x y finishes a b. served_one AsTold told_function reader before x y finishes a b
