use Rattle.wl_link.proofs.Readings.CuttingLaws.{finish_law, reading_law}
use Rattle.wl_link.specs.Served.{AsTold}
use Rattle.wl_link.proofs.Readings.ServedLaws.{told_function}
use Rattle.wl_link.proofs.laws.readers.cutting_does_not_matter_to_a_reader.Goals as goal

pub returns-clause-reading : goal.returns-clause-reading
returns-clause-reading g c = λ function reader blocks left before after turns out reads fed ample finishes.
    reading_law g.T.Transport.sends g.T.Transport.receives g.S.Transport.sends reader function blocks left before after turns out reads fed ample finishes

pub returns-clause-told : goal.returns-clause-told
returns-clause-told g c = λ reader blocks left before after turns out reads fed ample finishes.
    reading_law g.T.Transport.sends g.T.Transport.receives AsTold reader told_function blocks left before after turns out reads fed ample finishes

pub returns-clause-finish : goal.returns-clause-finish
returns-clause-finish g c = λ function reader before after u es gave open' ends finishes.
    finish_law g.T.Transport.sends g.T.Transport.receives g.S.Transport.sends reader function before after u es gave open' ends finishes

pub returns-clause-told_finish : goal.returns-clause-told_finish
returns-clause-told_finish g c = λ reader before after u es gave open' ends finishes.
    finish_law g.T.Transport.sends g.T.Transport.receives AsTold reader told_function before after u es gave open' ends finishes
