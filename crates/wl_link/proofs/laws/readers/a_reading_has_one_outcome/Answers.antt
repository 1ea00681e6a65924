use Rattle.wl_link.proofs.Readings.ReaderLaws.{reads_one}
use Rattle.wl_link.proofs.laws.readers.a_reading_has_one_outcome.Goals as goal

pub returns : goal.returns
returns g c = λ function receive_function reader left before x y turns others a b.
    reads_one g.T.Transport.sends function g.T.Transport.receives receive_function reader left before x y turns others a b
