use Rattle.wl_link.proofs.Readings.PutsLaws.{puts_one}
use Rattle.wl_link.proofs.laws.readers.putting_has_one_outcome.Goals as goal

pub returns : goal.returns
returns g c = λ function messages before x y es fs put others a b ok ok' one two.
    puts_one g.T.Transport.sends function messages before x y es fs put others a b ok ok' one two
