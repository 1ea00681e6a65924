use Rattle.wl_link.proofs.Streams.LengthLaws.{within_stretch}
use Rattle.wl_link.proofs.Stretches.StretchLaws.{cut_otherwise, stretch_served}
use Rattle.wl_link.proofs.laws.readers.cutting_does_not_matter_to_a_stretch.Goals as goal

pub returns-clause-served : goal.returns-clause-served
returns-clause-served g c = λ reader ends_by before after acts stretch. stretch_served reader ends_by before after acts stretch

pub returns-clause-within : goal.returns-clause-within
returns-clause-within g c = λ reader before after acts stretch. within_stretch reader before after acts stretch

pub returns-clause-same : goal.returns-clause-same
returns-clause-same g c = λ reader ends_by before after other acts others stretch stretch' bytes data'.
    cut_otherwise reader ends_by before after other acts others stretch stretch' bytes data'
