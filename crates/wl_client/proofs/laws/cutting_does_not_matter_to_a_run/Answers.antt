use Rattle.wl_client.proofs.OverRuns.StretchLaws.{cut_otherwise, stretch_served, within_stretch}
use Rattle.wl_client.proofs.laws.cutting_does_not_matter_to_a_run.Goals as goal

pub returns-clause-served : goal.returns-clause-served
returns-clause-served g c = stretch_served

pub returns-clause-within : goal.returns-clause-within
returns-clause-within g c = within_stretch

pub returns-clause-same : goal.returns-clause-same
returns-clause-same g c = cut_otherwise
