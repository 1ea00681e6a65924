use Rattle.wl_server_model.proofs.OverRuns.Cut.StretchLaws.{cut_otherwise, stretch_served, within_stretch}
use Rattle.wl_server.proofs.laws.cutting_does_not_matter_to_a_run.Goals as goal

pub returns : goal.returns
returns g c = record {
  served = λ id offer before after p q run begins ends leads stretch.
      stretch_served _ id offer before after p begins q run ends leads stretch;
  within = λ id offer before after p q run begins ends leads stretch.
      within_stretch _ id offer before after p begins q run ends leads stretch;
  same = λ id offer before after other p q r run others begins ends ends' leads leads' stretch stretch' came finished.
      cut_otherwise _ id offer before after p begins other q r run others ends ends' leads leads' stretch stretch' came finished;
}
