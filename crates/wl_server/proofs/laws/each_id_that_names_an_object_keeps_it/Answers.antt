use Rattle.wl_server_model.proofs.OverRuns.Ids.NamedLaws.{each_keeps_naming, each_names_none_again}
use Rattle.wl_server.proofs.laws.each_id_that_names_an_object_keeps_it.Goals as goal

pub returns : goal.returns
returns g c = record {
  named = each_keeps_naming _;
  none = each_names_none_again _;
  script = each_keeps_naming _;
}
