use Rattle.wl_wire.proofs.Extension.{AnswersExtension-unique}
use Rattle.wl_wire.proofs.Growth.{AnswersGrowth-unique}
use Rattle.wl_server_model.proofs.OverRuns.Outcome.MoveLaws.{scripts_determined, transport_determined}
use Rattle.wl_server_model.proofs.OverRuns.Outcome.NumberLaws.{inserts_next_one, global_is}
use Rattle.wl_server_model.proofs.OverRuns.Outcome.WholeLaws.{shares_one, client_one, live_one, object_one, slots_same}
use Rattle.wl_server_model.proofs.OverRuns.Outcome.WholeRuns.{performance_one, run_one}
use Rattle.wl_server.proofs.laws.each_run_of_a_server_has_one_outcome.Goals as goal
use Rattle.std.proofs.Common.{arith}
use Rattle.std.specs.Prelude.{option_map, nat_le, slice_get}
use Rattle.wl_link.specs.Store.{held}
use Rattle.wl_server_model.specs.Lookups.{and_then, global_info_of, id_if, info_at, name_if}
use Rattle.wl_link.proofs.Calls.NumberLaws.{full_not_absent, least_absent_one}
use Rattle.wl_server_client.specs.Globals.{name_range}

pub returns : goal.returns
returns g c = record {
  run = λ function receive_function. run_one _ (transport_determined _ _ g.G.GlobalHandler.views function receive_function);
  steps = λ function receive_function. performance_one _ (transport_determined _ _ g.G.GlobalHandler.views function receive_function);
  script = run_one _ (scripts_determined g.G.GlobalHandler.views);
  answers =
      λ s t same. grind (arith, option_map, info_at, object_one, client_one, and_then, held, id_if, live_one, slots_same, global_info_of, name_if);
  client = inserts_next_one;
  global = λ table globals i version a b ok ok' h g. grind (arith, slice_get, nat_le, global_is, least_absent_one, name_range, full_not_absent);
  interfaces = AnswersGrowth-unique;
  messages = AnswersExtension-unique;
  cleanup = shares_one;
}
