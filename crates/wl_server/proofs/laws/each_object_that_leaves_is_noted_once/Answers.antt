use Rattle.wl_server_model.proofs.OverRuns.Noted.NotedLaws.{each_is_noted, each_note_is_of_an_end, end_same}
use Rattle.wl_server.proofs.laws.each_object_that_leaves_is_noted_once.Goals as goal
use Rattle.std.proofs.Common.{arith, true≢false}
use Rattle.wl_link.proofs.Calls.Branches.{either_bool, either_option}

pub returns : goal.returns
returns g c = record {
  noted = each_is_noted _;
  cleanup = λ before after e out by call id. grind (arith, true≢false, either_option, either_bool);
  finish = λ before after e target u answer by call id. (end_same _ before after e target u answer by call id).1;
  of_ends = each_note_is_of_an_end _;
  at_once = λ before after e target u answer by call id. (end_same _ before after e target u answer by call id).0;
}
