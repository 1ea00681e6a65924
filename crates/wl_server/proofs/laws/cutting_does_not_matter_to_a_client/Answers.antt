use Rattle.wl_server_model.proofs.OverRuns.Cut.CuttingLaws.{histories_cut, holds_at, run_holds}
use Rattle.wl_server_model.specs.PartStep.{over, around}
use Rattle.wl_server.proofs.laws.cutting_does_not_matter_to_a_client.Goals as goal
use Rattle.wl_link.proofs.Readings.CuttingLaws.{finish_law, reading_law}
use Rattle.wl_link.proofs.Readings.AnsweringLaws.{some_answered}
use Rattle.wl_link.proofs.Readings.ServedLaws.{served_one, told_function}
use Rattle.wl_link.specs.Served.{AsTold, state_as}
use Rattle.wl_server_client.specs.Reading.{server}
use Rattle.std.proofs.Common.{arith}
use Rattle.wl_server_model.proofs.OverRuns.Alone.IsolationLaw.{is_isolated}
use Rattle.wl_server_model.proofs.OverRuns.Alone.OwnRuns.{are_mine}
use Rattle.wl_server_client.specs.Globals.{new_offer}
use Rattle.wl_server_model.specs.Runs.{just_inserted, mine, offer_over}
use Rattle.wl_server_model.specs.Server.{seen}
use Rattle.wl_server_client.specs.Telling.{reader_part}

pub returns : goal.returns
returns g c = record {
  reading = λ a left p end turns out reads fed ample finishes.
      reading_law g.T.Transport.sends g.T.Transport.receives AsTold (server a) told_function
      (grind (arith)) left p end turns out reads fed ample finishes;
  finish = λ a. finish_law g.T.Transport.sends g.T.Transport.receives AsTold (server a) told_function;
  one = λ a p more answers finishes gave others x y. served_one AsTold told_function (server a) (state_as p more answers) x y finishes gave others;
  calls = λ views. histories_cut _;
  some = λ a. some_answered (server a) (grind (arith));
  each = λ views table run after leads id transport client_data earlier later e split inserts p there more finishes.
      let w = over g.T.Transport.sends g.T.Transport.receives views in
      let (link, fresh, alone) = (is_isolated w table run after leads).each id transport client_data earlier later e split inserts in
      some_answered (server (around w id after.offer)) (grind (arith)) (reader_part p) more finishes
      (grind (arith, holds_at, seen, run_holds, offer_over, new_offer, just_inserted, mine, are_mine));
}
