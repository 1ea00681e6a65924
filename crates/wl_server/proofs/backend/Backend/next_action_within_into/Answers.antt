use Rattle.wl_server_model.proofs.OverRuns.Cut.CuttingLaws.{histories_cut}
use Rattle.wl_server_model.proofs.Plain.Reading.{next_action_within_ends, reads_within}
use Rattle.wl_server.proofs.backend.Backend.next_action_within_into.Goals as goal
use Rattle.std.proofs.Common.{arith}
use Rattle.wl_server_client.specs.Reading.{action_content}
use Rattle.wl_server_model.specs.Server.{seen}
use Rattle.wl_server_model.proofs.OverRuns.Cut.RoomLaws.{reads_for_room}

pub returns : goal.returns
returns g c =
    let call = c.read_client.ensures.within in
    record {
      call = call;
      plain = reads_within _ _ _ _ _ _ _ call;
      reason = next_action_within_ends _ _ _ _ _ _ _ call;
      cutting = (call.step, histories_cut _ _ _ _);
      room = λ e id p call by there. grind (arith, seen, reads_for_room, action_content);
      empty = c.read_client.ensures.empty;
    }
