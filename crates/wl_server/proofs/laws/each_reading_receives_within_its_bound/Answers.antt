use Rattle.wl_server_model.specs.PartStep.{over}
use Rattle.wl_server_model.proofs.Dispatches.Receiving.{dispatch_bounded, parts_bounded, keeps_to}
use Rattle.wl_server.proofs.laws.each_reading_receives_within_its_bound.Goals as goal
use Rattle.wl_server_model.specs.Server.{seen}

pub returns : goal.returns
returns g c = record {
  call = λ before after e one id. keeps_to (over g.T.Transport.sends g.T.Transport.receives g.G.GlobalHandler.views) id before.offer
      (seen id before) (seen id after) (e.lacks id) (e.did id) e.call (one.each id);
  dispatch = dispatch_bounded _ _;
  several = parts_bounded _ _;
}
