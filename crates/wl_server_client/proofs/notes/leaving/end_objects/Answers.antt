use Rattle.std.proofs.Common.{refl}
use Rattle.wl_server_client.proofs.CleanupSteps.Ending.{ending_begins}
use Rattle.wl_server_client.proofs.notes.leaving.end_objects.Goals as goal

pub loop-number-init : goal.loop-number-init
loop-number-init g c = record {
  ending = rw c.into_objects-all.ensures.objects (ending_begins c.args.client.now c.args.notes.now.items _ _ _ c.args.notes.now.ok.0 c.requires);
  capacity = refl;
}
