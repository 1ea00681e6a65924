use Rattle.std.proofs.Common.{length}
use Rattle.wl_client.proofs.event.+first_new_id.Given as goal

abbrev pub decreases-first_new_id : goal.decreases-first_new_id
decreases-first_new_id l = length l.args.now
