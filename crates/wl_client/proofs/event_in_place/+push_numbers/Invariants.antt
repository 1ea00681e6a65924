use Rattle.std.proofs.Common.{length}
use Rattle.wl_client.proofs.event_in_place.+push_numbers.Given as goal

abbrev pub decreases-push_numbers : goal.decreases-push_numbers
decreases-push_numbers l = length l.signature.now
