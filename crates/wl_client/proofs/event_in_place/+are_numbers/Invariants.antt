use Rattle.std.proofs.Common.{length}
use Rattle.wl_client.proofs.event_in_place.+are_numbers.Given as goal

abbrev pub decreases-are_numbers : goal.decreases-are_numbers
decreases-are_numbers l = length l.signature.now
