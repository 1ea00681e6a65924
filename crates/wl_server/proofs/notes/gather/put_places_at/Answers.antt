use Rattle.std.proofs.Common.{map, arith, append-nil, append_assoc}
use Rattle.std.proofs.lemmas.Grind.{common_steps}
use Rattle.wl_server_model.proofs.CleanupSteps.Ordering.{places_by_number, put, put_both}
use Rattle.wl_server.proofs.notes.gather.put_places_at.Goals as goal
use Rattle.std.proofs.lemmas.List.{length-map}
use Rattle.wl_server_model.specs.NoteOrder.{places_at}
use Rattle.wl_server_client.specs.NoteTimes.{place_at}
use Rattle.wl_server_client.specs.Inside.NoteTimes.{place_of}

pub returns-in_ok-put_places-2 : goal.returns-in_ok-put_places-2
returns-in_ok-put_places-2 g c = grind (arith, common_steps, put_both, append_assoc, place_of, places_by_number, place_at)

pub returns-else-waits-clause-counted : goal.returns-else-waits-clause-counted
returns-else-waits-clause-counted g c = grind (arith, common_steps, put, places_at, append-nil, length-map)

pub returns-else-waits-clause-placed : goal.returns-else-waits-clause-placed
returns-else-waits-clause-placed g c =
    rw (c.in-Some.is, ← c.client.view_is, c.if-waits.false)
    (grind (arith, c.in_ok-put_places.ensures, places_by_number, append-nil, map, place_at))
