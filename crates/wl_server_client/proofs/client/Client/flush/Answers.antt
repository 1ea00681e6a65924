use Rattle.std.proofs.Common.{map, refl, append-nil}
use Rattle.wl_server_client.specs.Deeds.{Sent}
use Rattle.wl_server_client.proofs.Readings.Notes.{notes_of_sends}
use Rattle.wl_server_client.proofs.client.Client.flush.Goals as goal

pub returns-clause-flushed : goal.returns-clause-flushed
returns-clause-flushed g c =
    let (es, flushed) = c.flush.ensures.flushed in
    rw (← c.self.view_is) (map Sent es, _, (es, _, flushed, refl, refl, refl), rw (notes_of_sends es, append-nil) refl)
