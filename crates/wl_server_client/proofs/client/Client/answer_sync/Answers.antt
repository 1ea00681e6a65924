use Rattle.std.proofs.Common.{◌+◌, ◌∙◌, refl, sym}
use Rattle.wl_server_client.specs.Inside.Conversion.{objects_of}
use Rattle.wl_server_client.proofs.Readings.InPlace.{own, sync_answered}
use Rattle.wl_server_client.proofs.client.Client.answer_sync.Goals as goal

pub put_done_at_once-requires-clause-own : goal.put_done_at_once-requires-clause-own
put_done_at_once-requires-clause-own g c = own (objects_of c.self.inside.objects) c.in-Some.number (c.if-not-leaves_no_trace.ensures refl)

pub returns-clause-handles : goal.returns-clause-handles
returns-clause-handles g c = rw (← c.self.view_is)
    (sync_answered _ _ _ _ c.in-Some.number (rw (← c.self.view_is) at c.requires.live) c.args.front.now (rw (← c.self.view_is) at c.requires.front)
    c.in-Some.ensures (c.if-not-leaves_no_trace.ensures refl) (sym c.is_above.ensures ∙ c.if-is_above.false) c.args.reading.now _ c.put_done_at_once.new.socket _
    (rw c.skip_message.ensures at c.put_done_at_once.ensures (c.self.inside.objects.last_serial + 1)) refl refl c.saturating_add-reading.ensures)
