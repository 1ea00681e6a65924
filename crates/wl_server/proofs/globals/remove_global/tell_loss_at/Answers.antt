use Rattle.std.proofs.Common.{map, refl, subst}
use Rattle.wl_wire.specs.Message.{WireMessage}
use Rattle.wl_server_client.specs.Inside.Puts.{Puts}
use Rattle.wl_server_client.specs.Telling.{by_object}
use Rattle.wl_server_client.proofs.Readings.Notes.{killed_hears, live_hears}
use Rattle.wl_server.proofs.globals.remove_global.tell_loss_at.Goals as goal
use Rattle.wl_server_client.specs.Stored.{no_times}

pub returns-in-Some-clause-felt : goal.returns-in-Some-clause-felt
returns-in-Some-clause-felt g c = λ slot.
    rw (c.in-Some.is, ← c.client.view_is) (
      c.kill_unless_written.new.self,
      live_hears _ _ _ _ _ _ _ c.if-not-client.true
          (subst (λ (m : WireMessage). Puts g.T.Transport.sends c.client.inside.socket (map (λ r. by_object r m.opcode m.args) c.client.inside.objects.registries.items) c.put_to_each-answer.result c.put_to_each-answer.new.socket)
          c.message_of_number-message.ensures (rw (← c.deref.ensures.value) c.put_to_each-answer.ensures.puts)) c.kill_unless_written.ensures.refused c.kill_unless_written.ensures.closed,
      refl,
    )

pub returns-in_default-clause-felt : goal.returns-in_default-clause-felt
returns-in_default-clause-felt g c = λ slot. rw (c.in-Some.is, ← c.client.view_is)
    (_, killed_hears _ (record { serial = _; part = _; made = _; times = no_times }) _ c.if-not-client.false, refl)
