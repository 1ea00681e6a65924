use Rattle.std.proofs.Common.{◌∙◌, arith, option_copied, map, sym, ap, refl}
use Rattle.std.proofs.lemmas.Grind.{common_steps}
use Rattle.wl_server_client.proofs.CallSteps.Numbers.{in_time_both, in_time_same, waits_in_time}
use Rattle.wl_server_client.specs.Stored.{no_times}
use Rattle.wl_server_client.proofs.CallSteps.Doing.{told_untimed}
use Rattle.wl_server_client.proofs.ObjectCalls.Destroying.{refused, starved, untold, destroyed}
use Rattle.wl_server_client.proofs.client.Client.destroy_object.Goals as goal

pub returns-in_default-clause-does : goal.returns-in_default-clause-does
returns-in_default-clause-does g c = grind (arith, common_steps, option_copied, refused)

pub returns-in-Err-clause-does : goal.returns-in-Err-clause-does
returns-in-Err-clause-does g c = rw (← c.self.view_is)
    (starved g.T.Transport.sends (record { serial = _; part = _; made = _; times = no_times }) c.args.id.now _ (sym c.in-Some.ensures)
    _ (ap (map (λ w. w.1)) c.reserve_note.ensures.items) c.in-Err.ensures.asked)

pub returns-then-is_out_of_memory-clause-does : goal.returns-then-is_out_of_memory-clause-does
returns-then-is_out_of_memory-clause-does g c = rw (← c.self.view_is)
    (untold g.T.Transport.sends (record { serial = _; part = _; made = _; times = no_times }) c.args.id.now _ (sym c.in-Some.ensures) _ _ _ _
    (ap (map (λ w. w.1)) c.reserve_note.ensures.items) c.protocol_id.ensures c.put_delete_id-wrote.ensures (sym c.is_out_of_memory.ensures ∙ c.if-is_out_of_memory.true))

pub returns-clause-does : goal.returns-clause-does
returns-clause-does g c = rw (← c.self.view_is)
    (destroyed g.T.Transport.sends (record { serial = _; part = _; made = _; times = no_times }) c.args.id.now _ (sym c.in-Some.ensures) _ _ _ _ _ _ _
    c.kill_unless_written.new.self c.protocol_id.ensures c.put_delete_id-wrote.ensures (sym c.is_out_of_memory.ensures ∙ c.if-is_out_of_memory.false)
    c.take_out_noted.ensures.removed c.take_out_noted.ensures.registries c.take_out_noted.ensures.noted
    (ap (map (λ w. w.1)) c.reserve_note.ensures.items) (told_untimed _ c.put_delete_id-wrote.result c.kill_unless_written.new.self _
    (rw c.take_out_noted.ensures.serial at c.kill_unless_written.ensures.closed)))

pub returns-in-Err-clause-in_time : goal.returns-in-Err-clause-in_time
returns-in-Err-clause-in_time g c = rw (← c.self.view_is) (in_time_same _ _ _ _ (cc c.reserve_note.ensures.items) refl)

pub returns-then-is_out_of_memory-clause-in_time : goal.returns-then-is_out_of_memory-clause-in_time
returns-then-is_out_of_memory-clause-in_time g c = rw (← c.self.view_is) (in_time_same _ _ _ _ (cc c.reserve_note.ensures.items) refl)

pub returns-clause-in_time : goal.returns-clause-in_time
returns-clause-in_time g c = in_time_both _ _ _ _ _ _
    (rw (← c.self.view_is) (waits_in_time _ _ _ _ _ _ (rw c.reserve_note.ensures.items at c.take_out_noted.ensures.in_time) refl
    c.take_out_noted.ensures.made)) c.kill_unless_written.ensures.in_time
