use Rattle.std.proofs.Common.{◌≤◌, arith, length, refl}
use Rattle.std.proofs.lemmas.Grind.{common_steps}
use Rattle.wl_wire.specs.Table.{message_row}
use Rattle.wl_server_client.specs.Inside.Conversion.{objects_of}
use Rattle.wl_server_client.proofs.Readings.InPlace.{named_hand_out}
use Rattle.wl_server_client.proofs.reading.in_place.arguments.put_arguments.Goals as goal
use Rattle.wl_server_client.proofs.reading.in_place.arguments.put_arguments.Goals.{in-Some+in_ok-ok, in_default}

pub returns-clause-put : goal.returns-clause-put
returns-clause-put g c =
    let there : c.in_ok-used.used ≤ length c.args.tokens.now.items = omega (arith, c.in_ok-used.ensures.used, c.args.tokens.now.ok.0) in
    named_hand_out _ _ _ (objects_of c.args.objects.now) (message_row c.args.desc.now) c.args.payload.now c.args.tokens.now.items _ _ c.in_ok-used.used
    (objects_of c.match-created.objects) _ (rw c.as_slice-2.ensures.value refl)
    (rw (c.empty_for.ensures.empty, c.as_slice.ensures.value) at c.in_ok-used.ensures.named) there (elim c.match-created.branch [
      | in-Some+in_ok-ok w ↦ grind (arith, common_steps, w.objects-is, w.in-Some.is)
      | in_default w ↦ grind (arith, common_steps, w.objects-is, w.in_default.is)
    ])
