use Rattle.std.proofs.Common.{◌≡◌, ◌≢◌, ◌==◌, ◌∙◌, true, false, Some, arith, sym}
use Rattle.std.proofs.lemmas.Grind.{common_steps}
use Rattle.std.proofs.lemmas.Bool.{ne_eqb}
use Rattle.std.specs.Prelude.{IfSome}
use Rattle.wl_wire.specs.MessageRows.{fits}
use Rattle.wl_link.specs.Store.{held}
use Rattle.wl_server_client.proofs.Readings.Naming.{kept_named, made_named}
use Rattle.wl_server_client.proofs.reading.in_place.naming.object_id.Goals as goal
use Rattle.wl_server_client.proofs.reading.in_place.naming.object_id.Goals.{in-Some, in_default+in_ok-object-in_default, in_default-via-in-Some+else-protocol_id-number, in_default-via-in_default}

pub returns : goal.returns
returns g c =
    let some : (c.args.number == 0) ≡ false = ne_eqb _ _ c.if-number-eq0.false in
    elim c.match-created.branch [
      | in-Some w ↦
          let fit : fits c.args.asked w.in-Some.id.interface ≡ true = grind (arith, common_steps, w.id-is, w.interface.ensures) in
          rw w.id-is (made_named _ _ _ _ _ _ some _ w.in-Some.id w.in-Some.is (rw w.in-Some.is at c.requires.made)
          (sym w.if-protocol_id-number.true ∙ w.protocol_id.ensures) fit)
      | in_default+in_ok-object-in_default w ↦
          let fit : fits c.args.asked w.in_ok-object-in_default.object.now.interface ≡ true = grind (arith, common_steps, w.id-is) in
          let found : held c.args.naming.now.objects.now.map.store c.args.number ≡ Some w.in_ok-object-in_default.object.now = sym w.in_ok-object-in_default.ensures.found in
          let other : IfSome c.args.created.now (λ id. c.args.number ≢ id.number) = elim w.in_default.branch [
            | in_default-via-in-Some+else-protocol_id-number w' ↦
                rw w'.in-Some.is (λ same. w'.if-protocol_id-number.false (w'.protocol_id.ensures ∙ sym same))
            | in_default-via-in_default w' ↦ rw w'.in_default.is tt
          ] in
          rw (w.id-is, w.id_at.ensures) (kept_named _ _ _ _ _ _ some _ w.in_ok-object-in_default.object.now other found fit)
    ]
