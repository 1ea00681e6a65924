use Rattle.std.proofs.Common.{rules, refl, Ok, Err}
use Rattle.wl_client.specs.declared.error.DestroyError.TheVariants as destroy
use Rattle.wl_flat.specs.Flat.{proxy_of}
use Rattle.wl_host_client.specs.Client.{LeavesUnnoted}
use Rattle.wl_host_client.proofs.GivingUp.{leaves_as_other, stays_as_display}
use Rattle.wl_host_client.proofs.client.Client.give_up_object.Goals.{in-Err-InvalidId+else-is_display, in-Ok}
use Rattle.wl_host_client.proofs.client.Client.give_up_object.Goals as goal

pub returns-in-Err-OutOfMemory-clause-call : goal.returns-in-Err-OutOfMemory-clause-call
returns-in-Err-OutOfMemory-clause-call c =
    (Err destroy.OutOfMemory, c.destroy_object.new.self, search rules, search rules, (refl, refl), search rules)

pub returns-in-Err-InvalidId-clause-call : goal.returns-in-Err-InvalidId-clause-call
returns-in-Err-InvalidId-clause-call c = (
  Err destroy.InvalidId,
  c.destroy_object.new.self,
  search rules,
  search rules,
  stays_as_display _ c.args.id.now.number c.if-is_display.true (refl, refl),
  search rules,
)

-- the core after each call is the witness
pub returns-clause-call : goal.returns-clause-call
returns-clause-call c =
    let leaves : LeavesUnnoted c.destroy_object.new.self (proxy_of c.args.id.now) c.status_by-status.result c.take_notes.new.self = (
      c.set_data.new.self,
      c.reclaim.new.self,
      _,
      (c.set_data.result, search rules, c.set_data.ensures.refused, c.status_by-status.ensures),
      (c.reclaim.result, search rules, c.reclaim.ensures.refused, refl),
      search rules,
    ) in
    elim c.match-destroy_object.branch [
      | in-Err-InvalidId+else-is_display w ↦ (
        Err destroy.InvalidId,
        c.destroy_object.new.self,
        search rules,
        search rules,
        leaves_as_other _ c.args.id.now.number (search rules) leaves,
        search rules,
      )
      | in-Ok w ↦ (Ok _, c.destroy_object.new.self, search rules, search rules, leaves, search rules)
    ]
