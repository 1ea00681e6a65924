-- The ids that the numbers of objects become, while an object is to be made.
use Rattle.std.proofs.Common.{◌≡◌, ◌≢◌, ◌==◌, ℕ, Bool, true, false, Option, None, Some, Ok, refl, sym, ap}
use Rattle.std.specs.Prelude.{IfSome}
use Rattle.wl_wire.specs.declared.interface.InterfaceId.{InterfaceId}
use Rattle.wl_wire.specs.MessageRows.{fits}
use Rattle.wl_link.specs.declared.object.Object.{Object}
use Rattle.wl_link.specs.Identity.{Objects}
use Rattle.wl_link.specs.Store.{held}
use Rattle.wl_link.proofs.Ids.StoreLaws.{stored_here, stored_other}
use Rattle.wl_server_client.specs.declared.objects.Kept.{Kept}
use Rattle.wl_server_client.specs.Ids.{ClientParts, IdParts}
use Rattle.wl_server_client.specs.Inside.InPlace.{with_created}
use Rattle.wl_server_client.specs.Part.{id_at}
use Rattle.wl_server_client.specs.Requests.{made_id, made_object, object_argument}

module _ {U : Type 0} (client : ClientParts) (version : ℕ) (objects : Objects (Kept U)) (null : Bool) (asked : InterfaceId) (n : ℕ)
    (some : (n == 0) ≡ false) where
  -- it is the object that is to be made
  pub made_named : (created : Option IdParts) (id : IdParts) → created ≡ Some id → id ≡ made_id client objects id.number id.interface → n ≡ id.number
      → fits asked id.interface ≡ true
      → object_argument client (with_created version objects created).store null asked n ≡ Ok id
  made_named created id is made same fit =
      rw (is, some, stored_here objects.store id.number (made_object objects id.interface version) n same, fit, same) (ap Ok (sym made))

  -- it is another one, which is there
  pub kept_named : (created : Option IdParts) (x : Object (Kept U)) → IfSome created (λ id. n ≢ id.number) → held objects.store n ≡ Some x
      → fits asked x.interface ≡ true
      → object_argument client (with_created version objects created).store null asked n ≡ Ok (id_at client n x)
  kept_named None x other found fit = rw (some, found, fit) refl
  kept_named (Some id) x other found fit =
      rw (some, stored_other objects.store id.number (made_object objects id.interface version) n other, found, fit) refl
