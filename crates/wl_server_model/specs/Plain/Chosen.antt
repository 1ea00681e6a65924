-- What a program finds after it chose an object's number or version, in the words of the look-ups.
--
-- A contract that cites one of these has another clause beside it, `call`, from which it follows.
use Rattle.std.specs.Prelude.{◌≡◌, ℕ, true, false, None, Some, Result, Ok, Err, IfOk, option_map}
use Rattle.wl_wire.specs.declared.interface.InterfaceId.{InterfaceId}
use Rattle.wl_link.specs.declared.object.Object.{Object}
use Rattle.wl_server_client.specs.declared.error.CreateAtError.{CreateAtError}
use Rattle.wl_server_client.specs.declared.error.VersionError.{VersionError}
use Rattle.wl_server_client.specs.declared.error.VersionError.TheVariants as wrong
use Rattle.wl_server_client.specs.declared.objects.Kept.{Kept}
use Rattle.wl_server_model.specs.Backend.{BackendState}
use Rattle.wl_server_client.specs.Chosen.{has_version, with_version}
use Rattle.wl_server_client.specs.Ids.{ClientParts, IdParts}
use Rattle.wl_server_model.specs.PartStep.{lacks_create_at}
use Rattle.wl_server_model.specs.Plain.{CreatedAs, GlobalsStay, IsUnchanged, OtherClientsStay, OtherObjectsStay, client_in, notes_made_in, object_in, without_objects}

module _ {T U G C : Type 0} where
  -- The object that the id names has the version, which its interface has in the table, and is otherwise as it was. Or it says
  -- why not, and nothing has changed.
  abbrev pub VersionSetAs : BackendState T U G C → IdParts → ℕ → Result (Unit {0}) VersionError → BackendState T U G C → Type 0
  VersionSetAs before id version (Ok _) after =
      (x : Object (Kept U)) × (object_in before id ≡ Some x) × (has_version before.server.offer.table x.interface version ≡ true)
      × (object_in after id ≡ Some (with_version version x))
  VersionSetAs before id version (Err wrong.InvalidId) after = (object_in before id ≡ None) × IsUnchanged before after
  VersionSetAs before id version (Err wrong.UnknownVersion) after =
      (x : Object (Kept U)) × (object_in before id ≡ Some x) × (has_version before.server.offer.table x.interface version ≡ false)
      × IsUnchanged before after

  pub record SetsObjectVersion (before : BackendState T U G C) (id : IdParts) (version : ℕ) (answer : Result (Unit {0}) VersionError) (after : BackendState T U G C)
      : Type 0 where
    pub object : VersionSetAs before id version answer after
    pub objects : OtherObjectsStay before id after
    pub rest : option_map without_objects (client_in after id.client) ≡ option_map without_objects (client_in before id.client)
    pub clients : OtherClientsStay before id.client after
    pub notes : (client : ClientParts) → notes_made_in after client ≡ notes_made_in before client
    pub globals : GlobalsStay before after
    pub memory : after.refused ≡ false

  -- what `create_object` does, with this number
  pub record CreatesObjectAt (before : BackendState T U G C) (client : ClientParts) (i : InterfaceId) (version n : ℕ) (u : U) (answer : Result IdParts CreateAtError)
      (after : BackendState T U G C) : Type 0 where
    pub object : CreatedAs before client i version u answer after
    pub number : IfOk answer (λ id. id.number ≡ n)
    pub clients : OtherClientsStay before client after
    pub notes : (other : ClientParts) → notes_made_in after other ≡ notes_made_in before other
    pub globals : GlobalsStay before after
    pub memory : after.refused ≡ lacks_create_at answer
