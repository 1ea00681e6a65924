-- What the program chooses of an object: its version, and its number in the client's range.
use Rattle.std.specs.Prelude.{◌≡◌, ℕ, List, Bool, false, not, ◌&&◌, ◌==◌, nat_le, nat_lt, Result, Ok, Err, MatchBool, MatchOption, slice_get}
use Rattle.std.specs.Option.{option_map_or}
use Rattle.wl_wire.specs.declared.interface.InterfaceId.{InterfaceId}
use Rattle.wl_wire.specs.Table.{InterfaceRow}
use Rattle.wl_link.specs.declared.object.Object.{Object}
use Rattle.wl_link.specs.Store.{Store, is_free, is_server_number, rewritten}
use Rattle.wl_server_client.specs.declared.error.CreateAtError.{CreateAtError}
use Rattle.wl_server_client.specs.declared.error.CreateAtError.TheVariants as create
use Rattle.wl_server_client.specs.declared.error.VersionError.{VersionError}
use Rattle.wl_server_client.specs.declared.error.VersionError.TheVariants as wrong
use Rattle.wl_server_client.specs.declared.objects.Kept.{Kept}
use Rattle.wl_server_client.specs.Ids.{ClientParts, IdParts}
use Rattle.wl_server_client.specs.Objects.{CreatesAt, new_object}
use Rattle.wl_server_client.specs.Part.{Part, fresh_object, last_possible_serial, named}

-- the interface has the version: it is not 0, and not above that of the table
abbrev pub has_version : List InterfaceRow → InterfaceId → ℕ → Bool
has_version table i version = nat_lt 0 version && option_map_or (λ row. nat_le version row.version) (slice_get table i.0) false

-- the object, of another version
abbrev pub with_version : {U : Type 0} → ℕ → Object (Kept U) → Object (Kept U)
with_version version x = fresh_object x.interface version x.value.serial x.value.user_data

-- a number that the client may give to its next object: it holds none and was in use, or it is the next one
abbrev pub is_free_own : {U : Type 0} → Store (Kept U) → ℕ → Bool
is_free_own store n = not (is_server_number n) && is_free store n

module _ {T U C : Type 0} where
  -- The object that the id names gets the version, if its interface has it. All else of it stays.
  abbrev pub VersionSet : List InterfaceRow → Part T U C → IdParts → ℕ → Result (Unit {0}) VersionError → Part T U C → Type 0
  VersionSet table before id version answer after =
      MatchOption (named before.store id) ((answer ≡ Err wrong.InvalidId) × (after ≡ before))
      (λ x. MatchBool (has_version table x.interface version)
      ((answer ≡ Ok tt) × (after ≡ record before { store = rewritten before.store id.number (with_version version x) }))
      ((answer ≡ Err wrong.UnknownVersion) × (after ≡ before)))

  -- A new object gets this number, which has to be free in the client's range, and the next serial. The call is refused if the
  -- interface is not in the table, if no serial is left, or if the number is not free.
  abbrev pub CreatesNumbered : List InterfaceRow → ClientParts → Part T U C → InterfaceId → ℕ → ℕ → U → Result IdParts CreateAtError → Part T U C → Type 0
  CreatesNumbered table client before i version n u answer after =
      MatchOption (slice_get table i.0) ((answer ≡ Err create.UnknownInterface) × (after ≡ before))
      (λ _. MatchBool (before.last_serial == last_possible_serial) ((answer ≡ Err create.SerialsExhausted) × (after ≡ before))
      (MatchBool (is_free_own before.store n) (CreatesAt create.OutOfMemory client before n (new_object before i version u) answer after)
      ((answer ≡ Err create.NotFree) × (after ≡ before))))
