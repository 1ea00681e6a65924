-- What the functions promise that give an object the number or the version that the program chose.
use Rattle.std.specs.Prelude.{◌≡◌, ℕ, List, Result, Ok, Err, MatchBool, MatchOption, false, true}
use Rattle.wl_wire.specs.Table.{InterfaceRow}
use Rattle.wl_link.specs.declared.object.Object.{Object}
use Rattle.wl_link.specs.declared.object_map.InsertError.{InsertError}
use Rattle.wl_link.specs.declared.object_map.InsertError.TheVariants as insert
use Rattle.wl_link.specs.Store.{Store, first_unused, rewritten, stored}
use Rattle.wl_server_client.specs.declared.error.VersionError.{VersionError}
use Rattle.wl_server_client.specs.declared.error.VersionError.TheVariants as wrong
use Rattle.wl_server_client.specs.declared.objects.Kept.{Kept}
use Rattle.wl_server_client.specs.Chosen.{has_version, is_free_own, with_version}
use Rattle.wl_server_client.specs.Ids.{IdParts}
use Rattle.wl_server_client.specs.Part.{named}

module _ {U : Type 0} where
  -- an object is put at a number of the client's range, exactly if that is free; memory may be refused only at the next one
  abbrev pub InsertsOwn : Store (Kept U) → ℕ → Object (Kept U) → Result (Unit {0}) InsertError → Store (Kept U) → Type 0
  InsertsOwn store n x (Ok _) after = (is_free_own store n ≡ true) × (after ≡ stored store n x)
  InsertsOwn store n x (Err insert.NotFree) after = (is_free_own store n ≡ false) × (after ≡ store)
  InsertsOwn store n x (Err insert.OutOfMemory) after = (is_free_own store n ≡ true) × (n ≡ first_unused store n) × (after ≡ store)

  -- the object that the id names gets the version, if its interface has it
  abbrev pub SetsVersionIn : List InterfaceRow → Store (Kept U) → IdParts → ℕ → Result (Unit {0}) VersionError → Store (Kept U) → Type 0
  SetsVersionIn table before id version answer after =
      MatchOption (named before id) ((answer ≡ Err wrong.InvalidId) × (after ≡ before))
      (λ x. MatchBool (has_version table x.interface version)
      ((answer ≡ Ok tt) × (after ≡ rewritten before id.number (with_version version x)))
      ((answer ≡ Err wrong.UnknownVersion) × (after ≡ before)))
