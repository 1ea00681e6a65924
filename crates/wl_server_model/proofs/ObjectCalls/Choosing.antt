-- A client of which the program chose an object's number or version.
use Rattle.std.proofs.Common.{◌≡◌, ◌≢◌, ◌⊎◌, ℕ, Bool, true, false, List, Option, None, Some, is_some, Result, Ok, Err, MatchBool, MatchOption, refl, ap, true≢false, arith}
use mathlib.Core.Logic.{inl, inr}
use Rattle.std.specs.Prelude.{nat_lt}
use Rattle.wl_wire.specs.Table.{InterfaceRow}
use Rattle.wl_link.specs.declared.object.Object.{Object}
use Rattle.wl_link.specs.Store.{Store, held, is_free, is_server_number, rewritten}
use Rattle.wl_link.proofs.Calls.Branches.{map_bool}
use Rattle.wl_server_client.specs.declared.error.VersionError.{VersionError}
use Rattle.wl_server_client.specs.declared.error.VersionError.TheVariants as wrong
use Rattle.wl_server_client.specs.declared.objects.Kept.{Kept}
use Rattle.wl_server_client.specs.Chosen.{VersionSet, has_version, is_free_own, with_version}
use Rattle.wl_server_client.specs.Ids.{IdParts}
use Rattle.wl_server_client.specs.Inside.Choosing.{SetsVersionIn}
use Rattle.wl_server_client.specs.Inside.Client.{Does}
use Rattle.wl_server_client.specs.Part.{Part, named}
use Rattle.wl_server_model.specs.PartStep.{Quietly}
use Rattle.wl_server_client.specs.Stored.{Stored, no_times}
use Rattle.wl_server_client.proofs.CallSteps.Doing.{does_quietly}

-- which it is of two
pub either_flag : {P Q : Type 0} (b : Bool) → MatchBool b P Q → ((b ≡ true) × P) ⊎ ((b ≡ false) × Q)
either_flag true p = inl (refl, p)
either_flag false q = inr (refl, q)

-- a free number of the client's range holds no object, and is not 0
pub own_absent : {U : Type 0} (store : Store (Kept U)) (n : ℕ) → is_free_own store n ≡ true → (held store n ≡ None) × (n ≢ 0)
own_absent store n free = grind (arith, true≢false, is_free, is_server_number, held, nat_lt, is_some)

-- ---- a version

module _ {T U C : Type 0} (table : List InterfaceRow) (s : Stored T U C) (id : IdParts) (version : ℕ) (answer : Result (Unit {0}) VersionError)
    (store : Store (Kept U)) where
  pub version_does : SetsVersionIn table s.part.store id version answer store
      → Does s (λ p did q. Quietly false did (VersionSet table p id version answer q))
      (record { serial = s.serial; part = record s.part { store = store }; made = s.made; times = no_times })
  version_does sets =
      does_quietly s (λ p did q. Quietly false did (VersionSet table p id version answer q)) (record s.part { store = store })
      (refl, refl, of (named s.part.store id) sets)
    where
      over : Store (Kept U) → Part T U C
      over k = record s.part { store = k }

      of : (o : Option (Object (Kept U)))
          → MatchOption o ((answer ≡ Err wrong.InvalidId) × (store ≡ s.part.store))
          (λ x. MatchBool (has_version table x.interface version)
          ((answer ≡ Ok tt) × (store ≡ rewritten s.part.store id.number (with_version version x)))
          ((answer ≡ Err wrong.UnknownVersion) × (store ≡ s.part.store)))
          → MatchOption o ((answer ≡ Err wrong.InvalidId) × (over store ≡ s.part))
          (λ x. MatchBool (has_version table x.interface version)
          ((answer ≡ Ok tt) × (over store ≡ over (rewritten s.part.store id.number (with_version version x))))
          ((answer ≡ Err wrong.UnknownVersion) × (over store ≡ s.part)))
      of None (is, same) = (is, ap over same)
      of (Some x) set =
          map_bool (has_version table x.interface version) (λ (is, same). (is, ap over same)) (λ (is, same). (is, ap over same)) set
