-- Ids of registries that are the same, or not.
use Rattle.std.proofs.Common.{◌≡◌, ◌≢◌, true, false, eqb, refl, true≢false, arith}
use Rattle.std.proofs.lemmas.Bool.{eqb-true, eq-eqb}
use Rattle.wl_link.specs.Identity.{Id}
use Rattle.wl_server_client.specs.Part.{same_id}

pub same_id_self : (a : Id) → same_id a a ≡ true
same_id_self a = rw (eq-eqb a.number a.number refl, eq-eqb a.serial a.serial refl) refl

pub other_id : (a b : Id) → a ≢ b → same_id a b ≡ false
other_id a b other = grind (arith, eqb, eqb-true, true≢false)
