-- What ids name after the object at one number was changed.
use Rattle.std.proofs.Common.{◌≡◌, ℕ, Bool, true, false, cond, eqb, eqb-true, Option, None, Some, true≢false, arith}
use Rattle.std.proofs.lemmas.Bool.{eq-eqb}
use Rattle.std.specs.Prelude.{◌==◌}
use Rattle.wl_link.specs.declared.object.Object.{Object}
use Rattle.wl_link.specs.Identity.{Id, named_in}
use Rattle.wl_link.specs.Store.{Store, held, removed, rewritten}
use Rattle.wl_link.proofs.Ids.StoreLaws.{held_removed, held_rewritten, removed_here, rewritten_here}
use Rattle.wl_server_client.specs.declared.objects.Kept.{Kept}
use Rattle.wl_server_client.specs.Ids.{IdParts}
use Rattle.wl_server_client.specs.Part.{id_of, named, same_id, serial_of}

module _ {U : Type 0} where
  -- what stands there, if anything does, has this serial
  abbrev pub HasSerial : ℕ → Option (Object (Kept U)) → Type 0
  HasSerial n o = (x : Object (Kept U)) → o ≡ Some x → x.value.serial ≡ n

  pub nothing_has : (n : ℕ) (o : Option (Object (Kept U))) → o ≡ None → HasSerial n o
  nothing_has n o none x is = grind (arith)

  -- an id that names an object: its number is not 0, and holds that object, which has its serial
  pub record Names (store : Store (Kept U)) (id : IdParts) (x : Object (Kept U)) : Type 0 where
    pub numbered : (id.number == 0) ≡ false
    pub holds : held store id.number ≡ Some x
    pub tells : (x.value.serial == id.serial) ≡ true

  parts : (zero : Bool) (id : Id) (h : Option (Object (Kept U))) (x : Object (Kept U)) → cond zero None (named_in serial_of id h) ≡ Some x
      → (zero ≡ false) × (h ≡ Some x) × ((x.value.serial == id.serial) ≡ true)
  parts zero id h x h1 = grind (arith)

  pub names_so : (store : Store (Kept U)) (id : IdParts) (x : Object (Kept U)) → named store id ≡ Some x → Names store id x
  names_so store id x is = grind (arith, parts)

  -- ---- the id itself

  -- its number holds another object of its serial
  pub named_here : (store : Store (Kept U)) (id : IdParts) (x : Object (Kept U)) → (id.number == 0) ≡ false → held store id.number ≡ Some x
      → (x.value.serial == id.serial) ≡ true
      → named store id ≡ Some x
  named_here store id x numbered holds tells = grind (arith)

  pub rewritten_named : (store : Store (Kept U)) (id : IdParts) (x y : Object (Kept U)) → Names store id x → y.value.serial ≡ x.value.serial
      → named (rewritten store id.number y) id ≡ Some y
  rewritten_named store id x y by same = grind (arith, named_here, rewritten_here)

  pub both_none : (b : Bool) → ◌≡◌ {A = Option (Object (Kept U))} (cond b None None) None
  both_none h1 = grind (arith)

  pub removed_named : (store : Store (Kept U)) (id : IdParts) → named (removed store id.number) id ≡ None
  removed_named store id = grind (arith, cond, named_in, serial_of, id_of, removed_here, both_none)

  -- ---- another id

  -- One number of a store was changed, and both what it held and what it holds has this serial: an id of another number or
  -- serial names what it named.
  pub other_named : (before after : Store (Kept U)) (n serial : ℕ) (h : Option (Object (Kept U)))
      → ((m : ℕ) → held after m ≡ cond (eqb m n) h (held before m)) → HasSerial serial h
      → HasSerial serial (held before n) → (id : IdParts) → same_id (record { number = n; serial = serial }) (id_of id) ≡ false
      → named after id ≡ named before id
  other_named before after n serial h holds has had id other = grind (arith, eqb, true≢false, eq-eqb, eqb-true, cond)

  pub rewritten_others : (store : Store (Kept U)) (id : IdParts) (x y : Object (Kept U)) → Names store id x → y.value.serial ≡ x.value.serial
      → (other : IdParts)
      → same_id (id_of id) (id_of other) ≡ false → named (rewritten store id.number y) other ≡ named store other
  rewritten_others store id x y by same other differ = grind (arith, other_named, held_rewritten, eqb-true)

  pub removed_others : (store : Store (Kept U)) (id : IdParts) (x : Object (Kept U)) → Names store id x → (other : IdParts)
      → same_id (id_of id) (id_of other) ≡ false
      → named (removed store id.number) other ≡ named store other
  removed_others store id x by other differ = grind (arith, other_named, removed, held_removed, nothing_has, eqb-true)
