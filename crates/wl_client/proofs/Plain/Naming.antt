-- What ids name after the object at one number was changed.
use Rattle.std.proofs.Common.{◌≡◌, ℕ, Bool, true, false, cond, eqb, eqb-true, Option, None, Some, refl, sym, ap, ap₂, ◌∙◌, true≢false, arith}
use Rattle.std.proofs.lemmas.Bool.{eq-eqb}
use Rattle.std.specs.Prelude.{◌==◌, ◌&&◌}
use Rattle.wl_link.specs.declared.object.Object.{Object}
use Rattle.wl_link.specs.Identity.{Id, named_in, names}
use Rattle.wl_link.specs.Store.{Store, held, removed, rewritten}
use Rattle.wl_link.proofs.Ids.StoreLaws.{held_removed, held_rewritten, rewritten_here}
use Rattle.wl_client.specs.declared.objects.Kept.{Kept}
use Rattle.wl_client.specs.ObjectId.{IdParts}
use Rattle.wl_client.specs.Plain.{same_object}
use Rattle.wl_client.specs.Session.{id_of, named, serial_of}

differs : (b c : Bool) → (b && c) ≡ false → b ≡ true → c ≡ false
differs true c both is = both
differs false c both is = absurd (true≢false (sym is))

swapped : (m n : ℕ) (b : Bool) → eqb m n ≡ b → (n == m) ≡ b
swapped m n b h1 = grind (arith, eq-eqb, eqb-true, true≢false)

module _ {U : Type 0} where
  -- what stands there, if anything does, has this serial
  abbrev pub HasSerial : ℕ → Option (Object (Kept U)) → Type 0
  HasSerial n o = (x : Object (Kept U)) → o ≡ Some x → x.value.serial ≡ n

  pub nothing_has : (n : ℕ) (o : Option (Object (Kept U))) → o ≡ None → HasSerial n o
  nothing_has n o none x is = grind (arith)

  chosen : (b : Bool) (y x : Object (Kept U)) → cond b (Some y) None ≡ Some x → (y ≡ x) × (b ≡ true)
  chosen true y x e = (cc, refl)
  chosen false y x e = absurd cc

  -- an id that names an object: its number is not 0, and holds that object, which has its serial
  pub record Names (store : Store (Kept U)) (id : IdParts) (x : Object (Kept U)) : Type 0 where
    pub numbered : (id.number == 0) ≡ false
    pub holds : held store id.number ≡ Some x
    pub tells : (x.value.serial == id.serial) ≡ true

  parts : (zero : Bool) (id : Id) (h : Option (Object (Kept U))) (x : Object (Kept U)) → cond zero None (named_in serial_of id h) ≡ Some x
      → (zero ≡ false) × (h ≡ Some x) × ((x.value.serial == id.serial) ≡ true)
  parts zero id h x h1 = grind (arith, chosen)

  pub names_so : (store : Store (Kept U)) (id : IdParts) (x : Object (Kept U)) → named store id ≡ Some x → Names store id x
  names_so store id x is = grind (arith, parts, id_of, held)

  pub serial_is : {store : Store (Kept U)} {id : IdParts} {x : Object (Kept U)} → Names store id x → HasSerial id.serial (held store id.number)
  serial_is {store} {id} {x} by y is = grind (arith, held, eqb-true)

  -- ---- the id itself

  -- its number holds another object of its serial
  pub named_here : (store : Store (Kept U)) (id : IdParts) (x : Object (Kept U)) → (id.number == 0) ≡ false → held store id.number ≡ Some x → (x.value.serial == id.serial) ≡ true
      → named store id ≡ Some x
  named_here store id x numbered holds tells = grind (arith, named_in, serial_of, id_of, held)

  pub rewritten_named : (store : Store (Kept U)) (id : IdParts) (x y : Object (Kept U)) → Names store id x → y.value.serial ≡ x.value.serial
      → named (rewritten store id.number y) id ≡ Some y
  rewritten_named store id x y by same = grind (arith, named_here, rewritten, rewritten_here)

  pub both_none : (b : Bool) → ◌≡◌ {A = Option (Object (Kept U))} (cond b None None) None
  both_none true = refl
  both_none false = refl

  -- ---- another id

  unnamed : (n : ℕ) (id : Id) (h : Option (Object (Kept U))) → HasSerial n h → (n == id.serial) ≡ false → named_in serial_of id h ≡ None
  unnamed n id None has differ = refl
  unnamed n id (Some x) has differ = ap (λ (b : Bool). cond b (Some x) None) (ap (λ (m : ℕ). m == id.serial) (has x refl) ∙ differ)

  -- One number of a store was changed, and both what it held and what it holds has this serial: an id of another number or
  -- serial names what it named.
  pub other_named : (before after : Store (Kept U)) (n serial : ℕ) (h : Option (Object (Kept U))) → ((m : ℕ) → held after m ≡ cond (eqb m n) h (held before m)) → HasSerial serial h
      → HasSerial serial (held before n) → (id : IdParts) → ((n == id.number) && (serial == id.serial)) ≡ false → named after id ≡ named before id
  other_named before after n serial h holds has had id other = grind (arith, eqb, named_in, serial_of, id_of, held, differs, swapped, unnamed, eqb-true)

  pub rewritten_others : (store : Store (Kept U)) (id : IdParts) (x y : Object (Kept U)) → Names store id x → y.value.serial ≡ x.value.serial → (other : IdParts)
      → same_object id other ≡ false → named (rewritten store id.number y) other ≡ named store other
  rewritten_others store id x y by same other differ = grind (arith, other_named, rewritten, held_rewritten, eqb-true, serial_is)

  pub removed_others : (store : Store (Kept U)) (id : IdParts) (x : Object (Kept U)) → Names store id x → (other : IdParts) → same_object id other ≡ false
      → named (removed store id.number) other ≡ named store other
  removed_others store id x by other differ = grind (arith, other_named, removed, held_removed, nothing_has, eqb-true, serial_is)

-- ids of one number and serial name the same
pub same_names : {U : Type 0} (store : Store (Kept U)) (a b : IdParts) → same_object a b ≡ true → named store a ≡ named store b
same_names {U} store a b same = grind (arith, ap₂, names, serial_of, eqb-true, true≢false)
