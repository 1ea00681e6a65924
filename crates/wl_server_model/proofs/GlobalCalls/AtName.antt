-- What becomes of the globals by a change at one name, and which name is the next.
use Rattle.std.proofs.Common.{◌≡◌, ◌≢◌, ◌<◌, ◌≤◌, ◌⊎◌, ℕ, ◌+◌, Bool, true, false, List, Option, None, Some, Ok, Err, Result, is_some, is_ok, refl, sym, ap, ◌∙◌, nat_le, arith}
use mathlib.Core.Logic.{inl, inr}
use Rattle.std.specs.Prelude.{MatchBool, MatchOption, slice_get}
use Rattle.std.proofs.lemmas.Bool.{cases_order, eq-eqb, false≢true, ne_eqb}
use Rattle.wl_wire.specs.declared.interface.InterfaceId.{InterfaceId}
use Rattle.wl_wire.specs.Table.{InterfaceRow}
use Rattle.wl_link.specs.declared.object.Object.{Object}
use Rattle.wl_link.specs.declared.object_map.NewError.{NewError}
use Rattle.wl_link.specs.declared.object_map.NewError.TheVariants as new
use Rattle.wl_link.specs.Identity.{names}
use Rattle.wl_link.specs.ObjectMap.{InsertsNew}
use Rattle.wl_link.specs.Store.{Store, first_unused, held, removed, rewritten, stored}
use Rattle.wl_link.specs.Unused.{IsLeastUnused}
use Rattle.wl_link.proofs.Calls.Branches.{both_bool, both_option, either_bool, either_option}
use Rattle.wl_link.proofs.Calls.NumberLaws.{full_not_absent, least_absent_one}
use Rattle.wl_link.proofs.Ids.StoreLaws.{stored_here}
use Rattle.wl_server_client.specs.declared.error.GlobalError.{GlobalError}
use Rattle.wl_server_client.specs.declared.error.GlobalError.TheVariants as refused
use Rattle.wl_server_client.specs.declared.globals.KeptGlobal.{KeptGlobal}
use Rattle.wl_server_client.specs.Globals.{CreatesGlobal, CreatesNext, Globals, HasNoName, IsNextGlobal, IsNextName, LacksName, as_disabled, disabled, disabled_at, freed, freed_at, global_serial, name_range}
use Rattle.wl_server_client.specs.Ids.{GlobalParts}
use Rattle.wl_server_model.specs.Inside.Naming.{InsertsUnused, NextName}
use Rattle.wl_server_model.specs.Next.{GlobalIsAsTold, NextGlobal, NextGlobalIsGiven}
use Rattle.wl_server_client.specs.Part.{last_possible_serial}

module _ {G : Type 0} where
  abbrev pub globals_of : Store (KeptGlobal G) → ℕ → Bool → Globals G
  globals_of store last keeps = record { store = store; last_serial = last; keeps_names = keeps }

  -- the global that an id names
  abbrev global_by : Store (KeptGlobal G) → GlobalParts → Option (Object (KeptGlobal G))
  global_by store id = names global_serial (record { number = id.name; serial = id.serial }) store

  pub nothing_disabled : (store : Store (KeptGlobal G)) (id : GlobalParts) (last : ℕ) (keeps : Bool) → is_some (global_by store id) ≡ false
      → globals_of store last keeps ≡ disabled (globals_of store last keeps) id
  nothing_disabled store id last keeps none = grind (arith, is_some, disabled_at, false≢true)

  pub one_disabled : (store after : Store (KeptGlobal G)) (id : GlobalParts) (last : ℕ) (keeps : Bool) → is_some (global_by store id) ≡ true
      → MatchOption (held store id.name) (after ≡ store) (λ x. after ≡ rewritten store id.name (as_disabled x))
      → globals_of after last keeps ≡ disabled (globals_of store last keeps) id
  one_disabled store after id last keeps some becomes = grind (arith, is_some, disabled_at, false≢true, as_disabled, global_serial)

  pub nothing_freed : (store : Store (KeptGlobal G)) (id : GlobalParts) (last : ℕ) (keeps : Bool) → is_some (global_by store id) ≡ false
      → globals_of store last keeps ≡ freed (globals_of store last keeps) id
  nothing_freed store id last keeps none = grind (arith, is_some, freed_at, false≢true)

  pub one_freed : (store after : Store (KeptGlobal G)) (id : GlobalParts) (last : ℕ) (keeps : Bool) → is_some (global_by store id) ≡ true
      → after ≡ removed store id.name → globals_of after last keeps ≡ freed (globals_of store last keeps) id
  one_freed store after id last keeps some becomes = grind (arith, is_some, freed_at, false≢true)

  -- ---- the next name

  unused_one : (store : Store (KeptGlobal G)) (n m : ℕ) → IsLeastUnused name_range store n → IsLeastUnused name_range store m → n ≡ m
  unused_one store n m one other =
      elim (cases_order n m) [
        | inl same ↦ same
        | inr (inl less) ↦ absurd (omega (arith, other.least n one.within less, one.unused))
        | inr (inr less) ↦ absurd (omega (arith, one.least m other.within less, other.unused))
      ]

  next_name_one : (globals : Globals G) (n m : ℕ) → IsNextName globals n → IsNextName globals m → n ≡ m
  next_name_one globals n m one other =
      elim (both_bool globals.keeps_names one other) [
        | inl (a, b) ↦ unused_one globals.store n m a b
        | inr (a, b) ↦ least_absent_one name_range globals.store n m a b
      ]

  has_no_next : (globals : Globals G) (n : ℕ) → HasNoName globals → IsNextName globals n → ⊥
  has_no_next globals n none next =
      elim (both_bool globals.keeps_names none next) [
        | inl (used, least) ↦ omega (arith, used.each n least.within least.below, least.unused)
        | inr (full, least) ↦ full_not_absent name_range globals.store n full least
      ]

  -- no global has the next name
  pub next_absent : (globals : Globals G) (id : GlobalParts) → IsNextGlobal globals id → held globals.store id.name ≡ None
  next_absent globals id (name, left, next) = elim (either_bool globals.keeps_names name) [ inl unused ↦ unused.absent | inr least ↦ least.absent ]

  -- there is one next id, where there is any
  pub next_global_one : (globals : Globals G) (a b : GlobalParts) → IsNextGlobal globals a → IsNextGlobal globals b → a ≡ b
  next_global_one globals a b (name, left, serial) (name', left', serial') =
      let names : a.name ≡ b.name = next_name_one globals a.name b.name name name' in
      let serials : a.serial ≡ b.serial = serial ∙ sym serial' in
      grind (arith, names, serials)

  pub lacks_no_next : (globals : Globals G) (id : GlobalParts) → LacksName globals → IsNextGlobal globals id → ⊥
  lacks_no_next globals id (inl none) (name, left, next) = has_no_next globals id.name none name
  lacks_no_next globals id (inr last) (name, left, next) = omega (arith, last, left)

  -- ---- what a creation answers

  creates : (table : List InterfaceRow) (globals : Globals G) (i : InterfaceId) (version : ℕ) (answer : Result GlobalParts GlobalError)
      → CreatesGlobal table globals i version answer
      → (answer ≡ Err refused.UnknownInterface) ⊎ ((answer ≡ Err refused.VersionTooHigh) ⊎ CreatesNext globals answer)
  creates table globals i version answer by =
      elim (either_option (slice_get table i.0) by) [
        | inl (none, is) ↦ inl is
        | inr (row, some, fits) ↦ elim (either_bool (nat_le version row.version) fits) [ inl next ↦ inr (inr next) | inr is ↦ inr (inl is) ]
      ]

  pub created_next : (table : List InterfaceRow) (globals : Globals G) (i : InterfaceId) (version : ℕ) (g : GlobalParts)
      → CreatesGlobal table globals i version (Ok g) → IsNextGlobal globals g
  created_next table globals i version g by =
      elim (creates table globals i version (Ok g) by) [
        | inl is ↦ absurd (false≢true (sym (ap is_ok is)))
        | inr (inl is) ↦ absurd (false≢true (sym (ap is_ok is)))
        | inr (inr next) ↦ next
      ]

  told_so : (globals : Globals G) (told : Option GlobalParts) (answer : Result GlobalParts GlobalError) → NextGlobal globals told
      → CreatesNext globals answer
      → GlobalIsAsTold told answer
  told_so globals (Some t) (Ok id) next by = ap Some (next_global_one globals t id next by)
  told_so globals None (Ok id) lacks by = absurd (lacks_no_next globals id lacks by)
  told_so globals (Some t) (Err refused.Full) next lacks = absurd (lacks_no_next globals t lacks next)
  told_so globals None (Err refused.Full) lacks by = refl
  told_so globals (Some t) (Err refused.OutOfMemory) next by = refl
  told_so globals None (Err refused.OutOfMemory) lacks (id, next, unused) = absurd (lacks_no_next globals id lacks next)
  told_so globals told (Err refused.UnknownInterface) next by = tt
  told_so globals told (Err refused.VersionTooHigh) next by = tt

  -- a creation gives the id that was told
  pub next_is_given : (table : List InterfaceRow) (globals : Globals G) (told : Option GlobalParts) → NextGlobal globals told
      → NextGlobalIsGiven table globals told
  next_is_given table globals told next i version answer by =
      elim (creates table globals i version answer by) [
        | inl is ↦ rw is tt
        | inr (inl is) ↦ rw is tt
        | inr (inr more) ↦ told_so globals told answer next more
      ]

  next_one : (globals : Globals G) (a b : Result GlobalParts GlobalError) → a ≢ Err refused.OutOfMemory → b ≢ Err refused.OutOfMemory
      → CreatesNext globals a → CreatesNext globals b → a ≡ b
  next_one globals (Err refused.OutOfMemory) b ample ample' one other = absurd (ample refl)
  next_one globals a (Err refused.OutOfMemory) ample ample' one other = absurd (ample' refl)
  next_one globals (Ok a) (Ok b) ample ample' one other = ap Ok (next_global_one globals a b one other)
  next_one globals (Ok a) (Err refused.Full) ample ample' one lacks = absurd (lacks_no_next globals a lacks one)
  next_one globals (Err refused.Full) (Ok b) ample ample' lacks one = absurd (lacks_no_next globals b lacks one)
  next_one globals (Err refused.Full) (Err refused.Full) ample ample' one other = refl
  next_one globals a b ample ample' one other = absurd (grind (arith))

  -- a creation has one answer, where memory is not refused
  pub creates_one : (table : List InterfaceRow) (globals : Globals G) (i : InterfaceId) (version : ℕ) (a b : Result GlobalParts GlobalError)
      → a ≢ Err refused.OutOfMemory → b ≢ Err refused.OutOfMemory
      → CreatesGlobal table globals i version a → CreatesGlobal table globals i version b → a ≡ b
  creates_one table globals i version a b ample ample' h g =
      elim (both_option (slice_get table i.0) h g) [
        | inl (none, is, is') ↦ is ∙ sym is'
        | inr (row, some, fits, fits') ↦
            elim (both_bool (nat_le version row.version) fits fits') [
              | inl (one, other) ↦ next_one globals a b ample ample' one other
              | inr (is, is') ↦ is ∙ sym is'
            ]
      ]

  -- the next id, by the name alone
  pub next_id : (store : Store (KeptGlobal G)) (last : ℕ) (keeps : Bool) (name : ℕ) → last < last_possible_serial → NextName keeps store (Some name)
      → IsNextGlobal (globals_of store last keeps) (record { name = name; serial = last + 1 })
  next_id store last true name left is = (is, left, refl)
  next_id store last false name left is = (is, left, refl)

  pub no_name : (store : Store (KeptGlobal G)) (last : ℕ) (keeps : Bool) → NextName keeps store None → LacksName (globals_of store last keeps)
  no_name store last true none = inl none
  no_name store last false none = inl none

  -- ---- a global that is inserted

  abbrev pub Inserts : Bool → Store (KeptGlobal G) → Object (KeptGlobal G) → Result ℕ NewError → Store (KeptGlobal G) → Type 0
  Inserts keeps store x answer after = MatchBool keeps (InsertsUnused store x answer after) (InsertsNew name_range store x answer after)

  put_by : (keeps : Bool) (store after : Store (KeptGlobal G)) (n : ℕ) (x : Object (KeptGlobal G)) → Inserts keeps store x (Ok n) after
      → (after ≡ stored store n x) × (1 ≤ n)
  put_by true store after n x (least, same) = (same, least.within)
  put_by false store after n x (least, same) = (same, least.within)

  -- a new global is named by its id
  pub new_named : (store after : Store (KeptGlobal G)) (keeps : Bool) (id : GlobalParts) (x : Object (KeptGlobal G)) (answer : Result ℕ NewError)
      → x.value.serial ≡ id.serial
      → answer ≡ Ok id.name → Inserts keeps store x answer after → global_by after id ≡ Some x
  new_named store after keeps id x answer serial is inserts =
      let (put, least) = put_by keeps store after id.name x (rw is at inserts) in grind (arith, name_range, ne_eqb, eq-eqb, stored_here, put, least)

  module _ (table : List InterfaceRow) (store after : Store (KeptGlobal G)) (last : ℕ) (keeps : Bool) (i : InterfaceId) (version : ℕ)
      (row : InterfaceRow) (known : slice_get table i.0 ≡ Some row) (fits : nat_le version row.version ≡ true) (left : last < last_possible_serial)
      (x : Object (KeptGlobal G)) (answer : Result ℕ NewError) (inserts : Inserts keeps store x answer after) where
    abbrev Answers : Result GlobalParts GlobalError → Type 0
    Answers r = CreatesGlobal table (globals_of store last keeps) i version r

    next_by : (k : Bool) (n : ℕ) → Inserts k store x (Ok n) after → IsNextName (globals_of store last k) n
    next_by true n (least, same) = least
    next_by false n (least, same) = least

    pub name_given : (n : ℕ) → answer ≡ Ok n → Answers (Ok (record { name = n; serial = last + 1 })) × (after ≡ stored store n x)
    name_given n is =
        let by = rw is at inserts in
        (rw (known, fits) (next_by keeps n by, left, refl), (put_by keeps store after n x by).0)

    none_by : (k : Bool) → Inserts k store x (Err new.IdsExhausted) after → HasNoName (globals_of store last k) × (after ≡ store)
    none_by true (used, same) = (used, same)
    none_by false (full, same) = (full, same)

    pub no_name_left : (e : NewError) → answer ≡ Err e → e ≡ new.IdsExhausted → Answers (Err refused.Full) × (after ≡ store)
    no_name_left e is full =
        let (none, same) = none_by keeps (rw (is, full) at inserts) in
        (rw (known, fits) (inl none), same)

    lacks_by : (k : Bool) → Inserts k store x (Err new.OutOfMemory) after
        → ((n : ℕ) × IsNextName (globals_of store last k) n × (n ≡ first_unused store n)) × (after ≡ store)
    lacks_by true ((n, least, unused), same) = ((n, least, unused), same)
    lacks_by false ((n, least, unused), same) = ((n, least, unused), same)

    -- there was no memory for a new global
    pub name_lacks_memory : (e : NewError) → answer ≡ Err e → e ≡ new.OutOfMemory → Answers (Err refused.OutOfMemory) × (after ≡ store)
    name_lacks_memory e is memory =
        let ((n, least, unused), same) = lacks_by keeps (rw (is, memory) at inserts) in
        (rw (known, fits) (record { name = n; serial = last + 1 }, (least, left, refl), unused), same)
