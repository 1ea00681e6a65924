-- What the calls on a client's objects answer, and what they change.
use Rattle.std.specs.Prelude.{◌≡◌, ℕ, ◌+◌, ◌⊎◌, List, [], ◌++◌, Bool, false, ◌==◌, if◌then◌else◌, Option, None, Some, is_some, Result, Ok, Err, MatchOption, MatchBool, map, slice_get}
use Rattle.wl_wire.specs.declared.error.IoFault.{IoFault}
use Rattle.wl_wire.specs.declared.interface.InterfaceId.{InterfaceId}
use Rattle.wl_wire.specs.Table.{InterfaceRow}
use Rattle.wl_link.specs.declared.object.Object.{Object}
use Rattle.wl_link.specs.Exchange.{Queue}
use Rattle.wl_link.specs.Reader.{Verdict}
use Rattle.wl_link.specs.Store.{server_range, first_unused, removed, rewritten, stored, IsLeastAbsent, IsFull}
use Rattle.wl_server_client.specs.declared.error.CreateError.{CreateError}
use Rattle.wl_server_client.specs.declared.error.CreateError.TheVariants as create
use Rattle.wl_server_client.specs.declared.error.DestroyError.{DestroyError}
use Rattle.wl_server_client.specs.declared.error.DestroyError.TheVariants as destroy
use Rattle.wl_server_client.specs.declared.error.InvalidId.{InvalidId}
use Rattle.wl_server_client.specs.declared.objects.Kept.{Kept}
use Rattle.wl_server_client.specs.Deeds.{Deed, left_if}
use Rattle.wl_server_client.specs.Ids.{ClientParts, IdParts}
use Rattle.wl_server_client.specs.Part.{Part, fresh_object, id_at, id_of, last_possible_serial, named, note_of_end, registries_without, with_user_data}
use Rattle.wl_server_client.specs.Telling.{Core, Did, Tells, Told, core_of, deletions, tells}

module _ {T U C : Type 0} where
  -- the object that the id names gets the user data
  abbrev pub DataSet : Part T U C → IdParts → U → Result (Unit {0}) InvalidId → Part T U C → Type 0
  DataSet before id u answer after =
      MatchOption (named before.store id) ((answer ≡ Err _) × (after ≡ before))
      (λ x. (answer ≡ Ok tt) × (after ≡ record before { store = rewritten before.store id.number (with_user_data u x) }))

  -- ---- a new object

  abbrev pub new_object : Part T U C → InterfaceId → ℕ → U → Object (Kept U)
  new_object p i version u = fresh_object i version (p.last_serial + 1) (Some u)

  abbrev pub with_new_at : Part T U C → ℕ → Object (Kept U) → Part T U C
  with_new_at p n x = record p { store = stored p.store n x; last_serial = p.last_serial + 1 }

  -- at this number; or there is no memory for one that was never in use, which this error says
  abbrev pub CreatesAt : {E : Type 0} → E → ClientParts → Part T U C → ℕ → Object (Kept U) → Result IdParts E → Part T U C → Type 0
  CreatesAt no_memory client before n x answer after =
      ((answer ≡ Ok (id_at client n x)) × (after ≡ with_new_at before n x))
      ⊎ ((answer ≡ Err no_memory) × (n ≡ first_unused before.store n) × (after ≡ before))

  -- A new object gets the least number of the server's range that holds none, and the next serial. The call is refused if
  -- the interface is not in the table, or if no number or no serial is left.
  abbrev pub Creates : List InterfaceRow → ClientParts → Part T U C → InterfaceId → ℕ → U → Result IdParts CreateError → Part T U C → Type 0
  Creates table client before i version u answer after =
      MatchOption (slice_get table i.0) ((answer ≡ Err create.UnknownInterface) × (after ≡ before))
      (λ _. (IsFull server_range before.store × (answer ≡ Err create.IdsExhausted) × (after ≡ before))
      ⊎ ((n : ℕ) × IsLeastAbsent server_range before.store n
      × MatchBool (before.last_serial == last_possible_serial)
      ((answer ≡ Err create.SerialsExhausted) × (after ≡ before))
      (CreatesAt create.OutOfMemory client before n (new_object before i version u) answer after)))

-- ---- an object that leaves

module _ {U C : Type 0} where
  -- it leaves the store, and is no longer among the registries
  abbrev pub without : Core U C → ℕ → Object (Kept U) → Core U C
  without c n x = record c { store = removed c.store n; registries = registries_without c.registries n x }

  -- and if it had user data, its note waits for the next cleanup
  abbrev pub without_noted : ClientParts → Core U C → ℕ → Object (Kept U) → Core U C
  without_noted client c n x = record (without c n x) { waiting = c.waiting ++ note_of_end client n x }

  -- the deed that an object with user data left, if it is gone
  abbrev pub told_of_removed : IdParts → Option U → Core U C → List (Told U)
  told_of_removed id u c = if is_some (named c.store id) then [] else map Did (left_if (id_of id) u)

  -- The client is told that the number is free, and the object leaves. If there is no memory for its note or for the
  -- message, it stays.
  abbrev pub destroys : ClientParts → Core U C → IdParts → Object (Kept U) → Verdict (Core U C) (Told U)
  destroys client c id x = record (tells (without_noted client c id.number x) (deletions id.number)) {
    asks = is_some x.value.user_data;
    starved = c;
    events = told_of_removed id x.value.user_data;
  }

-- the answer of a call that can fail by now only because memory is refused
abbrev pub unless_refused : {E : Type 0} → E → Bool → Result (Unit {0}) E
unless_refused e refused = if refused then Err e else Ok tt

module _ {T U C : Type 0} where
  -- the object that the program may destroy by the id: not the display
  abbrev pub destroyable : Part T U C → IdParts → Option (Object (Kept U))
  destroyable p id = if id.number == 1 then None else named p.store id

  -- the program destroys an object
  abbrev pub Destroys : (T → Queue → Result ℕ IoFault → T → Type 0) → ClientParts → Part T U C → IdParts → Result (Unit {0}) DestroyError
      → Bool → List (Deed U) → Part T U C → Type 0
  Destroys sends client before id answer refused did after =
      MatchOption (destroyable before id) ((answer ≡ Err destroy.InvalidId) × (refused ≡ false) × (did ≡ []) × (after ≡ before))
      (λ x. (answer ≡ unless_refused destroy.OutOfMemory refused)
      × Tells sends (destroys client (core_of before) id x) before.link refused did after)
