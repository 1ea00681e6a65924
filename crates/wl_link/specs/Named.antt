-- What any id names from a point of a run on, no matter where it comes from.
use Rattle.std.specs.Prelude.{◌≡◌, ℕ, List, ◌++◌, Some, IsSome}
use Rattle.wl_link.specs.declared.object.Object.{Object}
use Rattle.wl_link.specs.Identity.{Birth, Change, Id, NamesOwn, Objects, RunLeads, births_of, first_objects, names}

module _ {D : Type 0} (serial_of : D → ℕ) where
  -- After the first steps of a run the number of the id holds the object of some birth. After the later steps the id names
  -- that very object exactly while it is kept, and afterwards none.
  abbrev pub StaysNamed : List (List (Change D)) → List (List (Change D)) → Objects D → Id → Type 0
  StaysNamed done later after id =
      (birth : Birth) × ((births_of done).of_number id.number ≡ Some birth)
      × NamesOwn serial_of (births_of (done ++ later)).of_number after.store id birth

  -- so it is with each id that names an object at some point of a run of a session
  abbrev pub NamedLaw : Type 0
  NamedLaw =
      (display : Object D) → serial_of display.value ≡ 0 → (done later : List (List (Change D))) (mid after : Objects D)
      → RunLeads serial_of (first_objects display) done mid → RunLeads serial_of mid later after
      → (id : Id) → IsSome (names serial_of id mid.store) → StaysNamed done later after id

  -- if such an id names none at a later point, it names none ever after
  abbrev pub NoneAgainLaw : Type 0
  NoneAgainLaw =
      (display : Object D) → serial_of display.value ≡ 0 → (done between later : List (List (Change D))) (first mid after : Objects D)
      → RunLeads serial_of (first_objects display) done first → RunLeads serial_of first between mid → RunLeads serial_of mid later after
      → (id : Id) → IsSome (names serial_of id first.store) → ¬ IsSome (names serial_of id mid.store) → ¬ IsSome (names serial_of id after.store)
