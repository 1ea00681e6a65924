-- What an id names, and how long: the objects of a session over a run of changes.
--
-- Objects carry a serial, which `serial_of` reads. A session gives the serials out by one counter, and an id has a number
-- and a serial. So it never names a later object that took the number of its own.
use Rattle.std.specs.Prelude.{◌≡◌, ◌≢◌, ℕ, ◌+◌, ◌≤◌, ◌==◌, if◌then◌else◌, Bool, true, false, List, [], ◌∷◌, ◌++◌, length, Option, None, Some, IsSome, AllPairs, Contains, ◌↔◌, ◌⊎◌}
use Rattle.wl_wire.specs.declared.argument.Argument.{Argument}
use Rattle.wl_wire.specs.declared.argument.Argument.TheVariants as arg
use Rattle.wl_wire.specs.declared.argument.Token.{Token}
use Rattle.wl_link.specs.declared.object.Object.{Object}
use Rattle.wl_link.specs.Store.{Store, empty_store, held, stored, removed, rewritten}

-- the parts of an object id by which it names an object
pub record Id : Type 0 where
  pub number : ℕ
  pub serial : ℕ

-- an id that a call hands out, as its session writes ids: of an object that is there, or of one that the call puts there
pub data HandedId (I : Type 0) : Type 0 where
  Found : (id : I) → HandedId I
  New : (id : I) → HandedId I

-- the ids among arguments
abbrev pub argument_ids : {I : Type 0} → List (Argument I Token) → List (HandedId I)
argument_ids [] = []
argument_ids (arg.Int _ ∷ args) = argument_ids args
argument_ids (arg.Uint _ ∷ args) = argument_ids args
argument_ids (arg.Fixed _ ∷ args) = argument_ids args
argument_ids (arg.Str _ ∷ args) = argument_ids args
argument_ids (arg.Object id ∷ args) = Found id ∷ argument_ids args
argument_ids (arg.NewId id ∷ args) = New id ∷ argument_ids args
argument_ids (arg.Array _ ∷ args) = argument_ids args
argument_ids (arg.Fd _ ∷ args) = argument_ids args

-- the step that put an object into the store, and its place among that step's new objects
pub record Birth : Type 0 where
  pub step : ℕ
  pub place : ℕ

-- the kept objects, and the last serial given out
pub record Objects (D : Type 0) : Type 0 where
  pub store : Store D
  pub last_serial : ℕ

-- One thing that a step does: an object is put at a number, leaves its number, is written to, or ends; or an id is made
-- of one. An object that ends is no longer the program's: it leaves its number, or stays there as `left`.
pub data Change (D : Type 0) : Type 0 where
  Born : (number : ℕ) (object : Object D) → Change D
  Gone : (number : ℕ) → Change D
  Wrote : (number : ℕ) (object : Object D) → Change D
  Ended : (number : ℕ) (object : Object D) (left : Option (Object D)) → Change D
  Made : (id : Id) → Change D

-- the birth of the object at each number, and the ids that were made, each with the birth of its object
pub record Births : Type 0 where
  pub of_number : ℕ → Option Birth
  pub made : List (Id × Birth)

abbrev pub at_number : (ℕ → Option Birth) → ℕ → Option Birth → ℕ → Option Birth
at_number births n birth m = if m == n then birth else births m

abbrev pub with_made : Births → Id → Option Birth → Births
with_made births id None = births
with_made births id (Some birth) = record births { made = (id, birth) ∷ births.made }

-- the births after the changes of a step; the step's next new object has the birth `next`
abbrev pub births_in : {D : Type 0} → Birth → Births → List (Change D) → Births
births_in next births [] = births
births_in next births (Born n _ ∷ rest) =
    births_in (record next { place = next.place + 1 }) (record births { of_number = at_number births.of_number n (Some next) }) rest
births_in next births (Gone n ∷ rest) = births_in next (record births { of_number = at_number births.of_number n None }) rest
births_in next births (Wrote _ _ ∷ rest) = births_in next births rest
births_in next births (Ended n _ None ∷ rest) = births_in next (record births { of_number = at_number births.of_number n None }) rest
births_in next births (Ended n _ (Some _) ∷ rest) = births_in next births rest
births_in next births (Made id ∷ rest) = births_in next (with_made births id (births.of_number id.number)) rest

-- the births after the steps of a run; the next of them has the number `step`
abbrev pub births_over : {D : Type 0} → ℕ → Births → List (List (Change D)) → Births
births_over step births [] = births
births_over step births (changes ∷ rest) =
    births_over (step + 1) (births_in (record { step = step; place = 0 }) births changes) rest

-- the step makes the id
abbrev pub IsMadeInStep : {D : Type 0} → List (Change D) → Id → Type 0
IsMadeInStep [] id = ⊥
IsMadeInStep (Made made ∷ rest) id = (made ≡ id) ⊎ IsMadeInStep rest id
IsMadeInStep (_ ∷ rest) id = IsMadeInStep rest id

-- the step puts an object with the id's serial at the id's number
abbrev pub IsBornInStep : {D : Type 0} → (D → ℕ) → List (Change D) → Id → Type 0
IsBornInStep serial_of [] id = ⊥
IsBornInStep serial_of (Born n x ∷ rest) id =
    ((n ≡ id.number) × (serial_of x.value ≡ id.serial)) ⊎ IsBornInStep serial_of rest id
IsBornInStep serial_of (_ ∷ rest) id = IsBornInStep serial_of rest id

abbrev pub IsMadeIn : {D : Type 0} → List (List (Change D)) → Id → Type 0
IsMadeIn [] id = ⊥
IsMadeIn (step ∷ rest) id = IsMadeInStep step id ⊎ IsMadeIn rest id

-- a session begins with step 0, which puts the display at number 1
abbrev pub display_born : Births
display_born = record { of_number = at_number (λ _. None) 1 (Some (record { step = 0; place = 0 })); made = [] }

-- the births after a run, from the display's on
abbrev pub births_of : {D : Type 0} → List (List (Change D)) → Births
births_of run = births_over 1 display_born run

abbrev pub first_objects : {D : Type 0} → Object D → Objects D
first_objects display = record { store = stored empty_store 1 display; last_serial = 0 }

module _ {D : Type 0} (serial_of : D → ℕ) where
  -- the object at an id's number, if it has the id's serial
  abbrev pub named_in : Id → Option (Object D) → Option (Object D)
  named_in id None = None
  named_in id (Some x) = if serial_of x.value == id.serial then Some x else None

  -- the object that an id names: the one at its number, if that has its serial; the number 0 names none
  abbrev pub names : Id → Store D → Option (Object D)
  names id store = if id.number == 0 then None else named_in id (held store id.number)

  -- A new object takes a number that holds none, and the next serial. One that is written to, or that ends and stays,
  -- keeps its serial. An id is made of the object that it then names.
  abbrev pub Changes : Objects D → Change D → Objects D → Type 0
  Changes before (Born n x) after =
      (held before.store n ≡ None) × (serial_of x.value ≡ before.last_serial + 1)
      × (after ≡ record { store = stored before.store n x; last_serial = before.last_serial + 1 })
  Changes before (Gone n) after = after ≡ record before { store = removed before.store n }
  Changes before (Wrote n x) after =
      ((y : Object D) × (held before.store n ≡ Some y) × (serial_of x.value ≡ serial_of y.value))
      × (after ≡ record before { store = rewritten before.store n x })
  Changes before (Ended n x None) after = (held before.store n ≡ Some x) × (after ≡ record before { store = removed before.store n })
  Changes before (Ended n x (Some y)) after =
      (held before.store n ≡ Some x) × (serial_of y.value ≡ serial_of x.value) × (after ≡ record before { store = rewritten before.store n y })
  Changes before (Made id) after = IsSome (names id before.store) × (after ≡ before)

  -- the changes of a step, one after the other
  abbrev pub StepLeads : Objects D → List (Change D) → Objects D → Type 0
  StepLeads before [] after = after ≡ before
  StepLeads before (change ∷ rest) after =
      (between : Objects D) × Changes before change between × StepLeads between rest after

  -- the steps of a run, one after the other
  abbrev pub RunLeads : Objects D → List (List (Change D)) → Objects D → Type 0
  RunLeads before [] after = after ≡ before
  RunLeads before (step ∷ rest) after =
      (between : Objects D) × StepLeads before step between × RunLeads between rest after

  -- the kept serials are distinct and at most the last one given out
  pub record HasSerials (objects : Objects D) : Type 0 where
    pub distinct : (n m : ℕ) (x y : Object D) → held objects.store n ≡ Some x → held objects.store m ≡ Some y
        → serial_of x.value ≡ serial_of y.value → n ≡ m
    pub at_most_last : (n : ℕ) (x : Object D) → held objects.store n ≡ Some x → serial_of x.value ≤ objects.last_serial

  -- the id names an object exactly while its number holds the one of this birth
  abbrev pub NamesOwn : (ℕ → Option Birth) → Store D → Id → Birth → Type 0
  NamesOwn births store id birth = IsSome (names id store) ↔ (births id.number ≡ Some birth)

  -- what holds after a run
  pub record HasIdentity (run : List (List (Change D))) (after : Objects D) : Type 0 where
    pub serials : HasSerials after
    -- a number has a birth exactly while it holds an object
    pub kept : (n : ℕ) → IsSome ((births_of run).of_number n) ↔ IsSome (held after.store n)
    -- each id that was made has the birth of the object that it was made of
    pub made : (id : Id) → IsMadeIn run id → (birth : Birth) × Contains (births_of run).made (id, birth)
    -- an id that is made in the step that puts its object in place has a birth of that step
    pub fresh : (done later : List (List (Change D))) (step : List (Change D)) → run ≡ done ++ step ∷ later → (id : Id)
        → IsMadeInStep step id → IsBornInStep serial_of step id
        → (birth : Birth) × (birth.step ≡ length done + 1) × Contains (births_of run).made (id, birth)
    -- it names that object exactly while that is kept, and afterwards none
    pub own : (id : Id) (birth : Birth) → Contains (births_of run).made (id, birth)
        → NamesOwn (births_of run).of_number after.store id birth

  -- this holds of every run of a session, which begins with its display alone, whose serial is 0
  abbrev pub IdentityLaw : Type 0
  IdentityLaw =
      (display : Object D) → serial_of display.value ≡ 0 → (run : List (List (Change D))) (after : Objects D)
      → RunLeads (first_objects display) run after → HasIdentity run after

-- ---- objects that end

module _ {D : Type 0} (serial_of : D → ℕ) (counts : Object D → Bool) where
  -- the number and the serial of the object, if it counts
  abbrev pub counted_id : ℕ → Object D → List Id
  counted_id n x = if counts x then (record { number = n; serial = serial_of x.value } ∷ []) else []

  -- those of the objects that end in a step, in order; and over the steps of a run
  abbrev pub ended_in : List (Change D) → List Id
  ended_in [] = []
  ended_in (Ended n x _ ∷ rest) = counted_id n x ++ ended_in rest
  ended_in (_ ∷ rest) = ended_in rest

  abbrev pub ended_over : List (List (Change D)) → List Id
  ended_over [] = []
  ended_over (step ∷ rest) = ended_in step ++ ended_over rest

module _ {D : Type 0} (serial_of : D → ℕ) (allows : Objects D → Change D → Type 0) where
  -- the changes of a step, one after the other, each of which is allowed
  abbrev pub StepKeeps : Objects D → List (Change D) → Objects D → Type 0
  StepKeeps before [] after = after ≡ before
  StepKeeps before (change ∷ rest) after =
      (between : Objects D) × Changes serial_of before change between × allows before change × StepKeeps between rest after

  -- and the steps of a run
  abbrev pub RunKeeps : Objects D → List (List (Change D)) → Objects D → Type 0
  RunKeeps before [] after = after ≡ before
  RunKeeps before (step ∷ rest) after = (between : Objects D) × StepKeeps before step between × RunKeeps between rest after

module _ {D : Type 0} (is_over : D → Bool) where
  -- Only an object that is not over ends, and it is over if it stays. No write makes it the program's again.
  abbrev pub Owns : Objects D → Change D → Type 0
  Owns before (Ended n x None) = is_over x.value ≡ false
  Owns before (Ended n x (Some y)) = (is_over x.value ≡ false) × (is_over y.value ≡ true)
  Owns before (Wrote n x) = (y : Object D) → held before.store n ≡ Some y → is_over y.value ≡ true → is_over x.value ≡ true
  Owns before _ = Unit {0}

  -- An object ends exactly if it becomes over, or leaves its number and was not over. One that leaves otherwise was over,
  -- and a write to an object does not change whether it is over.
  abbrev pub OwnsExactly : Objects D → Change D → Type 0
  OwnsExactly before (Ended n x None) = is_over x.value ≡ false
  OwnsExactly before (Ended n x (Some y)) = (is_over x.value ≡ false) × (is_over y.value ≡ true)
  OwnsExactly before (Gone n) = (y : Object D) → held before.store n ≡ Some y → is_over y.value ≡ true
  OwnsExactly before (Wrote n x) = (y : Object D) → held before.store n ≡ Some y → is_over x.value ≡ is_over y.value
  OwnsExactly before (Born n x) = Unit {0}
  OwnsExactly before (Made id) = Unit {0}

module _ {D : Type 0} (serial_of : D → ℕ) (is_over : D → Bool) where
  abbrev pub RunOwns : Objects D → List (List (Change D)) → Objects D → Type 0
  RunOwns before run after = RunKeeps serial_of (Owns is_over) before run after

  abbrev pub StepEnds : Objects D → List (Change D) → Objects D → Type 0
  StepEnds before changes after = StepKeeps serial_of (OwnsExactly is_over) before changes after

  abbrev pub RunEnds : Objects D → List (List (Change D)) → Objects D → Type 0
  RunEnds before run after = RunKeeps serial_of (OwnsExactly is_over) before run after

  -- over every run of a session no two ends have the same number and serial, whichever objects count
  abbrev pub EndsOnceLaw : (Object D → Bool) → Type 0
  EndsOnceLaw counts =
      (display : Object D) → serial_of display.value ≡ 0 → (run : List (List (Change D))) (after : Objects D)
      → RunOwns (first_objects display) run after → AllPairs (λ a b. a ≢ b) (ended_over serial_of counts run)
