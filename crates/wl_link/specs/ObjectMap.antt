-- What contracts see of an object map, and the answers of its calls.
use Rattle.std.specs.Prelude.{◌≡◌, ℕ, ◌-◌, ◌<◌, ◌≤◌, Bool, true, false, Option, None, Some, is_some, IsSome, Result, Ok, Err, MatchOption, refl}
use Rattle.std.specs.Coded.{Coded, code_by, coded×, coded_ℕ, coded_bool}
use Rattle.std.specs.FinMap as map
use Rattle.wl_wire.specs.declared.interface.InterfaceId.{InterfaceId}
use Rattle.wl_link.specs.declared.object.Object.{Object}
use Rattle.wl_link.specs.declared.object_map.InsertError.{InsertError}
use Rattle.wl_link.specs.declared.object_map.InsertError.TheVariants as insert
use Rattle.wl_link.specs.declared.object_map.NewError.{NewError}
use Rattle.wl_link.specs.declared.object_map.NewError.TheVariants as new
use Rattle.wl_sets.specs.FreeTree.{IsHeight}
use Rattle.wl_link.specs.Store.{Store, Range, held, is_free, first_unused, stored, rewritten, IsLeastAbsent, IsFull}

-- what a map keeps, whether its next insertion takes no memory, and how many words the last search for a number read
pub record MapState (D : Type 0) : Type 0 where
  pub store : Store D
  pub reserved : Bool
  pub words_read : ℕ

abbrev pub interface_code : Coded InterfaceId
interface_code = code_by ℕ coded_ℕ (λ i. i.0) (λ n. record { 0 = n }) (λ _. refl)

abbrev pub object_code : {D : Type 0} → Coded D → Coded (Object D)
object_code {D} code =
    code_by
    (InterfaceId × (ℕ × D))
    (coded× interface_code (coded× coded_ℕ code))
    (λ o. (o.interface, (o.version, o.value)))
    (λ p. record { interface = p.0; version = p.1.0; value = p.1.1 })
    (λ _. refl)

abbrev pub store_code : {D : Type 0} → Coded D → Coded (Store D)
store_code {D} code =
    code_by
    (map.FinMap _ (Object D) × (ℕ × ℕ))
    (coded× (map.code coded_ℕ (object_code code)) (coded× coded_ℕ coded_ℕ))
    (λ s. (s.objects, (s.client_unused, s.server_unused)))
    (λ p. record { objects = p.0; client_unused = p.1.0; server_unused = p.1.1 })
    (λ _. refl)

abbrev pub map_code : {D : Type 0} → Coded D → Coded (MapState D)
map_code {D} code =
    code_by
    (Store D × (Bool × ℕ))
    (coded× (store_code code) (coded× coded_bool coded_ℕ))
    (λ m. (m.store, (m.reserved, m.words_read)))
    (λ p. record { store = p.0; reserved = p.1.0; words_read = p.1.1 })
    (λ _. refl)

-- the number that was told is the one that an insertion gives; if none was told, no number is left
abbrev pub IsGiven : Option ℕ → Result ℕ NewError → Type 0
IsGiven next (Ok n) = next ≡ Some n
IsGiven next (Err new.IdsExhausted) = next ≡ None
IsGiven next (Err new.OutOfMemory) = IsSome next

module _ {D : Type 0} where
  -- an object is put at a number, exactly if the number is free; memory may be refused only at the first unused one
  abbrev pub InsertsAt : Store D → ℕ → Object D → Result (Unit {0}) InsertError → Store D → Type 0
  InsertsAt store n x (Ok _) after = (is_free store n ≡ true) × (after ≡ stored store n x)
  InsertsAt store n x (Err insert.NotFree) after = (is_free store n ≡ false) × (after ≡ store)
  InsertsAt store n x (Err insert.OutOfMemory) after =
      (is_free store n ≡ true) × (n ≡ first_unused store n) × (after ≡ store)

  -- a new object is put at the least number of the range that holds none
  abbrev pub InsertsNew : Range → Store D → Object D → Result ℕ NewError → Store D → Type 0
  InsertsNew range store x (Ok n) after = IsLeastAbsent range store n × (after ≡ stored store n x)
  InsertsNew range store x (Err new.IdsExhausted) after = IsFull range store × (after ≡ store)
  InsertsNew range store x (Err new.OutOfMemory) after =
      ((n : ℕ) × IsLeastAbsent range store n × (n ≡ first_unused store n)) × (after ≡ store)

  -- the number that a new object would get
  abbrev pub NextNew : Range → Store D → Option ℕ → Type 0
  NextNew range store (Some n) = IsLeastAbsent range store n
  NextNew range store None = IsFull range store

  -- each insertion of a new object gives the number that was told, unless there is no memory
  abbrev pub InsertionsGive : Range → Store D → Option ℕ → Type 0
  InsertionsGive range store next =
      (x : Object D) (answer : Result ℕ NewError) (after : Store D) → InsertsNew range store x answer after → IsGiven next answer

  -- how many words the search for a new number reads: none if no number of the range was ever in use, one if each that was
  -- holds an object, else one on each level
  pub record WordsRead (range : Range) (store : Store D) (read : ℕ) : Type 0 where
    pub none : first_unused store range.first ≡ range.first → read ≡ 0
    pub full : range.first < first_unused store range.first
        → ((n : ℕ) → range.first ≤ n → n < first_unused store range.first → is_some (held store n) ≡ true) → read ≡ 1
    pub some : (n : ℕ) → range.first ≤ n → n < first_unused store range.first → held store n ≡ None
        → IsHeight (first_unused store range.first - range.first) read

  -- the closure is called once with the object of a number, which then holds what the call left; without an object, never
  abbrev pub Lends : {R : Type 0} → (Object D → R → Object D → Type 0) → Store D → ℕ → Option R → Store D → Type 0
  Lends call store n answer after =
      MatchOption (held store n) ((answer ≡ None) × (after ≡ store))
      (λ x. (r : _) × (y : Object D) × call x r y × (answer ≡ Some r) × (after ≡ rewritten store n y))
