-- The objects of a range of numbers as the code keeps them: a place for each number that was ever in use.
use Rattle.std.specs.Prelude.{Vec, nat_lt, ◌≡◌, ℕ, ◌+◌, ◌<◌, ◌≤◌, ◌^◌, Bool, true, false, not, ◌&&◌, nat_le, Result, Ok, Err, MatchOption, List, [], ◌∷◌, ◌++◌, length, Option, None, Some, is_some, slice_index_or, if◌then◌else◌, ◌==◌}
use Rattle.std.specs.FinMap as map
use Rattle.wl_link.specs.declared.object.Object.{Object}
use Rattle.wl_link.specs.declared.object_map.InsertError.{InsertError}
use Rattle.wl_link.specs.declared.object_map.InsertError.TheVariants as insert
use Rattle.wl_link.specs.declared.object_map.NewError.{NewError}
use Rattle.wl_link.specs.declared.object_map.NewError.TheVariants as new
use Rattle.wl_link.specs.declared.object_map.Place.{Place}
use Rattle.wl_link.specs.declared.object_map.Place.TheVariants.{Nowhere, Client, Server}
use Rattle.wl_sets.specs.FreeTree.{IsTree, IsHeight, words_of, has_capacity, is_ready}
use Rattle.wl_link.specs.Store.{Store, client_range, server_range}

-- how many places there are after something is put at this one
abbrev pub put_len : ℕ → ℕ → ℕ
put_len at len = if at == len then at + 1 else len

module _ {A : Type 0} where
  -- what a place holds, which is nothing past the last
  abbrev pub place : List (Option A) → ℕ → Option A
  place places i = slice_index_or places i None

  -- one place holds this, and every other what it held
  pub record SetsPlace (before : List (Option A)) (at : ℕ) (x : Option A) (after : List (Option A)) : Type 0 where
    pub places : (i : ℕ) → place after i ≡ (if i == at then x else place before i)

  -- the place holds nothing, and is one that there is or the one after the last
  abbrev pub is_free_place : List (Option A) → ℕ → Bool
  is_free_place places at = not (is_some (place places at)) && nat_le at (length places)

  -- something is put at a place, exactly if it is free; memory may be refused only for the one after the last
  abbrev pub PutsAt : List (Option A) → ℕ → A → Result (Unit {0}) InsertError → List (Option A) → Type 0
  PutsAt before at x (Ok _) after =
      (is_free_place before at ≡ true) × SetsPlace before at (Some x) after × (length after ≡ put_len at (length before))
  PutsAt before at x (Err insert.NotFree) after = (is_free_place before at ≡ false) × (after ≡ before)
  PutsAt before at x (Err insert.OutOfMemory) after =
      (is_free_place before at ≡ true) × (at ≡ length before) × (after ≡ before)

  -- the closure is called once with what a place holds, and the place then holds what the call left; else it is not called
  abbrev pub LendsAt : {R : Type 0} → (A → R → A → Type 0) → List (Option A) → ℕ → Option R → List (Option A) → Type 0
  LendsAt call before at answer after =
      MatchOption (place before at) ((answer ≡ None) × (after ≡ before))
      (λ x. (r : _) × (y : A) × call x r y × (answer ≡ Some r) × SetsPlace before at (Some y) after)

  -- the first place that holds nothing
  pub record IsFirstFree (places : List (Option A)) (at : ℕ) : Type 0 where
    pub within : at ≤ length places
    pub free : place places at ≡ None
    pub taken : (i : ℕ) → i < at → is_some (place places i) ≡ true

  -- Something new is put at the first place that holds nothing, if that is below the end, and the answer is its number. The
  -- first place has the number `first`.
  abbrev pub PutsNew : List (Option A) → ℕ → ℕ → A → Result ℕ NewError → List (Option A) → Type 0
  PutsNew before number end x (Ok n) after =
      (at : ℕ) × (n ≡ at + number) × (at < end) × IsFirstFree before at × SetsPlace before at (Some x) after × (length after ≡ put_len at (length before))
  PutsNew before number end x (Err new.IdsExhausted) after = ((at : ℕ) × (end ≤ at) × IsFirstFree before at) × (after ≡ before)
  PutsNew before number end x (Err new.OutOfMemory) after =
      ((at : ℕ) × (at < end) × IsFirstFree before at × (at ≡ length before)) × (after ≡ before)

  -- what the places hold, each with its number; the first place has this number
  abbrev pub entries_from : ℕ → List (Option A) → List (ℕ × A)
  entries_from n [] = []
  entries_from n (None ∷ rest) = entries_from (n + 1) rest
  entries_from n (Some x ∷ rest) = (n, x) ∷ entries_from (n + 1) rest

-- ---- the free places

module _ {A : Type 0} where
  -- there is such a place, and it holds nothing
  abbrev pub free_flag : List (Option A) → ℕ → Bool
  free_flag places at = nat_lt at (length places) && not (is_some (place places at))

  -- the words are the tree of the free places
  pub record ShowsFree {Z : Type 0} (places : List (Option A)) (levels : List (Vec ℕ Z)) : Type 0 where
    pub tree : IsTree (free_flag places) (length places) (words_of levels)
    pub small : length places < 4294967296

  -- how many words the search for a free place reads: none without places, one if no place is free, else one on each level
  pub record WordsReadIn (places : List (Option A)) (read : ℕ) : Type 0 where
    pub none : length places ≡ 0 → read ≡ 0
    pub full : 0 < length places → ((i : ℕ) → i < length places → is_some (place places i) ≡ true) → read ≡ 1
    pub some : (i : ℕ) → i < length places → place places i ≡ None → IsHeight (length places) read

  -- no more words are read than there may be levels
  abbrev pub ReadsFew : List (Option A) → ℕ → Type 0
  ReadsFew places read = (most : ℕ) → 0 < most → length places ≤ 64 ^ most → read ≤ most

-- whether there is capacity for one place more
abbrev pub has_place_capacity : {A Y Z X : Type 0} → Vec A Y → Vec (Vec ℕ Z) X → Bool
has_place_capacity slots levels = has_capacity slots && is_ready levels.items

-- if the flag is set, there is capacity for one place more
abbrev pub IsKnown : {A Y Z X : Type 0} → Bool → Vec A Y → Vec (Vec ℕ Z) X → Type 0
IsKnown flag slots levels = flag ≡ true → has_place_capacity slots levels ≡ true

-- ---- both ranges

-- the place of a number in its range
abbrev pub IsPlaceOf : ℕ → Place → Type 0
IsPlaceOf n Nowhere = n ≡ 0
IsPlaceOf n (Client at) = (n ≡ client_range.first + at) × (n < client_range.end)
IsPlaceOf n (Server at) = n ≡ server_range.first + at

module _ {D : Type 0} where
  -- the store that the places of both ranges keep
  abbrev pub store_of : List (Option (Object D)) → List (Option (Object D)) → Store D
  store_of clients servers = record {
    objects = map.from_sorted (entries_from client_range.first clients ++ entries_from server_range.first servers);
    client_unused = client_range.first + length clients;
    server_unused = server_range.first + length servers;
  }

  -- no range has more places than numbers
  pub record Within (clients servers : List (Option (Object D))) : Type 0 where
    pub clients_fit : client_range.first + length clients ≤ client_range.end
    pub servers_fit : server_range.first + length servers ≤ server_range.end

  -- what holds of a map: over the places of each range stands the tree of those that are free, and each flag says what it should
  pub record Whole {P Q X Y Z W : Type 0} (clients : Vec (Option (Object D)) P) (servers : Vec (Option (Object D)) Q)
      (client_levels : Vec (Vec ℕ X) Y) (server_levels : Vec (Vec ℕ Z) W) (clients_ready servers_ready : Bool) : Type 0 where
    pub within : Within clients.items servers.items
    pub client_tree : ShowsFree clients.items client_levels.items
    pub server_tree : ShowsFree servers.items server_levels.items
    pub clients_known : IsKnown clients_ready clients client_levels
    pub servers_known : IsKnown servers_ready servers server_levels
