-- That each policy that was made is sound, and what a bind is of by a sound one.
use Rattle.std.specs.Prelude.{◌≡◌, ◌≢◌, ℕ, zero, suc, ◌≤◌, ◌<◌, ◌⊎◌, ◌==◌, ◌&&◌, ◌||◌, Bool, true, false, List, [], ◌∷◌, codes, length, replicate, set, slice_get, Option, None, Some}
use Rattle.std.specs.Option.{option_map_or}
use Rattle.std.proofs.Common.{ap, arith, get_or, inl, inr, refl, subst, sym, ◌∙◌}
use Rattle.std.proofs.lemmas.Bool.{eqb-true}
use Rattle.std.proofs.lemmas.List.{length-replicate, length-set}
use Rattle.std.proofs.lemmas.List.Folds.{list_any-append}
use Rattle.std.proofs.lemmas.Option.{slice_get_cases, slice_get_within}
use Rattle.wl_wire.specs.declared.interface.InterfaceId.{InterfaceId}
use Rattle.wl_wire.specs.MessageRows.{creates, request_row}
use Rattle.wl_wire.specs.Table.{InterfaceRow, MessageRow}
use Rattle.wl_guard.specs.Policy.{Allowed, Allows, Given, Gives, GivesAll, Ignored, Ignores, IsSound, LetsNoneChoose, PolicyState, Refused, Refuses, allowed_version, lists, new_policy, number_or_0}
use Rattle.wl_guard.specs.Requests.{BindsTold}
use Rattle.wl_guard.specs.declared.policy.Entry.{Entry}
use Rattle.wl_guard.specs.declared.policy.Limits.{Limits}
use Rattle.wl_guard.specs.declared.session.Told.{Told}
use Rattle.wl_guard.proofs.Noted.{same_or_not, some_same}

-- ---- a list of numbers of which one is set

set_here : (xs : List ℕ) (i v : ℕ) → i < length xs → number_or_0 (slice_get (set xs i v) i) ≡ v
set_here [] i v within = absurd (omega arith)
set_here (x ∷ xs) zero v within = refl
set_here (x ∷ xs) (suc i) v within = set_here xs i v (omega arith)

set_other : (xs : List ℕ) (i j v : ℕ) → j ≢ i → slice_get (set xs i v) j ≡ slice_get xs j
set_other [] i j v other = refl
set_other (x ∷ xs) zero zero v other = absurd (other refl)
set_other (x ∷ xs) zero (suc j) v other = refl
set_other (x ∷ xs) (suc i) zero v other = refl
set_other (x ∷ xs) (suc i) (suc j) v other = set_other xs i j v (λ same. other (ap (λ (n : ℕ). suc n) same))

none_allowed : (n i : ℕ) → number_or_0 (slice_get (replicate n 0) i) ≡ 0
none_allowed zero i = refl
none_allowed (suc n) zero = refl
none_allowed (suc n) (suc i) = none_allowed n i

-- ---- the calls of a policy

allowed_sound : (p p' : PolicyState) (name : List ℕ) (version : ℕ) → Allows p name version p' → IsSound p → IsSound p'
allowed_sound p p' name version allows sound = subst (λ (x : PolicyState). IsSound x) (sym allows.after) (record {
  count = length-set p.versions allows.interface.0 version ∙ sound.count;
  named = λ i some. by_name i some (same_or_not i.0 allows.interface.0);
  within = λ i row is. by_version i row is (same_or_not i.0 allows.interface.0);
  kept = sound.kept;
  chosen = sound.chosen;
})
  where
    there : allows.interface.0 < length p.versions
    there = let a = allows.named.1 in let b = sound.count in omega (arith, a, b)

    by_name : (i : InterfaceId) → 1 ≤ number_or_0 (slice_get (set p.versions allows.interface.0 version) i.0) → (i.0 ≡ allows.interface.0) ⊎ (i.0 ≢ allows.interface.0) → 4 ≤ i.0
    by_name i some (inl same) = let a = allows.named.0 in omega (arith, a, same)
    by_name i some (inr other) = sound.named i (subst (λ (v : Option ℕ). 1 ≤ number_or_0 v) (set_other p.versions allows.interface.0 i.0 version other) some)

    by_version : (i : InterfaceId) (row : InterfaceRow) → slice_get p.table i.0 ≡ Some row → (i.0 ≡ allows.interface.0) ⊎ (i.0 ≢ allows.interface.0)
        → number_or_0 (slice_get (set p.versions allows.interface.0 version) i.0) ≤ row.version
    by_version i row is (inl same) =
        let here = ap (λ (n : ℕ). number_or_0 (slice_get (set p.versions allows.interface.0 version) n)) same ∙ set_here p.versions allows.interface.0 version there in
        let rows : row ≡ allows.row = some_same row allows.row (sym is ∙ ap (λ (n : ℕ). slice_get p.table n) same ∙ allows.is) in
        let most = ap (λ (r : InterfaceRow). r.version) rows in
        let within = allows.within in
        omega (arith, here, most, within)
    by_version i row is (inr other) =
        subst (λ (v : Option ℕ). number_or_0 v ≤ row.version) (sym (set_other p.versions allows.interface.0 i.0 version other)) (sound.within i row is)

refused_sound : (p p' : PolicyState) (name request : List ℕ) → Refuses p name request p' → IsSound p → IsSound p'
refused_sound p p' name request refuses sound = subst (λ (x : PolicyState). IsSound x) (sym refuses.2) (record {
  count = sound.count;
  named = sound.named;
  within = sound.within;
  kept = sound.kept;
  chosen = sound.chosen;
})

-- the request is the last of these
is_last : (e : Entry) (i : InterfaceId) (opcode : ℕ) → lists (e ∷ []) i opcode ≡ true → (e.interface.0 ≡ i.0) × (e.opcode ≡ opcode)
is_last e i opcode is = go (e.interface.0 == i.0) (e.opcode == opcode) refl refl is
  where
    go : (a b : Bool) → (e.interface.0 == i.0) ≡ a → (e.opcode == opcode) ≡ b → ((a && b) || false) ≡ true → (e.interface.0 ≡ i.0) × (e.opcode ≡ opcode)
    go true true one two is = (eqb-true e.interface.0 i.0 one, eqb-true e.opcode opcode two)
    go true false one two is = let wrong : false ≡ true = is in absurd cc
    go false b one two is = let wrong : false ≡ true = is in absurd cc

ignored_sound : (p p' : PolicyState) (name request : List ℕ) → Ignores p name request p' → IsSound p → IsSound p'
ignored_sound p p' name request (e, row, entry, is, makes, ends, after) sound = subst (λ (x : PolicyState). IsSound x) (sym after) (record {
  count = sound.count;
  named = sound.named;
  within = sound.within;
  kept = λ i opcode r listed at. go i opcode r at (lists p.ignored i opcode) refl (sym (list_any-append (λ (x : Entry). x.interface.0 == i.0 && x.opcode == opcode) p.ignored (e ∷ [])) ∙ listed);
  chosen = sound.chosen;
})
  where
    go : (i : InterfaceId) (opcode : ℕ) (r : MessageRow) → request_row p.table i opcode ≡ Some r
        → (b : Bool) → lists p.ignored i opcode ≡ b → (b || lists (e ∷ []) i opcode) ≡ true → (creates r ≡ false) × (r.is_destructor ≡ false)
    go i opcode r at true listed some = sound.kept i opcode r listed at
    go i opcode r at false listed last =
        let same = is_last e i opcode last in
        let rows : row ≡ r = some_same row r (
        sym is ∙ ap (λ (n : ℕ). request_row p.table (record { 0 = n }) e.opcode) same.0 ∙ ap (λ (n : ℕ). request_row p.table i n) same.1 ∙ at
        ) in
        (sym (ap (λ (x : MessageRow). creates x) rows) ∙ makes, sym (ap (λ (x : MessageRow). x.is_destructor) rows) ∙ ends)

given_sound : (g : Given) (p p' : PolicyState) → Gives p g p' → IsSound p → IsSound p'
given_sound (Allowed name version) p p' gives sound = allowed_sound p p' name version gives sound
given_sound (Refused name request) p p' gives sound = refused_sound p p' name request gives sound
given_sound (Ignored name request) p p' gives sound = ignored_sound p p' name request gives sound

all_sound : (given : List Given) (p p' : PolicyState) → GivesAll p given p' → IsSound p → IsSound p'
all_sound [] p p' is sound = subst (λ (x : PolicyState). IsSound x) (sym is) sound
all_sound (g ∷ given) p p' (mid, one, more) sound = all_sound given mid p' more (given_sound g p mid one sound)

new_sound : (table : List InterfaceRow) (limits : Limits) → LetsNoneChoose table → IsSound (new_policy table limits)
new_sound table limits chosen = record {
  count = length-replicate {A = ℕ} (length table) 0;
  named = λ i some. let none = none_allowed (length table) i.0 in absurd (omega (arith, none, some));
  within = λ i row is. let none = none_allowed (length table) i.0 in omega (arith, none);
  kept = λ i opcode row listed is. let wrong : false ≡ true = listed in absurd cc;
  chosen = chosen;
}

pub each_sound : (table : List InterfaceRow) (limits : Limits) (given : List Given) (p : PolicyState) → LetsNoneChoose table
    → GivesAll (new_policy table limits) given p → IsSound p
each_sound table limits given p chosen made = all_sound given (new_policy table limits) p made (new_sound table limits chosen)

-- ---- a bind

-- a version that is allowed is of an interface of the table
allowed_there : (p : PolicyState) (i : InterfaceId) → IsSound p → 1 ≤ allowed_version p i → i.0 < length p.table
allowed_there p i sound some = go (slice_get p.versions i.0) refl some
  where
    go : (v : Option ℕ) → slice_get p.versions i.0 ≡ v → 1 ≤ number_or_0 v → i.0 < length p.table
    go None is none = absurd (omega (arith, none))
    go (Some v) is some = let within = slice_get_within p.versions i.0 v is in let same = sound.count in omega (arith, within, same)

pub bound_there : (p : PolicyState) (told : List Told) (number : ℕ) (name : List ℕ) (version : ℕ) (binds : BindsTold p told number name version) → IsSound p
    → (4 ≤ binds.last.interface.0)
    × ((row : InterfaceRow) × (slice_get p.table binds.last.interface.0 ≡ Some row) × (row.name ≡ name) × (version ≤ row.version))
bound_there p told number name version binds sound = (sound.named binds.last.interface some, go (slice_get p.table binds.last.interface.0) refl)
  where
    some : 1 ≤ allowed_version p binds.last.interface
    some = let a = binds.some in let b = binds.within_policy in omega (arith, a, b)

    go : (r : Option InterfaceRow) → slice_get p.table binds.last.interface.0 ≡ r
        → (row : InterfaceRow) × (slice_get p.table binds.last.interface.0 ≡ Some row) × (row.name ≡ name) × (version ≤ row.version)
    go None is = absurd (past (slice_get_cases p.table binds.last.interface.0).1)
      where
        past : ((x : InterfaceRow) × (binds.last.interface.0 < length p.table) × (slice_get p.table binds.last.interface.0 ≡ Some x) × (get_or p.table binds.last.interface.0 x ≡ x)) ⊎ ((length p.table ≤ binds.last.interface.0) × (slice_get p.table binds.last.interface.0 ≡ None)) → ⊥
        past (inl there) = let e : ◌≡◌ {A = Option InterfaceRow} None (Some there.0) = sym is ∙ there.2 in absurd cc
        past (inr beyond) = let a = allowed_there p binds.last.interface sound some in let b = beyond.0 in omega (arith, a, b)
    go (Some row) is = (
      row,
      is,
      sym (ap (λ (r : Option InterfaceRow). option_map_or (λ (x : InterfaceRow). x.name) r (codes "<unknown>")) is) ∙ binds.named,
      let a = sound.within binds.last.interface row is in let b = binds.within_policy in omega (arith, a, b),
    )
