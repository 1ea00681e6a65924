-- What holds of each object that is held, also after a message, if it holds of the object that the message makes.
use Rattle.std.specs.Prelude.{◌≡◌, ◌≢◌, ℕ, ◌⊎◌, ◌==◌, Bool, true, false, List, [], ◌∷◌, Option, None, Some, MatchBool, MatchOption, if◌then◌else◌}
use Rattle.std.proofs.Common.{arith, inl, inr, refl, subst, sym, ◌∙◌}
use Rattle.wl_wire.specs.declared.argument.Argument.TheVariants as arg
use Rattle.wl_wire.specs.declared.interface.InterfaceId.{InterfaceId}
use Rattle.wl_wire.specs.Argument.{WireArgument}
use Rattle.wl_wire.specs.Message.{WireMessage}
use Rattle.wl_wire.specs.Table.{InterfaceRow, MessageRow}
use Rattle.wl_link.specs.declared.object.Object.{Object}
use Rattle.wl_link.specs.Store.{Store, held, removed, stored}
use Rattle.wl_link.proofs.Ids.StoreLaws.{removed_here, removed_other, stored_here, stored_other}
use Rattle.wl_follow.specs.Objects.{Gives, IsBound, NotesBind, NotesChild, NotesObjects, Puts, PutsBound, bind_of, freed, is_bind, is_deletion, is_own, new_number, object_of, vacated, without_deleted}
use Rattle.wl_follow.specs.declared.objects.Deletions.TheVariants.{Seen}
use Rattle.wl_follow.specs.declared.objects.UnknownInterfaces.TheVariants.{Refused}
use Rattle.wl_follow.specs.declared.side.Fault.{Fault}
use Rattle.wl_follow.specs.declared.side.Fault.TheVariants as fault
use Rattle.wl_follow.specs.declared.side.Side.{Side}
use Rattle.wl_follow.specs.declared.side.Side.TheVariants.{Client, Server}

pub same_or_not : (m n : ℕ) → (m ≡ n) ⊎ (m ≢ n)
same_or_not m n = grind arith

pub some_same : {A : Type 0} (x y : A) → Some x ≡ Some y → x ≡ y
some_same x y e = cc

-- the object that a message makes: its number, its interface and its version
abbrev pub Makes : List InterfaceRow → Side → Object (Unit {0}) → MessageRow → WireMessage → ℕ → InterfaceId → Type 0
Makes table side object row m number interface =
    (is_own side number ≡ true)
    × (((is_bind side object.interface ≡ true) × ((b : List ℕ × (ℕ × ℕ)) × (bind_of m.args ≡ Some b) × (b.1.1 ≡ number) × IsBound table Refused b.0 (Some interface)))
    ⊎ ((is_bind side object.interface ≡ false) × (row.child_interface ≡ Some interface) × (new_number m.args ≡ Some number)))

module _ (Q : ℕ → Object (Unit {0}) → Type 0) where
  abbrev pub AllHeld : Store (Unit {0}) → Type 0
  AllHeld o = (n : ℕ) (x : Object (Unit {0})) → held o n ≡ Some x → Q n x

  pub all_stored : (o : Store (Unit {0})) (k : ℕ) (y : Object (Unit {0})) → AllHeld o → Q k y → AllHeld (stored o k y)
  all_stored o k y all new n x is = go (same_or_not n k)
    where
      go : (n ≡ k) ⊎ (n ≢ k) → Q n x
      go (inl here) =
          let same : y ≡ x = some_same y x (sym (stored_here o k y n here) ∙ is) in
          subst (λ (z : Object (Unit {0})). Q n z) same (subst (λ (i : ℕ). Q i y) (sym here) new)
      go (inr other) = all n x (sym (stored_other o k y n other) ∙ is)

  all_removed : (o : Store (Unit {0})) (k : ℕ) → AllHeld o → AllHeld (removed o k)
  all_removed o k all n x is = go (same_or_not n k)
    where
      go : (n ≡ k) ⊎ (n ≢ k) → Q n x
      go (inl here) = let none = removed_here o k n here in let e = is in absurd cc
      go (inr other) = all n x (sym (removed_other o k n other) ∙ is)

  all_either : (b : Bool) (o o1 : Store (Unit {0})) → AllHeld o → AllHeld o1 → AllHeld (if b then o else o1)
  all_either true o o1 one two = one
  all_either false o o1 one two = two

  all_freed : (o : Store (Unit {0})) (k : ℕ) → AllHeld o → AllHeld (freed o k)
  all_freed o k all = all_either (k == 1) o (removed o k) all (all_removed o k all)

  all_vacated : (side : Side) (o : Store (Unit {0})) (k : ℕ) → AllHeld o → AllHeld (vacated side Seen o k)
  all_vacated Client o k all = all
  all_vacated Server o k all = all_freed o k all

  all_put : (side : Side) (o o' : Store (Unit {0})) (k : ℕ) (i : InterfaceId) (version : ℕ) → AllHeld o → (is_own side k ≡ true → Q k (object_of i version))
      → Puts side Seen o k i version None o' → AllHeld o'
  all_put side o o' k i version all new puts = go (is_own side k) refl puts
    where
      go : (b : Bool) → is_own side k ≡ b → MatchBool b (Gives (vacated side Seen o k) k i version None o') ((None ≡ Some fault.NewId) × (o' ≡ o)) → AllHeld o'
      go true own gives =
          subst (λ (s : Store (Unit {0})). AllHeld s) (sym gives.1) (all_stored (vacated side Seen o k) k (object_of i version) (all_vacated side o k all) (new own))
      go false own wrong = let e = wrong.0 in absurd cc

  all_child : (side : Side) (o o' : Store (Unit {0})) (child : InterfaceId) (version : ℕ) (args : List WireArgument) → AllHeld o
      → ((number : ℕ) → is_own side number ≡ true → new_number args ≡ Some number → Q number (object_of child version))
      → NotesChild side Seen o child version args None o' → AllHeld o'
  all_child side o o' child version args all new notes = go (new_number args) refl notes
    where
      go : (n : Option ℕ) → new_number args ≡ n
          → MatchOption n ((◌≡◌ {A = Option Fault} None None) × (o' ≡ o)) (λ number. Puts side Seen o number child version None o') → AllHeld o'
      go None is same = subst (λ (s : Store (Unit {0})). AllHeld s) (sym same.1) all
      go (Some number) is puts = all_put side o o' number child version all (λ own. new number own is) puts

  all_deleted : (o : Store (Unit {0})) (args : List WireArgument) → AllHeld o → AllHeld (without_deleted o args)
  all_deleted o (arg.Uint number ∷ []) all = all_freed o number all
  all_deleted o _ all = all

  module _ (table : List InterfaceRow) where
    all_bound : (o o' : Store (Unit {0})) (args : List WireArgument) → AllHeld o
        → ((number : ℕ) (i : InterfaceId) (version : ℕ) (b : List ℕ × (ℕ × ℕ)) → is_own Client number ≡ true → bind_of args ≡ Some b → b.1.1 ≡ number
        → IsBound table Refused b.0 (Some i) → Q number (object_of i version))
        → NotesBind table Refused Seen o args None o' → AllHeld o'
    all_bound o o' args all new notes = go (bind_of args) refl notes
      where
        bound : (b : List ℕ × (ℕ × ℕ)) (i : Option InterfaceId) → bind_of args ≡ Some b → IsBound table Refused b.0 i → PutsBound Seen o b.1.1 i b.1.0 None o' → AllHeld o'
        bound b None is known puts = let e = puts.0 in absurd cc
        bound b (Some i) is known puts = all_put Client o o' b.1.1 i b.1.0 all (λ own. new b.1.1 i b.1.0 b own is refl known) puts

        go : (x : Option (List ℕ × (ℕ × ℕ))) → bind_of args ≡ x
            → MatchOption x ((None ≡ Some fault.Malformed) × (o' ≡ o))
            (λ b. (i : Option InterfaceId) × IsBound table Refused b.0 i × PutsBound Seen o b.1.1 i b.1.0 None o') → AllHeld o'
        go None is wrong = let e = wrong.0 in absurd cc
        go (Some b) is notes = bound b notes.0 is notes.1 notes.2

    -- what holds of each object, and of the one that the message makes, holds of each after it
    pub all_noted : (side : Side) (object : Object (Unit {0})) (row : MessageRow) (m : WireMessage) (o o' : Store (Unit {0})) → AllHeld o
        → ((number : ℕ) (i : InterfaceId) (version : ℕ) → Makes table side object row m number i → Q number (object_of i version))
        → NotesObjects table Refused side Seen object row m o None o' → AllHeld o'
    all_noted side object row m o o' all new notes = by_bind side new (is_bind side object.interface) refl notes
      where
        others : (side : Side) → ((number : ℕ) (i : InterfaceId) (version : ℕ) → Makes table side object row m number i → Q number (object_of i version))
            → is_bind side object.interface ≡ false
            → (b : Bool) → MatchBool b ((◌≡◌ {A = Option Fault} None None) × (o' ≡ without_deleted o m.args))
            (MatchOption row.child_interface ((◌≡◌ {A = Option Fault} None None) × (o' ≡ o)) (λ child. NotesChild side Seen o child object.version m.args None o')) → AllHeld o'
        others side new not_so true deleted = subst (λ (s : Store (Unit {0})). AllHeld s) (sym deleted.1) (all_deleted o m.args all)
        others side new not_so false notes = go row.child_interface refl notes
          where
            go : (c : Option InterfaceId) → row.child_interface ≡ c
                → MatchOption c ((◌≡◌ {A = Option Fault} None None) × (o' ≡ o)) (λ child. NotesChild side Seen o child object.version m.args None o') → AllHeld o'
            go None is same = subst (λ (s : Store (Unit {0})). AllHeld s) (sym same.1) all
            go (Some child) is notes =
                all_child side o o' child object.version m.args all (λ number own number_is. new number child object.version (own, inr (not_so, is, number_is))) notes

        by_bind : (side : Side) → ((number : ℕ) (i : InterfaceId) (version : ℕ) → Makes table side object row m number i → Q number (object_of i version))
            → (b : Bool) → is_bind side object.interface ≡ b → MatchBool b (NotesBind table Refused Seen o m.args None o')
            (MatchBool (is_deletion side object.interface m.opcode) ((◌≡◌ {A = Option Fault} None None) × (o' ≡ without_deleted o m.args))
            (MatchOption row.child_interface ((◌≡◌ {A = Option Fault} None None) × (o' ≡ o)) (λ child. NotesChild side Seen o child object.version m.args None o'))) → AllHeld o'
        by_bind Server new true so_it_is notes = let e = so_it_is in absurd cc
        by_bind Client new true so_it_is notes =
            all_bound o o' m.args all (λ number i version b own is number_is known. new number i version (own, inl (so_it_is, (b, is, number_is, known)))) notes
        by_bind side new false not_so notes = others side new not_so (is_deletion side object.interface m.opcode) notes
