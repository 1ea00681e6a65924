-- What an event names that is put.
use Rattle.std.proofs.Common.{◌≡◌, ℕ, ◌+◌, ◌≤◌, List, [], ◌∷◌, length, Bool, true, false, refl, ap, arith, Some, None}
use Rattle.std.specs.Prelude.{All, if◌then◌else◌, not, ◌&&◌}
use Rattle.std.specs.List.{list_all}
use Rattle.std.proofs.lemmas.Bool.Decides.{nat_tests}
use Rattle.std.proofs.lemmas.List.Elements.{All-cons, All-head, All-nil, All-tail}
use Rattle.wl_queues.specs.declared.events.Event.{Event}
use Rattle.wl_queues.specs.declared.objects.Fate.{Fate}
use Rattle.wl_queues.specs.declared.objects.Fate.TheVariants.{Alive, Destroyed, Free}
use Rattle.wl_queues.specs.declared.objects.Object.{Object}
use Rattle.wl_queues.specs.declared.queues.PutError.TheVariants.{NoObject, OutOfMemory}
use Rattle.wl_queues.specs.Events.{NamesLive}
use Rattle.wl_queues.specs.Inside.Refusals.{has_room, refusal_of}
use Rattle.wl_queues.specs.Objects.{is_alive}

alive-of : (f : Fate) → is_alive f ≡ true → f ≡ Alive
alive-of Free h = absurd (grind (arith, h))
alive-of Alive h = refl
alive-of Destroyed h = absurd (grind (arith, h))

alive-is : (f : Fate) → f ≡ Alive → is_alive f ≡ true
alive-is f h = ap is_alive h

both : (a b : Bool) → (a && b) ≡ true → (a ≡ true) × (b ≡ true)
both true b h = (refl, h)
both false b h = absurd (grind (arith, h))

join : (a b : Bool) → a ≡ true → b ≡ true → (a && b) ≡ true
join true b x y = y
join false b x y = absurd (grind (arith, x))

-- a test of each element, as a fact of each
all-of : (P : ℕ → Type 0) (p : ℕ → Bool) → ((n : ℕ) → p n ≡ true → P n) → (xs : List ℕ) → list_all p xs ≡ true → All P xs
all-of P p f [] h = All-nil P
all-of P p f (x ∷ xs) h = let k = both (p x) (list_all p xs) h in All-cons P x xs (f x k.0) (all-of P p f xs k.1)

all-is : (P : ℕ → Type 0) (p : ℕ → Bool) → ((n : ℕ) → P n → p n ≡ true) → (xs : List ℕ) → All P xs → list_all p xs ≡ true
all-is P p f [] h = refl
all-is P p f (x ∷ xs) h = join (p x) (list_all p xs) (f x (All-head P x xs h)) (all-is P p f xs (All-tail P x xs h))

fits : (references : ℕ → ℕ) (more o : ℕ) → more ≤ 0xFFFFFFFFFFFFFFFF → has_room references more o ≡ true → references o + more ≤ 0xFFFFFFFFFFFFFFFF
fits references more o small h = grind (arith, nat_tests, small, h)

-- of four tests all pass, if nothing is against the event
pub record Accepted {E : Type 0} (objects : ℕ → Object) (references : ℕ → ℕ) (e : Event E) : Type 0 where
  pub live : NamesLive objects e
  pub sender : references e.sender + (length e.arguments.items + 1) ≤ 0xFFFFFFFFFFFFFFFF
  pub arguments : All (λ o. references o + (length e.arguments.items + 1) ≤ 0xFFFFFFFFFFFFFFFF) e.arguments.items

module _ {E : Type 0} where
  pub accepted : (objects : ℕ → Object) (references : ℕ → ℕ) (e : Event E) → length e.arguments.items + 1 ≤ 0xFFFFFFFFFFFFFFFF → refusal_of objects references e ≡ None → Accepted objects references e
  accepted objects references e small none = record {
    live = record {
      sender = alive-of (objects e.sender).fate tests.0;
      arguments = all-of (λ o. (objects o).fate ≡ Alive) (λ o. is_alive (objects o).fate) (λ o. alive-of (objects o).fate) e.arguments.items tests.1;
    };
    sender = fits references (length e.arguments.items + 1) e.sender small tests.2;
    arguments = all-of (λ o. references o + (length e.arguments.items + 1) ≤ 0xFFFFFFFFFFFFFFFF) (has_room references (length e.arguments.items + 1))
        (λ o. fits references (length e.arguments.items + 1) o small) e.arguments.items tests.3;
  }
    where
      four : (a b c d : Bool) → (if not a then Some NoObject else (if not b then Some NoObject else (if not c then Some OutOfMemory else (if not d then Some OutOfMemory else None)))) ≡ None →
          (a ≡ true) × (b ≡ true) × (c ≡ true) × (d ≡ true)
      four true true true true h = (refl, refl, refl, refl)
      four true true true false h = absurd (grind (arith, h))
      four true true false d h = absurd (grind (arith, h))
      four true false c d h = absurd (grind (arith, h))
      four false b c d h = absurd (grind (arith, h))

      tests : (is_alive (objects e.sender).fate ≡ true) × (list_all (λ o. is_alive (objects o).fate) e.arguments.items ≡ true) × (has_room references (length e.arguments.items + 1) e.sender ≡ true)
          × (list_all (λ o. has_room references (length e.arguments.items + 1) o) e.arguments.items ≡ true)
      tests = four _ _ _ _ none

  -- the error that says so comes only if the event names what is not live
  pub refused-for-object : (objects : ℕ → Object) (references : ℕ → ℕ) (e : Event E) → refusal_of objects references e ≡ Some NoObject → ¬ (NamesLive objects e)
  refused-for-object objects references e is = λ live.
      let a = alive-is (objects e.sender).fate live.sender in
      let b = all-is (λ o. (objects o).fate ≡ Alive) (λ o. is_alive (objects o).fate) (λ o. alive-is (objects o).fate) e.arguments.items live.arguments in
      two (is_alive (objects e.sender).fate) (list_all (λ o. is_alive (objects o).fate) e.arguments.items) _ _ a b is
    where
      two : (a b c d : Bool) → a ≡ true → b ≡ true → (if not a then Some NoObject else (if not b then Some NoObject else (if not c then Some OutOfMemory else (if not d then Some OutOfMemory else None)))) ≡ Some NoObject → ⊥
      two true true true true x y h = grind (arith, h)
      two true true true false x y h = grind (arith, h)
      two true true false d x y h = grind (arith, h)
      two true false c d x y h = grind (arith, y)
      two false b c d x y h = grind (arith, x)
