-- What an object's messages announce, one list behind another.
use Rattle.std.proofs.Common.{◌≡◌, ◌≢◌, ℕ, Bool, true, false, cond, List, [], ◌∷◌, ◌++◌, length, map, refl, sym, ap, ◌∙◌, append-nil, append_assoc, arith, subst}
use mathlib.Core.Logic.{inl, inr}
use Rattle.wl_wire.specs.Table.{InterfaceRow, name_of}
use Rattle.wl_link.specs.Identity.{Id}
use Rattle.wl_link.specs.Puts.{Said}
use Rattle.wl_server_model.specs.Announced.{Announced, announced_after, announced_as, announced_over, sender_of}
use Rattle.wl_server_client.specs.Deeds.{IsAmong}
use Rattle.wl_server_client.specs.Globals.{Shown}
use Rattle.wl_server_client.specs.Part.{same_id}
use Rattle.wl_server_client.specs.Telling.{introductions}
use Rattle.wl_server_client.proofs.GlobalCalls.SameIds.{other_id, same_id_self}

-- ---- one list behind another

pub announced-append : (r : Id) (told : List Announced) (a b : List Said)
    → announced_over r told (a ++ b) ≡ announced_over r (announced_over r told a) b
announced-append r told [] b = refl
announced-append r told (m ∷ a) b = announced-append r (cond (same_id (sender_of m) r) (announced_after told m.message) told) a b

-- they are of others
abbrev pub AreOfOthers : Id → List Said → Type 0
AreOfOthers r [] = Unit {0}
AreOfOthers r (m ∷ log) = (sender_of m ≢ r) × AreOfOthers r log

pub others_say : (r : Id) (log : List Said) → AreOfOthers r log → (told : List Announced) → announced_over r told log ≡ told
others_say r [] others told = refl
others_say r (m ∷ log) others told = grind (arith, announced_over, announced_after, other_id, sender_of, others_say r log others.1 told)

-- ---- a registry is told of globals one after another

module _ (table : List InterfaceRow) where
  pub greeted : (r : Id) (told : List Announced) (room : ℕ) (gs : List Shown)
      → announced_over r told (introductions table r room gs) ≡ told ++ map (announced_as table) gs
  greeted r told room [] = sym (append-nil told)
  greeted r told room (g ∷ gs) =
      let next = length (name_of table g.interface.0) in
      ap (λ b. announced_over r (cond b (told ++ announced_as table g ∷ []) told) (introductions table r next gs)) (same_id_self r)
      ∙ greeted r (told ++ announced_as table g ∷ []) next gs ∙ append_assoc told (announced_as table g ∷ []) (map (announced_as table) gs)

  -- what one registry is told is of others to another
  pub greeted_other : (r y : Id) (room : ℕ) (gs : List Shown) → y ≢ r → AreOfOthers r (introductions table y room gs)
  greeted_other r y room [] other = tt
  greeted_other r y room (g ∷ gs) other = (other, greeted_other r y (length (name_of table g.interface.0)) gs other)

-- ---- each of some objects sends one message

-- those that send say nothing of an object that is not among them
pub told_others : (r : Id) (message : Id → Said) → ((y : Id) → sender_of (message y) ≡ y) → (rs : List Id) → (IsAmong rs r → ⊥)
    → AreOfOthers r (map message rs)
told_others r message by [] none = tt
told_others r message by (y ∷ rs) none = (λ is. none (inl (sym (by y) ∙ is)), told_others r message by rs (λ among. none (inr among)))

-- what is announced on an object changes so in each message that it sends
module _ (r : Id) (message : Id → Said) (by : (y : Id) → sender_of (message y) ≡ y) (change : List Announced → List Announced)
    (does : (y : Id) (told : List Announced) → announced_after told (message y).message ≡ change told) where
  -- what stays in a change
  each_keeps : (P : List Announced → Type 0) → ((told : List Announced) → P told → P (change told)) → (told : List Announced) (rs : List Id) → P told
      → P (announced_over r told (map message rs))
  each_keeps P stays told [] h = h
  each_keeps P stays told (y ∷ rs) h =
      each_keeps P stays (cond (same_id (sender_of (message y)) r) (announced_after told (message y).message) told) rs
      (elim (same_id (sender_of (message y)) r) as (λ b. P (cond b (announced_after told (message y).message) told)) [
        | true ↦ subst P (sym (does y told)) (stays told h)
        | false ↦ h
      ])

  -- what a change makes of what holds before, if the object is among them
  pub some_turns : (P Q : List Announced → Type 0) → ((told : List Announced) → Q told → P told)
      → ((told : List Announced) → P told → Q (change told))
      → (told : List Announced) (rs : List Id) → IsAmong rs r → P told → Q (announced_over r told (map message rs))
  some_turns P Q weak turns told [] among h = absurd among
  some_turns P Q weak turns told (y ∷ rs) (inr among) h =
      some_turns P Q weak turns (cond (same_id (sender_of (message y)) r) (announced_after told (message y).message) told) rs among
      (each_keeps P (λ t k. weak _ (turns t k)) told (y ∷ []) h)
  some_turns P Q weak turns told (y ∷ rs) (inl e) h =
      each_keeps Q (λ t k. turns t (weak t k)) (cond (same_id (sender_of (message y)) r) (announced_after told (message y).message) told) rs
      (subst (λ (b : Bool). Q (cond b (announced_after told (message y).message) told))
      (sym (ap (λ (z : Id). same_id z r) (by y ∙ e) ∙ same_id_self r)) (subst Q (sym (does y told)) (turns told h)))
