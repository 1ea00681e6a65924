-- What is announced by worked logs, computed from the definition.
use Rattle.std.proofs.Common.{◌≡◌, ℕ, Bool, true, false, [], ◌∷◌, map, None, Some, is_some, refl, sym, ap, ◌∙◌, true≢false, arith}
use mathlib.Core.Logic.{inl, inr}
use Rattle.std.specs.Prelude.{codes}
use Rattle.std.proofs.lemmas.Bool.{cases_eq}
use Rattle.std.proofs.lemmas.Option.{same_Some}
use Rattle.wl_link.specs.declared.object.Object.{Object}
use Rattle.wl_link.specs.Identity.{Id}
use Rattle.wl_link.specs.Puts.{Said}
use Rattle.wl_link.specs.Store.{empty_store, held, stored}
use Rattle.wl_link.proofs.Ids.StoreLaws.{held_empty, stored_here, stored_other}
use Rattle.wl_server_client.specs.declared.globals.KeptGlobal.{KeptGlobal}
use Rattle.wl_server_model.proofs.OverRuns.Ids.AmongLaws.{among_contains, contains_among}
use Rattle.wl_server_model.specs.Announced.{Announced, AreSameGlobals, announced, announced_as, shown_of}
use Rattle.wl_server_client.specs.Deeds.{IsAmong}
use Rattle.wl_server_client.specs.Globals.{Offer, Shown, is_shown, shown_as}
use Rattle.wl_server_model.proofs.OverRuns.Announced.ShownLaws.{IsShown, among_shown, shown_among}
use Rattle.wl_server_client.specs.Telling.{delete_message, done_message, global_message, removal_message}
use Rattle.wl_server_model.proofs.Worked.Messages.{at, client, one, quad_global, quad_id, says, table}

-- the global 1 as it is announced, and a global 2 of version 1
abbrev first : Announced
first = record { name = 1; interface = codes "quad"; version = 3 }

abbrev two : Shown
two = record { name = 2; interface = quad_id; version = 1 }

abbrev second : Announced
second = record { name = 2; interface = codes "quad"; version = 1 }

as_announced : (announced_as table one ≡ first) × (announced_as table two ≡ second)
as_announced = (refl, refl)

abbrev tells_of : Id → Shown → Said
tells_of registry g = global_message table registry g

-- a registry that was told of two globals when it was made, and one that was told of them later
told_of_two : (announced (map (tells_of (at 2 1)) (one ∷ two ∷ [])) (at 2 1) ≡ first ∷ second ∷ [])
    × (announced (done_message (at 3 2) ∷ delete_message 3 ∷ tells_of (at 2 1) one ∷ done_message (at 3 3) ∷ tells_of (at 2 1) two ∷ []) (at 2 1)
    ≡ first ∷ second ∷ [])
told_of_two = (refl, refl)

-- a global is taken back; it may have been hidden, so that it was never announced
taken_back_again : (announced (tells_of (at 2 1) one ∷ tells_of (at 2 1) two ∷ removal_message 1 (at 2 1) ∷ []) (at 2 1) ≡ second ∷ [])
    × (announced (removal_message 1 (at 2 1) ∷ []) (at 2 1) ≡ [])
taken_back_again = (refl, refl)

-- a name is used again: the new global stands behind the others; and were it not taken back before, both would be announced
used_again : (announced (tells_of (at 2 1) one ∷ tells_of (at 2 1) two ∷ removal_message 1 (at 2 1) ∷ tells_of (at 2 1) one ∷ []) (at 2 1)
    ≡ second ∷ first ∷ [])
    × (announced (tells_of (at 2 1) one ∷ tells_of (at 2 1) (record one { version = 1 }) ∷ []) (at 2 1) ≡ first ∷ record first { version = 1 } ∷ [])
used_again = (refl, refl)

-- two registries of one client, and two objects of one number: each is told by its own messages
two_registries : (announced (tells_of (at 2 1) one ∷ tells_of (at 3 2) two ∷ []) (at 2 1) ≡ first ∷ [])
    × (announced (tells_of (at 2 1) one ∷ tells_of (at 3 2) two ∷ []) (at 3 2) ≡ second ∷ [])
    × (announced (tells_of (at 2 1) one ∷ tells_of (at 2 2) two ∷ []) (at 2 1) ≡ first ∷ [])
    × (announced (tells_of (at 2 1) one ∷ tells_of (at 2 2) two ∷ []) (at 2 2) ≡ second ∷ [])
two_registries = (refl, refl, refl, refl)

-- ---- what has to be announced

-- an offer of the global 1, which a client may see where its data say so
abbrev offer_of : Bool → Offer ℕ
offer_of is_disabled = record {
  table = table;
  globals = record { store = stored empty_store 1 (quad_global is_disabled); last_serial = 1; keeps_names = false };
  default_limit = 4096;
  object_limit = None;
  hands_registries = false;
}

no_other : (is_disabled : Bool) (n : ℕ) (x : Object (KeptGlobal ℕ)) → held (offer_of is_disabled).globals.store n ≡ Some x
    → (n ≡ 1) × (quad_global is_disabled ≡ x)
no_other is_disabled n x holds =
    elim (cases_eq n 1) [
      | inl same ↦ (same, same_Some (quad_global is_disabled) x (sym (stored_here empty_store 1 (quad_global is_disabled) n same) ∙ holds))
      | inr other ↦ absurd (true≢false (sym (ap is_some (sym (stored_other empty_store 1 (quad_global is_disabled) n other ∙ held_empty n) ∙ holds))))
    ]

-- a client that may see it is shown it, and another is not; disabled it is shown to nobody
shown_to_one : IsShown says client true (offer_of false) first
shown_to_one = record { global = quad_global false; at = stored_here empty_store 1 (quad_global false) 1 refl; passes = refl; is = refl }

not_shown : (is_disabled client_data : Bool) → is_shown says client client_data (1, quad_global is_disabled) ≡ false
    → (g : Announced) → IsShown says client client_data (offer_of is_disabled) g → ⊥
not_shown is_disabled client_data hidden g h =
    let is = (no_other is_disabled g.name h.global h.at).1 in true≢false (sym h.passes ∙ rw (← is) hidden)

hidden_from_another : (g : Announced) → IsShown says client false (offer_of false) g → ⊥
hidden_from_another = not_shown false false refl

disabled_for_all : (client_data : Bool) (g : Announced) → IsShown says client client_data (offer_of true) g → ⊥
disabled_for_all client_data = not_shown true client_data refl

-- announced to the one that may see it: as it has to be
as_it_has_to_be : AreSameGlobals (announced (tells_of (at 2 1) one ∷ []) (at 2 1)) (shown_of says (offer_of false) client true)
as_it_has_to_be g = (
  λ told. contains_among _ g (shown_among says client true (offer_of false) g (is_first (among_contains (first ∷ []) g told))),
  λ shown'. contains_among (first ∷ []) g (inl (whole (among_shown says client true (offer_of false) g (among_contains _ g shown')))),
)
  where
    is_first : IsAmong (first ∷ []) g → IsShown says client true (offer_of false) g
    is_first h1 = grind (arith, says, client, offer_of, shown_to_one)

    whole : IsShown says client true (offer_of false) g → first ≡ g
    whole h = grind (arith, no_other, announced_as, table, shown_as)

-- what is hidden or disabled may not be announced, and what is shown may not be kept back
wrongly_announced : (is_disabled client_data : Bool) → is_shown says client client_data (1, quad_global is_disabled) ≡ false
    → AreSameGlobals (announced (tells_of (at 2 1) one ∷ []) (at 2 1)) (shown_of says (offer_of is_disabled) client client_data) → ⊥
wrongly_announced is_disabled client_data hidden same =
    not_shown is_disabled client_data hidden first (among_shown says client client_data (offer_of is_disabled) first
    (among_contains _ first ((same first).0 (contains_among (first ∷ []) first (inl refl)))))

hidden_and_announced : AreSameGlobals (announced (tells_of (at 2 1) one ∷ []) (at 2 1)) (shown_of says (offer_of false) client false) → ⊥
hidden_and_announced = wrongly_announced false false refl

disabled_and_announced : AreSameGlobals (announced (tells_of (at 2 1) one ∷ []) (at 2 1)) (shown_of says (offer_of true) client true) → ⊥
disabled_and_announced = wrongly_announced true true refl

shown_and_kept_back : AreSameGlobals (announced [] (at 2 1)) (shown_of says (offer_of false) client true) → ⊥
shown_and_kept_back same =
    among_contains [] first ((same first).1 (contains_among _ first (shown_among says client true (offer_of false) first shown_to_one)))
