-- Which globals a client is shown, before and after one is created, disabled or removed.
use Rattle.std.proofs.Common.{◌≡◌, ◌≢◌, ◌⊎◌, ℕ, Bool, true, false, eqb, List, Option, None, Some, refl, sym, ap, subst, ◌∙◌, true≢false, arith}
use mathlib.Core.Logic.{inl, inr}
use Rattle.std.specs.List.{filter}
use Rattle.std.specs.FinMap as finmap
use Rattle.std.proofs.lemmas.Bool.{cases_eq}
use Rattle.std.proofs.lemmas.Option.{same_Some, none-some}
use Rattle.wl_link.specs.declared.object.Object.{Object}
use Rattle.wl_wire.specs.Table.{InterfaceRow}
use Rattle.wl_link.specs.Store.{Store, held, removed, rewritten, stored}
use Rattle.wl_link.proofs.Ids.StoreLaws.{removed_here, removed_other, rewritten_here, rewritten_other, stored_here, stored_other, walk_of_entries}
use Rattle.wl_server_client.specs.declared.globals.KeptGlobal.{KeptGlobal}
use Rattle.wl_server_model.proofs.OverRuns.Ids.AmongLaws.{among_contains, among_filter, among_map, contains_among, filter_among, map_among}
use Rattle.wl_server_model.specs.Announced.{Announced, announced_as, shown_of}
use Rattle.wl_server_client.specs.Deeds.{IsAmong}
use Rattle.wl_server_client.specs.Globals.{Globals, Offer, as_disabled, global_of, global_serial, is_enabled, is_shown, shown, shown_as, with_globals}
use Rattle.wl_server_client.specs.Ids.{ClientParts, GlobalParts}

module _ {G C : Type 0} (views : G → ClientParts → C → GlobalParts → Bool) (client : ClientParts) (client_data : C) where
  -- a global is shown under its name
  pub record IsShown (offer : Offer G) (g : Announced) : Type 0 where
    pub global : Object (KeptGlobal G)
    pub at : held offer.globals.store g.name ≡ Some global
    pub passes : is_shown views client client_data (g.name, global) ≡ true
    pub is : announced_as offer.table (shown_as (g.name, global)) ≡ g

  pub among_shown : (offer : Offer G) (g : Announced) → IsAmong (shown_of views offer client client_data) g → IsShown offer g
  among_shown offer g among =
      let (s, there, is) = among_map (announced_as offer.table) (shown views offer.globals client client_data) g among in
      let (e, in_filter, same) = among_map shown_as
      (filter (is_shown views client client_data) (finmap.entries offer.globals.store.objects)) s there in
      let (kept, passes) = among_filter (is_shown views client client_data) (finmap.entries offer.globals.store.objects) e in_filter in
      let whole : announced_as offer.table (shown_as e) ≡ g = ap (announced_as offer.table) same ∙ is in
      let name : e.0 ≡ g.name = ap (λ (z : Announced). z.name) whole in
      record {
        global = e.1;
        at = ap (held offer.globals.store) (sym name)
            ∙ ((walk_of_entries offer.globals.store).each e.0 e.1).0 (contains_among (finmap.entries offer.globals.store.objects) e kept);
        passes = subst (λ n. is_shown views client client_data (n, e.1) ≡ true) name passes;
        is = subst (λ n. announced_as offer.table (shown_as (n, e.1)) ≡ g) name whole;
      }

  pub shown_among : (offer : Offer G) (g : Announced) → IsShown offer g → IsAmong (shown_of views offer client client_data) g
  shown_among offer g h =
      subst (λ z. IsAmong (shown_of views offer client client_data) z) h.is
      (map_among (announced_as offer.table) (shown views offer.globals client client_data) (shown_as (g.name, h.global))
      (map_among shown_as (filter (is_shown views client client_data) (finmap.entries offer.globals.store.objects)) (g.name, h.global)
      (filter_among (is_shown views client client_data) (finmap.entries offer.globals.store.objects) (g.name, h.global)
      (among_contains (finmap.entries offer.globals.store.objects) (g.name, h.global) (((walk_of_entries offer.globals.store).each g.name h.global).1 h.at)) h.passes)))

  -- what is at the name stays, and is announced as before
  pub shown_in : (offer offer' : Offer G) (g : Announced) → ((x : Object (KeptGlobal G)) → held offer.globals.store g.name ≡ Some x
      → (held offer'.globals.store g.name ≡ Some x) × (announced_as offer'.table (shown_as (g.name, x)) ≡ announced_as offer.table (shown_as (g.name, x)))) → IsShown offer g → IsShown offer' g
  shown_in offer offer' g same h = let (at, named) = same h.global h.at in record { global = h.global; at = at; passes = h.passes; is = named ∙ h.is }

  -- the same globals are shown
  pub record StaysShown (offer offer' : Offer G) : Type 0 where
    pub kept : (a : Announced) → IsShown offer a → IsShown offer' a
    pub only : (a : Announced) → IsShown offer' a → IsShown offer a

  -- the same globals, announced as before
  pub renamed_stays : (offer offer' : Offer G) → offer'.globals ≡ offer.globals
      → ((a : Announced) (x : Object (KeptGlobal G)) → held offer.globals.store a.name ≡ Some x
      → announced_as offer'.table (shown_as (a.name, x)) ≡ announced_as offer.table (shown_as (a.name, x))) → StaysShown offer offer'
  renamed_stays offer offer' same named = record {
    kept = λ a h. shown_in offer offer' a (λ x at. (ap (λ (globals : Globals G). held globals.store a.name) same ∙ at, named a x at)) h;
    only = λ a h. shown_in offer' offer a
        (λ x at. (let old = ap (λ (globals : Globals G). held globals.store a.name) (sym same) ∙ at in (old, sym (named a x old)))) h;
  }

  -- the same globals by name, over the same table
  pub stored_stays : (offer offer' : Offer G) → offer'.globals.store ≡ offer.globals.store → offer'.table ≡ offer.table → StaysShown offer offer'
  stored_stays offer offer' same table = record {
    kept = λ a h. shown_in offer offer' a (λ x at. (
      ap (λ (store : Store (KeptGlobal G)). held store a.name) same ∙ at,
      ap (λ (rows : List InterfaceRow). announced_as rows (shown_as (a.name, x))) table,
    )) h;
    only = λ a h. shown_in offer' offer a (λ x at. (
      ap (λ (store : Store (KeptGlobal G)). held store a.name) (sym same) ∙ at,
      ap (λ (rows : List InterfaceRow). announced_as rows (shown_as (a.name, x))) (sym table),
    )) h;
  }

  module _ (offer : Offer G) (name : ℕ) where
    -- a new global at a free name
    module _ (x : Object (KeptGlobal G)) (last : ℕ) (free : held offer.globals.store name ≡ None) where
      abbrev created : Globals G
      created = record offer.globals { store = stored offer.globals.store name x; last_serial = last }

      pub created_old : (g : Announced) → IsShown offer g
          → IsShown (with_globals offer (record offer.globals { store = stored offer.globals.store name x; last_serial = last })) g
      created_old g h = shown_in offer (with_globals offer created) g
          (λ y at. (stored_other offer.globals.store name x g.name (λ same. none-some _ (sym free ∙ ap (held offer.globals.store) (sym same) ∙ at)) ∙ at, refl)) h

      pub created_new : is_shown views client client_data (name, x) ≡ true
          → IsShown (with_globals offer (record offer.globals { store = stored offer.globals.store name x; last_serial = last }))
          (announced_as offer.table (shown_as (name, x)))
      created_new passes = record { global = x; at = stored_here offer.globals.store name x name refl; passes = passes; is = refl }

      pub created_only : (g : Announced) → IsShown (with_globals offer (record offer.globals { store = stored offer.globals.store name x; last_serial = last })) g
          → IsShown offer g ⊎ ((is_shown views client client_data (name, x) ≡ true) × (announced_as offer.table (shown_as (name, x)) ≡ g))
      created_only g h =
          elim (cases_eq g.name name) [
            | inl same ↦ grind (arith, same_Some, stored_here, is_shown, announced_as, shown_as)
            | inr other ↦ inl (shown_in (with_globals offer created) offer g
                (λ y at. (sym (stored_other offer.globals.store name x g.name other) ∙ at, refl)) h)
          ]

    -- other globals are as they were, and what has the name is not shown
    pub record Hides (after : Globals G) : Type 0 where
      pub beside : (m : ℕ) → m ≢ name → held after.store m ≡ held offer.globals.store m
      pub hidden : (x : Object (KeptGlobal G)) → held after.store name ≡ Some x → is_shown views client client_data (name, x) ≡ true → ⊥

    module _ (after : Globals G) (hides : Hides after) where
      pub hidden_old : (g : Announced) → IsShown offer g → g.name ≢ name → IsShown (with_globals offer after) g
      hidden_old g h other = shown_in offer (with_globals offer after) g (λ x at. (hides.beside g.name other ∙ at, refl)) h

      pub hidden_only : (g : Announced) → IsShown (with_globals offer after) g → IsShown offer g × (g.name ≢ name)
      hidden_only g h =
          let other : g.name ≢ name = λ same. (grind (arith, held, is_shown)) in
          (shown_in (with_globals offer after) offer g (λ x at. (sym (hides.beside g.name other) ∙ at, refl)) h, other)

    pub disabled_hides : (x : Object (KeptGlobal G)) → Hides (record offer.globals { store = rewritten offer.globals.store name (as_disabled x) })
    disabled_hides x = grind (arith, rewritten_other, as_disabled, rewritten_here, true≢false, is_shown)

    pub removed_hides : Hides (record offer.globals { store = removed offer.globals.store name })
    removed_hides = grind (arith, removed_other, removed_here)

  -- a global that is not enabled is shown to nobody: nothing changes where it is disabled again, or removed
  pub hidden_stays : (offer : Offer G) (g : GlobalParts) (at : Option (Object (KeptGlobal G)) → Globals G) → at None ≡ offer.globals
      → ((x : Object (KeptGlobal G)) → Hides offer g.name (at (Some x))) → is_enabled (global_of offer.globals g) ≡ false
      → StaysShown offer (with_globals offer (at (global_of offer.globals g)))
  hidden_stays offer g at none hides off = go (global_of offer.globals g) refl
    where
      go : (o : Option (Object (KeptGlobal G))) → global_of offer.globals g ≡ o → StaysShown offer (with_globals offer (at o))
      go None is =
          subst (λ (globals : Globals G). StaysShown offer (with_globals offer globals)) (sym none) (record { kept = λ a h. h; only = λ a h. h })
      go (Some x) is = record {
        kept =
            λ a h. hidden_old offer g.name (at (Some x)) (hides x) a h (λ same. grind (arith, eqb, global_serial, is_enabled, is_shown, true≢false));
        only = λ a h. (hidden_only offer g.name (at (Some x)) (hides x) a h).0;
      }
