-- One registry of a client, watched over the changes of its client: what holds of it all the time, while the client is live.
use Rattle.std.proofs.Common.{◌≡◌, ◌≢◌, ◌⊎◌, ℕ, ◌+◌, ◌<◌, ◌≤◌, Bool, true, false, eqb, List, [], ◌∷◌, ◌++◌, map, append-nil, append_assoc, Option, None, Some, refl, sym, ap, subst, ◌∙◌, true≢false, arith}
use mathlib.Core.Logic.{inl, inr}
use Rattle.std.specs.List.{filter}
use Rattle.std.proofs.lemmas.Bool.{cases_eq}
use Rattle.std.proofs.lemmas.Option.{same_Some}
use Rattle.wl_wire.specs.declared.interface.InterfaceId.{InterfaceId}
use Rattle.wl_wire.specs.Table.{registry_id}
use Rattle.wl_link.specs.declared.object.Object.{Object}
use Rattle.wl_link.specs.Identity.{Id}
use Rattle.wl_link.specs.Puts.{Said}
use Rattle.wl_link.specs.Store.{Store, held, removed, rewritten, stored}
use Rattle.wl_link.proofs.Ids.StoreLaws.{removed_here, removed_other, rewritten_here, rewritten_other, stored_here, stored_other}
use Rattle.wl_server_client.specs.declared.reading.action.OpenAction.{OpenAction}
use Rattle.wl_server_client.specs.declared.reading.action.OpenAction.TheVariants as opened
use Rattle.wl_server_client.specs.declared.objects.Kept.{Kept}
use Rattle.wl_server_model.proofs.OverRuns.Ids.AmongLaws.{among_both, among_filter, among_first, among_later, filter_among}
use Rattle.wl_server_model.specs.Announced.{Announced, announced_over, sender_of, shown_of}
use Rattle.wl_server_model.proofs.OverRuns.Announced.AnnouncementLaws.{AreOfOthers, announced-append, greeted, greeted_other, others_say, told_others}
use Rattle.wl_server_client.proofs.GlobalCalls.SameIds.{other_id}
use Rattle.wl_server_client.specs.Deeds.{IsAmong}
use Rattle.wl_server_client.specs.Globals.{Offer, shown}
use Rattle.wl_server_client.specs.Ids.{ClientParts, GlobalParts, IdParts}
use Rattle.wl_server_client.specs.Part.{Part, id_of, registries_without, same_id, with_user_data}
use Rattle.wl_server_model.proofs.OverRuns.Announced.ShownLaws.{IsShown, StaysShown, among_shown, shown_among}
use Rattle.wl_server_client.specs.Telling.{Core, core_of, introductions}

-- what of a client its registries depend on
pub record Scene (U C : Type 0) : Type 0 where
  pub client_data : C
  pub store : Store (Kept U)
  pub last_serial : ℕ
  pub is_killed : Bool
  pub action : Option OpenAction
  pub registries : List Id

abbrev pub scene_of : {U C : Type 0} → Core U C → Scene U C
scene_of c = record {
  client_data = c.client_data;
  store = c.store;
  last_serial = c.last_serial;
  is_killed = c.is_killed;
  action = c.action;
  registries = c.registries;
}

abbrev pub part_scene : {T U C : Type 0} → Part T U C → Scene U C
part_scene p = scene_of (core_of p)

abbrev pub id_at_number : {U : Type 0} → ℕ → Object (Kept U) → Id
id_at_number n x = record { number = n; serial = x.value.serial }

-- what is announced is among many, and all of a few is announced
pub record Announces (few many : Announced → Type 0) (list : List Announced) : Type 0 where
  pub told : (g : Announced) → IsAmong list g → many g
  pub tells : (g : Announced) → few g → IsAmong list g

module _ {G C : Type 0} (views : G → ClientParts → C → GlobalParts → Bool) (client : ClientParts) (r : Id) where
  -- the registry is kept, and told of globals
  pub record IsKnown {U : Type 0} (s : Scene U C) : Type 0 where
    pub listed : IsAmong s.registries r
    pub object : Object (Kept U)
    pub holds : held s.store r.number ≡ Some object
    pub serial : object.value.serial ≡ r.serial
    pub interface : eqb object.interface.0 registry_id.0 ≡ true
    pub positive : 0 < r.serial

  -- what is announced on it is what is shown
  abbrev pub TellsShown : Offer G → C → List Announced → Type 0
  TellsShown offer client_data told = Announces (IsShown views client client_data offer) (IsShown views client client_data offer) told

  -- What holds of the registry where this is announced on it, and these registries were made. Before it is born nothing is;
  -- once it was made it is kept, and what is announced on it is what is shown.
  pub record Watch {U : Type 0} (offer : Offer G) (s : Scene U C) (told : List Announced) (made : List Id) : Type 0 where
    pub bounded : (n : ℕ) (x : Object (Kept U)) → held s.store n ≡ Some x → x.value.serial ≤ s.last_serial
    pub listed : (y : Id) → IsAmong s.registries y → y.serial ≤ s.last_serial
    pub open_bounded : (sender : IdParts) (b : Bool) (created : Option IdParts) → s.action ≡ Some (opened.Request sender b created)
        → sender.serial ≤ s.last_serial
    pub open_other : (sender : IdParts) (b : Bool) (created : Option IdParts) → s.action ≡ Some (opened.Request sender b created) → IsAmong made r
        → id_of sender ≢ r
    pub silent : s.last_serial < r.serial → told ≡ []
    pub unborn : s.last_serial < r.serial → IsAmong made r → ⊥
    pub known : IsAmong made r → IsKnown s
    pub tells : IsAmong made r → TellsShown offer s.client_data told

  -- the registry was made, or is yet to be born
  abbrev pub IsOurs : {U : Type 0} → Scene U C → List Id → Type 0
  IsOurs s made = IsAmong made r ⊎ (s.last_serial < r.serial)

  -- A change, with the messages that are put in it and the registries that are made: what holds of the registry while its
  -- client is live holds on.
  pub record Goes {U : Type 0} (offer offer' : Offer G) (s : Scene U C) (put : List Said) (regs : List Id) (t : Scene U C) : Type 0 where
    pub watch : (told : List Announced) (made : List Id) → (s.is_killed ≡ false → Watch offer s told made) → t.is_killed ≡ false
        → Watch offer' t (announced_over r told put) (made ++ regs)

  -- with these messages and registries
  pub goes_so : {U : Type 0} (offer offer' : Offer G) (s t : Scene U C) (put put' : List Said) (regs regs' : List Id) → put' ≡ put → regs' ≡ regs
      → Goes offer offer' s put regs t
      → Goes offer offer' s put' regs' t
  goes_so offer offer' s t put put' regs regs' same same' goes = grind (arith)

  module _ {U : Type 0} (offer : Offer G) where
    -- nothing is put, and no registry made
    pub steady : (s t : Scene U C) → t.is_killed ≡ s.is_killed
        → ((told : List Announced) (made : List Id) → Watch offer s told made → Watch offer t told made)
        → Goes offer offer s [] [] t
    steady s t same watch = grind (arith, append-nil)

    pub steady_same : (s : Scene U C) → Goes offer offer s [] [] s
    steady_same s = steady s s refl (λ told made w. w)

    pub goes_then : (s m t : Scene U C) (a b : List Said) (c d : List Id) → Goes offer offer s a c m → Goes offer offer m b d t
        → Goes offer offer s (a ++ b) (c ++ d) t
    goes_then s m t a b c d first second = grind (arith, append_assoc, announced-append)

    pub goes_on : (s m t : Scene U C) (a : List Said) (c : List Id) → Goes offer offer s a c m → Goes offer offer m [] [] t → Goes offer offer s a c t
    goes_on s m t a c first second = grind (arith, append-nil, goes_then s m t a [] c [] first second)

    -- ---- who speaks

    -- nor is a kept object of another interface
    pub kept_other : (s : Scene U C) (told : List Announced) (made : List Id) → Watch offer s told made → IsOurs s made
        → (n : ℕ) (x : Object (Kept U))
        → held s.store n ≡ Some x → eqb x.interface.0 registry_id.0 ≡ false → id_at_number n x ≢ r
    kept_other s told made h1 h2 n x h3 h4 = grind (arith, held, true≢false, eqb, registry_id)

    -- messages of others
    pub others_goes : (s : Scene U C) (put : List Said)
        → ((told : List Announced) (made : List Id) → Watch offer s told made → IsOurs s made → AreOfOthers r put)
        → Goes offer offer s put [] s
    others_goes s put others = grind (arith, append-nil, others_say)

    -- ---- objects come, change and go

    -- a new object takes a free number and the next serial
    born_watch : (s : Scene U C) (n : ℕ) (x : Object (Kept U)) → held s.store n ≡ None → x.value.serial ≡ s.last_serial + 1
        → (told : List Announced) (made : List Id)
        → Watch offer s told made → Watch offer (record s { store = stored s.store n x; last_serial = s.last_serial + 1 }) told made
    born_watch s n x free serial told made w = grind (arith, stored_here, stored_other, held)

    pub born_goes : (s : Scene U C) (n : ℕ) (x : Object (Kept U)) → held s.store n ≡ None → x.value.serial ≡ s.last_serial + 1
        → Goes offer offer s [] [] (record s { store = stored s.store n x; last_serial = s.last_serial + 1 })
    born_goes s n x free serial = steady s _ refl (born_watch s n x free serial)

    -- an object is written: its serial and its interface stay
    pub rewrote_goes : (s : Scene U C) (n : ℕ) (x y : Object (Kept U)) → held s.store n ≡ Some x → y.value.serial ≡ x.value.serial
        → y.interface ≡ x.interface
        → Goes offer offer s [] [] (record s { store = rewritten s.store n y })
    rewrote_goes s n x y there serial interface =
        steady s _ refl (λ told made w. (grind (arith, rewritten_here, rewritten_other, keeps, serial, interface)))
      where
        keeps : IsKnown s → IsKnown (record s { store = rewritten s.store n y })
        keeps known =
            elim (cases_eq r.number n) [
              | inl same ↦
                  let this : x ≡ known.object = same_Some x known.object (sym there ∙ ap (held s.store) (sym same) ∙ known.holds) in
                  record {
                    listed = known.listed;
                    object = y;
                    holds = rewritten_here s.store n y r.number same;
                    serial = serial ∙ ap (λ (z : Object (Kept U)). z.value.serial) this ∙ known.serial;
                    interface = ap (λ (j : InterfaceId). eqb j.0 registry_id.0) interface
                        ∙ ap (λ (z : Object (Kept U)). eqb z.interface.0 registry_id.0) this ∙ known.interface;
                    positive = known.positive;
                  }
              | inr other ↦ grind (arith, rewritten_other)
            ]

    -- an object gets user data
    pub wrote_goes : (s : Scene U C) (n : ℕ) (x : Object (Kept U)) (u : U) → held s.store n ≡ Some x
        → Goes offer offer s [] [] (record s { store = rewritten s.store n (with_user_data u x) })
    wrote_goes s n x u there = rewrote_goes s n x (with_user_data u x) there refl refl

    -- another object leaves
    pub went_goes : (s : Scene U C) (n : ℕ) (x : Object (Kept U)) → held s.store n ≡ Some x
        → ((told : List Announced) (made : List Id) → Watch offer s told made → IsAmong made r → id_at_number n x ≢ r)
        → Goes offer offer s [] [] (record s { store = removed s.store n; registries = registries_without s.registries n x })
    went_goes s n x there other =
        steady s _ refl (λ told made w. (grind (arith, eqb, registry_id, held, removed, removed_here, removed_other, same_id, filter, among_filter, filter_among, other_id, registries_without)))

    -- ---- actions

    -- a bind is open, or nothing is
    pub set_action_goes : (s : Scene U C) (action : Option OpenAction)
        → ((sender : IdParts) (b : Bool) (created : Option IdParts) → action ≡ Some (opened.Request sender b created) → ⊥)
        → Goes offer offer s [] [] (record s { action = action })
    set_action_goes s action none = steady s _ refl (λ told made w. (grind (arith)))

    -- ---- a registry is made

    -- It takes a free number and the next serial, is told of each global that the client is shown, and is among those that
    -- are told of others from then on.
    module _ (s : Scene U C) (n : ℕ) (x : Object (Kept U)) (free : held s.store n ≡ None) (serial : x.value.serial ≡ s.last_serial + 1)
        (registry : eqb x.interface.0 registry_id.0 ≡ true) where
      abbrev pub new_id : Id
      new_id = record { number = n; serial = s.last_serial + 1 }

      abbrev pub greeting : List Said
      greeting = introductions offer.table new_id 0 (shown views offer.globals client s.client_data)

      pub registers_goes : Goes offer offer s greeting (new_id ∷ [])
          (record s { store = stored s.store n x; last_serial = s.last_serial + 1; registries = s.registries ++ new_id ∷ [] })
      registers_goes = record {
        watch = λ told made live on.
            let w = live on in
            let born = born_watch s n x free serial told made w in
            let others : (new_id ≢ r → announced_over r told greeting ≡ told) =
            λ other. others_say r greeting (greeted_other offer.table r new_id 0 (shown views offer.globals client s.client_data) other) told in
            record {
              bounded = born.bounded;
              listed = λ y among. (grind (arith, w.listed, among_both s.registries (new_id ∷ []) y among));
              open_bounded = born.open_bounded;
              open_other = λ sender b created is among. (grind (arith, w.open_other sender b created is, w.open_bounded sender b created is, among_both made (new_id ∷ []) r among));
              silent =
                  λ later. others (λ same. (let e = ap (λ (i : Id). i.serial) same in omega (arith, later, e))) ∙ w.silent (omega (arith, later));
              unborn = λ later among. (grind (arith, w.unborn, among_both made (new_id ∷ []) r among));
              known = λ among. (grind (arith, born.known, among_first, among_later, stored_here, among_both made (new_id ∷ []) r among));
              tells = λ among. (elim (among_both made (new_id ∷ []) r among) [
                | inl old ↦
                    let known = w.known old in
                    subst (λ (l : List Announced). TellsShown offer s.client_data l)
                    (sym (others (λ same. (let e = ap (λ (i : Id). i.serial) same in omega (arith, w.bounded r.number known.object known.holds, known.serial, e)))))
                    (w.tells old)
                | inr (inr none) ↦ absurd none
                | inr (inl this) ↦
                    subst (λ (l : List Announced). TellsShown offer s.client_data l)
                    (sym (grind (arith, greeting, announced_over, greeted, new_id, shown, shown_of, w.silent)))
                    (record { told = among_shown views client s.client_data offer; tells = shown_among views client s.client_data offer })
              ]);
            };
      }

  -- ---- globals come and go

  module _ {U : Type 0} (offer offer' : Offer G) (s : Scene U C) where
    -- all registries are told of it, each in a message of its own
    pub told_all : (message : Id → Said) → ((y : Id) → sender_of (message y) ≡ y) → (told : List Announced) (made : List Id)
        → (IsAmong s.registries r → TellsShown offer s.client_data told
        → TellsShown offer' s.client_data (announced_over r told (map message s.registries)))
        → Watch offer s told made → Watch offer' s (announced_over r told (map message s.registries)) made
    told_all message by told made tells w = grind (arith, announced_over, map, others_say, told_others)

    -- none is told
    pub told_none : StaysShown views client s.client_data offer offer' → (told : List Announced) (made : List Id) → Watch offer s told made
        → Watch offer' s told made
    told_none stays told made w = record {
      bounded = w.bounded;
      listed = w.listed;
      open_bounded = w.open_bounded;
      open_other = w.open_other;
      silent = w.silent;
      unborn = w.unborn;
      known = w.known;
      tells = λ is. (let h = w.tells is in record { told = λ a there. stays.kept a (h.told a there); tells = λ a shown'. h.tells a (stays.only a shown') });
    }

    -- the client is killed
    pub goes_not : (put : List Said) (regs : List Id) (t : Scene U C) → t.is_killed ≡ true → Goes offer offer' s put regs t
    goes_not put regs t dead = record { watch = λ told made w on. absurd (true≢false (sym dead ∙ on)) }
