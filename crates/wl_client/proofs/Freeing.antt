-- What comes of handing out an id of an object that left its number.
use Rattle.std.proofs.Common.{◌≡◌, ◌≢◌, ◌==◌, ℕ, Bool, true, false, cond, ◌&&◌, List, [], ◌∷◌, ◌++◌, Option, None, Some, is_some, refl, sym, ap, ap₂, subst, ◌∙◌, true≢false}
use Rattle.std.proofs.lemmas.Bool.{eq-eqb, ne_eqb}
use Rattle.std.specs.Option.{option_to_list}
use Rattle.wl_client.specs.Freeing.{HandsFreed, kept_freed, with_freed}
use Rattle.wl_client.specs.ObjectId.{IdParts}
use Rattle.wl_client.specs.Plain.Calls.{SetsKeepingFreed, TakesFreed}
use Rattle.wl_client.specs.Session.{SessionState}

and_false : (b : Bool) → (b && false) ≡ false
and_false true = refl
and_false false = refl

none_told : (ids : List IdParts) (id : Option IdParts) → with_freed false ids id ≡ ids
none_told ids None = refl
none_told ids (Some id) = refl

-- which id it is matters only while they are kept
pub told_alike : (keeps : Bool) (ids : List IdParts) (id other : Option IdParts) → (keeps ≡ true → id ≡ other) → with_freed keeps ids id ≡ with_freed keeps ids other
told_alike true ids id other same = ap (λ (i : Option IdParts). with_freed true ids i) (same refl)
told_alike false ids id other same = none_told ids id ∙ sym (none_told ids other)

-- a new object has the next serial: then the object that had its number is told, and else none
pub told_by : (keeps : Bool) (ids : List IdParts) (taken other : Option IdParts) (before after : ℕ) → (keeps ≡ true → taken ≡ other) → after ≢ before
    → with_freed keeps ids taken ≡ with_freed keeps ids (cond (after == before) None other)
told_by keeps ids taken other before after same differ =
    told_alike keeps ids taken other same ∙ ap (λ (b : Bool). with_freed keeps ids (cond b None other)) (sym (ne_eqb after before differ))

pub told_none : (keeps : Bool) (ids : List IdParts) (other : Option IdParts) (before after : ℕ) → after ≡ before
    → ids ≡ with_freed keeps ids (cond (after == before) None other)
told_none keeps ids other before after same = ap (λ (b : Bool). with_freed keeps ids (cond b None other)) (sym (eq-eqb after before same))

module _ {T U : Type 0} where
  -- it was the first that waited, and nothing else changes
  abbrev pub IsFirst : SessionState T U → Option IdParts → SessionState T U → Type 0
  IsFirst s id after = (after ≡ record s { freed = after.freed }) × (s.freed ≡ option_to_list id ++ after.freed)

  hands : (ids : List IdParts) (s : SessionState T U) (id : Option IdParts) (after : SessionState T U) → s.freed ≡ ids → HandsFreed ids s id after → IsFirst s id after
  hands [] s id after waits (is, same) = (
    same ∙ ap (λ f. record s { freed = f }) (sym (ap (λ (a : SessionState T U). a.freed) same)),
    sym (ap₂ (λ (out others : List IdParts). out ++ others) (ap option_to_list is) (ap (λ (a : SessionState T U). a.freed) same)),
  )
  hands (first ∷ ids) s id after waits (is, same) = (
    same ∙ ap (λ f. record s { freed = f }) (sym (ap (λ (a : SessionState T U). a.freed) same)),
    waits ∙ sym (ap₂ (λ (out others : List IdParts). out ++ others) (ap option_to_list is) (ap (λ (a : SessionState T U). a.freed) same)),
  )

  pub hands_freed : (s : SessionState T U) (id : Option IdParts) (after : SessionState T U) → HandsFreed s.freed s id after → IsFirst s id after
  hands_freed s id after h = hands s.freed s id after refl h

  -- so it is what a program finds
  takes : (ids : List IdParts) (s : SessionState T U) (id : Option IdParts) (after : SessionState T U) → s.freed ≡ ids → HandsFreed ids s id after → TakesFreed s id after
  takes [] s id after waits (is, same) = record {
    taken = (hands [] s id after waits (is, same)).1;
    none = λ e. waits;
    kept = ap (λ (a : SessionState T U). a.keeps_freed) same;
    objects = ap (λ (a : SessionState T U). a.store) same;
    notes = ap (λ (a : SessionState T U). a.notes) same;
    link = ap (λ (a : SessionState T U). a.link) same;
    rest = (
      ap (λ (a : SessionState T U). a.open_event) same,
      ap (λ (a : SessionState T U). a.error) same,
      ap (λ (a : SessionState T U). a.table) same,
      ap (λ (a : SessionState T U). a.last_serial) same,
    );
    passes_over = ap (λ (a : SessionState T U). a.passes_over) same;
  }
  takes (first ∷ ids) s id after waits (is, same) = record {
    taken = (hands (first ∷ ids) s id after waits (is, same)).1;
    none = λ e. absurd (true≢false (ap is_some (sym is ∙ e)));
    kept = ap (λ (a : SessionState T U). a.keeps_freed) same;
    objects = ap (λ (a : SessionState T U). a.store) same;
    notes = ap (λ (a : SessionState T U). a.notes) same;
    link = ap (λ (a : SessionState T U). a.link) same;
    rest = (
      ap (λ (a : SessionState T U). a.open_event) same,
      ap (λ (a : SessionState T U). a.error) same,
      ap (λ (a : SessionState T U). a.table) same,
      ap (λ (a : SessionState T U). a.last_serial) same,
    );
    passes_over = ap (λ (a : SessionState T U). a.passes_over) same;
  }

  pub takes_freed : (s : SessionState T U) (id : Option IdParts) (after : SessionState T U) → HandsFreed s.freed s id after → TakesFreed s id after
  takes_freed s id after h = takes s.freed s id after refl h

  -- and so it is after the setting
  pub sets_keeping : (s : SessionState T U) (keeps : Bool) (after : SessionState T U) → after ≡ kept_freed s keeps → SetsKeepingFreed s keeps after
  sets_keeping s keeps after same =
      subst (λ (t : SessionState T U). SetsKeepingFreed s keeps t) (sym same)
      (record {
        set = refl;
        kept = λ on go. ap₂ (λ (a b : Bool). cond (a && b) s.freed []) go on;
        begun = λ off. ap (λ (b : Bool). cond (keeps && b) s.freed []) off ∙ ap (λ (b : Bool). cond b s.freed []) (and_false keeps);
        ended = λ off. ap (λ (b : Bool). cond (b && s.keeps_freed) s.freed []) off;
        objects = refl;
        notes = refl;
        link = refl;
        rest = (refl, refl, refl, refl);
        passes_over = refl;
      })

  -- it has one outcome
  pub hands_one : (ids : List IdParts) (s : SessionState T U) (id other : Option IdParts) (x y : SessionState T U) → HandsFreed ids s id x → HandsFreed ids s other y
      → (id ≡ other) × (x ≡ y)
  hands_one [] s id other x y (is, same) (is', same') = (is ∙ sym is', same ∙ sym same')
  hands_one (first ∷ ids) s id other x y (is, same) (is', same') = (is ∙ sym is', same ∙ sym same')
