-- A table that was extended by whole rows has what each of them says.
use Rattle.std.proofs.Common.{◌≡◌, ◌≢◌, ◌⊎◌, ◌≤◌, ℕ, zero, suc, ◌+◌, ◌∷◌, ◌++◌, [], List, length, drop, Option, Some, None, true, false, Bool, true≢false, ◌||◌, refl, sym, ap, ◌∙◌, arith, cond, eqb, eqb-true, eq-eqb, subst, append_assoc, inl, inr, Result, Ok, Err}
use Rattle.std.specs.Prelude.{slice_get, if◌then◌else◌, option_map, MatchResult}
use Rattle.std.specs.List.{AllByRecursion, list_any, position_from}
use Rattle.std.proofs.Math.ListN.{set}
use Rattle.std.proofs.lemmas.Bool.Decides.{nat_tests}
use Rattle.std.proofs.lemmas.List.{length-append, length-drop}
use Rattle.std.proofs.lemmas.List.Folds.{list_any-append}
use Rattle.std.proofs.lemmas.Bool.{eqb-false}
use Rattle.std.proofs.Math.Seq.{take-append_seam}
use Rattle.std.specs.Option.{option_map_or}
use Rattle.std.proofs.lemmas.Slice.Eq.{bytes_eq-Decides}
use Rattle.std.specs.Str.{bytes_eq}
use Rattle.wl_wire.specs.declared.argument.ArgumentType.{ArgumentType}
use Rattle.wl_wire.specs.declared.interface.InterfaceId.{InterfaceId}
use Rattle.wl_wire.specs.MessageRows.{type_number}
use Rattle.wl_wire.specs.Table.{Extension, Growth, InterfaceRow, LongerRow, MessageRow, NewRows, extended_row, extended_table, is_taken, table_after}
use Rattle.wl_wire.specs.declared.protocol.TableError.{TableError}
use Rattle.wl_wire.specs.declared.protocol.TableError.TheVariants as error
use Rattle.wl_flat.specs.declared.extending.ExtensionFault.{ExtensionFault}
use Rattle.wl_flat.specs.Rows.{fault_of}
use Rattle.wl_flat.specs.Extending.{agree_on, at_event, at_request, children_agree, differ_from, difference, has_more, interfaces_agree, messages_agree, Extends, HasRow, Lengthens, contradiction, contradiction_of, fault_as_told, fault_at, fault_of_row, interface_there, longer_part, part_of, parts_from, parts_of, place_of, rest, told_at, told_of_new, types_agree}

-- ---- the first of a list that passes a test

module _ {X : Type 0} (test : X → Bool) where
  -- the item at that place is the first one that passes
  abbrev pub IsFirstAt : List X → ℕ → X → Type 0
  IsFirstAt [] k y = ⊥
  IsFirstAt (x ∷ xs) zero y = (x ≡ y) × (test x ≡ true)
  IsFirstAt (x ∷ xs) (suc k) y = (test x ≡ false) × IsFirstAt xs k y

  first_found : (n : ℕ) (xs : List X) (k : ℕ) (y : X) → IsFirstAt xs k y → position_from test n xs ≡ Some (n + k)
  first_found n [] k y h = absurd h
  first_found n (x ∷ xs) zero y h = rw h.1 (ap Some (omega arith))
  first_found n (x ∷ xs) (suc k) y h = rw h.0 (first_found (n + 1) xs k y h.1 ∙ ap Some (omega arith))

  first_there : (xs : List X) (k : ℕ) (y : X) → IsFirstAt xs k y → slice_get xs k ≡ Some y
  first_there [] k y h = absurd h
  first_there (x ∷ xs) zero y h = ap Some h.0
  first_there (x ∷ xs) (suc k) y h = first_there xs k y h.1

  first_passes : (xs : List X) (k : ℕ) (y : X) → IsFirstAt xs k y → test y ≡ true
  first_passes [] k y h = absurd h
  first_passes (x ∷ xs) zero y h = subst (λ z. test z ≡ true) h.0 h.1
  first_passes (x ∷ xs) (suc k) y h = first_passes xs k y h.1

  first_before : (xs ys : List X) (k : ℕ) (y : X) → IsFirstAt xs k y → IsFirstAt (xs ++ ys) k y
  first_before [] ys k y h = absurd h
  first_before (x ∷ xs) ys zero y h = h
  first_before (x ∷ xs) ys (suc k) y h = (h.0, first_before xs ys k y h.1)

  first_behind : (xs ys : List X) (y : X) → list_any test xs ≡ false → test y ≡ true → IsFirstAt (xs ++ y ∷ ys) (length xs) y
  first_behind [] ys y none passes = (refl, passes)
  first_behind (x ∷ xs) ys y none passes =
      elim (test x) as (λ b. test x ≡ b → (b || list_any test xs) ≡ false → (test x ≡ false) × IsFirstAt (xs ++ y ∷ ys) (length xs) y) [
        | true ↦ λ e n. absurd (true≢false n)
        | false ↦ λ e n. (e, first_behind xs ys y n passes)
      ] refl none

  first_set : (xs : List X) (k : ℕ) (y z : X) → IsFirstAt xs k y → test z ≡ true → IsFirstAt (set xs k z) k z
  first_set [] k y z h passes = absurd h
  first_set (x ∷ xs) zero y z h passes = (refl, passes)
  first_set (x ∷ xs) (suc k) y z h passes = (h.0, first_set xs k y z h.1 passes)

  first_kept : (xs : List X) (j k : ℕ) (w y z : X) → IsFirstAt xs k y → slice_get xs j ≡ Some w → j ≢ k → test z ≡ test w → IsFirstAt (set xs j z) k y
  first_kept [] j k w y z h at apart same = absurd h
  first_kept (x ∷ xs) zero zero w y z h at apart same = absurd (apart refl)
  first_kept (x ∷ xs) zero (suc k) w y z h at apart same =
      let e : test w ≡ test x = cc in (same ∙ e ∙ h.0, h.1)
  first_kept (x ∷ xs) (suc j) zero w y z h at apart same = h
  first_kept (x ∷ xs) (suc j) (suc k) w y z h at apart same = (h.0, first_kept xs j k w y z h.1 at (λ e. apart (ap suc e)) same)

  found_first : (n : ℕ) (xs : List X) (q : ℕ) → position_from test n xs ≡ Some q → (k : ℕ) × (y : X) × (q ≡ n + k) × IsFirstAt xs k y
  found_first n [] q e = absurd (cc)
  found_first n (x ∷ xs) q e =
      elim (test x) as (λ b. test x ≡ b → cond b (Some n) (position_from test (n + 1) xs) ≡ Some q → (k : ℕ) × (y : X) × (q ≡ n + k) × IsFirstAt (x ∷ xs) k y) [
        | true ↦ λ t f. let i : n ≡ q = cc in (0, x, omega arith, (refl, t))
        | false ↦ λ t f. let r = found_first (n + 1) xs q f in let i = r.2 in (suc r.0, r.1, omega arith, (t, r.3))
      ] refl e

  none_found : (n : ℕ) (xs : List X) → position_from test n xs ≡ None → list_any test xs ≡ false
  none_found n [] e = refl
  none_found n (x ∷ xs) e =
      elim (test x) as (λ b. cond b (Some n) (position_from test (n + 1) xs) ≡ None → (b || list_any test xs) ≡ false) [
        | true ↦ λ f. absurd (cc)
        | false ↦ λ f. none_found (n + 1) xs f
      ] e

-- ---- a row and an interface

same_bytes : (xs : List ℕ) → bytes_eq xs xs ≡ true
same_bytes xs = (bytes_eq-Decides xs xs).1 refl

agree_same : (i : InterfaceId) → agree_on i i ≡ true
agree_same i = rw (eq-eqb i.0 i.0 refl) refl

types_same : (ts : List ArgumentType) → types_agree ts ts ≡ true
types_same [] = refl
types_same (t ∷ ts) = rw (eq-eqb (type_number t) (type_number t) refl) (types_same ts)

interfaces_same : (is : List InterfaceId) → interfaces_agree is is ≡ true
interfaces_same [] = refl
interfaces_same (i ∷ is) = rw (agree_same i) (interfaces_same is)

children_same : (c : Option InterfaceId) → children_agree c c ≡ true
children_same (Some i) = agree_same i
children_same None = refl

messages_same : (m : MessageRow) → messages_agree m m ≡ true
messages_same m =
    rw (same_bytes m.name, eq-eqb m.since m.since refl, types_same m.signature, children_same m.child_interface, interfaces_same m.arg_interfaces) refl

differ_same : (n : ℕ) (ms : List MessageRow) → differ_from n ms ms ≡ None
differ_same n [] = refl
differ_same n (m ∷ ms) = rw (messages_same m) (differ_same (n + 1) ms)

differ_nil : (n : ℕ) (there : List MessageRow) → differ_from n there [] ≡ None
differ_nil n [] = refl
differ_nil n (m ∷ there) = refl

-- messages behind a front that has all of them change nothing
differ_append : (n : ℕ) (there more said : List MessageRow) → length said ≤ length there → differ_from n there said ≡ None → differ_from n (there ++ more) said ≡ None
differ_append n [] more [] h e = differ_nil n more
differ_append n [] more (k ∷ said) h e = absurd (omega arith)
differ_append n (m ∷ there) more [] h e = refl
differ_append n (m ∷ there) more (k ∷ said) h e =
    elim (messages_agree m k) as (λ b. (if b then differ_from (n + 1) there said else Some n) ≡ None → (if b then differ_from (n + 1) (there ++ more) said else Some n) ≡ None) [
      | true ↦ λ f. differ_append (n + 1) there more said (omega arith) f
      | false ↦ λ f. absurd (cc)
    ] e

-- with the rest behind them they are the same
differ_rest : (n : ℕ) (there said : List MessageRow) → differ_from n there said ≡ None → differ_from n (there ++ drop (length there) said) said ≡ None
differ_rest n [] said e = differ_same n said
differ_rest n (m ∷ there) [] e = refl
differ_rest n (m ∷ there) (k ∷ said) e =
    elim (messages_agree m k) as (λ b. (if b then differ_from (n + 1) there said else Some n) ≡ None → (if b then differ_from (n + 1) (there ++ drop (length there) said) said else Some n) ≡ None) [
      | true ↦ λ f. differ_rest (n + 1) there said f
      | false ↦ λ f. absurd (cc)
    ] e

-- the interface has all that the row says
pub record Covers (there said : InterfaceRow) : Type 0 where
  pub requests : differ_from 0 there.requests said.requests ≡ None
  pub events : differ_from 0 there.events said.events ≡ None
  pub version : said.version ≤ there.version
  pub all_requests : length said.requests ≤ length there.requests
  pub all_events : length said.events ≤ length there.events

agrees_parts : (there said : InterfaceRow) → difference there said ≡ None → (differ_from 0 there.requests said.requests ≡ None) × (differ_from 0 there.events said.events ≡ None)
agrees_parts there said e =
    elim (differ_from 0 there.requests said.requests) as (λ o. differ_from 0 there.requests said.requests ≡ o → (differ_from 0 there.requests said.requests ≡ None) × (differ_from 0 there.events said.events ≡ None)) [
      | Some k ↦ λ f. let g : difference there said ≡ Some (at_request k) = rw (difference, f) refl in absurd (cc)
      | None ↦ λ f. elim (differ_from 0 there.events said.events) as (λ o. differ_from 0 there.events said.events ≡ o → (differ_from 0 there.requests said.requests ≡ None) × (differ_from 0 there.events said.events ≡ None)) [
        | Some k ↦ λ g. let h : difference there said ≡ Some (at_event k) = rw (difference, f, g) refl in absurd (cc)
        | None ↦ λ g. (f, g)
      ] refl
    ] refl

covers_all : (there said : InterfaceRow) → difference there said ≡ None → has_more there said ≡ false → Covers there said
covers_all there said e f =
    let d = agrees_parts there said e in
    record {
      requests = d.0;
      events = d.1;
      version = grind (arith, nat_tests, f);
      all_requests = grind (arith, nat_tests, f);
      all_events = grind (arith, nat_tests, f);
    }

pub covered_agrees : (there said : InterfaceRow) → Covers there said → difference there said ≡ None
covered_agrees there said c = rw (difference, c.requests, c.events) refl

pub covered_whole : (there said : InterfaceRow) → Covers there said → has_more there said ≡ false
covered_whole there said c = grind (arith, nat_tests, c.version, c.all_requests, c.all_events)

covers_same : (row : InterfaceRow) → Covers row row
covers_same row = record { requests = differ_same 0 row.requests; events = differ_same 0 row.events; version = omega arith; all_requests = omega arith; all_events = omega arith }

covers_extended : (more : Extension) (there said : InterfaceRow) → Covers there said → Covers (extended_row more there) said
covers_extended more there said c =
    let r = length-append there.requests more.requests in
    let e = length-append there.events more.events in
    let cr = c.all_requests in let ce = c.all_events in let v = c.version in
    record {
      requests = differ_append 0 there.requests more.requests said.requests c.all_requests c.requests;
      events = differ_append 0 there.events more.events said.events c.all_events c.events;
      version = omega arith;
      all_requests = omega arith;
      all_events = omega arith;
    }

covers_rest : (p : ℕ) (there said : InterfaceRow) → difference there said ≡ None → Covers (extended_row (rest p there said) there) said
covers_rest p there said d =
    let a = agrees_parts there said d in
    let r = length-append there.requests (drop (length there.requests) said.requests) in
    let e = length-append there.events (drop (length there.events) said.events) in
    let rd = length-drop (length there.requests) said.requests in
    let ed = length-drop (length there.events) said.events in
    record {
      requests = differ_rest 0 there.requests said.requests a.0;
      events = differ_rest 0 there.events said.events a.1;
      version = omega arith;
      all_requests = omega arith;
      all_events = omega arith;
    }

-- ---- a table that has what a row says

abbrev is_named : List ℕ → InterfaceRow → Bool
is_named name row = bytes_eq name row.name

record HasAt (table : List InterfaceRow) (said : InterfaceRow) : Type 0 where
  place : ℕ
  there : InterfaceRow
  first : IsFirstAt (is_named said.name) table place there
  covers : Covers there said

has_row : (table : List InterfaceRow) (said : InterfaceRow) → HasAt table said → HasRow table said
has_row table said h =
    let p : place_of table said.name ≡ Some h.place = first_found (is_named said.name) 0 table h.place h.there h.first ∙ ap Some (omega arith) in
    record {
      there = h.there;
      found = rw (interface_there, p) (first_there (is_named said.name) table h.place h.there h.first);
      agrees = covered_agrees h.there said h.covers;
      whole = covered_whole h.there said h.covers;
    }

has_extended : (table : List InterfaceRow) (more : Extension) (said : InterfaceRow) → HasAt table said → HasAt (extended_table table more) said
has_extended table more said h =
    elim (slice_get table more.place) as (λ o. slice_get table more.place ≡ o → HasAt (option_map_or (λ row. set table more.place (extended_row more row)) o table) said) [
      | None ↦ λ e. h
      | Some row ↦ λ e. elim (eqb more.place h.place) as (λ b. eqb more.place h.place ≡ b → HasAt (set table more.place (extended_row more row)) said) [
        | true ↦ λ same.
            let p : more.place ≡ h.place = eqb-true more.place h.place same in
            let t : slice_get table h.place ≡ Some h.there = first_there (is_named said.name) table h.place h.there h.first in
            let r : row ≡ h.there = cc in
            let f = first_set (is_named said.name) table h.place h.there (extended_row more h.there) h.first (first_passes (is_named said.name) table h.place h.there h.first) in
            record { place = h.place; there = extended_row more h.there; first = rw (p, r) f; covers = covers_extended more h.there said h.covers }
        | false ↦ λ apart. record {
          place = h.place;
          there = h.there;
          first = first_kept (is_named said.name) table more.place h.place row h.there (extended_row more row) h.first e (eqb-false more.place h.place apart) refl;
          covers = h.covers;
        }
      ] refl
    ] refl

-- ---- a row that the table is still to take

-- The interface of its name, which is as it was, lacks something of the row.
record Waits (table now : List InterfaceRow) (said : InterfaceRow) : Type 0 where
  place : ℕ
  there : InterfaceRow
  was : IsFirstAt (is_named said.name) table place there
  is : IsFirstAt (is_named said.name) now place there
  agrees : difference there said ≡ None
  lacks : has_more there said ≡ true

-- The table has what the row says, and takes no part of it.
record Settled (table now : List InterfaceRow) (said : InterfaceRow) : Type 0 where
  has : HasAt now said
  nothing : (at : ℕ) → (part_of table at said).longer ≡ []

abbrev Ready : List InterfaceRow → List InterfaceRow → InterfaceRow → Type 0
Ready table now said = Settled table now said ⊎ Waits table now said

part_that_waits : (table now : List InterfaceRow) (said : InterfaceRow) (w : Waits table now said) (at : ℕ) → (part_of table at said).longer ≡ (at, rest w.place w.there said) ∷ []
part_that_waits table now said w at =
    let p : place_of table said.name ≡ Some w.place = first_found (is_named said.name) 0 table w.place w.there w.was ∙ ap Some (omega arith) in
    let t = first_there (is_named said.name) table w.place w.there w.was in
    rw (part_of, p, t, longer_part, w.lacks) refl

longer_there : (table now : List InterfaceRow) (said : InterfaceRow) (w : Waits table now said)
    → extended_table now (rest w.place w.there said) ≡ set now w.place (extended_row (rest w.place w.there said) w.there)
longer_there table now said w = rw (extended_table, first_there (is_named said.name) now w.place w.there w.is) refl

has_longer : (table now : List InterfaceRow) (said : InterfaceRow) (w : Waits table now said) → HasAt (extended_table now (rest w.place w.there said)) said
has_longer table now said w =
    let more = rest w.place w.there said in
    let f = first_set (is_named said.name) now w.place w.there (extended_row more w.there) w.is (first_passes (is_named said.name) now w.place w.there w.is) in
    record {
      place = w.place;
      there = extended_row more w.there;
      first = rw (longer_there table now said w) f;
      covers = covers_rest w.place w.there said w.agrees;
    }

-- two names, two places
other_place : (table now : List InterfaceRow) (said other : InterfaceRow) (w : Waits table now said) (v : Waits table now other) → bytes_eq other.name said.name ≡ false → w.place ≢ v.place
other_place table now said other w v apart e =
    let a = first_there (is_named said.name) table w.place w.there w.was in
    let b = first_there (is_named other.name) table v.place v.there v.was in
    let c : w.there ≡ v.there = cc in
    let p : said.name ≡ w.there.name = (bytes_eq-Decides said.name w.there.name).0 (first_passes (is_named said.name) table w.place w.there w.was) in
    let q : other.name ≡ v.there.name = (bytes_eq-Decides other.name v.there.name).0 (first_passes (is_named other.name) table v.place v.there v.was) in
    let n : other.name ≡ said.name = cc in
    true≢false (sym ((bytes_eq-Decides other.name said.name).1 n) ∙ apart)

still_ready : (table now : List InterfaceRow) (said other : InterfaceRow) (w : Waits table now said) → bytes_eq other.name said.name ≡ false
    → Ready table now other → Ready table (extended_table now (rest w.place w.there said)) other
still_ready table now said other w apart (inl d) = inl (record { has = has_extended now (rest w.place w.there said) other d.has; nothing = d.nothing })
still_ready table now said other w apart (inr v) =
    let more = rest w.place w.there said in
    let k = first_kept (is_named other.name) now w.place v.place w.there v.there (extended_row more w.there) v.is (first_there (is_named said.name) now w.place w.there w.is) (other_place table now said other w v apart) refl in
    inr (record { place = v.place; there = v.there; was = v.was; is = rw (longer_there table now said w) k; agrees = v.agrees; lacks = v.lacks })

all_still_ready : (table now : List InterfaceRow) (said : InterfaceRow) (w : Waits table now said) (rows : List InterfaceRow)
    → AllByRecursion (λ other. bytes_eq other.name said.name ≡ false) rows → AllByRecursion (Ready table now) rows
    → AllByRecursion (Ready table (extended_table now (rest w.place w.there said))) rows
all_still_ready table now said w [] apart ready = tt
all_still_ready table now said w (other ∷ rows) apart ready =
    (still_ready table now said other w apart.0 ready.0, all_still_ready table now said w rows apart.1 ready.1)

-- the answer of a table that has taken all
abbrev taken : Result (Unit {0}) ExtensionFault
taken = Ok tt

pub no_fault : {P : Type 0} (f : ExtensionFault) → taken ≡ Err f → P
no_fault f e = absurd (cc)

-- ---- rows with names of their own

abbrev HaveOwnNames : List InterfaceRow → Type 0
HaveOwnNames [] = Unit {0}
HaveOwnNames (said ∷ rows) = AllByRecursion (λ other. bytes_eq other.name said.name ≡ false) rows × HaveOwnNames rows

module _ {S : Type 0} (Grows : S → Growth → Result (Unit {0}) TableError → S → Type 0) (table_of : S → List InterfaceRow)
    (follows : (s : S) (g : Growth) (u : Unit {0}) (t : S) → Grows s g (Ok u) t → table_of t ≡ table_after (table_of s) g (Ok u)) where
  still_has : (longer : List (ℕ × Extension)) (s after : S) (said : InterfaceRow) → Lengthens Grows s longer taken after → HasAt (table_of s) said → HasAt (table_of after) said
  still_has [] s after said l h = subst (λ t. HasAt (table_of t) said) (sym l.1) h
  still_has (more ∷ others) s after said l h =
      elim l.1 as (λ a. Grows s (LongerRow more.1) a l.0 → MatchResult a (λ _. Lengthens Grows l.0 others taken after) (λ e. (taken ≡ Err (told_at more.0 (fault_of e))) × (after ≡ l.0)) → HasAt (table_of after) said) [
        | Ok u ↦ λ g m. still_has others l.0 after said m (subst (λ t. HasAt t said) (sym (follows s (LongerRow more.1) u l.0 g)) (has_extended (table_of s) more.1 said h))
        | Err e ↦ λ g m. no_fault (told_at more.0 (fault_of e)) m.0
      ] l.2 l.3

  all_have : (table rows : List InterfaceRow) (at : ℕ) (s after : S) → AllByRecursion (Ready table (table_of s)) rows → HaveOwnNames rows
      → Lengthens Grows s (parts_from table at rows).longer taken after → AllByRecursion (HasAt (table_of after)) rows
  all_have table [] at s after ready apart l = tt
  all_have table (said ∷ rows) at s after ready apart l =
      let others = (parts_from table (at + 1) rows).longer in
      elim ready.0 [
        | inl d ↦
            let l' : Lengthens Grows s others taken after = subst (λ (k : List (ℕ × Extension)). Lengthens Grows s (k ++ others) taken after) (d.nothing at) l in
            (still_has others s after said l' d.has, all_have table rows (at + 1) s after ready.1 apart.1 l')
        | inr w ↦
            let more = rest w.place w.there said in
            let l' : Lengthens Grows s ((at, more) ∷ others) taken after = subst (λ (k : List (ℕ × Extension)). Lengthens Grows s (k ++ others) taken after) (part_that_waits table (table_of s) said w at) l in
            elim l'.1 as (λ a. Grows s (LongerRow more) a l'.0 → MatchResult a (λ _. Lengthens Grows l'.0 others taken after) (λ e. (taken ≡ Err (told_at at (fault_of e))) × (after ≡ l'.0)) → AllByRecursion (HasAt (table_of after)) (said ∷ rows)) [
              | Ok u ↦ λ g m.
                  let t : table_of l'.0 ≡ extended_table (table_of s) more = follows s (LongerRow more) u l'.0 g in
                  let has = subst (λ t. HasAt t said) (sym t) (has_longer table (table_of s) said w) in
                  let ready' = subst (λ t. AllByRecursion (Ready table t) rows) (sym t) (all_still_ready table (table_of s) said w rows apart.0 ready.1) in
                  (still_has others l'.0 after said m has, all_have table rows (at + 1) l'.0 after ready' apart.1 m)
              | Err e ↦ λ g m. no_fault (told_at at (fault_of e)) m.0
            ] l'.2 l'.3
      ]

-- ---- rows that agree with the table

or_parts : (a b : Bool) → (a || b) ≡ false → (a ≡ false) × (b ≡ false)
or_parts true b e = absurd (true≢false e)
or_parts false b e = (refl, e)

get_seam : (front behind : List InterfaceRow) (x : InterfaceRow) → slice_get (front ++ x ∷ behind) (length front) ≡ Some x
get_seam [] behind x = refl
get_seam (y ∷ front) behind x = get_seam front behind x

no_contradiction : (at : ℕ) (there : InterfaceRow) (said : InterfaceRow) → option_map (contradiction at there) (difference there said) ≡ None → difference there said ≡ None
no_contradiction at there said e =
    elim (difference there said) as (λ o. option_map (contradiction at there) o ≡ None → o ≡ None) [
      | Some d ↦ λ f. absurd (cc)
      | None ↦ λ f. refl
    ] e

module _ (table : List InterfaceRow) where
  -- each row behind the front has a name of its own and does not contradict the table
  abbrev Fit : List InterfaceRow → List InterfaceRow → Type 0
  Fit front [] = Unit {0}
  Fit front (said ∷ rows) = (is_taken front said.name ≡ false) × (contradiction_of table (length front) said ≡ None) × Fit (front ++ said ∷ []) rows

  one_fits : (front : List InterfaceRow) (at : ℕ) (said : InterfaceRow) → fault_of_row table front at said ≡ None → (is_taken front said.name ≡ false) × (contradiction_of table at said ≡ None)
  one_fits front at said e =
      elim (is_taken front said.name) as (λ b. (if b then Some (fault_as_told (fault_of (error.DuplicateName at))) else contradiction_of table at said) ≡ None → (b ≡ false) × (contradiction_of table at said ≡ None)) [
        | true ↦ λ f. absurd (cc)
        | false ↦ λ f. (refl, f)
      ] e

  all_fit : (front rows : List InterfaceRow) → ((at : ℕ) → fault_at table (front ++ rows) at ≡ None) → Fit front rows
  all_fit front [] h = tt
  all_fit front (said ∷ rows) h =
      let t = take-append_seam front (said ∷ rows) in
      let g = get_seam front rows said in
      let k : fault_of_row table front (length front) said ≡ None = rw (fault_at, t, g) at (h (length front)) in
      let o = one_fits front (length front) said k in
      let a = append_assoc front (said ∷ []) rows in
      (o.0, o.1, all_fit (front ++ said ∷ []) rows (λ at. rw a (h at)))

  taken_front : (front : List InterfaceRow) (x : InterfaceRow) (name : List ℕ) → is_taken (front ++ x ∷ []) name ≡ false → (is_taken front name ≡ false) × (bytes_eq name x.name ≡ false)
  taken_front front x name e =
      let a = list_any-append (is_named name) front (x ∷ []) in
      let o = or_parts (is_taken front name) (is_taken (x ∷ []) name) (sym a ∙ e) in
      (o.0, (or_parts (bytes_eq name x.name) false o.1).0)

  apart_from : (front rows : List InterfaceRow) (said : InterfaceRow) → ((name : List ℕ) → is_taken front name ≡ false → bytes_eq name said.name ≡ false) → Fit front rows
      → AllByRecursion (λ other. bytes_eq other.name said.name ≡ false) rows
  apart_from front [] said among fit = tt
  apart_from front (other ∷ rows) said among fit =
      (among other.name fit.0, apart_from (front ++ other ∷ []) rows said (λ name e. among name (taken_front front other name e).0) fit.2)

  own_names : (front rows : List InterfaceRow) → Fit front rows → HaveOwnNames rows
  own_names front [] fit = tt
  own_names front (said ∷ rows) fit =
      (apart_from (front ++ said ∷ []) rows said (λ name e. (taken_front front said name e).1) fit.2, own_names (front ++ said ∷ []) rows fit.2)

  -- what a row is after the new ones were added
  ready_new : (new behind : List InterfaceRow) (said : InterfaceRow) → place_of table said.name ≡ None → is_taken new said.name ≡ false → Settled table (table ++ (new ++ said ∷ behind)) said
  ready_new new behind said none free =
      let a = append_assoc table new (said ∷ behind) in
      let t = none_found (is_named said.name) 0 table none in
      let f : list_any (is_named said.name) (table ++ new) ≡ false = list_any-append (is_named said.name) table new ∙ rw (t, free) refl in
      record {
        has = record {
          place = length (table ++ new);
          there = said;
          first = subst (λ now. IsFirstAt (is_named said.name) now (length (table ++ new)) said) a (first_behind (is_named said.name) (table ++ new) behind said f (same_bytes said.name));
          covers = covers_same said;
        };
        nothing = λ at. rw (part_of, none) refl;
      }

  ready_old : (added : List InterfaceRow) (said : InterfaceRow) (at p : ℕ) → place_of table said.name ≡ Some p → contradiction_of table at said ≡ None
      → Ready table (table ++ added) said × ((part_of table at said).new_rows ≡ [])
  ready_old added said at p e c =
      let f = found_first (is_named said.name) 0 table p e in
      let k = f.0 in
      let there = f.1 in
      let z = f.2 in
      let i : p ≡ k = omega arith in
      let t : slice_get table p ≡ Some there = ap (λ n. slice_get table n) i ∙ first_there (is_named said.name) table k there f.3 in
      let d : difference there said ≡ None = no_contradiction at there said (rw (contradiction_of, interface_there, e, t) at c) in
      let now = first_before (is_named said.name) table added k there f.3 in
      elim (has_more there said) as (λ b. has_more there said ≡ b → Ready table (table ++ added) said × ((part_of table at said).new_rows ≡ [])) [
        | true ↦ λ more. (inr (record { place = k; there = there; was = f.3; is = now; agrees = d; lacks = more }), rw (part_of, e, t, longer_part, more) refl)
        | false ↦ λ whole. (
          inl (record {
            has = record { place = k; there = there; first = now; covers = covers_all there said d whole };
            nothing = λ at. rw (part_of, e, t, longer_part, whole) refl;
          }),
          rw (part_of, e, t, longer_part, whole) refl,
        )
      ] refl

  all_ready : (front new rows : List InterfaceRow) → ((name : List ℕ) → is_taken front name ≡ false → is_taken new name ≡ false) → Fit front rows
      → AllByRecursion (Ready table (table ++ (new ++ (parts_from table (length front) rows).new_rows))) rows
  all_ready front new [] among fit = tt
  all_ready front new (said ∷ rows) among fit =
      let at = length front in
      let others = (parts_from table (at + 1) rows).new_rows in
      let l : length (front ++ said ∷ []) ≡ at + 1 = length-append front (said ∷ []) in
      elim (place_of table said.name) as (λ o. place_of table said.name ≡ o → AllByRecursion (Ready table (table ++ (new ++ ((part_of table at said).new_rows ++ others)))) (said ∷ rows)) [
        | None ↦ λ none.
            let p : (part_of table at said).new_rows ≡ said ∷ [] = rw (part_of, none) refl in
            let r = all_ready (front ++ said ∷ []) (new ++ said ∷ []) rows (λ name e. let o = taken_front front said name e in list_any-append (is_named name) new (said ∷ []) ∙ rw (among name o.0, o.1) refl) fit.2 in
            let r' : AllByRecursion (Ready table (table ++ (new ++ (said ∷ others)))) rows = subst (λ k. AllByRecursion (Ready table (table ++ k)) rows) (append_assoc new (said ∷ []) others) (rw l at r) in
            subst (λ (k : List InterfaceRow). AllByRecursion (Ready table (table ++ (new ++ (k ++ others)))) (said ∷ rows)) (sym p) (inl (ready_new new others said none (among said.name fit.0)), r')
        | Some q ↦ λ some.
            let o = ready_old (new ++ others) said at q some fit.1 in
            let r = all_ready (front ++ said ∷ []) new rows (λ name e. among name (taken_front front said name e).0) fit.2 in
            subst (λ (k : List InterfaceRow). AllByRecursion (Ready table (table ++ (new ++ (k ++ others)))) (said ∷ rows)) (sym o.1) (o.0, rw l at r)
      ] refl

-- ---- all rows

all_rows : (table rows : List InterfaceRow) → AllByRecursion (HasAt table) rows → AllByRecursion (HasRow table) rows
all_rows table [] h = tt
all_rows table (said ∷ rows) h = (has_row table said h.0, all_rows table rows h.1)

module _ {S : Type 0} (Grows : S → Growth → Result (Unit {0}) TableError → S → Type 0) (table_of : S → List InterfaceRow)
    (follows : (s : S) (g : Growth) (u : Unit {0}) (t : S) → Grows s g (Ok u) t → table_of t ≡ table_after (table_of s) g (Ok u)) where
  pub rows_are_there : (rows : List InterfaceRow) (before after : S) → Extends Grows (table_of before) rows before taken after → AllByRecursion (HasRow (table_of after)) rows
  rows_are_there rows before after (inl h) = no_fault h.0 h.2
  rows_are_there rows before after (inr (inl h)) = no_fault (fault_as_told (fault_of error.OutOfMemory)) h.1
  rows_are_there rows before after (inr (inr h)) =
      let table = table_of before in
      let fit = all_fit table [] rows h.0 in
      let k = h.1 in
      elim k.1 as (λ a. Grows before (NewRows (parts_of table rows).new_rows) a k.0
      → MatchResult a (λ _. Lengthens Grows k.0 (parts_of table rows).longer taken after) (λ e. (taken ≡ Err (told_of_new (parts_of table rows).new_at (fault_of e))) × (after ≡ k.0))
      → AllByRecursion (HasRow (table_of after)) rows) [
        | Ok u ↦ λ g m.
            let t : table_of k.0 ≡ table ++ (parts_of table rows).new_rows = follows before (NewRows (parts_of table rows).new_rows) u k.0 g in
            let r = all_ready table [] [] rows (λ name e. e) fit in
            let have = all_have Grows table_of follows table rows 0 k.0 after (subst (λ now. AllByRecursion (Ready table now) rows) (sym t) r) (own_names table [] rows fit) m in
            all_rows (table_of after) rows have
        | Err e ↦ λ g m. no_fault (told_of_new (parts_of table rows).new_at (fault_of e)) m.0
      ] k.2 k.3
