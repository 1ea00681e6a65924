-- A table that takes whole rows keeps what it has.
use Rattle.std.proofs.Common.{◌≡◌, ◌≢◌, ℕ, zero, suc, ◌∷◌, ◌++◌, [], List, length, take, Some, None, true, false, refl, sym, ap, ◌∙◌, arith, eqb, eqb-true, subst, Result, Ok, Err, inl, inr}
use Rattle.std.specs.Prelude.{slice_get, MatchResult}
use Rattle.std.proofs.Math.ListN.{set}
use Rattle.std.proofs.Math.Seq.{take-append_seam}
use Rattle.std.proofs.lemmas.Bool.{eqb-false}
use Rattle.std.proofs.lemmas.Grind.{common_steps}
use Rattle.std.specs.Option.{option_map_or}
use Rattle.wl_wire.specs.declared.protocol.TableError.{TableError}
use Rattle.wl_wire.specs.Table.{Extension, Growth, InterfaceRow, LongerRow, MessageRow, NewRows, extended_row, extended_table, table_after}
use Rattle.wl_flat.specs.declared.extending.ExtensionFault.{ExtensionFault}
use Rattle.wl_flat.specs.Extending.{Extends, GoesOn, KeepsInterfaces, Lengthens, parts_of, told_at, told_of_new}
use Rattle.wl_flat.specs.Rows.{fault_of}

goes_on-same : (row : InterfaceRow) → GoesOn row row
goes_on-same row = record { name = refl; version = omega arith; requests = grind (arith, common_steps); events = grind (arith, common_steps) }

front_of_front : (a b c : List MessageRow) → take (length a) b ≡ a → take (length b) c ≡ b → take (length a) c ≡ a
front_of_front [] b c e f = refl
front_of_front (x ∷ a) [] c e f = absurd (cc)
front_of_front (x ∷ a) (y ∷ b) [] e f = absurd (cc)
front_of_front (x ∷ a) (y ∷ b) (z ∷ c) e f = grind (arith, common_steps, front_of_front a b c)

goes_on-on : (a b c : InterfaceRow) → GoesOn a b → GoesOn b c → GoesOn a c
goes_on-on a b c p q =
    let v = p.version in let w = q.version in
    record {
      name = q.name ∙ p.name;
      version = omega arith;
      requests = front_of_front a.requests b.requests c.requests p.requests q.requests;
      events = front_of_front a.events b.events c.events p.events q.events;
    }

goes_on-extended : (more : Extension) (row : InterfaceRow) → GoesOn row (extended_row more row)
goes_on-extended more row = record {
  name = refl;
  version = omega arith;
  requests = take-append_seam row.requests more.requests;
  events = take-append_seam row.events more.events;
}

pub keeps-same : (table : List InterfaceRow) → KeepsInterfaces table table
keeps-same table place was at = (was, at, goes_on-same was)

keeps-on : (a b c : List InterfaceRow) → KeepsInterfaces a b → KeepsInterfaces b c → KeepsInterfaces a c
keeps-on a b c p q place was at =
    let one = p place was at in
    let two = q place one.0 one.1 in
    (two.0, two.1, goes_on-on was one.0 two.0 one.2 two.2)

get_before : (table rows : List InterfaceRow) (place : ℕ) (row : InterfaceRow) → slice_get table place ≡ Some row → slice_get (table ++ rows) place ≡ Some row
get_before [] rows place row at = absurd (cc)
get_before (x ∷ table) rows zero row at = at
get_before (x ∷ table) rows (suc place) row at = get_before table rows place row at

keeps-new : (table rows : List InterfaceRow) → KeepsInterfaces table (table ++ rows)
keeps-new table rows place was at = (was, get_before table rows place was at, goes_on-same was)

pub get_set : (table : List InterfaceRow) (place : ℕ) (was now : InterfaceRow) → slice_get table place ≡ Some was → slice_get (set table place now) place ≡ Some now
get_set [] place was now at = absurd (cc)
get_set (x ∷ table) zero was now at = refl
get_set (x ∷ table) (suc place) was now at = get_set table place was now at

get_other : (table : List InterfaceRow) (place other : ℕ) (now : InterfaceRow) → place ≢ other → slice_get (set table place now) other ≡ slice_get table other
get_other [] place other now apart = refl
get_other (x ∷ table) zero zero now apart = absurd (apart refl)
get_other (x ∷ table) zero (suc other) now apart = refl
get_other (x ∷ table) (suc place) zero now apart = refl
get_other (x ∷ table) (suc place) (suc other) now apart = get_other table place other now (λ e. apart (ap suc e))

keeps-longer : (table : List InterfaceRow) (more : Extension) → KeepsInterfaces table (extended_table table more)
keeps-longer table more place was at =
    elim (slice_get table more.place) as (λ o. slice_get table more.place ≡ o
    → (is : InterfaceRow) × (slice_get (option_map_or (λ row. set table more.place (extended_row more row)) o table) place ≡ Some is) × GoesOn was is) [
      | None ↦ λ e. (was, at, goes_on-same was)
      | Some row ↦ λ e. elim (eqb more.place place) as (λ b. eqb more.place place ≡ b
          → (is : InterfaceRow) × (slice_get (set table more.place (extended_row more row)) place ≡ Some is) × GoesOn was is) [
            | true ↦ λ same.
                let p : more.place ≡ place = eqb-true more.place place same in
                let r : row ≡ was = cc in
                let s : slice_get (set table more.place (extended_row more row)) more.place ≡ Some (extended_row more row) = get_set table more.place row (extended_row more row) e in
                (extended_row more was, rw (sym p, sym r) s, goes_on-extended more was)
            | false ↦ λ apart. (was, get_other table more.place place (extended_row more row) (eqb-false more.place place apart) ∙ at, goes_on-same was)
          ] refl
    ] refl

pub keeps-growth : (table : List InterfaceRow) (more : Growth) (answer : Result (Unit {0}) TableError) → KeepsInterfaces table (table_after table more answer)
keeps-growth table (NewRows rows) (Ok u) = keeps-new table rows
keeps-growth table (NewRows rows) (Err e) = keeps-same table
keeps-growth table (LongerRow more) (Ok u) = keeps-longer table more
keeps-growth table (LongerRow more) (Err e) = keeps-same table

module _ {S : Type 0} (Grows : S → Growth → Result (Unit {0}) TableError → S → Type 0) (table_of : S → List InterfaceRow)
    (follows : (s : S) (g : Growth) (a : Result (Unit {0}) TableError) (t : S) → Grows s g a t → table_of t ≡ table_after (table_of s) g a) where
  keeps-step : (s t : S) (more : Growth) (answer : Result (Unit {0}) TableError) → Grows s more answer t → KeepsInterfaces (table_of s) (table_of t)
  keeps-step s t more answer g = subst (λ x. KeepsInterfaces (table_of s) x) (sym (follows s more answer t g)) (keeps-growth (table_of s) more answer)

  keeps-equal : (s t : S) → t ≡ s → KeepsInterfaces (table_of s) (table_of t)
  keeps-equal s t e = subst (λ x. KeepsInterfaces (table_of s) (table_of x)) (sym e) (keeps-same (table_of s))

  keeps-lengthened : (longer : List (ℕ × Extension)) (s t : S) (result : Result (Unit {0}) ExtensionFault) → Lengthens Grows s longer result t → KeepsInterfaces (table_of s) (table_of t)
  keeps-lengthened [] s t result l = keeps-equal s t l.1
  keeps-lengthened (more ∷ others) s t result l =
      elim l.1 as (λ a. Grows s (LongerRow more.1) a l.0 → MatchResult a (λ _. Lengthens Grows l.0 others result t) (λ e. (result ≡ Err (told_at more.0 (fault_of e))) × (t ≡ l.0)) → KeepsInterfaces (table_of s) (table_of t)) [
        | Ok u ↦ λ g m. keeps-on (table_of s) (table_of l.0) (table_of t) (keeps-step s l.0 (LongerRow more.1) (Ok u) g) (keeps-lengthened others l.0 t result m)
        | Err e ↦ λ g m. keeps-on (table_of s) (table_of l.0) (table_of t) (keeps-step s l.0 (LongerRow more.1) (Err e) g) (keeps-equal l.0 t m.1)
      ] l.2 l.3

  pub nothing_taken_away : (rows : List InterfaceRow) (s t : S) (result : Result (Unit {0}) ExtensionFault) → Extends Grows (table_of s) rows s result t → KeepsInterfaces (table_of s) (table_of t)
  nothing_taken_away rows s t result (inl h) = keeps-equal s t h.3
  nothing_taken_away rows s t result (inr (inl h)) = keeps-equal s t h.2
  nothing_taken_away rows s t result (inr (inr h)) =
      let l = h.1 in
      let p = parts_of (table_of s) rows in
      elim l.1 as (λ a. Grows s (NewRows p.new_rows) a l.0 → MatchResult a (λ _. Lengthens Grows l.0 p.longer result t) (λ e. (result ≡ Err (told_of_new p.new_at (fault_of e))) × (t ≡ l.0)) → KeepsInterfaces (table_of s) (table_of t)) [
        | Ok u ↦ λ g m. keeps-on (table_of s) (table_of l.0) (table_of t) (keeps-step s l.0 (NewRows p.new_rows) (Ok u) g) (keeps-lengthened p.longer l.0 t result m)
        | Err e ↦ λ g m. keeps-on (table_of s) (table_of l.0) (table_of t) (keeps-step s l.0 (NewRows p.new_rows) (Err e) g) (keeps-equal l.0 t m.1)
      ] l.2 l.3
