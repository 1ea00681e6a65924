-- One interface, compared with a table.
use Rattle.std.proofs.Common.{◌≡◌, ◌≢◌, ◌≤◌, ◌<◌, ℕ, suc, ◌+◌, ◌-◌, ◌∷◌, ◌++◌, [], List, append_assoc, length, map, drop, max, Some, None, true, false, ◌&&◌, cond, arith, refl, subst, sym, ap, ◌∙◌, min, inl, inr}
use Rattle.std.specs.Prelude.{◌==◌, replicate, slice_get, Result, Ok}
use Rattle.std.specs.List.{position_from}
use Rattle.std.specs.Str.{bytes_eq}
use Rattle.std.proofs.lemmas.Bool.{cases_lt}
use Rattle.std.proofs.lemmas.List.{drop_all, replicate_more}
use Rattle.std.proofs.lemmas.Slice.Eq.{bytes_eq-Decides}
use Rattle.wl_wire.specs.declared.argument.ArgumentType.{ArgumentType}
use Rattle.wl_wire.specs.declared.interface.InterfaceId.{InterfaceId}
use Rattle.wl_wire.specs.declared.interface.MessageDesc.{MessageDesc}
use Rattle.wl_wire.specs.Table.{InterfaceRow, MessageRow, message_row}
use Rattle.wl_flat.specs.declared.extending.ExtensionFault.{ExtensionFault}
use Rattle.wl_flat.specs.declared.joining.Fit.{Fit}
use Rattle.wl_flat.specs.declared.joining.Fit.TheVariants.{Nothing, Other}
use Rattle.wl_flat.specs.Extending.{place_of}
use Rattle.wl_flat.specs.declared.rows.Rows.{Rows}
use Rattle.wl_flat.specs.Rows.{said_by}
use Rattle.wl_flat.specs.Joining.{IsOther, fit, fit_at, only, primed, same_interfaces, same_type, same_types, unlike_from}

-- ---- lists of one length

pub types_unlike : (there said : List ArgumentType) → length there ≢ length said → same_types there said ≡ false
types_unlike [] [] unlike = absurd (unlike refl)
types_unlike [] (j ∷ said) unlike = refl
types_unlike (i ∷ there) [] unlike = refl
types_unlike (i ∷ there) (j ∷ said) unlike = elim (same_type i j) as (λ b. (b && same_types there said) ≡ false) [
  | true ↦ types_unlike there said (λ same. unlike (ap suc same))
  | false ↦ refl
]

pub interfaces_unlike : (there said : List InterfaceId) → length there ≢ length said → same_interfaces there said ≡ false
interfaces_unlike [] [] unlike = absurd (unlike refl)
interfaces_unlike [] (j ∷ said) unlike = refl
interfaces_unlike (i ∷ there) [] unlike = refl
interfaces_unlike (i ∷ there) (j ∷ said) unlike = elim (i.0 == j.0) as (λ b. (b && same_interfaces there said) ≡ false) [
  | true ↦ interfaces_unlike there said (λ same. unlike (ap suc same))
  | false ↦ refl
]

unlike_nil : (n : ℕ) (there : List MessageRow) → unlike_from n there [] ≡ None
unlike_nil n [] = refl
unlike_nil n (m ∷ there) = refl

pub unlike_end : (there said : List MessageDesc) (n : ℕ) → min (length there) (length said) ≤ n
    → None ≡ unlike_from n (map message_row (drop n there)) (map message_row (drop n said))
unlike_end there said n past = elim (cases_lt n (length there)) [
  | inl within ↦ rw (drop_all n said (omega (arith, within, past))) (sym (unlike_nil n (map message_row (drop n there))))
  | inr end ↦ rw (drop_all n there end) refl
]

-- ---- names of which a table has rows

-- how long the longest name is
pub longest : List InterfaceRow → ℕ
longest [] = 0
longest (row ∷ table) = max (length row.name) (longest table)

position_long : (name : List ℕ) (n p : ℕ) (table : List InterfaceRow) → position_from (λ row. bytes_eq name row.name) n table ≡ Some p → length name ≤ longest table
unfolding longest
position_long name n p [] found = absurd (cc)
position_long name n p (row ∷ table) found =
    elim (bytes_eq name row.name) as (λ b. bytes_eq name row.name ≡ b → cond b (Some n) (position_from (λ row. bytes_eq name row.name) (n + 1) table) ≡ Some p → length name ≤ max (length row.name) (longest table)) [
      | true ↦ λ e f. let same = ap length ((bytes_eq-Decides name row.name).0 e) in omega arith
      | false ↦ λ e f. let rest = position_long name (n + 1) p table f in omega arith
    ] refl found

-- one that differs has a name that is there
pub other_long : (table : List InterfaceRow) (said : InterfaceRow) → IsOther (fit table said) → length said.name ≤ longest table
other_long table said other =
    elim (place_of table said.name) as (λ o. place_of table said.name ≡ o
    → IsOther (elim o [ None ↦ Nothing | Some place ↦ fit_at place (slice_get table place) said ]) → length said.name ≤ longest table) [
      | None ↦ λ e f. absurd f
      | Some place ↦ λ e f. position_long said.name 0 place table e
    ] refl other

pub is_other : (found there : Fit) (fault : ExtensionFault) → found ≡ there → found ≡ Other fault → IsOther there
is_other found there fault is other = subst (λ (f : Fit). IsOther f) (sym other ∙ is) tt

pub shorter_left : (all old new : ℕ) → old ≤ all → new ≡ old + 1 → suc all - new < suc all - old
shorter_left all old new within longer = omega arith

-- ---- names with apostrophes

primed_name : (name : List ℕ) (n : ℕ) → (name ++ replicate n 39) ++ 39 ∷ [] ≡ name ++ replicate (n + 1) 39
primed_name name n = append_assoc name (replicate n 39) (39 ∷ []) ∙ ap (λ (k : List ℕ). name ++ k) (replicate_more n 39)

-- with one more
abbrev pub once_more : InterfaceRow → InterfaceRow
once_more row = record row { name = row.name ++ 39 ∷ [] }

pub primed_more : (said now next : InterfaceRow) (n : ℕ) → now ≡ primed n said → next ≡ once_more now → next ≡ primed (n + 1) said
primed_more said now next n is more = more ∙ ap once_more is ∙ ap (λ (k : List ℕ). record said { name = k }) (primed_name said.name n)

pub others_more : (table : List InterfaceRow) (said now : InterfaceRow) (n : ℕ) → now ≡ primed n said → IsOther (fit table now) → ((m : ℕ) → m < n → IsOther (fit table (primed m said)))
    → (m : ℕ) → m < n + 1 → IsOther (fit table (primed m said))
others_more table said now n is other before m h = elim (cases_lt m n) [
  | inl less ↦ before m less
  | inr past ↦
      let same : n ≡ m = omega arith in
      subst (λ (k : ℕ). IsOther (fit table (primed k said))) same (subst (λ (r : InterfaceRow). IsOther (fit table r)) is other)
]

-- ---- one interface alone

pub only_one : (interfaces : List InterfaceRow) (said : InterfaceRow) → only interfaces ≡ Some said → interfaces ≡ said ∷ []
only_one [] said e = absurd (cc)
only_one (x ∷ []) said e = let p : x ≡ said = cc in ap (λ (k : InterfaceRow). k ∷ []) p
only_one (x ∷ y ∷ more) said e = absurd (cc)

-- so the rows say that one alone
pub says_one : (rows : Rows) (interfaces : List InterfaceRow) (said : InterfaceRow) → said_by rows ≡ Ok interfaces → only interfaces ≡ Some said
    → said_by rows ≡ Ok (said ∷ [])
says_one rows interfaces said read one = read ∙ ap (λ (l : List InterfaceRow). let r : Result (List InterfaceRow) ℕ = Ok l in r) (only_one interfaces said one)
