-- After an interface joined a table, its row has all that it has.
use Rattle.std.proofs.Common.{◌≡◌, ◌≤◌, ℕ, suc, ◌+◌, ◌∷◌, ◌++◌, [], List, length, map, take, drop, Option, Some, None, true, false, Bool, true≢false, ◌&&◌, refl, sym, ap, ◌∙◌, arith, cond, eqb-true, subst, inl, inr, Result, Ok, Err}
use Rattle.std.specs.Prelude.{◌==◌, slice_get, if◌then◌else◌, MatchOption}
use Rattle.std.specs.List.{position_from}
use Rattle.std.specs.Option.{option_map_or}
use Rattle.std.specs.Str.{bytes_eq}
use Rattle.std.proofs.Math.ListN.{set}
use Rattle.std.proofs.lemmas.Bool.Decides.{nat_tests}
use Rattle.std.proofs.lemmas.List.{append-nil, drop_all}
use Rattle.std.proofs.lemmas.Slice.Eq.{bytes_eq-Decides}
use Rattle.wl_server_model.specs.Backend.{IsGrowth}
use Rattle.wl_wire.specs.declared.argument.AllowNull.{AllowNull}
use Rattle.wl_wire.specs.declared.argument.AllowNull.TheVariants.{No, Yes}
use Rattle.wl_wire.specs.declared.argument.ArgumentType.{ArgumentType}
use Rattle.wl_wire.specs.declared.argument.ArgumentType.TheVariants.{Int, Uint, Fixed, Str, Object, NewId, Array, Fd}
use Rattle.wl_wire.specs.declared.interface.InterfaceId.{InterfaceId}
use Rattle.wl_wire.specs.declared.protocol.TableError.{TableError}
use Rattle.wl_wire.specs.MessageRows.{type_number}
use Rattle.wl_wire.specs.Table.{Extension, Growth, InterfaceRow, LongerRow, MessageRow, NewRows, extended_row, extended_table, interface_at, table_after}
use Rattle.wl_flat.proofs.NothingTakenAway.{get_set}
use Rattle.wl_host.proofs.TablesGrow.{client_grows, server_grows}
use Rattle.wl_flat.specs.declared.extending.ExtensionFault.{ExtensionFault}
use Rattle.wl_flat.specs.declared.joining.Fit.TheVariants.{Nothing, Other, Row}
use Rattle.wl_flat.specs.declared.rows.Rows.{Rows}
use Rattle.wl_host.specs.Calls.{CoreState, world}
use Rattle.wl_host_client.specs.Client.{ClientCore}
use Rattle.wl_flat.specs.Extending.{has_more, place_of, rest}
use Rattle.wl_flat.specs.Flat.{count_number}
use Rattle.wl_flat.specs.Joining.{IsJoined, IsJoinedAmong, Joins, JoinsBy, JoinsOthers, as_joined, contrast, fit, fit_at, fit_by, lacks, numbered, same_child, same_flag, same_interfaces, same_message, same_type, same_types, unlike, unlike_from}
use Rattle.wl_flat.specs.Nulls.{allows_null}
use Rattle.wl_flat.specs.Rows.{said_by, types}
use Rattle.wl_host_client.specs.Tables.{ClientGrows, JoinsClient}
use Rattle.wl_host.specs.Tables.{JoinsServer}

-- ---- messages that are the same

and_parts : (a b : Bool) → (a && b) ≡ true → (a ≡ true) × (b ≡ true)
and_parts true b e = (refl, e)
and_parts false b e = absurd (true≢false (sym e))

flags : (a b : Bool) → same_flag a b ≡ true → a ≡ b
flags true b e = sym e
flags false true e = absurd (true≢false (sym e))
flags false false e = refl

-- the type by its number, and by whether it allows null
null_of : Bool → AllowNull
null_of true = Yes
null_of false = No

typed : (t : ArgumentType) → slice_get (types (null_of (allows_null t))) (type_number t) ≡ Some t
unfolding null_of
typed Int = refl
typed Uint = refl
typed Fixed = refl
typed (Str Yes) = refl
typed (Str No) = refl
typed (Object Yes) = refl
typed (Object No) = refl
typed NewId = refl
typed Array = refl
typed Fd = refl

types_are : (t u : ArgumentType) → same_type t u ≡ true → t ≡ u
types_are t u e =
    let p = and_parts (type_number t == type_number u) (same_flag (allows_null t) (allows_null u)) e in
    let n : type_number t ≡ type_number u = eqb-true (type_number t) (type_number u) p.0 in
    let b : allows_null t ≡ allows_null u = flags (allows_null t) (allows_null u) p.1 in
    let s : slice_get (types (null_of (allows_null t))) (type_number t) ≡ slice_get (types (null_of (allows_null u))) (type_number u) =
    ap (λ (k : ℕ). slice_get (types (null_of (allows_null t))) k) n ∙ ap (λ (k : Bool). slice_get (types (null_of k)) (type_number u)) b in
    let r : Some t ≡ Some u = sym (typed t) ∙ s ∙ typed u in
    cc

all_types_are : (ts us : List ArgumentType) → same_types ts us ≡ true → ts ≡ us
all_types_are [] [] e = refl
all_types_are [] (u ∷ us) e = absurd (true≢false (sym e))
all_types_are (t ∷ ts) [] e = absurd (true≢false (sym e))
all_types_are (t ∷ ts) (u ∷ us) e =
    let p = and_parts (same_type t u) (same_types ts us) e in
    let a = types_are t u p.0 in
    let b = all_types_are ts us p.1 in
    cc

ids_are : (i j : InterfaceId) → (i.0 == j.0) ≡ true → i ≡ j
ids_are i j e = ap interface_at (eqb-true i.0 j.0 e)

all_ids_are : (is js : List InterfaceId) → same_interfaces is js ≡ true → is ≡ js
all_ids_are [] [] e = refl
all_ids_are [] (j ∷ js) e = absurd (true≢false (sym e))
all_ids_are (i ∷ is) [] e = absurd (true≢false (sym e))
all_ids_are (i ∷ is) (j ∷ js) e =
    let p = and_parts (i.0 == j.0) (same_interfaces is js) e in
    let a = ids_are i j p.0 in
    let b = all_ids_are is js p.1 in
    cc

children_are : (c d : Option InterfaceId) → same_child c d ≡ true → c ≡ d
children_are (Some i) (Some j) e = ap Some (ids_are i j e)
children_are (Some i) None e = absurd (true≢false (sym e))
children_are None (Some j) e = absurd (true≢false (sym e))
children_are None None e = refl

messages_are : (m k : MessageRow) → same_message m k ≡ true → as_joined m ≡ as_joined k
messages_are m k e =
    let four = and_parts (bytes_eq m.name k.name && (m.since == k.since) && same_types m.signature k.signature && same_child m.child_interface k.child_interface) (same_interfaces m.arg_interfaces k.arg_interfaces) e in
    let three = and_parts (bytes_eq m.name k.name && (m.since == k.since) && same_types m.signature k.signature) (same_child m.child_interface k.child_interface) four.0 in
    let two = and_parts (bytes_eq m.name k.name && (m.since == k.since)) (same_types m.signature k.signature) three.0 in
    let one = and_parts (bytes_eq m.name k.name) (m.since == k.since) two.0 in
    let n : m.name ≡ k.name = (bytes_eq-Decides m.name k.name).0 one.0 in
    let s : m.since ≡ k.since = eqb-true m.since k.since one.1 in
    let t : m.signature ≡ k.signature = all_types_are m.signature k.signature two.1 in
    let c : m.child_interface ≡ k.child_interface = children_are m.child_interface k.child_interface three.1 in
    let i : m.arg_interfaces ≡ k.arg_interfaces = all_ids_are m.arg_interfaces k.arg_interfaces four.1 in
    cc

-- ---- lists of messages that agree

abbrev all_joined : List MessageRow → List MessageRow
all_joined messages = map as_joined messages

own_front : (said : List MessageRow) → take (length said) (all_joined said) ≡ all_joined said
own_front [] = refl
own_front (k ∷ said) = ap (λ (xs : List MessageRow). as_joined k ∷ xs) (own_front said)

-- with the rest of the one behind it, the other begins with it
agree_front : (n : ℕ) (there said : List MessageRow) → unlike_from n there said ≡ None
    → take (length said) (all_joined (there ++ drop (length there) said)) ≡ all_joined said
agree_front n [] said e = own_front said
agree_front n (m ∷ there) [] e = refl
agree_front n (m ∷ there) (k ∷ said) e =
    elim (same_message m k) as (λ b. same_message m k ≡ b → (if b then unlike_from (n + 1) there said else Some n) ≡ None
    → as_joined m ∷ take (length said) (all_joined (there ++ drop (length there) said)) ≡ as_joined k ∷ all_joined said) [
      | true ↦ λ same f.
          let a = messages_are m k same in
          let b = agree_front (n + 1) there said f in
          cc
      | false ↦ λ same f. absurd (cc)
    ] refl e

agree_short : (n : ℕ) (there said : List MessageRow) → unlike_from n there said ≡ None → length said ≤ length there
    → take (length said) (all_joined there) ≡ all_joined said
agree_short n there said e short =
    subst (λ (rest : List MessageRow). take (length said) (all_joined rest) ≡ all_joined said)
    (ap (λ (xs : List MessageRow). there ++ xs) (drop_all (length there) said short) ∙ append-nil there)
    (agree_front n there said e)

contrast_parts : (there said : InterfaceRow) → contrast there said ≡ None → (unlike_from 0 there.requests said.requests ≡ None) × (unlike_from 0 there.events said.events ≡ None)
contrast_parts there said e =
    elim (unlike_from 0 there.requests said.requests) as (λ o. unlike_from 0 there.requests said.requests ≡ o → (unlike_from 0 there.requests said.requests ≡ None) × (unlike_from 0 there.events said.events ≡ None)) [
      | Some k ↦ λ f. let g : contrast there said ≡ Some (unlike there 0 k) = rw (contrast, f) refl in absurd (cc)
      | None ↦ λ f. elim (unlike_from 0 there.events said.events) as (λ o. unlike_from 0 there.events said.events ≡ o → (unlike_from 0 there.requests said.requests ≡ None) × (unlike_from 0 there.events said.events ≡ None)) [
        | Some k ↦ λ g. let h : contrast there said ≡ Some (unlike there 1 k) = rw (contrast, f, g) refl in absurd (cc)
        | None ↦ λ g. (f, g)
      ] refl
    ] refl

-- ---- the row that it is

-- the row at that place has the name, and agrees
record Agrees (table : List InterfaceRow) (place : ℕ) (said : InterfaceRow) : Type 0 where
  there : InterfaceRow
  at : slice_get table place ≡ Some there
  name : there.name ≡ said.name
  requests : unlike_from 0 there.requests said.requests ≡ None
  events : unlike_from 0 there.events said.events ≡ None

named_there : (name : List ℕ) (n p : ℕ) (table : List InterfaceRow) → position_from (λ row. bytes_eq name row.name) n table ≡ Some p
    → (k : ℕ) × (there : InterfaceRow) × (p ≡ n + k) × (slice_get table k ≡ Some there) × (there.name ≡ name)
named_there name n p [] found = absurd (cc)
named_there name n p (row ∷ table) found =
    elim (bytes_eq name row.name) as (λ b. bytes_eq name row.name ≡ b → cond b (Some n) (position_from (λ row. bytes_eq name row.name) (n + 1) table) ≡ Some p
    → (k : ℕ) × (there : InterfaceRow) × (p ≡ n + k) × (slice_get (row ∷ table) k ≡ Some there) × (there.name ≡ name)) [
      | true ↦ λ e f. let i : n ≡ p = cc in (0, row, omega arith, refl, sym ((bytes_eq-Decides name row.name).0 e))
      | false ↦ λ e f. let r = named_there name (n + 1) p table f in let i = r.2 in (suc r.0, r.1, omega arith, r.3, r.4)
    ] refl found

row_agrees : (table : List InterfaceRow) (said : InterfaceRow) (id : InterfaceId) → fit table said ≡ Row id → Agrees table id.0 said
row_agrees table said id e =
    elim (place_of table said.name) as (λ o. place_of table said.name ≡ o → elim o [ None ↦ Nothing | Some place ↦ fit_at place (slice_get table place) said ] ≡ Row id → Agrees table id.0 said) [
      | None ↦ λ p f. absurd (cc)
      | Some place ↦ λ p f.
          let r = named_there said.name 0 place table p in
          let i = r.2 in
          let same : place ≡ r.0 = omega arith in
          let here : slice_get table place ≡ Some r.1 = ap (λ (k : ℕ). slice_get table k) same ∙ r.3 in
          let g : fit_at place (Some r.1) said ≡ Row id = rw here at f in
          elim (contrast r.1 said) as (λ o. contrast r.1 said ≡ o → fit_by place o ≡ Row id → Agrees table id.0 said) [
            | Some fault ↦ λ q h. absurd (cc)
            | None ↦ λ q h.
                let parts = contrast_parts r.1 said q in
                let k : place ≡ id.0 = cc in
                record { there = r.1; at = ap (λ (n : ℕ). slice_get table n) (sym k) ∙ here; name = r.4; requests = parts.0; events = parts.1 }
          ] refl g
    ] refl e

-- ---- what the table has then

-- the answer of a table that has taken it
abbrev answered : ℕ → Result ℕ ExtensionFault
answered number = Ok number

get_last : (table : List InterfaceRow) (row : InterfaceRow) → slice_get (table ++ row ∷ []) (length table) ≡ Some row
get_last [] row = refl
get_last (x ∷ table) row = get_last table row

as_new : (table : List InterfaceRow) (said : InterfaceRow) (number : ℕ) → number ≡ count_number (length table) → IsJoined (table ++ said ∷ []) number said
as_new table said number is =
    (length table, is, record { there = said; at = get_last table said; version = omega arith; requests = own_front said.requests; events = own_front said.events }, refl)

as_whole : (table : List InterfaceRow) (said : InterfaceRow) (place number : ℕ) (g : Agrees table place said) → has_more g.there said ≡ false → number ≡ count_number place → IsJoined table number said
as_whole table said place number g whole is = (
  place,
  is,
  record {
    there = g.there;
    at = g.at;
    version = grind (arith, nat_tests, whole);
    requests = agree_short 0 g.there.requests said.requests g.requests (grind (arith, nat_tests, whole));
    events = agree_short 0 g.there.events said.events g.events (grind (arith, nat_tests, whole));
  },
  g.name,
)

as_longer : (table : List InterfaceRow) (said : InterfaceRow) (place number : ℕ) (g : Agrees table place said) → number ≡ count_number place
    → IsJoined (extended_table table (rest place g.there said)) number said
as_longer table said place number g is =
    let more = rest place g.there said in
    let longer : extended_table table more ≡ set table place (extended_row more g.there) = ap (λ (o : Option InterfaceRow). option_map_or (λ row. set table place (extended_row more row)) o table) g.at in
    let here : slice_get (extended_table table more) place ≡ Some (extended_row more g.there) =
    ap (λ (t : List InterfaceRow). slice_get t place) longer ∙ get_set table place g.there (extended_row more g.there) g.at in (
      place,
      is,
      record {
        there = extended_row more g.there;
        at = here;
        version = omega arith;
        requests = agree_front 0 g.there.requests said.requests g.requests;
        events = agree_front 0 g.there.events said.events g.events;
      },
      g.name,
    )

module _ {S : Type 0} (Grows : S → Growth → Result (Unit {0}) TableError → S → Type 0) (table_of : S → List InterfaceRow)
    (follows : (s : S) (more : Growth) (answer : Result (Unit {0}) TableError) (t : S) → Grows s more answer t → table_of t ≡ table_after (table_of s) more answer) where
  abbrev Takes : Option Extension → ℕ → S → ℕ → S → Type 0
  Takes o place b number a =
      MatchOption o ((answered number ≡ Ok (count_number place)) × (a ≡ b)) (λ more. (answer : Result (Unit {0}) TableError) × Grows b (LongerRow more) answer a × (answered number ≡ numbered place answer))

  took_nothing : (said : InterfaceRow) (place number : ℕ) (b a : S) (g : Agrees (table_of b) place said) → has_more g.there said ≡ false
      → Takes None place b number a → IsJoined (table_of a) number said
  took_nothing said place number b a g whole h =
      let is : number ≡ count_number place = cc (h.0) in
      subst (λ (s : S). IsJoined (table_of s) number said) (sym h.1) (as_whole (table_of b) said place number g whole is)

  took_rest : (said : InterfaceRow) (place number : ℕ) (b a : S) (g : Agrees (table_of b) place said)
      → Takes (Some (rest place g.there said)) place b number a → IsJoined (table_of a) number said
  took_rest said place number b a g h =
      let more = rest place g.there said in
      elim h.0 as (λ r. Grows b (LongerRow more) r a → answered number ≡ numbered place r → IsJoined (table_of a) number said) [
        | Ok u ↦ λ grown is.
            let n : number ≡ count_number place = cc in
            subst (λ (t : List InterfaceRow). IsJoined t number said) (sym (follows b (LongerRow more) (Ok u) a grown)) (as_longer (table_of b) said place number g n)
        | Err e ↦ λ grown is. absurd (cc)
      ] h.1 h.2

  took : (said : InterfaceRow) (place number : ℕ) (b a : S) (g : Agrees (table_of b) place said) → Takes (lacks (table_of b) place said) place b number a → IsJoined (table_of a) number said
  took said place number b a g h =
      let k : Takes (if has_more g.there said then Some (rest place g.there said) else None) place b number a = rw (lacks, g.at) at h in
      elim (has_more g.there said) as (λ v. has_more g.there said ≡ v → Takes (if v then Some (rest place g.there said) else None) place b number a → IsJoined (table_of a) number said) [
        | true ↦ λ e m. took_rest said place number b a g m
        | false ↦ λ e m. took_nothing said place number b a g e m
      ] refl k

  added : (said : InterfaceRow) (number : ℕ) (b a : S) (answer : Result (Unit {0}) TableError) → Grows b (NewRows (said ∷ [])) answer a → answered number ≡ numbered (length (table_of b)) answer
      → IsJoined (table_of a) number said
  added said number b a (Ok u) grown is =
      let n : number ≡ count_number (length (table_of b)) = cc in
      subst (λ (t : List InterfaceRow). IsJoined t number said) (sym (follows b (NewRows (said ∷ [])) (Ok u) a grown)) (as_new (table_of b) said number n)
  added said number b a (Err e) grown is = absurd (cc)

  is_there : (said : InterfaceRow) (number : ℕ) (b a : S) → Joins Grows (table_of b) said b (answered number) a → IsJoined (table_of a) number said
  is_there said number b a h =
      elim (fit (table_of b) said) as (λ f. fit (table_of b) said ≡ f → JoinsBy Grows f (table_of b) said b (answered number) a → IsJoined (table_of a) number said) [
        | Nothing ↦ λ e j. elim j [
          | inl new ↦ added said number b a new.0 new.1 new.2
          | inr none ↦ absurd (cc (none.0))
        ]
        | Row id ↦ λ e j. took said id.0 number b a (row_agrees (table_of b) said id e) j
        | Other fault ↦ λ e j. absurd (cc (j.0))
      ] refl h

  is_there_among : (said : InterfaceRow) (number : ℕ) (b a : S) → JoinsOthers Grows (table_of b) said b (answered number) a → IsJoinedAmong (table_of a) number said
  is_there_among said number b a (inl h) =
      let n = h.1 in
      (n.0, subst (λ (named : InterfaceRow). IsJoined (table_of a) number named) n.1 (is_there h.0 number b a h.2))
  is_there_among said number b a (inr h) = absurd (cc (h.0))

-- ---- both sessions

pub joined_server : (rows : Rows) (b a : CoreState) (number : ℕ) → JoinsServer rows b (Ok number) a
    → (said : InterfaceRow) × (said_by rows ≡ Ok (said ∷ [])) × IsJoined a.server.offer.table number said
joined_server rows b a number (inl h) = (h.0, h.1, is_there (IsGrowth world) (λ (s : CoreState). s.server.offer.table) server_grows h.0 number b a h.2)
joined_server rows b a number (inr (inl h)) = absurd (cc (h.3.0))
joined_server rows b a number (inr (inr h)) = absurd (cc (h.2.0))

pub joined_client : (rows : Rows) (b a : ClientCore) (number : ℕ) → JoinsClient rows b (Ok number) a
    → (said : InterfaceRow) × (said_by rows ≡ Ok (said ∷ [])) × IsJoinedAmong a.session.table number said
joined_client rows b a number (inl h) = (h.0, h.1, is_there_among ClientGrows (λ (s : ClientCore). s.session.table) client_grows h.0 number b a h.2)
joined_client rows b a number (inr (inl h)) = absurd (cc (h.3.0))
joined_client rows b a number (inr (inr h)) = absurd (cc (h.2.0))
