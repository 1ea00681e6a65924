-- An interface of a table that is asked to take more messages.
use Rattle.std.proofs.Common.{◌≡◌, ◌≢◌, ℕ, ◌+◌, ◌-◌, ◌<◌, ◌≤◌, ◌++◌, List, Bool, true, false, IsTrue, Option, Some, None, Result, Ok, Err, ◌↔◌, length, take, map, set, get_or, ◌||◌, length-append, refl, sym, ap, ◌∙◌, subst, arith, inl, inr}
use Rattle.std.specs.Prelude.{OnErr, codes, if◌then◌else◌, is_ok, slice_set}
use Rattle.std.specs.List.{list_any, slice_get}
use Rattle.std.specs.Option.{IsSomeAnd, option_map, option_map_or, unwrap_or}
use Rattle.std.specs.Str.{bytes_eq}
use Rattle.std.proofs.Math.Seq.{map-set_same}
use Rattle.std.proofs.lemmas.Bool.{cases_eq, cases_lt, cases_order, le-ltb, lt-leb, ltb-false, or_cases, or_from, or_left, or_parts, or_right, true≢false}
use Rattle.std.proofs.lemmas.List.{get_or-set_other, get_or-set_same, get_or_append_left, length-map, length-set, map-set, take-map, take-set-le}
use Rattle.std.proofs.lemmas.List.Folds.{list_any_none, list_any-append}
use Rattle.std.proofs.lemmas.Option.{get_or_from_slice_get, slice_get-get_or, slice_get-map, slice_get_past, slice_get_within}
use Rattle.wl_wire.specs.declared.interface.Interface.{Interface}
use Rattle.wl_wire.specs.declared.interface.InterfaceId.{InterfaceId}
use Rattle.wl_wire.specs.declared.protocol.TableError.{TableError}
use Rattle.wl_wire.specs.declared.protocol.TableError.TheVariants as fault
use Rattle.wl_wire.specs.Inside.TableCheck.{LackFirst}
use Rattle.wl_wire.specs.MessageRows.{event_in, event_row, request_in, request_row}
use Rattle.wl_wire.specs.Table.{AnswersExtension, AnswersTo, Extension, Growth, InterfaceRow, IsAcceptedTable, IsFirstOfExtension, LacksExtensionFaults, LongerRow, MessageRow, NewRows, after_extension, anonymous_row, extended_row, extended_table, interface_row, interface_rows, is_at_fault, is_extension_at_fault, is_message_at_fault, is_name_at_fault, is_place_at_fault, is_repeated, is_taken, messages, name_of, new_messages, place, rank}
use Rattle.wl_wire.proofs.Faults.{At, fault_of, fault_of-rank, list_any-map}
use Rattle.wl_wire.proofs.Growth.{AnswersGrowth-unique, counted_from, one_answer}

-- ---- its faults

module _ (table : List InterfaceRow) (n : ℕ) (new : List MessageRow) where
  -- a want of memory is none
  pub no_want_of_memory : is_extension_at_fault table n new fault.OutOfMemory ≡ false
  no_want_of_memory = list_any_none (λ m. is_message_at_fault (length table) m fault.OutOfMemory) new (λ k d lt. refl)

  pub LackFirst-all : LackFirst 6 table n new → LacksExtensionFaults table n new
  LackFirst-all lack fault.OutOfMemory = no_want_of_memory
  LackFirst-all lack e = lack e (omega arith)

  -- one fault is the first
  one_first : (e f : TableError) → IsFirstOfExtension table n new e → IsFirstOfExtension table n new f → e ≡ f
  one_first e f one two = elim (cases_order (rank e) (rank f)) [
    | inl same ↦ sym (fault_of-rank e) ∙ ap (λ i. fault_of i (rank e)) (one.one ∙ sym two.one) ∙ ap (fault_of (place f)) same ∙ fault_of-rank f
    | inr apart ↦ elim apart [
      | inl before ↦ absurd (true≢false (sym one.here ∙ two.first e before))
      | inr after ↦ absurd (true≢false (sym two.here ∙ one.first f after))
    ]
  ]

-- ---- one answer

module _ (table : List InterfaceRow) (more : Extension) where
  unrefused : (r : Result (Unit {0}) TableError) (f : TableError) → ¬ (r ≡ Err f) → LacksExtensionFaults table more.place (new_messages more)
      → (r ≡ Err f) ↔ IsFirstOfExtension table more.place (new_messages more) f
  unrefused r f apart lacks = (λ is. absurd (apart is), λ first. absurd (true≢false (sym first.here ∙ lacks f)))

  -- the first fault is answered, and no other
  pub extension_refused : (r : Result (Unit {0}) TableError) → AnswersExtension table more r → (f : TableError) → f ≢ fault.OutOfMemory
      → (r ≡ Err f) ↔ IsFirstOfExtension table more.place (new_messages more) f
  extension_refused (Ok u) lacks f apart = unrefused (Ok u) f (λ is. cc) lacks
  extension_refused (Err fault.OutOfMemory) lacks f apart = unrefused (Err fault.OutOfMemory) f (λ is. apart (cc)) lacks
  extension_refused (Err e) first f apart = (
    λ is. let same : e ≡ f = cc in subst (IsFirstOfExtension table more.place (new_messages more)) same first,
    λ other. ap Err (one_first table more.place (new_messages more) e f first other),
  )

  pub AnswersExtension-first : (e : TableError) → IsFirstOfExtension table more.place (new_messages more) e → AnswersExtension table more (Err e)
  AnswersExtension-first fault.OutOfMemory first = absurd (true≢false (sym first.here ∙ no_want_of_memory table more.place (new_messages more)))
  AnswersExtension-first _ first = first

  pub AnswersExtension-unique : (r s : Result (Unit {0}) TableError) → r ≢ Err fault.OutOfMemory → s ≢ Err fault.OutOfMemory
      → AnswersExtension table more r → AnswersExtension table more s → r ≡ s
  AnswersExtension-unique r s ample ample' one two =
      one_answer (IsFirstOfExtension table more.place (new_messages more)) r s ample ample' (extension_refused r one) (extension_refused s two)

-- if memory is not refused, there is one answer, however the table is to grow
pub AnswersTo-unique : (table : List InterfaceRow) (growth : Growth) (r s : Result (Unit {0}) TableError) → r ≢ Err fault.OutOfMemory → s ≢ Err fault.OutOfMemory
    → AnswersTo table growth r → AnswersTo table growth s → r ≡ s
AnswersTo-unique table (NewRows rows) r s = AnswersGrowth-unique table rows r s
AnswersTo-unique table (LongerRow more) r s = AnswersExtension-unique table more r s

-- ---- what a table tells by its names alone

abbrev name_in : InterfaceRow → List ℕ
name_in row = row.name

abbrev names : List InterfaceRow → List (List ℕ)
names table = map name_in table

named : (table : List InterfaceRow) (k : ℕ) → name_of table k ≡ unwrap_or (slice_get (names table) k) (codes "<unknown>")
named table k = by (slice_get table k) ∙ ap (λ o. unwrap_or o (codes "<unknown>")) (sym (slice_get-map name_in table k))
  where
    by : (o : Option InterfaceRow) → option_map_or (λ (row : InterfaceRow). row.name) o (codes "<unknown>") ≡ unwrap_or (option_map name_in o) (codes "<unknown>")
    by None = refl
    by (Some row) = refl

-- one of the first names is that one
abbrev is_among : List (List ℕ) → ℕ → List ℕ → Bool
is_among all k name = list_any (λ other. bytes_eq name other) (take k all)

repeated : (table : List InterfaceRow) (k : ℕ) → is_repeated table k ≡ option_map_or (is_among (names table) k) (slice_get (names table) k) false
repeated table k = by (slice_get table k) ∙ ap (λ o. option_map_or (is_among (names table) k) o false) (sym (slice_get-map name_in table k))
  where
    by : (o : Option InterfaceRow) → option_map_or (λ (row : InterfaceRow). is_taken (take k table) row.name) o false
        ≡ option_map_or (is_among (names table) k) (option_map name_in o) false
    by None = refl
    by (Some row) =
        let equals : List ℕ → Bool = λ other. bytes_eq row.name other in
        sym (list_any-map equals name_in (take k table)) ∙ ap (list_any equals) (sym (take-map name_in k table))

-- ---- a row that is longer

module _ (table : List InterfaceRow) (more : Extension) (row : InterfaceRow) (there : slice_get table more.place ≡ Some row) where
  abbrev longer : List InterfaceRow
  longer = set table more.place (extended_row more row)

  within : more.place < length table
  within = slice_get_within table more.place row there

  longer_names : names longer ≡ names table
  longer_names = map-set_same name_in table more.place (extended_row more row) row (ap name_in (sym (get_or_from_slice_get table more.place row row there)))

  here_is : slice_get longer more.place ≡ Some (extended_row more row)
  here_is =
      slice_get-get_or longer more.place (extended_row more row) (omega (arith, within, length-set table more.place (extended_row more row)))
      ∙ ap Some (get_or-set_same table more.place (extended_row more row) (extended_row more row) within)

  others_stay : (k : ℕ) → k ≢ more.place → slice_get longer k ≡ slice_get table k
  others_stay k apart = elim (cases_lt k (length table)) [
    | inl inside ↦ slice_get-get_or longer k row (omega (arith, inside, length-set table more.place (extended_row more row)))
        ∙ ap Some (get_or-set_other table more.place k (extended_row more row) row apart) ∙ sym (slice_get-get_or table k row inside)
    | inr past ↦ slice_get_past longer k (omega (arith, past, length-set table more.place (extended_row more row))) ∙ sym (slice_get_past table k past)
  ]

  repeats_stay : (k : ℕ) → is_repeated longer k ≡ is_repeated table k
  repeats_stay k =
      repeated longer k ∙ ap (λ all. option_map_or (is_among all k) (slice_get all k) false) longer_names ∙ sym (repeated table k)

  -- ---- its faults are those of the shorter row and those of the new messages

  abbrev any : TableError → List MessageRow → Bool
  any e list = list_any (λ m. is_message_at_fault (length table) m e) list

  four : (a b c d : Bool) → ((a || b) || (c || d)) ≡ ((a || c) || (b || d))
  four true b c d = refl
  four false true true d = refl
  four false true false d = refl
  four false false c d = refl

  parts : (e : TableError) → any e (messages (extended_row more row)) ≡ (any e (messages row) || any e (new_messages more))
  parts e =
      let p : MessageRow → Bool = λ m. is_message_at_fault (length table) m e in
      list_any-append p (row.requests ++ more.requests) (row.events ++ more.events)
      ∙ ap (λ b. b || any e (row.events ++ more.events)) (list_any-append p row.requests more.requests)
      ∙ ap (λ b. (any e row.requests || any e more.requests) || b) (list_any-append p row.events more.events)
      ∙ four (any e row.requests) (any e more.requests) (any e row.events) (any e more.events)
      ∙ sym (ap (λ b. (any e row.requests || any e row.events) || b) (list_any-append p more.requests more.events))
      ∙ sym (ap (λ b. b || any e (new_messages more)) (list_any-append p row.requests row.events))

  abbrev AtOnce : Option InterfaceRow → Bool → ℕ → TableError → Type 0
  AtOnce o taken count e = IsSomeAnd o (λ r. IsTrue (is_at_fault taken count r e))

  moved : (o : Option InterfaceRow) (e : TableError) (b c : Bool) (m n : ℕ) → b ≡ c → m ≡ n → AtOnce o b m e → AtOnce o c n e
  moved o e b c m n same many has = subst (λ count. AtOnce o c count e) many (subst (λ taken. AtOnce o taken m e) same has)

  -- the fault of the longer row that is none of the new messages
  was_faulty : (taken : Bool) (e : TableError) → any e (new_messages more) ≡ false
      → is_at_fault taken (length table) (extended_row more row) e ≡ true → is_at_fault taken (length table) row e ≡ true
  was_faulty taken e lacks faulty =
      let name = is_name_at_fault taken row.name e in
      elim (or_cases name (any e (messages (extended_row more row))) faulty) [
        | inl by_name ↦ or_left name (any e (messages row)) by_name
        | inr by_message ↦ or_right name (any e (messages row)) (elim (or_cases (any e (messages row)) (any e (new_messages more)) (sym (parts e) ∙ by_message)) [
          | inl old ↦ old
          | inr new ↦ absurd (true≢false (sym new ∙ lacks))
        ])
      ]

  was_there : (k : ℕ) (e : TableError) → any e (new_messages more) ≡ false → At longer k e → At table k e
  was_there k e lacks has =
      let as_before : AtOnce (slice_get longer k) (is_repeated table k) (length table) e =
      moved (slice_get longer k) e _ _ _ _ (repeats_stay k) (length-set table more.place (extended_row more row)) has in
      elim (cases_eq k more.place) [
        | inr apart ↦ subst (λ o. AtOnce o (is_repeated table k) (length table) e) (others_stay k apart) as_before
        | inl same ↦
            let faulty : is_at_fault (is_repeated table k) (length table) (extended_row more row) e ≡ true =
            subst (λ o. AtOnce o (is_repeated table k) (length table) e) (ap (slice_get longer) same ∙ here_is) as_before in
            subst (λ o. AtOnce o (is_repeated table k) (length table) e) (sym (ap (slice_get table) same ∙ there)) (was_faulty (is_repeated table k) e lacks faulty)
      ]

  is_there : (e : TableError) → any e (new_messages more) ≡ true → At longer more.place e
  is_there e found =
      let name = is_name_at_fault (is_repeated table more.place) row.name e in
      let faulty : is_at_fault (is_repeated table more.place) (length table) (extended_row more row) e ≡ true =
      or_right name (any e (messages (extended_row more row))) (parts e ∙ or_right (any e (messages row)) (any e (new_messages more)) found) in
      moved (slice_get longer more.place) e _ _ _ _ (sym (repeats_stay more.place)) (sym (length-set table more.place (extended_row more row)))
      (subst (λ o. AtOnce o (is_repeated table more.place) (length table) e) (sym here_is) faulty)

-- ---- the table is accepted exactly if the new messages have no fault

place_is_free : (table : List InterfaceRow) (n : ℕ) → 4 ≤ n → n < length table → (e : TableError) → is_place_at_fault table n e ≡ false
place_is_free table n above below (fault.UnknownInterface i) = or_from _ _ (le-ltb n 4 above) (lt-leb (length table) n below)
place_is_free table n above below _ = refl

module _ (table : List InterfaceRow) (more : Extension) where
  abbrev any_new : TableError → Bool
  any_new e = list_any (λ m. is_message_at_fault (length table) m e) (new_messages more)

  apart_faults : LacksExtensionFaults table more.place (new_messages more) → (e : TableError) → (is_place_at_fault table more.place e ≡ false) × (any_new e ≡ false)
  apart_faults lacks e = or_parts (is_place_at_fault table more.place e) (any_new e) (lacks e)

  above_fixed : LacksExtensionFaults table more.place (new_messages more) → 4 ≤ more.place
  above_fixed lacks = ltb-false more.place 4 (or_parts _ _ (apart_faults lacks (fault.UnknownInterface 0)).0).0

  extended_accepted : IsAcceptedTable table → LacksExtensionFaults table more.place (new_messages more) → IsAcceptedTable (extended_table table more)
  extended_accepted accepted lacks = by (slice_get table more.place) refl
    where
      by : (o : Option InterfaceRow) → slice_get table more.place ≡ o
          → IsAcceptedTable (option_map_or (λ (row : InterfaceRow). set table more.place (extended_row more row)) o table)
      by None none = accepted
      by (Some row) there = record {
        fixed = take-set-le 4 table more.place (extended_row more row) (above_fixed lacks) ∙ accepted.fixed;
        no_fault = λ e has. accepted.no_fault e (was_there table more row there (4 + place e) e (apart_faults lacks e).1 has);
      }

  not_accepted : 4 ≤ more.place → more.place < length table → (e : TableError) → is_extension_at_fault table more.place (new_messages more) e ≡ true
      → ¬ (IsAcceptedTable (extended_table table more))
  not_accepted above below e faulty extended =
      let row = get_or table more.place anonymous_row in
      let there : slice_get table more.place ≡ Some row = slice_get-get_or table more.place anonymous_row below in
      let found : any_new e ≡ true = elim (or_cases (is_place_at_fault table more.place e) (any_new e) faulty) [
        | inl at ↦ absurd (true≢false (sym at ∙ place_is_free table more.place above below e))
        | inr new ↦ new
      ] in
      let accepted : IsAcceptedTable (longer table more row there) =
      subst (λ o. IsAcceptedTable (option_map_or (λ (r : InterfaceRow). set table more.place (extended_row more r)) o table)) there extended in
      let k = more.place - 4 in
      accepted.no_fault (fault_of k (rank e)) (counted_from 4 k more.place (longer table more row there) e (omega (arith, above)) (is_there table more row there e found))

  pub extension_accepted : IsAcceptedTable table → (r : Result (Unit {0}) TableError) → AnswersExtension table more r → IsAcceptedTable (after_extension table more r)
  extension_accepted accepted (Ok u) lacks = extended_accepted accepted lacks
  extension_accepted accepted (Err e) answers = accepted

  pub extension_exact : (r : Result (Unit {0}) TableError) → AnswersExtension table more r
      → OnErr r (¬ (r ≡ Err fault.OutOfMemory) → 4 ≤ more.place → more.place < length table → ¬ (IsAcceptedTable (extended_table table more)))
  extension_exact (Ok u) lacks = tt
  extension_exact (Err fault.OutOfMemory) lacks = λ apart. absurd (apart refl)
  extension_exact (Err e) first = λ apart above below. not_accepted above below e first.here

  pub extension_memory : IsAcceptedTable table → (r : Result (Unit {0}) TableError) → AnswersExtension table more r → r ≡ Err fault.OutOfMemory
      → IsAcceptedTable (extended_table table more)
  extension_memory accepted r answers is = extended_accepted accepted (subst (AnswersExtension table more) is answers)

-- ---- what stays

module _ (table : List InterfaceRow) (more : Extension) where
  names_stay : (r : Result (Unit {0}) TableError) → names (after_extension table more r) ≡ names table
  names_stay (Err e) = refl
  names_stay (Ok u) = by (slice_get table more.place) refl
    where
      by : (o : Option InterfaceRow) → slice_get table more.place ≡ o
          → names (option_map_or (λ (row : InterfaceRow). set table more.place (extended_row more row)) o table) ≡ names table
      by None none = refl
      by (Some row) there = longer_names table more row there

  -- how many interfaces there are
  pub length_stays : (r : Result (Unit {0}) TableError) → length (after_extension table more r) ≡ length table
  length_stays r = sym (length-map (after_extension table more r) name_in) ∙ ap length (names_stay r) ∙ length-map table name_in

  pub extended_length : length (extended_table table more) ≡ length table
  extended_length = length_stays (Ok tt)

  -- the name of each
  pub name_stays : (r : Result (Unit {0}) TableError) (k : ℕ) → name_of (after_extension table more r) k ≡ name_of table k
  name_stays r k = named (after_extension table more r) k ∙ ap (λ all. unwrap_or (slice_get all k) (codes "<unknown>")) (names_stay r) ∙ sym (named table k)

  -- what a row has, if its longer form has it too
  row_stays : (p : Option InterfaceRow → Option MessageRow) (m : MessageRow) → ((row : InterfaceRow) → p (Some row) ≡ Some m → p (Some (extended_row more row)) ≡ Some m)
      → (r : Result (Unit {0}) TableError) (k : ℕ) → p (slice_get table k) ≡ Some m → p (slice_get (after_extension table more r) k) ≡ Some m
  row_stays p m keeps (Err e) k has = has
  row_stays p m keeps (Ok u) k has = by (slice_get table more.place) refl
    where
      by : (o : Option InterfaceRow) → slice_get table more.place ≡ o
          → p (slice_get (option_map_or (λ (row : InterfaceRow). set table more.place (extended_row more row)) o table) k) ≡ Some m
      by None none = has
      by (Some row) there = elim (cases_eq k more.place) [
        | inl same ↦ ap p (ap (slice_get (longer table more row there)) same ∙ here_is table more row there)
            ∙ keeps row (ap p (sym (ap (slice_get table) same ∙ there)) ∙ has)
        | inr apart ↦ ap p (others_stay table more row there k apart) ∙ has
      ]

  front_stays : (old new : List MessageRow) (opcode : ℕ) (m : MessageRow) → slice_get old opcode ≡ Some m → slice_get (old ++ new) opcode ≡ Some m
  front_stays old new opcode m has =
      let lt : opcode < length old = slice_get_within old opcode m has in
      slice_get-get_or (old ++ new) opcode m (omega (arith, lt, length-append old new))
      ∙ ap Some (get_or_append_left old new m opcode lt ∙ get_or_from_slice_get old opcode m m has)

  -- each message of an opcode
  pub request_stays : (r : Result (Unit {0}) TableError) (i : InterfaceId) (opcode : ℕ) (m : MessageRow)
      → request_row table i opcode ≡ Some m → request_row (after_extension table more r) i opcode ≡ Some m
  request_stays r i opcode m = row_stays (λ o. request_in o opcode) m (λ row. front_stays row.requests more.requests opcode m) r i.0

  pub event_stays : (r : Result (Unit {0}) TableError) (i : InterfaceId) (opcode : ℕ) (m : MessageRow)
      → event_row table i opcode ≡ Some m → event_row (after_extension table more r) i opcode ≡ Some m
  event_stays r i opcode m = row_stays (λ o. event_in o opcode) m (λ row. front_stays row.events more.events opcode m) r i.0

-- ---- the interfaces of a table

-- one of them was extended, or not, as is answered
pub extended_there : (xs : List Interface) (more : Extension) (x y : Interface) (r : Result (Unit {0}) TableError) → more.place < length xs → x ≡ get_or xs more.place x
    → interface_row y ≡ (if is_ok r then extended_row more (interface_row x) else interface_row x)
    → interface_rows (slice_set xs more.place y) ≡ after_extension (interface_rows xs) more r
extended_there xs more x y (Err e) lt is row = map-set_same interface_row xs more.place y x (row ∙ ap interface_row is)
extended_there xs more x y (Ok u) lt is row =
    map-set interface_row xs more.place y ∙ ap (set (interface_rows xs) more.place) row
    ∙ sym (ap (λ o. option_map_or (λ (r : InterfaceRow). set (interface_rows xs) more.place (extended_row more r)) o (interface_rows xs)) there)
  where
    there : slice_get (interface_rows xs) more.place ≡ Some (interface_row x)
    there = slice_get-map interface_row xs more.place ∙ ap (option_map interface_row) (slice_get-get_or xs more.place x lt ∙ ap Some (sym is))
