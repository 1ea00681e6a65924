-- A table to which rows are added.
use Rattle.std.proofs.Common.{◌≡◌, ◌≢◌, ℕ, ◌+◌, ◌-◌, ◌<◌, ◌≤◌, ◌++◌, List, Bool, true, false, leb, IsTrue, Option, Some, None, Result, Ok, Err, ◌↔◌, length, take, drop, refl, sym, ap, ◌∙◌, subst, arith, inl, inr}
use Rattle.std.specs.List.{list_any, slice_get}
use Rattle.std.specs.Option.{IsSomeAnd, option_map_or}
use Rattle.std.specs.Prelude.{OnErr}
use Rattle.std.proofs.Common.{length-append}
use Rattle.std.proofs.lemmas.Bool.{cases_lt, leb-true, le-leb, or_cases, or_left, or_right}
use Rattle.std.proofs.lemmas.List.{drop-map, get_or_append_left, length-drop, take-append-drop, take-append-le, take_all}
use Rattle.std.proofs.lemmas.List.Folds.{Any-from_list_any, list_any-from_Any}
use Rattle.std.proofs.lemmas.Option.{slice_get-get_or}
use Rattle.wl_wire.specs.declared.interface.Interface.{Interface}
use Rattle.wl_wire.specs.declared.protocol.TableError.{TableError}
use Rattle.wl_wire.specs.declared.protocol.TableError.TheVariants as fault
use Rattle.wl_wire.specs.Table.{MessageRow, InterfaceRow, anonymous_row, fixed_rows, table_of, interface_row, interface_rows, interfaces_of, messages, is_taken, is_repeated, is_at_fault, is_name_at_fault, is_message_at_fault, rank, place, HasFaultFrom, IsFirstFaultFrom, IsAcceptedTable, AnswersGrowth, LacksFaults, grown}
use Rattle.wl_wire.proofs.Faults.{At, fault_of, no_fault_of_memory_at, no_fault_of_memory, refused, not_refused}

-- ---- what is at fault in a longer table was at fault before

list_any_weaker : {X : Type 0} (p q : X → Bool) → ((x : X) → p x ≡ true → q x ≡ true) → (xs : List X) → list_any p xs ≡ true → list_any q xs ≡ true
list_any_weaker p q weaker xs found =
    let here = Any-from_list_any p xs found in
    list_any-from_Any q xs (here.0, here.1, here.2, here.3, weaker here.1 here.4)

-- an interface that is outside the longer table is outside the shorter one
message_was_at_fault : (few many : ℕ) → few ≤ many → (m : MessageRow) (e : TableError) → is_message_at_fault many m e ≡ true → is_message_at_fault few m e ≡ true
message_was_at_fault few many le m (fault.UnknownInterface i) =
    list_any_weaker (λ id. leb many id.0) (λ id. leb few id.0) (λ id outside. le-leb few id.0 (omega (arith, le, leb-true many id.0 outside))) (interfaces_of m)
message_was_at_fault few many le m _ = λ faulty. faulty

was_at_fault : (few many : ℕ) → few ≤ many → (taken : Bool) (row : InterfaceRow) (e : TableError) → is_at_fault taken many row e ≡ true → is_at_fault taken few row e ≡ true
was_at_fault few many le taken row e faulty =
    let name = is_name_at_fault taken row.name e in
    let message : ℕ → MessageRow → Bool = λ count m. is_message_at_fault count m e in
    elim (or_cases name (list_any (message many) (messages row)) faulty) [
      | inl by_name ↦ or_left name (list_any (message few) (messages row)) by_name
      | inr by_message ↦ or_right name (list_any (message few) (messages row))
          (list_any_weaker (message many) (message few) (λ m. message_was_at_fault few many le m e) (messages row) by_message)
    ]

IsSomeAnd_weaker : {X : Type 0} (P Q : X → Type 0) → ((x : X) → P x → Q x) → (o : Option X) → IsSomeAnd o P → IsSomeAnd o Q
IsSomeAnd_weaker P Q weaker None there = there
IsSomeAnd_weaker P Q weaker (Some x) there = weaker x there

module _ (old new : List InterfaceRow) (n : ℕ) (lt : n < length old) where
  -- an old row keeps its place
  pub row_stays : slice_get (old ++ new) n ≡ slice_get old n
  row_stays =
      slice_get-get_or (old ++ new) n anonymous_row (omega (arith, lt, length-append old new))
      ∙ ap Some (get_or_append_left old new anonymous_row n lt) ∙ sym (slice_get-get_or old n anonymous_row lt)

  -- and the same rows stand before it
  repeats_stay : is_repeated (old ++ new) n ≡ is_repeated old n
  repeats_stay =
      ap (λ o. option_map_or (λ row. is_taken (take n (old ++ new)) row.name) o false) row_stays
      ∙ ap (λ rows. option_map_or (λ row. is_taken rows row.name) (slice_get old n) false) (take-append-le n old new (omega (arith, lt)))

  fault_was_there : (e : TableError) → At (old ++ new) n e → At old n e
  fault_was_there e has =
      let at : Bool → ℕ → InterfaceRow → Type 0 = λ repeated count row. IsTrue (is_at_fault repeated count row e) in
      IsSomeAnd_weaker (at (is_repeated old n) (length (old ++ new))) (at (is_repeated old n) (length old))
      (λ row. was_at_fault (length old) (length (old ++ new)) (omega (arith, length-append old new)) (is_repeated old n) row e) (slice_get old n)
      (subst (λ repeated. IsSomeAnd (slice_get old n) (at repeated (length (old ++ new)))) repeats_stay
      (subst (λ o. IsSomeAnd o (at (is_repeated (old ++ new) n) (length (old ++ new)))) row_stays has))

-- ---- a fault whose place is counted from another row

pub counted_from : (begin k n : ℕ) (table : List InterfaceRow) (e : TableError) → n ≡ begin + k → At table n e → HasFaultFrom begin table (fault_of k (rank e))
counted_from begin k n table fault.OutOfMemory same has = absurd (no_fault_of_memory_at table n has)
counted_from begin k n table (fault.ZeroInName i) same has = subst (λ at. At table at (fault.ZeroInName k)) same has
counted_from begin k n table (fault.DuplicateName i) same has = subst (λ at. At table at (fault.DuplicateName k)) same has
counted_from begin k n table (fault.UnknownInterface i) same has = subst (λ at. At table at (fault.UnknownInterface k)) same has
counted_from begin k n table (fault.TooManyNewIds i) same has = subst (λ at. At table at (fault.TooManyNewIds k)) same has
counted_from begin k n table (fault.MissingChild i) same has = subst (λ at. At table at (fault.MissingChild k)) same has
counted_from begin k n table (fault.ArgInterfaces i) same has = subst (λ at. At table at (fault.ArgInterfaces k)) same has

-- ---- the longer table

-- an accepted table is the fixed rows and the others
module _ (table : List InterfaceRow) (accepted : IsAcceptedTable table) where
  fixed_first : table ≡ fixed_rows ++ drop 4 table
  fixed_first = sym (take-append-drop 4 table) ∙ ap (λ rows. rows ++ drop 4 table) accepted.fixed

  pub length-accepted : 4 ≤ length table
  length-accepted = omega (arith, ap length fixed_first)

module _ (old new : List InterfaceRow) (accepted : IsAcceptedTable old) where
  -- it is accepted if the new rows have no fault
  pub IsAcceptedTable-longer : LacksFaults old new → IsAcceptedTable (old ++ new)
  IsAcceptedTable-longer lacks = record {
    fixed = take-append-le 4 old new (length-accepted old accepted) ∙ accepted.fixed;
    no_fault = λ e has. elim (cases_lt (4 + place e) (length old)) [
      | inl before ↦ accepted.no_fault e (fault_was_there old new (4 + place e) before e has)
      | inr behind ↦ let k = 4 + place e - length old in lacks (fault_of k (rank e)) (counted_from (length old) k (4 + place e) (old ++ new) e (omega (arith, behind)) has)
    ];
  }

  -- and it is not if one of them has a fault
  pub not_accepted : (e : TableError) → HasFaultFrom (length old) (old ++ new) e → ¬ (IsAcceptedTable (old ++ new))
  not_accepted e has longer =
      let k = length old + place e - 4 in
      longer.no_fault (fault_of k (rank e)) (counted_from 4 k (length old + place e) (old ++ new) e (omega (arith, length-accepted old accepted)) has)

-- ---- what the answer says

-- if two answers tell the same faults, they are one
pub one_answer : (Is : TableError → Type 0) (r s : Result (Unit {0}) TableError) → r ≢ Err fault.OutOfMemory → s ≢ Err fault.OutOfMemory
    → ((f : TableError) → f ≢ fault.OutOfMemory → (r ≡ Err f) ↔ Is f) → ((f : TableError) → f ≢ fault.OutOfMemory → (s ≡ Err f) ↔ Is f) → r ≡ s
one_answer Is (Ok u) (Ok v) ample ample' one two = refl
one_answer Is (Ok u) (Err e) ample ample' one two =
    let real : e ≢ fault.OutOfMemory = λ is. ample' (ap Err is) in
    (one e real).1 ((two e real).0 refl)
one_answer Is (Err e) s ample ample' one two =
    let real : e ≢ fault.OutOfMemory = λ is. ample (ap Err is) in
    sym ((two e real).1 ((one e real).0 refl))

module _ (old new : List InterfaceRow) where
  pub AnswersGrowth-first : (e : TableError) → IsFirstFaultFrom (length old) (old ++ new) e → AnswersGrowth old new (Err e)
  AnswersGrowth-first fault.OutOfMemory first = absurd (no_fault_of_memory (length old) (old ++ new) first.here)
  AnswersGrowth-first _ first = first

  -- the first fault is answered, and no other
  pub answer_refused : (r : Result (Unit {0}) TableError) → AnswersGrowth old new r → (f : TableError) → f ≢ fault.OutOfMemory → (r ≡ Err f) ↔ IsFirstFaultFrom (length old) (old ++ new) f
  answer_refused (Ok u) lacks f apart = not_refused (length old) (old ++ new) (Ok u) f (λ is. cc) lacks
  answer_refused (Err fault.OutOfMemory) lacks f apart = not_refused (length old) (old ++ new) (Err fault.OutOfMemory) f (λ is. apart (cc)) lacks
  answer_refused (Err e) first f apart = refused (length old) (old ++ new) (Err e) e refl first f

  -- if memory is not refused, there is one answer
  pub AnswersGrowth-unique : (r s : Result (Unit {0}) TableError) → r ≢ Err fault.OutOfMemory → s ≢ Err fault.OutOfMemory → AnswersGrowth old new r → AnswersGrowth old new s → r ≡ s
  AnswersGrowth-unique r s ample ample' one two =
      one_answer (IsFirstFaultFrom (length old) (old ++ new)) r s ample ample' (answer_refused r one) (answer_refused s two)

module _ (old new : List InterfaceRow) (accepted : IsAcceptedTable old) where
  pub answer_accepted : (r : Result (Unit {0}) TableError) → AnswersGrowth old new r → IsAcceptedTable (grown old new r)
  answer_accepted (Ok u) lacks = IsAcceptedTable-longer old new accepted lacks
  answer_accepted (Err e) answers = accepted

  pub answer_exact : (r : Result (Unit {0}) TableError) → AnswersGrowth old new r → OnErr r (¬ (r ≡ Err fault.OutOfMemory) → ¬ (IsAcceptedTable (old ++ new)))
  answer_exact (Ok u) lacks = tt
  answer_exact (Err fault.OutOfMemory) lacks = λ apart. absurd (apart refl)
  answer_exact (Err e) first = λ apart. not_accepted old new accepted e first.here

  pub answer_memory : (r : Result (Unit {0}) TableError) → AnswersGrowth old new r → r ≡ Err fault.OutOfMemory → IsAcceptedTable (old ++ new)
  answer_memory r answers is = IsAcceptedTable-longer old new accepted (subst (AnswersGrowth old new) is answers)

-- ---- the interfaces of a table

-- those behind the fixed ones make the whole table
pub table_of-rest : (all rest : List Interface) → IsAcceptedTable (interface_rows all) → rest ≡ take (length all - 4) (drop 4 all) → table_of rest ≡ interface_rows all
table_of-rest all rest accepted is =
    let whole : rest ≡ drop 4 all = is ∙ take_all (length all - 4) (drop 4 all) (omega (arith, length-drop 4 all)) in
    ap table_of whole ∙ ap (λ rows. fixed_rows ++ rows) (sym (drop-map interface_row 4 all)) ∙ sym (fixed_first (interface_rows all) accepted)
