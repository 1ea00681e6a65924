-- The faults of interfaces and of tables.
use Rattle.std.proofs.Common.{◌≡◌, ℕ, zero, suc, ◌+◌, ◌<◌, ◌≤◌, ◌++◌, ◌∷◌, [], List, Bool, true, false, ◌||◌, eqb, IsTrue, Option, Some, None, Result, Err, ◌↔◌, length, take, map, get_or, refl, sym, ap, ◌∙◌, subst, arith, length-append, inl, inr, cond}
use Rattle.std.specs.List.{list_any, slice_get}
use Rattle.std.specs.Option.{IsSomeAnd}
use Rattle.std.specs.Str.{bytes_eq}
use Rattle.std.specs.String.{string_bytes}
use Rattle.std.proofs.Math.Bool.{or_assoc}
use Rattle.std.proofs.Math.Seq.{take-append-add}
use Rattle.std.proofs.lemmas.Bool.Decides.{same_from_decides}
use Rattle.std.proofs.lemmas.Slice.Eq.{bytes_eq-Decides}
use Rattle.std.proofs.lemmas.Bool.{cases_eq, cases_order, eq-eqb, ne_eqb, false≢true}
use Rattle.std.proofs.lemmas.List.{get_or-append-add, get_or-map, length-map, take-map, map-append}
use Rattle.std.proofs.lemmas.List.Folds.{list_any-append, list_any_none, list_any_more}
use Rattle.std.proofs.lemmas.Option.{slice_get-get_or, slice_get_past}
use Rattle.wl_wire.specs.declared.interface.Interface.{Interface}
use Rattle.wl_wire.specs.declared.interface.MessageDesc.{MessageDesc}
use Rattle.wl_wire.specs.declared.protocol.TableError.{TableError}
use Rattle.wl_wire.specs.declared.protocol.TableError.TheVariants as fault
use Rattle.wl_wire.specs.Inside.TableCheck.{is_repeated_behind, LacksFirst}
use Rattle.wl_wire.specs.Table.{MessageRow, InterfaceRow, messages, message_row, interface_row, interface_rows, fixed_rows, table_of, is_taken, is_repeated, is_at_fault, is_message_at_fault, rank, place, HasFault, HasFaultFrom, IsFirstFaultFrom, IsAcceptedTable}

pub list_any-map : {X Y : Type 0} (p : Y → Bool) (f : X → Y) (xs : List X) → list_any p (map f xs) ≡ list_any (λ x. p (f x)) xs
list_any-map p f [] = refl
list_any-map p f (x ∷ xs) = ap (λ b. p (f x) || b) (list_any-map p f xs)

-- a test of messages, requests and events apart
pub any_message : (p : MessageRow → Bool) (requests events : List MessageDesc)
    → list_any p (map message_row requests ++ map message_row events) ≡ (list_any (λ m. p (message_row m)) requests || list_any (λ m. p (message_row m)) events)
any_message p requests events =
    list_any-append p (map message_row requests) (map message_row events)
    ∙ ap (λ b. b || list_any p (map message_row events)) (list_any-map p message_row requests)
    ∙ ap (λ b. list_any (λ m. p (message_row m)) requests || b) (list_any-map p message_row events)

-- ---- a list of interfaces behind those of a table

length-behind : (table : List InterfaceRow) (xs : List Interface) → length (table ++ interface_rows xs) ≡ length table + length xs
length-behind table xs = length-append table (interface_rows xs) ∙ ap (λ n. length table + n) (length-map xs interface_row)

pub length-table_of : (xs : List Interface) → length (table_of xs) ≡ 4 + length xs
length-table_of xs = length-behind fixed_rows xs

-- how many interfaces there are with those that are kept
pub count_behind : (kept xs : List Interface) → length (table_of kept ++ interface_rows xs) ≡ 4 + length kept + length xs
count_behind kept xs = length-behind (table_of kept) xs ∙ ap (λ n. n + length xs) (length-table_of kept)

pub row_there : (table : List InterfaceRow) (xs : List Interface) (i : ℕ) (x : Interface) → i < length xs → x ≡ get_or xs i x
    → slice_get (table ++ interface_rows xs) (length table + i) ≡ Some (interface_row x)
row_there table xs i x lt is =
    let inside : length table + i < length (table ++ interface_rows xs) = omega (arith, lt, length-behind table xs) in
    slice_get-get_or (table ++ interface_rows xs) (length table + i) (interface_row x) inside
    ∙ ap Some (get_or-append-add table (interface_rows xs) i (interface_row x) ∙ get_or-map interface_row xs i x (interface_row x) lt ∙ ap interface_row (sym is))

-- ---- which names are taken

-- one of the interfaces has the name
abbrev pub is_named : List ℕ → List Interface → Bool
is_named name xs = list_any (λ e. bytes_eq name (string_bytes e.name)) xs

is_taken-behind : (table : List InterfaceRow) (xs : List Interface) (name : List ℕ) → is_taken (table ++ interface_rows xs) name ≡ (is_taken table name || is_named name xs)
is_taken-behind table xs name =
    list_any-append (λ row. bytes_eq name row.name) table (interface_rows xs)
    ∙ ap (λ b. is_taken table name || b) (list_any-map (λ row. bytes_eq name row.name) interface_row xs)

module _ (kept xs : List Interface) (i : ℕ) (x : Interface) (lt : i < length xs) (is : x ≡ get_or xs i x) where
  -- by a fixed interface, by one of those kept, or by an earlier one of the list
  is_repeated-there : is_repeated_behind kept xs i ≡ ((is_taken fixed_rows (string_bytes x.name) || is_named (string_bytes x.name) kept) || is_named (string_bytes x.name) (take i xs))
  is_repeated-there =
      rw (row_there (table_of kept) xs i x lt is)
      (ap (λ rows. is_taken rows (string_bytes x.name)) (take-append-add (table_of kept) (interface_rows xs) i ∙ ap (λ rows. table_of kept ++ rows) (take-map interface_row i xs))
      ∙ is_taken-behind (table_of kept) (take i xs) (string_bytes x.name)
      ∙ ap (λ b. b || is_named (string_bytes x.name) (take i xs)) (is_taken-behind fixed_rows kept (string_bytes x.name)))

  pub is_repeated-fixed : is_taken fixed_rows (string_bytes x.name) ≡ true → is_repeated_behind kept xs i ≡ true
  is_repeated-fixed fixed =
      is_repeated-there ∙ ap (λ b. (b || is_named (string_bytes x.name) kept) || is_named (string_bytes x.name) (take i xs)) fixed

  pub is_repeated-not_fixed : is_taken fixed_rows (string_bytes x.name) ≡ false
      → is_repeated_behind kept xs i ≡ (list_any (λ e. bytes_eq (string_bytes x.name) (string_bytes e.name)) kept || list_any (λ e. bytes_eq (string_bytes x.name) (string_bytes e.name)) (take i xs))
  is_repeated-not_fixed free =
      is_repeated-there ∙ ap (λ b. (b || is_named (string_bytes x.name) kept) || is_named (string_bytes x.name) (take i xs)) free

-- it is repeated exactly at the first repeat
pub is_repeated-first : (kept xs : List Interface) (i n : ℕ) → i < length xs → i ≤ n → ((k : ℕ) → k < n → is_repeated_behind kept xs k ≡ false)
    → (n < length xs → is_repeated_behind kept xs n ≡ true) → is_repeated_behind kept xs i ≡ eqb i n
is_repeated-first kept xs i n lt le before here =
    elim (cases_eq i n) [ inl same ↦ ap (is_repeated_behind kept xs) same ∙ here (omega arith) ∙ sym (eq-eqb i n same) | inr other ↦ before i (omega arith) ∙ sym (ne_eqb i n other) ]

-- ---- the names so far, in a set

bytes_eq-sym : (xs ys : List ℕ) → bytes_eq xs ys ≡ bytes_eq ys xs
bytes_eq-sym xs ys =
    let one = bytes_eq-Decides xs ys in
    let two = bytes_eq-Decides ys xs in
    same_from_decides (bytes_eq xs ys) (bytes_eq ys xs) one (λ t. sym (two.0 t), λ e. two.1 (sym e))

or_is : (b a : Bool) → cond b true a ≡ (a || b)
or_is true true = refl
or_is true false = refl
or_is false true = refl
or_is false false = refl

-- one more name; `before` says whether an interface before the list has it
pub known_more : (before : Bool) (xs : List Interface) (i : ℕ) (x : Interface) (key name : List ℕ) (was is_in : Bool) → i < length xs → x ≡ get_or xs i x → key ≡ string_bytes x.name
    → was ≡ (before || list_any (λ e. bytes_eq name (string_bytes e.name)) (take i xs)) → is_in ≡ cond (bytes_eq key name) true was
    → is_in ≡ (before || list_any (λ e. bytes_eq name (string_bytes e.name)) (take (i + 1) xs))
known_more before xs i x key name was is_in lt is same known updated =
    let one : bytes_eq key name ≡ bytes_eq name (string_bytes (get_or xs i x).name) = bytes_eq-sym key name ∙ ap (λ k. bytes_eq name k) (same ∙ ap (λ (y : Interface). string_bytes y.name) is) in
    updated ∙ or_is (bytes_eq key name) was ∙ ap (λ b. b || bytes_eq key name) known ∙ ap (λ b. (before || is_named name (take i xs)) || b) one
    ∙ or_assoc before (is_named name (take i xs)) (bytes_eq name (string_bytes (get_or xs i x).name))
    ∙ ap (λ b. before || b) (sym (list_any_more (λ e. bytes_eq name (string_bytes e.name)) xs i x lt))

-- ---- faults by place and rank

abbrev pub fault_of : ℕ → ℕ → TableError
fault_of i zero = fault.ZeroInName i
fault_of i (suc zero) = fault.DuplicateName i
fault_of i (suc (suc zero)) = fault.UnknownInterface i
fault_of i (suc (suc (suc zero))) = fault.TooManyNewIds i
fault_of i (suc (suc (suc (suc zero)))) = fault.MissingChild i
fault_of i (suc (suc (suc (suc (suc zero))))) = fault.ArgInterfaces i
fault_of i (suc (suc (suc (suc (suc (suc n)))))) = fault.OutOfMemory

pub fault_of-rank : (e : TableError) → fault_of (place e) (rank e) ≡ e
fault_of-rank fault.OutOfMemory = refl
fault_of-rank _ = refl

-- whether an interface has a fault goes by the fault's rank alone
at_rank : (taken : Bool) (count : ℕ) (row : InterfaceRow) (e : TableError) → is_at_fault taken count row e ≡ is_at_fault taken count row (fault_of 0 (rank e))
at_rank taken count row fault.OutOfMemory = refl
at_rank taken count row _ = refl

pub same_rank : (taken : Bool) (count : ℕ) (row : InterfaceRow) (e f : TableError) → rank e ≡ rank f → is_at_fault taken count row e ≡ is_at_fault taken count row f
same_rank taken count row e f same =
    at_rank taken count row e ∙ ap (λ n. is_at_fault taken count row (fault_of 0 n)) same ∙ sym (at_rank taken count row f)

-- a want of memory is no fault of an interface
no_want_of_memory : (taken : Bool) (count : ℕ) (row : InterfaceRow) → is_at_fault taken count row fault.OutOfMemory ≡ false
no_want_of_memory taken count row = list_any_none (λ m. is_message_at_fault count m fault.OutOfMemory) (messages row) (λ k d lt. refl)

pub LacksFirst-none : (taken : Bool) (count : ℕ) (row : InterfaceRow) → LacksFirst 0 taken count row
LacksFirst-none taken count row e lt = absurd (omega arith)

pub LacksFirst-more : (n : ℕ) (taken : Bool) (count : ℕ) (row : InterfaceRow) (e : TableError) → LacksFirst n taken count row → rank e ≡ n → is_at_fault taken count row e ≡ false → LacksFirst (n + 1) taken count row
LacksFirst-more n taken count row e so_far here lacks f lt =
    elim (cases_eq (rank f) n) [ inl same ↦ same_rank taken count row f e (same ∙ sym here) ∙ lacks | inr other ↦ so_far f (omega arith) ]

pub LacksFirst-all : (taken : Bool) (count : ℕ) (row : InterfaceRow) → LacksFirst 6 taken count row → LacksFirst 7 taken count row
LacksFirst-all taken count row so_far = LacksFirst-more 6 taken count row fault.OutOfMemory so_far refl (no_want_of_memory taken count row)

rank-small : (e : TableError) → rank e < 7
rank-small fault.OutOfMemory = omega arith
rank-small _ = omega arith

-- ---- the faults of a table

-- the interface at a place of the table has the fault
abbrev pub At : List InterfaceRow → ℕ → TableError → Type 0
At table n e = IsSomeAnd (slice_get table n) (λ row. IsTrue (is_at_fault (is_repeated table n) (length table) row e))

pub none_past : (begin : ℕ) (table : List InterfaceRow) (e : TableError) → length table ≤ begin + place e → ¬ (HasFaultFrom begin table e)
none_past begin table e le has = rw (slice_get_past table (begin + place e) le) at has

-- the row at a place of the caller's list, and whether its name is taken
module _ (begin : ℕ) (table : List InterfaceRow) (i count : ℕ) (row : InterfaceRow) (taken : Bool)
    (many : length table ≡ count) (there : slice_get table (begin + i) ≡ Some row) (repeats : is_repeated table (begin + i) ≡ taken) where
  same_there : (e : TableError) → At table (begin + i) e ≡ IsTrue (is_at_fault taken count row e)
  same_there e = rw (repeats, there, many) refl

  HasFault-there : (e : TableError) → place e ≡ i → IsTrue (is_at_fault taken count row e) → HasFaultFrom begin table e
  HasFault-there e at faulty = subst (λ n. At table (begin + n) e) (sym at) (subst (λ (P : Type 0). P) (sym (same_there e)) faulty)

  faulty_there : (e : TableError) → place e ≡ i → HasFaultFrom begin table e → IsTrue (is_at_fault taken count row e)
  faulty_there e at has = subst (λ (P : Type 0). P) (same_there e) (subst (λ n. At table (begin + n) e) at has)

  module _ (none_before : (e : TableError) → place e < i → ¬ (HasFaultFrom begin table e)) where
    -- the interface lacks all faults
    pub no_fault_more : LacksFirst 7 taken count row → (e : TableError) → place e < i + 1 → ¬ (HasFaultFrom begin table e)
    no_fault_more lacks e small has =
        elim (cases_eq (place e) i) [
          | inl same ↦ false≢true (sym (lacks e (rank-small e)) ∙ faulty_there e same has)
          | inr other ↦ none_before e (omega arith) has
        ]

    -- the interface's first fault is the table's
    pub IsFirstFault-there : (e : TableError) → place e ≡ i → IsTrue (is_at_fault taken count row e) → LacksFirst (rank e) taken count row → IsFirstFaultFrom begin table e
    IsFirstFault-there e at faulty lacks = record {
      here = HasFault-there e at faulty;
      first = λ f before has. elim before [
        | inl earlier ↦ none_before f (omega arith) has
        | inr same ↦ false≢true (sym (lacks f same.1) ∙ faulty_there f (same.0 ∙ at) has)
      ];
    }

-- ---- the answer

-- one fault is the first
pub IsFirstFault-unique : (begin : ℕ) (table : List InterfaceRow) (e f : TableError) → IsFirstFaultFrom begin table e → IsFirstFaultFrom begin table f → e ≡ f
IsFirstFault-unique begin table e f one two =
    elim (cases_order (place e) (place f)) [
      | inl places ↦ elim (cases_order (rank e) (rank f)) [
        | inl ranks ↦ sym (fault_of-rank e) ∙ ap (λ i. fault_of i (rank e)) places ∙ ap (λ n. fault_of (place f) n) ranks ∙ fault_of-rank f
        | inr apart ↦ elim apart [ inl below ↦ absurd (two.first e (inr (places, below)) one.here) | inr above ↦ absurd (one.first f (inr (sym places, above)) two.here) ]
      ]
      | inr apart ↦ elim apart [ inl below ↦ absurd (two.first e (inl below) one.here) | inr above ↦ absurd (one.first f (inl above) two.here) ]
    ]

-- a want of memory is no fault of a table
pub no_fault_of_memory_at : (table : List InterfaceRow) (n : ℕ) → ¬ (At table n fault.OutOfMemory)
no_fault_of_memory_at table n = at (slice_get table n)
  where
    at : (o : Option InterfaceRow) → ¬ (IsSomeAnd o (λ row. IsTrue (is_at_fault (is_repeated table n) (length table) row fault.OutOfMemory)))
    at None has = has
    at (Some row) has = false≢true (sym (no_want_of_memory (is_repeated table n) (length table) row) ∙ has)

pub no_fault_of_memory : (begin : ℕ) (table : List InterfaceRow) → ¬ (HasFaultFrom begin table fault.OutOfMemory)
no_fault_of_memory begin table = no_fault_of_memory_at table (begin + 0)

pub IsAcceptedTable-table_of : (xs : List Interface) → ((e : TableError) → ¬ (HasFault (table_of xs) e)) → IsAcceptedTable (table_of xs)
IsAcceptedTable-table_of xs none = record { fixed = refl; no_fault = none }

module _ {X : Type 0} (begin : ℕ) (table : List InterfaceRow) (r : Result X TableError) where
  -- the first fault is answered
  pub refused : (e : TableError) → r ≡ Err e → IsFirstFaultFrom begin table e → (f : TableError) → (r ≡ Err f) ↔ IsFirstFaultFrom begin table f
  refused e is first f =
      (λ other. let same : e ≡ f = cc in subst (IsFirstFaultFrom begin table) same first, λ other. is ∙ ap Err (IsFirstFault-unique begin table e f first other))

  -- there is no fault, and none is answered
  pub not_refused : (f : TableError) → ¬ (r ≡ Err f) → ((e : TableError) → ¬ (HasFaultFrom begin table e)) → (r ≡ Err f) ↔ IsFirstFaultFrom begin table f
  not_refused f apart none = (λ is. absurd (apart is), λ first. absurd (none f first.here))

-- the fixed interfaces and the caller's behind them are an accepted table
pub IsAcceptedTable-joined : (fixed xs joined : List Interface) → interface_rows fixed ≡ fixed_rows → joined ≡ fixed ++ xs
    → ((e : TableError) → ¬ (HasFault (table_of xs) e)) → IsAcceptedTable (interface_rows joined)
IsAcceptedTable-joined fixed xs joined is_fixed is_joined none =
    let rows : interface_rows joined ≡ table_of xs = ap interface_rows is_joined ∙ map-append interface_row fixed xs ∙ ap (λ rows. rows ++ interface_rows xs) is_fixed in
    rw rows (IsAcceptedTable-table_of xs none)
