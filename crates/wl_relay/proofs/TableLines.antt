-- The lines of the table, one after another.
use Rattle.std.proofs.Common.{◌≡◌, ℕ, ◌<◌, ◌+◌, List, [], ◌∷◌, ◌++◌, length, length-append, append_assoc, append-nil, Option, None, Some, refl, sym, ap, subst, ◌∙◌, arith}
use Rattle.std.specs.Prelude.{IfSome}
use Rattle.std.specs.Io.BufRead.{drop_through, strip_last, take_through}
use mathlib.Core.Logic.{inl, inr}
use Rattle.wl_wire.specs.Table.{InterfaceRow}
use Rattle.wl_relay.specs.declared.mode.Mode.{Mode}
use Rattle.wl_relay.specs.Input.{Line, lines}
use Rattle.wl_relay.specs.Inside.Reading.{FindsTable, HasNoLine, HasRows, ReadsLine}
use Rattle.wl_relay.specs.Program.{AreRows, EndsTable, IsBadRow, IsRow, LacksTable}
use Rattle.wl_relay.proofs.InputLines.{first_line, is_first, some_input}

-- ---- a line

-- something was read, up to a line feed or the end: it is the first line
pub reads_line : (now next : Option (List ℕ)) (before line : List ℕ) → before ≡ [] → 0 < length line
    → IfSome now (λ xs. line ≡ before ++ take_through 10 xs) → IfSome now (λ xs. next ≡ Some (drop_through 10 xs)) → ReadsLine now (strip_last 10 line) next
reads_line None next before line empty some read left = tt
reads_line (Some input) next before line empty some read left =
    let all = read ∙ ap (λ (b : List ℕ). b ++ take_through 10 input) empty in
    let first = is_first input line (strip_last 10 line) all refl in (
      drop_through 10 input,
      left,
      first_line input (some_input input line all some) ∙ ap (λ (l : Line). l ∷ lines (drop_through 10 input)) (sym first),
    )

-- the line that was read, by what is lent of it
pub reads_lent : (now next : Option (List ℕ)) (line lent front : List ℕ) → lent ≡ line → front ≡ strip_last 10 lent
    → ReadsLine now (strip_last 10 line) next → ReadsLine now front next
reads_lent now next line lent front whole cut read = subst (λ (l : Line). ReadsLine now l next) (sym (cut ∙ ap (strip_last 10) whole)) read

-- ---- rows

rows_more : (front : List Line) (line : Line) (a b c : List InterfaceRow) → AreRows a front b → IsRow b line c → AreRows a (front ++ line ∷ []) c
rows_more [] line a b c same is = (c, subst (λ (rows : List InterfaceRow). IsRow rows line c) same is, refl)
rows_more (first ∷ front) line a b c (mid, is_first, rest) is = (mid, is_first, rows_more front line mid b c rest is)

pub rows_next : (n : ℕ) (whole now next : Option (List ℕ)) (line : Line) (rows rows' : List InterfaceRow) → HasRows n whole now rows
    → ReadsLine now line next → IsRow rows line rows' → HasRows (n + 1) whole next rows'
rows_next n None now next line rows rows' h read is = tt
rows_next n (Some input) now next line rows rows' (rest, e, front, same, number, are) read is =
    let r = subst (λ (o : Option (List ℕ)). ReadsLine o line next) e read in
    let size = length-append front (line ∷ []) in (
      r.0,
      r.1,
      front ++ line ∷ [],
      same ∙ ap (λ (l : List Line). front ++ l) r.2 ∙ sym (append_assoc front (line ∷ []) (lines r.0)),
      omega (arith, size, number),
      rows_more front line [] rows rows' are is,
    )

pub rows_end : (n : ℕ) (whole now next : Option (List ℕ)) (line : Line) (mode : Mode) (rows : List InterfaceRow) → HasRows n whole now rows
    → ReadsLine now line next → EndsTable mode line → FindsTable whole n mode rows next
rows_end n None now next line mode rows h read ends = tt
rows_end n (Some input) now next line mode rows (rest, e, front, same, number, are) read ends =
    let r = subst (λ (o : Option (List ℕ)). ReadsLine o line next) e read in (
      r.0,
      r.1,
      record {
        front = front;
        last = line;
        lines_are = same ∙ ap (λ (l : List Line). front ++ l) r.2;
        are_rows = are;
        ends = ends;
        count_is = number;
      },
    )

pub rows_bad : (n : ℕ) (whole now next : Option (List ℕ)) (line : Line) (rows : List InterfaceRow) → HasRows n whole now rows
    → ReadsLine now line next → IsBadRow rows line → IfSome whole (λ input. LacksTable (lines input) n)
rows_bad n None now next line rows h read bad = tt
rows_bad n (Some input) now next line rows (rest, e, front, same, number, are) read bad =
    let r = subst (λ (o : Option (List ℕ)). ReadsLine o line next) e read in
    (front, rows, are, number, inr (line, lines r.0, same ∙ ap (λ (l : List Line). front ++ l) r.2, bad))

pub rows_none : (n : ℕ) (whole now : Option (List ℕ)) (rows : List InterfaceRow) → HasRows n whole now rows → HasNoLine now
    → IfSome whole (λ input. LacksTable (lines input) n)
rows_none n None now rows h none = tt
rows_none n (Some input) now rows (rest, e, front, same, number, are) none =
    let left = subst HasNoLine e none in
    (front, rows, are, number, inl (same ∙ ap (λ (l : List Line). front ++ l) left ∙ append-nil front))
