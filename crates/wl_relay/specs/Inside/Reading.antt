-- What the program has read of its input, line by line.
use Rattle.std.specs.Prelude.{⊤, ◌≡◌, ℕ, suc, ◌+◌, List, ◌∷◌, ◌++◌, length, Option, Some, IfSome, []}
use Rattle.std.specs.Io.KnownBytes.{Appends}
use Rattle.wl_wire.specs.Table.{InterfaceRow}
use Rattle.wl_relay.specs.declared.mode.Mode.{Mode}
use Rattle.wl_relay.specs.declared.stop.Stop.{Stop}
use Rattle.wl_relay.specs.declared.stop.Stop.TheVariants.{BadLine, BadTable, Failed}
use Rattle.wl_relay.specs.Flow.{RelayState}
use Rattle.wl_relay.specs.Input.{Line, lines, text_of}
use Rattle.wl_relay.specs.Program.{Answer, AreRows, HasBadTable, HasTable, LacksTable}

-- a line was read, and the reader goes on after it
abbrev pub ReadsLine : Option (List ℕ) → Line → Option (List ℕ) → Type 0
ReadsLine now line next = IfSome now (λ input. (rest : List ℕ) × (next ≡ Some rest) × (lines input ≡ line ∷ lines rest))

-- no line is left
abbrev pub HasNoLine : Option (List ℕ) → Type 0
HasNoLine now = IfSome now (λ input. lines input ≡ [])

-- rows were read, which say these interfaces, and the next line has this number
abbrev pub HasRows : ℕ → Option (List ℕ) → Option (List ℕ) → List InterfaceRow → Type 0
HasRows n whole now rows = IfSome whole
    (λ input. (rest : List ℕ) × (now ≡ Some rest) × (front : List Line) × (lines input ≡ front ++ lines rest) × (n ≡ suc (length front))
    × AreRows [] front rows)

-- rows were read up to the line of this number, which ends the table
abbrev pub FindsTable : Option (List ℕ) → ℕ → Mode → List InterfaceRow → Option (List ℕ) → Type 0
FindsTable whole number mode rows now =
    IfSome whole (λ input. (rest : List ℕ) × (now ≡ Some rest) × HasTable (lines input) mode rows number (lines rest))

-- why a table was not read
abbrev pub StopsInTable : Option (List ℕ) → Stop → Type 0
StopsInTable whole (BadLine n) = IfSome whole (λ input. LacksTable (lines input) n)
StopsInTable whole (BadTable f) = IfSome whole (λ input. HasBadTable (lines input) f)
StopsInTable whole Failed = ⊤

-- lines were read and answered, and the next one has this number; `before` lines stand before the first of them
abbrev pub HasAnswered : Mode → ℕ → ℕ → Option (List ℕ) → Option (List ℕ) → RelayState → RelayState → Option (List ℕ) → Option (List ℕ) → Type 0
HasAnswered mode before n whole now begun relay held held' = IfSome whole
    (λ input. (rest : List ℕ) × (now ≡ Some rest) × (front out : List Line) × (lines input ≡ front ++ lines rest)
    × (n ≡ suc (before + length front)) × Answer mode begun front out relay × Appends held held' (text_of out))
