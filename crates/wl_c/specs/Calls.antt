-- What an export says of the call that it makes: of the session that the place held before it, of the one that it holds after it, of
-- the number that it answers, and of what it writes.
use Rattle.std.specs.Prelude.{◌≡◌, ◌==◌, ℕ, Bool, if◌then◌else◌, Option, Some, Result, Ok, Err}
use Rattle.wl_c.specs.Flags.{flag}
use Rattle.wl_flat.specs.Status.{code_of}
use Rattle.wl_flat.specs.declared.extending.ExtensionFault.{ExtensionFault}
use Rattle.wl_flat.specs.declared.rows.TableFault.{TableFault}
use Rattle.wl_flat.specs.declared.status.Status.{Status}

-- ---- how an answer goes out

-- its value is written, and the number is 0; or nothing is written, and the number is that of the status
abbrev pub Written : {A : Type 0} → Result A Status → ℕ → A → A → Type 0
Written (Ok x) code old new = (code ≡ 0) × (new ≡ x)
Written (Err s) code old new = (code ≡ code_of s) × (new ≡ old)

-- yes and no go out as 1 and 0
abbrev pub flagged : Result Bool Status → Result ℕ Status
flagged (Ok b) = Ok (flag b)
flagged (Err s) = Err s

-- ---- look-ups: the session that is held

-- answered a status, of which this holds
abbrev pub Told : {S : Type 0} → Option S → ℕ → (S → Status → Type 0) → Type 0
Told {S} held code R = (s : S) → held ≡ Some s → (status : Status) × (code ≡ code_of status) × R s status

-- gave an answer, of which this holds
abbrev pub Found : {S A : Type 0} → Option S → ℕ → A → A → (S → Result A Status → Type 0) → Type 0
Found {S} {A} held code old new R = (s : S) → held ≡ Some s → (answer : Result A Status) × Written answer code old new × R s answer

-- answered yes or no
abbrev pub FoundFlag : {S : Type 0} → Option S → ℕ → ℕ → ℕ → (S → Result Bool Status → Type 0) → Type 0
FoundFlag {S} held code old new R = (s : S) → held ≡ Some s → (answer : Result Bool Status) × Written (flagged answer) code old new × R s answer

-- ---- steps: the session that was held became the one that is

-- with a status, so that this holds
abbrev pub Did : {S : Type 0} → Option S → ℕ → Option S → (S → Status → S → Type 0) → Type 0
Did {S} before code after R = (s t : S) → before ≡ Some s → after ≡ Some t → (status : Status) × (code ≡ code_of status) × R s status t

-- with an answer, so that this holds
abbrev pub Gave : {S A : Type 0} → Option S → ℕ → A → A → Option S → (S → Result A Status → S → Type 0) → Type 0
Gave {S} {A} before code old new after R =
    (s t : S) → before ≡ Some s → after ≡ Some t → (answer : Result A Status) × Written answer code old new × R s answer t

-- with yes or no, so that this holds
abbrev pub GaveFlag : {S : Type 0} → Option S → ℕ → ℕ → ℕ → Option S → (S → Result Bool Status → S → Type 0) → Type 0
GaveFlag {S} before code old new after R =
    (s t : S) → before ≡ Some s → after ≡ Some t → (answer : Result Bool Status) × Written (flagged answer) code old new × R s answer t

-- ---- tables

-- the number for a table that is refused: for want of memory, which is fault 8, or for another fault
abbrev pub fault_code : TableFault → ℕ
fault_code refused = if refused.fault == 8 then 3 else 8

-- the table is taken, and the number is 0; or it is refused, and why is written
abbrev pub WrittenFault : Result (Unit {0}) TableFault → ℕ → TableFault → TableFault → Type 0
WrittenFault (Ok u) code old new = (code ≡ 0) × (new ≡ old)
WrittenFault (Err refused) code old new = (code ≡ fault_code refused) × (new ≡ refused)

-- a table was added to that of the session, or refused, so that this holds
abbrev pub Added : {S : Type 0} → Option S → ℕ → TableFault → TableFault → Option S → (S → Result (Unit {0}) TableFault → S → Type 0) → Type 0
Added {S} before code old new after R =
    (s t : S) → before ≡ Some s → after ≡ Some t → (answer : Result (Unit {0}) TableFault) × WrittenFault answer code old new × R s answer t

-- ---- whole rows

-- the number for rows that were refused, or of which only some were taken: for want of memory, which is fault 8, or for another fault
abbrev pub extension_code : ExtensionFault → ℕ
extension_code refused = if refused.fault == 8 then 3 else 8

-- the rows are taken, and the number is 0; or not all of them are, and why is written
abbrev pub WrittenExtension : Result (Unit {0}) ExtensionFault → ℕ → ExtensionFault → ExtensionFault → Type 0
WrittenExtension (Ok u) code old new = (code ≡ 0) × (new ≡ old)
WrittenExtension (Err refused) code old new = (code ≡ extension_code refused) × (new ≡ refused)

-- the table of the session was to be extended, so that this holds
abbrev pub Extended : {S : Type 0} → Option S → ℕ → ExtensionFault → ExtensionFault → Option S → (S → Result (Unit {0}) ExtensionFault → S → Type 0) → Type 0
Extended {S} before code old new after R =
    (s t : S) → before ≡ Some s → after ≡ Some t → (answer : Result (Unit {0}) ExtensionFault) × WrittenExtension answer code old new × R s answer t

-- ---- one whole interface

-- its number is written, and the number of the status is 0; or it is refused, and why is written
abbrev pub WrittenNumber : Result ℕ ExtensionFault → ℕ → ℕ → ℕ → ExtensionFault → ExtensionFault → Type 0
WrittenNumber (Ok joined) code number number' fault fault' = (code ≡ 0) × (number' ≡ joined) × (fault' ≡ fault)
WrittenNumber (Err refused) code number number' fault fault' = (code ≡ extension_code refused) × (number' ≡ number) × (fault' ≡ refused)

-- an interface was to join the table of the session, so that this holds
abbrev pub Joined : {S : Type 0} → Option S → ℕ → ℕ → ℕ → ExtensionFault → ExtensionFault → Option S → (S → Result ℕ ExtensionFault → S → Type 0) → Type 0
Joined {S} before code number number' fault fault' after R =
    (s t : S) → before ≡ Some s → after ≡ Some t → (answer : Result ℕ ExtensionFault) × WrittenNumber answer code number number' fault fault' × R s answer t
