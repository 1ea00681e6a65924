-- What an export of the queues says of a call that answers that it was done, or why not; and what it writes of an object that is unused.
use Rattle.std.specs.Prelude.{◌≡◌, ℕ, Option, Some, Result, Ok, Err}
use Rattle.wl_flat.specs.Status.{code_of}
use Rattle.wl_flat.specs.declared.status.Status.{Status}
use Rattle.wl_queues.specs.declared.objects.UnusedObject.{UnusedObject}

-- the number of such an answer
abbrev pub number_of : Result (Unit {0}) Status → ℕ
number_of (Ok u) = 0
number_of (Err s) = code_of s

-- the queues that were held became those that are, with such an answer, so that this holds
abbrev pub Answered : {S : Type 0} → Option S → ℕ → Option S → (S → Result (Unit {0}) Status → S → Type 0) → Type 0
Answered {S} before code after R =
    (s t : S) → before ≡ Some s → after ≡ Some t → (answer : Result (Unit {0}) Status) × (code ≡ number_of answer) × R s answer t

-- what is told of an object that is unused, by its slot and its content
abbrev pub unused : ℕ → ℕ → UnusedObject
unused object content = record { object = object; content = content }
