-- Calls one after another, of any session.
--
-- A step is a call that changes something, with its arguments. What a step does is a relation of the value before it, its
-- reply, whether memory was refused in it, and the value after it.
use Rattle.std.specs.Prelude.{◌≡◌, ◌⊎◌, ℕ, Bool, true, false, List, [], ◌∷◌, ◌++◌, length}

-- a step of a run, its reply, and whether memory was refused in it
pub record RunEntry (Step Reply : Type 0) : Type 0 where
  pub step : Step
  pub answer : Reply
  pub refused : Bool

module _ {Step Reply : Type 0} where
  -- the steps in which no memory was refused, with their replies
  abbrev pub entries : List Step → List Reply → List (RunEntry Step Reply)
  entries [] replies = []
  entries (s ∷ steps) [] = []
  entries (s ∷ steps) (r ∷ replies) = record { step = s; answer = r; refused = false } ∷ entries steps replies

  -- nothing; or the step after the first n, in which memory was refused
  abbrev pub IsWhereItStops : List Step → ℕ → List (RunEntry Step Reply) → Type 0
  IsWhereItStops steps n [] = Unit {0}
  IsWhereItStops steps n (e ∷ []) =
      (e.refused ≡ true) × ((done : List Step) × (left : List Step) × (steps ≡ done ++ e.step ∷ left) × (length done ≡ n))
  IsWhereItStops steps n (e ∷ f ∷ run) = ⊥

-- the lists are equally long, and the replies at each place are the same
abbrev pub AllSame : {Reply : Type 0} → (Reply → Reply → Type 0) → List Reply → List Reply → Type 0
AllSame same [] [] = Unit {0}
AllSame same [] (r' ∷ replies') = ⊥
AllSame same (r ∷ replies) [] = ⊥
AllSame same (r ∷ replies) (r' ∷ replies') = same r r' × AllSame same replies replies'

module _ {State Step Reply : Type 0} (makes : State → Step → Reply → Bool → State → Type 0) where
  -- the entries lead from one value to another
  abbrev pub Leads : State → List (RunEntry Step Reply) → State → Type 0
  Leads before [] after = after ≡ before
  Leads before (e ∷ run) after = (mid : State) × makes before e.step e.answer e.refused mid × Leads mid run after

  -- A run stopped in the step after the first n. Either there was no memory for the replies, and nothing was done; or the
  -- steps before it were made with these replies, and memory was refused in it.
  abbrev pub StopsAt : State → List Step → ℕ → List Reply → State → Type 0
  StopsAt before steps n replies after =
      ((n ≡ 0) × (replies ≡ []) × (after ≡ before))
      ⊎ ((done : List Step) × (next : Step) × (left : List Step) × (answer : Reply) × (mid : State)
      × (steps ≡ done ++ next ∷ left) × (n ≡ length done) × (n ≡ length replies)
      × Leads before (entries done replies) mid × makes mid next answer true after)

  -- if memory is not refused, a step leaves one value, and any two replies to it are the same
  abbrev pub HasOneOutcome : (Reply → Reply → Type 0) → Type 0
  HasOneOutcome same =
      (before x y : State) (call : Step) (p q : Reply) → makes before call p false x → makes before call q false y → same p q × (x ≡ y)

-- ---- the parts of a run

-- This holds of each part of the run: whenever the entries before the part lead from the run's begin to the value in which
-- the part begins, and the part leads on from there.
abbrev pub EachPart : {S E : Type 0} → (S → List E → S → Type 0) → (S → List E → S → Type 0) → S → List E → Type 0
EachPart {S = S} {E = E} Leads Holds begun run =
    (earlier middle later : List E) (first last : S) → run ≡ earlier ++ (middle ++ later) → Leads begun earlier first → Leads first middle last
    → Holds first middle last
