-- Calls one after another, from new queues on, and the laws that hold of them.
use Rattle.std.specs.Prelude.{◌≡◌, ℕ, ◌+◌, ◌==◌, Bool, true, false, if◌then◌else◌, List, [], ◌∷◌, ◌++◌}
use Rattle.wl_queues.specs.declared.events.Event.{Event}
use Rattle.wl_queues.specs.declared.objects.Fate.{Fate}
use Rattle.wl_queues.specs.declared.objects.Fate.TheVariants.{Alive, Destroyed, Free}
use Rattle.wl_queues.specs.declared.objects.Object.{Object}
use Rattle.wl_queues.specs.Objects.{nobody}
use Rattle.wl_queues.specs.Queues.{Call, Add, Does, Dropped, Handed, IsAlike, IsUnnamed, Next, NextUnused, Outcome, Put, QueuesState}

abbrev pub is_handed : Outcome → Bool
is_handed (Handed ticket) = true
is_handed (Dropped reason) = false

-- how often a slot has an object
abbrev pub times_kept : Fate → ℕ
times_kept Free = 0
times_kept Alive = 1
times_kept Destroyed = 1

-- the content of a slot's object, if it has one
abbrev pub content_if : Fate → ℕ → List ℕ
content_if Free content = []
content_if Alive content = content ∷ []
content_if Destroyed content = content ∷ []

abbrev pub content_kept : Object → List ℕ
content_kept x = content_if x.fate x.content

module _ {E : Type 0} where
  -- queues as they are made: the default one, with no events, and no objects
  abbrev pub new_queues : QueuesState E
  new_queues = record {
    objects = λ o. nobody;
    queues = 1;
    is_dropped = λ queue. false;
    waiting = λ queue. [];
    in_hand = [];
    tickets = 0;
    failed = false;
  }

  -- the calls lead from one state to another
  abbrev pub Runs : QueuesState E → List (Call E) → QueuesState E → Type 0
  Runs s [] t = IsAlike s t
  Runs s (c ∷ calls) t = (mid : QueuesState E) × Does s c mid × Runs mid calls t

  -- ---- what comes into a queue, and what leaves it

  abbrev pub comes_by : ℕ → Call E → List (Event E)
  comes_by q (Put queue e) = if q == queue then e ∷ [] else []
  comes_by q _ = []

  abbrev pub leaves_by : ℕ → Call E → List (Event E)
  leaves_by q (Next queue e outcome) = if q == queue then e ∷ [] else []
  leaves_by q _ = []

  -- the events of a queue that are handed out
  abbrev pub hands_by : ℕ → Call E → List (Event E)
  hands_by q (Next queue e outcome) = if q == queue then (if is_handed outcome then e ∷ [] else []) else []
  hands_by q _ = []

  abbrev pub all_by : {A : Type 0} → (Call E → List A) → List (Call E) → List A
  all_by which [] = []
  all_by which (c ∷ calls) = which c ++ all_by which calls

  -- ---- how often an object comes into a slot, and is told unused

  abbrev pub added_by : ℕ → Call E → ℕ
  added_by o (Add object queue content) = if o == object then 1 else 0
  added_by o _ = 0

  abbrev pub told_by : ℕ → Call E → ℕ
  told_by o (NextUnused object content) = if o == object then 1 else 0
  told_by o _ = 0

  abbrev pub count_all : (Call E → ℕ) → List (Call E) → ℕ
  count_all count [] = 0
  count_all count (c ∷ calls) = count c + count_all count calls

  -- ---- which contents come into a slot, and are told with it

  abbrev pub content_added : ℕ → Call E → List ℕ
  content_added o (Add object queue content) = if o == object then content ∷ [] else []
  content_added o _ = []

  abbrev pub content_told : ℕ → Call E → List ℕ
  content_told o (NextUnused object content) = if o == object then content ∷ [] else []
  content_told o _ = []

-- ---- the laws

-- what came into a queue is what left it, in the same order, and behind that what waits
abbrev pub AccountsForQueues : Type 0 → Type 0
AccountsForQueues E =
    (calls : List (Call E)) (s : QueuesState E) → Runs new_queues calls s →
    (queue : ℕ) → all_by (comes_by queue) calls ≡ all_by (leaves_by queue) calls ++ s.waiting queue

-- each object that came into a slot was told unused once, but for the one that is there now
abbrev pub TellsEachObjectUnusedOnce : Type 0 → Type 0
TellsEachObjectUnusedOnce E =
    (calls : List (Call E)) (s : QueuesState E) → Runs new_queues calls s →
    (o : ℕ) → count_all (added_by o) calls ≡ count_all (told_by o) calls + times_kept (s.objects o).fate

-- the contents that came into a slot are those that were told with it, in the same order, and behind that the one that is there now
abbrev pub TellsEachContent : Type 0 → Type 0
TellsEachContent E =
    (calls : List (Call E)) (s : QueuesState E) → Runs new_queues calls s →
    (o : ℕ) → all_by (content_added o) calls ≡ all_by (content_told o) calls ++ content_kept (s.objects o)

-- no event that waits or is in hand names a slot that is free
abbrev pub NamesNoFreeObject : Type 0 → Type 0
NamesNoFreeObject E =
    (calls : List (Call E)) (s : QueuesState E) → Runs new_queues calls s →
    (o : ℕ) → (s.objects o).fate ≡ Free → IsUnnamed s o

-- once a queue was dropped, it is for good: no event comes into it, and none of it is handed out
abbrev pub DropsForGood : Type 0 → Type 0
DropsForGood E =
    (before later : List (Call E)) (s t : QueuesState E) → Runs new_queues before s → Runs s later t →
    (queue : ℕ) → s.is_dropped queue ≡ true →
    (t.is_dropped queue ≡ true) × (all_by (comes_by queue) later ≡ []) × (all_by (hands_by queue) later ≡ [])

-- once the session has failed, no event is handed out
abbrev pub HandsNoneOutAfterFailing : Type 0 → Type 0
HandsNoneOutAfterFailing E =
    (calls : List (Call E)) (s t : QueuesState E) → s.failed ≡ true → Runs s calls t →
    (t.failed ≡ true) × ((queue : ℕ) → all_by (hands_by queue) calls ≡ [])
