-- That servers that are the same, and make the same calls, have the same notes in the same order.
use Rattle.std.proofs.Common.{◌≡◌, ◌∙◌, ℕ, zero, suc, ◌+◌, ◌<◌, ◌≤◌, Bool, true, false, List, [], ◌∷◌, ◌++◌, length, map, take, drop, Option, None, Some, is_some, Ok, Err, Vec, refl, sym, ap, ap₂, subst, arith, append-nil, append_assoc, true≢false}
use Rattle.std.specs.Global.{Global}
use Rattle.std.specs.Option.{option_map_or}
use Rattle.std.specs.Prelude.{IsPermutation, nat_lt}
use Rattle.std.proofs.lemmas.Bool.{eq-eqb, eqb-true, false≢true, ltb-false, ltb-true}
use Rattle.std.proofs.Math.Seq.{drop-append_seam, take-append_seam}
use Rattle.std.proofs.lemmas.List.{append_cancel_left, length-append, length-map, map-append}
use Rattle.std.proofs.lemmas.List.Sorted.{sum_by-IsPermutation}
use Rattle.wl_server_client.specs.declared.notes.Happening.{Happening}
use Rattle.wl_server_client.specs.declared.notes.Note.{Note}
use Rattle.wl_server_client.specs.declared.notes.queues.NoteNumbers.{NoteNumbers}
use Rattle.wl_server_client.specs.declared.notes.queues.NotePlace.{NotePlace}
use Rattle.wl_server_model.specs.declared.step.Reply.{Reply}
use Rattle.wl_server_model.specs.declared.step.Reply.TheVariants as reply
use Rattle.wl_server_model.specs.declared.step.Step.TheVariants as step
use Rattle.wl_server_client.specs.Deeds.{Deed}
use Rattle.wl_server_client.specs.Ids.{ClientParts}
use Rattle.wl_server_model.specs.NoteOrder.{AllNumbered, AllTakeFirst, InTurn, Rise, RiseFromSlot, all_places, slot_of, times_at}
use Rattle.wl_server_client.specs.NoteTimes.{number_past, numbers_from, places_of, times_of}
use Rattle.wl_server_model.specs.Outcome.{SameCall}
use Rattle.wl_server_model.specs.Outcome.Whole.{OrdersSame}
use Rattle.wl_server_model.specs.PartStep.{Asked, Call, PartCall, World}
use Rattle.wl_server_client.specs.Stored.{NoteTimes, Stored, no_times, note_of}
use Rattle.wl_server_model.specs.Server.{ServerState, client_at, notes_of, seen, stored_at, told_of}
use Rattle.wl_server_model.specs.Steps.{Entry, GathersNotes, HandsOutNotes, MakesNotes, NotesGoOn, OneStep, lacks_growth}
use Rattle.wl_server_client.proofs.CallSteps.Numbers.{gives_none}
use Rattle.wl_server_model.proofs.CallSteps.Numbering.{times_stored}
use Rattle.wl_server_model.proofs.CleanupSteps.Gathering.{notes_append}
use Rattle.wl_server_model.proofs.OverRuns.Noted.NotesInOrder.{Takes, begins_so, happening_of, id_of, made_of, note_is, one_client, own_first, slot_is, told_so}
use Rattle.wl_server_model.proofs.OverRuns.Noted.PlacesInOrder.{sorted_of, in_slot, like, often, one_order}
use Rattle.wl_server_model.proofs.OverRuns.Outcome.WholeLaws.{found, slot_same, told_at}
use Rattle.wl_server_model.proofs.CallSteps.Slots.{same_slots}

-- ---- lists

-- two fronts of the same list are one if they are as long
pub fronts_one : {A : Type 0} (xs ys zs ws : List A) → xs ++ ys ≡ zs ++ ws → length xs ≡ length zs → (xs ≡ zs) × (ys ≡ ws)
fronts_one xs ys zs ws is long = (
  sym (take-append_seam xs ys) ∙ ap₂ take long is ∙ take-append_seam zs ws,
  sym (drop-append_seam xs ys) ∙ ap₂ drop long is ∙ drop-append_seam zs ws,
)

-- and so are two ends
ends_of_one : {A : Type 0} (xs ys zs ws : List A) → xs ++ ys ≡ zs ++ ws → length ys ≡ length ws → ys ≡ ws
ends_of_one xs ys zs ws is long = (fronts_one xs ys zs ws is (omega (arith, length-append xs ys, length-append zs ws, ap length is, long))).1

no_end : {A : Type 0} (xs ys : List A) → xs ++ ys ≡ [] → ys ≡ []
no_end [] ys is = is
no_end (x ∷ xs) ys is = absurd cc

-- ---- places in order

no_places : (waits : Bool) (slot : ℕ) → places_of waits slot no_times ≡ []
no_places h1 slot = grind (arith)

places_one : (waits : Bool) (slot : ℕ) (ts us : List NoteTimes) → ((k : ℕ) → times_at k ts ≡ times_at k us)
    → all_places waits slot ts ≡ all_places waits slot us
places_one waits slot [] [] same = refl
places_one waits slot [] (u ∷ us) same =
    grind (arith, same 0, no_places waits slot, append-nil, places_one waits (slot + 1) [] us (λ k. same (suc k)))
places_one waits slot (t ∷ ts) [] same =
    grind (arith, same 0, no_places waits slot, append-nil, places_one waits (slot + 1) ts [] (λ k. same (suc k)))
places_one waits slot (t ∷ ts) (u ∷ us) same = grind (arith, same 0, places_one waits (slot + 1) ts us (λ k. same (suc k)))

orders_one : (waits : Bool) (ts us : List NoteTimes) (a b : List NotePlace) → Rise a → IsPermutation (all_places waits 0 ts) a → Rise b
    → IsPermutation (all_places waits 0 us) b
    → ((k : ℕ) → times_at k ts ≡ times_at k us) → a ≡ b
orders_one waits ts us a b up moved up' moved' same =
    one_order a b (sorted_of a up) (sorted_of b up')
    (λ q. sum_by-IsPermutation (in_slot q.slot (like q)) (all_places waits 0 ts) a moved
    ∙ (ap (often q) (places_one waits 0 ts us same) ∙ sym (sum_by-IsPermutation (in_slot q.slot (like q)) (all_places waits 0 us) b moved')))

-- ---- numbers in turn

module _ (of : NoteTimes → List ℕ) where
  turn_one : (n : ℕ) (ts us ts' us' : List NoteTimes) (a c b d : ℕ) → ((k : ℕ) → of (times_at k ts) ≡ of (times_at k us))
      → ((k : ℕ) → length (of (times_at k ts')) ≡ length (of (times_at k us'))) → a ≡ c → InTurn of n ts a ts' b → InTurn of n us c us' d
      → (b ≡ d) × ((k : ℕ) → k < n → of (times_at k ts') ≡ of (times_at k us'))
  turn_one zero ts us ts' us' a c b d same long next is is' = (is ∙ (next ∙ sym is'), λ k below. absurd (omega (arith, below)))
  turn_one (suc n) ts us ts' us' a c b d same long next (mid, turn, gives) (mid', turn', gives') =
      grind (arith, times_at, number_past, length-append, numbers_from, eqb-true, false≢true, eq-eqb, same n, long n, turn_one n ts us ts' us' a c mid mid' same long next turn turn')

  -- no client of a higher slot got a number
  turn_on : (j n : ℕ) (ts : List NoteTimes) (a : ℕ) (ts' : List NoteTimes) (b : ℕ) → ((k : ℕ) → n ≤ k → times_at k ts' ≡ times_at k ts)
      → InTurn of n ts a ts' b
      → InTurn of (j + n) ts a ts' b
  turn_on zero n ts a ts' b others turn = let none : n ≡ zero + n = omega arith in subst (λ (m : ℕ). InTurn of m ts a ts' b) none turn
  turn_on (suc j) n ts a ts' b others turn =
      let next : suc (j + n) ≡ suc j + n = omega arith in
      grind (arith, times_at, gives_none, others (j + n) (omega arith), turn_on j n ts a ts' b others turn)

  turns_one : (n m : ℕ) (ts us ts' us' : List NoteTimes) (a c b d : ℕ) → ((k : ℕ) → times_at k ts ≡ times_at k us)
      → ((k : ℕ) → length (of (times_at k ts')) ≡ length (of (times_at k us'))) → a ≡ c → ((k : ℕ) → n ≤ k → times_at k ts' ≡ times_at k ts)
      → ((k : ℕ) → m ≤ k → times_at k us' ≡ times_at k us) → InTurn of n ts a ts' b → InTurn of m us c us' d
      → (b ≡ d) × ((k : ℕ) → of (times_at k ts') ≡ of (times_at k us'))
  turns_one n m ts us ts' us' a c b d same long next others others' turn turn' = (both.0, (λ k. grind (arith, nat_lt, both, ltb-true, ltb-false)))
    where
      both : (b ≡ d) × ((k : ℕ) → k < m + n → of (times_at k ts') ≡ of (times_at k us'))
      both = turn_one (m + n) ts us ts' us' a c b d (λ k. ap of (same k)) long next (turn_on m n ts a ts' b others turn)
          (subst (λ (l : ℕ). InTurn of l us c us' d) (omega arith) (turn_on n m us c us' d others' turn'))

-- ---- the clients of a slot

module _ {T U C : Type 0} where
  abbrev notes_at : Option (Stored T U C) → List (Happening U)
  notes_at c = option_map_or (λ z. z.made) c []

module _ {T U G C : Type 0} (s t : ServerState T U G C) (each : (id : ClientParts) → seen id s ≡ seen id t) (notes : s.notes ≡ t.notes) where
  made_one : (id : ClientParts) → made_of id s.clients ≡ made_of id t.clients
  made_one id = grind (arith, append_cancel_left, notes_of, made_of)

  made_at : (k : ℕ) (a b : Option (Stored T U C)) → stored_at k s.clients ≡ a → stored_at k t.clients ≡ b → told_at a ≡ told_at b
      → notes_at a ≡ notes_at b
  made_at k None None is is' told = refl
  made_at k (Some x) (Some y) is is' told =
      grind (arith, found x (stored_at k s.clients) is, found y (stored_at k t.clients) is', made_one (record { slot = k; serial = x.serial }))
  made_at k a b is is' told = absurd (grind (arith))

  -- as many numbers, where each note has one
  numbers_long : AllNumbered s.clients → AllNumbered t.clients → (k : ℕ)
      → (length (times_at k (map times_of s.clients)).made ≡ length (times_at k (map times_of t.clients)).made)
      × (length (times_at k (map times_of s.clients)).waiting ≡ length (times_at k (map times_of t.clients)).waiting)
  numbers_long one two k =
      let told = slot_same s t each k (stored_at k s.clients) (stored_at k t.clients) refl refl in
      grind (arith, length, times_stored s.clients k, times_stored t.clients k, told, made_at k _ _ refl refl told, one k, two k)

-- ---- notes of ends, in the order of the slots

module _ {U : Type 0} where
  slot_within : (id : ClientParts) (low : ℕ) (b : List (Note U)) (h : Happening U) (hs : List (Happening U)) → RiseFromSlot low b
      → notes_of id b ≡ h ∷ hs → low ≤ id.slot
  slot_within id low [] h hs rise is = let long : 0 ≡ suc (length hs) = ap length is in absurd (omega (arith, long))
  slot_within id low (n ∷ b) h hs (first, rise) is =
      grind (arith, slot_of, told_of, notes_of, slot_is, note_is, same_slots, slot_within id (slot_of n) b h hs rise)

  module _ (Is : ClientParts → Type 0) (one : (i j : ClientParts) → Is i → Is j → i.slot ≡ j.slot → i ≡ j) where
    ends_one : (low low' : ℕ) (a b : List (Note U)) → RiseFromSlot low a → RiseFromSlot low' b → ((id : ClientParts) → notes_of id a ≡ notes_of id b)
        → ((id : ClientParts) (h : Happening U) (hs : List (Happening U)) → notes_of id b ≡ h ∷ hs → Is id) → a ≡ b
    ends_one low low' [] [] up up' told is = refl
    ends_one low low' [] (y ∷ b) up up' told is = absurd (omega (arith, ap length (told (id_of y) ∙ own_first y b)))
    ends_one low low' (x ∷ a) [] up up' told is = absurd (omega (arith, ap length (sym (own_first x a) ∙ told (id_of x))))
    ends_one low low' (x ∷ a) (y ∷ b) (first, up) (first', up') told is =
        ap (λ (n : Note U). n ∷ a) same ∙ ap (λ (l : List (Note U)). y ∷ l) (ends_one (slot_of x) (slot_of y) a b up up'
        (λ id. append_cancel_left (told_of id x) _ _ (told id ∙ ap (λ (n : Note U). told_of id n ++ notes_of id b) (sym same)))
        is_rest)
      where
        x_told : notes_of (id_of x) (y ∷ b) ≡ happening_of x ∷ notes_of (id_of x) a
        x_told = sym (told (id_of x)) ∙ own_first x a

        y_told : notes_of (id_of y) (x ∷ a) ≡ happening_of y ∷ notes_of (id_of y) b
        y_told = told (id_of y) ∙ own_first y b

        ids : id_of y ≡ id_of x
        ids =
            let here = slot_within (id_of x) (slot_of y) (y ∷ b) (happening_of x) (notes_of (id_of x) a) (omega arith, up') x_told in
            let there = slot_within (id_of y) (slot_of x) (x ∷ a) (happening_of y) (notes_of (id_of y) b) (omega arith, up) y_told in
            one (id_of y) (id_of x) (is (id_of y) _ _ (own_first y b)) (is (id_of x) _ _ x_told) (omega (arith, here, there, slot_is x, slot_is y))

        same : x ≡ y
        same = grind (arith, note_is, note_of, happening_of, ids, id_of, notes_of, own_first, x_told, told_of)

        is_rest : (id : ClientParts) (h : Happening U) (hs : List (Happening U)) → notes_of id b ≡ h ∷ hs → Is id
        is_rest id h hs there = grind (arith, told_of, notes_of)

-- ---- calls

module _ {T U G C : Type 0} where
  stay_one : (s t x y : ServerState T U G C) → OrdersSame s t → ((id : ClientParts) → seen id x ≡ seen id y) → x.notes ≡ y.notes
      → AllNumbered x.clients → AllNumbered y.clients
      → AllTakeFirst (map times_of s.clients) (map times_of x.clients) → AllTakeFirst (map times_of t.clients) (map times_of y.clients)
      → (k : ℕ) → times_at k (map times_of x.clients) ≡ times_at k (map times_of y.clients)
  stay_one s t x y same each notes one two first first' k =
      grind (arith, times_at, map, times_of, ends_of_one, numbers_long x y each notes one two k, first k, first' k)

  makes_one : (s t x y : ServerState T U G C) → OrdersSame s t → ((id : ClientParts) → seen id x ≡ seen id y) → MakesNotes s x → MakesNotes t y
      → OrdersSame x y
  makes_one s t x y same each h g = record {
    notes = notes;
    numbers = grind (arith, x.numbers, y.numbers, made.0, waiting.0);
    times = λ k. (grind (arith, times_at k (map times_of x.clients), times_at k (map times_of y.clients), made.1 k, waiting.1 k));
  }
    where
      notes : x.notes ≡ y.notes
      notes = h.gathered ∙ (same.notes ∙ sym g.gathered)

      made : (x.numbers.made ≡ y.numbers.made) × ((k : ℕ) → (times_at k (map times_of x.clients)).made ≡ (times_at k (map times_of y.clients)).made)
      made = turns_one (λ t. t.made) h.times.0 g.times.0 (map times_of s.clients) (map times_of t.clients) (map times_of x.clients)
          (map times_of y.clients)
          s.numbers.made t.numbers.made x.numbers.made y.numbers.made same.times (λ k. (numbers_long x y each notes h.numbered g.numbered k).0)
          (ap (λ (n : NoteNumbers). n.made) same.numbers) h.times.1.others g.times.1.others h.times.1.made g.times.1.made

      waiting : (x.numbers.waiting ≡ y.numbers.waiting)
          × ((k : ℕ) → (times_at k (map times_of x.clients)).waiting ≡ (times_at k (map times_of y.clients)).waiting)
      waiting = turns_one (λ t. t.waiting) h.times.0 g.times.0 (map times_of s.clients) (map times_of t.clients) (map times_of x.clients)
          (map times_of y.clients)
          s.numbers.waiting t.numbers.waiting x.numbers.waiting y.numbers.waiting same.times
          (λ k. (numbers_long x y each notes h.numbered g.numbered k).1)
          (ap (λ (n : NoteNumbers). n.waiting) same.numbers) h.times.1.others g.times.1.others h.times.1.waiting g.times.1.waiting

  abbrev IsStored : ServerState T U G C → ClientParts → Type 0
  IsStored t id = is_some (client_at id t.clients) ≡ true

  -- who is told of is stored
  is_stored : (t : ServerState T U G C) (more : List (Note U)) → ((id : ClientParts) → client_at id t.clients ≡ None → notes_of id more ≡ [])
      → (id : ClientParts) (h : Happening U) (hs : List (Happening U)) → notes_of id more ≡ h ∷ hs → IsStored t id
  is_stored t more stored id h hs is = grind (arith, client_at, is_some)

  -- Notes of which the first are in order of time, and the others in the order of their clients, are one if they tell the same of each client.
  drained_one : (s t : ServerState T U G C) → OrdersSame s t → (waits : Bool) (order order' : List NotePlace) (more ends more' ends' : List (Note U))
      → Rise order → Rise order' → IsPermutation (all_places waits 0 (map times_of s.clients)) order
      → IsPermutation (all_places waits 0 (map times_of t.clients)) order' → map slot_of more ≡ map (λ p. p.slot) order
      → map slot_of more' ≡ map (λ p. p.slot) order' → RiseFromSlot 0 ends → RiseFromSlot 0 ends'
      → ((id : ClientParts) → notes_of id (more ++ ends) ≡ notes_of id (more' ++ ends'))
      → ((id : ClientParts) → client_at id t.clients ≡ None → notes_of id (more' ++ ends') ≡ []) → (more ≡ more') × (ends ≡ ends')
  drained_one s t same waits order order' more ends more' ends' rise rise' moved moved' along along' up up' told stored = (
    mores,
    ends_one (IsStored t) (one_client t.clients) 0 0 ends ends' up up'
        (λ id. append_cancel_left (notes_of id more') (notes_of id ends) (notes_of id ends')
        (cc (notes_append id more ends, notes_append id more' ends', told id, mores)))
        (is_stored t ends' (λ id none. no_end (notes_of id more') (notes_of id ends') (sym (notes_append id more' ends') ∙ stored id none))),
  )
    where
      slots : map slot_of more' ≡ map slot_of more
      slots =
          along' ∙ (ap (λ (l : List NotePlace). map (λ p. p.slot) l)
          (sym (orders_one waits (map times_of s.clients) (map times_of t.clients) order order' rise moved rise' moved' same.times)) ∙ sym along)

      begun : (rest : List (Note U)) × (more' ++ ends' ≡ more ++ rest)
      begun =
          begins_so (IsStored t) (one_client t.clients) more (more' ++ ends') (map slot_of ends')
          (map-append slot_of more' ends' ∙ ap (λ (l : List ℕ). l ++ map slot_of ends') slots)
          (λ id. (notes_of id ends, sym (told id) ∙ notes_append id more ends)) (is_stored t (more' ++ ends') stored)

      mores : more ≡ more'
      mores = sym (fronts_one more' ends' more begun.0 begun.1 (omega (arith, ap length slots, length-map more slot_of, length-map more' slot_of))).0

  -- the same is handed out
  pub out_one : (s t : ServerState T U G C) → OrdersSame s t → ((id : ClientParts) → seen id s ≡ seen id t) → (out out' : List (Note U)) → Takes s out
      → Takes t out' → out ≡ out'
  out_one s t same each out out' one two =
      let more = drained_one s t same false one.order two.order one.more [] two.more [] one.rise two.rise one.places two.places one.along two.along tt tt
      (λ id. grind (arith, append-nil, one.each id, two.each id, made_one s t each same.notes id))
      (λ id none. grind (arith, append-nil, two.each id, made_of, none)) in
      grind (arith, more.0, one.behind, two.behind, same.notes)

  hands_one : (s t x y : ServerState T U G C) → OrdersSame s t → ((id : ClientParts) → seen id x ≡ seen id y) → (out out' : List (Note U))
      → HandsOutNotes s out x
      → HandsOutNotes t out' y → OrdersSame x y
  hands_one s t x y same each out out' h g = record {
    notes = notes;
    numbers = h.numbers ∙ (same.numbers ∙ sym g.numbers);
    times = stay_one s t x y same each notes h.numbered g.numbered h.first g.first;
  }
    where
      notes : x.notes ≡ y.notes
      notes = h.none ∙ sym g.none

module _ {T U G C : Type 0} (w : World T G C) where
  gathers_one : (s t x y : ServerState T U G C) (f : Entry T U G C) (out : Vec (ClientParts × T) Global) → OrdersSame s t
      → ((id : ClientParts) → seen id x ≡ seen id y)
      → f.call ≡ Asked step.Cleanup (reply.Cleanup (Ok out)) → OneStep w t f y → GathersNotes s x → GathersNotes t y → OrdersSame x y
  gathers_one s t x y f out same each is by h g = record {
    notes = notes;
    numbers = h.numbers ∙ (ap (λ (n : NoteNumbers). record n { waiting = 0 }) same.numbers ∙ sym g.numbers);
    times = stay_one s t x y same each notes h.numbered g.numbered h.first g.first;
  }
    where
      all : (id : ClientParts) → notes_of id x.notes ≡ notes_of id y.notes
      all id = grind (arith, append-nil, h.none_left id, g.none_left id, each id)

      notes : x.notes ≡ y.notes
      notes =
          let (order, ordered, (more, behind, along)) = h.in_order in
          let (order', ordered', (more', behind', along')) = g.in_order in
          let x_is : x.notes ≡ s.notes ++ (more ++ h.ends) = grind (arith, append_assoc, h.behind, behind) in
          let y_is : y.notes ≡ t.notes ++ (more' ++ g.ends) = grind (arith, append_assoc, g.behind, behind') in
          let one = drained_one s t same true order order' more h.ends more' g.ends ordered.rise ordered'.rise ordered.numbers ordered'.numbers
          along along' h.by_slot g.by_slot
          (λ id. append_cancel_left (notes_of id t.notes) (notes_of id (more ++ h.ends)) (notes_of id (more' ++ g.ends))
          (cc (notes_append id s.notes (more ++ h.ends), notes_append id t.notes (more' ++ g.ends), all id)))
          (λ id. (told_so w t f y out is by (more' ++ g.ends) y_is id).2) in
          cc (one.0, one.1)

-- ---- which notes a call moves

module _ {T U G C : Type 0} where
  abbrev call_kind : Call T U G C → ℕ
  call_kind (Asked step.TakeNotes answer) = 0
  call_kind (Asked step.Cleanup answer) = 1
  call_kind _ = 2

  call_kinds : (c c' : Call T U G C) → SameCall c c' → call_kind c ≡ call_kind c'
  call_kinds c c' h1 = grind (arith)

  -- the notes were handed out, or gathered, or none was moved
  abbrev MovesSo : ServerState T U G C → Call T U G C → ServerState T U G C → ℕ → Type 0
  MovesSo s call x zero = (out : Vec (Note U) Global) × HandsOutNotes s out.items x
  MovesSo s call x (suc zero) = (out : Vec (ClientParts × T) Global) × (call ≡ Asked step.Cleanup (reply.Cleanup (Ok out))) × GathersNotes s x
  MovesSo s call x (suc (suc n)) = MakesNotes s x

  module _ (w : World T G C) where
    moves_so : (id : ClientParts) (s : ServerState T U G C) (call : Call T U G C) (lacked : Bool) (did : List (Deed U)) (x : ServerState T U G C)
        → lacks_growth call ≡ false → NotesGoOn s call x → PartCall w id s.offer call (seen id s) lacked did (seen id x)
        → MovesSo s call x (call_kind call)
    moves_so id s (Asked step.TakeNotes p) lacked did x ample h (Ok out, so, _) =
        (out, subst (λ (q : Reply T U). NotesGoOn s (Asked step.TakeNotes q) x) so h)
    moves_so id s (Asked step.Cleanup p) lacked did x ample h (Ok out, so, _) =
        (out, ap (Asked step.Cleanup) so, subst (λ (q : Reply T U). NotesGoOn s (Asked step.Cleanup q) x) so h)
    moves_so id s (Asked step.TakeNotes p) lacked did x ample _ (Err f, so, _) = absurd (grind (arith, true≢false))
    moves_so id s (Asked step.Cleanup p) lacked did x ample _ (Err f, so, _) = absurd (grind (arith, true≢false))
    moves_so id s call lacked did x ample h part = h

    pub notes_one : (s t x y : ServerState T U G C) (e f : Entry T U G C) → OrdersSame s t → ((id : ClientParts) → seen id x ≡ seen id y)
        → SameCall e.call f.call
        → lacks_growth e.call ≡ false → lacks_growth f.call ≡ false → OneStep w s e x → OneStep w t f y → OrdersSame x y
    notes_one s t x y e f same each calls ample ample' by by' =
        at (call_kind e.call) (moves_so any s e.call _ _ x ample by.notes (by.each any))
        (subst (MovesSo t f.call y) (sym (call_kinds e.call f.call calls)) (moves_so any t f.call _ _ y ample' by'.notes (by'.each any)))
      where
        any : ClientParts
        any = record { slot = 0; serial = 0 }

        at : (n : ℕ) → MovesSo s e.call x n → MovesSo t f.call y n → OrdersSame x y
        at zero (out, h) (out', g) = hands_one s t x y same each out.items out'.items h g
        at (suc zero) (out, is, h) (out', is', g) = gathers_one w s t x y f out' same each is' by' h g
        at (suc (suc n)) h g = makes_one s t x y same each h g
