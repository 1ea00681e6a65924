-- The numbers in time of the notes of all clients: how a call that makes notes keeps them in order.
use Rattle.std.proofs.Common.{◌≡◌, ◌≢◌, ◌∙◌, ℕ, zero, suc, ◌+◌, ◌<◌, ◌≤◌, Bool, true, false, List, [], ◌++◌, length, map, Option, Some, refl, sym, ap, arith, append_assoc, append-nil}
use mathlib.Core.Logic.{inl, inr}
use Rattle.std.specs.Option.{option_map, option_map_or}
use Rattle.std.specs.Prelude.{◌⊎◌, ◌==◌, Contains, slice_get, slice_set}
use Rattle.std.proofs.lemmas.Bool.{eqb-true}
use Rattle.std.proofs.lemmas.List.{nil_from_length, length-map}
use Rattle.std.proofs.lemmas.List.Elements.{Contains-append_cases, Contains-append_right}
use Rattle.std.proofs.lemmas.Option.{slice_get-map}
use Rattle.wl_server_client.specs.declared.notes.queues.NoteNumbers.{NoteNumbers}
use Rattle.wl_server_client.specs.Ids.{ClientParts}
use Rattle.wl_server_model.specs.Inside.Inserting.{IsPut}
use Rattle.wl_server_model.specs.Inside.Leaving.{all_staying, staying}
use Rattle.wl_server_model.specs.NoteOrder.{AllInTime, AllNumbered, AllTakeFirst, AreInTime, HasNumbers, InTimeBelow, InTurn, NoneWaits, times_at}
use Rattle.wl_server_client.specs.NoteTimes.{GivesNumbers, IsNumbered, NotesInTime, RiseWithin, TakesFirst, last_number, place_at, times_of}
use Rattle.wl_server_model.specs.Inside.NoteOrder.{NoneNumbered}
use Rattle.wl_server_client.specs.Stored.{NoteTimes, Stored, no_times}
use Rattle.wl_server_model.specs.Server.{client_at, stored_at}
use Rattle.wl_sets.proofs.Lists.{get_set_other, get_set_same, other_of}
use Rattle.wl_server_model.proofs.CallSteps.Slots.{slot_of_client, stored_is}
use Rattle.wl_server_model.proofs.CleanupSteps.Gathering.{both_none}
use Rattle.wl_server_client.proofs.CallSteps.Numbers.{GivesWithin, among, gives_none, in_time_same, rise_append, rise_higher, rise_last, rise_up, within, within_both, within_none}

-- ---- the slots

module _ {T U C : Type 0} where
  pub times_stored : (clients : List (Option (Stored T U C))) (k : ℕ) → times_at k (map times_of clients) ≡ times_of (stored_at k clients)
  times_stored clients k = grind (arith, slice_get-map, times_of, no_times, slice_get clients k)

  pub times_there : (clients : List (Option (Stored T U C))) (k : ℕ) (x : Option (Stored T U C)) → slice_get clients k ≡ Some x
      → times_at k (map times_of clients) ≡ times_of x
  times_there clients k x here = grind (arith, times_stored clients k)

  pub times_same : (clients clients' : List (Option (Stored T U C))) (k : ℕ) → slice_get clients' k ≡ slice_get clients k
      → times_at k (map times_of clients') ≡ times_at k (map times_of clients)
  times_same clients clients' k same = grind (arith, times_stored clients k, times_stored clients' k)

-- ---- the notes of all clients

module _ (of : NoteTimes → List ℕ) where
  -- one client got numbers, and the others have theirs
  changed : (ts ts' : List NoteTimes) (i next next' : ℕ) → ((k : ℕ) → k ≢ i → times_at k ts' ≡ times_at k ts)
      → GivesNumbers (of (times_at i ts)) next (of (times_at i ts')) next' → (next < last_number → AreInTime of next ts) → next' < last_number
      → AreInTime of next' ts'
  changed ts ts' i next next' others given has below = record {
    rise = λ k. (grind (arith, times_at, rise_append, other_of, rise_higher, rise_up, next, more, k == i));
    apart = λ j k n a b. (grind (arith, is.apart j k n, old_or_new j n (j == i) refl a, old_or_new k n (k == i) refl b));
  }
    where
      gives : GivesWithin (of (times_at i ts)) next (of (times_at i ts')) next'
      gives = within (of (times_at i ts)) next (of (times_at i ts')) next' given

      more : RiseWithin next gives.more next'
      more = gives.rise below

      is : AreInTime of next ts
      is = has (let up = rise_up next gives.more next' more in omega (arith, up, below))

      -- a number that is there was there, or is new
      old_or_new : (k n : ℕ) (b : Bool) → (k == i) ≡ b → Contains (of (times_at k ts')) n
          → (Contains (of (times_at k ts)) n × (n < next)) ⊎ ((k ≡ i) × (next ≤ n))
      old_or_new k n true same has =
          let at = eqb-true k i same in
          elim (Contains-append_cases (of (times_at i ts)) gives.more n (rw (at, gives.behind) at has)) [
            | inl old ↦ inl (rw at old, (among 0 (of (times_at i ts)) next n (is.rise i) old).1)
            | inr new ↦ inr (at, (among next gives.more next' n more new).0)
          ]
      old_or_new k n false other has =
          let old : Contains (of (times_at k ts)) n = rw (others k (other_of k i other)) at has in inl
          (old, (among 0 (of (times_at k ts)) next n (is.rise k) old).1)

  -- the first numbers of clients are gone
  fewer : (ts ts' : List NoteTimes) (next : ℕ) → ((k : ℕ) → (gone : List ℕ) × (of (times_at k ts) ≡ gone ++ of (times_at k ts')))
      → AreInTime of next ts → AreInTime of next ts'
  fewer ts ts' next first is = record {
    rise = λ k. (let (gone, same) = first k in rise_last 0 gone (of (times_at k ts')) next (rw same at (is.rise k)));
    apart = λ j k n a b. is.apart j k n (there j n a) (there k n b);
  }
    where
      there : (k n : ℕ) → Contains (of (times_at k ts')) n → Contains (of (times_at k ts)) n
      there k n has = let (gone, same) = first k in rw same (Contains-append_right gone (of (times_at k ts')) n has)

-- ---- numbers in turn

module _ (of : NoteTimes → List ℕ) where
  -- no client of these slots got a number
  pub turn_still : (n : ℕ) (ts ts' : List NoteTimes) (next : ℕ) → ((k : ℕ) → k < n → times_at k ts' ≡ times_at k ts) → InTurn of n ts next ts' next
  turn_still zero ts ts' next same = refl
  turn_still (suc n) ts ts' next same = grind (arith, times_at, gives_none, turn_still n ts ts' next)

  -- clients of other slots are not looked at
  turn_other : (n : ℕ) (ts : List NoteTimes) (next : ℕ) (us vs : List NoteTimes) (next' : ℕ) → ((k : ℕ) → k < n → times_at k vs ≡ times_at k us)
      → InTurn of n ts next us next' → InTurn of n ts next vs next'
  turn_other zero ts next us vs next' same is = is
  turn_other (suc n) ts next us vs next' same (mid, turn, gives) = grind (arith, times_at, turn_other n ts next us vs mid)

  turn_up : (n : ℕ) (ts : List NoteTimes) (next : ℕ) (ts' : List NoteTimes) (next' : ℕ) → InTurn of n ts next ts' next' → next' < last_number
      → next ≤ next'
  turn_up zero ts next ts' next' is below = omega (arith, is)
  turn_up (suc n) ts next ts' next' (mid, turn, gives) below =
      let more = within (of (times_at n ts)) mid (of (times_at n ts')) next' gives in
      grind (arith, rise_up, more, turn_up n ts next ts' mid turn)

  -- the notes of a client, whether or not others got numbers meanwhile
  pub each_turn : (n k : ℕ) (ts : List NoteTimes) (next : ℕ) (ts' : List NoteTimes) (next' : ℕ) → InTurn of n ts next ts' next'
      → (n ≤ k → times_at k ts' ≡ times_at k ts) → GivesWithin (of (times_at k ts)) next (of (times_at k ts')) next'
  each_turn zero k ts next ts' next' is past = grind (arith, times_at, within_none)
  each_turn (suc n) k ts next ts' next' (mid, turn, gives) past = at (λ others. each_turn n k ts next ts' mid turn others) (k == n) refl
    where
      more : GivesWithin (of (times_at n ts)) mid (of (times_at n ts')) next'
      more = within (of (times_at n ts)) mid (of (times_at n ts')) next' gives

      at : ((n ≤ k → times_at k ts' ≡ times_at k ts) → GivesWithin (of (times_at k ts)) next (of (times_at k ts')) mid) → (b : Bool) → (k == n) ≡ b
          → GivesWithin (of (times_at k ts)) next (of (times_at k ts')) next'
      at earlier true same = rw (eqb-true k n same) (within_both _ _ _ next mid next'
          (within_none (of (times_at n ts)) next mid (turn_up n ts next ts' mid turn)) more)
      at earlier false other =
          within_both _ _ _ next mid next' (earlier (λ up. past (let e = other_of k n other in omega (arith, e, up))))
          (within_none (of (times_at k ts')) mid next' (λ below. rise_up mid more.more next' (more.rise below)))

  -- one more client got numbers
  turn_next : (i : ℕ) (ts us vs : List NoteTimes) (a b c : ℕ) → InTurn of i ts a us b → ((k : ℕ) → i ≤ k → times_at k us ≡ times_at k ts)
      → ((k : ℕ) → k ≢ i → times_at k vs ≡ times_at k us) → GivesNumbers (of (times_at i us)) b (of (times_at i vs)) c → InTurn of (suc i) ts a vs c
  turn_next i ts us vs a b c turn past others gives =
      (b, turn_other i ts a us vs b (λ k below. others k (λ e. omega (arith, e, below))) turn, rw (sym (past i (omega arith))) gives)

pub all_each : (ts : List NoteTimes) (a : NoteNumbers) (ts' : List NoteTimes) (b : NoteNumbers) → AllInTime ts a ts' b → (k : ℕ)
    → GivesWithin (times_at k ts).made a.made (times_at k ts').made b.made
all_each ts a ts' b (slots, all) k = each_turn (λ t. t.made) slots k ts a.made ts' b.made all.made (all.others k)

-- nobody got numbers
none_yet : (i : ℕ) (ts ts' : List NoteTimes) (a : NoteNumbers) → ts' ≡ ts → InTimeBelow i ts a ts' a
none_yet i ts ts' a same = grind (arith, turn_still)

pub all_same : (ts ts' : List NoteTimes) (a : NoteNumbers) → ts' ≡ ts → AllInTime ts a ts' a
all_same ts ts' a same = (0, none_yet 0 ts ts' a same)

-- one client got numbers, behind those of the slots below it
next_turn : (i : ℕ) (ts us vs : List NoteTimes) (a b c : NoteNumbers) → InTimeBelow i ts a us b → ((k : ℕ) → k ≢ i → times_at k vs ≡ times_at k us)
    → NotesInTime (times_at i us) b (times_at i vs) c → InTimeBelow (suc i) ts a vs c
next_turn i ts us vs a b c before others gives = record {
  made = turn_next (λ t. t.made) i ts us vs a.made b.made c.made before.made before.others others gives.made;
  waiting = turn_next (λ t. t.waiting) i ts us vs a.waiting b.waiting c.waiting before.waiting before.others others gives.waiting;
  others = λ k past. others k (λ e. omega (arith, e, past)) ∙ before.others k (omega (arith, past));
  keeps = λ has. record {
    made = changed (λ t. t.made) us vs i b.made c.made others gives.made (before.keeps has).made;
    waiting = changed (λ t. t.waiting) us vs i b.waiting c.waiting others gives.waiting (before.keeps has).waiting;
  };
}

pub all_but : (ts ts' : List NoteTimes) (i : ℕ) (a b : NoteNumbers) → ((k : ℕ) → k ≢ i → times_at k ts' ≡ times_at k ts)
    → NotesInTime (times_at i ts) a (times_at i ts') b → AllInTime ts a ts' b
all_but ts ts' i a b others gives = (suc i, next_turn i ts ts ts' a a b (none_yet i ts ts a refl) others gives)

module _ {T U C : Type 0} where
  -- the client of the next slot was written, after those below it
  pub next_in_time : (ts : List NoteTimes) (clients : List (Option (Stored T U C))) (i : ℕ) (x x' : Option (Stored T U C)) (a b c : NoteNumbers)
      → InTimeBelow i ts a (map times_of clients) b → slice_get clients i ≡ Some x → NotesInTime (times_of x) b (times_of x') c
      → InTimeBelow (i + 1) ts a (map times_of (slice_set clients i x')) c
  next_in_time ts clients i x x' a b c before here gives =
      let next : suc i ≡ i + 1 = omega arith in
      rw (← next) (next_turn i ts (map times_of clients) (map times_of (slice_set clients i x')) a b c before
      (λ k differ. times_same clients (slice_set clients i x') k (get_set_other clients i k x' (λ e. differ (sym e))))
      (rw (times_there clients i x here, times_there (slice_set clients i x') i x' (get_set_same clients i x x' here)) gives))

  -- the client of a slot was written
  pub set_in_time : (clients : List (Option (Stored T U C))) (i : ℕ) (x x' : Option (Stored T U C)) (a b : NoteNumbers) → slice_get clients i ≡ Some x
      → NotesInTime (times_of x) a (times_of x') b → AllInTime (map times_of clients) a (map times_of (slice_set clients i x')) b
  set_in_time clients i x x' a b here gives =
      (i + 1, next_in_time (map times_of clients) clients i x x' a a b (none_yet i (map times_of clients) (map times_of clients) a refl) here gives)

  -- the numbers that a server has, after its client of an id was written
  pub numbers_set : (clients : List (Option (Stored T U C))) (id : ClientParts) (s s' : Stored T U C) (a b : NoteNumbers)
      → Some s ≡ client_at id clients
      → NotesInTime s.times a s'.times b → HasNumbers a (map times_of clients) → HasNumbers b (map times_of (slice_set clients id.slot (Some s')))
  numbers_set clients id s s' a b is gives has = (set_in_time clients id.slot (Some s) (Some s') a b
      (slot_of_client clients id s is).0 gives).1.keeps has

  -- the same where no note was made
  pub numbers_stay : (clients : List (Option (Stored T U C))) (id : ClientParts) (s s' : Stored T U C) (a : NoteNumbers)
      → Some s ≡ client_at id clients
      → s'.times ≡ s.times → HasNumbers a (map times_of clients) → HasNumbers a (map times_of (slice_set clients id.slot (Some s')))
  numbers_stay clients id s s' a is same has = numbers_set clients id s s' a a is (in_time_same s.times s'.times a a same refl) has

-- ---- as many numbers as notes

module _ {T U C : Type 0} where
  -- what is so of the client of each slot stays so where one client was written
  pub each_stays : (P : Option (Stored T U C) → Type 0) (clients : List (Option (Stored T U C))) (i : ℕ) (x x' : Option (Stored T U C))
      → slice_get clients i ≡ Some x
      → (P x → P x') → ((k : ℕ) → P (stored_at k clients)) → (k : ℕ) → P (stored_at k (slice_set clients i x'))
  each_stays P clients i x x' here stays all k = grind (arith, all k, slice_set, eqb-true, stored_is, get_set_same, get_set_other, other_of)

  -- the client of an id was written
  pub numbered_at : (clients : List (Option (Stored T U C))) (id : ClientParts) (s s' : Stored T U C) → Some s ≡ client_at id clients
      → (IsNumbered (Some s) → IsNumbered (Some s')) → AllNumbered clients → AllNumbered (slice_set clients id.slot (Some s'))
  numbered_at clients id s s' is stays all = each_stays IsNumbered clients id.slot (Some s) (Some s') (slot_of_client clients id s is).0 stays all

  pub numbered_put : (clients clients' : List (Option (Stored T U C))) (i : ℕ) (s : Stored T U C) → IsPut clients i s clients' → IsNumbered (Some s)
      → AllNumbered clients → AllNumbered clients'
  numbered_put clients clients' i s (here, others) is all k = grind (arith, stored_at, option_map_or, other_of)

  -- killed clients leave
  pub numbered_staying : (clients : List (Option (Stored T U C))) → AllNumbered clients → AllNumbered (all_staying clients)
  numbered_staying clients all k = grind (arith, option_map_or, slice_get-map, staying, slice_get, option_map)

-- a new server
pub no_numbers : (n : NoteNumbers) → HasNumbers n []
no_numbers n = grind (arith, no_times)

-- no note waits, and the numbers of those that wait begin anew
pub waiting_anew : (ts : List NoteTimes) (a : NoteNumbers) → NoneWaits ts → HasNumbers a ts → HasNumbers (record a { waiting = 0 }) ts
waiting_anew ts a none has = grind (arith)

-- ---- notes that are taken

pub takes_none : (t : NoteTimes) → TakesFirst t t
takes_none t = record { made = []; waiting = []; of_made = refl; of_waiting = refl }

pub takes_all : (t : NoteTimes) → TakesFirst t no_times
takes_all t = record { made = t.made; waiting = t.waiting; of_made = sym (append-nil t.made); of_waiting = sym (append-nil t.waiting) }

pub takes_both : (t u v : NoteTimes) → TakesFirst t u → TakesFirst u v → TakesFirst t v
takes_both t u v one two = record {
  made = one.made ++ two.made;
  waiting = one.waiting ++ two.waiting;
  of_made = grind (arith, append_assoc, one.of_made, two.of_made);
  of_waiting = grind (arith, append_assoc, one.of_waiting, two.of_waiting);
}

pub numbers_left : (ts ts' : List NoteTimes) (a : NoteNumbers) → AllTakeFirst ts ts' → HasNumbers a ts → HasNumbers a ts'
numbers_left ts ts' a first has = record {
  made = λ below. fewer (λ t. t.made) ts ts' a.made (λ k. ((first k).made, (first k).of_made)) (has.made below);
  waiting = λ below. fewer (λ t. t.waiting) ts ts' a.waiting (λ k. ((first k).waiting, (first k).of_waiting)) (has.waiting below);
}

-- where all notes were gathered, none waits after killed clients are gone
pub none_waits : (ts ts' : List NoteTimes) → NoneNumbered true ts → AllTakeFirst ts ts' → NoneWaits ts'
none_waits ts ts' none first k =
    let (made, waiting) = both_none (map (place_at false 0) (times_at k ts).made) (map (place_at true 0) (times_at k ts).waiting) (none k) in
    let nil : (times_at k ts).waiting ≡ [] = nil_from_length _
    (omega (arith, length-map (times_at k ts).waiting (place_at true 0), ap length waiting)) in
    (both_none (first k).waiting (times_at k ts').waiting (sym (first k).of_waiting ∙ nil)).1

module _ {T U C : Type 0} where
  pub take_set : (clients : List (Option (Stored T U C))) (i : ℕ) (x x' : Option (Stored T U C)) → slice_get clients i ≡ Some x
      → TakesFirst (times_of x) (times_of x') → AllTakeFirst (map times_of clients) (map times_of (slice_set clients i x'))
  take_set clients i x x' here first k = at (k == i) refl
    where
      at : (b : Bool) → (k == i) ≡ b → TakesFirst (times_at k (map times_of clients)) (times_at k (map times_of (slice_set clients i x')))
      at true same =
          rw (eqb-true k i same, times_there clients i x here, times_there (slice_set clients i x') i x' (get_set_same clients i x x' here)) first
      at false other = rw (times_same clients (slice_set clients i x') k (get_set_other clients i k x' (λ e. other_of k i other (sym e))))
          (takes_none _)

  -- killed clients are gone with what is left of their notes
  pub all_take_leave : (clients : List (Option (Stored T U C))) → AllTakeFirst (map times_of clients) (map times_of (all_staying clients))
  all_take_leave clients k = grind (arith, times_of, all_staying, times_stored, slice_get-map, staying, takes_all, takes_none, option_map)
