-- What is counted of the clients is the same where those that were not touched are passed over.
use Rattle.std.proofs.Common.{◌≡◌, ◌∙◌, ℕ, ◌+◌, ◌<◌, ◌≤◌, Bool, true, false, List, [], ◌++◌, length, map, drop, Option, Some, refl, sym, ap, arith, append-nil}
use Rattle.std.specs.Prelude.{if◌then◌else◌, slice_get, min}
use Rattle.std.proofs.lemmas.List.{length-append}
use Rattle.wl_server_client.specs.declared.notes.queues.NotePlace.{NotePlace}
use Rattle.wl_server_model.specs.Inside.Gathering.{count_leaving}
use Rattle.wl_server_model.specs.Inside.Leaving.{collected, ends_at, given_at}
use Rattle.wl_server_model.specs.Inside.NoteOrder.{count_places}
use Rattle.wl_sets.specs.SlotSets.{IsOut}
use Rattle.wl_server.specs.Inside.Touched.{AllQuiet, IsQuiet}
use Rattle.wl_server_model.specs.NoteOrder.{all_places, places_at}
use Rattle.wl_server_client.specs.NoteTimes.{places_of, times_of, to_gather}
use Rattle.wl_server_client.specs.Stored.{Stored}
use Rattle.wl_server_model.proofs.CleanupSteps.Gathering.{rest_at}
use Rattle.wl_server_model.proofs.CleanupSteps.Ordering.{Placed, placed_more, placed_so_far}
use Rattle.wl_server.proofs.Touched.Kept.{carry, out_here, there}

same_both : (b : Bool) (n : ℕ) → n ≡ n + (if b then 0 else 0)
same_both true n = omega arith
same_both false n = omega arith

module _ {T U C : Type 0} where
  -- ---- what is quiet

  pub quiet_notes : (waits : Bool) (x : Option (Stored T U C)) → IsQuiet x → to_gather waits x ≡ []
  quiet_notes waits x h1 = grind (arith)

  quiet_places : (waits : Bool) (slot : ℕ) (x : Option (Stored T U C)) → IsQuiet x → places_of waits slot (times_of x) ≡ []
  quiet_places waits slot h3 quiet = grind (arith, places_of)

  pub quiet_given : (slot : ℕ) (x : Option (Stored T U C)) → IsQuiet x → given_at slot x ≡ []
  quiet_given slot x quiet = grind (arith, x)

  pub quiet_ends : (slot : ℕ) (x : Option (Stored T U C)) → IsQuiet x → ends_at slot x ≡ []
  quiet_ends slot h2 quiet = grind (arith)

  -- a number for the clients from each slot on: each of them adds to it by itself, and a quiet one adds nothing
  pub record Counts (clients : List (Option (Stored T U C))) (rest : ℕ → ℕ) (one : ℕ → Option (Stored T U C) → ℕ) : Type 0 where
    pub step : (k : ℕ) (x : Option (Stored T U C)) → slice_get clients k ≡ Some x → rest k ≡ one k x + rest (k + 1)
    pub none : (k : ℕ) (x : Option (Stored T U C)) → IsQuiet x → one k x ≡ 0

  pub counts_notes : (waits : Bool) (clients : List (Option (Stored T U C)))
      → Counts clients (λ k. count_leaving waits (drop k clients)) (λ k x. length (to_gather waits x))
  counts_notes waits clients =
      record { step = λ k x here. ap (count_leaving waits) (rest_at clients k x here); none = λ k x calm. ap length (quiet_notes waits x calm) }

  pub counts_places : (waits : Bool) (clients : List (Option (Stored T U C)))
      → Counts clients (λ k. count_places waits (map times_of (drop k clients))) (λ k x. length (places_of waits 0 (times_of x)))
  counts_places waits clients = record { step = λ k x here. ap (λ xs. count_places waits (map times_of xs)) (rest_at clients k x here); none = λ k x calm. ap length (quiet_places waits 0 x calm) }

  pub counts_collected : {A : Type 0} (give : ℕ → Option (Stored T U C) → List A) → ((k : ℕ) (x : Option (Stored T U C)) → IsQuiet x → give k x ≡ [])
      → (clients : List (Option (Stored T U C))) → Counts clients (λ k. length (collected give k (drop k clients))) (λ k x. length (give k x))
  counts_collected give none clients = record {
    step = λ k x here. ap (λ l. length (collected give k l)) (rest_at clients k x here)
        ∙ length-append (give k x) (collected give (k + 1) (drop (k + 1) clients));
    none = λ k x calm. ap length (none k x calm);
  }

  module _ (words : List ℕ) (clients : List (Option (Stored T U C))) (from to : ℕ) (up : from ≤ to) (within : to ≤ length clients)
      (out : (k : ℕ) → from ≤ k → k < to → IsOut words k) (quiet : AllQuiet words clients) where
    -- what holds at a slot holds at a later one, if each client between them is passed over
    pub pass : (P : ℕ → Type 0) → P from → ((k : ℕ) (x : Option (Stored T U C)) → slice_get clients k ≡ Some x → IsQuiet x → P k → P (k + 1)) → P to
    pass P is step =
        carry P from to up is
        (λ k low high before. (let (x, here) = there clients k (omega (arith, within, high)) in step k x here
        (out_here IsQuiet words clients k x here (out k low high) quiet) before))

    pub passed : (rest : ℕ → ℕ) (one : ℕ → Option (Stored T U C) → ℕ) → Counts clients rest one → rest from ≡ rest to
    passed rest one counts =
        pass (λ k. rest from ≡ rest k) refl (λ k x here calm before. omega (arith, before, counts.step k x here, counts.none k x calm))

    -- the client of the slot before it is counted, and those between are passed over
    pub counted : (rest : ℕ → ℕ) (one : ℕ → Option (Stored T U C) → ℕ) → Counts clients rest one → (slot : ℕ) (x : Option (Stored T U C))
        → from ≡ slot + 1
        → slice_get clients slot ≡ Some x → rest slot ≡ one slot x + rest to
    counted rest one counts slot x is here = counts.step slot x here ∙ ap (λ n. one slot x + n) (ap rest (sym is) ∙ passed rest one counts)

    pub pass_placed : (waits : Bool) (order : List NotePlace) → Placed waits clients from order → Placed waits clients to order
    pass_placed waits order h1 = grind (arith, pass, placed_more, places_at, length, quiet_notes, same_both, carry, there, out_here, to_gather)

    pub pass_numbers : (waits : Bool) (order : List NotePlace)
        → order ++ all_places waits from (map times_of (drop from clients)) ≡ all_places waits 0 (map times_of clients)
        → order ++ all_places waits to (map times_of (drop to clients)) ≡ all_places waits 0 (map times_of clients)
    pass_numbers waits order is =
        pass (λ k. order ++ all_places waits k (map times_of (drop k clients)) ≡ all_places waits 0 (map times_of clients)) is
        (λ k x here calm before. placed_so_far waits clients k x order order here before
        (sym (ap (λ l. order ++ l) (quiet_places waits k x calm) ∙ append-nil order)))

-- ---- a count that stops at the greatest number

-- it is no less than what there is, as long as it has not come so far
pub at_least : (count n count' total one rest rest' : ℕ) → rest ≡ one + rest' → count' ≡ min (count + n) 0xFFFFFFFFFFFFFFFF
    → (n < 0xFFFFFFFFFFFFFFFF → one ≤ n)
    → (count < 0xFFFFFFFFFFFFFFFF → total ≤ count + rest) → count' < 0xFFFFFFFFFFFFFFFF → total ≤ count' + rest'
at_least count n count' total one rest rest' is sum some before below =
    let all = before (omega (arith, sum, below)) in let has = some (omega (arith, sum, below)) in omega (arith, is, sum, all, has, below)

-- and it is never more
pub at_most : (count n count' total one rest rest' : ℕ) → rest ≡ one + rest' → count' ≡ min (count + n) 0xFFFFFFFFFFFFFFFF → n ≤ one
    → count + rest ≤ total → count' + rest' ≤ total
at_most count n count' total one rest rest' is sum some before = omega (arith, is, sum, some, before)
