-- Killed clients leave, slot by slot.
use Rattle.std.proofs.Common.{◌≡◌, ℕ, zero, suc, ◌+◌, ◌<◌, ◌≤◌, Bool, true, false, List, [], ◌∷◌, ◌++◌, length, map, drop, Option, None, Some, Result, refl, ap, ◌∙◌, arith, append_assoc, append-nil}
use mathlib.Core.Bool.{beq}
use Rattle.std.specs.FinMap.{entries}
use Rattle.std.specs.Prelude.{◌==◌, slice_get, slice_set}
use Rattle.std.proofs.lemmas.List.{drop_all, length-append, length-map}
use Rattle.std.proofs.lemmas.Option.{same_Some, none-some, slice_get_within}
use Rattle.wl_wire.specs.declared.error.IoFault.{IoFault}
use Rattle.wl_link.specs.Exchange.{Queue}
use Rattle.wl_link.specs.Puts.{lacks_memory}
use Rattle.wl_server_client.specs.declared.notes.Happening.{Happening}
use Rattle.wl_server_client.specs.declared.notes.Note.{Note}
use Rattle.wl_server_client.specs.Inside.Client.{Does}
use Rattle.wl_server_client.specs.Felt.{FlushedTo, FlushesLive}
use Rattle.wl_server_client.specs.Ids.{ClientParts}
use Rattle.wl_server_model.specs.Inside.Leaving.{Flushes, FlushesKilled, all_staying, collected, ends_at, given_at, id_in, staying}
use Rattle.wl_server_client.specs.Inside.Leaving.{with_data, ends_of}
use Rattle.wl_server_model.specs.NoteOrder.{RiseFromSlot}
use Rattle.wl_server_client.specs.Stored.{Stored, note_of}
use Rattle.wl_server_model.proofs.CleanupSteps.Gathering.{map_set, rest_at}
use Rattle.wl_server_client.proofs.CallSteps.Doing.{live_flushed, does_quietly}
use Rattle.wl_sets.proofs.Lists.{get_set_other, get_set_same, other_of}
use Rattle.wl_link.proofs.Calls.Branches.{at_true, at_false}
use Rattle.wl_server_client.proofs.CleanupSteps.Ending.{ending_length}

map_itself : {A : Type 0} (f : A → A) (xs : List A) → ((k : ℕ) (x : A) → slice_get xs k ≡ Some x → f x ≡ x) → map f xs ≡ xs
map_itself f [] all = refl
map_itself f (x ∷ xs) all = grind (arith, all 0 x, map_itself f xs (λ k y here. all (suc k) y here))

pub same_killed : (a b : Bool) → beq a b ≡ true → a ≡ b
same_killed a b h1 = grind (arith)

pub other_killed : (a b : Bool) → beq a b ≡ false → a ≡ b → ⊥
other_killed a b h1 h2 = grind (arith)

module _ {T U C : Type 0} where
  -- ---- what waits for a killed client

  pub not_killed : (sends : T → Queue → Result ℕ IoFault → T → Type 0) (s : Stored T U C) → s.part.is_killed ≡ false
      → Does s (λ p did q. FlushesKilled sends p false did q) s
  not_killed sends s live = does_quietly s (λ p did q. FlushesKilled sends p false did q) s.part (at_false _ s.part.is_killed live (refl, refl, refl))

  pub flushes_where : (sends : T → Queue → Result ℕ IoFault → T → Type 0) (killed : Bool) (s s' : Stored T U C) (answer : Result (Unit {0}) IoFault)
      (lacked : Bool)
      → s.part.is_killed ≡ killed → lacked ≡ lacks_memory answer → Does s (λ p did q. FlushedTo sends p answer (lacks_memory answer) did q) s'
      → Does s (λ p did q. Flushes sends killed p lacked did q) s'
  flushes_where sends true s s' answer lacked is refused (did, q, flushed, so) =
      (did, q, at_true _ s.part.is_killed is (answer, rw refused flushed), so)
  flushes_where sends false s s' answer lacked is refused flushed = live_flushed sends s s' answer lacked is refused flushed

  pub not_flushed : (sends : T → Queue → Result ℕ IoFault → T → Type 0) (killed : Bool) (s : Stored T U C) → (s.part.is_killed ≡ killed → ⊥)
      → Does s (λ p did q. Flushes sends killed p false did q) s
  not_flushed sends true s other = not_killed sends s (grind (arith, s.part.is_killed))
  not_flushed sends false s other = does_quietly s (λ p did q. FlushesLive sends p false did q) s.part (at_true _ s.part.is_killed
      (grind (arith, s.part.is_killed)) (refl, refl, refl))

  -- ---- what is noted of one client

  pub ends_length : (slot : ℕ) (o : Option (Stored T U C)) (s : Stored T U C) → o ≡ Some s → s.part.is_killed ≡ true
      → length (ends_at slot o) ≡ length (with_data (entries s.part.store.objects))
  ends_length slot o s is killed = grind (arith, length, ends_at, length-map, ends_of, id_in, entries, note_of, ending_length)

  pub ends_killed : (slot : ℕ) (o : Option (Stored T U C)) (s : Stored T U C) → o ≡ Some s → s.part.is_killed ≡ true
      → ends_at slot o ≡ map (note_of (id_in slot s)) (ends_of (id_in slot s) (entries s.part.store.objects))
  ends_killed slot o s is killed = ap (ends_at slot) is ∙ rw killed refl

  -- ---- slot by slot

  collected_long : {A : Type 0} (give : ℕ → Option (Stored T U C) → List A) (k : ℕ) (clients : List (Option (Stored T U C)))
      (x : Option (Stored T U C)) → slice_get clients k ≡ Some x
      → length (collected give k (drop k clients)) ≡ length (give k x) + length (collected give (k + 1) (drop (k + 1) clients))
  collected_long give k clients x here = ap (λ l. length (collected give k l)) (rest_at clients k x here) ∙ length-append (give k x)
      (collected give (k + 1) (drop (k + 1) clients))

  pub part_length : {A : Type 0} (give : ℕ → Option (Stored T U C) → List A) (n slot k : ℕ) (clients : List (Option (Stored T U C)))
      (x : Option (Stored T U C)) → slot ≡ n + k
      → slice_get clients k ≡ Some x → length (give slot x) ≤ length (collected give n clients)
  part_length give n slot k [] x at here = absurd (none-some x here)
  part_length give n slot zero (z ∷ clients) x at here = grind (arith, length, same_Some, length-append, collected)
  part_length give n slot (suc k) (z ∷ clients) x at here = grind (arith, length-append, collected, part_length give (n + 1) slot k clients x)

  -- the killed ones of the slots below this one have left, and the others are as they were
  pub record Leave (slot : ℕ) (start now : List (Option (Stored T U C))) (notes notes' : List (Note U))
      (given given' : List (ClientParts × T)) : Type 0 where
    pub same : all_staying now ≡ all_staying start
    pub rest : (k : ℕ) → slot ≤ k → slice_get now k ≡ slice_get start k
    pub left : (k : ℕ) (x : Option (Stored T U C)) → k < slot → slice_get now k ≡ Some x → staying x ≡ x
    pub noted : notes' ++ collected ends_at slot (drop slot start) ≡ notes ++ collected ends_at 0 start
    pub gave : given' ++ collected given_at slot (drop slot start) ≡ given ++ collected given_at 0 start

  pub leave_one : (slot : ℕ) (start now : List (Option (Stored T U C))) (notes notes' notes'' : List (Note U))
      (given given' given'' : List (ClientParts × T)) (x x' : Option (Stored T U C))
      → Leave slot start now notes notes' given given' → slice_get now slot ≡ Some x → x' ≡ staying x → notes'' ≡ notes' ++ ends_at slot x
      → given'' ≡ given' ++ given_at slot x
      → Leave (slot + 1) start (slice_set now slot x') notes notes'' given given''
  leave_one slot start now notes notes' notes'' given given' given'' x x' before here stays noted gave = record {
    same = map_set staying now slot x x' here (ap staying stays ∙ (grind (arith, staying))) ∙ before.same;
    rest = λ k above. get_set_other now slot k x' (λ e. absurd (omega (arith, above, e))) ∙ before.rest k (omega (arith, above));
    left = λ k y below get. (grind (arith, same_Some, get_set_same, slice_get, slice_set, staying, other_of, get_set_other, k == slot));
    noted = grind (arith, append_assoc, ends_at, collected, before.noted, rest_at start slot x, before.rest slot);
    gave = grind (arith, append_assoc, given_at, collected, before.gave, rest_at start slot x, before.rest slot);
  }

  -- there is room for what the next one leaves
  pub leave_room : {A : Type 0} (give : ℕ → Option (Stored T U C) → List A) (slot : ℕ) (start : List (Option (Stored T U C))) (has has' : List A)
      (x : Option (Stored T U C)) (n n' room room' : ℕ)
      → has' ++ collected give slot (drop slot start) ≡ has ++ collected give 0 start → slice_get start slot ≡ Some x → n ≡ length has
      → n' ≡ length has'
      → n + length (collected give 0 start) ≤ room → room' ≡ room → n' + length (give slot x) ≤ room'
  leave_room give slot start has has' x n n' room room' are here is is' fits same = grind
      (arith, length-append, ap length are, collected_long give slot start x here)

  pub leave_ends : (slot : ℕ) (start now : List (Option (Stored T U C))) (notes notes' : List (Note U)) (given given' : List (ClientParts × T))
      → Leave slot start now notes notes' given given'
      → length start ≤ slot → length now ≡ length start
      → (now ≡ all_staying start) × (notes' ≡ notes ++ collected ends_at 0 start) × (given' ≡ given ++ collected given_at 0 start)
  leave_ends slot start now notes notes' given given' before past len =
      grind (arith, map_itself, staying, slice_get_within, append-nil, collected, ends_at, drop_all, given_at)

-- ---- the notes of ends are in the order of the slots

from_lower : {U : Type 0} (low slot : ℕ) (ns : List (Note U)) → low ≤ slot → RiseFromSlot slot ns → RiseFromSlot low ns
from_lower low slot [] less rise = tt
from_lower low slot (n ∷ ns) less (first, rest) = (omega (arith, less, first), rest)

noted_rise : {U : Type 0} (slot : ℕ) (id : ClientParts) (hs : List (Happening U)) (rest : List (Note U)) → id.slot ≡ slot → RiseFromSlot slot rest
    → RiseFromSlot slot (map (note_of id) hs ++ rest)
noted_rise slot id [] rest is rise = rise
noted_rise slot id (h ∷ hs) rest is rise = grind (arith, note_of, noted_rise slot id hs rest is rise)

pub ends_rise : {T U C : Type 0} (low slot : ℕ) (clients : List (Option (Stored T U C))) → low ≤ slot
    → RiseFromSlot low (collected ends_at slot clients)
ends_rise low slot [] less = tt
ends_rise low slot (None ∷ clients) less = ends_rise low (slot + 1) clients (omega (arith, less))
ends_rise low slot (Some s ∷ clients) less =
    let rest = ends_rise slot (slot + 1) clients (omega arith) in
    from_lower low slot _ less
    (grind (arith, s.part.is_killed, rest, noted_rise slot (id_in slot s) (ends_of (id_in slot s) (entries s.part.store.objects)) (collected ends_at (slot + 1) clients) refl rest))
