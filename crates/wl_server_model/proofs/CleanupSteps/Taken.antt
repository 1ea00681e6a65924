-- The slots that have clients keep them.
use Rattle.std.proofs.Common.{◌≡◌, ◌∙◌, ℕ, ◌+◌, ◌≤◌, Bool, true, List, length, Option, None, Some, Result, is_some, IsSome, refl, ap, arith, below_more}
use Rattle.std.specs.Option.{option_map_or, option_map}
use Rattle.std.specs.Prelude.{slice_get, slice_set, ◌==◌}
use Rattle.std.proofs.lemmas.List.{length-map}
use Rattle.wl_wire.specs.declared.error.IoFault.{IoFault}
use Rattle.wl_link.specs.Exchange.{Queue}
use Rattle.wl_server_client.specs.declared.notes.Note.{Note}
use Rattle.wl_server_client.specs.Ids.{ClientParts}
use Rattle.wl_server_model.specs.Inside.Cleanup.{CleansUp}
use Rattle.wl_server_model.specs.Inside.Gathering.{all_emptied}
use Rattle.wl_server_client.specs.Inside.Gathering.{emptied}
use Rattle.wl_server_model.specs.Inside.Leaving.{staying}
use Rattle.wl_server_model.specs.Inside.Inserting.{AreTaken, HasSlots, IsPut}
use Rattle.wl_server_model.specs.Inside.Places.{AllFeel}
use Rattle.wl_server_client.specs.Stored.{Stored}
use Rattle.wl_server_model.specs.Server.{stored_at}
use Rattle.wl_server_model.specs.Steps.{IsLeastFree}
use Rattle.wl_sets.proofs.Lists.{get_set_other, get_set_same, other_of}
use Rattle.wl_server_model.proofs.CallSteps.Slots.{Kind}
use Rattle.wl_server_model.proofs.CleanupSteps.Gathering.{stored_map}

module _ {T U C : Type 0} where
  pub none_taken : (clients : List (Option (Stored T U C))) → AreTaken 0 clients
  unfolding AreTaken
  none_taken clients k below = absurd (omega (arith, below))

  pub one_more_taken : (clients : List (Option (Stored T U C))) (slot : ℕ) (x : Option (Stored T U C)) → AreTaken slot clients
      → slice_get clients slot ≡ Some x → is_some x ≡ true → AreTaken (slot + 1) clients
  unfolding AreTaken
  one_more_taken clients slot x taken here some =
      below_more (λ k. IsSome (stored_at k clients)) slot taken
      (ap (λ (o : Option (Option (Stored T U C))). is_some (option_map_or (λ s. s) o None)) here ∙ some)

  pub taken_less : (m n : ℕ) (clients : List (Option (Stored T U C))) → m ≤ n → AreTaken n clients → AreTaken m clients
  unfolding AreTaken
  taken_less m n clients less taken k below = taken k (omega (arith, less, below))

  -- ---- where one client is written

  pub taken_set : (n i : ℕ) (clients : List (Option (Stored T U C))) (s : Stored T U C) → AreTaken n clients
      → AreTaken n (slice_set clients i (Some s))
  unfolding AreTaken
  taken_set n i clients s taken k below = grind (arith, taken k below, get_set_same, get_set_other, other_of, k == i, slice_get clients i)

  pub slots_set : (count n i : ℕ) (clients : List (Option (Stored T U C))) (s : Stored T U C) → HasSlots count n clients
      → HasSlots count n (slice_set clients i (Some s))
  slots_set count n i clients s has = record { within = has.within; taken = taken_set n i clients s has.taken }

  -- a new client is put at the least free slot
  pub taken_put : (slot : ℕ) (clients clients' : List (Option (Stored T U C))) (s : Stored T U C) → IsLeastFree clients slot
      → IsPut clients slot s clients'
      → AreTaken (slot + 1) clients'
  unfolding AreTaken
  taken_put slot clients clients' s free (here, others) = grind (arith, below_more, is_some)

  -- ---- where each client feels something

  pub taken_felt : (R : Kind T U C) (n : ℕ) (refused : Bool) (before after : List (Option (Stored T U C)))
      → AllFeel R refused (length before) before after → AreTaken n before → AreTaken n after
  unfolding AreTaken
  taken_felt R n refused before after all taken k below = grind (arith, is_some)

  -- ---- where notes are gathered

  pub taken_gathered : (waits : Bool) (n : ℕ) (before after : List (Option (Stored T U C)))
      → all_emptied waits after ≡ all_emptied waits before → AreTaken n before → AreTaken n after
  unfolding AreTaken
  taken_gathered waits n before after same taken k below =
      grind (arith, taken k below, same, stored_map (option_map (emptied waits)) refl after k, stored_map (option_map (emptied waits)) refl before k, is_some)

  -- ---- how many slots there are

  pub slots_emptied : (waits : Bool) (before after : List (Option (Stored T U C))) → all_emptied waits after ≡ all_emptied waits before
      → length after ≡ length before
  slots_emptied waits before after same = grind (arith, ap length same, length-map)

  -- a cleanup leaves as many as there were
  pub slots_cleaned : (sends : T → Queue → Result ℕ IoFault → T → Type 0) (before : List (Option (Stored T U C))) (notes : List (Note U))
      (refused : Bool)
      (after : List (Option (Stored T U C))) (notes' : List (Note U)) (given : List (ClientParts × T))
      → CleansUp sends before notes refused after notes' given → length after ≡ length before
  slots_cleaned sends before notes refused after notes' given by = ap length by.stay ∙ (length-map by.left staying
      ∙ (slots_emptied true by.flushed by.left by.gathers.rest ∙ by.flushes.len))
