-- A cleanup of which no client is to be taken out.
use Rattle.std.proofs.Common.{◌≡◌, ℕ, ◌+◌, ◌≤◌, false, List, [], ◌∷◌, length, Option, None, Some, refl, arith, ◌<◌}
use Rattle.std.specs.Prelude.{Result, slice_get}
use Rattle.std.proofs.lemmas.List.{length-append, nil_from_length}
use Rattle.wl_wire.specs.declared.error.IoFault.{IoFault}
use Rattle.wl_link.specs.Exchange.{Queue}
use Rattle.wl_server_model.specs.Inside.Leaving.{FlushesKilled, all_staying, collected, ends_at, given_at}
use Rattle.wl_server_model.specs.Inside.Places.{AllFeel, PlaceFeels}
use Rattle.wl_server_client.specs.Stored.{Stored}
use Rattle.wl_server_model.proofs.CleanupSteps.Asking.{none_ends}
use Rattle.wl_server_model.proofs.CleanupSteps.Outgoing.{not_killed, part_length}
use Rattle.wl_server_model.proofs.CallSteps.Feeling.{none_feels}

module _ {T U C : Type 0} where
  -- no client is killed
  live_at : (clients : List (Option (Stored T U C))) (slot : ℕ) (s : Stored T U C) → length (collected given_at 0 clients) ≤ 0
      → slice_get clients slot ≡ Some (Some s)
      → s.part.is_killed ≡ false
  live_at clients slot s none here = grind (arith, part_length given_at 0 slot slot clients (Some s) (omega arith) here, s.part.is_killed)

  -- so none is flushed
  pub none_flushed : (sends : T → Queue → Result ℕ IoFault → T → Type 0) (clients : List (Option (Stored T U C)))
      → length (collected given_at 0 clients) ≤ 0
      → AllFeel (λ id p lacked did q. FlushesKilled sends p lacked did q) false (length clients) clients clients
  none_flushed sends clients none = none_feels (λ id p lacked did q. FlushesKilled sends p lacked did q) (length clients) clients each
    where
      each : (k : ℕ) (x : Option (Stored T U C)) → k < length clients → slice_get clients k ≡ Some x → PlaceFeels
          (λ id p lacked did q. FlushesKilled sends p lacked did q) k x false x
      each k None below here = (refl, refl)
      each k (Some s) below here = (s, not_killed sends s (live_at clients k s none here), refl)

  -- and all stay
  pub none_leaves : (n : ℕ) (clients : List (Option (Stored T U C))) → length (collected given_at n clients) ≤ 0 → clients ≡ all_staying clients
  none_leaves n [] none = refl
  none_leaves n (None ∷ clients) none = grind (arith, none_leaves (n + 1) clients none)
  none_leaves n (Some s ∷ clients) none = grind (arith, length-append, given_at, collected, s.part.is_killed, none_leaves (n + 1) clients)

  pub none_noted : (clients : List (Option (Stored T U C))) → length (collected given_at 0 clients) ≤ 0 → collected ends_at 0 clients ≡ []
  none_noted clients none = nil_from_length (collected ends_at 0 clients) (omega (arith, none_ends 0 clients none))
