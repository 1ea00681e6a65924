-- How the calls of a closure that are still to come go on from one that was made.
use Rattle.std.proofs.Common.{◌≡◌, ℕ, ◌+◌, List, ◌∷◌, ◌++◌, Option, None, Some, MatchOption, option_to_list, sym}
use Rattle.std.specs.List.{FoldsTo}
use Rattle.wl_server_client.specs.Ids.{ClientParts}
use Rattle.wl_server_model.specs.Lookups.{id_if_stored, live_from}
use Rattle.wl_server_client.specs.Stored.{Stored}

module _ {F A : Type 0} (step : F → A → F → Type 0) where
  -- a call for what is there, if it is
  abbrev pub CalledFor : Option A → F → F → Type 0
  CalledFor x f f' = MatchOption x (f' ≡ f) (λ a. step f a f')

  pub called_first : (x : Option A) (xs : List A) (f f' last : F) → CalledFor x f f' → FoldsTo step f' xs last
      → FoldsTo step f (option_to_list x ++ xs) last
  called_first None xs f f' last same folds = rw same at folds
  called_first (Some a) xs f f' last called folds = (f', called, folds)

module _ {T U C F : Type 0} (step : F → ClientParts → F → Type 0) where
  -- the client of a slot, and those behind it
  pub live_first : (slot : ℕ) (place : Option (Stored T U C)) (rest others : List (Option (Stored T U C))) (x : Option ClientParts) (f f' last : F)
      → rest ≡ place ∷ others → option_to_list x ≡ id_if_stored slot place → CalledFor step x f f'
      → FoldsTo step f' (live_from (slot + 1) others) last
      → FoldsTo step f (live_from slot rest) last
  live_first slot place rest others x f f' last is at called folds =
      rw (is, sym at) (called_first step x (live_from (slot + 1) others) f f' last called folds)
