-- The slots of a server, and how a new client is put at one.
use Rattle.std.specs.Prelude.{◌≡◌, ◌≢◌, ℕ, ◌<◌, ◌≤◌, IsSome, List, Option, Some, slice_get}
use Rattle.wl_server_client.specs.Stored.{Stored}
use Rattle.wl_server_model.specs.Server.{stored_at}

module _ {T U C : Type 0} where
  -- the client stands at the slot, and all other slots are as they were
  abbrev pub IsPut : List (Option (Stored T U C)) → ℕ → Stored T U C → List (Option (Stored T U C)) → Type 0
  IsPut before slot s after =
      (slice_get after slot ≡ Some (Some s)) × ((k : ℕ) → k ≢ slot → slice_get after k ≡ slice_get before k)

  -- each slot below this one has a client
  unfoldable pub AreTaken : ℕ → List (Option (Stored T U C)) → Type 0
  AreTaken n clients = (k : ℕ) → k < n → IsSome (stored_at k clients)

  -- there are no more slots than numbers of 32 bits, and none below the second number is free
  pub record HasSlots (count free_from : ℕ) (clients : List (Option (Stored T U C))) : Type 0 where
    pub within : count ≤ 0x100000000
    pub taken : AreTaken free_from clients
