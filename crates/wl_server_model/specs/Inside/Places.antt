-- A step that each client feels by itself, slot by slot.
use Rattle.std.specs.Prelude.{◌≡◌, ℕ, ◌<◌, ◌≤◌, List, Bool, true, false, Option, None, Some, length, slice_get}
use Rattle.wl_server_client.specs.Inside.Client.{Does}
use Rattle.wl_server_client.specs.Deeds.{Deed}
use Rattle.wl_server_client.specs.Ids.{ClientParts}
use Rattle.wl_server_client.specs.Part.{Part}
use Rattle.wl_server_client.specs.Stored.{Stored}

module _ {T U C : Type 0} (R : ClientParts → Part T U C → Bool → List (Deed U) → Part T U C → Type 0) where
  -- the client of a slot, if there is one, feels the step; `lacked` says whether memory was refused to it
  abbrev pub PlaceFeels : ℕ → Option (Stored T U C) → Bool → Option (Stored T U C) → Type 0
  PlaceFeels slot None lacked after = (lacked ≡ false) × (after ≡ None)
  PlaceFeels slot (Some s) lacked after =
      (s' : Stored T U C) × Does s (λ p did q. R (record { slot = slot; serial = s.serial }) p lacked did q) s' × (after ≡ Some s')

  abbrev pub FeltAt : ℕ → Option (Option (Stored T U C)) → Bool → Option (Option (Stored T U C)) → Type 0
  FeltAt slot None lacked after = (lacked ≡ false) × (after ≡ None)
  FeltAt slot (Some place) lacked after =
      (place' : Option (Stored T U C)) × PlaceFeels slot place lacked place' × (after ≡ Some place')

  -- The clients of the slots below this one felt the step, and the others are as they were. `refused` says whether memory
  -- was refused to one of them.
  pub record AllFeel (refused : Bool) (slot : ℕ) (start now : List (Option (Stored T U C))) : Type 0 where
    pub lacks : ℕ → Bool
    pub len : length now ≡ length start
    pub felt : (k : ℕ) → k < slot → FeltAt k (slice_get start k) (lacks k) (slice_get now k)
    pub rest : (k : ℕ) → slot ≤ k → slice_get now k ≡ slice_get start k
    pub told : (k : ℕ) → k < slot → lacks k ≡ true → refused ≡ true
    pub blame : refused ≡ true → (k : ℕ) × (k < slot) × (lacks k ≡ true)
