-- How the notes that stand with their clients are gathered.
use Rattle.std.specs.Prelude.{◌≡◌, ℕ, ◌+◌, List, [], ◌∷◌, ◌++◌, length, map, Bool, Option, None, Some, option_map, slice_get}
use Rattle.wl_server_client.specs.declared.notes.Happening.{Happening}
use Rattle.wl_server_client.specs.declared.notes.Note.{Note}
use Rattle.wl_server_client.specs.Ids.{ClientParts}
use Rattle.wl_server_client.specs.NoteTimes.{to_gather}
use Rattle.wl_server_client.specs.Stored.{Stored, note_of}
use Rattle.wl_server_model.specs.Server.{client_at, notes_of}
use Rattle.wl_server_client.specs.Inside.Gathering.{emptied}

module _ {T U C : Type 0} (waits : Bool) where
  abbrev pub all_emptied : List (Option (Stored T U C)) → List (Option (Stored T U C))
  all_emptied clients = map (option_map (emptied waits)) clients

  -- how many there are of all clients
  abbrev pub count_leaving : List (Option (Stored T U C)) → ℕ
  count_leaving [] = 0
  count_leaving (x ∷ clients) = length (to_gather waits x) + count_leaving clients

  abbrev pub notes_from : ℕ → Option (Stored T U C) → List (Happening U) → List (Note U)
  notes_from slot None told = []
  notes_from slot (Some s) told = map (note_of (record { slot = slot; serial = s.serial })) told

  -- the first of the notes of a slot's client is appended to these notes
  abbrev pub MovesNote : ℕ → Option (Stored T U C) → List (Note U) → Option (Stored T U C) → List (Note U) → Type 0
  MovesNote slot before notes after notes' =
      (h : Happening U) × (to_gather waits before ≡ h ∷ to_gather waits after) × (option_map (emptied waits) after ≡ option_map (emptied waits) before)
      × (notes' ≡ notes ++ notes_from slot before (h ∷ []))

  -- some notes of all clients are moved so; of each client id the notes tell the same as before
  pub record Gathers (clients : List (Option (Stored T U C))) (notes : List (Note U)) (clients' : List (Option (Stored T U C))) (notes' : List (Note U)) : Type 0 where
    pub rest : all_emptied clients' ≡ all_emptied clients
    pub told : (id : ClientParts) → notes_of id notes' ++ to_gather waits (client_at id clients') ≡ notes_of id notes ++ to_gather waits (client_at id clients)
    pub count : length notes' + count_leaving clients' ≡ length notes + count_leaving clients

  -- no client has notes to be gathered
  abbrev pub AllLeft : List (Option (Stored T U C)) → Type 0
  AllLeft clients = (slot : ℕ) (x : Option (Stored T U C)) → slice_get clients slot ≡ Some x → to_gather waits x ≡ []
