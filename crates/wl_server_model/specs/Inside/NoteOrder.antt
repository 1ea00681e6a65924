-- How many notes are left to be gathered.
use Rattle.std.specs.Prelude.{◌≡◌, ℕ, ◌+◌, Bool, List, [], ◌∷◌, length}
use Rattle.wl_server_client.specs.NoteTimes.{places_of}
use Rattle.wl_server_model.specs.NoteOrder.{times_at}
use Rattle.wl_server_client.specs.Stored.{NoteTimes}

-- no client has notes left that are gathered
abbrev pub NoneNumbered : Bool → List NoteTimes → Type 0
NoneNumbered waits clients = (slot : ℕ) → places_of waits 0 (times_at slot clients) ≡ []

-- how many there are of all clients
abbrev pub count_places : Bool → List NoteTimes → ℕ
count_places waits [] = 0
count_places waits (t ∷ clients) = length (places_of waits 0 t) + count_places waits clients
