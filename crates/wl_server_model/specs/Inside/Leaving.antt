-- How killed clients leave a server.
use Rattle.std.specs.Prelude.{ℕ, ◌+◌, List, [], ◌∷◌, ◌++◌, map, Bool, true, false, if◌then◌else◌, Option, None, Some, Result, MatchBool}
use Rattle.std.specs.FinMap as finmap
use Rattle.wl_wire.specs.declared.error.IoFault.{IoFault}
use Rattle.wl_link.specs.Exchange.{Queue}
use Rattle.wl_server_client.specs.declared.notes.Happening.{Happening}
use Rattle.wl_server_client.specs.declared.notes.Note.{Note}
use Rattle.wl_server_client.specs.Deeds.{Deed}
use Rattle.wl_server_client.specs.Felt.{FlushedTo, FlushesLive, Stays}
use Rattle.wl_server_client.specs.Ids.{ClientParts}
use Rattle.wl_server_client.specs.Part.{Part}
use Rattle.wl_server_client.specs.Stored.{Stored, note_of}
use Rattle.wl_server_client.specs.Inside.Leaving.{ends_of}

module _ {T U C : Type 0} where
  abbrev pub id_in : ℕ → Stored T U C → ClientParts
  id_in slot s = record { slot = slot; serial = s.serial }

  -- the notes of the objects of a client that leaves its slot
  abbrev pub ends_at : ℕ → Option (Stored T U C) → List (Note U)
  ends_at slot None = []
  ends_at slot (Some s) = if s.part.is_killed then map (note_of (id_in slot s)) (ends_of (id_in slot s) (finmap.entries s.part.store.objects)) else []

  -- the transport of a client that leaves its slot, with its id
  abbrev pub given_at : ℕ → Option (Stored T U C) → List (ClientParts × T)
  given_at slot None = []
  given_at slot (Some s) = if s.part.is_killed then ((id_in slot s, s.part.link.transport) ∷ []) else []

  -- a killed client leaves
  abbrev pub staying : Option (Stored T U C) → Option (Stored T U C)
  staying None = None
  staying (Some s) = if s.part.is_killed then None else Some s

  -- the same by the client's id
  abbrev pub ends_in : ClientParts → Option (Stored T U C) → List (Happening U)
  ends_in id None = []
  ends_in id (Some s) = if s.part.is_killed then ends_of id (finmap.entries s.part.store.objects) else []

  abbrev pub given_in : Option (Stored T U C) → List T
  given_in None = []
  given_in (Some s) = if s.part.is_killed then (s.part.link.transport ∷ []) else []

  -- what all slots give, from a slot on
  abbrev pub collected : {A : Type 0} → (ℕ → Option (Stored T U C) → List A) → ℕ → List (Option (Stored T U C)) → List A
  collected give slot [] = []
  collected give slot (x ∷ clients) = give slot x ++ collected give (slot + 1) clients

  abbrev pub all_staying : List (Option (Stored T U C)) → List (Option (Stored T U C))
  all_staying clients = map staying clients

-- what waits for a killed client is flushed; a fault is dropped
abbrev pub FlushesKilled : {T U C : Type 0} → (T → Queue → Result ℕ IoFault → T → Type 0) → Part T U C → Bool → List (Deed U) → Part T U C → Type 0
FlushesKilled sends before lacked did after =
    MatchBool before.is_killed ((answer : Result (Unit {0}) IoFault) × FlushedTo sends before answer lacked did after) (Stays before lacked did after)

-- what waits is flushed: for a killed client (`true`), or for a live one
abbrev pub Flushes : {T U C : Type 0} → (T → Queue → Result ℕ IoFault → T → Type 0) → Bool → Part T U C → Bool → List (Deed U) → Part T U C → Type 0
Flushes sends true before lacked did after = FlushesKilled sends before lacked did after
Flushes sends false before lacked did after = FlushesLive sends before lacked did after
