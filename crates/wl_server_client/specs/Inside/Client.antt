-- What a call does to a stored client.
use Rattle.std.specs.Prelude.{◌≡◌, ℕ, List, [], ◌++◌, ◌∷◌, Option}
use Rattle.wl_link.specs.Link.{LinkState, IsFresh}
use Rattle.wl_server_client.specs.declared.notes.Happening.TheVariants.{Initialized}
use Rattle.wl_server_client.specs.Deeds.{Deed, notes_in}
use Rattle.wl_server_client.specs.Part.{Part, fresh_part}
use Rattle.wl_server_client.specs.Stored.{Stored, no_times, untimed}

module _ {T U C : Type 0} where
  -- The part changes by R, and the new notes come after those that were made. Which numbers they get is said apart, in
  -- `NoteTimes`.
  abbrev pub Does : Stored T U C → (Part T U C → List (Deed U) → Part T U C → Type 0) → Stored T U C → Type 0
  Does before R after =
      (did : List (Deed U)) × (q : Part T U C) × R before.part did q
      × (untimed after ≡ record { serial = before.serial; part = q; made = before.made ++ notes_in did; times = no_times })

  -- nothing has happened in it but its insertion
  abbrev pub IsInserted : ℕ → T → Option ℕ → C → Stored T U C → Type 0
  IsInserted serial transport limit client_data s =
      (link : LinkState T) × IsFresh transport limit link
      × (untimed s ≡ record { serial = serial; part = fresh_part link client_data; made = Initialized ∷ []; times = no_times })
