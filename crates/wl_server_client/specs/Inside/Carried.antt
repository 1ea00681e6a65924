-- How a verdict was carried out over a client, as the functions that do so say to their callers.
use Rattle.std.specs.Prelude.{◌≡◌, ◌⊎◌, ℕ, List, ◌++◌, Bool, true, ◌||◌, Result, map}
use Rattle.wl_wire.specs.declared.error.IoFault.{IoFault}
use Rattle.wl_link.specs.Exchange.{Queue, Sending}
use Rattle.wl_link.specs.Link.{LinkState}
use Rattle.wl_link.specs.Puts.{FlushesOut, lacks_memory}
use Rattle.wl_link.specs.Reader.{HandedOut, Verdict, came_to}
use Rattle.wl_server_client.specs.declared.notes.Happening.{Happening}
use Rattle.wl_server_client.specs.Deeds.{notes_in}
use Rattle.wl_server_client.specs.Inside.Puts.{Puts}
use Rattle.wl_server_client.specs.Stored.{Stored, no_times, untimed}
use Rattle.wl_server_client.specs.Telling.{Core, Told, deeds_in, end_deeds, part_of, speaker}

-- the notes among what is handed out
abbrev pub told_notes : {U : Type 0} → List (Told U) → List (Happening U)
told_notes events = notes_in (deeds_in (map HandedOut events))

module _ {T U C : Type 0} (sends : T → Queue → Result ℕ IoFault → T → Type 0) where
  -- the messages were put, what waits was flushed if it had to be, and the core is what the answer makes it
  abbrev pub Put : Verdict (Core U C) (Told U) → LinkState T → Bool → Core U C → LinkState T → Type 0
  Put v before refused core after =
      (wrote : Result (Unit {0}) IoFault) × (mid : LinkState T) × (others : List Sending) × (lacked : Bool)
      × Puts sends before v.puts wrote mid × FlushesOut sends v.flushes mid others lacked after
      × (core ≡ came_to speaker v wrote) × (refused ≡ lacks_memory wrote || lacked)

  -- memory was refused before anything was put
  abbrev pub Starved : Verdict (Core U C) (Told U) → LinkState T → Bool → Core U C → LinkState T → Type 0
  Starved v before refused core after = (v.asks ≡ true) × (refused ≡ true) × (core ≡ v.starved) × (after ≡ before)

  -- one of these, and the new notes come after those that were made
  abbrev pub IsCarried : Verdict (Core U C) (Told U) → Stored T U C → Bool → Stored T U C → Type 0
  IsCarried v before refused after =
      (core : Core U C) × (link : LinkState T)
      × (Put v before.part.link refused core link ⊎ Starved v before.part.link refused core link)
      × (untimed after ≡ record {
        serial = before.serial;
        part = part_of (record { core = core; link = link });
        made = before.made ++ (told_notes (v.events core) ++ notes_in (end_deeds core.ended));
        times = no_times;
      })
