-- What a client comes to that was told messages: it is closed down where one could not be put.
use Rattle.std.proofs.Common.{◌≡◌, ◌∙◌, ℕ, Bool, false, List, [], ◌++◌, Result, Ok, Err, refl, ap, subst, arith}
use Rattle.std.proofs.Math.Bool.{or-false}
use Rattle.wl_wire.specs.declared.error.IoFault.{IoFault}
use Rattle.wl_link.specs.Exchange.{Queue}
use Rattle.wl_link.specs.Link.{LinkState}
use Rattle.wl_link.specs.Puts.{Said, lacks_memory}
use Rattle.wl_link.specs.Reader.{Verdict, came_to}
use Rattle.wl_server_client.specs.declared.notes.Happening.{Happening}
use Rattle.wl_server_client.specs.Deeds.{Deed, notes_in}
use Rattle.wl_server_client.specs.Inside.Puts.{Puts}
use Rattle.wl_server_client.specs.Stored.{Stored, no_times}
use Rattle.wl_server_client.specs.Telling.{Core, Tells, Told, closed_down, end_deeds, part_of, speaker, tells}
use Rattle.wl_server_client.specs.Inside.Carried.{told_notes}
use Rattle.wl_server_client.proofs.Readings.Notes.{tells_put}

module _ {U C : Type 0} where
  -- the core where all messages were put, and where one was not
  abbrev pub closing : Core U C → Result (Unit {0}) IoFault → Core U C
  closing c (Ok _) = c
  closing c (Err f) = closed_down c

  -- the verdict of a client that is told messages, with other events
  abbrev pub telling : Core U C → List Said → (Core U C → List (Told U)) → Verdict (Core U C) (Told U)
  telling c puts events = record (tells c puts) { events = events }

module _ {T U C : Type 0} where
  -- a client of that core and link, with these notes made
  abbrev pub client_of : ℕ → Core U C → LinkState T → List (Happening U) → Stored T U C
  client_of serial c link made = record { serial = serial; part = part_of (record { core = c; link = link }); made = made; times = no_times }

  -- the messages were put up to the first that failed, and nothing is noted beside the end of the client
  pub told_by : (sends : T → Queue → Result ℕ IoFault → T → Type 0) (c : Core U C) (puts : List Said) (events : Core U C → List (Told U))
      (before after : LinkState T) (told : Result (Unit {0}) IoFault) → ((d : Core U C) → told_notes (events d) ≡ [])
      → Puts sends before puts told after
      → (did : List (Deed U))
      × Tells sends (telling c puts events) before (lacks_memory told) did (part_of (record { core = closing c told; link = after }))
      × (notes_in did ≡ notes_in (end_deeds (closing c told).ended))
  told_by sends c puts events before after told silent put =
      let v = telling c puts events in
      let t = tells_put sends v before after after told [] false put (refl, refl, refl) in
      let came : came_to speaker v told ≡ closing c told = grind (arith) in
      let lacks = subst (λ (b : Bool). Tells sends v before b t.0 (part_of (record { core = came_to speaker v told; link = after })))
      (or-false (lacks_memory told)) t.1 in
      rw (← came) (t.0, lacks, t.2 ∙ ap (λ (l : List (Happening U)). l ++ notes_in (end_deeds (came_to speaker v told).ended)) (silent (came_to speaker v told)))
