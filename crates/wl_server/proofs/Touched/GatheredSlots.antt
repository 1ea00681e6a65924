-- What a server keeps of its clients once notes were gathered, or were not for want of memory.
use Rattle.std.proofs.Common.{◌≡◌, ℕ, List, length, map, Option, false, ap, arith}
use Rattle.std.proofs.lemmas.List.{length-map}
use Rattle.wl_sets.specs.declared.slot_set.SlotSet.{SlotSet}
use Rattle.wl_server.specs.declared.client.touched.Touched.{Touched}
use Rattle.wl_server_client.specs.declared.notes.queues.NoteNumbers.{NoteNumbers}
use Rattle.wl_server_model.specs.Inside.Gathering.{all_emptied}
use Rattle.wl_server.specs.Inside.Touched.{AllQuiet}
use Rattle.wl_server_model.specs.NoteOrder.{AllNumbered, AllTakeFirst}
use Rattle.wl_server_client.specs.NoteTimes.{times_of}
use Rattle.wl_server_client.specs.Stored.{Stored}
use Rattle.wl_server.proofs.CallSteps.Kept.{AreKept}
use Rattle.wl_server_model.proofs.CallSteps.Numbering.{numbers_left}
use Rattle.wl_server_model.proofs.CleanupSteps.Taken.{taken_gathered}
use Rattle.wl_server.proofs.Touched.Gathered.{quiet_gathered, sent_emptied}

module _ {T U C : Type 0} where
  pub kept_gathered : (count count' free_from : ℕ) (a : NoteNumbers) (touched : Touched) (to_note : SlotSet)
      (clients clients' : List (Option (Stored T U C)))
      → all_emptied false clients' ≡ all_emptied false clients → count ≡ length clients → count' ≡ length clients'
      → AllTakeFirst (map times_of clients) (map times_of clients') → (AllNumbered clients → AllNumbered clients')
      → AllQuiet to_note.words.items clients
      → AreKept count free_from a touched clients → AreKept count' free_from a (record touched { to_note = to_note }) clients'
  kept_gathered count count' free_from a touched to_note clients clients' same len len' first numbered quiet (slots, has, all, was) = (
    record { within = grind (arith, slots.within, ap length same, length-map); taken = taken_gathered false _ _ _ same slots.taken },
    numbers_left _ _ _ first has,
    numbered all,
    record { sent = sent_emptied false _ _ _ same was.sent; quiet = quiet_gathered _ _ _ same first (numbered all) quiet },
  )
