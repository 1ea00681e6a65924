-- What a server keeps of its clients, after one of them was written or each of them felt a step; and what answers have in common.
use Rattle.std.proofs.Common.{◌≡◌, ℕ, Bool, List, Option, Some, refl, length, map, arith}
use Rattle.std.specs.Prelude.{slice_set}
use Rattle.wl_server.specs.declared.client.touched.Touched.{Touched}
use Rattle.wl_server_client.specs.declared.notes.queues.NoteNumbers.{NoteNumbers}
use Rattle.wl_wire.specs.Table.{InterfaceRow}
use Rattle.wl_server_client.specs.Globals.{Globals, Offer}
use Rattle.wl_server_client.specs.Ids.{ClientParts}
use Rattle.wl_server_model.specs.Inside.Inserting.{HasSlots}
use Rattle.wl_server_model.specs.Inside.Places.{AllFeel}
use Rattle.wl_server.specs.Inside.Touched.{AreTouched}
use Rattle.wl_server_model.specs.NoteOrder.{AllInTime, AllNumbered, HasNumbers}
use Rattle.wl_server_client.specs.NoteTimes.{IsNumbered, NotesInTime, times_of}
use Rattle.wl_server_client.specs.Stored.{Stored}
use Rattle.wl_server_model.specs.Server.{client_at}
use Rattle.wl_server_model.proofs.CallSteps.Numbering.{numbered_at, numbers_set}
use Rattle.wl_server_model.proofs.CallSteps.Slots.{Kind}
use Rattle.wl_server_model.proofs.CleanupSteps.Taken.{slots_set, taken_felt}

-- a clause `call`, and what follows from it
pub with_plain : {A B : Type 0} → (A → B) → A → record { call : A; plain : B }
with_plain plain call = record { call = call; plain = plain call }

-- the same of a call that ends an action
pub with_data : {A B C D : Type 0} → (A → B) → (A → C) → (B → D) → A → record { call : A; plain : B; cutting : C; «data» : D }
with_data plain cutting held call = record { call = call; plain = plain call; cutting = cutting call; «data» = held (plain call) }

-- an offer of other globals
pub with_globals : {G : Type 0} (table : List InterfaceRow) (limit : ℕ) (objects : Option ℕ) (hands : Bool) (before after : Globals G) → before ≡ after
    → ◌≡◌ {A = Offer G}
    (record { table = table; globals = before; default_limit = limit; object_limit = objects; hands_registries = hands })
    (record { table = table; globals = after; default_limit = limit; object_limit = objects; hands_registries = hands })
with_globals table limit objects hands before after is = rw is refl

module _ {T U C : Type 0} where
  -- the invariant of a server, of these fields
  abbrev pub AreKept : ℕ → ℕ → NoteNumbers → Touched → List (Option (Stored T U C)) → Type 0
  AreKept count free_from numbers touched clients =
      HasSlots count free_from clients × HasNumbers numbers (map times_of clients) × AllNumbered clients × AreTouched touched clients

  -- the client of an id was written
  pub kept_written : (count free_from : ℕ) (a b : NoteNumbers) (touched touched' : Touched) (clients : List (Option (Stored T U C)))
      (id : ClientParts) (s s' : Stored T U C)
      → Some s ≡ client_at id clients → NotesInTime s.times a s'.times b → (IsNumbered (Some s) → IsNumbered (Some s'))
      → (AreTouched touched clients → (x : Stored T U C) → AreTouched touched' (slice_set clients id.slot (Some x)))
      → AreKept count free_from a touched clients → AreKept count free_from b touched' (slice_set clients id.slot (Some s'))
  kept_written count free_from a b touched touched' clients id s s' is times numbered are (slots, has, all, was) =
      (slots_set _ _ _ _ _ slots, numbers_set _ _ _ _ _ _ is times has, numbered_at _ _ _ _ is numbered all, are was s')

  -- each client felt a step
  pub kept_felt : (R : Kind T U C) (refused : Bool) (count count' free_from : ℕ) (a b : NoteNumbers) (touched touched' : Touched)
      (clients clients' : List (Option (Stored T U C)))
      → count' ≡ count → AllFeel R refused (length clients) clients clients' → AllInTime (map times_of clients) a (map times_of clients') b
      → (AllNumbered clients → AllNumbered clients') → (AreTouched touched clients → AreTouched touched' clients')
      → AreKept count free_from a touched clients → AreKept count' free_from b touched' clients'
  kept_felt R refused count count' free_from a b touched touched' clients clients' same felt times numbered are (slots, has, all, was) =
      (record { within = omega (arith, same, slots.within); taken = taken_felt _ _ _ _ _ felt slots.taken }, times.1.keeps has, numbered all, are was)
