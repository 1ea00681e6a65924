-- The notes that were gathered are handed out, as a step of the server.
use Rattle.std.proofs.Common.{◌≡◌, ◌≢◌, ◌<◌, Bool, true, false, List, [], ◌++◌, map, Option, Ok, Err, Vec, refl, sym, ap, ◌∙◌, append-nil, arith}
use Rattle.std.specs.Global.{Global}
use Rattle.std.specs.Option.{option_map, option_map_or}
use Rattle.std.specs.Prelude.{slice_get}
use Rattle.std.proofs.lemmas.Option.{slice_get-map}
use Rattle.wl_wire.specs.declared.error.OutOfMemory.{OutOfMemory}
use Rattle.wl_server_client.specs.declared.notes.Note.{Note}
use Rattle.wl_server_model.specs.declared.step.Reply.TheVariants as reply
use Rattle.wl_server_model.specs.declared.step.Step.TheVariants as step
use Rattle.wl_server_model.proofs.OverRuns.Alone.AccountLaws.{calls}
use Rattle.wl_server_model.specs.Backend.{Calls}
use Rattle.wl_server_client.specs.Deeds.{NoteTaken}
use Rattle.wl_server_model.specs.Inside.Gathering.{AllLeft, Gathers, count_leaving}
use Rattle.wl_server_client.specs.Inside.Gathering.{emptied}
use Rattle.wl_server_model.specs.NoteOrder.{AllNumbered, AllTakeFirst, IsInOrder}
use Rattle.wl_server_client.specs.NoteTimes.{times_of, to_gather}
use Rattle.wl_server_client.specs.Globals.{Offer}
use Rattle.wl_server_client.specs.Ids.{ClientParts}
use Rattle.wl_server_model.specs.PartStep.{NotesTaken, World}
use Rattle.wl_server_model.specs.Server.{ServerState, client_at, if_serial, notes_of, seen_as}
use Rattle.wl_server_client.specs.Stored.{Stored}
use Rattle.wl_server_model.specs.Steps.{SomeClient, StepOf}
use Rattle.wl_server_model.proofs.CleanupSteps.Asking.{one_leaves}
use Rattle.wl_server_model.proofs.CallSteps.Numbering.{all_same}
use Rattle.wl_server_model.proofs.CallSteps.Feeling.{step_of}

module _ {T U C : Type 0} where
  -- ---- what is left of each client

  -- of each id the same client is left
  pub same_left : (waits : Bool) (clients : List (Option (Stored T U C))) (notes : List (Note U)) (clients' : List (Option (Stored T U C)))
      (notes' : List (Note U))
      → Gathers waits clients notes clients' notes' → (id : ClientParts)
      → option_map (emptied waits) (client_at id clients') ≡ option_map (emptied waits) (client_at id clients)
  same_left waits clients notes clients' notes' by id = sym (grind (arith, if_serial, option_map_or, slice_get-map, option_map, emptied, slice_get))
      ∙ (ap (client_at id) by.rest ∙ (grind (arith, if_serial, option_map_or, slice_get-map, option_map, emptied, slice_get)))

  pub none_left : (waits : Bool) (clients : List (Option (Stored T U C))) → AllLeft waits clients → (id : ClientParts)
      → to_gather waits (client_at id clients) ≡ []
  none_left waits clients all id = grind (arith, to_gather, if_serial)

  -- ---- the notes that were made

  -- what is held of the id, once all notes are gathered and taken
  each_taken : {G : Type 0} (w : World T G C) (offer : Offer G) (clients : List (Option (Stored T U C))) (notes : List (Note U))
      (clients' : List (Option (Stored T U C))) (out : Vec (Note U) Global)
      → Gathers false clients notes clients' out.items → AllLeft false clients' → (id : ClientParts)
      → NotesTaken w id offer (Ok out) (seen_as (notes_of id notes) (client_at id clients)) false
      (map NoteTaken (notes_of id notes ++ option_map_or (λ s. s.made) (client_at id clients) []))
      (seen_as [] (client_at id clients'))
  each_taken w offer clients notes clients' out by left id =
      ((grind (arith, append-nil, notes_of, none_left, clients', left, id, client_at)), refl, refl, held)
    where
      parts : option_map (λ s. s.part) (client_at id clients') ≡ option_map (λ s. s.part) (client_at id clients)
      parts = sym (grind (arith, client_at id clients'))
          ∙ (ap (option_map (λ (s : Stored T U C). s.part)) (same_left false clients notes clients' out.items by id)
          ∙ (grind (arith, client_at id clients)))

      held : seen_as [] (client_at id clients') ≡ record { part = option_map (λ s. s.part) (client_at id clients); made = [] }
      held = grind (arith, option_map_or, client_at, parts, option_map, append-nil, none_left, clients', left, id)

module _ {T U G C : Type 0} (w : World T G C) (before : ServerState T U G C) where
  -- ---- the step

  taken_so : (clients' : List (Option (Stored T U C))) (out : Vec (Note U) Global) → Gathers false before.clients before.notes clients' out.items
      → AllLeft false clients'
      → IsInOrder false before.clients before.notes out.items → AllTakeFirst (map times_of before.clients) (map times_of clients')
      → AllNumbered clients'
      → StepOf w before step.TakeNotes (reply.TakeNotes (Ok out)) false (record before { clients = clients'; notes = [] })
  taken_so clients' out by left in_order first numbered =
      step_of w before _ false (λ id. map NoteTaken (notes_of id before.notes ++ option_map_or (λ s. s.made) (client_at id before.clients) [])) _ refl
      (omega arith) tt tt tt tt refl
      (record { in_order = in_order; none = refl; numbered = numbered; first = first; numbers = refl })
      (λ id. (Ok out, refl, each_taken w before.offer before.clients before.notes clients' out by left id))

  pub notes_taken : {was : Bool} (clients' : List (Option (Stored T U C))) (gathered : List (Note U)) (out : Vec (Note U) Global)
      (notes' : List (Note U)) → out.items ≡ gathered → notes' ≡ []
      → Gathers false before.clients before.notes clients' gathered → AllLeft false clients' → IsInOrder false before.clients before.notes gathered
      → AllTakeFirst (map times_of before.clients) (map times_of clients') → AllNumbered clients'
      → Calls w (record { server = before; refused = was }) step.TakeNotes (reply.TakeNotes (Ok out))
      (record { server = record before { clients = clients'; notes = notes' }; refused = false })
  notes_taken clients' gathered out notes' are none by left in_order first numbered = calls _ _ _ _ _ (rw none (grind (arith, taken_so)))

  -- there is no memory for it
  not_taken : (e : OutOfMemory) → SomeClient before.clients (λ s. s.made ≢ []) → AllNumbered before.clients
      → StepOf w before step.TakeNotes (reply.TakeNotes (Err e)) true before
  not_taken e some all =
      step_of w before _ true (λ id. []) before refl (omega arith) tt tt tt some refl
      (record { gathered = refl; times = all_same _ _ _ refl; numbered = all }) (λ id. (Err e, refl, (refl, refl, refl)))

  pub notes_starved : {was : Bool} (e : OutOfMemory) (clients' : List (Option (Stored T U C))) (notes' : List (Note U)) → clients' ≡ before.clients
      → notes' ≡ before.notes
      → 0 < count_leaving false before.clients → AllNumbered before.clients
      → Calls w (record { server = before; refused = was }) step.TakeNotes (reply.TakeNotes (Err e))
      (record { server = record before { clients = clients'; notes = notes' }; refused = true })
  notes_starved e clients' notes' same same' some all =
      let (slot, s, here, is) = one_leaves false before.clients some in
      calls _ _ _ _ _ (rw (same, same') (not_taken e (slot, s, here, λ none. is (append-nil s.made ∙ none)) all))
