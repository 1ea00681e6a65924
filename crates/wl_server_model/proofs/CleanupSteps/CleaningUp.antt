-- A cleanup of all clients, as a step of the server.
use Rattle.std.proofs.Common.{◌≡◌, ◌+◌, ◌<◌, length, map, Bool, true, List, [], ◌++◌, Option, Ok, Err, Vec, refl, sym, ap, subst, ◌∙◌, arith}
use Rattle.std.specs.Global.{Global}
use Rattle.std.specs.Option.{option_map_or}
use Rattle.std.proofs.lemmas.Bool.{false≢true}
use Rattle.wl_wire.specs.declared.error.OutOfMemory.{OutOfMemory}
use Rattle.wl_server_client.specs.declared.notes.Happening.{Happening}
use Rattle.wl_server_client.specs.declared.notes.Note.{Note}
use Rattle.wl_server_client.specs.declared.notes.queues.NoteNumbers.{NoteNumbers}
use Rattle.wl_server_model.specs.declared.step.Reply.TheVariants as reply
use Rattle.wl_server_model.specs.declared.step.Step.TheVariants as step
use Rattle.wl_server_model.proofs.OverRuns.Alone.AccountLaws.{calls}
use Rattle.wl_server_model.specs.Backend.{Calls}
use Rattle.wl_server_model.specs.Inside.Cleanup.{CleansUp}
use Rattle.wl_server_model.specs.Inside.Gathering.{count_leaving}
use Rattle.wl_server_model.specs.NoteOrder.{AllNumbered, AllTakeFirst, NoneWaits}
use Rattle.wl_server_client.specs.NoteTimes.{times_of, to_gather}
use Rattle.wl_server_client.specs.Ids.{ClientParts}
use Rattle.wl_server_model.specs.Inside.Leaving.{FlushesKilled, collected, ends_at, given_at, staying}
use Rattle.wl_server_model.specs.PartStep.{World, share_of}
use Rattle.wl_server_model.specs.Server.{ServerState, client_at, notes_of}
use Rattle.wl_server_client.specs.Stored.{Stored}
use Rattle.wl_server_model.specs.Steps.{StepOf}
use Rattle.wl_server_model.proofs.CleanupSteps.Asking.{cleanup_asks}
use Rattle.wl_server_model.proofs.CleanupSteps.Cleaning.{CleanedBy, cleaned_one}
use Rattle.wl_server_model.proofs.CallSteps.Collecting.{Rises, given_for, given_rises, staying_for, ends_for}
use Rattle.wl_server_model.proofs.CallSteps.Feeling.{each_felt, lacks_of, one_lacks, some_lacks, step_of, step_by}
use Rattle.wl_server_model.proofs.CleanupSteps.Gathering.{notes_append, both_none}
use Rattle.wl_server_model.proofs.CallSteps.Slots.{Kind}
use Rattle.wl_server_model.proofs.CleanupSteps.Outgoing.{ends_rise}
use Rattle.wl_server_model.proofs.CleanupSteps.TakingNotes.{none_left, same_left}
use Rattle.wl_server_model.proofs.CallSteps.Numbering.{all_same}

-- who stays has no notes that were made, if all were gathered
none_made : {T U C : Type 0} (x : Option (Stored T U C)) → to_gather true x ≡ [] → option_map_or (λ s. s.made) (staying x) [] ≡ []
none_made x none = grind (arith, both_none, x)

module _ {T U G C : Type 0} (w : World T G C) (before : ServerState T U G C) where
  abbrev flush : Kind T U C
  flush id p lacked did q = FlushesKilled w.sends p lacked did q

  pub cleaned_up : {was : Bool} (refused : Bool) (clients' : List (Option (Stored T U C))) (notes' : List (Note U))
      (out : Vec (ClientParts × T) Global) (given : List (ClientParts × T)) → out.items ≡ given
      → CleansUp w.sends before.clients before.notes refused clients' notes' given → (numbers' : NoteNumbers)
      → AllTakeFirst (map times_of before.clients) (map times_of clients')
      → NoneWaits (map times_of clients') → AllNumbered clients' → numbers' ≡ record before.numbers { waiting = 0 }
      → Calls w (record { server = before; refused = was }) step.Cleanup (reply.Cleanup (Ok out))
      (record { server = record before { clients = clients'; notes = notes'; numbers = numbers' }; refused = refused })
  cleaned_up refused clients' notes' out given are by numbers' first none_waits numbered anew = calls _ _ _ _ _
      (step_by w before _ refused lacked (λ id. (one id).0) _ refl (omega arith) tt tt (subst Rises (sym (are ∙ by.gave)) (given_rises 0 by.left)) tt
      (grind (arith, false≢true, some_lacks flush refused before.clients by.flushed by.flushes, one_lacks flush refused before.clients by.flushed by.flushes))
      (record {
        told = by.told;
        ends = collected ends_at 0 by.left;
        in_order = by.in_order;
        behind = by.noted;
        by_slot = ends_rise 0 0 by.left (omega arith);
        first = first;
        none_left = none_left_of;
        none_waits = none_waits;
        numbered = numbered;
        numbers = anew;
      })
      (λ id. (Ok out, refl, (one id).1)))
    where
      lacked : ClientParts → Bool
      lacked id = lacks_of flush refused before.clients by.flushed by.flushes id

      one : (id : ClientParts) → CleanedBy w id before.offer out (client_at id before.clients) (notes_of id before.notes) (lacked id)
          (client_at id clients') (notes_of id notes')
      one id =
          let (sent, felt) = each_felt flush refused before.clients by.flushed by.flushes [] id in
          rw (ap (client_at id) by.stay ∙ staying_for id by.left)
          (cleaned_one w id before.offer out (client_at id before.clients) (client_at id by.flushed) (client_at id by.left) (lacked id) sent
          (notes_of id before.notes) (notes_of id by.told) (notes_of id notes') felt
          (same_left true by.flushed before.notes by.left by.told by.gathers id) (none_left true by.left by.all id) (by.gathers.told id)
          (ap (notes_of id) by.noted ∙ (notes_append id by.told _ ∙ ap (λ (l : List (Happening U)). notes_of id by.told ++ l) (ends_for id by.left)))
          (ap (share_of id) (are ∙ by.gave) ∙ given_for id by.left))

      none_left_of : (id : ClientParts) → option_map_or (λ s. s.made) (client_at id clients') [] ≡ []
      none_left_of id = rw (ap (client_at id) by.stay ∙ staying_for id by.left) (none_made (client_at id by.left) (none_left true by.left by.all id))

  -- there is no memory for it
  not_cleaned : (e : OutOfMemory) → 0 < count_leaving true before.clients + length (collected given_at 0 before.clients) → AllNumbered before.clients
      → StepOf w before step.Cleanup (reply.Cleanup (Err e)) true before
  not_cleaned e some all =
      step_of w before _ true (λ id. []) before refl (omega arith) tt tt tt (cleanup_asks before.clients some) refl
      (record { gathered = refl; times = all_same _ _ _ refl; numbered = all }) (λ id. (Err e, refl, (refl, refl, refl)))

  pub cleanup_starved : {was : Bool} (e : OutOfMemory) (notes' : List (Note U)) → notes' ≡ before.notes
      → 0 < count_leaving true before.clients + length (collected given_at 0 before.clients) → AllNumbered before.clients
      → Calls w (record { server = before; refused = was }) step.Cleanup (reply.Cleanup (Err e))
      (record { server = record before { notes = notes' }; refused = true })
  cleanup_starved e notes' same some all = calls _ _ _ _ _ (rw same (not_cleaned e some all))
