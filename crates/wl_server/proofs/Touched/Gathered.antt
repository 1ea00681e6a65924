-- The clients that were not touched are still so once notes were gathered, and after a cleanup.
use Rattle.std.proofs.Common.{◌≡◌, ◌∙◌, ℕ, Bool, true, false, List, [], length, map, Option, None, Some, is_some, Result, IfOk, OnErr, refl, ap, arith}
use mathlib.Core.Logic.{inl, inr}
use Rattle.std.specs.Option.{option_map, option_map_or}
use Rattle.std.specs.Prelude.{nat_lt}
use Rattle.std.proofs.lemmas.List.{nil_from_length}
use Rattle.wl_wire.specs.declared.error.IoFault.{IoFault}
use Rattle.wl_wire.specs.declared.error.OutOfMemory.{OutOfMemory}
use Rattle.wl_link.proofs.Calls.Branches.{either_bool}
use Rattle.wl_link.specs.Exchange.{Queue}
use Rattle.wl_server_client.specs.declared.notes.Note.{Note}
use Rattle.wl_server_client.specs.Ids.{ClientParts}
use Rattle.wl_server_model.specs.Inside.Cleanup.{CleansUp}
use Rattle.wl_server_model.specs.Inside.Gathering.{Gathers, all_emptied}
use Rattle.wl_server_client.specs.Inside.Gathering.{emptied}
use Rattle.wl_server_model.specs.Inside.Leaving.{FlushesKilled, all_staying, staying}
use Rattle.wl_server_model.specs.Inside.Places.{AllFeel, FeltAt}
use Rattle.wl_server.specs.Inside.Touched.{AllQuiet, AllSent, HasSent, IsQuiet}
use Rattle.wl_server_model.specs.NoteOrder.{AllNumbered, AllTakeFirst, NoneWaits}
use Rattle.wl_server_client.specs.NoteTimes.{IsNumbered, TakesFirst, times_of, to_gather}
use Rattle.wl_server_client.specs.Part.{Part}
use Rattle.wl_server_client.specs.Stored.{Stored}
use Rattle.wl_server_model.specs.Server.{stored_at}
use Rattle.wl_server.proofs.Touched.Flushed.{sent_flushed}
use Rattle.wl_server.proofs.Touched.Kept.{out_all, out_each}
use Rattle.wl_server_model.proofs.CleanupSteps.Gathering.{both_none, stored_map}
use Rattle.wl_server_model.proofs.CallSteps.Numbering.{times_stored}

module _ {T U C : Type 0} where
  -- ---- notes are gathered

  pub same_emptied : (waits : Bool) (clients clients' : List (Option (Stored T U C))) (k : ℕ) → all_emptied waits clients' ≡ all_emptied waits clients
      → option_map (emptied waits) (stored_at k clients') ≡ option_map (emptied waits) (stored_at k clients)
  same_emptied waits clients clients' k same =
      grind (arith, same, stored_map (option_map (emptied waits)) refl clients k, stored_map (option_map (emptied waits)) refl clients' k)

  pub sent_emptied : (waits : Bool) (words : List ℕ) (clients clients' : List (Option (Stored T U C)))
      → all_emptied waits clients' ≡ all_emptied waits clients
      → AllSent words clients → AllSent words clients'
  sent_emptied waits words clients clients' same =
      out_each HasSent words clients clients'
      (λ k. (λ h2. grind (arith, is_some, stored_at k clients, stored_at k clients', same_emptied waits clients clients' k same)))

  quiet_as : (o o' : Option (Stored T U C)) → option_map (emptied false) o' ≡ option_map (emptied false) o → TakesFirst (times_of o) (times_of o')
      → IsNumbered o'
      → IsQuiet o → IsQuiet o'
  quiet_as o o' h1 h2 h3 h4 = grind (arith, is_some, both_none, nil_from_length)

  pub quiet_gathered : (words : List ℕ) (clients clients' : List (Option (Stored T U C))) → all_emptied false clients' ≡ all_emptied false clients
      → AllTakeFirst (map times_of clients) (map times_of clients') → AllNumbered clients' → AllQuiet words clients → AllQuiet words clients'
  quiet_gathered words clients clients' same first numbered =
      out_each IsQuiet words clients clients'
      (λ k. quiet_as (stored_at k clients) (stored_at k clients') (same_emptied false clients clients' k same)
      (rw (times_stored clients k, times_stored clients' k) at (first k))
      (numbered k))

  -- what was gathered, or was not for want of memory
  pub emptied_kept : (r : Result (Unit {0}) OutOfMemory) (clients clients' : List (Option (Stored T U C))) (notes notes' : List (Note U))
      → IfOk r (λ _. Gathers false clients notes clients' notes') → OnErr r ((clients' ≡ clients) × (notes' ≡ notes))
      → all_emptied false clients' ≡ all_emptied false clients
  emptied_kept h1 clients clients' notes notes' gathered unchanged = grind (arith, all_emptied)

  -- ---- a cleanup

  calm_staying : (o : Option (Stored T U C)) → to_gather true o ≡ [] → (times_of (staying o)).waiting ≡ [] → IsNumbered (staying o) → IsQuiet
      (staying o)
  calm_staying None none waits numbered = tt
  calm_staying (Some s) none waits numbered = grind (arith, both_none s.made s.part.waiting none, nil_from_length, s.part.is_killed)

  module _ (sends : T → Queue → Result ℕ IoFault → T → Type 0) where
    sent_place : (k : ℕ) (lacked : Bool) (before after : Option (Option (Stored T U C)))
        → FeltAt (λ id p lacked did q. FlushesKilled sends p lacked did q) k before lacked after
        → HasSent (option_map_or (λ s. s) before None) → HasSent (option_map_or (λ s. s) after None)
    sent_place k lacked None after (none, is) sent = rw is tt
    sent_place k lacked (Some None) after (place, (none, gone), is) sent = grind (arith, option_map_or)
    sent_place k lacked (Some (Some s)) after (place, (s', (did, q, feels, made), there), is) sent = rw (is, there)
        (elim (either_bool s.part.is_killed feels) [
          | inl (answer, flushed) ↦ sent_flushed sends s s' answer lacked (did, q, flushed, made) sent
          | inr (none, nothing, same) ↦ ap (λ (x : Stored T U C). x.part.link.outgoing.bytes) made
              ∙ (ap (λ (p : Part T U C). p.link.outgoing.bytes) same ∙ sent)
        ])

    sent_killed : (words : List ℕ) (refused : Bool) (clients clients' : List (Option (Stored T U C)))
        → AllFeel (λ id p lacked did q. FlushesKilled sends p lacked did q) refused (length clients) clients clients' → AllSent words clients
        → AllSent words clients'
    sent_killed words refused clients clients' all = grind (arith, out_each, nat_lt, length, sent_place)

    pub sent_cleaned : (words : List ℕ) (clients clients' : List (Option (Stored T U C))) (notes notes' : List (Note U)) (refused : Bool)
        (given : List (ClientParts × T))
        → CleansUp sends clients notes refused clients' notes' given → AllSent words clients → AllSent words clients'
    sent_cleaned words clients clients' notes notes' refused given by sent =
        rw by.stay
        (out_each HasSent words by.left (all_staying by.left)
        (λ k has. (grind (arith, has, stored_map staying refl by.left k, staying, stored_at k by.left)))
        (sent_emptied true words by.flushed by.left by.gathers.rest (sent_killed words refused clients by.flushed by.flushes sent)))

    -- after a cleanup no client has a note, and each is live
    pub quiet_cleaned : (words : List ℕ) (clients clients' : List (Option (Stored T U C))) (notes notes' : List (Note U)) (refused : Bool)
        (given : List (ClientParts × T))
        → CleansUp sends clients notes refused clients' notes' given → NoneWaits (map times_of clients') → AllNumbered clients'
        → AllQuiet words clients'
    quiet_cleaned words clients clients' notes notes' refused given by waits numbered =
        out_all IsQuiet words clients'
        (λ k out. (grind (arith, by.stay, stored_map staying refl by.left k, calm_staying, by.all k, times_stored clients' k, waits k, numbered k)))
