-- What the functions that end an object say to their callers.
use Rattle.std.specs.Prelude.{◌≡◌, ℕ, List, [], Bool, true, false, Result, Err, MatchResult}
use Rattle.wl_wire.specs.declared.error.IoFault.{IoFault}
use Rattle.wl_link.specs.declared.object.Object.{Object}
use Rattle.wl_link.specs.Exchange.{Queue}
use Rattle.wl_link.specs.Identity.{Id}
use Rattle.wl_link.specs.Link.{LinkState}
use Rattle.wl_link.specs.Puts.{Said, lacks_memory}
use Rattle.wl_link.specs.Store.{Store, removed}
use Rattle.wl_server_client.specs.declared.objects.Kept.{Kept}
use Rattle.wl_server_client.specs.declared.notes.DisconnectReason.TheVariants.{ConnectionClosed}
use Rattle.wl_server_client.specs.declared.notes.Happening.{Happening}
use Rattle.wl_server_client.specs.Inside.Client.{Does}
use Rattle.wl_server_client.specs.Ids.{ClientParts}
use Rattle.wl_server_client.specs.Part.{note_of_end, registries_without, with_link}
use Rattle.wl_server_client.specs.Inside.Puts.{Puts}
use Rattle.wl_server_client.specs.Stored.{Stored}
use Rattle.wl_server_client.specs.Telling.{Kills, deletions}

-- what a client is told: if the object of this number is ended, that the number is free; else nothing
abbrev pub told_of_end : Bool → ℕ → List Said
told_of_end true n = deletions n
told_of_end false n = []

-- if the event was written, the client is told what it has to be told
abbrev pub PutsEnd : {T : Type 0} → (T → Queue → Result ℕ IoFault → T → Type 0) → LinkState T → ℕ → Bool → Result (Unit {0}) IoFault
    → Result (Unit {0}) IoFault → LinkState T → Type 0
PutsEnd sends before n ends written answer after =
    MatchResult written (λ _. Puts sends before (told_of_end ends n) answer after) (λ fault. (answer ≡ Err fault) × (after ≡ before))

-- the client is killed as closed if that write failed, or the write of the event
abbrev pub TellsEnd : {T U C : Type 0} → (T → Queue → Result ℕ IoFault → T → Type 0) → Stored T U C → ℕ → Bool → Result (Unit {0}) IoFault → Bool
    → Stored T U C → Type 0
TellsEnd {T = T} sends before n ends written refused after =
    (answer : Result (Unit {0}) IoFault) × (link : LinkState T) × PutsEnd sends before.part.link n ends written answer link
    × (refused ≡ lacks_memory answer)
    × MatchResult answer (λ _. after ≡ record before { part = with_link before.part link })
    (λ _. Does (record before { part = with_link before.part link }) (λ p did q. Kills p ConnectionClosed did q) after)

module _ {U : Type 0} where
  -- the store without the object of the number, if that is ended
  abbrev pub store_ending : Bool → Store (Kept U) → ℕ → Store (Kept U)
  store_ending true store n = removed store n
  store_ending false store n = store

  -- the registries without it
  abbrev pub registries_ending : Bool → List Id → ℕ → Object (Kept U) → List Id
  registries_ending true registries n x = registries_without registries n x
  registries_ending false registries n x = registries

  -- the note of it
  abbrev pub notes_ending : Bool → ClientParts → ℕ → Object (Kept U) → List (Happening U)
  notes_ending true client n x = note_of_end client n x
  notes_ending false client n x = []
