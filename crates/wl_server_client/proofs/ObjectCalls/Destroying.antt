-- How what was done to an object that the program destroys is its destruction.
use Rattle.std.proofs.Common.{◌≡◌, ℕ, true, false, eqb, List, [], ◌++◌, append-nil, None, Some, is_some, IfSome, Result, Ok, Err, MatchResult, refl, inl, inr, arith}
use Rattle.std.proofs.lemmas.Bool.{false≢true}
use Rattle.wl_wire.specs.declared.error.IoFault.{IoFault}
use Rattle.wl_wire.specs.declared.error.IoFault.TheVariants as fault
use Rattle.wl_link.specs.declared.object.Object.{Object}
use Rattle.wl_link.specs.Exchange.{Queue}
use Rattle.wl_link.specs.Identity.{Id}
use Rattle.wl_link.specs.Link.{LinkState}
use Rattle.wl_link.specs.Puts.{lacks_memory}
use Rattle.wl_link.specs.Reader.{Verdict, came_to}
use Rattle.wl_link.specs.Store.{Store, held, removed}
use Rattle.wl_server_client.specs.declared.error.DestroyError.{DestroyError}
use Rattle.wl_server_client.specs.declared.error.DestroyError.TheVariants as destroy
use Rattle.wl_server_client.specs.declared.objects.Kept.{Kept}
use Rattle.wl_server_client.specs.declared.notes.DisconnectReason.TheVariants.{ConnectionClosed}
use Rattle.wl_server_client.specs.declared.notes.Happening.{Happening}
use Rattle.wl_server_client.specs.Inside.Carried.{told_notes, IsCarried}
use Rattle.wl_server_client.specs.Inside.Client.{Does}
use Rattle.wl_server_client.specs.Deeds.{Deed}
use Rattle.wl_server_client.specs.Inside.Destruction.{lacks_destroy}
use Rattle.wl_server_client.specs.Ids.{IdParts}
use Rattle.wl_server_client.specs.Objects.{Destroys, destroyable, destroys, unless_refused}
use Rattle.wl_server_client.specs.Part.{Part, id_of, named, note_of_end, registries_without, serial_of}
use Rattle.wl_server_client.specs.Inside.Puts.{Puts}
use Rattle.wl_server_client.specs.Stored.{Stored, no_times, untimed}
use Rattle.wl_server_client.specs.Telling.{Core, Kills, Told, core_of, deletions, speaker}
use Rattle.wl_server_client.proofs.CallSteps.Doing.{does_quietly}
use Rattle.wl_server_client.proofs.Readings.Notes.{tells_carried}
use Rattle.wl_server_client.proofs.ObjectCalls.Posting.{kills_is, linked}

-- ---- what an id names

module _ {U : Type 0} where
  -- an object that an id names is the one at the id's number
  pub named_is_held : (store : Store (Kept U)) (id : IdParts) (x : Object (Kept U)) → named store id ≡ Some x → held store id.number ≡ Some x
  named_is_held store id x e = grind (arith, eqb, serial_of, eqb id.number 0, id_of id, held store id.number)

-- ---- the object that may be destroyed

module _ {T U C : Type 0} (sends : T → Queue → Result ℕ IoFault → T → Type 0) (s : Stored T U C) (id : IdParts) where
  abbrev pub Destruction : Result (Unit {0}) DestroyError → Part T U C → List (Deed U) → Part T U C → Type 0
  Destruction answer p did q = Destroys sends id.client p id answer (lacks_destroy answer) did q

  -- there is no such object
  pub refused : destroyable s.part id ≡ None → Does s (λ p did q. Destruction (Err destroy.InvalidId) p did q) s
  refused none = does_quietly s (Destruction (Err destroy.InvalidId)) s.part (rw none (refl, refl, refl, refl))

  module _ (x : Object (Kept U)) (is : destroyable s.part id ≡ Some x) where
    abbrev verdict : Verdict (Core U C) (Told U)
    verdict = destroys id.client (core_of s.part) id x

    silent : (c : Core U C) → told_notes (verdict.events c) ≡ []
    silent c = grind (arith, is_some, named, id_of, x.value.user_data)

    -- other notes wait
    abbrev pub with_waiting : Stored T U C → List (Happening U) → Stored T U C
    with_waiting a waiting = record (untimed a) { part = record a.part { waiting = waiting } }

    as_carried : (answer : Result (Unit {0}) DestroyError) (after : Stored T U C) → answer ≡ unless_refused destroy.OutOfMemory (lacks_destroy answer)
        → IsCarried sends verdict s (lacks_destroy answer) after → Does s (λ p did q. Destruction answer p did q) after
    as_carried answer after so carried = let t = tells_carried sends verdict s after
        (lacks_destroy answer) carried in (t.0, t.1, rw is (so, t.2), t.3)

    -- there was no memory for its note
    pub starved : (waiting : List (Happening U)) → waiting ≡ s.part.waiting → is_some x.value.user_data ≡ true
        → Does s (λ p did q. Destruction (Err destroy.OutOfMemory) p did q) (with_waiting s waiting)
    starved waiting same asks = as_carried (Err destroy.OutOfMemory) (with_waiting s waiting) refl
        (core_of s.part, s.part.link, inr (asks, refl, refl, refl), grind (arith, silent (core_of s.part), append-nil))

    -- there was no memory for the message
    pub untold : (link : LinkState T) (waiting : List (Happening U)) (n : ℕ) (wrote : Result (Unit {0}) IoFault) → waiting ≡ s.part.waiting
        → n ≡ id.number
        → Puts sends s.part.link (deletions n) wrote link → lacks_memory wrote ≡ true
        → Does s (λ p did q. Destruction (Err destroy.OutOfMemory) p did q) (with_waiting (linked s link) waiting)
    untold link waiting n wrote same number puts lacked = as_carried (Err destroy.OutOfMemory) (with_waiting (linked s link) waiting) refl (
      core_of s.part,
      link,
      inl (Err fault.OutOfMemory, link, [], false, (grind (arith, false≢true, number)), (refl, refl, refl), refl, refl),
      grind (arith, silent (core_of s.part), append-nil),
    )

    abbrev pub with_all : LinkState T → Store (Kept U) → List Id → List (Happening U) → Stored T U C
    with_all link store registries waiting = record {
      serial = s.serial;
      part = record s.part { link = link; store = store; registries = registries; waiting = waiting };
      made = s.made;
      times = no_times;
    }

    -- what was taken out is gone, and the client was told, or closed down where it could not be
    pub destroyed : (link : LinkState T) (n : ℕ) (store : Store (Kept U)) (registries : List Id) (before waiting : List (Happening U))
        (wrote : Result (Unit {0}) IoFault) (after : Stored T U C) → n ≡ id.number → Puts sends s.part.link (deletions n) wrote link
        → lacks_memory wrote ≡ false → store ≡ removed s.part.store id.number
        → IfSome (held s.part.store id.number) (λ y. registries ≡ registries_without s.part.registries id.number y)
        → IfSome (held s.part.store id.number) (λ y. waiting ≡ before ++ note_of_end id.client id.number y) → before ≡ s.part.waiting
        → MatchResult wrote (λ _. untimed after ≡ with_all link store registries waiting)
        (λ _. Does (with_all link store registries waiting) (λ p did q. Kills p ConnectionClosed did q) after)
        → Does s (λ p did q. Destruction (Ok tt) p did q) after
    destroyed link n store registries before waiting wrote after number puts lacked without forgotten noted same told =
        as_carried (Ok tt) after refl (
          came_to speaker verdict wrote,
          link,
          inl (wrote, link, [], false, rw number at puts, (refl, refl, refl), refl, rw lacked refl),
          grind (arith, append-nil, false≢true, kills_is, registries_without, note_of_end, named_is_held, named, silent (came_to speaker verdict wrote)),
        )
