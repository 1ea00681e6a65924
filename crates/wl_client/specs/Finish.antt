-- What the end of an event does, and a flush.
use Rattle.std.specs.Prelude.{◌≡◌, ℕ, ◌⊎◌, true, ◌&&◌, [], ◌∷◌, if◌then◌else◌, Option, None, Some, IsSome, is_none, is_some, Result, Ok, Err, MatchOption}
use Rattle.wl_wire.specs.declared.error.IoFault.{IoFault}
use Rattle.wl_wire.specs.declared.error.IoFault.TheVariants as fault
use Rattle.wl_link.specs.declared.object.Object.{Object}
use Rattle.wl_link.specs.Exchange.{Queue}
use Rattle.wl_link.specs.Link.{LinkState, Flushed}
use Rattle.wl_link.specs.Refusals.{first_refusal, when}
use Rattle.wl_link.specs.Store.{Store, rewritten}
use Rattle.wl_client.specs.declared.error.FinishError.{FinishError}
use Rattle.wl_client.specs.declared.error.FinishError.TheVariants as finish
use Rattle.wl_client.specs.declared.error.FinishRefused.{FinishRefused}
use Rattle.wl_client.specs.declared.error.FlushError.{FlushError}
use Rattle.wl_client.specs.declared.error.FlushError.TheVariants as flush
use Rattle.wl_client.specs.declared.error.WaylandError.TheVariants.{Io}
use Rattle.wl_client.specs.declared.objects.Kept.{Kept}
use Rattle.wl_client.specs.declared.event.OpenEvent.{OpenEvent}
use Rattle.wl_client.specs.ObjectId.{IdParts}
use Rattle.wl_client.specs.Objects.{given_up}
use Rattle.wl_client.specs.Session.{Core, SessionState, named, alive, core_of, noted, id_at, with_core, with_user_data}

module _ {U : Type 0} where
  -- the object at the number gets the data, if there is one
  abbrev pub data_given : Store (Kept U) → ℕ → Option (Object (Kept U)) → U → Store (Kept U)
  data_given store n None u = store
  data_given store n (Some x) u = rewritten store n (with_user_data u x)

  -- why an event is not finished with these data, if memory is not refused: there have to be data exactly if the event made
  -- an object
  abbrev pub refusal : Option IdParts → Option U → Option FinishError
  refusal created u =
      first_refusal
      (when (is_some created && is_none u) finish.MissingObjectData
      ∷ when (is_none created && is_some u) finish.UnexpectedData
      ∷ [])

  -- an object is no longer the client's, and noted if the client had not destroyed it and it has user data
  abbrev pub with_dead : Core U → ℕ → Option (Object (Kept U)) → Core U
  with_dead c n None = c
  with_dead c n (Some x) = record c {
    store = given_up c.store n x;
    notes = if x.value.client_destroyed then c.notes else noted c.notes x.value.user_data (id_at n x);
  }

  -- a destructor event ends the object that it was sent to
  abbrev pub after_destructor : Core U → OpenEvent → Core U
  after_destructor c event = if event.is_destructor then with_dead c event.sender.number (named c.store event.sender) else c

  -- the object that the event made gets the data
  abbrev pub with_data_for : Core U → Option IdParts → Option U → Core U
  with_data_for c (Some id) (Some u) = record c { store = data_given c.store id.number (named c.store id) u }
  with_data_for c _ _ = c

  abbrev pub core_finished : Core U → OpenEvent → Option U → Core U
  core_finished c event u = with_data_for (after_destructor (record c { open_event = None }) event) event.created u

module _ {T U : Type 0} where
  abbrev pub Refuses : SessionState T U → Option U → FinishError → Result (Unit {0}) (FinishRefused U) → SessionState T U → Type 0
  Refuses before u e answer after = (answer ≡ Err (record { error = e; user_data = u })) × (after ≡ before)

  -- the event ends an object, which is noted then
  abbrev pub NotesEnd : SessionState T U → OpenEvent → Type 0
  NotesEnd s event =
      (event.is_destructor ≡ true) × MatchOption (alive (named s.store event.sender)) ⊥ (λ x. IsSome x.value.user_data)

  -- the event is finished; or there is no memory for the note of an object that it ends
  abbrev pub FinishesEvent : SessionState T U → OpenEvent → Option U → Result (Unit {0}) (FinishRefused U) → SessionState T U → Type 0
  FinishesEvent before event u answer after =
      ((answer ≡ Ok tt) × (after ≡ with_core before (core_finished (core_of before) event u)))
      ⊎ (NotesEnd before event × Refuses before u finish.OutOfMemory answer after)

  -- an error gives the data back, and the event stays open
  abbrev pub Finishes : SessionState T U → Option U → Result (Unit {0}) (FinishRefused U) → SessionState T U → Type 0
  Finishes before u answer after =
      MatchOption before.open_event
      (Refuses before u finish.NoOpenEvent answer after)
      (λ event. MatchOption (refusal event.created u) (FinishesEvent before event u answer after) (λ e. Refuses before u e answer after))

  -- the answer to a flush by that of the link; a fault is stored, unless more may be sent later
  abbrev pub FlushEnds : SessionState T U → Result (Unit {0}) IoFault → Result (Unit {0}) FlushError → SessionState T U → Type 0
  FlushEnds s (Ok _) answer after = (answer ≡ Ok tt) × (after ≡ s)
  FlushEnds s (Err fault.WouldBlock) answer after = (answer ≡ Err flush.WouldBlock) × (after ≡ s)
  FlushEnds s (Err fault.OutOfMemory) answer after = (answer ≡ Err flush.OutOfMemory) × (after ≡ s)
  FlushEnds s (Err other) answer after = (answer ≡ Err flush.Failed) × (after ≡ record s { error = Some (Io other) })

  -- a stored error is reported first
  abbrev pub SessionFlushed : (T → Queue → Result ℕ IoFault → T → Type 0) → SessionState T U → Result (Unit {0}) FlushError
      → SessionState T U → Type 0
  SessionFlushed sends before answer after =
      MatchOption before.error
      ((flushed : Result (Unit {0}) IoFault) × (link : LinkState T) × Flushed sends before.link flushed link
      × FlushEnds (record before { link = link }) flushed answer after)
      (λ _. (answer ≡ Err flush.Failed) × (after ≡ before))
