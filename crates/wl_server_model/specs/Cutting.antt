-- That it does not matter to a client of a server how its bytes and tokens are cut into receives: what its readings and the
-- ends of its actions give is what is served of all that came, joined.
--
-- What is served (`Served` of `wl_link`) is said of the client as a reader. The answers to its sends are given as a list.
use Rattle.std.specs.Prelude.{◌≡◌, ℕ, Bool, false, List, ◌∷◌, ◌++◌, map, None, Some, Result, Ok}
use Rattle.wl_wire.specs.declared.error.IoFault.{IoFault}
use Rattle.wl_link.specs.Exchange.{Queue, Sending, nothing}
use Rattle.wl_link.specs.Reader.{AllFed, Ends, Given, Gives, Reads, Turn, received_in, sends_in, ReaderState}
use Rattle.wl_link.specs.Served.{Answers, GoesOnAs, Served, AsTold}
use Rattle.wl_server_client.specs.declared.reading.action.Reading.{Reading}
use Rattle.wl_server_client.specs.declared.error.ActionError.{ActionError}
use Rattle.wl_server_client.specs.declared.error.FinishRefused.{FinishRefused}
use Rattle.wl_server_model.specs.declared.step.Reply.TheVariants as reply
use Rattle.wl_server_model.specs.declared.step.Step.TheVariants as step
use Rattle.wl_server_client.specs.Deeds.{Deed, Handed, Sent, notes_in}
use Rattle.wl_server_client.specs.Ids.{ClientParts}
use Rattle.wl_server_client.specs.Part.{Part}
use Rattle.wl_server_model.specs.PartStep.{Asked, Call, World, around}
use Rattle.wl_server_client.specs.Reading.{Around, action_content, answered, exchanges_in, new_reading, server}
use Rattle.wl_server_model.specs.Server.{Seen, ServerState, seen}
use Rattle.wl_server_model.specs.Steps.{Entry, Makes, OneStep}
use Rattle.wl_server_client.specs.Telling.{Core, Finish, OfBind, OfRequest, Told, deeds_of, part_of, reader_part}

module _ {T U G C : Type 0} (a : Around G C) where
  -- what a client gives, and what it becomes, if `more` stands after what waits, the sends are answered so, and its actions
  -- are ended with these data
  abbrev pub IsServed : ReaderState T (Core U C) → Queue → Answers → List (Finish U) → List (Given (Told U)) → ReaderState Answers (Core U C) → Type 0
  IsServed p more answers finishes gave end = Served AsTold (server a) p more answers finishes gave end

  -- The client `before`, served over `came` and any rest, gives `gave`, and then what the client `after` gives, served over
  -- that rest. The answers to the sends `es` come first, and then any others.
  abbrev pub GoesOn : ReaderState T (Core U C) → Queue → List Sending → List (Finish U) → List (Given (Told U)) → ReaderState T (Core U C)
      → List (Finish U) → Type 0
  GoesOn before came es finishes gave after left = GoesOnAs AsTold (server a) before came es finishes gave after left

  -- what is held of a client after a call with these deeds that left the reader so
  abbrev pub seen_after : Seen T U C → ReaderState T (Core U C) → List (Deed U) → Seen T U C
  seen_after before end did = record { part = Some (part_of end); made = before.made ++ notes_in did }

  -- A reading of a live client with no action open is a list of receives and messages, with this answer and these deeds. If
  -- each receive brought a byte or would have blocked, then what is served of the client before it is what the reading gave,
  -- and then what is served of the client after it.
  abbrev pub CutsReading : (T → Queue → Result ℕ IoFault → T → Type 0) → (T → ℕ → Result Queue IoFault → T → Type 0) → Reading → Seen T U C
      → Result Handed ActionError → List (Deed U) → Seen T U C → Type 0
  CutsReading sends receives r before answer did after =
      (p : Part T U C) → before.part ≡ Some p → p.is_killed ≡ false → p.action ≡ None →
      (turns : List Turn) × (out : Gives (Told U)) × (end : ReaderState T (Core U C))
      × Reads sends (server a) receives r.turns_left (reader_part p) turns out end
      × (answer ≡ answered out.stopped out.gave)
      × (did ≡ deeds_of (exchanges_in turns) out.gave end.core)
      × (after ≡ seen_after before end did)
      × (AllFed turns → (finishes : List (Finish U)) → GoesOn (reader_part p) (received_in turns) (sends_in turns) finishes out.gave end finishes)

  -- a finish of a live client that is accepted, with these deeds, is the next of the finishes
  abbrev pub CutsFinish : {D : Type 0} → (T → Queue → Result ℕ IoFault → T → Type 0) → Finish U → Seen T U C → Result (Unit {0}) (FinishRefused D)
      → List (Deed U) → Seen T U C → Type 0
  CutsFinish sends u before answer did after =
      (p : Part T U C) → before.part ≡ Some p → p.is_killed ≡ false → answer ≡ Ok tt →
      (es : List Sending) × (gave : List (Given (Told U))) × (end : ReaderState T (Core U C))
      × Ends sends (server a) (reader_part p) u es gave false end
      × (did ≡ deeds_of (map Sent es) gave end.core)
      × (after ≡ seen_after before end did)
      × ((finishes : List (Finish U)) → GoesOn (reader_part p) nothing es (u ∷ finishes) gave end finishes)

-- ---- a run of a server

-- For each client that was inserted in the run and is stored at its end: whatever waits and comes, and whatever the finishes
-- are, something is served, by some answers to the sends.
abbrev pub EachIsServed : {T U G C : Type 0} → World T G C → List (Entry T U G C) → ServerState T U G C → Type 0
EachIsServed {T = T} {U = U} {G = G} {C = C} w run after =
    (id : ClientParts) (transport : T) (client_data : C) (earlier later : List (Entry T U G C)) (e : Entry T U G C) →
    run ≡ earlier ++ e ∷ later → e.call ≡ Asked (step.InsertClient transport client_data) (reply.InsertClient (Ok id)) →
    (p : Part T U C) → (seen id after).part ≡ Some p → (more : Queue) (finishes : List (Finish U)) →
    (answers : Answers) × (gave : List (Given (Told U))) × (end : ReaderState Answers (Core U C))
    × IsServed (around w id after.offer) (reader_part p) more answers finishes gave end

-- ---- the calls of a server

module _ {T U G C : Type 0} (w : World T G C) (before : ServerState T U G C) (e : Entry T U G C) (after : ServerState T U G C) where
  -- it does not matter to this call how the client's bytes are cut, if it reads the client or ends its action; memory must
  -- not be refused in the reading
  abbrev pub IsCut : Call T U G C → Type 0
  IsCut (Asked (step.NextAction id) (reply.NextAction answer)) =
      e.refused ≡ false
      → CutsReading (around w id before.offer) w.sends w.receives new_reading (seen id before) (action_content answer) (e.did id) (seen id after)
  IsCut (Asked (step.NextActionWithin id reading) (reply.NextActionWithin answer left)) =
      e.refused ≡ false
      → CutsReading (around w id before.offer) w.sends w.receives reading (seen id before) (action_content answer) (e.did id) (seen id after)
  IsCut (Asked (step.FinishRequest id u) (reply.FinishRequest answer)) =
      CutsFinish (around w id before.offer) w.sends (OfRequest u) (seen id before) answer (e.did id) (seen id after)
  IsCut (Asked (step.FinishBind id u) (reply.FinishBind answer)) =
      CutsFinish (around w id before.offer) w.sends (OfBind u) (seen id before) answer (e.did id) (seen id after)
  IsCut _ = Unit {0}

module _ {T U G C : Type 0} (w : World T G C) where
  -- the same for each history of deeds that such a call may have
  abbrev pub HistoriesAreCut : ServerState T U G C → Call T U G C → ServerState T U G C → Type 0
  HistoriesAreCut before call after = (e : Entry T U G C) → e.call ≡ call → OneStep w before e after → IsCut w before e after call

  -- The call was made, and it does not matter how bytes are cut in any history of deeds that it may have. So this holds of
  -- the history of which `Calls` speaks, too.
  abbrev pub CallIsCut : ServerState T U G C → Call T U G C → Bool → ServerState T U G C → Type 0
  CallIsCut before call refused after = Makes w before call refused after × HistoriesAreCut before call after
