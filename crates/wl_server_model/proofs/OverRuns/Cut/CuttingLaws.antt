-- What follows for a client of a server from the laws of a reader: that it does not matter to it how bytes and tokens are
-- cut, reading by reading and finish by finish.
use Rattle.std.proofs.Common.{◌≡◌, ℕ, Bool, false, List, ◌++◌, None, Some, is_none, Result, Ok, refl, sym, ap, subst, ◌∙◌, true≢false, arith, [], Option, is_ok, map, ◌<◌, ◌∷◌, true}
use Rattle.std.proofs.lemmas.Option.{same_Some, none-some}
use Rattle.std.specs.Prelude.{MatchOption}
use Rattle.wl_wire.specs.declared.error.IoFault.{IoFault}
use Rattle.wl_link.proofs.Readings.CuttingLaws.{finish_law, reading_law}
use Rattle.wl_link.specs.Exchange.{Queue, Sending}
use Rattle.wl_link.specs.Reader.{CarriesOut, Ends, Given, Verdict, came_to, put_and_gave, ReaderState}
use Rattle.wl_link.specs.Served.{AsTold}
use Rattle.wl_link.proofs.Readings.ServedLaws.{told_function}
use Rattle.wl_server_client.specs.declared.reading.action.Reading.{Reading}
use Rattle.wl_server_client.specs.declared.error.ActionError.{ActionError}
use Rattle.wl_server_client.specs.declared.error.FinishRefused.{FinishRefused}
use Rattle.wl_server_model.specs.declared.step.Reply.TheVariants as reply
use Rattle.wl_server_model.specs.declared.step.Step.TheVariants as step
use Rattle.wl_server_model.specs.Cutting.{CutsFinish, CutsReading, HistoriesAreCut}
use Rattle.wl_server_client.specs.Deeds.{Deed, Handed, notes_in, Sent}
use Rattle.wl_server_client.specs.Finish.{finishing, refusal, FinishesBind, FinishesRequest, core_finished, finish_verdict, ends_request}
use Rattle.wl_server_client.specs.Globals.{Offer}
use Rattle.wl_server_client.specs.Ids.{ClientParts, same_client}
use Rattle.wl_server_model.proofs.OverRuns.Alone.IsolationLaw.{same_self}
use Rattle.wl_server_client.specs.Part.{Part}
use Rattle.wl_server_model.specs.PartStep.{Asked, Call, OfClient, OnPart, PartCall, ReadsFor, World, around}
use Rattle.wl_server_client.specs.Reading.{Around, NextAction, ReadsTo, action_content, new_reading, server}
use Rattle.wl_server_model.proofs.OverRuns.Ids.ReplyLaws.{own_step}
use Rattle.wl_server_model.specs.Server.{Seen, ServerState, seen}
use Rattle.wl_server_model.specs.Steps.{Entry, IsRefused, OneStep, offer_after}
use Rattle.wl_server_client.specs.Telling.{Finish, OfBind, OfRequest, core_of, reader_part, Core, Told, deeds_of, part_of, speaker}
use mathlib.Core.Logic.{inl, inr}
use Rattle.wl_link.proofs.Calls.Branches.{either_option}
use Rattle.wl_link.specs.Link.{LinkState}
use Rattle.wl_server_client.specs.declared.reading.action.OpenAction.TheVariants as opened
use Rattle.wl_link.proofs.Readings.HoldingLaws.{puts_hold}
use Rattle.wl_server_model.proofs.OverRuns.Moves.BaseMoves.{Doings, Goes, Moves, any, doings_of, followed, handed_by, handed_out, notes_taken, moved, stayed, taken_out, unfelt, within}
use Rattle.wl_server_model.proofs.OverRuns.Moves.BaseMovesLaw.{call_goes}
use Rattle.wl_server_model.proofs.OverRuns.Alone.OwnRuns.{AreMine}
use Rattle.wl_server_model.specs.Runs.{Alone, Own}

-- ---- the end of an action is what the reader makes of it

module _ {T U G C : Type 0} (sends : T → Queue → Result ℕ IoFault → T → Type 0) (a : Around G C) where
  pub carried_alike : (v : Verdict (Core U C) (Told U)) (link : LinkState T) (es : List Sending) (gave : List (Given (Told U))) (refused : Bool)
      (after : ReaderState T (Core U C)) → CarriesOut sends speaker v link es gave refused after
      → CarriesOut sends (server a) v link es gave refused after
  carried_alike v link es gave refused after h1 = grind (arith, came_to, speaker, put_and_gave)

  -- an accepted end of a live client's request is what the reader makes of these data, with the same deeds
  abbrev pub EndsAlike : Part T U C → Finish U → Bool → List (Deed U) → Part T U C → Type 0
  EndsAlike before u refused did after =
      (es : List Sending) × (gave : List (Given (Told U))) × (end : ReaderState T (Core U C))
      × Ends sends (server a) (reader_part before) u es gave refused end
      × (did ≡ deeds_of (map Sent es) gave end.core) × (after ≡ part_of end)

  pub request_ends_alike : (before : Part T U C) (u : Option U) (refused : Bool) (did : List (Deed U)) (after : Part T U C) → before.is_killed ≡ false
      → FinishesRequest sends a.client before u (Ok tt) refused did after → EndsAlike before (OfRequest u) refused did after
  request_ends_alike before u refused did after live h =
      elim (either_option before.action h) [
        | inl (none, (wrong, calm, nothing, still)) ↦ absurd (true≢false (ap is_ok wrong))
        | inr (opened.Bind object, is_open, (wrong, calm, nothing, still)) ↦ absurd (true≢false (ap is_ok wrong))
        | inr (opened.Request sender d created, is_open, g) ↦
            elim (either_option (refusal before.is_killed created u) g) [
              | inr (e, why, (wrong, calm, nothing, still)) ↦ absurd (true≢false (ap is_ok wrong))
              | inl (accepted, (answer, (es, gave, end, carried, did_so, is))) ↦
                  let v = ends_request a.client (core_of before) sender d created u in
                  let by : Ends sends (server a) (reader_part before) (OfRequest u) es gave refused end
                  = (v, rw is_open (rw accepted (rw live refl)), carried_alike v before.link es gave refused end carried) in
                  (es, gave, end, by, did_so, is)
            ]
      ]

  -- so is the end of a bind
  pub bind_ends_alike : (before : Part T U C) (u : U) (refused : Bool) (did : List (Deed U)) (after : Part T U C) → before.is_killed ≡ false
      → FinishesBind before u (Ok tt) refused did after → EndsAlike before (OfBind u) refused did after
  bind_ends_alike before u refused did after live h =
      elim (either_option before.action h) [
        | inl (none, (wrong, calm, nothing, still)) ↦ absurd (true≢false (ap is_ok wrong))
        | inr (opened.Request sender d created, is_open, (wrong, calm, nothing, still)) ↦ absurd (true≢false (ap is_ok wrong))
        | inr (opened.Bind object, is_open, (answer, no_memory, did_so, is)) ↦
            let end : ReaderState T (Core U C) = record { core = core_finished (core_of before) (Some object) (Some u); link = before.link } in
            let v = finish_verdict (core_of before) (Some object) (Some u) in
            let carried : CarriesOut sends (server a) v before.link [] [] refused end
            = inl ([], [], [], Ok tt, before.link, false, (refl, refl, refl, refl), (refl, refl, refl), refl, refl, refl, no_memory) in
            ([], [], end, (v, rw is_open (rw live refl), carried), did_so, is)
      ]

-- ---- of a client

module _ {T U G C : Type 0} (sends : T → Queue → Result ℕ IoFault → T → Type 0) (receives : T → ℕ → Result Queue IoFault → T → Type 0)
    (a : Around G C) where
  -- a reading of a live client with no action open is one of the reader
  pub reads_to : (r : Reading) (p : Part T U C) (answer : Result Handed ActionError) (r' : Reading) (refused : Bool) (did : List (Deed U))
      (q : Part T U C)
      → p.is_killed ≡ false → p.action ≡ None → NextAction sends receives a r p answer r' refused did q
      → ReadsTo sends receives a r p answer r' refused did q
  reads_to r p answer r' refused did q live unopened h = grind (arith, none-some, true≢false)

-- ---- what is open

module _ {T U G C : Type 0} (w : World T G C) (id : ClientParts) (offer : Offer G) (before after : Seen T U C) where
  abbrev here : Around G C
  here = around w id offer

  pub of_part : (R : Part T U C → Part T U C → Type 0) (missing : Type 0) (lacked : Bool) (did : List (Deed U)) (p : Part T U C)
      → before.part ≡ Some p
      → OnPart before R missing lacked did after → (q : Part T U C) × R p q × (after ≡ record { part = Some q; made = before.made ++ notes_in did })
  of_part R missing lacked did p there h = grind (arith, none-some, same_Some)

  pub seen_reads : (r : Reading) (answer : Result Handed ActionError) (r' : Reading) (lacked : Bool) (did : List (Deed U)) → lacked ≡ false
      → ReadsFor w id offer id r answer r' before lacked did after → CutsReading here w.sends w.receives r before answer did after
  seen_reads r answer r' lacked did unlacked h p there live unopened =
      let (q, next, same) = of_part _ _ lacked did p there (own_step (same_client id id) before _ _ lacked did after (same_self id) h) in
      let (turns, out, end, reads, is, left, lacks, did_so, ends) = reads_to w.sends w.receives here r p answer r' lacked did q live unopened next in (
        turns,
        out,
        end,
        reads,
        is,
        did_so,
        (same ∙ ap (λ (x : Part T U C). let s : Seen T U C = record { part = Some x; made = before.made ++ notes_in did } in s) ends),
        λ fed finishes. reading_law w.sends w.receives AsTold (server here) told_function (λ c. refl) r.turns_left
            (reader_part p) end turns out reads fed (sym lacks ∙ unlacked) finishes,
      )

  -- a finish that is what the reader makes of these data
  seen_finishes : {D : Type 0} (u : Finish U) (answer : Result (Unit {0}) (FinishRefused D)) (R : Part T U C → Part T U C
      → Type 0) (missing : Type 0) (lacked : Bool) (did : List (Deed U))
      → ((p q : Part T U C) → p.is_killed ≡ false → answer ≡ Ok tt → R p q → (lacked ≡ false) × EndsAlike w.sends here p u lacked did q)
      → OfClient (same_client id id) before R missing lacked did after → CutsFinish here w.sends u before answer did after
  seen_finishes u answer R missing lacked did alike h p there live accepted =
      let (q, done, same) = of_part R missing lacked did p there (own_step (same_client id id) before R missing lacked did after (same_self id) h) in
      let (unlacked, (es, gave, end, (v, taken, carried), did_so, ends)) = alike p q live accepted done in
      let by : Ends w.sends (server here) (reader_part p) u es gave false end
      = (v, taken, subst (λ (b : Bool). CarriesOut w.sends (server here) v p.link es gave b end) unlacked carried) in (
        es,
        gave,
        end,
        by,
        did_so,
        (same ∙ ap (λ (x : Part T U C). let s : Seen T U C = record { part = Some x; made = before.made ++ notes_in did } in s) ends),
        λ finishes. (finish_law w.sends w.receives AsTold (server here) told_function (reader_part p) end u es gave
            (grind (arith, finishing, is_none, none-some, core_of p)) by finishes),
      )

-- ---- the calls of a server

module _ {T U G C : Type 0} (w : World T G C) (before after : ServerState T U G C) where
  -- where memory was not refused in a call, it was not refused to any client
  ample : (id : ClientParts) (e : Entry T U G C) → IsRefused e → e.refused ≡ false → e.lacks id ≡ false
  ample id e by calm = grind (arith, true≢false)

  -- what the call is to this client
  of_call : (id : ClientParts) (e : Entry T U G C) (call : Call T U G C) → e.call ≡ call → OneStep w before e after
      → PartCall w id before.offer call (seen id before) (e.lacks id) (e.did id) (seen id after)
  of_call id e call is by =
      subst (λ (c : Call T U G C). PartCall w id before.offer c (seen id before) (e.lacks id) (e.did id) (seen id after)) is (by.each id)

  pub histories_cut : (call : Call T U G C) → HistoriesAreCut w before call after
  histories_cut (Asked (step.NextAction id) (reply.NextAction answer)) e call by =
      let (r, left, is, h) = of_call id e (Asked (step.NextAction id) (reply.NextAction answer)) call by in
      let same : r ≡ answer = cc in
      λ calm. seen_reads w id before.offer (seen id before) (seen id after) new_reading (action_content answer) left (e.lacks id) (e.did id)
      (ample id e by.refused calm) (rw same at h)
  histories_cut (Asked (step.NextActionWithin id reading) (reply.NextActionWithin answer reading')) e call by =
      let (r, left, is, h) = of_call id e (Asked (step.NextActionWithin id reading) (reply.NextActionWithin answer reading')) call by in
      let same : r ≡ answer = cc in
      λ calm. seen_reads w id before.offer (seen id before) (seen id after) reading (action_content answer) left (e.lacks id) (e.did id)
      (ample id e by.refused calm) (rw same at h)
  histories_cut (Asked (step.FinishRequest id u) (reply.FinishRequest answer)) e call by =
      let (r, is, h) = of_call id e (Asked (step.FinishRequest id u) (reply.FinishRequest answer)) call by in
      let same : r ≡ answer = cc in
      seen_finishes w id before.offer (seen id before) (seen id after) (OfRequest u) answer _ _ (e.lacks id) (e.did id) (λ p q live accepted done.
      let next = rw accepted at done in
      ((grind (arith, refusal, true≢false, is_ok)), request_ends_alike w.sends (around w id before.offer) p u (e.lacks id) (e.did id) q live next))
      (rw same at h)
  histories_cut (Asked (step.FinishBind id u) (reply.FinishBind answer)) e call by =
      let (r, is, h) = of_call id e (Asked (step.FinishBind id u) (reply.FinishBind answer)) call by in
      let same : r ≡ answer = cc in
      seen_finishes w id before.offer (seen id before) (seen id after) (OfBind u) answer _ _ (e.lacks id) (e.did id) (λ p q live accepted done.
      let next = rw accepted at done in
      ((grind (arith)), bind_ends_alike w.sends (around w id before.offer) p u (e.lacks id) (e.did id) q live next)) (rw same at h)
  histories_cut _ e call by = tt

-- ---- the storage for what is sent holds a byte, an induction over base moves; and so something is served of each client

module _ {T U C : Type 0} where
  abbrev Holds : Part T U C → Type 0
  Holds p = 0 < p.link.outgoing_capacity

  -- so it is of a client that is stored
  abbrev SeenHolds : Seen T U C → Type 0
  SeenHolds s = MatchOption s.part (Unit {0}) (λ p. Holds p)

  pub holds_at : (s : Seen T U C) (p : Part T U C) → s.part ≡ Some p → SeenHolds s → Holds p
  holds_at s p there holds = subst (λ (x : Option (Part T U C)). MatchOption x (Unit {0}) (λ q. Holds q)) {x = s.part} {y = Some p} there holds

module _ {T U C : Type 0} (sends : T → Queue → Result ℕ IoFault → T → Type 0) (receives : T → ℕ → Result Queue IoFault → T → Type 0)
    (client : ClientParts) where
  moves_hold : (p q : Part T U C) (d : Doings U) → Moves (any true) sends receives client p d q → Holds p → Holds q
  moves_hold p q d (stayed is same) holds = subst Holds (sym same) holds
  moves_hold p q d (followed {m = m} {a = a} {b = b} first second is) holds = moves_hold m q b second (moves_hold p m a first holds)
  moves_hold p q d (handed_out {a = a} ids moves among is) holds = moves_hold p q a moves holds
  moves_hold p q d (moved move) holds = grind (arith, puts_hold)

  goes_hold : (s t : Seen T U C) (d : Doings U) → Goes (any true) sends receives client s d t → SeenHolds s → SeenHolds t
  goes_hold s t d h1 h2 = grind (arith, unfelt, notes_taken, within, moves_hold, holds_at, taken_out)

module _ {T U G C : Type 0} (w : World T G C) (id : ClientParts) where
  pub run_holds : (offer : Offer G) (s : Seen T U C) (run : List (Own T U G C)) (t : Seen T U C) → AreMine id run → Alone w id offer s run t
      → SeenHolds s → SeenHolds t
  run_holds offer s [] t own same holds = subst SeenHolds (sym same) holds
  run_holds offer s (e ∷ run) t own (mid, by, alone) holds =
      run_holds (offer_after offer e.call) mid run t own.1 alone
      (goes_hold w.sends w.receives id s mid (doings_of (handed_by id e.call e.did) e.did)
      (call_goes true w id offer e.call s e.lacked e.did mid own.0 by (λ cleans. refl)) holds)
