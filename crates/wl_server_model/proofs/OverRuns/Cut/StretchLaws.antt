-- That what a stretch of a client's own run gives is what is served of all that arrived.
--
-- Its entries are acts of the client as a reader: those that are refused change nothing, and are none.
use Rattle.std.proofs.Common.{◌≡◌, Bool, true, false, List, [], ◌∷◌, ◌++◌, append_assoc, append-nil, Option, None, Some, Result, Ok, Err, refl, sym, ap, subst, ◌∙◌, true≢false, arith, is_none, is_ok}
use mathlib.Core.Logic.{inl, inr}
use Rattle.std.proofs.lemmas.Option.{same_Some, none-some}
use Rattle.wl_wire.specs.declared.error.IoFault.{IoFault}
use Rattle.wl_wire.specs.declared.error.IoFault.TheVariants as fault
use Rattle.wl_link.proofs.Stretches.ArrivalLaws.{fed_blocks}
use Rattle.wl_link.proofs.Calls.Branches.{either_option}
use Rattle.wl_link.specs.Exchange.{Queue, joined, nothing}
use Rattle.wl_link.proofs.Streams.LengthLaws.{front_fits}
use Rattle.wl_link.specs.Link.{incoming_limit, with_transport}
use Rattle.wl_link.proofs.Calls.QueueLaws.{joined_nothing}
use Rattle.wl_link.proofs.Stretches.RanLaws.{ran}
use Rattle.wl_link.proofs.Readings.ServedLaws.{served_one}
use Rattle.wl_link.specs.Served.{state_as}
use Rattle.wl_link.proofs.Calls.OneScript.{script_sends_function}
use Rattle.wl_link.specs.Reader.{Ends, Gives, IsFed, Reads, came_by, ReaderState}
use Rattle.wl_link.specs.Script.{Script, ScriptReceives, ScriptSends}
use Rattle.wl_link.specs.Stretch.{Act, AllPieces, Arrived, DoesAll, EndsByPipe, EndsWaiting as ActsEndWaiting, HasEnded, HasRead, IsStretch as IsActStretch, NotFull, arrivals_of, arrived as act_arrived, ended as act_ended, given_in, with_arrival, sending_side}
use Rattle.wl_link.proofs.Stretches.StretchLaws.{acts_pieces, arrived-append, does_joins, ended-append, ends_waiting-append, given_in-append, roomy_before, stretch_served as acts_served}
use Rattle.wl_server_client.specs.declared.reading.action.Reading.{Reading}
use Rattle.wl_server_client.specs.declared.error.ActionError.{ActionError}
use Rattle.wl_server_client.specs.declared.error.ActionError.TheVariants.{ActionOpen, Io}
use Rattle.wl_server_client.specs.declared.error.ScriptError.{ScriptError}
use Rattle.wl_server_client.specs.declared.notes.DisconnectReason.{DisconnectReason}
use Rattle.wl_server_model.specs.declared.step.Step.TheVariants as step
use Rattle.wl_server_model.proofs.OverRuns.Cut.AnswerLaws.{IsSound, ReadsSo, action_first, answers_both, beside_both, beside_sends, beside_turns, ends_so, first_of, on_of, reads_so, killed_later}
use Rattle.wl_server_model.proofs.OverRuns.Cut.CuttingLaws.{of_part, EndsAlike, bind_ends_alike, request_ends_alike}
use Rattle.wl_server_client.specs.Deeds.{Deed, Handed}
use Rattle.wl_server_client.specs.Globals.{Offer}
use Rattle.wl_server_client.specs.Ids.{ClientParts, GlobalParts}
use Rattle.wl_server_model.proofs.OverRuns.Alone.IsolationLaw.{alone_run}
use Rattle.wl_server_model.specs.Moves.{ArrivesWith, nothing_taken}
use Rattle.wl_server_client.specs.Part.{Part, with_link}
use Rattle.wl_server_model.specs.PartStep.{Asked, Call, OfClient, PartCall, World, around, over_scripts}
use Rattle.wl_server_client.specs.Reading.{Around, NextAction, action_content, answered as answered_so, exchanges_in, new_reading, reads_on, server, ReadsTo}
use Rattle.wl_server_model.proofs.OverRuns.Ids.ReplyLaws.{own_step}
use Rattle.wl_server_model.proofs.Plain.Base.{split_bool}
use Rattle.wl_server_model.specs.Runs.{Alone, Own, concerns, history, mine}
use Rattle.wl_server_model.specs.Server.{Seen, ServerState, seen}
use Rattle.wl_server_model.specs.Steps.{Entry}
use Rattle.wl_server_model.specs.Stretches.{AllHeard, EachPartIsCut, EndsWaiting, IsHeard, StretchIsServed, IsStretch, IsStretchWithin, SameLeft, handed_out, answers_in, arrived, arrived_by, beside_exchanges, finished, finished_by, left_in, reading_by, told_by, was_killed}
use Rattle.wl_server_client.specs.Telling.{Core, Finish, OfBind, OfRequest, Told, core_of, deeds_in, deeds_of, end_deeds, part_of, reader_part}
use Rattle.wl_server_client.proofs.Readings.OneMessage.{deeds_append}

-- ---- what a reading told

module _ {U C : Type 0} (c e : Core U C) (out : Gives (Told U)) (on : reads_on c ≡ true) (so : ReadsSo c out e) (answer : Result Handed ActionError)
    (is : answer ≡ answered_so out.stopped out.gave) where
  told_so : (exchanges : List (Deed U)) → ((f : IoFault) → out.stopped ≡ Some f → f ≡ fault.WouldBlock)
      → told_by (Some answer) (deeds_of exchanges out.gave e) ≡ answers_in out.gave
  told_so exchanges h1 =
      grind (arith, told_by, deeds_of, true≢false, killed_later, deeds_in, end_deeds, was_killed, answered_so, action_first out.gave, first_of)

  blocks_so : answer ≡ Err (Io fault.WouldBlock) → out.stopped ≡ Some fault.WouldBlock
  blocks_so h1 = grind (arith, true≢false, none-some, same_Some, answered_so, action_first out.gave, first_of)

-- ---- finishes that are refused, or are not

module _ {G C : Type 0} (views : G → ClientParts → C → GlobalParts → Bool) (id : ClientParts) (offer : Offer G) where
  abbrev w : World Script G C
  w = over_scripts views

  abbrev a : Around G C
  a = around w id offer

  -- a client as a reader, its own run, and what it does as a reader
  abbrev Client : Type 0 → Type 0
  Client U = ReaderState Script (Core U C)

  abbrev Run : Type 0 → Type 0
  Run U = List (Own Script U G C)

  abbrev ActList : Type 0 → Type 0
  ActList U = List (Act (Told U) (Finish U))

  module _ {U : Type 0} where
    ends_by_pipe : EndsByPipe (server {U = U} a)
    ends_by_pipe = record { blocks = λ c. refl; over = λ c. (refl, λ u. refl) }

    -- ---- what a run is as acts

    -- each entry is one act or none; where the last one finds that the transport would block, so does the last act
    record Acts (s : Client U) (run : Run U) (after : Seen Script U C) (end : Client U) (acts : ActList U) : Type 0 where
      there : after.part ≡ Some (part_of end)
      does : DoesAll (server a) s acts end
      came_in : act_arrived acts ≡ arrived run
      ended_with : act_ended acts ≡ finished run
      deeds : end_deeds s.core.ended ++ beside_exchanges (history run) ≡ deeds_in (given_in acts) ++ end_deeds end.core.ended
      sound : IsSound end.core
      answers : AllPieces (arrivals_of s) → NotFull (server a) end → handed_out run ≡ answers_in (given_in acts)
      waits : EndsWaiting run → (before : ActList U) → ActsEndWaiting (before ++ acts)

    abbrev AsActs : Client U → Run U → Seen Script U C → Type 0
    AsActs s run after = (end : Client U) × (acts : ActList U) × Acts s run after end acts

    -- a client that has no end is the part that its core goes on from
    begun_so : (s : Client U) → s.core.ended ≡ None → reader_part (part_of s) ≡ s
    begun_so s none = ap (λ (o : Option DisconnectReason). let p : Client U = record { core = record s.core { ended = o }; link = s.link } in p)
        (sym none)

    -- ---- an entry

    module _ (s : Client U) (x : Own Script U G C) (after : Seen Script U C) (q : Part Script U C) (there : after.part ≡ Some q)
        (sound : IsSound s.core) where
      -- nothing changed
      acts_none : q ≡ part_of s → x.did ≡ [] → arrived_by x.call ≡ nothing → finished_by x.call ≡ [] → (r : Option (Result Handed ActionError))
          → reading_by x.call ≡ r → told_by {U = U} r [] ≡ [] → (r ≡ Some (Err (Io fault.WouldBlock)) → ⊥) → AsActs s (x ∷ []) after
      acts_none same none came ended r is told not = (s, [], (grind (arith, append-nil)))

      -- something arrived
      acts_arrived : (r : Result Queue IoFault) → IsFed r → q ≡ part_of (with_arrival s r) → x.did ≡ [] → came_by r ≡ arrived_by x.call
          → finished_by x.call ≡ [] → reading_by x.call ≡ None → AsActs s (x ∷ []) after
      acts_arrived r fed same none came ended unread =
          let does : DoesAll (server a) s (Arrived r ∷ []) (with_arrival s r) = (with_arrival s r, (fed, refl), refl) in
          (with_arrival s r, Arrived r ∷ [], (grind (arith, does, append-nil, none-some)))

      -- a reading of a client that is read on
      acts_read : (r r' : Reading) (answer : Result Handed ActionError) → reading_by x.call ≡ Some answer → arrived_by x.call ≡ nothing
          → finished_by x.call ≡ [] → s.core.is_killed ≡ false → s.core.action ≡ None
          → ReadsTo ScriptSends ScriptReceives a r (part_of s) answer r' false x.did q → AsActs s (x ∷ []) after
      acts_read r r' answer told came ended live unopened (turns, out, end, by, is, still, lacks, did_so, same) =
          let unended : s.core.ended ≡ None = grind (arith, sound, true≢false) in
          let on = on_of s.core live unopened in
          let reads = subst (λ (p : Client U). Reads ScriptSends (server a) ScriptReceives r.turns_left p turns out end) (begun_so s unended) by in
          let left = r.turns_left in
          let ample : out.refused ≡ false = sym lacks in
          let so = reads_so ScriptSends ScriptReceives a left s end turns out reads ample sound in
          let does : DoesAll (server a) s (HasRead out ∷ []) end = (end, (ample, (left, turns, reads)), refl) in
          let answers : AllPieces (arrivals_of s) → NotFull (server a) end → told_by (Some answer)
          (deeds_of (exchanges_in turns) out.gave end.core) ≡ answers_in out.gave
          = λ all roomy. told_so s.core end.core out on so answer is (exchanges_in turns)
          (fed_blocks ScriptSends ScriptReceives (server a) (λ c. refl) end left s turns out reads
          (ran (server a) end roomy left s turns out ample reads all).fed ample) in
          let waits : answer ≡ Err (Io fault.WouldBlock) → (before : ActList U) → ActsEndWaiting (before ++ HasRead out ∷ [])
          = λ w before. ends_waiting-append before (HasRead out) (blocks_so s.core end.core out on so answer is w) in
          (end, HasRead out ∷ [], (grind (arith, does, answers, waits, so.quiet, so.sound, beside_both, beside_turns, append-nil)))

      -- an accepted finish, of a client with an open action
      acts_ended : (u : Finish U) → (s.core.action ≡ None → ⊥) → (s.core.is_killed ≡ false → EndsAlike ScriptSends a (part_of s) u false x.did q)
          → arrived_by x.call ≡ nothing → finished_by x.call ≡ u ∷ [] → reading_by x.call ≡ None → AsActs s (x ∷ []) after
      acts_ended u opened by_ends came ended unread =
          let standing : (s.core.is_killed ≡ false) × (s.core.ended ≡ None) = grind (arith, sound, opened) in
          let (es, gave, end, by, did_so, same) = by_ends standing.0 in
          let ends = subst (λ (p : Client U). Ends ScriptSends (server a) p u es gave false end) (begun_so s standing.1) by in
          let so = ends_so a ScriptSends s end u es gave standing.1 ends in
          let off : reads_on s.core ≡ false = grind (arith, is_none, opened, reads_on, s.core.action) in
          let does : DoesAll (server a) s (HasEnded u gave ∷ []) end = (end, (off, (es, ends)), refl) in
          (end, HasEnded u gave ∷ [], (grind (arith, does, so.quiet, so.sound, so.none, beside_both, beside_sends, append-nil)))

      acts_next : (r r' : Reading) (answer : Result Handed ActionError) → reading_by x.call ≡ Some answer → arrived_by x.call ≡ nothing
          → finished_by x.call ≡ [] → NextAction ScriptSends ScriptReceives a r (part_of s) answer r' false x.did q → AsActs s (x ∷ []) after
      acts_next r r' answer told came ended h =
          elim (either_option s.core.action h) [
            | inr (action, is_open, (is, left, unasked, none, same)) ↦ acts_none same none came ended (Some (Err ActionOpen))
                (told ∙ ap Some is) refl (λ w. cc)
            | inl (unopened, g) ↦
                elim (split_bool s.core.is_killed g) [
                  | inl (dead, (is, left, unasked, none, same)) ↦
                      acts_none same none came ended (Some (Err (Io fault.Pipe))) (told ∙ ap Some is) refl (λ w. cc)
                  | inr (live, reads) ↦ acts_read r r' answer told came ended live unopened reads
                ]
          ]

    -- what a step that is about the client does to its part
    mine_is : (s : Client U) (before after : Seen Script U C) (did : List (Deed U)) (b : Bool) (R : Part Script U C → Part Script U C
        → Type 0) (missing : Type 0)
        → b ≡ true → before.part ≡ Some (part_of s) → OfClient b before R missing false did after → (q : Part Script U C) × R (part_of s) q
        × (after.part ≡ Some q)
    mine_is s before after did b R missing about there h =
        let (q, by, same) = of_part w id offer before after R missing false did (part_of s) there
        (own_step b before R missing false did after about h) in
        (q, by, ap (λ (x : Seen Script U C). x.part) same)

    step_acts : (s : Client U) (before after : Seen Script U C) (call : Call Script U G C) (lacked : Bool) (did : List (Deed U))
        → before.part ≡ Some (part_of s) → concerns id call ≡ true → IsHeard call → PartCall w id offer call before false did after → IsSound s.core
        → AsActs s (record { call = call; lacked = lacked; did = did } ∷ []) after
    step_acts s before after (Asked (step.Arrive target bytes tokens) answer) lacked did there about (some, taken) (r, is, h) sound =
        let (q, (unasked, none, (t, moved, to)), at) = mine_is s before after did _ _ _ about there h in
        let chunk : Queue = record { bytes = bytes.items; tokens = tokens.items } in
        let same : r ≡ Ok tt = cc in
        let arrives = subst (λ (x : Result (Unit {0}) ScriptError). ArrivesWith s.link.transport chunk (nothing_taken x) t) same moved in
        acts_arrived s _ after q at sound (Ok chunk) some
        (to ∙ ap (λ (x : Script). with_link (part_of s) (with_transport s.link x)) arrives.2) none refl refl refl
    step_acts s before after (Asked (step.ArriveFault target f) answer) lacked did there about blocked (r, is, h) sound =
        let (q, (unasked, none, (t, moved, to)), at) = mine_is s before after did _ _ _ about there h in
        acts_arrived s _ after q at sound (Err f) blocked
        (to ∙ ap (λ (x : Script). with_link (part_of s) (with_transport s.link x)) (grind (arith, true≢false))) none refl refl refl
    step_acts s before after (Asked (step.NextAction target) answer) lacked did there about heard (r, left, is, h) sound =
        let (q, next, at) = mine_is s before after did _ _ _ about there h in
        acts_next s _ after q at sound new_reading left (action_content r) (cc) refl refl next
    step_acts s before after (Asked (step.NextActionWithin target reading) answer) lacked did there about heard (r, left, is, h) sound =
        let (q, next, at) = mine_is s before after did _ _ _ about there h in
        acts_next s _ after q at sound reading left (action_content r) (cc) refl refl next
    step_acts s before after (Asked (step.FinishRequest target u) answer) lacked did there about heard (Ok tt, is, h) sound =
        let (q, next, at) = mine_is s before after did _ _ _ about there h in
        acts_ended s _ after q at sound (OfRequest u) (λ none. (grind (arith, true≢false, is_ok, none)))
        (λ live. request_ends_alike ScriptSends a (part_of s) u false did q live next) refl (cc) (cc)
    step_acts s before after (Asked (step.FinishRequest target u) answer) lacked did there about heard (Err e, is, h) sound =
        let (q, next, at) = mine_is s before after did _ _ _ about there h in
        let same : (did ≡ []) × (q ≡ part_of s) = grind (arith, true≢false, is_ok, part_of s) in
        acts_none s _ after q at sound same.1 same.0 refl (cc) None (cc) refl (λ w. cc)
    step_acts s before after (Asked (step.FinishBind target u) answer) lacked did there about heard (Ok tt, is, h) sound =
        let (q, next, at) = mine_is s before after did _ _ _ about there h in
        acts_ended s _ after q at sound (OfBind u) (λ none. (grind (arith, true≢false, is_ok, none)))
        (λ live. bind_ends_alike ScriptSends a (part_of s) u false did q live next) refl (cc) (cc)
    step_acts s before after (Asked (step.FinishBind target u) answer) lacked did there about heard (Err e, is, h) sound =
        let (q, next, at) = mine_is s before after did _ _ _ about there h in
        let same : (did ≡ []) × (q ≡ part_of s) = grind (arith, true≢false, is_ok, part_of s) in
        acts_none s _ after q at sound same.1 same.0 refl (cc) None (cc) refl (λ w. cc)
    step_acts s before after _ lacked did there about heard h sound = absurd heard

    -- ---- a run

    answers_join : (one more : List (Result Handed IoFault)) (acts others : ActList U) → one ++ [] ≡ answers_in (given_in acts) → more ≡ answers_in (given_in others)
        → one ++ more ≡ answers_in (given_in (acts ++ others))
    answers_join one more acts others e f =
        (ap (λ (xs : List (Result Handed IoFault)). xs ++ more) (sym (append-nil one) ∙ e)
        ∙ ap (λ (ys : List (Result Handed IoFault)). answers_in (given_in acts) ++ ys) f)
        ∙ (sym (answers_both (given_in acts) (given_in others)) ∙ ap answers_in (sym (given_in-append acts others)))

    run_joins : (s m end : Client U) (mid after : Seen Script U C) (x y : Own Script U G C) (run : Run U) (acts others : ActList U)
        → Acts s (x ∷ []) mid m acts → Acts m (y ∷ run) after end others → Acts s (x ∷ y ∷ run) after end (acts ++ others)
    run_joins s m end mid after x y run acts others first rest = record {
      there = rest.there;
      does = does_joins (server a) s m end acts others first.does rest.does;
      came_in = grind (arith, arrived-append acts others, first.came_in, rest.came_in, joined_nothing);
      ended_with = grind (arith, ended-append acts others, first.ended_with, rest.ended_with, append-nil);
      deeds = grind (arith, beside_both, append_assoc, beside_exchanges, deeds_in, deeds_append, end_deeds, history, given_in, given_in-append, append-nil);
      sound = rest.sound;
      answers = λ pieces roomy.
          let here = roomy_before (server a) ends_by_pipe m end others rest.does roomy in
          let left = acts_pieces (server a) ends_by_pipe s m acts first.does pieces here in
          answers_join _ _ acts others (first.answers pieces here) (rest.answers left roomy);
      waits = λ e before. subst ActsEndWaiting (append_assoc before acts others) (rest.waits e (before ++ acts));
    }

    run_acts : (s : Client U) (before after : Seen Script U C) (run : Run U) → before.part ≡ Some (part_of s)
        → Alone w id offer before run after → AllHeard id run → IsSound s.core → AsActs s run after
    run_acts s before after [] there same heard sound = (s, [], (grind (arith, append-nil)))
    run_acts s before after (x ∷ []) there (mid, by, same) (about, unlacked, heard, others) sound =
        subst (AsActs s (x ∷ [])) (sym same) (step_acts s before mid x.call x.lacked x.did there about heard (rw unlacked at by) sound)
    run_acts s before after (x ∷ (y ∷ run)) there (mid, by, leads) (about, unlacked, heard, others) sound =
        let (m, acts, first) = step_acts s before mid x.call x.lacked x.did there about heard (rw unlacked at by) sound in
        let on = subst (λ (o : Offer G). Alone w id o mid (y ∷ run) after) (grind (arith, x.call)) leads in
        let (end, more, rest) = run_acts m mid after (y ∷ run) first.there on others first.sound in
        (end, acts ++ more, run_joins s m end mid after x y run acts more first rest)

    -- ---- the law

    not_full : (p : Part Script U C) (run : Run U) (end : Client U) → IsStretch a p run (part_of end) → NotFull (server a) end
    not_full p run end stretch core (is, lacks) = grind (arith, server, core_of, part_of)

    module _ (p : Part Script U C) (run : Run U) (after : Seen Script U C) (end : Client U) (acts : ActList U)
        (r : Acts (reader_part p) run after end acts) (stretch : IsStretch a p run (part_of end)) where
      act_stretch : IsActStretch (server a) (reader_part p) acts end
      act_stretch = let waits : EndsWaiting run → ActsEndWaiting acts = λ w. r.waits w [] in grind (arith, waits, r.does, not_full p run end stretch)

      served_at : StretchIsServed a p run (part_of end)
      served_at =
          let served = acts_served (server a) ends_by_pipe (reader_part p) end acts act_stretch in
          record {
            gave = given_in acts;
            end = end;
            served = rw (r.came_in, r.ended_with) at served;
            leads = refl;
            deeds = r.deeds;
            answers = r.answers stretch.spans.pieces (not_full p run end stretch);
          }

    module _ (before after : Seen Script U C) (p : Part Script U C) (begins : before.part ≡ Some p) where
      acts_of : (run : Run U) (last : Seen Script U C) → Alone w id offer before run last → AllHeard id run → p.is_killed ≡ false
          → AsActs (reader_part p) run last
      acts_of run last leads heard live = run_acts (reader_part p) before last run begins leads heard (inl (live, refl))

      pub stretch_served : (q : Part Script U C) (run : Run U) → after.part ≡ Some q → Alone w id offer before run after → IsStretch a p run q
          → StretchIsServed a p run q
      stretch_served q run ends leads stretch =
          let (end, acts, r) = acts_of run after leads stretch.spans.heard stretch.spans.live in
          let is = same_Some (part_of end) q (sym r.there ∙ ends) in
          subst (StretchIsServed a p run) is (served_at p run after end acts r (subst (IsStretch a p run) (sym is) stretch))

      pub within_stretch : (q : Part Script U C) (run : Run U) → after.part ≡ Some q → Alone w id offer before run after → IsStretchWithin a p run q
          → IsStretch a p run q
      within_stretch q run ends leads stretch =
          grind (arith, acts_of, same_Some, part_of, a, incoming_limit, joined, left_in, front_fits, server, reader_part)

    module _ (before after : Seen Script U C) (p : Part Script U C) (begins : before.part ≡ Some p) where
      -- so two runs over which the same arrives and is finished give the same, and lead to the same, however it was cut
      abbrev SameCut : Run U → Run U → Part Script U C → Part Script U C → Type 0
      SameCut run others q r =
          (beside_exchanges (history run) ≡ beside_exchanges (history others)) × (handed_out run ≡ handed_out others) × SameLeft q r

      pub cut_otherwise : (other : Seen Script U C) (q r : Part Script U C) (run others : Run U) → after.part ≡ Some q → other.part ≡ Some r
          → Alone w id offer before run after → Alone w id offer before others other → IsStretch a p run q → IsStretch a p others r
          → arrived run ≡ arrived others → finished run ≡ finished others → SameCut run others q r
      cut_otherwise other q r run others ends ends' leads leads' stretch stretch' came ended =
          let x = stretch_served before after p begins q run ends leads stretch in
          let y = stretch_served before other p begins r others ends' leads' stretch' in
          let start = state_as (reader_part p) (joined (left_in p) (arrived run)) (sending_side p.link.transport) in
          let (gave, end) = served_one ScriptSends script_sends_function (server a) start _ _ (finished run) x.gave y.gave x.served
          (rw (← came, ← ended) at y.served) in
          (grind (arith, x.deeds, y.deeds, gave, end), grind (arith, x.answers, y.answers, gave), grind (arith, x.leads, y.leads, end))

-- ---- runs of a server

pub each_part_is_cut : {U G C : Type 0} (views : G → ClientParts → C → GlobalParts → Bool) (begun : ServerState Script U G C)
    (run : List (Entry Script U G C))
    → EachPartIsCut views begun run
each_part_is_cut views begun run earlier middle later first last split before part = λ id p q born there ends. let alone = alone_run
    (over_scripts views) id first last middle born part in grind (arith, stretch_served, seen, mine, within_stretch)
