-- That what a stretch of a run hands out is what is served of all that arrived.
--
-- Its entries are acts of the client as a reader: those that are refused change nothing, and are none.
use Rattle.std.proofs.Common.{◌≡◌, ◌⊎◌, ℕ, Bool, true, false, List, [], ◌∷◌, ◌++◌, append_assoc, append-nil, ◌&&◌, Option, None, Some, is_none, Result, Ok, Err, is_ok, refl, sym, ap, ap₂, subst, ◌∙◌, true≢false, arith}
use mathlib.Core.Logic.{inl, inr}
use Rattle.wl_wire.specs.declared.argument.Token.{Token}
use Rattle.wl_wire.specs.declared.error.IoFault.{IoFault}
use Rattle.wl_wire.specs.declared.error.IoFault.TheVariants as fault
use Rattle.wl_wire.specs.declared.error.MessageParseError.TheVariants as parse
use Rattle.wl_wire.specs.declared.message.Message.{Message}
use Rattle.wl_link.specs.declared.memory.ArriveError.{ArriveError}
use Rattle.wl_link.proofs.Calls.Branches.{both_option}
use Rattle.wl_link.specs.Exchange.{Queue, joined, nothing}
use Rattle.wl_link.proofs.Streams.LengthLaws.{front_fits}
use Rattle.wl_link.specs.Link.{EachWithin, ReadOne, incoming_limit}
use Rattle.wl_link.proofs.Calls.QueueLaws.{joined_nothing}
use Rattle.wl_link.specs.Reader.{Gives, Given, HandedOut, IsFed, ReaderState, Queued, Reads, Turn, came_by}
use Rattle.wl_link.specs.Script.{Script, ScriptReceives, ScriptSends}
use Rattle.wl_link.specs.Respect.{Keeps, RespectsReading}
use Rattle.wl_link.proofs.Readings.RespectLaws.{reads_respect}
use Rattle.wl_link.specs.Served.{Served, state_as}
use Rattle.wl_link.specs.Stretch.{Act, Arrived, DoesAll, EndsByPipe, EndsWaiting as ActsEndWaiting, HasEnded, HasRead, IsStretch as IsActStretch, arrivals_of, arrived as act_arrived, ended as act_ended, given_in, sending_side, with_arrival}
use Rattle.wl_link.proofs.Stretches.StretchLaws.{acts_keep, arrived-append, cut_otherwise as acts_cut_otherwise, does_joins, ended-append, ends_waiting-append, given_in-append, stretch_served as acts_served}
use Rattle.wl_client.specs.declared.error.EventError.{EventError}
use Rattle.wl_client.specs.declared.error.EventError.TheVariants as no_event
use Rattle.wl_client.specs.declared.error.FinishRefused.{FinishRefused}
use Rattle.wl_client.specs.declared.event_fault.EventFault.TheVariants as wrong
use Rattle.wl_client.specs.declared.event.OpenEvent.{OpenEvent}
use Rattle.wl_client.specs.declared.step.Reply.{Reply}
use Rattle.wl_client.specs.declared.step.Reply.TheVariants as reply
use Rattle.wl_client.specs.declared.step.Step.{Step}
use Rattle.wl_client.specs.declared.step.Step.TheVariants as step
use Rattle.wl_client.specs.ObjectId.{IdParts}
use Rattle.wl_client.specs.Events.{error_of}
use Rattle.wl_client.specs.Finish.{FinishesEvent, Finishes, refusal}
use Rattle.wl_client.specs.Freeing.{freeing}
use Rattle.wl_client.specs.Handling.{Breaks, Handling, handling_by, signature_by}
use Rattle.wl_client.specs.Reading.{NextEvent, answered, client, event_content, faulted, handed_by, objects_in, reader_state_of, reads_on, receives_allowed, verdict}
use Rattle.wl_client.proofs.OverRuns.ReadingLaws.{finish_as, finish_ends, keeps}
use Rattle.wl_client.specs.Requests.{SessionMessage}
use Rattle.wl_client.proofs.OverRuns.RoomLaws.{NotEndedByPipe, finish_keeps, end_keeps, fed_keeps}
use Rattle.wl_client.specs.Session.{Core, SessionState, core_of}
use Rattle.wl_client.specs.Histories.{Deed}
use Rattle.wl_client.specs.Steps.{Entry, Leads, StepOf}
use Rattle.wl_client.specs.Stretches.{AllHeard, EachPartIsCut, EndsWaiting, IsHeard, IsRunServed, IsStretch, IsStretchWithin, SameLeft, arrived, arrived_by, events_by, events_of, finished, finished_by, if_accepted, left_in}

-- ---- answers

failed_not_blocks : ◌≡◌ {A = Result SessionMessage EventError} (Err no_event.Failed) (Err no_event.WouldBlock) → ⊥
failed_not_blocks same = cc

open_not_blocks : ◌≡◌ {A = Result SessionMessage EventError} (Err no_event.EventOpen) (Err no_event.WouldBlock) → ⊥
open_not_blocks same = cc

event_not_blocks : (m : SessionMessage) → ◌≡◌ {A = Result SessionMessage EventError} (Ok m) (Err no_event.WouldBlock) → ⊥
event_not_blocks m same = true≢false (ap is_ok same)

memory_not_blocks : ◌≡◌ {A = Result SessionMessage EventError} (Err no_event.OutOfMemory) (Err no_event.WouldBlock) → ⊥
memory_not_blocks same = cc

-- a reading answers so only where it was stopped so
stopped_blocks : (stopped : Option IoFault) (gave : List (Given SessionMessage)) → answered stopped gave ≡ Err no_event.WouldBlock → stopped ≡ Some fault.WouldBlock
stopped_blocks None (HandedOut m ∷ gave) is = absurd (event_not_blocks m is)
stopped_blocks None (Queued m ∷ gave) is = grind (arith, true≢false, is_none, stopped_blocks None gave is)
stopped_blocks (Some fault.WouldBlock) gave is = refl
stopped_blocks (Some fault.OutOfMemory) gave is = absurd (memory_not_blocks is)
stopped_blocks _ _ is = absurd (failed_not_blocks is)

both_none : {A B : Type 0} (o : Option A) (p : Option B) → is_none o && is_none p ≡ true → (o ≡ None) × (p ≡ None)
both_none o p h1 = grind (arith, true≢false)

module _ {U : Type 0} where
  -- ---- a client that has an event open has no error, as far as its readings and finishes go

  abbrev Tidy : Core U → Type 0
  Tidy c = (c.error ≡ None) ⊎ (c.open_event ≡ None)

  abbrev StaysTidy : Core U → List (Given SessionMessage) → Core U → Type 0
  StaysTidy c gave d = Tidy c → Tidy d

  -- a message to a client that has neither leaves it tidy
  handled_tidy : (c : Core U) (id : Option IdParts) (h : Handling U) → (c.error ≡ None) × (c.open_event ≡ None) → Keeps client StaysTidy c (verdict (freeing c id) h)
  handled_tidy c id h h1 = grind (arith, keeps StaysTidy c (freeing c id))

  faulted_open : (c : Core U) (f : IoFault) → (faulted c f).open_event ≡ c.open_event
  faulted_open c f = grind (arith)

  readings_tidy : RespectsReading client StaysTidy
  readings_tidy = record {
    same = λ c tidy. tidy;
    joins = λ c d e g h first second tidy. second (first tidy);
    handles = λ c m on. handled_tidy c _ (handling_by c.passes_over c.table (objects_in c) m) (both_none c.error c.open_event on);
    malformed = λ c u on. handled_tidy c None (Breaks (error_of c.table wrong.Malformed) (objects_in c)) (both_none c.error c.open_event on);
    faulted = λ c f on tidy. inr (faulted_open c f ∙ (both_none c.error c.open_event on).1);
  }

  -- ---- what an entry does

  -- it is these acts, none or one; where it finds that the transport would block, that is the last of them
  record Acts (s : SessionState Script U) (call : Step U) (answer : Reply U) (mid : SessionState Script U) : Type 0 where
    acts : List (Act SessionMessage (Option U))
    does : DoesAll client (reader_state_of s) acts (reader_state_of mid)
    came_in : act_arrived acts ≡ arrived_by call
    ended_with : act_ended acts ≡ finished_by call answer
    handed_out : given_in acts ≡ events_by answer
    waits : answer ≡ reply.NextEvent (Err no_event.WouldBlock) → (before : List (Act SessionMessage (Option U))) → ActsEndWaiting (before ++ acts)
    tidy : Tidy (core_of mid)

  content_blocks : (r : Result (Message IdParts Token) EventError) → ◌≡◌ {A = Reply U} (reply.NextEvent r) (reply.NextEvent (Err no_event.WouldBlock)) → event_content r ≡ Err no_event.WouldBlock
  content_blocks r same = ap event_content (let e : r ≡ Err no_event.WouldBlock = cc in e)

  module _ (s mid : SessionState Script U) (call : Step U) (answer : Reply U) where
    -- nothing changed
    acts_none : mid ≡ s → Tidy (core_of s) → arrived_by call ≡ nothing → finished_by call answer ≡ [] → events_by answer ≡ []
        → (answer ≡ reply.NextEvent (Err no_event.WouldBlock) → ⊥) → Acts s call answer mid
    acts_none same tidy came' ended' handed not = grind (arith, reader_state_of, core_of)

    -- something arrived
    acts_arrived : (r : Result Queue IoFault) → IsFed r → reader_state_of mid ≡ with_arrival (reader_state_of s) r → Tidy (core_of s) → came_by r ≡ arrived_by call → finished_by call answer ≡ []
        → events_by answer ≡ [] → (answer ≡ reply.NextEvent (Err no_event.WouldBlock) → ⊥) → Acts s call answer mid
    acts_arrived r fed same tidy came' ended' handed not = record {
      acts = Arrived r ∷ [];
      does = (reader_state_of mid, (fed, same), refl);
      came_in = joined_nothing (came_by r) ∙ came';
      ended_with = sym ended';
      handed_out = sym handed;
      waits = λ is before. absurd (not is);
      tidy = subst (λ (p : ReaderState Script (Core U)). Tidy p.core) (sym same) tidy;
    }

    -- a reading
    acts_read : (out : Gives SessionMessage) → out.refused ≡ false
        → ((left : ℕ) × (turns : List Turn) × Reads ScriptSends client ScriptReceives left (reader_state_of s) turns out (reader_state_of mid)) → Tidy (core_of s)
        → arrived_by call ≡ nothing → finished_by call answer ≡ [] → out.gave ≡ events_by answer
        → (answer ≡ reply.NextEvent (Err no_event.WouldBlock) → out.stopped ≡ Some fault.WouldBlock) → Acts s call answer mid
    acts_read out calm (left, turns, reads) tidy came' ended' handed blocks = record {
      acts = HasRead out ∷ [];
      does = (reader_state_of mid, (calm, (left, turns, reads)), refl);
      came_in = joined_nothing nothing ∙ sym came';
      ended_with = sym ended';
      handed_out = append-nil out.gave ∙ handed;
      waits = λ is before. ends_waiting-append before (HasRead out) (blocks is);
      tidy = reads_respect ScriptSends ScriptReceives client StaysTidy readings_tidy left (reader_state_of s) (reader_state_of mid) turns out reads tidy;
    }

    -- an accepted finish
    acts_ended : (u : Option U) → s.error ≡ None → Finishes s u (Ok tt) mid → Tidy (core_of mid) → arrived_by call ≡ nothing → finished_by call answer ≡ u ∷ [] → events_by answer ≡ []
        → (answer ≡ reply.NextEvent (Err no_event.WouldBlock) → ⊥) → Acts s call answer mid
    acts_ended u live h tidy came' ended' handed not =
        let (off, ended_so) = finish_ends ScriptSends s mid u live h in
        record {
          acts = HasEnded u [] ∷ [];
          does = (reader_state_of mid, (off, ([], ended_so)), refl);
          came_in = joined_nothing nothing ∙ sym came';
          ended_with = sym ended';
          handed_out = sym handed;
          waits = λ is before. absurd (not is);
          tidy = tidy;
        }

  reading_acts : (s mid : SessionState Script U) (r : Result (Message IdParts Token) EventError) (answer : Reply U) → answer ≡ reply.NextEvent r
      → NextEvent ScriptSends ScriptReceives s (event_content r) false mid → Tidy (core_of s) → Acts s step.NextEvent answer mid
  reading_acts s mid r answer is h tidy =
      elim (both_option s.error h h) [
        | inr (e, some, (failed, unasked, same), again) ↦
            acts_none s mid step.NextEvent answer same tidy refl refl (ap events_by is ∙ ap handed_by failed)
            (λ w. failed_not_blocks (sym failed ∙ content_blocks r (sym is ∙ w)))
        | inl (none, p, q) ↦
            elim (both_option s.open_event p q) [
              | inr (event, some, (failed, unasked, same), again) ↦
                  acts_none s mid step.NextEvent answer same tidy refl refl (ap events_by is ∙ ap handed_by failed)
                  (λ w. open_not_blocks (sym failed ∙ content_blocks r (sym is ∙ w)))
              | inl (unopened, (turns, out, reads, told, gave, calm), again) ↦
                  acts_read s mid step.NextEvent answer out (sym calm) (receives_allowed, turns, reads) tidy refl refl (gave ∙ sym (ap events_by is))
                  (λ w. stopped_blocks out.stopped out.gave (sym told ∙ content_blocks r (sym is ∙ w)))
            ]
      ]

  none_open : (s mid : SessionState Script U) (u : Option U) → Finishes s u (Ok tt) mid → s.open_event ≡ None → ⊥
  none_open s mid u h unopened = grind (arith, finish_as, true≢false, is_none)

  finish_acts : (s mid : SessionState Script U) (u : Option U) (answer : Reply U) → answer ≡ reply.FinishEvent (Ok tt) → Finishes s u (Ok tt) mid → Tidy (core_of s)
      → Acts s (step.FinishEvent u) answer mid
  finish_acts s mid u answer is h (inr unopened) = absurd (none_open s mid u h unopened)
  finish_acts s mid u answer is h (inl live) =
      let (event, some, fits, same) = finish_as s mid u h in
      acts_ended s mid (step.FinishEvent u) answer u live h
      (inr (ap (λ (x : SessionState Script U). x.open_event) same ∙ (finish_keeps (core_of s) event u).1))
      refl (ap (λ (a : Reply U). if_accepted u a) is) (ap events_by is)
      (λ w. let e : ◌≡◌ {A = Reply U} (reply.FinishEvent (Ok tt)) (reply.NextEvent (Err no_event.WouldBlock)) = sym is ∙ w in cc)

  finishes_refused : (s mid : SessionState Script U) (event : OpenEvent) (u : Option U) (e : FinishRefused U) → FinishesEvent s event u (Err e) mid → mid ≡ s
  finishes_refused s mid event u e (inl (is, same)) = absurd (true≢false (sym (ap is_ok is)))
  finishes_refused s mid event u e (inr (notes, (is, same))) = same

  refused_same : (s mid : SessionState Script U) (u : Option U) (e : FinishRefused U) → Finishes s u (Err e) mid → mid ≡ s
  refused_same s mid u e h = grind (arith, both_option, refusal, finishes_refused)

  arrive_not_refused : (e : ArriveError) → ◌≡◌ {A = Reply U} (reply.Arrive (Err e)) (reply.Arrive (Ok tt)) → ⊥
  arrive_not_refused e same = cc

  step_acts : (s mid : SessionState Script U) (call : Step U) (answer : Reply U) → StepOf s call answer false mid → IsHeard call answer → Tidy (core_of s) → Acts s call answer mid
  step_acts s mid (step.Arrive bytes tokens) answer (Ok u, is, unasked, h) (some, is') tidy =
      acts_arrived s mid (step.Arrive bytes tokens) answer (Ok (record { bytes = bytes.items; tokens = tokens.items })) some (ap reader_state_of h.1) tidy refl refl (ap events_by is)
      (λ w. let e : ◌≡◌ {A = Reply U} (reply.Arrive (Ok u)) (reply.NextEvent (Err no_event.WouldBlock)) = sym is ∙ w in cc)
  step_acts s mid (step.Arrive bytes tokens) answer (Err e, is, unasked, h) (some, is') tidy = absurd (arrive_not_refused e (sym is ∙ is'))
  step_acts s mid (step.ArriveFault f) answer (Ok u, is, unasked, h) blocked tidy =
      acts_arrived s mid (step.ArriveFault f) answer (Err f) blocked (ap reader_state_of h) tidy refl refl (ap events_by is)
      (λ w. let e : ◌≡◌ {A = Reply U} (reply.ArriveFault (Ok u)) (reply.NextEvent (Err no_event.WouldBlock)) = sym is ∙ w in cc)
  step_acts s mid (step.ArriveFault f) answer (Err e, is, unasked, h) blocked tidy = absurd (true≢false (sym unasked))
  step_acts s mid step.NextEvent answer (r, is, h) heard tidy = reading_acts s mid r answer is h tidy
  step_acts s mid (step.FinishEvent u) answer (Ok tt, is, unasked, h) heard tidy = finish_acts s mid u answer is h tidy
  step_acts s mid (step.FinishEvent u) answer (Err e, is, unasked, h) heard tidy = grind (arith, refused_same, if_accepted, events_by)
  step_acts s mid _ answer h heard tidy = absurd heard

  -- ---- a run

  record RunActs (s : SessionState Script U) (run : List (Entry U)) (after : SessionState Script U) : Type 0 where
    acts : List (Act SessionMessage (Option U))
    does : DoesAll client (reader_state_of s) acts (reader_state_of after)
    came_in : act_arrived acts ≡ arrived run
    ended_with : act_ended acts ≡ finished run
    handed_out : given_in acts ≡ events_of run
    waits : EndsWaiting run → (before : List (Act SessionMessage (Option U))) → ActsEndWaiting (before ++ acts)

  run_joins : (s mid after : SessionState Script U) (x : Entry U) (run : List (Entry U)) (first : Acts s x.step x.answer mid) (others : RunActs mid run after)
      → (EndsWaiting (x ∷ run) → (before : List (Act SessionMessage (Option U))) → ActsEndWaiting (before ++ (first.acts ++ others.acts))) → RunActs s (x ∷ run) after
  run_joins s mid after x run first others waits = grind (arith, does_joins, client, reader_state_of, arrived-append, ap₂, joined, ended-append, given_in-append)

  run_acts : (s after : SessionState Script U) (run : List (Entry U)) → Leads s run after → AllHeard run → Tidy (core_of s) → RunActs s run after
  run_acts s after [] same heard tidy = grind (arith, reader_state_of)
  run_acts s after (x ∷ []) (mid, by, leads) (unasked, heard, others) tidy =
      let first = step_acts s mid x.step x.answer (subst (λ (b : Bool). StepOf s x.step x.answer b mid) unasked by) heard tidy in
      let last : RunActs mid [] after = record { acts = []; does = ap reader_state_of leads; came_in = refl; ended_with = refl; handed_out = refl; waits = λ none. absurd none } in
      run_joins s mid after x [] first last
      (λ w before. subst (λ (list : List (Act SessionMessage (Option U))). ActsEndWaiting (before ++ list)) (sym (append-nil first.acts)) (first.waits w before))
  run_acts s after (x ∷ (y ∷ run)) (mid, by, leads) (unasked, heard, others) tidy =
      let first = step_acts s mid x.step x.answer (subst (λ (b : Bool). StepOf s x.step x.answer b mid) unasked by) heard tidy in
      let rest = run_acts mid after (y ∷ run) leads others first.tidy in
      run_joins s mid after x (y ∷ run) first rest
      (λ w before. subst ActsEndWaiting (append_assoc before first.acts rest.acts) (rest.waits w (before ++ first.acts)))

  -- ---- the law

  ends_by_pipe : EndsByPipe (client {U = U})
  ends_by_pipe = record { blocks = λ c. refl; over = λ c. (refl, λ u. refl) }

  act_stretch : (before after : SessionState Script U) (run : List (Entry U)) → IsStretch before run after → (r : RunActs before run after)
      → IsActStretch client (reader_state_of before) r.acts (reader_state_of after)
  act_stretch before after run stretch r = record {
    spans = record { does = r.does; pieces = stretch.spans.pieces; ends = ends stretch.spans.ends };
    roomy = λ core ended. absurd (stretch.roomy (ap (λ (c : Core U). c.error) ended.0));
  }
    where
      ends : (reads_on (core_of after) ≡ false) ⊎ (EndsWaiting run × (arrivals_of (reader_state_of after) ≡ []))
          → (reads_on (core_of after) ≡ false) ⊎ (ActsEndWaiting r.acts × (arrivals_of (reader_state_of after) ≡ []))
      ends (inl off) = inl off
      ends (inr (waiting, none)) = inr (r.waits waiting [], none)

  -- no receive of a stretch of such messages finds the storage full
  pub within_stretch : (before after : SessionState Script U) (run : List (Entry U)) → Leads before run after → IsStretchWithin before run after → IsStretch before run after
  within_stretch before after run leads stretch =
      let r = run_acts before after run leads stretch.spans.heard (inl stretch.spans.live) in
      let within = subst (λ (q : Queue). EachWithin (incoming_limit before.link.limit) (joined before.link.incoming (joined (left_in before) q)).bytes) (sym r.came_in) stretch.within in
      let fits = front_fits client (reader_state_of before) (reader_state_of after) r.acts r.does within in
      record {
        spans = stretch.spans;
        roomy = acts_keep client ends_by_pipe NotEndedByPipe (fed_keeps ScriptSends ScriptReceives) (end_keeps ScriptSends ScriptReceives) (reader_state_of before) (reader_state_of after) r.acts r.does
            stretch.spans.pieces (λ core ended. inr (fits, in_time core ended.0)) (λ ended. true≢false (ap is_none (sym stretch.spans.live ∙ ended)));
      }
    where
      in_time : (core : Core U) → core_of after ≡ faulted core fault.Pipe
          → ReadOne (λ sender opcode found. found ≡ signature_by core.passes_over core.table core.store sender opcode) after.link (Err parse.MissingFD) after.link → ⊥
      in_time core is late = grind (arith, signature_by)

  pub stretch_served : (before after : SessionState Script U) (run : List (Entry U)) → Leads before run after → IsStretch before run after → IsRunServed before run after
  stretch_served before after run leads stretch =
      let r = run_acts before after run leads stretch.spans.heard (inl stretch.spans.live) in
      let served = acts_served client ends_by_pipe (reader_state_of before) (reader_state_of after) r.acts (act_stretch before after run stretch r) in
      let side = sending_side before.link.transport in
      let end = state_as (reader_state_of after) (left_in after) (sending_side after.link.transport) in
      let a = subst (λ (q : Queue). Served ScriptSends client (reader_state_of before) (joined (left_in before) q) side (act_ended r.acts) (given_in r.acts) end) r.came_in served in
      let b = subst (λ (us : List (Option U)). Served ScriptSends client (reader_state_of before) (joined (left_in before) (arrived run)) side us (given_in r.acts) end) r.ended_with a in
      subst (λ (g : List (Given SessionMessage)). Served ScriptSends client (reader_state_of before) (joined (left_in before) (arrived run)) side (finished run) g end) r.handed_out b

  -- so two runs over which the same arrives and is finished hand out the same, and lead to the same, however it was cut
  pub cut_otherwise : (before after other : SessionState Script U) (run others : List (Entry U)) → Leads before run after → Leads before others other
      → IsStretch before run after → IsStretch before others other → arrived run ≡ arrived others → finished run ≡ finished others
      → (events_of run ≡ events_of others) × SameLeft after other
  cut_otherwise before after other run others leads leads' stretch stretch' came ended =
      let r = run_acts before after run leads stretch.spans.heard (inl stretch.spans.live) in
      let q = run_acts before other others leads' stretch'.spans.heard (inl stretch'.spans.live) in
      let same = acts_cut_otherwise client ends_by_pipe (reader_state_of before) (reader_state_of after) (reader_state_of other) r.acts q.acts (act_stretch before after run stretch r)
      (act_stretch before other others stretch' q) (r.came_in ∙ came ∙ sym q.came_in) (r.ended_with ∙ ended ∙ sym q.ended_with) in
      (sym r.handed_out ∙ same.0 ∙ q.handed_out, same.1)

  -- so each part of a history that is a run is cut
  pub parts_cut : (begun : SessionState Script U) (deeds : List (Deed Script U)) → EachPartIsCut begun deeds
  parts_cut begun deeds earlier later run first last split before part = (stretch_served first last run part, within_stretch first last run part)
