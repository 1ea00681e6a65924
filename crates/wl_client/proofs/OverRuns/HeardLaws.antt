-- That it does not matter to a part of a history over any transport how bytes and tokens are cut.
use Rattle.std.proofs.Common.{◌≡◌, ◌⊎◌, ℕ, Bool, false, List, [], ◌∷◌, ◌++◌, Option, None, IsSome, is_some, Result, Ok, Err, append_assoc, refl, sym, ap, subst, ◌∙◌, true≢false, arith}
use mathlib.Core.Logic.{inl, inr}
use Rattle.wl_wire.specs.declared.error.IoFault.{IoFault}
use Rattle.wl_link.proofs.Calls.Branches.{both_option}
use Rattle.wl_link.proofs.Calls.QueueLaws.{joined_assoc}
use Rattle.wl_link.specs.Exchange.{Queue, joined, nothing}
use Rattle.wl_link.specs.Reader.{AllFed, Given, Handled, ReaderState, Received, Turn, Unread, came_by, received_in}
use Rattle.wl_link.specs.Served.{Served}
use Rattle.wl_client.specs.declared.error.EventError.{EventError}
use Rattle.wl_client.specs.declared.error.EventError.TheVariants as no_event
use Rattle.wl_client.specs.declared.error.FinishRefused.{FinishRefused}
use Rattle.wl_client.specs.declared.step.Reply.{Reply}
use Rattle.wl_client.specs.declared.step.Reply.TheVariants as reply
use Rattle.wl_client.specs.declared.step.Step.{Step}
use Rattle.wl_client.specs.declared.step.Step.TheVariants as step
use Rattle.wl_client.specs.Cutting.{GoesOn, no_sends}
use Rattle.wl_client.specs.Finish.{Finishes}
use Rattle.wl_client.specs.Heard.{AllHeard, Hears, IsHeard, IsOfEvents, ReadTurns, TurnsOf, TurnsOfStep, events_in, events_in_deed, finished_in, finished_in_deed}
use Rattle.wl_client.specs.Histories.{Called, Changed, Deed, Does, Grown, History}
use Rattle.wl_client.specs.Plain.{ReadsEvent}
use Rattle.wl_client.specs.Reading.{NextEvent, client, event_content, handed_by, reader_state_of, receives_allowed}
use Rattle.wl_client.specs.Requests.{SessionMessage}
use Rattle.wl_client.specs.Session.{Core, SessionState}
use Rattle.wl_client.specs.Steps.{CallOf}
use Rattle.wl_client.specs.Stretches.{events_by, finished_by}
use Rattle.wl_client.proofs.OverRuns.ReadingLaws.{finish_cuts, reading_cuts}
use Rattle.wl_client.proofs.Plain.Finishing.{ends_event}
use Rattle.wl_client.proofs.Plain.Reading.{reads_event}

-- ---- turns

fed_parts : (turns others : List Turn) → AllFed (turns ++ others) → AllFed turns × AllFed others
fed_parts [] others fed = (tt, fed)
fed_parts (Received r ∷ turns) others fed = let parts = fed_parts turns others fed.1 in ((fed.0, parts.0), parts.1)
fed_parts (Handled es ∷ turns) others fed = fed_parts turns others fed
fed_parts (Unread es ∷ turns) others fed = fed_parts turns others fed

received_both : (turns others : List Turn) → received_in (turns ++ others) ≡ joined (received_in turns) (received_in others)
received_both [] others = refl
received_both (Received r ∷ turns) others =
    ap (joined (came_by r)) (received_both turns others) ∙ sym (joined_assoc (came_by r) (received_in turns) (received_in others))
received_both (Handled es ∷ turns) others = received_both turns others
received_both (Unread es ∷ turns) others = received_both turns others

-- ---- what goes on

module _ {T U : Type 0} where
  -- where nothing came and nothing was handed out
  goes_nowhere : (p : ReaderState T (Core U)) (finishes : List (Option U)) → GoesOn p nothing finishes [] p finishes
  goes_nowhere p finishes rest first later all end chain = grind (arith, no_sends, client)

  -- one part behind another
  goes_both : (a b c : ReaderState T (Core U)) (x y : Queue) (f g h : List (Option U)) (p q : List (Given SessionMessage)) → GoesOn a x f p b g → GoesOn b y g q c h
      → GoesOn a (joined x y) f (p ++ q) c h
  goes_both a b c x y f g h p q one two rest first later all end chain = (there, back)
    where
      there : Served no_sends client a (joined (joined x y) rest) first f all end
          → (others : List (Given SessionMessage)) × (all ≡ (p ++ q) ++ others) × Served no_sends client c rest later h others end
      there served =
          let (mid, is, s) = (one (joined y rest) first first all end refl).0
          (subst (λ (w : Queue). Served no_sends client a w first f all end) (joined_assoc x y rest) served) in
          let (last, is', s') = (two rest first later mid end chain).0 s in
          (last, is ∙ ap (λ (l : List (Given SessionMessage)). p ++ l) is' ∙ sym (append_assoc p q last), s')

      back : ((others : List (Given SessionMessage)) × (all ≡ (p ++ q) ++ others) × Served no_sends client c rest later h others end)
          → Served no_sends client a (joined (joined x y) rest) first f all end
      back (last, is, s) =
          subst (λ (w : Queue). Served no_sends client a w first f all end) (sym (joined_assoc x y rest))
          ((one (joined y rest) first first all end refl).1
          (q ++ last, is ∙ append_assoc p q last, (two rest first later (q ++ last) end chain).1 (last, refl, s)))

-- ---- a deed

module _ {T U : Type 0} (sends : T → Queue → Result ℕ IoFault → T → Type 0) (receives : T → ℕ → Result Queue IoFault → T → Type 0) where
  -- a session without an error, or with one and no open event
  abbrev IsCalm : SessionState T U → Type 0
  IsCalm s = (s.error ≡ None) ⊎ (IsSome s.error × (s.open_event ≡ None))

  record GoesOnBy (before : SessionState T U) (turns : List Turn) (ended : List (Option U)) (gave : List (Given SessionMessage)) (after : SessionState T U) : Type 0 where
    goes : (finishes : List (Option U)) → GoesOn (reader_state_of before) (received_in turns) (ended ++ finishes) gave (reader_state_of after) finishes
    calm : IsCalm after

  stays : (before after : SessionState T U) (turns : List Turn) → IsCalm before → turns ≡ [] → after ≡ before → GoesOnBy before turns [] [] after
  stays before after turns calm none same = grind (arith, goes_nowhere, reader_state_of)

  read_calm : (before after : SessionState T U) (answer : Result SessionMessage EventError) → IsCalm before → ReadsEvent before answer after → IsCalm after
  read_calm before after answer h1 h2 = grind (arith)

  read_goes : (before after : SessionState T U) (answer : Result SessionMessage EventError) (refused : Bool) (turns : List Turn) → IsCalm before
      → NextEvent sends receives before answer refused after → ReadTurns sends receives before (handed_by answer) turns after → AllFed turns
      → GoesOnBy before turns [] (handed_by answer) after
  read_goes before after answer refused turns calm h of_one fed =
      elim (both_option before.error h of_one) [
        | inr (e, some, (is, unasked, same), none) ↦ quiet no_event.Failed is none same
        | inl (live, p, q) ↦
            elim (both_option before.open_event p q) [
              | inr (event, some, (is, unasked, same), none) ↦ quiet no_event.EventOpen is none same
              | inl (unopened, reads_to, (out, reads, gave, ample)) ↦ record {
                goes = λ finishes.
                    subst (λ (g : List (Given SessionMessage)). GoesOn (reader_state_of before) (received_in turns) finishes g (reader_state_of after) finishes) gave
                    (reading_cuts sends receives receives_allowed (reader_state_of before) (reader_state_of after) turns out reads fed ample finishes);
                calm = read_calm before after answer calm (reads_event sends receives before answer refused after h);
              }
            ]
      ]
    where
      quiet : (e : EventError) → answer ≡ Err e → turns ≡ [] → after ≡ before → GoesOnBy before turns [] (handed_by answer) after
      quiet e is none same =
          subst (λ (a : Result SessionMessage EventError). GoesOnBy before turns [] (handed_by a) after) (sym is) (stays before after turns calm none same)

  finish_goes : (before after : SessionState T U) (u : Option U) (answer : Result (Unit {0}) (FinishRefused U)) (turns : List Turn) → IsCalm before → Finishes before u answer after
      → turns ≡ [] → GoesOnBy before turns (finished_by (step.FinishEvent u) (reply.FinishEvent answer)) [] after
  finish_goes before after u (Err e) turns calm h none = stays before after turns calm none (ends_event before u (Err e) after h).1
  finish_goes before after u (Ok done) turns (inr (failed, unopened)) h none = grind (arith, ends_event, true≢false, is_some)
  finish_goes before after u (Ok done) turns (inl live) h none =
      let (event, ended) = ends_event before u (Ok done) after h in
      subst (λ (ts : List Turn). GoesOnBy before ts (u ∷ []) [] after) (sym none)
      (record {
        goes = λ finishes. finish_cuts before u (Ok done) after h live refl finishes;
        calm = inl (ended.error ∙ live);
      })

  deed_goes : (before after : SessionState T U) (d : Deed T U) (turns : List Turn) → IsCalm before → IsHeard d → Does (CallOf sends receives) before d after
      → TurnsOf sends receives before d turns after → AllFed turns → GoesOnBy before turns (finished_in_deed d) (events_in_deed d) after
  deed_goes before after (Changed t) turns calm is same none fed = grind (arith, goes_nowhere, reader_state_of)
  deed_goes before after (Grown rows answer) turns calm is does none fed = absurd is
  deed_goes before after (Called e) turns calm (ample, is) does of_one fed = by_step e.step is does of_one
    where
      by_step : (s : Step U) → IsOfEvents s → CallOf sends receives before s e.answer e.refused after
          → TurnsOfStep sends receives before s (events_by e.answer) turns after → GoesOnBy before turns (finished_by s e.answer) (events_by e.answer) after
      by_step step.NextEvent is (r, answer, h) of_one =
          subst (λ (a : Reply U). GoesOnBy before turns [] (events_by a) after) (sym answer)
          (read_goes before after (event_content r) e.refused turns calm h
          (subst (λ (a : Reply U). ReadTurns sends receives before (events_by a) turns after) answer of_one) fed)
      by_step (step.FinishEvent u) is (r, answer, no_memory, h) none = grind (arith, finished_by, events_by, finish_goes)
      by_step _ is does of_one = absurd is

  -- ---- a part of a history

  part_goes : (before after : SessionState T U) (deeds : List (Deed T U)) (turns : List Turn) → IsCalm before → AllHeard deeds → Hears sends receives before deeds turns after
      → AllFed turns → (finishes : List (Option U))
      → GoesOn (reader_state_of before) (received_in turns) (finished_in deeds ++ finishes) (events_in deeds) (reader_state_of after) finishes
  part_goes before after [] turns calm all (none, same) fed finishes = (stays before after turns calm none same).goes finishes
  part_goes before after (d ∷ deeds) turns calm (is, all) (mid, first, rest, split, does, of_one, hears) fed finishes =
      let parts = fed_parts first rest (subst AllFed split fed) in
      let one = deed_goes before mid d first calm is does of_one parts.0 in
      let more = part_goes mid after deeds rest one.calm all hears parts.1 finishes in
      subst (λ (q : Queue). GoesOn (reader_state_of before) q (finished_in (d ∷ deeds) ++ finishes) (events_in (d ∷ deeds)) (reader_state_of after) finishes)
      (sym (ap received_in split ∙ received_both first rest))
      (subst
      (λ (us : List (Option U)).
      GoesOn (reader_state_of before) (joined (received_in first) (received_in rest)) us (events_in_deed d ++ events_in deeds) (reader_state_of after) finishes)
      (sym (append_assoc (finished_in_deed d) (finished_in deeds) finishes))
      (goes_both (reader_state_of before) (reader_state_of mid) (reader_state_of after) (received_in first) (received_in rest)
      (finished_in_deed d ++ (finished_in deeds ++ finishes)) (finished_in deeds ++ finishes) finishes (events_in_deed d) (events_in deeds)
      (one.goes (finished_in deeds ++ finishes)) more))

  pub history_cuts : (before after : SessionState T U) (deeds : List (Deed T U)) (turns : List Turn) → before.error ≡ None → AllHeard deeds
      → Hears sends receives before deeds turns after → AllFed turns → (finishes : List (Option U))
      → GoesOn (reader_state_of before) (received_in turns) (finished_in deeds ++ finishes) (events_in deeds) (reader_state_of after) finishes
  history_cuts before after deeds turns live all hears fed finishes = part_goes before after deeds turns (inl live) all hears fed finishes

  -- ---- its turns

  read_turns : (before after : SessionState T U) (answer : Result SessionMessage EventError) → NextEvent sends receives before answer false after
      → (turns : List Turn) × ReadTurns sends receives before (handed_by answer) turns after
  read_turns before after answer h = grind (arith, client, receives_allowed, reader_state_of, handed_by)

  deed_turns : (before after : SessionState T U) (d : Deed T U) → IsHeard d → Does (CallOf sends receives) before d after
      → (turns : List Turn) × TurnsOf sends receives before d turns after
  deed_turns before after d h1 h2 = grind (arith, events_by, read_turns, event_content)

  pub history_heard : (before after : SessionState T U) (deeds : List (Deed T U)) → History (CallOf sends receives) before deeds after → AllHeard deeds
      → (turns : List Turn) × Hears sends receives before deeds turns after
  history_heard before after [] same all = ([], (refl, same))
  history_heard before after (d ∷ deeds) (mid, does, leads) (is, all) =
      let (first, of_one) = deed_turns before mid d is does in
      let (rest, hears) = history_heard mid after deeds leads all in
      (first ++ rest, (mid, first, rest, refl, does, of_one, hears))
