-- A reading: what it hands out, and what the session is after it.
use Rattle.std.proofs.Common.{◌≡◌, ◌⊎◌, ℕ, Bool, true, false, List, [], ◌∷◌, ◌++◌, map, Option, None, Some, IsSome, is_none, is_some, Result, Ok, Err, ◌&&◌, MatchBool, MatchResult, refl, sym, ap, ap₂, subst, ◌∙◌, true≢false, arith}
use mathlib.Core.Logic.{inl, inr}
use Rattle.wl_wire.specs.declared.error.IoFault.{IoFault}
use Rattle.wl_wire.specs.declared.error.IoFault.TheVariants as fault
use Rattle.wl_link.proofs.Calls.Branches.{either_option}
use Rattle.wl_link.specs.Exchange.{Queue, Sending}
use Rattle.wl_link.specs.Identity.{Objects}
use Rattle.wl_link.specs.Link.{LinkState, counted_answer, count_of}
use Rattle.wl_link.specs.Puts.{lacks_memory}
use Rattle.wl_link.specs.Reader.{CarriesOut, Given, Gives, Halts, HandedOut, Handled, ReaderState, Reads, Received, Turn, Unread, Verdict, came_to, given_first, put_and_gave, stops, with_link}
use Rattle.wl_client.specs.declared.error.EventError.{EventError}
use Rattle.wl_client.specs.declared.error.WaylandError.{WaylandError}
use Rattle.wl_client.specs.declared.event.OpenEvent.{OpenEvent}
use Rattle.wl_client.specs.declared.objects.Kept.{Kept}
use Rattle.wl_client.specs.declared.event_fault.EventFault.TheVariants as wrong
use Rattle.wl_client.specs.Events.{error_of}
use Rattle.wl_client.specs.Freeing.{freed_as, freeing}
use Rattle.wl_client.specs.Handling.{Breaks, Handling, HandsOut, Swallows, handed, handling_by}
use Rattle.wl_client.specs.ObjectId.{IdParts}
use Rattle.wl_client.specs.Plain.{CanRead, EventIsOpen, HasFailed, IdsStay, KeepsRest, ReadsEvent, new_id_in}
use Rattle.wl_client.specs.Reading.{NextEvent, answered, client, core_after, event_in, faulted, freed_core, objects_in, reader_state_of, reads_on, receives_allowed, starved_to, verdict}
use Rattle.wl_client.specs.Requests.{SessionMessage}
use Rattle.wl_client.specs.Session.{Core, SessionState, core_of}
use Rattle.wl_client.proofs.Plain.Opening.{Opens, OpensIn, Stay, had_none, makes_new, opens_by}
use Rattle.wl_client.proofs.Plain.Staying.{IdsStayIn, ids_same, ids_stay_by, ids_then}

pub when_true : {P : Type 0} (Q : Type 0) (b : Bool) → b ≡ true → MatchBool b P Q → P
when_true Q true is h = h
when_true Q false is h = absurd (true≢false (sym is))

when_false : {Q : Type 0} (P : Type 0) (b : Bool) → b ≡ false → MatchBool b P Q → Q
when_false P true is h = absurd (true≢false is)
when_false P false is h = h

-- ---- what a reading comes to

module _ {U : Type 0} where
  abbrev CameTo : Core U → Option IoFault → List (Given SessionMessage) → Core U → Type 0
  CameTo c (Some fault.WouldBlock) gave d = (gave ≡ []) × CanRead d
  CameTo c (Some fault.OutOfMemory) gave d = (gave ≡ []) × CanRead d
  CameTo c (Some f) gave d = (gave ≡ []) × HasFailed d
  CameTo c None gave d = ((m : SessionMessage) × (gave ≡ HandedOut m ∷ []) × EventIsOpen c m d) ⊎ ((gave ≡ []) × HasFailed d)

  -- what was new later was new before
  opened_before : (b c d : Core U) (m : SessionMessage) → Stay b.store c.store → EventIsOpen c m d → EventIsOpen b m d
  opened_before b c d m stay o = grind (arith, new_id_in, had_none)

  came_before : (b c d : Core U) (stopped : Option IoFault) (gave : List (Given SessionMessage)) → Stay b.store c.store → CameTo c stopped gave d
      → CameTo b stopped gave d
  came_before b c d stopped gave h1 h2 = grind (arith, opened_before)

  record Ended (c : Core U) (out : Gives SessionMessage) (d : Core U) : Type 0 where
    kept : KeepsRest c d
    came : CameTo c out.stopped out.gave d

  pub live_on : (c : Core U) → CanRead c → reads_on c ≡ true
  live_on c live = ap₂ (λ (e : Option WaylandError) (o : Option OpenEvent). is_none e && is_none o) live.0 live.1

  pub failed_off : (c : Core U) → IsSome c.error → reads_on c ≡ false
  failed_off c failed = grind (arith, is_none, true≢false)

  pub opened_off : (c : Core U) (event : OpenEvent) → c.open_event ≡ Some event → reads_on c ≡ false
  opened_off c event is = grind (arith, is_none)

  -- only the error and what is open differ
  kept_so : (c d : Core U) → d ≡ record c { error = d.error; open_event = d.open_event } → KeepsRest c d
  kept_so c d is = record {
    table = ap (λ (e : Core U). e.table) is;
    notes = ap (λ (e : Core U). e.notes) is;
    passes_over = ap (λ (e : Core U). e.passes_over) is;
    keeps_freed = ap (λ (e : Core U). e.keeps_freed) is;
    ids = subst (λ (e : Core U). IdsStay (objects_in c) (objects_in e)) (sym is) (ids_same (objects_in c));
  }

  -- a receive that failed
  faulted_so : (c : Core U) → CanRead c → (f : IoFault) → CameTo c (Some f) [] (faulted c f) × KeepsRest c (faulted c f)
  faulted_so c live fault.WouldBlock = ((refl, live), kept_so c c refl)
  faulted_so c live fault.OutOfMemory = ((refl, live), kept_so c c refl)
  faulted_so c live f = ((refl, (refl, live.1)), kept_so c (faulted c f) refl)

module _ {T U : Type 0} (sends : T → Queue → Result ℕ IoFault → T → Type 0) (receives : T → ℕ → Result Queue IoFault → T → Type 0) where
  -- a reader that no longer reads on stops here
  pub stopped : (left : ℕ) (p after : ReaderState T (Core U)) (turns : List Turn) (out : Gives SessionMessage) → Reads sends client receives left p turns out after
      → reads_on p.core ≡ false → (out ≡ stops None false left) × (after ≡ p)
  stopped left p after [] out (same, ends) off = (when_false _ (reads_on p.core) off ends, same)
  stopped left p after (Received r ∷ turns) out (on, lacks, h) off = absurd (true≢false (sym on ∙ off))
  stopped left p after (Handled es ∷ turns) out (on, h) off = absurd (true≢false (sym on ∙ off))
  stopped left p after (Unread es ∷ turns) out (on, h) off = absurd (true≢false (sym on ∙ off))

  -- what a message gives, and what the core is then, with memory or without
  pub carries : (c : Core U) (h : Handling U) (link : LinkState T) (es : List Sending) (first : List (Given SessionMessage)) (lacked : Bool) (mid : ReaderState T (Core U))
      → CarriesOut sends client (verdict c h) link es first lacked mid
      → (first ≡ map HandedOut (handed h)) × ((mid.core ≡ core_after c h) ⊎ (mid.core ≡ starved_to c h))
  carries c h link es first lacked mid h1 = grind (arith, put_and_gave, handed, came_to, client, verdict)

  module _ (c : Core U) (id : Option IdParts) (live : CanRead c) (left : ℕ) (first : List (Given SessionMessage)) (lacked : Bool) (mid after : ReaderState T (Core U)) (turns : List Turn)
      (out rest : Gives SessionMessage) (split : out ≡ given_first first lacked rest) (more : Reads sends client receives left mid turns rest after)
      (again : CanRead mid.core → Ended mid.core rest after.core) where
    -- each id but those that were made names what it named
    stayed : (d : Core U) → IdsStay (objects_in c) (objects_in d) → mid.core ≡ d → IdsStay (objects_in c) (objects_in mid.core)
    stayed d ids is = subst (λ (e : Core U). IdsStay (objects_in c) (objects_in e)) (sym is) ids

    kept_as : (d : Core U) → mid.core ≡ d → d.table ≡ c.table → d.notes ≡ c.notes → d.passes_over ≡ c.passes_over → d.keeps_freed ≡ c.keeps_freed
        → IdsStay (objects_in c) (objects_in d) → KeepsRest c mid.core
    kept_as d is table notes passes keeps ids = record {
      table = ap (λ (e : Core U). e.table) is ∙ table;
      notes = ap (λ (e : Core U). e.notes) is ∙ notes;
      passes_over = ap (λ (e : Core U). e.passes_over) is ∙ passes;
      keeps_freed = ap (λ (e : Core U). e.keeps_freed) is ∙ keeps;
      ids = stayed d ids is;
    }

    -- the message did nothing more, and the reading goes on
    goes_on : (o : Objects (Kept U)) → Stay c.store o.store → IdsStay (objects_in c) o → first ≡ [] → mid.core ≡ core_after (freeing c id) (Swallows o) → Ended c out after.core
    goes_on o stay ids none is = grind (arith, given_first, ids_then, objects_in, stayed, came_before)

    -- the reading ends here
    ends_at : (gave : List (Given SessionMessage)) → first ≡ gave → reads_on mid.core ≡ false → KeepsRest c mid.core
        → CameTo c None (gave ++ []) mid.core → Ended c out after.core
    ends_at gave is off kept came = grind (arith, stopped, ap₂, given_first)

    fails : (o : Objects (Kept U)) (w : WaylandError) → IdsStay (objects_in c) o → first ≡ []
        → mid.core ≡ record (freeing c id) { store = o.store; last_serial = o.last_serial; error = Some w } → Ended c out after.core
    fails o w ids none is =
        let failed : IsSome mid.core.error = ap (λ (d : Core U). is_some d.error) is in
        ends_at [] none (failed_off mid.core failed) (kept_as _ is refl refl refl refl ids)
        (inr (refl, (failed, ap (λ (d : Core U). d.open_event) is ∙ live.1)))

    hands : (m : SessionMessage) (event : OpenEvent) (o : Objects (Kept U)) → Opens c.table c.store m event o → IdsStay (objects_in c) o → first ≡ HandedOut m ∷ []
        → mid.core ≡ record (freeing c id) { store = o.store; last_serial = o.last_serial; open_event = Some event } → Ended c out after.core
    hands m event o so ids is same =
        ends_at (HandedOut m ∷ []) is (opened_off mid.core event (ap (λ (d : Core U). d.open_event) same))
        (kept_as _ same refl refl refl refl ids)
        (inl (
          m,
          refl,
          subst (λ (d : Core U). EventIsOpen c m d) (sym same)
              (record {
                sender = so.sender;
                row = so.row;
                not_display = so.not_display;
                holds = so.holds;
                sender_is = so.sender_is;
                live = so.live;
                event = so.has;
                opened = ap Some so.event_is;
                makes = so.makes;
                made = so.made;
                error = live.0;
              }),
        ))

    handled : (h : Handling U) → OpensIn c.table c.store h → IdsStayIn (objects_in c) h → first ≡ map HandedOut (handed h)
        → (mid.core ≡ core_after (freeing c id) h) ⊎ (mid.core ≡ starved_to (freeing c id) h) → Ended c out after.core
    handled (Swallows o) so ids is (inl came) = goes_on o so ids is came
    handled (Swallows o) so ids is (inr came) = goes_on o so ids is came
    handled (HandsOut m event o) so ids is (inl came) = hands m event o so ids is came
    handled (HandsOut m event o) so ids is (inr came) = hands m event o so ids is came
    handled (Breaks e o) so ids is (inl came) = fails o _ ids is came
    handled (Breaks e o) so ids is (inr came) = fails o _ ids is came

  reads_end : (left : ℕ) (p after : ReaderState T (Core U)) (turns : List Turn) (out : Gives SessionMessage) → Reads sends client receives left p turns out after
      → CanRead p.core → Ended p.core out after.core
  reads_end left p after [] out (same, ends) live =
      subst (λ (q : ReaderState T (Core U)). Ended p.core out q.core) (sym same) (halts (when_true _ (reads_on p.core) (live_on p.core live) ends))
    where
      blocks : (n : ℕ) → out ≡ stops (Some fault.WouldBlock) false n → Ended p.core out p.core
      blocks n is = subst (λ (g : Gives SessionMessage). Ended p.core g p.core) (sym is) (record { kept = kept_so p.core p.core refl; came = (refl, live) })

      starves : (n : ℕ) → out ≡ stops (Some fault.OutOfMemory) true n → Ended p.core out p.core
      starves n is = subst (λ (g : Gives SessionMessage). Ended p.core g p.core) (sym is) (record { kept = kept_so p.core p.core refl; came = (refl, live) })

      halts : Halts sends client left p out → Ended p.core out p.core
      halts h1 = grind (arith, blocks, starves)
  reads_end left p after (Received r ∷ turns) out (on, lacks, (n, is, (link, filled, finds, h))) live =
      go (counted_answer (count_of r)) h (λ more. reads_end n (with_link p link) after turns out more live)
    where
      go : (r : Result (Unit {0}) IoFault)
          → MatchResult r (λ _. Reads sends client receives n (with_link p link) turns out after)
          (λ f. (turns ≡ []) × (out ≡ stops (Some f) (lacks_memory (Err f)) n) × (after ≡ record { core = client.faulted p.core f; link = link }))
          → (Reads sends client receives n (with_link p link) turns out after → Ended p.core out after.core) → Ended p.core out after.core
      go (Ok u) more goes = goes more
      go (Err f) (none, out_is, same) goes =
          let so = faulted_so p.core live f in
          subst (λ (q : ReaderState T (Core U)). Ended p.core out q.core) (sym same)
          (subst (λ (g : Gives SessionMessage). Ended p.core g (faulted p.core f)) (sym out_is) (record { kept = so.1; came = so.0 }))
  reads_end left p after (Handled es ∷ turns) out (on, (v, link, first, lacked, mid, rest, (m, read, is), carried, split, more)) live =
      let h = handling_by p.core.passes_over p.core.table (objects_in p.core) m in
      let so = carries (freed_core p.core m h) h link es first lacked mid (subst (λ (w : Verdict (Core U) SessionMessage). CarriesOut sends client w link es first lacked mid) is carried) in
      handled p.core (freed_as p.core.passes_over p.core.table (objects_in p.core) m h) live left first lacked mid after turns out rest split more (λ on. reads_end left mid after turns rest more on) h
      (opens_by p.core.table (objects_in p.core) m (makes_new sends p m link read) p.core.passes_over) (ids_stay_by p.core.table (objects_in p.core) m p.core.passes_over) so.0 so.1
  reads_end left p after (Unread es ∷ turns) out (on, (v, link, first, lacked, mid, rest, (read, same, is), carried, split, more)) live =
      let h : Handling U = Breaks (error_of p.core.table wrong.Malformed) (objects_in p.core) in
      let so = carries p.core h link es first lacked mid (subst (λ (w : Verdict (Core U) SessionMessage). CarriesOut sends client w link es first lacked mid) is carried) in
      handled p.core None live left first lacked mid after turns out rest split more (λ on. reads_end left mid after turns rest more on) h tt (ids_same (objects_in p.core)) so.0 so.1

  -- the answer, by how the reading ended
  answers_so : (s after : SessionState T U) → CanRead (core_of s) → KeepsRest (core_of s) (core_of after) → (stopped : Option IoFault) (gave : List (Given SessionMessage))
      → CameTo (core_of s) stopped gave (core_of after) → ReadsEvent s (answered stopped gave) after
  answers_so s after h1 h2 stopped gave h3 = grind (arith, event_in)

  pub reads_event : (s : SessionState T U) (answer : Result SessionMessage EventError) (refused : Bool) (after : SessionState T U)
      → NextEvent sends receives s answer refused after → ReadsEvent s answer after
  reads_event s answer refused after h = grind (arith, either_option, is_some, reads_end, receives_allowed, reader_state_of, answers_so)
