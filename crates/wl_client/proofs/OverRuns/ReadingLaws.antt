-- What follows for a client from the laws of a reader: that its reading has one outcome, and that it does not matter to
-- it how bytes and tokens are cut.
use Rattle.std.proofs.Common.{◌≡◌, ℕ, Bool, true, false, cond, List, [], ◌∷◌, ◌++◌, Option, None, Some, IsSome, is_none, is_some, is_ok, Result, Ok, Err, ◌&&◌, map, MatchResult, refl, sym, ap, ap₂, subst, ◌∙◌, true≢false, arith}
use mathlib.Core.Logic.{inl, inr}
use Rattle.std.proofs.lemmas.Option.{same_Some}
use Rattle.wl_wire.specs.declared.error.IoFault.{IoFault}
use Rattle.wl_wire.specs.Message.{WireMessage}
use Rattle.wl_link.specs.Exchange.{Queue, Sending, IsFunction, IsReceiveFunction}
use Rattle.wl_link.specs.Link.{LinkState, counted_answer, count_of}
use Rattle.wl_link.proofs.Calls.Branches.{both_option}
use Rattle.wl_link.specs.Puts.{Said, lacks_memory}
use Rattle.wl_link.specs.Reader.{AllFed, CarriesOut, Ends, Given, Gives, HandedOut, Handled, ReaderState, Reads, Received, Turn, Unread, Verdict, received_in, came_to as comes_to, put_and_gave, sends_in, stops, with_link}
use Rattle.wl_link.proofs.Readings.ReaderLaws.{reads_one}
use Rattle.wl_link.specs.Respect.{Keeps, RespectsReading}
use Rattle.wl_link.proofs.Readings.RespectLaws.{reads_respect}
use Rattle.wl_link.specs.Served.{GoesOnAs, state_as}
use Rattle.wl_link.proofs.Readings.ServedLaws.{served_one}
use Rattle.wl_link.specs.Total.{AlwaysGoesOn}
use Rattle.wl_link.proofs.Readings.TotalLaws.{always_served, carried_at_once}
use Rattle.wl_link.proofs.Readings.CuttingLaws.{finish_law, reading_law}
use Rattle.wl_client.specs.declared.error.EventError.{EventError}
use Rattle.wl_client.specs.declared.error.EventError.TheVariants as no_event
use Rattle.wl_client.specs.declared.error.FinishError.{FinishError}
use Rattle.wl_client.specs.declared.error.FinishRefused.{FinishRefused}
use Rattle.wl_client.specs.declared.error.WaylandError.{WaylandError}
use Rattle.wl_client.specs.declared.event_fault.EventFault.TheVariants as wrong
use Rattle.wl_client.specs.declared.event.OpenEvent.{OpenEvent}
use Rattle.wl_client.specs.declared.step.Reply.{Reply}
use Rattle.wl_client.specs.declared.step.Step.{Step}
use Rattle.wl_client.specs.declared.step.Step.TheVariants as step
use Rattle.wl_client.specs.Cutting.{CutsFinish, CutsReading, GoesOn, IsCut, IsServed, no_sends}
use Rattle.wl_client.specs.Events.{error_of}
use Rattle.wl_client.specs.Handling.{Handling, Swallows, HandsOut, Breaks, handed, handling_by, objects_after}
use Rattle.wl_client.specs.Finish.{FinishesEvent, Finishes, core_finished, refusal}
use Rattle.wl_client.specs.Freeing.{freed_as, freeing, with_freed}
use Rattle.wl_client.specs.ObjectId.{IdParts}
use Rattle.wl_client.specs.Reading.{NextEvent, answered, core_after, client, event_content, faulted, finish, finish_verdict, handed_by, objects_in, reader_state_of, receives_allowed, starved_to, verdict}
use Rattle.wl_client.specs.Requests.{SessionMessage}
use Rattle.wl_client.specs.Session.{Core, SessionState, core_of, with_core}
use Rattle.wl_client.specs.Steps.{CallOf}
use Rattle.wl_link.specs.Identity.{Objects}
use Rattle.wl_client.specs.declared.objects.Kept.{Kept}

abbrev session_of : {T U : Type 0} → ReaderState T (Core U) → SessionState T U
session_of p = record {
  table = p.core.table;
  link = p.link;
  store = p.core.store;
  last_serial = p.core.last_serial;
  error = p.core.error;
  open_event = p.core.open_event;
  notes = p.core.notes;
  passes_over = p.core.passes_over;
  keeps_freed = p.core.keeps_freed;
  freed = p.core.freed;
}

-- ---- one look at what two outcomes share

-- the answers and the values of two outcomes are the same
pub record SameEnd {A T U : Type 0} (a b : A) (x y : SessionState T U) : Type 0 where
  pub answer : a ≡ b
  pub after : x ≡ y

pub same_end : {A T U : Type 0} {a b c : A} {x y z : SessionState T U} → a ≡ c → b ≡ c → x ≡ z → y ≡ z → SameEnd a b x y
same_end is is' same same' = record { answer = is ∙ sym is'; after = same ∙ sym same' }

pub has_none : {A : Type 0} (o : Option A) → IsSome o → o ≡ None → ⊥
has_none o some none = true≢false (sym some ∙ ap is_some none)

-- ---- a reading

none_sent : {S : Type 0} → IsFunction (no_sends {S = S})
none_sent before offer one two after after' sent sent' ok ok' = absurd sent

module _ {T U : Type 0} (sends : T → Queue → Result ℕ IoFault → T → Type 0) (receives : T → ℕ → Result Queue IoFault → T → Type 0) where
  pub next_event_one : IsFunction sends → IsReceiveFunction receives → (a b : Result SessionMessage EventError) (x y s : SessionState T U)
      → NextEvent sends receives s a false x → NextEvent sends receives s b false y → SameEnd a b x y
  next_event_one sent function a b x y s h g =
      elim (both_option s.error h g) [
        | inr (e, some, (is, unasked, same), (is', unasked', same')) ↦ same_end is is' same same'
        | inl (none, p, q) ↦
            elim (both_option s.open_event p q) [
              | inr (event, some, (is, unasked, same), (is', unasked', same')) ↦ same_end is is' same same'
              | inl (unopened, (turns, out, reads, is, gave, calm), (turns', out', reads', is', gave', calm')) ↦
                  let one = reads_one sends sent receives function client receives_allowed (reader_state_of s) (reader_state_of x) (reader_state_of y) turns turns' out out' (sym calm) (sym calm') reads reads' in
                  record { answer = is ∙ ap (λ (o : Gives SessionMessage). answered o.stopped o.gave) one.out ∙ sym is'; after = ap session_of one.after }
            ]
      ]

  -- a stored error is answered, and nothing is changed
  pub read_fails : (s : SessionState T U) (answer : Result SessionMessage EventError) (refused : Bool) (after : SessionState T U)
      → IsSome s.error → NextEvent sends receives s answer refused after → (answer ≡ Err no_event.Failed) × (after ≡ s)
  read_fails s answer refused after failed h = grind (arith, both_option, has_none)

  silent : (v : Verdict (Core U) SessionMessage) (before : LinkState T) (es : List Sending) (gave : List (Given SessionMessage)) (refused : Bool) (after : ReaderState T (Core U))
      → v.puts ≡ [] → v.flushes ≡ false → CarriesOut sends client v before es gave refused after → es ≡ []
  silent v before es gave refused after h1 h2 h3 = grind (arith, ap₂)

  -- a client sends nothing while it reads
  sends_nothing : (left : ℕ) (p after : ReaderState T (Core U)) (turns : List Turn) (out : Gives SessionMessage) → Reads sends client receives left p turns out after → sends_in turns ≡ []
  sends_nothing left p after [] out (same, ends) = refl
  sends_nothing left p after (Received r ∷ turns) out (on, lacks, (n, is, (link, filled, finds, h))) =
      go (counted_answer (count_of r)) h (λ more. sends_nothing n (with_link p link) after turns out more)
    where
      go : (c : Result (Unit {0}) IoFault)
          → MatchResult c (λ _. Reads sends client receives n (with_link p link) turns out after)
          (λ f. (turns ≡ []) × (out ≡ stops (Some f) (lacks_memory (Err f)) n) × (after ≡ record { core = client.faulted p.core f; link = link }))
          → (Reads sends client receives n (with_link p link) turns out after → sends_in turns ≡ []) → sends_in turns ≡ []
      go (Ok u) more goes = goes more
      go (Err f) (none, ends, same) goes = ap sends_in none
  sends_nothing left p after (Handled es ∷ turns) out (on, (v, link, first, lacked, mid, rest, (m, read, is), carried, split, more)) = grind (arith, ap₂, silent, sends_nothing left mid after turns rest more)
  sends_nothing left p after (Unread es ∷ turns) out (on, (v, link, first, lacked, mid, rest, (read, same, is), carried, split, more)) = grind (arith, ap₂, silent, sends_nothing left mid after turns rest more)

  -- a reading that was fed goes on as what came does
  pub reading_cuts : (left : ℕ) (p after : ReaderState T (Core U)) (turns : List Turn) (out : Gives SessionMessage) → Reads sends client receives left p turns out after
      → AllFed turns → out.refused ≡ false → (finishes : List (Option U)) → GoesOn p (received_in turns) finishes out.gave after finishes
  reading_cuts left p after turns out reads fed ample finishes =
      subst (λ es. GoesOnAs (no_sends {S = Unit {0}}) client p (received_in turns) es finishes out.gave after finishes)
      (sends_nothing left p after turns out reads)
      (reading_law sends receives no_sends client none_sent (λ c. refl) left p after turns out reads fed ample finishes)

  pub next_event_cuts : (s : SessionState T U) (answer : Result SessionMessage EventError) (refused : Bool) (after : SessionState T U)
      → NextEvent sends receives s answer refused after → CutsReading sends receives s answer refused after
  next_event_cuts s answer refused after h live unopened ample =
      elim (both_option s.error h h) [
        | inr (e, some, p, q) ↦ absurd (true≢false (ap is_none (sym live ∙ some)))
        | inl (none, p, q) ↦
            elim (both_option s.open_event p q) [
              | inr (event, some, p', q') ↦ absurd (true≢false (ap is_none (sym unopened ∙ some)))
              | inl (none_open, (turns, out, reads, is, gave, calm), again) ↦ (
                turns,
                out,
                reads,
                is,
                λ fed finishes. subst (λ (g : List (Given SessionMessage)). GoesOn (reader_state_of s) (received_in turns) finishes g (reader_state_of after) finishes) gave
                    (reading_cuts receives_allowed (reader_state_of s) (reader_state_of after) turns out reads fed (sym calm ∙ ample) finishes),
              )
            ]
      ]

-- ---- what a reading respects

abbrev is_nil : List Said → Bool
is_nil [] = true
is_nil (m ∷ ms) = false

none_some : {A : Type 0} (x : A) → None ≡ Some x → ⊥
none_some x same = true≢false (ap is_none same)

none_put : (put others : List Said) → [] ≡ put ++ others → put ≡ []
none_put [] others same = refl
none_put (m ∷ put) others same = absurd (true≢false (ap is_nil same))

module _ {U : Type 0} (R : Core U → List (Given SessionMessage) → Core U → Type 0) where
  -- the core has these objects, the same notes, and the ids that waited before, with that of an object that left its number
  abbrev pub Follows : Core U → Objects (Kept U) → Option IdParts → Core U → Type 0
  Follows c o id d = (objects_in d ≡ o) × (d.notes ≡ c.notes) × (d.keeps_freed ≡ c.keeps_freed) × (d.freed ≡ with_freed c.keeps_freed c.freed id)

  -- a relation of cores and of what was handed out between them: of the cores only the objects, the notes and the ids of those that
  -- left their numbers count
  pub record SeesObjects : Type 0 where
    pub joins : (c d e : Core U) (g h : List (Given SessionMessage)) → R c g d → R d h e → R c (g ++ h) e
    pub handles : (c : Core U) (m : WireMessage) (h : Handling U) (d : Core U) → h ≡ handling_by c.passes_over c.table (objects_in c) m
        → Follows c (objects_after h) (freed_as c.passes_over c.table (objects_in c) m h) d → R c (map HandedOut (handed h)) d
    pub fails : (c d : Core U) → Follows c (objects_in c) None d → R c [] d

  -- a message leads to this core, or for want of memory to that
  pub keeps : (c from : Core U) (h : Handling U) → R c (map HandedOut (handed h)) (core_after from h) → R c (map HandedOut (handed h)) (starved_to from h)
      → Keeps client R c (verdict from h)
  keeps c from h came starved = grind (arith, put_and_gave, handed, comes_to, client, verdict, core_after, none_put)

  module _ (sees : SeesObjects) where
    faults : (c : Core U) (f : IoFault) → R c [] (faulted c f)
    faults c f = grind (arith)

    -- with or without memory, the objects are as the message says
    sees_handling : (c : Core U) (id : Option IdParts) (h : Handling U) → ((d : Core U) → Follows c (objects_after h) id d → R c (map HandedOut (handed h)) d)
        → Keeps client R c (verdict (freeing c id) h)
    sees_handling c id (Swallows o) each = keeps c (freeing c id) (Swallows o) (each _ (refl, refl, refl, refl)) (each _ (refl, refl, refl, refl))
    sees_handling c id (HandsOut m event o) each = keeps c (freeing c id) (HandsOut m event o) (each _ (refl, refl, refl, refl)) (each _ (refl, refl, refl, refl))
    sees_handling c id (Breaks e o) each = keeps c (freeing c id) (Breaks e o) (each _ (refl, refl, refl, refl)) (each _ (refl, refl, refl, refl))

    respects : RespectsReading client R
    respects = record {
      same = λ c. sees.fails c c (refl, refl, refl, refl);
      joins = sees.joins;
      handles = λ c m on. sees_handling c _ (handling_by c.passes_over c.table (objects_in c) m)
          (λ d. sees.handles c m (handling_by c.passes_over c.table (objects_in c) m) d refl);
      malformed = λ c u on. sees_handling c None (Breaks (error_of c.table wrong.Malformed) (objects_in c)) (sees.fails c);
      faulted = λ c f on. faults c f;
    }

    -- it holds over a reading; other answers change nothing
    pub next_event_respects : {T : Type 0} (sends : T → Queue → Result ℕ IoFault → T → Type 0) (receives : T → ℕ → Result Queue IoFault → T → Type 0) (s : SessionState T U)
        (answer : Result SessionMessage EventError) (refused : Bool) (after : SessionState T U) → NextEvent sends receives s answer refused after
        → R (core_of s) (handed_by answer) (core_of after)
    next_event_respects sends receives s answer refused after h = grind (arith, both_option, core_of, reads_respect, client, respects, receives_allowed, reader_state_of, handed_by, objects_in)

-- ---- a finish

refused_not : {U : Type 0} (e : FinishRefused U) → ◌≡◌ {A = Result (Unit {0}) (FinishRefused U)} (Ok tt) (Err e) → ⊥
refused_not e same = true≢false (ap is_ok same)

module _ {T U : Type 0} where
  -- an accepted finish leaves no event open
  abbrev pub IsFinished : SessionState T U → Option U → SessionState T U → Type 0
  IsFinished s u after = (event : OpenEvent) × (s.open_event ≡ Some event) × (refusal event.created u ≡ None) × (after ≡ with_core s (core_finished (core_of s) event u))

  finishes_as : (s after : SessionState T U) (event : OpenEvent) (u : Option U) → FinishesEvent s event u (Ok tt) after → after ≡ with_core s (core_finished (core_of s) event u)
  finishes_as s after event u (inl (is, same)) = same
  finishes_as s after event u (inr (notes, (is, same))) = absurd (refused_not _ is)

  pub finish_as : (s after : SessionState T U) (u : Option U) → Finishes s u (Ok tt) after → IsFinished s u after
  finish_as s after u h = grind (arith, both_option, refused_not, refusal, finishes_as)

  -- so it is what the reader comes to where it takes these data
  pub finish_ends : (sends : T → Queue → Result ℕ IoFault → T → Type 0) (s after : SessionState T U) (u : Option U) → s.error ≡ None → Finishes s u (Ok tt) after
      → (client.reads_on (core_of s) ≡ false) × Ends sends client (reader_state_of s) u [] [] false (reader_state_of after)
  finish_ends sends s after u live h =
      let (event, some, fits, same) = finish_as s after u h in
      let is = ap reader_state_of same in
      let v : Verdict (Core U) SessionMessage = finish_verdict (core_of s) event u in
      let takes : finish (core_of s) s.error s.open_event u ≡ Some v
      = ap₂ (λ (e : Option WaylandError) (o : Option OpenEvent). finish (core_of s) e o u) live some
      ∙ ap (λ (r : Option FinishError). let o : Option (Verdict (Core U) SessionMessage) = cond (is_none r) (Some v) None in o) fits in (
        ap₂ (λ (e : Option WaylandError) (o : Option OpenEvent). is_none e && is_none o) live some,
        (v, takes, inl ([], [], [], Ok tt, s.link, false, (refl, refl, refl, refl), (refl, ap (λ (p : ReaderState T (Core U)). p.link) is, refl), refl, ap (λ (p : ReaderState T (Core U)). p.core) is, refl, refl)),
      )

  -- an accepted finish of a live session is the next of the finishes
  pub finish_cuts : (s : SessionState T U) (u : Option U) (answer : Result (Unit {0}) (FinishRefused U)) (after : SessionState T U) → Finishes s u answer after → CutsFinish s u answer after
  finish_cuts s u answer after h live accepted finishes =
      let ended = finish_ends no_sends s after u live (subst (λ (a : Result (Unit {0}) (FinishRefused U)). Finishes s u a after) accepted h) in
      finish_law no_sends no_receives no_sends client none_sent (reader_state_of s) (reader_state_of after) u [] [] ended.0 ended.1 finishes
    where
      no_receives : T → ℕ → Result Queue IoFault → T → Type 0
      no_receives before room received after = ⊥

-- ---- a call

module _ {T U : Type 0} (sends : T → Queue → Result ℕ IoFault → T → Type 0) (receives : T → ℕ → Result Queue IoFault → T → Type 0) where
  pub call_cuts : (before after : SessionState T U) (call : Step U) (answer : Reply U) (refused : Bool) → CallOf sends receives before call answer refused after
      → IsCut sends receives before call answer refused after
  call_cuts before after step.NextEvent answer refused (r, is, h) =
      subst (λ (a : Reply U). IsCut sends receives before step.NextEvent a refused after) (sym is) (next_event_cuts sends receives before (event_content r) refused after h)
  call_cuts before after (step.FinishEvent u) answer refused (r, is, no_memory, h) =
      subst (λ (a : Reply U). IsCut sends receives before (step.FinishEvent u) a refused after) (sym is) (finish_cuts before u r after h)
  call_cuts before after _ answer refused h = tt

-- ---- something is served of whatever waits, and it is determined

module _ {U : Type 0} where
  finish_is_quiet : (c : Core U) (error : Option WaylandError) (event : Option OpenEvent) (u : Option U) (v : Verdict (Core U) SessionMessage) → finish c error event u ≡ Some v
      → (v.puts ≡ []) × (v.flushes ≡ false)
  finish_is_quiet c error event u v h1 = grind (arith, none_some, is_none, refusal, finish_verdict, same_Some)

  goes_on : {S : Type 0} (sends : S → Queue → Result ℕ IoFault → S → Type 0) → AlwaysGoesOn sends (client {U = U})
  goes_on sends = grind (arith, carried_at_once, client, finish_is_quiet)

  pub one_served : {T : Type 0} (p : ReaderState T (Core U)) (more : Queue) (finishes : List (Option U)) (events others : List (Given SessionMessage)) (x y : ReaderState (Unit {0}) (Core U))
      → IsServed p more finishes events x → IsServed p more finishes others y → (events ≡ others) × (x ≡ y)
  one_served p more finishes events others x y = served_one no_sends none_sent client (state_as p more tt) x y finishes events others

  pub some_served : {T : Type 0} (p : ReaderState T (Core U)) (more : Queue) (finishes : List (Option U))
      → (events : List (Given SessionMessage)) × (after : ReaderState (Unit {0}) (Core U)) × IsServed p more finishes events after
  some_served p more finishes = always_served no_sends client (goes_on no_sends) (state_as p more tt) finishes
