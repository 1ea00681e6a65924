-- That a reading which ends a session because no bytes came found a byte free for what lacked, and that none ends it so
-- where each receive brings a byte or would block; nor does the end of an event.
use Rattle.std.proofs.Common.{◌≡◌, ◌≢◌, ◌⊎◌, ℕ, Bool, false, List, [], ◌∷◌, Option, None, Some, is_none, Result, Ok, Err, MatchResult, refl, sym, ap, subst, ◌∙◌, true≢false, is_ok, arith}
use Rattle.std.proofs.lemmas.Option.{same_Some}
use Rattle.wl_wire.specs.declared.error.IoFault.{IoFault}
use Rattle.wl_wire.specs.declared.error.IoFault.TheVariants as fault
use Rattle.wl_link.proofs.Calls.Branches.{both_option}
use Rattle.wl_link.proofs.Readings.CuttingLaws.{byte_came}
use Rattle.wl_link.specs.Exchange.{Queue, Sending}
use Rattle.wl_link.proofs.Streams.LengthLaws.{failed_finds}
use Rattle.wl_link.specs.Link.{FindsRoom, LinkState, counted_answer, count_of}
use Rattle.wl_link.specs.Puts.{lacks_memory}
use Rattle.wl_link.specs.Reader.{AllFed, CarriesOut, Ends, Given, IsFed, Gives, Handled, ReaderState, Reads, Received, Turn, Unread, Verdict, came_to as comes_to, stops, with_link}
use Rattle.wl_link.specs.Respect.{Keeps}
use Rattle.wl_link.proofs.Readings.RespectLaws.{carries_respect}
use Rattle.wl_client.specs.declared.error.EventError.{EventError}
use Rattle.wl_client.specs.declared.error.WaylandError.{WaylandError}
use Rattle.wl_client.specs.declared.error.WaylandError.TheVariants.{Io}
use Rattle.wl_client.specs.declared.event.OpenEvent.{OpenEvent}
use Rattle.wl_client.specs.Events.{error_of}
use Rattle.wl_client.specs.Finish.{core_finished, refusal, with_data_for, with_dead}
use Rattle.wl_client.specs.Handling.{Handling, handling_by}
use Rattle.wl_client.specs.Reading.{EndsWithRoom, NextEvent, core_after, client, finish, finish_verdict, freed_core, objects_in, reader_state_of, starved_to, verdict}
use Rattle.wl_client.proofs.OverRuns.ReadingLaws.{keeps}
use Rattle.wl_client.specs.Requests.{SessionMessage}
use Rattle.wl_client.specs.Session.{Core, SessionState, named}

none_ended : {e : Option WaylandError} → e ≡ None → e ≡ Some (Io fault.Pipe) → ⊥
none_ended none is = true≢false (ap is_none (sym none ∙ is))

-- its error is not that no bytes came
abbrev pub NotEndedByPipe : {U : Type 0} → Core U → Type 0
NotEndedByPipe c = c.error ≢ Some (Io fault.Pipe)

fed_blocks : (r : Result Queue IoFault) (f : IoFault) → IsFed r → counted_answer (count_of r) ≡ Err f → f ≡ fault.WouldBlock
fed_blocks (Ok q) f some is = absurd (true≢false (ap is_ok (sym (byte_came q some) ∙ is)))
fed_blocks (Err g) f would is = let same : g ≡ f = cc in sym same ∙ would

-- an accepted finish leaves no event open, and keeps the error
pub finish_keeps : {U : Type 0} (c : Core U) (event : OpenEvent) (u : Option U) → ((core_finished c event u).error ≡ c.error) × ((core_finished c event u).open_event ≡ None)
finish_keeps {U = U} c event u = grind (arith, named, with_data_for, with_dead)

module _ {T U : Type 0} (sends : T → Queue → Result ℕ IoFault → T → Type 0) (receives : T → ℕ → Result Queue IoFault → T → Type 0) where
  -- ---- what a message comes to

  -- no error is stored, or another one, and it reads no more
  abbrev NotEnded : Core U → Type 0
  NotEnded c = (c.error ≡ None) ⊎ ((client.reads_on c ≡ false) × (c.error ≢ Some (Io fault.Pipe)))

  broken : (d : Core U) (e : WaylandError) → e ≢ Io fault.Pipe → d.error ≡ Some e → NotEnded d
  broken d e other is = grind (arith, is_none, same_Some)

  abbrev EndsOtherwise : Core U → List (Given SessionMessage) → Core U → Type 0
  EndsOtherwise c gave d = c.error ≡ None → NotEnded d

  ends_otherwise : (c : Core U) (h : Handling U) → Keeps client EndsOtherwise c (verdict c h)
  ends_otherwise c h = grind (arith, keeps EndsOtherwise c c, broken, core_after, starved_to)

  not_ended : (c : Core U) (h : Handling U) (before : LinkState T) (es : List Sending) (gave : List (Given SessionMessage)) (lacked : Bool) (mid : ReaderState T (Core U))
      → c.error ≡ None → CarriesOut sends client (verdict c h) before es gave lacked mid → NotEnded mid.core
  not_ended c h before es gave lacked mid none carried = carries_respect sends receives client EndsOtherwise c (verdict c h) before mid es gave lacked (ends_otherwise c h) carried none

  reads_nothing : (left : ℕ) (p after : ReaderState T (Core U)) (turns : List Turn) (out : Gives SessionMessage) → client.reads_on p.core ≡ false
      → Reads sends client receives left p turns out after → after ≡ p
  reads_nothing left p after [] out off (same, ends) = same
  reads_nothing left p after (Received r ∷ turns) out off h = absurd (true≢false (sym h.0 ∙ off))
  reads_nothing left p after (Handled es ∷ turns) out off h = absurd (true≢false (sym h.0 ∙ off))
  reads_nothing left p after (Unread es ∷ turns) out off h = absurd (true≢false (sym h.0 ∙ off))

  -- ---- a reading

  -- what ends so: a receive of no bytes, which found one free for what lacked
  abbrev NoneCame : List Turn → ReaderState T (Core U) → Type 0
  NoneCame turns after = FindsRoom after.link after.link.incoming_capacity × (AllFed turns → ⊥)

  -- after a message
  heard_none : (left : ℕ) (p after : ReaderState T (Core U)) (turns : List Turn) (out : Gives SessionMessage) → Reads sends client receives left p turns out after
      → (p.core.error ≡ None → NoneCame turns after) → after.core.error ≡ Some (Io fault.Pipe) → NotEnded p.core → NoneCame turns after
  heard_none left p after turns out h1 h2 h3 h4 = grind (arith, reads_nothing)

  none_came : (left : ℕ) (p after : ReaderState T (Core U)) (turns : List Turn) (out : Gives SessionMessage) → Reads sends client receives left p turns out after
      → p.core.error ≡ None → after.core.error ≡ Some (Io fault.Pipe) → NoneCame turns after
  none_came left p after [] out (same, ends) none is = absurd (none_ended none (sym (ap (λ (x : ReaderState T (Core U)). x.core.error) same) ∙ is))
  none_came left p after (Received r ∷ turns) out (on, lacks, (n, is', (link, filled, finds, h))) none is =
      go (counted_answer (count_of r)) refl h (λ more. none_came n (with_link p link) after turns out more none is)
    where
      go : (c : Result (Unit {0}) IoFault) → counted_answer (count_of r) ≡ c
          → MatchResult c (λ _. Reads sends client receives n (with_link p link) turns out after)
          (λ f. (turns ≡ []) × (out ≡ stops (Some f) (lacks_memory (Err f)) n) × (after ≡ record { core = client.faulted p.core f; link = link }))
          → (Reads sends client receives n (with_link p link) turns out after → NoneCame turns after) → NoneCame (Received r ∷ turns) after
      go (Ok u) was more goes = let rest = goes more in (rest.0, λ fed. rest.1 fed.1)
      go (Err f) was (last, ends, same) goes = (
        subst (λ (x : ReaderState T (Core U)). FindsRoom x.link x.link.incoming_capacity) (sym same) (failed_finds receives p.link link r f was filled finds),
        λ fed. none_ended
            (ap (λ (x : ReaderState T (Core U)). x.core.error) same ∙ ap (λ (g : IoFault). (client.faulted p.core g).error) (fed_blocks r f fed.0 was) ∙ none) is,
      )
  none_came left p after (Handled es ∷ turns) out (on, (v, link, first, lacked, mid, rest, (m, read, is'), carried, split, more)) none is =
      heard_none left mid after turns rest more (λ on'. none_came left mid after turns rest more on' is) is
      (not_ended (freed_core p.core m (handling_by p.core.passes_over p.core.table (objects_in p.core) m))
      (handling_by p.core.passes_over p.core.table (objects_in p.core) m) link es first lacked mid none
      (subst (λ (w : Verdict (Core U) SessionMessage). CarriesOut sends client w link es first lacked mid) is' carried))
  none_came left p after (Unread es ∷ turns) out (on, (v, link, first, lacked, mid, rest, (read, same, is'), carried, split, more)) none is = grind (arith, heard_none, not_ended, error_of, objects_in, client)

  -- ---- a reading that was fed, and the end of an event, do not end it so

  pub fed_keeps : (left : ℕ) (p after : ReaderState T (Core U)) (turns : List Turn) (out : Gives SessionMessage) → Reads sends client receives left p turns out after → AllFed turns
      → NotEndedByPipe p.core → NotEndedByPipe after.core
  fed_keeps left p after turns out reads fed not is = grind (arith, none_came, reads_nothing, is_none)

  finish_error : (c : Core U) (error : Option WaylandError) (event : Option OpenEvent) (u : Option U) (v : Verdict (Core U) SessionMessage) → finish c error event u ≡ Some v
      → (v.puts ≡ []) × ((v.last v.core).error ≡ c.error) × (v.starved.error ≡ c.error)
  finish_error c error event u v h1 = grind (arith, true≢false, is_none, refusal, finish_verdict, same_Some, finish_keeps)

  pub end_keeps : (p after : ReaderState T (Core U)) (u : Option U) (es : List Sending) (gave : List (Given SessionMessage)) → Ends sends client p u es gave false after
      → NotEndedByPipe p.core → NotEndedByPipe after.core
  end_keeps p after u es gave h1 h2 = grind (arith, finish_error, comes_to, client)

  pub next_event_room : (s : SessionState T U) (answer : Result SessionMessage EventError) (refused : Bool) (after : SessionState T U)
      → NextEvent sends receives s answer refused after → EndsWithRoom s after
  next_event_room s answer refused after h live is = grind (arith, both_option, true≢false, is_none, none_ended, none_came, reader_state_of)
