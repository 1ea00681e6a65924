-- What each verdict respects, a reading respects.
use Rattle.std.proofs.Common.{◌≡◌, ℕ, Bool, true, false, List, [], ◌∷◌, None, Some, Result, Ok, Err, MatchResult, MatchBool, sym, ap, subst}
use mathlib.Core.Logic.{inl, inr}
use Rattle.wl_wire.specs.declared.error.IoFault.{IoFault}
use Rattle.wl_wire.specs.declared.error.IoFault.TheVariants as fault
use Rattle.wl_link.specs.Exchange.{Queue, Sending}
use Rattle.wl_link.specs.Link.{LinkState, count_of, counted_answer}
use Rattle.wl_link.specs.Puts.{PutsOut, Said, lacks_memory}
use Rattle.wl_link.specs.Reader.{CarriesOut, Ends, Given, Gives, Halts, Handled, ReaderState, Reader, Reads, Received, Stops, Turn, Unread, Verdict, came_to, stops, unreadable_front, with_link}
use Rattle.wl_link.proofs.Readings.PutsLaws.{puts_front}
use Rattle.wl_link.specs.Respect.{Keeps, RespectsReading, Respects, KeepsCore, RespectsCores}

module _ {T Core Event Finish : Type 0} (sends : T → Queue → Result ℕ IoFault → T → Type 0) (receives : T → ℕ → Result Queue IoFault → T → Type 0)
    (reader : Reader Core Event Finish) (R : Core → List (Given Event) → Core → Type 0) where
  pub carries_respect : (c : Core) (v : Verdict Core Event) (before : LinkState T) (after : ReaderState T Core) (es : List Sending) (gave : List (Given Event)) (refused : Bool)
      → Keeps reader R c v → CarriesOut sends reader v before es gave refused after → R c gave after.core
  carries_respect c v before after es gave refused keeps (inl (first, others, put, wrote, mid, lacked, puts, flushes, split, end, is, was)) =
      let front = puts_front sends v.puts before mid first put wrote puts in
      subst (λ (d : Core). R c gave d) (sym end) (subst (λ (g : List (Given Event)). R c g (came_to reader v wrote)) (sym is) (keeps.carried put front.0 wrote front.1 written))
    where
      written : v.puts ≡ [] → wrote ≡ Ok tt
      written none = (subst (λ (ms : List Said). PutsOut sends before ms first put wrote mid) none puts).2
  carries_respect c v before after es gave refused keeps (inr (asks, was, none, is, same)) =
      subst (λ (x : ReaderState T Core). R c gave x.core) (sym same) (subst (λ (g : List (Given Event)). R c g v.starved) (sym is) (keeps.starved asks))

  pub ends_respect : Respects reader R → (p after : ReaderState T Core) (u : Finish) (es : List Sending) (gave : List (Given Event)) (refused : Bool) → Ends sends reader p u es gave refused after
      → R p.core gave after.core
  ends_respect respects p after u es gave refused (v, is, carried) = carries_respect p.core v p.link after es gave refused (respects.takes p.core u v is) carried

module _ {T Core Event Finish : Type 0} (sends : T → Queue → Result ℕ IoFault → T → Type 0) (receives : T → ℕ → Result Queue IoFault → T → Type 0)
    (reader : Reader Core Event Finish) (R : Core → List (Given Event) → Core → Type 0) (respects : RespectsReading reader R) where
  abbrev given_in : Gives Event → List (Given Event)
  given_in o = o.gave

  stays_as : (left : ℕ) (p after : ReaderState T Core) (out : Gives Event) → after ≡ p → Stops sends reader left p out → R p.core out.gave after.core
  stays_as left p after out same stops' =
      subst (λ (x : ReaderState T Core). R p.core out.gave x.core) (sym same)
      (subst (λ (g : List (Given Event)). R p.core g p.core) (sym (nothing_given (reader.reads_on p.core) stops')) (respects.same p.core))
    where
      nothing_given : (b : Bool) → MatchBool b (Halts sends reader left p out) (out ≡ stops None false left) → out.gave ≡ []
      nothing_given true (inl (lacks, none, is)) = ap given_in is
      nothing_given true (inr (inl (asks, is))) = ap given_in is
      nothing_given true (inr (inr (lacks, (n, one, is)))) = ap given_in is
      nothing_given false is = ap given_in is

  pub reads_respect : (left : ℕ) (p after : ReaderState T Core) (turns : List Turn) (out : Gives Event) → Reads sends reader receives left p turns out after → R p.core out.gave after.core
  reads_respect left p after [] out (same, ends) = stays_as left p after out same ends
  reads_respect left p after (Received r ∷ turns) out (on, lacks, (n, is, (link, filled, finds, h))) =
      go (counted_answer (count_of r)) h (λ more. reads_respect n (with_link p link) after turns out more)
    where
      go : (c : Result (Unit {0}) IoFault)
          → MatchResult c (λ _. Reads sends reader receives n (with_link p link) turns out after)
          (λ f. (turns ≡ []) × (out ≡ stops (Some f) (lacks_memory (Err f)) n) × (after ≡ record { core = reader.faulted p.core f; link = link }))
          → (Reads sends reader receives n (with_link p link) turns out after → R p.core out.gave after.core) → R p.core out.gave after.core
      go (Ok u) more goes = goes more
      go (Err f) (none, ends, same) goes =
          subst (λ (x : ReaderState T Core). R p.core out.gave x.core) (sym same) (subst (λ (g : List (Given Event)). R p.core g (reader.faulted p.core f)) (sym (ap given_in ends)) (respects.faulted p.core f on))
  reads_respect left p after (Handled es ∷ turns) out (on, (v, link, first, lacked, mid, rest, (m, read, is), carried, split, more)) =
      let keeps = subst (λ (w : Verdict Core Event). Keeps reader R p.core w) (sym is) (respects.handles p.core m on) in
      subst (λ (g : List (Given Event)). R p.core g after.core) (sym (ap given_in split))
      (respects.joins p.core mid.core after.core first rest.gave (carries_respect sends receives reader R p.core v link mid es first lacked keeps carried) (reads_respect left mid after turns rest more))
  reads_respect left p after (Unread es ∷ turns) out (on, (v, link, first, lacked, mid, rest, (malformed, same, is), carried, split, more)) =
      let keeps = subst (λ (w : Verdict Core Event). Keeps reader R p.core w) (sym is) (respects.malformed p.core (unreadable_front sends reader p) on) in
      subst (λ (g : List (Given Event)). R p.core g after.core) (sym (ap given_in split))
      (respects.joins p.core mid.core after.core first rest.gave (carries_respect sends receives reader R p.core v link mid es first lacked keeps carried) (reads_respect left mid after turns rest more))

-- ---- relations of cores alone

module _ {Core Event Finish : Type 0} (reader : Reader Core Event Finish) (R : Core → Core → Type 0) (respects : RespectsCores reader R) where
  breaks_respect : (c : Core) (v : Verdict Core Event) (f : IoFault) → KeepsCore R c v → R c (v.last (reader.broken v.core f))
  breaks_respect c v f keeps =
      respects.joins c v.core (v.last (reader.broken v.core f)) keeps.core
      (respects.joins v.core (reader.broken v.core f) (v.last (reader.broken v.core f)) (respects.broken v.core f) (keeps.last (reader.broken v.core f)))

  came_respects : (c : Core) (v : Verdict Core Event) (wrote : Result (Unit {0}) IoFault) → KeepsCore R c v → R c (came_to reader v wrote)
  came_respects c v (Ok u) keeps = respects.joins c v.core (v.last v.core) keeps.core (keeps.last v.core)
  came_respects c v (Err fault.OutOfMemory) keeps = keeps.starved
  came_respects c v (Err f) keeps = breaks_respect c v f keeps

  keeps_all : (c : Core) (v : Verdict Core Event) → KeepsCore R c v → Keeps reader (λ c g d. R c d) c v
  keeps_all c v keeps = record { carried = λ put others wrote is written. came_respects c v wrote keeps; starved = λ asks. keeps.starved }

  pub respects_all : Respects reader (λ c g d. R c d)
  respects_all = record {
    reading = record {
      same = respects.same;
      joins = λ c d e g h. respects.joins c d e;
      handles = λ c m on. keeps_all c (reader.handles c m) (respects.handles c m);
      malformed = λ c u on. keeps_all c (reader.malformed c u) (respects.malformed c u);
      faulted = λ c f on. respects.faulted c f;
    };
    takes = λ c u v is. keeps_all c v (respects.takes c u v is);
  }
