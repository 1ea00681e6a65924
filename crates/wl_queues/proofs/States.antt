-- What calls leave, as states.
use Rattle.std.proofs.Common.{◌≡◌, ℕ, zero, suc, ◌<◌, List, [], ◌∷◌, length, get_or, Bool, true, refl, sym, ap, ◌∙◌, arith, Option, Some, None}
use Rattle.std.specs.Prelude.{IfNone, IfSome, remove, slice_get, unwrap_or}
use Rattle.std.specs.List.{position}
use Rattle.std.proofs.lemmas.Bool.Decides.{nat_tests}
use Rattle.std.proofs.lemmas.List.Quantifiers.{position-Some}
use Rattle.wl_queues.specs.declared.events.Event.{Event}
use Rattle.wl_queues.specs.declared.events.Held.{Held}
use Rattle.wl_queues.specs.declared.events.Reason.{Reason}
use Rattle.wl_queues.specs.Events.{IsFirstSender, has_ticket, reason_against}
use Rattle.wl_queues.specs.Nexts.{HandsNext}
use Rattle.wl_queues.specs.declared.objects.Fate.TheVariants.{Destroyed}
use Rattle.wl_queues.specs.declared.objects.UnusedObject.{UnusedObject}
use Rattle.wl_queues.specs.declared.queues.Queues.{Queues}
use Rattle.wl_queues.specs.Inside.Objects.{object_of, references_of}
use Rattle.wl_queues.specs.Objects.{given_up, is_alive}
use Rattle.wl_queues.specs.Queues.{Does, Finish, IsUnused, NextUnused, QueuesState, outcome_by, outcome_of}
use Rattle.wl_queues.specs.States.{state_of}
use Rattle.wl_queues.proofs.Lists.{unnamed-of-zero, zero-of-unnamed}

module _ {E : Type 0} where
  -- an object that is destroyed and that nothing refers to is unused
  pub unused-of : (q : Queues E) (r : Option UnusedObject) → IfSome r (λ u. ((object_of q.objects u.object).fate ≡ Destroyed) × (references_of q.objects u.object ≡ 0)) →
      IfSome r (λ u. IsUnused (state_of q) u.object)
  unused-of q None h = tt
  unused-of q (Some u) h = record {
    destroyed = h.0;
    unnamed = unnamed-of-zero (state_of q) u.object q.queues.items q.in_hand.items (λ n. refl) refl (sym (q.counted.each u.object) ∙ h.1);
  }

  -- and no other is
  pub none-unused : (q : Queues E) (r : Option UnusedObject) → IfNone r ((o : ℕ) → (object_of q.objects o).fate ≡ Destroyed → 0 < references_of q.objects o) → IfNone r ((o : ℕ) → ¬ (IsUnused (state_of q) o))
  none-unused q None h = λ o u. let zero-times = q.counted.each o ∙ zero-of-unnamed (state_of q) o q.queues.items q.in_hand.items (λ n. refl) refl u.unnamed in omega (arith, h o u.destroyed, zero-times)
  none-unused q (Some u) h = tt

  pub told-does : (s t : QueuesState E) (r : Option UnusedObject) → IfSome r (λ u. IsUnused s u.object) → IfSome r (λ u. u.content ≡ (s.objects u.object).content) →
      ((p : ℕ) → t.objects p ≡ given_up r s.objects p) → t.queues ≡ s.queues → ((n : ℕ) → t.is_dropped n ≡ s.is_dropped n) →
      ((n : ℕ) → t.waiting n ≡ s.waiting n) → t.in_hand ≡ s.in_hand → t.tickets ≡ s.tickets → t.failed ≡ s.failed → IfSome r (λ u. Does s (NextUnused u.object u.content) t)
  told-does s t None unused content objects queues dropped waiting in_hand tickets failed = tt
  told-does s t (Some u) unused content objects queues dropped waiting in_hand tickets failed = record {
    answers = (unused, content);
    leaves = record { objects = objects; queues = queues; is_dropped = dropped; waiting = waiting; in_hand = in_hand; tickets = tickets; failed = failed };
  }

  there : (xs : List (Held E)) (i : ℕ) (x : Held E) → i < length xs → x ≡ get_or xs i x → slice_get xs i ≡ Some x
  there [] i x lt is = absurd (omega arith)
  there (y ∷ xs) zero x lt is = ap (λ z. Some z) (sym is)
  there (y ∷ xs) (suc i) x lt is = there xs i x (omega arith) is

  -- the event in hand with a ticket ends
  pub finish-does : (s t : QueuesState E) (ticket i : ℕ) (h : Held E) → position (has_ticket ticket) s.in_hand ≡ Some i → h ≡ get_or s.in_hand i h → ((p : ℕ) → t.objects p ≡ s.objects p) →
      t.queues ≡ s.queues → ((n : ℕ) → t.is_dropped n ≡ s.is_dropped n) → ((n : ℕ) → t.waiting n ≡ s.waiting n) → t.in_hand ≡ remove s.in_hand i → t.tickets ≡ s.tickets → t.failed ≡ s.failed → Does s (Finish ticket h.event) t
  finish-does s t ticket i h at is objects queues dropped waiting in_hand tickets failed =
      let p = position-Some (has_ticket ticket) s.in_hand i h at in
      let same : h.ticket ≡ ticket = ticket-is (ap (has_ticket ticket) is ∙ p.1) in
      record {
        answers = (i, at, there s.in_hand i h p.0 is ∙ ap (λ n. Some (record { ticket = n; event = h.event })) same);
        leaves = record {
          objects = objects;
          queues = queues;
          is_dropped = dropped;
          waiting = waiting;
          in_hand = in_hand ∙ ap (λ r. remove s.in_hand (unwrap_or r 0)) (sym at);
          tickets = tickets;
          failed = failed;
        };
      }
    where
      ticket-is : has_ticket ticket h ≡ true → h.ticket ≡ ticket
      ticket-is e = grind (arith, nat_tests, e)

  -- the outcome of the first event, by what was looked up of it
  pub outcome-found : (s : QueuesState E) (queue o : ℕ) (e : Event E) (reason : Option Reason) (dropped alive : Bool) → o ≡ e.sender → s.is_dropped queue ≡ dropped → alive ≡ is_alive (s.objects o).fate →
      reason ≡ reason_against s.failed dropped alive → outcome_by s.tickets reason ≡ outcome_of s queue e
  outcome-found s queue o e reason dropped alive same is_dropped is_alive_so is =
      ap (outcome_by s.tickets) (is
      ∙ (ap (λ d. reason_against s.failed d alive) (sym is_dropped)
      ∙ (ap (λ a. reason_against s.failed (s.is_dropped queue) a) is_alive_so
      ∙ ap (λ n. reason_against s.failed (s.is_dropped queue) (is_alive (s.objects n).fate)) same)))

  -- the first event is to be handed out, if no reason was found against that
  pub hands-found : (s : QueuesState E) (queue o : ℕ) (events : List (Event E)) (dropped alive : Bool) → s.waiting queue ≡ events → IsFirstSender o events → s.is_dropped queue ≡ dropped →
      alive ≡ is_alive (s.objects o).fate → None ≡ reason_against s.failed dropped alive → HandsNext s queue
  hands-found s queue o events dropped alive waiting first is_dropped is_alive_so none =
      (first.0, first.1, waiting ∙ first.2, sym (outcome-found s queue o first.0 None dropped alive first.3 is_dropped is_alive_so none))
