-- Tickets: each event in hand has one that was given out, so a new one names the event that was handed out with it.
use Rattle.std.proofs.Common.{◌≡◌, ℕ, suc, ◌+◌, ◌<◌, List, [], ◌∷◌, ◌++◌, length, get_or, true, false, sym, ap, ◌∙◌, arith, subst, Some}
use Rattle.std.specs.Prelude.{option_and_then, drop, remove, slice_get, take}
use Rattle.std.specs.Option.{option_map}
use Rattle.std.specs.List.{position, position_or_len}
use Rattle.std.proofs.lemmas.Bool.Decides.{nat_tests}
use Rattle.std.proofs.lemmas.List.{length-append}
use Rattle.std.proofs.lemmas.List.Elements.{All-append, All-cons, All-drop, All-nil, All-take}
use Rattle.std.proofs.lemmas.List.Sums.{position_or_len_is}
use Rattle.std.proofs.lemmas.Option.{slice_get-get_or}
use Rattle.std.proofs.Math.ListN.{get_or-append}
use Rattle.std.proofs.Math.Seq.{get_or-append_seam}
use Rattle.wl_queues.specs.declared.events.Event.{Event}
use Rattle.wl_queues.specs.declared.events.Held.{Held}
use Rattle.wl_queues.specs.Events.{has_ticket}
use Rattle.wl_queues.specs.Inside.Counts.{AreGivenOut}

module _ {E : Type 0} where
  abbrev held_as : ℕ → Event E → Held E
  held_as ticket e = record { ticket = ticket; event = e }

  -- the event that was handed out last has the newest ticket
  pub given-pushed : (in_hand : List (Held E)) (ticket : ℕ) (e : Event E) → AreGivenOut in_hand ticket → AreGivenOut (in_hand ++ held_as ticket e ∷ []) (ticket + 1)
  given-pushed in_hand ticket e all =
      let P : Held E → Type 0 = λ h. h.ticket < ticket + 1 in
      All-append P in_hand (held_as ticket e ∷ []) (λ k d lt. omega (arith, all k d lt)) (All-cons P (held_as ticket e) [] (omega arith) (All-nil P))

  -- one event in hand less
  pub given-removed : (in_hand : List (Held E)) (i ticket : ℕ) → AreGivenOut in_hand ticket → AreGivenOut (remove in_hand i) ticket
  given-removed in_hand i ticket all =
      let P : Held E → Type 0 = λ h. h.ticket < ticket in
      All-append P (take i in_hand) (drop (suc i) in_hand) (All-take P i in_hand all) (All-drop P (suc i) in_hand all)

  -- no event in hand has a ticket that was not given out
  older : (h : Held E) (ticket : ℕ) → h.ticket < ticket → has_ticket ticket h ≡ false
  older h ticket lt = grind (arith, nat_tests, lt)

  itself : (ticket : ℕ) (e : Event E) → has_ticket ticket (held_as ticket e) ≡ true
  itself ticket e = grind (arith, nat_tests)

  -- so the ticket stands behind all of them
  pub newest-at : (in_hand : List (Held E)) (ticket : ℕ) (e : Event E) → AreGivenOut in_hand ticket →
      position_or_len (has_ticket ticket) (in_hand ++ held_as ticket e ∷ []) ≡ length in_hand
  newest-at in_hand ticket e all =
      let h = held_as ticket e in
      let more = in_hand ++ h ∷ [] in
      let longer : length more ≡ length in_hand + 1 = length-append in_hand (h ∷ []) in
      position_or_len_is (has_ticket ticket) more (length in_hand) h (omega (arith, longer))
      (λ k lt. ap (has_ticket ticket) (get_or-append in_hand (h ∷ []) h k lt) ∙ older (get_or in_hand k h) ticket (all k h lt))
      (λ lt. ap (has_ticket ticket) (get_or-append_seam in_hand h [] h) ∙ itself ticket e)

  -- and names the event that was handed out with it
  pub newest-named : (in_hand more : List (Held E)) (ticket : ℕ) (e : Event E) → AreGivenOut in_hand ticket → more ≡ in_hand ++ held_as ticket e ∷ [] →
      option_and_then (λ i. option_map (λ h. h.event) (slice_get more i)) (position (has_ticket ticket) more) ≡ Some e
  newest-named in_hand more ticket e all is = subst (λ m. option_and_then (λ i. option_map (λ h. h.event) (slice_get m i)) (position (has_ticket ticket) m) ≡ Some e) (sym is) named
    where
      h : Held E
      h = held_as ticket e

      grown : List (Held E)
      grown = in_hand ++ h ∷ []

      longer : length grown ≡ length in_hand + 1
      longer = length-append in_hand (h ∷ [])

      there : slice_get grown (length in_hand) ≡ Some h
      there = slice_get-get_or grown (length in_hand) h (omega (arith, longer)) ∙ ap (λ x. Some x) (get_or-append_seam in_hand h [] h)

      found : position (has_ticket ticket) grown ≡ Some (length in_hand)
      found = grind (arith, nat_tests, newest-at in_hand ticket e all, longer)

      named : option_and_then (λ i. option_map (λ h. h.event) (slice_get grown i)) (position (has_ticket ticket) grown) ≡ Some e
      named = ap (option_and_then (λ i. option_map (λ h. h.event) (slice_get grown i))) found ∙ ap (option_map (λ h. h.event)) there
