-- A reading has one outcome, where sends and receives have one and memory is not refused.
use Rattle.std.proofs.Common.{◌≡◌, ◌≢◌, ◌⊎◌, ℕ, Bool, true, false, List, [], ◌∷◌, None, Some, Result, Ok, Err, is_ok, MatchResult, MatchBool, refl, sym, ap, subst, ◌∙◌, true≢false, arith}
use mathlib.Core.Logic.{inl, inr}
use Rattle.wl_wire.specs.declared.error.IoFault.{IoFault}
use Rattle.wl_wire.specs.declared.error.IoFault.TheVariants as fault
use Rattle.wl_link.specs.Exchange.{Queue, Sending, IsFunction, IsReceiveFunction}
use Rattle.wl_link.specs.Link.{LinkState, count_of, counted_answer}
use Rattle.wl_link.specs.Puts.{lacks_memory}
use Rattle.wl_link.specs.Reader.{CarriesOut, Given, Gives, Halts, Handled, Lacks, Leaves, ReaderState, Reader, Reads, Received, Stops, Takes, Then, Turn, Unread, Verdict, given_first, stops, with_link}
use Rattle.wl_link.specs.Served.{Finds}
use Rattle.wl_link.proofs.Calls.OneLaws.{one_fill_lem}
use Rattle.wl_link.proofs.Calls.Branches.{both_bool, both_result}
use Rattle.wl_link.proofs.Readings.PutsLaws.{not_lacked}
use Rattle.wl_link.proofs.Readings.ServedLaws.{both_false, carries_one, finds_not_lacks, finds_one}
use Rattle.wl_link.specs.Outcome.{SameReading}

module _ {T Core Event Finish : Type 0} (sends : T → Queue → Result ℕ IoFault → T → Type 0) (function : IsFunction sends)
    (receives : T → ℕ → Result Queue IoFault → T → Type 0) (receives_function : IsReceiveFunction receives) (reader : Reader Core Event Finish) where
  abbrev refused_of : Gives Event → Bool
  refused_of o = o.refused

  -- what a reading that ends comes to
  abbrev Stopped : ℕ → ReaderState T Core → Gives Event → Type 0
  Stopped left p out = (Lacks sends reader p × (left ≡ 0) × (out ≡ stops (Some fault.WouldBlock) false left)) ⊎ ((reader.reads_on p.core ≡ false) × (out ≡ stops None false left))

  stopped : (left : ℕ) (p : ReaderState T Core) (out : Gives Event) → out.refused ≡ false → Stops sends reader left p out → Stopped left p out
  stopped left p out ample stops' = go (reader.reads_on p.core) refl stops'
    where
      go : (b : Bool) → reader.reads_on p.core ≡ b
          → MatchBool b (Halts sends reader left p out) (out ≡ stops None false left) → Stopped left p out
      go true on (inl waits) = inl waits
      go true on (inr (inl (asks, is))) = absurd (true≢false (sym (ap refused_of is) ∙ ample))
      go true on (inr (inr (lacks, (n, one, is)))) = absurd (true≢false (sym (ap refused_of is) ∙ ample))
      go false off is = inr (off, is)

  -- a reading that ends does not go on
  ends_not : (left : ℕ) (p : ReaderState T Core) (out : Gives Event) → reader.reads_on p.core ≡ true → Stopped left p out → Lacks sends reader p × (left ≡ 0)
  ends_not left p out on (inl (lacks, none, is)) = (lacks, none)
  ends_not left p out on (inr (off, is)) = absurd (true≢false (sym on ∙ off))

  stops_one : (left : ℕ) (p : ReaderState T Core) (o o' : Gives Event) → Stops sends reader left p o → Stops sends reader left p o' → o.refused ≡ false → o'.refused ≡ false → o ≡ o'
  stops_one left p o o' s s' ample ample' =
      elim (both_bool (reader.reads_on p.core) s s') [
        | inl (inl (lacks, none, is), inl (lacks', none', is')) ↦ is ∙ sym is'
        | inl (inr (inl (asks, is)), other) ↦ absurd (true≢false (sym (ap refused_of is) ∙ ample))
        | inl (inr (inr (lacks, (n, one, is))), other) ↦ absurd (true≢false (sym (ap refused_of is) ∙ ample))
        | inl (other, inr (inl (asks, is))) ↦ absurd (true≢false (sym (ap refused_of is) ∙ ample'))
        | inl (other, inr (inr (lacks, (n, one, is)))) ↦ absurd (true≢false (sym (ap refused_of is) ∙ ample'))
        | inr (is, is') ↦ is ∙ sym is'
      ]

  abbrev ReceivedThen : ℕ → ReaderState T Core → List Turn → Gives Event → ReaderState T Core → LinkState T → Result (Unit {0}) IoFault → Type 0
  ReceivedThen n p turns out after link c =
      MatchResult c (λ _. Reads sends reader receives n (with_link p link) turns out after)
      (λ f. (turns ≡ []) × (out ≡ stops (Some f) (lacks_memory (Err f)) n) × (after ≡ record { core = reader.faulted p.core f; link = link }))

  received_allowed : (n : ℕ) (p : ReaderState T Core) (turns : List Turn) (out : Gives Event) (after : ReaderState T Core) (link : LinkState T) (c : Result (Unit {0}) IoFault)
      → out.refused ≡ false → ReceivedThen n p turns out after link c → c ≢ Err fault.OutOfMemory
  received_allowed n p turns out after link (Ok u) ample h is = true≢false (ap is_ok is)
  received_allowed n p turns out after link (Err f) ample h is = not_lacked (Err f) (sym (ap refused_of h.1) ∙ ample) is

  -- two verdicts that were carried out, and what follows them
  then_one : (Found Found' : ReaderState T Core → Verdict Core Event → LinkState T → Type 0) (p x y : ReaderState T Core)
      → ((v : Verdict Core Event) (l : LinkState T) → Found p v l → Finds sends reader p v l) → ((v : Verdict Core Event) (l : LinkState T) → Found' p v l → Finds sends reader p v l)
      → (es fs : List Sending) (o o' : Gives Event) (on on' : ReaderState T Core → Gives Event → Type 0) → o.refused ≡ false → o'.refused ≡ false
      → Then sends reader Found p es o on → Then sends reader Found' p fs o' on'
      → ((mid : ReaderState T Core) (r r' : Gives Event) → r.refused ≡ false → r'.refused ≡ false → on mid r → on' mid r' → SameReading r r' x y)
      → SameReading o o' x y
  then_one Found Found' p x y finds finds' es fs o o' on on' ample ample' (reads, (v, link, first, lacked, mid, rest, found, carried, split, more)) (reads', (w, link', first', lacked', mid', rest', found', carried', split', more')) goes =
      let one = finds_one sends function reader p v w link link' (finds v link found) (finds' w link' found') in
      let ok = both_false lacked rest.refused (sym ample ∙ ap refused_of split) in
      let ok' = both_false lacked' rest'.refused (sym ample' ∙ ap refused_of split') in
      let a = subst (λ (z : Verdict Core Event). CarriesOut sends reader z link' fs first' lacked' mid') (sym one.0) carried' in
      let b = subst (λ (z : LinkState T). CarriesOut sends reader v z fs first' lacked' mid') (sym one.1) a in
      let known = subst (λ (l : Bool). CarriesOut sends reader v link es first l mid) ok.0 carried in
      let known' = subst (λ (l : Bool). CarriesOut sends reader v link fs first' l mid') ok'.0 b in
      let same = carries_one sends function reader v link mid mid' es fs first first' known known' in
      let r = goes mid rest rest' ok.1 ok'.1 more (subst (λ (z : ReaderState T Core). on' z rest') (sym same.after) more') in
      record {
        out = split ∙ ap (λ (l : Bool). given_first first l rest) (ok.0 ∙ sym ok'.0) ∙ ap (λ (z : List (Given Event)). given_first z lacked' rest) same.gave
            ∙ ap (λ (z : Gives Event). given_first first' lacked' z) r.out ∙ sym split';
        after = r.after;
      }

  then_not_lacks : (Found : ReaderState T Core → Verdict Core Event → LinkState T → Type 0) (p : ReaderState T Core)
      → ((v : Verdict Core Event) (l : LinkState T) → Found p v l → Finds sends reader p v l) → (es : List Sending) (o : Gives Event) (on : ReaderState T Core → Gives Event → Type 0)
      → Then sends reader Found p es o on → Lacks sends reader p → ⊥
  then_not_lacks Found p finds es o on (reads, (v, link, first, lacked, mid, rest, found, carried, split, more)) lacks = finds_not_lacks sends function reader p v link (finds v link found) lacks

  then_not_stopped : (Found : ReaderState T Core → Verdict Core Event → LinkState T → Type 0) (p : ReaderState T Core)
      → ((v : Verdict Core Event) (l : LinkState T) → Found p v l → Finds sends reader p v l) → (es : List Sending) (left : ℕ) (o o' : Gives Event) (on : ReaderState T Core → Gives Event → Type 0)
      → o'.refused ≡ false → Then sends reader Found p es o on → Stops sends reader left p o' → ⊥
  then_not_stopped Found p finds es left o o' on ample h ends = then_not_lacks Found p finds es o on h (ends_not left p o' h.0 (stopped left p o' ample ends)).0

  abbrev FoundBy : Type 1
  FoundBy = ReaderState T Core → Verdict Core Event → LinkState T → Type 0

  abbrev taken : FoundBy
  taken = Takes sends reader

  abbrev left_there : FoundBy
  left_there = Leaves sends reader

  is_taken : (p : ReaderState T Core) (v : Verdict Core Event) (l : LinkState T) → taken p v l → Finds sends reader p v l
  is_taken p v l t = inl t

  is_left : (p : ReaderState T Core) (v : Verdict Core Event) (l : LinkState T) → left_there p v l → Finds sends reader p v l
  is_left p v l t = inr t

  pub reads_one : (left : ℕ) (p x y : ReaderState T Core) (turns turns' : List Turn) (o o' : Gives Event) → o.refused ≡ false → o'.refused ≡ false
      → Reads sends reader receives left p turns o x → Reads sends reader receives left p turns' o' y → SameReading o o' x y
  reads_one left p x y [] [] o o' ample ample' (same, ends) (same', ends') = record { out = stops_one left p o o' ends ends' ample ample'; after = same ∙ sym same' }
  reads_one left p x y [] (Received r ∷ turns) o o' ample ample' (same, ends) (on, lacks, (n, is, more)) =
      let e = ends_not left p o on (stopped left p o ample ends) in absurd (omega (arith, e.1, is))
  reads_one left p x y (Received r ∷ turns) [] o o' ample ample' (on, lacks, (n, is, more)) (same, ends) =
      let e = ends_not left p o' on (stopped left p o' ample' ends) in absurd (omega (arith, e.1, is))
  reads_one left p x y [] (Handled es ∷ turns) o o' ample ample' (same, ends) h = absurd (then_not_stopped taken p (is_taken p) es left o' o _ ample h ends)
  reads_one left p x y (Handled es ∷ turns) [] o o' ample ample' h (same, ends) = absurd (then_not_stopped taken p (is_taken p) es left o o' _ ample' h ends)
  reads_one left p x y [] (Unread es ∷ turns) o o' ample ample' (same, ends) h = absurd (then_not_stopped left_there p (is_left p) es left o' o _ ample h ends)
  reads_one left p x y (Unread es ∷ turns) [] o o' ample ample' h (same, ends) = absurd (then_not_stopped left_there p (is_left p) es left o o' _ ample' h ends)
  reads_one left p x y (Received r ∷ turns) (Handled es ∷ turns') o o' ample ample' (on, lacks, more) h = absurd (then_not_lacks taken p (is_taken p) es o' _ h lacks)
  reads_one left p x y (Handled es ∷ turns) (Received r ∷ turns') o o' ample ample' h (on, lacks, more) = absurd (then_not_lacks taken p (is_taken p) es o _ h lacks)
  reads_one left p x y (Received r ∷ turns) (Unread es ∷ turns') o o' ample ample' (on, lacks, more) h = absurd (then_not_lacks left_there p (is_left p) es o' _ h lacks)
  reads_one left p x y (Unread es ∷ turns) (Received r ∷ turns') o o' ample ample' h (on, lacks, more) = absurd (then_not_lacks left_there p (is_left p) es o _ h lacks)
  reads_one left p x y (Received r ∷ turns) (Received r' ∷ turns') o o' ample ample' (on, lacks, (n, is, (link, filled, finds, a))) (on', lacks', (n', is', (link', filled', finds', b))) =
      let c : Result (Unit {0}) IoFault = counted_answer (count_of r) in
      let allowed = received_allowed n p turns o x link c ample a in
      let allowed' = received_allowed n' p turns' o' y link' (counted_answer (count_of r')) ample' b in
      let same = one_fill_lem receives receives_function p.link link link' r r' _ _ filled filled' allowed allowed' in
      let counted_same = subst (λ z. ReceivedThen n' p turns' o' y link' z) (sym same.answer) b in
      let linked = subst (λ z. ReceivedThen n' p turns' o' y z c) (sym same.after) counted_same in
      let fewer : n' ≡ n = omega (arith, is, is') in
      let begun = subst (λ z. ReceivedThen z p turns' o' y link c) fewer linked in
      elim (both_result c a begun) [
        | inl (u, more, more') ↦ reads_one n (with_link p link) x y turns turns' o o' ample ample' more more'
        | inr (f, (none, out, end), (none', out', end')) ↦ record { out = out ∙ sym out'; after = end ∙ sym end' }
      ]
  reads_one left p x y (Handled es ∷ turns) (Handled fs ∷ turns') o o' ample ample' h h' =
      then_one taken taken p x y (is_taken p) (is_taken p) es fs o o' _ _ ample ample' h h' (λ mid r r' ok ok' a b. reads_one left mid x y turns turns' r r' ok ok' a b)
  reads_one left p x y (Handled es ∷ turns) (Unread fs ∷ turns') o o' ample ample' h h' =
      then_one taken left_there p x y (is_taken p) (is_left p) es fs o o' _ _ ample ample' h h' (λ mid r r' ok ok' a b. reads_one left mid x y turns turns' r r' ok ok' a b)
  reads_one left p x y (Unread es ∷ turns) (Handled fs ∷ turns') o o' ample ample' h h' =
      then_one left_there taken p x y (is_left p) (is_taken p) es fs o o' _ _ ample ample' h h' (λ mid r r' ok ok' a b. reads_one left mid x y turns turns' r r' ok ok' a b)
  reads_one left p x y (Unread es ∷ turns) (Unread fs ∷ turns') o o' ample ample' h h' =
      then_one left_there left_there p x y (is_left p) (is_left p) es fs o o' _ _ ample ample' h h' (λ mid r r' ok ok' a b. reads_one left mid x y turns turns' r r' ok ok' a b)
