-- How turns and receives join to a reading, for the loops of whatever reads.
use Rattle.std.proofs.Common.{◌≡◌, ℕ, suc, ◌+◌, ◌-◌, ◌<◌, ◌≤◌, Bool, true, false, ◌||◌, List, [], ◌∷◌, ◌++◌, append_assoc, Option, None, Some, Result, Err, MatchResult, refl, sym, ap, subst, ◌∙◌, arith}
use mathlib.Core.Logic.{inl, inr}
use Rattle.wl_wire.specs.declared.error.IoFault.{IoFault}
use Rattle.wl_wire.specs.declared.error.IoFault.TheVariants as fault
use Rattle.wl_link.specs.Exchange.{Queue}
use Rattle.wl_link.specs.Link.{Filled, FilledBy, FindsRoom, LinkState, grown_capacity}
use Rattle.wl_link.specs.Puts.{lacks_memory}
use Rattle.wl_link.specs.Reader.{FrontAsks, Given, Gives, Halts, Handled, Lacks, ReaderState, Reader, Reads, Received, Turn, Unread, given_first, stops, with_link}
use Rattle.wl_link.specs.Served.{Handles}
use Rattle.wl_link.proofs.Calls.Branches.{at_false, at_true}
use Rattle.wl_link.specs.Inside.ReaderLoops.{HasReading, LeadsOn, EndsSo, ReceivedTo}

-- the storage that a receive finds is the one that it leaves
pub room_found : {T : Type 0} (receives : T → ℕ → Result Queue IoFault → T → Type 0) (before after : LinkState T) (r : Result Queue IoFault) (answer : Result (Unit {0}) IoFault)
    → FilledBy receives before r answer after → FindsRoom before (grown_capacity before) → FindsRoom before after.incoming_capacity
room_found receives before after r answer made finds = subst (λ (n : ℕ). FindsRoom before n) (sym (ap (λ (l : LinkState _). l.incoming_capacity) made.2)) finds

module _ {T Core Event Finish : Type 0} (sends : T → Queue → Result ℕ IoFault → T → Type 0) (receives : T → ℕ → Result Queue IoFault → T → Type 0)
    (reader : Reader Core Event Finish) where
  abbrev no_turns : List Turn
  no_turns = []

  -- a receive ended it
  abbrev pub stopped_by : IoFault → ℕ → Gives Event
  stopped_by f n = stops (Some f) (lacks_memory (Err f)) n

  -- after so many receives, where those that are left may lead, all may
  abbrev pub SoFar : ℕ → ReaderState T Core → List (Given Event) → Bool → ℕ → ReaderState T Core → Type 0
  SoFar allowed start gave refused used now =
      (left : ℕ) → used + left ≡ allowed → (rest : Gives Event) (end : ReaderState T Core) → HasReading sends receives reader left now rest end → HasReading sends receives reader allowed start (given_first gave refused rest) end

  pub here : (p : ReaderState T Core) → LeadsOn sends receives reader p [] false p
  here p left rest end reads = reads

  gives_is : (first : List (Given Event)) (g h : List (Given Event)) (a b : Bool) (rest : Gives Event) → g ≡ h → a ≡ b
      → ◌≡◌ {A = Gives Event} (record rest { gave = g; refused = a }) (record rest { gave = h; refused = b })
  gives_is first g h a b rest gave refused =
      let one : List (Given Event) → Gives Event = λ x. record rest { gave = x; refused = a } in
      let two : Bool → Gives Event = λ x. record rest { gave = h; refused = x } in
      ap one gave ∙ ap two refused

  or_assoc : (a b c : Bool) → (a || b) || c ≡ a || (b || c)
  or_assoc true b c = refl
  or_assoc false b c = refl

  behind_twice : (gave more : List (Given Event)) (refused lacked : Bool) (rest : Gives Event)
      → given_first gave refused (given_first more lacked rest) ≡ given_first (gave ++ more) (refused || lacked) rest
  behind_twice gave more refused lacked rest = gives_is gave _ _ _ _ rest (sym (append_assoc gave more rest.gave)) (sym (or_assoc refused lacked rest.refused))

  -- a message more
  pub one_more : (now after : ReaderState T Core) (gave : List (Given Event)) (refused : Bool) → reader.reads_on now.core ≡ true → Handles sends reader now gave refused after
      → LeadsOn sends receives reader now gave refused after
  one_more now after gave refused on (v, link, es, inl taken, carried) left rest end (turns, reads) =
      (Handled es ∷ turns, (on, (v, link, gave, refused, after, rest, taken, carried, refl, reads)))
  one_more now after gave refused on (v, link, es, inr malformed, carried) left rest end (turns, reads) =
      (Unread es ∷ turns, (on, (v, link, gave, refused, after, rest, malformed, carried, refl, reads)))

  pub leads_on : (start now after : ReaderState T Core) (gave more : List (Given Event)) (refused lacked : Bool) → LeadsOn sends receives reader start gave refused now → LeadsOn sends receives reader now more lacked after
      → LeadsOn sends receives reader start (gave ++ more) (refused || lacked) after
  leads_on start now after gave more refused lacked first second left rest end reads =
      subst (λ (o : Gives Event). HasReading sends receives reader left start o end) (behind_twice gave more refused lacked rest) (first left (given_first more lacked rest) end (second left rest end reads))

  -- the core reads on no more
  pub ends_there : (start now : ReaderState T Core) (gave : List (Given Event)) (refused : Bool) → LeadsOn sends receives reader start gave refused now → reader.reads_on now.core ≡ false
      → EndsSo sends receives reader start gave refused None false now
  ends_there start now gave refused leads off left =
      leads left (stops None false left) now ([], (refl, at_false (Halts sends reader left now (stops None false left)) (reader.reads_on now.core) off refl))

  halts : (left : ℕ) (now : ReaderState T Core) (out : Gives Event) → reader.reads_on now.core ≡ true → Halts sends reader left now out → HasReading sends receives reader left now out now
  halts left now out on h = ([], (refl, at_true (out ≡ stops None false left) (reader.reads_on now.core) on h))

  -- the message at the front asks for memory
  pub starves_there : (start now : ReaderState T Core) (gave : List (Given Event)) (refused : Bool) → LeadsOn sends receives reader start gave refused now → reader.reads_on now.core ≡ true
      → FrontAsks sends reader now → EndsSo sends receives reader start gave refused (Some fault.OutOfMemory) true now
  starves_there start now gave refused leads on asks left =
      leads left (stops (Some fault.OutOfMemory) true left) now (halts left now (stops (Some fault.OutOfMemory) true left) on (inr (inl (asks, refl))))

  -- ---- receives

  failed_is : (f g : IoFault) → ◌≡◌ {A = Result (Unit {0}) IoFault} (Err f) (Err g) → f ≡ g
  failed_is f g same = cc

  -- what a fill that failed comes to
  pub received_fault : ((c : Core) → reader.faulted c fault.OutOfMemory ≡ c) → (before : ReaderState T Core) (link : LinkState T) (f : IoFault) → Filled receives before.link (Err f) link
      → FindsRoom before.link (grown_capacity before.link) → ReceivedTo sends receives reader before (Some f) (record { core = reader.faulted before.core f; link = link })
  received_fault starves before link f (inl (r, made)) finds = inl (r, link, (made.0, refl, made.2), room_found receives before.link link r (Err f) made finds, sym made.1, refl)
  received_fault starves before link f (inr (is, same, asks)) finds =
      let memory = failed_is f fault.OutOfMemory is in
      let with_core : Core → ReaderState T Core = λ c. record { core = c; link = link } in
      inr (memory, ap with_core (ap (reader.faulted before.core) memory ∙ starves before.core) ∙ ap (with_link before) same, asks)

  module _ (allowed : ℕ) (start : ReaderState T Core) where
    pub begins : SoFar allowed start [] false 0 start
    begins left all rest end reads = subst (λ (n : ℕ). HasReading sends receives reader n start rest end) (let whole : left ≡ allowed = omega (arith, all) in whole) reads

    module _ (gave : List (Given Event)) (refused : Bool) (used : ℕ) (before : ReaderState T Core) (so_far : SoFar allowed start gave refused used before) where
      -- it ends while messages are handled
      pub ends_at : (more : List (Given Event)) (lacked : Bool) (stopped : Option IoFault) (short : Bool) (after : ReaderState T Core) → used ≤ allowed
          → EndsSo sends receives reader before more lacked stopped short after → (n : ℕ) × HasReading sends receives reader allowed start (given_first gave refused (given_first more lacked (stops stopped short n))) after
      ends_at more lacked stopped short after within ends =
          let left = allowed - used in
          (left, so_far left (omega (arith, within)) (given_first more lacked (stops stopped short left)) after (ends left))

      module _ (mid : ReaderState T Core) (more : List (Given Event)) (lacked : Bool) (leads : LeadsOn sends receives reader before more lacked mid) (on : reader.reads_on mid.core ≡ true) (lacks : Lacks sends reader mid) where
        -- all receives were made
        pub none_left : used ≡ allowed → HasReading sends receives reader allowed start (given_first gave refused (given_first more lacked (stops (Some fault.WouldBlock) false 0))) mid
        none_left all =
            let none : Gives Event = stops (Some fault.WouldBlock) false 0 in
            so_far 0 (omega (arith, all)) (given_first more lacked none) mid (leads 0 none mid (halts 0 mid none on (inl (lacks, refl, refl))))

        -- a receive ends it
        pub receive_ends : (f : IoFault) (after : ReaderState T Core) → used < allowed → ReceivedTo sends receives reader mid (Some f) after
            → (n : ℕ) × HasReading sends receives reader allowed start (given_first gave refused (given_first more lacked (stopped_by f n))) after
        receive_ends f after within made =
            let n = allowed - suc used in
            let end : Gives Event = stopped_by f n in
            (n, so_far (suc n) (omega (arith, within)) (given_first more lacked end) after (leads (suc n) end after (ended n made)))
          where
            ended : (n : ℕ) → ReceivedTo sends receives reader mid (Some f) after → HasReading sends receives reader (suc n) mid (stopped_by f n) after
            ended n (inl (r, link, filled, finds, is, same)) = (
              Received r ∷ [],
              (
                on,
                lacks,
                (
                  n,
                  refl,
                  (
                    link,
                    filled,
                    finds,
                    subst (λ (c : Result (Unit {0}) IoFault). MatchResult c (λ _. Reads sends reader receives n (with_link mid link) [] (stopped_by f n) after)
                        (λ g. (no_turns ≡ []) × (stopped_by f n ≡ stopped_by g n)
                        × (after ≡ record { core = reader.faulted mid.core g; link = link }))) (sym is) (refl, refl, same),
                  ),
                ),
              ),
            )
            ended n (inr (memory, same, asks)) =
                subst (λ (g : IoFault). HasReading sends receives reader (suc n) mid (stopped_by g n) after) (sym memory)
                (subst (λ (x : ReaderState T Core). HasReading sends receives reader (suc n) mid (stopped_by fault.OutOfMemory n) x) (sym same)
                (halts (suc n) mid (stopped_by fault.OutOfMemory n) on (inr (inr ((lacks, asks), (n, refl, refl))))))

        -- a receive after which it goes on
        pub receive_goes_on : (after : ReaderState T Core) → ReceivedTo sends receives reader mid None after → SoFar allowed start (gave ++ more) (refused || lacked) (used + 1) after
        receive_goes_on after (r, filled, finds, came, same) left all rest end (turns, reads) =
            let received : HasReading sends receives reader (suc left) mid rest end
            = (
              Received r ∷ turns,
              (
                on,
                lacks,
                (
                  left,
                  refl,
                  (
                    after.link,
                    filled,
                    finds,
                    subst (λ (c : Result (Unit {0}) IoFault). MatchResult c (λ _. Reads sends reader receives left (with_link mid after.link) turns rest end)
                        (λ g. (turns ≡ []) × (rest ≡ stops (Some g) (lacks_memory (Err g)) left)
                        × (end ≡ record { core = reader.faulted mid.core g; link = after.link }))) (sym came)
                        (subst (λ (x : ReaderState T Core). Reads sends reader receives left x turns rest end) same reads),
                  ),
                ),
              ),
            ) in
            subst (λ (o : Gives Event). HasReading sends receives reader allowed start o end) (behind_twice gave more refused lacked rest)
            (so_far (suc left) (omega (arith, all)) (given_first more lacked rest) end (leads (suc left) rest end received))
