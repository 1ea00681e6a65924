-- That it does not matter to a reader how bytes and tokens are cut.
use Rattle.std.proofs.Common.{◌≡◌, ◌≢◌, ℕ, zero, suc, Bool, true, false, List, [], ◌∷◌, ◌++◌, append-nil, Option, None, Some, Result, Ok, Err, MatchResult, MatchBool, refl, sym, ap, subst, ◌∙◌, length, cond}
use Rattle.std.proofs.lemmas.Bool.{ne_eqb}
use Rattle.std.proofs.lemmas.List.{nil_from_length}
use mathlib.Core.Logic.{inl, inr}
use Rattle.wl_wire.specs.declared.argument.ArgumentType.{ArgumentType}
use Rattle.wl_wire.specs.declared.error.IoFault.{IoFault}
use Rattle.wl_wire.specs.declared.error.IoFault.TheVariants as fault
use Rattle.wl_link.specs.Exchange.{Chain, Queue, Sending, joined, nothing, IsFunction}
use Rattle.wl_link.specs.Link.{LinkState, count_of, counted_answer, grown_capacity, with_incoming, with_incoming_capacity}
use Rattle.wl_link.specs.Puts.{lacks_memory}
use Rattle.wl_link.specs.Reader.{AllFed, CarriesOut, Ends, Given, Gives, Halts, Handled, Leaves, ReaderState, Reader, Reads, ReadsAs, Received, Stops, Takes, Then, Turn, Unread, Verdict, received_in, sends_in, stops, with_link}
use Rattle.wl_link.specs.Served.{Finds, GoesOnAs, Handles, Serves, ServesOne, TakesNext, link_as, state_as}
use Rattle.wl_link.proofs.Calls.LaterLaws.{other_malformed, other_reads, unreadable_later}
use Rattle.wl_link.proofs.Calls.Branches.{at_false, at_true}
use Rattle.wl_link.proofs.Calls.QueueLaws.{chain_parts, joined_assoc}
use Rattle.wl_link.proofs.Readings.PutsLaws.{flushes_there, puts_there}
use Rattle.wl_link.proofs.Readings.ServedLaws.{both_false, served_before, served_later}

module _ {T S : Type 0} (sends : T → Queue → Result ℕ IoFault → T → Type 0) (others : S → Queue → Result ℕ IoFault → S → Type 0) (more : Queue) where
  -- a verdict is carried out so over any transport that allows its sends
  pub carries_there : {Core Event Finish : Type 0} (reader : Reader Core Event Finish) (v : Verdict Core Event) (before : LinkState T) (after : ReaderState T Core) (es : List Sending)
      (gave : List (Given Event)) (refused : Bool) (t u : S) → Chain others t es u → CarriesOut sends reader v before es gave refused after
      → CarriesOut others reader v (link_as before more t) es gave refused (state_as after more u)
  carries_there reader v before after es gave refused t u chain (inl (first, next, put, wrote, mid, lacked, puts, flushes, split, end, is, was)) =
      let parts = chain_parts others first next t u (subst (λ (fs : List Sending). Chain others t fs u) split chain) in
      inl (
        first,
        next,
        put,
        wrote,
        link_as mid more parts.0,
        lacked,
        puts_there sends others more v.puts before mid first put wrote t parts.0 parts.1 puts,
        flushes_there sends others more v.flushes lacked mid after.link next parts.0 u parts.2 flushes,
        split,
        end,
        is,
        was,
      )
  carries_there {Core = Core} reader v before after es gave refused t u chain (inr (asks, was, none, is, same)) =
      let still : u ≡ t = subst (λ (fs : List Sending). Chain others t fs u) none chain in
      let p : ReaderState T Core = record { core = v.starved; link = before } in
      inr (asks, was, none, is, ap (λ (x : ReaderState T Core). state_as x more u) same ∙ ap (λ (w : S). state_as p more w) still)

-- what came has a byte, so the receive did not fail
pub byte_came : (came : Queue) → came.bytes ≢ [] → counted_answer (count_of (Ok came)) ≡ Ok tt
byte_came came some =
    ap (λ (b : Bool). let r : Result (Unit {0}) IoFault = cond b (Err fault.Pipe) (Ok tt) in r)
    (ne_eqb (length came.bytes) 0 (λ none. some (nil_from_length came.bytes none)))

module _ {S Core Event Finish : Type 0} (others' : S → Queue → Result ℕ IoFault → S → Type 0) (reader : Reader Core Event Finish) (p after : ReaderState S Core) (finishes : List Finish) (gave : List (Given Event)) where
  pub serves_hearing : reader.reads_on p.core ≡ true → Handles others' reader p gave false after → ServesOne others' reader p finishes gave after finishes
  serves_hearing on hears = at_true (TakesNext others' reader p finishes gave after finishes) (reader.reads_on p.core) on (hears, refl)

  pub serves_ending : (u : Finish) (es : List Sending) → reader.reads_on p.core ≡ false → Ends others' reader p u es gave false after → ServesOne others' reader p (u ∷ finishes) gave after finishes
  serves_ending u es off ends = at_false (Handles others' reader p gave false after × (finishes ≡ u ∷ finishes)) (reader.reads_on p.core) off (es, ends, refl)

module _ {T S Core Event Finish : Type 0} (sends : T → Queue → Result ℕ IoFault → T → Type 0) (others' : S → Queue → Result ℕ IoFault → S → Type 0)
    (reader : Reader Core Event Finish) where
  -- what a read finds is found where more waits
  pub finds_more : (p : ReaderState T Core) (v : Verdict Core Event) (link : LinkState T) (more : Queue) (answers : S) → Finds sends reader p v link
      → Finds others' reader (state_as p more answers) v (link_as link more answers)
  finds_more p v link more answers (inl (m, read, is)) =
      let looks = λ (sender : ℕ) (opcode : ℕ) (found : Option (List ArgumentType)). found ≡ reader.signature p.core sender opcode in
      let r = other_reads looks p.link (link_as p.link more answers) more refl m link read in
      let left : link_as link more answers ≡ with_incoming (link_as p.link more answers) answers (joined link.incoming more)
      = ap (λ (l : LinkState T). link_as l more answers) r.0 in
      inl (m, subst (λ (l : LinkState S). ReadsAs others' reader (state_as p more answers) (Ok m) l) (sym left) r.1, is)
  finds_more p v link more answers (inr (malformed, same, is)) =
      let looks = λ (sender : ℕ) (opcode : ℕ) (found : Option (List ArgumentType)). found ≡ reader.signature p.core sender opcode in
      inr (
        other_malformed looks p.link (link_as p.link more answers) more refl p.link malformed,
        ap (λ (l : LinkState T). link_as l more answers) same,
        is ∙ ap (reader.malformed p.core) (sym (unreadable_later (reader.signature p.core) p.link p.link more.bytes malformed)),
      )

module _ {T S Core Event Finish : Type 0} (sends : T → Queue → Result ℕ IoFault → T → Type 0) (receives : T → ℕ → Result Queue IoFault → T → Type 0)
    (others' : S → Queue → Result ℕ IoFault → S → Type 0) (reader : Reader Core Event Finish) where
  module _ (blocks : (core : Core) → reader.faulted core fault.WouldBlock ≡ core) (after : ReaderState T Core) (rest : Queue) (last : S) (finishes : List Finish) where
    abbrev pub Comes : ReaderState T Core → Queue → S → List (Given Event) → Type 0
    Comes p came first gave = (n : ℕ) × Serves others' reader n (state_as p (joined came rest) first) finishes gave (state_as after rest last) finishes

    moved : (p : ReaderState T Core) (link : LinkState T) (came came' : Queue) (t : S) → link ≡ with_incoming (with_incoming_capacity p.link (grown_capacity p.link)) link.transport (joined p.link.incoming came)
        → state_as (with_link p link) (joined came' rest) t ≡ state_as p (joined (joined came came') rest) t
    moved p link came came' t is =
        let holding : Queue → ReaderState S Core = λ q. record { core = p.core; link = with_incoming (link_as p.link nothing t) t q } in
        ap (λ (l : LinkState T). state_as (with_link p l) (joined came' rest) t) is
        ∙ ap holding (joined_assoc p.link.incoming came (joined came' rest) ∙ ap (joined p.link.incoming) (sym (joined_assoc came came' rest)))

    stopped_nothing : (left : ℕ) (p : ReaderState T Core) (out : Gives Event) → Stops sends reader left p out → out.gave ≡ []
    stopped_nothing left p out stops' = go (reader.reads_on p.core) stops'
      where
        gave_of : Gives Event → List (Given Event)
        gave_of o = o.gave

        go : (b : Bool)
            → MatchBool b (Halts sends reader left p out) (out ≡ stops None false left)
            → out.gave ≡ []
        go true (inl (lacks, none, is)) = ap gave_of is
        go true (inr (inl (asks, is))) = ap gave_of is
        go true (inr (inr (lacks, (n, one, is)))) = ap gave_of is
        go false is = ap gave_of is

    -- a verdict that was carried out is the next that is served
    heard : (Found : ReaderState T Core → Verdict Core Event → LinkState T → Type 0) (p : ReaderState T Core) → ((v : Verdict Core Event) (link : LinkState T) → Found p v link → Finds sends reader p v link)
        → (left : ℕ) (turns : List Turn) (es : List Sending) (out : Gives Event) (first : S) → out.refused ≡ false → Chain others' first (es ++ sends_in turns) last
        → Then sends reader Found p es out (λ mid more. Reads sends reader receives left mid turns more after)
        → ((mid : ReaderState T Core) (more : Gives Event) (t : S) → more.refused ≡ false → Chain others' t (sends_in turns) last
        → Reads sends reader receives left mid turns more after → Comes mid (received_in turns) t more.gave)
        → Comes p (received_in turns) first out.gave
    heard Found p finds left turns es out first ample chain (on, (v, link, put, lacked, mid, more, found, carried, split, reads)) goes =
        let parts = chain_parts others' es (sends_in turns) first last chain in
        let unasked = both_false lacked more.refused (sym ample ∙ ap (λ (o : Gives Event). o.refused) split) in
        let r = goes mid more parts.0 unasked.1 parts.2 reads in
        let q : Queue = joined (received_in turns) rest in
        let carried' = subst (λ (l : Bool). CarriesOut sends reader v link es put l mid) unasked.0 carried in
        let heard' : Handles others' reader (state_as p q first) put false (state_as mid q parts.0)
        = (v, link_as link q first, es, finds_more sends others' reader p v link q first (finds v link found), carries_there sends others' q reader v link mid es put false first parts.0 parts.1 carried') in
        let one : ServesOne others' reader (state_as p q first) finishes put (state_as mid q parts.0) finishes
        = serves_hearing others' reader (state_as p q first) (state_as mid q parts.0) finishes put on heard' in
        (suc r.0, (put, more.gave, state_as mid q parts.0, finishes, one, ap (λ (o : Gives Event). o.gave) split, r.1))

    pub comes : (left : ℕ) (p : ReaderState T Core) (turns : List Turn) (out : Gives Event) (first : S) → AllFed turns → out.refused ≡ false → Chain others' first (sends_in turns) last
        → Reads sends reader receives left p turns out after → Comes p (received_in turns) first out.gave
    comes left p [] out first fed ample chain (same, stops') =
        (zero, (stopped_nothing left p out stops', ap (λ (x : ReaderState T Core). state_as x rest last) same ∙ ap (λ (t : S). state_as p rest t) chain, refl))
    comes left p (Received (Ok came) ∷ turns) out first (fed, others) ample chain (on, lacks, (n, is, (link, filled, finds, h))) =
        let more = subst (λ (c : Result (Unit {0}) IoFault). MatchResult c (λ _. Reads sends reader receives n (with_link p link) turns out after)
        (λ f. (turns ≡ []) × (out ≡ stops (Some f) (lacks_memory (Err f)) n) × (after ≡ record { core = reader.faulted p.core f; link = link }))) (byte_came came fed) h in
        let r = comes n (with_link p link) turns out first others ample chain more in
        (r.0, subst (λ (x : ReaderState S Core). Serves others' reader r.0 x finishes out.gave (state_as after rest last) finishes) (moved p link came (received_in turns) first filled.2) r.1)
    comes left p (Received (Err f) ∷ turns) out first (blocked, others) ample chain (on, lacks, (n, is, (link, filled, finds, (none, ends, same)))) =
        let core : reader.faulted p.core f ≡ p.core = ap (reader.faulted p.core) blocked ∙ blocks p.core in
        let still' : last ≡ first = subst (λ (ts : List Turn). Chain others' first (sends_in ts) last) none chain in
        let end : state_as after rest last ≡ state_as p (joined (received_in turns) rest) first
        = ap (λ (x : ReaderState T Core). state_as x rest last) same
        ∙ ap (λ (c : Core). let x : ReaderState S Core = record { core = c; link = link_as link rest last } in x) core
        ∙ ap (λ (l : LinkState T). state_as (with_link p l) rest last) filled.2
        ∙ ap (λ (t : S). state_as p rest t) still'
        ∙ ap (λ (ts : List Turn). state_as p (joined (received_in ts) rest) first) (sym none) in
        (zero, (ap (λ (o : Gives Event). o.gave) ends, end, refl))
    comes left p (Handled es ∷ turns) out first fed ample chain h =
        heard (Takes sends reader) p (λ v link t. inl t) left turns es out first ample chain h (λ mid more t ok c reads. comes left mid turns more t fed ok c reads)
    comes left p (Unread es ∷ turns) out first fed ample chain h =
        heard (Leaves sends reader) p (λ v link t. inr t) left turns es out first ample chain h (λ mid more t ok c reads. comes left mid turns more t fed ok c reads)

  -- a reading, whatever it received
  pub reading_law : IsFunction others' → ((core : Core) → reader.faulted core fault.WouldBlock ≡ core) → (left : ℕ) (p after : ReaderState T Core) (turns : List Turn)
      (out : Gives Event) → Reads sends reader receives left p turns out after → AllFed turns → out.refused ≡ false → (finishes : List Finish)
      → GoesOnAs others' reader p (received_in turns) (sends_in turns) finishes out.gave after finishes
  reading_law function blocks left p after turns out reads fed ample finishes rest first last all end chain =
      let c = comes blocks after rest last finishes left p turns out first fed ample chain reads in (
        served_later others' function reader end c.0 (state_as p (joined (received_in turns) rest) first) (state_as after rest last) finishes finishes out.gave all c.1,
        served_before others' function reader end c.0 (state_as p (joined (received_in turns) rest) first) (state_as after rest last) finishes finishes out.gave all c.1,
      )

  -- an accepted finish
  pub finish_law : IsFunction others' → (p after : ReaderState T Core) (u : Finish) (es : List Sending) (gave : List (Given Event)) → reader.reads_on p.core ≡ false
      → Ends sends reader p u es gave false after → (finishes : List Finish) → GoesOnAs others' reader p nothing es (u ∷ finishes) gave after finishes
  finish_law function p after u es gave open' (v, is, carried) finishes rest first last all end chain =
      let one : ServesOne others' reader (state_as p rest first) (u ∷ finishes) gave (state_as after rest last) finishes
      = serves_ending others' reader (state_as p rest first) (state_as after rest last) finishes gave u es open' (v, is, carries_there sends others' rest reader v p.link after es gave false first last chain carried) in
      let serves : Serves others' reader 1 (state_as p rest first) (u ∷ finishes) gave (state_as after rest last) finishes
      = (gave, [], state_as after rest last, finishes, one, sym (append-nil gave), (refl, refl, refl)) in (
        served_later others' function reader end 1 (state_as p rest first) (state_as after rest last) (u ∷ finishes) finishes gave all serves,
        served_before others' function reader end 1 (state_as p rest first) (state_as after rest last) (u ∷ finishes) finishes gave all serves,
      )
