-- What a reading over the transport by script received and sent.
use Rattle.std.proofs.Common.{◌≡◌, ◌≢◌, ◌⊎◌, ◌<◌, ◌≤◌, ℕ, zero, suc, false, List, [], ◌∷◌, ◌++◌, length, arith, Option, Some, Result, Ok, Err, is_ok, MatchResult, refl, sym, ap, subst, ◌∙◌, true≢false}
use mathlib.Core.Logic.{inl, inr}
use Rattle.wl_wire.specs.declared.error.IoFault.{IoFault}
use Rattle.wl_wire.specs.declared.error.IoFault.TheVariants as fault
use Rattle.wl_wire.specs.Parse.{length_of}
use Rattle.wl_link.specs.Exchange.{Chain, Queue, Sending, joined, nothing}
use Rattle.wl_link.specs.Link.{FilledBy, FindsRoom, LacksBytes, LinkState, count_of, counted_answer, free_room, grown_capacity, incoming_limit, with_came}
use Rattle.wl_link.specs.Puts.{lacks_memory}
use Rattle.wl_link.specs.Reader.{AllFed, Gives, Handled, Lacks, Leaves, ReaderState, Reader, Reads, Received, Takes, Then, Turn, Unread, Verdict, came_by, received_in, sends_in, stops, with_link}
use Rattle.wl_link.specs.Served.{Finds}
use Rattle.wl_link.specs.Script.{Script, ScriptReceives, ScriptSends}
use Rattle.wl_link.specs.Stretch.{AllPieces, HasByteFree, MayCome, NotFull, left_over, sending_side}
use Rattle.wl_link.proofs.Readings.PutsLaws.{not_lacked}
use Rattle.wl_link.proofs.Readings.ServedLaws.{both_false}
use Rattle.wl_link.proofs.Readings.CuttingLaws.{byte_came}
use Rattle.wl_link.proofs.Stretches.SendingLaws.{carries_send}
use Rattle.wl_link.proofs.Stretches.ArrivalLaws.{Pieces, lacks_there, script_gives_roomy}
use Rattle.wl_link.proofs.Calls.LaterLaws.{lacks_bytes, other_reads}
use Rattle.wl_link.proofs.Calls.QueueLaws.{chain_joins, joined_assoc, joined_nothing}

module _ {Core Event Finish : Type 0} (reader : Reader Core Event Finish) where
  -- What a reading received and sent: each receive was fed, what it received and left is what was there, and its sends are
  -- the script's.
  pub record Ran (before : LinkState Script) (turns : List Turn) (after : LinkState Script) : Type 0 where
    pub fed : AllFed turns
    pub came : left_over before.transport.arrivals ≡ joined (received_in turns) (left_over after.transport.arrivals)
    pub pieces : AllPieces after.transport.arrivals
    pub chain : Chain ScriptSends (sending_side before.transport) (sends_in turns) (sending_side after.transport)

  ran_nothing : (before after : LinkState Script) (turns : List Turn) → turns ≡ [] → after.transport ≡ before.transport → AllPieces before.transport.arrivals → Ran before turns after
  ran_nothing before after turns none same all = record {
    fed = subst AllFed (sym none) tt;
    came = ap (λ (s : Script). left_over s.arrivals) (sym same) ∙ ap (λ (ts : List Turn). joined (received_in ts) (left_over after.transport.arrivals)) (sym none);
    pieces = subst (λ (s : Script). AllPieces s.arrivals) (sym same) all;
    chain = subst (λ (ts : List Turn). Chain ScriptSends (sending_side before.transport) (sends_in ts) (sending_side after.transport)) (sym none) (ap sending_side same);
  }

  receive_keeps : (before after : Script) (room : ℕ) (r : Result Queue IoFault) → ScriptReceives before room r after → sending_side after ≡ sending_side before
  receive_keeps before after zero r (inl (few, is, same)) = ap sending_side same
  receive_keeps before after (suc n) r (inl (few, is, same)) = ap sending_side same
  receive_keeps before after room r (inr (is, same, some)) = ap sending_side same

  ran_received : (before mid after : LinkState Script) (r : Result Queue IoFault) (turns : List Turn) → Pieces before.transport.arrivals r mid.transport.arrivals
      → sending_side mid.transport ≡ sending_side before.transport → Ran mid turns after → Ran before (Received r ∷ turns) after
  ran_received before mid after r turns gives same rest = record {
    fed = (gives.fed, rest.fed);
    came = gives.came ∙ ap (joined (came_by r)) rest.came ∙ sym (joined_assoc (came_by r) (received_in turns) (left_over after.transport.arrivals));
    pieces = rest.pieces;
    chain = subst (λ (s : Script). Chain ScriptSends s (sends_in turns) (sending_side after.transport)) same rest.chain;
  }

  module _ (after : ReaderState Script Core) (roomy : NotFull reader after) where
    abbrev ReceivedThen : ℕ → ReaderState Script Core → List Turn → Gives Event → LinkState Script → Result (Unit {0}) IoFault → Type 0
    ReceivedThen n p turns out link c =
        MatchResult c (λ _. Reads ScriptSends reader ScriptReceives n (with_link p link) turns out after)
        (λ f. (turns ≡ []) × (out ≡ stops (Some f) (lacks_memory (Err f)) n) × (after ≡ record { core = reader.faulted p.core f; link = link }))

    not_memory : (n : ℕ) (p : ReaderState Script Core) (turns : List Turn) (out : Gives Event) (link : LinkState Script) (c : Result (Unit {0}) IoFault) → out.refused ≡ false
        → ReceivedThen n p turns out link c → c ≢ Err fault.OutOfMemory
    not_memory n p turns out link (Ok u) ample h is = true≢false (ap is_ok is)
    not_memory n p turns out link (Err f) ample h is =
        let lacked : lacks_memory (Err f) ≡ false = sym (ap (λ (o : Gives Event). o.refused) h.1) ∙ ample in
        not_lacked (Err f) lacked is

    not_full : (n : ℕ) (p : ReaderState Script Core) (turns : List Turn) (out : Gives Event) (link : LinkState Script) (r : Result Queue IoFault) → out.refused ≡ false
        → Lacks ScriptSends reader p → FilledBy ScriptReceives p.link r (counted_answer (count_of r)) link
        → FindsRoom p.link link.incoming_capacity → ReceivedThen n p turns out link (counted_answer (count_of r))
        → free_room p.link ≡ 0 → ⊥
    not_full n p turns out link r ample lacks filled finds h full = at (subst (λ (room : ℕ). ScriptReceives p.link.transport room r link.transport) full filled.0)
      where
        memory : counted_answer (count_of r) ≢ Err fault.OutOfMemory
        memory = not_memory n p turns out link (counted_answer (count_of r)) ample h

        here : ReaderState Script Core
        here = record { core = p.core; link = link }

        -- it found a byte free
        free : link.incoming ≡ p.link.incoming → HasByteFree link ⊎ MayCome reader p.core link → Lacks ScriptSends reader here → HasByteFree link
        free waits (inl some) there = some
        free waits (inr (fits, in_time)) (inr late) = absurd (in_time late)
        free waits (inr (fits, in_time)) (inl short) =
            let limit : link.limit ≡ p.link.limit = ap (λ (l : LinkState Script). l.limit) filled.2 in
            let fits' = subst (λ (q : Queue). 8 ≤ length q.bytes → length_of q.bytes ≤ incoming_limit link.limit) waits fits in
            let fits'' = subst (λ (m : Option ℕ). 8 ≤ length p.link.incoming.bytes → length_of p.link.incoming.bytes ≤ incoming_limit m) limit fits' in
            let lacking = lacks_bytes (λ sender opcode found. found ≡ reader.signature p.core sender opcode) link short in
            let lacking' = subst (λ (q : Queue). LacksBytes q.bytes) waits lacking in
            subst (λ (q : Queue). length q.bytes < link.incoming_capacity) (sym waits) (finds lacking' fits'')

        at : ScriptReceives p.link.transport 0 r link.transport → ⊥
        at (inr (is, same, some)) = memory (ap (λ (z : Result Queue IoFault). counted_answer (count_of z)) is)
        at (inl (few, is, same)) =
            let g = subst (λ (z : Result Queue IoFault). ReceivedThen n p turns out link (counted_answer (count_of z))) is h in
            let waits : link.incoming ≡ p.link.incoming
            = ap (λ (l : LinkState Script). l.incoming) filled.2 ∙ ap (λ (z : Result Queue IoFault). with_came p.link.incoming z) is ∙ joined_nothing p.link.incoming in
            let room : link.incoming_capacity ≡ grown_capacity p.link = ap (λ (l : LinkState Script). l.incoming_capacity) filled.2 in
            let there = lacks_there ScriptSends ScriptSends reader p link waits lacks in
            let ends = subst (NotFull reader) g.2 roomy p.core (refl, there) in
            let some = free waits ends there in
            omega (arith, some, room, full, ap (λ (q : Queue). length q.bytes) waits)

    found_link : (p : ReaderState Script Core) (v : Verdict Core Event) (link : LinkState Script) → Finds ScriptSends reader p v link → link.transport ≡ p.link.transport
    found_link p v link (inl (m, read, is)) =
        ap (λ (l : LinkState Script). l.transport)
        (other_reads (λ sender opcode f. f ≡ reader.signature p.core sender opcode) p.link p.link nothing (sym (joined_nothing p.link.incoming)) m link read).0
    found_link p v link (inr (malformed, same, is)) = ap (λ (l : LinkState Script). l.transport) same

    -- a verdict that was carried out, and what followed it
    ran_heard : (Found : ReaderState Script Core → Verdict Core Event → LinkState Script → Type 0) (p : ReaderState Script Core)
        → ((v : Verdict Core Event) (link : LinkState Script) → Found p v link → Finds ScriptSends reader p v link)
        → (turn : Turn) (turns : List Turn) (es : List Sending) (out : Gives Event) (on : ReaderState Script Core → Gives Event → Type 0) → out.refused ≡ false
        → AllPieces p.link.transport.arrivals
        → (AllFed turns → AllFed (turn ∷ turns)) → received_in (turn ∷ turns) ≡ received_in turns → sends_in (turn ∷ turns) ≡ es ++ sends_in turns
        → Then ScriptSends reader Found p es out on
        → ((mid : ReaderState Script Core) (rest : Gives Event) → rest.refused ≡ false → on mid rest → AllPieces mid.link.transport.arrivals → Ran mid.link turns after.link)
        → Ran p.link (turn ∷ turns) after.link
    ran_heard Found p finds turn turns es out on' ample all feeds came sent' (on, (v, link, first, lacked, mid, rest, found, carried, split, more)) goes =
        let same = found_link p v link (finds v link found) in
        let sent = carries_send reader v link mid es first lacked carried in
        let kept : mid.link.transport.arrivals ≡ p.link.transport.arrivals = sent.arrivals ∙ ap (λ (s : Script). s.arrivals) same in
        let ok = both_false lacked rest.refused (sym ample ∙ ap (λ (o : Gives Event). o.refused) split) in
        let r = goes mid rest ok.1 more (subst AllPieces (sym kept) all) in
        record {
          fed = feeds r.fed;
          came = ap left_over (sym kept) ∙ r.came ∙ ap (λ (q : Queue). joined q (left_over after.link.transport.arrivals)) (sym came);
          pieces = r.pieces;
          chain = subst (λ (fs : List Sending). Chain ScriptSends (sending_side p.link.transport) fs (sending_side after.link.transport)) (sym sent')
              (chain_joins ScriptSends (sending_side p.link.transport) (sending_side mid.link.transport) (sending_side after.link.transport) es (sends_in turns)
              (subst (λ (s : Script). Chain ScriptSends (sending_side s) es (sending_side mid.link.transport)) same sent.chain) r.chain);
        }

    pub ran : (left : ℕ) (p : ReaderState Script Core) (turns : List Turn) (out : Gives Event) → out.refused ≡ false → Reads ScriptSends reader ScriptReceives left p turns out after
        → AllPieces p.link.transport.arrivals → Ran p.link turns after.link
    ran left p [] out ample (same, ends) all = ran_nothing p.link after.link [] refl (ap (λ (x : ReaderState Script Core). x.link.transport) same) all
    ran left p (Received (Ok came) ∷ turns) out ample (on, lacks, (n, is, (link, filled, finds, h))) all =
        let c : Result (Unit {0}) IoFault = counted_answer (count_of (Ok came)) in
        let gives = script_gives_roomy p.link.transport link.transport (free_room p.link) (Ok came) filled.0 all (not_memory n p turns out link c ample h)
        (not_full n p turns out link (Ok came) ample lacks filled finds h) in
        let more = subst (λ z. ReceivedThen n p turns out link z) (byte_came came gives.fed) h in
        ran_received p.link link after.link (Ok came) turns gives (receive_keeps p.link.transport link.transport _ (Ok came) filled.0) (ran n (with_link p link) turns out ample more gives.pieces)
    ran left p (Received (Err f) ∷ turns) out ample (on, lacks, (n, is, (link, filled, finds, h))) all =
        let gives = script_gives_roomy p.link.transport link.transport (free_room p.link) (Err f) filled.0 all (not_memory n p turns out link (Err f) ample h)
        (not_full n p turns out link (Err f) ample lacks filled finds h) in
        ran_received p.link link after.link (Err f) turns gives (receive_keeps p.link.transport link.transport _ (Err f) filled.0)
        (ran_nothing link after.link turns h.0 (ap (λ (x : ReaderState Script Core). x.link.transport) h.2) gives.pieces)
    ran left p (Handled es ∷ turns) out ample h all =
        ran_heard (Takes ScriptSends reader) p (λ v link t. inl t) (Handled es) turns es out _ ample all (λ fed. fed) refl refl h
        (λ mid rest ok reads pieces. ran left mid turns rest ok reads pieces)
    ran left p (Unread es ∷ turns) out ample h all =
        ran_heard (Leaves ScriptSends reader) p (λ v link t. inr t) (Unread es) turns es out _ ample all (λ fed. fed) refl refl h
        (λ mid rest ok reads pieces. ran left mid turns rest ok reads pieces)
