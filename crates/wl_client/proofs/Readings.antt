-- How the functions of a client's reading say the reader's words.
use Rattle.std.proofs.Common.{◌≡◌, ◌≢◌, ◌∙◌, ℕ, ◌+◌, ◌<◌, ◌≤◌, Bool, true, false, ◌||◌, ◌&&◌, List, [], ◌∷◌, append-nil, length, Option, None, Some, is_some, is_none, option_map, Result, Ok, Err, is_ok, MatchBool, MatchOption, refl, sym, ap, ap₂, subst, arith, true≢false}
use mathlib.Core.Logic.{inl, inr}
use Rattle.std.proofs.lemmas.List.{length-drop}
use Rattle.wl_wire.specs.declared.argument.ArgumentType.{ArgumentType}
use Rattle.wl_wire.specs.declared.argument.Token.{Token}
use Rattle.wl_wire.specs.declared.error.IoFault.{IoFault}
use Rattle.wl_wire.specs.declared.error.IoFault.TheVariants as fault
use Rattle.wl_wire.specs.declared.error.MessageParseError.{MessageParseError}
use Rattle.wl_wire.specs.declared.error.MessageParseError.TheVariants as parse
use Rattle.wl_wire.specs.declared.message.Message.{Message}
use Rattle.wl_wire.specs.Message.{WireMessage}
use Rattle.wl_wire.specs.Parse.{length_of, opcode_of, sender_of}
use Rattle.wl_wire.specs.Table.{MessageRow}
use Rattle.wl_link.specs.Exchange.{Queue}
use Rattle.wl_link.specs.Link.{LinkState, Filled, FindsRoom, ReadFound, grown_capacity}
use Rattle.wl_link.specs.Puts.{lacks_memory}
use Rattle.wl_link.specs.Reader.{FrontAsks, CarriesOut, Given, HandedOut, ReaderState}
use Rattle.wl_link.specs.Inside.ReaderLoops.{EndsSo, LeadsOn, ReceivedTo as PartReceived}
use Rattle.wl_link.proofs.Readings.ReaderLoops.{SoFar, begins, ends_at, ends_there, leads_on, none_left, one_more, receive_ends, receive_goes_on, received_fault, starves_there}
use Rattle.wl_link.specs.Served.{Handles}
use Rattle.wl_client.specs.declared.error.EventError.{EventError}
use Rattle.wl_client.specs.declared.error.EventError.TheVariants as no_event
use Rattle.wl_client.specs.declared.error.WaylandError.TheVariants.{Io}
use Rattle.wl_client.specs.declared.error.WaylandError.{WaylandError}
use Rattle.wl_client.specs.declared.event.OpenEvent.{OpenEvent}
use Rattle.wl_client.specs.declared.message.NoEvent.{NoEvent}
use Rattle.wl_client.specs.ObjectId.{IdParts}
use Rattle.wl_client.specs.Freeing.{freed_asks}
use Rattle.wl_client.specs.Handling.{Handling, Swallows, HandsOut, Breaks, handling_by}
use Rattle.wl_client.specs.Reading.{NextEvent, Lacks, ReadsAs, ReadsTo, answered, by_fault, client, faulted, handed_by, reader_state_of, reads_on, receives_allowed, row_asks, verdict, with_link}
use Rattle.wl_client.specs.Requests.{SessionMessage, session_content}
use Rattle.wl_client.specs.Session.{Core, SessionState, core_of, objects_of}
use Rattle.wl_client.proofs.Handling.{known_signature}
use Rattle.wl_client.specs.Inside.ReadingLoop.{MessageResult, GaveEvent, WentOn, LacksMore, Ended, EndsAs, HandledOf, HandledTo, ReadSoFar, Live, NotTaken, ReceivedTo, HandlesMessage, event_answer, event_refused, freed_session, malformed}

abbrev ok_answer : WireMessage → Result WireMessage MessageParseError
ok_answer m = Ok m

-- a message that was read has left the link
shorter_found : {T : Type 0} (found : Option (List ArgumentType)) (before : LinkState T) (m : WireMessage) (after : LinkState T)
    → ReadFound found before (Ok m) after → length after.incoming.bytes < length before.incoming.bytes
shorter_found None before m after (impossible, same) = absurd (ok_err impossible)
  where
    ok_err : ok_answer m ≡ Err parse.Malformed → ⊥
    ok_err e = true≢false (ap is_ok e)
shorter_found (Some signature) before m after (reads, left) =
    subst (λ (l : LinkState _). length l.incoming.bytes < length before.incoming.bytes) (sym left)
    (omega (arith, length-drop (length_of before.incoming.bytes) before.incoming.bytes, reads.whole.counts_header, reads.whole.there))

shorter_at : {T : Type 0} (b : Bool) (looks_up : Option (List ArgumentType) → Type 0) (before : LinkState T) (m : WireMessage) (after : LinkState T)
    → MatchBool b ((found : Option (List ArgumentType)) × looks_up found × ReadFound found before (Ok m) after)
    ((ok_answer m ≡ Err parse.MissingData) × (after ≡ before))
    → length after.incoming.bytes < length before.incoming.bytes
shorter_at true looks_up before m after (found, is, read) = shorter_found found before m after read
shorter_at false looks_up before m after (impossible, same) = absurd (ok_err impossible)
  where
    ok_err : ok_answer m ≡ Err parse.MissingData → ⊥
    ok_err e = true≢false (ap is_ok e)

-- what a turn gives, and whether memory was refused in it
abbrev pub given_by : MessageResult → List (Given SessionMessage)
given_by (GaveEvent e) = HandedOut (session_content e) ∷ []
given_by _ = []

abbrev pub refused_by : MessageResult → Bool
refused_by (Ended end) = end.refused
refused_by _ = false

and_false : (b : Bool) → b && false ≡ false
and_false true = refl
and_false false = refl

none_of : {A : Type 0} (o : Option A) → is_some o ≡ false → o ≡ None
none_of None h = refl
none_of (Some x) h = absurd (true≢false h)

or_false : (b : Bool) → b ≡ b || false
or_false true = refl
or_false false = refl

module _ {T U : Type 0} where
  live_reads : (s : SessionState T U) → Live s → reads_on (core_of s) ≡ true
  live_reads s (live, unopened) = ap₂ (λ (e : Option _) (o : Option _). is_none e && is_none o) live unopened

  -- what a message came to is a verdict that was carried out
  pub carried : (sends : T → Queue → Result ℕ IoFault → T → Type 0) (s : SessionState T U) (h : Handling U) (message_result : MessageResult) (after : SessionState T U) → HandledTo s h message_result after
      → CarriesOut sends client (verdict (core_of s) h) s.link [] (given_by message_result) (refused_by message_result) (reader_state_of after)
  carried sends s (Swallows o) WentOn after same =
      inl ([], [], [], Ok tt, s.link, false, (refl, refl, refl, refl), (refl, ap (λ (x : SessionState T U). x.link) same, refl), refl, ap core_of same, refl, refl)
  carried sends s (HandsOut m event o) (GaveEvent e) after (content, same) =
      inl (
        [],
        [],
        [],
        Ok tt,
        s.link,
        false,
        (refl, refl, refl, refl),
        (refl, ap (λ (x : SessionState T U). x.link) same, refl),
        refl,
        ap core_of same,
        ap (λ (x : SessionMessage). let l : List (Given SessionMessage) = HandedOut x ∷ [] in l) content,
        refl,
      )
  carried sends s (Breaks e o) (Ended end) after (failed, inl (unasked, same)) =
      inl ([], [], [], Ok tt, s.link, false, (refl, refl, refl, refl), (refl, ap (λ (x : SessionState T U). x.link) same, refl), refl, ap core_of same, refl, unasked)
  carried sends s (Breaks e o) (Ended end) after (failed, inr (asked, same)) = inr (refl, asked, refl, refl, ap reader_state_of same)
  carried sends s _ _ after h = absurd h

  -- ---- which turns leave the session live

  lives : (s after : SessionState T U) (h : Handling U) → Live s → HandledTo s h WentOn after → Live after
  lives s after (Swallows o) (live, unopened) same = (ap (λ (x : SessionState T U). x.error) same ∙ live, ap (λ (x : SessionState T U). x.open_event) same ∙ unopened)
  lives s after (HandsOut m event o) live h = absurd h
  lives s after (Breaks e o) live h = absurd h

  opens : (s after : SessionState T U) (h : Handling U) (e : Message IdParts Token) → HandledTo s h (GaveEvent e) after → reads_on (core_of after) ≡ false
  opens s after (HandsOut m event o) e (content, same) = ap (λ (x : SessionState T U). reads_on (core_of x)) same ∙ and_false (is_none s.error)
  opens s after (Swallows o) e h = absurd h
  opens s after (Breaks e' o) e h = absurd h

  fails : (s after : SessionState T U) (h : Handling U) (end : NoEvent) → HandledTo s h (Ended end) after → (reads_on (core_of after) ≡ false) × (end.error ≡ no_event.Failed)
  fails s after (Breaks e o) end (failed, inl (unasked, same)) = (ap (λ (x : SessionState T U). reads_on (core_of x)) same, failed)
  fails s after (Breaks e o) end (failed, inr (asked, same)) = (ap (λ (x : SessionState T U). reads_on (core_of x)) same, failed)
  fails s after (Swallows o) end h = absurd h
  fails s after (HandsOut m event o) end h = absurd h

  module _ (sends : T → Queue → Result ℕ IoFault → T → Type 0) (receives : T → ℕ → Result Queue IoFault → T → Type 0) where
    -- a message that was taken and handled
    took : (before after : SessionState T U) (m : WireMessage) (link : LinkState T) (message_result : MessageResult) → ReadsAs before (Ok m) link
        → HandledOf (with_link before link) m (handling_by before.passes_over before.table (objects_of before) m) message_result after
        → Handles sends client (reader_state_of before) (given_by message_result) (refused_by message_result) (reader_state_of after)
    took before after m link message_result read h =
        let came : Handling U = handling_by before.passes_over before.table (objects_of before) m in
        let told : SessionState T U = freed_session (with_link before link) m came in
        (verdict (core_of told) came, link, [], inl (m, read, refl), carried sends told came message_result after h)

    left_there : (before after : SessionState T U) (message_result : MessageResult) → ReadsAs before (Err parse.Malformed) before.link → HandledTo before (malformed before) message_result after
        → Handles sends client (reader_state_of before) (given_by message_result) (refused_by message_result) (reader_state_of after)
    left_there before after message_result read h =
        (verdict (core_of before) (malformed before), before.link, [], inr (read, refl, refl), carried sends before (malformed before) message_result after h)

    then : (start before after : SessionState T U) (gave : List (Given SessionMessage)) (refused : Bool) → ReadSoFar sends receives start before → Live before
        → Handles sends client (reader_state_of before) gave refused (reader_state_of after) → LeadsOn sends receives client (reader_state_of start) gave refused (reader_state_of after)
    then start before after gave refused leads live handles =
        leads_on sends receives client (reader_state_of start) (reader_state_of before) (reader_state_of after) [] gave false refused leads
        (one_more sends receives client (reader_state_of before) (reader_state_of after) gave refused (live_reads before live) handles)

    pub on_more : (start before after : SessionState T U) → Live before → ReadSoFar sends receives start before → HandlesMessage before WentOn after → Live after × ReadSoFar sends receives start after
    on_more start before after live leads (inl impossible) = absurd impossible
    on_more start before after live leads (inr (m, link, read, h)) = (
      lives (freed_session (with_link before link) m (handling_by before.passes_over before.table (objects_of before) m)) after (handling_by before.passes_over before.table (objects_of before) m) live h,
      then start before after [] false leads live (took before after m link WentOn read h),
    )

    pub event_ends : (start before after : SessionState T U) (e : Message IdParts Token) → Live before → ReadSoFar sends receives start before → HandlesMessage before (GaveEvent e) after
        → EndsAs sends receives start (Ok e) after
    event_ends start before after e live leads (inl impossible) = absurd impossible
    event_ends start before after e live leads (inr (m, link, read, h)) =
        let gave : List (Given SessionMessage) = HandedOut (session_content e) ∷ [] in
        let on = then start before after gave false leads live (took before after m link (GaveEvent e) read h) in
        record {
          lacked = false;
          stopped = None;
          short = false;
          ends = ends_there sends receives client (reader_state_of start) (reader_state_of after) gave false on (opens (freed_session (with_link before link) m (handling_by before.passes_over before.table (objects_of before) m)) after (handling_by before.passes_over before.table (objects_of before) m) e h);
          answer_is = refl;
          refused_is = refl;
        }

    -- an error was stored
    stored : (start before after : SessionState T U) (end : NoEvent) → Live before → ReadSoFar sends receives start before
        → Handles sends client (reader_state_of before) [] end.refused (reader_state_of after) → (reads_on (core_of after) ≡ false) × (end.error ≡ no_event.Failed)
        → EndsAs sends receives start (Err end) after
    stored start before after end live leads handles (off, failed) =
        record {
          lacked = end.refused;
          stopped = None;
          short = false;
          ends = ends_there sends receives client (reader_state_of start) (reader_state_of after) [] end.refused (then start before after [] end.refused leads live handles) off;
          answer_is = ap Err failed;
          refused_is = or_false end.refused;
        }

    pub end_ends : (start before after : SessionState T U) (end : NoEvent) → Live before → ReadSoFar sends receives start before → HandlesMessage before (Ended end) after
        → EndsAs sends receives start (Err end) after
    end_ends start before after end live leads (inr (m, link, read, h)) =
        stored start before after end live leads (took before after m link (Ended end) read h)
        (fails (freed_session (with_link before link) m (handling_by before.passes_over before.table (objects_of before) m)) after (handling_by before.passes_over before.table (objects_of before) m) end h)
    end_ends start before after end live leads (inl (inl (read, h))) =
        stored start before after end live leads (left_there before after (Ended end) read h) (fails before after (malformed before) end h)
    end_ends start before after end live leads (inl (inr (is, asks, same))) =
        record {
          lacked = false;
          stopped = Some fault.OutOfMemory;
          short = true;
          ends = subst (λ (x : SessionState T U). EndsSo sends receives client (reader_state_of start) [] false (Some fault.OutOfMemory) true (reader_state_of x)) (sym same)
              (starves_there sends receives client (reader_state_of start) (reader_state_of before) [] false leads (live_reads before live) (asked asks));
          answer_is = ap (λ (e : NoEvent). let r : Result SessionMessage EventError = Err e.error in r) is;
          refused_is = ap (λ (e : NoEvent). e.refused) is;
        }
      where
        asked : NotTaken before parse.OutOfMemory → FrontAsks sends client (reader_state_of before)
        asked (inl read) = inr read
        asked (inr (same, (row, front, asks, there))) =
            let sender = sender_of before.link.incoming.bytes in
            let opcode = opcode_of before.link.incoming.bytes in
            let signed = known_signature before.passes_over before.table before.store sender opcode row.signature (ap (option_map (λ r. r.signature)) front) in
            inl (
              ap (λ (o : Option MessageRow). row_asks o || freed_asks before.keeps_freed sender opcode) front ∙ asks,
              (row.signature, signed, there),
            )

    pub shorter : (before after : SessionState T U) → HandlesMessage before WentOn after → length after.link.incoming.bytes < length before.link.incoming.bytes
    shorter before after (inl impossible) = absurd impossible
    shorter before after (inr (m, link, read, h)) =
        subst (λ (l : LinkState T). length l.incoming.bytes < length before.link.incoming.bytes) (sym (link_is (handling_by before.passes_over before.table (objects_of before) m) h)) (shorter_at _ _ before.link m link read)
      where
        link_is : (h : Handling U) → HandledOf (with_link before link) m h WentOn after → after.link ≡ link
        link_is (Swallows o) same = ap (λ (x : SessionState T U). x.link) same
        link_is (HandsOut m' event o) f = absurd f
        link_is (Breaks e o) f = absurd f

    pub lacks_waits : (start before after : SessionState T U) → Live before → ReadSoFar sends receives start before → HandlesMessage before LacksMore after
        → Live after × Lacks after × ReadSoFar sends receives start after
    lacks_waits start before after live leads (inl (lacks, same)) =
        subst (λ (s : SessionState T U). Live s × Lacks s × ReadSoFar sends receives start s) (sym same) (live, lacks, leads)
    lacks_waits start before after live leads (inr (m, link, read, h)) = absurd (nothing (handling_by before.passes_over before.table (objects_of before) m) h)
      where
        nothing : (h : Handling U) → HandledOf (with_link before link) m h LacksMore after → ⊥
        nothing (Swallows o) f = f
        nothing (HandsOut m event o) f = f
        nothing (Breaks e o) f = f

    -- ---- receives

    pub received : (before : SessionState T U) (link : LinkState T) (f : IoFault) → Filled receives before.link (Err f) link → FindsRoom before.link (grown_capacity before.link)
        → ReceivedTo sends receives before (Some (record { error = by_fault f; refused = lacks_memory (Err f) })) (record before { link = link; error = (faulted (core_of before) f).error })
    received before link f filled finds = (f, subst (λ (p : ReaderState T (Core U)). PartReceived sends receives client (reader_state_of before) (Some f) p) (end f) made, refl)
      where
        made : PartReceived sends receives client (reader_state_of before) (Some f) (record { core = faulted (core_of before) f; link = link })
        made = received_fault sends receives client (λ c. refl) (reader_state_of before) link f filled finds

        end : (f : IoFault) → ◌≡◌ {A = ReaderState T (Core U)} (record { core = faulted (core_of before) f; link = link }) (reader_state_of (record before { link = link; error = (faulted (core_of before) f).error }))
        end fault.WouldBlock = refl
        end fault.Pipe = refl
        end fault.TooBig = refl
        end fault.Proto = refl
        end fault.InvalidInput = refl
        end fault.OutOfMemory = refl
        end (fault.Other n) = refl

    -- a fault after which no more may come is stored
    pub received_other : (before : SessionState T U) (link : LinkState T) (f : IoFault) → f ≢ fault.WouldBlock → f ≢ fault.OutOfMemory → Filled receives before.link (Err f) link
        → FindsRoom before.link (grown_capacity before.link)
        → ReceivedTo sends receives before (Some (record { error = no_event.Failed; refused = false })) (record before { link = link; error = Some (Io f) })
    received_other before link fault.WouldBlock blocks memory filled finds = absurd (blocks refl)
    received_other before link fault.Pipe blocks memory filled finds = received before link fault.Pipe filled finds
    received_other before link fault.TooBig blocks memory filled finds = received before link fault.TooBig filled finds
    received_other before link fault.Proto blocks memory filled finds = received before link fault.Proto filled finds
    received_other before link fault.InvalidInput blocks memory filled finds = received before link fault.InvalidInput filled finds
    received_other before link fault.OutOfMemory blocks memory filled finds = absurd (memory refl)
    received_other before link (fault.Other n) blocks memory filled finds = received before link (fault.Other n) filled finds

    abbrev pub So : SessionState T U → ℕ → SessionState T U → Type 0
    So start used now = SoFar sends receives client receives_allowed (reader_state_of start) [] false used (reader_state_of now)

    pub starts : (s : SessionState T U) → So s 0 s
    starts s = begins sends receives client receives_allowed (reader_state_of s)

    pub some_ends : (start before after : SessionState T U) (used : ℕ) (r : Result (Message IdParts Token) NoEvent) → used ≤ receives_allowed → So start used before
        → EndsAs sends receives before r after → ReadsTo sends receives start (event_answer r) (event_refused r) after
    some_ends start before after used r within so e =
        let at = ends_at sends receives client receives_allowed (reader_state_of start) [] false used (reader_state_of before) so (handed_by (event_answer r)) e.lacked e.stopped e.short (reader_state_of after) within e.ends in
        (at.1.0, _, at.1.1, e.answer_is ∙ ap (answered e.stopped) (sym (append-nil (handed_by (event_answer r)))), append-nil (handed_by (event_answer r)), e.refused_is)

    module _ (start before mid : SessionState T U) (used : ℕ) (so : So start used before) (live : Live mid) (lacks : Lacks mid) (leads : ReadSoFar sends receives before mid) where
      pub fault_ends : (end : NoEvent) (after : SessionState T U) → used < receives_allowed → ReceivedTo sends receives mid (Some end) after
          → ReadsTo sends receives start (Err end.error) end.refused after
      fault_ends end after within (f, made, is) =
          let at = receive_ends sends receives client receives_allowed (reader_state_of start) [] false used (reader_state_of before) so (reader_state_of mid) [] false leads (live_reads mid live) lacks f (reader_state_of after) within made in
          (at.1.0, _, at.1.1, ap (λ (e : NoEvent). let r : Result SessionMessage EventError = Err e.error in r) is, refl, ap (λ (e : NoEvent). e.refused) is)

      pub none_is_left : used ≡ receives_allowed → ReadsTo sends receives start (Err no_event.WouldBlock) false mid
      none_is_left all =
          let at = none_left sends receives client receives_allowed (reader_state_of start) [] false used (reader_state_of before) so (reader_state_of mid) [] false leads (live_reads mid live) lacks all in
          (at.0, _, at.1, refl, refl, refl)

      pub goes_on : (after : SessionState T U) → ReceivedTo sends receives mid None after → Live after × So start (used + 1) after
      goes_on after (made, alive) =
          (alive, receive_goes_on sends receives client receives_allowed (reader_state_of start) [] false used (reader_state_of before) so (reader_state_of mid) [] false leads (live_reads mid live) lacks (reader_state_of after) made)

    -- a session that has no error and no open event reads
    pub next_reads : (before after : SessionState T U) (answer : Result SessionMessage EventError) (refused : Bool)
        → is_some before.error ≡ false → is_some before.open_event ≡ false
        → ReadsTo sends receives before answer refused after → NextEvent sends receives before answer refused after
    next_reads before after answer refused live closed reads =
        subst (λ (e : Option WaylandError). MatchOption e
        (MatchOption before.open_event (ReadsTo sends receives before answer refused after)
        (λ _. (answer ≡ Err no_event.EventOpen) × (refused ≡ false) × (after ≡ before)))
        (λ _. (answer ≡ Err no_event.Failed) × (refused ≡ false) × (after ≡ before))) (sym (none_of before.error live))
        (subst (λ (o : Option OpenEvent). MatchOption o (ReadsTo sends receives before answer refused after)
        (λ _. (answer ≡ Err no_event.EventOpen) × (refused ≡ false) × (after ≡ before))) (sym (none_of before.open_event closed)) reads)

    -- an event that waits is the next one
    pub waits_next : (before after : SessionState T U) (e : Message IdParts Token) → is_some before.error ≡ false → is_some before.open_event ≡ false
        → HandlesMessage before (GaveEvent e) after → NextEvent sends receives before (Ok (session_content e)) false after
    waits_next before after e live closed h =
        next_reads before after (Ok (session_content e)) false live closed
        (some_ends before before after 0 (Ok e) (omega (arith)) (starts before)
        (event_ends before before after e (none_of before.error live, none_of before.open_event closed) (λ left rest end r. r) h))
