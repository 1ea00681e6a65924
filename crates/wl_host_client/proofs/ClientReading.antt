-- What a client's session reads: the event, if there is one; it makes no note.
use Rattle.std.proofs.Common.{◌≡◌, ℕ, inl, inr, List, [], ◌∷◌, Bool, true, false, Option, None, Some, Result, Ok, Err, refl, ap, sym, ◌∙◌, ◌≢◌, ℤ}
use Rattle.std.specs.Prelude.{MatchOption, MatchResult}
use Rattle.wl_wire.specs.declared.error.IoFault.{IoFault}
use Rattle.wl_wire.specs.declared.error.IoFault.TheVariants as fault
use Rattle.wl_link.specs.Exchange.{Sending}
use Rattle.wl_link.specs.Link.{LinkState, count_of, counted_answer}
use Rattle.wl_link.specs.Mailbox.{MailboxState, MailboxReceives, MailboxSends}
use Rattle.wl_link.specs.Puts.{lacks_memory}
use Rattle.wl_link.specs.Reader.{CarriesOut, Given, Gives, Handled, Received, Reads, ReaderState, Turn, Unread, Verdict, came_to, stops, with_link}
use Rattle.wl_client.specs.declared.error.EventError.{EventError}
use Rattle.wl_client.specs.declared.error.EventError.TheVariants as no_event
use Rattle.wl_client.specs.declared.error.WaylandError.{WaylandError}
use Rattle.wl_client.specs.declared.event.OpenEvent.{OpenEvent}
use Rattle.wl_client.specs.declared.event_fault.EventFault.TheVariants as wrong
use Rattle.wl_client.specs.Events.{error_of}
use Rattle.wl_client.specs.Handling.{Handling, Swallows, HandsOut, Breaks, handling_by}
use Rattle.wl_client.specs.Reading.{NextEvent, ReadsTo, client, core_after, faulted, freed_core, objects_in, starved_to, verdict}
use Rattle.wl_client.specs.ObjectId.{IdParts}
use Rattle.wl_client.specs.Requests.{SessionMessage, session_content}
use Rattle.wl_client.specs.Session.{Core, SessionState}
use Rattle.wl_wire.specs.declared.argument.Token.{Token}
use Rattle.wl_wire.specs.declared.message.Message.{Message}
use Rattle.wl_flat.specs.declared.status.Status.{Status}
use Rattle.wl_flat.specs.declared.status.Status.TheVariants as status
use Rattle.wl_host_client.specs.Client.{ClientCore, HandsAllowed, HandsEvent, HandsNext, HostedClient, IsNullError, LentForEvent, ReadsUnlessKept, RefusesEvent, ended_by, event_of, kept_of, null_in, status_of}
use Rattle.wl_flat.specs.Nulls.{is_refused}
use Rattle.wl_flat.specs.Status.{of_next_event}

keeps_after : (c : Core ℕ) (h : Handling ℕ) → (core_after c h).notes ≡ c.notes
keeps_after c (Swallows o) = refl
keeps_after c (HandsOut m event o) = refl
keeps_after c (Breaks e o) = refl

keeps_starved : (c : Core ℕ) (h : Handling ℕ) → (starved_to c h).notes ≡ c.notes
keeps_starved c (Swallows o) = refl
keeps_starved c (HandsOut m event o) = refl
keeps_starved c (Breaks e o) = refl

keeps_faulted : (c : Core ℕ) (f : IoFault) → (faulted c f).notes ≡ c.notes
keeps_faulted c fault.WouldBlock = refl
keeps_faulted c fault.OutOfMemory = refl
keeps_faulted c f = refl

keeps_verdict : (c : Core ℕ) (h : Handling ℕ) (wrote : Result (Unit {0}) IoFault) → (came_to client (verdict c h) wrote).notes ≡ c.notes
keeps_verdict c h (Ok u) = keeps_after c h
keeps_verdict c h (Err fault.OutOfMemory) = keeps_starved c h
keeps_verdict c h (Err f) = keeps_after c h

-- a verdict on a core whose notes are those of `c`
keeps_carried : (c d : Core ℕ) (h : Handling ℕ) (v : Verdict (Core ℕ) SessionMessage) (link : LinkState MailboxState) (es : List Sending)
    (gave : List (Given SessionMessage)) (refused : Bool) (after : ReaderState MailboxState (Core ℕ))
    → d.notes ≡ c.notes → v ≡ verdict d h → CarriesOut MailboxSends client v link es gave refused after → after.core.notes ≡ c.notes
keeps_carried c d h v link es gave refused after same is (inl (first, others, put, wrote, mid, lacked, puts, flushes, sent, now, given, lacks)) =
    ap (λ (core : Core ℕ). core.notes) now ∙ ap (λ (w : Verdict (Core ℕ) SessionMessage). (came_to client w wrote).notes) is ∙ keeps_verdict d h wrote ∙ same
keeps_carried c d h v link es gave refused after same is (inr (asks, memory, sent, given, now)) =
    ap (λ (p : ReaderState MailboxState (Core ℕ)). p.core.notes) now ∙ ap (λ (w : Verdict (Core ℕ) SessionMessage). w.starved.notes) is ∙ keeps_starved d h ∙ same

keeps_read : (left : ℕ) (before : ReaderState MailboxState (Core ℕ)) (turns : List Turn) (out : Gives SessionMessage) (after : ReaderState MailboxState (Core ℕ))
    → Reads MailboxSends client MailboxReceives left before turns out after → after.core.notes ≡ before.core.notes
keeps_read left before [] out after (same, ends) = ap (λ (p : ReaderState MailboxState (Core ℕ)). p.core.notes) same
keeps_read left before (Received r ∷ turns) out after (on, lacks, (n, some, (link, filled, room, goes))) =
    keeps_received before link turns out after n (counted_answer (count_of r)) (λ h. keeps_read n (with_link before link) turns out after h) goes
  where
    keeps_received : (before : ReaderState MailboxState (Core ℕ)) (link : LinkState MailboxState) (turns : List Turn) (out : Gives SessionMessage)
        (after : ReaderState MailboxState (Core ℕ)) (n : ℕ) (answer : Result (Unit {0}) IoFault)
        → (Reads MailboxSends client MailboxReceives n (with_link before link) turns out after → after.core.notes ≡ before.core.notes)
        → MatchResult answer (λ _. Reads MailboxSends client MailboxReceives n (with_link before link) turns out after)
        (λ f. (turns ≡ []) × (out ≡ stops (Some f) (lacks_memory (Err f)) n) × (after ≡ record { core = faulted before.core f; link = link }))
        → after.core.notes ≡ before.core.notes
    keeps_received before link turns out after n (Ok u) on h = on h
    keeps_received before link turns out after n (Err f) on (last, is, now) =
        ap (λ (p : ReaderState MailboxState (Core ℕ)). p.core.notes) now ∙ keeps_faulted before.core f
keeps_read left before (Handled es ∷ turns) out after (on, (v, link, first, lacked, mid, rest, (m, reads, is), carries, gives, goes)) =
    let h : Handling ℕ = handling_by before.core.passes_over before.core.table (objects_in before.core) m in
    keeps_read left mid turns rest after goes ∙ keeps_carried before.core (freed_core before.core m h) h v link es first lacked mid refl is carries
keeps_read left before (Unread es ∷ turns) out after (on, (v, link, first, lacked, mid, rest, (reads, stays, is), carries, gives, goes)) =
    keeps_read left mid turns rest after goes ∙ keeps_carried before.core before.core (Breaks (error_of before.core.table wrong.Malformed) (objects_in before.core)) v link es first lacked mid refl is carries

keeps_open : (before : SessionState MailboxState ℕ) (open_event : Option OpenEvent) (answer : Result SessionMessage EventError) (refused : Bool) (after : SessionState MailboxState ℕ)
    → MatchOption open_event (ReadsTo MailboxSends MailboxReceives before answer refused after)
    (λ _. (answer ≡ Err no_event.EventOpen) × (refused ≡ false) × (after ≡ before))
    → after.notes ≡ before.notes
keeps_open before None answer refused after (turns, out, reads, is, gives, memory) = keeps_read _ _ turns out _ reads
keeps_open before (Some event) answer refused after (is, memory, same) = ap (λ (s : SessionState MailboxState ℕ). s.notes) same

keeps_live : (before : SessionState MailboxState ℕ) (error : Option WaylandError) (answer : Result SessionMessage EventError) (refused : Bool) (after : SessionState MailboxState ℕ)
    → MatchOption error
    (MatchOption before.open_event (ReadsTo MailboxSends MailboxReceives before answer refused after)
    (λ _. (answer ≡ Err no_event.EventOpen) × (refused ≡ false) × (after ≡ before)))
    (λ _. (answer ≡ Err no_event.Failed) × (refused ≡ false) × (after ≡ before))
    → after.notes ≡ before.notes
keeps_live before None answer refused after h = keeps_open before before.open_event answer refused after h
keeps_live before (Some error) answer refused after (is, memory, same) = ap (λ (s : SessionState MailboxState ℕ). s.notes) same

pub next_event_keeps_notes : (before : SessionState MailboxState ℕ) (answer : Result SessionMessage EventError) (refused : Bool) (after : SessionState MailboxState ℕ)
    → NextEvent MailboxSends MailboxReceives before answer refused after → after.notes ≡ before.notes
next_event_keeps_notes before answer refused after h = keeps_live before before.error answer refused after h

-- ---- an event that is kept

module _ (core : ClientCore) (after : ClientCore) where
  pub read_keeps_notes : (kept : Option SessionMessage) (s : Status) (kept' : Option SessionMessage) → ReadsUnlessKept kept core s kept' after
      → after.session.notes ≡ core.session.notes
  read_keeps_notes None s kept' (answer, reads, is, now) = next_event_keeps_notes core.session answer after.refused after.session reads
  read_keeps_notes (Some event) s kept' (is, now, same) = ap (λ (c : ClientCore). c.session.notes) same

  nothing_by : (answer : Result SessionMessage EventError) (s : Status) (kept : Option SessionMessage) → s ≡ status_of of_next_event answer
      → kept ≡ event_of answer → s ≢ status.Ok → kept ≡ None
  nothing_by (Ok event) s kept is now bad = absurd (bad is)
  nothing_by (Err e) s kept is now bad = now

  -- no event was read
  pub nothing_read : (kept : Option SessionMessage) (s : Status) (kept' : Option SessionMessage) → ReadsUnlessKept kept core s kept' after → s ≢ status.Ok
      → kept' ≡ None
  nothing_read None s kept' (answer, reads, is, now) bad = nothing_by answer s kept' is now bad
  nothing_read (Some event) s kept' (is, now, same) bad = absurd (bad is)

  -- and none had been kept
  pub nothing_kept : (kept : Option SessionMessage) (s : Status) (kept' : Option SessionMessage) → ReadsUnlessKept kept core s kept' after → s ≢ status.Ok
      → kept ≡ None
  nothing_kept None s kept' reads bad = refl
  nothing_kept (Some event) s kept' (is, now, same) bad = absurd (bad is)

  something_by : (answer : Result SessionMessage EventError) (kept : Option SessionMessage) → status.Ok ≡ status_of of_next_event answer
      → kept ≡ event_of answer → (event : SessionMessage) × (kept ≡ Some event)
  something_by (Ok event) kept is now = (event, now)
  something_by (Err no_event.Failed) kept is now = let no : ⊥ = cc in absurd no
  something_by (Err no_event.EventOpen) kept is now = let no : ⊥ = cc in absurd no
  something_by (Err no_event.WouldBlock) kept is now = let no : ⊥ = cc in absurd no
  something_by (Err no_event.OutOfMemory) kept is now = let no : ⊥ = cc in absurd no

  pub something_read : (kept : Option SessionMessage) (kept' : Option SessionMessage) → ReadsUnlessKept kept core status.Ok kept' after
      → (event : SessionMessage) × (kept' ≡ Some event)
  something_read None kept' (answer, reads, is, now) = something_by answer kept' is now
  something_read (Some event) kept' (is, now, same) = (event, now)

  kept_is : (b : Bool) (m : Message IdParts Token) (event : SessionMessage) → kept_of b m ≡ Some event → kept_of b m ≡ Some (session_content m)
  kept_is true m event e = refl
  kept_is false m event e = let no : ⊥ = cc in absurd no

  -- the event that was read, or was there already
  pub event_read : (kept : Option SessionMessage) (b : Bool) (m : Message IdParts Token) → ReadsUnlessKept kept core status.Ok (kept_of b m) after
      → kept_of b m ≡ Some (session_content m)
  event_read kept b m reads = let found = something_read kept (kept_of b m) reads in kept_is b m found.0 found.1

-- ---- an event that is handed out

-- none was, since none was read
pub hands_nothing : (before : HostedClient) (lent : LentForEvent) (s : Status) (kept : Option SessionMessage) (core : ClientCore) (after : HostedClient)
    → ReadsUnlessKept before.kept before.core s kept core → s ≢ status.Ok → after ≡ record before { core = core; kept = kept }
    → HandsNext before lent s [] after lent
hands_nothing before lent s kept core after reads bad now =
    let k = nothing_read before.core core before.kept s kept reads bad in
    let was = nothing_kept before.core core before.kept s kept reads bad in
    let stays : after ≡ record before { core = core } = now ∙ ap (λ kept. record before { core = core; kept = kept }) (k ∙ sym was) in
    (s, kept, core, reads, rw k (refl, refl, refl, stays))

-- the event is refused
refuses_this : (refuses : Bool) (s : HostedClient) (event : SessionMessage) (lent : LentForEvent) (answer : Status) (came_out : List ℤ) (after : HostedClient)
    (lent' : LentForEvent)
    → is_refused refuses (null_in s.core event) ≡ true → RefusesEvent s event lent answer came_out after lent'
    → HandsAllowed refuses s event lent answer came_out after lent'
refuses_this refuses s event lent answer came_out after lent' is h = rw is h

pub refuses_event : (before : HostedClient) (lent : LentForEvent) (kept : Option SessionMessage) (core : ClientCore) (event : SessionMessage)
    (error : WaylandError) (after : HostedClient)
    → ReadsUnlessKept before.kept before.core status.Ok kept core → kept ≡ Some event → is_refused before.refuses_nulls (null_in core event) ≡ true
    → IsNullError core event error → after ≡ ended_by (record before { core = core }) error → HandsNext before lent status.Failed [] after lent
refuses_event before lent kept core event error after reads found is null now =
    let s : HostedClient = record before { core = core } in
    (status.Ok, kept, core, reads, rw found (refuses_this before.refuses_nulls s event lent status.Failed [] after lent is (refl, refl, refl, (error, null, now))))

-- one was, or there was no room for it
hands_this : (refuses : Bool) (s : HostedClient) (event : SessionMessage) (lent : LentForEvent) (answer : Status) (came_out : List ℤ) (after : HostedClient)
    (lent' : LentForEvent)
    → is_refused refuses (null_in s.core event) ≡ false → HandsEvent s event lent answer came_out after lent'
    → HandsAllowed refuses s event lent answer came_out after lent'
hands_this refuses s event lent answer came_out after lent' is h = rw is h

pub hands_event : (before : HostedClient) (lent : LentForEvent) (kept : Option SessionMessage) (core : ClientCore) (event : SessionMessage)
    (answer : Status) (came_out : List ℤ) (after : HostedClient) (lent' : LentForEvent)
    → ReadsUnlessKept before.kept before.core status.Ok kept core → kept ≡ Some event → is_refused before.refuses_nulls (null_in core event) ≡ false
    → HandsEvent (record before { core = core }) event lent answer came_out after lent' → HandsNext before lent answer came_out after lent'
hands_event before lent kept core event answer came_out after lent' reads found is hands =
    let s : HostedClient = record before { core = core } in
    (status.Ok, kept, core, reads, rw found (hands_this before.refuses_nulls s event lent answer came_out after lent' is hands))
