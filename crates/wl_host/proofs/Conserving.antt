-- The calls of a server's session: no descriptor is lost, and none comes out twice.
use Rattle.std.proofs.Common.{◌≡◌, ℕ, ℤ, ◌==◌, Bool, true, false, List, [], ◌∷◌, Option, None, Some, Result, Ok, Err, refl, ap, ◌∙◌, arith, inl, inr, length}
use Rattle.std.specs.Global.{Global}
use Rattle.wl_wire.specs.declared.error.OutOfMemory.{OutOfMemory}
use Rattle.std.specs.Prelude.{Vec, if◌then◌else◌, MatchOption, MatchResult, nat_lt, option_to_list, slice_get, slice_set}
use Rattle.wl_follow.specs.declared.side.Side.TheVariants.{Client}
use Rattle.wl_link.specs.Mailbox.{MailboxState}
use Rattle.wl_server_client.specs.Ids.{ClientParts}
use Rattle.wl_server_model.specs.Lookups.{transport_of, waiting_of}
use Rattle.wl_server_client.specs.declared.notes.Note.{Note}
use Rattle.wl_host.proofs.Keeping.{conserves_gone_all, conserves_handed_out, conserves_passed_next}
use Rattle.wl_host.proofs.Ledgers.{conserves_ledger}
use Rattle.wl_flat.proofs.Queues.{conserves_taken_out, conserves_nothing, conserves_put_in}
use Rattle.wl_host.specs.Cleaning.{CleansUp, DropsNotes, DropsUnlessKept}
use Rattle.wl_flat.specs.Descriptors.{Conserves, Descriptors, kept_in, occurrences, put_in}
use Rattle.wl_host.specs.Hearing.{LedgerCatchesUp, ledger_after, with_heard}
use Rattle.wl_host.specs.Notes.{Fetches, NextNote, noted, noted_if, text_of}
use Rattle.wl_host.specs.Seats.{SeatsState, kept_by_ledger, gone_all, kept_by_seats, ledger_of, left_by_first, listed}
use Rattle.wl_flat.specs.Sending.{came_out, mailbox_after, queue_after, sent_of}
use Rattle.wl_host.specs.Server.{handed_if, is_too_small, IsNotStored, NextDropped, Received, ReceivedBy, Sent, SentBy, ServerState, TakesOut, asked_again, gone_with_first, handed, handed_out, kept_by_server, next_gone, or_would_block, sent_to_first, sent_by, sent_with, went_in}
use Rattle.wl_host.specs.Tellings.{CatchesUpOf, CatchesUpWith, unread_of}
use Rattle.wl_flat.specs.Told.{CatchesUp, waiting_in}
use Rattle.wl_flat.specs.declared.flat.FlatNote.{FlatNote}
use Rattle.wl_flat.specs.declared.flat.Gone.{Gone}
use Rattle.wl_host.specs.declared.server.ledger.Departed.{Departed}
use Rattle.wl_host.specs.declared.server.ledger.Ledger.{Ledger}
use Rattle.wl_flat.specs.declared.status.Status.{Status}
use Rattle.wl_flat.specs.declared.status.Status.TheVariants as status
use Rattle.wl_flat.specs.declared.telling.Telling.{Telling}

-- what is kept beside the core stays
pub conserves_beside : (b a : ServerState) → a.seats ≡ b.seats → Conserves kept_by_server b [] [] a
conserves_beside b a e = record { each = λ d. let k = ap (kept_by_seats d) e in omega (arith, k) }

-- ---- what arrives

went_in_none : (b a : ServerState) (s t : Status) (ds : List ℤ) → s ≡ t → went_in t ds ≡ [] → a ≡ b → Conserves kept_by_server b (went_in s ds) [] a
went_in_none b a s t ds e n same = record {
  each = λ d. let w = ap (occurrences d) (ap (λ r. went_in r ds) e ∙ n) in let k = ap (kept_by_server d) same in omega (arith, w, k);
}

took_in : (l : Ledger) (bytes : List ℕ) (ds : List ℤ) → Conserves kept_by_ledger l ds [] (record (with_heard bytes ds l) { received = put_in l.received ds })
took_in l bytes ds = record { each = λ d. omega (arith, (conserves_put_in l.received ds).each d) }

pub conserves_received : (b a : ServerState) (id : ClientParts) (bytes : List ℕ) (ds : List ℤ) (s : Status) → Received b id bytes ds s a
    → Conserves kept_by_server b (went_in s ds) [] a
conserves_received b a id bytes ds s h = by (ledger_of id b.seats.ledgers) (transport_of b.core.server id) refl h
  where
    by : (o : Option Ledger) (t : Option MailboxState) → ledger_of id b.seats.ledgers ≡ o → ReceivedBy o t b id bytes ds s a → Conserves kept_by_server b (went_in s ds) [] a
    by None t e h = went_in_none b a s status.InvalidId ds h.0 refl h.1
    by (Some l) None e h = went_in_none b a s status.InvalidId ds h.0 refl h.1
    by (Some l) (Some m) e h = elim h [
      | inl y ↦ record {
        each = λ d.
            let c = (conserves_ledger b.seats id l (record (with_heard bytes ds l) { received = put_in l.received ds }) ds [] e (took_in l bytes ds)).each d in
            let w = ap (occurrences d) (ap (λ r. went_in r ds) y.0) in
            let k = ap (kept_by_server d) y.1 in omega (arith, c, w, k);
      }
      | inr n ↦ elim n.0 [
        | inl alone ↦ went_in_none b a s status.InvalidInput ds alone.0 refl n.1
        | inr (some, inl f) ↦ went_in_none b a s status.TooManyDescriptors ds f.0 refl n.1
        | inr (some, inr f) ↦ went_in_none b a s status.OutOfMemory ds f refl n.1
      ]
    ]

-- ---- what is told

-- what is told holds no descriptor
caught_in : (l k : Ledger) (unread : ℕ) (m : MailboxState) (r : Result (Unit {0}) OutOfMemory) → LedgerCatchesUp unread m l r k → Conserves kept_by_ledger l [] [] k
caught_in l k unread m r h = by l.telling h
  where
    by : (o : Option Telling) → MatchOption o ((r ≡ Ok tt) × (k ≡ l))
        (λ t. (t' : Telling) × CatchesUp Client unread (waiting_in m l.sending) t r t' × (k ≡ record l { telling = Some t' }))
        → Conserves kept_by_ledger l [] [] k
    by None (done, same) = record { each = λ d. let e = ap (kept_by_ledger d) same in omega (arith, e) }
    by (Some t) (t', catches, is) = record { each = λ d. let e = ap (kept_by_ledger d) is in omega (arith, e) }

-- it catches up
pub conserves_caught : (b a : ServerState) (id : ClientParts) (r : Result (Unit {0}) OutOfMemory) → CatchesUpWith b id r a → Conserves kept_by_server b [] [] a
conserves_caught b a id r h = by (ledger_of id b.seats.ledgers) (waiting_of b.core.server id) (transport_of b.core.server id) refl h
  where
    by : (o : Option Ledger) (c : Option (List ℕ)) (t : Option MailboxState) → ledger_of id b.seats.ledgers ≡ o → CatchesUpOf b id o c t r a
        → Conserves kept_by_server b [] [] a
    by None c t at h = conserves_beside b a (ap (λ (x : ServerState). x.seats) h.1)
    by (Some l) None t at h = conserves_beside b a (ap (λ (x : ServerState). x.seats) h.1)
    by (Some l) (Some c) None at h = conserves_beside b a (ap (λ (x : ServerState). x.seats) h.1)
    by (Some l) (Some c) (Some m) at (k, catches, is) = record {
      each = λ d.
          let h = (conserves_ledger b.seats id l k [] [] at (caught_in l k (unread_of c m) m r catches)).each d in
          let e = ap (kept_by_server d) is in omega (arith, h, e);
    }

-- ---- what is sent

sent_off : (count : ℕ) (m : MailboxState) (q : Descriptors) → Conserves kept_in q [] (came_out count m q) (queue_after count m q)
sent_off count m q = by (sent_of count m == 0) refl
  where
    by : (b : Bool) → (sent_of count m == 0) ≡ b → Conserves kept_in q [] (came_out count m q) (queue_after count m q)
    by true e = rw e (conserves_nothing q)
    by false e = rw e (conserves_taken_out q m.waiting.tokens)

sent_from : (l : Ledger) (count : ℕ) (m : MailboxState) → Conserves kept_by_ledger l [] (came_out count m l.sending) (ledger_after count m l)
sent_from l count m = record { each = λ d. omega (arith, (sent_off count m l.sending).each d) }

kept_asked : (d : ℤ) (s : SeatsState) (slot : ℕ) (m : MailboxState) → kept_by_seats d (asked_again s slot m) ≡ kept_by_seats d s
kept_asked d s slot m = by (length m.waiting.bytes == 0)
  where
    by : (b : Bool) → kept_by_seats d (if b then listed s slot else s) ≡ kept_by_seats d s
    by true = refl
    by false = refl

pub conserves_sent : (b a : ServerState) (id : ClientParts) (count : ℕ) (s : Status) → Sent b id count s a → Conserves kept_by_server b [] (sent_with b id count) a
conserves_sent b a id count s h = by (ledger_of id b.seats.ledgers) (transport_of b.core.server id) refl h
  where
    nothing_out : IsNotStored b s a → Conserves kept_by_server b [] [] a
    nothing_out h = conserves_beside b a (ap (λ (x : ServerState). x.seats) h.1)

    by : (o : Option Ledger) (t : Option MailboxState) → ledger_of id b.seats.ledgers ≡ o → SentBy o t b id count s a → Conserves kept_by_server b [] (sent_by o t count) a
    by None t e h = nothing_out h
    by (Some l) None e h = nothing_out h
    by (Some l) (Some m) e h = record {
      each = λ d.
          let k2 : Ledger = ledger_after count m l in
          let c = (conserves_ledger b.seats id l k2 [] (came_out count m l.sending) e (sent_from l count m)).each d in
          let g = kept_asked d (record b.seats { ledgers = slice_set b.seats.ledgers id.slot (Some k2) }) id.slot (mailbox_after count m) in
          let k = ap (kept_by_server d) h.1 in omega (arith, c, g, k);
    }

-- ---- clients that are gone

conserves_taken_out_of_core : (b m : ServerState) (result : Result (Unit {0}) Status) → TakesOut b result m → Conserves kept_by_server b [] [] m
conserves_taken_out_of_core b m result h = elim h [
  | inl n ↦ conserves_beside b m (ap (λ (x : ServerState). x.seats) n.2)
  | inr y ↦ by y.1.0 y.1.2
]
  where
    by : (answer : Result (Vec (ClientParts × MailboxState) Global) OutOfMemory) → MatchResult answer
        (λ out. (result ≡ Ok tt) × (m ≡ record b { core = m.core; seats = gone_all b.seats out.items; may_clean_up = false; may_have_notes = true }))
        (λ _. (result ≡ Err status.OutOfMemory) × (m ≡ record b { core = m.core })) → Conserves kept_by_server b [] [] m
    by (Ok out) h = record { each = λ d. let c = (conserves_gone_all b.seats out.items).each d in let k = ap (kept_by_server d) h.1 in omega (arith, c, k) }
    by (Err e) h = conserves_beside b m (ap (λ (x : ServerState). x.seats) h.1)

pub conserves_next_gone : (b a : ServerState) (s : Status) (out : Gone) (bytes : List ℕ) (ds : List ℤ) → s ≡ (next_gone b out bytes ds).status
    → a ≡ (next_gone b out bytes ds).after → Conserves kept_by_server b [] (gone_with_first b s) a
conserves_next_gone b a s out bytes ds e f = by b.seats.gone refl e f
  where
    none_out : (t : Status) → s ≡ t → gone_with_first b t ≡ [] → a ≡ b → Conserves kept_by_server b [] (gone_with_first b s) a
    none_out t e n f = record { each = λ d. let w = ap (occurrences d) (ap (gone_with_first b) e ∙ n) in let k = ap (kept_by_server d) f in omega (arith, w, k) }

    by : (gone : List Departed) → b.seats.gone ≡ gone → s ≡ (handed_out b gone out bytes ds).status → a ≡ (handed_out b gone out bytes ds).after
        → Conserves kept_by_server b [] (gone_with_first b s) a
    by [] g e f = none_out status.WouldBlock e refl f
    by (x ∷ xs) g e f = of (is_too_small x.mailbox bytes ds) e f
      where
        of : (t : Bool) → s ≡ (handed_if t b x out bytes ds).status → a ≡ (handed_if t b x out bytes ds).after → Conserves kept_by_server b [] (gone_with_first b s) a
        of true e f = none_out status.TooSmall e refl f
        of false e f = record {
          each = λ d.
              let c = (conserves_handed_out b.seats).each d in
              let w = ap (occurrences d) (ap (gone_with_first b) e) in
              let k = ap (kept_by_server d) f in omega (arith, c, w, k);
        }

pub conserves_first : (b a : ServerState) → a.seats ≡ left_by_first b.seats → Conserves kept_by_server b [] (sent_to_first b.seats.gone) a
conserves_first b a e = record { each = λ d. let c = (conserves_handed_out b.seats).each d in let k = ap (kept_by_seats d) e in omega (arith, c, k) }

-- the first client that is gone, of what is copied
pub handed_first : (b : ServerState) (g : Departed) (out : Gone) (bytes : List ℕ) (ds : List ℤ) → Some g ≡ slice_get b.seats.gone 0
    → next_gone b out bytes ds ≡ handed_if (is_too_small g.mailbox bytes ds) b g out bytes ds
handed_first b g out bytes ds e = by b.seats.gone e
  where
    by : (gone : List Departed) → Some g ≡ slice_get gone 0 → handed_out b gone out bytes ds ≡ handed_if (is_too_small g.mailbox bytes ds) b g out bytes ds
    by [] e = cc
    by (x ∷ xs) e = let f : x ≡ g = cc in ap (λ y. handed_if (is_too_small y.mailbox bytes ds) b y out bytes ds) f

-- ---- descriptors that belong to nobody

handed_found : (found : Option ℤ) → handed (or_would_block found) ≡ option_to_list found
handed_found None = refl
handed_found (Some d) = refl

pub conserves_dropped : (b a : ServerState) (result : Result ℤ Status) → NextDropped b result a → Conserves kept_by_server b [] (handed result) a
conserves_dropped b a result h = record {
  each = λ d.
      let c = (conserves_passed_next b.seats a.seats h.0 h.1).each d in
      let w = ap (occurrences d) (ap handed h.2 ∙ handed_found h.0) in omega (arith, c, w);
}

-- ---- notes

fetched_beside : (b m : ServerState) (s : Result (Unit {0}) Status) → Fetches b s m → m.seats ≡ b.seats
fetched_beside b m s h = elim h [
  | inl n ↦ ap (λ (x : ServerState). x.seats) n.2
  | inr y ↦ by y.1.0 y.1.2
]
  where
    by : (answer : Result (Vec (Note ℕ) Global) OutOfMemory) → MatchResult answer (λ taken. (s ≡ Ok tt) × (m ≡ record b { core = m.core; notes = taken.items; may_have_notes = false }))
        (λ _. (s ≡ Err status.OutOfMemory) × (m ≡ record b { core = m.core })) → m.seats ≡ b.seats
    by (Ok taken) h = ap (λ (x : ServerState). x.seats) h.1
    by (Err e) h = ap (λ (x : ServerState). x.seats) h.1

noted_beside : (s : ServerState) (ns : List (Note ℕ)) (out : FlatNote) (text : List ℕ) → (noted s ns out text).after.seats ≡ s.seats
noted_beside s [] out text = refl
noted_beside s (n ∷ ns) out text = by (nat_lt (length text) (length (text_of n)))
  where
    by : (b : Bool) → (noted_if b s n ns text).after.seats ≡ s.seats
    by true = refl
    by false = refl

pub conserves_noted : (b a : ServerState) (out out' : FlatNote) (text text' : List ℕ) (s : Status) → NextNote b out text s out' text' a → Conserves kept_by_server b [] [] a
conserves_noted b a out out' text text' s h = conserves_beside b a (elim h.3 [
  | inl y ↦ ap (λ (x : ServerState). x.seats) y.4 ∙ (noted_beside h.0 h.0.notes out text ∙ fetched_beside b h.0 h.1 h.2)
  | inr n ↦ ap (λ (x : ServerState). x.seats) n.3 ∙ fetched_beside b h.0 h.1 h.2
])

-- ---- a cleanup

dropped_beside : (m a : ServerState) → DropsNotes m a → a.seats ≡ m.seats
dropped_beside m a (mid, fetched, fetches, is) = ap (λ (x : ServerState). x.seats) is ∙ fetched_beside (record m { notes = [] }) mid fetched fetches

pub conserves_cleaned : (b a : ServerState) (s : Status) → CleansUp b s a → Conserves kept_by_server b [] [] a
conserves_cleaned b a s (m, result, taken, told) = by result taken told
  where
    beside : Conserves kept_by_server b [] [] m → a.seats ≡ m.seats → Conserves kept_by_server b [] [] a
    beside c e = record { each = λ d. let x = c.each d in let k = ap (kept_by_seats d) e in omega (arith, x, k) }

    by : (result : Result (Unit {0}) Status) → TakesOut b result m → MatchResult result (λ _. (s ≡ status.Ok) × DropsUnlessKept m a) (λ e. (s ≡ e) × (a ≡ m))
        → Conserves kept_by_server b [] [] a
    by (Ok u) taken told = beside (conserves_taken_out_of_core b m (Ok u) taken) (elim told.1 [
      | inl kept ↦ ap (λ (x : ServerState). x.seats) kept.1
      | inr dropped ↦ dropped_beside m a dropped.1
    ])
    by (Err e) taken told = beside (conserves_taken_out_of_core b m (Err e) taken) (ap (λ (x : ServerState). x.seats) told.1)
