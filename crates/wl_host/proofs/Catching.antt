-- That what is told catches up with the session, and that the next message is told.
use Rattle.std.specs.Prelude.{◌≡◌, ℕ, ℤ, Bool, true, false, List, [], is_some, MatchOption, Option, None, Some, Result, Ok, Err, if◌then◌else◌}
use Rattle.std.proofs.Common.{ap, arith, refl, subst, sym, ◌∙◌}
use Rattle.std.proofs.lemmas.Bool.{false≢true}
use Rattle.wl_wire.specs.declared.error.OutOfMemory.{OutOfMemory}
use Rattle.wl_wire.specs.Table.{InterfaceRow}
use Rattle.wl_link.specs.Mailbox.{MailboxState}
use Rattle.wl_server_client.specs.Ids.{ClientParts}
use Rattle.wl_server_model.specs.Lookups.{transport_of, waiting_of}
use Rattle.wl_follow.specs.declared.side.Side.TheVariants.{Client}
use Rattle.wl_host.proofs.Conserving.{conserves_caught, conserves_sent}
use Rattle.wl_host.proofs.Ledgers.{conserves_ledger}
use Rattle.wl_host.proofs.Lending.{same_seats}
use Rattle.wl_flat.proofs.Queues.{conserves_out}
use Rattle.wl_host.proofs.Watching.{ledger_put}
use Rattle.wl_host.specs.Actions.{HandsNothing, Lent, NextAction}
use Rattle.wl_flat.specs.Descriptors.{Conserves, Descriptors}
use Rattle.wl_flat.specs.Flat.{none_told}
use Rattle.wl_host.specs.Hearing.{LedgerCatchesUp, LedgerTells, is_told}
use Rattle.wl_host.specs.Seats.{SeatsState, kept_by_ledger, ledger_of}
use Rattle.wl_flat.specs.Sending.{Copied, came_out, copied, counts_of}
use Rattle.wl_host.specs.Server.{Sent, SentBy, ServerState, kept_by_server, sent_by, sent_with, to_send, to_send_of}
use Rattle.wl_flat.specs.Status.{is_done}
use Rattle.wl_host.specs.Tellings.{CatchesUpOf, CatchesUpWith, CopiesTold, NextTold, ReadsTold, SendsTold, TellsNextOf, TellsNothing, sent_told, unread_of, with_seat}
use Rattle.wl_flat.specs.Told.{CatchesUp, LentTold, TellsNextTo, waiting_in}
use Rattle.wl_flat.specs.declared.flat.Counts.{Counts}
use Rattle.wl_flat.specs.declared.flat.FlatArgument.{FlatArgument}
use Rattle.wl_host.specs.declared.server.ledger.Ledger.{Ledger}
use Rattle.wl_flat.specs.declared.status.Status.{Status}
use Rattle.wl_flat.specs.declared.status.Status.TheVariants as status
use Rattle.wl_flat.specs.declared.telling.Telling.{Telling}
use Rattle.wl_flat.proofs.Sending.{copied_is}

-- ---- catching up

-- what is told of a client catches up
pub told_caught : (l : Ledger) (t t' : Telling) (unread : ℕ) (m : MailboxState) (r : Result (Unit {0}) OutOfMemory) → l.telling ≡ Some t
    → CatchesUp Client unread (waiting_in m l.sending) t r t' → LedgerCatchesUp unread m l r (record l { telling = Some t' })
told_caught l t t' unread m r is up =
    subst (λ (o : Option Telling). MatchOption o ((r ≡ Ok tt) × (record l { telling = Some t' } ≡ l))
    (λ x. (x' : Telling) × CatchesUp Client unread (waiting_in m l.sending) x r x' × (record l { telling = Some t' } ≡ record l { telling = Some x' }))) (sym is)
    (t', up, refl)

abbrev done : Result (Unit {0}) OutOfMemory
done = Ok tt

-- of a client whose messages are not told nothing catches up
untold : (l : Ledger) (unread : ℕ) (m : MailboxState) → is_some l.telling ≡ false → LedgerCatchesUp unread m l done l
untold l unread m unset = by l.telling unset
  where
    by : (o : Option Telling) → is_some o ≡ false
        → MatchOption o ((done ≡ done) × (l ≡ l)) (λ t. (t' : Telling) × CatchesUp Client unread (waiting_in m l.sending) t done t' × (l ≡ record l { telling = Some t' }))
    by None unset = (refl, refl)
    by (Some t) unset = absurd (false≢true (sym unset))

pub catches_untold : (b : ServerState) (id : ClientParts) → is_told (ledger_of id b.seats.ledgers) ≡ false → CatchesUpWith b id (Ok tt) b
catches_untold b id unset = by (ledger_of id b.seats.ledgers) (waiting_of b.core.server id) (transport_of b.core.server id) refl unset
  where
    by : (l : Option Ledger) (c : Option (List ℕ)) (m : Option MailboxState) → ledger_of id b.seats.ledgers ≡ l → is_told l ≡ false → CatchesUpOf b id l c m (Ok tt) b
    by None c m at unset = (refl, refl)
    by (Some l) None m at unset = (refl, refl)
    by (Some l) (Some c) None at unset = (refl, refl)
    by (Some l) (Some c) (Some m) at unset =
        (l, untold l (unread_of c m) m unset, ap (λ (s : SeatsState). let t : ServerState = record b { seats = s } in t) (sym (same_seats b.seats id l at)))

pub catches_uncounted : (b : ServerState) (id : ClientParts) → waiting_of b.core.server id ≡ None → CatchesUpWith b id (Ok tt) b
catches_uncounted b id none =
    subst (λ (c : Option (List ℕ)). CatchesUpOf b id (ledger_of id b.seats.ledgers) c (transport_of b.core.server id) (Ok tt) b) (sym none)
    (by (ledger_of id b.seats.ledgers) (transport_of b.core.server id))
  where
    by : (l : Option Ledger) (m : Option MailboxState) → CatchesUpOf b id l None m (Ok tt) b
    by None m = (refl, refl)
    by (Some l) m = (refl, refl)

pub catches_unstored : (b : ServerState) (id : ClientParts) → transport_of b.core.server id ≡ None → CatchesUpWith b id (Ok tt) b
catches_unstored b id none =
    subst (λ (m : Option MailboxState). CatchesUpOf b id (ledger_of id b.seats.ledgers) (waiting_of b.core.server id) m (Ok tt) b) (sym none)
    (by (ledger_of id b.seats.ledgers) (waiting_of b.core.server id))
  where
    by : (l : Option Ledger) (c : Option (List ℕ)) → CatchesUpOf b id l c None (Ok tt) b
    by None c = (refl, refl)
    by (Some l) None = (refl, refl)
    by (Some l) (Some c) = (refl, refl)

pub catches_unseated : (b : ServerState) (id : ClientParts) → ledger_of id b.seats.ledgers ≡ None → CatchesUpWith b id (Ok tt) b
catches_unseated b id none =
    subst (λ (l : Option Ledger). CatchesUpOf b id l (waiting_of b.core.server id) (transport_of b.core.server id) (Ok tt) b) (sym none) (refl, refl)

-- its ledger is lent, and stays as it was
pub catches_lent : (b : ServerState) (id : ClientParts) (l : Ledger) → ledger_of id b.seats.ledgers ≡ Some l → CatchesUpWith b id (Ok tt) b
    → CatchesUpWith b id (Ok tt) (with_seat b id l)
catches_lent b id l at catches =
    subst (λ (s : ServerState). CatchesUpWith b id (Ok tt) s) (sym (ap (λ (s : SeatsState). let t : ServerState = record b { seats = s } in t) (same_seats b.seats id l at))) catches

pub catches_seated : (b : ServerState) (id : ClientParts) (l l' : Ledger) (counts : List ℕ) (m : MailboxState) (unread : ℕ) (r : Result (Unit {0}) OutOfMemory)
    → ledger_of id b.seats.ledgers ≡ Some l → waiting_of b.core.server id ≡ Some counts → transport_of b.core.server id ≡ Some m → unread ≡ unread_of counts m
    → LedgerCatchesUp unread m l r l' → CatchesUpWith b id r (with_seat b id l')
catches_seated b id l l' counts m unread r at counted has is catches =
    subst (λ (o : Option Ledger). CatchesUpOf b id o (waiting_of b.core.server id) (transport_of b.core.server id) r (with_seat b id l')) (sym at)
    (subst (λ (c : Option (List ℕ)). CatchesUpOf b id (Some l) c (transport_of b.core.server id) r (with_seat b id l')) (sym counted)
    (subst (λ (o : Option MailboxState). CatchesUpOf b id (Some l) (Some counts) o r (with_seat b id l')) (sym has)
    (l', subst (λ (n : ℕ). LedgerCatchesUp n m l r l') is catches, refl)))

-- ---- telling

-- the next message of a client is told
pub told_next : (table : List InterfaceRow) (l : Ledger) (t t' : Telling) (lent : LentTold) (s : Status) (lent' : LentTold) → l.telling ≡ Some t
    → TellsNextTo table t lent s lent' t' → LedgerTells table l lent s lent' (record l { telling = Some t' })
told_next table l t t' lent s lent' is next =
    subst (λ (o : Option Telling). MatchOption o ((s ≡ status.InvalidId) × (lent' ≡ record lent { out = none_told }) × (record l { telling = Some t' } ≡ l))
    (λ x. (x' : Telling) × TellsNextTo table x lent s lent' x' × (record l { telling = Some t' } ≡ record l { telling = Some x' }))) (sym is)
    (t', next, refl)

pub tells_unseated : (b : ServerState) (id : ClientParts) (lent lent' : LentTold) (s : Status) → ledger_of id b.seats.ledgers ≡ None
    → TellsNothing status.InvalidId b lent s lent' b → TellsNextOf b id lent s lent' b
tells_unseated b id lent lent' s none tells =
    subst (λ (o : Option Ledger). MatchOption o (TellsNothing status.InvalidId b lent s lent' b)
    (λ l. (l' : Ledger) × LedgerTells b.core.server.offer.table l lent s lent' l' × (b ≡ with_seat b id l'))) (sym none) tells

pub tells_seated : (b : ServerState) (id : ClientParts) (l l' : Ledger) (table : List InterfaceRow) (lent lent' : LentTold) (s : Status)
    → ledger_of id b.seats.ledgers ≡ Some l → table ≡ b.core.server.offer.table → LedgerTells table l lent s lent' l' → TellsNextOf b id lent s lent' (with_seat b id l')
tells_seated b id l l' table lent lent' s at same tells =
    subst (λ (o : Option Ledger). MatchOption o (TellsNothing status.InvalidId b lent s lent' (with_seat b id l'))
    (λ k. (k' : Ledger) × LedgerTells b.core.server.offer.table k lent s lent' k' × (with_seat b id l' ≡ with_seat b id k'))) (sym at)
    (l', subst (λ (rows : List InterfaceRow). LedgerTells rows l lent s lent' l') same tells, refl)

-- ---- the calls that begin so

-- what catches up leaves the rest of the ledger as it is
caught_ledger : (unread : ℕ) (m : MailboxState) (l l' : Ledger) (r : Result (Unit {0}) OutOfMemory) → LedgerCatchesUp unread m l r l'
    → (l'.id ≡ l.id) × (l'.sending ≡ l.sending)
caught_ledger unread m l l' r h = by l.telling h
  where
    by : (o : Option Telling) → MatchOption o ((r ≡ Ok tt) × (l' ≡ l))
        (λ t. (t' : Telling) × CatchesUp Client unread (waiting_in m l.sending) t r t' × (l' ≡ record l { telling = Some t' }))
        → (l'.id ≡ l.id) × (l'.sending ≡ l.sending)
    by None (ok, is) = (ap (λ (k : Ledger). k.id) is, ap (λ (k : Ledger). k.sending) is)
    by (Some t) (t', up, is) = (ap (λ (k : Ledger). k.id) is, ap (λ (k : Ledger). k.sending) is)

module _ {A : Type 0} (of : Option Ledger → Option MailboxState → A) (of_sending : MailboxState → Descriptors → A)
    (same : (l : Ledger) (m : MailboxState) → of (Some l) (Some m) ≡ of_sending m l.sending) where
  -- what is to be sent, and what is made of that, is as it was
  caught_same : (b a : ServerState) (id : ClientParts) (r : Result (Unit {0}) OutOfMemory) → CatchesUpWith b id r a
      → of (ledger_of id a.seats.ledgers) (transport_of a.core.server id) ≡ of (ledger_of id b.seats.ledgers) (transport_of b.core.server id)
  caught_same b a id r h = by (ledger_of id b.seats.ledgers) (waiting_of b.core.server id) (transport_of b.core.server id) refl refl h
    where
      found : ServerState → A
      found s = of (ledger_of id s.seats.ledgers) (transport_of s.core.server id)

      by : (o : Option Ledger) (c : Option (List ℕ)) (t : Option MailboxState) → ledger_of id b.seats.ledgers ≡ o → transport_of b.core.server id ≡ t
          → CatchesUpOf b id o c t r a → found a ≡ found b
      by None c t at has h = ap found h.1
      by (Some l) None t at has h = ap found h.1
      by (Some l) (Some c) None at has h = ap found h.1
      by (Some l) (Some c) (Some m) at has (l', catches, is) =
          let (named, sends) = caught_ledger (unread_of c m) m l l' r catches in
          ap found is
          ∙ ap (λ (o : Option Ledger). of o (transport_of b.core.server id)) (ledger_put b.seats.ledgers id l l' at named)
          ∙ ap (of (Some l')) has
          ∙ same l' m
          ∙ ap (of_sending m) sends
          ∙ sym (ap (λ (o : Option Ledger). of o (transport_of b.core.server id)) at ∙ ap (of (Some l)) has ∙ same l m)

caught_to_send : (b a : ServerState) (id : ClientParts) (r : Result (Unit {0}) OutOfMemory) (bytes : List ℕ) (ds : List ℤ) → CatchesUpWith b id r a
    → to_send a id bytes ds ≡ to_send b id bytes ds
caught_to_send b a id r bytes ds h = caught_same (λ l m. to_send_of l m bytes ds) (λ m q. copied m.waiting q bytes ds) (λ l m. refl) b a id r h

caught_sent_with : (b a : ServerState) (id : ClientParts) (r : Result (Unit {0}) OutOfMemory) (count : ℕ) → CatchesUpWith b id r a
    → sent_with a id count ≡ sent_with b id count
caught_sent_with b a id r count h = caught_same (λ l m. sent_by l m count) (λ m q. came_out count m q) (λ l m. refl) b a id r h

pub copies_caught : (b a : ServerState) (i j : ClientParts) (bytes : List ℕ) (ds : List ℤ) (s : Status) (bytes' : List ℕ) (ds' : List ℤ) (counts : Counts)
    → i ≡ j → CatchesUpWith b i (Ok tt) a → s ≡ (to_send a j bytes ds).status → bytes' ≡ (to_send a j bytes ds).bytes
    → ds' ≡ (to_send a j bytes ds).descriptors → counts ≡ (to_send a j bytes ds).counts
    → CopiesTold b j bytes ds (record { status = s; bytes = bytes'; descriptors = ds'; counts = counts }) a
copies_caught b a i j bytes ds s bytes' ds' counts same caught e f g h =
    let up : CatchesUpWith b j (Ok tt) a = subst (λ (k : ClientParts). CatchesUpWith b k (Ok tt) a) same caught in
    (Ok tt, up, copied_is (to_send a j bytes ds) s bytes' ds' counts e f g h ∙ caught_to_send b a j (Ok tt) bytes ds up)

pub copies_nothing : (b a : ServerState) (i j : ClientParts) (e : OutOfMemory) (bytes : List ℕ) (ds : List ℤ) (counts : Counts) → i ≡ j → CatchesUpWith b i (Err e) a
    → counts ≡ counts_of 0 0 → CopiesTold b j bytes ds (record { status = status.OutOfMemory; bytes = bytes; descriptors = ds; counts = counts }) a
copies_nothing b a i j e bytes ds counts same caught is = (
  Err e,
  subst (λ (k : ClientParts). CatchesUpWith b k (Err e) a) same caught,
  ap (λ (v : Counts). let x : Copied = record { status = status.OutOfMemory; bytes = bytes; descriptors = ds; counts = v } in x) is,
)

pub sends_caught : (b m a : ServerState) (i j : ClientParts) (count : ℕ) (s : Status) → i ≡ j → CatchesUpWith b i (Ok tt) m → Sent m j count s a
    → SendsTold b j count s a
sends_caught b m a i j count s same caught sent =
    (Ok tt, m, subst (λ (k : ClientParts). CatchesUpWith b k (Ok tt) m) same caught, sent)

pub sends_nothing : (b m : ServerState) (i j : ClientParts) (e : OutOfMemory) (count : ℕ) → i ≡ j → CatchesUpWith b i (Err e) m
    → SendsTold b j count status.OutOfMemory m
sends_nothing b m i j e count same caught = (Err e, m, subst (λ (k : ClientParts). CatchesUpWith b k (Err e) m) same caught, (refl, refl))

if_same : (b : Bool) (ds : List ℤ) → (if b then ds else ds) ≡ ds
if_same true ds = refl
if_same false ds = refl

-- nothing is sent to a client that is not stored
sent_if_done : (b a : ServerState) (id : ClientParts) (count : ℕ) (s : Status) → Sent b id count s a
    → (if is_done s then sent_with b id count else []) ≡ sent_with b id count
sent_if_done b a id count s h = by (ledger_of id b.seats.ledgers) (transport_of b.core.server id) h
  where
    by : (l : Option Ledger) (m : Option MailboxState) → SentBy l m b id count s a → (if is_done s then sent_by l m count else []) ≡ sent_by l m count
    by None m h = if_same (is_done s) []
    by (Some l) None h = if_same (is_done s) []
    by (Some l) (Some m) h = ap (λ (e : Status). if is_done e then came_out count m l.sending else []) h.0

pub conserves_sent_caught : (b m a : ServerState) (i j : ClientParts) (count : ℕ) (s : Status) → i ≡ j → CatchesUpWith b i (Ok tt) m → Sent m j count s a
    → Conserves kept_by_server b [] (sent_told b j count s) a
conserves_sent_caught b m a i j count s same caught sent =
    let up : CatchesUpWith b j (Ok tt) m = subst (λ (k : ClientParts). CatchesUpWith b k (Ok tt) m) same caught in
    let out : sent_told b j count s ≡ sent_with m j count
    = ap (λ (ds : List ℤ). if is_done s then ds else []) (sym (caught_sent_with b m j (Ok tt) count up)) ∙ sent_if_done m a j count s sent in
    subst (λ (ds : List ℤ). Conserves kept_by_server b [] ds a) (sym out) (conserves_out (conserves_caught b m j (Ok tt) up) (conserves_sent m a j count s sent))

pub tells_caught : (b m a : ServerState) (i j : ClientParts) (lent : LentTold) (s : Status) (lent' : LentTold) → i ≡ j → CatchesUpWith b i (Ok tt) m
    → TellsNextOf m i lent s lent' a → NextTold b j lent s lent' a
tells_caught b m a i j lent s lent' same caught tells = subst (λ (k : ClientParts). NextTold b k lent s lent' a) same (Ok tt, m, caught, tells)

pub tells_nothing : (b m : ServerState) (i j : ClientParts) (e : OutOfMemory) (lent : LentTold) (s : Status) (lent' : LentTold) → i ≡ j → CatchesUpWith b i (Err e) m
    → TellsNothing status.OutOfMemory m lent s lent' m → NextTold b j lent s lent' m
tells_nothing b m i j e lent s lent' same caught nothing = subst (λ (k : ClientParts). NextTold b k lent s lent' m) same (Err e, m, caught, nothing)

pub reads_caught : (b m a : ServerState) (i j : ClientParts) (arguments : List FlatArgument) (bytes : List ℕ) (s : Status) (lent : Lent) (out : List ℤ) → i ≡ j
    → CatchesUpWith b i (Ok tt) m → NextAction m j arguments bytes s lent out a × Conserves kept_by_server m [] out a
    → ReadsTold b j arguments bytes s lent out a × Conserves kept_by_server b [] out a
reads_caught b m a i j arguments bytes s lent out same caught (next, conserves) = (
  (Ok tt, m, subst (λ (k : ClientParts). CatchesUpWith b k (Ok tt) m) same caught, next),
  conserves_out (conserves_caught b m i (Ok tt) caught) conserves,
)

pub reads_nothing : (b m : ServerState) (i j : ClientParts) (e : OutOfMemory) (arguments : List FlatArgument) (bytes : List ℕ) (s : Status) (lent : Lent) → i ≡ j
    → CatchesUpWith b i (Err e) m → HandsNothing status.OutOfMemory arguments bytes s lent
    → ReadsTold b j arguments bytes s lent [] m × Conserves kept_by_server b [] [] m
reads_nothing b m i j e arguments bytes s lent same caught nothing = (
  (Err e, m, subst (λ (k : ClientParts). CatchesUpWith b k (Err e) m) same caught, (nothing, refl, refl)),
  conserves_caught b m i (Err e) caught,
)

-- telling leaves the descriptors of the ledger where they are
told_in : (table : List InterfaceRow) (l l' : Ledger) (lent : LentTold) (s : Status) (lent' : LentTold) → LedgerTells table l lent s lent' l'
    → Conserves kept_by_ledger l [] [] l'
told_in table l l' lent s lent' h = by l.telling h
  where
    by : (o : Option Telling) → MatchOption o ((s ≡ status.InvalidId) × (lent' ≡ record lent { out = none_told }) × (l' ≡ l))
        (λ t. (t' : Telling) × TellsNextTo table t lent s lent' t' × (l' ≡ record l { telling = Some t' }))
        → Conserves kept_by_ledger l [] [] l'
    by None (invalid, none, is) = record { each = λ d. let k = ap (kept_by_ledger d) is in omega (arith, k) }
    by (Some t) (t', next, is) = record { each = λ d. let k = ap (kept_by_ledger d) is in omega (arith, k) }

pub conserves_told : (b : ServerState) (table : List InterfaceRow) (id : ClientParts) (lent : LentTold) (s : Status) (lent' : LentTold) (l l' : Ledger)
    → ledger_of id b.seats.ledgers ≡ Some l → LedgerTells table l lent s lent' l' → Conserves kept_by_server b [] [] (with_seat b id l')
conserves_told b table id lent s lent' l l' at tells =
    record { each = λ d. let h = (conserves_ledger b.seats id l l' [] [] at (told_in table l l' lent s lent' tells)).each d in omega (arith, h) }
