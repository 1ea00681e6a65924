-- Of a client whose messages are not told each call does what it would do if none were.
use Rattle.std.proofs.Common.{◌≡◌, ℕ, ℤ, false, is_some, List, Option, None, Some, Result, Ok, Err, ap, refl, subst, sym, ◌∙◌}
use Rattle.std.proofs.lemmas.Bool.{false≢true}
use Rattle.std.specs.Prelude.{MatchOption, option_map}
use Rattle.wl_wire.specs.declared.error.OutOfMemory.{OutOfMemory}
use Rattle.wl_wire.specs.Table.{InterfaceRow}
use Rattle.wl_link.specs.Mailbox.{MailboxState}
use Rattle.wl_server_client.specs.Ids.{ClientParts}
use Rattle.wl_server_model.specs.Lookups.{transport_of, waiting_of}
use Rattle.wl_follow.specs.declared.side.Side.TheVariants.{Client}
use Rattle.wl_host.proofs.Lending.{same_seats}
use Rattle.wl_host.specs.Actions.{Lent, NextAction}
use Rattle.wl_flat.specs.Flat.{none_told}
use Rattle.wl_host.specs.Hearing.{LedgerCatchesUp, LedgerTells, is_told, ledger_after, with_heard}
use Rattle.wl_host.specs.Seats.{SeatsState, ledger_of}
use Rattle.wl_flat.specs.Sending.{Copied, queue_after, sent_of}
use Rattle.wl_host.specs.Server.{Sent, ServerState, to_send}
use Rattle.wl_host.specs.Tellings.{CatchesUpOf, CatchesUpWith, CopiesTold, NextTold, ReadsTold, SendsTold, TellsNextOf, TellsNothing, unread_of, with_seat}
use Rattle.wl_flat.specs.Told.{CatchesUp, LentTold, TellsNextTo, came_in, left_off, waiting_in}
use Rattle.wl_flat.specs.declared.flat.FlatArgument.{FlatArgument}
use Rattle.wl_host.specs.declared.server.ledger.Ledger.{Ledger}
use Rattle.wl_flat.specs.declared.status.Status.{Status}
use Rattle.wl_flat.specs.declared.status.Status.TheVariants as status
use Rattle.wl_flat.specs.declared.telling.Telling.{Telling}

abbrev IsUntold : ServerState → ClientParts → Type 0
IsUntold b id = is_told (ledger_of id b.seats.ledgers) ≡ false

-- the session with the ledger that it has
same_seat : (b : ServerState) (id : ClientParts) (l l' : Ledger) → ledger_of id b.seats.ledgers ≡ Some l → l' ≡ l → with_seat b id l' ≡ b
same_seat b id l l' at same =
    ap (λ (k : Ledger). with_seat b id k) same ∙ ap (λ (s : SeatsState). let t : ServerState = record b { seats = s } in t) (same_seats b.seats id l at)

-- ---- nothing catches up

untold_ledger : (l l' : Ledger) (unread : ℕ) (m : MailboxState) (r : Result (Unit {0}) OutOfMemory) → is_some l.telling ≡ false → LedgerCatchesUp unread m l r l'
    → (r ≡ Ok tt) × (l' ≡ l)
untold_ledger l l' unread m r unset h = by l.telling unset h
  where
    by : (o : Option Telling) → is_some o ≡ false
        → MatchOption o ((r ≡ Ok tt) × (l' ≡ l))
        (λ t. (t' : Telling) × CatchesUp Client unread (waiting_in m l.sending) t r t' × (l' ≡ record l { telling = Some t' }))
        → (r ≡ Ok tt) × (l' ≡ l)
    by None unset h = h
    by (Some t) unset h = absurd (false≢true (sym unset))

pub untold_catches : (b a : ServerState) (id : ClientParts) (r : Result (Unit {0}) OutOfMemory) → IsUntold b id → CatchesUpWith b id r a → (r ≡ Ok tt) × (a ≡ b)
untold_catches b a id r unset h = by (ledger_of id b.seats.ledgers) (waiting_of b.core.server id) (transport_of b.core.server id) refl unset h
  where
    by : (l : Option Ledger) (c : Option (List ℕ)) (m : Option MailboxState) → ledger_of id b.seats.ledgers ≡ l → is_told l ≡ false → CatchesUpOf b id l c m r a
        → (r ≡ Ok tt) × (a ≡ b)
    by None c m at unset h = h
    by (Some l) None m at unset h = h
    by (Some l) (Some c) None at unset h = h
    by (Some l) (Some c) (Some m) at unset (l', catches, is) =
        let (done, same) = untold_ledger l l' (unread_of c m) m r unset catches in (done, is ∙ same_seat b id l l' at same)

-- ---- the calls

pub untold_action : (b a : ServerState) (id : ClientParts) (arguments : List FlatArgument) (bytes : List ℕ) (s : Status) (lent : Lent) (out : List ℤ)
    → IsUntold b id → ReadsTold b id arguments bytes s lent out a → NextAction b id arguments bytes s lent out a
untold_action b a id arguments bytes s lent out unset (Ok done, mid, caught, h) =
    let same = (untold_catches b mid id (Ok done) unset caught).1 in subst (λ (m : ServerState). NextAction m id arguments bytes s lent out a) same h
untold_action b a id arguments bytes s lent out unset (Err e, mid, caught, h) = let no = (untold_catches b mid id (Err e) unset caught).0 in absurd cc

pub untold_to_send : (b a : ServerState) (id : ClientParts) (bytes : List ℕ) (ds : List ℤ) (copied : Copied) → IsUntold b id → CopiesTold b id bytes ds copied a
    → (copied ≡ to_send b id bytes ds) × (a ≡ b)
untold_to_send b a id bytes ds copied unset (Ok done, caught, h) = (h, (untold_catches b a id (Ok done) unset caught).1)
untold_to_send b a id bytes ds copied unset (Err e, caught, h) = let no = (untold_catches b a id (Err e) unset caught).0 in absurd cc

pub untold_sent : (b a : ServerState) (id : ClientParts) (count : ℕ) (s : Status) → IsUntold b id → SendsTold b id count s a → Sent b id count s a
untold_sent b a id count s unset (Ok done, mid, caught, h) =
    let same = (untold_catches b mid id (Ok done) unset caught).1 in subst (λ (m : ServerState). Sent m id count s a) same h
untold_sent b a id count s unset (Err e, mid, caught, h) = let no = (untold_catches b mid id (Err e) unset caught).0 in absurd cc

none_told_of : (b a : ServerState) (id : ClientParts) (lent lent' : LentTold) (s : Status) → IsUntold b id → TellsNextOf b id lent s lent' a
    → TellsNothing status.InvalidId b lent s lent' a
none_told_of b a id lent lent' s unset h = by (ledger_of id b.seats.ledgers) refl unset h
  where
    table : List InterfaceRow
    table = b.core.server.offer.table

    of : (l l' : Ledger) (o : Option Telling) → is_some o ≡ false
        → MatchOption o ((s ≡ status.InvalidId) × (lent' ≡ record lent { out = none_told }) × (l' ≡ l))
        (λ t. (t' : Telling) × TellsNextTo table t lent s lent' t' × (l' ≡ record l { telling = Some t' }))
        → (s ≡ status.InvalidId) × (lent' ≡ record lent { out = none_told }) × (l' ≡ l)
    of l l' None unset h = h
    of l l' (Some t) unset h = absurd (false≢true (sym unset))

    by : (o : Option Ledger) → ledger_of id b.seats.ledgers ≡ o → is_told o ≡ false
        → MatchOption o (TellsNothing status.InvalidId b lent s lent' a) (λ l. (l' : Ledger) × LedgerTells table l lent s lent' l' × (a ≡ with_seat b id l'))
        → TellsNothing status.InvalidId b lent s lent' a
    by None at unset h = h
    by (Some l) at unset (l', tells, is) =
        let (s_is, lent_is, same) = of l l' l.telling unset tells in (s_is, lent_is, is ∙ same_seat b id l l' at same)

pub untold_next : (b a : ServerState) (id : ClientParts) (lent : LentTold) (s : Status) (lent' : LentTold) → IsUntold b id → NextTold b id lent s lent' a
    → TellsNothing status.InvalidId b lent s lent' a
untold_next b a id lent s lent' unset (Ok done, mid, caught, h) =
    let same = (untold_catches b mid id (Ok done) unset caught).1 in
    none_told_of b a id lent lent' s unset (subst (λ (m : ServerState). TellsNextOf m id lent s lent' a) same h)
untold_next b a id lent s lent' unset (Err e, mid, caught, h) = let no = (untold_catches b mid id (Err e) unset caught).0 in absurd cc

-- ---- the ledger

no_telling : (o : Option Telling) → is_some o ≡ false → o ≡ None
no_telling None unset = refl
no_telling (Some t) unset = absurd (false≢true (sym unset))

-- what would become of what is told becomes of nothing
untold_map : (l : Ledger) (f : Telling → Telling) → is_some l.telling ≡ false → option_map f l.telling ≡ l.telling
untold_map l f unset = let none = no_telling l.telling unset in ap (option_map f) none ∙ sym none

pub untold_heard : (l : Ledger) (bytes : List ℕ) (ds : List ℤ) → is_told (Some l) ≡ false → with_heard bytes ds l ≡ l
untold_heard l bytes ds unset =
    ap (λ (o : Option Telling). let k : Ledger = record l { telling = o } in k) (untold_map l (came_in Client bytes ds) unset)

pub untold_left : (l : Ledger) (count : ℕ) (m : MailboxState) → is_told (Some l) ≡ false → ledger_after count m l ≡ record l { sending = queue_after count m l.sending }
untold_left l count m unset =
    ap (λ (o : Option Telling). let k : Ledger = record l { sending = queue_after count m l.sending; telling = o } in k) (untold_map l (left_off (sent_of count m)) unset)
