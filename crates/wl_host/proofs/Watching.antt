-- What the calls of a session come to for a client whose messages are told.
use Rattle.std.specs.Prelude.{◌≡◌, ℕ, zero, suc, ℤ, ◌==◌, Bool, true, false, List, [], ◌∷◌, length, MatchOption, Option, None, Some, Result, Ok, Err, min, option_map, slice_get, slice_set, if◌then◌else◌}
use Rattle.std.proofs.Common.{ap, inl, inr, refl, subst, sym, ◌∙◌}
use Rattle.wl_wire.specs.declared.error.OutOfMemory.{OutOfMemory}
use Rattle.wl_wire.specs.Table.{InterfaceRow}
use Rattle.wl_link.specs.Exchange.{Queue}
use Rattle.wl_link.specs.Mailbox.{MailboxState, behind, front}
use Rattle.wl_server_client.specs.Ids.{ClientParts}
use Rattle.wl_server_client.specs.Lending.{over_transport}
use Rattle.wl_server.specs.Lending.{state_over}
use Rattle.wl_server_model.specs.Lookups.{transport_of, waiting_of}
use Rattle.wl_server_model.specs.Lookups as counted
use Rattle.wl_server_client.specs.Stored.{Stored}
use Rattle.wl_server_model.specs.Server.{client_at, stored_at}
use Rattle.wl_server_model.specs.Server as stored
use Rattle.wl_follow.specs.declared.side.Side.TheVariants.{Client}
use Rattle.wl_host.proofs.Ledgers.{ledger_at_slot, slot_of_client}
use Rattle.wl_flat.specs.Arrivals.{mailbox_with}
use Rattle.wl_host.specs.Calls.{CoreState}
use Rattle.wl_flat.specs.Descriptors.{put_in}
use Rattle.wl_host.specs.Hearing.{LedgerTells, ledger_after, with_heard}
use Rattle.wl_flat.specs.Flat.{none_told}
use Rattle.wl_host.specs.Seats.{SeatsState, if_serial, ledger_at, ledger_of, listed, with_ledger}
use Rattle.wl_flat.specs.Sending.{mailbox_after, sent_of}
use Rattle.wl_host.specs.Server.{Received, ReceivedBy, Sent, SentBy, ServerState, asked_again}
use Rattle.wl_host.specs.Tellings.{CatchesUpOf, CatchesUpWith, NextTold, SendsTold, TellsNextOf, TellsNothing, unread_by, unread_if, unread_of, with_seat}
use Rattle.wl_flat.specs.Told.{CatchesUp, LentTold, TellsNextTo, came_in, left_off, waiting_in}
use Rattle.wl_flat.specs.ToldRuns.{AreTold, CaughtUp, Deed, Heard, IsFound, SentOff, Watched}
use Rattle.wl_host.specs.Watching.{ComesTo, ComesToAll, Watches}
use Rattle.wl_host.specs.declared.server.HostClient.{HostClient}
use Rattle.wl_host.specs.declared.server.ledger.Ledger.{Ledger}
use Rattle.wl_flat.specs.declared.status.Status.{Status}
use Rattle.wl_flat.specs.declared.status.Status.TheVariants as status
use Rattle.wl_flat.specs.declared.telling.Telling.{Telling}
use Rattle.wl_flat.proofs.ToldRuns.{found_by, left_waiting}

-- ---- what is put in is there

pub ledger_put : (ledgers : List (Option Ledger)) (id : ClientParts) (l l' : Ledger) → ledger_of id ledgers ≡ Some l → l'.id ≡ l.id
    → ledger_of id (slice_set ledgers id.slot (Some l')) ≡ Some l'
ledger_put ledgers id l l' at same =
    let slot = slot_of_client id ledgers l at in
    let own : if_serial id.serial (Some l) ≡ Some l = ap (if_serial id.serial) (sym (ledger_at_slot id.slot ledgers (Some l) slot)) ∙ at in
    ap (if_serial id.serial) (put id.slot ledgers slot) ∙ kept (l.id.serial == id.serial) (ap (λ (i : ClientParts). i.serial == id.serial) same) own
  where
    put : (n : ℕ) (ledgers : List (Option Ledger)) → slice_get ledgers n ≡ Some (Some l) → ledger_at n (slice_set ledgers n (Some l')) ≡ Some l'
    put n [] e = cc
    put zero (o ∷ ledgers) e = refl
    put (suc n) (o ∷ ledgers) e = put n ledgers e

    kept : (b : Bool) → (l'.id.serial == id.serial) ≡ b → (if b then Some l else None) ≡ Some l → (if l'.id.serial == id.serial then Some l' else None) ≡ Some l'
    kept true is e = ap (λ (b : Bool). if b then Some l' else None) is
    kept false is e = cc

module _ {T U C : Type 0} where
  stored_put : (n : ℕ) (clients : List (Option (Stored T U C))) (s x : Stored T U C) → stored_at n clients ≡ Some s
      → stored_at n (slice_set clients n (Some x)) ≡ Some x
  stored_put n [] s x e = cc
  stored_put zero (o ∷ clients) s x e = refl
  stored_put (suc n) (o ∷ clients) s x e = stored_put n clients s x e

  own_serial : (serial : ℕ) (o : Option (Stored T U C)) (s : Stored T U C) → stored.if_serial serial o ≡ Some s → (o ≡ Some s) × ((s.serial == serial) ≡ true)
  own_serial serial None s e = cc
  own_serial serial (Some k) s e = by (k.serial == serial) refl e
    where
      by : (b : Bool) → (k.serial == serial) ≡ b → (if b then Some k else None) ≡ Some s → (Some k ≡ Some s) × ((s.serial == serial) ≡ true)
      by true is e = let same : k ≡ s = cc in (e, ap (λ (x : Stored T U C). x.serial == serial) (sym same) ∙ is)
      by false is e = cc

pub transport_put : (c : CoreState) (id : ClientParts) (m m' : MailboxState) → transport_of c.server id ≡ Some m → transport_of (state_over c id m').server id ≡ Some m'
transport_put c id m m' has = by (client_at id c.server.clients) refl has
  where
    by : (o : Option (Stored MailboxState ℕ HostClient)) → client_at id c.server.clients ≡ o → option_map (λ p. p.link.transport) (option_map (λ s. s.part) o) ≡ Some m
        → transport_of (state_over c id m').server id ≡ Some m'
    by None at e = cc
    by (Some s) at e =
        let own = own_serial id.serial (stored_at id.slot c.server.clients) s at in
        let over : option_map (λ x. over_transport x m') (stored_at id.slot c.server.clients) ≡ Some (over_transport s m') = ap (option_map (λ x. over_transport x m')) own.0 in
        let put : stored_at id.slot (slice_set c.server.clients id.slot (option_map (λ x. over_transport x m') (stored_at id.slot c.server.clients))) ≡ Some (over_transport s m') =
        ap (λ (x : Option (Stored MailboxState ℕ HostClient)). stored_at id.slot (slice_set c.server.clients id.slot x)) over
        ∙ stored_put id.slot c.server.clients s (over_transport s m') own.0 in
        ap (λ (x : Option (Stored MailboxState ℕ HostClient)). option_map (λ p. p.link.transport) (option_map (λ s. s.part) (stored.if_serial id.serial x))) put
        ∙ ap (λ (b : Bool). option_map (λ p. p.link.transport) (option_map (λ s. s.part) (if b then Some (over_transport s m') else None))) own.1

-- ---- what arrives

pub comes_received : (before after : ServerState) (id : ClientParts) (bytes : List ℕ) (ds : List ℤ) (w : Watched) → Watches id before w
    → Received before id bytes ds status.Ok after → ComesTo id w (Heard bytes ds) after
comes_received before after id bytes ds w x h =
    took (subst (λ (t : Option MailboxState). ReceivedBy (Some x.ledger) t before id bytes ds status.Ok after) x.is_stored
    (subst (λ (l : Option Ledger). ReceivedBy l (transport_of before.core.server id) before id bytes ds status.Ok after) x.is_seated h))
  where
    took : ReceivedBy (Some x.ledger) (Some x.mailbox) before id bytes ds status.Ok after → ComesTo id w (Heard bytes ds) after
    took (inl (ok, is, may)) =
        let l' : Ledger = record (with_heard bytes ds x.ledger) { received = put_in x.ledger.received ds } in
        let m' : MailboxState = mailbox_with x.mailbox x.ledger.received bytes ds in (
          record w { telling = came_in Client bytes ds w.telling },
          refl,
          record {
            ledger = l';
            mailbox = m';
            is_seated = ap (λ (s : ServerState). ledger_of id s.seats.ledgers) is ∙ ledger_put before.seats.ledgers id x.ledger l' x.is_seated refl;
            is_stored = ap (λ (s : ServerState). transport_of s.core.server id) is ∙ transport_put before.core id x.mailbox m' x.is_stored;
            telling = ap (option_map (came_in Client bytes ds)) x.telling;
            waiting = x.waiting;
          },
        )
    took (inr (inl (refused, alone), same)) = cc
    took (inr (inr (some, inl (refused, many)), same)) = cc
    took (inr (inr (some, inr refused), same)) = cc

-- ---- catching up

-- another telling was put into the ledger
watches_put : (before after : ServerState) (id : ClientParts) (w : Watched) (x : Watches id before w) (t : Telling) (l' : Ledger)
    → l' ≡ record x.ledger { telling = Some t } → after ≡ with_seat before id l' → Watches id after (record w { telling = t })
watches_put before after id w x t l' l_is is =
    let l : Ledger = record x.ledger { telling = Some t } in record {
      ledger = l;
      mailbox = x.mailbox;
      is_seated = ap (λ (s : ServerState). ledger_of id s.seats.ledgers) is
          ∙ ap (λ (k : Ledger). ledger_of id (slice_set before.seats.ledgers id.slot (Some k))) l_is
          ∙ ledger_put before.seats.ledgers id x.ledger l x.is_seated refl;
      is_stored = ap (λ (s : ServerState). transport_of s.core.server id) is ∙ x.is_stored;
      telling = refl;
      waiting = x.waiting;
    }

-- of a client that is stored it is known how much waits
waits : (c : CoreState) (id : ClientParts) (m : MailboxState) → transport_of c.server id ≡ Some m → (counts : List ℕ) × (waiting_of c.server id ≡ Some counts)
waits c id m has = by (client_at id c.server.clients) refl has
  where
    by : (o : Option (Stored MailboxState ℕ HostClient)) → client_at id c.server.clients ≡ o → option_map (λ p. p.link.transport) (option_map (λ s. s.part) o) ≡ Some m
        → (counts : List ℕ) × (waiting_of c.server id ≡ Some counts)
    by None at e = cc
    by (Some s) at e = (_, ap (λ (o : Option (Stored MailboxState ℕ HostClient)). option_map (λ p. counted.waiting_in p.link) (option_map (λ s. s.part) o)) at)

-- what was not read is that of the client that is stored
unread_is : (before : ServerState) (id : ClientParts) (counts : List ℕ) (m : MailboxState) → waiting_of before.core.server id ≡ Some counts
    → transport_of before.core.server id ≡ Some m → unread_by before id ≡ unread_of counts m
unread_is before id counts m has stored =
    ap (λ (c : Option (List ℕ)). unread_if c (transport_of before.core.server id)) has ∙ ap (λ (x : Option MailboxState). unread_if (Some counts) x) stored

caught : (before after : ServerState) (id : ClientParts) (r : Result (Unit {0}) OutOfMemory) (w : Watched) → Watches id before w → CatchesUpWith before id r after
    → (t : Telling) × CatchesUp Client (unread_by before id) w.waiting w.telling r t × Watches id after (record w { telling = t }) × (after.core ≡ before.core)
caught before after id r w x h =
    let (counts, has) = waits before.core id x.mailbox x.is_stored in
    let (l', catches, is) =
    subst (λ (l : Option Ledger). CatchesUpOf before id l (Some counts) (Some x.mailbox) r after) x.is_seated
    (subst (λ (c : Option (List ℕ)). CatchesUpOf before id (ledger_of id before.seats.ledgers) c (Some x.mailbox) r after) has
    (subst (λ (m : Option MailboxState). CatchesUpOf before id (ledger_of id before.seats.ledgers) (waiting_of before.core.server id) m r after) x.is_stored h)) in
    let unread : ℕ = unread_of counts x.mailbox in
    let (t, up, l_is) =
    subst (λ (o : Option Telling). MatchOption o ((r ≡ Ok tt) × (l' ≡ x.ledger))
    (λ t. (t' : Telling) × CatchesUp Client unread (waiting_in x.mailbox x.ledger.sending) t r t' × (l' ≡ record x.ledger { telling = Some t' }))) x.telling catches in (
      t,
      subst (λ (n : ℕ). CatchesUp Client n w.waiting w.telling r t) (sym (unread_is before id counts x.mailbox has x.is_stored))
          (subst (λ (q : Queue). CatchesUp Client unread q w.telling r t) (sym x.waiting) up),
      watches_put before after id w x t l' l_is is,
      ap (λ (s : ServerState). s.core) is,
    )

pub comes_caught : (before after : ServerState) (id : ClientParts) (r : Result (Unit {0}) OutOfMemory) (w : Watched) → Watches id before w
    → CatchesUpWith before id r after → ComesTo id w (CaughtUp (unread_by before id) r) after
comes_caught before after id r w x h =
    let (t, up, watches, core) = caught before after id r w x h in (record w { telling = t }, (t, up, refl), watches)

-- ---- what is sent

asked_ledgers : (s : SeatsState) (slot : ℕ) (m : MailboxState) → (asked_again s slot m).ledgers ≡ s.ledgers
asked_ledgers s slot m = by (length m.waiting.bytes == 0)
  where
    by : (b : Bool) → (if b then listed s slot else s).ledgers ≡ s.ledgers
    by true = refl
    by false = refl

off : (before after : ServerState) (id : ClientParts) (count : ℕ) (w : Watched) → Watches id before w → Sent before id count status.Ok after
    → Watches id after (record { telling = left_off (min count (length w.waiting.bytes)) w.telling; waiting = behind (min count (length w.waiting.bytes)) w.waiting })
off before after id count w x h =
    let m' : MailboxState = mailbox_after count x.mailbox in
    let l' : Ledger = ledger_after count x.mailbox x.ledger in
    let n : ℕ = min count (length w.waiting.bytes) in
    let same : n ≡ sent_of count x.mailbox = ap (λ (q : Queue). min count (length q.bytes)) x.waiting in
    let (ok, is) =
    subst (λ (m : Option MailboxState). SentBy (Some x.ledger) m before id count status.Ok after) x.is_stored
    (subst (λ (l : Option Ledger). SentBy l (transport_of before.core.server id) before id count status.Ok after) x.is_seated h) in record {
      ledger = l';
      mailbox = m';
      is_seated = ap (λ (s : ServerState). ledger_of id s.seats.ledgers) is
          ∙ ap (ledger_of id) (asked_ledgers (with_ledger before.seats id l') id.slot m')
          ∙ ledger_put before.seats.ledgers id x.ledger l' x.is_seated refl;
      is_stored = ap (λ (s : ServerState). transport_of s.core.server id) is ∙ transport_put before.core id x.mailbox m' x.is_stored;
      telling = ap (option_map (left_off (sent_of count x.mailbox))) x.telling ∙ ap (λ (k : ℕ). Some (left_off k w.telling)) (sym same);
      waiting = ap (λ (k : ℕ). behind k w.waiting) same ∙ ap (behind (sent_of count x.mailbox)) x.waiting ∙ left_waiting count x.mailbox x.ledger.sending;
    }

pub comes_sent : (before after : ServerState) (id : ClientParts) (count : ℕ) (w : Watched) → Watches id before w → SendsTold before id count status.Ok after
    → (n : ℕ) × (n ≡ min count (length w.waiting.bytes)) × ComesTo id w (SentOff (unread_by before id) n (front n w.waiting)) after
comes_sent before after id count w x (Ok done, mid, up, h) =
    let (t, catches, watches, core) = caught before mid id (Ok done) w x up in
    let n : ℕ = min count (length w.waiting.bytes) in
    (n, refl, (record { telling = left_off n t; waiting = behind n w.waiting }, (t, catches, refl, refl), off mid after id count (record w { telling = t }) watches h))
comes_sent before after id count w x (Err e, mid, up, h) = let no = h.0 in absurd cc

-- ---- what is told

found_next : (before after : ServerState) (id : ClientParts) (lent : LentTold) (s : Status) (lent' : LentTold) (w : Watched) → Watches id before w
    → TellsNextOf before id lent s lent' after → (d : Deed) × IsFound before.core.server.offer.table lent s lent' d × ComesTo id w d after
found_next before after id lent s lent' w x h =
    let table : List InterfaceRow = before.core.server.offer.table in
    let (l', tells, is) =
    subst (λ (o : Option Ledger). MatchOption o (TellsNothing status.InvalidId before lent s lent' after)
    (λ l. (l' : Ledger) × LedgerTells table l lent s lent' l' × (after ≡ with_seat before id l'))) x.is_seated h in
    let (t, next, l_is) =
    subst (λ (o : Option Telling). MatchOption o ((s ≡ status.InvalidId) × (lent' ≡ record lent { out = none_told }) × (l' ≡ x.ledger))
    (λ t. (t' : Telling) × TellsNextTo table t lent s lent' t' × (l' ≡ record x.ledger { telling = Some t' }))) x.telling tells in
    let (d, found, does) = found_by Client table w lent s lent' t next in
    (d, found, (record w { telling = t }, does, watches_put before after id w x t l' l_is is))

pub comes_next : (before after : ServerState) (id : ClientParts) (lent : LentTold) (s : Status) (lent' : LentTold) (w : Watched) → Watches id before w
    → NextTold before id lent s lent' after
    → (run : List Deed) × AreTold before.core.server.offer.table (unread_by before id) lent s lent' run × ComesToAll id w run after
comes_next before after id lent s lent' w x (Ok done, mid, up, h) =
    let (t, catches, watches, core) = caught before mid id (Ok done) w x up in
    let v : Watched = record w { telling = t } in
    let (d, found, (w', does, watched)) = found_next mid after id lent s lent' v watches h in (
      CaughtUp (unread_by before id) (Ok done) ∷ (d ∷ []),
      (refl, subst (λ (c : CoreState). IsFound c.server.offer.table lent s lent' d) core found),
      (w', (v, (t, catches, refl), (w', does, refl)), watched),
    )
comes_next before after id lent s lent' w x (Err e, mid, up, (s_is, lent_is, after_is)) =
    let (t, catches, watches, core) = caught before mid id (Err e) w x up in
    let v : Watched = record w { telling = t } in (
      CaughtUp (unread_by before id) (Err e) ∷ [],
      (refl, s_is, lent_is),
      (v, (v, (t, catches, refl), refl), subst (λ (m : ServerState). Watches id m v) (sym after_is) watches),
    )
