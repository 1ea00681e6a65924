-- A session that lends the ledger of a client and its mailbox: what it is after the loan.
use Rattle.std.proofs.Common.{◌≡◌, ℕ, zero, suc, ℤ, Bool, true, false, List, [], ◌∷◌, Option, None, Some, length, refl, ap, sym, subst, ◌∙◌, inl, inr}
use Rattle.std.specs.List.{slice_get}
use Rattle.std.specs.Prelude.{if◌then◌else◌, option_map, slice_set, ◌==◌}
use Rattle.wl_link.specs.Mailbox.{MailboxState}
use Rattle.wl_server_client.specs.Ids.{ClientParts}
use Rattle.wl_server_client.specs.Lending.{over_transport}
use Rattle.wl_server.specs.Lending.{state_over}
use Rattle.wl_server_model.specs.Lookups.{transport_of}
use Rattle.wl_server_client.specs.Stored.{Stored}
use Rattle.wl_server_model.specs.Server.{client_at, if_serial, stored_at}
use Rattle.wl_host.proofs.Ledgers.{set_same, slot_of_client}
use Rattle.wl_host.specs.Calls.{CoreState}
use Rattle.wl_host.specs.Hearing.{TakesIn, ledger_after}
use Rattle.wl_host.specs.Seats.{SeatsState, ledger_of, listed, with_ledger}
use Rattle.wl_host.specs.Server.{Received, Sent, ServerState, asked_again}
use Rattle.wl_flat.specs.Sending.{mailbox_after}
use Rattle.wl_host.specs.declared.server.HostClient.{HostClient}
use Rattle.wl_host.specs.declared.server.ledger.Ledger.{Ledger}
use Rattle.wl_flat.specs.declared.status.Status.{Status}
use Rattle.wl_flat.specs.declared.status.Status.TheVariants as status

-- the ledger is as it was
pub same_seats : (s : SeatsState) (id : ClientParts) (l : Ledger) → ledger_of id s.ledgers ≡ Some l → with_ledger s id l ≡ s
same_seats s id l e = ap (λ (ls : List (Option Ledger)). let t : SeatsState = record s { ledgers = ls } in t) (set_same s.ledgers id.slot (Some l) (slot_of_client id s.ledgers l e))

-- and so is the mailbox
module _ {T U C : Type 0} where
  slot_of_stored : (n : ℕ) (clients : List (Option (Stored T U C))) (s : Stored T U C) → stored_at n clients ≡ Some s → slice_get clients n ≡ Some (Some s)
  slot_of_stored n [] s e = cc
  slot_of_stored zero (o ∷ clients) s e = ap Some e
  slot_of_stored (suc n) (o ∷ clients) s e = slot_of_stored n clients s e

  of_serial : (serial : ℕ) (o : Option (Stored T U C)) (s : Stored T U C) → if_serial serial o ≡ Some s → o ≡ Some s
  of_serial serial None s e = e
  of_serial serial (Some k) s e = by (k.serial == serial) e
    where
      by : (b : Bool) → (if b then Some k else None) ≡ Some s → Some k ≡ Some s
      by true e = e
      by false e = cc

pub same_core : (c : CoreState) (id : ClientParts) (m : MailboxState) → transport_of c.server id ≡ Some m → state_over c id m ≡ c
same_core c id m e = by (client_at id c.server.clients) refl e
  where
    by : (o : Option (Stored MailboxState ℕ HostClient)) → client_at id c.server.clients ≡ o → option_map (λ p. p.link.transport) (option_map (λ s. s.part) o) ≡ Some m → state_over c id m ≡ c
    by None at e = cc
    by (Some s) at e =
        let stored = of_serial id.serial (stored_at id.slot c.server.clients) s at in
        let slot = slot_of_stored id.slot c.server.clients s stored in
        let t : s.part.link.transport ≡ m = cc in
        let over : option_map (λ x. over_transport x m) (stored_at id.slot c.server.clients) ≡ Some s = ap (option_map (λ x. over_transport x m)) stored ∙ ap (λ u. Some (over_transport s u)) (sym t) in
        ap (λ (x : Option (Stored MailboxState ℕ HostClient)). record c { server = record c.server { clients = slice_set c.server.clients id.slot x } }) over
        ∙ ap (λ (xs : List (Option (Stored MailboxState ℕ HostClient))). record c { server = record c.server { clients = xs } }) (set_same c.server.clients id.slot (Some s) slot)

-- ---- what arrives

abbrev pub arrived : ServerState → ClientParts → MailboxState → Ledger → ServerState
arrived b id m l = record b { core = state_over b.core id m; seats = with_ledger b.seats id l }

same_arrived : (b : ServerState) (id : ClientParts) (l l' : Ledger) (m m' : MailboxState) → ledger_of id b.seats.ledgers ≡ Some l → transport_of b.core.server id ≡ Some m
    → m' ≡ m → l' ≡ l → arrived b id m' l' ≡ b
same_arrived b id l l' m m' at has f g =
    ap (λ x. arrived b id x l') f ∙ (ap (arrived b id m) g
    ∙ (ap (λ (c : CoreState). let t : ServerState = record b { core = c; seats = with_ledger b.seats id l } in t) (same_core b.core id m has)
    ∙ ap (λ (s : SeatsState). let t : ServerState = record b { seats = s } in t) (same_seats b.seats id l at)))

pub received_by : (b : ServerState) (id : ClientParts) (bytes : List ℕ) (ds : List ℤ) (s : Status) (l l' : Ledger) (m m' : MailboxState)
    → ledger_of id b.seats.ledgers ≡ Some l → transport_of b.core.server id ≡ Some m → TakesIn m l bytes ds s m' l' → Received b id bytes ds s (arrived b id m' l')
received_by b id bytes ds s l l' m m' at has h = rw (at, has) (elim h [
  | inl y ↦ inl (y.0, ap (λ x. arrived b id x l') y.1 ∙ ap (arrived b id _) y.2, y.3)
  | inr n ↦ inr (n.0, same_arrived b id l l' m m' at has n.1 n.2)
])

pub received_unknown : (b : ServerState) (id : ClientParts) (bytes : List ℕ) (ds : List ℤ) → ledger_of id b.seats.ledgers ≡ None → Received b id bytes ds status.InvalidId b
received_unknown b id bytes ds e = rw e (refl, refl)

pub received_unstored : (b : ServerState) (id : ClientParts) (bytes : List ℕ) (ds : List ℤ) (l : Ledger) → ledger_of id b.seats.ledgers ≡ Some l → transport_of b.core.server id ≡ None
    → Received b id bytes ds status.InvalidId (record b { seats = with_ledger b.seats id l })
received_unstored b id bytes ds l at none = rw (at, none) (refl, ap (λ (s : SeatsState). let t : ServerState = record b { seats = s } in t) (same_seats b.seats id l at))

-- ---- what was sent

pub sent_unstored : (b : ServerState) (id : ClientParts) (count : ℕ) (s : Status) (l : Ledger) → ledger_of id b.seats.ledgers ≡ Some l → transport_of b.core.server id ≡ None
    → s ≡ status.InvalidId → Sent b id count s (record b { seats = with_ledger b.seats id l })
sent_unstored b id count s l at none is = rw (at, none) (is, ap (λ (s : SeatsState). let t : ServerState = record b { seats = s } in t) (same_seats b.seats id l at))

pub sent_stored : (b : ServerState) (id : ClientParts) (count : ℕ) (l l' : Ledger) (m m' : MailboxState) (seats : SeatsState)
    → ledger_of id b.seats.ledgers ≡ Some l → transport_of b.core.server id ≡ Some m → m' ≡ mailbox_after count m → l' ≡ ledger_after count m l
    → seats ≡ asked_again (with_ledger b.seats id l') id.slot m'
    → Sent b id count status.Ok (record b { core = state_over b.core id m'; seats = seats })
sent_stored b id count l l' m m' seats at has f g h = rw (at, has) (
  refl,
  ap (λ (s : SeatsState). let t : ServerState = record b { core = state_over b.core id m'; seats = s } in t) h
      ∙ (ap (λ x. let t : ServerState = record b { core = state_over b.core id x; seats = asked_again (with_ledger b.seats id l') id.slot x } in t) f
      ∙ ap (λ y. let t : ServerState = record b { core = state_over b.core id (mailbox_after count m); seats = asked_again (with_ledger b.seats id y) id.slot (mailbox_after count m) } in t) g),
)

pub asked_yes : (s : SeatsState) (slot : ℕ) (m : MailboxState) → (length m.waiting.bytes == 0) ≡ true → asked_again s slot m ≡ listed s slot
asked_yes s slot m e = rw e refl

pub asked_no : (s : SeatsState) (slot : ℕ) (m : MailboxState) → (length m.waiting.bytes == 0) ≡ false → asked_again s slot m ≡ s
asked_no s slot m e = rw e refl

-- ---- the id of a client, as it was passed

pub sent_to : (b a : ServerState) (i j : ClientParts) (count : ℕ) (s : Status) → i ≡ j → Sent b i count s a → Sent b j count s a
sent_to b a i j count s e h = subst (λ (k : ClientParts). Sent b k count s a) e h

pub received_from : (b a : ServerState) (i j : ClientParts) (bytes : List ℕ) (ds : List ℤ) (s : Status) → i ≡ j → Received b i bytes ds s a → Received b j bytes ds s a
received_from b a i j bytes ds s e h = subst (λ (k : ClientParts). Received b k bytes ds s a) e h
