-- The clients that are asked in turn for what is to be sent.
use Rattle.std.proofs.Common.{◌≡◌, ℕ, zero, suc, ◌+◌, ◌<◌, Bool, true, false, not, inl, inr, List, [], ◌∷◌, length, Option, None, Some, Result, Ok, Err, is_some, refl, ap, sym, subst, ◌∙◌, arith}
use Rattle.std.proofs.lemmas.Bool.{eqb-true, false≢true, lt-ltb}
use Rattle.std.specs.Option.{option_map_or, unwrap_or}
use Rattle.std.specs.Prelude.{◌==◌, ◌&&◌, ◌||◌, MatchOption, MatchResult, if◌then◌else◌, nat_lt, option_map}
use Rattle.wl_link.proofs.Calls.Branches.{either_option}
use Rattle.wl_link.specs.Mailbox.{MailboxSends, MailboxState}
use Rattle.wl_link.specs.Puts.{lacks_memory}
use Rattle.wl_server_client.specs.Ids.{ClientParts, same_client}
use Rattle.wl_server_model.specs.Lookups.{transport_of}
use Rattle.wl_server_model.specs.Plain.{FlushedAs, OtherClientsStay, client_in}
use Rattle.wl_server_model.specs.Server.{Seen, seen}
use Rattle.wl_wire.specs.declared.error.IoFault.{IoFault}
use Rattle.wl_wire.specs.declared.error.OutOfMemory.{OutOfMemory}
use Rattle.wl_flat.proofs.Draining.{link_drained}
use Rattle.wl_host.specs.Calls.{CoreState}
use Rattle.wl_flat.specs.Descriptors.{Conserves}
use Rattle.wl_host.specs.Flushing.{FlushesClient, said_of}
use Rattle.wl_host.specs.Seats.{SeatsState, added, is_among, ledger_at, listed}
use Rattle.wl_host.specs.Server.{Asks, AsksClient, AsksInTurn, FoundHasBytes, IsDrained, NextWritable, NoneAskedHasBytes, SeatHasNoBytes, ServerState, asked, has_bytes, kept_by_server, told_of}
use Rattle.wl_flat.specs.declared.flat.FlatClientId.{FlatClientId}
use Rattle.wl_host.specs.declared.server.HostClient.{HostClient}
use Rattle.wl_host.specs.declared.server.ledger.Ledger.{Ledger}
use Rattle.wl_flat.specs.declared.status.Status.{Status}

-- a client that is stored is asked by a flush of its own
flushes_stored : (b a : ServerState) (id : ClientParts) (m : MailboxState) (one : Result (Option ClientParts) OutOfMemory) (s : Status)
    → transport_of b.core.server id ≡ Some m → AsksClient b.core id one a.core → s ≡ said_of one → a ≡ record b { core = a.core } → FlushesClient b id s a
flushes_stored b a id m one s is h told same = rw is (one, h, told, same)

pub flushes_client : (seen b a : ServerState) (read id : ClientParts) (m : MailboxState) (one : Result (Option ClientParts) OutOfMemory) (s : Status)
    → seen ≡ b → read ≡ id → transport_of seen.core.server read ≡ Some m → AsksClient seen.core read one a.core → s ≡ said_of one
    → a ≡ record seen { core = a.core } → FlushesClient b id s a
flushes_client seen b a read id m one s same_state same_id is h told same =
    subst (λ (t : ServerState). FlushesClient t id s a) same_state
    (subst (λ (i : ClientParts). FlushesClient seen i s a) same_id (flushes_stored seen a read m one s is h told same))

-- whoever sits at the slot is asked
pub asks_at : (b mid : CoreState) (o : Option Ledger) (id : ClientParts) (one : Result (Option ClientParts) OutOfMemory) → Some id ≡ option_map (λ l. l.id) o → AsksClient b id one mid
    → Asks b o one mid
asks_at b mid None id one e h = absurd (false≢true (sym (ap is_some e)))
asks_at b mid (Some l) id one e h = let same : id ≡ l.id = ap (λ o. unwrap_or o id) e in subst (λ (i : ClientParts). AsksClient b i one mid) same h

-- nobody does
pub asks_none : (b : CoreState) (o : Option Ledger) → None ≡ option_map (λ l. l.id) o → Asks b o (Ok None) b
asks_none b None e = (refl, refl)
asks_none b (Some l) e = absurd (false≢true (ap is_some e))

module _ (ledgers : List (Option Ledger)) (b mid : CoreState) (writable : List ℕ) (slot : ℕ) (slots : List ℕ) where
  -- a client is found
  pub asked_found : (id : ClientParts) → writable ≡ slot ∷ slots → Asks b (ledger_at slot ledgers) (Ok (Some id)) mid → AsksInTurn ledgers b writable (Ok (Some id)) slots mid
  asked_found id w h = subst (λ (ws : List ℕ). AsksInTurn ledgers b ws (Ok (Some id)) slots mid) (sym w) (Ok (Some id), mid, h, (refl, refl, refl))

  -- none is, and the next one is asked
  pub asked_on : (found : Result (Option ClientParts) OutOfMemory) (rest : List ℕ) (after : CoreState) → writable ≡ slot ∷ slots → Asks b (ledger_at slot ledgers) (Ok None) mid
      → AsksInTurn ledgers mid slots found rest after → AsksInTurn ledgers b writable found rest after
  asked_on found rest after w h t = subst (λ (ws : List ℕ). AsksInTurn ledgers b ws found rest after) (sym w) (Ok None, mid, h, t)

  -- there was no memory
  pub asked_again : (e : OutOfMemory) → writable ≡ slot ∷ slots → Asks b (ledger_at slot ledgers) (Err e) mid → AsksInTurn ledgers b writable (Err e) (added slot slots) mid
  asked_again e w h = subst (λ (ws : List ℕ). AsksInTurn ledgers b ws (Err e) (added slot slots) mid) (sym w) (Err e, mid, h, (refl, refl, refl))

-- none is to be asked
pub asked_none : (ledgers : List (Option Ledger)) (b : CoreState) (writable : List ℕ) → writable ≡ [] → AsksInTurn ledgers b writable (Ok None) [] b
asked_none ledgers b writable w = subst (λ (ws : List ℕ). AsksInTurn ledgers b ws (Ok None) [] b) (sym w) (refl, refl, refl)

-- a slot at which somebody sits is one of those that are known
seat_below : (slot : ℕ) (ledgers : List (Option Ledger)) → is_some (ledger_at slot ledgers) ≡ true → slot < length ledgers
seat_below slot [] some = absurd (false≢true some)
seat_below zero (o ∷ ledgers) some = omega arith
seat_below (suc slot) (o ∷ ledgers) some = let k = seat_below slot ledgers some in omega (arith, k)

seat_within : (slot : ℕ) (ledgers : List (Option Ledger)) → is_some (ledger_at slot ledgers) ≡ true → nat_lt slot (length ledgers) ≡ true
seat_within slot ledgers some = lt-ltb slot (length ledgers) (seat_below slot ledgers some)

-- whoever was asked in vain sits there
asked_sits : (b mid : CoreState) (o : Option Ledger) (e : OutOfMemory) → Asks b o (Err e) mid → is_some o ≡ true
asked_sits b mid None e h = absurd cc
asked_sits b mid (Some l) e h = refl

-- so the slot is listed again
pub listed_again : (b mid : CoreState) (s : SeatsState) (slot : ℕ) (e : OutOfMemory) → Asks b (ledger_at slot s.ledgers) (Err e) mid → (listed s slot).writable ≡ added slot s.writable
listed_again b mid s slot e h =
    ap (λ (known : Bool). if known then added slot s.writable else s.writable) (seat_within slot s.ledgers (asked_sits b mid (ledger_at slot s.ledgers) e h))

-- ---- whom is found

no_one : {A : Type 0} (x : A) → None ≡ Some x → ⊥
no_one x e = false≢true (ap is_some e)

abbrev Outcome : Type 0
Outcome = Result (Option ClientParts) OutOfMemory

-- no one is found
abbrev no_client : Outcome
no_client = Ok None

other_none : (x : ClientParts) → no_client ≡ Ok (Some x) → ⊥
other_none x e = absurd cc

abbrev no_memory : Outcome
no_memory = Err _

-- the answer says it: whoever is found has something
asked_so : (id i : ClientParts) (answer : Result (Unit {0}) IoFault) (has : Bool) → Ok (Some id) ≡ asked i answer has → (id ≡ i) × (has ≡ true)
asked_so id i answer true e = (cc, refl)
asked_so id i answer false e = by (lacks_memory answer) e
  where
    by : (lacks : Bool) → Ok (Some id) ≡ (if lacks then no_memory else no_client) → (id ≡ i) × (false ≡ true)
    by true e = absurd cc
    by false e = absurd cc

asked_has : (b m : CoreState) (o : Option Ledger) (id : ClientParts) → Asks b o (Ok (Some id)) m → has_bytes m id ≡ true
asked_has b m None id h = absurd (other_none id (sym h.0))
asked_has b m (Some l) id h = let k = asked_so id l.id h.0 (has_bytes m l.id) h.3 in ap (has_bytes m) k.0 ∙ k.1

-- whoever is not, though there was memory, has nothing
told_so : (i : ClientParts) (answer : Result (Unit {0}) IoFault) (has : Bool) → no_client ≡ asked i answer has → (has ≡ false) × (lacks_memory answer ≡ false)
told_so i answer true e = absurd cc
told_so i answer false e = (refl, by (lacks_memory answer) e)
  where
    by : (lacks : Bool) → no_client ≡ (if lacks then no_memory else no_client) → lacks ≡ false
    by true e = absurd cc
    by false e = refl

abbrev Sees : Type 0
Sees = Seen MailboxState ℕ HostClient

-- no bytes wait for the client, neither in the mailbox nor in the core
abbrev IsQuiet : Sees → Type 0
IsQuiet s = (option_map_or (λ (m : MailboxState). not (length m.waiting.bytes == 0)) (option_map (λ p. p.link.transport) s.part) false ≡ false) × IsDrained s.part

flush_drains : (b m : CoreState) (id : ClientParts) (answer : Result (Unit {0}) IoFault) → FlushedAs MailboxSends b (Some id) answer m → lacks_memory answer ≡ false
    → IsDrained (client_in m id)
flush_drains b m id answer h memory =
    elim (either_option (client_in b id) h.0) [
      | inl (none, (is, same)) ↦ subst IsDrained (sym (ap (λ (s : Sees). s.part) (same.each id) ∙ none)) tt
      | inr (p, at, (link, flushed, now)) ↦ subst IsDrained (sym now) (link_drained p.link link answer flushed memory)
    ]

asked_quiet : (b m : CoreState) (o : Option Ledger) → Asks b o (Ok None) m → SeatHasNoBytes m o
asked_quiet b m None h = tt
asked_quiet b m (Some l) h = let k = told_so l.id h.0 (has_bytes m l.id) h.3 in (k.0, flush_drains b m l.id h.0 h.2 k.1)

-- and whoever has nothing gets nothing when another is asked
quiet_stays : (b m : CoreState) (id other : ClientParts) → OtherClientsStay b id m → same_client id other ≡ false → IsQuiet (seen other b.server) → IsQuiet (seen other m.server)
quiet_stays b m id other stay e quiet = subst IsQuiet (sym (stay other e)) quiet

same_parts : (a b : ClientParts) → a.slot ≡ b.slot → a.serial ≡ b.serial → a ≡ b
same_parts a b slot serial =
    ap (λ (n : ℕ). let c : ClientParts = record { slot = n; serial = a.serial } in c) slot
    ∙ ap (λ (n : ℕ). let c : ClientParts = record { slot = b.slot; serial = n } in c) serial

pub one_client : (a b : ClientParts) → same_client a b ≡ true → a ≡ b
one_client a b e = same_parts a b (eqb-true a.slot b.slot (first (a.slot == b.slot) (a.serial == b.serial) e)) (eqb-true a.serial b.serial (second (a.slot == b.slot) (a.serial == b.serial) e))
  where
    first : (x y : Bool) → (x && y) ≡ true → x ≡ true
    first true y e = refl
    first false y e = absurd (false≢true e)

    second : (x y : Bool) → (x && y) ≡ true → y ≡ true
    second true y e = e
    second false y e = absurd (false≢true e)

quiet_after_one : (b m : CoreState) (o : Option Ledger) (id : ClientParts) → Asks b o (Ok None) m → IsQuiet (seen id b.server) → IsQuiet (seen id m.server)
quiet_after_one b m None id h quiet = subst (λ (c : CoreState). IsQuiet (seen id c.server)) (sym h.1) quiet
quiet_after_one b m (Some l) id h quiet = by (same_client l.id id) refl
  where
    by : (same : Bool) → same_client l.id id ≡ same → IsQuiet (seen id m.server)
    by true e = subst (λ (i : ClientParts). IsQuiet (seen i m.server)) (one_client l.id id e) (asked_quiet b m (Some l) h)
    by false e = quiet_stays b m l.id id h.2.1 e quiet

-- what comes of the first one that is asked, and what then
abbrev Then : List (Option Ledger) → List ℕ → ℕ → CoreState → Result (Option ClientParts) OutOfMemory → Result (Option ClientParts) OutOfMemory → List ℕ → CoreState → Type 0
Then ledgers slots slot mid one found rest after =
    MatchResult one
    (λ o. MatchOption o (AsksInTurn ledgers mid slots found rest after) (λ id. (found ≡ one) × (rest ≡ slots) × (after ≡ mid)))
    (λ e. (found ≡ one) × (rest ≡ added slot slots) × (after ≡ mid))

module _ (ledgers : List (Option Ledger)) where
  pub found_has : (slots : List ℕ) (b a : CoreState) (id : ClientParts) (rest : List ℕ) → AsksInTurn ledgers b slots (Ok (Some id)) rest a → has_bytes a id ≡ true
  found_has [] b a id rest h = absurd (other_none id (sym h.0))
  found_has (slot ∷ slots) b a id rest h = by h.0 h.2 h.3 (λ on. found_has slots h.1 a id rest on)
    where
      by : (one : Result (Option ClientParts) OutOfMemory) → Asks b (ledger_at slot ledgers) one h.1 → Then ledgers slots slot h.1 one (Ok (Some id)) rest a
          → (AsksInTurn ledgers h.1 slots (Ok (Some id)) rest a → has_bytes a id ≡ true) → has_bytes a id ≡ true
      by (Ok None) asks on later = later on
      by (Ok (Some i)) asks on later =
          let same : id ≡ i = cc in
          ap (λ c. has_bytes c id) on.2 ∙ (ap (has_bytes h.1) same ∙ asked_has b h.1 (ledger_at slot ledgers) i asks)
      by (Err e) asks on later = absurd cc

  quiet_after_all : (slots : List ℕ) (b a : CoreState) (rest : List ℕ) (id : ClientParts) → AsksInTurn ledgers b slots (Ok None) rest a → IsQuiet (seen id b.server)
      → IsQuiet (seen id a.server)
  quiet_after_all [] b a rest id h quiet = subst (λ (c : CoreState). IsQuiet (seen id c.server)) (sym h.2) quiet
  quiet_after_all (slot ∷ slots) b a rest id h quiet = by h.0 h.2 h.3 (λ on still. quiet_after_all slots h.1 a rest id on still)
    where
      by : (one : Result (Option ClientParts) OutOfMemory) → Asks b (ledger_at slot ledgers) one h.1 → Then ledgers slots slot h.1 one (Ok None) rest a
          → (AsksInTurn ledgers h.1 slots (Ok None) rest a → IsQuiet (seen id h.1.server) → IsQuiet (seen id a.server)) → IsQuiet (seen id a.server)
      by (Ok None) asks on later = later on (quiet_after_one b h.1 (ledger_at slot ledgers) id asks quiet)
      by (Ok (Some i)) asks on later = absurd (other_none i on.0)
      by (Err e) asks on later = absurd cc

  seat_quiet_after : (slots : List ℕ) (b a : CoreState) (rest : List ℕ) (o : Option Ledger) → AsksInTurn ledgers b slots (Ok None) rest a → SeatHasNoBytes b o → SeatHasNoBytes a o
  seat_quiet_after slots b a rest None h quiet = tt
  seat_quiet_after slots b a rest (Some l) h quiet = quiet_after_all slots b a rest l.id h quiet

  -- no one is found: then none of those that were asked has something
  pub none_has : (slots : List ℕ) (b a : CoreState) (rest : List ℕ) → AsksInTurn ledgers b slots (Ok None) rest a → (k : ℕ) → is_among k slots ≡ true → SeatHasNoBytes a (ledger_at k ledgers)
  none_has [] b a rest h k among = absurd (false≢true among)
  none_has (slot ∷ slots) b a rest h k among = by h.0 h.2 h.3 (λ on there. none_has slots h.1 a rest on k there)
    where
      by : (one : Result (Option ClientParts) OutOfMemory) → Asks b (ledger_at slot ledgers) one h.1 → Then ledgers slots slot h.1 one (Ok None) rest a
          → (AsksInTurn ledgers h.1 slots (Ok None) rest a → is_among k slots ≡ true → SeatHasNoBytes a (ledger_at k ledgers)) → SeatHasNoBytes a (ledger_at k ledgers)
      by (Ok (Some i)) asks on later = absurd (other_none i on.0)
      by (Err e) asks on later = absurd cc
      by (Ok None) asks on later = at (slot == k) refl among
        where
          at : (same : Bool) → (slot == k) ≡ same → (same || is_among k slots) ≡ true → SeatHasNoBytes a (ledger_at k ledgers)
          at true e f =
              subst (λ (n : ℕ). SeatHasNoBytes a (ledger_at n ledgers)) (eqb-true slot k e)
              (seat_quiet_after slots h.1 a rest (ledger_at slot ledgers) on (asked_quiet b h.1 (ledger_at slot ledgers) asks))
          at false e f = later on f

-- ---- the answer

pub writable_found : (b a : ServerState) (result : Result FlatClientId Status) → NextWritable b result a → FoundHasBytes a.core result
writable_found b a result h = by h.0 h.1 h.2
  where
    by : (found : Result (Option ClientParts) OutOfMemory) → AsksInTurn b.seats.ledgers b.core b.seats.writable found a.seats.writable a.core
        → result ≡ told_of found → FoundHasBytes a.core result
    by (Ok None) asks e = rw e tt
    by (Ok (Some id)) asks e = rw e (found_has b.seats.ledgers b.seats.writable b.core a.core id a.seats.writable asks)
    by (Err s) asks e = rw e tt

pub writable_none : (b a : ServerState) (result : Result FlatClientId Status) → NextWritable b result a → NoneAskedHasBytes b.seats a.core result
writable_none b a result h = by h.0 h.1 h.2
  where
    by : (found : Result (Option ClientParts) OutOfMemory) → AsksInTurn b.seats.ledgers b.core b.seats.writable found a.seats.writable a.core
        → result ≡ told_of found → NoneAskedHasBytes b.seats a.core result
    by (Ok None) asks e blocked = none_has b.seats.ledgers b.seats.writable b.core a.core a.seats.writable asks
    by (Ok (Some id)) asks e blocked = absurd cc
    by (Err s) asks e blocked = absurd cc

pub conserves_writable : (b a : ServerState) (result : Result FlatClientId Status) → NextWritable b result a → Conserves kept_by_server b [] [] a
conserves_writable b a result h = record { each = λ d. ap (λ n. n + 0) (ap (kept_by_server d) (sym h.3)) }
