-- What is told of clients stands beside the session: what catches up with it leaves the core as it is.
use Rattle.std.proofs.Common.{◌≡◌, ℕ, ℤ, true, List, Option, None, Some, Result, Ok, Err, ap, sym, ◌∙◌}
use Rattle.std.specs.Prelude.{MatchOption}
use Rattle.wl_link.specs.Mailbox.{MailboxState}
use Rattle.wl_server_client.specs.Ids.{ClientParts}
use Rattle.wl_server_model.specs.Lookups.{transport_of, waiting_of}
use Rattle.wl_wire.specs.declared.error.OutOfMemory.{OutOfMemory}
use Rattle.wl_host.proofs.Refusing.{action_allowed}
use Rattle.wl_host.proofs.Settled.{action_settled, kills_same, sent_settled, stays_by, stays_same}
use Rattle.wl_host.proofs.StillTold.{action_told, sent_told}
use Rattle.wl_host.specs.Actions.{Lent}
use Rattle.wl_host.specs.Allowed.{LendsAllowedAction}
use Rattle.wl_host.specs.Hearing.{LedgerTells}
use Rattle.wl_host.specs.Killed.{StaysSettled}
use Rattle.wl_host.specs.Seats.{ledger_of}
use Rattle.wl_flat.specs.Sending.{Copied}
use Rattle.wl_host.specs.Server.{ServerState}
use Rattle.wl_host.specs.Tellings.{CatchesUpOf, CatchesUpWith, CopiesTold, NextTold, ReadsTold, SendsTold, TellsNothing, with_seat}
use Rattle.wl_flat.specs.Told.{LentTold}
use Rattle.wl_flat.specs.declared.flat.FlatArgument.{FlatArgument}
use Rattle.wl_host.specs.declared.server.ledger.Ledger.{Ledger}
use Rattle.wl_flat.specs.declared.status.Status.{Status}
use Rattle.wl_flat.specs.declared.status.Status.TheVariants as status

-- all but what is kept of clients is as it was
abbrev pub IsBeside : ServerState → ServerState → Type 0
IsBeside before after = after ≡ record before { seats = after.seats }

pub stays_then : (b m a : ServerState) → StaysSettled b m → StaysSettled m a → StaysSettled b a
stays_then b m a f g settled = g (f settled)

pub stays_beside : (b a : ServerState) → IsBeside b a → StaysSettled b a
stays_beside b a is =
    stays_by b a (kills_same b.core a.core (ap (λ (s : ServerState). s.core) is)) (ap (λ (s : ServerState). s.may_clean_up) is)

pub beside_refuses : (b a : ServerState) → IsBeside b a → a.refuses_nulls ≡ b.refuses_nulls
beside_refuses b a is = ap (λ (s : ServerState). s.refuses_nulls) is

beside_same : (b a : ServerState) → a ≡ b → IsBeside b a
beside_same b a same = same ∙ ap (λ (s : ServerState). let t : ServerState = record b { seats = s.seats } in t) (sym same)

-- another ledger is put in
beside_seat : (b a : ServerState) (id : ClientParts) (l : Ledger) → a ≡ with_seat b id l → IsBeside b a
beside_seat b a id l is = is ∙ ap (λ (s : ServerState). let t : ServerState = record b { seats = s.seats } in t) (sym is)

-- ---- catching up

catches_by : (b a : ServerState) (id : ClientParts) (l : Option Ledger) (c : Option (List ℕ)) (m : Option MailboxState)
    (r : Result (Unit {0}) OutOfMemory) → CatchesUpOf b id l c m r a → IsBeside b a
catches_by b a id (Some l) (Some c) (Some m) r (l', catches, is) = beside_seat b a id l' is
catches_by b a id (Some l) (Some c) None r h = beside_same b a h.1
catches_by b a id (Some l) None m r h = beside_same b a h.1
catches_by b a id None c m r h = beside_same b a h.1

pub caught_beside : (b a : ServerState) (id : ClientParts) (r : Result (Unit {0}) OutOfMemory) → CatchesUpWith b id r a → IsBeside b a
caught_beside b a id r h = catches_by b a id (ledger_of id b.seats.ledgers) (waiting_of b.core.server id) (transport_of b.core.server id) r h

-- ---- the calls leave nobody killed whom a cleanup would not find

pub told_action_settled : (b a : ServerState) (id : ClientParts) (arguments : List FlatArgument) (bytes : List ℕ) (s : Status) (lent : Lent) (out : List ℤ)
    → ReadsTold b id arguments bytes s lent out a → StaysSettled b a
told_action_settled b a id arguments bytes s lent out (Ok done, mid, caught, h) =
    stays_then b mid a (stays_beside b mid (caught_beside b mid id (Ok done) caught)) (action_settled mid a id arguments bytes s lent out h)
told_action_settled b a id arguments bytes s lent out (Err e, mid, caught, h) =
    stays_then b mid a (stays_beside b mid (caught_beside b mid id (Err e) caught)) (stays_same mid a h.2)

pub told_to_send_settled : (b a : ServerState) (id : ClientParts) (bytes : List ℕ) (ds : List ℤ) (copied : Copied) → CopiesTold b id bytes ds copied a → StaysSettled b a
told_to_send_settled b a id bytes ds copied (r, caught, h) = stays_beside b a (caught_beside b a id r caught)

pub told_sent_settled : (b a : ServerState) (id : ClientParts) (count : ℕ) (s : Status) → SendsTold b id count s a → StaysSettled b a
told_sent_settled b a id count s (Ok done, mid, caught, h) =
    stays_then b mid a (stays_beside b mid (caught_beside b mid id (Ok done) caught)) (sent_settled mid a id count s h)
told_sent_settled b a id count s (Err e, mid, caught, h) =
    stays_then b mid a (stays_beside b mid (caught_beside b mid id (Err e) caught)) (stays_same mid a h.1)

next_by : (b a : ServerState) (id : ClientParts) (lent lent' : LentTold) (s : Status) (l : Option Ledger)
    → MatchOption l (TellsNothing status.InvalidId b lent s lent' a)
    (λ l. (l' : Ledger) × LedgerTells b.core.server.offer.table l lent s lent' l' × (a ≡ with_seat b id l'))
    → IsBeside b a
next_by b a id lent lent' s None h = beside_same b a h.2
next_by b a id lent lent' s (Some l) (l', tells, is) = beside_seat b a id l' is

pub told_next_settled : (b a : ServerState) (id : ClientParts) (lent : LentTold) (s : Status) (lent' : LentTold) → NextTold b id lent s lent' a → StaysSettled b a
told_next_settled b a id lent s lent' (Ok done, mid, caught, h) =
    stays_then b mid a (stays_beside b mid (caught_beside b mid id (Ok done) caught))
    (stays_beside mid a (next_by mid a id lent lent' s (ledger_of id mid.seats.ledgers) h))
told_next_settled b a id lent s lent' (Err e, mid, caught, h) =
    stays_then b mid a (stays_beside b mid (caught_beside b mid id (Err e) caught)) (stays_same mid a h.2)

-- ---- and change nothing of which registry was told of what

beside_told : (b a : ServerState) → IsBeside b a → a.told ≡ b.told
beside_told b a is = ap (λ (s : ServerState). s.told) is

pub told_action_told : (b a : ServerState) (id : ClientParts) (arguments : List FlatArgument) (bytes : List ℕ) (s : Status) (lent : Lent) (out : List ℤ)
    → ReadsTold b id arguments bytes s lent out a → a.told ≡ b.told
told_action_told b a id arguments bytes s lent out (Ok done, mid, caught, h) =
    action_told mid a id arguments bytes s lent out h ∙ beside_told b mid (caught_beside b mid id (Ok done) caught)
told_action_told b a id arguments bytes s lent out (Err e, mid, caught, h) =
    ap (λ (s : ServerState). s.told) h.2 ∙ beside_told b mid (caught_beside b mid id (Err e) caught)

pub told_to_send_told : (b a : ServerState) (id : ClientParts) (bytes : List ℕ) (ds : List ℤ) (copied : Copied) → CopiesTold b id bytes ds copied a → a.told ≡ b.told
told_to_send_told b a id bytes ds copied (r, caught, h) = beside_told b a (caught_beside b a id r caught)

pub told_sent_told : (b a : ServerState) (id : ClientParts) (count : ℕ) (s : Status) → SendsTold b id count s a → a.told ≡ b.told
told_sent_told b a id count s (Ok done, mid, caught, h) =
    sent_told mid a id count s h ∙ beside_told b mid (caught_beside b mid id (Ok done) caught)
told_sent_told b a id count s (Err e, mid, caught, h) =
    ap (λ (s : ServerState). s.told) h.1 ∙ beside_told b mid (caught_beside b mid id (Err e) caught)

pub told_next_told : (b a : ServerState) (id : ClientParts) (lent : LentTold) (s : Status) (lent' : LentTold) → NextTold b id lent s lent' a → a.told ≡ b.told
told_next_told b a id lent s lent' (Ok done, mid, caught, h) =
    beside_told mid a (next_by mid a id lent lent' s (ledger_of id mid.seats.ledgers) h) ∙ beside_told b mid (caught_beside b mid id (Ok done) caught)
told_next_told b a id lent s lent' (Err e, mid, caught, h) =
    ap (λ (s : ServerState). s.told) h.2 ∙ beside_told b mid (caught_beside b mid id (Err e) caught)

-- ---- and hand out no null that is forbidden

pub told_action_allowed : (b a : ServerState) (id : ClientParts) (arguments : List FlatArgument) (bytes : List ℕ) (lent : Lent) (out : List ℤ)
    → b.refuses_nulls ≡ true → ReadsTold b id arguments bytes status.Ok lent out a
    → LendsAllowedAction a.core arguments bytes lent × (lent.out.forbidden_null ≡ 0)
told_action_allowed b a id arguments bytes lent out on (Ok done, mid, caught, h) =
    action_allowed mid a id arguments bytes lent out (beside_refuses b mid (caught_beside b mid id (Ok done) caught) ∙ on) h
told_action_allowed b a id arguments bytes lent out on (Err e, mid, caught, h) = let no = h.0.0 in absurd cc
