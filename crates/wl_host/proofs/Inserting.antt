-- A new client, as the core inserts it and as it is seated.
use Rattle.std.proofs.Common.{◌≡◌, ℕ, ◌+◌, ◌^◌, ◌≤◌, ◌<◌, max, Option, Some, Ok, length, ap, subst, sym, ◌∙◌, arith}
use Rattle.std.specs.Global.{Global}
use Rattle.std.specs.Option.{unwrap_or}
use Rattle.std.specs.Prelude.{Vec, slice_set, vec_len}
use Rattle.std.specs.VecDeque.{deque_capacity, deque_len}
use Rattle.std.specs.declared.collections.VecDeque.{VecDeque}
use Rattle.wl_link.specs.Mailbox.{MailboxState}
use Rattle.wl_server_model.specs.Backend.{Calls}
use Rattle.wl_server_client.specs.Ids.{ClientParts}
use Rattle.wl_server_model.specs.Next.{NextClientIsGiven}
use Rattle.wl_server_model.specs.Steps.{NumbersClient}
use Rattle.wl_server_model.specs.declared.step.Reply.TheVariants as reply
use Rattle.wl_server_model.specs.declared.step.Step.TheVariants as step
use Rattle.wl_host.proofs.Seating.{seats_seated}
use Rattle.wl_host.specs.Calls.{CoreState, world}
use Rattle.wl_flat.specs.Descriptors.{Descriptors}
use Rattle.wl_host.specs.Inside.Seats.{AreSeats, HasRoomAt, SameButRoom}
use Rattle.wl_host.specs.Seats.{HasNonePassed, new_ledger, padded}
use Rattle.wl_host.specs.declared.server.HostClient.{HostClient}
use Rattle.wl_host.specs.declared.server.ledger.Departed.{Departed}
use Rattle.wl_host.specs.declared.server.ledger.Ledger.{Ledger}
use Rattle.wl_host.specs.declared.server.seats.Seats.TheInside.{Inside}
use Rattle.wl_flat.specs.declared.telling.Telling.{Telling}

-- the client gets the id that was told beforehand
pub as_told : (b a : CoreState) (m : MailboxState) (client : HostClient) (id next : ClientParts) → Calls world b (step.InsertClient m client) (reply.InsertClient (Ok id)) a
    → NextClientIsGiven b.server.last_client b.server.clients (Some next) → id ≡ next
as_told b a m client id next call given =
    let numbers = subst (NumbersClient b.server) call.step.1 call.step.3.client in
    let told : Some next ≡ Some id = given (Ok id) numbers in sym (ap (λ o. unwrap_or o next) told)

-- nothing came in for it yet
pub none_passed : (id : ClientParts) (u : ℕ) (t : Option Telling) (l : Ledger) → l ≡ new_ledger id u t → HasNonePassed l
none_passed id u t l e = (ap (λ (k : Ledger). k.received.passed) e, ap (λ (k : Ledger). k.sending.passed) e)

-- it is seated in a place for which room was made
pub seats_put : (s t : Inside) (slot k : ℕ) (l : Ledger) (v : Vec (Option Ledger) Global) (g : VecDeque Departed Global) (q : VecDeque Descriptors Global) → AreSeats s → HasNonePassed l
    → slot < 2 ^ 32 → k ≡ slot → v.items ≡ s.ledgers.items → HasRoomAt slot v g q → SameButRoom s.gone g → SameButRoom s.left q
    → t.ledgers.items ≡ slice_set (padded v.items k) k (Some l) → vec_len t.ledgers ≡ max (vec_len v) (k + 1)
    → deque_len t.gone ≤ deque_len g + 1 → deque_capacity t.gone ≡ deque_capacity g → deque_len t.left ≤ deque_len q + 1 → deque_capacity t.left ≡ deque_capacity q
    → s.writable.room ≤ t.writable.room → slot + 1 ≤ t.writable.room → s.marked.room ≤ t.marked.room → slot + 1 ≤ t.marked.room → t.marked.slots ≡ s.marked.slots → AreSeats t
seats_put s t slot k l v g q are none below at same room gone left items len glen gcap llen lcap w ws m ms marks =
    let vok = v.ok in
    let sok = s.ledgers.ok in
    let long = ap length same in
    let known : vec_len v ≡ vec_len s.ledgers = omega (arith, vok, sok, long) in
    seats_seated s t slot l are none below
    (items ∙ (ap (λ xs. slice_set (padded xs k) k (Some l)) same ∙ ap (λ j. slice_set (padded s.ledgers.items j) j (Some l)) at))
    (len ∙ (ap (λ n. max n (k + 1)) known ∙ ap (λ j. max (vec_len s.ledgers) (j + 1)) at))
    (omega (arith, glen, gone.1)) (omega (arith, llen, left.1))
    (let r = room.going in let e = ap (λ n. max n (slot + 1)) known in omega (arith, r, e, gone.1, gcap))
    (let r = room.leaving in let e = ap (λ n. max n (slot + 1)) known in omega (arith, r, e, gone.1, left.1, lcap))
    w ws m ms marks
