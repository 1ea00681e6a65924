-- What is true of the seats of a server's session at any time, and what the functions over their fields share.
use Rattle.std.specs.Prelude.{◌≡◌, ◌⊎◌, ◌≤◌, ◌<◌, ◌^◌, ◌*◌, max, ℕ, ℤ, ◌+◌, List, true, Option, None, Some, Vec, slice_set, vec_capacity, vec_len}
use Rattle.std.specs.Global.{Global}
use Rattle.std.specs.List.{sum_by}
use Rattle.std.specs.VecDeque.{deque_capacity, deque_len}
use Rattle.std.specs.declared.collections.VecDeque.{VecDeque}
use Rattle.std.specs.Borrow.{Fml, LendsIf, MutBor}
use Rattle.std.specs.Vec.{with_item}
use Rattle.std.specs.contracts.alloc.Global as global
use Rattle.std.specs.contracts.impls.GlobalAllocator.TheImpl.{ghosts}
use Rattle.std.specs.contracts.option.Option as option
use Rattle.std.specs.contracts.vec.Vec as vec
use denote.RattleType.{RattleType}
use Rattle.wl_server_client.specs.Ids.{ClientParts}
use Rattle.wl_flat.specs.Descriptors.{Descriptors}
use Rattle.wl_host.specs.declared.server.ledger.Departed.{Departed}
use Rattle.wl_host.specs.declared.server.ledger.Ledger.{Ledger}
use Rattle.wl_host.specs.declared.server.seats.Seats.TheInside.{Inside}
use Rattle.wl_host.specs.contracts.server.ledger.Ledger as ledger
use Rattle.wl_host.specs.Seats.{HasNonePassed, LedgerPassesOut, is_among, ledger_at}

-- ---- the ledgers

-- how many clients the seat has
abbrev pub taken : Option Ledger → ℕ
taken None = 0
taken (Some l) = 1

-- whoever has descriptors that were passed over is marked
abbrev pub IsMarked : List ℕ → ℕ → Option Ledger → Type 0
IsMarked marked slot None = Unit {0}
IsMarked marked slot (Some l) = (is_among slot marked ≡ true) ⊎ HasNonePassed l

abbrev pub AreMarked : List ℕ → List (Option Ledger) → Type 0
AreMarked marked ledgers = (slot : ℕ) → IsMarked marked slot (ledger_at slot ledgers)

-- the ledgers of a server by slot, as the logic holds them
abbrev pub ledgers_row : RattleType
ledgers_row = vec.the_row (option.the_row ledger.the_row) global.the_row ghosts

-- after the loan the ledger of the client is as it was left, and all else is as it was
abbrev pub LendsSeat : MutBor (Vec (Option Ledger) global.the_row.Denot) → ClientParts → Option (MutBor Ledger) → Fml
LendsSeat ledgers id l = LendsIf ledgers_row ledger.the_row ledgers l (λ w. with_item ledgers.now id.slot (Some w)) ledgers.now

-- without the ledger that was at the slot, if one was
abbrev pub without_ledger : List (Option Ledger) → ℕ → Option Ledger → List (Option Ledger)
without_ledger ledgers slot None = ledgers
without_ledger ledgers slot (Some l) = slice_set ledgers slot None

-- the client on the seat has one less
abbrev pub PassesOutOf : Option Ledger → ℤ → Option Ledger → Type 0
PassesOutOf before d after = (l l' : Ledger) × (before ≡ Some l) × LedgerPassesOut l d l' × (after ≡ Some l')

-- ---- room

-- the same, with no less room
abbrev pub SameButRoom : {X : Type 0} → VecDeque X Global → VecDeque X Global → Type 0
SameButRoom before after = (after.items ≡ before.items) × (deque_len after ≡ deque_len before) × (deque_capacity before ≤ deque_capacity after)

-- There is room to seat a client at the slot, to let go whoever sits there, and then to let all go.
pub record HasRoomAt (slot : ℕ) (ledgers : Vec (Option Ledger) Global) (gone : VecDeque Departed Global) (left : VecDeque Descriptors Global) : Type 0 where
  pub seat : slot < vec_capacity ledgers
  pub going : deque_len gone + (max (vec_len ledgers) (slot + 1) + 1) ≤ deque_capacity gone
  pub leaving : deque_len left + (deque_len gone + 2 * (max (vec_len ledgers) (slot + 1) + 1)) ≤ deque_capacity left

-- ---- what is true at any time

-- There is room to let each client go, and for each slot in both lists; and whoever has descriptors that were passed over is
-- marked.
pub record AreSeats (s : Inside) : Type 0 where
  pub slots : vec_len s.ledgers ≤ 2 ^ 32
  pub gone : deque_len s.gone + sum_by taken s.ledgers.items ≤ deque_capacity s.gone
  pub left : deque_len s.left + deque_len s.gone + (sum_by taken s.ledgers.items + sum_by taken s.ledgers.items) ≤ deque_capacity s.left
  pub writable : vec_len s.ledgers ≤ s.writable.room
  pub marked : vec_len s.ledgers ≤ s.marked.room
  pub marks : AreMarked s.marked.slots s.ledgers.items
