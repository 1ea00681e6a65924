use Rattle.std.proofs.Common.{◌≡◌, ℕ, List, Option, Result, length}
use Rattle.wl_server_client.specs.Ids.{ClientParts}
use Rattle.wl_wire.specs.declared.error.OutOfMemory.{OutOfMemory}
use Rattle.wl_host.specs.Calls.{CoreState}
use Rattle.wl_host.specs.Server.{AsksInTurn}
use Rattle.wl_host.proofs.server.sending.next_of.Given as goal

abbrev pub invariant-loop-slot : goal.invariant-loop-slot
invariant-loop-slot l = record {
  asked : (found : Result (Option ClientParts) OutOfMemory) (rest : List ℕ) (after : CoreState) → AsksInTurn l.fn.seats.ledgers l.core l.seats.writable found rest after
      → AsksInTurn l.fn.seats.ledgers l.fn.core l.fn.seats.writable found rest after;
  beside : l.seats ≡ record l.fn.seats { writable = l.seats.writable };
}

abbrev pub decreases-loop-slot : goal.decreases-loop-slot
decreases-loop-slot l = length l.seats.writable
