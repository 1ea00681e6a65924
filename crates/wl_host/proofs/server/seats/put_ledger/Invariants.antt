use Rattle.std.proofs.Common.{◌≡◌, ◌≤◌, ◌+◌, ◌-◌, ◌++◌, None, max, vec_capacity, vec_len}
use Rattle.std.specs.Prelude.{replicate}
use Rattle.wl_host.proofs.server.seats.put_ledger.Given as goal

abbrev pub invariant-loop-missing : goal.invariant-loop-missing
invariant-loop-missing l = record {
  items : l.ledgers.items ≡ l.fn.ledgers.items ++ replicate (l._missing - vec_len l.fn.ledgers) None;
  len : vec_len l.ledgers ≡ l._missing;
  few : l._missing ≤ max (vec_len l.fn.ledgers) (l.fn.ledger.id.slot + 1);
  capacity : vec_capacity l.ledgers ≡ vec_capacity l.fn.ledgers;
}
