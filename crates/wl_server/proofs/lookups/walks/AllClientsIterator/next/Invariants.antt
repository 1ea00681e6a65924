use Rattle.std.proofs.Common.{◌≡◌, ◌+◌, ◌≤◌, length}
use Rattle.wl_server_model.specs.Lookups.{live_from}
use Rattle.wl_server.proofs.lookups.walks.AllClientsIterator.next.Given as goal

-- only places without a live client were passed over
abbrev pub invariant-loop-place : goal.invariant-loop-place
invariant-loop-place g l = record {
  fits : l.self-inside.slot + length l.self-inside.clients.now ≤ 0x100000000;
  left : live_from l.self-inside.slot l.self-inside.clients.now ≡ l.fn.self;
}

abbrev pub decreases-loop-place : goal.decreases-loop-place
decreases-loop-place g l = length l.self-inside.clients.now
