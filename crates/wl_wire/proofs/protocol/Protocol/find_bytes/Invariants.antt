use Rattle.std.proofs.Common.{◌≢◌, ℕ, ◌<◌}
use Rattle.wl_wire.specs.Table.{name_of}
use Rattle.wl_wire.proofs.protocol.Protocol.find_bytes.Given as goal

-- no interface before this one has the name
abbrev pub invariant-loop-place : goal.invariant-loop-place
invariant-loop-place l = (n : ℕ) → n < l.place → name_of l.fn.self n ≢ l.name
