use Rattle.std.proofs.Common.{◌≡◌, map, take}
use Rattle.wl_link.specs.Script.{parcel}
use Rattle.wl_bench.specs.Sync.{all_bytes}
use Rattle.wl_bench.proofs.sync.sent_bytes.Given as goal

abbrev pub invariant-loop-chunk : goal.invariant-loop-chunk
invariant-loop-chunk l = l.bytes.items ≡ all_bytes (map parcel (take l.chunk-index l.sent))
