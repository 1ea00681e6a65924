use Rattle.std.proofs.Common.{◌≡◌, ◌≤◌, drop, length, map, take}
use Rattle.wl_flat.specs.Sending.{all_taken_out, descriptors_of, shown}
use Rattle.wl_flat.proofs.outgoing.copy_descriptors.Given as goal

abbrev pub invariant-loop-index : goal.invariant-loop-index
invariant-loop-index l = record {
  held : (all_taken_out l.queue (take l.index l.tokens)).held ≡ drop l.taken l.queue.held;
  front : (all_taken_out l.queue (take l.index l.tokens)).front ≡ l.front;
  few : l.taken ≤ length l.queue.held;
  written : take l.index l.to ≡ map shown (descriptors_of l.queue (take l.index l.tokens));
  rest : drop l.index l.to ≡ drop l.index l.fn.to;
}
