use Rattle.std.proofs.Common.{◌≡◌, ℕ, length}
use Rattle.std.specs.Prelude.{if◌then◌else◌, nat_lt}
use Rattle.wl_queues.specs.Objects.{left_by}
use Rattle.wl_queues.specs.Inside.Objects.{object_of, references_of}
use Rattle.wl_queues.proofs.objects.Objects.leave_queue.Given as goal

-- the objects before this one have left the queue
abbrev pub invariant-loop-object : goal.invariant-loop-object
invariant-loop-object l = record {
  objects : (p : ℕ) → object_of l.self p ≡ (if nat_lt p l.object then left_by l.queue (object_of l.fn.self p) else object_of l.fn.self p);
  references : (p : ℕ) → references_of l.self p ≡ references_of l.fn.self p;
  len : length l.self.slots.items ≡ length l.fn.self.slots.items;
}
