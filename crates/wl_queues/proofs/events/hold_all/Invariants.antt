use Rattle.std.proofs.Common.{◌≡◌, ℕ, ◌+◌, take}
use Rattle.wl_queues.specs.Events.{times_in}
use Rattle.wl_queues.specs.Inside.Objects.{object_of, references_of}
use Rattle.wl_queues.proofs.events.hold_all.Given as goal

abbrev pub invariant-loop-object : goal.invariant-loop-object
invariant-loop-object l = record {
  objects : (p : ℕ) → object_of l.objects p ≡ object_of l.fn.objects p;
  references : (p : ℕ) → references_of l.objects p ≡ references_of l.fn.objects p + times_in p (take l.object-index l.arguments);
}
