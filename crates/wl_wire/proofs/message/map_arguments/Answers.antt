use Rattle.std.proofs.Common.{◌∷◌, [], ◌<◌, length, reverse, ap, ◌∙◌, arith, append_assoc, length-append}
use Rattle.std.proofs.lemmas.Bool.{false≢true}
use Rattle.std.proofs.lemmas.List.{reverse-reverse, append-nil, length-reverse}
use Rattle.std.proofs.lemmas.Grind.{common_steps}
use Rattle.wl_wire.proofs.MapFd.{refill_whole, MapsFds-popped, MapsFds-done}
use Rattle.wl_wire.proofs.message.map_arguments.Goals as goal

pub loop-arg-init : goal.loop-arg-init
loop-arg-init g c =
    let old = c.args.old.now.items in
    let turned = refill_whole old c.reverse.new.self (c.reverse.ensures.after ∙ ap reverse c.deref_mut.ensures.value) in
    record {
      callable = c.requires.callable;
      room = rw (c.requires.empty, turned, length-reverse old) (omega (arith, c.requires.room));
      left = λ rest last others. rw c.requires.empty (rw (turned, reverse-reverse old) at others);
    }

pub loop-arg-preserved : goal.loop-arg-preserved
loop-arg-preserved g c = record {
  callable = c.map_argument-next.ensures.callable;
  room = rw (c.push_reserved.ensures.items, c.push_reserved.ensures.capacity) (omega (arith, length-append c.loop-arg.args.items (c.map_argument-next.result.1 ∷ []), c.in-Some.ensures.len, c.loop-arg.invariant.room));
  left = λ rest last others.
      rw (c.push_reserved.ensures.items, append_assoc)
      (c.loop-arg.invariant.left (c.map_argument-next.result.1 ∷ rest) last
      (MapsFds-popped (goal.F-step g) c.loop-arg.f c.map_argument-next.result.0 last c.loop-arg.old.items c.pop.new.self.items c.in-Some.arg c.map_argument-next.result.1 rest c.in-Some.ensures.items c.map_argument-next.ensures.mapped others));
}

pub returns : goal.returns
returns g c =
    let none : ¬ (0 < length c.loop-arg.old.items) = λ more. false≢true (c.in_default.ensures.variant.1 more) in
    record { mapped = (c.loop-arg.f, rw append-nil at (c.loop-arg.invariant.left [] c.loop-arg.f (MapsFds-done (goal.F-step g) c.loop-arg.f c.loop-arg.old.items none))) }

pub deref_mut-requires : goal.deref_mut-requires
deref_mut-requires g c = grind (arith, common_steps)

pub pop-requires : goal.pop-requires
pop-requires g c = grind (arith, common_steps)

pub push_reserved-requires : goal.push_reserved-requires
push_reserved-requires g c = grind (arith, common_steps)

pub loop-arg-smaller : goal.loop-arg-smaller
loop-arg-smaller g c = grind (arith, common_steps)
