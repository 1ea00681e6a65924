use Rattle.std.proofs.Common.{◌≡◌, ◌+◌, ◌≤◌, length, get_or, arith, ap, ◌∙◌}
use Rattle.std.proofs.lemmas.List.Elements.{All-get_or}
use Rattle.wl_queues.specs.declared.objects.Fate.TheVariants.{Alive}
use Rattle.wl_queues.specs.Inside.Objects.{object_of, references_of}
use Rattle.wl_queues.proofs.Times.{times-all, times-more, times-next}
use Rattle.wl_queues.proofs.events.hold_all.Goals as goal

pub hold-requires-clause-alive : goal.hold-requires-clause-alive
hold-requires-clause-alive c =
    let i = c.loop-object.object-index in
    let o = get_or c.args.arguments.now i 0 in
    ap (λ x. x.fate) (c.loop-object.invariant.objects o) ∙ All-get_or (λ n. (object_of c.args.objects.now n).fate ≡ Alive) c.args.arguments.now i 0 c.loop-object-test.true c.requires.live

pub hold-requires-clause-room : goal.hold-requires-clause-room
hold-requires-clause-room c =
    let i = c.loop-object.object-index in
    let o = get_or c.args.arguments.now i 0 in
    let room = All-get_or (λ n. references_of c.args.objects.now n + (length c.args.arguments.now + 1) ≤ 0xFFFFFFFFFFFFFFFF) c.args.arguments.now i 0 c.loop-object-test.true c.requires.room in
    omega (arith, room, c.loop-object.invariant.references o, times-next c.args.arguments.now i c.loop-object-test.true, times-all o c.args.arguments.now)

pub loop-object-preserved : goal.loop-object-preserved
loop-object-preserved c = record {
  objects = λ p. c.hold.ensures.objects p ∙ c.loop-object.invariant.objects p;
  references = λ p. omega (arith, c.hold.ensures.references p, c.loop-object.invariant.references p, times-more p c.args.arguments.now c.loop-object.object-index c.loop-object-test.true);
}
