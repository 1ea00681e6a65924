-- That the parser's refusal is one of the message that the table has.
use Rattle.std.proofs.Common.{List, inl, inr}
use Rattle.wl_wire.specs.declared.argument.ArgumentType.{ArgumentType}
use Rattle.wl_wire.specs.declared.error.MessageParseError.TheVariants as errors
use Rattle.wl_wire.specs.Parse.{RefusesMessage}
use Rattle.wl_wire.specs.Table.{message_row}
use Rattle.wl_follow.specs.Fronts.{LacksPart}
use Rattle.wl_follow.specs.Objects.{object_of}
use Rattle.wl_follow.proofs.Fronts.{known_refuses}
use Rattle.wl_follow.proofs.front.read_front.Goals as goal

pub returns-in-Err-MissingData-clause-none : goal.returns-in-Err-MissingData-clause-none
returns-in-Err-MissingData-clause-none g c =
    let found = c.in-Some-described.found in
    let q = g.S.MessageSource.queue c.args.from.now in
    inr (known_refuses c.args.table.now c.args.objects.now.store c.args.side q (λ (s : List ArgumentType). LacksPart s q) _ _ (object_of found.interface found.version) (message_row found.desc.now)
    c.as_slice.result.now c.in-Some.ensures.1 c.in-Some.ensures.2 c.in-Some-described.ensures.known c.as_slice.ensures.value (inl (rw c.in-Err-MissingData.field-0-is at c.in-Err-MissingData.ensures.refused)))

pub returns-in-Err-MissingFD-clause-none : goal.returns-in-Err-MissingFD-clause-none
returns-in-Err-MissingFD-clause-none g c =
    let found = c.in-Some-described.found in
    let q = g.S.MessageSource.queue c.args.from.now in
    inr (known_refuses c.args.table.now c.args.objects.now.store c.args.side q (λ (s : List ArgumentType). LacksPart s q) _ _ (object_of found.interface found.version) (message_row found.desc.now)
    c.as_slice.result.now c.in-Some.ensures.1 c.in-Some.ensures.2 c.in-Some-described.ensures.known c.as_slice.ensures.value (inr (rw c.in-Err-MissingFD.field-0-is at c.in-Err-MissingFD.ensures.refused)))

pub returns-in-Err-Malformed-clause-none : goal.returns-in-Err-Malformed-clause-none
returns-in-Err-Malformed-clause-none g c =
    let found = c.in-Some-described.found in
    let q = g.S.MessageSource.queue c.args.from.now in (
      c.in-Some.ensures.0,
      known_refuses c.args.table.now c.args.objects.now.store c.args.side q (λ (s : List ArgumentType). RefusesMessage q.bytes s q.tokens errors.Malformed) _ _ (object_of found.interface found.version) (message_row found.desc.now)
          c.as_slice.result.now c.in-Some.ensures.1 c.in-Some.ensures.2 c.in-Some-described.ensures.known c.as_slice.ensures.value (rw c.in-Err-Malformed.field-0-is at c.in-Err-Malformed.ensures.refused),
    )

pub returns-in-Err-OutOfMemory-clause-none : goal.returns-in-Err-OutOfMemory-clause-none
returns-in-Err-OutOfMemory-clause-none g c =
    let found = c.in-Some-described.found in
    let q = g.S.MessageSource.queue c.args.from.now in (
      c.in-Some.ensures.0,
      known_refuses c.args.table.now c.args.objects.now.store c.args.side q (λ (s : List ArgumentType). RefusesMessage q.bytes s q.tokens errors.OutOfMemory) _ _ (object_of found.interface found.version) (message_row found.desc.now)
          c.as_slice.result.now c.in-Some.ensures.1 c.in-Some.ensures.2 c.in-Some-described.ensures.known c.as_slice.ensures.value (rw c.in-Err-OutOfMemory.field-0-is at c.in-Err-OutOfMemory.ensures.refused),
    )
