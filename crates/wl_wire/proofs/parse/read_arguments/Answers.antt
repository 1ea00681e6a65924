use Rattle.std.proofs.Common.{drop, arith}
use Rattle.std.proofs.lemmas.Result.{err_from_is_err_and}
use Rattle.wl_wire.specs.declared.argument.ArgumentType.TheVariants.{Int}
use Rattle.wl_wire.proofs.Loop.{goes_on, fails_alone, ends, is_done}
use Rattle.wl_wire.proofs.parse.read_arguments.Goals as goal

pub returns-in_err-after-clause-found : goal.returns-in_err-after-clause-found
returns-in_err-after-clause-found c =
    let p = err_from_is_err_and c.from_residual-in_err-after.result c.from_residual-in_err-after.ensures.1 in
    rw (p.1, p.2) (ends c.in_err-after.field-0.0 c.loop-kind.args.items c.args.signature.now c.loop-kind.kind-index c.loop-kind.rest.now (drop c.loop-kind.used c.args.fds.now.items) Int _ c.loop-kind-test.true (fails_alone _ c.loop-kind.args.items _ c.in_err-after.ensures.found) c.loop-kind.invariant.0)

pub loop-kind-preserved : goal.loop-kind-preserved
loop-kind-preserved c = (
  goes_on c.loop-kind.args.items c.read_next.new.args.items c.args.signature.now c.loop-kind.kind-index c.loop-kind.rest.now (drop c.loop-kind.used c.args.fds.now.items) Int c.in_ok-after.after.now (drop c.in_ok-after.so_far c.args.fds.now.items) _ c.loop-kind-test.true c.in_ok-after.ensures.found c.loop-kind.invariant.0,
  omega (arith, c.in_ok-after.ensures.one, c.in_ok-after.ensures.capacity, c.loop-kind.invariant.1, c.loop-kind-test.true),
  omega (arith, c.in_ok-after.ensures.capacity, c.loop-kind.invariant.2),
)

pub returns-clause-found : goal.returns-clause-found
returns-clause-found c = is_done c.loop-kind.args.items c.args.signature.now c.loop-kind.kind-index c.loop-kind.rest.now (drop c.loop-kind.used c.args.fds.now.items) _ c.loop-kind-test.false c.loop-kind.invariant.0
