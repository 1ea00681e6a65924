use Rattle.std.proofs.Common.{◌≡◌, ◌++◌, drop, take}
use Rattle.std.specs.Option.{option_map}
use Rattle.wl_flat.specs.Arguments.{arguments_of, descriptors_given}
use Rattle.wl_flat.specs.Descriptors.{IsLonger, put_in}
use Rattle.wl_flat.proofs.arguments.fill_each.Given as goal

-- what was read so far and what is left are all
abbrev pub invariant-loop-arg : goal.invariant-loop-arg
invariant-loop-arg g l =
    let stands_for = g.Id.FromFlat.stands_for in
    let rest = drop l.arg-index l.arguments in
    record {
      counted : l.count ≡ l.arg-index;
      read : option_map (λ others. take l.count l.places ++ others) (arguments_of stands_for l.bytes l.descriptors rest) ≡ arguments_of stands_for l.bytes l.fn.descriptors l.arguments;
      put : put_in l.descriptors (descriptors_given rest) ≡ put_in l.fn.descriptors (descriptors_given l.arguments);
      longer : IsLonger l.fn.descriptors l.descriptors;
    }
