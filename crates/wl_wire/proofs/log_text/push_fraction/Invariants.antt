use Rattle.std.proofs.Common.{◌≡◌, ◌++◌, take}
use Rattle.std.specs.List.{flat_map}
use Rattle.std.specs.String.{string_bytes}
use Rattle.wl_wire.specs.LogText.{digit_at, eight_units}
use Rattle.wl_wire.proofs.log_text.push_fraction.Given as goal

abbrev pub invariant-loop-unit : goal.invariant-loop-unit
invariant-loop-unit l = string_bytes l.text ≡ string_bytes l.fn.text ++ flat_map (digit_at l.part) (take l.unit-index eight_units)
