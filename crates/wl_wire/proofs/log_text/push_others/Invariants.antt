-- What the text has once some of the arguments are written.
use Rattle.std.proofs.Common.{◌≡◌, ◌++◌, take}
use Rattle.std.specs.List.{flat_map}
use Rattle.std.specs.String.{string_bytes}
use Rattle.wl_wire.specs.LogText.{further_text}
use Rattle.wl_wire.proofs.log_text.push_others.Given as goal

abbrev pub invariant-loop-argument : goal.invariant-loop-argument
invariant-loop-argument g l =
    string_bytes l.text
    ≡ string_bytes l.fn.text ++ flat_map (further_text l.table (g.K.KnownObjects.interface_of l.objects) l.child) (take l.argument-index l.others)
