use Rattle.std.proofs.Common.{◌≡◌, ◌++◌, take}
use Rattle.std.specs.List.{flat_map}
use Rattle.std.specs.String.{string_bytes}
use Rattle.wl_relay.specs.Program.{after_comma}
use Rattle.wl_relay.proofs.commands.push_tokens.Given as goal

abbrev pub invariant-loop-token : goal.invariant-loop-token
invariant-loop-token l = string_bytes l.line ≡ string_bytes l.initial.line ++ flat_map after_comma (take l.token-index l.rest)
