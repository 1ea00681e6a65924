use Rattle.std.proofs.Common.{◌≡◌, ◌+◌, ◌*◌, ◌++◌, take}
use Rattle.std.specs.List.{flat_map}
use Rattle.wl_wire.specs.Message.{spelling}
use Rattle.wl_link.specs.Link.{number_message}
use Rattle.wl_link.proofs.number_message.put_numbers.Given as goal

abbrev pub invariant-loop-message : goal.invariant-loop-message
invariant-loop-message l =
    (l.end ≡ l.at + 12 * l.message-index)
    × (take l.end l.storage ≡ take l.at l.fn.storage ++ flat_map (λ m. spelling (number_message m)) (take l.message-index l.messages))
