use Rattle.std.proofs.Common.{◌≡◌, ◌++◌, ℕ, List, Option, length, map, min}
use Rattle.wl_server_client.specs.Ids.{IdParts}
use Rattle.wl_host.specs.Held.{flat_held}
use Rattle.wl_host.specs.Lists.{filled}
use Rattle.wl_host.proofs.server.held.put_all.Given as goal

-- those that were taken out of the list are in the memory
abbrev pub invariant-loop-id : goal.invariant-loop-id
invariant-loop-id l =
    (taken : List (IdParts × Option ℕ)) × (l.fn.all ≡ taken ++ l.rest) × (l.objects ≡ filled (map flat_held taken) l.fn.objects)
    × (l.found ≡ min (length taken) 18446744073709551615)
