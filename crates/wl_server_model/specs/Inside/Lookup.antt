-- A stored client that is lent.
use Rattle.std.specs.Prelude.{Option, Some, Vec}
use Rattle.std.specs.Borrow.{Fml, LendsIf, MutBor}
use Rattle.std.specs.Vec.{with_item}
use Rattle.std.specs.contracts.alloc.Global as global
use Rattle.std.specs.contracts.impls.GlobalAllocator.TheImpl.{ghosts}
use Rattle.std.specs.contracts.option.Option as option
use Rattle.std.specs.contracts.vec.Vec as vec
use denote.RattleType.{RattleType}
use Rattle.wl_server_client.specs.Ids.{ClientParts}
use Rattle.wl_server_client.specs.Stored.{Stored}
use Rattle.wl_server_client.specs.contracts.client.Client as client

-- the clients of a server by slot, as the logic holds them
abbrev pub clients_row : (T U C : RattleType) → RattleType
clients_row T U C = vec.the_row (option.the_row (client.the_row T U C)) global.the_row ghosts

-- after the loan the client of the id is as it was left, and all else is as it was
abbrev pub LendsStored : (T U C : RattleType) → MutBor (Vec (Option (Stored T.Denot U.Denot C.Denot)) global.the_row.Denot) → ClientParts
    → Option (MutBor (Stored T.Denot U.Denot C.Denot)) → Fml
LendsStored T U C clients id stored =
    LendsIf (clients_row T U C) (client.the_row T U C) clients stored (λ s. with_item clients.now id.slot (Some s)) clients.now
