-- What a program knows of the id of an object that it destroyed.
use Rattle.std.specs.Prelude.{◌≡◌, List, None}
use Rattle.wl_wire.specs.Table.{InterfaceRow}
use Rattle.wl_server_client.specs.Ids.{IdParts}
use Rattle.wl_server_model.specs.Lookups.{object_of}
use Rattle.wl_server_model.specs.PartStep.{World}
use Rattle.wl_server_model.specs.Runs.{Leads}
use Rattle.wl_server_model.specs.Server.{ServerState, new_server}
use Rattle.wl_server_model.specs.Steps.{Entry}

-- Whatever calls led from a new server to this one, and whatever calls come after it: the id names none.
abbrev pub IsGoneForGood : {T U G C : Type 0} → World T G C → ServerState T U G C → IdParts → ServerState T U G C → Type 0
IsGoneForGood {T = T} {U = U} {G = G} {C = C} w before object destroyed =
    (table : List InterfaceRow) (earlier later : List (Entry T U G C)) (after : ServerState T U G C)
    → Leads w (new_server table) earlier before → Leads w destroyed later after → object_of after object ≡ None
