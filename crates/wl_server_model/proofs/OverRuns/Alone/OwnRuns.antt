-- That the calls of a client's own run are about it or about none.
use Rattle.std.proofs.Common.{List, [], ◌∷◌, arith}
pub use Rattle.wl_server_model.specs.Outcome.{AreOwn as AreMine}
use Rattle.wl_server_client.specs.Ids.{ClientParts}
use Rattle.wl_server_model.specs.Runs.{mine}
use Rattle.wl_server_model.specs.Steps.{Entry}

pub are_mine : {T U G C : Type 0} (id : ClientParts) (run : List (Entry T U G C)) → AreMine id (mine id run)
are_mine id [] = tt
are_mine {T} {U} {G} {C} id (e ∷ run) = grind (arith, are_mine id run)
