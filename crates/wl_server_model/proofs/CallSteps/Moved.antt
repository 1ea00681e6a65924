-- A client whose transport was changed by its program.
use Rattle.std.proofs.Common.{◌≡◌, Bool, [], refl}
use Rattle.wl_link.specs.Link.{with_transport}
use Rattle.wl_link.specs.Script.{Script}
use Rattle.wl_server_client.specs.Inside.Client.{Does}
use Rattle.wl_server_client.specs.Ids.{ClientParts}
use Rattle.wl_server_model.specs.Moves.{Move, Moved, ScriptMoves}
use Rattle.wl_server_client.specs.Part.{with_link}
use Rattle.wl_server_model.specs.PartStep.{WithTransport, lacks_move}
use Rattle.wl_server_client.specs.Stored.{Stored}
use Rattle.wl_server_client.proofs.CallSteps.Doing.{does_quietly}
use Rattle.wl_server_model.proofs.CallSteps.Slots.{Kind}

module _ {U C : Type 0} (m : Move) (answer : Moved) where
  abbrev pub moves : Kind Script U C
  moves id p lacked did q = (lacked ≡ lacks_move answer) × (did ≡ []) × WithTransport (λ t t'. ScriptMoves t m answer t') p q

  pub moved : (id : ClientParts) (s : Stored Script U C) (lacked : Bool) (t : Script) → lacked ≡ lacks_move answer
      → ScriptMoves s.part.link.transport m answer t
      → Does s (λ p did q. moves id p lacked did q) (record s { part = with_link s.part (with_transport s.part.link t) })
  moved id s lacked t lacks is =
      does_quietly s (λ p did q. moves id p lacked did q) (with_link s.part (with_transport s.part.link t)) (lacks, refl, (t, is, refl))
