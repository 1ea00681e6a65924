-- What any id names from a point of a session's history on, no matter where it comes from.
use Rattle.std.specs.Prelude.{◌≡◌, List, ◌++◌, IsSome}
use Rattle.wl_link.specs.Identity.{Change}
use Rattle.wl_link.specs.Named.{StaysNamed}
use Rattle.wl_client.specs.declared.objects.Kept.{Kept}
use Rattle.wl_client.specs.Handed.{Follows, HasOwnIds}
use Rattle.wl_client.specs.Histories.{Deed}
use Rattle.wl_client.specs.ObjectId.{IdParts}
use Rattle.wl_client.specs.Session.{SessionState, id_of, named, objects_of, serial_of}
use Rattle.wl_client.specs.Steps.{Making}

module _ {T U : Type 0} (makes : Making T U) where
  -- The changes of a history (`HasOwnIds`) are those of its first deeds, which lead to this point, and then those of the
  -- later ones. Each id that names an object at this point, no matter where it comes from, names that very object after the
  -- history exactly if it is still kept, and else none.
  pub record KeepsNaming (begins : SessionState T U) (done : List (Deed T U)) (point : SessionState T U) (later : List (Deed T U)) (ends : SessionState T U) : Type 0 where
    pub ids : HasOwnIds makes begins (done ++ later) ends
    pub first : List (List (Change (Kept U)))
    pub rest : List (List (Change (Kept U)))
    pub split : ids.changes ≡ first ++ rest
    pub before : Follows makes begins done first point
    pub after_point : Follows makes point later rest ends
    pub stays : (id : IdParts) → IsSome (named point.store id) → StaysNamed serial_of first rest (objects_of ends) (id_of id)
