-- What any id names from a point of a run on, no matter where it comes from: a reply, an action, a note or a look-up.
use Rattle.std.specs.Prelude.{◌≡◌, ◌↔◌, List, [], ◌∷◌, ◌++◌, Some, IsSome, Ok}
use Rattle.wl_wire.specs.Table.{InterfaceRow}
use Rattle.wl_link.specs.Identity.{Birth, Change, Objects, births_of}
use Rattle.wl_link.specs.Identity as objects
use Rattle.wl_link.specs.Link.{LinkState, IsFresh}
use Rattle.wl_server_client.specs.declared.objects.Kept.{Kept}
use Rattle.wl_server_model.specs.declared.step.Reply.TheVariants as reply
use Rattle.wl_server_model.specs.declared.step.Step.TheVariants as step
use Rattle.wl_server_client.specs.Globals.{Offer, new_offer}
use Rattle.wl_server_model.specs.Identified.{Follows, HasOwnIds, named_of}
use Rattle.wl_server_client.specs.Ids.{ClientParts, IdParts}
use Rattle.wl_server_client.specs.Part.{display_object}
use Rattle.wl_server_model.specs.PartStep.{Asked, World}
use Rattle.wl_server_model.specs.Runs.{Own, just_inserted, mine, offer_over}
use Rattle.wl_server_model.specs.Server.{Seen, ServerState, seen}
use Rattle.wl_server_model.specs.Steps.{Entry, offer_after}

-- what the server offers after a client's own calls and those that all clients feel
abbrev pub offer_through : {T U G C : Type 0} → Offer G → List (Own T U G C) → Offer G
offer_through offer [] = offer
offer_through offer (e ∷ run) = offer_through (offer_after offer e.call) run

module _ {T U G C : Type 0} (w : World T G C) (id : ClientParts) where
  -- The changes of a client's run (`HasOwnIds`) are those of its first calls, which lead to this point, and then those of
  -- the later ones. Each id that names an object of the client at this point names that very object after the run exactly
  -- if it is still kept and its client stored, and else none.
  pub record KeepsNaming (offer : Offer G) (begins : Seen T U C) (done : List (Own T U G C)) (point : Seen T U C) (later : List (Own T U G C)) (ends : Seen T U C) : Type 0 where
    pub ids : HasOwnIds w id offer begins (done ++ later) ends
    pub first : List (List (Change (Kept U)))
    pub rest : List (List (Change (Kept U)))
    pub split : ids.changes ≡ first ++ rest
    pub there : Objects (Kept U)
    pub before : Follows w id offer begins (objects.first_objects display_object) done first point there
    pub after_point : Follows w id (offer_through offer done) point there later rest ends ids.kept
    pub stays : (o : IdParts) → IsSome (named_of point o)
        → (birth : Birth) × ((births_of first).of_number o.number ≡ Some birth)
        × (IsSome (named_of ends o) ↔ ((births_of (first ++ rest)).of_number o.number ≡ Some birth))

module _ {T U C : Type 0} where
  -- an id that names an object of the client at a point, and none at a later one, names none ever after
  abbrev pub NamesNoneAgain : Seen T U C → Seen T U C → Seen T U C → Type 0
  NamesNoneAgain point mid ends = (o : IdParts) → IsSome (named_of point o) → ¬ IsSome (named_of mid o) → ¬ IsSome (named_of ends o)

module _ {T U G C : Type 0} where
  -- so it is with each client that was inserted before the point, from its insertion on
  abbrev pub EachKeepsNaming : World T G C → List InterfaceRow → List (Entry T U G C) → ServerState T U G C → List (Entry T U G C) → ServerState T U G C → Type 0
  EachKeepsNaming w table done point later after =
      (id : ClientParts) (transport : T) (client_data : C) (earlier between : List (Entry T U G C)) (e : Entry T U G C) →
      done ≡ earlier ++ e ∷ between → e.call ≡ Asked (step.InsertClient transport client_data) (reply.InsertClient (Ok id)) →
      (link : LinkState T) × IsFresh transport (Some (offer_over (new_offer table) earlier).default_limit) link
      × KeepsNaming w id (offer_over (new_offer table) (earlier ++ e ∷ [])) (just_inserted link client_data) (mine id between) (seen id point) (mine id later) (seen id after)

  -- so it is with each client that was inserted before the point
  abbrev pub EachNamesNoneAgain : List (Entry T U G C) → ServerState T U G C → ServerState T U G C → ServerState T U G C → Type 0
  EachNamesNoneAgain done point mid after =
      (id : ClientParts) (transport : T) (client_data : C) (earlier since : List (Entry T U G C)) (e : Entry T U G C) →
      done ≡ earlier ++ e ∷ since → e.call ≡ Asked (step.InsertClient transport client_data) (reply.InsertClient (Ok id)) →
      NamesNoneAgain (seen id point) (seen id mid) (seen id after)
