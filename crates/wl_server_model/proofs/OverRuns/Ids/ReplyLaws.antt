-- That the ids of a reply are those that its call hands out.
use Rattle.std.proofs.Common.{◌≡◌, Bool, true, List, [], ◌∷◌, Result, Ok, sym, ap, true≢false, arith}
use Rattle.std.specs.Prelude.{is_ok}
use Rattle.wl_link.proofs.Calls.Branches.{either_bool, either_option}
use Rattle.wl_link.specs.Reader.{Given, HandedOut}
use Rattle.wl_server_client.specs.declared.reading.action.Reading.{Reading}
use Rattle.wl_server_client.specs.declared.error.ActionError.{ActionError}
use Rattle.wl_server_model.specs.HandedIds.{action_ids}
use Rattle.wl_server_client.specs.Deeds.{IsAmong, Acted, Deed, Handed}
use Rattle.wl_server_model.proofs.OverRuns.Moves.BaseMoves.{acted_in, all_action_ids, handed_by}
use Rattle.wl_server_model.proofs.OverRuns.Moves.DoingsLaws.{deeds_done}
use Rattle.wl_server_client.specs.Globals.{Offer}
use Rattle.wl_server_model.specs.Identified.{answer_ids, ids_in}
use Rattle.wl_server_client.specs.Ids.{ClientParts, IdParts}
use Rattle.wl_server_model.proofs.OverRuns.Ids.AmongLaws.{among_first, among_later}
use Rattle.wl_server_client.specs.Part.{Part}
use Rattle.wl_server_model.specs.PartStep.{Call, OfClient, OnPart, PartCall, World, around}
use Rattle.wl_server_client.specs.Reading.{NextAction, action_content, action_in, exchanges_in, new_reading}
use Rattle.wl_server_client.specs.Telling.{Core, Did, Stops, Told, deeds_in, deeds_of}
use Rattle.wl_server_model.specs.Runs.{concerns}
use Rattle.wl_server_model.specs.Server.{Seen}
use Rattle.wl_link.specs.Identity.{HandedId}

module _ {U : Type 0} where
  -- the ids of an action that stands among what was given
  given_ids : (gave : List (Given (Told U))) (h : Handed) → action_in gave ≡ Ok h → (i : HandedId IdParts) → IsAmong (action_ids h) i
      → IsAmong (all_action_ids (acted_in (deeds_in gave))) i
  given_ids [] h is i among = absurd (true≢false (sym (ap is_ok is)))
  given_ids (HandedOut (Stops f) ∷ gave) h is i among = absurd (true≢false (sym (ap is_ok is)))
  given_ids (HandedOut (Did (Acted other)) ∷ gave) h is i among = grind (arith, among_first, action_ids, all_action_ids, acted_in, deeds_in)
  given_ids (_ ∷ gave) h is i among = given_ids gave h is i among

  module _ {C : Type 0} where
    -- and so among all deeds
    deeds_ids : (exchanges : List (Deed U)) (gave : List (Given (Told U))) (c : Core U C) (i : HandedId IdParts)
        → IsAmong (all_action_ids (acted_in (deeds_in gave))) i
        → IsAmong (all_action_ids (acted_in (deeds_of exchanges gave c))) i
    deeds_ids exchanges gave c i among = grind (arith, deeds_done, among_later, all_action_ids, acted_in, deeds_in, among_first)

-- a step that is about a client is one of its part
pub own_step : {T U C : Type 0} (b : Bool) (s : Seen T U C) (R : Part T U C → Part T U C → Type 0) (missing : Type 0) (lacked : Bool)
    (did : List (Deed U)) (t : Seen T U C)
    → b ≡ true → OfClient b s R missing lacked did t → OnPart s R missing lacked did t
own_step h1 s h3 missing lacked did t is h = grind (arith, true≢false)

module _ {T U G C : Type 0} (w : World T G C) (id : ClientParts) (offer : Offer G) where
  read_ids : (r : Reading) (p : Part T U C) (answer : Result Handed ActionError) (r' : Reading) (lacked : Bool) (did : List (Deed U)) (q : Part T U C)
      → NextAction w.sends w.receives (around w id offer) r p answer r' lacked did q → (i : HandedId IdParts) → IsAmong (answer_ids answer) i
      → IsAmong (all_action_ids (acted_in did)) i
  read_ids r p answer r' lacked did q h i among =
      grind (arith, either_option, answer_ids, either_bool, all_action_ids, acted_in, deeds_ids, exchanges_in, given_ids, true≢false, is_ok)

  abbrev pub Covers : Call T U G C → List (Deed U) → Type 0
  Covers call did = (i : HandedId IdParts) → IsAmong (ids_in call) i → IsAmong (handed_by id call did) i

  pub covers : (call : Call T U G C) (s : Seen T U C) (lacked : Bool) (did : List (Deed U)) (t : Seen T U C) → concerns id call ≡ true
      → PartCall w id offer call s lacked did t → Covers call did
  covers call s lacked did t h1 h2 = grind (arith, either_option, own_step, around, read_ids, new_reading, action_content)
