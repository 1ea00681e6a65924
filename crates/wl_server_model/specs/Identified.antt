-- The ids that a server hands out of a client's objects, and what they name.
--
-- Each call has a list of changes of a client's objects (`Change` of `wl_link`): an object is put at a number, leaves its
-- number, or is written to; or an id is made of it. Each id that is handed out is made so, and what an id names follows
-- from the changes alone. They exist in contracts only.
use Rattle.std.specs.Prelude.{◌≡◌, ◌≢◌, ◌⊎◌, ◌↔◌, ℕ, List, [], ◌∷◌, ◌++◌, All, AllPairs, Bool, false, Option, None, Some, is_some, IsSome, Contains, Result, Ok, Err, MatchOption}
use Rattle.wl_wire.specs.Table.{InterfaceRow}
use Rattle.wl_link.specs.declared.object.Object.{Object}
use Rattle.wl_link.specs.Identity.{Birth, Change, HasIdentity, IsBornInStep, IsMadeIn, IsMadeInStep, Objects, StepEnds, births_of, ended_in, ended_over, Found, HandedId, New}
use Rattle.wl_link.specs.Identity as objects
use Rattle.wl_link.specs.Link.{LinkState, IsFresh}
use Rattle.wl_link.specs.Store.{held}
use Rattle.wl_server_client.specs.declared.error.ActionError.{ActionError}
use Rattle.wl_server_client.specs.declared.objects.Kept.{Kept}
use Rattle.wl_server_client.specs.declared.notes.Happening.{Happening}
use Rattle.wl_server_client.specs.declared.notes.Happening.TheVariants.{Destroyed}
use Rattle.wl_server_model.specs.declared.step.Reply.TheVariants as reply
use Rattle.wl_server_model.specs.declared.step.Step.TheVariants as step
use Rattle.wl_server_model.specs.HandedIds.{action_ids, made_ids}
use Rattle.wl_server_client.specs.Deeds.{Handed, left_in, notes_in, taken_in}
use Rattle.wl_server_client.specs.Globals.{Offer, new_offer}
use Rattle.wl_server_client.specs.Ids.{ClientParts, IdParts}
use Rattle.wl_server_model.specs.Lookups.{and_then}
use Rattle.wl_server_client.specs.Part.{Part, display_object, id_of, named, null_id, objects_of, serial_of}
use Rattle.wl_server_model.specs.PartStep.{Asked, Call, PartCall, World}
use Rattle.wl_server_client.specs.Reading.{action_content}
use Rattle.wl_server_model.specs.Runs.{Own, just_inserted, history, mine, offer_over}
use Rattle.wl_server_model.specs.Server.{Seen, ServerState, seen}
use Rattle.wl_server_model.specs.Steps.{Entry, offer_after}

-- ---- the ids of a reply

-- the ids of the action that a reading hands out
abbrev pub answer_ids : Result Handed ActionError → List (HandedId IdParts)
answer_ids (Ok h) = action_ids h
answer_ids (Err e) = []

-- the ids of objects that the reply to a call hands out, but for those of notes
abbrev pub ids_in : {T U G C : Type 0} → Call T U G C → List (HandedId IdParts)
ids_in (Asked (step.CreateObject _ _ _ _) (reply.CreateObject r)) = made_ids r
ids_in (Asked (step.CreateObjectAt _ _ _ _ _) (reply.CreateObjectAt r)) = made_ids r
ids_in (Asked (step.NextAction _) (reply.NextAction r)) = answer_ids (action_content r)
ids_in (Asked (step.NextActionWithin _ _) (reply.NextActionWithin r _)) = answer_ids (action_content r)
ids_in _ = []

module _ {U : Type 0} where
  -- an object is its client's as long as it is kept
  abbrev pub is_over : Kept U → Bool
  is_over k = false

  -- it has user data, so it is noted if it leaves
  abbrev pub has_data : Object (Kept U) → Bool
  has_data x = is_some x.value.user_data

  module _ (client : ClientParts) where
    -- The id is of this client, and is made in this call, of an object that it then names; a new one is made of an object
    -- that the call puts in place. Or it is the client's null id, which names none.
    abbrev pub IsHandedIn : List (Change (Kept U)) → HandedId IdParts → Type 0
    IsHandedIn changes (Found id) = (id ≡ null_id client) ⊎ ((id.client ≡ client) × IsMadeInStep changes (id_of id))
    IsHandedIn changes (New id) = (id.client ≡ client) × IsMadeInStep changes (id_of id) × IsBornInStep serial_of changes (id_of id)

    -- the id of a note is made in the call in which its object leaves
    abbrev pub IsNotedIn : List (Change (Kept U)) → Happening U → Type 0
    IsNotedIn changes (Destroyed id u) = (id.client ≡ client) × IsMadeInStep changes (id_of id)
    IsNotedIn changes _ = Unit {0}

module _ {T U C : Type 0} where
  -- these are the objects of a client; there is none once the client is taken out
  abbrev pub AreObjectsOf : Seen T U C → Objects (Kept U) → Type 0
  AreObjectsOf s o = MatchOption s.part ((n : ℕ) → held o.store n ≡ None) (λ p. o ≡ objects_of p)

  -- the object that an id of the client names, while the client is stored
  abbrev pub named_of : Seen T U C → IdParts → Option (Object (Kept U))
  named_of s id = and_then s.part (λ p. named p.store id)

  -- the notes of a client that wait for the next cleanup
  abbrev pub waiting_of : Option (Part T U C) → List (Happening U)
  waiting_of None = []
  waiting_of (Some p) = p.waiting

-- ---- what they name

module _ {T U G C : Type 0} (w : World T G C) (id : ClientParts) where
  -- The calls of a client's run lead from what is held of it at first to what is held of it then. For each call there is a
  -- list of changes, which lead its objects along. The ids of the reply are made in it. The objects with user data that end
  -- in it are those that leave by its deeds. Each note that the call makes, or that waits after it, waited before it, or its
  -- id is made in it.
  abbrev pub Follows : Offer G → Seen T U C → Objects (Kept U) → List (Own T U G C) → List (List (Change (Kept U))) → Seen T U C → Objects (Kept U)
      → Type 0
  Follows offer s o [] [] t o' = (t ≡ s) × (o' ≡ o)
  Follows offer s o [] (changes ∷ rest) t o' = ⊥
  Follows offer s o (e ∷ run) [] t o' = ⊥
  Follows offer s o (e ∷ run) (changes ∷ rest) t o' =
      (mid : Seen T U C) × (between : Objects (Kept U)) × PartCall w id offer e.call s e.lacked e.did mid
      × StepEnds serial_of is_over o changes between × AreObjectsOf mid between
      × All (IsHandedIn id changes) (ids_in e.call)
      × (left_in e.did ≡ ended_in serial_of has_data changes)
      × ((h : Happening U) → Contains (notes_in e.did ++ waiting_of mid.part) h → Contains (waiting_of s.part) h ⊎ IsNotedIn id changes h)
      × Follows (offer_after offer e.call) mid between run rest t o'

  -- The run of a client has a list of changes for each call, which lead to the objects that it ends with. Each id that was
  -- handed out, also one of a note, was made in its call of the object that it then named. It names that object exactly
  -- while the object is kept and its client stored, and afterwards none. No object leaves twice.
  pub record HasOwnIds (offer : Offer G) (begins : Seen T U C) (run : List (Own T U G C)) (ends : Seen T U C) : Type 0 where
    pub changes : List (List (Change (Kept U)))
    pub kept : Objects (Kept U)
    pub follows : Follows offer begins (objects.first_objects display_object) run changes ends kept
    pub are : AreObjectsOf ends kept
    pub identity : HasIdentity serial_of changes kept
    pub names : (o : IdParts) (birth : Birth) → Contains (births_of changes).made (id_of o, birth)
        → IsSome (named_of ends o) ↔ ((births_of changes).of_number o.number ≡ Some birth)
    -- the notes that were handed out, that were made, and that wait
    pub noted : (o : IdParts) (u : U) → Contains (taken_in (history run) ++ (ends.made ++ waiting_of ends.part)) (Destroyed o u)
        → (o.client ≡ id) × IsMadeIn changes (id_of o)
    pub left : left_in (history run) ≡ ended_over serial_of has_data changes
    pub once : AllPairs (λ a b. a ≢ b) (left_in (history run))

-- ---- of every client of a server

module _ {T U G C : Type 0} where
  -- each client that was inserted in the run has ids of its own, from its insertion on
  abbrev pub EachHasOwnIds : World T G C → List InterfaceRow → List (Entry T U G C) → ServerState T U G C → Type 0
  EachHasOwnIds w table run after =
      (id : ClientParts) (transport : T) (client_data : C) (earlier later : List (Entry T U G C)) (e : Entry T U G C) →
      run ≡ earlier ++ e ∷ later → e.call ≡ Asked (step.InsertClient transport client_data) (reply.InsertClient (Ok id)) →
      (link : LinkState T) × IsFresh transport (Some (offer_over (new_offer table) earlier).default_limit) link
      × HasOwnIds w id (offer_over (new_offer table) (earlier ++ e ∷ [])) (just_inserted link client_data) (mine id later) (seen id after)
