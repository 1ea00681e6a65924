-- The calls of a server one after another, and one client's alone.
use Rattle.std.specs.Prelude.{◌≡◌, ℕ, ◌+◌, ◌<◌, List, [], ◌∷◌, ◌++◌, Bool, true, false, if◌then◌else◌, None, Some, Ok}
use Rattle.wl_wire.specs.Table.{InterfaceRow}
use Rattle.wl_link.specs.Link.{LinkState, IsFresh}
use Rattle.wl_link.specs.Runs.{RunEntry, Leads as RunLeads, StopsAt as RunStopsAt}
use Rattle.wl_server_client.specs.declared.notes.Happening.TheVariants.{Initialized}
use Rattle.wl_server_model.specs.declared.step.Reply.{Reply}
use Rattle.wl_server_model.specs.declared.step.Reply.TheVariants as reply
use Rattle.wl_server_model.specs.declared.step.Step.{Step}
use Rattle.wl_server_model.specs.declared.step.Step.TheVariants as step
use Rattle.wl_server_client.specs.Deeds.{Deed}
use Rattle.wl_server_client.specs.Globals.{Offer, new_offer}
use Rattle.wl_server_client.specs.Ids.{ClientParts, same_client}
use Rattle.wl_server_client.specs.Part.{fresh_part, last_possible_serial}
use Rattle.wl_server_model.specs.PartStep.{Asked, Call, Changed, Grown, PartCall, World}
use Rattle.wl_server_model.specs.Server.{Seen, ServerState, nothing_seen, seen}
use Rattle.wl_server_model.specs.Steps.{Entry, AnswersShared, OneStep, StepOf, inserted_by, offer_after}

-- ---- runs of a server

module _ {T U G C : Type 0} (w : World T G C) where
  -- the entries lead from one value of the server to another
  abbrev pub Leads : ServerState T U G C → List (Entry T U G C) → ServerState T U G C → Type 0
  Leads before [] after = after ≡ before
  Leads before (e ∷ run) after = (mid : ServerState T U G C) × OneStep w before e mid × Leads mid run after

  -- steps with these replies lead from one value to another, by some deeds
  abbrev pub Performs : ServerState T U G C → List (RunEntry (Step T U G C) (Reply T U)) → ServerState T U G C → Type 0
  Performs before run after = RunLeads (StepOf w) before run after

  -- A run stopped in the step after the first n. Either there was no memory for the replies, and nothing was done; or the
  -- steps before it were made with these replies, and memory was refused in it.
  abbrev pub StopsAt : ServerState T U G C → List (Step T U G C) → ℕ → List (Reply T U) → ServerState T U G C → Type 0
  StopsAt before steps n replies after = RunStopsAt (StepOf w) before steps n replies after

module _ {T U G C : Type 0} where
  -- the entries are those of steps with these replies
  abbrev pub AreOf : List (RunEntry (Step T U G C) (Reply T U)) → List (Entry T U G C) → Type 0
  AreOf [] [] = Unit {0}
  AreOf [] (e ∷ run) = ⊥
  AreOf (r ∷ steps) [] = ⊥
  AreOf (r ∷ steps) (e ∷ run) = (e.call ≡ Asked r.step r.answer) × (e.refused ≡ r.refused) × AreOf steps run

-- ---- one client's calls

-- whether a step names the client, or is about all clients; the insertion of a client is about no client that is there
abbrev pub is_about : {T U G C : Type 0} → ClientParts → Step T U G C → Bool
is_about id (step.InsertClient _ _) = false
is_about id (step.SetObjectData o _) = same_client o.client id
is_about id (step.SetObjectVersion o _) = same_client o.client id
is_about id (step.CreateObject target _ _ _) = same_client target id
is_about id (step.CreateObjectAt target _ _ _ _) = same_client target id
is_about id (step.DestroyObject o) = same_client o.client id
is_about id (step.SendEvent m) = same_client m.sender_id.client id
is_about id (step.PostError o _ _) = same_client o.client id
is_about id (step.KillClient target _) = same_client target id
is_about id (step.CreateGlobal _ _ _) = true
is_about id (step.DisableGlobal _) = true
is_about id (step.RemoveGlobal _) = true
is_about id (step.KeepGlobalNames _) = true
is_about id (step.SetObjectLimit _) = true
is_about id (step.HandOutRegistries _) = true
is_about id (step.Flush None) = true
is_about id (step.Flush (Some target)) = same_client target id
is_about id (step.SetDefaultMaxBufferSize _) = true
is_about id (step.SetClientMaxBufferSize target _) = same_client target id
is_about id (step.NextAction target) = same_client target id
is_about id (step.NextActionWithin target _) = same_client target id
is_about id (step.FinishRequest target _) = same_client target id
is_about id (step.FinishBind target _) = same_client target id
is_about id step.Cleanup = true
is_about id step.TakeNotes = true
is_about id (step.Arrive target _ _) = same_client target id
is_about id (step.ArriveFault target _) = same_client target id
is_about id (step.Accept target _) = same_client target id
is_about id (step.AcceptFault target _) = same_client target id
is_about id (step.TakeSent target) = same_client target id

abbrev pub concerns : {T U G C : Type 0} → ClientParts → Call T U G C → Bool
concerns id (Asked s answer) = is_about id s
concerns id (Changed target t) = same_client target id
concerns id (Grown rows answer) = true

-- an entry of one client's own run: the call, whether memory was refused to this client, and the deeds with it
pub record Own (T U G C : Type 0) : Type 0 where
  pub call : Call T U G C
  pub lacked : Bool
  pub did : List (Deed U)

-- what is held of a client that was just inserted
abbrev pub just_inserted : {T U C : Type 0} → LinkState T → C → Seen T U C
just_inserted link client_data = record { part = Some (fresh_part link client_data); made = Initialized ∷ [] }

module _ {T U G C : Type 0} where
  abbrev pub own_of : ClientParts → Entry T U G C → Own T U G C
  own_of id e = record { call = e.call; lacked = e.lacks id; did = e.did id }

  -- a client's own calls, and those that are about all clients (the *shared* calls)
  abbrev pub mine : ClientParts → List (Entry T U G C) → List (Own T U G C)
  mine id [] = []
  mine id (e ∷ run) = if concerns id e.call then (own_of id e ∷ mine id run) else mine id run

  -- all deeds with the client, in order
  abbrev pub history : List (Own T U G C) → List (Deed U)
  history [] = []
  history (e ∷ run) = e.did ++ history run

  -- the offer after a run
  abbrev pub offer_over : Offer G → List (Entry T U G C) → Offer G
  offer_over offer [] = offer
  offer_over offer (e ∷ run) = offer_over (offer_after offer e.call) run

  -- A client's own calls and the shared ones lead, by themselves, from the offer and what is held of this client to what is
  -- held of it then. No other client occurs here.
  abbrev pub Alone : World T G C → ClientParts → Offer G → Seen T U C → List (Own T U G C) → Seen T U C → Type 0
  Alone w id offer before [] after = after ≡ before
  Alone w id offer before (e ∷ run) after =
      (mid : Seen T U C) × PartCall w id offer e.call before e.lacked e.did mid × Alone w id (offer_after offer e.call) mid run after

  -- ---- isolation

  -- What is held of a client that was inserted in the run is what its own calls and the shared ones lead to by themselves,
  -- from the id that it got and the offer of that moment.
  abbrev pub EachAlone : World T G C → List InterfaceRow → List (Entry T U G C) → ServerState T U G C → Type 0
  EachAlone w table run after =
      (id : ClientParts) (transport : T) (client_data : C) (earlier later : List (Entry T U G C)) (e : Entry T U G C) →
      run ≡ earlier ++ e ∷ later → e.call ≡ Asked (step.InsertClient transport client_data) (reply.InsertClient (Ok id)) →
      (link : LinkState T) × IsFresh transport (Some (offer_over (new_offer table) earlier).default_limit) link
      × Alone w id (offer_over (new_offer table) (earlier ++ e ∷ [])) (just_inserted link client_data) (mine id later) (seen id after)

  -- a call inserts this client
  abbrev pub Inserts : ClientParts → Call T U G C → Type 0
  Inserts new call = (transport : T) × (client_data : C) × (call ≡ Asked (step.InsertClient transport client_data) (reply.InsertClient (Ok new)))

  abbrev pub IsNotInserted : ClientParts → Call T U G C → Type 0
  IsNotInserted id call = (new : ClientParts) → Inserts new call → same_client new id ≡ false

  -- no call inserts the client
  abbrev pub IsNeverInserted : ClientParts → List (Entry T U G C) → Type 0
  IsNeverInserted id [] = Unit {0}
  IsNeverInserted id (e ∷ run) = IsNotInserted id e.call × IsNeverInserted id run

  -- Nothing is held of a client that was not inserted, and a call that names it is answered as for one that is not stored.
  abbrev pub NoneUnseen : World T G C → List InterfaceRow → List (Entry T U G C) → ServerState T U G C → Type 0
  NoneUnseen w table run after =
      (id : ClientParts) → IsNeverInserted id run
      → (seen id after ≡ nothing_seen) × Alone w id (new_offer table) nothing_seen (mine id run) nothing_seen

  -- a new client has the next serial
  abbrev pub HasNextSerial : ℕ → Call T U G C → Type 0
  HasNextSerial last call = (new : ClientParts) → Inserts new call → (last < last_possible_serial) × (new.serial ≡ last + 1)

  -- The id of each new global, the answer to a growth of the table, and the serial of each new client follow from the offer
  -- and the last serial alone. The run leads from the offer and the last serial before it to those after it.
  abbrev pub SharedAlone : Offer G → ℕ → List (Entry T U G C) → Offer G → ℕ → Type 0
  SharedAlone offer last [] offer' last' = (offer' ≡ offer) × (last' ≡ last)
  SharedAlone offer last (e ∷ run) offer' last' =
      AnswersShared offer e.call × HasNextSerial last e.call
      × SharedAlone (offer_after offer e.call) (last + inserted_by e.call) run offer' last'

-- What holds of a run of a new server: of each client that was inserted, of each that was not, and of what all share.
pub record IsIsolated {T U G C : Type 0} (w : World T G C) (table : List InterfaceRow) (run : List (Entry T U G C)) (after : ServerState T U G C) : Type 0 where
  pub each : EachAlone w table run after
  pub unseen : NoneUnseen w table run after
  pub shared : SharedAlone (new_offer table) 0 run after.offer after.last_client
