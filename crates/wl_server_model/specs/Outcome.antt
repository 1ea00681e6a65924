-- When two replies are the same to a client, and when two runs of one client are.
--
-- If the answers of a transport follow from its value, and memory is not refused, then a client's own calls, and those
-- that all clients feel, have one outcome. The law is about one client, since a server's value may differ in what no
-- client sees, such as the order in which the notes of two clients stand.
pub mod Whole
pub mod Dispatches
use Rattle.std.specs.Prelude.{◌≡◌, Bool, true, false, List, [], ◌∷◌, ◌++◌, Ok}
use Rattle.wl_wire.specs.Table.{InterfaceRow}
use Rattle.wl_link.specs.Exchange.{Queue}
use Rattle.wl_server_model.specs.declared.step.Reply.{Reply}
use Rattle.wl_server_model.specs.declared.step.Reply.TheVariants as reply
use Rattle.wl_server_model.specs.declared.step.Step.{Step}
use Rattle.wl_server_model.specs.declared.step.Step.TheVariants as step
use Rattle.wl_server_client.specs.Deeds.{Deed}
use Rattle.wl_server_client.specs.Events.{SessionMessage, session_content}
use Rattle.wl_server_client.specs.Globals.{Offer, new_offer}
use Rattle.wl_server_client.specs.Ids.{ClientParts}
use Rattle.wl_server_model.specs.Moves.{taken}
use Rattle.wl_server_model.specs.PartStep.{Asked, Call, Changed, Grown, PartCall, World, share_of}
use Rattle.wl_server_client.specs.Reading.{action_content}
use Rattle.wl_server_model.specs.Runs.{Alone, Leads, Own, concerns, mine, offer_over}
use Rattle.wl_server_model.specs.Server.{Seen, ServerState, new_server, notes_of, seen}
use Rattle.wl_server_model.specs.Steps.{Entry, AnswersShared, lacks_growth, offer_after}

-- ---- replies

module _ {T U : Type 0} (id : ClientParts) where
  -- Two replies are the same to a client: their lists have the same items. Of the notes, and of what a cleanup hands out,
  -- only this client's share counts.
  abbrev pub SameReply : Reply T U → Reply T U → Type 0
  SameReply (reply.NextAction r) (reply.NextAction r') = action_content r ≡ action_content r'
  SameReply (reply.NextActionWithin r left) (reply.NextActionWithin r' left') = (action_content r ≡ action_content r') × (left ≡ left')
  SameReply (reply.Cleanup (Ok out)) (reply.Cleanup (Ok out')) = share_of id out.items ≡ share_of id out'.items
  SameReply (reply.TakeNotes (Ok out)) (reply.TakeNotes (Ok out')) = notes_of id out.items ≡ notes_of id out'.items
  SameReply (reply.TakeSent r) (reply.TakeSent r') = taken r ≡ taken r'
  SameReply r r' = r ≡ r'

module _ {T U G C : Type 0} where
  -- The answers are the same if they tell what all clients share: the id of a new client or of a new global. What is shared
  -- before the step determines them.
  abbrev pub SharedSame : Step T U G C → Reply T U → Reply T U → Type 0
  SharedSame (step.InsertClient _ _) answer answer' = answer ≡ answer'
  SharedSame (step.CreateGlobal _ _ _) answer answer' = answer ≡ answer'
  SharedSame _ answer answer' = Unit {0}

  -- ---- calls

  abbrev pub SendsSame : SessionMessage → Step T U G C → Type 0
  SendsSame m (step.SendEvent m') = m ≡ session_content m'
  SendsSame m _ = ⊥

  abbrev pub ArrivesSame : ClientParts → Queue → Step T U G C → Type 0
  ArrivesSame target chunk (step.Arrive target' bytes tokens) = (target ≡ target') × (chunk ≡ record { bytes = bytes.items; tokens = tokens.items })
  ArrivesSame target chunk _ = ⊥

  -- two steps are the same: their lists have the same items
  abbrev pub SameStep : Step T U G C → Step T U G C → Type 0
  SameStep (step.SendEvent m) s' = SendsSame (session_content m) s'
  SameStep (step.Arrive target bytes tokens) s' = ArrivesSame target (record { bytes = bytes.items; tokens = tokens.items }) s'
  SameStep s s' = s ≡ s'

  -- the same step, the same change of a transport, or the same interfaces or messages to be added to the table
  abbrev pub SameCall : Call T U G C → Call T U G C → Type 0
  SameCall (Asked s _) (Asked s' _) = SameStep s s'
  SameCall (Changed id t) (Changed id' t') = (id ≡ id') × (t ≡ t')
  SameCall (Grown rows _) (Grown rows' _) = rows ≡ rows'
  SameCall _ _ = ⊥

  -- the replies are the same to the client
  abbrev pub SameAnswer : ClientParts → Call T U G C → Call T U G C → Type 0
  SameAnswer id (Asked _ answer) (Asked _ answer') = SameReply id answer answer'
  SameAnswer id (Grown _ answer) (Grown _ answer') = answer ≡ answer'
  SameAnswer id _ _ = Unit {0}

  -- the answers are the same if they tell what all clients share, and so if they tell what became of the table
  abbrev pub SharedAnswer : Call T U G C → Call T U G C → Type 0
  SharedAnswer (Asked s answer) (Asked _ answer') = SharedSame s answer answer'
  SharedAnswer (Grown _ answer) (Grown _ answer') = answer ≡ answer'
  SharedAnswer _ _ = Unit {0}

  -- Two outcomes of a call are the same to a client: the deeds with it are the same, and what is then held of it; and, if
  -- the call is the client's own or about all clients, the replies.
  pub record SameOutcome (id : ClientParts) (call call' : Call T U G C) (did did' : List (Deed U)) (after after' : Seen T U C) : Type 0 where
    pub reply : concerns id call ≡ true → SameAnswer id call call'
    pub deeds : did ≡ did'
    pub held : after ≡ after'

  -- ---- runs of one client

  -- memory is not refused: neither to the client, nor to a shared call for what belongs to no client
  abbrev pub HasMemory : List (Own T U G C) → Type 0
  HasMemory [] = Unit {0}
  HasMemory (e ∷ run) = (e.lacked ≡ false) × (lacks_growth e.call ≡ false) × HasMemory run

  -- memory is not refused to a shared call for what belongs to no client
  abbrev pub AreAmple : List (Own T U G C) → Type 0
  AreAmple [] = Unit {0}
  AreAmple (e ∷ run) = (lacks_growth e.call ≡ false) × AreAmple run

  -- the calls are the client's own or shared
  abbrev pub AreOwn : ClientParts → List (Own T U G C) → Type 0
  AreOwn id [] = Unit {0}
  AreOwn id (e ∷ run) = (concerns id e.call ≡ true) × AreOwn id run

  -- the ids of new globals follow from the offer alone
  abbrev pub AreNumbered : Offer G → List (Own T U G C) → Type 0
  AreNumbered offer [] = Unit {0}
  AreNumbered offer (e ∷ run) = AnswersShared offer e.call × AreNumbered (offer_after offer e.call) run

  -- the runs are of the same steps
  abbrev pub SameSteps : List (Own T U G C) → List (Own T U G C) → Type 0
  SameSteps [] [] = Unit {0}
  SameSteps (e ∷ run) (f ∷ run') = SameCall e.call f.call × SameSteps run run'
  SameSteps _ _ = ⊥

  -- the runs have the same replies to the client, and the same deeds with it
  abbrev pub SameRun : ClientParts → List (Own T U G C) → List (Own T U G C) → Type 0
  SameRun id [] [] = Unit {0}
  SameRun id (e ∷ run) (f ∷ run') = SameAnswer id e.call f.call × (e.did ≡ f.did) × SameRun id run run'
  SameRun id _ _ = ⊥

-- ---- one outcome

module _ {T G C : Type 0} where
  -- A call that is made twice from the same value has one outcome, if memory is not refused (neither to the client, nor to a
  -- shared call for what belongs to no client), and the answers that tell what all clients share are the same.
  abbrev pub CallsHaveOneOutcome : Type 0 → World T G C → Type 0
  CallsHaveOneOutcome U w =
      (id : ClientParts) (offer : Offer G) (before after after' : Seen T U C) (call call' : Call T U G C) (did did' : List (Deed U)) →
      SameCall call call' → lacks_growth call ≡ false → lacks_growth call' ≡ false → SharedAnswer call call' →
      PartCall w id offer call before false did after → PartCall w id offer call' before false did' after' →
      SameOutcome id call call' did did' after after'

  -- So have a client's own calls and the shared ones, one after another. The ids of new globals follow from the offer, so it
  -- need not be said that the answers to `create_global` are the same.
  abbrev pub OwnRunsHaveOneOutcome : Type 0 → World T G C → Type 0
  OwnRunsHaveOneOutcome U w =
      (id : ClientParts) (offer : Offer G) (before after after' : Seen T U C) (run run' : List (Own T U G C)) →
      AreOwn id run → SameSteps run run' → HasMemory run → HasMemory run' → AreNumbered offer run → AreNumbered offer run' →
      Alone w id offer before run after → Alone w id offer before run' after' → SameRun id run run' × (after ≡ after')

  -- Two runs of a new server lead to the same offer, if the shared calls, and those that name some one client id, are the
  -- same steps, and memory is not refused to a shared call for what belongs to no client.
  abbrev pub OffersHaveOneOutcome : Type 0 → World T G C → Type 0
  OffersHaveOneOutcome U w =
      (table : List InterfaceRow) (id : ClientParts) (run run' : List (Entry T U G C)) (after after' : ServerState T U G C) →
      Leads w (new_server table) run after → Leads w (new_server table) run' after' →
      SameSteps (mine id run) (mine id run') → AreAmple (mine id run) → AreAmple (mine id run') → after.offer ≡ after'.offer

  -- the call inserts this client, with this transport and these data
  abbrev pub InsertsAs : {U : Type 0} → ClientParts → T → C → Entry T U G C → Type 0
  InsertsAs id transport client_data e = e.call ≡ Asked (step.InsertClient transport client_data) (reply.InsertClient (Ok id))

  -- In each of two runs of a new server a client was inserted, with the same id, transport and data, and at the same offer.
  -- If its own calls and the shared ones are the same steps from then on, and memory is not refused to these, they have one
  -- outcome. What other clients do may differ, and whether memory is refused to them.
  abbrev pub ClientsHaveOneOutcome : Type 0 → World T G C → Type 0
  ClientsHaveOneOutcome U w =
      (table : List InterfaceRow) (id : ClientParts) (transport : T) (client_data : C) (earlier later earlier' later' : List (Entry T U G C)) (e e' : Entry T U G C)
      (after after' : ServerState T U G C) →
      Leads w (new_server table) (earlier ++ e ∷ later) after → Leads w (new_server table) (earlier' ++ e' ∷ later') after' →
      InsertsAs id transport client_data e → InsertsAs id transport client_data e' →
      offer_over (new_offer table) earlier ≡ offer_over (new_offer table) earlier' →
      SameSteps (mine id later) (mine id later') → HasMemory (mine id later) → HasMemory (mine id later') →
      SameRun id (mine id later) (mine id later') × (seen id after ≡ seen id after')

  -- calls, a client's own runs, clients in two runs, and offers have one outcome
  abbrev pub HaveOneOutcome : Type 0 → World T G C → Type 0
  HaveOneOutcome U w = CallsHaveOneOutcome U w × OwnRunsHaveOneOutcome U w × ClientsHaveOneOutcome U w × OffersHaveOneOutcome U w
