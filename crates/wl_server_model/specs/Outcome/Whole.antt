-- When two servers are the same to their program, and when two of their runs are.
--
-- A program can see of a server what is held of each client id, the offer, how many clients there were, and, when it takes
-- them, in which order the notes stand. That order can be left out of the comparison: `ordered` says whether it counts.
use Rattle.std.specs.Prelude.{◌≡◌, ℕ, Bool, false, IsTrue, List, [], ◌∷◌, length, map, Ok}
use Rattle.wl_wire.specs.declared.interface.InterfaceId.{InterfaceId}
use Rattle.wl_link.specs.Runs.{AllSame, entries}
use Rattle.wl_server_model.specs.declared.step.Reply.{Reply}
use Rattle.wl_server_model.specs.declared.step.Reply.TheVariants as reply
use Rattle.wl_server_model.specs.declared.step.Step.{Step}
use Rattle.wl_server_client.specs.Ids.{ClientParts, GlobalParts, IdParts}
use Rattle.wl_server_model.specs.Lookups.{client_by, client_data_of, global_info_by, handler_of, live_clients, name_for, object_data_of, object_for_number, object_info_of, objects_of_client, transport_of}
use Rattle.wl_server_model.specs.NoteOrder.{times_at}
use Rattle.wl_server_client.specs.NoteTimes.{times_of}
use Rattle.wl_server_model.specs.Outcome.{SameCall, SameReply}
use Rattle.wl_server_model.specs.PartStep.{Asked, Call, Grown, World}
use Rattle.wl_server_model.specs.Runs.{Leads, Performs}
use Rattle.wl_server_model.specs.Server.{ServerState, notes_of, seen}
use Rattle.wl_server_model.specs.Steps.{Entry}

-- the offer, the last serial given to a client, and what is held of each client id
pub record HoldsSame {T U G C : Type 0} (s t : ServerState T U G C) : Type 0 where
  pub offer : s.offer ≡ t.offer
  pub last : s.last_client ≡ t.last_client
  pub each : (id : ClientParts) → seen id s ≡ seen id t

-- The notes that were gathered, the numbers of the others, from which their order follows, and the numbers that the next notes get.
pub record OrdersSame {T U G C : Type 0} (s t : ServerState T U G C) : Type 0 where
  pub notes : s.notes ≡ t.notes
  pub numbers : s.numbers ≡ t.numbers
  pub times : (slot : ℕ) → times_at slot (map times_of s.clients) ≡ times_at slot (map times_of t.clients)

-- the same is held, and the notes are in the same order, if it counts
pub record SameServer {T U G C : Type 0} (ordered : Bool) (s t : ServerState T U G C) : Type 0 where
  pub held : HoldsSame s t
  pub order : IsTrue ordered → OrdersSame s t

-- look-ups answer the same
pub record AnswersAlike {T U G C : Type 0} (s t : ServerState T U G C) : Type 0 where
  pub object_info : (id : IdParts) → object_info_of s id ≡ object_info_of t id
  pub client : (id : IdParts) → client_by s id ≡ client_by t id
  pub client_data : (id : ClientParts) → client_data_of s id ≡ client_data_of t id
  pub object_data : (id : IdParts) → object_data_of s id ≡ object_data_of t id
  pub transport : (id : ClientParts) → transport_of s id ≡ transport_of t id
  pub for_number : (id : ClientParts) (i : InterfaceId) (n : ℕ) → object_for_number s id i n ≡ object_for_number t id i n
  pub clients : live_clients s ≡ live_clients t
  pub objects : (id : ClientParts) → objects_of_client s id ≡ objects_of_client t id
  pub global_info : (id : GlobalParts) → global_info_by s id ≡ global_info_by t id
  pub handler : (id : GlobalParts) → handler_of s id ≡ handler_of t id
  pub name : (views : G → ClientParts → C → GlobalParts → Bool) (id : GlobalParts) (client : ClientParts) → name_for s views id client ≡ name_for t views id client

module _ {T U : Type 0} (ordered : Bool) where
  -- Two replies are the same to the program: their lists have the same items in the same order. Only the notes of two different
  -- clients may be in another order, if it does not count.
  abbrev pub WholeReply : Reply T U → Reply T U → Type 0
  WholeReply (reply.Cleanup (Ok out)) (reply.Cleanup (Ok out')) = out.items ≡ out'.items
  WholeReply (reply.TakeNotes (Ok out)) (reply.TakeNotes (Ok out')) =
      ((id : ClientParts) → notes_of id out.items ≡ notes_of id out'.items) × (IsTrue ordered → out.items ≡ out'.items)
  WholeReply answer answer' = (id : ClientParts) → SameReply id answer answer'

module _ {T U G C : Type 0} where
  abbrev pub WholeAnswer : Bool → Call T U G C → Call T U G C → Type 0
  WholeAnswer ordered (Asked _ answer) (Asked _ answer') = WholeReply ordered answer answer'
  WholeAnswer ordered (Grown _ answer) (Grown _ answer') = answer ≡ answer'
  WholeAnswer ordered _ _ = Unit {0}

  -- the calls are the same, and memory is not refused
  abbrev pub SameCalls : List (Entry T U G C) → List (Entry T U G C) → Type 0
  SameCalls [] [] = Unit {0}
  SameCalls (e ∷ run) (f ∷ run') = SameCall e.call f.call × (e.refused ≡ false) × (f.refused ≡ false) × SameCalls run run'
  SameCalls _ _ = ⊥

  -- the replies are the same, and the deeds with each client
  abbrev pub SameEntries : Bool → List (Entry T U G C) → List (Entry T U G C) → Type 0
  SameEntries ordered [] [] = Unit {0}
  SameEntries ordered (e ∷ run) (f ∷ run') =
      WholeAnswer ordered e.call f.call × ((id : ClientParts) → e.did id ≡ f.did id) × SameEntries ordered run run'
  SameEntries ordered _ _ = ⊥

-- ---- one outcome, whether the order of notes counts or not

module _ {T G C : Type 0} where
  -- two runs of the same calls, from servers that are the same, have the same replies and deeds, and lead to the same
  abbrev pub RunsHaveOneOutcome : Type 0 → World T G C → Type 0
  RunsHaveOneOutcome U w =
      (ordered : Bool) (before before' after after' : ServerState T U G C) (run run' : List (Entry T U G C)) →
      SameServer ordered before before' → SameCalls run run' → Leads w before run after → Leads w before' run' after' →
      SameEntries ordered run run' × SameServer ordered after after'

  -- the same for steps with their replies, in none of which memory was refused
  abbrev pub PerformancesHaveOneOutcome : Type 0 → World T G C → Type 0
  PerformancesHaveOneOutcome U w =
      (ordered : Bool) (before before' after after' : ServerState T U G C) (steps : List (Step T U G C)) (replies replies' : List (Reply T U)) →
      length replies ≡ length steps → length replies' ≡ length steps → SameServer ordered before before' →
      Performs w before (entries steps replies) after → Performs w before' (entries steps replies') after' →
      AllSame (WholeReply ordered) replies replies' × SameServer ordered after after'
