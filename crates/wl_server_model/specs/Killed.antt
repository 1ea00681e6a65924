-- How a killed client is read over a run: until a cleanup takes it out, and ever after.
use Rattle.std.specs.Prelude.{◌≡◌, List, [], ◌∷◌, ◌++◌, true, None, Ok, Err, MatchOption, Vec}
use Rattle.std.specs.Global.{Global}
use Rattle.wl_wire.specs.declared.error.IoFault.TheVariants as fault
use Rattle.wl_wire.specs.Table.{InterfaceRow}
use Rattle.wl_server_client.specs.declared.error.ActionError.{ActionError}
use Rattle.wl_server_client.specs.declared.error.ActionError.TheVariants.{ActionOpen, Io}
use Rattle.wl_server_model.specs.declared.step.Reply.TheVariants as reply
use Rattle.wl_server_model.specs.declared.step.Step.TheVariants as step
use Rattle.wl_server_model.specs.Bounded.{receives_over}
use Rattle.wl_server_model.specs.Broken.{SameViolation}
use Rattle.wl_server_client.specs.Ids.{ClientParts, same_client}
use Rattle.wl_server_model.specs.PartStep.{Asked, Call, World, share_of}
use Rattle.wl_server_model.specs.Runs.{Leads}
use Rattle.wl_server_model.specs.Server.{Seen, ServerState, new_server, seen}
use Rattle.wl_server_model.specs.Steps.{Entry}

module _ {T U C : Type 0} where
  -- the client is stored, and killed
  abbrev pub IsKilled : Seen T U C → Type 0
  IsKilled s = MatchOption s.part ⊥ (λ p. p.is_killed ≡ true)

  -- no action of the client is open
  abbrev pub HasNoAction : Seen T U C → Type 0
  HasNoAction s = MatchOption s.part (Unit {0}) (λ p. p.action ≡ None)

module _ {T U G C : Type 0} where
  -- If the call reads this client, it answers that error, and the reading may receive as often as before. Of other calls
  -- nothing is said.
  abbrev pub ReadingAnswers : ClientParts → ActionError → Call T U G C → Type 0
  ReadingAnswers id e (Asked (step.NextAction target) answer) = same_client target id ≡ true → answer ≡ reply.NextAction (Err e)
  ReadingAnswers id e (Asked (step.NextActionWithin target reading) answer) =
      same_client target id ≡ true → answer ≡ reply.NextActionWithin (Err e) reading
  ReadingAnswers id e _ = Unit {0}

  -- each reading of the client answers that error
  abbrev pub AllAnswer : ClientParts → ActionError → List (Entry T U G C) → Type 0
  AllAnswer id e [] = Unit {0}
  AllAnswer id e (x ∷ run) = ReadingAnswers id e x.call × AllAnswer id e run

  -- a cleanup takes the client out: it hands out the client's transport
  abbrev pub TakesOut : ClientParts → Call T U G C → Type 0
  TakesOut id call =
      (out : Vec (ClientParts × T) Global) × (transport : T) × (call ≡ Asked step.Cleanup (reply.Cleanup (Ok out))) × (share_of id out.items ≡ transport ∷ [])

  -- The client is still stored, and killed. Or these calls begin with the cleanup that takes it out: then each reading
  -- answers that there is no such client, and it is not stored again.
  abbrev pub StaysOrIsTakenOut : ClientParts → List (Entry T U G C) → Seen T U C → Type 0
  StaysOrIsTakenOut id [] after = IsKilled after
  StaysOrIsTakenOut id (e ∷ run) after = TakesOut id e.call × AllAnswer id (Io fault.InvalidInput) run × (after.part ≡ None)

  -- The calls of a run that begins where the client is killed. As long as its action is open, each reading says that; then
  -- each answers `Pipe`, until a cleanup takes the client out. No action is opened again, nothing is received from it, and what
  -- is kept of how it broke the protocol stays.
  pub record StaysKilled (id : ClientParts) (point : Seen T U C) (run : List (Entry T U G C)) (after : Seen T U C) : Type 0 where
    pub with_action : List (Entry T U G C)
    pub without_action : List (Entry T U G C)
    pub from_cleanup : List (Entry T U G C)
    pub split : run ≡ with_action ++ (without_action ++ from_cleanup)
    pub opened : HasNoAction point → with_action ≡ []
    pub says_open : AllAnswer id ActionOpen with_action
    pub says_killed : AllAnswer id (Io fault.Pipe) without_action
    pub ends : StaysOrIsTakenOut id from_cleanup after
    pub receives : receives_over id run ≡ 0
    pub violation : SameViolation point after

  -- so it is from each point of the run on at which a client is killed
  abbrev pub EachStaysKilled : World T G C → List InterfaceRow → List (Entry T U G C) → ServerState T U G C → Type 0
  EachStaysKilled w table run after =
      (id : ClientParts) (done later : List (Entry T U G C)) (point : ServerState T U G C) → run ≡ done ++ later
      → Leads w (new_server table) done point → Leads w point later after → IsKilled (seen id point)
      → StaysKilled id (seen id point) later (seen id after)
