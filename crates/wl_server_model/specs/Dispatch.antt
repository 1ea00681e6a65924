-- What a dispatch does: the actions of a client are read, handled and ended, one after another.
--
-- A dispatch is a run of calls. It goes in *rounds*, which are defined here; the calls themselves are those of `Steps`.
use Rattle.std.specs.Prelude.{◌≡◌, ℕ, ◌+◌, ◌==◌, min, List, [], ◌∷◌, ◌++◌, Bool, false, ◌||◌, if◌then◌else◌, Option, None, Some, Result, Ok, Err}
use Rattle.wl_wire.specs.declared.argument.Argument.{Argument}
use Rattle.wl_wire.specs.declared.argument.Token.{Token}
use Rattle.wl_wire.specs.declared.error.IoFault.{IoFault}
use Rattle.wl_wire.specs.declared.error.IoFault.TheVariants as fault
use Rattle.wl_wire.specs.Table.{InterfaceRow}
use Rattle.wl_link.specs.Exchange.{IsWithinOffer}
use Rattle.wl_server_client.specs.declared.reading.action.Action.{Action}
use Rattle.wl_server_client.specs.declared.reading.action.Action.TheVariants as action
use Rattle.wl_server_client.specs.declared.reading.action.Reading.{Reading}
use Rattle.wl_server_client.specs.declared.error.ActionError.{ActionError}
use Rattle.wl_server_client.specs.declared.error.ActionError.TheVariants.{Io, ActionOpen}
use Rattle.wl_server_client.specs.declared.error.FinishError.{FinishError}
use Rattle.wl_server_client.specs.declared.error.FinishError.TheVariants as finish
use Rattle.wl_server_model.specs.declared.step.Reply.{Reply}
use Rattle.wl_server_model.specs.declared.step.Reply.TheVariants as reply
use Rattle.wl_server_model.specs.declared.step.Step.{Step}
use Rattle.wl_server_model.specs.declared.step.Step.TheVariants as step
use Rattle.wl_server_model.specs.Accounts.{IsAccountedFor}
use Rattle.wl_server_model.specs.Backend.{BackendState}
use Rattle.wl_server_model.specs.Cutting.{IsCut}
use Rattle.wl_server_client.specs.Ids.{ClientParts, GlobalParts, IdParts}
use Rattle.wl_server_model.specs.PartStep.{Asked, World}
use Rattle.wl_server_model.specs.Reached.{AllSpare}
use Rattle.wl_server_client.specs.Reading.{new_reading}
use Rattle.wl_server_model.specs.Runs.{Leads}
use Rattle.wl_server_model.specs.Server.{ServerState, new_server}
use Rattle.wl_server_model.specs.Steps.{Entry, OneStep}

-- How a handler answers: a relation of the handler and the backend before the call, the client, the action, the answer, and
-- the handler and the backend after the call.
pub record Answering (H T U G C : Type 0) : Type 1 where
  pub requests : H → BackendState T U G C → ClientParts → IdParts → ℕ → List (Argument IdParts Token) → Option IdParts → Option U → H → BackendState T U G C → Type 0
  pub binds : H → BackendState T U G C → ClientParts → GlobalParts → IdParts → U → H → BackendState T U G C → Type 0

abbrev pub answering : {H T U G C : Type 0}
    → (H → BackendState T U G C → ClientParts → IdParts → ℕ → List (Argument IdParts Token) → Option IdParts → Option U → H → BackendState T U G C → Type 0)
    → (H → BackendState T U G C → ClientParts → GlobalParts → IdParts → U → H → BackendState T U G C → Type 0) → Answering H T U G C
answering requests binds = record { requests = requests; binds = binds }

-- ---- answers

-- why the end of an action was refused, if it was
abbrev pub refusal_in : {T U : Type 0} → Reply T U → Option FinishError
refusal_in (reply.FinishRequest (Err r)) = Some r.error
refusal_in (reply.FinishBind (Err r)) = Some r.error
refusal_in _ = None

-- the fault by which a dispatch ends: because no action is handed out, or because the end of one is refused
abbrev pub fault_of_reading : ActionError → IoFault
fault_of_reading (Io f) = f
fault_of_reading ActionOpen = fault.InvalidInput

abbrev pub fault_of_end : FinishError → IoFault
fault_of_end finish.OutOfMemory = fault.OutOfMemory
fault_of_end _ = fault.InvalidInput

-- the answer of a client's dispatch that ended by this fault after so many requests were read
abbrev pub dispatched : IoFault → ℕ → Result ℕ IoFault
dispatched fault.WouldBlock read = if read == 0 then Err fault.WouldBlock else Ok read
dispatched f read = Err f

-- the sum of the counts, which stops at the greatest number; faults do not count
abbrev pub total_with : ℕ → Result ℕ IoFault → ℕ
total_with total (Ok count) = min (total + count) 0xFFFFFFFFFFFFFFFF
total_with total (Err f) = total

-- the answer after the cleanup: if memory was refused to the cleanup, it is `OutOfMemory`, whatever came before
abbrev pub after_cleanup : {A E : Type 0} → Result A E → Result ℕ IoFault → Result ℕ IoFault
after_cleanup (Ok _) answer = answer
after_cleanup (Err _) answer = Err fault.OutOfMemory

abbrev pub cleaned : {T U : Type 0} → Reply T U → Result ℕ IoFault → Result ℕ IoFault
cleaned (reply.Cleanup r) answer = after_cleanup r answer
cleaned _ answer = answer

module _ {H T U G C : Type 0} (w : World T G C) (answers : Answering H T U G C) (id : ClientParts) where
  -- ---- a round

  -- The handler is called with the action, and `end` is the call that ends the action with the handler's answer. It is called with
  -- requests and binds alone: a new registry that is handed out is ended as a request would be, which is refused, so it stays open.
  abbrev pub Answers : H → BackendState T U G C → Action → Step T U G C → H → BackendState T U G C → Type 0
  Answers h before (action.Request sender opcode args is_destructor created) end h' after =
      (u : Option U) × answers.requests h before id sender opcode args.items created u h' after × (end ≡ step.FinishRequest id u)
  Answers h before (action.Bind global object) end h' after =
      (u : U) × answers.binds h before id global object u h' after × (end ≡ step.FinishBind id u)
  Answers h before (action.Registry object) end h' after = (h' ≡ h) × (after ≡ before) × (end ≡ step.FinishRequest id None)

  -- An action is handled: the handler is called once, and makes these calls. Then its answer ends the action, or the end is
  -- refused for this reason.
  pub record Handles (h : H) (before : BackendState T U G C) (a : Action) (run : List (Entry T U G C)) (lacked : Bool) (why : Option FinishError)
      (h' : H) (after : ServerState T U G C) : Type 0 where
    pub left : BackendState T U G C
    pub end : Step T U G C
    pub answer : Reply T U
    pub calls : List (Entry T U G C)
    pub ended : Entry T U G C
    pub answers_so : Answers h before a end h' left
    pub leads : Leads w before.server calls left.server
    pub spared : AllSpare id calls
    pub ends : OneStep w left.server ended after
    pub ended_is : ended.call ≡ Asked end answer
    pub why_is : why ≡ refusal_in answer
    pub run_is : run ≡ calls ++ (ended ∷ [])
    pub lacked_is : lacked ≡ ended.refused

  -- A round: the client is read, and the action that is handed out is handled. `lacked` says whether memory was refused in
  -- the reading or in the action's end; the handler's calls do not count.
  pub record Round (h : H) (r : Reading) (before : ServerState T U G C) (run : List (Entry T U G C)) (lacked : Bool) (why : Option FinishError)
      (h' : H) (r' : Reading) (after : ServerState T U G C) : Type 0 where
    pub handed : Action
    pub read : Entry T U G C
    pub found : BackendState T U G C
    pub rest : List (Entry T U G C)
    pub end_lacked : Bool
    pub reads : OneStep w before read found.server
    pub read_is : read.call ≡ Asked (step.NextActionWithin id r) (reply.NextActionWithin (Ok handed) r')
    pub found_is : found.refused ≡ read.refused
    pub handles : Handles h found handed rest end_lacked why h' after
    pub run_is : run ≡ read ∷ rest
    pub lacked_is : lacked ≡ read.refused || end_lacked

  -- rounds one after another, in each of which the action was ended
  pub data Rounds : H → Reading → ServerState T U G C → List (Entry T U G C) → Bool → H → Reading → ServerState T U G C → Type 0 where
    none : {h : H} {r : Reading} {s : ServerState T U G C} {run : List (Entry T U G C)} {lacked : Bool}
        → run ≡ [] → lacked ≡ false → Rounds h r s run lacked h r s
    more : {h h1 h' : H} {r r1 r' : Reading} {s s1 s' : ServerState T U G C} {first next run : List (Entry T U G C)} {before now lacked : Bool}
        → Rounds h r s first before h1 r1 s1 → Round h1 r1 s1 next now None h' r' s' → run ≡ first ++ next → lacked ≡ before || now
        → Rounds h r s run lacked h' r' s'

  -- The last round: the reading hands out no action, or the end of its action is refused. The dispatch ends by this fault.
  pub data Last (h : H) (r : Reading) (s : ServerState T U G C) (run : List (Entry T U G C)) (lacked : Bool) (f : IoFault) (h' : H) (r' : Reading)
      (s' : ServerState T U G C) : Type 0 where
    no_action : (e : Entry T U G C) (error : ActionError) → OneStep w s e s'
        → e.call ≡ Asked (step.NextActionWithin id r) (reply.NextActionWithin (Err error) r') → run ≡ e ∷ [] → lacked ≡ e.refused
        → f ≡ fault_of_reading error → h' ≡ h → Last h r s run lacked f h' r' s'
    not_ended : (why : FinishError) → Round h r s run lacked (Some why) h' r' s' → f ≡ fault_of_end why → Last h r s run lacked f h' r' s'

  -- ---- a client

  -- rounds, and then the last one, which ends by this fault
  pub record RoundsEnd (h : H) (r : Reading) (before : ServerState T U G C) (run : List (Entry T U G C)) (lacked : Bool) (f : IoFault) (h' : H)
      (r' : Reading) (after : ServerState T U G C) : Type 0 where
    pub handler : H
    pub reading : Reading
    pub mid : ServerState T U G C
    pub first : List (Entry T U G C)
    pub last : List (Entry T U G C)
    pub first_lacked : Bool
    pub last_lacked : Bool
    pub rounds : Rounds h r before first first_lacked handler reading mid
    pub end : Last handler reading mid last last_lacked f h' r' after
    pub run_is : run ≡ first ++ last
    pub lacked_is : lacked ≡ first_lacked || last_lacked

  -- A client is dispatched, with one new reading. The answer is that of its dispatch.
  pub record IsDispatched (h : H) (before : ServerState T U G C) (run : List (Entry T U G C)) (lacked : Bool) (answer : Result ℕ IoFault) (h' : H)
      (after : ServerState T U G C) : Type 0 where
    pub left : Reading
    pub fault : IoFault
    pub rounds_end : RoundsEnd h new_reading before run lacked fault h' left after
    pub answer_is : answer ≡ dispatched fault left.read

-- ---- clients one after another

module _ {H T U G C : Type 0} (w : World T G C) (answers : Answering H T U G C) where
  -- Each of the clients is dispatched, in order, with a reading of its own. The sum of the counts is `total`.
  pub data EachIsDispatched : List ClientParts → H → ServerState T U G C → List (Entry T U G C) → Bool → ℕ → H → ServerState T U G C → Type 0 where
    none : {ids : List ClientParts} {h : H} {s : ServerState T U G C} {run : List (Entry T U G C)} {lacked : Bool} {total : ℕ}
        → ids ≡ [] → run ≡ [] → lacked ≡ false → total ≡ 0 → EachIsDispatched ids h s run lacked total h s
    more : {earlier ids : List ClientParts} {h h1 h' : H} {s s1 s' : ServerState T U G C} {first next run : List (Entry T U G C)} {before now lacked : Bool}
        {count total : ℕ} (id : ClientParts) (answer : Result ℕ IoFault) → EachIsDispatched earlier h s first before count h1 s1
        → IsDispatched w answers id h1 s1 next now answer h' s' → ids ≡ earlier ++ (id ∷ []) → run ≡ first ++ next → lacked ≡ before || now
        → total ≡ total_with count answer → EachIsDispatched ids h s run lacked total h' s'

-- ---- the end of a dispatch

module _ {T U G C : Type 0} (w : World T G C) (before : ServerState T U G C) (calls : List (Entry T U G C)) (after : ServerState T U G C) where
  -- each run of a new server that led to `before` leads, with these calls after it, to `after`, and is accounted for
  abbrev pub StayAccountedFor : Type 0
  StayAccountedFor =
      (table : List InterfaceRow) (run : List (Entry T U G C)) → Leads w (new_server table) run before
      → Leads w (new_server table) (run ++ calls) after × IsAccountedFor w table (run ++ calls) after

  -- It does not matter to any reading, or end of an action, among these calls how bytes and tokens are cut.
  abbrev pub AreCut : Type 0
  AreCut =
      (earlier later : List (Entry T U G C)) (e : Entry T U G C) (found left : ServerState T U G C) → calls ≡ earlier ++ e ∷ later
      → Leads w before earlier found → OneStep w found e left → Leads w left later after → IsCut w found e left e.call

-- A cleanup ends the dispatch. The dispatch is a run of calls, and `IsAccountedFor` holds of it after each run that led to
-- it. `after.refused` says whether memory was refused in its own calls; those of its handler do not count.
pub record EndsDispatch {T U G C : Type 0} (w : World T G C) (before : ServerState T U G C) (calls : List (Entry T U G C)) (lacked : Bool)
    (mid : ServerState T U G C) (answer result : Result ℕ IoFault) (after : BackendState T U G C) : Type 0 where
  pub cleanup : Entry T U G C
  pub out : Reply T U
  pub cleans : OneStep w mid cleanup after.server
  pub cleanup_is : cleanup.call ≡ Asked step.Cleanup out
  pub result_is : result ≡ cleaned out answer
  pub refused : after.refused ≡ lacked || cleanup.refused
  pub leads : Leads w before (calls ++ (cleanup ∷ [])) after.server
  pub accounted : IsWithinOffer w.sends → StayAccountedFor w before (calls ++ (cleanup ∷ [])) after.server
  pub cut : AreCut w before (calls ++ (cleanup ∷ [])) after.server

module _ {H T U G C : Type 0} (w : World T G C) (answers : Answering H T U G C) where
  -- what a dispatch of one client does
  abbrev pub DispatchesClient : ClientParts → H → ServerState T U G C → Result ℕ IoFault → H → BackendState T U G C → Type 0
  DispatchesClient id h before result h' after =
      (calls : List (Entry T U G C)) × (lacked : Bool) × (answer : Result ℕ IoFault) × (mid : ServerState T U G C)
      × IsDispatched w answers id h before calls lacked answer h' mid × EndsDispatch w before calls lacked mid answer result after

  -- what a dispatch of several clients does: the faults of single clients are dropped
  abbrev pub DispatchesAll : List ClientParts → H → ServerState T U G C → Result ℕ IoFault → H → BackendState T U G C → Type 0
  DispatchesAll ids h before result h' after =
      (calls : List (Entry T U G C)) × (lacked : Bool) × (total : ℕ) × (mid : ServerState T U G C)
      × EachIsDispatched w answers ids h before calls lacked total h' mid × EndsDispatch w before calls lacked mid (Ok total) result after
