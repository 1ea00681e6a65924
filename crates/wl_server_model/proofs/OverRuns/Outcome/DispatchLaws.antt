-- That a dispatch has one outcome, where memory is not refused and the handler is deterministic.
--
-- It is proved of a handler that is deterministic where memory is refused to none of its calls, and says so in its own value.
use Rattle.std.proofs.Common.{◌≡◌, ℕ, length, Bool, true, false, List, [], ◌∷◌, Option, None, Some, Result, Ok, Err, refl, sym, ap, ap₂, ◌∙◌, true≢false, arith}
use Rattle.std.specs.Prelude.{◌||◌}
use Rattle.std.proofs.lemmas.List.{length-append, same_from_push}
use Rattle.std.proofs.lemmas.Option.{same_Some}
use Rattle.wl_wire.specs.declared.error.IoFault.{IoFault}
use Rattle.wl_server_client.specs.declared.error.ActionError.{ActionError}
use Rattle.wl_server_client.specs.declared.error.FinishError.{FinishError}
use Rattle.wl_server_client.specs.declared.reading.action.Action.{Action}
use Rattle.wl_server_client.specs.declared.reading.action.Action.TheVariants as action
use Rattle.wl_server_client.specs.declared.reading.action.Reading.{Reading}
use Rattle.wl_server_model.specs.declared.step.Reply.{Reply}
use Rattle.wl_server_model.specs.declared.step.Reply.TheVariants as reply
use Rattle.wl_server_model.specs.declared.step.Step.{Step}
use Rattle.wl_server_model.specs.declared.step.Step.TheVariants as step
use Rattle.wl_server_model.specs.Backend.{BackendState}
use Rattle.wl_server_client.specs.Deeds.{handed}
use Rattle.wl_server_model.specs.Dispatch.{Answering, Answers, EachIsDispatched, EndsDispatch, IsDispatched, Last, Round, Rounds, cleaned, dispatched, fault_of_end, fault_of_reading, more, no_action, none, not_ended, refusal_in, total_with}
use Rattle.wl_server_model.specs.Outcome.Dispatches.{DispatchesHaveOneOutcome, HandledSame, IsDeterministic, IsDeterministicIfSpared, ManyDispatchesHaveOneOutcome, ManySparedDispatchesHaveOneOutcome, SameBackend, SparedDispatchesHaveOneOutcome}
use Rattle.wl_server_client.specs.Ids.{ClientParts}
use Rattle.wl_server_model.specs.Outcome.{SameReply}
use Rattle.wl_server_model.specs.PartStep.{share_of, Asked, World}
use Rattle.wl_server_client.specs.Reading.{new_reading}
use Rattle.wl_server_model.specs.Server.{ServerState}
use Rattle.wl_server_model.specs.Steps.{Entry, OneStep}
use Rattle.wl_server_model.specs.Outcome.Whole.{SameServer, WholeReply}
use Rattle.wl_server_model.proofs.OverRuns.Outcome.MoveLaws.{IsDetermined}
use Rattle.wl_server_model.proofs.OverRuns.Outcome.WholeRuns.{entry_one}

-- memory was refused in neither
both_calm : (a b : Bool) → (a || b) ≡ false → (a ≡ false) × (b ≡ false)
both_calm h1 b calm = grind (arith, true≢false)

-- ---- what replies that are the same tell a dispatch

-- some client
abbrev any : ClientParts
any = record { slot = 0; serial = 0 }

module _ {T U : Type 0} where
  whole_any : (ordered : Bool) (p q : Reply T U) → WholeReply ordered p q → SameReply any p q
  whole_any ordered (reply.Cleanup (Ok out)) (reply.Cleanup (Ok out')) same = ap (share_of any) same
  whole_any ordered (reply.TakeNotes (Ok out)) (reply.TakeNotes (Ok out')) same = same.0 any
  whole_any ordered p q same = same any

  refusal_same : (p q : Reply T U) → SameReply any p q → refusal_in p ≡ refusal_in q
  refusal_same p q same = grind (arith)

  cleaned_same : (answer : Result ℕ IoFault) (p q : Reply T U) → SameReply any p q → cleaned p answer ≡ cleaned q answer
  cleaned_same answer p q same = grind (arith)

-- ---- a call of a dispatch

module _ {T U G C : Type 0} (w : World T G C) (known : IsDetermined w) (ordered : Bool) where
  -- the same step was made twice
  step_one : {s t x y : ServerState T U G C} {e f : Entry T U G C} {k : Step T U G C} {p q : Reply T U} → SameServer ordered s t → e.call ≡ Asked k p
      → f.call ≡ Asked k q → e.refused ≡ false → f.refused ≡ false → OneStep w s e x → OneStep w t f y → SameReply any p q × SameServer ordered x y
  step_one {s} {t} {x} {y} {e} {f} {k} {p} {q} same call call' calm calm' by by' =
      let one = entry_one w known s t x y e f ordered same (grind (arith, e.call, f.call)) calm calm' by by' in
      (whole_any ordered p q (grind (arith, e.call, f.call, one.0)), one.2)

module _ {H T U G C : Type 0} (w : World T G C) (known : IsDetermined w) (ordered : Bool) (answers : Answering H T U G C) (spared : H → Bool)
    (acts : IsDeterministicIfSpared ordered answers spared) where
  abbrev Server : Type 0
  Server = ServerState T U G C

  abbrev Calls : Type 0
  Calls = List (Entry T U G C)

  module _ (id : ClientParts) where
    -- ---- an action

    answered_one : (h h1 h2 : H) (b c x y : BackendState T U G C) (a a' : Action) (end end' : Step T U G C) → SameBackend ordered b c
        → handed a ≡ handed a' → spared h1 ≡ true → spared h2 ≡ true → Answers w answers id h b a end h1 x → Answers w answers id h c a' end' h2 y
        → HandledSame ordered end end' h1 h2 x y
    answered_one h h1 h2 b c x y (action.Request _ _ _ _ _) (action.Request _ _ _ _ _) end end' same actions is is' p q = grind (arith)
    answered_one h h1 h2 b c x y (action.Bind _ _) (action.Bind _ _) end end' same actions is is' p q = grind (arith)
    answered_one h h1 h2 b c x y (action.Registry _) (action.Registry _) end end' same actions is is' (kept, left, by) (kept', left', by') =
        (by ∙ sym by', kept ∙ sym kept', rw (left, left') same.server)
    answered_one h h1 h2 b c x y a a' end end' same actions is is' p q = absurd cc

    -- ---- a turn: a reading, and what became of the action that it handed out, if it did

    abbrev Ending : Type 0
    Ending = Result (Option FinishError) ActionError

    -- the action was ended, or its end was refused; or none was handed out
    data Turn (h : H) (r : Reading) (s : Server) (o : Ending) (h' : H) (r' : Reading) (s' : Server) : Type 0 where
      ended : (why : Option FinishError) (run : Calls) (lacked : Bool) → o ≡ Ok why → lacked ≡ false → spared h' ≡ true
          → Round w answers id h r s run lacked why h' r' s' → Turn h r s o h' r' s'
      unread : (error : ActionError) (e : Entry T U G C) → o ≡ Err error → e.refused ≡ false → spared h' ≡ true → h' ≡ h → OneStep w s e s'
          → e.call ≡ Asked (step.NextActionWithin id r) (reply.NextActionWithin (Err error) r') → Turn h r s o h' r' s'

    turn_one : {h h1 h2 : H} {r r1 r2 : Reading} {s t x y : Server} {o o' : Ending} → SameServer ordered s t → Turn h r s o h1 r1 x
        → Turn h r t o' h2 r2 y → (o ≡ o') × (h1 ≡ h2) × (r1 ≡ r2) × SameServer ordered x y
    turn_one {h} {h1} {h2} same (ended why run l o_is calm is p) (ended why' run' m o_is' calm' is' q) =
        let c = both_calm p.read.refused p.end_lacked (sym p.lacked_is ∙ calm) in
        let d = both_calm q.read.refused q.end_lacked (sym q.lacked_is ∙ calm') in
        let read = step_one w known ordered same p.read_is q.read_is c.0 d.0 p.reads q.reads in
        let backend : SameBackend ordered p.found q.found = record { server = read.1; refused = p.found_is ∙ c.0 ∙ sym (q.found_is ∙ d.0) } in
        let a = p.handles in
        let b = q.handles in
        let done = answered_one h h1 h2 p.found q.found a.left b.left p.handed q.handed a.end b.end backend
        (grind (arith, handed p.handed, handed q.handed, read.0)) is is' a.answers_so b.answers_so in
        let last = step_one w known ordered done.2 a.ended_is (rw (← done.0) at b.ended_is) (sym a.lacked_is ∙ c.1)
        (sym b.lacked_is ∙ d.1) a.ends b.ends in
        (o_is ∙ ap Ok (a.why_is ∙ refusal_same a.answer b.answer last.0 ∙ sym b.why_is) ∙ sym o_is', done.1, read.0.1, last.1)
    turn_one same (ended why run l o_is calm is p) (unread error f o_is' calm' is' kept by call) =
        let c = both_calm p.read.refused p.end_lacked (sym p.lacked_is ∙ calm) in
        let told = (step_one w known ordered same p.read_is call c.0 calm' p.reads by).0.0 in absurd cc
    turn_one same (unread error e o_is calm is kept by call) (ended why run l o_is' calm' is' q) =
        let d = both_calm q.read.refused q.end_lacked (sym q.lacked_is ∙ calm') in
        let told = (step_one w known ordered same call q.read_is calm d.0 by q.reads).0.0 in absurd cc
    turn_one same (unread error e o_is calm is kept by call) (unread error' f o_is' calm' is' kept' by' call') =
        let one = step_one w known ordered same call call' calm calm' by by' in
        let told = one.0.0 in (cc, kept ∙ sym kept', one.0.1, one.1)

    turn_back : {h h' : H} {r r' : Reading} {s s' : Server} {o : Ending} → Turn h r s o h' r' s' → spared h ≡ true
    turn_back {h} {h'} {r} {r'} {s} {s'} (ended why run l o_is calm is p) = grind (arith)
    turn_back (unread error e o_is calm is kept by call) = ap spared (sym kept) ∙ is

    -- ---- turns, the first of them first

    -- the fault by which a dispatch ends with this turn, if it does
    abbrev fault_in : Ending → Option IoFault
    fault_in (Ok None) = None
    fault_in (Ok (Some why)) = Some (fault_of_end why)
    fault_in (Err error) = Some (fault_of_reading error)

    data Goes : H → Reading → Server → IoFault → H → Reading → Server → Type 0 where
      stops : {h h' : H} {r r' : Reading} {s s' : Server} {f : IoFault} {o : Ending} → Turn h r s o h' r' s' → fault_in o ≡ Some f
          → Goes h r s f h' r' s'
      goes : {h h1 h' : H} {r r1 r' : Reading} {s s1 s' : Server} {f : IoFault} → Turn h r s (Ok None) h1 r1 s1 → Goes h1 r1 s1 f h' r' s'
          → Goes h r s f h' r' s'

    starts : {h h' : H} {r r' : Reading} {s s' : Server} {f : IoFault} → Goes h r s f h' r' s' → spared h ≡ true
    starts (stops turn ends) = turn_back turn
    starts (goes turn rest) = turn_back turn

    rounds_go : {h h1 h' : H} {r r1 r' : Reading} {s s1 s' : Server} {f : IoFault} {run : Calls} {lacked : Bool} → lacked ≡ false
        → Rounds w answers id h r s run lacked h1 r1 s1 → Goes h1 r1 s1 f h' r' s' → Goes h r s f h' r' s'
    rounds_go calm (none no_run unlacked) rest = rest
    rounds_go calm (more {next = next} {before = before} {now = now} rounds round run_is lacked_is) rest =
        let c = both_calm before now (sym lacked_is ∙ calm) in rounds_go c.0 rounds (goes (ended None next now refl c.1 (starts rest) round) rest)

    last_goes : {h h' : H} {r r' : Reading} {s s' : Server} {f : IoFault} {run : Calls} {lacked : Bool} → lacked ≡ false → spared h' ≡ true
        → Last w answers id h r s run lacked f h' r' s' → Goes h r s f h' r' s'
    last_goes calm is (no_action e error by call run_is lacked_is fault_is kept) =
        stops (unread error e refl (sym lacked_is ∙ calm) is kept by call) (ap Some (sym fault_is))
    last_goes {run = run} {lacked = lacked} calm is (not_ended why round fault_is) =
        stops (ended (Some why) run lacked refl calm is round) (ap Some (sym fault_is))

    goes_one : {h h1 h2 : H} {r r1 r2 : Reading} {s t x y : Server} {f g : IoFault} → SameServer ordered s t → Goes h r s f h1 r1 x
        → Goes h r t g h2 r2 y → (f ≡ g) × (h1 ≡ h2) × (r1 ≡ r2) × SameServer ordered x y
    goes_one {f = f} {g = g} same (stops turn ends) (stops turn' ends') =
        let one = turn_one same turn turn' in (same_Some f g (sym ends ∙ ap fault_in one.0 ∙ ends'), one.1, one.2, one.3)
    goes_one {f = f} same (stops turn ends) (goes turn' rest) =
        let none : None ≡ Some f = ap fault_in (sym (turn_one same turn turn').0) ∙ ends in absurd cc
    goes_one {g = g} same (goes turn rest) (stops turn' ends) =
        let none : None ≡ Some g = ap fault_in (turn_one same turn turn').0 ∙ ends in absurd cc
    goes_one same (goes turn rest) (goes turn' rest') =
        let one = turn_one same turn turn' in goes_one one.3 rest (rw (← one.1, ← one.2) at rest')

    -- ---- a client

    client_goes : {h h' : H} {s s' : Server} {run : Calls} {lacked : Bool} {answer : Result ℕ IoFault} → lacked ≡ false → spared h' ≡ true
        → (d : IsDispatched w answers id h s run lacked answer h' s') → Goes h new_reading s d.fault h' d.left s'
    client_goes calm is d =
        let ends = d.rounds_end in
        let c = both_calm ends.first_lacked ends.last_lacked (sym ends.lacked_is ∙ calm) in rounds_go c.0 ends.rounds (last_goes c.1 is ends.end)

    client_one : {h h1 h2 : H} {s t x y : Server} {run run' : Calls} {l m : Bool} {answer answer' : Result ℕ IoFault} → SameServer ordered s t
        → l ≡ false → m ≡ false → spared h1 ≡ true → spared h2 ≡ true → IsDispatched w answers id h s run l answer h1 x
        → IsDispatched w answers id h t run' m answer' h2 y → (answer ≡ answer') × (h1 ≡ h2) × SameServer ordered x y
    client_one same calm calm' is is' d d' =
        let one = goes_one same (client_goes calm is d) (client_goes calm' is' d') in
        (d.answer_is ∙ ap₂ (λ (f : IoFault) (r : Reading). dispatched f r.read) one.0 one.2 ∙ sym d'.answer_is, one.1, one.3)

  -- ---- clients one after another

  each_one : {ids : List ClientParts} {h h1 h2 : H} {s t x y : Server} {run run' : Calls} {l m : Bool} {total total' : ℕ} → SameServer ordered s t
      → l ≡ false → m ≡ false → spared h1 ≡ true → spared h2 ≡ true → EachIsDispatched w answers ids h s run l total h1 x
      → EachIsDispatched w answers ids h t run' m total' h2 y → (total ≡ total') × (h1 ≡ h2) × SameServer ordered x y
  each_one same calm calm' is is' (none empty run_is lacked_is none_read) (none empty' run_is' lacked_is' none_read') =
      (none_read ∙ sym none_read', refl, same)
  each_one same calm calm' is is' (none empty run_is lacked_is none_read) (more {earlier = front} id answer each serves ids_are _ _ _) =
      absurd (omega (arith, length-append front (id ∷ []), ap length (sym empty ∙ ids_are)))
  each_one same calm calm' is is' (more {earlier = front} id answer each serves ids_are _ _ _) (none empty run_is' lacked_is' none_read) =
      absurd (omega (arith, length-append front (id ∷ []), ap length (sym empty ∙ ids_are)))
  each_one same calm calm' is is' (more {earlier = front} {before = b} {now = n} id answer each serves ids_are run_is lacked_is total_is)
      (more {earlier = front'} {before = b'} {now = n'} id' answer' each' serves' ids_are' run_is' lacked_is' total_is') =
      let ends = same_from_push front front' id id' (sym ids_are ∙ ids_are') in
      let c = both_calm b n (sym lacked_is ∙ calm) in
      let d = both_calm b' n' (sym lacked_is' ∙ calm') in
      let earlier = each_one same c.0 d.0 (starts id (client_goes id c.1 is serves)) (starts id' (client_goes id' d.1 is' serves')) each
      (rw (← ends.0) at each') in
      let one = client_one id earlier.2 c.1 d.1 is is' serves (rw (← ends.1, ← earlier.1) at serves') in
      (total_is ∙ ap₂ total_with earlier.0 one.0 ∙ sym total_is', one.1, one.2)

  -- ---- the end of a dispatch

  ends_one : {h1 h2 : H} {s t z z' : Server} {calls calls' : Calls} {l m : Bool} {answer answer' result result' : Result ℕ IoFault}
      {x y : BackendState T U G C} → (l ≡ false → m ≡ false → (answer ≡ answer') × (h1 ≡ h2) × SameServer ordered z z')
      → EndsDispatch w s calls l z answer result x → EndsDispatch w t calls' m z' answer' result' y → x.refused ≡ false → y.refused ≡ false
      → HandledSame ordered result result' h1 h2 x y
  ends_one {l = l} {m = m} {answer' = answer'} before p q calm calm' =
      let c = both_calm l p.cleanup.refused (sym p.refused ∙ calm) in
      let d = both_calm m q.cleanup.refused (sym q.refused ∙ calm') in
      let (answered, kept, same) = before c.0 d.0 in
      let one = step_one w known ordered same p.cleanup_is q.cleanup_is c.1 d.1 p.cleans q.cleans in
      (p.result_is ∙ ap (cleaned p.out) answered ∙ cleaned_same answer' p.out q.out one.0 ∙ sym q.result_is, kept, one.1)

  pub spared_dispatch_one : SparedDispatchesHaveOneOutcome ordered w answers spared
  spared_dispatch_one id h h1 h2 s t x y result result' same (_, _, _, _, serves, ends) (_, _, _, _, serves', ends') calm calm' is is' =
      ends_one (λ c d. client_one id same c d is is' serves serves') ends ends' calm calm'

  pub spared_dispatches_one : ManySparedDispatchesHaveOneOutcome ordered w answers spared
  spared_dispatches_one ids h h1 h2 s t x y result result' same (_, _, _, _, each, ends) (_, _, _, _, each', ends') calm calm' is is' =
      ends_one (λ c d. let one = each_one same c d is is' each each' in (ap Ok one.0, one.1, one.2)) ends ends' calm calm'

-- ---- a handler that is always deterministic

module _ {H T U G C : Type 0} (w : World T G C) (known : IsDetermined w) (ordered : Bool) (answers : Answering H T U G C)
    (acts : IsDeterministic ordered answers) where
  always : IsDeterministicIfSpared ordered answers (λ h. true)
  always = grind (arith)

  pub dispatch_one : DispatchesHaveOneOutcome ordered w answers
  dispatch_one id h h1 h2 s t x y result result' same p q calm calm' =
      spared_dispatch_one w known ordered answers (λ h. true) always id h h1 h2 s t x y result result' same p q calm calm' refl refl

  pub dispatches_one : ManyDispatchesHaveOneOutcome ordered w answers
  dispatches_one ids h h1 h2 s t x y result result' same p q calm calm' =
      spared_dispatches_one w known ordered answers (λ h. true) always ids h h1 h2 s t x y result result' same p q calm calm' refl refl
