-- What a program makes of the transport by script between the calls, as steps.
use Rattle.std.proofs.Common.{◌≡◌, ◌∷◌, ◌++◌, ℕ, List, [], Bool, true, false, Result, Ok, Err, is_ok, refl, sym, ap, subst, true≢false, Vec, map, arith}
use Rattle.std.specs.Global.{Global}
use Rattle.wl_wire.specs.declared.argument.Token.{Token}
use Rattle.wl_wire.specs.declared.error.IoFault.{IoFault}
use Rattle.wl_wire.specs.declared.error.OutOfMemory.{OutOfMemory}
use Rattle.wl_link.specs.declared.memory.ArriveError.{ArriveError}
use Rattle.wl_link.specs.declared.memory.ArriveError.TheVariants as arrive
use Rattle.wl_link.specs.Exchange.{Queue}
use Rattle.wl_link.specs.Script.{Script, parcel}
use Rattle.wl_client.specs.declared.step.Reply.TheVariants as reply
use Rattle.wl_client.specs.declared.step.Step.TheVariants as step
use Rattle.wl_client.specs.Histories.{Called, Changed, Deed, History}
use Rattle.wl_client.specs.Scripted.{Arrives, Becomes}
use Rattle.wl_client.specs.Session.{SessionState, over_transport}
use Rattle.wl_client.specs.Steps.{ArrivesWith, Entry, Scripts, StepOf, refused_arrive, refused_script}

ok_no_error : {e : ArriveError} → ◌≡◌ {A = Result (Unit {0}) ArriveError} (Ok tt) (Err e) → ⊥
ok_no_error same = true≢false (ap is_ok same)

abbrev is_memory : Result (Unit {0}) ArriveError → Bool
is_memory (Err arrive.OutOfMemory) = true
is_memory _ = false

memory_no_count : ◌≡◌ {A = Result (Unit {0}) ArriveError} (Err arrive.OutOfMemory) (Err arrive.TooManyTokens) → ⊥
memory_no_count same = true≢false (ap is_memory same)

module _ {U : Type 0} where
  arrives_with : (before : SessionState Script U) (chunk : Queue) (answer : Result (Unit {0}) ArriveError) (t : Script) → Arrives before.link.transport chunk answer t
      → ArrivesWith before chunk answer (over_transport before t)
  arrives_with before chunk answer t h1 = grind (arith, ok_no_error, over_transport, memory_no_count)

  scripts : (before : SessionState Script U) (script : Script) (answer : Result (Unit {0}) OutOfMemory) (t : Script) → Becomes before.link.transport script answer t
      → Scripts before script answer (over_transport before t)
  scripts before script (Ok u) t (becomes, same) = ap (over_transport before) becomes
  scripts before script (Err e) t (becomes, same) = ap (over_transport before) same

  pub arrive_step : (before : SessionState Script U) (bytes : Vec ℕ Global) (tokens : Vec Token Global) (answer : Result (Unit {0}) ArriveError) (t : Script)
      → Arrives before.link.transport (record { bytes = bytes.items; tokens = tokens.items }) answer t
      → StepOf before (step.Arrive bytes tokens) (reply.Arrive answer) (refused_arrive answer) (over_transport before t)
  arrive_step before bytes tokens answer t h = (answer, refl, refl, arrives_with before _ answer t h)

  pub arrive_fault_step : (before : SessionState Script U) (f : IoFault) (answer : Result (Unit {0}) OutOfMemory) (t : Script)
      → Becomes before.link.transport (record before.link.transport { arrivals = before.link.transport.arrivals ++ Err f ∷ [] }) answer t
      → StepOf before (step.ArriveFault f) (reply.ArriveFault answer) (refused_script answer) (over_transport before t)
  arrive_fault_step before f answer t h = (answer, refl, refl, scripts before _ answer t h)

  pub accept_step : (before : SessionState Script U) (n : ℕ) (answer : Result (Unit {0}) OutOfMemory) (t : Script)
      → Becomes before.link.transport (record before.link.transport { answers = before.link.transport.answers ++ Ok n ∷ [] }) answer t
      → StepOf before (step.Accept n) (reply.Accept answer) (refused_script answer) (over_transport before t)
  accept_step before n answer t h = (answer, refl, refl, scripts before _ answer t h)

  pub accept_fault_step : (before : SessionState Script U) (f : IoFault) (answer : Result (Unit {0}) OutOfMemory) (t : Script)
      → Becomes before.link.transport (record before.link.transport { answers = before.link.transport.answers ++ Err f ∷ [] }) answer t
      → StepOf before (step.AcceptFault f) (reply.AcceptFault answer) (refused_script answer) (over_transport before t)
  accept_fault_step before f answer t h = (answer, refl, refl, scripts before _ answer t h)

  pub take_sent_step : (before : SessionState Script U) (sent : Vec (Vec ℕ Global × Vec Token Global) Global) (t : Script) → map parcel sent.items ≡ before.link.transport.sent
      → t ≡ record before.link.transport { sent = [] } → StepOf before step.TakeSent (reply.TakeSent sent) false (over_transport before t)
  take_sent_step before sent t taken becomes = (sent, refl, refl, taken, ap (over_transport before) becomes)

  -- a step stands for a change of the transport that it makes
  pub step_instead : (begun mid after : SessionState Script U) (earlier later : List (Deed Script U)) (t : Script) (e : Entry U)
      → History StepOf begun earlier mid → StepOf mid e.step e.answer e.refused (over_transport mid t)
      → History StepOf mid (Changed t ∷ later) after → History StepOf begun (earlier ++ Called e ∷ later) after
  step_instead begun mid after [] later t e here by (next, same, leads) =
      let there = subst (λ (s : SessionState Script U). StepOf mid e.step e.answer e.refused s) (sym same) by in
      (next, subst (λ (s : SessionState Script U). StepOf s e.step e.answer e.refused next) here there, leads)
  step_instead begun mid after (d ∷ earlier) later t e (first, one, rest) by leads =
      (first, one, step_instead first mid after earlier later t e rest by leads)
