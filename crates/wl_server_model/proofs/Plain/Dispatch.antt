-- A dispatch: what it leaves of its client, and of the others.
use Rattle.wl_link.specs.Exchange.{Queue}
use Rattle.wl_server_model.specs.Plain.{RequestEndedAs, CleansTo, CleansUpClients, client_in}
use Rattle.wl_server_model.proofs.Plain.Actions.{request_ends}
use Rattle.std.proofs.Common.{◌≡◌, ℕ, Bool, true, false, eqb, List, [], Option, None, Some, IsSome, is_some, Result, Ok, Err, refl, sym, ap, subst, ◌∙◌, true≢false, arith, MatchResult}
use mathlib.Core.Logic.{inl, inr}
use Rattle.std.proofs.lemmas.Bool.{cases_lt, eq-eqb}
use Rattle.std.specs.Prelude.{◌⊎◌, ◌≤◌, ◌<◌, Vec, ◌||◌}
use Rattle.std.specs.Global.{Global}
use Rattle.wl_wire.specs.declared.error.IoFault.{IoFault}
use Rattle.wl_wire.specs.declared.error.IoFault.TheVariants as fault
use Rattle.wl_wire.specs.declared.error.OutOfMemory.{OutOfMemory}
use Rattle.wl_wire.specs.Table.{InterfaceRow}
use Rattle.wl_link.proofs.Calls.Branches.{either_option}
use Rattle.wl_server_client.specs.declared.error.ActionError.{ActionError}
use Rattle.wl_server_client.specs.declared.error.ActionError.TheVariants.{ActionOpen, Io}
use Rattle.wl_server_client.specs.declared.error.FinishError.{FinishError}
use Rattle.wl_server_client.specs.declared.error.FinishError.TheVariants as finish
use Rattle.wl_server_client.specs.declared.error.FinishRefused.{FinishRefused}
use Rattle.wl_server_client.specs.declared.reading.action.Action.{Action}
use Rattle.wl_server_client.specs.declared.reading.action.Action.TheVariants as action
use Rattle.wl_server_client.specs.declared.reading.action.Reading.{Reading}
use Rattle.wl_server_model.specs.declared.step.Reply.{Reply}
use Rattle.wl_server_model.specs.declared.step.Reply.TheVariants as reply
use Rattle.wl_server_model.specs.declared.step.Step.{Step}
use Rattle.wl_server_model.specs.declared.step.Step.TheVariants as step
use Rattle.wl_server_model.specs.Backend.{BackendState}
use Rattle.wl_server_client.specs.Deeds.{Deed, Handed}
use Rattle.wl_server_model.specs.Dispatch.{Answering, Answers, DispatchesAll, DispatchesClient, Handles, Last, Rounds, after_cleanup, cleaned, dispatched, fault_of_end, fault_of_reading, more as one_round, no_action, none as no_round, not_ended, refusal_in, EachIsDispatched, EndsDispatch, IsDispatched, Round}
use Rattle.wl_server_client.specs.Finish.{FinishesBind, refusal}
use Rattle.wl_server_client.specs.Ids.{ClientParts, same_client}
use Rattle.wl_server_client.specs.Part.{Part}
use Rattle.wl_server_model.specs.PartStep.{Asked, Call, World, OfClient}
use Rattle.wl_server_model.specs.Plain.Dispatch.{AllLive, DispatchOfOneLeaves, DispatchOfSeveralLeaves, IsBusy, IsIdle, KeepsGlobals, LeftBy}
use Rattle.wl_server_model.specs.Plain.Reading.{ReadAs, ReadsClient}
use Rattle.wl_server_model.specs.Server.{Seen, ServerState, seen}
use Rattle.wl_server_model.specs.Steps.{Entry, OneStep, offer_after}
use Rattle.wl_server_model.proofs.Dispatches.Standing.{Stands, born_still, run_stands}
use Rattle.wl_server_model.proofs.Plain.Base.{none_and_some, own, part_of_call, option_cases, one_value}
use Rattle.wl_server_model.proofs.Plain.Clients.{cleanup_leaves}
use Rattle.wl_server_model.proofs.Plain.Reading.{reads_client, within_one}
use Rattle.wl_server_model.proofs.Plain.ReadingEnds.{or_true}

-- ---- that a dispatch changes no global, if no call of its handler does

module _ {H T U G C : Type 0} (w : World T G C) (answers : Answering H T U G C) (keeps : KeepsGlobals answers) where
  -- so does a call of this kind
  kept_by : (before after : ServerState T U G C) (e : Entry T U G C) (call : Call T U G C) → OneStep w before e after → e.call ≡ call
      → offer_after before.offer call ≡ before.offer → after.offer ≡ before.offer
  kept_by before after e call by is same = by.offer ∙ ap (offer_after before.offer) is ∙ same

  module _ (id : ClientParts) where
    round_keeps : (h h' : H) (r r' : Reading) (before after : ServerState T U G C) (run : List (Entry T U G C)) (lacked : Bool)
        (why : Option FinishError)
        → Round w answers id h r before run lacked why h' r' after → after.offer ≡ before.offer
    round_keeps h h' r r' before after run lacked why round = grind (arith, kept_by, offer_after)

    rounds_keep : (h h' : H) (r r' : Reading) (before after : ServerState T U G C) (run : List (Entry T U G C)) (lacked : Bool)
        → Rounds w answers id h r before run lacked h' r' after → after.offer ≡ before.offer
    rounds_keep h h' r r' before after run lacked (no_round nothing calm) = refl
    rounds_keep h h' r r' before after run lacked
        (one_round {h1 = h1} {r1 = r1} {s1 = s1} {first = first} {next = next} {before = was} {now = now} rounds round run_is lacked_is) = grind (arith, round_keeps, rounds_keep h h1 r r1 before s1 first was rounds)

    client_keeps : (h h' : H) (before after : ServerState T U G C) (run : List (Entry T U G C)) (lacked : Bool) (answer : Result ℕ IoFault)
        → IsDispatched w answers id h before run lacked answer h' after → after.offer ≡ before.offer
    client_keeps h h' before after run lacked answer serves = grind (arith, kept_by, round_keeps, rounds_keep)

  -- the clients one after another
  clients_keep : (ids : List ClientParts) (h h' : H) (before after : ServerState T U G C) (run : List (Entry T U G C)) (lacked : Bool) (total : ℕ)
      → EachIsDispatched w answers ids h before run lacked total h' after → after.offer ≡ before.offer
  clients_keep ids h h' before after run lacked total (no_round no_ids nothing calm no_total) = refl
  clients_keep ids h h' before after run lacked total
      (one_round {earlier = earlier} {h1 = h1} {s1 = s1} {first = first} {next = next} {before = was} {now = now} {count = count} id answer each serves ids_are run_is lacked_is total_is) =
      client_keeps id h1 h' s1 after next now answer serves ∙ clients_keep earlier h h1 before s1 first was count each

  -- and the cleanup
  cleanup_keeps : (before mid : ServerState T U G C) (after : BackendState T U G C) (calls : List (Entry T U G C)) (lacked : Bool)
      (answer result : Result ℕ IoFault)
      → EndsDispatch w before calls lacked mid answer result after → after.server.offer ≡ mid.offer
  cleanup_keeps before mid after calls lacked answer result ends = kept_by mid after.server ends.cleanup _ ends.cleans ends.cleanup_is refl

-- ---- the cleanup

split : (b : Bool) → (b ≡ true) ⊎ (b ≡ false)
split h1 = grind (arith)

-- what it leaves, by its answer
abbrev Leaves : {T U G C : Type 0} → World T G C → ServerState T U G C → Entry T U G C → ServerState T U G C
    → Result (Vec (ClientParts × T) Global) OutOfMemory → Type 0
Leaves w mid e after r = CleansUpClients w.sends (record { server = mid; refused = false }) r (record { server = after; refused = e.refused })

cleans : {T U G C : Type 0} {w : World T G C} {mid after : ServerState T U G C} {e : Entry T U G C} {out : Reply T U} → OneStep w mid e after
    → e.call ≡ Asked step.Cleanup out
    → (r : Result (Vec (ClientParts × T) Global) OutOfMemory) × (out ≡ reply.Cleanup r) × Leaves w mid e after r
cleans {w = w} {mid = mid} {after = after} {e = e} by is =
    let (r, says, h) = part_of_call by is (record { slot = 0; serial = 0 }) in
    (r, says, cleanup_leaves w (record { server = mid; refused = false }) (record { server = after; refused = e.refused }) r (e, is ∙ ap (λ (o : Reply _ _). Asked step.Cleanup o) says, refl, by))

module _ {T U G C : Type 0} {sends : T → Queue → Result ℕ IoFault → T → Type 0} {before after : BackendState T U G C} {out : List (ClientParts × T)}
    (c : CleansTo sends before out after) where
  all_live : AllLive after
  all_live id p there =
      elim (option_cases (client_in before id)) [
        | inl none ↦ absurd (none_and_some (client_in after id) (ap (λ (x : Seen T U C). x.part) (c.unknown id none).1 ∙ none) there)
        | inr (x, was) ↦
            elim (split x.is_killed) [
              | inl dead ↦ absurd (none_and_some (client_in after id) (c.killed id x was dead).4 there)
              | inr live ↦ let is : p ≡ record x { waiting = [] } = one_value (client_in after id) there (c.live id x was live).1 in rw is
                  (live, refl)
            ]
      ]

  -- a client that is killed, if it is stored, is gone then
  gone_then : (id : ClientParts) → ((p : Part T U C) → client_in before id ≡ Some p → p.is_killed ≡ true) → client_in after id ≡ None
  gone_then id gone =
      elim (option_cases (client_in before id)) [
        | inl none ↦ ap (λ (x : Seen T U C). x.part) (c.unknown id none).1 ∙ none
        | inr (x, was) ↦ (c.killed id x was (gone x was)).4
      ]

-- ---- what the last round leaves of the client

module _ {T U C : Type 0} where
  -- it is killed, if it is stored
  abbrev IsGone : Option (Part T U C) → Type 0
  IsGone found = (p : Part T U C) → found ≡ Some p → p.is_killed ≡ true

  -- before the cleanup
  abbrev EndedBy : IoFault → Option (Part T U C) → Type 0
  EndedBy fault.WouldBlock found = IsIdle found
  EndedBy fault.InvalidInput found = Unit {0}
  EndedBy fault.OutOfMemory found = Unit {0}
  EndedBy _ found = IsGone found

module _ {T U C : Type 0} (table : List InterfaceRow) (hands : Bool) (id : ClientParts) (s t : Seen T U C) where
  read_blocked : ReadAs table hands id (Err (Io fault.WouldBlock)) s t → IsIdle t.part
  read_blocked (inl (none, is, same)) = grind (arith)
  read_blocked (inr (p, was, inl (some, is, same))) = grind (arith)
  read_blocked (inr (p, was, inr (inl (idle, dead, is, same)))) = grind (arith)
  read_blocked (inr (p, was, inr (inr (idle, live, (q, (closed, (lives, is))))))) = (q, ap (λ (x : Seen T U C). x.part) is, lives, closed)

  read_gone : (f : IoFault) → (f ≡ fault.WouldBlock → ⊥) → (f ≡ fault.OutOfMemory → ⊥) → ReadAs table hands id (Err (Io f)) s t → IsGone t.part
  read_gone f h1 h2 h = grind (arith, f)

  ended_by : (error : ActionError) → ReadAs table hands id (Err error) s t → EndedBy (fault_of_reading error) t.part
  ended_by ActionOpen h = tt
  ended_by (Io fault.WouldBlock) h = read_blocked h
  ended_by (Io fault.OutOfMemory) h = tt
  ended_by (Io fault.InvalidInput) h = tt
  ended_by (Io f) h = read_gone f (λ e. cc) (λ e. cc) h

-- ---- a client whose dispatch ends with `InvalidInput`

module _ {T U C : Type 0} where
  -- it is killed, or an action of it is open, if it is stored
  abbrev Shut : Option (Part T U C) → Type 0
  Shut found = (p : Part T U C) → found ≡ Some p → (p.is_killed ≡ true) ⊎ IsSome p.action

  stands_shut : (found : Option (Part T U C)) → Stands found → Shut found
  stands_shut found h = grind (arith)

module _ {T U C : Type 0} (table : List InterfaceRow) (hands : Bool) (id : ClientParts) (s t : Seen T U C) where
  read_shut : (error : ActionError) → ReadAs table hands id (Err error) s t → fault_of_reading error ≡ fault.InvalidInput → Shut t.part
  read_shut error h is = grind (arith, error)

  read_stands : (h : Handed) → ReadAs table hands id (Ok h) s t → Stands t.part
  read_stands h (inl (none, is, same)) = absurd cc
  read_stands h (inr (p, was, inl (some, is, same))) = absurd cc
  read_stands h (inr (p, was, inr (inl (idle, dead, is, same)))) = absurd cc
  read_stands h (inr (p, was, inr (inr (idle, live, (q, (handed, (lives, is))))))) =
      inr (q, ap (λ (x : Seen T U C). x.part) is, (grind (arith, is_some)))

-- ---- a reading, as the words of the look-ups tell it

module _ {T U G C : Type 0} (w : World T G C) (id : ClientParts) {s s' : ServerState T U G C} {e : Entry T U G C} (by : OneStep w s e s') where
  read_of : (r r' : Reading) (got : Result Action ActionError) → e.call ≡ Asked (step.NextActionWithin id r) (reply.NextActionWithin got r')
      → ReadsClient (record { server = s; refused = false }) id got (record { server = s'; refused = e.refused })
  read_of r r' got is =
      reads_client w (record { server = s; refused = false }) (record { server = s'; refused = e.refused }) id r got r'
      (within_one w (record { server = s; refused = false }) (record { server = s'; refused = e.refused }) id r r' got (e, is, refl, by))

module _ {T U G C : Type 0} (w : World T G C) (id : ClientParts) (s s' : ServerState T U G C) (e : Entry T U G C) (by : OneStep w s e s') where
  request_starved : (u : Option U) (answer : Reply T U) → e.call ≡ Asked (step.FinishRequest id u) answer
      → Some finish.OutOfMemory ≡ refusal_in answer → e.refused ≡ true
  request_starved u answer is why =
      let (r, answer_is, h) = part_of_call by is id in
      starved r (why ∙ ap refusal_in answer_is)
      (request_ends w before after id u r (e, is ∙ ap (λ (a : Reply T U). Asked (step.FinishRequest id u) a) answer_is, refl, by)).request
    where
      before : BackendState T U G C
      before = record { server = s; refused = false }

      after : BackendState T U G C
      after = record { server = s'; refused = e.refused }

      starved : (r : Result (Unit {0}) (FinishRefused (Option U))) → Some finish.OutOfMemory ≡ refusal_in {T = T} (reply.FinishRequest r)
          → RequestEndedAs before id u r after → e.refused ≡ true
      starved (Ok ok) lacks so = absurd (none_and_some None refl (sym lacks))
      starved (Err r) lacks so = grind (arith, r.error)

  bind_starved : (u : U) (answer : Reply T U) → e.call ≡ Asked (step.FinishBind id u) answer → Some finish.OutOfMemory ≡ refusal_in answer
      → e.refused ≡ true
  bind_starved u answer is why =
      let (r, answer_is, h) = part_of_call by is id in absurd (never r (seen id s) (seen id s') (e.lacks id) (e.did id)
      (why ∙ ap refusal_in answer_is) h)
    where
      never : (r : Result (Unit {0}) (FinishRefused U)) (s t : Seen T U C) (lacked : Bool) (did : List (Deed U))
          → Some finish.OutOfMemory ≡ refusal_in {T = T} (reply.FinishBind r)
          → OfClient (same_client id id) s (λ p q. FinishesBind p u r lacked did q)
          (r ≡ Err (record { error = finish.InvalidId; user_data = u })) lacked did t → ⊥
      never r s t lacked did starved h = grind (arith, either_option, own)

module _ {H T U G C : Type 0} (w : World T G C) (answers : Answering H T U G C) (id : ClientParts) where
  last_leaves : {h h' : H} {r r' : Reading} {s s' : ServerState T U G C} {run : List (Entry T U G C)} {lacked : Bool} {f : IoFault}
      → Last w answers id h r s run lacked f h' r' s' → EndedBy f (seen id s').part
  last_leaves {r = r} {r' = r'} {s = s} {s' = s'} (no_action e error by is run_is lacked_is f_is same) =
      rw f_is (ended_by s.offer.table s.offer.hands_registries id (seen id s) (seen id s') error (read_of w id by r r' (Err error) is).client)
  last_leaves {s' = s'} (not_ended why round f_is) = rw f_is (grind (arith, (seen id s').part))

  -- ---- an action whose end is refused

  module _ (why : FinishError) (is_not : why ≡ finish.OutOfMemory → ⊥) where
    end_stays : {h h' : H} {before : BackendState T U G C} {a : Action} {run : List (Entry T U G C)} {lacked : Bool} {after : ServerState T U G C}
        → (x : Handles w answers id h before a run lacked (Some why) h' after) → (seen id after).part ≡ (seen id x.left.server).part
    end_stays {h} {h'} {before} {a} {after = after} x = grind (arith, seen, either_option, own, refusal, refusal_in)

  born_rounds : {h h' : H} {r r' : Reading} {s s' : ServerState T U G C} {run : List (Entry T U G C)} {lacked : Bool}
      → Rounds w answers id h r s run lacked h' r' s' → id.serial ≤ s.last_client → id.serial ≤ s'.last_client
  born_rounds (no_round run_is lacked_is) born = born
  born_rounds (one_round {s1 = s1} before round run_is lacked_is) born =
      let so_far = born_rounds before born in
      omega (arith, born_still w id round.found.server round.handles.left.server round.handles.calls (omega (arith, so_far, round.reads.last)) round.handles.leads, round.handles.ends.last)

  last_shut : {h h' : H} {r r' : Reading} {s s' : ServerState T U G C} {run : List (Entry T U G C)} {lacked : Bool} {f : IoFault}
      → Last w answers id h r s run lacked f h' r' s' → id.serial ≤ s.last_client → f ≡ fault.InvalidInput → Shut (seen id s').part
  last_shut {r = r} {r' = r'} {s = s} {s' = s'} (no_action e error by run_is call_is lacked_is f_is same) born so =
      read_shut s.offer.table s.offer.hands_registries id (seen id s) (seen id s') error (read_of w id by r r' (Err error) run_is).client (sym f_is ∙ so)
  last_shut {r = r} {r' = r'} {s = s} {s' = s'} (not_ended why round f_is) born so =
      let stands = read_stands s.offer.table s.offer.hands_registries id (seen id s) (seen id round.found.server) _
      (read_of w id round.reads r r' (Ok round.handed) round.read_is).client in
      stands_shut (seen id s').part
      (subst Stands (sym (end_stays why is_not round.handles))
      (run_stands w id round.found.server round.handles.left.server round.handles.calls (omega (arith, born, round.reads.last)) round.handles.leads round.handles.spared stands))
    where
      is_not : why ≡ finish.OutOfMemory → ⊥
      is_not is = absurd cc

  -- ---- memory

  end_starved : {h h' : H} {before : BackendState T U G C} {a : Action} {run : List (Entry T U G C)} {lacked : Bool} {after : ServerState T U G C}
      → (x : Handles w answers id h before a run lacked (Some finish.OutOfMemory) h' after) → lacked ≡ true
  end_starved {h} {h'} {before} {a} {after = after} x = x.lacked_is ∙ at a x.answers_so
    where
      at : (a : Action) → Answers w answers id h before a x.end h' x.left → x.ended.refused ≡ true
      at (action.Request sender opcode args is_destructor created) (u, so, is) =
          request_starved w id x.left.server after x.ended x.ends u x.answer (x.ended_is ∙ ap (λ (s : Step T U G C). Asked s x.answer) is) x.why_is
      at (action.Bind global object) (u, so, is) =
          bind_starved w id x.left.server after x.ended x.ends u x.answer (x.ended_is ∙ ap (λ (s : Step T U G C). Asked s x.answer) is) x.why_is
      at (action.Registry object) (same, still, is) =
          request_starved w id x.left.server after x.ended x.ends None x.answer (x.ended_is ∙ ap (λ (s : Step T U G C). Asked s x.answer) is) x.why_is

  last_starved : {h h' : H} {r r' : Reading} {s s' : ServerState T U G C} {run : List (Entry T U G C)} {lacked : Bool} {f : IoFault}
      → Last w answers id h r s run lacked f h' r' s' → f ≡ fault.OutOfMemory → lacked ≡ true
  last_starved {r = r} {r' = r'} {s = s} {s' = s'} (no_action e error by is run_is lacked_is f_is same) lacks = lacked_is
      ∙ at error is (sym f_is ∙ lacks)
    where
      at : (error : ActionError) → e.call ≡ Asked (step.NextActionWithin id r) (reply.NextActionWithin (Err error) r')
          → fault_of_reading error ≡ fault.OutOfMemory → e.refused ≡ true
      at ActionOpen is lacks = grind (arith)
      at (Io f) is lacks =
          (read_of w id by r r' (Err (Io fault.OutOfMemory))
          (is ∙ ap (λ (f : IoFault). Asked (step.NextActionWithin id r) (reply.NextActionWithin (Err (Io f)) r')) lacks)).memory
  last_starved {h = h} {h' = h'} {s' = s'} (not_ended why round f_is) lacks =
      round.lacked_is ∙ or_true round.read.refused round.end_lacked (at why (sym f_is ∙ lacks) round.handles)
    where
      at : (why : FinishError) → fault_of_end why ≡ fault.OutOfMemory
          → Handles w answers id h round.found round.handed round.rest round.end_lacked (Some why) h' s' → round.end_lacked ≡ true
      at finish.OutOfMemory lacks x = end_starved x
      at _ lacks x = absurd cc

  -- ---- a client

  abbrev Refused : ServerState T U G C → Option (Part T U C) → Type 0
  Refused before found = (found ≡ None) ⊎ (IsBusy found ⊎ (before.last_client < id.serial))

  -- the cleanup was made
  module _ {mid after : BackendState T U G C} {out : List (ClientParts × T)} (c : CleansTo w.sends mid out after) where
    shut_then : Shut (client_in mid id) → (client_in after id ≡ None) ⊎ IsBusy (client_in after id)
    shut_then shut =
        elim (option_cases (client_in mid id)) [
          | inl none ↦ inl (ap (λ (x : Seen T U C). x.part) (c.unknown id none).1 ∙ none)
          | inr (p, there) ↦
              elim (split p.is_killed) [
                | inl dead ↦ inl (c.killed id p there dead).4
                | inr live ↦ inr (record p { waiting = [] }, (c.live id p there live).1, live, (grind (arith, shut p there)))
              ]
        ]

    swept : (before : ServerState T U G C) (f : IoFault) (read : ℕ) → EndedBy f (client_in mid id)
        → (f ≡ fault.InvalidInput → Refused before (client_in after id))
        → LeftBy before id (client_in after id) (dispatched f read)
    swept before fault.WouldBlock read idle shut = grind (arith, still, true≢false, eq-eqb, eqb read 0)
      where
        still : IsIdle (client_in after id)
        still = (record idle.0 { waiting = [] }, (c.live id idle.0 idle.1 idle.2).1, idle.2, idle.3)
    swept before fault.InvalidInput read ended shut = shut refl
    swept before fault.OutOfMemory read ended shut = tt
    swept before f read gone shut = gone_then c id gone

  pub dispatch_leaves : (h h' : H) (before : ServerState T U G C) (result : Result ℕ IoFault) (after : BackendState T U G C)
      → DispatchesClient w answers id h before result h' after
      → DispatchOfOneLeaves answers before id result after
  dispatch_leaves h h' before result after (calls, lacked, answer, mid, rounds, ends) =
      let (r, says, left) = cleans ends.cleans ends.cleanup_is in
      let is = ends.result_is ∙ ap (λ (o : Reply T U). cleaned o answer) says ∙ ap (λ (a : Result ℕ IoFault). after_cleanup r a) rounds.answer_is in
      record {
        client = rw is (client r left);
        all = λ fine. all r left (λ lacks. fine (is ∙ lacks));
        memory = λ lacks. ends.refused ∙ memory r left (sym is ∙ lacks);
        globals = λ keeps. cleanup_keeps w answers keeps before mid after calls lacked answer result ends
            ∙ client_keeps w answers keeps id h h' before mid calls lacked answer rounds;
      }
    where
      refused : (before.last_client < id.serial) ⊎ (id.serial ≤ before.last_client)
          → (Shut (seen id mid).part → ((seen id after.server).part ≡ None) ⊎ IsBusy (seen id after.server).part)
          → rounds.fault ≡ fault.InvalidInput → Refused before (seen id after.server).part
      refused (inl unborn) then so = inr (inr unborn)
      refused (inr born) then so =
          elim (then (last_shut rounds.rounds_end.end
          (born_rounds rounds.rounds_end.rounds born) so)) [ inl none ↦ inl none | inr busy ↦ inr (inl busy) ]

      client : (r : Result (Vec (ClientParts × T) Global) OutOfMemory) → Leaves w mid ends.cleanup after.server r
          → LeftBy before id (seen id after.server).part (after_cleanup r (dispatched rounds.fault rounds.left.read))
      client (Ok out) left =
          swept left before rounds.fault rounds.left.read (last_leaves rounds.rounds_end.end)
          (refused (cases_lt before.last_client id.serial) (shut_then left))
      client (Err l) left = tt

      all : (r : Result (Vec (ClientParts × T) Global) OutOfMemory) → Leaves w mid ends.cleanup after.server r
          → ¬ (after_cleanup r (dispatched rounds.fault rounds.left.read) ≡ Err fault.OutOfMemory) → AllLive after
      all (Ok out) left fine = all_live left
      all (Err l) left fine = absurd (fine refl)

      memory : (r : Result (Vec (ClientParts × T) Global) OutOfMemory) → Leaves w mid ends.cleanup after.server r
          → after_cleanup r (dispatched rounds.fault rounds.left.read) ≡ Err fault.OutOfMemory
          → (lacked || ends.cleanup.refused) ≡ true
      memory (Ok out) left lacks = grind (arith, last_starved rounds.rounds_end.end, rounds.fault, rounds.left.read, rounds.rounds_end.lacked_is)
      memory (Err l) left lacks = or_true lacked ends.cleanup.refused left.1

-- ---- several clients

module _ {H T U G C : Type 0} (w : World T G C) (answers : Answering H T U G C) where
  pub dispatches_leave : (ids : List ClientParts) (h h' : H) (before : ServerState T U G C) (result : Result ℕ IoFault) (after : BackendState T U G C)
      → DispatchesAll w answers ids h before result h' after → DispatchOfSeveralLeaves answers before result after
  dispatches_leave ids h h' before result after (calls, lacked, total, mid, each, ends) =
      let (r, says, left) = cleans ends.cleans ends.cleanup_is in record {
        all = rw (ends.result_is ∙ ap (λ (o : Reply T U). cleaned o (Ok total)) says) (all r left);
        globals = λ keeps. cleanup_keeps w answers keeps before mid after calls lacked (Ok total) result ends
            ∙ clients_keep w answers keeps ids h h' before mid calls lacked total each;
      }
    where
      all : (r : Result (Vec (ClientParts × T) Global) OutOfMemory) → Leaves w mid ends.cleanup after.server r
          → MatchResult (after_cleanup r (Ok total)) (λ count. AllLive after) (λ f. (f ≡ fault.OutOfMemory) × (after.refused ≡ true))
      all (Ok out) left = all_live left
      all (Err l) left = (refl, ends.refused ∙ or_true lacked ends.cleanup.refused left.1)
