-- From what the calls of a dispatch say of themselves to what it does.
use Rattle.std.proofs.Common.{◌≡◌, ◌<◌, ◌≤◌, ℕ, ◌+◌, length, get_or, take, arith, List, [], ◌∷◌, ◌++◌, append_assoc, append-nil, Bool, false, Option, None, Some, is_some, Result, Ok, Err, ap, refl, sym, ◌∙◌, true≢false}
use Rattle.std.specs.Prelude.{◌||◌, MatchOption}
use Rattle.std.specs.Option.{option_map}
use Rattle.std.proofs.lemmas.List.{take_all, take_more}
use Rattle.wl_wire.specs.declared.error.IoFault.{IoFault}
use Rattle.wl_server_client.specs.declared.error.ActionError.{ActionError}
use Rattle.wl_server_client.specs.declared.error.FinishError.{FinishError}
use Rattle.wl_server_client.specs.declared.reading.action.Action.{Action}
use Rattle.wl_server_client.specs.declared.reading.action.Reading.{Reading}
use Rattle.wl_server_model.specs.declared.step.Reply.{Reply}
use Rattle.wl_server_model.specs.declared.step.Reply.TheVariants as reply
use Rattle.wl_server_model.specs.declared.step.Step.{Step}
use Rattle.wl_server_model.specs.declared.step.Step.TheVariants as step
use Rattle.wl_server_model.specs.Backend.{BackendState, Calls}
use Rattle.wl_server_model.specs.Dispatch.{Answering, Answers, DispatchesAll, DispatchesClient, EndsDispatch, Handles, Last, IsDispatched, EachIsDispatched, Round, Rounds, RoundsEnd, dispatched, fault_of_end, fault_of_reading, more, no_action, none, not_ended, refusal_in, total_with}
use Rattle.wl_server_client.specs.Ids.{ClientParts}
use Rattle.wl_server_model.specs.Inside.Dispatching.{CleansUp, RoundsSoFar, ClientsSoFar, MakesAllRounds, MakesRound, MakesRounds}
use Rattle.wl_server_model.specs.PartStep.{World}
use Rattle.wl_server_model.specs.Reached.{Reached}
use Rattle.wl_server_client.specs.Reading.{new_reading}
use Rattle.wl_server_model.specs.Runs.{Leads}
use Rattle.wl_server_model.specs.Server.{ServerState, new_server}
use Rattle.wl_server_model.specs.Steps.{Entry}
use Rattle.wl_server_model.proofs.Dispatches.Waiting.{round_fewer}
use Rattle.wl_server_model.proofs.OverRuns.Alone.AccountLaws.{is_accounted_for}
use Rattle.wl_server_model.proofs.OverRuns.Alone.IsolationLaw.{join_runs}
use Rattle.wl_server_model.proofs.OverRuns.Cut.CuttingLaws.{histories_cut}
use Rattle.std.proofs.Math.Bool.{or-false, or_assoc}

pub handles_by : {H T U G C : Type 0} (w : World T G C) (answers : Answering H T U G C) (id : ClientParts) (h h' : H)
    (before left after : BackendState T U G C)
    (a : Action) (end : Step T U G C) (answer : Reply T U) → Answers w answers id h before a end h' left → Reached w id before.server left.server
    → Calls w left end answer after → (run : List (Entry T U G C))
    × Handles w answers id h before a run after.refused (refusal_in answer) h' after.server
handles_by w answers id h h' before left after a end answer so reached calls =
    let (e, is, refused, one) = calls.step in (
      reached.run ++ (e ∷ []),
      record {
        left = left;
        end = end;
        answer = answer;
        calls = reached.run;
        ended = e;
        answers_so = so;
        leads = reached.leads;
        spared = reached.spared;
        ends = one;
        ended_is = is;
        why_is = refl;
        run_is = refl;
        lacked_is = sym refused;
      },
    )

module _ {H T U G C : Type 0} (w : World T G C) (answers : Answering H T U G C) (id : ClientParts) where
  -- a reading that hands out an action, and what the handler made of that
  round_by : (h h' : H) (r r' : Reading) (before found : BackendState T U G C) (after : ServerState T U G C) (a : Action) (lacked : Bool)
      (why : Option FinishError)
      → Calls w before (step.NextActionWithin id r) (reply.NextActionWithin (Ok a) r') found
      → (run : List (Entry T U G C)) × Handles w answers id h found a run lacked why h' after
      → (run : List (Entry T U G C)) × Round w answers id h r before.server run (found.refused || lacked) why h' r' after
  round_by h h' r r' before found after a lacked why calls (rest, handles) =
      let (e, is, refused, one) = calls.step in (
        e ∷ rest,
        record {
          handed = a;
          read = e;
          found = found;
          rest = rest;
          end_lacked = lacked;
          reads = one;
          read_is = is;
          found_is = sym refused;
          handles = handles;
          run_is = refl;
          lacked_is = ap (λ (b : Bool). b || lacked) (sym refused);
        },
      )

  -- ---- one action

  -- what is kept behind calls with which memory was refused or not
  abbrev keeping : Bool → BackendState T U G C → BackendState T U G C
  keeping before left = record left { refused = before || left.refused }

  pub serves_last : (h : H) (r r' : Reading) (before left : BackendState T U G C) (error : ActionError) (f : IoFault) (after : BackendState T U G C)
      (was : Bool)
      → was ≡ before.refused → Calls w before (step.NextActionWithin id r) (reply.NextActionWithin (Err error) r') left → f ≡ fault_of_reading error
      → after ≡ keeping was left
      → MakesRound w answers id h r before (Some f) h r' after
  serves_last h r r' before left error f after was was_is calls is kept =
      let (e, call, refused, one) = calls.step in rw (kept, is) (record {
        run = e ∷ [];
        lacked = left.refused;
        round = no_action e error one call refl (sym refused) refl refl;
        refused = ap (λ (b : Bool). b || left.refused) was_is;
        fewer = λ none. absurd (true≢false (ap is_some none));
      })

  pub serves_handled : (h h' : H) (r r' : Reading) (before found left : BackendState T U G C) (a : Action) (why : Option FinishError)
      (end : Option IoFault) (after : BackendState T U G C)
      (was read : Bool) → was ≡ before.refused → read ≡ found.refused → Calls w before (step.NextActionWithin id r)
      (reply.NextActionWithin (Ok a) r') found
      → (run : List (Entry T U G C)) × Handles w answers id h found a run left.refused why h' left.server → end ≡ option_map fault_of_end why
      → after ≡ keeping (was || read) left
      → MakesRound w answers id h r before end h' r' after
  serves_handled h h' r r' before found left a why end after was read was_is read_is calls handles is kept =
      let (run, round) = round_by h h' r r' before found left.server a left.refused why calls handles in rw (kept, is) (record {
        run = run;
        lacked = found.refused || left.refused;
        round = at why run round;
        refused = grind (arith, or_assoc, was_is, read_is);
        fewer = λ none. round_fewer w id answers h h' r r' before found left.server a handles.0 left.refused why calls handles.1;
      })
    where
      at : (why : Option FinishError) (run : List (Entry T U G C)) → Round w answers id h r before.server run
          (found.refused || left.refused) why h' r' left.server
          → MatchOption (option_map fault_of_end why) (Round w answers id h r before.server run
          (found.refused || left.refused) None h' r' left.server)
          (λ f. Last w answers id h r before.server run (found.refused || left.refused) f h' r' left.server)
      at None run round = round
      at (Some error) run round = not_ended error round refl

  -- ---- actions one after another

  rounds_join : (h h1 h' : H) (r r1 r' : Reading) (s s1 s' : ServerState T U G C) (first next : List (Entry T U G C)) (before now : Bool)
      → Rounds w answers id h r s first before h1 r1 s1 → Rounds w answers id h1 r1 s1 next now h' r' s'
      → Rounds w answers id h r s (first ++ next) (before || now) h' r' s'
  rounds_join h h1 h' r r1 r' s s1 s' first next before now one (none no_run unlacked) = grind (arith, append-nil, or-false)
  rounds_join h h1 h' r r1 r' s s1 s' first next before now one
      (more {first = earlier} {next = last} {before = b} {now = c} others round run_is lacked_is) =
      more (rounds_join h h1 _ r r1 _ s s1 _ first earlier before b one others) round
      (ap (λ (x : List (Entry T U G C)). first ++ x) run_is ∙ sym (append_assoc first earlier last))
      (ap (λ (x : Bool). before || x) lacked_is ∙ sym (or_assoc before b c))

  -- nothing yet
  pub so_far_none : (h : H) (r : Reading) (before : BackendState T U G C) → RoundsSoFar w answers id h r before h r before
  so_far_none h r before = record { run = []; lacked = false; rounds = none refl refl; refused = sym (or-false before.refused) }

  pub so_far_more : {h h1 h' : H} {r r1 r' : Reading} {before mid after : BackendState T U G C} {end : Option IoFault}
      → RoundsSoFar w answers id h r before h1 r1 mid
      → MakesRound w answers id h1 r1 mid end h' r' after → end ≡ None → RoundsSoFar w answers id h r before h' r' after
  so_far_more {h} {h1} {h'} {r} {r1} {r'} {before} {mid} {after} {end} so_far one is = record {
    run = so_far.run ++ one.run;
    lacked = so_far.lacked || one.lacked;
    rounds = more so_far.rounds (rw is at one.round) refl refl;
    refused = one.refused ∙ ap (λ (x : Bool). x || one.lacked) so_far.refused ∙ or_assoc before.refused so_far.lacked one.lacked;
  }

  pub so_far_joins : {h h1 h' : H} {r r1 r' : Reading} {before mid after : BackendState T U G C} {end : Option IoFault}
      → RoundsSoFar w answers id h r before h1 r1 mid
      → MakesRounds w answers id h1 r1 mid end h' r' after → end ≡ None → RoundsSoFar w answers id h r before h' r' after
  so_far_joins {h} {h1} {h'} {r} {r1} {r'} {before} {mid} {after} {end} so_far some is = record {
    run = so_far.run ++ some.run;
    lacked = so_far.lacked || some.lacked;
    rounds = rounds_join h h1 h' r r1 r' before.server mid.server after.server so_far.run some.run so_far.lacked some.lacked so_far.rounds
        (rw is at some.rounds);
    refused = some.refused ∙ ap (λ (x : Bool). x || some.lacked) so_far.refused ∙ or_assoc before.refused so_far.lacked some.lacked;
  }

  -- a receive was used up
  pub some_rounds : {h h' : H} {r r' : Reading} {before after : BackendState T U G C} → RoundsSoFar w answers id h r before h' r' after
      → r'.turns_left < r.turns_left
      → MakesRounds w answers id h r before None h' r' after
  some_rounds so_far fewer =
      record { run = so_far.run; lacked = so_far.lacked; rounds = so_far.rounds; refused = so_far.refused; fewer = λ is. fewer }

  -- a fault ended them
  pub some_end : {h h1 h' : H} {r r1 r' : Reading} {before mid after : BackendState T U G C} {end : Option IoFault} (f : IoFault)
      → RoundsSoFar w answers id h r before h1 r1 mid
      → MakesRound w answers id h1 r1 mid end h' r' after → end ≡ Some f → MakesRounds w answers id h r before (Some f) h' r' after
  some_end {h} {h1} {h'} {r} {r1} {r'} {before} {mid} {after} {end} f so_far one is = record {
    run = so_far.run ++ one.run;
    lacked = so_far.lacked || one.lacked;
    rounds = record {
      handler = h1;
      reading = r1;
      mid = mid.server;
      first = so_far.run;
      last = one.run;
      first_lacked = so_far.lacked;
      last_lacked = one.lacked;
      rounds = so_far.rounds;
      end = rw is at one.round;
      run_is = refl;
      lacked_is = refl;
    };
    refused = one.refused ∙ ap (λ (x : Bool). x || one.lacked) so_far.refused ∙ or_assoc before.refused so_far.lacked one.lacked;
    fewer = λ none. absurd (true≢false (ap is_some none));
  }

  pub all_end : {h h1 h' : H} {r1 r' : Reading} {before mid after : BackendState T U G C} {end : Option IoFault} {answer : Result ℕ IoFault}
      (f : IoFault)
      → RoundsSoFar w answers id h new_reading before h1 r1 mid → MakesRounds w answers id h1 r1 mid end h' r' after → end ≡ Some f
      → answer ≡ dispatched f r'.read
      → MakesAllRounds w answers id h before answer h' after
  all_end {h} {h1} {h'} {r1} {r'} {before} {mid} {after} {end} {answer} f so_far some is answered =
      let last : RoundsEnd w answers id h1 r1 mid.server some.run some.lacked f h' r' after.server = rw is at some.rounds in record {
        run = so_far.run ++ some.run;
        lacked = so_far.lacked || some.lacked;
        dispatched = record {
          left = r';
          fault = f;
          rounds_end = record {
            handler = last.handler;
            reading = last.reading;
            mid = last.mid;
            first = so_far.run ++ last.first;
            last = last.last;
            first_lacked = so_far.lacked || last.first_lacked;
            last_lacked = last.last_lacked;
            rounds = rounds_join h h1 last.handler new_reading r1 last.reading before.server mid.server last.mid so_far.run last.first so_far.lacked last.first_lacked so_far.rounds last.rounds;
            end = last.end;
            run_is = ap (λ (x : List (Entry T U G C)). so_far.run ++ x) last.run_is ∙ sym (append_assoc so_far.run last.first last.last);
            lacked_is = ap (λ (x : Bool). so_far.lacked || x) last.lacked_is ∙ sym (or_assoc so_far.lacked last.first_lacked last.last_lacked);
          };
          answer_is = answered;
        };
        refused = some.refused ∙ ap (λ (x : Bool). x || some.lacked) so_far.refused ∙ or_assoc before.refused so_far.lacked some.lacked;
      }

-- ---- that it is a run

module _ {H T U G C : Type 0} (w : World T G C) (answers : Answering H T U G C) (id : ClientParts) where
  handles_lead : {h h' : H} {before : BackendState T U G C} {a : Action} {run : List (Entry T U G C)} {lacked : Bool} {why : Option FinishError}
      {after : ServerState T U G C}
      → Handles w answers id h before a run lacked why h' after → Leads w before.server run after
  handles_lead x = rw x.run_is (join_runs w _ x.left.server _ x.calls (x.ended ∷ []) x.leads (_, x.ends, refl))

  round_leads : {h h' : H} {r r' : Reading} {before : ServerState T U G C} {run : List (Entry T U G C)} {lacked : Bool} {why : Option FinishError}
      {after : ServerState T U G C}
      → Round w answers id h r before run lacked why h' r' after → Leads w before run after
  round_leads x = rw x.run_is (x.found.server, x.reads, handles_lead x.handles)

  rounds_lead : {h h' : H} {r r' : Reading} {before : ServerState T U G C} {run : List (Entry T U G C)} {lacked : Bool} {after : ServerState T U G C}
      → Rounds w answers id h r before run lacked h' r' after → Leads w before run after
  rounds_lead (none no_run unlacked) = rw no_run refl
  rounds_lead (more {s1 = mid} {first = first} {next = next} rounds round run_is lacked_is) = rw run_is
      (join_runs w _ mid _ first next (rounds_lead rounds) (round_leads round))

  last_leads : {h h' : H} {r r' : Reading} {before : ServerState T U G C} {run : List (Entry T U G C)} {lacked : Bool} {f : IoFault}
      {after : ServerState T U G C}
      → Last w answers id h r before run lacked f h' r' after → Leads w before run after
  last_leads (no_action e error one is run_is lacked_is fault_is same) = rw run_is (_, one, refl)
  last_leads (not_ended why round is) = round_leads round

  serves_lead : {h h' : H} {before : ServerState T U G C} {run : List (Entry T U G C)} {lacked : Bool} {answer : Result ℕ IoFault}
      {after : ServerState T U G C}
      → IsDispatched w answers id h before run lacked answer h' after → Leads w before run after
  serves_lead x =
      let s = x.rounds_end in rw s.run_is (join_runs w _ s.mid _ s.first s.last (rounds_lead s.rounds) (last_leads s.end))

module _ {H T U G C : Type 0} (w : World T G C) (answers : Answering H T U G C) where
  each_lead : {ids : List ClientParts} {h h' : H} {before : ServerState T U G C} {run : List (Entry T U G C)} {lacked : Bool} {total : ℕ}
      {after : ServerState T U G C}
      → EachIsDispatched w answers ids h before run lacked total h' after → Leads w before run after
  each_lead (none no_ids no_run unlacked no_total) = grind (arith)
  each_lead (more {s1 = mid} {first = first} {next = next} id answer each serves ids_are run_is lacked_is total_is) =
      rw run_is (join_runs w _ mid _ first next (each_lead each) (serves_lead w answers id serves))

-- ---- its end

module _ {T U G C : Type 0} (w : World T G C) where
  ends_dispatch : {mid after : BackendState T U G C} {answer result : Result ℕ IoFault} (before : ServerState T U G C) (calls : List (Entry T U G C))
      (lacked : Bool)
      → Leads w before calls mid.server → mid.refused ≡ lacked → CleansUp w mid answer result after
      → EndsDispatch w before calls lacked mid.server answer result after
  ends_dispatch {mid} {after} {answer} {result} before calls lacked leads refused ends =
      let whole = join_runs w before mid.server after.server calls (ends.cleanup ∷ []) leads (after.server, ends.cleans, refl) in record {
        cleanup = ends.cleanup;
        out = ends.out;
        cleans = ends.cleans;
        cleanup_is = ends.cleanup_is;
        result_is = ends.result_is;
        refused = ends.refused ∙ ap (λ (b : Bool). b || ends.cleanup.refused) refused;
        leads = whole;
        accounted = λ within. (λ table earlier led. let longer = join_runs w (new_server table) before after.server earlier (calls ++
            (ends.cleanup ∷ [])) led whole in (longer, is_accounted_for w within table (earlier ++ (calls ++ (ends.cleanup ∷ []))) after.server longer));
        cut = λ earlier later e found left is led one leads. histories_cut w found left e.call e refl one;
      }

module _ {H T U G C : Type 0} (w : World T G C) (answers : Answering H T U G C) where
  -- of one client
  pub dispatches_client : {h h' : H} {begun mid after : BackendState T U G C} {answer result : Result ℕ IoFault} (id : ClientParts)
      (before : BackendState T U G C)
      → begun ≡ record before { refused = false } → MakesAllRounds w answers id h begun answer h' mid → CleansUp w mid answer result after
      → DispatchesClient w answers id h before.server result h' after
  dispatches_client {h} {h'} {begun} {mid} {after} {answer} {result} id before calm all ends =
      let done : MakesAllRounds w answers id h (record before { refused = false }) answer h' mid = rw calm at all in
      (done.run, done.lacked, answer, mid.server, done.dispatched, ends_dispatch w before.server done.run done.lacked (serves_lead w answers id done.dispatched) done.refused ends)

  -- of several
  pub each_none : (ids : List ClientParts) (h : H) (before : BackendState T U G C) → ids ≡ [] → ClientsSoFar w answers ids h before 0 h before
  each_none ids h before is = record { run = []; lacked = false; each = none is refl refl refl; refused = sym (or-false before.refused) }

  pub each_more : {earlier ids : List ClientParts} {h h1 h' : H} {before mid after : BackendState T U G C} {count total : ℕ}
      {answer : Result ℕ IoFault} (id : ClientParts)
      → ClientsSoFar w answers earlier h before count h1 mid → MakesAllRounds w answers id h1 mid answer h' after → ids ≡ earlier ++ (id ∷ [])
      → total ≡ total_with count answer
      → ClientsSoFar w answers ids h before total h' after
  each_more {earlier} {ids} {h} {h1} {h'} {before} {mid} {after} {count} {total} {answer} id so_far all ids_are total_is = record {
    run = so_far.run ++ all.run;
    lacked = so_far.lacked || all.lacked;
    each = more id answer so_far.each all.dispatched ids_are refl refl total_is;
    refused = all.refused ∙ ap (λ (x : Bool). x || all.lacked) so_far.refused ∙ or_assoc before.refused so_far.lacked all.lacked;
  }

  pub dispatches_all : {ids : List ClientParts} {h h' : H} {mid after : BackendState T U G C} {total : ℕ} {result : Result ℕ IoFault}
      (before : BackendState T U G C)
      → ClientsSoFar w answers ids h (record before { refused = false }) total h' mid → CleansUp w mid (Ok total) result after
      → DispatchesAll w answers ids h before.server result h' after
  dispatches_all {ids} {h} {h'} {mid} {after} {total} {result} before each ends = (
    each.run,
    each.lacked,
    total,
    mid.server,
    each.each,
    ends_dispatch w before.server each.run each.lacked (each_lead w answers each.each) each.refused ends,
  )

  -- the next of the clients
  pub one_more : {h h1 h' : H} {before mid after : BackendState T U G C} {count total : ℕ} {answer : Result ℕ IoFault} (ids : List ClientParts)
      (n : ℕ) (id : ClientParts)
      → n < length ids → id ≡ get_or ids n id → ClientsSoFar w answers (take n ids) h before count h1 mid
      → MakesAllRounds w answers id h1 mid answer h' after
      → total ≡ total_with count answer → ClientsSoFar w answers (take (n + 1) ids) h before total h' after
  one_more ids n id below here so_far all total_is =
      each_more id so_far all (take_more ids n id below ∙ ap (λ (y : ClientParts). take n ids ++ y ∷ []) (sym here)) total_is

  pub all_served : {h h' : H} {before after : BackendState T U G C} {total : ℕ} (ids : List ClientParts) (n : ℕ) → length ids ≤ n
      → ClientsSoFar w answers (take n ids) h before total h' after → ClientsSoFar w answers ids h before total h' after
  all_served ids n all each = grind (arith, take_all)
