-- That a killed client stays killed until a cleanup takes it out, over each run of a new server.
use Rattle.std.proofs.Common.{◌≡◌, ◌≤◌, true, List, [], ◌∷◌, ◌++◌, length, Option, None, Some, refl, sym, ap, subst, ◌∙◌, arith, ◌⊎◌, Bool, false, Result, Ok, Err, true≢false, ℕ, MatchBool, MatchOption}
use Rattle.std.proofs.lemmas.Option.{none-some, same_Some}
use mathlib.Core.Logic.{inl, inr}
use Rattle.wl_wire.specs.declared.error.IoFault.TheVariants as fault
use Rattle.wl_wire.specs.Table.{InterfaceRow}
use Rattle.wl_link.proofs.Calls.Branches.{either_option, either_bool}
use Rattle.wl_server_client.specs.declared.error.ActionError.TheVariants.{ActionOpen, Io}
use Rattle.wl_server_client.specs.declared.reading.action.OpenAction.{OpenAction}
use Rattle.wl_server_model.specs.Bounded.{receives_in, receives_over}
use Rattle.wl_server_model.specs.Broken.{SameViolation}
use Rattle.wl_server_client.specs.Ids.{ClientParts, same_client}
use Rattle.wl_server_model.specs.Killed.{AllAnswer, EachStaysKilled, HasNoAction, ReadingAnswers, StaysOrIsTakenOut, TakesOut, StaysKilled}
use Rattle.wl_server_client.specs.Part.{Part}
use Rattle.wl_server_model.specs.PartStep.{World, Asked, Call, CleanedAs, PartCall, ReadsFor, around}
use Rattle.wl_server_model.specs.Runs.{IsNotInserted, Leads, concerns}
use Rattle.wl_server_model.specs.Server.{Seen, ServerState, new_server, seen}
use Rattle.wl_server_model.specs.Steps.{Entry, OneStep}
use Rattle.wl_server_model.proofs.OverRuns.Alone.IsolationLaw.{known_before, other_call, later_differs, numbered}
use Rattle.std.specs.Prelude.{Vec}
use Rattle.std.specs.Global.{Global}
use Rattle.std.proofs.lemmas.Bool.{false≢true}
use Rattle.wl_wire.specs.declared.error.OutOfMemory.{OutOfMemory}
use Rattle.wl_server_client.specs.declared.error.ActionError.{ActionError}
use Rattle.wl_server_client.specs.declared.reading.action.Reading.{Reading}
use Rattle.wl_server_model.specs.declared.step.Reply.{Reply}
use Rattle.wl_server_model.specs.declared.step.Reply.TheVariants as reply
use Rattle.wl_server_model.specs.declared.step.Step.TheVariants as step
use Rattle.wl_server_client.specs.Deeds.{Deed, Handed, came_in}
use Rattle.wl_server_client.specs.Globals.{Offer}
use Rattle.wl_server_client.specs.Reading.{NextAction, action_content, new_reading}
use Rattle.wl_server_model.proofs.Dispatches.Receiving.{call_quiet}
use Rattle.wl_server_model.proofs.OverRuns.Moves.BaseMoves.{Doings, Goes, notes_taken, taken_out, unfelt, within, Kind, Moves, followed, handed_out, moved, stayed}
use Rattle.wl_server_model.proofs.OverRuns.Moves.BaseMovesLaw.{call_goes, call_moves}
use Rattle.wl_wire.specs.declared.error.IoFault.{IoFault}
use Rattle.wl_link.specs.Exchange.{Queue}

-- ---- that a killed client stays killed, opens no action and broke the protocol as before, over the base moves of whatever is done with its part

pub when_killed : {P : Type 0} (Q : Type 0) (b : Bool) → b ≡ true → MatchBool b P Q → P
when_killed h1 h2 is h = grind (arith, true≢false)

-- a killed client after what was done with it
pub record Remains {T U C : Type 0} (p q : Part T U C) : Type 0 where
  pub killed : q.is_killed ≡ true
  pub closed : p.action ≡ None → q.action ≡ None
  pub violation : q.violation ≡ p.violation

module _ {T U C : Type 0} (p : Part T U C) (killed : p.is_killed ≡ true) where
  pub remains : (q : Part T U C) → q ≡ p → Remains p q
  remains q same = grind (arith)

-- no action is opened, and no client is taken out
abbrev pub fading : Kind
fading = record { gathers = false; hands = true; reads = false; finishes = true; kills = λ reason. Unit {0}; closes = tt }

module _ {T U C : Type 0} (sends : T → Queue → Result ℕ IoFault → T → Type 0) (receives : T → ℕ → Result Queue IoFault → T → Type 0)
    (client : ClientParts) where
  pub moves_remain : (p q : Part T U C) (d : Doings U) → Moves fading sends receives client p d q → p.is_killed ≡ true → Remains p q
  moves_remain p q d (stayed is same) killed = remains p killed q same
  moves_remain p q d (followed {m = m} {a = a} {b = b} first second is) killed = grind (arith, moves_remain p m a first killed, moves_remain m q b second)
  moves_remain p q d (handed_out {a = a} ids moves among is) killed = moves_remain p q a moves killed
  moves_remain p q d (moved move) killed = grind (arith, false≢true)

-- ---- the answer of a reading

-- why nothing is read of a killed client
abbrev pub refusal_with : Option OpenAction → ActionError
refusal_with None = Io fault.Pipe
refusal_with (Some a) = ActionOpen

-- ---- a killed client

module _ {T U G C : Type 0} (w : World T G C) (id : ClientParts) (offer : Offer G) (before : Seen T U C) (p : Part T U C)
    (there : before.part ≡ Some p) (killed : p.is_killed ≡ true)
    (lacked : Bool) (did : List (Deed U)) (after : Seen T U C) where
  -- the part that a call finds
  found_part : (p' : Part T U C) → before.part ≡ Some p' → p' ≡ p
  found_part p' there' = same_Some p' p (sym there' ∙ there)

  found : (A : Type 0) (B : Part T U C → Type 0) → MatchOption before.part A B → B p
  found A B h = subst (λ (o : Option (Part T U C)). MatchOption o A B) there h

  -- what a reading of it answers
  pub dead_says : (call : Call T U G C) → PartCall w id offer call before lacked did after → ReadingAnswers id (refusal_with p.action) call
  dead_says call h1 = grind (arith, true≢false, around, either_option, when_killed, found_part)

  -- nothing is received from it
  pub dead_silent : (call : Call T U G C) → PartCall w id offer call before lacked did after → came_in did ≡ []
  dead_silent h1 h = grind (arith, came_in, around, either_option, when_killed, found_part, true≢false, new_reading, action_content, call_quiet)

  -- ---- what becomes of it

  -- it is still stored, and killed
  abbrev pub StillDead : Type 0
  StillDead = (q : Part T U C) × (after.part ≡ Some q) × Remains p q

  abbrev pub DeadOrOut : Call T U G C → Type 0
  DeadOrOut call = StillDead ⊎ (TakesOut id call × (after.part ≡ None))

  goes_dead : (d : Doings U) → Goes fading w.sends w.receives id before d after → StillDead
  goes_dead d (unfelt is same) = (p, ap (λ (s : Seen T U C). s.part) same ∙ there, remains p killed p refl)
  goes_dead d (within p' q there' moves same) =
      let found = found_part p' there' in (
        q,
        ap (λ (s : Seen T U C). s.part) same,
        subst (λ (x : Part T U C). Remains x q) found
            (moves_remain w.sends w.receives id p' q d moves (ap (λ (x : Part T U C). x.is_killed) found ∙ killed)),
      )
  goes_dead d (taken_out p' q on there' killed' moves empty no_notes same) = absurd (false≢true on)
  goes_dead d (notes_taken on is same) = (p, ap (λ (s : Seen T U C). s.part) same ∙ there, remains p killed p refl)

  cleanup_dead : (answer : Reply T U) (r : Result (Vec (ClientParts × T) Global) OutOfMemory) → answer ≡ reply.Cleanup r
      → CleanedAs w id offer r before lacked did after
      → DeadOrOut (Asked step.Cleanup answer)
  cleanup_dead answer (Err e) is h = inl ((p, ap (λ (s : Seen T U C). s.part) h.2 ∙ there, remains p killed p refl))
  cleanup_dead answer (Ok out) is h =
      let (q, cleans, same) = found _ _ h in
      let (sent, flushed, end, flushes, did_so, handed, gone) = when_killed _ p.is_killed killed cleans in
      inr ((out, end.link.transport, ap (λ (a : Reply T U). Asked step.Cleanup a) is, handed), ap (λ (s : Seen T U C). s.part) same ∙ gone)

  reads_dead : (target : ClientParts) (r r' : Reading) (answer : Result Handed ActionError)
      → ReadsFor w id offer target r answer r' before lacked did after → StillDead
  reads_dead target r r' answer h =
      elim (either_bool (same_client target id) h) [
        | inl on ↦ let (q, next, same) = found _ _ on in (q, ap (λ (s : Seen T U C). s.part) same, stays q next)
        | inr unfelt' ↦ (p, ap (λ (s : Seen T U C). s.part) unfelt'.2 ∙ there, remains p killed p refl)
      ]
    where
      stays : (q : Part T U C) → NextAction w.sends w.receives (around w id offer) r p answer r' lacked did q → Remains p q
      stays q next = grind (arith, either_option, when_killed, remains)

  -- a killed client stays killed, or the call is the cleanup that takes it out
  pub dead_or_out : (call : Call T U G C) → IsNotInserted id call → PartCall w id offer call before lacked did after → DeadOrOut call
  dead_or_out (Asked (step.NextAction target) answer) other (r, left, is, h) = inl (reads_dead target new_reading left (action_content r) h)
  dead_or_out (Asked (step.NextActionWithin target reading) answer) other (r, left, is, h) = inl (reads_dead target reading left (action_content r) h)
  dead_or_out (Asked step.Cleanup answer) other (r, is, h) = cleanup_dead answer r is h
  dead_or_out call other h = inl (go (concerns id call) refl)
    where
      go : (b : Bool) → concerns id call ≡ b → StillDead
      go true about =
          goes_dead _ (call_moves fading w id offer call before lacked did after about
          (record { kills = λ e may. tt; gathers = λ is. is; hands = λ is. refl; reads = λ is. is; finishes = λ is. refl }) h)
      go false far =
          (p, ap (λ (s : Seen T U C). s.part) (other_call w id offer call before lacked did after other far h).2 ∙ there, remains p killed p refl)

-- ---- a client that is not stored

module _ {T U G C : Type 0} (w : World T G C) (id : ClientParts) (offer : Offer G) (before : Seen T U C) (gone : before.part ≡ None) (lacked : Bool)
    (did : List (Deed U))
    (after : Seen T U C) where
  -- nothing is received from it
  pub out_silent : (call : Call T U G C) → PartCall w id offer call before lacked did after → came_in did ≡ []
  out_silent h1 h = grind (arith, came_in, around, either_option, true≢false, new_reading, action_content, call_quiet)

module _ {T U G C : Type 0} (w : World T G C) (id : ClientParts) where
  -- ---- a client that was taken out

  pub record OutOver (run : List (Entry T U G C)) (after : Seen T U C) : Type 0 where
    pub says : AllAnswer id (Io fault.InvalidInput) run
    pub none : after.part ≡ None
    pub receives : receives_over id run ≡ 0

  -- it is not stored again, if the call does not insert it
  pub out_next : (before mid : ServerState T U G C) (e : Entry T U G C) → (seen id before).part ≡ None → IsNotInserted id e.call
      → OneStep w before e mid
      → (seen id mid).part ≡ None
  out_next before mid e none other by = grind (arith, concerns, unfelt, within, taken_out, notes_taken, call_goes, other_call, seen)

  pub out_run : (before after : ServerState T U G C) (run : List (Entry T U G C)) → id.serial ≤ before.last_client → (seen id before).part ≡ None
      → Leads w before run after
      → OutOver run (seen id after)
  out_run before after [] born none same =
      record { says = tt; none = ap (λ (s : ServerState T U G C). (seen id s).part) same ∙ none; receives = refl }
  out_run before after (e ∷ run) born none (mid, by, leads) =
      let rest = out_run mid after run (omega (arith, born, by.last))
      (out_next before mid e none (λ new inserts. later_differs new id
      (let next = (numbered before e.call new by.client inserts).2 in omega (arith, born, next))) by) leads in
      let silent : receives_in (e.did id) ≡ 0 = ap length
      (out_silent w id before.offer (seen id before) none (e.lacks id) (e.did id) (seen id mid) e.call (by.each id)) in
      grind (arith, true≢false, around, either_option, seen)

  -- ---- a killed client

  -- a client whose action stands so was killed
  abbrev Point : Part T U C → Option OpenAction → Seen T U C
  Point p action = record { part = Some (record p { action = action }); made = [] }

  abbrev DeadOver : Part T U C → Option OpenAction → List (Entry T U G C) → Seen T U C → Type 0
  DeadOver p action run after = StaysKilled id (Point p action) run after

  -- what is kept of a client that stayed so, and of one that is out
  kept_there : (p q : Part T U C) (action : Option OpenAction) (after : Seen T U C) → after.part ≡ Some q → q.violation ≡ p.violation
      → SameViolation (Point p action) after
  kept_there p q action after there same p' q' is is' =
      ap (λ (x : Part T U C). x.violation) (same_Some q' q (sym is' ∙ there))
      ∙ (same ∙ ap (λ (x : Part T U C). x.violation) (same_Some (record p { action = action }) p' is))

  kept_later : (p q : Part T U C) (action : Option OpenAction) (after : Seen T U C) → q.violation ≡ p.violation
      → SameViolation (Point q q.action) after → SameViolation (Point p action) after
  kept_later p q action after same kept p' q' is is' =
      kept (record q { action = q.action }) q' refl is' ∙ (same ∙ ap (λ (x : Part T U C). x.violation) (same_Some (record p { action = action }) p' is))

  kept_out : (p : Part T U C) (action : Option OpenAction) (after : Seen T U C) → after.part ≡ None → SameViolation (Point p action) after
  kept_out p action after none p' q' is is' = absurd (none-some q' (sym none ∙ is'))

  -- it is killed to the end, or the next call is the cleanup that takes it out
  ends_here : (p : Part T U C) (action : Option OpenAction) (run : List (Entry T U G C)) (after : Seen T U C) → StaysOrIsTakenOut id run after
      → receives_over id run ≡ 0 → SameViolation (Point p action) after
      → DeadOver p action run after
  ends_here p action run after ends silent same = record {
    with_action = [];
    without_action = [];
    from_cleanup = run;
    split = refl;
    opened = λ none. refl;
    says_open = tt;
    says_killed = tt;
    ends = ends;
    receives = silent;
    violation = same;
  }

  -- one more call: the action is open, or none is and none was opened by the call
  one_more : (p q : Part T U C) (action : Option OpenAction) (e : Entry T U G C) (run : List (Entry T U G C)) (after : Seen T U C)
      → ReadingAnswers id (refusal_with action) e.call
      → receives_in (e.did id) ≡ 0 → (action ≡ None → q.action ≡ None) → q.violation ≡ p.violation → DeadOver q q.action run after
      → DeadOver p action (e ∷ run) after
  one_more p q (Some a) e run after says silent closed same rest = record {
    with_action = e ∷ rest.with_action;
    without_action = rest.without_action;
    from_cleanup = rest.from_cleanup;
    split = ap (λ (l : List (Entry T U G C)). e ∷ l) rest.split;
    opened = λ none. absurd (none-some _ (sym none));
    says_open = (says, rest.says_open);
    says_killed = rest.says_killed;
    ends = rest.ends;
    receives = (let more = rest.receives in omega (arith, silent, more));
    violation = kept_later p q (Some a) after same rest.violation;
  }
  one_more p q None e run after says silent closed same rest = record {
    with_action = [];
    without_action = e ∷ rest.without_action;
    from_cleanup = rest.from_cleanup;
    split = ap (λ (l : List (Entry T U G C)). e ∷ l)
        (rest.split ∙ ap (λ (l : List (Entry T U G C)). l ++ (rest.without_action ++ rest.from_cleanup)) (rest.opened (closed refl)));
    opened = λ none. refl;
    says_open = tt;
    says_killed = (says, rest.says_killed);
    ends = rest.ends;
    receives = (let more = rest.receives in omega (arith, silent, more));
    violation = kept_later p q None after same rest.violation;
  }

  dead_run : (before after : ServerState T U G C) (run : List (Entry T U G C)) → id.serial ≤ before.last_client → (p : Part T U C)
      → (seen id before).part ≡ Some p
      → p.is_killed ≡ true → Leads w before run after → DeadOver p p.action run (seen id after)
  dead_run before after [] born p there killed same =
      ends_here p p.action [] (seen id after) (grind (arith, seen)) refl
      (kept_there p p p.action (seen id after) (ap (λ (s : ServerState T U G C). (seen id s).part) same ∙ there) refl)
  dead_run before after (e ∷ run) born p there killed (mid, by, leads) =
      let grown = by.last in
      let silent = ap length (dead_silent w id before.offer (seen id before) p there killed (e.lacks id) (e.did id) (seen id mid) e.call
      (by.each id)) in
      elim (dead_or_out w id before.offer (seen id before) p there killed (e.lacks id) (e.did id) (seen id mid) e.call
      (λ new inserts. later_differs new id (let next = (numbered before e.call new by.client inserts).2 in omega (arith, born, next))) (by.each id)) [
        | inl (q, is, remains) ↦
            one_more p q p.action e run (seen id after)
            (dead_says w id before.offer (seen id before) p there killed (e.lacks id) (e.did id) (seen id mid) e.call (by.each id))
            silent remains.closed remains.violation (dead_run mid after run (omega (arith, born, grown)) q is remains.killed leads)
        | inr (takes, none) ↦
            let rest = out_run mid after run (omega (arith, born, grown)) none leads in
            let more = rest.receives in
            ends_here p p.action (e ∷ run) (seen id after) (takes, rest.says, rest.none) (omega (arith, silent, more))
            (kept_out p p.action (seen id after) rest.none)
      ]

  kept_from : (s : Seen T U C) (p : Part T U C) (after : Seen T U C) → s.part ≡ Some p → SameViolation (Point p p.action) after
      → SameViolation s after
  kept_from s p after there kept p' q' is is' =
      kept (record p { action = p.action }) q' refl is' ∙ ap (λ (x : Part T U C). x.violation) (same_Some p p' (sym there ∙ is))

  has_none : (s : Seen T U C) (p : Part T U C) → s.part ≡ Some p → HasNoAction s → p.action ≡ None
  has_none s p there none = subst (λ (o : Option (Part T U C)). HasNoAction (record { part = o; made = s.made })) there none

-- ---- every killed client of a server

module _ {T U G C : Type 0} where
  pub each_stays_killed : (w : World T G C) (table : List InterfaceRow) (run : List (Entry T U G C)) (after : ServerState T U G C)
      → Leads w (new_server table) run after
      → EachStaysKilled w table run after
  each_stays_killed w table run after leads id done later point split first others killed =
      elim (either_option (seen id point).part killed) [
        | inl (none, nothing) ↦ absurd nothing
        | inr (p, there, dead) ↦
            let over = dead_run w id point after later (known_before w table done point first id p there) p there dead others in
            record {
              with_action = over.with_action;
              without_action = over.without_action;
              from_cleanup = over.from_cleanup;
              split = over.split;
              opened = λ none. over.opened (has_none w id (seen id point) p there none);
              says_open = over.says_open;
              says_killed = over.says_killed;
              ends = over.ends;
              receives = over.receives;
              violation = kept_from w id (seen id point) p (seen id after) there over.violation;
            }
      ]
