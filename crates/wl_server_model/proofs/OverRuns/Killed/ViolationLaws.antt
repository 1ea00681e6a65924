-- That it is kept of killed clients alone how they broke the protocol, and that only readings change it, over each run of a new server.
use Rattle.std.proofs.Common.{◌≡◌, Bool, true, false, List, [], ◌∷◌, Option, None, Some, Result, Ok, Err, refl, sym, ap, subst, ◌∙◌, true≢false, arith, ℕ}
use Rattle.std.proofs.lemmas.Option.{none-some, same_Some}
use mathlib.Core.Logic.{inl, inr}
use Rattle.wl_wire.specs.declared.error.IoFault.{IoFault}
use Rattle.wl_wire.specs.declared.error.IoFault.TheVariants as fault
use Rattle.wl_wire.specs.Table.{InterfaceRow}
use Rattle.wl_link.proofs.Calls.Branches.{either_bool, either_option}
use Rattle.wl_link.specs.Exchange.{Queue}
use Rattle.wl_link.specs.Reader.{ReaderState, Turn}
use Rattle.wl_server_client.specs.declared.error.ActionError.{ActionError}
use Rattle.wl_server_client.specs.declared.error.ActionError.TheVariants.{ActionOpen, Io}
use Rattle.wl_server_client.specs.declared.reading.action.Reading.{Reading}
use Rattle.wl_server_client.specs.declared.reading.violation.Violation.{Violation}
use Rattle.wl_server_model.specs.declared.step.Step.TheVariants as step
use Rattle.wl_server_model.specs.Broken.{LiveKeepNone, LiveKeepsNone, ReadingsAloneBreak, SameViolation, reads_of}
use Rattle.wl_server_client.specs.Deeds.{Deed, Handed}
use Rattle.wl_server_client.specs.Globals.{Offer}
use Rattle.wl_server_client.specs.Ids.{ClientParts, same_client}
use Rattle.wl_server_client.specs.Part.{Part}
use Rattle.wl_server_model.specs.PartStep.{Asked, Call, PartCall, ReadsFor, World, around}
use Rattle.wl_server_client.specs.Reading.{Around, NextAction, action_content, new_reading}
use Rattle.wl_server_model.specs.ReadingEnds.{KeepsNone, ReadingEnds}
use Rattle.wl_server_model.specs.Runs.{IsNotInserted, Leads, concerns}
use Rattle.wl_server_model.specs.Server.{Seen, ServerState, new_server, seen}
use Rattle.wl_server_model.specs.Steps.{Entry}
use Rattle.wl_server_client.specs.Telling.{Core, reader_part}
use Rattle.wl_server_model.proofs.Dispatches.Waiting.{unread_moves}
use Rattle.wl_server_model.proofs.OverRuns.Alone.IsolationLaw.{other_call}
use Rattle.wl_server_model.proofs.OverRuns.Moves.BaseMoves.{Doings, Goes, Moves, followed, handed_out, moved, notes_taken, stayed, taken_out, unfelt, within}
use Rattle.wl_server_model.proofs.OverRuns.Moves.BaseMovesLaw.{call_moves}
use Rattle.wl_server_model.proofs.Plain.Reading.{comes_to, is_dead, is_open, is_read}

-- ---- a reading

module _ {T U G C : Type 0} (sends : T → Queue → Result ℕ IoFault → T → Type 0) (receives : T → ℕ → Result Queue IoFault → T → Type 0)
    (a : Around G C) where
  -- a reading that leaves the client live keeps nothing more
  alive_keeps : (start end : ReaderState T (Core U C)) (turns : List Turn) (answer : Result Handed ActionError) (refused : Bool) (left : ℕ)
      → ReadingEnds sends receives a start turns answer refused left end → end.core.is_killed ≡ false → KeepsNone start end
  alive_keeps start end turns (Ok h) refused left (live, fresh, none, comes) alive = none
  alive_keeps start end turns (Err ActionOpen) refused left ends alive = absurd ends
  alive_keeps start end turns (Err (Io f)) refused left (inl (last, none), leaves) alive = none
  alive_keeps start end turns (Err (Io fault.WouldBlock)) refused left (inr (few, lacks, none), leaves) alive = none
  alive_keeps start end turns (Err (Io fault.OutOfMemory)) refused left (inr (so, asks, none), leaves) alive = none
  alive_keeps start end turns (Err (Io _)) refused left (inr so, leaves) alive = absurd (true≢false (sym leaves.0 ∙ alive))

  abbrev Fine : Part T U C → Type 0
  Fine p = p.is_killed ≡ false → p.violation ≡ None

  next_action_fine : (r : Reading) (answer : Result Handed ActionError) (left : Reading) (lacked : Bool) (did : List (Deed U)) (p q : Part T U C)
      → NextAction sends receives a r p answer left lacked did q → Fine p → Fine q
  next_action_fine r answer left lacked did p q next fine =
      elim (comes_to sends receives a r answer left lacked did p q next) [
        | is_open some says l calm none stays ↦ subst Fine (sym stays) fine
        | is_dead idle dead says l calm none stays ↦ subst Fine (sym stays) fine
        | is_read idle live turns out end reads says l lacks is noted ends memory ids ↦
            λ alive. ap (λ (x : Part T U C). x.violation) is
            ∙ (alive_keeps (reader_part p) end turns answer lacked out.left ends (sym (ap (λ (x : Part T U C). x.is_killed) is) ∙ alive) ∙ fine live)
      ]

-- ---- base moves without a reading

module _ {T U C : Type 0} (sends : T → Queue → Result ℕ IoFault → T → Type 0) (receives : T → ℕ → Result Queue IoFault → T → Type 0)
    (client : ClientParts) where
  -- the same is kept, and who is killed stays so
  record Steady (p q : Part T U C) : Type 0 where
    violation : q.violation ≡ p.violation
    killed : p.is_killed ≡ true → q.is_killed ≡ true

  moves_steady : (p q : Part T U C) (d : Doings U) → Moves unread_moves sends receives client p d q → Steady p q
  moves_steady p q d (stayed is same) =
      record { violation = ap (λ (x : Part T U C). x.violation) same; killed = λ dead. ap (λ (x : Part T U C). x.is_killed) same ∙ dead }
  moves_steady p q d (followed {m = m} {a = a} {b = b} first second is) =
      let one = moves_steady p m a first in let two = moves_steady m q b second in
      record { violation = two.violation ∙ one.violation; killed = λ dead. two.killed (one.killed dead) }
  moves_steady p q d (handed_out {a = a} ids moves among is) = moves_steady p q a moves
  moves_steady p q d (moved move) = grind (arith, true≢false)

  steady_fine : (p q : Part T U C) → Steady p q → (p.is_killed ≡ false → p.violation ≡ None) → q.is_killed ≡ false → q.violation ≡ None
  steady_fine p q steady fine alive = go p.is_killed refl
    where
      go : (b : Bool) → p.is_killed ≡ b → q.violation ≡ None
      go true dead = absurd (true≢false (sym (steady.killed dead) ∙ alive))
      go false live = steady.violation ∙ fine live

-- ---- what is held of a client

module _ {T U C : Type 0} where
  -- the same is kept, and nothing of a live one, if nothing was kept of it before
  pub record Keeps (s t : Seen T U C) : Type 0 where
    pub same : SameViolation s t
    pub fine : LiveKeepsNone s → LiveKeepsNone t

  abbrev violation_in : Part T U C → Option Violation
  violation_in p = p.violation

  unchanged : (s t : Seen T U C) → t.part ≡ s.part → Keeps s t
  unchanged s t is = record {
    same = λ p q there there'. ap violation_in (same_Some q p (sym there' ∙ (is ∙ there)));
    fine = λ fine. subst (λ (o : Option (Part T U C)). LiveKeepsNone (record { part = o; made = [] })) (sym is) fine;
  }

module _ {T U C : Type 0} (sends : T → Queue → Result ℕ IoFault → T → Type 0) (receives : T → ℕ → Result Queue IoFault → T → Type 0)
    (client : ClientParts) where
  goes_keep : (s t : Seen T U C) (d : Doings U) → Goes unread_moves sends receives client s d t → Keeps s t
  goes_keep s t d (unfelt is same) = unchanged s t (ap (λ (x : Seen T U C). x.part) same)
  goes_keep s t d (notes_taken on is same) = unchanged s t (ap (λ (x : Seen T U C). x.part) same)
  goes_keep s t d (within p q there moves is) =
      let steady = moves_steady sends receives client p q d moves in
      let there' : t.part ≡ Some q = ap (λ (x : Seen T U C). x.part) is in
      record {
        same = λ p' q' before after.
            ap violation_in (same_Some q' q (sym after ∙ there')) ∙ (steady.violation ∙ ap violation_in (same_Some p p' (sym there ∙ before)));
        fine = λ fine.
            subst (λ (o : Option (Part T U C)). LiveKeepsNone (record { part = o; made = [] })) (sym there')
            (steady_fine sends receives client p q steady
            (subst (λ (o : Option (Part T U C)). LiveKeepsNone (record { part = o; made = [] })) there fine));
      }
  goes_keep s t d (taken_out p q on there killed moves empty no_notes is) =
      let none : t.part ≡ None = ap (λ (x : Seen T U C). x.part) is in
      record {
        same = λ p' q' before after. absurd (none-some q' (sym none ∙ after));
        fine = λ fine. subst (λ (o : Option (Part T U C)). LiveKeepsNone (record { part = o; made = [] })) (sym none) tt;
      }

-- ---- a call

module _ {T U G C : Type 0} (w : World T G C) (id : ClientParts) (offer : Offer G) (before after : Seen T U C) (lacked : Bool)
    (did : List (Deed U)) where
  -- one that neither reads the client nor inserts it
  unread_keeps : (call : Call T U G C) → reads_of id call ≡ false → IsNotInserted id call → PartCall w id offer call before lacked did after
      → Keeps before after
  unread_keeps call unread other h = go (concerns id call) refl
    where
      go : (b : Bool) → concerns id call ≡ b → Keeps before after
      go true about =
          goes_keep w.sends w.receives id before after _
          (call_moves unread_moves w id offer call before lacked did after about
          (record {
            kills = λ e may. tt;
            gathers = λ is. refl;
            hands = λ is. refl;
            reads = λ is. absurd (true≢false (sym is ∙ unread));
            finishes = λ is. refl;
          }) h)
      go false far =
          unchanged before after (ap (λ (s : Seen T U C). s.part) (other_call w id offer call before lacked did after other far h).2)

  reads_fine : (target : ClientParts) (r r' : Reading) (answer : Result Handed ActionError)
      → ReadsFor w id offer target r answer r' before lacked did after → LiveKeepsNone before → LiveKeepsNone after
  reads_fine target r r' answer h fine =
      elim (either_bool (same_client target id) h) [
        | inr nothing ↦ (unchanged before after (ap (λ (s : Seen T U C). s.part) nothing.2)).fine fine
        | inl on ↦
            elim (either_option before.part on) [
              | inl (none, (missing, nothing)) ↦ (unchanged before after (ap (λ (s : Seen T U C). s.part) nothing.2)).fine fine
              | inr (p, there, (q, next, same)) ↦
                  subst (λ (o : Option (Part T U C)). LiveKeepsNone (record { part = o; made = [] }))
                  (sym (ap (λ (s : Seen T U C). s.part) same))
                  (next_action_fine w.sends w.receives (around w id offer) r answer r' lacked did p q next
                  (subst (λ (o : Option (Part T U C)). LiveKeepsNone (record { part = o; made = [] })) there fine))
            ]
      ]

  pub call_fine : (call : Call T U G C) → PartCall w id offer call before lacked did after → LiveKeepsNone before → LiveKeepsNone after
  call_fine (Asked (step.NextAction target) answer) (r, left, is, h) fine = reads_fine target new_reading left (action_content r) h fine
  call_fine (Asked (step.NextActionWithin target reading) answer) (r, left, is, h) fine =
      reads_fine target reading left (action_content r) h fine
  call_fine (Asked (step.InsertClient transport client_data) answer) (Err e, is, h) fine =
      (unchanged before after (ap (λ (s : Seen T U C). s.part) h.2)).fine fine
  call_fine (Asked (step.InsertClient transport client_data) answer) (Ok new, is, h) fine =
      elim (either_bool (same_client new id) h) [
        | inl (link, fresh, no_memory, did_so, same) ↦ subst LiveKeepsNone (sym same) (λ live. refl)
        | inr nothing ↦ (unchanged before after (ap (λ (s : Seen T U C). s.part) nothing.2)).fine fine
      ]
  call_fine call h fine = (unread_keeps call refl (λ new inserts. absurd cc) h).fine fine

-- ---- runs

module _ {T U G C : Type 0} (w : World T G C) where
  pub readings_alone_break : ReadingsAloneBreak U w
  readings_alone_break id before after e one other unread =
      (unread_keeps w id before.offer (seen id before) (seen id after) (e.lacks id) (e.did id) e.call unread other (one.each id)).same

  run_fine : (id : ClientParts) (before after : ServerState T U G C) (run : List (Entry T U G C)) → Leads w before run after
      → LiveKeepsNone (seen id before) → LiveKeepsNone (seen id after)
  run_fine id before after [] same fine = subst (λ (s : ServerState T U G C). LiveKeepsNone (seen id s)) (sym same) fine
  run_fine id before after (e ∷ run) (mid, one, leads) fine =
      run_fine id mid after run leads
      (call_fine w id before.offer (seen id before) (seen id mid) (e.lacks id) (e.did id) e.call (one.each id) fine)

  pub live_keep_none : (table : List InterfaceRow) (run : List (Entry T U G C)) (after : ServerState T U G C)
      → Leads w (new_server table) run after → LiveKeepNone after
  live_keep_none table run after leads id = run_fine id (new_server table) after run leads tt
