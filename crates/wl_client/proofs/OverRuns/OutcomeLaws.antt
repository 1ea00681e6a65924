-- That each step has one outcome where memory is not refused, and so each run.
use Rattle.std.proofs.Common.{◌≡◌, ◌≢◌, ℕ, Bool, true, false, eqb, List, [], ◌∷◌, length, Option, None, Some, is_some, Result, Ok, Err, MatchBool, refl, sym, ap, subst, ◌∙◌, true≢false, arith}
use mathlib.Core.Logic.{inl, inr}
use Rattle.wl_wire.specs.declared.error.IoFault.{IoFault}
use Rattle.wl_wire.specs.declared.error.IoFault.TheVariants as fault
use Rattle.wl_wire.specs.declared.error.OutOfMemory.{OutOfMemory}
use Rattle.wl_wire.specs.declared.protocol.TableError.{TableError}
use Rattle.wl_wire.specs.Message.{WireMessage}
use Rattle.wl_wire.specs.Table.{Growth, refused_growth, table_after}
use Rattle.wl_wire.proofs.Extension.{AnswersTo-unique}
use Rattle.wl_link.specs.declared.memory.ArriveError.{ArriveError}
use Rattle.wl_link.specs.Exchange.{Queue, IsFunction, IsReceiveFunction}
use Rattle.wl_link.specs.Link.{LinkState}
use Rattle.wl_link.proofs.Calls.NumberLaws.{full_not_absent, least_absent_one, limit_set_one}
use Rattle.wl_link.proofs.Calls.OneLaws.{one_flush_lem, one_write_lem}
use Rattle.wl_link.proofs.OverRuns.RunLaws.{run_one as each_run_one}
use Rattle.wl_link.specs.Script.{Script, ScriptSends, ScriptReceives}
use Rattle.wl_link.proofs.Calls.OneScript.{script_sends_function, script_receives_function}
use Rattle.wl_link.specs.Store.{client_range}
use Rattle.wl_link.proofs.Calls.Branches.{both_bool, both_option, both_result}
use Rattle.wl_link.specs.Puts.{lacks_memory}
use Rattle.wl_client.specs.declared.error.FinishRefused.{FinishRefused}
use Rattle.wl_client.specs.declared.error.FlushError.{FlushError}
use Rattle.wl_client.specs.declared.error.RequestError.{RequestError}
use Rattle.wl_client.specs.declared.error.RequestError.TheVariants as request
use Rattle.wl_client.specs.declared.event.OpenEvent.{OpenEvent}
use Rattle.wl_client.specs.declared.step.Reply.{Reply}
use Rattle.wl_client.specs.declared.step.Reply.TheVariants as reply
use Rattle.wl_client.specs.declared.step.Step.{Step}
use Rattle.wl_client.specs.declared.step.Step.TheVariants as step
use Rattle.wl_client.specs.Histories.{Called, Changed, Deed, Grown, History}
use Rattle.wl_client.specs.ObjectId.{IdParts}
use Rattle.wl_client.specs.Finish.{FinishesEvent, Finishes, FlushEnds, refusal, SessionFlushed}
use Rattle.wl_client.specs.Objects.{DataSet, DestroyedBy, ReclaimedBy, destroyable}
use Rattle.wl_client.specs.Reading.{event_content}
use Rattle.wl_client.proofs.Freeing.{hands_one}
use Rattle.wl_client.proofs.OverRuns.ReadingLaws.{SameEnd, next_event_one, same_end}
use Rattle.wl_client.specs.OneOutcome.{SameAnswers, SameDeeds}
use Rattle.wl_client.specs.Replies.{SameReply, SameReplies}
use Rattle.wl_client.specs.Requests.{Numbered, Requested, Sent, SentAs, SentWithChild, SessionMessage, Spec, Written, ended_by, error_after, id_of_new, new_child, number_of_new, request_check, session_content, wire_message, with_born, with_ended}
use Rattle.wl_client.specs.Session.{SessionState, last_possible_serial, named, over_transport}
use Rattle.wl_client.specs.Steps.{ArrivesWith, CallOf, Making, Scripts, InterfacesAdded, StepOf, Leads, entries, refused_arrive, refused_destroy, refused_finish, refused_flush, refused_request, refused_script}

-- an answer by which memory was not refused is not one by which it was
not_refused : (b : Bool) → false ≡ b → b ≡ true → ⊥
not_refused b unasked asked = true≢false (sym (unasked ∙ asked))

module _ {T U : Type 0} where
  -- ---- data and destruction

  sets_one : (s : SessionState T U) (id : IdParts) (u : U) (a b : _) (x y : SessionState T U) → DataSet s id u a x → DataSet s id u b y → SameEnd a b x y
  sets_one s id u a b x y h g = grind (arith, both_option, named, same_end)

  destroys_one : (s : SessionState T U) (id : IdParts) (a b : _) (x y : SessionState T U) → false ≡ refused_destroy a → false ≡ refused_destroy b
      → DestroyedBy s id a x → DestroyedBy s id b y → SameEnd a b x y
  destroys_one s id a b x y unasked unasked' h g = grind (arith, both_option, destroyable, same_end, not_refused, refused_destroy)

  reclaims_one : (s : SessionState T U) (id : IdParts) (a b : _) (x y : SessionState T U) → ReclaimedBy s id a x → ReclaimedBy s id b y → SameEnd a b x y
  reclaims_one s id a b x y h g = grind (arith, both_option, same_end)

  -- ---- a request

  module _ (sends : T → Queue → Result ℕ IoFault → T → Type 0) (function : IsFunction sends) (s : SessionState T U) (m : SessionMessage)
      (a b : Result IdParts RequestError) (x y : SessionState T U) (ok : a ≢ Err request.OutOfMemory) (ok' : b ≢ Err request.OutOfMemory) where
    -- what a request does once it was written
    abbrev WriteEnds : Option (Numbered U) → Option (Numbered U) → Result IdParts RequestError → SessionState T U → Result (Unit {0}) IoFault → LinkState T → Type 0
    WriteEnds new o answer after w link =
        MatchBool (lacks_memory w) ((answer ≡ Err request.OutOfMemory) × (after ≡ record s { link = link }))
        ((answer ≡ Ok (id_of_new new)) × (after ≡ with_ended (with_born (record s { link = link; error = error_after s.error w }) new) o))

    write_allowed : (new o : Option (Numbered U)) (answer : Result IdParts RequestError) (after : SessionState T U) (w : Result (Unit {0}) IoFault) (link : LinkState T)
        → answer ≢ Err request.OutOfMemory → WriteEnds new o answer after w link → w ≢ Err fault.OutOfMemory
    write_allowed new o answer after w link allowed end is = grind (arith)

    written_one : (wire : WireMessage) (new o : Option (Numbered U)) → Written sends s wire new o a x → Written sends s wire new o b y → SameEnd a b x y
    written_one wire new o (w, link, (es, by), end) (w', link', (es', by'), end') =
        let same = one_write_lem sends function wire link link' es es' w w' (write_allowed new o a x w link ok end) (write_allowed new o b y w' link' ok' end')
        s.link by by' in
        let answered = subst (λ z. WriteEnds new o b y z link') (sym same.answer) end' in
        let linked = subst (λ l. WriteEnds new o b y w l) (sym same.after) answered in
        elim (both_bool (lacks_memory w) end linked) [
          | inl ((is, after), (is', after')) ↦ same_end is is' after after'
          | inr ((is, after), (is', after')) ↦ same_end is is' after after'
        ]

    sent_one : (new o : Option (Numbered U)) → Sent sends s m new o a x → Sent sends s m new o b y → SameEnd a b x y
    sent_one new o (inl (is, same, asks)) other = absurd (ok is)
    sent_one new o (inr h) (inl (is, same, asks)) = absurd (ok' is)
    sent_one new o (inr h) (inr g) = written_one (wire_message (number_of_new new) m) new o h g

    -- what a request for a new object does at its number
    abbrev AtNumber : Spec → U → Option (Numbered U) → Result IdParts RequestError → SessionState T U → ℕ → Type 0
    AtNumber child u o answer after n =
        MatchBool (eqb s.last_serial last_possible_serial) ((answer ≡ Err request.SerialsExhausted) × (after ≡ s))
        (Sent sends s m (Some (n, new_child s child u)) o answer after)

    sent_with_child_one : (child : Spec) (u : U) (o : Option (Numbered U)) → SentWithChild sends s m child u o a x → SentWithChild sends s m child u o b y
        → SameEnd a b x y
    sent_with_child_one child u o (inl (full, is, same)) (inl (full', is', same')) = same_end is is' same same'
    sent_with_child_one child u o (inl (full, is, same)) (inr (n, least, end)) = absurd (full_not_absent client_range s.store n full least)
    sent_with_child_one child u o (inr (n, least, end)) (inl (full, is, same)) = absurd (full_not_absent client_range s.store n full least)
    sent_with_child_one child u o (inr (n, least, end)) (inr (n', least', end')) =
        let number : n' ≡ n = least_absent_one client_range s.store n' n least' least in
        let numbered = subst (λ k. AtNumber child u o b y k) number end' in
        elim (both_bool (eqb s.last_serial last_possible_serial) end numbered) [
          | inl ((is, same), (is', same')) ↦ same_end is is' same same'
          | inr (h, g) ↦ sent_one (Some (n, new_child s child u)) o h g
        ]

    sent_as_one : (child : Option Spec) (u : Option U) (o : Option (Numbered U)) → SentAs sends s m child u o a x → SentAs sends s m child u o b y → SameEnd a b x y
    sent_as_one None u o h g = sent_one None o h g
    sent_as_one (Some child) None o h g = absurd h
    sent_as_one (Some child) (Some u) o h g = sent_with_child_one child u o h g

    requested_one : (u : Option U) (spec : Option Spec) → Requested sends s m u spec a x → Requested sends s m u spec b y → SameEnd a b x y
    requested_one u spec h g = grind (arith, both_result, request_check, is_some, sent_as_one, ended_by, same_end)

  -- ---- a flush

  flush_allowed : (s : SessionState T U) (r : Result (Unit {0}) IoFault) (answer : Result (Unit {0}) FlushError) (after : SessionState T U)
      → false ≡ refused_flush answer → FlushEnds s r answer after → r ≢ Err fault.OutOfMemory
  flush_allowed s r answer after unasked end is = grind (arith, not_refused, refused_flush)

  flush_ends_one : (s : SessionState T U) (r : Result (Unit {0}) IoFault) (a b : Result (Unit {0}) FlushError) (x y : SessionState T U)
      → FlushEnds s r a x → FlushEnds s r b y → SameEnd a b x y
  flush_ends_one s r a b x y h1 h2 = grind (arith, same_end)

  flushes_one : (sends : T → Queue → Result ℕ IoFault → T → Type 0) → IsFunction sends → (s : SessionState T U) (a b : Result (Unit {0}) FlushError)
      (x y : SessionState T U) → false ≡ refused_flush a → false ≡ refused_flush b → SessionFlushed sends s a x → SessionFlushed sends s b y → SameEnd a b x y
  flushes_one sends function s a b x y unasked unasked' h g =
      elim (both_option s.error h g) [
        | inl (none, (r, link, (es, by), end), (r', link', (es', by'), end')) ↦
            let same = one_flush_lem sends function s.link link link' es es' r r' by by' (flush_allowed (record s { link = link }) r a x unasked end)
            (flush_allowed (record s { link = link' }) r' b y unasked' end') in
            let answered = subst (λ z. FlushEnds (record s { link = link' }) z b y) (sym same.answer) end' in
            let linked = subst (λ l. FlushEnds (record s { link = l }) r b y) (sym same.after) answered in
            flush_ends_one (record s { link = link }) r a b x y end linked
        | inr (e, some, (is, same), (is', same')) ↦ same_end is is' same same'
      ]

  -- ---- the end of an event

  module _ (s : SessionState T U) (u : Option U) (a b : Result (Unit {0}) (FinishRefused U)) (x y : SessionState T U)
      (unasked : false ≡ refused_finish a) (unasked' : false ≡ refused_finish b) where
    event_finishes_one : (event : OpenEvent) → FinishesEvent s event u a x → FinishesEvent s event u b y → SameEnd a b x y
    event_finishes_one event h1 h2 = grind (arith, same_end, not_refused, refused_finish)

    finishes_one : Finishes s u a x → Finishes s u b y → SameEnd a b x y
    finishes_one h g =
        elim (both_option s.open_event h g) [
          | inl (none, (is, same), (is', same')) ↦ same_end is is' same same'
          | inr (event, some, h', g') ↦
              elim (both_option (refusal event.created u) h' g') [
                | inl (none, end, end') ↦ event_finishes_one event end end'
                | inr (e, why, (is, same), (is', same')) ↦ same_end is is' same same'
              ]
        ]

-- ---- the transport

module _ {U : Type 0} where
  arrives_one : (s : SessionState Script U) (chunk : Queue) (a b : Result (Unit {0}) ArriveError) (x y : SessionState Script U)
      → false ≡ refused_arrive a → false ≡ refused_arrive b → ArrivesWith s chunk a x → ArrivesWith s chunk b y → SameEnd a b x y
  arrives_one s chunk a b x y h1 h2 h3 h4 = grind (arith, same_end, true≢false)

  scripts_one : (s : SessionState Script U) (script : Script) (a b : Result (Unit {0}) OutOfMemory) (x y : SessionState Script U)
      → false ≡ refused_script a → false ≡ refused_script b → Scripts s script a x → Scripts s script b y → SameEnd a b x y
  scripts_one s script a b x y h1 h2 h3 h4 = grind (arith, same_end, true≢false)

-- ---- interfaces that are added

module _ {T U : Type 0} (s : SessionState T U) (rows : Growth) where
  growth_one : (a b : Result (Unit {0}) TableError) (x y : SessionState T U) → false ≡ refused_growth a → false ≡ refused_growth b
      → InterfacesAdded s rows a x → InterfacesAdded s rows b y → (a ≡ b) × (x ≡ y)
  growth_one a b x y unasked unasked' (answers, same) (answers', same') =
      let one = AnswersTo-unique s.table rows a b (λ e. not_refused _ unasked (ap refused_growth e)) (λ e. not_refused _ unasked' (ap refused_growth e)) answers answers' in
      (one, same ∙ ap (λ r. record s { table = table_after s.table rows r }) one ∙ sym same')

-- ---- a step

module _ {U : Type 0} where
  -- two replies are the same where what they are is
  same_reply : (p q p' q' : Reply U) → p ≡ p' → q ≡ q' → SameReply p' q' → SameReply p q
  same_reply p q p' q' is is' same = subst (λ r. SameReply r q) (sym is) (subst (λ r. SameReply p' r) (sym is') same)

module _ {T U : Type 0} (sends : T → Queue → Result ℕ IoFault → T → Type 0) (receives : T → ℕ → Result Queue IoFault → T → Type 0)
    (function : IsFunction sends) (receiving : IsReceiveFunction receives) where
  -- each call has one outcome, if the transport has
  pub call_one : (s x y : SessionState T U) (call : Step U) (p q : Reply U) → CallOf sends receives s call p false x → CallOf sends receives s call q false y → SameReply p q × (x ≡ y)
  call_one s x y (step.SetData id u) p q (a, is, unasked, h) (b, is', unasked', g) = grind (arith, sets_one, same_reply)
  call_one s x y (step.DestroyObject id) p q (a, is, unasked, h) (b, is', unasked', g) = grind (arith, destroys_one, same_reply)
  call_one s x y (step.Reclaim id) p q (a, is, unasked, h) (b, is', unasked', g) = grind (arith, reclaims_one, same_reply)
  call_one s x y (step.SendRequest m u spec) p q (a, is, unasked, h) (b, is', unasked', g) =
      let one = requested_one sends function s (session_content m) a b x y
      (λ e. not_refused _ unasked (ap refused_request e)) (λ e. not_refused _ unasked' (ap refused_request e)) u spec h g in
      (same_reply p q _ _ is is' (ap reply.SendRequest one.answer), one.after)
  call_one s x y step.Flush p q (a, is, unasked, h) (b, is', unasked', g) = grind (arith, flushes_one, same_reply)
  call_one s x y step.NextEvent p q (a, is, h) (b, is', g) = grind (arith, next_event_one, event_content, same_reply)
  call_one s x y (step.FinishEvent u) p q (a, is, unasked, h) (b, is', unasked', g) =
      let one = finishes_one s u a b x y unasked unasked' h g in
      (same_reply p q _ _ is is' (ap reply.FinishEvent one.answer), one.after)
  call_one s x y (step.Fail e) p q (is, unasked, same) (is', unasked', same') = (same_reply p q reply.Fail reply.Fail is is' refl, same ∙ sym same')
  call_one s x y step.DispatchInnerQueue p q (is, unasked, same) (is', unasked', same') =
      (same_reply p q (reply.DispatchInnerQueue (Ok 0)) (reply.DispatchInnerQueue (Ok 0)) is is' refl, same ∙ sym same')
  call_one s x y (step.SetMaxBufferSize limit) p q (is, unasked, (link, set, same)) (is', unasked', (link', set', same')) = (
    same_reply p q reply.SetMaxBufferSize reply.SetMaxBufferSize is is' refl,
    same ∙ ap (λ (l : LinkState T). record s { link = l }) (limit_set_one s.link limit link link' set set') ∙ sym same',
  )
  call_one s x y (step.PassOverUnknownSenders passes) p q (is, unasked, same) (is', unasked', same') =
      (same_reply p q reply.PassOverUnknownSenders reply.PassOverUnknownSenders is is' refl, same ∙ sym same')
  call_one s x y step.TakeNotes p q (notes, is, unasked, items, same) (notes', is', unasked', items', same') =
      (same_reply p q (reply.TakeNotes notes) (reply.TakeNotes notes') is is' (items ∙ sym items'), same ∙ sym same')
  call_one s x y (step.KeepFreed keeps) p q (is, unasked, same) (is', unasked', same') = (same_reply p q reply.KeepFreed reply.KeepFreed is is' refl, same ∙ sym same')
  call_one s x y step.NextFreed p q (id, is, unasked, h) (id', is', unasked', h') =
      let (one, same) = hands_one s.freed s id id' x y h h' in
      (same_reply p q (reply.NextFreed id) (reply.NextFreed id') is is' (ap reply.NextFreed one), same)
  call_one s x y _ p q h g = absurd h

module _ {U : Type 0} where
  -- each step has one outcome
  pub step_one : (s x y : SessionState Script U) (call : Step U) (p q : Reply U) → StepOf s call p false x → StepOf s call q false y → SameReply p q × (x ≡ y)
  step_one s x y (step.Arrive bytes tokens) p q (a, is, unasked, h) (b, is', unasked', g) = grind (arith, arrives_one, same_reply)
  step_one s x y (step.ArriveFault f) p q (a, is, unasked, h) (b, is', unasked', g) = grind (arith, scripts_one, same_reply)
  step_one s x y (step.Accept n) p q (a, is, unasked, h) (b, is', unasked', g) = grind (arith, scripts_one, same_reply)
  step_one s x y (step.AcceptFault f) p q (a, is, unasked, h) (b, is', unasked', g) = grind (arith, scripts_one, same_reply)
  step_one s x y step.TakeSent p q (sent, is, unasked, parcels, same) (sent', is', unasked', parcels', same') =
      (same_reply p q (reply.TakeSent sent) (reply.TakeSent sent') is is' (parcels ∙ sym parcels'), same ∙ sym same')
  step_one s x y (step.SetData id u) p q h g = call_one ScriptSends ScriptReceives script_sends_function script_receives_function s x y (step.SetData id u) p q h g
  step_one s x y (step.DestroyObject id) p q h g = call_one ScriptSends ScriptReceives script_sends_function script_receives_function s x y (step.DestroyObject id) p q h g
  step_one s x y (step.Reclaim id) p q h g = call_one ScriptSends ScriptReceives script_sends_function script_receives_function s x y (step.Reclaim id) p q h g
  step_one s x y (step.SendRequest m u spec) p q h g = call_one ScriptSends ScriptReceives script_sends_function script_receives_function s x y (step.SendRequest m u spec) p q h g
  step_one s x y step.Flush p q h g = call_one ScriptSends ScriptReceives script_sends_function script_receives_function s x y step.Flush p q h g
  step_one s x y step.NextEvent p q h g = call_one ScriptSends ScriptReceives script_sends_function script_receives_function s x y step.NextEvent p q h g
  step_one s x y (step.FinishEvent u) p q h g = call_one ScriptSends ScriptReceives script_sends_function script_receives_function s x y (step.FinishEvent u) p q h g
  step_one s x y (step.Fail e) p q h g = call_one ScriptSends ScriptReceives script_sends_function script_receives_function s x y (step.Fail e) p q h g
  step_one s x y step.DispatchInnerQueue p q h g = call_one ScriptSends ScriptReceives script_sends_function script_receives_function s x y step.DispatchInnerQueue p q h g
  step_one s x y (step.SetMaxBufferSize limit) p q h g = call_one ScriptSends ScriptReceives script_sends_function script_receives_function s x y (step.SetMaxBufferSize limit) p q h g
  step_one s x y (step.PassOverUnknownSenders passes) p q h g =
      call_one ScriptSends ScriptReceives script_sends_function script_receives_function s x y (step.PassOverUnknownSenders passes) p q h g
  step_one s x y step.TakeNotes p q h g = call_one ScriptSends ScriptReceives script_sends_function script_receives_function s x y step.TakeNotes p q h g
  step_one s x y (step.KeepFreed keeps) p q h g = call_one ScriptSends ScriptReceives script_sends_function script_receives_function s x y (step.KeepFreed keeps) p q h g
  step_one s x y step.NextFreed p q h g = call_one ScriptSends ScriptReceives script_sends_function script_receives_function s x y step.NextFreed p q h g

  -- ---- a run

  -- so has each run
  pub run_one : (s x y : SessionState Script U) (steps : List (Step U)) (replies replies' : List (Reply U)) → length replies ≡ length steps
      → length replies' ≡ length steps → Leads s (entries steps replies) x → Leads s (entries steps replies') y → SameReplies replies replies' × (x ≡ y)
  run_one s x y steps replies replies' n n' h g = each_run_one StepOf SameReply step_one s x y steps replies replies' n n' h g

-- ---- a history

module _ {T U : Type 0} (makes : Making T U)
    (one_outcome : (s x y : SessionState T U) (call : Step U) (p q : Reply U) → makes s call p false x → makes s call q false y → SameReply p q × (x ≡ y)) where
  -- so has each history
  history_one : (s x y : SessionState T U) (deeds others : List (Deed T U)) → SameDeeds deeds others → History makes s deeds x → History makes s others y
      → SameAnswers deeds others × (x ≡ y)
  history_one s x y [] [] same h g = (tt, h ∙ sym g)
  history_one s x y (Called e ∷ deeds) (Called f ∷ others) (is, fine, fine', same) (m, by, h) (n, by', g) =
      let there : makes s e.step f.answer f.refused n = subst (λ (c : Step U). makes s c f.answer f.refused n) (sym is) by' in
      let one = one_outcome s m n e.step e.answer f.answer
      (subst (λ (b : Bool). makes s e.step e.answer b m) fine by)
      (subst (λ (b : Bool). makes s e.step f.answer b n) fine' there) in
      let rest = history_one m x y deeds others same h (subst (λ (k : SessionState T U). History makes k others y) (sym one.1) g) in
      ((one.0, rest.0), rest.1)
  history_one s x y (Changed t ∷ deeds) (Changed t' ∷ others) (is, same) (m, by, h) (n, by', g) =
      let at : n ≡ m = by' ∙ ap (over_transport s) (sym is) ∙ sym by in
      history_one m x y deeds others same h (subst (λ (k : SessionState T U). History makes k others y) at g)
  history_one s x y (Grown rows p ∷ deeds) (Grown rows' q ∷ others) (is, fine, fine', same) (m, by, h) (n, by', g) =
      let there : InterfacesAdded s rows q n = subst (λ (these : Growth). InterfacesAdded s these q n) (sym is) by' in
      let one = growth_one s rows p q m n (sym fine) (sym fine') by there in
      let rest = history_one m x y deeds others same h (subst (λ (k : SessionState T U). History makes k others y) (sym one.1) g) in
      ((one.0, rest.0), rest.1)
  history_one s x y _ _ same h g = absurd same

-- over any such transport, and over that by script
pub call_history_one : {T U : Type 0} (sends : T → Queue → Result ℕ IoFault → T → Type 0) (receives : T → ℕ → Result Queue IoFault → T → Type 0)
    → IsFunction sends → IsReceiveFunction receives → (s x y : SessionState T U) (deeds others : List (Deed T U)) → SameDeeds deeds others
    → History (CallOf sends receives) s deeds x → History (CallOf sends receives) s others y → SameAnswers deeds others × (x ≡ y)
call_history_one sends receives function receiving = history_one (CallOf sends receives) (call_one sends receives function receiving)

pub step_history_one : {U : Type 0} (s x y : SessionState Script U) (deeds others : List (Deed Script U)) → SameDeeds deeds others
    → History StepOf s deeds x → History StepOf s others y → SameAnswers deeds others × (x ≡ y)
step_history_one = history_one StepOf step_one
