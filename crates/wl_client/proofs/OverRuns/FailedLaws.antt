-- That a session which has an error keeps one, and answers each reading and each flush by it: step by step, and so over every
-- history.
use Rattle.std.proofs.Common.{◌≡◌, ℕ, Bool, [], ◌∷◌, List, IsSome, Result, Err, is_ok, sym, subst, true≢false, arith}
use Rattle.wl_wire.specs.declared.argument.Token.{Token}
use Rattle.wl_wire.specs.declared.error.IoFault.{IoFault}
use Rattle.wl_wire.specs.declared.message.Message.{Message}
use Rattle.wl_link.specs.Exchange.{Queue}
use Rattle.wl_link.specs.Script.{Script}
use Rattle.wl_link.proofs.Calls.Branches.{either_option}
use Rattle.wl_client.specs.declared.error.EventError.{EventError}
use Rattle.wl_client.specs.declared.error.FlushError.{FlushError}
use Rattle.wl_client.specs.declared.error.FlushError.TheVariants as flush
use Rattle.wl_client.specs.declared.step.Reply.{Reply}
use Rattle.wl_client.specs.declared.step.Step.{Step}
use Rattle.wl_client.specs.ObjectId.{IdParts}
use Rattle.wl_client.proofs.OverRuns.ChangeLaws.{CallTells, StepMoves, call_moves, step_moves}
use Rattle.wl_client.specs.Failed.{AnswersFailed, StaysFailed}
use Rattle.wl_client.specs.Finish.{SessionFlushed}
use Rattle.wl_client.specs.Handed.{ids_in, notes_in}
use Rattle.wl_client.specs.Histories.{Called, Changed, Deed, Grown, History}
use Rattle.wl_client.specs.Reading.{event_content}
use Rattle.wl_client.proofs.OverRuns.ReadingLaws.{has_none, read_fails}
use Rattle.wl_client.specs.Session.{SessionState}
use Rattle.wl_client.specs.Steps.{CallOf, Making, StepOf}

flush_fails : {T U : Type 0} (sends : T → Queue → Result ℕ IoFault → T → Type 0) (s : SessionState T U) (answer : Result (Unit {0}) FlushError) (after : SessionState T U)
    → IsSome s.error → SessionFlushed sends s answer after → answer ≡ Err flush.Failed
flush_fails sends s answer after failed h = grind (arith, either_option, has_none)

-- the answer of a reading, where it is an error
told_as : (r : Result (Message IdParts Token) EventError) (e : EventError) → event_content r ≡ Err e → r ≡ Err e
told_as r e h1 = grind (arith, true≢false, is_ok)

-- a reading and a flush of a session that has an error answer by it
call_failed : {T U : Type 0} (sends : T → Queue → Result ℕ IoFault → T → Type 0) (receives : T → ℕ → Result Queue IoFault → T → Type 0)
    (s : SessionState T U) (call : Step U) (answer : Reply U) (refused : Bool) (after : SessionState T U)
    → IsSome s.error → CallOf sends receives s call answer refused after → AnswersFailed call answer
call_failed sends receives s call answer refused after h1 h2 = grind (arith, flush_fails, told_as, read_fails, event_content)

step_failed : {U : Type 0} (s : SessionState Script U) (call : Step U) (answer : Reply U) (refused : Bool) (after : SessionState Script U)
    → IsSome s.error → StepOf s call answer refused after → AnswersFailed call answer
step_failed s call answer refused after h1 h2 = grind (arith, call_failed)

-- ---- what the laws of histories ask of the steps

-- each step changes the objects and the notes as it says, and answers by the error that the session has
pub record IsKept {T U : Type 0} (makes : Making T U) : Type 0 where
  pub moves : (s : SessionState T U) (call : Step U) (answer : Reply U) (refused : Bool) (after : SessionState T U)
      → makes s call answer refused after → StepMoves s (ids_in answer) (notes_in answer) (CallTells s call answer after) after
  pub fails : (s : SessionState T U) (call : Step U) (answer : Reply U) (refused : Bool) (after : SessionState T U)
      → IsSome s.error → makes s call answer refused after → AnswersFailed call answer

-- so do the calls over any transport, and the steps over the transport by script
pub calls_kept : {T U : Type 0} (sends : T → Queue → Result ℕ IoFault → T → Type 0) (receives : T → ℕ → Result Queue IoFault → T → Type 0)
    → IsKept {U = U} (CallOf sends receives)
calls_kept sends receives = grind (arith, call_moves, call_failed)

pub steps_kept : {U : Type 0} → IsKept {U = U} StepOf
steps_kept = grind (arith, step_moves, step_failed)

-- ---- a history

module _ {T U : Type 0} (makes : Making T U) (kept : IsKept makes) where
  -- over every history, a session that has an error keeps one
  pub stays_failed : (before after : SessionState T U) (deeds : List (Deed T U)) → IsSome before.error → History makes before deeds after → StaysFailed deeds after
  stays_failed before after [] failed same = (tt, subst (λ (s : SessionState T U). IsSome s.error) (sym same) failed)
  stays_failed before after (Called e ∷ deeds) failed (mid, by, leads) =
      let first = kept.fails before e.step e.answer e.refused mid failed by in
      let rest = stays_failed mid after deeds ((kept.moves before e.step e.answer e.refused mid by).stays failed) leads in
      ((first, rest.0), rest.1)
  stays_failed before after (Changed t ∷ deeds) failed (mid, same, leads) =
      stays_failed mid after deeds (subst (λ (s : SessionState T U). IsSome s.error) (sym same) failed) leads
  stays_failed before after (Grown rows answer ∷ deeds) failed (mid, (answers, same), leads) =
      stays_failed mid after deeds (subst (λ (s : SessionState T U). IsSome s.error) (sym same) failed) leads
