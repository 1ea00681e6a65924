-- What a session that has an error answers, over a history.
use Rattle.std.specs.Prelude.{◌≡◌, List, [], ◌∷◌, IsSome, Err}
use Rattle.wl_client.specs.declared.error.EventError.TheVariants as no_event
use Rattle.wl_client.specs.declared.error.FlushError.TheVariants as flush
use Rattle.wl_client.specs.declared.step.Reply.{Reply}
use Rattle.wl_client.specs.declared.step.Reply.TheVariants as reply
use Rattle.wl_client.specs.declared.step.Step.{Step}
use Rattle.wl_client.specs.declared.step.Step.TheVariants as step
use Rattle.wl_client.specs.Histories.{Deed, Called, Changed, Grown}
use Rattle.wl_client.specs.Session.{SessionState}

module _ {U : Type 0} where
  -- a reading or a flush answers `Failed`; of other steps nothing is said
  abbrev pub AnswersFailed : Step U → Reply U → Type 0
  AnswersFailed step.NextEvent answer = answer ≡ reply.NextEvent (Err no_event.Failed)
  AnswersFailed step.Flush answer = answer ≡ reply.Flush (Err flush.Failed)
  AnswersFailed _ answer = Unit {0}

module _ {T U : Type 0} where
  -- each reading and each flush of the history does so
  abbrev pub AllFail : List (Deed T U) → Type 0
  AllFail [] = Unit {0}
  AllFail (Called e ∷ deeds) = AnswersFailed e.step e.answer × AllFail deeds
  AllFail (Changed t ∷ deeds) = AllFail deeds
  AllFail (Grown rows answer ∷ deeds) = AllFail deeds

  -- the history hands out no event and flushes nothing, and the session has an error after it
  abbrev pub StaysFailed : List (Deed T U) → SessionState T U → Type 0
  StaysFailed deeds after = AllFail deeds × IsSome after.error
