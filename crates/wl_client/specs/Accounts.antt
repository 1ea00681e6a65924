-- What holds of a client over its history: ids, names, notes and errors, of one and the same list of changes.
use Rattle.std.specs.Prelude.{◌≡◌, false, List, [], ◌∷◌, ◌++◌, IsSome, Result, Ok, Err, MatchOption, length}
use Rattle.wl_wire.specs.declared.protocol.TableError.{TableError}
use Rattle.wl_wire.specs.Table.{Growth, InterfaceRow, refused_growth}
use Rattle.wl_link.specs.Identity.{Change}
use Rattle.wl_link.specs.Named.{StaysNamed}
use Rattle.wl_link.specs.Runs.{IsWhereItStops}
use Rattle.wl_link.specs.Script.{Script}
use Rattle.wl_client.specs.declared.error.InvalidId.{InvalidId}
use Rattle.wl_client.specs.declared.objects.Kept.{Kept}
use Rattle.wl_client.specs.declared.step.Reply.{Reply}
use Rattle.wl_client.specs.declared.step.Reply.TheVariants as reply
use Rattle.wl_client.specs.declared.step.Step.{Step}
use Rattle.wl_client.specs.declared.step.Step.TheVariants as step
use Rattle.wl_client.specs.Failed.{StaysFailed}
use Rattle.wl_client.specs.Handed.{Follows}
use Rattle.wl_client.specs.Histories.{Called, Changed, Deed, Does, Grown, History, called}
use Rattle.wl_client.specs.Noted.{NotesWhatEnded}
use Rattle.wl_client.specs.ObjectId.{IdParts}
use Rattle.wl_client.specs.Objects.{user_data_of}
use Rattle.wl_client.specs.Session.{ClientState, IsConnected, SessionState, id_of, named, objects_of, serial_of}
use Rattle.wl_client.specs.Steps.{Entry, LocalCall, Making, StepOf, entries}
use Rattle.wl_client.specs.Stretches.{EachPartIsCut}

module _ {T U : Type 0} (makes : Making T U) where
  -- A point of a history, between these first deeds and the later ones. The changes of the first deeds lead there, and the
  -- others on from there. Each id that names an object at the point names that very object after the history exactly if it
  -- is still kept, and else none. If the session has an error at the point, it keeps one.
  pub record IsPoint (begins : SessionState T U) (done later : List (Deed T U)) (changes : List (List (Change (Kept U)))) (ends : SessionState T U) : Type 0 where
    pub point : SessionState T U
    pub first : List (List (Change (Kept U)))
    pub rest : List (List (Change (Kept U)))
    pub split : changes ≡ first ++ rest
    pub before : Follows makes begins done first point
    pub after_point : Follows makes point later rest ends
    pub stays : (id : IdParts) → IsSome (named point.store id) → StaysNamed serial_of first rest (objects_of ends) (id_of id)
    pub failed : IsSome point.error → StaysFailed later ends

  -- Of a history from the connecting on: ids name their own objects (`Handed`), and what ended is noted (`Noted`). And
  -- wherever it is divided, each id keeps what it names there, and an error that the session has there stays. All of this
  -- is said of the same changes.
  pub record IsAccountedFor (begins : SessionState T U) (deeds : List (Deed T U)) (ends : SessionState T U) : Type 0 where
    pub notes : NotesWhatEnded makes begins deeds ends
    pub points : (done later : List (Deed T U)) → deeds ≡ done ++ later → IsPoint begins done later notes.ids.changes ends

  -- each history from the connecting on that led to `before` leads, with this deed after it, to `after`, and is accounted for
  abbrev pub StaysAccountedFor : SessionState T U → Deed T U → SessionState T U → Type 0
  StaysAccountedFor before d after =
      (table : List InterfaceRow) (transport : T) (begun : SessionState T U) (deeds : List (Deed T U))
      → IsConnected table transport begun → History makes begun deeds before
      → History makes begun (deeds ++ d ∷ []) after × IsAccountedFor begun (deeds ++ d ∷ []) after

  -- What a public call does: it is a step with this reply, and it stays accounted for.
  pub record Calls (before : ClientState T U) (call : Step U) (answer : Reply U) (after : ClientState T U) : Type 0 where
    pub step : makes before.session call answer after.refused after.session
    pub accounted : StaysAccountedFor before.session (Called (record { step = call; answer = answer; refused = after.refused })) after.session

  -- the same for a change of the transport, which counts as a call
  pub record IsChange (before : SessionState T U) (t : T) (after : SessionState T U) : Type 0 where
    pub change : Does makes before (Changed t) after
    pub accounted : StaysAccountedFor before (Changed t) after

  -- And for a table that was to grow. The answer tells whether memory was refused.
  pub record IsGrowth (before : ClientState T U) (rows : Growth) (answer : Result (Unit {0}) TableError) (after : ClientState T U) : Type 0 where
    pub growth : Does makes before.session (Grown rows answer) after.session
    pub refused : after.refused ≡ refused_growth answer
    pub accounted : StaysAccountedFor before.session (Grown rows answer) after.session

module _ {T U : Type 0} where
  -- What a public call does that neither sends nor receives. Over every transport it is a step with this reply, and stays
  -- accounted for (`local_calls_are_calls` of `laws`).
  abbrev pub CallsLocally : ClientState T U → Step U → Reply U → ClientState T U → Type 0
  CallsLocally before call answer after = LocalCall before.session call answer after.refused after.session

module _ {T U R : Type 0} (lend : U → R → U → Type 0) where
  -- The closure is called once with the user data of the object that the id names. What it leaves is set as if `set_data` had
  -- been called with it. Without such data it is not called, and nothing is changed.
  abbrev pub LendsAsCall : ClientState T U → IdParts → Result R InvalidId → ClientState T U → Type 0
  LendsAsCall before id answer after =
      MatchOption (user_data_of before.session id) ((answer ≡ Err _) × (after ≡ record before { refused = false }))
      (λ u. (r : R) × (left : U) × lend u r left × (answer ≡ Ok r) × CallsLocally before (step.SetData id left) (reply.SetData (Ok tt)) after)

module _ {U : Type 0} where
  -- A history, and then steps that stopped because memory was refused in one of them; those before it have these replies.
  -- They lead, with that step if it was begun, to what is left. All is accounted for, and each part is cut.
  abbrev pub AccountsForStopped : SessionState Script U → List (Deed Script U) → List (Step U) → List (Reply U) → SessionState Script U → Type 0
  AccountsForStopped begun deeds steps replies ends =
      (last : List (Entry U)) × IsWhereItStops steps (length replies) last
      × History StepOf begun (deeds ++ called (entries steps replies ++ last)) ends
      × IsAccountedFor StepOf begun (deeds ++ called (entries steps replies ++ last)) ends
      × EachPartIsCut begun (deeds ++ called (entries steps replies ++ last))
