-- When the number of an object is free again: not before both sides have given the object up. The client has destroyed it, or an
-- event did; and the server has deleted its id. That is said of the numbers of the client's range, which requests take. Those of
-- the server's range the server uses again without a `delete_id`, once the client has destroyed the object.
use Rattle.std.specs.Prelude.{◌≡◌, ℕ, ◌⊎◌, List, [], ◌∷◌, ◌++◌, true, false, None, Some, Result, Ok, MatchOption}
use Rattle.wl_wire.specs.declared.argument.Argument.TheVariants as arg
use Rattle.wl_wire.specs.declared.error.IoFault.{IoFault}
use Rattle.wl_wire.specs.Message.{WireMessage}
use Rattle.wl_link.specs.declared.object.Object.{Object}
use Rattle.wl_link.specs.Exchange.{Queue}
use Rattle.wl_link.specs.Link.{LinkState}
use Rattle.wl_link.specs.Reader.{Gives, Handled, ReaderState, Reads, ReadsAs, Turn}
use Rattle.wl_link.specs.Store.{held}
use Rattle.wl_client.specs.declared.objects.Kept.{Kept}
use Rattle.wl_client.specs.declared.step.Step.TheVariants as step
use Rattle.wl_client.specs.Histories.{Called, Changed, Deed, Does, Grown, History}
use Rattle.wl_client.specs.Reading.{client, reader_state_of, receives_allowed}
use Rattle.wl_client.specs.ReadingEnds.{TurnLeads}
use Rattle.wl_client.specs.Requests.{SessionMessage}
use Rattle.wl_client.specs.Session.{Core, SessionState}
use Rattle.wl_client.specs.Steps.{CallOf}

-- ---- the server deletes an id

-- the message is `wl_display.delete_id` of this number
abbrev pub IsDelete : ℕ → WireMessage → Type 0
IsDelete n m = (m.sender ≡ 1) × (m.opcode ≡ 1) × (m.args ≡ arg.Uint n ∷ [])

module _ {T U : Type 0} (sends : T → Queue → Result ℕ IoFault → T → Type 0) (receives : T → ℕ → Result Queue IoFault → T → Type 0) where
  -- a turn of a reading took such a message
  abbrev pub TookDelete : ℕ → Turn → ReaderState T (Core U) → Type 0
  TookDelete n (Handled es) before = (m : WireMessage) × (link : LinkState T) × ReadsAs sends client before (Ok m) link × IsDelete n m
  TookDelete n _ before = ⊥

  -- one of the turns did
  abbrev pub SomeTookDelete : ℕ → ReaderState T (Core U) → List Turn → Type 0
  SomeTookDelete n start [] = ⊥
  SomeTookDelete n start (t ∷ turns) =
      TookDelete n t start ⊎ ((mid : ReaderState T (Core U)) × TurnLeads sends receives t start mid × SomeTookDelete n mid turns)

  -- a reading leads from one session to the other, and in it the server deleted the id of this number
  abbrev pub ReadsDelete : ℕ → SessionState T U → SessionState T U → Type 0
  ReadsDelete n before after =
      (turns : List Turn) × (out : Gives SessionMessage)
      × Reads sends client receives receives_allowed (reader_state_of before) turns out (reader_state_of after)
      × SomeTookDelete n (reader_state_of before) turns

  -- the deed is such a reading
  abbrev pub DeletesId : ℕ → SessionState T U → Deed T U → SessionState T U → Type 0
  DeletesId n before (Called e) after = (e.step ≡ step.NextEvent) × ReadsDelete n before after
  DeletesId n before (Changed t) after = ⊥
  DeletesId n before (Grown growth answer) after = ⊥

  -- ---- what a deed makes of a number

  -- the object keeps its number; if its id is deleted then, it was so before, or the deed deletes it
  abbrev pub KeepsNumber : ℕ → Object (Kept U) → SessionState T U → Deed T U → SessionState T U → Type 0
  KeepsNumber n x before d after =
      (y : Object (Kept U)) × (held after.store n ≡ Some y) × (y.value.serial ≡ x.value.serial)
      × (y.value.id_deleted ≡ true → (x.value.id_deleted ≡ true) ⊎ DeletesId n before d after)

  -- Its number holds none, and both sides have given the object up. The client had destroyed it; and the server had deleted its
  -- id, or the deed deletes it.
  abbrev pub LeavesNumber : ℕ → Object (Kept U) → SessionState T U → Deed T U → SessionState T U → Type 0
  LeavesNumber n x before d after =
      (held after.store n ≡ None) × (x.value.client_destroyed ≡ true) × ((x.value.id_deleted ≡ true) ⊎ DeletesId n before d after)

  -- an object that takes the number is one whose id is not deleted
  abbrev pub NumberMoves : ℕ → SessionState T U → Deed T U → SessionState T U → Type 0
  NumberMoves n before d after =
      MatchOption (held before.store n)
      ((y : Object (Kept U)) → held after.store n ≡ Some y → y.value.id_deleted ≡ false)
      (λ x. KeepsNumber n x before d after ⊎ LeavesNumber n x before d after)

  -- ---- over a history

  -- the deed of a history in which the object leaves its number; the deeds before it lead there, and the later ones on
  pub record LeftNumber (n : ℕ) (x : Object (Kept U)) (begins : SessionState T U) (deeds : List (Deed T U)) (ends : SessionState T U) : Type 0 where
    pub earlier : List (Deed T U)
    pub deed : Deed T U
    pub later : List (Deed T U)
    pub split : deeds ≡ earlier ++ deed ∷ later
    pub before : SessionState T U
    pub after : SessionState T U
    pub leads : History (CallOf sends receives) begins earlier before
    pub does : Does (CallOf sends receives) before deed after
    pub goes_on : History (CallOf sends receives) after later ends
    pub object : Object (Kept U)
    pub holds : held before.store n ≡ Some object
    pub same : object.value.serial ≡ x.value.serial
    pub leaves : LeavesNumber n object before deed after

  -- the object still has its number after the history, or it left it in one of the deeds
  abbrev pub HasOrLeft : ℕ → Object (Kept U) → SessionState T U → List (Deed T U) → SessionState T U → Type 0
  HasOrLeft n x begins deeds ends =
      ((y : Object (Kept U)) × (held ends.store n ≡ Some y) × (y.value.serial ≡ x.value.serial)) ⊎ LeftNumber n x begins deeds ends
