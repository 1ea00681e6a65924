-- What the end of an action does.
use Rattle.std.specs.Prelude.{◌≡◌, ℕ, List, [], ◌∷◌, ◌++◌, Bool, false, not, ◌&&◌, if◌then◌else◌, Option, None, Some, is_some, is_none, Result, Ok, Err, MatchOption, map}
use Rattle.wl_wire.specs.declared.error.IoFault.{IoFault}
use Rattle.wl_link.specs.declared.object.Object.{Object}
use Rattle.wl_link.specs.Exchange.{Queue}
use Rattle.wl_link.specs.Reader.{Verdict}
use Rattle.wl_link.specs.Refusals.{first_refusal, when}
use Rattle.wl_link.specs.Store.{Store, rewritten}
use Rattle.wl_server_client.specs.declared.reading.action.OpenAction.{OpenAction}
use Rattle.wl_server_client.specs.declared.reading.action.OpenAction.TheVariants as opened
use Rattle.wl_server_client.specs.declared.error.FinishError.{FinishError}
use Rattle.wl_server_client.specs.declared.error.FinishError.TheVariants as finish
use Rattle.wl_server_client.specs.declared.error.FinishRefused.{FinishRefused}
use Rattle.wl_server_client.specs.declared.objects.Kept.{Kept}
use Rattle.wl_server_client.specs.Deeds.{Deed, Noted, left_if}
use Rattle.wl_server_client.specs.Ids.{ClientParts, IdParts}
use Rattle.wl_server_client.specs.Objects.{unless_refused, without}
use Rattle.wl_server_client.specs.Part.{Part, id_of, named, note_of_end, with_user_data}
use Rattle.wl_server_client.specs.Telling.{Core, Did, Finish, OfBind, OfRequest, Tells, Told, core_of, deletions, tells}

-- why a request is not finished with these data, if memory is not refused: there have to be data exactly if the request
-- made an object; for a killed client they may be missing
abbrev pub refusal : {U : Type 0} → Bool → Option IdParts → Option U → Option FinishError
refusal killed created u =
    first_refusal
    (when (is_some created && (is_none u && not killed)) finish.MissingObjectData
    ∷ when (is_none created && is_some u) finish.UnexpectedData
    ∷ [])

abbrev pub unless_some : {E V : Type 0} → Option E → V → Option V
unless_some None v = Some v
unless_some (Some e) v = None

module _ {U : Type 0} where
  abbrev pub data_given : Store (Kept U) → ℕ → Option (Object (Kept U)) → U → Store (Kept U)
  data_given store n None u = store
  data_given store n (Some x) u = rewritten store n (with_user_data u x)

  -- the object that the action made gets the data, if it is still kept
  abbrev pub store_with_data : Store (Kept U) → Option IdParts → Option U → Store (Kept U)
  store_with_data store (Some id) (Some u) = data_given store id.number (named store id) u
  store_with_data store _ _ = store

  -- an object that is kept has the data; else they come back
  abbrev pub HoldsData : Option (Object (Kept U)) → U → Option U → Type 0
  HoldsData None u back = back ≡ Some u
  HoldsData (Some x) u back = (x.value.user_data ≡ Some u) × (back ≡ None)

  -- the object that a request ends: its own sender, while that is kept
  abbrev pub ended_by : Store (Kept U) → IdParts → Bool → Option (Object (Kept U))
  ended_by store sender is_destructor = if is_destructor then named store sender else None

module _ {U C : Type 0} where
  -- ---- an end that is accepted

  -- no action is open any longer
  abbrev pub core_finished : Core U C → Option IdParts → Option U → Core U C
  core_finished c created u = record c { action = None; store = store_with_data c.store created u }

  abbrev pub finish_verdict : Core U C → Option IdParts → Option U → Verdict (Core U C) (Told U)
  finish_verdict c created u = tells (core_finished c created u) []

  -- the sender is noted at once, if it left and had user data
  abbrev pub ending : ClientParts → IdParts → Object (Kept U) → Core U C → List (Told U)
  ending client id x c =
      if is_some (named c.store id)
      then []
      else map Did (map Noted (note_of_end client id.number x) ++ left_if (id_of id) x.value.user_data)

  -- A destructor request ends its own sender, if that is still kept: the client is told that the number is free, and the
  -- object leaves. If there is no memory for its note or for the message, nothing is done, and the action stays open.
  abbrev pub ends : ClientParts → Core U C → IdParts → Option (Object (Kept U)) → Option IdParts → Option U → Verdict (Core U C) (Told U)
  ends client c id None created u = finish_verdict c created u
  ends client c id (Some x) created u = record (finish_verdict (without c id.number x) created u) {
    puts = deletions id.number;
    asks = is_some x.value.user_data;
    starved = c;
    events = ending client id x;
  }

  abbrev pub ends_request : ClientParts → Core U C → IdParts → Bool → Option IdParts → Option U → Verdict (Core U C) (Told U)
  ends_request client c sender is_destructor created u = ends client c sender (ended_by c.store sender is_destructor) created u

  -- ---- the verdict if an open action is ended with these data; `None` if it cannot be

  abbrev pub finishing : ClientParts → Core U C → Option OpenAction → Finish U → Option (Verdict (Core U C) (Told U))
  finishing client c (Some (opened.Request sender is_destructor created)) (OfRequest u) =
      unless_some (refusal c.is_killed created u) (ends_request client c sender is_destructor created u)
  finishing client c (Some (opened.Bind object)) (OfBind u) = Some (finish_verdict c (Some object) (Some u))
  finishing client c _ _ = None

module _ {T U C : Type 0} where
  -- the error gives the data back, and nothing is changed
  abbrev pub Refuses : {D : Type 0} → Part T U C → D → FinishError → Result (Unit {0}) (FinishRefused D) → Bool → List (Deed U) → Part T U C
      → Type 0
  Refuses before d e answer refused did after =
      (answer ≡ Err (record { error = e; user_data = d })) × (refused ≡ false) × (did ≡ []) × (after ≡ before)

  -- ---- the end of a request

  abbrev pub EndsRequest : (T → Queue → Result ℕ IoFault → T → Type 0) → ClientParts → Part T U C → IdParts → Bool → Option IdParts
      → Option U → Result (Unit {0}) (FinishRefused (Option U)) → Bool → List (Deed U) → Part T U C → Type 0
  EndsRequest sends client before sender is_destructor created u answer refused did after =
      (answer ≡ unless_refused (record { error = finish.OutOfMemory; user_data = u }) refused)
      × Tells sends (ends_request client (core_of before) sender is_destructor created u) before.link refused did after

  abbrev pub FinishesOpen : (T → Queue → Result ℕ IoFault → T → Type 0) → ClientParts → Part T U C → OpenAction → Option U
      → Result (Unit {0}) (FinishRefused (Option U)) → Bool → List (Deed U) → Part T U C → Type 0
  FinishesOpen sends client before (opened.Bind _) u answer refused did after = Refuses before u finish.WrongKind answer refused did after
  FinishesOpen sends client before (opened.Request sender is_destructor created) u answer refused did after =
      MatchOption (refusal before.is_killed created u)
      (EndsRequest sends client before sender is_destructor created u answer refused did after)
      (λ e. Refuses before u e answer refused did after)

  -- the end of a request with these data
  abbrev pub FinishesRequest : (T → Queue → Result ℕ IoFault → T → Type 0) → ClientParts → Part T U C → Option U
      → Result (Unit {0}) (FinishRefused (Option U)) → Bool → List (Deed U) → Part T U C → Type 0
  FinishesRequest sends client before u answer refused did after =
      MatchOption before.action (Refuses before u finish.NoOpenAction answer refused did after)
      (λ a. FinishesOpen sends client before a u answer refused did after)

  -- ---- the end of a bind

  abbrev pub FinishesOpenBind : Part T U C → OpenAction → U → Result (Unit {0}) (FinishRefused U) → Bool → List (Deed U) → Part T U C → Type 0
  FinishesOpenBind before (opened.Request _ _ _) u answer refused did after = Refuses before u finish.WrongKind answer refused did after
  FinishesOpenBind before (opened.Bind object) u answer refused did after =
      (answer ≡ Ok tt) × (refused ≡ false) × (did ≡ [])
      × (after ≡ record before { action = None; store = store_with_data before.store (Some object) (Some u) })

  -- the end of a bind with these data
  abbrev pub FinishesBind : Part T U C → U → Result (Unit {0}) (FinishRefused U) → Bool → List (Deed U) → Part T U C → Type 0
  FinishesBind before u answer refused did after =
      MatchOption before.action (Refuses before u finish.NoOpenAction answer refused did after)
      (λ a. FinishesOpenBind before a u answer refused did after)
