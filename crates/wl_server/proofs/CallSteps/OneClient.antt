-- A call that is about one client, as a step of the server.
use Rattle.std.proofs.Common.{◌≡◌, ℕ, Bool, true, false, not, List, [], Option, None, Some, refl, sym, arith}
use mathlib.Core.Logic.{inr}
use Rattle.std.specs.Prelude.{slice_get, slice_set}
use Rattle.std.proofs.lemmas.Bool.{false≢true}
use Rattle.wl_wire.specs.Table.{InterfaceRow}
use Rattle.wl_link.specs.Store.{Store}
use Rattle.wl_server_client.specs.declared.globals.KeptGlobal.{KeptGlobal}
use Rattle.wl_server_client.specs.declared.notes.Note.{Note}
use Rattle.wl_server_client.specs.declared.notes.queues.NoteNumbers.{NoteNumbers}
use Rattle.wl_server_model.specs.declared.step.Reply.{Reply}
use Rattle.wl_server_model.specs.declared.step.Step.{Step}
use Rattle.wl_server_model.specs.declared.step.Step.TheVariants as step
use Rattle.wl_server_model.proofs.OverRuns.Alone.AccountLaws.{calls}
use Rattle.wl_server_model.specs.Backend.{Calls}
use Rattle.wl_server_client.specs.Inside.Client.{Does}
use Rattle.wl_server_model.specs.NoteOrder.{AllNumbered}
use Rattle.wl_server_client.specs.NoteTimes.{IsNumbered, NotesInTime}
use Rattle.wl_server_client.specs.Deeds.{Deed}
use Rattle.wl_server_client.specs.Globals.{Offer}
use Rattle.wl_server_client.specs.Ids.{ClientParts, same_client}
use Rattle.wl_server_model.specs.PartStep.{Asked, Call, Changed, OfClient, PartCall, PartStep, Quietly, WithTransport, World}
use Rattle.wl_server_client.specs.Lending.{over_transport}
use Rattle.wl_server.specs.Lending.{server_over}
use Rattle.wl_server_model.specs.Server.{Seen, ServerState, client_at, notes_of, seen_as}
use Rattle.wl_server_client.specs.Stored.{Stored}
use Rattle.wl_server_model.specs.Steps.{Makes, AnswersShared, lacks_growth, offer_after}
use Rattle.wl_server_model.proofs.CallSteps.Numbering.{each_stays, set_in_time, all_same}
use Rattle.wl_server_client.proofs.CallSteps.Numbers.{in_time_none}
use Rattle.wl_server_client.proofs.CallSteps.Doing.{does_quietly}
use Rattle.wl_server_model.proofs.CallSteps.Slots.{Kind, did_at, each_set, lacks_at, same_self, slot_of_client, same_is}
use Rattle.wl_server_model.proofs.CallSteps.Feeling.{step_by, step_of, IsFelt}

-- a call that is about one client: nothing changes that all share, and no memory is wanted but for that client
record IsOwn {T U G C : Type 0} (call : Call T U G C) : Type 0 where
  pub felt : IsFelt call
  pub offer : (offer : Offer G) → offer_after offer call ≡ offer
  pub global : (offer : Offer G) → AnswersShared offer call
  pub growth : lacks_growth call ≡ false

-- whether this is such a call; all but ten are
abbrev pub is_own : {T U G C : Type 0} → Step T U G C → Reply T U → Bool
is_own (step.InsertClient _ _) answer = false
is_own (step.CreateGlobal _ _ _) answer = false
is_own (step.DisableGlobal _) answer = false
is_own (step.RemoveGlobal _) answer = false
is_own (step.KeepGlobalNames _) answer = false
is_own (step.HandOutRegistries _) answer = false
is_own (step.SetDefaultMaxBufferSize _) answer = false
is_own (step.SetObjectLimit _) answer = false
is_own step.Cleanup answer = false
is_own step.TakeNotes answer = false
is_own s answer = not (lacks_growth (Asked s answer))

-- a server of these values
abbrev pub held_by : {T U G C : Type 0} → List InterfaceRow → Store (KeptGlobal G) → ℕ → Bool → ℕ → Option ℕ → Bool → ℕ
    → List (Option (Stored T U C)) → List (Note U) → NoteNumbers → ServerState T U G C
held_by table globals last_global keeps_names default_limit object_limit hands_registries last_client clients notes numbers = record {
  offer = record {
    table = table;
    globals = record { store = globals; last_serial = last_global; keeps_names = keeps_names };
    default_limit = default_limit;
    object_limit = object_limit;
    hands_registries = hands_registries;
  };
  last_client = last_client;
  clients = clients;
  notes = notes;
  numbers = numbers;
}

module _ {T U G C : Type 0} (w : World T G C) (before : ServerState T U G C) (call : Call T U G C) (own : IsOwn call) (target : ClientParts)
    (R : Kind T U C) (missing : Type 0)
    (to : (id : ClientParts) (lacked : Bool) (did : List (Deed U)) (b a : Seen T U C) → OfClient (same_client target id) b
    (λ p q. R id p lacked did q) missing lacked did a
    → PartCall w id before.offer call b lacked did a) where
  -- it was done to the client of that slot
  own_call : (c c' : Stored T U C) (lacked : Bool) → slice_get before.clients target.slot ≡ Some (Some c) → c.serial ≡ target.serial
      → Does c (λ p did q. R target p lacked did q) c' → (numbers' : NoteNumbers) → NotesInTime c.times before.numbers c'.times numbers'
      → (IsNumbered (Some c) → IsNumbered (Some c')) → AllNumbered before.clients
      → Makes w before call lacked (record before { clients = slice_set before.clients target.slot (Some c'); numbers = numbers' })
  own_call c c' lacked here known (did, q, does, is) numbers' times numbered all =
      step_by w before call lacked (λ id. lacks_at (same_client target id) lacked) (λ id. did_at (same_client target id) did) _
      (sym (own.offer before.offer)) (grind (arith, own.felt.last))
      (own.felt.client before) (own.global before.offer) own.felt.order (own.felt.room before)
      (λ is. inr (target, rw (same_self target) is), λ h. (grind (arith, false≢true, lacks_at, own.growth)))
      (own.felt.notes before _ (record {
        gathered = refl;
        times = set_in_time before.clients target.slot (Some c) (Some c') before.numbers numbers' here times;
        numbered = each_stays IsNumbered before.clients target.slot (Some c) (Some c') here numbered all;
      }))
      (λ id. to id _ _ _ _ (each_set before.clients before.notes target c c' R missing lacked did q here known does is id))

  -- there is no such client
  no_such_client : client_at target before.clients ≡ None → missing → AllNumbered before.clients → Makes w before call false before
  no_such_client none is all =
      step_of w before call false (λ id. []) before (sym (own.offer before.offer)) (grind (arith, own.felt.last)) (own.felt.client before)
      (own.global before.offer) own.felt.order (own.felt.room before) own.growth
      (own.felt.notes before before (record { gathered = refl; times = all_same _ _ _ refl; numbered = all }))
      (λ id. to id _ _ _ _ (grind (arith, same_is target id, none, seen_as, notes_of, same_client target id)))

module _ {T U G C : Type 0} (w : World T G C) (before : ServerState T U G C) (s : Step T U G C) (answer : Reply T U) (is_one : is_own s answer ≡ true)
    (target : ClientParts)
    (R : Kind T U C) (missing : Type 0)
    (to : (id : ClientParts) (lacked : Bool) (did : List (Deed U)) (b a : Seen T U C) → OfClient (same_client target id) b
    (λ p q. R id p lacked did q) missing lacked did a
    → PartStep w id before.offer s answer b lacked did a) where
  own_step : IsOwn (Asked s answer)
  own_step = grind (arith, false≢true, lacks_growth)

  -- the same of the client that was looked up by the id, as this was read
  pub done_to : {was : Bool} (read : ClientParts) (c c' : Stored T U C) (lacked : Bool) → read ≡ target → Some c ≡ client_at read before.clients
      → Does c (λ p did q. R target p lacked did q) c' → (numbers' : NoteNumbers) → NotesInTime c.times before.numbers c'.times numbers'
      → (IsNumbered (Some c) → IsNumbered (Some c')) → AllNumbered before.clients
      → Calls w (record { server = before; refused = was }) s answer
      (record { server = record before { clients = slice_set before.clients read.slot (Some c'); numbers = numbers' }; refused = lacked })
  done_to read c c' lacked same is does numbers' times numbered all =
      let has = slot_of_client before.clients target c (rw same at is) in
      calls _ _ _ _ _ (rw same (own_call w before
      (Asked s answer) own_step target R missing to c c' lacked has.0 has.1 does numbers' times numbered all))

  pub none_stored : {was : Bool} (read : ClientParts) → read ≡ target → None ≡ client_at read before.clients → missing → AllNumbered before.clients
      → Calls w (record { server = before; refused = was }) s answer (record { server = before; refused = false })
  none_stored read same none is all = calls _ _ _ _ _ (no_such_client w before (Asked s answer) own_step target R missing to
      (sym (rw same at none)) is all)

-- the program changed the transport of a stored client
pub changed : {T U G C : Type 0} (w : World T G C) (before : ServerState T U G C) (target : ClientParts) (t : T) (c : Stored T U C)
    → slice_get before.clients target.slot ≡ Some (Some c)
    → c.serial ≡ target.serial → AllNumbered before.clients → Makes w before (Changed target t) false (server_over before target t)
changed {T} {U} {G} {C} w before target t c here known all =
    let R : Kind T U C = λ id p lacked did q. Quietly lacked did (WithTransport (λ _ t'. t' ≡ t) p q) in
    rw here (own_call w before (Changed target t) (grind (arith)) target R (Unit {0}) (λ i l d b a h. h) c (over_transport c t) false here known
    (does_quietly c (λ p did q. R target p false did q) _ (refl, refl, (t, refl, refl))) before.numbers (in_time_none c.times before.numbers)
    (λ is. is) all)
