-- An object's data are lent to a closure, and set to what it leaves.
use Rattle.std.proofs.Common.{◌≡◌, Bool, false, Option, None, Some, Result, Ok, Err, MatchOption, refl, arith}
use Rattle.std.specs.Prelude.{option_map, slice_set}
use Rattle.wl_link.specs.declared.object.Object.{Object}
use Rattle.wl_link.specs.Store.{Store, rewritten}
use Rattle.wl_server_client.specs.declared.error.InvalidId.{InvalidId}
use Rattle.wl_server_client.specs.declared.objects.Kept.{Kept}
use Rattle.wl_server_model.specs.declared.step.Reply.TheVariants as reply
use Rattle.wl_server_model.specs.declared.step.Step.TheVariants as step
use Rattle.wl_server_model.specs.Backend.{BackendState, Calls}
use Rattle.wl_server_client.specs.DataInPlace.{LendsDataIn}
use Rattle.wl_server_model.specs.Plain.DataInPlace.{LendsObjectData}
use Rattle.wl_server_client.specs.Ids.{ClientParts, IdParts}
use Rattle.wl_server_model.specs.Lookups.{and_then, object_data_of}
use Rattle.wl_server_model.specs.NoteOrder.{AllNumbered}
use Rattle.wl_server_client.specs.Part.{named, with_user_data}
use Rattle.wl_server_model.specs.PartStep.{World}
use Rattle.wl_server_model.specs.Plain.{SetsObjectData}
use Rattle.wl_server_model.specs.Server.{ServerState, client_at}
use Rattle.wl_server_client.specs.Stored.{Stored}
use Rattle.wl_server.proofs.CallSteps.OneClient.{done_to}
use Rattle.wl_server_model.proofs.CallSteps.Slots.{slot_of_client}
use Rattle.wl_server_client.proofs.CallSteps.Numbers.{in_time_none}
use Rattle.wl_server_model.proofs.CleanupSteps.Gathering.{set_itself}
use Rattle.wl_server_model.proofs.Plain.Objects.{sets_object_data}
use Rattle.wl_server_model.proofs.ObjectCalls.Setting.{set_does, sets}

abbrev data_in : {U : Type 0} → Option (Object (Kept U)) → Option U
data_in found = and_then found (λ x. x.value.user_data)

module _ {T U G C R : Type 0} (call : U → R → U → Type 0) (w : World T G C) (before : ServerState T U G C) (was : Bool) (o : IdParts)
    (answer : Result R InvalidId) where
  -- what is looked up at the client that is stored
  looked_up : (read : ClientParts) (stored : Option (Stored T U C)) → read ≡ o.client → stored ≡ client_at read before.clients
      → object_data_of before o ≡ data_in (and_then (option_map (λ s. s.part) stored) (λ p. named p.store o))
  looked_up read stored same is = grind (arith, option_map, client_at)

  pub lends_none : (read : ClientParts) → read ≡ o.client → None ≡ client_at read before.clients → answer ≡ Err _
      → LendsObjectData call w (record { server = before; refused = was }) o answer (record { server = before; refused = false })
  lends_none read same none is = rw (looked_up read None same none) (is, refl)

  module _ (read : ClientParts) (s : Stored T U C) (same : read ≡ o.client) (there : Some s ≡ client_at read before.clients)
      (all : AllNumbered before.clients) where
    abbrev at_slot : Stored T U C → BackendState T U G C
    at_slot c = record { server = record before { clients = slice_set before.clients read.slot (Some c) }; refused = false }

    abbrev having : Store (Kept U) → Stored T U C
    having store = record { serial = s.serial; part = record s.part { store = store }; made = s.made; times = s.times }

    abbrev Lent : Option (Object (Kept U)) → Store (Kept U) → Type 0
    Lent found store =
        MatchOption (data_in found) ((answer ≡ Err _) × (at_slot (having store) ≡ record { server = before; refused = false }))
        (λ u. (r : R) × (left : U) × call u r left × (answer ≡ Ok r)
        × Calls w (record { server = before; refused = was }) (step.SetObjectData o left) (reply.SetObjectData (Ok tt)) (at_slot (having store))
        × SetsObjectData (record { server = before; refused = was }) o left (Ok tt) (at_slot (having store)))

    lent_with : (x : Object (Kept U)) (kept_data : Option U) → named s.part.store o ≡ Some x → x.value.user_data ≡ kept_data
        → (store : Store (Kept U))
        → MatchOption kept_data ((answer ≡ Err _) × (store ≡ s.part.store))
        (λ u. (r : R) × (left : U) × call u r left × (answer ≡ Ok r) × (store ≡ rewritten s.part.store o.number (with_user_data left x)))
        → Lent (Some x) store
    lent_with x None found is store (err, none) = rw is (err, (grind (arith, slot_of_client, at_slot, having, set_itself)))
    lent_with x (Some u) found is store (r, left, called, ok, written) =
        let set = done_to _ _ _ _ refl o.client (sets o left (Ok tt)) (◌≡◌ {A = Result (Unit {0}) InvalidId} (Ok tt) (Err _))
        (λ i l d b a h. (_, refl, h)) read s (having store) false same there
        (set_does s o left (Ok tt) store (rw found refl) (rw found written)) before.numbers (in_time_none s.times before.numbers)
        (λ is. is) all in rw is (r, left, called, ok, set, sets_object_data o left (Ok tt) set)

    pub lends_stored : (store : Store (Kept U)) → LendsDataIn call s.part.store o answer store
        → LendsObjectData call w (record { server = before; refused = was }) o answer (at_slot (having store))
    lends_stored store h = rw (looked_up read (Some s) same there)
        (grind (arith, slot_of_client, at_slot, having, set_itself, lent_with, named s.part.store o))
