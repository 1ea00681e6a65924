-- Worked registries that are handed out, computed from the definitions: they say what was meant.
use Rattle.std.proofs.Common.{◌≡◌, ℕ, ◌+◌, Bool, [], ◌∷◌, None, Some, Ok, true, false, refl}
use Rattle.wl_wire.specs.Table.{display_id, registry_id}
use Rattle.wl_link.specs.Store.{held, rewritten, stored}
use Rattle.wl_link.specs.Identity.{New}
use Rattle.wl_server_client.specs.declared.reading.action.OpenAction.TheVariants as opened
use Rattle.wl_server_client.specs.declared.reading.response.RequestFault.TheVariants as wrong
use Rattle.wl_server_client.specs.declared.reading.violation.MessageFault.TheVariants as fault
use Rattle.wl_server_client.specs.declared.reading.violation.Violation.{Violation}
use Rattle.wl_server_model.specs.declared.step.Reply.TheVariants as reply
use Rattle.wl_server_model.specs.declared.step.Step.TheVariants as step
use Rattle.wl_wire.specs.declared.argument.Argument.TheVariants as arg
use Rattle.wl_server_client.specs.Deeds.{Acted, registries_in}
use Rattle.wl_server_client.specs.Deeds as deeds
use Rattle.wl_server_client.specs.Errors.{new_id_text}
use Rattle.wl_server_client.specs.Finish.{FinishesBind}
use Rattle.wl_server_client.specs.Globals.{Globals, keeping, new_offer}
use Rattle.wl_server_model.specs.HandedIds.{action_ids}
use Rattle.wl_server_client.specs.Part.{Part, fresh_object}
use Rattle.wl_server_model.specs.PartStep.{Asked, PartStep, World}
use Rattle.wl_server_client.specs.Reading.{Around, breaks, display_request, hands_out}
use Rattle.wl_server_client.specs.Requests.{is_valid_new}
use Rattle.wl_server_model.specs.Server.{Seen}
use Rattle.wl_server_model.specs.Steps.{offer_after}
use Rattle.wl_server_client.specs.Telling.{Core, objects_in}
use Rattle.wl_server_client.specs.Violations.{Addressed, violation}
use Rattle.wl_server_model.proofs.Worked.Messages.{client, id_in, says, table}

-- ---- the setting

-- a new server does not hand them out; the setting changes nothing else of what is offered, nor does another setting change it
setting : ((new_offer {G = ℕ} table).hands_registries ≡ false)
    × (offer_after {T = ℕ} {U = ℕ} {G = ℕ} {C = Bool} (new_offer table) (Asked (step.HandOutRegistries true) reply.HandOutRegistries)
    ≡ record (new_offer table) { hands_registries = true })
    × (offer_after {T = ℕ} {U = ℕ} {G = ℕ} {C = Bool} (record (new_offer table) { hands_registries = true })
    (Asked (step.KeepGlobalNames true) reply.KeepGlobalNames) ≡ record (keeping (new_offer table) true) { hands_registries = true })
    × (offer_after {T = ℕ} {U = ℕ} {G = ℕ} {C = Bool} (record (new_offer table) { hands_registries = true })
    (Asked (step.HandOutRegistries false) reply.HandOutRegistries) ≡ new_offer table)
setting = (refl, refl, refl, refl)

-- it does nothing to a client
felt_by_none : (w : World ℕ ℕ Bool) (s : Seen ℕ ℕ Bool)
    → PartStep w client (new_offer table) (step.HandOutRegistries true) reply.HandOutRegistries s false [] s
felt_by_none w s = (refl, (refl, refl, refl))

-- ---- a client asks

module _ (globals : Globals ℕ) (c : Core ℕ Bool) where
  abbrev handing : Around ℕ Bool
  handing = record { table = table; client = client; globals = globals; views = says; object_limit = None; hands_registries = true }

  -- the display, and its request 1
  abbrev display : Addressed
  display = record { sender = 1; interface = display_id; opcode = 1 }

  abbrev bad_new : ℕ → Violation
  bad_new n = violation display (fault.WrongArgument 0 (wrong.InvalidNewId n))

  -- the registry is the action: nothing is put, and it is none of those that are told of globals
  a_registry : is_valid_new (objects_in c) 2 ≡ true → display_request handing c display 1 (arg.NewId 2 ∷ [])
      ≡ hands_out (record c {
        store = stored c.store 2 (fresh_object registry_id 1 (c.last_serial + 1) None);
        last_serial = c.last_serial + 1;
      }) (opened.Bind (id_in client 2 (c.last_serial + 1) registry_id)) (deeds.Registry (id_in client 2 (c.last_serial + 1) registry_id))
  a_registry valid = rw valid refl

  -- a new id that is not free, or of the server's range, breaks the protocol, as ever
  refused_registries : (is_valid_new (objects_in c) 5 ≡ false
      → display_request handing c display 1 (arg.NewId 5 ∷ []) ≡ breaks handing c (bad_new 5) 0 (new_id_text 5))
      × (display_request handing c display 1 (arg.NewId 0xFF000000 ∷ []) ≡ breaks handing c (bad_new 0xFF000000) 0 (new_id_text 0xFF000000))
  refused_registries = (λ taken. rw taken refl, refl)

  -- it is made for the client, and no registry that the law of announcements speaks of
  not_announced : registries_in {U = ℕ} (Acted (deeds.Registry (id_in client 2 1 registry_id)) ∷ []) ≡ []
  not_announced = refl

  -- its id is handed out, as that of a new object
  its_id : action_ids (deeds.Registry (id_in client 2 1 registry_id)) ≡ New (id_in client 2 1 registry_id) ∷ []
  its_id = refl

-- ---- its end

-- the registry gets the data
finished : (p : Part ℕ ℕ Bool) → p.action ≡ Some (opened.Bind (id_in client 2 1 registry_id))
    → held p.store 2 ≡ Some (fresh_object registry_id 1 1 None)
    → FinishesBind p 9 (Ok tt) false [] (record p { action = None; store = rewritten p.store 2 (fresh_object registry_id 1 1 (Some 9)) })
finished p action holds = rw action (rw holds (refl, refl, refl, refl))
