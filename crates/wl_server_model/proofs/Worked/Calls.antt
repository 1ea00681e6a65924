-- Worked requests of a client, and calls of a program, computed from the definitions: they say what was meant.
use Rattle.std.proofs.Common.{◌≡◌, ℕ, ◌+◌, Bool, List, [], ◌∷◌, ◌++◌, Option, Some, None, true, false, refl, Result, Ok, Err, inl, ap}
use Rattle.std.specs.Prelude.{codes, map, pos}
use Rattle.wl_wire.specs.Argument.{WireArgument}
use Rattle.wl_wire.specs.Message.{WireMessage}
use Rattle.wl_wire.specs.Table.{callback_id, display_id, registry_id, anonymous_id}
use Rattle.wl_link.specs.declared.object.Object.{Object}
use Rattle.wl_link.specs.Store.{removed, stored, Store, held}
use Rattle.wl_server_client.specs.declared.objects.Kept.{Kept}
use Rattle.wl_server_client.specs.declared.notes.DisconnectReason.TheVariants.{ConnectionClosed, ProtocolError as BrokeProtocol}
use Rattle.wl_server_client.specs.Deeds.{Remembered, Request, Left, Noted}
use Rattle.wl_server_client.specs.Errors.{bind_text, error_of, fault_text, new_id_text, since_text, PostsError}
use Rattle.wl_server_client.specs.Globals.{Globals, shown}
use Rattle.wl_server_client.specs.Part.{display_of, fresh_object, Part, display_object, registries_without}
use Rattle.wl_server_client.specs.Reading.{Around, binds_to, breaking, breaks, display_request, garbled, hands_out, may_bind, other_request, registry_request, replies, request, request_to, NextAction, new_reading, read_on}
use Rattle.wl_server_client.specs.Requests.{is_valid_new, Wrong, convert, object_argument, object_found, start}
use Rattle.wl_server_client.specs.Telling.{Core, Stops, closed_down, delete_message, done_message, introductions, killed, objects_in, Kills, global_message, making, removal_message}
use Rattle.wl_server_client.specs.Violations.{Addressed, violation}
use Rattle.wl_server_client.specs.declared.reading.violation.MessageFault.TheVariants as broken
use Rattle.wl_server_client.specs.declared.reading.violation.Violation.{Violation}
use Rattle.wl_server_model.proofs.Worked.Messages.{at, client, destroy_row, id_in, link_row, make_row, quad, quad_global, quad_id, says, table, one, other}
use Rattle.std.specs.FinMap.{entries}
use Rattle.wl_wire.specs.declared.argument.Argument.{Argument}
use Rattle.wl_wire.specs.declared.argument.Token.{Token}
use Rattle.wl_wire.specs.declared.error.IoFault.{IoFault}
use Rattle.wl_wire.specs.MessageRows.{fits}
use Rattle.wl_link.specs.Exchange.{Queue}
use Rattle.wl_server_client.specs.declared.reading.action.OpenAction.{OpenAction}
use Rattle.wl_server_client.specs.declared.reading.action.Reading.{Reading}
use Rattle.wl_server_client.specs.declared.error.ActionError.TheVariants.{ActionOpen, Io}
use Rattle.wl_server_client.specs.declared.error.EventError.{EventError}
use Rattle.wl_server_client.specs.Events.{SendsEvent, SessionMessage, checked_sender, found_fault}
use Rattle.wl_server_client.specs.Felt.{Cleaned, Hears, news, objects_leave, removals}
use Rattle.wl_server_client.specs.Finish.{FinishesBind, FinishesRequest, refusal}
use Rattle.wl_server_client.specs.Ids.{IdParts}
use Rattle.wl_server_client.specs.Objects.{Destroys}
use Rattle.wl_link.specs.Identity.{Objects}
use Rattle.wl_wire.specs.declared.argument.Argument.TheVariants as arg
use Rattle.wl_wire.specs.declared.error.IoFault.TheVariants as fault
use Rattle.wl_server_client.specs.declared.reading.action.OpenAction.TheVariants as opened
use Rattle.wl_server_client.specs.declared.reading.response.RequestFault.TheVariants as wrong
use Rattle.wl_server_client.specs.Deeds as deeds
use Rattle.wl_server_client.specs.declared.error.DestroyError.TheVariants as destroy
use Rattle.wl_server_client.specs.declared.error.EventError.TheVariants as refused
use Rattle.wl_server_client.specs.declared.error.FinishError.TheVariants as finish
use Rattle.wl_server_client.specs.declared.notes.Happening.TheVariants as happened

-- a `quad` of the first version
abbrev old_quad : Object (Kept ℕ)
old_quad = fresh_object quad_id 1 2 (Some 6)

abbrev message : ℕ → ℕ → List WireArgument → WireMessage
message sender opcode args = record { sender = sender; opcode = opcode; args = args }

module _ (globals : Globals ℕ) (c : Core ℕ Bool) where
  abbrev around : Around ℕ Bool
  around = record { table = table; client = client; globals = globals; views = says; object_limit = None; hands_registries = false }

  abbrev seeing : Bool → Core ℕ Bool
  seeing client_data = record c { client_data = client_data }

  -- the object 7 and its request 0
  abbrev seven : Addressed
  seven = record { sender = 7; interface = quad_id; opcode = 0 }

  -- the argument at that place may not be the new id
  abbrev bad_new : Addressed → ℕ → ℕ → Violation
  bad_new to place n = violation to (broken.WrongArgument place (wrong.InvalidNewId n))

  -- ---- requests to a display

  -- the callback is gone before anything else is read, its serial is used, and both messages are put
  a_sync : is_valid_new (objects_in c) 2 ≡ true → display_request around c seven 0 (arg.NewId 2 ∷ [])
      ≡ replies (record c {
        store = removed (stored c.store 2 (fresh_object callback_id 1 (c.last_serial + 1) None)) 2;
        last_serial = c.last_serial + 1;
      }) (done_message (at 2 (c.last_serial + 1)) ∷ delete_message 2 ∷ []) []
  a_sync valid = rw valid refl

  a_registry : is_valid_new (objects_in c) 2 ≡ true → display_request around c seven 1 (arg.NewId 2 ∷ [])
      ≡ replies (record c {
        store = stored c.store 2 (fresh_object registry_id 1 (c.last_serial + 1) None);
        last_serial = c.last_serial + 1;
        registries = c.registries ++ at 2 (c.last_serial + 1) ∷ [];
      }) (introductions table (at 2 (c.last_serial + 1)) 0 (shown says globals client c.client_data)) (Remembered (at 2 (c.last_serial + 1)) ∷ [])
  a_registry valid = rw valid refl

  -- a new id of the server's range is not free to the client
  a_sync_of_the_servers_range : display_request around c seven 0 (arg.NewId 0xFF000000 ∷ [])
      ≡ breaks around c (bad_new seven 0 0xFF000000) 0 (new_id_text 0xFF000000)
  a_sync_of_the_servers_range = refl

  -- a new id that is not the first unused one, while the others hold objects
  a_sync_of_a_number_too_far : is_valid_new (objects_in c) 5 ≡ false
      → display_request around c seven 0 (arg.NewId 5 ∷ []) ≡ breaks around c (bad_new seven 0 5) 0 (new_id_text 5)
  a_sync_of_a_number_too_far taken = rw taken refl

  -- ---- requests to a registry

  abbrev may : Bool → Bool → Option (List ℕ) → ℕ → Bool
  may client_data disabled name version = may_bind around (seeing client_data) 1 name version (quad_global disabled)

  binds_that_may_be : (may true false (Some (codes "quad")) 3 ≡ true) × (may true false (Some (codes "quad")) 1 ≡ true)
      × (may true true (Some (codes "quad")) 1 ≡ true)
  binds_that_may_be = (refl, refl, refl)

  -- hidden, version 0, above the version, another name, no name
  binds_that_may_not : (may false false (Some (codes "quad")) 3 ≡ false) × (may true false (Some (codes "quad")) 0 ≡ false)
      × (may true false (Some (codes "quad")) 4 ≡ false) × (may true false (Some (codes "quads")) 3 ≡ false)
      × (may true false None 3 ≡ false)
  binds_that_may_not = (refl, refl, refl, refl, refl)

  -- the global is looked at before the new id is: no global, no name, the server's range
  refused_binds : (binds_to around c seven 1 (Some (codes "quad")) 3 0xFF000000 None
      ≡ breaks around c (violation seven (broken.RefusedBind 1 3 true)) 0 (bind_text (codes "quad") 3 1))
      × (binds_to around c seven 1 None 1 0xFF000000 (Some (quad_global false))
      ≡ breaks around c (violation seven (broken.RefusedBind 1 1 false)) 0 (bind_text [] 1 1))
      × (binds_to around (seeing true) seven 1 (Some (codes "quad")) 3 0xFF000000 (Some (quad_global false))
      ≡ breaks around (seeing true) (bad_new seven 3 0xFF000000) 0 (new_id_text 0xFF000000))
  refused_binds = (refl, refl, refl)

  -- a bound object has the version asked for, and no data yet
  a_bind : is_valid_new (objects_in c) 3 ≡ true → binds_to around (seeing true) seven 1 (Some (codes "quad")) 2 3 (Some (quad_global true))
      ≡ hands_out (record (seeing true) {
        store = stored c.store 3 (fresh_object quad_id 2 (c.last_serial + 1) None);
        last_serial = c.last_serial + 1;
      }) (opened.Bind (id_in client 3 (c.last_serial + 1) quad_id))
      (deeds.Bind (record { name = 1; serial = 1 }) (id_in client 3 (c.last_serial + 1) quad_id))
  a_bind valid = rw valid refl

  -- ---- other requests

  -- a request to the quad 3
  abbrev to_quad : ℕ → Addressed
  to_quad opcode = record { sender = 3; interface = quad_id; opcode = opcode }

  -- the version is looked at before the arguments: a make at version 1; and a link to null
  refused_requests : (other_request around c (message 3 1 (arg.NewId 0xFF000000 ∷ [])) old_quad make_row
      ≡ breaks around c (violation (to_quad 1) (broken.SinceLater 1 2)) 1 (since_text 1 1 2 (codes "quad") 3))
      × (other_request around c (message 3 3 (arg.Object 0 ∷ arg.Object 0 ∷ [])) quad link_row
      ≡ breaks around c (violation (to_quad 3) (broken.WrongArgument 1 wrong.NullObject)) 0 (fault_text table quad_id link_row wrong.NullObject))
  refused_requests = (refl, refl)

  a_destroy : other_request around c (message 3 2 []) quad destroy_row
      ≡ hands_out c (opened.Request (id_in client 3 2 quad_id) true None) (Request (id_in client 3 2 quad_id) 2 [] true None)
  a_destroy = refl

  -- the object has its sender's version, and its id is among the arguments and told as created
  a_make : is_valid_new (objects_in c) 5 ≡ true → other_request around c (message 3 1 (arg.NewId 5 ∷ [])) quad make_row
      ≡ (let made = id_in client 5 (c.last_serial + 1) quad_id in
      hands_out (record c { store = stored c.store 5 (fresh_object quad_id 3 (c.last_serial + 1) None); last_serial = c.last_serial + 1 })
      (opened.Request (id_in client 3 2 quad_id) false (Some made)) (Request (id_in client 3 2 quad_id) 1 (arg.NewId made ∷ []) false (Some made)))
  a_make valid = rw valid refl

  -- ---- which requests these are

  -- each object of the display's interface is treated as a display, and each of the registry's as one, whatever its number
  requests_to : (request_to around c (message 7 0 (arg.NewId 2 ∷ [])) (fresh_object display_id 1 9 None) destroy_row
      ≡ display_request around c (record { sender = 7; interface = display_id; opcode = 0 }) 0 (arg.NewId 2 ∷ []))
      × (request_to around c (message 7 0 []) (fresh_object registry_id 1 9 None) destroy_row
      ≡ registry_request around c (record { sender = 7; interface = registry_id; opcode = 0 }) [])
      × (request around c (message 7 0 []) None None
      ≡ garbled c (violation (record { sender = 7; interface = anonymous_id; opcode = 0 }) broken.UnknownSender))
  requests_to = (refl, refl, refl)

  -- ---- what a verdict says

  -- An error of a live client is put, unless the display is gone, which it never is; it is flushed; and the client is killed for it. Where there
  -- was no memory for a text, or for a message of the server's own, it is closed.
  an_error_kills : (w : Violation) → ((breaks around c w 0 []).last c ≡ killed c (BrokeProtocol (error_of table (display_of client) 0 [])))
      × ((breaks around c w 0 []).starved ≡ closed_down (breaking c w)) × ((replies c [] []).starved ≡ closed_down c)
  an_error_kills w = (refl, refl, refl)

  -- where it could not be put, the client was closed before
  an_error_that_was_not_put : (w : Violation) → c.is_killed ≡ false → (((breaks around c w 0 []).last (closed_down c)).ended ≡ Some ConnectionClosed)
  an_error_that_was_not_put w live = rw live refl

  -- malformed bytes answer by another fault than all else that kills
  malformed_bytes : (w : Violation) → ((garbled c w).events c ≡ Stops fault.Proto ∷ []) × ((garbled c w).core ≡ closed_down (breaking c w))
  malformed_bytes w = (refl, refl)

  -- it is kept how the client broke the protocol, whatever becomes of the error
  kept_violations : (w : Violation) → ((garbled c w).core.violation ≡ Some w) × ((breaks around c w 0 []).core.violation ≡ Some w)
      × ((breaks around c w 0 []).starved.violation ≡ Some w)
      × (((breaks around c w 0 []).last (breaks around c w 0 []).core).violation ≡ Some w)
  kept_violations w = (refl, refl, refl, refl)

  -- only the first kill counts, and a killed client is read no more behind a reply
  of_the_killed : c.is_killed ≡ true → (killed c ConnectionClosed ≡ record c { is_killed = true })
      × ((replies c [] []).events c ≡ Stops fault.Pipe ∷ [])
  of_the_killed dead = rw dead (refl, refl)

-- ---- events

abbrev event : ℕ → List (Argument IdParts Token) → SessionMessage
event opcode args = record { sender = id_in client 3 2 quad_id; opcode = opcode; args = args }

module _ (store : Store (Kept ℕ)) where
  abbrev checked : Option (Object (Kept ℕ)) → SessionMessage → Result (Object (Kept ℕ) × Bool) EventError
  checked sender m = checked_sender client store table sender m

  -- the sender is looked at first, then the opcode, then the signature
  refused_events : (checked None (event 9 []) ≡ Err refused.InvalidId)
      × (checked (Some quad) (event 9 (arg.Uint 1 ∷ [])) ≡ Err refused.UnknownOpcode)
      × (checked (Some quad) (event 1 (arg.Object (id_in other 0 0 quad_id) ∷ [])) ≡ Err refused.BadSignature)
  refused_events = (refl, refl, refl)

  -- null is looked at before the client of the id is, and that before the object
  refused_new_ids : (checked (Some quad) (event 1 (arg.NewId (id_in other 0 9 registry_id) ∷ [])) ≡ Err refused.NullNewId)
      × (checked (Some quad) (event 1 (arg.NewId (id_in other 3 2 registry_id) ∷ [])) ≡ Err refused.ForeignObject)
  refused_new_ids = (refl, refl)

  -- `moved` and `gone`
  granted_events : (checked (Some quad) (event 0 (arg.Int (pos 7) ∷ [])) ≡ Ok (quad, false)) × (checked (Some quad) (event 2 []) ≡ Ok (quad, true))
  granted_events = (refl, refl)

  -- an object that is not kept comes before one of another interface
  found_objects : (found_fault {U = ℕ} (fits quad_id) None ≡ Some refused.InvalidId)
      × (found_fault (fits registry_id) (Some quad) ≡ Some refused.WrongInterface)
      × (found_fault (fits anonymous_id) (Some quad) ≡ None)
  found_objects = (refl, refl, refl)

  -- ---- objects of a request

  abbrev objects : Objects (Kept ℕ)
  objects = record { store = store; last_serial = 1 }

  -- null where it may stand is the client's id of number 0
  null_arguments : (object_argument client store true quad_id 0 ≡ Ok (id_in client 0 0 anonymous_id))
      × (object_argument client store false quad_id 0 ≡ Err wrong.NullObject)
  null_arguments = (refl, refl)

  -- two nulls: the first may stand, the second is refused; and a new id of the server's
  refused_arguments : (convert client 3 (start objects link_row) [] (arg.Object 0 ∷ arg.Object 0 ∷ []) ≡ Wrong 1 wrong.NullObject objects)
      × (convert client 3 (start objects make_row) [] (arg.NewId 0xFF000000 ∷ []) ≡ Wrong 0 (wrong.InvalidNewId 0xFF000000) objects)
  refused_arguments = (refl, refl)

  objects_found : (object_found {U = ℕ} client quad_id 9 None ≡ Err (wrong.UnknownId 9))
      × (object_found {U = ℕ} client quad_id 2 (Some (fresh_object registry_id 1 1 None)) ≡ Err (wrong.WrongInterface 2 quad_id registry_id))
  objects_found = (refl, refl)

-- ---- why an action is not finished

data_wanted : (refusal {U = ℕ} false (Some (id_in client 5 3 quad_id)) None ≡ Some finish.MissingObjectData)
    × (refusal {U = ℕ} true (Some (id_in client 5 3 quad_id)) None ≡ None) × (refusal {U = ℕ} false None None ≡ None)
    × (refusal {U = ℕ} false None (Some 1) ≡ Some finish.UnexpectedData) × (refusal {U = ℕ} true None (Some 1) ≡ Some finish.UnexpectedData)
data_wanted = (refl, refl, refl, refl, refl)

-- ---- calls on one client

module _ (sends : ℕ → Queue → Result ℕ IoFault → ℕ → Type 0) (p : Part ℕ ℕ Bool) where
  -- an error on a null id: nothing; and the display is not destroyed
  nothing_done : PostsError sends table p (id_in client 0 5 quad_id) 3 [] false [] p × Destroys sends client p (display_of client)
      (Err destroy.InvalidId) false [] p
  nothing_done = ((refl, refl, refl), (refl, refl, refl, refl))

  -- to a killed client nothing is sent, whatever the event, and nothing is told
  nothing_to_the_killed : p.is_killed ≡ true → SendsEvent sends client table p (event 9 []) (Ok tt) false [] p
      × ((messages : _) → Hears sends p messages false [] p)
  nothing_to_the_killed killed = rw killed ((refl, refl, refl, refl), λ messages. (refl, refl, refl))

  a_kill : p.is_killed ≡ false → Kills p ConnectionClosed (Noted (happened.Disconnected ConnectionClosed) ∷ []) (record p { is_killed = true })
  a_kill live = (rw live refl, refl)

  a_second_kill : p.is_killed ≡ true → Kills p ConnectionClosed [] p
  a_second_kill killed = (rw killed refl, ap (λ k. record p { is_killed = k }) killed)

  -- of an object of the server's range nothing is told, and its note waits
  a_servers_object_is_destroyed : held p.store 0xFF000000 ≡ Some (fresh_object quad_id 3 1 (Some 1))
      → held (removed p.store 0xFF000000) 0xFF000000 ≡ None
      → Destroys sends client p (id_in client 0xFF000000 1 quad_id) (Ok tt) false (Left (at 0xFF000000 1) ∷ [])
      (record p { store = removed p.store 0xFF000000; waiting = p.waiting ++ happened.Destroyed (id_in client 0xFF000000 1 quad_id) 1 ∷ [] })
  a_servers_object_is_destroyed there gone =
      rw there (refl, ([], _, _, inl ([], [], [], Ok tt, p.link, false, (refl, refl, refl, refl), (refl, refl, refl), refl, refl, refl, refl), rw gone refl, refl))

  -- the end of a bind is no end of a request, and the other way round; the data come back
  a_request_for_a_bind : p.action ≡ Some (opened.Bind (id_in client 3 2 quad_id))
      → FinishesRequest sends client p None (Err (record { error = finish.WrongKind; user_data = None })) false [] p
  a_request_for_a_bind action = rw action (refl, refl, refl, refl)

  a_bind_for_a_request : p.action ≡ Some (opened.Request (id_in client 3 2 quad_id) false None)
      → FinishesBind p 9 (Err (record { error = finish.WrongKind; user_data = 9 })) false [] p
  a_bind_for_a_request action = rw action (refl, refl, refl, refl)

  -- a destructor request whose sender is gone tells nothing and notes nothing; so where another object took its number
  a_destructor_of_a_gone_sender : p.action ≡ Some (opened.Request (id_in client 3 2 quad_id) true None) → held p.store 3 ≡ None
      → FinishesRequest sends client p None (Ok tt) false [] (record p { action = None })
  a_destructor_of_a_gone_sender action gone =
      rw action (rw gone (refl, ([], _, _, inl ([], [], [], Ok tt, p.link, false, (refl, refl, refl, refl), (refl, refl, refl), refl, refl, refl, refl), refl, refl)))

  a_destructor_of_a_replaced_sender : p.action ≡ Some (opened.Request (id_in client 3 2 quad_id) true None)
      → held p.store 3 ≡ Some (fresh_object quad_id 3 4 (Some 8)) → FinishesRequest sends client p None (Ok tt) false [] (record p { action = None })
  a_destructor_of_a_replaced_sender action replaced =
      rw action (rw replaced (refl, ([], _, _, inl ([], [], [], Ok tt, p.link, false, (refl, refl, refl, refl), (refl, refl, refl), refl, refl, refl, refl), refl, refl)))

  -- an open action is answered before a kill
  module _ (receives : ℕ → ℕ → Result Queue IoFault → ℕ → Type 0) (globals : Globals ℕ) (r : Reading) where
    abbrev surroundings : Around ℕ Bool
    surroundings = record { table = table; client = client; globals = globals; views = says; object_limit = None; hands_registries = false }

    an_open_action_comes_first : (a : OpenAction) → p.action ≡ Some a → NextAction sends receives surroundings r p (Err ActionOpen) r false [] p
    an_open_action_comes_first a action = rw action (refl, refl, refl, refl, refl)

    then_a_kill : p.action ≡ None → p.is_killed ≡ true → NextAction sends receives surroundings r p (Err (Io fault.Pipe)) r false [] p
    then_a_kill action killed = rw action (rw killed (refl, refl, refl, refl, refl))

  -- ---- what is felt

  -- each registry is told, in order, of a global that the client may see, and of the end of each
  abbrev told : Part ℕ ℕ Bool
  told = record p { registries = at 2 1 ∷ at 4 3 ∷ [] }

  two_registries : (news table told true one ≡ global_message table (at 2 1) one ∷ making false (global_message table (at 4 3) one) ∷ [])
      × (news table told false one ≡ [])
      × (removals told 1 ≡ removal_message 1 (at 2 1) ∷ removal_message 1 (at 4 3) ∷ [])
  two_registries = (refl, refl, refl)

  -- a live client is not taken out by a cleanup, and its waiting notes are made
  a_cleanup_of_a_live_client : p.is_killed ≡ false → Cleaned sends client p false (map Noted p.waiting) [] (Some (record p { waiting = [] }))
  a_cleanup_of_a_live_client live = rw live (refl, refl, refl, refl)

  -- a killed client on which nothing waits to be sent: its waiting notes, then its objects by number; and its transport
  a_cleanup_of_a_killed_client : p.is_killed ≡ true → p.link.outgoing.bytes ≡ []
      → p.waiting ≡ happened.Destroyed (id_in client 0xFF000000 1 quad_id) 1 ∷ []
      → entries p.store.objects ≡ (1, display_object) ∷ (0xFF000001, fresh_object quad_id 3 2 (Some 2)) ∷ []
      → Cleaned sends client p false
      (Noted (happened.Destroyed (id_in client 0xFF000000 1 quad_id) 1) ∷ Noted (happened.Destroyed (id_in client 0xFF000001 2 quad_id) 2) ∷ Left
      (at 0xFF000001 2) ∷ [])
      (p.link.transport ∷ []) None
  a_cleanup_of_a_killed_client killed empty waiting kept =
      rw killed (rw waiting (rw kept ([], Ok tt, _, ([], p.link, (refl, (empty, refl, refl), refl), refl, refl, refl), refl, refl, refl)))

-- the objects that a client has when it is taken out: those with data are noted, by ascending number
objects_that_leave : objects_leave client ((1, display_object {U = ℕ}) ∷ (3, quad) ∷ (0xFF000001, fresh_object quad_id 3 5 (Some 2)) ∷ [])
    ≡ Noted (happened.Destroyed (id_in client 3 2 quad_id) 6) ∷ Left (at 3 2) ∷ Noted
    (happened.Destroyed (id_in client 0xFF000001 5 quad_id) 2) ∷ Left (at 0xFF000001 5) ∷ []
objects_that_leave = refl

-- a registry that is destroyed is told no more, and another object of that number does not matter
a_registry_leaves : (registries_without (at 2 1 ∷ at 4 3 ∷ []) 2 (fresh_object {U = ℕ} registry_id 1 1 None) ≡ at 4 3 ∷ [])
    × (registries_without (at 2 1 ∷ at 4 3 ∷ []) 2 (fresh_object {U = ℕ} registry_id 1 7 None) ≡ at 2 1 ∷ at 4 3 ∷ [])
    × (registries_without (at 2 1 ∷ at 4 3 ∷ []) 2 (fresh_object {U = ℕ} quad_id 1 1 None) ≡ at 2 1 ∷ at 4 3 ∷ [])
a_registry_leaves = (refl, refl, refl)

-- the count of requests stops at the greatest number
counts : (read_on new_reading 36 0 ≡ record { turns_left = 36; read = 0 })
    × (read_on (record { turns_left = 36; read = 0xFFFFFFFFFFFFFFFE }) 35 3 ≡ record { turns_left = 35; read = 0xFFFFFFFFFFFFFFFF })
counts = (refl, refl)
