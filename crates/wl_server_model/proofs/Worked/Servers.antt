-- Worked steps, runs and outcomes of a server, computed from the definitions: they say what was meant.
use Rattle.std.proofs.Common.{◌≡◌, ℕ, Bool, List, [], ◌∷◌, ◌++◌, Option, Some, None, Result, Ok, Err, true, false, refl, arith, ◌⊎◌, ap, sym, lit<, true≢false, is_some}
use Rattle.std.specs.Prelude.{Vec, is_ok}
use Rattle.wl_wire.specs.declared.protocol.TableError.{TableError}
use Rattle.wl_wire.specs.Table.{Extension, InterfaceRow, LongerRow, NewRows, extended_table}
use Rattle.wl_wire.specs.declared.argument.Token.{Token}
use Rattle.wl_wire.specs.declared.message.Message.{Message}
use Rattle.wl_link.specs.Script.{Script}
use Rattle.wl_server_client.specs.declared.error.ActionError.TheVariants.{Io, ActionOpen}
use Rattle.wl_server_client.specs.declared.notes.DisconnectReason.TheVariants.{ConnectionClosed}
use Rattle.wl_server_client.specs.declared.notes.Happening.{Happening}
use Rattle.wl_server_client.specs.declared.notes.Note.{Note}
use Rattle.wl_server_client.specs.declared.notes.Note.TheVariants.{Initialized, Disconnected, Destroyed}
use Rattle.wl_server_model.specs.declared.step.Reply.{Reply}
use Rattle.wl_server_model.specs.declared.step.Step.{Step}
use Rattle.wl_server_client.specs.Globals.{CreatesGlobal, Offer, new_offer, no_globals, CreatesNext, Globals, LacksName}
use Rattle.wl_server_client.specs.Ids.{ClientParts, IdParts, same_client, GlobalParts}
use Rattle.wl_server_model.specs.Lookups.{live_from}
use Rattle.wl_server_model.specs.Moves.{ArriveFault, ScriptMoves, TakeSent}
use Rattle.wl_server_client.specs.Part.{Part}
use Rattle.wl_server_model.specs.PartStep.{Asked, Call, Grown, PartStep, World, share_of}
use Rattle.wl_server_client.specs.Reading.{new_reading}
use Rattle.wl_server_model.specs.Runs.{Own, mine}
use Rattle.wl_server_model.specs.Server.{Seen, notes_of, ServerState, new_server, nothing_seen, seen}
use Rattle.wl_server_client.specs.Stored.{Stored, no_times}
use Rattle.wl_server_model.specs.Steps.{Entry, IsLeastFree, lacks_growth, offer_after, OneStep, RiseBySlot}
use Rattle.wl_server_model.proofs.Worked.Messages.{client, entry, id_in, other, quad_id, table, quad_global}
use Rattle.wl_wire.specs.declared.error.OutOfMemory.{OutOfMemory}
use Rattle.wl_server_client.specs.Deeds.{Deed}
use Rattle.wl_server_client.specs.Errors.{posts}
use Rattle.wl_server_client.specs.Telling.{Core}
use Rattle.std.specs.Global.{Global}
use mathlib.Core.Logic.{inl, inr}
use Rattle.wl_server_client.specs.declared.error.ActionError.{ActionError}
use Rattle.wl_server_client.specs.declared.reading.action.Action.{Action}
use Rattle.wl_server_client.specs.declared.reading.action.OpenAction.{OpenAction}
use Rattle.wl_server_model.specs.GivenOnce.{ClientsRise, global_over}
use Rattle.wl_server_model.specs.Killed.{ReadingAnswers, StaysKilled}
use Rattle.std.proofs.lemmas.Bool.{cases_Bool, false≢true}
use Rattle.wl_wire.specs.declared.error.IoFault.{IoFault}
use Rattle.wl_link.specs.Exchange.{Queue, nothing, IsFunction}
use Rattle.wl_server_client.specs.declared.notes.Happening.TheVariants.{Initialized as WasInserted}
use Rattle.wl_server_model.specs.Outcome.Whole.{SameServer}
use Rattle.wl_wire.specs.declared.protocol.TableError.TheVariants as table_error
use Rattle.wl_wire.specs.declared.error.IoFault.TheVariants as fault
use Rattle.wl_server_client.specs.declared.error.CreateError.TheVariants as create
use Rattle.wl_server_client.specs.declared.error.DestroyError.TheVariants as destroy
use Rattle.wl_server_client.specs.declared.error.EventError.TheVariants as event
use Rattle.wl_server_client.specs.declared.error.FinishError.TheVariants as finish
use Rattle.wl_server_client.specs.declared.error.GlobalError.TheVariants as global
use Rattle.wl_server_client.specs.declared.error.ScriptError.TheVariants as script
use Rattle.wl_server_client.specs.declared.notes.Happening.TheVariants as happened
use Rattle.wl_server_model.specs.declared.step.Reply.TheVariants as reply
use Rattle.wl_server_model.specs.declared.step.Step.TheVariants as step
use Rattle.wl_server_client.specs.declared.error.InsertClientError.TheVariants as insert
use Rattle.wl_server_model.proofs.GlobalCalls.AtName.{lacks_no_next}
use Rattle.wl_server_model.proofs.OverRuns.Outcome.WholeLaws.{same_client_is}

-- ---- what is a client's

abbrev asked : Step ℕ ℕ ℕ Bool → Reply ℕ ℕ → Call ℕ ℕ ℕ Bool
asked call answer = Asked call answer

abbrev own : Entry ℕ ℕ ℕ Bool → Own ℕ ℕ ℕ Bool
own e = record { call = e.call; lacked = false; did = [] }

abbrev kill_of : ClientParts → Entry ℕ ℕ ℕ Bool
kill_of target = entry (step.KillClient target ConnectionClosed) reply.KillClient

abbrev flush_of : Option ClientParts → Entry ℕ ℕ ℕ Bool
flush_of target = entry (step.Flush target) (reply.Flush (Ok tt))

abbrev cleanup : Entry ℕ ℕ ℕ Bool
cleanup = entry step.Cleanup (reply.Cleanup (Err _))

-- a client of the same slot with another serial is another client, and no client's insertion is another's step
own_calls : mine client
    (kill_of client ∷ kill_of other ∷ flush_of None ∷ flush_of (Some other) ∷ kill_of (record { slot = 0; serial = 9 })
    ∷ entry (step.InsertClient 1 true) (reply.InsertClient (Ok other)) ∷ cleanup ∷ [])
    ≡ own (kill_of client) ∷ own (flush_of None) ∷ own cleanup ∷ []
own_calls = refl

-- ---- notes

abbrev gathered : List (Note ℕ)
gathered =
    Initialized client ∷ Initialized other ∷ Disconnected client ConnectionClosed
    ∷ Destroyed other (id_in other 0xFF000000 1 quad_id) 1
    ∷ Destroyed client (id_in client 0xFF000000 1 quad_id) 1
    ∷ Destroyed other (id_in other 0xFF000001 2 quad_id) 2
    ∷ Destroyed client (id_in client 0xFF000001 2 quad_id) 2
    ∷ []

-- of the killed one, and of the other
notes_of_each : (notes_of client gathered
    ≡ happened.Initialized ∷ happened.Disconnected ConnectionClosed
    ∷ happened.Destroyed (id_in client 0xFF000000 1 quad_id) 1 ∷ happened.Destroyed (id_in client 0xFF000001 2 quad_id) 2 ∷ [])
    × (notes_of other gathered
    ≡ happened.Initialized ∷ happened.Destroyed (id_in other 0xFF000000 1 quad_id) 1 ∷ happened.Destroyed (id_in other 0xFF000001 2 quad_id) 2 ∷ [])
notes_of_each = (refl, refl)

-- ---- slots

module _ (p : Part ℕ ℕ Bool) where
  abbrev stored : ℕ → Bool → Option (Stored ℕ ℕ Bool)
  stored serial killed = Some (record { serial = serial; part = record p { is_killed = killed }; made = []; times = no_times })

  -- a killed client is stored, and is not among the live ones
  live_clients_by_slot : live_from 0 (stored 1 true ∷ None ∷ stored 2 false ∷ stored 3 false ∷ [])
      ≡ record { slot = 2; serial = 2 } ∷ record { slot = 3; serial = 3 } ∷ []
  live_clients_by_slot = refl

  -- a slot that was cleaned up is free again, and the others are behind those that are taken
  the_first_slot : IsLeastFree {T = ℕ} {U = ℕ} {C = Bool} [] 0
  the_first_slot = record { below = omega arith; free = refl; least = λ k below. absurd (omega (arith, below)) }

-- ---- globals

abbrev offer : Offer ℕ
offer = new_offer table

-- the version of `quad` is 3, and the table has five interfaces; the one without messages, 0, is of version 0
refused_globals : CreatesGlobal table (no_globals {G = ℕ}) quad_id 4 (Err global.VersionTooHigh)
    × CreatesGlobal table (no_globals {G = ℕ}) (record { 0 = 9 }) 1 (Err global.UnknownInterface)
    × CreatesGlobal table (no_globals {G = ℕ}) (record { 0 = 0 }) 1 (Err global.VersionTooHigh)
refused_globals = (refl, refl, refl)

-- a refused global leaves the offer, and a new limit changes it
offers_after : (offer_after offer (asked (step.CreateGlobal quad_id 4 7) (reply.CreateGlobal (Err global.VersionTooHigh))) ≡ offer)
    × (offer_after offer (asked (step.SetDefaultMaxBufferSize 8192) reply.SetDefaultMaxBufferSize) ≡ record offer { default_limit = 8192 })
offers_after = (refl, refl)

-- more interfaces follow those of the table; if they are refused, the offer stays
module _ (rows : List InterfaceRow) where
  abbrev added : Result (Unit {0}) TableError → Call ℕ ℕ ℕ Bool
  added answer = Grown (NewRows rows) answer

  more_interfaces : (offer_after offer (added (Ok tt)) ≡ record offer { table = table ++ rows })
      × (offer_after offer (added (Err (table_error.UnknownInterface 0))) ≡ offer)
  more_interfaces = (refl, refl)

  refused_interfaces : (lacks_growth (added (Err table_error.OutOfMemory)) ≡ true)
      × (lacks_growth (added (Err (table_error.UnknownInterface 0))) ≡ false)
  refused_interfaces = (refl, refl)

-- more messages follow those of their interface; if they are refused, the offer stays
module _ (more : Extension) where
  abbrev extended : Result (Unit {0}) TableError → Call ℕ ℕ ℕ Bool
  extended answer = Grown (LongerRow more) answer

  more_messages : (offer_after offer (extended (Ok tt)) ≡ record offer { table = extended_table table more })
      × (offer_after offer (extended (Err (table_error.UnknownInterface 0))) ≡ offer)
  more_messages = (refl, refl)

  refused_messages : (lacks_growth (extended (Err table_error.OutOfMemory)) ≡ true)
      × (lacks_growth (extended (Err (table_error.UnknownInterface 0))) ≡ false)
  refused_messages = (refl, refl)

-- ---- memory

growths : (lacks_growth (asked (step.CreateGlobal quad_id 3 7) (reply.CreateGlobal (Err global.OutOfMemory))) ≡ true)
    × (lacks_growth (asked (step.CreateGlobal quad_id 3 7) (reply.CreateGlobal (Err global.Full))) ≡ false)
    × (lacks_growth (asked (step.Flush None) (reply.Flush (Ok tt))) ≡ false)
growths = (refl, refl, refl)

-- ---- clients that are not stored

module _ (w : World ℕ ℕ Bool) (made : List (Happening ℕ)) where
  abbrev out : Seen ℕ ℕ Bool
  out = record { part = None; made = made }

  abbrev Answers : Step ℕ ℕ ℕ Bool → Reply ℕ ℕ → Type 0
  Answers call answer = PartStep w client offer call answer out false [] out

  an_event_of_none : (m : Message IdParts Token) → same_client m.sender_id.client client ≡ true
      → Answers (step.SendEvent m) (reply.SendEvent (Err event.InvalidId))
  an_event_of_none m own = (_, refl, rw own (refl, (refl, refl, refl)))

  an_error_of_none : (text : _) → Answers (step.PostError (id_in client 3 2 quad_id) 0 text) reply.PostError
  an_error_of_none text = (refl, (tt, (refl, refl, refl)))

  a_reading_of_none : Answers (step.NextAction client) (reply.NextAction (Err (Io fault.InvalidInput)))
  a_reading_of_none = (_, new_reading, refl, ((refl, refl), (refl, refl, refl)))

  data_of_none : Answers (step.SetObjectData (id_in client 3 2 quad_id) 9) (reply.SetObjectData (Err _))
  data_of_none = (_, refl, (refl, (refl, refl, refl)))

  calls_of_none : Answers (step.KillClient client ConnectionClosed) reply.KillClient
      × Answers (step.Flush (Some client)) (reply.Flush (Ok tt))
      × Answers (step.CreateObject client quad_id 3 9) (reply.CreateObject (Err create.InvalidId))
      × Answers (step.DestroyObject (id_in client 3 2 quad_id)) (reply.DestroyObject (Err destroy.InvalidId))
      × Answers (step.FinishRequest client (Some 9)) (reply.FinishRequest (Err (record { error = finish.InvalidId; user_data = Some 9 })))
      × Answers (step.FinishBind client 9) (reply.FinishBind (Err (record { error = finish.InvalidId; user_data = 9 })))
      × Answers (step.SetClientMaxBufferSize client 9) reply.SetClientMaxBufferSize
      × Answers (step.ArriveFault client fault.Pipe) (reply.ArriveFault (Err script.InvalidId))
  calls_of_none = grind (arith)

-- ---- moves of a transport by script

module _ (s : Script) where
  a_fault_arrives : ScriptMoves s (ArriveFault fault.Pipe) (Ok []) (record s { arrivals = s.arrivals ++ Err fault.Pipe ∷ [] })
      × ScriptMoves s TakeSent (Ok s.sent) (record s { sent = [] })
  a_fault_arrives = ((refl, refl), (refl, refl))

-- ---- what no step does, whatever else it is free to do

module _ (w : World ℕ ℕ Bool) (lacks : ClientParts → Bool) (did : ClientParts → List (Deed ℕ)) (after : ServerState ℕ ℕ ℕ Bool) where
  abbrev first_entry : Step ℕ ℕ ℕ Bool → Reply ℕ ℕ → Bool → Entry ℕ ℕ ℕ Bool
  first_entry call answer refused = record { call = Asked call answer; refused = refused; lacks = lacks; did = did }

  -- a call as the first of a server
  abbrev First : Step ℕ ℕ ℕ Bool → Reply ℕ ℕ → Bool → Type 0
  First call answer refused = OneStep w (new_server table) (first_entry call answer refused) after

  none_lacks : ((id : ClientParts) → lacks id ≡ false) → (false ≡ true) ⊎ ((id : ClientParts) × (lacks id ≡ true)) → ⊥
  none_lacks none h2 = grind (arith, true≢false)

  -- ---- no memory is refused where there is nobody to refuse it to

  a_flush_of_nobody : First (step.Flush None) (reply.Flush (Ok tt)) true → ⊥
  a_flush_of_nobody by = none_lacks (λ id. let (r, is, h) = by.each id in h.1.1.0) (by.refused.0 refl)

  a_global_of_nobody : (g : GlobalParts) → First (step.CreateGlobal (record { 0 = 4 }) 3 7) (reply.CreateGlobal (Ok g)) true → ⊥
  a_global_of_nobody g by = none_lacks (λ id. nobody id (by.each id)) (by.refused.0 refl)
    where
      nobody : (id : ClientParts)
          → PartStep w id (new_offer table) (step.CreateGlobal (record { 0 = 4 }) 3 7) (reply.CreateGlobal (Ok g)) nothing_seen (lacks id) (did id)
          (seen id after)
          → lacks id ≡ false
      nobody id h2 = grind (arith)

  -- ---- nor where there is nothing to be made room for

  a_cleanup_of_nobody : (e : OutOfMemory) (refused : Bool) → First step.Cleanup (reply.Cleanup (Err e)) refused → ⊥
  a_cleanup_of_nobody e refused by = let (slot, s, here, some) = by.room in true≢false (sym (ap is_some here))

  no_notes_of_nobody : (e : OutOfMemory) (refused : Bool) → First step.TakeNotes (reply.TakeNotes (Err e)) refused → ⊥
  no_notes_of_nobody e refused by = let (slot, s, here, some) = by.room in true≢false (sym (ap is_some here))

  -- ---- a new client

  -- gets the first slot
  first_slot_given : (id : ClientParts) (refused : Bool) → First (step.InsertClient 5 true) (reply.InsertClient (Ok id)) refused → (id.slot ≡ 0)
      × (id.serial ≡ 1)
  first_slot_given id refused by = grind (arith, true≢false)

  -- and is not told that none is left
  not_full_yet : (refused : Bool) → First (step.InsertClient 5 true) (reply.InsertClient (Err insert.Full)) refused → ⊥
  not_full_yet refused by = grind (arith, true≢false, lit<)

-- ---- no want of memory is answered where no name is left

full_comes_first : (globals : Globals ℕ) → LacksName globals → CreatesNext globals (Err global.OutOfMemory) → ⊥
full_comes_first globals lacks (id, next, unused) = lacks_no_next globals id lacks next

-- ---- an error for a killed client asks for no memory

an_error_for_the_killed : (c : Core ℕ Bool) (id : IdParts) → c.is_killed ≡ true → (posts table c id 0 []).asks ≡ false
an_error_for_the_killed c id killed = rw killed refl

-- ---- clients and globals that come to their end

-- ---- a killed client

abbrev read_of : ClientParts → Result Action ActionError → Entry ℕ ℕ ℕ Bool
read_of target answer = entry (step.NextAction target) (reply.NextAction answer)

abbrev cleaned : Vec (ClientParts × ℕ) Global → Entry ℕ ℕ ℕ Bool
cleaned out = entry step.Cleanup (reply.Cleanup (Ok out))

module _ (p : Part ℕ ℕ Bool) (open' : OpenAction) (out : Vec (ClientParts × ℕ) Global) (handed : out.items ≡ (client, 7) ∷ []) where
  abbrev dead : Option OpenAction → Part ℕ ℕ Bool
  dead action = record p { is_killed = true; action = action }

  -- its action is open, is ended, and then a cleanup takes it out; another client is read as well
  taken_out : StaysKilled client (record { part = Some (dead (Some open')); made = [] })
      (read_of client (Err ActionOpen) ∷ entry (step.FinishRequest client None) (reply.FinishRequest (Ok tt)) ∷ read_of client (Err (Io fault.Pipe))
      ∷ read_of other (Err (Io fault.WouldBlock)) ∷ cleaned out ∷ read_of client (Err (Io fault.InvalidInput)) ∷ []) nothing_seen
  taken_out = record {
    with_action = read_of client (Err ActionOpen) ∷ entry (step.FinishRequest client None) (reply.FinishRequest (Ok tt)) ∷ [];
    without_action = read_of client (Err (Io fault.Pipe)) ∷ read_of other (Err (Io fault.WouldBlock)) ∷ [];
    from_cleanup = cleaned out ∷ read_of client (Err (Io fault.InvalidInput)) ∷ [];
    split = refl;
    opened = λ none. absurd (true≢false (ap is_some none));
    says_open = ((λ mine. refl), (tt, tt));
    says_killed = ((λ mine. refl), ((λ mine. absurd (true≢false (sym mine))), tt));
    ends = ((out, 7, refl, ap (share_of client) handed), ((λ mine. refl), tt), refl);
    receives = refl;
    violation = λ p q before after. absurd (true≢false (sym (ap is_some after)));
  }

  -- one that is still stored
  still_stored : StaysKilled client (record { part = Some (dead None); made = [] }) (read_of client (Err (Io fault.Pipe)) ∷ [])
      (record { part = Some (dead None); made = [] })
  still_stored = record {
    with_action = [];
    without_action = read_of client (Err (Io fault.Pipe)) ∷ [];
    from_cleanup = [];
    split = refl;
    opened = λ none. refl;
    says_open = tt;
    says_killed = ((λ mine. refl), tt);
    ends = refl;
    receives = refl;
    violation = λ p q before after. (cc);
  }

-- another fault is no such answer, nor is a reading that used up a receive
no_other_fault : ReadingAnswers client (Io fault.Pipe) (read_of client (Err (Io fault.Proto))).call → ⊥
no_other_fault says = grind (arith, true≢false)

no_receive_used : ReadingAnswers client (Io fault.Pipe)
    (entry (step.NextActionWithin client new_reading) (reply.NextActionWithin (Err (Io fault.Pipe)) (record new_reading { turns_left = 63 }))).call
    → ⊥
no_receive_used says = grind (arith)

-- ---- ids

abbrev inserted : ClientParts → Entry ℕ ℕ ℕ Bool
inserted id = entry (step.InsertClient 1 true) (reply.InsertClient (Ok id))

abbrev first_global : GlobalParts
first_global = record { name = 1; serial = 1 }

-- one that took the name of the first
abbrev next_global : GlobalParts
next_global = record { name = 1; serial = 2 }

abbrev disabling : GlobalParts → Entry ℕ ℕ ℕ Bool
disabling g = entry (step.DisableGlobal g) reply.DisableGlobal

abbrev removing : GlobalParts → Entry ℕ ℕ ℕ Bool
removing g = entry (step.RemoveGlobal g) reply.RemoveGlobal

-- a global is not touched by calls that name one of the same name
its_own_calls : (global_over first_global (disabling next_global ∷ removing next_global ∷ []) (Some (quad_global false)) ≡ Some (quad_global false))
    × (global_over first_global (disabling first_global ∷ disabling first_global ∷ []) (Some (quad_global false)) ≡ Some (quad_global true))
    × (global_over first_global (disabling first_global ∷ removing first_global ∷ disabling first_global ∷ []) (Some (quad_global false)) ≡ None)
its_own_calls = (refl, refl, refl)

-- a client that takes the slot of an earlier one has another id
never_twice : ClientsRise (inserted client ∷ inserted other ∷ inserted client ∷ []) → ⊥
never_twice rise = (let less = rise.0 client client (1, true, refl) (inr (inl (1, true, refl))) in omega (arith, less))

-- ---- what one outcome leaves open and what it does not

not_both : (id : ClientParts) → same_client client id ≡ true → same_client other id ≡ true → ⊥
not_both id one two = grind (arith, same_client_is, client, other)

-- ---- the order of the notes of two clients

abbrev noted : List (Note ℕ) → ServerState ℕ ℕ ℕ Bool
noted notes = record { offer = new_offer table; last_client = 2; clients = []; notes = notes; numbers = record { waiting = 0; made = 0 } }

abbrev one_order : List (Note ℕ)
one_order = Initialized client ∷ Initialized other ∷ []

abbrev other_order : List (Note ℕ)
other_order = Initialized other ∷ Initialized client ∷ []

-- servers that differ in it are the same only where it does not count: each client finds the same
either_order : (id : ClientParts) → notes_of id one_order ≡ notes_of id other_order
either_order id = grind (arith, cases_Bool, same_client, client, other, not_both)

orders_alike : SameServer false (noted one_order) (noted other_order)
orders_alike = grind (arith, either_order, false≢true)

orders_differ : SameServer true (noted one_order) (noted other_order) → ⊥
orders_differ same = grind (arith, true≢false, client)

-- and the notes of one client stand as they were made
abbrev is_first : List (Happening ℕ) → Bool
is_first (WasInserted ∷ _) = true
is_first _ = false

abbrev ended : List (Note ℕ)
ended = Disconnected client ConnectionClosed ∷ Initialized client ∷ []

abbrev begun : List (Note ℕ)
begun = Initialized client ∷ Disconnected client ConnectionClosed ∷ []

not_turned : (ordered : Bool) → SameServer ordered (noted ended) (noted begun) → ⊥
not_turned ordered same = true≢false (sym (ap (λ (s : Seen ℕ ℕ Bool). is_first s.made) (same.held.each client)))

-- ---- a cleanup's list

-- the clients that it takes out do not stand in the other order
abbrev descending : List (ClientParts × ℕ)
descending = (other, 8) ∷ (client, 7) ∷ []

not_descending : RiseBySlot descending → ⊥
not_descending rises = let falls = rises 0 1 (client, 7) (lit< tt) (lit< tt) in omega (arith, falls)

-- ---- a transport that chooses

-- where a send may be answered by anything, there is more than one outcome
abbrev chooses : ℕ → Queue → Result ℕ IoFault → ℕ → Type 0
chooses before offer answer after = Unit {0}

not_a_function : IsFunction chooses → ⊥
not_a_function function = let one = function 0 nothing (Ok 0) (Err fault.Pipe) 0 0 tt tt taken broken in true≢false (ap is_ok one.0)
  where
    taken : ◌≡◌ {A = Result ℕ IoFault} (Ok 0) (Err fault.OutOfMemory) → ⊥
    taken same = true≢false (ap is_ok same)

    broken : ◌≡◌ {A = Result ℕ IoFault} (Err fault.Pipe) (Err fault.OutOfMemory) → ⊥
    broken same = cc
