-- What a call does to a server: to what all clients share, and to what is held of every client id.
use Rattle.std.specs.Prelude.{◌≡◌, ◌≢◌, ℕ, ◌+◌, ◌<◌, ◌⊎◌, ◌∷◌, ◌++◌, List, [], Bool, true, false, Option, None, Some, IsSome, Result, Ok, Err, AllPairs, ◌↔◌, map}
use Rattle.std.specs.Option.{option_map_or}
use Rattle.wl_wire.specs.declared.interface.InterfaceId.{InterfaceId}
use Rattle.wl_wire.specs.declared.protocol.TableError.TheVariants as table
use Rattle.wl_wire.specs.Table.{AnswersTo, table_after}
use Rattle.wl_server_client.specs.declared.error.GlobalError.TheVariants as global
use Rattle.wl_server_client.specs.declared.error.InsertClientError.{InsertClientError}
use Rattle.wl_server_client.specs.declared.error.InsertClientError.TheVariants as insert
use Rattle.wl_server_model.specs.declared.step.Reply.{Reply}
use Rattle.wl_server_model.specs.declared.step.Reply.TheVariants as reply
use Rattle.wl_server_model.specs.declared.step.Step.{Step}
use Rattle.wl_server_model.specs.declared.step.Step.TheVariants as step
use Rattle.wl_server_client.specs.Deeds.{Deed}
use Rattle.wl_server_client.specs.Globals.{Globals, Offer, CreatesGlobal, disabled, freed, handing_registries, keeping, with_created, with_globals, with_table}
use Rattle.wl_server_client.specs.declared.notes.Note.{Note}
use Rattle.wl_server_client.specs.Ids.{ClientParts}
use Rattle.wl_server_model.specs.NoteOrder.{AllInTime, AllNumbered, AllTakeFirst, IsInOrder, NoneWaits, RiseFromSlot}
use Rattle.wl_server_client.specs.NoteTimes.{times_of}
use Rattle.wl_server_client.specs.Part.{last_possible_serial}
use Rattle.wl_server_model.specs.PartStep.{Asked, Call, Changed, Grown, PartCall, World}
use Rattle.wl_server_model.specs.Server.{ServerState, client_at, seen, stored_at}
use Rattle.wl_server_client.specs.Stored.{Stored}

-- A call of a run, and whether memory was refused in it; and for each client id whether memory was refused to that client,
-- and the deeds of the call with it, among them its sends and receives.
pub record Entry (T U G C : Type 0) : Type 0 where
  pub call : Call T U G C
  pub refused : Bool
  pub lacks : ClientParts → Bool
  pub did : ClientParts → List (Deed U)

-- ---- clients

module _ {T U C : Type 0} where
  -- the relation holds of some client
  abbrev pub SomeClient : List (Option (Stored T U C)) → (Stored T U C → Type 0) → Type 0
  SomeClient clients R = (slot : ℕ) × (s : Stored T U C) × (stored_at slot clients ≡ Some s) × R s

  -- the least slot that no client has
  pub record IsLeastFree (clients : List (Option (Stored T U C))) (slot : ℕ) : Type 0 where
    pub below : slot < 0x100000000
    pub free : stored_at slot clients ≡ None
    pub least : (k : ℕ) → k < slot → IsSome (stored_at k clients)

  -- each slot has a client, or each serial was given out
  abbrev pub LacksSlot : ℕ → List (Option (Stored T U C)) → Type 0
  LacksSlot last clients = ((k : ℕ) → k < 0x100000000 → IsSome (stored_at k clients)) ⊎ (last ≡ last_possible_serial)

  -- the id of the next client: the least free slot, and the next serial
  abbrev pub IsNextClient : ℕ → List (Option (Stored T U C)) → ClientParts → Type 0
  IsNextClient last clients id = IsLeastFree clients id.slot × (last < last_possible_serial) × (id.serial ≡ last + 1)

  -- A new client gets the least free slot and the next serial, or there is no memory for it. If no slot or no serial is
  -- left, the answer is `Full`.
  abbrev pub InsertsNext : ℕ → List (Option (Stored T U C)) → Result ClientParts InsertClientError → Type 0
  InsertsNext last clients (Ok id) = IsNextClient last clients id
  InsertsNext last clients (Err insert.Full) = LacksSlot last clients
  InsertsNext last clients (Err insert.OutOfMemory) = (id : ClientParts) × IsNextClient last clients id

module _ {T U G C : Type 0} where
  abbrev pub NumbersClient : ServerState T U G C → Call T U G C → Type 0
  NumbersClient before (Asked (step.InsertClient _ _) (reply.InsertClient r)) = InsertsNext before.last_client before.clients r
  NumbersClient before _ = Unit {0}

  -- how many clients a call inserts
  abbrev pub inserted_by : Call T U G C → ℕ
  inserted_by (Asked (step.InsertClient _ _) (reply.InsertClient (Ok id))) = 1
  inserted_by _ = 0

-- the clients are in the order of their slots
abbrev pub RiseBySlot : {T : Type 0} → List (ClientParts × T) → Type 0
RiseBySlot out = AllPairs (λ a b. a.0.slot < b.0.slot) out

-- ---- what all clients share

abbrev pub created_by : {T U G : Type 0} → Globals G → InterfaceId → ℕ → G → Reply T U → Globals G
created_by globals i version handler (reply.CreateGlobal r) = with_created globals i version handler r
created_by globals i version handler _ = globals

module _ {T U G C : Type 0} where
  -- the offer after a call, by its reply
  abbrev pub offer_after : Offer G → Call T U G C → Offer G
  offer_after offer (Asked (step.CreateGlobal i version handler) answer) =
      with_globals offer (created_by offer.globals i version handler answer)
  offer_after offer (Asked (step.DisableGlobal g) answer) = with_globals offer (disabled offer.globals g)
  offer_after offer (Asked (step.RemoveGlobal g) answer) = with_globals offer (freed offer.globals g)
  offer_after offer (Asked (step.KeepGlobalNames keep) answer) = keeping offer keep
  offer_after offer (Asked (step.HandOutRegistries hands) answer) = handing_registries offer hands
  offer_after offer (Asked (step.SetDefaultMaxBufferSize limit) answer) = record offer { default_limit = limit }
  offer_after offer (Asked (step.SetObjectLimit limit) answer) = record offer { object_limit = limit }
  offer_after offer (Grown rows answer) = with_table offer (table_after offer.table rows answer)
  offer_after offer _ = offer

  -- A new global has the next name and the next serial, and each error has its reason. Interfaces or messages that are added to
  -- the table are refused for their first fault, and for want of memory if they have none.
  abbrev pub AnswersShared : Offer G → Call T U G C → Type 0
  AnswersShared offer (Asked (step.CreateGlobal i version handler) (reply.CreateGlobal r)) = CreatesGlobal offer.table offer.globals i version r
  AnswersShared offer (Grown rows answer) = AnswersTo offer.table rows answer
  AnswersShared offer _ = Unit {0}

  -- the clients that a cleanup takes out are in the order of their slots
  abbrev pub RisesBySlot : Call T U G C → Type 0
  RisesBySlot (Asked step.Cleanup (reply.Cleanup (Ok out))) = AllPairs (λ a b. a.0.slot < b.0.slot) out.items
  RisesBySlot _ = Unit {0}

  -- ---- whether memory was refused

  -- A cleanup asks for memory only if there are notes to be gathered or a client to be taken out; `take_notes` does only if
  -- there are notes to be gathered.
  abbrev pub AsksForRoom : ServerState T U G C → Call T U G C → Type 0
  AsksForRoom before (Asked step.Cleanup (reply.Cleanup (Err _))) =
      SomeClient before.clients (λ s. (s.made ++ s.part.waiting ≢ []) ⊎ (s.part.is_killed ≡ true))
  AsksForRoom before (Asked step.TakeNotes (reply.TakeNotes (Err _))) = SomeClient before.clients (λ s. s.made ≢ [])
  AsksForRoom before _ = Unit {0}

  -- memory was refused to the call for what belongs to no client
  abbrev pub lacks_growth : Call T U G C → Bool
  lacks_growth (Asked _ (reply.InsertClient (Err insert.OutOfMemory))) = true
  lacks_growth (Asked _ (reply.CreateGlobal (Err global.OutOfMemory))) = true
  lacks_growth (Asked _ (reply.Cleanup (Err _))) = true
  lacks_growth (Asked _ (reply.TakeNotes (Err _))) = true
  lacks_growth (Grown _ (Err table.OutOfMemory)) = true
  lacks_growth _ = false

  -- memory was refused in the call exactly if it was refused for that, or to some client
  abbrev pub IsRefused : Entry T U G C → Type 0
  IsRefused e = (e.refused ≡ true) ↔ ((lacks_growth e.call ≡ true) ⊎ ((id : ClientParts) × (e.lacks id ≡ true)))

-- ---- the order of notes

-- What was gathered stays. The notes that are made, or wait, get numbers of their own, which are the next ones, client after client.
-- Each note that is kept with its client has a number afterwards.
pub record MakesNotes {T U G C : Type 0} (before after : ServerState T U G C) : Type 0 where
  pub gathered : after.notes ≡ before.notes
  pub times : AllInTime (map times_of before.clients) before.numbers (map times_of after.clients) after.numbers
  pub numbered : AllNumbered after.clients

-- the notes that were made come behind those that were gathered, in order of time, and are handed out
pub record HandsOutNotes {T U G C : Type 0} (before : ServerState T U G C) (out : List (Note U)) (after : ServerState T U G C) : Type 0 where
  pub in_order : IsInOrder false before.clients before.notes out
  pub none : after.notes ≡ []
  pub numbered : AllNumbered after.clients
  pub first : AllTakeFirst (map times_of before.clients) (map times_of after.clients)
  pub numbers : after.numbers ≡ before.numbers

-- The notes that were made come behind those that were gathered, and then those that waited, each in order of time. The notes
-- of the ends of objects come last, in the order of their clients. No note is left with its client, and the numbers of those that wait begin anew.
pub record GathersNotes {T U G C : Type 0} (before after : ServerState T U G C) : Type 0 where
  pub told : List (Note U)
  pub ends : List (Note U)
  pub in_order : IsInOrder true before.clients before.notes told
  pub behind : after.notes ≡ told ++ ends
  pub by_slot : RiseFromSlot 0 ends
  pub first : AllTakeFirst (map times_of before.clients) (map times_of after.clients)
  pub none_left : (id : ClientParts) → option_map_or (λ s. s.made) (client_at id after.clients) [] ≡ []
  pub none_waits : NoneWaits (map times_of after.clients)
  pub numbered : AllNumbered after.clients
  pub numbers : after.numbers ≡ record before.numbers { waiting = 0 }

module _ {T U G C : Type 0} where
  abbrev pub NotesGoOn : ServerState T U G C → Call T U G C → ServerState T U G C → Type 0
  NotesGoOn before (Asked step.TakeNotes (reply.TakeNotes (Ok out))) after = HandsOutNotes before out.items after
  NotesGoOn before (Asked step.Cleanup (reply.Cleanup (Ok out))) after = GathersNotes before after
  NotesGoOn before _ after = MakesNotes before after

-- ---- a call

-- a call of a server, as an entry of a run
pub record OneStep {T U G C : Type 0} (w : World T G C) (before : ServerState T U G C) (e : Entry T U G C) (after : ServerState T U G C) : Type 0 where
  pub offer : after.offer ≡ offer_after before.offer e.call
  pub last : after.last_client ≡ before.last_client + inserted_by e.call
  pub client : NumbersClient before e.call
  pub global : AnswersShared before.offer e.call
  pub order : RisesBySlot e.call
  pub room : AsksForRoom before e.call
  pub refused : IsRefused e
  pub notes : NotesGoOn before e.call after
  pub each : (id : ClientParts) → PartCall w id before.offer e.call (seen id before) (e.lacks id) (e.did id) (seen id after)

module _ {T U G C : Type 0} (w : World T G C) where
  -- a call, and whether memory was refused in it, with some deeds
  abbrev pub Makes : ServerState T U G C → Call T U G C → Bool → ServerState T U G C → Type 0
  Makes before call refused after = (e : Entry T U G C) × (e.call ≡ call) × (e.refused ≡ refused) × OneStep w before e after

  -- a step, its reply, and whether memory was refused in it
  abbrev pub StepOf : ServerState T U G C → Step T U G C → Reply T U → Bool → ServerState T U G C → Type 0
  StepOf before s answer refused after = Makes before (Asked s answer) refused after

-- ---- over transports by script, and over every transport

-- the client of whose transport by script the step is a call
abbrev pub scripted_client : {T U G C : Type 0} → Step T U G C → Option ClientParts
scripted_client (step.Arrive target bytes tokens) = Some target
scripted_client (step.ArriveFault target f) = Some target
scripted_client (step.Accept target n) = Some target
scripted_client (step.AcceptFault target f) = Some target
scripted_client (step.TakeSent target) = Some target
scripted_client _ = None

-- the step is a call of a transport by script
abbrev pub IsOfScript : {T U G C : Type 0} → Step T U G C → Type 0
IsOfScript s = IsSome (scripted_client s)

-- the first is a call of a client's transport by script, the second a change of that client's transport
abbrev pub IsChangeFor : {T U G C : Type 0} → Call T U G C → Call T U G C → Type 0
IsChangeFor (Asked s answer) (Changed target t) = scripted_client s ≡ Some target
IsChangeFor _ _ = ⊥

-- Over transports by script and over every transport: any call may stand for itself; a call of a client's transport may stand for a
-- change of that transport, with the same deeds, and no memory refused.
abbrev pub StandsFor : {T U G C : Type 0} → Entry T U G C → Entry T U G C → Type 0
StandsFor e other = (other ≡ e) ⊎ (IsChangeFor e.call other.call × (other.refused ≡ false) × (other.did ≡ e.did))

-- so it is with each call of a run
abbrev pub EachStandsFor : {T U G C : Type 0} → List (Entry T U G C) → List (Entry T U G C) → Type 0
EachStandsFor [] others = others ≡ []
EachStandsFor (e ∷ run) [] = ⊥
EachStandsFor (e ∷ run) (other ∷ others) = StandsFor e other × EachStandsFor run others
