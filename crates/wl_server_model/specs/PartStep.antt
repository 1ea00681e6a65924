-- What a call does to what is held of one client id.
--
-- A call may name one client. Then it changes what is held of that client, and nothing of any other. Or it names none, and
-- then each client *feels* it by itself. What happens to a client never depends on another one.
--
-- Whether memory was refused is said for each client by itself, and so are the deeds.
use Rattle.std.specs.Prelude.{◌≡◌, ℕ, List, [], ◌∷◌, ◌++◌, map, Bool, true, false, if◌then◌else◌, Option, None, Some, Result, Ok, Err, MatchBool, MatchOption, Vec}
use Rattle.std.specs.Global.{Global}
use Rattle.wl_wire.specs.declared.error.IoFault.{IoFault}
use Rattle.wl_wire.specs.declared.error.IoFault.TheVariants as fault
use Rattle.wl_wire.specs.declared.error.OutOfMemory.{OutOfMemory}
use Rattle.wl_wire.specs.declared.interface.InterfaceId.{InterfaceId}
use Rattle.wl_wire.specs.declared.protocol.TableError.{TableError}
use Rattle.wl_wire.specs.Table.{Growth}
use Rattle.wl_link.specs.Exchange.{Queue}
use Rattle.wl_link.specs.Link.{LinkState, IsFresh, LimitSet, with_transport}
use Rattle.wl_link.specs.Script.{Script, ScriptReceives, ScriptSends}
use Rattle.wl_server_client.specs.declared.reading.action.Reading.{Reading}
use Rattle.wl_server_client.specs.declared.error.ActionError.{ActionError}
use Rattle.wl_server_client.specs.declared.error.ActionError.TheVariants.{Io}
use Rattle.wl_server_client.specs.declared.error.CreateAtError.{CreateAtError}
use Rattle.wl_server_client.specs.declared.error.CreateAtError.TheVariants as create_at
use Rattle.wl_server_client.specs.declared.error.CreateError.{CreateError}
use Rattle.wl_server_client.specs.declared.error.CreateError.TheVariants as create
use Rattle.wl_server_client.specs.declared.error.DestroyError.TheVariants as destroy
use Rattle.wl_server_client.specs.declared.error.EventError.TheVariants as event
use Rattle.wl_server_client.specs.declared.error.FinishError.TheVariants as finish
use Rattle.wl_server_client.specs.declared.error.GlobalError.{GlobalError}
use Rattle.wl_server_client.specs.declared.error.InsertClientError.{InsertClientError}
use Rattle.wl_server_client.specs.declared.error.ScriptError.TheVariants as script
use Rattle.wl_server_client.specs.declared.error.VersionError.TheVariants as version
use Rattle.wl_server_client.specs.declared.notes.Happening.TheVariants.{Initialized}
use Rattle.wl_server_client.specs.declared.notes.Note.{Note}
use Rattle.wl_server_model.specs.declared.step.Reply.{Reply}
use Rattle.wl_server_model.specs.declared.step.Reply.TheVariants as reply
use Rattle.wl_server_model.specs.declared.step.Step.{Step}
use Rattle.wl_server_model.specs.declared.step.Step.TheVariants as step
use Rattle.wl_server_client.specs.Chosen.{CreatesNumbered, VersionSet}
use Rattle.wl_server_client.specs.Deeds.{Deed, Handed, NoteTaken, Noted, notes_in}
use Rattle.wl_server_client.specs.Errors.{PostsError}
use Rattle.wl_server_client.specs.Events.{SendsEvent, session_content}
use Rattle.wl_server_client.specs.Felt.{Cleaned, FlushedTo, FlushesLive, Hears, news, removals}
use Rattle.wl_server_client.specs.Finish.{FinishesBind, FinishesRequest}
use Rattle.wl_server_client.specs.Globals.{Offer, global_of, is_enabled}
use Rattle.wl_server_client.specs.Ids.{ClientParts, GlobalParts, IdParts, same_client}
use Rattle.wl_server_model.specs.Moves.{Accept, AcceptFault, Arrive, ArriveFault, Move, Moved, ScriptMoves, TakeSent, no_moves, nothing_taken, taken}
use Rattle.wl_server_client.specs.Objects.{Creates, DataSet, Destroys}
use Rattle.wl_server_client.specs.Part.{Part, fresh_part, with_link}
use Rattle.wl_server_client.specs.Reading.{Around, NextAction, action_content, new_reading}
use Rattle.wl_server_model.specs.Server.{Seen, notes_of}
use Rattle.wl_server_client.specs.Telling.{Kills}

-- What is given from outside a server: how a transport sends and receives, what the calls of a transport by script do, and
-- which clients a handler lets see its global.
pub record World (T G C : Type 0) : Type 1 where
  pub sends : T → Queue → Result ℕ IoFault → T → Type 0
  pub receives : T → ℕ → Result Queue IoFault → T → Type 0
  pub moves : T → Move → Moved → T → Type 0
  pub views : G → ClientParts → C → GlobalParts → Bool

-- over any transport, which the program may change as it likes
abbrev pub over : {T G C : Type 0} → (T → Queue → Result ℕ IoFault → T → Type 0) → (T → ℕ → Result Queue IoFault → T → Type 0)
    → (G → ClientParts → C → GlobalParts → Bool) → World T G C
over sends receives views = record { sends = sends; receives = receives; moves = no_moves; views = views }

-- over the transport by script
abbrev pub over_scripts : {G C : Type 0} → (G → ClientParts → C → GlobalParts → Bool) → World Script G C
over_scripts views = record { sends = ScriptSends; receives = ScriptReceives; moves = ScriptMoves; views = views }

-- A call of a server: a step with its reply; a change of a client's transport to this value, by the program; or interfaces or
-- messages that were to be added to the table, with the answer.
pub data Call (T U G C : Type 0) : Type 0 where
  Asked : Step T U G C → Reply T U → Call T U G C
  Changed : ClientParts → T → Call T U G C
  Grown : Growth → Result (Unit {0}) TableError → Call T U G C

-- ---- whether memory was refused, by the answer

abbrev pub lacks_create : Result IdParts CreateError → Bool
lacks_create (Err create.OutOfMemory) = true
lacks_create _ = false

abbrev pub lacks_create_at : Result IdParts CreateAtError → Bool
lacks_create_at (Err create_at.OutOfMemory) = true
lacks_create_at _ = false

abbrev pub lacks_move : Moved → Bool
lacks_move (Err script.OutOfMemory) = true
lacks_move _ = false

-- ---- forms of a step

-- a client's share of a list
abbrev pub share_of : {T : Type 0} → ClientParts → List (ClientParts × T) → List T
share_of id [] = []
share_of id (e ∷ rest) = if same_client e.0 id then (e.1 ∷ share_of id rest) else share_of id rest

-- a step that needs no memory, has no deeds, and only changes the part
abbrev pub Quietly : {U : Type 0} → Bool → List (Deed U) → Type 0 → Type 0
Quietly lacked did changes = (lacked ≡ false) × (did ≡ []) × changes

module _ {T U C : Type 0} where
  -- the step does nothing to the client
  abbrev pub Unfelt : Seen T U C → Bool → List (Deed U) → Seen T U C → Type 0
  Unfelt before lacked did after = (lacked ≡ false) × (did ≡ []) × (after ≡ before)

  -- The part changes by R, and its new notes come after those that were made. If the client is not stored, nothing changes,
  -- and the answer is the one for such a client.
  abbrev pub OnPart : Seen T U C → (Part T U C → Part T U C → Type 0) → Type 0 → Bool → List (Deed U) → Seen T U C → Type 0
  OnPart before R missing lacked did after =
      MatchOption before.part (missing × Unfelt before lacked did after)
      (λ p. (q : Part T U C) × R p q × (after ≡ record { part = Some q; made = before.made ++ notes_in did }))

  -- a step that names a client: this one, or another
  abbrev pub OfClient : Bool → Seen T U C → (Part T U C → Part T U C → Type 0) → Type 0 → Bool → List (Deed U) → Seen T U C → Type 0
  OfClient about before R missing lacked did after = MatchBool about (OnPart before R missing lacked did after) (Unfelt before lacked did after)

  -- a step that each stored client feels
  abbrev pub Feels : Seen T U C → (Part T U C → Part T U C → Type 0) → Bool → List (Deed U) → Seen T U C → Type 0
  Feels before R lacked did after = OnPart before R (Unit {0}) lacked did after

  -- the program changes the client's transport
  abbrev pub WithTransport : (T → T → Type 0) → Part T U C → Part T U C → Type 0
  WithTransport becomes before after = (t : T) × becomes before.link.transport t × (after ≡ with_link before (with_transport before.link t))

abbrev pub around : {T G C : Type 0} → World T G C → ClientParts → Offer G → Around G C
around w id offer = record {
  table = offer.table;
  client = id;
  globals = offer.globals;
  views = w.views;
  object_limit = offer.object_limit;
  hands_registries = offer.hands_registries;
}

module _ {T U G C : Type 0} (w : World T G C) (id : ClientParts) (offer : Offer G) where
  -- ---- insertion

  -- a new client, in which nothing has happened but its insertion
  abbrev pub Inserted : T → C → Seen T U C → Bool → List (Deed U) → Seen T U C → Type 0
  Inserted transport client_data before lacked did after =
      (link : LinkState T) × IsFresh transport (Some offer.default_limit) link
      × (lacked ≡ false) × (did ≡ Noted Initialized ∷ [])
      × (after ≡ record { part = Some (fresh_part link client_data); made = before.made ++ Initialized ∷ [] })

  abbrev pub InsertedAs : T → C → Result ClientParts InsertClientError → Seen T U C → Bool → List (Deed U) → Seen T U C → Type 0
  InsertedAs transport client_data (Ok new) before lacked did after =
      MatchBool (same_client new id) (Inserted transport client_data before lacked did after) (Unfelt before lacked did after)
  InsertedAs transport client_data (Err e) before lacked did after = Unfelt before lacked did after

  -- ---- globals

  -- a global that was created is announced on each registry of a client that may see it
  abbrev pub FeelsGlobal : InterfaceId → ℕ → G → Result GlobalParts GlobalError → Seen T U C → Bool → List (Deed U) → Seen T U C → Type 0
  FeelsGlobal i version handler (Ok g) before lacked did after =
      Feels before
      (λ p q. Hears w.sends p (news offer.table p (w.views handler id p.client_data g) (record { name = g.name; interface = i; version = version }))
      lacked did q)
      lacked did after
  FeelsGlobal i version handler (Err e) before lacked did after = Unfelt before lacked did after

  -- each registry is told that the global is no longer announced, if it was enabled until now
  abbrev pub FeelsLoss : GlobalParts → Seen T U C → Bool → List (Deed U) → Seen T U C → Type 0
  FeelsLoss g before lacked did after =
      MatchBool (is_enabled (global_of offer.globals g))
      (Feels before (λ p q. Hears w.sends p (removals p g.name) lacked did q) lacked did after)
      (Unfelt before lacked did after)

  -- ---- flushes, cleanups, notes

  abbrev pub FlushedFor : Option ClientParts → Result (Unit {0}) IoFault → Seen T U C → Bool → List (Deed U) → Seen T U C → Type 0
  FlushedFor None answer before lacked did after =
      (answer ≡ Ok tt) × Feels before (λ p q. FlushesLive w.sends p lacked did q) lacked did after
  FlushedFor (Some target) answer before lacked did after =
      OfClient (same_client target id) before (λ p q. FlushedTo w.sends p answer lacked did q) (answer ≡ Ok tt) lacked did after

  -- a cleanup hands out the transports of the clients that it takes out; or memory is refused, and nothing is changed
  abbrev pub CleanedAs : Result (Vec (ClientParts × T) Global) OutOfMemory → Seen T U C → Bool → List (Deed U) → Seen T U C → Type 0
  CleanedAs (Ok out) before lacked did after =
      MatchOption before.part ((share_of id out.items ≡ []) × Unfelt before lacked did after)
      (λ p. (q : Option (Part T U C)) × Cleaned w.sends id p lacked did (share_of id out.items) q
      × (after ≡ record { part = q; made = before.made ++ notes_in did }))
  CleanedAs (Err _) before lacked did after = Unfelt before lacked did after

  -- the notes that were made are handed out, in order; or memory is refused, and nothing is changed
  abbrev pub NotesTaken : Result (Vec (Note U) Global) OutOfMemory → Seen T U C → Bool → List (Deed U) → Seen T U C → Type 0
  NotesTaken (Ok out) before lacked did after =
      (notes_of id out.items ≡ before.made) × (lacked ≡ false) × (did ≡ map NoteTaken before.made)
      × (after ≡ record { part = before.part; made = [] })
  NotesTaken (Err _) before lacked did after = Unfelt before lacked did after

  -- ---- readings and moves

  abbrev pub ReadsFor : ClientParts → Reading → Result Handed ActionError → Reading → Seen T U C → Bool → List (Deed U) → Seen T U C → Type 0
  ReadsFor target r answer r' before lacked did after =
      OfClient (same_client target id) before (λ p q. NextAction w.sends w.receives (around w id offer) r p answer r' lacked did q)
      ((answer ≡ Err (Io fault.InvalidInput)) × (r' ≡ r)) lacked did after

  abbrev pub MovedFor : ClientParts → Move → Moved → Seen T U C → Bool → List (Deed U) → Seen T U C → Type 0
  MovedFor target m answer before lacked did after =
      OfClient (same_client target id) before
      (λ p q. (lacked ≡ lacks_move answer) × (did ≡ []) × WithTransport (λ t t'. w.moves t m answer t') p q)
      (answer ≡ Err script.InvalidId) lacked did after

  -- ---- a step

  -- a step with its reply, whether memory was refused to this client, its deeds with this client, and what is held of it
  -- before and after
  abbrev pub PartStep : Step T U G C → Reply T U → Seen T U C → Bool → List (Deed U) → Seen T U C → Type 0
  PartStep (step.InsertClient transport client_data) answer before lacked did after =
      (r : _) × (answer ≡ reply.InsertClient r) × InsertedAs transport client_data r before lacked did after
  PartStep (step.SetObjectData o u) answer before lacked did after =
      (r : _) × (answer ≡ reply.SetObjectData r)
      × OfClient (same_client o.client id) before (λ p q. Quietly lacked did (DataSet p o u r q)) (r ≡ Err _) lacked did after
  PartStep (step.SetObjectVersion o v) answer before lacked did after =
      (r : _) × (answer ≡ reply.SetObjectVersion r)
      × OfClient (same_client o.client id) before (λ p q. Quietly lacked did (VersionSet offer.table p o v r q)) (r ≡ Err version.InvalidId) lacked did after
  PartStep (step.CreateObject target i version u) answer before lacked did after =
      (r : _) × (answer ≡ reply.CreateObject r)
      × OfClient (same_client target id) before
      (λ p q. (lacked ≡ lacks_create r) × (did ≡ []) × Creates offer.table id p i version u r q)
      (r ≡ Err create.InvalidId) lacked did after
  PartStep (step.CreateObjectAt target i version n u) answer before lacked did after =
      (r : _) × (answer ≡ reply.CreateObjectAt r)
      × OfClient (same_client target id) before
      (λ p q. (lacked ≡ lacks_create_at r) × (did ≡ []) × CreatesNumbered offer.table id p i version n u r q)
      (r ≡ Err create_at.InvalidId) lacked did after
  PartStep (step.DestroyObject o) answer before lacked did after =
      (r : _) × (answer ≡ reply.DestroyObject r)
      × OfClient (same_client o.client id) before (λ p q. Destroys w.sends id p o r lacked did q) (r ≡ Err destroy.InvalidId) lacked did after
  PartStep (step.SendEvent m) answer before lacked did after =
      (r : _) × (answer ≡ reply.SendEvent r)
      × OfClient (same_client m.sender_id.client id) before
      (λ p q. SendsEvent w.sends id offer.table p (session_content m) r lacked did q)
      (r ≡ Err event.InvalidId) lacked did after
  PartStep (step.PostError o code text) answer before lacked did after =
      (answer ≡ reply.PostError)
      × OfClient (same_client o.client id) before (λ p q. PostsError w.sends offer.table p o code text lacked did q) (Unit {0}) lacked did after
  PartStep (step.KillClient target reason) answer before lacked did after =
      (answer ≡ reply.KillClient)
      × OfClient (same_client target id) before (λ p q. (lacked ≡ false) × Kills p reason did q) (Unit {0}) lacked did after
  PartStep (step.CreateGlobal i version handler) answer before lacked did after =
      (r : _) × (answer ≡ reply.CreateGlobal r) × FeelsGlobal i version handler r before lacked did after
  PartStep (step.DisableGlobal g) answer before lacked did after = (answer ≡ reply.DisableGlobal) × FeelsLoss g before lacked did after
  PartStep (step.RemoveGlobal g) answer before lacked did after = (answer ≡ reply.RemoveGlobal) × FeelsLoss g before lacked did after
  PartStep (step.KeepGlobalNames keep) answer before lacked did after = (answer ≡ reply.KeepGlobalNames) × Unfelt before lacked did after
  PartStep (step.SetObjectLimit limit) answer before lacked did after = (answer ≡ reply.SetObjectLimit) × Unfelt before lacked did after
  PartStep (step.HandOutRegistries hands) answer before lacked did after = (answer ≡ reply.HandOutRegistries) × Unfelt before lacked did after
  PartStep (step.Flush target) answer before lacked did after =
      (r : _) × (answer ≡ reply.Flush r) × FlushedFor target r before lacked did after
  PartStep (step.SetDefaultMaxBufferSize limit) answer before lacked did after =
      (answer ≡ reply.SetDefaultMaxBufferSize) × Unfelt before lacked did after
  PartStep (step.SetClientMaxBufferSize target limit) answer before lacked did after =
      (answer ≡ reply.SetClientMaxBufferSize)
      × OfClient (same_client target id) before
      (λ p q. Quietly lacked did ((link : LinkState T) × LimitSet p.link (Some limit) link × (q ≡ with_link p link))) (Unit {0}) lacked did after
  PartStep (step.NextAction target) answer before lacked did after =
      (r : _) × (left : Reading) × (answer ≡ reply.NextAction r)
      × ReadsFor target new_reading (action_content r) left before lacked did after
  PartStep (step.NextActionWithin target reading) answer before lacked did after =
      (r : _) × (left : Reading) × (answer ≡ reply.NextActionWithin r left)
      × ReadsFor target reading (action_content r) left before lacked did after
  PartStep (step.FinishRequest target u) answer before lacked did after =
      (r : _) × (answer ≡ reply.FinishRequest r)
      × OfClient (same_client target id) before (λ p q. FinishesRequest w.sends id p u r lacked did q)
      (r ≡ Err (record { error = finish.InvalidId; user_data = u })) lacked did after
  PartStep (step.FinishBind target u) answer before lacked did after =
      (r : _) × (answer ≡ reply.FinishBind r)
      × OfClient (same_client target id) before (λ p q. FinishesBind p u r lacked did q)
      (r ≡ Err (record { error = finish.InvalidId; user_data = u })) lacked did after
  PartStep step.Cleanup answer before lacked did after =
      (r : _) × (answer ≡ reply.Cleanup r) × CleanedAs r before lacked did after
  PartStep step.TakeNotes answer before lacked did after =
      (r : _) × (answer ≡ reply.TakeNotes r) × NotesTaken r before lacked did after
  PartStep (step.Arrive target bytes tokens) answer before lacked did after =
      (r : _) × (answer ≡ reply.Arrive r)
      × MovedFor target (Arrive (record { bytes = bytes.items; tokens = tokens.items })) (nothing_taken r) before lacked did after
  PartStep (step.ArriveFault target f) answer before lacked did after =
      (r : _) × (answer ≡ reply.ArriveFault r) × MovedFor target (ArriveFault f) (nothing_taken r) before lacked did after
  PartStep (step.Accept target n) answer before lacked did after =
      (r : _) × (answer ≡ reply.Accept r) × MovedFor target (Accept n) (nothing_taken r) before lacked did after
  PartStep (step.AcceptFault target f) answer before lacked did after =
      (r : _) × (answer ≡ reply.AcceptFault r) × MovedFor target (AcceptFault f) (nothing_taken r) before lacked did after
  PartStep (step.TakeSent target) answer before lacked did after =
      (r : _) × (answer ≡ reply.TakeSent r) × MovedFor target TakeSent (taken r) before lacked did after

  -- the same for a call
  abbrev pub PartCall : Call T U G C → Seen T U C → Bool → List (Deed U) → Seen T U C → Type 0
  PartCall (Asked s answer) before lacked did after = PartStep s answer before lacked did after
  PartCall (Changed target t) before lacked did after =
      OfClient (same_client target id) before (λ p q. Quietly lacked did (WithTransport (λ _ t'. t' ≡ t) p q)) (Unit {0}) lacked did after
  PartCall (Grown rows answer) before lacked did after = Unfelt before lacked did after
