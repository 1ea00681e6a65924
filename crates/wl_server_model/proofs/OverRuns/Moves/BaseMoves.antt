-- The base moves of a client's part: each call is a chain of these.
--
-- So a law of whole runs is an induction over the moves, and sees no call. A move says what it does to the part, and what
-- it does beside that, by kind: a chain of moves tells the deeds of a call but for the order of deeds of different kinds.
use Rattle.std.specs.Prelude.{◌≡◌, ◌≢◌, ℕ, ◌+◌, List, [], ◌∷◌, ◌++◌, Bool, true, false, ◌==◌, if◌then◌else◌, Option, None, Some, Result}
use Rattle.wl_wire.specs.declared.error.IoFault.{IoFault}
use Rattle.wl_wire.specs.Table.{InterfaceRow, registry_id}
use Rattle.wl_link.specs.declared.object.Object.{Object}
use Rattle.wl_link.specs.Exchange.{Queue, Sending}
use Rattle.wl_link.specs.Identity.{Id, Found, HandedId, New}
use Rattle.wl_link.specs.Link.{LinkState, FilledBy, FlushedBy}
use Rattle.wl_link.specs.Puts.{PutsOut, Said}
use Rattle.wl_link.specs.Store.{held, removed, rewritten, stored}
use Rattle.wl_server_client.specs.declared.reading.action.OpenAction.{OpenAction}
use Rattle.wl_server_client.specs.declared.reading.action.OpenAction.TheVariants as opened
use Rattle.wl_server_client.specs.declared.objects.Kept.{Kept}
use Rattle.wl_server_client.specs.declared.notes.DisconnectReason.{DisconnectReason}
use Rattle.wl_server_client.specs.declared.notes.DisconnectReason.TheVariants.{ConnectionClosed, ProtocolError as BrokeProtocol}
use Rattle.wl_server_client.specs.declared.notes.Happening.{Happening}
use Rattle.wl_server_client.specs.declared.notes.Happening.TheVariants.{Disconnected}
use Rattle.wl_server_model.specs.declared.step.Reply.TheVariants as reply
use Rattle.wl_server_model.specs.declared.step.Step.TheVariants as step
use Rattle.wl_server_client.specs.Chosen.{with_version}
use Rattle.wl_server_client.specs.declared.reading.violation.Violation.{Violation}
use Rattle.wl_server_model.specs.HandedIds.{action_ids, made_ids}
use Rattle.wl_server_client.specs.Deeds.{Acted, Bind, Deed, Handed, IsAmong, Registry, Request, came_in, left_in, log_of, notes_in, registries_in, sends_of, taken_in}
use Rattle.wl_server_client.specs.Errors.{error_of}
use Rattle.wl_server_client.specs.Ids.{ClientParts, IdParts, same_client}
use Rattle.wl_server_client.specs.Part.{Part, display_of, id_at, id_of, note_of_end, null_id, registries_without, with_link, with_user_data}
use Rattle.wl_server_model.specs.PartStep.{Asked, Call}
use Rattle.wl_server_model.specs.Server.{Seen}

-- ---- ids that are handed out

-- the ids of all these actions
abbrev pub all_action_ids : List Handed → List (HandedId IdParts)
all_action_ids [] = []
all_action_ids (h ∷ acted) = action_ids h ++ all_action_ids acted

-- ---- what is done, by kind

module _ {U : Type 0} where
  -- the actions that were handed out
  abbrev pub acted_in : List (Deed U) → List Handed
  acted_in [] = []
  acted_in (Acted h ∷ did) = h ∷ acted_in did
  acted_in (_ ∷ did) = acted_in did

-- What is done beside what the part becomes, by kind, each in order: the ids that are handed out, but for those of notes,
-- and deeds of each kind.
pub record Doings (U : Type 0) : Type 0 where
  pub handed : List (HandedId IdParts)
  pub sends : List Sending
  pub came : List (Result Queue IoFault)
  pub put : List Said
  pub registries : List Id
  pub left : List Id
  pub notes : List (Happening U)
  pub acted : List Handed
  pub taken : List (Happening U)

module _ {U : Type 0} where
  abbrev pub doings_of : List (HandedId IdParts) → List (Deed U) → Doings U
  doings_of ids did = record {
    handed = ids;
    sends = sends_of did;
    came = came_in did;
    put = log_of did;
    registries = registries_in did;
    left = left_in did;
    notes = notes_in did;
    acted = acted_in did;
    taken = taken_in did;
  }

  abbrev pub nothing_done : Doings U
  nothing_done = doings_of [] []

  -- what was done first, and then the rest
  abbrev pub joined : Doings U → Doings U → Doings U
  joined a b = record {
    handed = a.handed ++ b.handed;
    sends = a.sends ++ b.sends;
    came = a.came ++ b.came;
    put = a.put ++ b.put;
    registries = a.registries ++ b.registries;
    left = a.left ++ b.left;
    notes = a.notes ++ b.notes;
    acted = a.acted ++ b.acted;
    taken = a.taken ++ b.taken;
  }

  -- ---- doings of one kind

  abbrev pub handing : List (HandedId IdParts) → Doings U
  handing ids = doings_of ids []

  abbrev pub sending : List Sending → Doings U
  sending es = record nothing_done { sends = es }

  abbrev pub receiving : Result Queue IoFault → Doings U
  receiving r = record nothing_done { came = r ∷ [] }

  abbrev pub putting : List Sending → List Said → Doings U
  putting es put = record nothing_done { sends = es; put = put }

  abbrev pub noting : List (Happening U) → Doings U
  noting notes = record nothing_done { notes = notes }

  -- a client that is killed already is not noted again
  abbrev pub end_notes : Bool → DisconnectReason → List (Happening U)
  end_notes is_killed reason = if is_killed then [] else (Disconnected reason ∷ [])

  -- the object that leaves, if it had user data
  abbrev pub left_id : Id → Option U → List Id
  left_id id None = []
  left_id id (Some u) = id ∷ []

  -- an object leaves, and is noted at once, or its note waits
  abbrev pub leaving : ClientParts → Bool → ℕ → Object (Kept U) → Doings U
  leaving client waits n x = record nothing_done {
    left = left_id (id_of (id_at client n x)) x.value.user_data;
    notes = if waits then [] else note_of_end client n x;
  }

module _ {T U C : Type 0} (client : ClientParts) where
  -- what becomes of a part where an object leaves it
  abbrev pub left_by : Bool → Part T U C → ℕ → Object (Kept U) → Part T U C
  left_by waits p n x = record p {
    store = removed p.store n;
    registries = registries_without p.registries n x;
    waiting = if waits then p.waiting ++ note_of_end client n x else p.waiting;
  }

  -- what is open from now on is what was handed out: a request of a kept object that is no registry, or a bind, or a registry
  abbrev pub Opens : Part T U C → OpenAction → Handed → Type 0
  Opens p (opened.Request sender is_destructor created) (Request sender' opcode args is_destructor' created') =
      ((x : Object (Kept U)) × (held p.store sender.number ≡ Some x) × (sender ≡ id_at client sender.number x)
      × ((x.interface.0 == registry_id.0) ≡ false))
      × (sender' ≡ sender) × (is_destructor' ≡ is_destructor) × (created' ≡ created)
  Opens p (opened.Bind object) (Bind global object') = object' ≡ object
  Opens p (opened.Bind object) (Registry object') = object' ≡ object
  Opens p _ _ = ⊥

-- ---- the moves

-- Which moves there may be: whether notes that wait are made, whether notes are handed out, whether the client is read, whether
-- its action is ended, and for which reasons it is killed. It may always be closed down.
pub record Kind : Type 1 where
  pub gathers : Bool
  pub hands : Bool
  pub reads : Bool
  pub finishes : Bool
  pub kills : DisconnectReason → Type 0
  pub closes : kills ConnectionClosed

-- for any reason
abbrev pub any : Bool → Kind
any b = record { gathers = b; hands = true; reads = true; finishes = true; kills = λ reason. Unit {0}; closes = tt }

-- a reading may be among them: the client is read, and an error that is about its display is a reason
pub record MayRead (kind : Kind) (table : List InterfaceRow) (client : ClientParts) : Type 0 where
  pub displays : (code : ℕ) (text : List ℕ) → kind.kills (BrokeProtocol (error_of table (display_of client) code text))
  pub reads : kind.reads ≡ true

pub data Move {T U C : Type 0} (kind : Kind) (sends : T → Queue → Result ℕ IoFault → T → Type 0)
    (receives : T → ℕ → Result Queue IoFault → T → Type 0)
    (client : ClientParts) (p : Part T U C) (d : Doings U) (q : Part T U C) : Type 0 where
  -- the link: a message was read, or the program changed the transport or a limit; a receive; messages are put, up to the
  -- first that fails; a flush
  relinked : (link : LinkState T) → link.outgoing ≡ p.link.outgoing → link.outgoing_capacity ≡ p.link.outgoing_capacity
      → (kind.reads ≡ false → link.incoming ≡ p.link.incoming) → d ≡ nothing_done
      → q ≡ with_link p link → Move kind sends receives client p d q
  received : (r : Result Queue IoFault) (answer : Result (Unit {0}) IoFault) (link : LinkState T)
      → kind.reads ≡ true → FilledBy receives p.link r answer link → d ≡ receiving r → q ≡ with_link p link → Move kind sends receives client p d q
  told : (messages : List Said) (es : List Sending) (put : List Said) (answer : Result (Unit {0}) IoFault)
      (link : LinkState T) → PutsOut sends p.link messages es put answer link → d ≡ putting es put → q ≡ with_link p link
      → Move kind sends receives client p d q
  flushed : (es : List Sending) (answer : Result (Unit {0}) IoFault) (link : LinkState T)
      → FlushedBy sends p.link es answer link → d ≡ sending es → q ≡ with_link p link → Move kind sends receives client p d q
  -- the client is killed, which is noted if it was not
  ended : (reason : DisconnectReason) → kind.kills reason → d ≡ noting (end_notes p.is_killed reason)
      → q ≡ record p { is_killed = true } → Move kind sends receives client p d q
  -- it is kept how the client broke the protocol
  broke : (w : Violation) → kind.reads ≡ true → d ≡ nothing_done → q ≡ record p { violation = Some w } → Move kind sends receives client p d q
  -- an object takes a free number and the next serial, and its id is made; an id is made of an object, or of none; an
  -- object gets user data, or another version; an object leaves
  born : (n : ℕ) (x : Object (Kept U)) → held p.store n ≡ None → n ≢ 0 → x.value.serial ≡ p.last_serial + 1
      → d ≡ handing (New (id_at client n x) ∷ []) → q ≡ record p { store = stored p.store n x; last_serial = p.last_serial + 1 }
      → Move kind sends receives client p d q
  found : (n : ℕ) (x : Object (Kept U)) → held p.store n ≡ Some x → d ≡ handing (Found (id_at client n x) ∷ [])
      → q ≡ p → Move kind sends receives client p d q
  found_none : d ≡ handing (Found (null_id client) ∷ []) → q ≡ p → Move kind sends receives client p d q
  wrote : (n : ℕ) (x : Object (Kept U)) (u : U) → held p.store n ≡ Some x → d ≡ nothing_done
      → q ≡ record p { store = rewritten p.store n (with_user_data u x) } → Move kind sends receives client p d q
  versioned : (n : ℕ) (x : Object (Kept U)) (version : ℕ) → held p.store n ≡ Some x → d ≡ nothing_done
      → q ≡ record p { store = rewritten p.store n (with_version version x) } → Move kind sends receives client p d q
  went : (n : ℕ) (x : Object (Kept U)) (waits : Bool) → held p.store n ≡ Some x
      → d ≡ leaving client waits n x → q ≡ left_by client waits p n x → Move kind sends receives client p d q
  -- a kept registry is told of globals from now on; an action is handed out, and open; none is open; the notes that waited
  -- are made
  remembered : (n : ℕ) (x : Object (Kept U)) → held p.store n ≡ Some x → (x.interface.0 == registry_id.0) ≡ true
      → d ≡ record nothing_done { registries = id_of (id_at client n x) ∷ [] }
      → q ≡ record p { registries = p.registries ++ id_of (id_at client n x) ∷ [] } → Move kind sends receives client p d q
  opens : (action : OpenAction) (h : Handed) → kind.reads ≡ true → Opens client p action h
      → d ≡ record nothing_done { acted = h ∷ [] } → q ≡ record p { action = Some action } → Move kind sends receives client p d q
  finished : kind.finishes ≡ true → d ≡ nothing_done → q ≡ record p { action = None } → Move kind sends receives client p d q
  cleaned : kind.gathers ≡ true → d ≡ noting p.waiting → q ≡ record p { waiting = [] } → Move kind sends receives client p d q

pub data Moves {T U C : Type 0} (kind : Kind) (sends : T → Queue → Result ℕ IoFault → T → Type 0)
    (receives : T → ℕ → Result Queue IoFault → T → Type 0)
    (client : ClientParts) : Part T U C → Doings U → Part T U C → Type 0 where
  -- nothing, one move, or moves behind others
  stayed : {p q : Part T U C} {d : Doings U} → d ≡ nothing_done → q ≡ p → Moves kind sends receives client p d q
  moved : {p q : Part T U C} {d : Doings U} → Move kind sends receives client p d q → Moves kind sends receives client p d q
  followed : {p m q : Part T U C} {a b d : Doings U} → Moves kind sends receives client p a m → Moves kind sends receives client m b q
      → d ≡ joined a b
      → Moves kind sends receives client p d q
  -- of the ids that came up on the way these are handed out
  handed_out : {p q : Part T U C} {a d : Doings U} (ids : List (HandedId IdParts)) → Moves kind sends receives client p a q
      → ((id : HandedId IdParts) → IsAmong ids id → IsAmong a.handed id) → d ≡ record a { handed = ids } → Moves kind sends receives client p d q

-- ---- what is held of a client id

-- the ids that a call hands out of a client, but for those of notes
abbrev pub handed_by : {T U G C : Type 0} → ClientParts → Call T U G C → List (Deed U) → List (HandedId IdParts)
handed_by id (Asked (step.CreateObject target i version u) (reply.CreateObject r)) did = if same_client target id then made_ids r else []
handed_by id (Asked (step.CreateObjectAt target i version n u) (reply.CreateObjectAt r)) did = if same_client target id then made_ids r else []
handed_by id _ did = all_action_ids (acted_in did)

-- What a call does to that which does not insert the client: nothing; its part goes over moves, the notes of them behind
-- those that were made; it is taken out, killed and with no object left; or the notes are handed out.
pub data Goes {T U C : Type 0} (kind : Kind) (sends : T → Queue → Result ℕ IoFault → T → Type 0)
    (receives : T → ℕ → Result Queue IoFault → T → Type 0)
    (client : ClientParts) : Seen T U C → Doings U → Seen T U C → Type 0 where
  unfelt : {s t : Seen T U C} {d : Doings U} → d ≡ nothing_done → t ≡ s → Goes kind sends receives client s d t
  within : {s t : Seen T U C} {d : Doings U} (p q : Part T U C) → s.part ≡ Some p → Moves kind sends receives client p d q
      → t ≡ record { part = Some q; made = s.made ++ d.notes } → Goes kind sends receives client s d t
  taken_out : {s t : Seen T U C} {d : Doings U} (p q : Part T U C) → kind.gathers ≡ true → s.part ≡ Some p → p.is_killed ≡ true
      → Moves kind sends receives client p d q
      → ((n : ℕ) → held q.store n ≡ None) → q.waiting ≡ [] → t ≡ record { part = None; made = s.made ++ d.notes }
      → Goes kind sends receives client s d t
  notes_taken : {s t : Seen T U C} {d : Doings U} → kind.hands ≡ true → d ≡ record nothing_done { taken = s.made }
      → t ≡ record { part = s.part; made = [] }
      → Goes kind sends receives client s d t
