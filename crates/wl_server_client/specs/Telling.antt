-- The server's own messages to a client, and what becomes of the client.
--
-- The messages of one call are put one after another, up to the first that cannot be put. Then the client is killed, as
-- one whose connection is closed.
use Rattle.std.specs.Prelude.{◌≡◌, ℕ, List, [], ◌∷◌, ◌++◌, map, Bool, true, false, if◌then◌else◌, Option, None, Some, Result, nat_lt, length}
use Rattle.wl_wire.specs.declared.argument.Argument.TheVariants as arg
use Rattle.wl_wire.specs.declared.error.IoFault.{IoFault}
use Rattle.wl_wire.specs.Argument.{WireArgument}
use Rattle.wl_wire.specs.Table.{InterfaceRow, name_of}
use Rattle.wl_link.specs.Exchange.{Queue, Sending}
use Rattle.wl_link.specs.Identity.{Id, Objects}
use Rattle.wl_link.specs.Link.{LinkState}
use Rattle.wl_link.specs.Puts.{Said}
use Rattle.wl_link.specs.Reader.{CarriesOut, Given, HandedOut, Queued, Reader, Verdict}
use Rattle.wl_link.specs.Reader.{ReaderState}
use Rattle.wl_link.specs.Store.{Store, is_server_number}
use Rattle.wl_server_client.specs.declared.reading.action.OpenAction.{OpenAction}
use Rattle.wl_server_client.specs.declared.objects.Kept.{Kept}
use Rattle.wl_server_client.specs.declared.reading.violation.Violation.{Violation}
use Rattle.wl_server_client.specs.declared.notes.DisconnectReason.{DisconnectReason}
use Rattle.wl_server_client.specs.declared.notes.DisconnectReason.TheVariants.{ConnectionClosed}
use Rattle.wl_server_client.specs.declared.notes.Happening.{Happening}
use Rattle.wl_server_client.specs.declared.notes.Happening.TheVariants.{Disconnected}
use Rattle.wl_server_client.specs.Deeds.{Deed, Noted, Put, Sent}
use Rattle.wl_server_client.specs.Globals.{Shown}
use Rattle.wl_server_client.specs.Part.{Part}

-- ---- messages

-- a message of the display, which is object 1 and has the serial 0
abbrev pub by_display : ℕ → List WireArgument → Said
by_display opcode args = record { serial = 0; message = record { sender = 1; opcode = opcode; args = args }; makes_text = false }

abbrev pub by_object : Id → ℕ → List WireArgument → Said
by_object id opcode args = record { serial = id.serial; message = record { sender = id.number; opcode = opcode; args = args }; makes_text = false }

-- the same message; a text of it is made when it is put, or is there before
abbrev pub making : Bool → Said → Said
making makes m = record m { makes_text = makes }

-- `wl_display.error`: the object that it is about, the code and the text
abbrev pub error_message : ℕ → ℕ → List ℕ → Said
error_message n code text = by_display 0 (arg.Object n ∷ arg.Uint code ∷ arg.Str (Some text) ∷ [])

-- `wl_display.delete_id`
abbrev pub delete_message : ℕ → Said
delete_message n = by_display 1 (arg.Uint n ∷ [])

-- a client is told only of its own numbers that they are free again
abbrev pub deletions : ℕ → List Said
deletions n = if is_server_number n then [] else (delete_message n ∷ [])

-- `wl_callback.done`
abbrev pub done_message : Id → Said
done_message callback = by_object callback 0 (arg.Uint 0 ∷ [])

-- `wl_registry.global`: the name, the interface's name and the version. The text is made when the message is put.
abbrev pub global_message : List InterfaceRow → Id → Shown → Said
global_message table registry g =
    making true (by_object registry 0 (arg.Uint g.name ∷ arg.Str (Some (name_of table g.interface.0)) ∷ arg.Uint g.version ∷ []))

-- `wl_registry.global` of each of these globals, one after another. The text of one is put into the memory of the one
-- before, which has this many bytes: so memory is asked for only if it is longer.
abbrev pub introductions : List InterfaceRow → Id → ℕ → List Shown → List Said
introductions table registry room [] = []
introductions table registry room (g ∷ gs) =
    making (nat_lt room (length (name_of table g.interface.0))) (global_message table registry g)
    ∷ introductions table registry (length (name_of table g.interface.0)) gs

-- `wl_registry.global_remove`
abbrev pub removal_message : ℕ → Id → Said
removal_message name registry = by_object registry 1 (arg.Uint name ∷ [])

-- ---- all of a client's part but its link

-- All that is held of a client but its link, as `Part` has it; and in `ended`, why it was killed in this call, if it was.
pub record Core (U C : Type 0) : Type 0 where
  pub client_data : C
  pub store : Store (Kept U)
  pub last_serial : ℕ
  pub is_killed : Bool
  pub action : Option OpenAction
  pub registries : List Id
  pub waiting : List (Happening U)
  pub violation : Option Violation
  pub ended : Option DisconnectReason

-- what is handed out: a deed; or the reason for which nothing more is read
pub data Told (U : Type 0) : Type 0 where
  Did : Deed U → Told U
  Stops : IoFault → Told U

-- the data with which the program ends an action: a request or a bind
pub data Finish (U : Type 0) : Type 0 where
  OfRequest : Option U → Finish U
  OfBind : U → Finish U

-- ---- deeds

module _ {U : Type 0} where
  -- the note of the client's end, if it is killed in this call
  abbrev pub end_deeds : Option DisconnectReason → List (Deed U)
  end_deeds None = []
  end_deeds (Some reason) = Noted (Disconnected reason) ∷ []

  abbrev pub deeds_in : List (Given (Told U)) → List (Deed U)
  deeds_in [] = []
  deeds_in (Queued m ∷ gave) = Put m ∷ deeds_in gave
  deeds_in (HandedOut (Did d) ∷ gave) = d ∷ deeds_in gave
  deeds_in (HandedOut (Stops f) ∷ gave) = deeds_in gave

module _ {U C : Type 0} where
  abbrev pub objects_in : Core U C → Objects (Kept U)
  objects_in c = record { store = c.store; last_serial = c.last_serial }

  abbrev pub with_objects : Core U C → Objects (Kept U) → Core U C
  with_objects c objects = record c { store = objects.store; last_serial = objects.last_serial }

  -- The client is killed, for this reason. If it is killed already, the earlier reason stays.
  abbrev pub killed : Core U C → DisconnectReason → Core U C
  killed c reason = record c { is_killed = true; ended = if c.is_killed then c.ended else Some reason }

  -- the client is killed as one whose connection is closed
  abbrev pub closed_down : Core U C → Core U C
  closed_down c = killed c ConnectionClosed

  -- A client is told these messages. If one cannot be put, also because memory is refused, the client is killed as closed.
  abbrev pub tells : Core U C → List Said → Verdict (Core U C) (Told U)
  tells c puts = record {
    core = c;
    puts = puts;
    flushes = false;
    last = λ d. d;
    asks = false;
    starved = closed_down c;
    events = λ d. [];
  }

  -- A client that is not read in this call, as a reader: a write that fails kills it as closed, and nothing else happens.
  abbrev pub speaker : Reader (Core U C) (Told U) (Finish U)
  speaker = record {
    reads_on = λ c. false;
    signature = λ c sender opcode. None;
    asks = λ c sender opcode. false;
    handles = λ c m. tells c [];
    malformed = λ c u. tells c [];
    takes = λ c u. None;
    broken = λ c f. closed_down c;
    faulted = λ c f. c;
  }

  -- the exchanges with the transport, then what was put and done, and last the note of the client's end
  abbrev pub deeds_of : List (Deed U) → List (Given (Told U)) → Core U C → List (Deed U)
  deeds_of exchanges gave c = exchanges ++ (deeds_in gave ++ end_deeds c.ended)

module _ {T U C : Type 0} where
  -- what is held of the client but its link, before a call
  abbrev pub core_of : Part T U C → Core U C
  core_of p = record {
    client_data = p.client_data;
    store = p.store;
    last_serial = p.last_serial;
    is_killed = p.is_killed;
    action = p.action;
    registries = p.registries;
    waiting = p.waiting;
    violation = p.violation;
    ended = None;
  }

  -- the client as the state of a reader
  abbrev pub reader_part : Part T U C → ReaderState T (Core U C)
  reader_part p = record { core = core_of p; link = p.link }

  abbrev pub part_of : ReaderState T (Core U C) → Part T U C
  part_of p = record {
    link = p.link;
    client_data = p.core.client_data;
    store = p.core.store;
    last_serial = p.core.last_serial;
    is_killed = p.core.is_killed;
    action = p.core.action;
    registries = p.core.registries;
    waiting = p.core.waiting;
    violation = p.core.violation;
  }

  -- A verdict is carried out over the link. `refused` says whether memory was refused in that, `did` are the deeds.
  abbrev pub Tells : (T → Queue → Result ℕ IoFault → T → Type 0) → Verdict (Core U C) (Told U) → LinkState T → Bool → List (Deed U)
      → Part T U C → Type 0
  Tells sends v link refused did after =
      (es : List Sending) × (gave : List (Given (Told U))) × (end : ReaderState T (Core U C))
      × CarriesOut sends speaker v link es gave refused end × (did ≡ deeds_of (map Sent es) gave end.core) × (after ≡ part_of end)

  -- the client is killed, and that is noted with its reason; a killed one stays as it is
  abbrev pub Kills : Part T U C → DisconnectReason → List (Deed U) → Part T U C → Type 0
  Kills before reason did after =
      (did ≡ end_deeds (killed (core_of before) reason).ended) × (after ≡ record before { is_killed = true })
