-- What a call that is about all clients does to each of them. A client *feels* such a call.
use Rattle.std.specs.Prelude.{◌≡◌, ℕ, List, [], ◌∷◌, ◌++◌, map, Bool, false, if◌then◌else◌, Option, None, Some, Result, MatchBool}
use Rattle.std.specs.FinMap as finmap
use Rattle.wl_wire.specs.declared.error.IoFault.{IoFault}
use Rattle.wl_wire.specs.Table.{InterfaceRow}
use Rattle.wl_link.specs.declared.object.Object.{Object}
use Rattle.wl_link.specs.Exchange.{Queue, Sending}
use Rattle.wl_link.specs.Identity.{Id}
use Rattle.wl_link.specs.Link.{LinkState, FlushedBy}
use Rattle.wl_link.specs.Puts.{Said, lacks_memory}
use Rattle.wl_server_client.specs.declared.objects.Kept.{Kept}
use Rattle.wl_server_client.specs.Deeds.{Deed, Noted, Sent, left_if}
use Rattle.wl_server_client.specs.Globals.{Shown}
use Rattle.wl_server_client.specs.Ids.{ClientParts}
use Rattle.wl_server_client.specs.Part.{Part, id_at, id_of, note_of_end, same_id, with_link}
use Rattle.wl_server_client.specs.Telling.{Tells, core_of, global_message, making, removal_message, tells}

abbrev pub is_first : List Id → Id → Bool
is_first [] r = false
is_first (first ∷ rest) r = same_id first r

-- what the registries of a client are told of one global; the text is made for the first, and the others get the same
abbrev pub announcements : List InterfaceRow → List Id → Shown → List Said
announcements table registries g = map (λ r. making (is_first registries r) (global_message table r g)) registries

module _ {T U C : Type 0} where
  -- what the registries of a client are told of a new global, if the client may see it
  abbrev pub news : List InterfaceRow → Part T U C → Bool → Shown → List Said
  news table p visible g = if visible then announcements table p.registries g else []

  -- what they are told of a global that is no longer announced, whether the client could see it or not
  abbrev pub removals : Part T U C → ℕ → List Said
  removals p name = map (removal_message name) p.registries

  -- nothing is done to the client
  abbrev pub Stays : Part T U C → Bool → List (Deed U) → Part T U C → Type 0
  Stays before lacked did after = (lacked ≡ false) × (did ≡ []) × (after ≡ before)

module _ {T U C : Type 0} (sends : T → Queue → Result ℕ IoFault → T → Type 0) where
  -- a live client is told the messages; a killed one is told nothing
  abbrev pub Hears : Part T U C → List Said → Bool → List (Deed U) → Part T U C → Type 0
  Hears before messages lacked did after =
      MatchBool before.is_killed (Stays before lacked did after) (Tells sends (tells (core_of before) messages) before.link lacked did after)

  -- what waits for the client is flushed
  abbrev pub FlushedTo : Part T U C → Result (Unit {0}) IoFault → Bool → List (Deed U) → Part T U C → Type 0
  FlushedTo before answer lacked did after =
      (es : List Sending) × (link : LinkState T) × FlushedBy sends before.link es answer link
      × (lacked ≡ lacks_memory answer) × (did ≡ map Sent es) × (after ≡ with_link before link)

  -- what waits for a live client is flushed; a fault is dropped
  abbrev pub FlushesLive : Part T U C → Bool → List (Deed U) → Part T U C → Type 0
  FlushesLive before lacked did after =
      MatchBool before.is_killed (Stays before lacked did after)
      ((answer : Result (Unit {0}) IoFault) × FlushedTo before answer lacked did after)

-- ---- a cleanup

-- the objects of a client that is taken out leave, by ascending number, and each that has user data is noted
abbrev pub objects_leave : {U : Type 0} → ClientParts → List (ℕ × Object (Kept U)) → List (Deed U)
objects_leave client [] = []
objects_leave client (e ∷ rest) =
    map Noted (note_of_end client e.0 e.1) ++ (left_if (id_of (id_at client e.0 e.1)) e.1.value.user_data ++ objects_leave client rest)

module _ {T U C : Type 0} (sends : T → Queue → Result ℕ IoFault → T → Type 0) (client : ClientParts) where
  -- A cleanup: the notes that waited are made. A live client stays. The objects of a killed one leave and are noted, what
  -- waits to be sent is flushed once, and the client is taken out: its transport is handed out, and nothing is held of it.
  abbrev pub Cleaned : Part T U C → Bool → List (Deed U) → List T → Option (Part T U C) → Type 0
  Cleaned before lacked did out after =
      MatchBool before.is_killed
      ((sent : List (Deed U)) × (answer : Result (Unit {0}) IoFault) × (end : Part T U C) × FlushedTo sends before answer lacked sent end
      × (did ≡ map Noted before.waiting ++ (objects_leave client (finmap.entries before.store.objects) ++ sent))
      × (out ≡ end.link.transport ∷ []) × (after ≡ None))
      ((lacked ≡ false) × (did ≡ map Noted before.waiting) × (out ≡ []) × (after ≡ Some (record before { waiting = [] })))
