-- What becomes of the messages that a side sends, one after another.
use Rattle.std.specs.Prelude.{◌≡◌, ℕ, ◌⊎◌, List, [], ◌∷◌, ◌++◌, Option, None, Some, Result, Ok, Err, if◌then◌else◌}
use Rattle.wl_wire.specs.declared.argument.Argument.TheVariants as arg
use Rattle.wl_wire.specs.declared.argument.ArgumentType.{ArgumentType}
use Rattle.wl_wire.specs.declared.argument.Token.{Token}
use Rattle.wl_wire.specs.declared.interface.InterfaceId.{InterfaceId}
use Rattle.wl_wire.specs.Argument.{WireArgument}
use Rattle.wl_wire.specs.Message.{WireMessage, spelling}
use Rattle.wl_wire.specs.Parse.{length_of}
use Rattle.wl_wire.specs.Table.{InterfaceRow, MessageRow}
use Rattle.wl_link.specs.declared.object.Object.{Object}
use Rattle.wl_link.specs.Exchange.{Queue, joined, nothing}
use Rattle.wl_link.specs.HandOn.{first_of}
use Rattle.wl_link.specs.Link.{after_first}
use Rattle.wl_link.specs.Store.{Store}
use Rattle.wl_follow.specs.Fronts.{HasNoMessage, ReadsKnown}
use Rattle.wl_follow.specs.Objects.{NotesObjects, is_deletion, new_number}
use Rattle.wl_follow.specs.declared.front.NoMessage.TheVariants as none
use Rattle.wl_follow.specs.declared.objects.Deletions.TheVariants.{Seen}
use Rattle.wl_follow.specs.declared.objects.UnknownInterfaces.TheVariants.{Refused}
use Rattle.wl_follow.specs.declared.side.Fault.{Fault}
use Rattle.wl_follow.specs.declared.side.Fault.TheVariants as fault
use Rattle.wl_follow.specs.declared.side.Side.{Side}
use Rattle.wl_follow.specs.declared.side.Side.TheVariants.{Client, Server}
use Rattle.wl_guard.specs.Events.{JudgesEvent, lowered}
use Rattle.wl_guard.specs.Known.{Known, without}
use Rattle.wl_guard.specs.Policy.{PolicyState}
use Rattle.wl_guard.specs.Requests.{BreaksRule, IsAllowed, fate_of_request}
use Rattle.wl_guard.specs.declared.session.Fate.{Fate}
use Rattle.wl_guard.specs.declared.session.Fate.TheVariants as fate
use Rattle.wl_guard.specs.declared.session.Rule.{Rule}
use Rattle.wl_guard.specs.declared.session.Rule.TheVariants as rule
use Rattle.wl_guard.specs.declared.session.Told.{Told}

-- ---- a message

-- What is decided of a request: it breaks a rule, or may be made and is handed on or dropped.
abbrev pub JudgesRequest : PolicyState → List Told → List ℕ → Object (Unit {0}) → MessageRow → WireMessage → ℕ → Result Fate Rule → Type 0
JudgesRequest p told ended object row m len (Ok f) = IsAllowed p told ended object row m len × (f ≡ fate_of_request p object.interface m.opcode)
JudgesRequest p told ended object row m len (Err r) = BreaksRule p told ended object row m len r

-- What is decided of a message of this object, of this row of the table, whose header says this length; and what is remembered of
-- announcements after it.
abbrev pub Judges : PolicyState → Side → List Told → List ℕ → Object (Unit {0}) → MessageRow → WireMessage → ℕ → Result Fate Rule → List Told → Type 0
Judges p Client told ended object row m len verdict told' = JudgesRequest p told ended object row m len verdict × (told' ≡ told)
Judges p Server told ended object row m len verdict told' = JudgesEvent p told object m verdict told'

-- the objects after it, or the fault for which they cannot be noted; one that is dropped or lowered changes none
abbrev pub NotesUnder : List InterfaceRow → Side → Object (Unit {0}) → MessageRow → WireMessage → Fate → Store (Unit {0}) → Option Fault → Store (Unit {0}) → Type 0
NotesUnder table side object row m fate.HandOn objects f objects' = NotesObjects table Refused side Seen object row m objects f objects'
NotesUnder table side object row m _ objects f objects' = (f ≡ None) × (objects' ≡ objects)

-- the number that `wl_display.delete_id` tells to be free
abbrev pub deleted_number : List WireArgument → Option ℕ
deleted_number (arg.Uint number ∷ []) = Some number
deleted_number _ = None

-- the number that an event tells to be free, or gives to a new object
abbrev pub renewed : InterfaceId → WireMessage → Option ℕ
renewed interface m = if is_deletion Server interface m.opcode then deleted_number m.args else new_number m.args

-- The numbers that the client has ended: a destructor adds that of its object, and an event takes the one out that it tells to be free
-- or gives to a new object.
abbrev pub ended_after : Side → InterfaceId → MessageRow → WireMessage → Fate → List ℕ → List ℕ
ended_after Client interface row m fate.HandOn ended = if row.is_destructor then ended ++ m.sender ∷ [] else ended
ended_after Server interface row m fate.HandOn ended = without (renewed interface m) ended
ended_after side interface row m _ ended = ended

-- in place of the message at the front, which is read as `m`: its own bytes and tokens; or nothing; or the lowered announcement
abbrev pub sent_for : Fate → List ArgumentType → Queue → WireMessage → Queue
sent_for fate.HandOn signature q m = first_of signature q
sent_for fate.Drop signature q m = nothing
sent_for (fate.Lower version) signature q m = record { bytes = spelling (lowered m version); tokens = [] }

-- the tokens that are given back
abbrev pub released_for : Fate → List ArgumentType → Queue → List Token
released_for fate.HandOn signature q = []
released_for _ signature q = (first_of signature q).tokens

-- A message: what becomes of it, its bytes and tokens, what is sent in its place, and the tokens that are given back.
pub record Passage : Type 0 where
  pub fate : Fate
  pub piece : Queue
  pub sent : Queue
  pub released : List Token

-- The message at the front was read under the row of its object, and this became of it. `k'` is what is known after it, and `rest`
-- what follows it.
pub record IsPassed (p : PolicyState) (side : Side) (k : Known) (q : Queue) (x : Passage) (k' : Known) (rest : Queue) : Type 0 where
  pub object : Object (Unit {0})
  pub row : MessageRow
  pub message : WireMessage
  pub reads : ReadsKnown p.table k.objects side q object row message
  pub judged : Judges p side k.told k.ended object row message (length_of q.bytes) (Ok x.fate) k'.told
  pub noted : NotesUnder p.table side object row message x.fate k.objects None k'.objects
  pub ended : k'.ended ≡ ended_after side object.interface row message x.fate k.ended
  pub piece : x.piece ≡ first_of row.signature q
  pub sent : x.sent ≡ sent_for x.fate row.signature q message
  pub released : x.released ≡ released_for x.fate row.signature q
  pub after : rest ≡ after_first row.signature q

-- ---- messages one after another

-- this became of the messages at the front, whole and in their order: none is left out
abbrev pub Passes : PolicyState → Side → Known → Queue → List Passage → Known → Queue → Type 0
Passes p side k q [] k' rest = (k' ≡ k) × (rest ≡ q)
Passes p side k q (x ∷ xs) k' rest =
    (mid : Known) × (left : Queue) × IsPassed p side k q x mid left × Passes p side mid left xs k' rest

abbrev pub all_pieces : List Passage → Queue
all_pieces [] = nothing
all_pieces (x ∷ xs) = joined x.piece (all_pieces xs)

abbrev pub all_sent : List Passage → Queue
all_sent [] = nothing
all_sent (x ∷ xs) = joined x.sent (all_sent xs)

abbrev pub all_released : List Passage → List Token
all_released [] = []
all_released (x ∷ xs) = x.released ++ all_released xs

-- ---- why no more is passed

-- nothing can be read before more comes: not even a header is there, or the message lacks a part
abbrev pub Awaits : PolicyState → Side → Known → Queue → Type 0
Awaits p side k q = HasNoMessage p.table k.objects side q none.Incomplete

-- the rule that a fault of a new object's number breaks
abbrev pub rule_of : Fault → Rule
rule_of fault.Malformed = rule.Malformed
rule_of fault.NewId = rule.NewId
rule_of fault.UnknownInterface = rule.Global
rule_of fault.MissingDescriptor = rule.Descriptors

-- the message at the front, which was read, breaks the rule: by itself, or by the number of a new object
pub record BreaksByMessage (p : PolicyState) (side : Side) (k : Known) (q : Queue) (r : Rule) : Type 0 where
  pub object : Object (Unit {0})
  pub row : MessageRow
  pub message : WireMessage
  pub reads : ReadsKnown p.table k.objects side q object row message
  pub how :
      ((told' : List Told) × Judges p side k.told k.ended object row message (length_of q.bytes) (Err r) told')
      ⊎ ((f : Fate) × (told' : List Told) × Judges p side k.told k.ended object row message (length_of q.bytes) (Ok f) told'
      × ((reason : Fault) × (objects' : Store (Unit {0})) × NotesUnder p.table side object row message f k.objects (Some reason) objects' × (r ≡ rule_of reason)))

-- the message at the front breaks the rule
abbrev pub Breaks : PolicyState → Side → Known → Queue → Rule → Type 0
Breaks p side k q r =
    ((r ≡ rule.Unknown) × ((sender : ℕ) × (opcode : ℕ) × HasNoMessage p.table k.objects side q (none.Unknown sender opcode)))
    ⊎ ((r ≡ rule.Malformed) × HasNoMessage p.table k.objects side q none.Malformed)
    ⊎ BreaksByMessage p side k q r
