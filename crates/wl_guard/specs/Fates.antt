-- What goes on for a message that was passed, by its own bytes, the table and the policy.
use Rattle.std.specs.Prelude.{◌≡◌, ℕ, ◌<◌, ◌≤◌, ◌⊎◌, false, ◌&&◌, ◌==◌, List, [], length, Some, MatchBool, MatchOption}
use Rattle.wl_wire.specs.declared.interface.InterfaceId.{InterfaceId}
use Rattle.wl_wire.specs.Message.{WireMessage, size, spelling}
use Rattle.wl_wire.specs.Parse.{ReadsMessage}
use Rattle.wl_wire.specs.Table.{MessageRow}
use Rattle.wl_link.specs.declared.object.Object.{Object}
use Rattle.wl_link.specs.Exchange.{nothing}
use Rattle.wl_follow.specs.Fronts.{row_at}
use Rattle.wl_follow.specs.declared.side.Side.{Side}
use Rattle.wl_follow.specs.declared.side.Side.TheVariants.{Client, Server}
use Rattle.wl_guard.specs.Events.{IsHidden, IsShown, announcement_of, lowered}
use Rattle.wl_guard.specs.Passages.{Passage}
use Rattle.wl_guard.specs.Policy.{PolicyState, lists}

-- it goes on as it came
abbrev pub GoesOn : Passage → Type 0
GoesOn x = (x.sent ≡ x.piece) × (x.released ≡ [])

-- nothing goes on, and its tokens are given back
abbrev pub GoesBack : Passage → Type 0
GoesBack x = (x.sent ≡ nothing) × (x.released ≡ x.piece.tokens)

-- the announcement goes on with this version in place of its own
abbrev pub GoesLowered : Passage → WireMessage → ℕ → Type 0
GoesLowered x m version = (x.sent ≡ record { bytes = spelling (lowered m version); tokens = [] }) × (x.released ≡ x.piece.tokens)

-- the bytes and tokens are this message, under this row of the table for an object of this interface
pub record IsMessageOf (p : PolicyState) (side : Side) (x : Passage) (object : Object (Unit {0})) (row : MessageRow) (m : WireMessage) : Type 0 where
  pub known : row_at p.table side object.interface m.opcode ≡ Some row
  pub reads : ReadsMessage x.piece.bytes row.signature x.piece.tokens m

-- A request is exactly as long as its arguments, is one of the version of its object, and is not refused. It goes on unless the policy
-- ignores it.
pub record IsRequest (p : PolicyState) (x : Passage) : Type 0 where
  pub object : Object (Unit {0})
  pub row : MessageRow
  pub message : WireMessage
  pub is : IsMessageOf p Client x object row message
  pub exact : length x.piece.bytes ≡ size message
  pub since : row.since ≤ object.version
  pub unrefused : lists p.refused object.interface message.opcode ≡ false
  pub goes : MatchBool (lists p.ignored object.interface message.opcode) (GoesBack x) (GoesOn x)

-- an announcement of a global of this name, in this version
abbrev pub IsAnnounced : PolicyState → Passage → WireMessage → List ℕ → ℕ → Type 0
IsAnnounced p x m name version =
    (IsHidden p name × GoesBack x)
    ⊎ ((i : InterfaceId) × (most : ℕ) × IsShown p name i most × (((version ≤ most) × GoesOn x) ⊎ ((most < version) × GoesLowered x m most)))

-- An event goes on, unless it is a registry's: an announcement that the policy does not allow, or allows in a lower version; or a removal.
pub record IsEvent (p : PolicyState) (x : Passage) : Type 0 where
  pub object : Object (Unit {0})
  pub row : MessageRow
  pub message : WireMessage
  pub is : IsMessageOf p Server x object row message
  pub goes :
      MatchBool (object.interface.0 == 2 && message.opcode == 0)
      (MatchOption (announcement_of message.args) (GoesBack x) (λ g. IsAnnounced p x message g.1.0 g.1.1))
      (MatchBool (object.interface.0 == 2 && message.opcode == 1) (GoesOn x ⊎ GoesBack x) (GoesOn x))
