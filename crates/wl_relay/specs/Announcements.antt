-- What is done with the announcements of globals, and what goes on in place of a message.
use Rattle.std.specs.Prelude.{◌≡◌, ◌≢◌, ℕ, ◌-◌, ◌<◌, ◌≤◌, Bool, true, false, ◌&&◌, ◌==◌, List, [], ◌∷◌, ◌++◌, length, take, slice_get, Option, None, Some, MatchBool, MatchOption}
use Rattle.wl_wire.specs.declared.argument.Argument.TheVariants as arg
use Rattle.wl_wire.specs.declared.argument.ArgumentType.{ArgumentType}
use Rattle.wl_wire.specs.declared.interface.InterfaceId.{InterfaceId}
use Rattle.wl_wire.specs.Argument.{WireArgument}
use Rattle.wl_wire.specs.Message.{WireMessage}
use Rattle.wl_wire.specs.Table.{InterfaceRow, name_of}
use Rattle.wl_link.specs.Exchange.{Queue, nothing}
use Rattle.wl_link.specs.HandOn.{first_of}
use Rattle.wl_link.specs.Link.{spelled}
use Rattle.wl_follow.specs.Objects.{LacksName}
use Rattle.wl_follow.specs.declared.side.Side.{Side}
use Rattle.wl_follow.specs.declared.side.Side.TheVariants.{Client, Server}
use Rattle.wl_relay.specs.declared.notes.Edit.{Edit}
use Rattle.wl_relay.specs.declared.notes.Edit.TheVariants as edit
use Rattle.wl_relay.specs.declared.mode.Mode.{Mode}
use Rattle.wl_relay.specs.declared.mode.Mode.TheVariants.{HandOn, Log}

-- ---- names

-- the table has an interface of this name, of this version
abbrev pub HasVersion : List InterfaceRow → List ℕ → ℕ → Type 0
HasVersion table name version =
    (place : ℕ) × (row : InterfaceRow) × (slice_get table place ≡ Some row) × (row.name ≡ name) × (row.version ≡ version)

-- ---- announcements

-- the event `wl_registry.global`
abbrev pub is_announcement : Side → InterfaceId → ℕ → Bool
is_announcement Client interface opcode = false
is_announcement Server interface opcode = interface.0 == 2 && opcode == 0

-- the name and the version that an announcement tells: its arguments are a number and these
abbrev pub announced : List WireArgument → Option (List ℕ × ℕ)
announced (_ ∷ arg.Str (Some name) ∷ arg.Uint version ∷ []) = Some (name, version)
announced _ = None

-- It is dropped if the table lacks the interface, lowered if the table's version is below that of the announcement, and handed on
-- as it is else.
abbrev pub EditsGlobal : List InterfaceRow → List ℕ → ℕ → Edit → Type 0
EditsGlobal table name version edit.Nothing = (known : ℕ) × HasVersion table name known × (version ≤ known)
EditsGlobal table name version edit.Drop = LacksName table name
EditsGlobal table name version (edit.Lower known) = HasVersion table name known × (known < version)

abbrev pub EditsArguments : List InterfaceRow → List WireArgument → Edit → Type 0
EditsArguments table args e = MatchOption (announced args) (e ≡ edit.Nothing) (λ g. EditsGlobal table g.0 g.1 e)

-- What is done with a message. In a log, and if it announces nothing, it is handed on as it is.
abbrev pub EditsMessage : List InterfaceRow → Mode → Side → InterfaceId → WireMessage → Edit → Type 0
EditsMessage table Log side interface m e = e ≡ edit.Nothing
EditsMessage table HandOn side interface m e =
    MatchBool (is_announcement side interface m.opcode) (EditsArguments table m.args e) (e ≡ edit.Nothing)

-- the message is dropped, or its version lowered
abbrev pub is_change : Edit → Bool
is_change edit.Nothing = false
is_change _ = true

-- ---- what goes on

-- the announcement with this version in place of its own, which is its last argument
abbrev pub lowered : WireMessage → ℕ → WireMessage
lowered m version = record m { args = take (length m.args - 1) m.args ++ arg.Uint version ∷ [] }

-- in place of the message at the front, which is read as `m`: its own bytes and tokens; or nothing; or the lowered announcement
abbrev pub going_on : Edit → List ArgumentType → Queue → WireMessage → Queue
going_on edit.Nothing signature q m = first_of signature q
going_on edit.Drop signature q m = nothing
going_on (edit.Lower version) signature q m = spelled (lowered m version)
