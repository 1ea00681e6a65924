-- What a client is told of a new global, as the functions that tell it say to each other.
use Rattle.std.specs.Prelude.{◌≡◌, ℕ, List, [], ◌∷◌, length, get_or, Bool, Some, Result}
use Rattle.wl_wire.specs.declared.argument.Argument.TheVariants as arg
use Rattle.wl_wire.specs.declared.argument.Argument.{Argument}
use Rattle.wl_wire.specs.declared.argument.Token.{Token}
use Rattle.wl_wire.specs.declared.error.IoFault.{IoFault}
use Rattle.wl_wire.specs.declared.message.Message.{Message}
use Rattle.wl_wire.specs.Table.{InterfaceRow, name_of}
use Rattle.wl_link.specs.declared.object.Object.{Object}
use Rattle.wl_link.specs.Exchange.{Queue}
use Rattle.wl_server_client.specs.declared.globals.KeptGlobal.{KeptGlobal}
use Rattle.wl_server_client.specs.Deeds.{Deed}
use Rattle.wl_server_client.specs.Felt.{Hears, news}
use Rattle.wl_server_client.specs.Globals.{Shown, shown_as}
use Rattle.wl_server_client.specs.Ids.{ClientParts, GlobalParts}
use Rattle.wl_server_client.specs.Part.{Part}

-- a global of which registries are told, and the table that has its interface's name
pub record Announced : Type 0 where
  pub table : List InterfaceRow
  pub global : Shown

-- the message of a global, whatever its sender
abbrev pub IsNews : List InterfaceRow → Shown → Message ℕ Token → Type 0
IsNews table g m = (m.opcode ≡ 0) × (m.args.items ≡ arg.Uint g.name ∷ arg.Str (Some (name_of table g.interface.0)) ∷ arg.Uint g.version ∷ [])

-- how many bytes the text of an argument has
abbrev pub text_len : Argument ℕ Token → ℕ
text_len (arg.Str (Some text)) = length text
text_len _ = 0

-- how many bytes the text has that stands as the second of these arguments; the next text is put into its memory
abbrev pub room_in : List (Argument ℕ Token) → ℕ
room_in args = text_len (get_or args 1 (arg.Uint 0))

-- a live client is told of the global if it may see it
abbrev pub HearsNew : {T U G C : Type 0} → (T → Queue → Result ℕ IoFault → T → Type 0) → (G → ClientParts → C → GlobalParts → Bool) → List InterfaceRow
    → GlobalParts → Object (KeptGlobal G) → ClientParts → Part T U C → Bool → List (Deed U) → Part T U C → Type 0
HearsNew sends views table g x client p lacked did q =
    Hears sends p (news table p (views x.value.handler client p.client_data g) (shown_as (g.name, x))) lacked did q
