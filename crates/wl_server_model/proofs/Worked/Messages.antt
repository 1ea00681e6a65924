-- Worked messages and texts, computed from the definitions: they say what was meant.
use Rattle.std.proofs.Common.{◌≡◌, ℕ, Bool, List, [], ◌∷◌, ◌++◌, Some, None, true, false, refl}
use Rattle.std.specs.Fmt.{digits}
use Rattle.std.specs.Str.Lossy.{utf8_lossy, utf8_valid_len}
use Rattle.std.specs.Str.{is_utf8, chars}
use lib.Utf8.{encode}
use Rattle.std.specs.Prelude.{codes, length}
use Rattle.wl_wire.specs.declared.argument.AllowNull.TheVariants.{Yes, No}
use Rattle.wl_wire.specs.declared.argument.ArgumentType.TheVariants as kind
use Rattle.wl_wire.specs.declared.interface.InterfaceId.{InterfaceId}
use Rattle.wl_wire.specs.Message.{word, piece, size, spelling}
use Rattle.wl_wire.specs.Table.{InterfaceRow, MessageRow, first_message, fixed_rows, name_of, registry_id}
use Rattle.wl_link.specs.Identity.{Id}
use Rattle.wl_link.specs.declared.object.Object.{Object}
use Rattle.wl_server_client.specs.declared.globals.KeptGlobal.{KeptGlobal}
use Rattle.wl_server_client.specs.declared.reading.response.RequestFault.TheVariants as wrong
use Rattle.wl_server_client.specs.Errors.{bind_text, error_of, fault_text, new_id_text, since_text}
use Rattle.wl_server_client.specs.Globals.{Shown, is_shown, is_visible}
use Rattle.wl_server_client.specs.Ids.{ClientParts, GlobalParts, IdParts}
use Rattle.wl_server_model.specs.Lookups.{display_text}
use Rattle.wl_server_client.specs.Part.{display_of, fresh_object}
use Rattle.wl_server_model.specs.PartStep.{Asked}
use Rattle.wl_server_model.specs.Steps.{Entry}
use Rattle.wl_server_client.specs.declared.objects.Kept.{Kept}
use Rattle.wl_server_model.specs.declared.step.Reply.{Reply}
use Rattle.wl_server_model.specs.declared.step.Step.{Step}
use Rattle.wl_server_client.specs.Telling.{delete_message, deletions, done_message, error_message, global_message, removal_message}

-- ---- a table of one interface more

abbrev pub quad_id : InterfaceId
quad_id = record { 0 = 4 }

abbrev pub make_row : MessageRow
make_row = record (first_message (codes "make") (kind.NewId ∷ []) (Some quad_id) []) { since = 2 }

abbrev pub destroy_row : MessageRow
destroy_row = record (first_message (codes "destroy") [] None []) { is_destructor = true }

abbrev pub link_row : MessageRow
link_row = first_message (codes "link") (kind.Object Yes ∷ kind.Object No ∷ []) None (quad_id ∷ quad_id ∷ [])

abbrev pub give_row : MessageRow
give_row = first_message (codes "give") (kind.Str No ∷ kind.Array ∷ kind.Fd ∷ []) None []

abbrev pub quad_row : InterfaceRow
quad_row = record {
  name = codes "quad";
  version = 3;
  requests = first_message (codes "poke") (kind.Int ∷ []) None [] ∷ make_row ∷ destroy_row ∷ link_row ∷ give_row ∷ [];
  events =
      first_message (codes "moved") (kind.Int ∷ []) None []
      ∷ first_message (codes "made") (kind.NewId ∷ []) (Some quad_id) []
      ∷ record (first_message (codes "gone") [] None []) { is_destructor = true }
      ∷ [];
}

abbrev pub table : List InterfaceRow
table = fixed_rows ++ quad_row ∷ []

-- ---- two clients, and a global that a client may see where its data say so

abbrev pub client : ClientParts
client = record { slot = 0; serial = 1 }

abbrev pub other : ClientParts
other = record { slot = 1; serial = 2 }

abbrev pub says : ℕ → ClientParts → Bool → GlobalParts → Bool
says handler id client_data global = client_data

abbrev pub quad_global : Bool → Object (KeptGlobal ℕ)
quad_global disabled = record { interface = quad_id; version = 3; value = record { serial = 1; handler = 7; is_disabled = disabled } }

abbrev pub one : Shown
one = record { name = 1; interface = quad_id; version = 3 }

abbrev pub id_in : ClientParts → ℕ → ℕ → InterfaceId → IdParts
id_in of n serial i = record { number = n; serial = serial; client = of; interface = i }

abbrev pub at : ℕ → ℕ → Id
at number serial = record { number = number; serial = serial }

-- a `quad` of the client's, with data
abbrev pub quad : Object (Kept ℕ)
quad = fresh_object quad_id 3 2 (Some 6)

-- a call that met no want of memory, and no deeds
abbrev pub entry : Step ℕ ℕ ℕ Bool → Reply ℕ ℕ → Entry ℕ ℕ ℕ Bool
entry call answer = record { call = Asked call answer; refused = false; lacks = λ id. false; did = λ id. [] }

abbrev pub is_cons : List ℕ → Bool
is_cons [] = false
is_cons (_ ∷ _) = true

-- ---- the server's own messages

a_sync_is_answered : spelling (done_message (at 2 1)).message ++ spelling (delete_message 2).message
    ≡ 2 ∷ 0 ∷ 0 ∷ 0 ∷ 0 ∷ 0 ∷ 0x0c ∷ 0 ∷ 0 ∷ 0 ∷ 0 ∷ 0 ∷ 1 ∷ 0 ∷ 0 ∷ 0 ∷ 1 ∷ 0 ∷ 0x0c ∷ 0 ∷ 2 ∷ 0 ∷ 0 ∷ 0 ∷ []
unfolding word piece
a_sync_is_answered = refl

-- only a client's own numbers are given back: 0xFEFFFFFF is the last of them
numbers_given_back : (deletions 2 ≡ delete_message 2 ∷ []) × (deletions 0xFEFFFFFF ≡ delete_message 0xFEFFFFFF ∷ []) × (deletions 0xFF000000 ≡ [])
numbers_given_back = (refl, refl, refl)

-- 146 announcements of 28 bytes fit into 4096 bytes, and 147 do not
a_global_is_announced : (spelling (global_message table (at 2 1) one).message
    ≡ 2 ∷ 0 ∷ 0 ∷ 0 ∷ 0 ∷ 0 ∷ 0x1c ∷ 0 ∷ 1 ∷ 0 ∷ 0 ∷ 0 ∷ 5 ∷ 0 ∷ 0 ∷ 0 ∷ 0x71 ∷ 0x75 ∷ 0x61 ∷ 0x64 ∷ 0 ∷ 0 ∷ 0 ∷ 0 ∷ 3 ∷ 0 ∷ 0 ∷ 0 ∷ [])
    × (size (global_message table (at 2 1) one).message ≡ 28)
unfolding word piece
a_global_is_announced = (refl, refl)

a_global_is_withdrawn : spelling (removal_message 1 (at 2 1)).message ≡ 2 ∷ 0 ∷ 0 ∷ 0 ∷ 1 ∷ 0 ∷ 0x0c ∷ 0 ∷ 1 ∷ 0 ∷ 0 ∷ 0 ∷ []
unfolding word piece
a_global_is_withdrawn = refl

-- ---- texts of errors, and the size of the message of each

new_ids : (new_id_text 5 ≡ codes "Invalid new_id: 5.") × (size (error_message 1 0 (new_id_text 5)).message ≡ 40)
    × (new_id_text 0xFF000000 ≡ codes "Invalid new_id: 4278190080.") × (size (error_message 1 0 (new_id_text 0xFF000000)).message ≡ 48)
unfolding word piece digits utf8_lossy
new_ids = (refl, refl, refl, refl)

bind_without_name : (bind_text [] 1 1 ≡ codes "Invalid binding of  version 1 for global 1.") × (length (bind_text [] 1 1) ≡ 43)
    × (size (error_message 1 0 (bind_text [] 1 1)).message ≡ 64)
unfolding word piece digits utf8_lossy
bind_without_name = (refl, refl, refl)

bind_of_a_hidden_global : bind_text (codes "quad") 3 1 ≡ codes "Invalid binding of quad version 3 for global 1."
unfolding digits utf8_lossy utf8_valid_len is_utf8 chars encode
bind_of_a_hidden_global = refl

-- of an object of the client's, and of the server's
make_at_version_1 : (since_text 1 1 2 (name_of table 4) 3 ≡ codes "invalid method 1 (since 1 < 2), object quad#3")
    × (size (error_message 1 1 (since_text 1 1 2 (name_of table 4) 3)).message ≡ 68)
    × (since_text 1 1 2 (name_of table 4) 0xFF000000 ≡ codes "invalid method 1 (since 1 < 2), object quad#4278190080")
    × (size (error_message 1 1 (since_text 1 1 2 (name_of table 4) 0xFF000000)).message ≡ 76)
unfolding word piece digits utf8_lossy
make_at_version_1 = (refl, refl, refl, refl)

-- to null, to a registry, and to nothing
wrong_links : (fault_text table quad_id link_row wrong.NullObject ≡ codes "Invalid null object in request quad.link.")
    × (size (error_message 1 0 (fault_text table quad_id link_row wrong.NullObject)).message ≡ 64)
    × (fault_text table quad_id link_row (wrong.WrongInterface 2 quad_id registry_id)
    ≡ codes "Invalid object 2 in request quad.link: expected quad but got wl_registry.")
    × (size (error_message 1 0 (fault_text table quad_id link_row (wrong.WrongInterface 2 quad_id registry_id))).message ≡ 96)
    × (fault_text table quad_id link_row (wrong.UnknownId 9) ≡ codes "Unknown id: 9.")
    × (size (error_message 1 0 (fault_text table quad_id link_row (wrong.UnknownId 9))).message ≡ 36)
unfolding word piece digits utf8_lossy
wrong_links = (refl, refl, refl, refl, refl, refl)

-- an error of the protocol is one on the display
an_error : error_of table (display_of client) 0 [] ≡ record { code = 0; object_id = 1; object_interface = codes "wl_display"; message = [] }
unfolding utf8_lossy
an_error = refl

-- ---- ids as texts

-- an object of the server's, and one of no interface
ids_as_texts : (display_text table (id_in client 0xFF000000 1 quad_id) ≡ codes "quad@4278190080[0]")
    × (display_text table (id_in other 0 0 (record { 0 = 9 })) ≡ codes "<unknown>@0[1]")
unfolding digits
ids_as_texts = (refl, refl)

-- ---- what clients see

-- a global is shown where it is enabled and the client may see it, and only then; a disabled one may still be seen
shown_globals : (is_shown says client true (1, quad_global false) ≡ true) × (is_shown says client false (1, quad_global false) ≡ false)
    × (is_shown says client true (1, quad_global true) ≡ false) × (is_shown says client false (1, quad_global true) ≡ false)
    × (is_visible says client true 1 (quad_global true) ≡ true) × (is_visible says client false 1 (quad_global true) ≡ false)
shown_globals = (refl, refl, refl, refl, refl, refl)
