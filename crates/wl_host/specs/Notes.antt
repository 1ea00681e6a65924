-- Notes as flat structs, and how a server's session hands them out.
use Rattle.std.specs.Prelude.{◌≡◌, ◌⊎◌, ℕ, ◌++◌, List, [], ◌∷◌, length, nat_lt, Bool, true, false, Result, Ok, Err, if◌then◌else◌, MatchResult}
use Rattle.wl_wire.specs.declared.error.ProtocolError.{ProtocolError}
use Rattle.wl_server_client.specs.declared.notes.DisconnectReason.TheVariants.{ConnectionClosed, ProtocolError as ForError}
use Rattle.wl_server_client.specs.declared.notes.Note.{Note}
use Rattle.wl_server_client.specs.declared.notes.Note.TheVariants.{Initialized, Disconnected, Destroyed}
use Rattle.wl_server_model.specs.declared.step.Reply.TheVariants as reply
use Rattle.wl_server_model.specs.declared.step.Step.TheVariants as step
use Rattle.wl_server_model.specs.Backend.{Calls}
use Rattle.wl_server_client.specs.Ids.{ClientParts}
use Rattle.wl_host.specs.Calls.{world}
use Rattle.wl_flat.specs.Flat.{count_number, flat_client, flat_resource, no_object, over_front}
use Rattle.wl_flat.specs.Kinds as kinds
use Rattle.wl_host.specs.Server.{ServerState}
use Rattle.wl_flat.specs.declared.flat.FlatNote.{FlatNote}
use Rattle.wl_flat.specs.declared.status.Status.{Status}
use Rattle.wl_flat.specs.declared.status.Status.TheVariants as status

-- ---- flat structs

-- a note of a client, with nothing else in it
abbrev pub client_note : ℕ → ClientParts → FlatNote
client_note kind client = record {
  kind = kind;
  is_protocol_error = 0;
  code = 0;
  object_number = 0;
  client = flat_client client;
  object = no_object;
  «data» = 0;
  message_length = 0;
  interface_length = 0;
}

-- of a client that was killed for this error
abbrev pub error_note : ClientParts → ProtocolError → FlatNote
error_note client e = record (client_note kinds.killed client) {
  is_protocol_error = 1;
  code = e.code;
  object_number = e.object_id;
  message_length = count_number (length e.message);
  interface_length = count_number (length e.object_interface);
}

abbrev pub flat_note : Note ℕ → FlatNote
flat_note (Initialized client) = client_note kinds.inserted client
flat_note (Disconnected client ConnectionClosed) = client_note kinds.killed client
flat_note (Disconnected client (ForError e)) = error_note client e
flat_note (Destroyed client object u) = record (client_note kinds.destroyed client) { object = flat_resource object; «data» = u }

-- the text of a note: that of a protocol error is its message, and then the name of the interface of the object that it is about
abbrev pub text_of : Note ℕ → List ℕ
text_of (Initialized client) = []
text_of (Disconnected client ConnectionClosed) = []
text_of (Disconnected client (ForError e)) = e.message ++ e.object_interface
text_of (Destroyed client object u) = []

-- the text, if there is room for it
abbrev pub with_text : List ℕ → List ℕ → List ℕ
with_text text lent = if nat_lt (length lent) (length text) then lent else over_front text lent

-- ---- handing out

-- the notes of the core are taken if none are left and there may be some
abbrev pub is_to_fetch : List (Note ℕ) → Bool → Bool
is_to_fetch [] may_have = may_have
is_to_fetch (n ∷ ns) may_have = false

abbrev pub Fetches : ServerState → Result (Unit {0}) Status → ServerState → Type 0
Fetches before result after =
    ((is_to_fetch before.notes before.may_have_notes ≡ false) × (result ≡ Ok tt) × (after ≡ before))
    ⊎ ((is_to_fetch before.notes before.may_have_notes ≡ true)
    × ((answer : _) × Calls world before.core step.TakeNotes (reply.TakeNotes answer) after.core
    × MatchResult answer
    (λ taken. (result ≡ Ok tt) × (after ≡ record before { core = after.core; notes = taken.items; may_have_notes = false }))
    (λ _. (result ≡ Err status.OutOfMemory) × (after ≡ record before { core = after.core }))))

-- what `next_note` answered, what it wrote, and the session after it
pub record Noted : Type 0 where
  pub status : Status
  pub out : FlatNote
  pub text : List ℕ
  pub after : ServerState

abbrev pub noted_if : Bool → ServerState → Note ℕ → List (Note ℕ) → List ℕ → Noted
noted_if true s n ns text = record { status = status.TooSmall; out = flat_note n; text = text; after = s }
noted_if false s n ns text = record { status = status.Ok; out = flat_note n; text = over_front (text_of n) text; after = record s { notes = ns } }

-- the first note is handed out, if there is room for its text
abbrev pub noted : ServerState → List (Note ℕ) → FlatNote → List ℕ → Noted
noted s [] out text = record { status = status.WouldBlock; out = out; text = text; after = s }
noted s (n ∷ ns) out text = noted_if (nat_lt (length text) (length (text_of n))) s n ns text

abbrev pub NextNote : ServerState → FlatNote → List ℕ → Status → FlatNote → List ℕ → ServerState → Type 0
NextNote before out text s out' text' after =
    (mid : ServerState) × (fetched : Result (Unit {0}) Status) × Fetches before fetched mid
    × (((fetched ≡ Ok tt)
    × (s ≡ (noted mid mid.notes out text).status) × (out' ≡ (noted mid mid.notes out text).out)
    × (text' ≡ (noted mid mid.notes out text).text) × (after ≡ (noted mid mid.notes out text).after))
    ⊎ ((fetched ≡ Err s) × (out' ≡ out) × (text' ≡ text) × (after ≡ mid)))
