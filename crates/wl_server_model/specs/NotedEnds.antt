-- Which objects the notes of a client tell of: those that ended.
pub mod Errors
use Rattle.std.specs.Prelude.{◌≡◌, List, ◌∷◌, ◌++◌, Contains, Ok}
use Rattle.wl_server_client.specs.declared.notes.Happening.TheVariants.{Destroyed}
use Rattle.wl_server_model.specs.declared.step.Reply.{Reply}
use Rattle.wl_server_model.specs.declared.step.Reply.TheVariants as reply
use Rattle.wl_server_model.specs.declared.step.Step.TheVariants as step
use Rattle.wl_server_client.specs.Deeds.{Deed, left_in, notes_in, taken_in}
use Rattle.wl_server_model.specs.Identified.{waiting_of}
use Rattle.wl_server_client.specs.Ids.{ClientParts, IdParts}
use Rattle.wl_server_model.specs.NotedOnce.{destroyed_in}
use Rattle.wl_server_client.specs.Part.{id_of}
use Rattle.wl_server_model.specs.PartStep.{Asked, World}
use Rattle.wl_server_model.specs.Runs.{history, mine}
use Rattle.wl_server_model.specs.Server.{Seen, ServerState, seen}
use Rattle.wl_server_model.specs.Steps.{Entry, OneStep}

-- Each note of a destroyed object, whether it was handed out, was made or waits, has the id of an object of this client that
-- left with user data by these deeds.
abbrev pub NotesAreOfEnds : {T U C : Type 0} → ClientParts → List (Deed U) → Seen T U C → Type 0
NotesAreOfEnds {U = U} client did s =
    (o : IdParts) (u : U) → Contains (taken_in did ++ (s.made ++ waiting_of s.part)) (Destroyed o u) → (o.client ≡ client) × Contains (left_in did) (id_of o)

module _ {T U G C : Type 0} where
  -- so it is with each client that was inserted in the run, from then on
  abbrev pub EachNoteIsOfAnEnd : List (Entry T U G C) → ServerState T U G C → Type 0
  EachNoteIsOfAnEnd run after =
      (id : ClientParts) (transport : T) (client_data : C) (earlier later : List (Entry T U G C)) (e : Entry T U G C) →
      run ≡ earlier ++ e ∷ later → e.call ≡ Asked (step.InsertClient transport client_data) (reply.InsertClient (Ok id)) →
      NotesAreOfEnds id (history (mine id later)) (seen id after)

-- If an object with user data leaves by the end of a request, its note is made in that call.
abbrev pub EndIsNotedAtOnce : {T G C : Type 0} (U : Type 0) → World T G C → Type 0
EndIsNotedAtOnce {T} {G} {C} U w =
    (before after : ServerState T U G C) (e : Entry T U G C) (target : ClientParts) (u : _) (answer : Reply T U) → OneStep w before e after
    → e.call ≡ Asked (step.FinishRequest target u) answer → (id : ClientParts) → left_in (e.did id) ≡ destroyed_in (notes_in (e.did id))
