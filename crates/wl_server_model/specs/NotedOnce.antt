-- The notes of a client over a run: one of each object that left with user data, and one of the client's end.
use Rattle.std.specs.Prelude.{◌≡◌, ◌≢◌, ℕ, ◌+◌, List, [], ◌∷◌, ◌++◌, AllPairs, IsPermutation, if◌then◌else◌, Bool, Option, None, Some, Ok, Vec}
use Rattle.std.specs.Global.{Global}
use Rattle.wl_link.specs.Identity.{Id}
use Rattle.wl_server_client.specs.declared.notes.Happening.{Happening}
use Rattle.wl_server_client.specs.declared.notes.Happening.TheVariants.{Destroyed, Disconnected, Initialized}
use Rattle.wl_server_model.specs.declared.step.Reply.{Reply}
use Rattle.wl_server_model.specs.declared.step.Reply.TheVariants as reply
use Rattle.wl_server_model.specs.declared.step.Step.TheVariants as step
use Rattle.wl_server_client.specs.Deeds.{Deed, left_in, taken_in}
use Rattle.wl_server_model.specs.Identified.{waiting_of}
use Rattle.wl_server_client.specs.Ids.{ClientParts}
use Rattle.wl_server_client.specs.Part.{Part, id_of}
use Rattle.wl_server_model.specs.PartStep.{Asked, World}
use Rattle.wl_server_model.specs.Runs.{history, mine}
use Rattle.wl_server_model.specs.Server.{Seen, ServerState, seen}
use Rattle.wl_server_model.specs.Steps.{Entry, OneStep}

module _ {U : Type 0} where
  -- the objects that notes tell of as destroyed
  abbrev pub destroyed_in : List (Happening U) → List Id
  destroyed_in [] = []
  destroyed_in (Destroyed o u ∷ notes) = id_of o ∷ destroyed_in notes
  destroyed_in (Initialized ∷ notes) = destroyed_in notes
  destroyed_in (Disconnected reason ∷ notes) = destroyed_in notes

  -- how often notes tell of the client's end
  abbrev pub ends_in : List (Happening U) → ℕ
  ends_in [] = 0
  ends_in (Disconnected reason ∷ notes) = ends_in notes + 1
  ends_in (Destroyed o u ∷ notes) = ends_in notes
  ends_in (Initialized ∷ notes) = ends_in notes

abbrev pub one_if : Bool → ℕ
one_if b = if b then 1 else 0

-- how often a client has ended: a live one never, one that was killed once. A client was killed before it is taken out
abbrev pub ended_times : {T U C : Type 0} → Option (Part T U C) → ℕ
ended_times None = 1
ended_times (Some p) = one_if p.is_killed

-- The objects that left with user data by these deeds are, in some order, those that notes tell of as destroyed. These are
-- the notes that were handed out, that were made, and that wait for the next cleanup. No object left twice. One note tells
-- of the client's end, if it was killed.
pub record NotesEach {T U C : Type 0} (did : List (Deed U)) (s : Seen T U C) : Type 0 where
  pub destroyed : IsPermutation (left_in did) (destroyed_in (taken_in did ++ (s.made ++ waiting_of s.part)))
  pub once : AllPairs (λ a b. a ≢ b) (left_in did)
  pub disconnected : ends_in (taken_in did ++ s.made) ≡ ended_times s.part

module _ {T U G C : Type 0} where
  -- so it is with each client that was inserted in the run, from then on
  abbrev pub EachIsNoted : List (Entry T U G C) → ServerState T U G C → Type 0
  EachIsNoted run after =
      (id : ClientParts) (transport : T) (client_data : C) (earlier later : List (Entry T U G C)) (e : Entry T U G C) →
      run ≡ earlier ++ e ∷ later → e.call ≡ Asked (step.InsertClient transport client_data) (reply.InsertClient (Ok id)) →
      NotesEach (history (mine id later)) (seen id after)

module _ {T G C : Type 0} (U : Type 0) (w : World T G C) where
  -- a cleanup that succeeds leaves no note that waits
  abbrev pub CleanupNotesAll : Type 0
  CleanupNotesAll =
      (before after : ServerState T U G C) (e : Entry T U G C) (out : Vec (ClientParts × T) Global) → OneStep w before e after
      → e.call ≡ Asked step.Cleanup (reply.Cleanup (Ok out)) → (id : ClientParts) → waiting_of (seen id after).part ≡ []

  -- the end of a request does not change which notes wait; what leaves by it is noted in the call itself
  abbrev pub FinishNotesAtOnce : Type 0
  FinishNotesAtOnce =
      (before after : ServerState T U G C) (e : Entry T U G C) (target : ClientParts) (u : Option U) (answer : Reply T U) → OneStep w before e after
      → e.call ≡ Asked (step.FinishRequest target u) answer → (id : ClientParts) → waiting_of (seen id after).part ≡ waiting_of (seen id before).part
