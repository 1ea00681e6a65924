-- That each error which a note tells of was told of before a call, or is one for which the call may kill the client.
use Rattle.std.proofs.Common.{◌≡◌, ℕ, Bool, true, List, [], ◌∷◌, ◌++◌, Result, sym, subst, arith}
use mathlib.Core.Logic.{inl, inr}
use Rattle.std.specs.Prelude.{◌⊎◌, Contains}
use Rattle.std.proofs.lemmas.List.Elements.{Contains-append_cases, Contains-append_left, Contains-append_right, Contains-push_cases}
use Rattle.wl_wire.specs.declared.error.IoFault.{IoFault}
use Rattle.wl_wire.specs.declared.error.ProtocolError.{ProtocolError}
use Rattle.wl_wire.specs.Table.{InterfaceRow}
use Rattle.wl_link.specs.Exchange.{Queue}
use Rattle.wl_server_client.specs.declared.notes.DisconnectReason.TheVariants.{ProtocolError as BrokeProtocol}
use Rattle.wl_server_client.specs.declared.notes.Happening.{Happening}
use Rattle.wl_server_client.specs.declared.notes.Happening.TheVariants.{Disconnected, Initialized}
use Rattle.wl_server_client.specs.Deeds.{Deed}
use Rattle.wl_server_client.specs.Globals.{Offer}
use Rattle.wl_server_model.specs.Identified.{waiting_of}
use Rattle.wl_server_client.specs.Ids.{ClientParts}
use Rattle.wl_server_model.specs.NotedEnds.Errors.{EachErrorIsCaused, MayHaveKilledFor, MayKillFor, TellsError}
use Rattle.wl_server_client.specs.Part.{Part, id_at, note_of_end}
use Rattle.wl_server_model.specs.PartStep.{Call, PartCall, World}
use Rattle.wl_server_model.specs.Runs.{Leads}
use Rattle.wl_server_model.specs.Server.{Seen, ServerState, new_server, seen}
use Rattle.wl_server_model.specs.Steps.{Entry, OneStep}
use Rattle.wl_server_model.proofs.OverRuns.Moves.BaseMoves.{Doings, Goes, Kind, Moves, followed, handed_out, notes_taken, moved, stayed, taken_out, unfelt, within, Move}
use Rattle.wl_server_model.proofs.OverRuns.Moves.BaseMovesLaw.{any_moves}

-- ---- what notes tell

module _ {U : Type 0} (P : ProtocolError → Type 0) where
  -- it holds of each error that these notes tell of
  record Tell (notes : List (Happening U)) : Type 0 where
    of : (e : ProtocolError) → Contains notes (Disconnected (BrokeProtocol e)) → P e

  tell_none : Tell []
  tell_none = record { of = λ e among. absurd (omega (arith, among.1)) }

  tell_both : (a b : List (Happening U)) → Tell a → Tell b → Tell (a ++ b)
  tell_both a b one two = record {
    of = λ e among. elim (Contains-append_cases a b (Disconnected (BrokeProtocol e)) among) [ inl here ↦ one.of e here | inr there ↦ two.of e there ];
  }

  tell_one : (h : Happening U) → ((e : ProtocolError) → h ≡ Disconnected (BrokeProtocol e) → P e) → Tell (h ∷ [])
  tell_one h is = record {
    of = λ e among. elim (Contains-push_cases [] h
        (Disconnected (BrokeProtocol e)) among) [ inl never ↦ tell_none.of e never | inr same ↦ is e same ];
  }

-- ---- moves

-- a client is killed for errors of which it holds
abbrev killing : (ProtocolError → Type 0) → Kind
killing P = record { gathers = true; hands = true; reads = true; finishes = true; kills = λ reason. (e : ProtocolError) → reason ≡ BrokeProtocol e → P e; closes = λ e is. absurd (grind (arith)) }

module _ {T U C : Type 0} (P : ProtocolError → Type 0) (sends : T → Queue → Result ℕ IoFault → T → Type 0)
    (receives : T → ℕ → Result Queue IoFault → T → Type 0) (client : ClientParts) where
  -- no other error is noted, or waits
  abbrev Keep : Part T U C → Doings U → Part T U C → Type 0
  Keep p d q = Tell P p.waiting → Tell P d.notes × Tell P q.waiting

  move_keeps : (p q : Part T U C) (d : Doings U) → Move (killing P) sends receives client p d q → Keep p d q
  move_keeps p q d move = grind (arith, tell_none, tell_both, tell_one, note_of_end, id_at)

  moves_keep : (p q : Part T U C) (d : Doings U) → Moves (killing P) sends receives client p d q → Keep p d q
  moves_keep p q d (stayed is same) = grind (arith, tell_none)
  moves_keep p q d (followed {m = m} {a = a} {b = b} first second is) = grind (arith, tell_both, moves_keep p m a first, moves_keep m q b second)
  moves_keep p q d (handed_out {a = a} ids moves among is) = grind (arith, moves_keep p q a moves)
  moves_keep p q d (moved move) = move_keeps p q d move

  -- ---- what is held of a client

  -- it holds of each error that a note of the client tells of
  abbrev Held : Seen T U C → Type 0
  Held s = Tell P s.made × Tell P (waiting_of s.part)

  goes_held : (s t : Seen T U C) (d : Doings U) → Held s → Goes (killing P) sends receives client s d t → Held t
  goes_held s t d held (unfelt none same) = subst Held (sym same) held
  goes_held s t d held (within p q there moves same) = grind (arith, tell_both P s.made d.notes, moves_keep p q d moves)
  goes_held s t d held (taken_out p q on there killed moves none noted same) =
      grind (arith, tell_none, tell_both P s.made d.notes, moves_keep p q d moves)
  goes_held s t d held (notes_taken on is same) = grind (arith, tell_none)

-- ---- calls and runs

module _ {T U G C : Type 0} (w : World T G C) where
  call_held : (id : ClientParts) (offer : Offer G) (P : ProtocolError → Type 0) (call : Call T U G C) (s : Seen T U C) (lacked : Bool)
      (did : List (Deed U)) (t : Seen T U C) → ((e : ProtocolError) → MayKillFor offer.table id call e → P e)
      → PartCall w id offer call s lacked did t → Held P w.sends w.receives id s → Held P w.sends w.receives id t
  call_held id offer P call s lacked did t may h held =
      elim (any_moves (killing P) w id offer call s lacked did t (grind (arith)) h) [
        | inl (ids, goes) ↦ goes_held P w.sends w.receives id s t _ held goes
        | inr (p, none, empty, did_so, same) ↦ (grind (arith, tell_none, tell_both, tell_one {U = U} P Initialized))
      ]

  pub each_call_causes : (before after : ServerState T U G C) (e : Entry T U G C) → OneStep w before e after
      → (id : ClientParts) (error : ProtocolError)
      → TellsError (seen id after) error → TellsError (seen id before) error ⊎ MayKillFor before.offer.table id e.call error
  each_call_causes before after e by id error tell =
      let s = seen id before in
      let Caused : ProtocolError → Type 0 = λ f. TellsError s f ⊎ MayKillFor before.offer.table id e.call f in
      let made : Tell Caused s.made = record { of = λ f here. inl (Contains-append_left s.made (waiting_of s.part) _ here) } in
      let waits : Tell Caused (waiting_of s.part) = record { of = λ f there. inl (Contains-append_right s.made (waiting_of s.part) _ there) } in
      let held = call_held id before.offer Caused e.call s (e.lacks id) (e.did id) (seen id after) (λ f may. inr may) (by.each id) (made, waits) in
      (tell_both Caused (seen id after).made (waiting_of (seen id after).part) held.0 held.1).of error tell

  over_run : (before after : ServerState T U G C) (run : List (Entry T U G C)) → Leads w before run after → (id : ClientParts) (error : ProtocolError)
      → TellsError (seen id after) error → TellsError (seen id before) error ⊎ MayHaveKilledFor before.offer id run error
  over_run before after [] leads id error tell = inl (subst (λ (s : ServerState T U G C). TellsError (seen id s) error) leads tell)
  over_run before after (e ∷ run) (mid, by, leads) id error tell = grind (arith, each_call_causes, over_run mid after run leads id error tell)

  pub each_error_is_caused : (table : List InterfaceRow) (run : List (Entry T U G C)) (after : ServerState T U G C)
      → Leads w (new_server table) run after
      → EachErrorIsCaused table run after
  each_error_is_caused table run after leads id error tell = grind (arith, over_run, new_server, tell_none)
