-- That an open action of a client stays open over calls that neither read the client nor end its action, as long as the client is
-- stored.
use Rattle.std.proofs.Common.{◌≡◌, ◌⊎◌, ℕ, ◌≤◌, Bool, true, false, List, [], ◌∷◌, Option, None, Some, IsSome, Result, refl, ap, ◌∙◌, true≢false, arith}
use mathlib.Core.Logic.{inl, inr}
use Rattle.wl_wire.specs.declared.error.IoFault.{IoFault}
use Rattle.wl_link.specs.Exchange.{Queue}
use Rattle.wl_server_client.specs.Deeds.{Deed}
use Rattle.wl_server_client.specs.Globals.{Offer}
use Rattle.wl_server_client.specs.Ids.{ClientParts}
use Rattle.wl_server_client.specs.Part.{Part}
use Rattle.wl_server_model.specs.PartStep.{Call, PartCall, World}
use Rattle.wl_server_model.specs.Reached.{AllSpare, spares}
use Rattle.wl_server_model.specs.Runs.{IsNotInserted, Leads, concerns}
use Rattle.wl_server_model.specs.Server.{Seen, ServerState, seen}
use Rattle.wl_server_model.specs.Steps.{Entry}
use Rattle.wl_server_model.proofs.OverRuns.Alone.IsolationLaw.{other_call, later_differs, numbered}
use Rattle.wl_server_model.proofs.OverRuns.Moves.BaseMoves.{Doings, Goes, Kind, Moves, followed, handed_out, notes_taken, moved, stayed, taken_out, unfelt, within}
use Rattle.wl_server_model.proofs.OverRuns.Moves.BaseMovesLaw.{call_moves}
use Rattle.wl_server_model.proofs.Plain.Base.{none_and_some, one_value}

-- no action is opened, and none is ended
abbrev standing : Kind
standing = record { gathers = true; hands = true; reads = false; finishes = false; kills = λ reason. Unit {0}; closes = tt }

module _ {T U C : Type 0} where
  -- it is not stored, or an action of it is open
  abbrev pub Stands : Option (Part T U C) → Type 0
  Stands found = (found ≡ None) ⊎ ((p : Part T U C) × (found ≡ Some p) × IsSome p.action)

module _ {T U C : Type 0} (sends : T → Queue → Result ℕ IoFault → T → Type 0) (receives : T → ℕ → Result Queue IoFault → T → Type 0)
    (client : ClientParts) where
  moves_stand : (p q : Part T U C) (d : Doings U) → Moves standing sends receives client p d q → q.action ≡ p.action
  moves_stand p q d (stayed is same) = ap (λ (x : Part T U C). x.action) same
  moves_stand p q d (followed {m = m} {a = a} {b = b} first second is) = moves_stand m q b second ∙ moves_stand p m a first
  moves_stand p q d (handed_out {a = a} ids moves among is) = moves_stand p q a moves
  moves_stand p q d (moved move) = grind (arith, true≢false)

  goes_stand : (s t : Seen T U C) (d : Doings U) → Goes standing sends receives client s d t → Stands s.part → Stands t.part
  goes_stand s t d (unfelt none same) h = rw same h
  goes_stand s t d (within p q there moves same) (inl none) = absurd (none_and_some s.part none there)
  goes_stand s t d (within p q there moves same) (inr (o, was, some)) =
      inr (q, ap (λ (x : Seen T U C). x.part) same, (grind (arith, moves_stand p q d moves, one_value s.part there was, some)))
  goes_stand s t d (taken_out p q on there killed moves none noted same) h = inl (ap (λ (x : Seen T U C). x.part) same)
  goes_stand s t d (notes_taken on is same) h = rw same h

module _ {T U G C : Type 0} (w : World T G C) (id : ClientParts) where
  call_stands : (offer : Offer G) (call : Call T U G C) (s : Seen T U C) (lacked : Bool) (did : List (Deed U)) (t : Seen T U C)
      → spares id call ≡ true → IsNotInserted id call
      → PartCall w id offer call s lacked did t → Stands s.part → Stands t.part
  call_stands offer call s lacked did t spared other h stands = go (concerns id call) refl
    where
      go : (b : Bool) → concerns id call ≡ b → Stands t.part
      go true about = goes_stand w.sends w.receives id s t _
          (call_moves standing w id offer call s lacked did t about (grind (arith, true≢false)) h) stands
      go false far = rw (other_call w id offer call s lacked did t other far h).2 stands

  -- so it is over all calls of a handler, if the id was given before
  pub run_stands : (before after : ServerState T U G C) (run : List (Entry T U G C)) → id.serial ≤ before.last_client → Leads w before run after
      → AllSpare id run
      → Stands (seen id before).part → Stands (seen id after).part
  run_stands before after [] born same spared stands = rw same stands
  run_stands before after (e ∷ run) born (mid, by, leads) (spared, others) stands =
      run_stands mid after run (let grown = by.last in omega (arith, born, grown)) leads others
      (call_stands before.offer e.call (seen id before) (e.lacks id) (e.did id) (seen id mid) spared (λ new inserts. later_differs new id
      (let next = (numbered before e.call new by.client inserts).2 in omega (arith, born, next))) (by.each id) stands)

  pub born_still : (before after : ServerState T U G C) (run : List (Entry T U G C)) → id.serial ≤ before.last_client → Leads w before run after
      → id.serial ≤ after.last_client
  born_still before after [] born same = grind (arith)
  born_still before after (e ∷ run) born (mid, by, leads) = grind (arith, by.last, born_still mid after run)
