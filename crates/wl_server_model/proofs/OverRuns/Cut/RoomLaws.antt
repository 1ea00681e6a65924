-- That a reading has room for each message of a client that may come.
use Rattle.std.proofs.Common.{◌≡◌, ◌≢◌, ℕ, Bool, List, [], ◌∷◌, ◌++◌, append-nil, map, Some, Result, Ok, is_ok, refl, ap, subst, ◌∙◌, true≢false, arith}
use mathlib.Core.Logic.{inl, inr}
use Rattle.wl_wire.specs.declared.error.IoFault.{IoFault}
use Rattle.wl_link.proofs.Calls.Branches.{either_bool, either_option}
use Rattle.wl_link.specs.Exchange.{Queue, Sending}
use Rattle.wl_link.proofs.Streams.LengthLaws.{failed_finds}
use Rattle.wl_link.specs.Link.{FindsRoom, LinkState, count_of, counted_answer}
use Rattle.wl_link.specs.Reader.{Gives, Handled, Reads, Received, Turn, Unread, with_link, ReaderState}
use Rattle.wl_server_client.specs.declared.reading.action.Reading.{Reading}
use Rattle.wl_server_client.specs.declared.error.ActionError.{ActionError}
use Rattle.wl_server_client.specs.Deeds.{IsAmong, came_in, Deed, Handed, Sent}
use Rattle.wl_server_model.proofs.OverRuns.Moves.BaseMoves.{Doings}
use Rattle.wl_server_model.proofs.OverRuns.Moves.DoingsLaws.{doings_in_both}
use Rattle.wl_server_client.specs.Globals.{Offer}
use Rattle.wl_server_client.specs.Ids.{ClientParts, same_client}
use Rattle.wl_server_model.proofs.Plain.ReadingEnds.{reads_bare}
use Rattle.wl_server_client.specs.Part.{Part}
use Rattle.wl_server_model.specs.PartStep.{ReadsFor, World, around}
use Rattle.wl_server_client.specs.Reading.{Around, NextAction, exchanges_in, server}
use Rattle.wl_server_model.specs.Room.{BringsNone, LeavesRoom}
use Rattle.wl_server_model.specs.Server.{Seen}
use Rattle.wl_server_client.specs.Telling.{Core, Told, deeds_in, deeds_of, end_deeds, reader_part}

-- ---- a receive

-- one that brought no byte ended the reading
none_fails : (r : Result Queue IoFault) → BringsNone r → counted_answer (count_of r) ≢ Ok tt
none_fails r h1 = grind (arith, true≢false, is_ok)

nothing_came : {T U : Type 0} (did : List (Deed U)) (link : LinkState T) → did ≡ [] → LeavesRoom did link
nothing_came {U = U} did link none r among = absurd (subst (λ (ds : List (Deed U)). IsAmong (came_in ds) r) none among)

-- ---- the receives among the deeds

module _ {U : Type 0} where
  came_both : (did others : List (Deed U)) → came_in (did ++ others) ≡ came_in did ++ came_in others
  came_both did others = ap (λ (d : Doings U). d.came) (doings_in_both did others)

  pub none_sent : (es : List Sending) (did : List (Deed U)) → came_in (map Sent es ++ did) ≡ came_in did
  none_sent [] did = refl
  none_sent (e ∷ es) did = none_sent es did

pub no_more : (rs others : List (Result Queue IoFault)) → rs ≡ [] → others ≡ [] → rs ++ others ≡ []
no_more rs others none nor = ap (λ (l : List (Result Queue IoFault)). l ++ others) none ∙ nor

-- what the turns received
abbrev pub received : Type 0 → List Turn → List (Result Queue IoFault)
received U turns = came_in (exchanges_in {U = U} turns)

-- ---- a reading

abbrev Leaves : {T : Type 0} → LinkState T → Type 0
Leaves link = FindsRoom link link.incoming_capacity

module _ {T U G C : Type 0} (sends : T → Queue → Result ℕ IoFault → T → Type 0) (receives : T → ℕ → Result Queue IoFault → T → Type 0)
    (a : Around G C) where
  -- the receives among the deeds of a reading are those of its turns
  pub received_deeds : (left : ℕ) (p : Part T U C) (after : ReaderState T (Core U C)) (turns : List Turn) (out : Gives (Told U))
      → Reads sends (server a) receives left (reader_part p) turns out after
      → came_in (deeds_of (exchanges_in turns) out.gave after.core) ≡ received U turns
  received_deeds left p after turns out reads = grind (arith, came_both, exchanges_in, deeds_in, end_deeds, no_more, came_in, (reads_bare sends receives a left (reader_part p) turns out after reads).1, reader_part, append-nil)

  -- behind a receive that brought no byte, one is free
  leaves_room : (left : ℕ) (p after : ReaderState T (Core U C)) (turns : List Turn) (out : Gives (Told U))
      → Reads sends (server a) receives left p turns out after
      → (r : Result Queue IoFault) → IsAmong (received U turns) r → BringsNone r → Leaves after.link
  leaves_room left p after [] out reads r among none = absurd among
  leaves_room left p after (Received s ∷ turns) out (on, lacks, (n, is, (link, filled, finds, h))) r among none =
      grind (arith, none_fails, failed_finds receives p.link link s, counted_answer (count_of s), leaves_room n (with_link p link) after turns out)
  leaves_room left p after (Handled es ∷ turns) out (on, (v, link, first, lacked, mid, rest, found, by, split, more)) r among none =
      grind (arith, none_sent, exchanges_in, leaves_room left mid after turns rest more r)
  leaves_room left p after (Unread es ∷ turns) out (on, (v, link, first, lacked, mid, rest, found, by, split, more)) r among none =
      grind (arith, none_sent, exchanges_in, leaves_room left mid after turns rest more r)

  -- so it is of each reading of a client
  pub next_action_room : (reading : Reading) (p : Part T U C) (answer : Result Handed ActionError) (left : Reading) (refused : Bool)
      (did : List (Deed U)) (q : Part T U C)
      → NextAction sends receives a reading p answer left refused did q → LeavesRoom did q.link
  next_action_room reading p answer left refused did q h =
      grind (arith, either_option, nothing_came, either_bool, came_in, received, received_deeds, leaves_room, reader_part)

-- ---- a call

module _ {T U G C : Type 0} (w : World T G C) where
  pub reads_for_room : (id target : ClientParts) (offer : Offer G) (reading : Reading) (answer : Result Handed ActionError) (left : Reading)
      (before after : Seen T U C)
      (lacked : Bool) (did : List (Deed U)) (p : Part T U C) → ReadsFor w id offer target reading answer left before lacked did after
      → after.part ≡ Some p
      → LeavesRoom did p.link
  reads_for_room id target offer reading answer left before after lacked did p h there =
      elim (either_bool (same_client target id) h) [
        | inr (calm, nothing, same) ↦ nothing_came did p.link nothing
        | inl g ↦
            elim (either_option before.part g) [
              | inl (none, (missing, (calm, nothing, same))) ↦ nothing_came did p.link nothing
              | inr (q, was, (r, read, same)) ↦ grind
                  (arith, next_action_room w.sends w.receives (around w id offer) reading q answer left lacked did r read)
            ]
      ]
