-- That a verdict that is carried out is a chain of base moves.
use Rattle.std.proofs.Common.{◌≡◌, ◌⊎◌, ℕ, Bool, true, false, List, [], map, None, Result, refl, sym, ap, subst, append-nil, append_assoc, true≢false, arith, ◌∷◌, Ok, Err}
use mathlib.Core.Logic.{inl, inr}
use Rattle.wl_wire.specs.declared.error.IoFault.{IoFault}
use Rattle.wl_wire.specs.declared.error.IoFault.TheVariants as fault
use Rattle.wl_link.specs.Exchange.{Queue, Sending}
use Rattle.wl_link.specs.Link.{LinkState}
use Rattle.wl_link.specs.Puts.{FlushesOut, Said}
use Rattle.wl_link.specs.Reader.{ReaderState, CarriesOut, Given, Reader, Verdict, came_to, put_and_gave}
use Rattle.wl_server_client.specs.declared.notes.DisconnectReason.{DisconnectReason}
use Rattle.wl_server_model.proofs.OverRuns.Moves.BaseMoves.{Doings, Kind, Moves, ended, flushed, followed, joined, moved, nothing_done, putting, sending, stayed, told}
use Rattle.wl_server_client.specs.Deeds.{Deed, notes_in, Sent}
use Rattle.wl_server_model.proofs.OverRuns.Moves.DoingsLaws.{IsQuiet, doings_in, joined_none, told_deeds, verdict_done, end_of}
use Rattle.wl_server_client.specs.Ids.{ClientParts}
use Rattle.wl_server_client.specs.Part.{Part}
use Rattle.wl_server_client.specs.Telling.{Core, Finish, Tells, Told, closed_down, core_of, deeds_in, end_deeds, killed, part_of, speaker, deeds_of}
use Rattle.wl_server_client.specs.declared.notes.DisconnectReason.TheVariants.{ConnectionClosed}

module _ {U : Type 0} where
  quiet_given : (put : List Said) (events : List (Told U)) → IsQuiet (told_deeds events) → IsQuiet (deeds_in (put_and_gave put events))
  quiet_given [] events quiet = quiet
  quiet_given (m ∷ put) events quiet = quiet_given put events quiet

module _ {T U C : Type 0} (kind : Kind) (sends : T → Queue → Result ℕ IoFault → T → Type 0) (receives : T → ℕ → Result Queue IoFault → T → Type 0)
    (client : ClientParts) where
  abbrev pub Go : Part T U C → Doings U → Part T U C → Type 0
  Go p d q = Moves kind sends receives client p d q

  -- a core over a link
  abbrev pub at : Core U C → LinkState T → Part T U C
  at c link = part_of (record { core = c; link = link })

  pub same_doings : (p q : Part T U C) (d e : Doings U) → e ≡ d → Go p d q → Go p e q
  same_doings p q d e is go = subst (λ (x : Doings U). Go p x q) (sym is) go

  -- ---- what a core comes to

  -- a client that is live has no end yet
  abbrev pub IsCalm : Core U C → Type 0
  IsCalm c = c.is_killed ≡ false → c.ended ≡ None

  -- with these deeds, which put nothing, and then perhaps the end of the client
  pub record Lands (c : Core U C) (made : List (Deed U)) (e : Core U C) : Type 0 where
    pub moves : (l : LinkState T) → Go (at c l) (joined (doings_in made) (end_of e)) (at e l)
    pub calm : IsCalm e

  pub lands_at : (c : Core U C) (made : List (Deed U)) (e : Core U C) → e.ended ≡ None
      → ((l : LinkState T) → Go (at c l) (doings_in made) (at e l)) → Lands c made e
  lands_at c made e none moves = grind (arith, same_doings, doings_in, joined, nothing_done, joined_none, notes_in, end_deeds, append-nil)

  pub lands_not : (c : Core U C) → c.ended ≡ None → Lands c [] c
  lands_not c none = lands_at c [] c none (λ l. stayed refl refl)

  -- a client that is killed already is not noted again
  pub lands_killed : (c : Core U C) (made : List (Deed U)) (e : Core U C) (reason : DisconnectReason) → kind.kills reason → Lands c made e
      → Lands c made (killed e reason)
  lands_killed c made e reason may lands = record {
    moves = λ l. followed (lands.moves l) (moved (ended reason may refl refl)) (grind (arith, append-nil, append_assoc, e.is_killed, lands.calm));
    calm = λ live. absurd (true≢false live);
  }

  -- ---- a verdict

  -- what a verdict on a core comes to, for whatever the messages came to: with these deeds, and then perhaps the end of the client
  abbrev pub Comes : Core U C → Verdict (Core U C) (Told U) → Type 0
  Comes c v =
      (made : List (Deed U)) × Lands c made v.core × ((e : Core U C) → e.store ≡ v.core.store → told_deeds (v.events e) ≡ made) × IsQuiet made
      × ((v.last ≡ (λ d. d)) ⊎ ((reason : DisconnectReason) × kind.kills reason × (v.last ≡ (λ d. killed d reason))))
      × ((v.starved ≡ closed_down v.core) ⊎ ((v.starved ≡ c) × (told_deeds (v.events c) ≡ [])))

  -- and hands out nothing that is a deed
  pub comes_silently : (c : Core U C) (v : Verdict (Core U C) (Told U)) → Lands c [] v.core → ((e : Core U C) → told_deeds (v.events e) ≡ [])
      → (v.last ≡ (λ d. d)) ⊎ ((reason : DisconnectReason) × kind.kills reason × (v.last ≡ (λ d. killed d reason)))
      → v.starved ≡ closed_down v.core → Comes c v
  comes_silently c v lands silent last over = ([], lands, λ e same. silent e, (refl, refl), last, inl over)

  flushes : (c : Core U C) (b : Bool) (before after : LinkState T) (es : List Sending) (lacked : Bool) → FlushesOut sends b before es lacked after
      → Go (at c before) (sending es) (at c after)
  flushes c true before after es lacked (answer, by, is) = moved (flushed es answer after by refl refl)
  flushes c false before after es lacked (none, same, is) = stayed (ap (λ (l : List Sending). sending {U = U} l) none) (ap (at c) same)

  module _ (reader : Reader (Core U C) (Told U) (Finish U)) (breaks : (d : Core U C) (f : IoFault) → reader.broken d f ≡ closed_down d)
      (c : Core U C) (v : Verdict (Core U C) (Told U)) (comes : Comes c v) (none : c.ended ≡ None) where
    -- it landed at this core, with what it handed out
    abbrev Landed : Core U C → Type 0
    Landed e = Lands c (told_deeds (v.events e)) e × IsQuiet (told_deeds (v.events e))

    landed_by : (e : Core U C) → Lands c comes.0 e → e.store ≡ v.core.store → Landed e
    landed_by e lands same = rw (comes.2 e same) (lands, comes.3)

    landed_last : (e : Core U C) → Lands c comes.0 e → e.store ≡ v.core.store → Landed (v.last e)
    landed_last e lands same =
        elim comes.4 [
          | inl is ↦ rw is (landed_by e lands same)
          | inr (reason, may, is) ↦ rw is (landed_by (killed e reason) (lands_killed c comes.0 e reason may lands) same)
        ]

    closed : Lands c comes.0 (closed_down v.core)
    closed = lands_killed c comes.0 v.core ConnectionClosed kind.closes comes.1

    landed_starved : Landed v.starved
    landed_starved =
        elim comes.5 [
          | inl is ↦ rw is (landed_by (closed_down v.core) closed refl)
          | inr (is, nothing) ↦ rw (is, nothing) (lands_not c none, (refl, refl))
        ]

    landed : (wrote : Result (Unit {0}) IoFault) → Landed (came_to reader v wrote)
    landed (Ok u) = landed_last v.core comes.1 refl
    landed (Err fault.OutOfMemory) = landed_starved
    landed (Err f) = rw (came_to, breaks v.core f) (landed_last (closed_down v.core) closed refl)

    module _ (link : LinkState T) (es : List Sending) (gave : List (Given (Told U))) (end : Core U C) (after : LinkState T) where
      -- what it did, carried out over a link
      abbrev Carried : Type 0
      Carried = Go (at c link) (doings_in (deeds_of (map Sent es) gave end)) (at end after) × IsCalm end × IsQuiet (deeds_in gave)

      came_over : (e : Core U C) (put : List Said) → Go (at c link) (putting es put) (at c after) → Landed e → gave ≡ put_and_gave put (v.events e)
          → end ≡ e → Carried
      came_over e put spoken (lands, quiet) given is =
          rw (given, is)
          (let moves = same_doings _ _ _ _ (verdict_done es put (v.events e) e) (followed spoken (lands.moves after) refl) in
          (moves, lands.calm, quiet_given put (v.events e) quiet))

      pub carried : (refused : Bool) → CarriesOut sends reader v link es gave refused (record { core = end; link = after }) → Carried
      carried refused (inl (first, others, put, wrote, mid, lacked, puts, flushed_so, sent, core, given, is)) =
          came_over (came_to reader v wrote) put
          (followed (moved (told v.puts first put wrote mid puts refl refl)) (flushes c v.flushes mid after others lacked flushed_so)
          (grind (arith, append-nil, putting, sending, sent))) (landed wrote) given core
      carried refused (inr (asks, is, nothing, given, same)) =
          came_over v.starved []
          (stayed (ap (λ (l : List Sending). putting {U = U} l []) nothing)
          (ap (λ (a : ReaderState T (Core U C)). at c a.link) same)) landed_starved given
          (ap (λ (a : ReaderState T (Core U C)). a.core) same)

  -- what is told to a client: a verdict on its part, and its deeds
  pub tells_moves : (p : Part T U C) (v : Verdict (Core U C) (Told U)) (refused : Bool) (did : List (Deed U)) (after : Part T U C)
      → Comes (core_of p) v
      → Tells sends v p.link refused did after → Go p (doings_in did) after
  tells_moves p v refused did after comes (es, gave, end, by, is, same) =
      rw (is, same) (carried speaker (λ d f. refl) (core_of p) v comes refl p.link es gave end.core end.link refused by).0
