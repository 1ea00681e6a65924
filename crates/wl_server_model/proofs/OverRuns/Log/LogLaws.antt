-- That no message is lost, and none is sent that was not put: an induction over base moves.
use Rattle.std.proofs.Common.{◌≡◌, ℕ, true, List, [], ◌∷◌, ◌++◌, Option, Some, Result, refl, sym, ap, subst, ◌∙◌, arith, ◌⊎◌}
use Rattle.wl_wire.specs.declared.error.IoFault.{IoFault}
use Rattle.wl_wire.specs.Message.{WireMessage}
use Rattle.wl_wire.specs.Table.{InterfaceRow}
use Rattle.wl_link.specs.Exchange.{Queue, nothing, IsWithinOffer}
use Rattle.wl_link.specs.NothingLost.{LosesNothing}
use Rattle.wl_link.proofs.Calls.NothingLostLaws.{flush_kept, gone-taken}
use Rattle.wl_link.specs.Link.{LinkState, IsFresh}
use Rattle.wl_link.proofs.Readings.LogLaws.{kept_still, kept_then, puts_kept}
use Rattle.wl_link.specs.Puts.{Said, messages_of}
use Rattle.wl_link.specs.Sides.{spelled_all}
use Rattle.wl_link.proofs.Streams.StreamLaws.{spelled_all-append}
use Rattle.wl_server_model.proofs.OverRuns.Moves.BaseMoves.{Doings, Goes, Move, Moves, any, doings_of, followed, handed_by, handed_out, joined, notes_taken, moved, putting, sending, stayed, taken_out, unfelt, within}
use Rattle.wl_server_model.proofs.OverRuns.Moves.BaseMovesLaw.{call_goes}
use Rattle.wl_server_client.specs.Deeds.{log_of, sends_of}
use Rattle.wl_server_model.proofs.OverRuns.Moves.DoingsLaws.{doings_in_both}
use Rattle.wl_server_client.specs.Globals.{Offer, new_offer}
use Rattle.wl_server_client.specs.Ids.{ClientParts}
use Rattle.wl_server_model.proofs.OverRuns.Alone.IsolationLaw.{is_isolated}
use Rattle.wl_server_model.specs.Logged.{EachLogIsSpelled, LogIsSpelled, WaitsFor}
use Rattle.wl_server_model.proofs.OverRuns.Alone.OwnRuns.{AreMine, are_mine}
use Rattle.wl_server_client.specs.Part.{Part}
use Rattle.wl_server_model.specs.PartStep.{World}
use Rattle.wl_server_model.specs.Runs.{Alone, Leads, Own, just_inserted, history, mine, offer_over}
use Rattle.wl_server_model.specs.Server.{Seen, ServerState, new_server, seen}
use Rattle.wl_server_model.specs.Steps.{Entry, offer_after}
use mathlib.Core.Logic.{inl, inr}

messages_both : (said others : List Said) → messages_of (said ++ others) ≡ messages_of said ++ messages_of others
messages_both [] others = refl
messages_both (s ∷ said) others = ap (λ (ms : List WireMessage). s.message ∷ ms) (messages_both said others)

-- the spelling of messages that were put
abbrev spelled_log : List Said → Queue
spelled_log put = spelled_all (messages_of put)

-- what is gone, followed by what waits, is what waited, followed by what was put
module _ {U : Type 0} where
  abbrev Keeps : Queue → Doings U → Queue → Type 0
  Keeps before d after = LosesNothing d.sends before (spelled_log d.put) after

  keeps_quiet : (a b : Queue) (d : Doings U) → d.sends ≡ [] → d.put ≡ [] → b ≡ a → Keeps a d b
  keeps_quiet a b d no_sends no_puts same =
      subst (λ (ms : List Said). LosesNothing d.sends a (spelled_log ms) b) (sym no_puts) (kept_still d.sends a b no_sends same)

  keeps_then : (x y z : Queue) (a b : Doings U) → Keeps x a y → Keeps y b z → Keeps x (joined a b) z
  keeps_then x y z a b first second =
      subst (λ (q : Queue). LosesNothing (a.sends ++ b.sends) x q z)
      (sym (ap spelled_all (messages_both a.put b.put) ∙ spelled_all-append (messages_of a.put) (messages_of b.put)))
      (kept_then a.sends b.sends x y z (spelled_log a.put) (spelled_log b.put) first second)

  keeps_so : (x y y' : Queue) (d d' : Doings U) → d' ≡ d → y' ≡ y → Keeps x d y → Keeps x d' y'
  keeps_so x y y' d d' is same keeps = grind (arith)

module _ {T U C : Type 0} where
  -- what waits for a client then
  record GoneOn (waits : Queue) (d : Doings U) (t : Seen T U C) : Type 0 where
    after : Queue
    waiting : WaitsFor t after
    keeps : Keeps waits d after

  still : (s t : Seen T U C) (d : Doings U) (waits : Queue) → WaitsFor s waits → t.part ≡ s.part → d.sends ≡ [] → d.put ≡ [] → GoneOn waits d t
  still s t d waits is same no_sends no_puts = record {
    after = waits;
    waiting = subst (λ (o : Option (Part T U C)). WaitsFor (record { part = o; made = t.made }) waits) (sym same) is;
    keeps = keeps_quiet waits waits d no_sends no_puts refl;
  }

module _ {T U C : Type 0} (sends : T → Queue → Result ℕ IoFault → T → Type 0) (receives : T → ℕ → Result Queue IoFault → T → Type 0)
    (client : ClientParts) (within' : IsWithinOffer sends) where
  abbrev out : Part T U C → Queue
  out p = p.link.outgoing

  -- a move keeps, or it neither sends nor puts
  sorts : (p q : Part T U C) (d : Doings U) → Move (any true) sends receives client p d q
      → Keeps (out p) d (out q) ⊎ ((d.sends ≡ []) × (d.put ≡ []) × (out q ≡ out p))
  sorts p q d move = grind (arith, keeps_so, puts_kept, flush_kept, out, putting, sending)

  moves_keep : (p q : Part T U C) (d : Doings U) → Moves (any true) sends receives client p d q → Keeps (out p) d (out q)
  moves_keep p q d (stayed is same) =
      keeps_quiet (out p) (out q) d (ap (λ (e : Doings U). e.sends) is) (ap (λ (e : Doings U). e.put) is) (ap out same)
  moves_keep p q d (followed {m = m} {a = a} {b = b} first second is) =
      keeps_so (out p) (out q) (out q) (joined a b) d is refl
      (keeps_then (out p) (out m) (out q) a b (moves_keep p m a first) (moves_keep m q b second))
  moves_keep p q d (handed_out {a = a} ids moves among is) = keeps_so (out p) (out q) (out q) (record a { handed = ids }) d is refl
      (moves_keep p q a moves)
  moves_keep p q d (moved move) =
      elim (sorts p q d move) [
        | inl keeps ↦ keeps
        | inr (no_sends, no_puts, waits) ↦ keeps_quiet (out p) (out q) d no_sends no_puts waits
      ]

  -- ---- what is held of a client

  goes_keep : (s t : Seen T U C) (d : Doings U) (waits : Queue) → WaitsFor s waits → Goes (any true) sends receives client s d t → GoneOn waits d t
  goes_keep s t d waits is (unfelt none same) =
      still s t d waits is (ap (λ (x : Seen T U C). x.part) same) (ap (λ (e : Doings U). e.sends) none) (ap (λ (e : Doings U). e.put) none)
  goes_keep s t d waits is (notes_taken on none same) =
      still s t d waits is (ap (λ (x : Seen T U C). x.part) same) (ap (λ (e : Doings U). e.sends) none) (ap (λ (e : Doings U). e.put) none)
  goes_keep s t d waits is (within p q there moves same) = grind (arith, out, moves_keep)
  goes_keep s t d waits is (taken_out p q on there killed moves none noted same) = grind (arith, out, moves_keep)

-- ---- the run of a client

module _ {T U G C : Type 0} (w : World T G C) (within' : IsWithinOffer w.sends) (id : ClientParts) where
  abbrev RunKeeps : Queue → List (Own T U G C) → Seen T U C → Type 0
  RunKeeps waits run t = GoneOn waits (doings_of [] (history run)) t

  run_keeps : (offer : Offer G) (s : Seen T U C) (waits : Queue) (run : List (Own T U G C)) (t : Seen T U C) → AreMine id run → WaitsFor s waits
      → Alone w id offer s run t → RunKeeps waits run t
  run_keeps offer s waits [] t own is same = still s t (doings_of [] []) waits is (ap (λ (x : Seen T U C). x.part) same) refl refl
  run_keeps offer s waits (e ∷ run) t own is (mid, by, alone) =
      let first = goes_keep w.sends w.receives id within' s mid (doings_of (handed_by id e.call e.did) e.did) waits is
      (call_goes true w id offer e.call s e.lacked e.did mid own.0 by (λ cleans. refl)) in
      let rest = run_keeps (offer_after offer e.call) mid first.after run t own.1 first.waiting alone in
      let both = keeps_then waits first.after rest.after (doings_of (handed_by id e.call e.did) e.did)
      (doings_of [] (history run)) first.keeps rest.keeps in
      let sent = ap (λ (d : Doings U). d.sends) (doings_in_both e.did (history run)) in
      let put = ap (λ (d : Doings U). d.put) (doings_in_both e.did (history run)) in
      record { after = rest.after; waiting = rest.waiting; keeps = grind (arith) }

  own_log : (offer : Offer G) (transport : T) (limit : Option ℕ) (link : LinkState T) (client_data : C) (run : List (Own T U G C)) (t : Seen T U C)
      → IsFresh transport limit link
      → AreMine id run → Alone w id offer (just_inserted link client_data) run t
      → (waits : Queue) × WaitsFor t waits × LogIsSpelled (history run) waits
  own_log offer transport limit link client_data run t (l, limits, fresh) own alone =
      let kept = run_keeps offer (just_inserted link client_data) link.outgoing run t own refl alone in
      let none : link.outgoing ≡ nothing = ap (λ (x : LinkState T). x.outgoing) fresh in
      let from : LosesNothing (sends_of (history run)) nothing (spelled_log (log_of (history run))) kept.after =
      subst (λ (q : Queue). LosesNothing (sends_of (history run)) q
      (spelled_log (log_of (history run))) kept.after) none kept.keeps in grind (arith, gone-taken, sends_of, history)

module _ {T U G C : Type 0} where
  pub each_log : (w : World T G C) → IsWithinOffer w.sends → (table : List InterfaceRow) (run : List (Entry T U G C)) (after : ServerState T U G C)
      → Leads w (new_server table) run after → EachLogIsSpelled run after
  each_log w within' table run after leads id transport client_data earlier later e split inserts =
      let (link, fresh, alone) = (is_isolated w table run after leads).each id transport client_data earlier later e split inserts in
      own_log w within' id (offer_over (new_offer table) (earlier ++ e ∷ [])) transport
      (Some (offer_over (new_offer table) earlier).default_limit) link client_data (mine id later) (seen id after) fresh (are_mine id later) alone
