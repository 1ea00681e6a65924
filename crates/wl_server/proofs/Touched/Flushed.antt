-- A flush of clients, of which only those that were touched are looked at.
use Rattle.std.proofs.Common.{◌≡◌, ◌∙◌, ℕ, ◌<◌, ◌≤◌, Bool, true, false, List, [], ◌∷◌, length, Option, None, Some, Result, Ok, refl, sym, ap, arith}
use Rattle.std.specs.Prelude.{slice_get}
use Rattle.std.proofs.Math.Bool.{or-false}
use Rattle.wl_wire.specs.declared.error.IoFault.{IoFault}
use Rattle.wl_link.specs.Exchange.{Queue, Sending}
use Rattle.wl_link.specs.Link.{Flushes}
use Rattle.wl_server_client.specs.Deeds.{notes_in}
use Rattle.wl_server_client.specs.Felt.{FlushedTo, FlushesLive}
use Rattle.wl_server_client.specs.Inside.Client.{Does}
use Rattle.wl_server_model.specs.Inside.Leaving.{FlushesKilled}
use Rattle.wl_server_model.specs.Inside.Places.{AllFeel, PlaceFeels}
use Rattle.wl_sets.specs.SlotSets.{IsOut}
use Rattle.wl_server.specs.Inside.Touched.{AllLive, AllSent, HasSent, IsCalm, IsLive}
use Rattle.wl_server_client.specs.Part.{Part}
use Rattle.wl_server_client.specs.Stored.{Stored}
use Rattle.wl_server_model.proofs.CallSteps.Feeling.{one_more_felt}
use Rattle.wl_server_model.proofs.CallSteps.Slots.{Kind}
use Rattle.wl_server_model.proofs.CleanupSteps.Gathering.{set_itself}
use Rattle.wl_server_model.proofs.CleanupSteps.Outgoing.{not_killed}
use Rattle.wl_server_client.proofs.CallSteps.Doing.{live_flushed, does_quietly}
use Rattle.wl_server_client.proofs.Readings.Notes.{notes_of_sends}
use Rattle.wl_server.proofs.Touched.Kept.{carry, out_here, there}
use Rattle.wl_link.proofs.Calls.Branches.{at_true}
use Rattle.wl_link.specs.Puts.{lacks_memory}

module _ {T U C : Type 0} where
  -- the clients from one slot to another feel nothing of it
  felt_on : (R : Kind T U C) (refused : Bool) (from to : ℕ) (start now : List (Option (Stored T U C))) → from ≤ to → to ≤ length now
      → ((k : ℕ) (place : Option (Stored T U C)) → from ≤ k → k < to → slice_get now k ≡ Some place → PlaceFeels R k place false place)
      → AllFeel R refused from start now → AllFeel R refused to start now
  felt_on R refused from to start now up within none all =
      carry (λ k. AllFeel R refused k start now) from to up all
      (λ k low high before. (let (place, here) = there now k (omega (arith, within, high)) in
      rw (set_itself now k place here, or-false refused) at
      (one_more_felt R refused false k start now place place before here (none k place low high here))))

  module _ (sends : T → Queue → Result ℕ IoFault → T → Type 0) where
    pub sent_felt : (slot : ℕ) (place : Option (Stored T U C)) → HasSent place
        → PlaceFeels (λ id p lacked did q. FlushesLive sends p lacked did q) slot place false place
    sent_felt slot None sent = (refl, refl)
    sent_felt slot (Some s) sent = (s, at s.part.is_killed refl, refl)
      where
        at : (b : Bool) → s.part.is_killed ≡ b → Does s (λ p did q. FlushesLive sends p false did q) s
        at true killed = does_quietly s (λ p did q. FlushesLive sends p false did q) s.part (at_true _ s.part.is_killed killed (refl, refl, refl))
        at false live = live_flushed sends s s (Ok tt) false live refl (does_quietly s (λ p did q. FlushedTo sends p (Ok tt) (lacks_memory
            (Ok tt)) did q) s.part ([], s.part.link, (refl, (sent, refl, refl), refl), refl, refl, refl))

    live_felt : (slot : ℕ) (place : Option (Stored T U C)) → IsLive place
        → PlaceFeels (λ id p lacked did q. FlushesKilled sends p lacked did q) slot place false place
    live_felt slot None live = (refl, refl)
    live_felt slot (Some s) live = (s, not_killed sends s live, refl)

    -- a flush of a client that has sent all leaves it so
    pub sent_flushed : (s s' : Stored T U C) (answer : Result (Unit {0}) IoFault) (lacked : Bool)
        → Does s (λ p did q. FlushedTo sends p answer lacked did q) s'
        → s.part.link.outgoing.bytes ≡ [] → s'.part.link.outgoing.bytes ≡ []
    sent_flushed s s' answer lacked (did, q, (es, link, (chain, flushes, to), refused, did_so, same), made) sent =
        ap (λ (x : Stored T U C). x.part.link.outgoing.bytes) made ∙ (ap (λ (p : Part T U C). p.link.outgoing.bytes) same ∙ left es flushes)
      where
        left : (es : List Sending) → Flushes s.part.link.outgoing es answer link.outgoing → link.outgoing.bytes ≡ []
        left [] (none, after, ok) = ap (λ (o : Queue). o.bytes) after ∙ sent
        left (e ∷ es) (some, offer, rest) = absurd (some sent)

    -- a flush makes no note, and kills no client
    pub quiet_flushed : (s s' : Stored T U C) (answer : Result (Unit {0}) IoFault) (lacked : Bool)
        → Does s (λ p did q. FlushedTo sends p answer lacked did q) s'
        → s'.times ≡ s.times → IsCalm s → IsCalm s'
    quiet_flushed s s' answer lacked h5 times calm = grind (arith, notes_in, notes_of_sends)

    -- ---- the clients that were not touched are passed over

    pub live_felt_on : (refused : Bool) (from to : ℕ) (start now : List (Option (Stored T U C))) (words : List ℕ) → from ≤ to → to ≤ length now
        → ((k : ℕ) → from ≤ k → k < to → IsOut words k) → AllSent words now
        → AllFeel (λ id p lacked did q. FlushesLive sends p lacked did q) refused from start now
        → AllFeel (λ id p lacked did q. FlushesLive sends p lacked did q) refused to start now
    live_felt_on refused from to start now words up within out sent all =
        felt_on (λ id p lacked did q. FlushesLive sends p lacked did q) refused from to start now up within
        (λ k place low high here. sent_felt k place (out_here HasSent words now k place here (out k low high) sent)) all

    -- each of them is live, and they were not flushed yet
    pub killed_felt_on : (refused : Bool) (from to : ℕ) (start now : List (Option (Stored T U C))) (words : List ℕ) → from ≤ to → to ≤ length now
        → ((k : ℕ) → from ≤ k → k < to → IsOut words k) → AllLive words start
        → AllFeel (λ id p lacked did q. FlushesKilled sends p lacked did q) refused from start now
        → AllFeel (λ id p lacked did q. FlushesKilled sends p lacked did q) refused to start now
    killed_felt_on refused from to start now words up within out live all =
        felt_on (λ id p lacked did q. FlushesKilled sends p lacked did q) refused from to start now up within
        (λ k place low high here. live_felt k place (out_here IsLive words start k place (sym (all.rest k low) ∙ here) (out k low high) live)) all
