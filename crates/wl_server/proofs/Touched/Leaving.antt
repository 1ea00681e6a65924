-- Killed clients leave, of which only those that were touched are looked at; and which slots are free then.
use Rattle.std.proofs.Common.{◌≡◌, ◌∙◌, ℕ, zero, suc, ◌+◌, ◌<◌, ◌≤◌, Bool, true, false, List, [], ◌∷◌, ◌++◌, length, Option, None, Some, is_some, Result, refl, sym, ap, arith, append-nil}
use mathlib.Core.Logic.{inl, inr}
use Rattle.std.specs.Option.{option_map_or}
use Rattle.std.specs.Prelude.{MatchOption, min, nat_lt, slice_get}
use Rattle.wl_wire.specs.declared.error.IoFault.{IoFault}
use Rattle.wl_link.proofs.Calls.Branches.{either_bool}
use Rattle.wl_link.specs.Exchange.{Queue}
use Rattle.wl_sets.specs.SlotSets.{IsOut}
use Rattle.wl_server_client.specs.declared.notes.Note.{Note}
use Rattle.wl_server_client.specs.Ids.{ClientParts}
use Rattle.wl_server_client.specs.Part.{Part}
use Rattle.wl_server_client.specs.Stored.{Stored}
use Rattle.wl_server_model.specs.Inside.Cleanup.{CleansUp}
use Rattle.wl_server_model.specs.Inside.Gathering.{Gathers}
use Rattle.wl_server_model.specs.Inside.Inserting.{AreTaken}
use Rattle.wl_server_model.specs.Inside.Leaving.{FlushesKilled, collected, ends_at, given_at, staying}
use Rattle.wl_server_model.specs.Inside.Places.{AllFeel, FeltAt}
use Rattle.wl_server_model.specs.Server.{stored_at}
use Rattle.wl_server.specs.Inside.Touched.{AllLive, AllQuiet, IsLive, IsQuiet}
use Rattle.wl_server_model.proofs.CleanupSteps.Gathering.{set_itself, stored_map}
use Rattle.wl_server_model.proofs.CleanupSteps.Outgoing.{Leave, leave_one}
use Rattle.wl_server_model.proofs.CleanupSteps.Taken.{taken_felt, taken_gathered}
use Rattle.wl_server.proofs.Touched.Gathered.{same_emptied}
use Rattle.wl_server.proofs.Touched.Kept.{carry, out_each, out_here, out_weaker, there}

same_more : {A : Type 0} (xs ys : List A) → ys ≡ [] → xs ≡ xs ++ ys
same_more xs ys none = sym (append-nil xs) ∙ ap (λ l. xs ++ l) (sym none)

below_first : {T : Type 0} (from free k : ℕ) (o : Option (ClientParts × T)) → MatchOption o (free ≡ from) (λ first. free ≡ min from first.0.slot) → k < free
    → (k < from) × MatchOption o (Unit {0}) (λ first. k < first.0.slot)
below_first from free k None is below = (omega (arith, is, below), tt)
below_first from free k (Some first) is below = (omega (arith, is, below), omega (arith, is, below))

module _ {T U C : Type 0} where
  -- ---- the clients that were not touched are live, and stay so

  pub quiet_live : (words : List ℕ) (clients : List (Option (Stored T U C))) → AllQuiet words clients → AllLive words clients
  quiet_live words clients all = out_weaker IsQuiet IsLive words clients live all
    where
      live : (o : Option (Stored T U C)) → IsQuiet o → IsLive o
      live None quiet = tt
      live (Some s) quiet = quiet.live

  live_place : (sends : T → Queue → Result ℕ IoFault → T → Type 0) (k : ℕ) (lacked : Bool) (before after : Option (Option (Stored T U C)))
      → FeltAt (λ id p lacked did q. FlushesKilled sends p lacked did q) k before lacked after
      → IsLive (option_map_or (λ s. s) before None) → IsLive (option_map_or (λ s. s) after None)
  live_place sends k lacked None after (none, is) live = rw is tt
  live_place sends k lacked (Some None) after (place, (none, gone), is) live = grind (arith, option_map_or)
  live_place sends k lacked (Some (Some s)) after (place, (s', (did, q, feels, made), there), is) live = rw (is, there)
      (elim (either_bool s.part.is_killed feels) [
        | inl (answer, (es, link, chain, refused, told, same)) ↦ ap (λ (x : Stored T U C). x.part.is_killed) made
            ∙ (ap (λ (p : Part T U C). p.is_killed) same ∙ live)
        | inr (none, nothing, same) ↦ ap (λ (x : Stored T U C). x.part.is_killed) made
            ∙ (ap (λ (p : Part T U C). p.is_killed) same ∙ live)
      ])

  -- once the killed ones were flushed
  live_flushed : (sends : T → Queue → Result ℕ IoFault → T → Type 0) (words : List ℕ) (refused : Bool) (clients clients' : List (Option (Stored T U C)))
      → AllFeel (λ id p lacked did q. FlushesKilled sends p lacked did q) refused (length clients) clients clients' → AllLive words clients
      → AllLive words clients'
  live_flushed sends words refused clients clients' all = grind (arith, out_each, nat_lt, length, live_place)

  -- and then all notes gathered
  pub live_gathered : (sends : T → Queue → Result ℕ IoFault → T → Type 0) (words : List ℕ) (refused : Bool)
      (clients flushed left : List (Option (Stored T U C))) (notes notes' : List (Note U))
      → AllFeel (λ id p lacked did q. FlushesKilled sends p lacked did q) refused (length clients) clients flushed
      → Gathers true flushed notes left notes' → AllLive words clients → AllLive words left
  live_gathered sends words refused clients flushed left notes notes' flushes gathers live =
      out_each IsLive words flushed left
      (λ k. (λ is. grind (arith, is_some, stored_at k flushed, stored_at k left, same_emptied true flushed left k gathers.rest)))
      (live_flushed sends words refused clients flushed flushes live)

  -- ---- they are passed over

  stays : (x : Option (Stored T U C)) → IsLive x → x ≡ staying x
  stays None live = refl
  stays (Some s) live = rw live refl

  no_ends : (slot : ℕ) (x : Option (Stored T U C)) → IsLive x → ends_at slot x ≡ []
  no_ends slot None live = refl
  no_ends slot (Some s) live = rw live refl

  no_given : (slot : ℕ) (x : Option (Stored T U C)) → IsLive x → given_at slot x ≡ []
  no_given slot None live = refl
  no_given slot (Some s) live = rw live refl

  pub none_left : (start : List (Option (Stored T U C))) (notes : List (Note U)) (given : List (ClientParts × T)) → Leave 0 start start notes notes given given
  none_left start notes given = record {
    same = refl;
    rest = λ k above. refl;
    left = λ k x below here. absurd (omega (arith, below));
    noted = refl;
    gave = refl;
  }

  pub leave_on : (from to : ℕ) (start now : List (Option (Stored T U C))) (notes notes' : List (Note U)) (given given' : List (ClientParts × T))
      (words : List ℕ)
      → from ≤ to → to ≤ length now → ((k : ℕ) → from ≤ k → k < to → IsOut words k) → AllLive words start
      → Leave from start now notes notes' given given' → Leave to start now notes notes' given given'
  leave_on from to start now notes notes' given given' words up within out live leave =
      carry (λ k. Leave k start now notes notes' given given') from to up leave
      (λ k low high before. (let (x, here) = there now k (omega (arith, within, high)) in
      let is = out_here IsLive words start k x (sym (before.rest k (omega arith)) ∙ here) (out k low high) live in
      rw (set_itself now k x here) at (leave_one k start now notes notes' notes' given given' given' x x before here (stays x is)
      (same_more notes' (ends_at k x) (no_ends k x is)) (same_more given' (given_at k x) (no_given k x is)))))

  -- ---- the slots that are free then

  -- a client is live if the first that leaves has a greater slot
  live_below : (n slot : ℕ) (s : Stored T U C) (rest : List (ClientParts × T)) → n ≤ slot
      → MatchOption (slice_get (given_at n (Some s) ++ rest) 0) (Unit {0}) (λ first. slot < first.0.slot) → s.part.is_killed ≡ false
  live_below n slot s rest up below = grind (arith, s.part.is_killed)

  -- so the clients below that slot stay
  stays_below : (n slot k : ℕ) (clients : List (Option (Stored T U C))) → slot ≡ n + k
      → MatchOption (slice_get (collected given_at n clients) 0) (Unit {0}) (λ first. slot < first.0.slot)
      → staying (stored_at k clients) ≡ stored_at k clients
  stays_below n slot k [] at below = refl
  stays_below n slot zero (None ∷ clients) at below = refl
  stays_below n slot (suc k) (None ∷ clients) at below = stays_below (n + 1) slot k clients (omega (arith, at)) below
  stays_below n slot zero (Some s ∷ clients) at below = rw (live_below n slot s (collected given_at (n + 1) clients) (omega (arith, at)) below) refl
  stays_below n slot (suc k) (Some s ∷ clients) at below =
      let live = live_below n slot s (collected given_at (n + 1) clients) (omega (arith, at)) below in
      stays_below (n + 1) slot k clients (omega (arith, at)) (rw live at below)

  -- a slot that had a client has one after a cleanup, if it is below the first that was given back
  pub taken_cleaned : (sends : T → Queue → Result ℕ IoFault → T → Type 0) (from free : ℕ) (clients clients' : List (Option (Stored T U C)))
      (notes notes' : List (Note U)) (refused : Bool) (given : List (ClientParts × T))
      → CleansUp sends clients notes refused clients' notes' given
      → MatchOption (slice_get given 0) (free ≡ from) (λ first. free ≡ min from first.0.slot) → AreTaken from clients → AreTaken free clients'
  unfolding AreTaken
  taken_cleaned sends from free clients clients' notes notes' refused given by is taken k below =
      let (low, first) = below_first from free k (slice_get given 0) is below in
      rw (by.stay, stored_map staying refl by.left k, stays_below 0 k k by.left (omega arith) (rw by.gave at first))
      (taken_gathered true from by.flushed by.left by.gathers.rest
      (taken_felt (λ id p lacked did q. FlushesKilled sends p lacked did q) from refused clients by.flushed by.flushes taken) k low)
