-- What a client's method did, from what its part became and what was noted.
use Rattle.std.proofs.Common.{ℕ, ◌≡◌, List, [], Result, MatchResult, Bool, false, append-nil, arith}
use Rattle.wl_wire.specs.declared.error.IoFault.{IoFault}
use Rattle.wl_server_client.specs.Inside.Client.{Does}
use Rattle.wl_server_client.specs.Deeds.{Deed}
use Rattle.wl_server_client.specs.Part.{Part}
use Rattle.wl_server_client.specs.Stored.{Stored, no_times, untimed}
use Rattle.wl_server_client.specs.Felt.{FlushedTo, FlushesLive}
use Rattle.wl_link.specs.Exchange.{Queue}
use Rattle.wl_link.proofs.Calls.Branches.{at_false}
use Rattle.wl_link.specs.Puts.{lacks_memory}

module _ {T U C : Type 0} where
  -- the same, whatever the numbers of its notes
  pub told_untimed : (D : Type 0) (told : Result (Unit {0}) IoFault) (a b : Stored T U C) → MatchResult told (λ _. a ≡ b) (λ _. D)
      → MatchResult told (λ _. untimed a ≡ untimed b) (λ _. D)
  told_untimed D told a b same = grind (arith, told)

  -- nothing was noted
  pub does_quietly : (s : Stored T U C) (R : Part T U C → List (Deed U) → Part T U C → Type 0) (q : Part T U C) → R s.part [] q
      → Does s R (record { serial = s.serial; part = q; made = s.made; times = no_times })
  does_quietly s R q does = ([], q, does, grind (arith, append-nil))

  pub live_flushed : (sends : T → Queue → Result ℕ IoFault → T → Type 0) (s s' : Stored T U C) (answer : Result (Unit {0}) IoFault) (lacked : Bool)
      → s.part.is_killed ≡ false
      → lacked ≡ lacks_memory answer → Does s (λ p did q. FlushedTo sends p answer (lacks_memory answer) did q) s'
      → Does s (λ p did q. FlushesLive sends p lacked did q) s'
  live_flushed sends s s' answer lacked live is (did, q, flushed, made) = rw is (did, q, at_false _ s.part.is_killed live (answer, flushed), made)
