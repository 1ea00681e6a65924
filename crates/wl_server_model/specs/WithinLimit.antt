-- That no reading makes an object above the limit.
--
-- So a client whose objects had no number above the limit has none after the reading.
use Rattle.std.specs.Prelude.{◌≡◌, ◌<◌, ℕ, Some}
use Rattle.wl_link.specs.Store.{Store, held}
use Rattle.wl_server_model.specs.declared.step.Step.TheVariants as step
use Rattle.wl_server_client.specs.Ids.{ClientParts}
use Rattle.wl_server_client.specs.Part.{Part}
use Rattle.wl_server_model.specs.PartStep.{Asked, Call}
use Rattle.wl_server_model.specs.Server.{ServerState, seen}

-- each number above the limit holds what it held
abbrev pub SameAbove : {D : Type 0} → ℕ → Store D → Store D → Type 0
SameAbove limit before after = (n : ℕ) → limit < n → held after n ≡ held before n

module _ {T U G C : Type 0} (before after : ServerState T U G C) where
  -- so it is with the objects of this client, if there is a limit and the client is stored
  abbrev pub StaysWithin : ClientParts → Type 0
  StaysWithin id =
      (limit : ℕ) (p q : Part T U C) → before.offer.object_limit ≡ Some limit → (seen id before).part ≡ Some p → (seen id after).part ≡ Some q
      → SameAbove limit p.store q.store

  -- so it is with a client that this call reads
  abbrev pub ReadsWithinLimit : Call T U G C → Type 0
  ReadsWithinLimit (Asked (step.NextAction id) answer) = StaysWithin id
  ReadsWithinLimit (Asked (step.NextActionWithin id reading) answer) = StaysWithin id
  ReadsWithinLimit _ = Unit {0}
