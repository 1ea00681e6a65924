-- Of which clients it is kept how they broke the protocol, and which calls change that.
use Rattle.std.specs.Prelude.{◌≡◌, false, Bool, None, Some, MatchOption}
use Rattle.wl_server_model.specs.declared.step.Step.TheVariants as step
use Rattle.wl_server_client.specs.Ids.{ClientParts, same_client}
use Rattle.wl_server_client.specs.Part.{Part}
use Rattle.wl_server_model.specs.PartStep.{Asked, Call, World}
use Rattle.wl_server_model.specs.Runs.{IsNotInserted}
use Rattle.wl_server_model.specs.Server.{Seen, ServerState, seen}
use Rattle.wl_server_model.specs.Steps.{Entry, OneStep}

-- the call reads this client
abbrev pub reads_of : {T U G C : Type 0} → ClientParts → Call T U G C → Bool
reads_of id (Asked (step.NextAction target) answer) = same_client target id
reads_of id (Asked (step.NextActionWithin target r) answer) = same_client target id
reads_of id _ = false

module _ {T U C : Type 0} where
  -- nothing is kept of the client, if it is live
  abbrev pub LiveKeepsNone : Seen T U C → Type 0
  LiveKeepsNone s = MatchOption s.part (Unit {0}) (λ p. p.is_killed ≡ false → p.violation ≡ None)

  -- if the client is stored before and after, the same is kept of it
  abbrev pub SameViolation : Seen T U C → Seen T U C → Type 0
  SameViolation s t = (p q : Part T U C) → s.part ≡ Some p → t.part ≡ Some q → q.violation ≡ p.violation

module _ {T U G C : Type 0} where
  -- nothing is kept of any live client
  abbrev pub LiveKeepNone : ServerState T U G C → Type 0
  LiveKeepNone s = (id : ClientParts) → LiveKeepsNone (seen id s)

module _ {T G C : Type 0} (U : Type 0) where
  -- a call that neither reads the client nor inserts it leaves what is kept of it
  abbrev pub ReadingsAloneBreak : World T G C → Type 0
  ReadingsAloneBreak w =
      (id : ClientParts) (before after : ServerState T U G C) (e : Entry T U G C) → OneStep w before e after
      → IsNotInserted id e.call → reads_of id e.call ≡ false → SameViolation (seen id before) (seen id after)
