-- How often calls receive from a client.
--
-- Only readings of a client receive from it, and each at most as often as it may. A dispatch goes on with one reading of a
-- client from action to action. So it receives from the client at most 64 times, whatever its handler calls.
use Rattle.std.specs.Prelude.{◌≡◌, ℕ, ◌+◌, ◌≤◌, List, [], ◌∷◌, ◌++◌, length, MatchBool}
use Rattle.wl_server_model.specs.declared.step.Reply.TheVariants as reply
use Rattle.wl_server_model.specs.declared.step.Step.TheVariants as step
use Rattle.wl_server_client.specs.Deeds.{Deed, came_in}
use Rattle.wl_server_client.specs.Ids.{ClientParts, same_client}
use Rattle.wl_server_model.specs.PartStep.{Asked, Call}
use Rattle.wl_server_model.specs.Steps.{Entry}

-- how many receives are among these deeds
abbrev pub receives_in : {U : Type 0} → List (Deed U) → ℕ
receives_in did = length (came_in did)

module _ {T U G C : Type 0} where
  -- A call may receive n times from this client. A reading that can be continued then has at least n receives fewer left,
  -- and a call that does not read this client receives nothing from it.
  abbrev pub KeepsTo : ClientParts → Call T U G C → ℕ → Type 0
  KeepsTo id (Asked (step.NextAction target) answer) n = MatchBool (same_client target id) (n ≤ 64) (n ≡ 0)
  KeepsTo id (Asked (step.NextActionWithin target reading) (reply.NextActionWithin answer left)) n =
      MatchBool (same_client target id) (n + left.turns_left ≤ reading.turns_left) (n ≡ 0)
  KeepsTo id _ n = n ≡ 0

  -- so it is with each client
  abbrev pub EachIsBounded : Entry T U G C → Type 0
  EachIsBounded e = (id : ClientParts) → KeepsTo id e.call (receives_in (e.did id))

  -- how many receives a run makes from this client
  abbrev pub receives_over : ClientParts → List (Entry T U G C) → ℕ
  receives_over id [] = 0
  receives_over id (e ∷ run) = receives_in (e.did id) + receives_over id run

  -- The run has one part for each of these clients, in order, and each part receives from its client at most 64 times.
  abbrev pub EachPartIsBounded : List ClientParts → List (Entry T U G C) → Type 0
  EachPartIsBounded [] run = run ≡ []
  EachPartIsBounded (id ∷ ids) run =
      (first : List (Entry T U G C)) × (rest : List (Entry T U G C)) × (run ≡ first ++ rest) × (receives_over id first ≤ 64) × EachPartIsBounded ids rest
