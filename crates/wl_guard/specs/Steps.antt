-- What a step of the guard does with the message at the front, and what all of them do.
use Rattle.std.specs.Prelude.{◌≡◌, ◌<◌, IsErr, List, ◌++◌, length, Option, None, Some, Result, Ok, Err}
use Rattle.wl_wire.specs.declared.argument.Token.{Token}
use Rattle.wl_wire.specs.declared.error.OutOfMemory.{OutOfMemory}
use Rattle.wl_link.specs.Exchange.{Queue, joined}
use Rattle.wl_follow.specs.declared.front.NoMessage.{NoMessage}
use Rattle.wl_follow.specs.declared.front.NoMessage.TheVariants as none
use Rattle.wl_follow.specs.declared.side.Side.{Side}
use Rattle.wl_guard.specs.Known.{Known}
use Rattle.wl_guard.specs.Passages.{Awaits, Breaks, IsPassed, Passage, Passes, all_released, all_sent}
use Rattle.wl_guard.specs.Policy.{PolicyState}
use Rattle.wl_guard.specs.declared.session.Passed.{Passed}
use Rattle.wl_guard.specs.declared.session.Passed.TheVariants as passed
use Rattle.wl_guard.specs.declared.session.Rule.{Rule}
use Rattle.wl_guard.specs.declared.session.Rule.TheVariants as rule

-- nothing was taken, sent or given back
abbrev pub Stays : Queue → Queue → List Token → Queue → Queue → List Token → Type 0
Stays q out released q' out' released' = (q' ≡ q) × (out' ≡ out) × (released' ≡ released)

-- The first message was passed; or it awaits more; or it breaks a rule, and makes no object; or there was no memory.
abbrev pub StepsAs : PolicyState → Side → Known → Queue → Queue → List Token → Result Passed OutOfMemory → Known → Queue → Queue → List Token → Type 0
StepsAs p side k q out released (Ok passed.One) k' q' out' released' =
    ((x : Passage) × IsPassed p side k q x k' q' × (out' ≡ joined out x.sent) × (released' ≡ released ++ x.released))
    × (length q'.bytes < length q.bytes)
StepsAs p side k q out released (Ok passed.Nothing) k' q' out' released' = (k' ≡ k) × Stays q out released q' out' released' × Awaits p side k q
StepsAs p side k q out released (Ok (passed.Breach r)) k' q' out' released' =
    Stays q out released q' out' released' × (k'.objects ≡ k.objects) × Breaks p side k q r
StepsAs p side k q out released (Err _) k' q' out' released' = Stays q out released q' out' released'

-- what it means that no message was read
abbrev pub UnreadAs : NoMessage → Result Passed OutOfMemory → Type 0
UnreadAs (none.Unknown sender opcode) answer = answer ≡ Ok (passed.Breach rule.Unknown)
UnreadAs none.Incomplete answer = answer ≡ Ok passed.Nothing
UnreadAs none.Malformed answer = answer ≡ Ok (passed.Breach rule.Malformed)
UnreadAs none.OutOfMemory answer = IsErr answer

-- these messages were passed
pub record HasPassed (p : PolicyState) (side : Side) (k : Known) (q out : Queue) (released : List Token) (k' : Known) (rest out' : Queue) (released' : List Token) : Type 0 where
  pub passages : List Passage
  pub passes : Passes p side k q passages k' rest
  pub out_is : out' ≡ joined out (all_sent passages)
  pub released_is : released' ≡ released ++ all_released passages

-- why no more was: more is awaited; or a rule was broken; or there was no memory
abbrev pub StopsAs : PolicyState → Side → Known → Queue → Result (Option Rule) OutOfMemory → Known → Type 0
StopsAs p side k q (Ok None) k' = (k' ≡ k) × Awaits p side k q
StopsAs p side k q (Ok (Some r)) k' = (k'.objects ≡ k.objects) × Breaks p side k q r
StopsAs p side k q (Err _) k' = Unit {0}

-- The messages of what a side sent were passed, up to one that is not: of that and of what follows it, nothing is sent nor given back.
abbrev pub PassesUpTo : PolicyState → Side → Known → Queue → Queue → List Token → Result (Option Rule) OutOfMemory → Known → Queue → Queue → List Token → Type 0
PassesUpTo p side k q out released answer k' rest out' released' =
    (last : Known) × HasPassed p side k q out released last rest out' released' × StopsAs p side last rest answer k'
