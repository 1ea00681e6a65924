use Rattle.std.proofs.Common.{ℕ, List, map, Bor}
use Rattle.std.specs.List.{AllZip}
use Rattle.wl_relay.specs.Words.{IsNumber}
use Rattle.wl_relay.proofs.words.numbers.Given as goal

-- each part so far is its number
abbrev pub invariant-loop-part : goal.invariant-loop-part
invariant-loop-part l = AllZip IsNumber l.found.items (map (λ (part : Bor (List ℕ)). part.now) l.yielded)
