-- What a command does that is one step, and about no one client.
use Rattle.std.proofs.Common.{ℕ, List}
use Rattle.wl_bench.specs.declared.command.Command.{Command}
use Rattle.wl_bench.specs.declared.command.Command.TheVariants.{Client, Dispatch}
use Rattle.wl_bench.specs.Answers.{Line}
use Rattle.wl_bench.specs.Bench.{BenchState, Does, DoesForAll, IsShared, NamesNone}

pub does_shared : (before : BenchState) (n : ℕ) (command : Command) (out : List Line) (after : BenchState) → IsShared command
    → DoesForAll before command out after → Does before n command out after
does_shared before n (Client slot command) out after is h = absurd is
does_shared before n (Dispatch slots) out after is h = absurd is
does_shared before n _ out after is h = h

-- Such a command names no slot at which no client was inserted.
pub shared_names_one : (before : BenchState) (command : Command) (out : List Line) (after : BenchState) → IsShared command
    → DoesForAll before command out after → NamesNone before command → ⊥
shared_names_one before (Client slot command) out after is does none = is
shared_names_one before (Dispatch slots) out after is does none = is
shared_names_one before _ out after is does none = none
