-- A replay that failed.
use Rattle.std.proofs.Common.{List, ℕ, Option, None, Some, Err, refl}
use Rattle.std.specs.Prelude.{IfSome, ⊤}
use Rattle.wl_bench.specs.declared.stop.Stop.TheVariants.{Failed}
use Rattle.wl_bench_program.specs.Program.{Does}
use Rattle.wl_bench_program.specs.declared.arguments.Program.TheVariants.{Replay}

nothing : (input : Option (List ℕ)) → IfSome input (λ bytes. ⊤)
nothing None = tt
nothing (Some bytes) = tt

-- of a replay that failed nothing is said, whatever was to be read
pub replay_failed : (input held held' : Option (List ℕ)) → Does Replay input (Err Failed) held held'
replay_failed input held held' = (Err Failed, nothing input, refl)
