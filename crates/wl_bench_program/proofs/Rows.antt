-- What the program does, computed from the definitions.
use Rattle.std.proofs.Common.{◌≡◌, [], ◌∷◌, ◌++◌, Ok, Err, arith, refl, ap, length, codes}
use Rattle.std.specs.Fmt.{digits}
use Rattle.wl_bench.specs.declared.stop.Stop.TheVariants.{BadLine, Failed, Usage}
use Rattle.wl_replay.specs.declared.recording.Replayed.TheVariants.{Same}
use Rattle.wl_replay.specs.declared.recording.Replayed.TheVariants as replayed
use Rattle.wl_bench_program.specs.Program.{Asks, end_of, exchange, status_of, told_of}
use Rattle.wl_bench_program.specs.declared.arguments.Program.TheVariants.{Sync, Record}

-- the first exchange, as the page of the language has it
row_exchange : exchange ≡ codes "01 00 00 00 00 00 0c 00 02 00 00 00" ++ 10 ∷ codes "02 00 00 00 00 00 0c 00 00 00 00 00 01 00 00 00 01 00 0c 00 02 00 00 00" ++ 10 ∷ []
row_exchange = refl

-- `wl-bench record`
row_record : Asks (codes "wl-bench" ∷ codes "record" ∷ []) (Ok Record)
row_record = (codes "wl-bench", codes "record", refl, refl)

row_sync : Asks (codes "wl-bench" ∷ codes "sync" ∷ []) (Ok Sync)
row_sync = (codes "wl-bench", codes "sync", refl, refl)

-- no word, and one too many
row_no_word : Asks (codes "wl-bench" ∷ []) (Err Usage)
row_no_word asked (name, word, same, names) = let n = ap length same in omega (arith, n)

row_two_words : Asks (codes "wl-bench" ∷ codes "run" ∷ codes "run" ∷ []) (Err Usage)
row_two_words asked (name, word, same, names) = let n = ap length same in omega (arith, n)

-- a recording that is the same, and one that differs
row_same : status_of (end_of (Same 7)) ≡ 0
row_same = refl

row_differs : status_of (end_of (replayed.Differs 7)) ≡ 1
row_differs = refl

row_bad : told_of (Err (BadLine 12)) ≡ codes "line 12: bad command" ++ 10 ∷ []
unfolding digits
row_bad = refl

row_bad_status : status_of (Err (BadLine 12)) ≡ 2
row_bad_status = refl

row_usage : told_of (Err Usage) ≡ codes "usage: wl-bench sync | run | record | replay" ++ 10 ∷ []
row_usage = refl

row_failed : told_of (Err Failed) ≡ codes "failed" ++ 10 ∷ []
row_failed = refl
