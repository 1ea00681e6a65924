use Rattle.std.proofs.Common.{◌<◌, ℕ, List, length, map, Bor, arith}
use Rattle.std.proofs.lemmas.List.{length-map}
use Rattle.wl_bench.proofs.Lines.{many_words}
use Rattle.wl_bench.proofs.command.command_of.Goals as goal

pub returns-in_default : goal.returns-in_default
returns-in_default c =
    let ws = map (λ (w : Bor (List ℕ)). w.now) c.args.words.now in
    let long : 4 < length ws = simp length-map (omega (arith, c.in_default.len_at_least)) in
    many_words ws long
