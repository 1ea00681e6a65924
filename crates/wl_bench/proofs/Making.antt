-- Runs of steps that a command makes.
use Rattle.std.proofs.Common.{◌≡◌, List, [], ◌∷◌, ◌++◌, length, map, refl, sym, ap, subst, arith, append_assoc, append-nil, length-append, false, Result, Ok, Err, Vec, Global}
use Rattle.std.specs.Prelude.{IfOk}
use Rattle.wl_link.specs.Runs.{RunEntry, entries}
use Rattle.wl_server_client.specs.Ids.{ClientParts}
use Rattle.wl_server_model.specs.Runs.{Performs}
use Rattle.wl_bench.specs.Bench.{BenchReply, BenchServer, BenchStep, Replies, bench_world, take_step}

-- runs behind one another
joins : (start mid after : BenchServer) (run others : List (RunEntry BenchStep BenchReply)) → Performs bench_world start run mid
    → Performs bench_world mid others after → Performs bench_world start (run ++ others) after
joins start mid after [] others same leads = subst (λ (s : BenchServer). Performs bench_world s others after) same leads
joins start mid after (e ∷ run) others (next, first, rest) leads = (next, first, joins next mid after run others rest leads)

-- one call, and the records that are taken behind it
pub made : (before after : BenchServer) (steps : List BenchStep) (step : BenchStep) (heard : List ClientParts) (replies : List BenchReply)
    → steps ≡ step ∷ map take_step heard → length replies ≡ length steps → length (map take_step heard) ≡ length heard
    → Performs bench_world before (entries steps replies) after → Replies before (step ∷ []) heard replies after
made before after steps step heard [] same count all run = let n = ap length same in absurd (omega (arith, n, count))
made before after steps step heard (a ∷ taken) same count all run =
    let n = ap length same in
    let last = subst (λ (s : List BenchStep). Performs bench_world before (entries s (a ∷ taken)) after) same run in
    (a, taken, refl, ([], refl, omega (arith, n, count, all), last))

entries_append : (xs us : List BenchStep) (ys vs : List BenchReply) → length xs ≡ length ys
    → entries (xs ++ us) (ys ++ vs) ≡ entries xs ys ++ entries us vs
entries_append [] us [] vs e = refl
entries_append [] us (y ∷ ys) vs e = absurd (omega (arith, e))
entries_append (x ∷ xs) us [] vs e = absurd (omega (arith, e))
entries_append (x ∷ xs) us (y ∷ ys) vs e =
    ap (λ (l : List (RunEntry BenchStep BenchReply)). record { step = x; answer = y; refused = false } ∷ l) (entries_append xs us ys vs (omega (arith, e)))

-- the calls so far, with their replies
abbrev pub MadeSoFar : BenchServer → List BenchStep → BenchServer → Type 0
MadeSoFar before calls now =
    (earlier : List BenchReply) × (length calls ≡ length earlier) × Performs bench_world before (entries calls earlier) now

pub none_made : (s : BenchServer) → MadeSoFar s [] s
none_made s = ([], refl, refl)

-- the calls so far, and one more with the records behind it
pub one_more : (before mid after : BenchServer) (calls : List BenchStep) (step : BenchStep) (heard : List ClientParts) (replies : List BenchReply)
    → MadeSoFar before calls mid → Replies mid (step ∷ []) heard replies after → Replies before (calls ++ step ∷ []) heard replies after
one_more before mid after calls step heard replies (earlier, same, run) (a, taken, is, ([], few, count, last)) =
    let whole = joins before mid after (entries calls earlier) (entries (step ∷ map take_step heard) (a ∷ taken)) run last in
    let joined = sym (entries_append calls (step ∷ map take_step heard) earlier (a ∷ taken) same) in
    let left = sym (append_assoc calls (step ∷ []) (map take_step heard)) in
    let all = subst (λ (s : List BenchStep). Performs bench_world before (entries s (earlier ++ a ∷ taken)) after) left
    (subst (λ (es : List (RunEntry BenchStep BenchReply)). Performs bench_world before es after) joined whole) in
    let size = length-append calls (step ∷ []) in
    (a, taken, is, (earlier, omega (arith, size, same), count, all))
one_more before mid after calls step heard replies (earlier, same, run) (a, taken, is, ((e ∷ es), few, count, last)) = absurd (omega (arith, few))

no_taken : (taken : List BenchReply) → length taken ≡ 0 → taken ≡ []
no_taken [] e = refl
no_taken (t ∷ taken) e = absurd (omega (arith, e))

-- so the calls so far are one more
pub next_made : (before mid after : BenchServer) (calls : List BenchStep) (step : BenchStep) (replies : List BenchReply)
    → MadeSoFar before calls mid → Replies mid (step ∷ []) [] replies after → MadeSoFar before (calls ++ step ∷ []) after
next_made before mid after calls step replies so_far one = at (one_more before mid after calls step [] replies so_far one)
  where
    at : Replies before (calls ++ step ∷ []) [] replies after → MadeSoFar before (calls ++ step ∷ []) after
    at (a, taken, is, (earlier, same, none, run)) =
        let empty = no_taken taken none in
        let all : (calls ++ step ∷ []) ++ [] ≡ calls ++ step ∷ [] = append-nil (calls ++ step ∷ []) in
        let size = length-append earlier (a ∷ []) in
        let ran = subst (λ (s : List BenchStep). Performs bench_world before (entries s (earlier ++ a ∷ [])) after) all
        (subst (λ (t : List BenchReply). Performs bench_world before (entries ((calls ++ step ∷ []) ++ []) (earlier ++ a ∷ t)) after) empty run) in
        (earlier ++ a ∷ [], omega (arith, size, same), ran)

-- what the last call and the records behind it make of those before
pub last_made : {E : Type 0} (before mid after : BenchServer) (calls all : List BenchStep) (step : BenchStep) (heard : List ClientParts)
    (r : Result (Vec BenchReply Global) E) → MadeSoFar before calls mid → calls ++ step ∷ [] ≡ all
    → IfOk r (λ replies. Replies mid (step ∷ []) heard replies.items after) → IfOk r (λ replies. Replies before all heard replies.items after)
last_made before mid after calls all step heard (Ok replies) so_far same one =
    subst (λ (s : List BenchStep). Replies before s heard replies.items after) same (one_more before mid after calls step heard replies.items so_far one)
last_made before mid after calls all step heard (Err e) so_far same one = tt
