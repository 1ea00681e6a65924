-- That a replay says "same" of what was recorded of the same commands.
use Rattle.std.proofs.Common.{◌≡◌, ◌≢◌, ◌∙◌, ℕ, suc, ◌+◌, ◌<◌, ◌≤◌, List, [], ◌∷◌, ◌++◌, length, length-append, Some, Result, Ok, Err, refl, sym, ap, subst, arith}
use Rattle.std.specs.List.{All}
use Rattle.std.proofs.lemmas.List.{append_cancel_left}
use Rattle.wl_bench.specs.declared.commands.Form.TheVariants as form
use Rattle.wl_bench.specs.declared.stop.Stop.{Stop}
use Rattle.wl_bench.specs.declared.stop.Stop.TheVariants.{BadLine, Failed, Usage, Differs}
use Rattle.wl_bench.specs.Answers.{Line}
use Rattle.wl_bench.specs.Bench.{BenchState}
use Rattle.wl_bench.specs.OneLine.{PrintsLines}
use Rattle.wl_bench.specs.OneOutcome.{OfSameLines}
use Rattle.wl_bench.specs.Record.{AreOf, Leads, Recorded, Runs, lines, recording_of, text_of}
use Rattle.wl_bench.proofs.Feeds.{AllUnfed, LinesUnfed, Unfed, lines_text, lines_unfed, recording_unfed}
use Rattle.wl_replay.specs.declared.recording.Replayed.{Replayed}
use Rattle.wl_replay.specs.declared.recording.Replayed.TheVariants as replayed
use Rattle.wl_replay.specs.OneVerdict.{ComparesWith, DifferAtOnce, IsSameRecord}
use Rattle.wl_replay.specs.Replay.{Ascend, Replays}
use Rattle.wl_replay.proofs.Compared.{compares}

-- ---- the commands of lines

rises : (last n : ℕ) (all : List Line) (told : List Recorded) → last < n → n + length all ≤ 4294967296 → AreOf n all told → Ascend last told
rises last n [] [] low few are = tt
rises last n [] (t ∷ told) low few are = absurd are
rises last n ([] ∷ rest) told low few are = rises last (suc n) rest told (omega (arith, low)) (omega (arith, few)) are
rises last n ((b ∷ line) ∷ rest) [] low few are = absurd are
rises last n ((b ∷ line) ∷ rest) (t ∷ told) low few are =
    let number = are.0 in
    (omega (arith, low, number), omega (arith, few, number), rises t.number (suc n) rest told (omega (arith, number)) (omega (arith, few)) are.2)

unfed : (n : ℕ) (all : List Line) (told : List Recorded) → AllUnfed all → AreOf n all told → LinesUnfed told
unfed n [] [] plain are = tt
unfed n [] (t ∷ told) plain are = absurd are
unfed n ([] ∷ rest) told plain are = unfed (suc n) rest told plain.1 are
unfed n ((b ∷ line) ∷ rest) [] plain are = absurd are
unfed n ((b ∷ line) ∷ rest) (t ∷ told) plain are = (subst Unfed (sym are.1) plain.0, unfed (suc n) rest told plain.1 are.2)

-- what is said of lines is said of those at the front
unfed_front : (front rest : List Line) → AllUnfed (front ++ rest) → AllUnfed front
unfed_front [] rest plain = tt
unfed_front (line ∷ front) rest plain = (plain.0, unfed_front front rest plain.1)

-- ---- the verdict

as_itself : (told : List Recorded) → OfSameLines told told
as_itself [] = tt
as_itself (t ∷ told) = (refl, refl, as_itself told)

not_at_once : (rest : List Line) → ¬ (DifferAtOnce rest rest)
not_at_once [] differ = differ
not_at_once (line ∷ rest) differ = differ refl

same_verdict : (told : List Recorded) (verdict : Result Replayed Stop) → verdict ≢ Err Failed → ComparesWith (recording_of told) told verdict
    → verdict ≡ Ok (replayed.Same (length told))
same_verdict told (Ok (replayed.Same count)) worked compared = ap (λ (n : ℕ). let r : Result Replayed Stop = Ok (replayed.Same n) in r) compared.1
same_verdict told (Ok (replayed.Differs place)) worked (front, rest, others, is, is', place_is, differ) =
    let same : rest ≡ others = append_cancel_left front rest others (sym is ∙ is') in
    absurd (not_at_once rest (subst (λ (l : List Line). DifferAtOnce rest l) (sym same) differ))
same_verdict told (Err (BadLine place)) worked compared = absurd compared
same_verdict told (Err Failed) worked compared = absurd (worked refl)
same_verdict told (Err Usage) worked compared = absurd compared
same_verdict told (Err Differs) worked compared = absurd compared

-- what commands print from here on is lines
abbrev pub PrintLines : BenchState → Type 0
PrintLines b = (told : List Recorded) (x : BenchState) → Leads b told x → All PrintsLines told

-- the text of what these lines recorded
recorded : (b x : BenchState) (all : List Line) (told : List Recorded) (text : List ℕ) (verdict : Result Replayed Stop) → PrintLines b → AllUnfed all
    → length all ≤ 4294967295 → AreOf 1 all told → Leads b told x → text ≡ text_of (recording_of told) → verdict ≢ Err Failed → Replays b (lines text) verdict
    → IsSameRecord text verdict
recorded b x all told text verdict prints plain few are leads is worked replays =
    let whole : lines text ≡ recording_of told
    = ap lines is ∙ lines_text (recording_of told) (recording_unfed told (prints told x leads) (unfed 1 all told plain are)) in
    let compared = compares b x told told (as_itself told) (rises 0 1 all told (omega arith) (omega (arith, few)) are) leads verdict
    (subst (λ (l : List Line). Replays b l verdict) whole replays) in
    (told, is, same_verdict told verdict worked compared)

pub same_again : (b : BenchState) (input text : List ℕ) (ended : Result (Unit {0}) Stop) (verdict : Result Replayed Stop) → PrintLines b
    → length (lines input) ≤ 4294967295 → ended ≢ Err Failed → Runs form.Record 1 b (lines input) ended (Some []) (Some text) → verdict ≢ Err Failed
    → Replays b (lines text) verdict → IsSameRecord text verdict
same_again b input text (Ok u) verdict prints few ran (told, x, are, leads, appends) worked replays =
    recorded b x (lines input) told text verdict prints (lines_unfed input) few are leads appends worked replays
same_again b input text (Err (BadLine m)) verdict prints few ran (front, rest, line, told, x, is, m_is, are, leads, bad, appends) worked replays =
    let long = ap length is ∙ length-append front (line ∷ rest) in
    recorded b x front told text verdict prints
    (unfed_front front (line ∷ rest) (subst AllUnfed is (lines_unfed input))) (omega (arith, few, long)) are leads appends worked replays
same_again b input text (Err Failed) verdict prints few ran runs worked replays = absurd (ran refl)
same_again b input text (Err Usage) verdict prints few ran runs worked replays = absurd runs
same_again b input text (Err Differs) verdict prints few ran runs worked replays = absurd runs
