-- Recordings and their verdicts, computed from the definitions.
use Rattle.std.proofs.Common.{◌≡◌, ◌≢◌, ◌<◌, ◌==◌, ◌∙◌, [], ◌∷◌, List, ℕ, Ok, Err, false, arith, lit≤, lit<, refl, sym, ap, get_or, length, codes}
use Rattle.std.specs.Fmt.{decimal, digits}
use Rattle.std.specs.Str.{IsUtf8}
use Rattle.std.proofs.lemmas.Bool.{eq-eqb, true≢false}
use Rattle.std.proofs.lemmas.Fmt.{decimal_injective}
use Rattle.std.proofs.lemmas.Str.{IsUtf8-from_ascii}
use Rattle.std.proofs.lemmas.Str.Ascii.{IsAscii-from_all}
use Rattle.std.proofs.lemmas.List.Elements.{All-cons, All-nil}
use Rattle.wl_bench.specs.Bench.{BenchState, Does}
use Rattle.wl_replay.specs.Inside.Comparing.{IsWord}
use Rattle.wl_bench.specs.Record.{Leads, Recorded, lines}
use Rattle.wl_replay.specs.Replay.{IsOutput, Replays}
use Rattle.wl_replay.specs.declared.recording.Replayed.TheVariants.{Same, Differs}
use Rattle.wl_bench.specs.declared.stop.Stop.TheVariants.{BadLine}
use Rattle.wl_replay.proofs.Recordings.{no_space, number_word, same_cut}
use Rattle.wl_bench.specs.declared.command.Command.TheVariants.{Insert}

-- nothing was recorded
row_nothing : (b : BenchState) → Replays b (lines []) (Ok (Same 0))
row_nothing b = ([], b, (refl, tt, refl), refl)

-- the line `1 client`, in a bench where it prints `client 0 1`
abbrev inserted : Recorded
inserted = record { number = 1; line = codes "client"; answer = codes "client 0 1" ∷ [] }

abbrev Prints : BenchState → BenchState → Type 0
Prints b after = Does b 1 Insert (codes "client 0 1" ∷ []) after

is_text : IsUtf8 (codes "client")
is_text = IsUtf8-from_ascii (codes "client") (IsAscii-from_all (codes "client")
    (All-cons (λ b. b < 128) 99 (codes "lient") (lit< tt)
    (All-cons (λ b. b < 128) 108 (codes "ient") (lit< tt)
    (All-cons (λ b. b < 128) 105 (codes "ent") (lit< tt)
    (All-cons (λ b. b < 128) 101 (codes "nt") (lit< tt)
    (All-cons (λ b. b < 128) 110 (codes "t") (lit< tt)
    (All-cons (λ b. b < 128) 116 [] (lit< tt) (All-nil (λ b. b < 128)))))))))

leads : (b after : BenchState) → Prints b after → Leads b (inserted ∷ []) after
leads b after does = (Insert, (is_text, refl), after, does, refl)

row_same : (b after : BenchState) → Prints b after → Replays b (codes "1 client" ∷ codes "> client 0 1" ∷ []) (Ok (Same 1))
unfolding digits
row_same b after does = (inserted ∷ [], after, (refl, (lit< tt, lit≤ tt, tt), leads b after does), refl)

-- another line of output, the second of the recording
row_other_output : (b after : BenchState) → Prints b after → Replays b (codes "1 client" ∷ codes "> client 0 2" ∷ []) (Ok (Differs 2))
unfolding digits
row_other_output b after does = (
  codes "1 client" ∷ [],
  codes "> client 0 2" ∷ [],
  inserted ∷ [],
  codes "client 0 1" ∷ [],
  after,
  refl,
  refl,
  (refl, (lit< tt, lit≤ tt, tt), leads b after does),
  λ (e : codes "> client 0 2" ≡ codes "> client 0 1"). let n = ap (λ (l : List ℕ). get_or l 11 0) e in omega (arith, n),
)

-- output is missing at the end, which is one behind the last line
row_missing_output : (b after : BenchState) → Prints b after → Replays b (codes "1 client" ∷ []) (Ok (Differs 2))
unfolding digits
row_missing_output b after does = (
  codes "1 client" ∷ [],
  [],
  inserted ∷ [],
  codes "client 0 1" ∷ [],
  after,
  refl,
  refl,
  (refl, (lit< tt, lit≤ tt, tt), leads b after does),
  λ (e : codes "client 0 1" ∷ [] ≡ []). let n = ap length e in omega (arith, n),
)

-- output of no command
row_output_first : (b : BenchState) → Replays b (codes "> ok" ∷ []) (Ok (Differs 1))
row_output_first b = ([], codes "> ok" ∷ [], [], [], b, refl, refl, (refl, tt, refl), (codes "ok", refl))

not_output : (line : List ℕ) → get_or line 0 0 ≢ 62 → ¬ (IsOutput line)
not_output line other is = other (ap (λ (l : List ℕ). get_or l 0 0) is.1)

-- a command without a number
row_bad : (b : BenchState) → Replays b (codes "client" ∷ []) (Err (BadLine 1))
row_bad b = (
  [],
  [],
  codes "client",
  [],
  b,
  refl,
  refl,
  (refl, tt, refl),
  not_output (codes "client") (λ e. omega (arith, e)),
  λ n more few text same command is. absurd (no_space (codes "client") (decimal n) text word same),
)
  where
    apart : (n : ℕ) → (n == 32) ≡ false → n ≢ 32
    apart n other e = true≢false (sym (eq-eqb n 32 e) ∙ other)

    word : IsWord (codes "client")
    word = All-cons (λ (n : ℕ). n ≢ 32) 99 (codes "lient") (apart 99 refl)
        (All-cons (λ (n : ℕ). n ≢ 32) 108 (codes "ient") (apart 108 refl)
        (All-cons (λ (n : ℕ). n ≢ 32) 105 (codes "ent") (apart 105 refl)
        (All-cons (λ (n : ℕ). n ≢ 32) 101 (codes "nt") (apart 101 refl)
        (All-cons (λ (n : ℕ). n ≢ 32) 110 (codes "t") (apart 110 refl)
        (All-cons (λ (n : ℕ). n ≢ 32) 116 [] (apart 116 refl) (All-nil (λ (n : ℕ). n ≢ 32)))))))

-- a number that is not greater than the one before
row_same_number : (b after : BenchState) → Prints b after
    → Replays b (codes "1 client" ∷ codes "> client 0 1" ∷ codes "1 notes" ∷ []) (Err (BadLine 3))
unfolding digits
row_same_number b after does = (
  codes "1 client" ∷ codes "> client 0 1" ∷ [],
  [],
  codes "1 notes",
  inserted ∷ [],
  after,
  refl,
  refl,
  (refl, (lit< tt, lit≤ tt, tt), leads b after does),
  not_output (codes "1 notes") (λ e. omega (arith, e)),
  λ n more few text same command is.
      let cut = same_cut (decimal 1) (decimal n) (codes "notes") text (number_word 1 (lit≤ tt)) (number_word n few) same in
      let one = decimal_injective 1 n (lit< tt) (omega (arith, few)) cut.0 in
      absurd (omega (arith, more, one)),
)
