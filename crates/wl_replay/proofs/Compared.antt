-- That a recording is compared with what its commands print today.
use Rattle.std.proofs.Common.{◌≡◌, ◌≢◌, ◌∙◌, ℕ, zero, suc, ◌<◌, ◌≤◌, Bool, true, List, [], ◌∷◌, ◌++◌, length, map, get_or, append_assoc, append-nil, None, Some, is_some, Result, Ok, Err, refl, sym, ap, subst, arith, true≢false}
use Rattle.std.specs.Prelude.{⊤, ◌⊎◌, option_map}
use Rattle.std.specs.Fmt.{decimal}
use Rattle.std.proofs.lemmas.Fmt.{decimal_injective, decimal_nonempty, digits_decimal}
use Rattle.std.proofs.lemmas.Grind.{flat_map-append}
use Rattle.std.proofs.lemmas.Str.Parse.{digit_at}
use mathlib.Core.Logic.{inl, inr}
use Rattle.wl_server_client.specs.Ids.{ClientParts}
use Rattle.wl_bench.specs.declared.command.Command.{Command}
use Rattle.wl_bench.specs.declared.command.Command.TheVariants.{Insert, Client, Dispatch, Create, Disable, Remove, Flush, Cleanup, Notes}
use Rattle.wl_bench.specs.declared.stop.Stop.{Stop}
use Rattle.wl_bench.specs.declared.stop.Stop.TheVariants.{BadLine, Failed, Usage, Differs}
use Rattle.wl_bench.specs.Answers.{Line}
use Rattle.wl_bench.specs.Bench.{BenchState, Does, NamesNone, client_at, client_of, latest}
use Rattle.wl_bench.specs.OneOutcome.{LookSame, OfSameLines}
use Rattle.wl_bench.specs.Record.{Leads, Recorded, command_line, quoted, record_of, recording_of}
use Rattle.wl_bench.proofs.Numbers.{own}
use Rattle.wl_bench.proofs.SameRecords.{all_settled, records_one}
use Rattle.wl_replay.specs.declared.recording.Replayed.{Replayed}
use Rattle.wl_replay.specs.declared.recording.Replayed.TheVariants as replayed
use Rattle.wl_replay.specs.OneVerdict.{ComparesWith, DifferAtOnce}
use Rattle.wl_replay.specs.Replay.{Ascend, GoesOff, IsNoCommand, IsOutput, IsRecord, Replays, last_number}
use Rattle.wl_replay.proofs.Recordings.{number_word, same_cut}

-- ---- lines of commands and of output

-- a number begins with a digit, and output does not
no_mark : (n : ℕ) (text : List ℕ) (output : Line) → n ≤ 4294967295 → quoted output ≢ decimal n ++ 32 ∷ text
no_mark n text output few same =
    let all = digits_decimal own n (omega (arith, few)) in
    let some = decimal_nonempty n (omega (arith, few)) in
    let range = digit_at (decimal n) 0 all some in
    at (decimal n) some range.1 same
  where
    at : (word : List ℕ) → 0 < length word → get_or word 0 0 ≤ 57 → quoted output ≢ word ++ 32 ∷ text
    at [] some low same = omega (arith, some)
    at (d ∷ word) some low same = let first : 62 ≡ d = ap (λ (l : List ℕ). get_or l 0 0) same in omega (arith, first, low)

not_output : (t : Recorded) (output : Line) → t.number ≤ 4294967295 → quoted output ≢ command_line t
not_output t output few = no_mark t.number t.line output few

same_command : (t u : Recorded) → t.number ≤ 4294967295 → u.number ≤ 4294967295 → command_line t ≡ command_line u → (t.number ≡ u.number) × (t.line ≡ u.line)
same_command t u few few' same =
    let cut = same_cut (decimal t.number) (decimal u.number) t.line u.line (number_word t.number few) (number_word u.number few') same in
    (decimal_injective t.number u.number (omega (arith, few)) (omega (arith, few')) cut.0, cut.1)

same_quoted : (a b : Line) → quoted a ≡ quoted b → a ≡ b
same_quoted a b same = cc

-- no line among output is that of a command
no_command : (before missing : List Line) (t : Recorded) (rest : List Line) → t.number ≤ 4294967295 → map quoted missing ≢ before ++ command_line t ∷ rest
no_command [] [] t rest few same = let n = ap length same in omega (arith, n)
no_command [] (output ∷ missing) t rest few same =
    let first : quoted output ≡ command_line t = cc in not_output t output few first
no_command (line ∷ before) [] t rest few same = let n = ap length same in omega (arith, n)
no_command (line ∷ before) (output ∷ missing) t rest few same =
    let tail : map quoted missing ≡ before ++ command_line t ∷ rest = cc in no_command before missing t rest few tail

-- ---- lists

-- two ways to cut a list
cuts : (xs rest front others : List Line) → xs ++ rest ≡ front ++ others
    → ((f : List Line) × (front ≡ xs ++ f) × (rest ≡ f ++ others)) ⊎ ((a : List Line) × (xs ≡ front ++ a) × (a ++ rest ≡ others))
cuts [] rest front others same = inl (front, refl, same)
cuts (x ∷ xs) rest [] others same = inr (x ∷ xs, refl, same)
cuts (x ∷ xs) rest (y ∷ front) others same = at (cuts xs rest front others tail)
  where
    first : x ≡ y
    first = cc

    tail : xs ++ rest ≡ front ++ others
    tail = cc

    at : ((f : List Line) × (front ≡ xs ++ f) × (rest ≡ f ++ others)) ⊎ ((a : List Line) × (xs ≡ front ++ a) × (a ++ rest ≡ others))
        → ((f : List Line) × (y ∷ front ≡ x ∷ (xs ++ f)) × (rest ≡ f ++ others)) ⊎ ((a : List Line) × (x ∷ xs ≡ y ∷ (front ++ a)) × (a ++ rest ≡ others))
    at (inl (f, is, left)) = inl (f, cc, left)
    at (inr (a, is, left)) = inr (a, cc, left)

-- the lines have ended, or the first is no output
abbrev IsPlainStart : List Line → Type 0
IsPlainStart [] = ⊤
IsPlainStart (line ∷ rest) = ¬ (IsOutput line)

no_output_first : (output : Line) (xs rest : List Line) → IsPlainStart rest → quoted output ∷ xs ≢ rest
no_output_first output xs [] plain same = let n = ap length same in omega (arith, n)
no_output_first output xs (line ∷ rest) plain same = let first : line ≡ quoted output = cc in plain (output, first)

-- output ends where lines go on that are none
segments : (xs ys cs rest : List Line) → IsPlainStart cs → IsPlainStart rest → map quoted xs ++ cs ≡ map quoted ys ++ rest → (xs ≡ ys) × (cs ≡ rest)
segments [] [] cs rest plain plain' same = (refl, same)
segments [] (y ∷ ys) cs rest plain plain' same = absurd (no_output_first y (map quoted ys ++ rest) cs plain (sym same))
segments (x ∷ xs) [] cs rest plain plain' same = absurd (no_output_first x (map quoted xs ++ cs) rest plain' same)
segments (x ∷ xs) (y ∷ ys) cs rest plain plain' same =
    let first : quoted x ≡ quoted y = cc in
    let tail : map quoted xs ++ cs ≡ map quoted ys ++ rest = cc in
    let here = same_quoted x y first in
    let more = segments xs ys cs rest plain plain' tail in
    let others = more.0 in
    (cc, more.1)

-- ---- commands under rising numbers

recording_starts : (last : ℕ) (told : List Recorded) → Ascend last told → IsPlainStart (recording_of told)
recording_starts last [] up = tt
recording_starts last (t ∷ told) up = λ (out : IsOutput (command_line t)). not_output t out.0 up.1 (sym out.1)

-- what comes behind commands has a greater number
next_number : (last : ℕ) (told : List Recorded) (t : Recorded) (later : List Recorded) → Ascend last (told ++ t ∷ later)
    → (last_number last told < t.number) × (t.number ≤ 4294967295)
next_number last [] t later up = (up.0, up.1)
next_number last (u ∷ told) t later up = next_number u.number told t later up.2

-- the claimed commands have the same numbers
ascend_as : (last : ℕ) (claimed told : List Recorded) → OfSameLines claimed told → Ascend last told → Ascend last claimed
ascend_as last [] [] same up = tt
ascend_as last [] (t ∷ told) same up = absurd same
ascend_as last (c ∷ claimed) [] same up = absurd same
ascend_as last (c ∷ claimed) (t ∷ told) same up =
    let n = same.0 in (
      omega (arith, n, up.0),
      omega (arith, n, up.1),
      ascend_as c.number claimed told same.2 (subst (λ (m : ℕ). Ascend m told) (sym n) up.2),
    )

-- ---- a replay of commands that were carried out

-- where a replay that was the same up to the end of these lines stands among the commands that were carried out
record Stands (x y : BenchState) (claimed told run : List Recorded) (missing rest : List Line) : Type 0 where
  later : List Recorded
  mid : BenchState
  are : told ≡ run ++ later
  look : LookSame true mid y
  leads : Leads mid later x
  left : missing ≡ [] → IsPlainStart rest → (cs : List Recorded) × (rest ≡ recording_of cs) × OfSameLines cs later

-- with the same command before
stands_more : (x y : BenchState) (c t u : Recorded) (claimed told run : List Recorded) (missing rest : List Line) → t ≡ u → Stands x y claimed told run missing rest
    → Stands x y (c ∷ claimed) (t ∷ told) (u ∷ run) missing rest
stands_more x y c t u claimed told run missing rest same s = record {
  later = s.later;
  mid = s.mid;
  are = ap (λ (r : Recorded). r ∷ told) same ∙ ap (λ (l : List Recorded). u ∷ l) s.are;
  look = s.look;
  leads = s.leads;
  left = s.left;
}

-- two commands of one line look the same, and print the same
heads : (a b mid mid' : BenchState) (c t u : Recorded) → LookSame true a b → c.number ≡ t.number → c.line ≡ t.line → t.number ≤ 4294967295 → u.number ≤ 4294967295
    → command_line c ≡ command_line u → Leads a (t ∷ []) mid → Leads b (u ∷ []) mid' → (t ≡ u) × LookSame true mid mid'
heads a b mid mid' c t u look number line few few' same leads leads' =
    let parts = same_command c u (omega (arith, number, few)) few' same in
    let one = records_one true a b mid mid' (t ∷ []) (u ∷ []) look (all_settled (t ∷ [])) (sym number ∙ parts.0, sym line ∙ parts.1, tt) leads leads' in
    let all = one.0 in
    (cc, one.1)

-- it was the last command of the replay
stands_last : (x y mid mid' : BenchState) (c t u : Recorded) (claimed told : List Recorded) (front missing rest : List Line) → t ≡ u → LookSame true mid mid' → y ≡ mid'
    → OfSameLines claimed told → Leads mid told x → IsPlainStart (recording_of claimed) → map quoted u.answer ++ [] ≡ front ++ map quoted missing
    → map quoted c.answer ++ recording_of claimed ≡ front ++ rest → Stands x y (c ∷ claimed) (t ∷ told) (u ∷ []) missing rest
stands_last x y mid mid' c t u claimed told front missing rest here look is same leads starts at_end all =
    stands_more x y c t u claimed told [] missing rest here
    (record {
      later = told;
      mid = mid;
      are = refl;
      look = subst (λ (z : BenchState). LookSame true mid z) (sym is) look;
      leads = leads;
      left = λ found plain.
          let whole = sym (append-nil (map quoted u.answer)) ∙ at_end ∙ ap (λ (m : List Line). front ++ map quoted m) found ∙ append-nil front in
          let cut = segments c.answer u.answer (recording_of claimed) rest starts plain (all ∙ ap (λ (f : List Line). f ++ rest) (sym whole)) in
          (claimed, sym cut.1, same);
    })

-- more commands came behind it
stands_next : (x y : BenchState) (c t u v : Recorded) (claimed told run : List Recorded) (front missing rest : List Line) → t ≡ u → v.number ≤ 4294967295
    → IsPlainStart (recording_of claimed) → map quoted u.answer ++ recording_of (v ∷ run) ≡ front ++ map quoted missing
    → map quoted c.answer ++ recording_of claimed ≡ front ++ rest
    → ((f : List Line) → recording_of (v ∷ run) ≡ f ++ map quoted missing → recording_of claimed ≡ f ++ rest → Stands x y claimed told (v ∷ run) missing rest)
    → Stands x y (c ∷ claimed) (t ∷ told) (u ∷ v ∷ run) missing rest
stands_next x y c t u v claimed told run front missing rest here few starts at_end all next =
    go (cuts (map quoted u.answer) (recording_of (v ∷ run)) front (map quoted missing) at_end)
  where
    more : (f : List Line) → front ≡ map quoted u.answer ++ f → recording_of (v ∷ run) ≡ f ++ map quoted missing
        → Stands x y (c ∷ claimed) (t ∷ told) (u ∷ v ∷ run) missing rest
    more [] is left = absurd (no_command [] missing v (map quoted v.answer ++ recording_of run) few (sym left))
    more (w ∷ f) is left =
        let first : command_line v ≡ w = cc in
        let plain : ¬ (IsOutput w) = λ (out : IsOutput w). not_output v out.0 few (sym (first ∙ out.1)) in
        let whole = all ∙ ap (λ (l : List Line). l ++ rest) is ∙ append_assoc (map quoted u.answer) (w ∷ f) rest in
        let cut = segments c.answer u.answer (recording_of claimed) (w ∷ (f ++ rest)) starts plain whole in
        stands_more x y c t u claimed told (v ∷ run) missing rest here (next (w ∷ f) left cut.1)

    go : ((f : List Line) × (front ≡ map quoted u.answer ++ f) × (recording_of (v ∷ run) ≡ f ++ map quoted missing))
        ⊎ ((p : List Line) × (map quoted u.answer ≡ front ++ p) × (p ++ recording_of (v ∷ run) ≡ map quoted missing))
        → Stands x y (c ∷ claimed) (t ∷ told) (u ∷ v ∷ run) missing rest
    go (inl (f, is, left)) = more f is left
    go (inr (p, is, left)) = absurd (no_command p missing v (map quoted v.answer ++ recording_of run) few (sym left))

stands : (last : ℕ) (a b x y : BenchState) (claimed told run : List Recorded) (front missing rest : List Line) → LookSame true a b → OfSameLines claimed told → Ascend last told
    → Ascend last run → Leads a told x → Leads b run y → recording_of run ≡ front ++ map quoted missing → recording_of claimed ≡ front ++ rest
    → Stands x y claimed told run missing rest
stands last a b x y claimed told [] [] missing rest look same up up' leads leads' is claimed_is = record {
  later = told;
  mid = a;
  are = refl;
  look = subst (λ (z : BenchState). LookSame true a z) (sym leads') look;
  leads = leads;
  left = λ none plain. (claimed, sym claimed_is, same);
}
stands last a b x y claimed told [] (line ∷ front) missing rest look same up up' leads leads' is claimed_is =
    let n = ap length is in absurd (omega (arith, n))
stands last a b x y claimed told (u ∷ run) [] missing rest look same up up' leads leads' is claimed_is =
    absurd (no_command [] missing u (map quoted u.answer ++ recording_of run) up'.1 (sym is))
stands last a b x y [] told (u ∷ run) (line ∷ front) missing rest look same up up' leads leads' is claimed_is =
    let n = ap length claimed_is in absurd (omega (arith, n))
stands last a b x y (c ∷ claimed) [] (u ∷ run) (line ∷ front) missing rest look same up up' leads leads' is claimed_is = absurd same
stands last a b x y (c ∷ claimed) (t ∷ told) (u ∷ []) (line ∷ front) missing rest look same up up' (command, is_line, mid, does, leads)
    (command', is_line', mid', does', leads') is claimed_is =
    let first : command_line c ≡ line = cc in
    let first' : command_line u ≡ line = cc in
    let tail : map quoted u.answer ++ [] ≡ front ++ map quoted missing = cc in
    let claimed_tail : map quoted c.answer ++ recording_of claimed ≡ front ++ rest = cc in
    let one = heads a b mid mid' c t u look same.0 same.1 up.1 up'.1 (first ∙ sym first') (command, is_line, mid, does, refl) (command', is_line', mid', does', refl) in
    let starts = recording_starts t.number claimed (ascend_as t.number claimed told same.2 up.2) in
    stands_last x y mid mid' c t u claimed told front missing rest one.0 one.1 leads' same.2 leads starts tail claimed_tail
stands last a b x y (c ∷ claimed) (t ∷ told) (u ∷ v ∷ run) (line ∷ front) missing rest look same up up' (command, is_line, mid, does, leads)
    (command', is_line', mid', does', leads') is claimed_is =
    let first : command_line c ≡ line = cc in
    let first' : command_line u ≡ line = cc in
    let tail : map quoted u.answer ++ recording_of (v ∷ run) ≡ front ++ map quoted missing = cc in
    let claimed_tail : map quoted c.answer ++ recording_of claimed ≡ front ++ rest = cc in
    let one = heads a b mid mid' c t u look same.0 same.1 up.1 up'.1 (first ∙ sym first') (command, is_line, mid, does, refl) (command', is_line', mid', does', refl) in
    let starts = recording_starts t.number claimed (ascend_as t.number claimed told same.2 up.2) in
    let numbers : t.number ≡ u.number = ap (λ (r : Recorded). r.number) one.0 in
    let rises = subst (λ (n : ℕ). Ascend n told) numbers up.2 in
    stands_next x y c t u v claimed told run front missing rest one.0 up'.2.1 starts tail claimed_tail
    (λ f left all. stands u.number mid mid' x y claimed told (v ∷ run) f missing rest one.1 same.2 rises up'.2 leads leads' left all)

-- ---- the verdict

look_self : (b : BenchState) → LookSame true b b
look_self b = record {
  server = record {
    held = record { offer = refl; last = refl; each = λ (id : ClientParts). refl };
    order = λ counts. record { notes = refl; numbers = refl; times = λ slot. refl };
  };
  clients = refl;
  globals = refl;
}

-- what comes behind commands rises from the last of them on
ascend_later : (last : ℕ) (told later : List Recorded) → Ascend last (told ++ later) → Ascend (last_number last told) later
ascend_later last [] later up = up
ascend_later last (t ∷ told) later up = ascend_later t.number told later up.2

no_gap : (clients : List ClientParts) (slots : List ℕ) (b : BenchState) (k slot : ℕ) → k < length slots → get_or slots k slot ≡ slot → client_at b slot ≡ None
    → map Some clients ≢ map (client_at b) slots
no_gap clients [] b k slot few is none same = omega (arith, few)
no_gap [] (x ∷ slots) b k slot few is none same = let n = ap length same in omega (arith, n)
no_gap (c ∷ clients) (x ∷ slots) b zero slot few is none same =
    let first : Some c ≡ client_at b x = cc in
    let there = first ∙ ap (client_at b) is ∙ none in
    true≢false (ap is_some there)
no_gap (c ∷ clients) (x ∷ slots) b (suc k) slot few is none same =
    let tail : map Some clients ≡ map (client_at b) slots = cc in
    no_gap clients slots b k slot (omega (arith, few)) is none tail

-- a command that is carried out names no slot at which no client was inserted
names_one : (a b x : BenchState) (n : ℕ) (c : Command) (out : List Line) → a.clients ≡ b.clients → Does a n c out x → NamesNone b c → ⊥
names_one a b x n (Client slot c) out same does none =
    true≢false (ap is_some (sym does.1 ∙ (ap (latest slot) same ∙ none)))
names_one a b x n (Dispatch slots) out same does (slot, (k, few, is), none) =
    no_gap does.0 slots.items a k slot few is (ap (option_map client_of) (ap (latest slot) same ∙ none)) does.1
names_one a b x n Insert out same does none = none
names_one a b x n (Create name version) out same does none = none
names_one a b x n (Disable name) out same does none = none
names_one a b x n (Remove name) out same does none = none
names_one a b x n Flush out same does none = none
names_one a b x n Cleanup out same does none = none
names_one a b x n Notes out same does none = none

-- lines that go off differ from those of today at once
go_off : (missing rest : List Line) (last : ℕ) (later : List Recorded) → Ascend last later → GoesOff missing rest → DifferAtOnce rest (map quoted missing ++ recording_of later)
go_off [] [] last later up off = absurd (off refl)
go_off (output ∷ missing) [] last later up off = tt
go_off [] (line ∷ rest) last [] up off = tt
go_off [] (line ∷ rest) last (t ∷ later) up off = λ (same : line ≡ command_line t). not_output t off.0 up.1 (sym off.1 ∙ same)
go_off (output ∷ missing) (line ∷ rest) last later up off = off

module _ (b x : BenchState) (claimed told : List Recorded) (same : OfSameLines claimed told) (up : Ascend 0 told) (leads : Leads b told x) where
  abbrev StandsAt : BenchState → List Recorded → List Line → List Line → Type 0
  StandsAt y run missing rest = Stands x y claimed told run missing rest

  stands_at : (y : BenchState) (run : List Recorded) (front missing rest : List Line) → IsRecord b front run missing y → recording_of claimed ≡ front ++ rest
      → StandsAt y run missing rest
  stands_at y run front missing rest (recorded, up', leads') is =
      stands 0 b b x y claimed told run front missing rest (look_self b) same up up' leads leads' recorded is

  -- the record of today, of which the replay has come to these lines
  today : (y : BenchState) (run : List Recorded) (front missing rest : List Line) → recording_of run ≡ front ++ map quoted missing → (s : StandsAt y run missing rest)
      → recording_of told ≡ front ++ (map quoted missing ++ recording_of s.later)
  today y run front missing rest recorded s =
      ap recording_of s.are ∙ (flat_map-append record_of run s.later ∙ (ap (λ (l : List Line). l ++ recording_of s.later) recorded
      ∙ append_assoc front (map quoted missing) (recording_of s.later)))

  -- all was found
  all_found : (run cs later : List Recorded) (y : BenchState) → told ≡ run ++ later → [] ≡ recording_of cs → OfSameLines cs later → told ≡ run
  all_found run [] [] y are left same = are ∙ append-nil run
  all_found run [] (t ∷ later) y are left same = absurd same
  all_found run (c ∷ cs) later y are left same = let n = ap length left in absurd (omega (arith, n))

  -- the line is a command
  is_command : (y mid : BenchState) (run cs later : List Recorded) (line : Line) (rest : List Line) → told ≡ run ++ later → LookSame true mid y → Leads mid later x
      → line ∷ rest ≡ recording_of cs → OfSameLines cs later → IsNoCommand (last_number 0 run) y line → ⊥
  is_command y mid run [] later line rest are look leads is same none = let n = ap length is in omega (arith, n)
  is_command y mid run (c ∷ cs) [] line rest are look leads is same none = same
  is_command y mid run (c ∷ cs) (t ∷ later) line rest are look (command, is_line, next, does, leads) is same none =
      let first : line ≡ command_line c = cc in
      let here : command_line c ≡ command_line t
      = ap (λ (n : ℕ). decimal n ++ 32 ∷ c.line) same.0 ∙ ap (λ (l : Line). decimal t.number ++ 32 ∷ l) same.1 in
      let number = next_number 0 run t later (subst (λ (l : List Recorded). Ascend 0 l) are up) in
      names_one mid y next t.number command t.answer look.clients does (none t.number number.0 number.1 t.line (first ∙ here) command is_line)

  pub compares : (verdict : Result Replayed Stop) → Replays b (recording_of claimed) verdict → ComparesWith (recording_of claimed) told verdict
  compares (Ok (replayed.Same count)) (run, y, recorded, count_is) =
      let s = stands_at y run (recording_of claimed) [] [] recorded (sym (append-nil (recording_of claimed))) in
      let left = s.left refl tt in
      let all = all_found run left.0 s.later y s.are left.1 left.2 in
      (sym (append-nil (recording_of claimed)) ∙ (sym recorded.0 ∙ ap recording_of (sym all)), count_is ∙ ap length (sym all))
  compares (Ok (replayed.Differs place)) (front, rest, run, missing, y, is, place_is, recorded, off) =
      let s = stands_at y run front missing rest recorded is in
      let rises = ascend_later 0 run s.later (subst (λ (l : List Recorded). Ascend 0 l) s.are up) in (
        front,
        rest,
        map quoted missing ++ recording_of s.later,
        is,
        today y run front missing rest recorded.0 s,
        place_is,
        go_off missing rest (last_number 0 run) s.later rises off,
      )
  compares (Err (BadLine place)) (front, rest, line, run, y, is, place_is, recorded, plain, none) =
      let s = stands_at y run front [] (line ∷ rest) recorded is in
      let left = s.left refl plain in
      is_command y s.mid run left.0 s.later line rest s.are s.look s.leads left.1 left.2 none
  compares (Err Failed) replays = tt
  compares (Err Usage) replays = replays
  compares (Err Differs) replays = replays
