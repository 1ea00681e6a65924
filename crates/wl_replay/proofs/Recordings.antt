-- A recording, line by line.
use Rattle.std.proofs.Common.{◌≡◌, ◌≢◌, ℕ, suc, ◌+◌, ◌<◌, ◌≤◌, ◌==◌, List, [], ◌∷◌, ◌++◌, length, length-append, map, take, drop, get_or, append_assoc, append-nil, Option, None, Some, Ok, Err, Bool, true, false, String, Global, refl, sym, ap, subst, ◌∙◌, arith}
use Rattle.std.specs.Prelude.{◌↔◌, IfSome, IsTrue, MatchBool}
use Rattle.std.specs.Fmt.{decimal}
use Rattle.std.specs.Io.BufRead.{drop_through, strip_last, take_through}
use Rattle.std.specs.Io.KnownBytes.{IsAtEnd}
use Rattle.std.specs.Cmp.Lexicographic.{pointwise}
use Rattle.std.specs.Str.{IsUtf8}
use Rattle.std.specs.String.{string_bytes}
use Rattle.std.proofs.lemmas.Bool.{true≢false}
use Rattle.std.proofs.lemmas.Bool.Decides.{Decides-eqb}
use Rattle.std.proofs.lemmas.Fmt.{decimal_injective, digits_decimal, IsAscii-decimal}
use Rattle.std.proofs.lemmas.Grind.{flat_map-append}
use Rattle.std.proofs.lemmas.List.{drop-map, drop_all, drop_more, get_or_default, length-drop, length-map, take-append-drop}
use Rattle.std.proofs.lemmas.List.Elements.{All-head, All-tail}
use Rattle.std.proofs.lemmas.Slice.Eq.{slice_eq-Decides}
use Rattle.std.proofs.lemmas.Str.{IsUtf8-from_ascii}
use Rattle.std.proofs.lemmas.Str.Parse.{digit_at}
use mathlib.Core.Logic.{inl, inr}
use Rattle.wl_bench.specs.declared.command.Command.{Command}
use Rattle.wl_replay.specs.declared.recording.Comparison.{Comparison}
use Rattle.wl_replay.specs.declared.recording.Replayed.{Replayed}
use Rattle.wl_replay.specs.declared.recording.Replayed.TheVariants as replayed
use Rattle.wl_bench.specs.declared.stop.Stop.{Stop}
use Rattle.wl_bench.specs.declared.stop.Stop.TheVariants.{BadLine, Failed, Usage, Differs}
use Rattle.wl_bench.specs.Answers.{Line}
use Rattle.wl_bench.specs.Bench.{BenchState, NamesNone}
use Rattle.wl_bench.specs.Commands.{AskSame, IsLine, IsNumber}
use Rattle.wl_replay.specs.Inside.Comparing.{EndsWith, GoesOn, IsBadAt, IsNumbered, IsWord, missing_in}
use Rattle.wl_bench.specs.Record.{Leads, Recorded, lines, quoted, record_of, recording_of}
use Rattle.wl_replay.specs.Replay.{Ascend, IsAnother, IsNoCommand, IsRecord, Replays, last_number}
use Rattle.wl_bench.proofs.Numbers.{own}
use Rattle.wl_bench.proofs.OneCommand.{one_of_line}
use Rattle.wl_bench.proofs.RunLines.{IsReadOf, is_read, leads_more, same_none}

-- ---- a line is cut at its first space

-- the digits of a number have no space among them
pub number_word : (n : ℕ) → n ≤ 4294967295 → IsWord (decimal n)
number_word n few k d lt space =
    let range = digit_at (decimal n) k (digits_decimal own n (omega arith)) lt in
    let same = get_or_default (decimal n) k d 0 lt in
    omega (arith, range, same, space)

pub no_space : (line word text : List ℕ) → IsWord line → line ≢ word ++ 32 ∷ text
no_space [] [] text is same = let n = ap length same in omega arith
no_space [] (w ∷ word) text is same = let n = ap length same in omega arith
no_space (x ∷ line) [] text is same = All-head (λ (b : ℕ). b ≢ 32) x line is (ap (λ (l : List ℕ). get_or l 0 0) same)
no_space (x ∷ line) (w ∷ word) text is same = no_space line word text (All-tail (λ (b : ℕ). b ≢ 32) x line is) (ap (drop 1) same)

pub same_cut : (word other text text' : List ℕ) → IsWord word → IsWord other → word ++ 32 ∷ text ≡ other ++ 32 ∷ text'
    → (word ≡ other) × (text ≡ text')
same_cut [] [] text text' is are same = (refl, ap (drop 1) same)
same_cut [] (x ∷ other) text text' is are same =
    absurd (All-head (λ (b : ℕ). b ≢ 32) x other are (sym (ap (λ (l : List ℕ). get_or l 0 0) same)))
same_cut (w ∷ word) [] text text' is are same =
    absurd (All-head (λ (b : ℕ). b ≢ 32) w word is (ap (λ (l : List ℕ). get_or l 0 0) same))
same_cut (w ∷ word) (x ∷ other) text text' is are same =
    let rest = same_cut word other text text' (All-tail (λ (b : ℕ). b ≢ 32) w word is) (All-tail (λ (b : ℕ). b ≢ 32) x other are) (ap (drop 1) same) in
    let first : w ≡ x = ap (λ (l : List ℕ). get_or l 0 0) same in
    (cc, rest.1)

-- a number is text
pub number_text : (bytes : List ℕ) → ¬ (IsUtf8 bytes) → (n : ℕ) → ¬ (IsNumber n bytes)
number_text bytes other n is =
    other (subst IsUtf8 (sym is.1) (IsUtf8-from_ascii (decimal n) (IsAscii-decimal n (omega (arith, is.0)))))

-- ---- which lines are commands under a number

-- the parts of a line that is a number and a command
numbered_parts : (line word text : List ℕ) (p : ℕ × Command) → line ≡ word ++ 32 ∷ text → IsWord word → IsNumbered p line
    → IsNumber p.0 word × IsLine p.1 text
numbered_parts line word text p same is h =
    let cut = same_cut word (decimal p.0) text h.0 is (number_word p.0 h.2) (sym same ∙ h.1) in
    ((h.2, cut.0), subst (λ (t : List ℕ). IsLine p.1 t) (sym cut.1) h.3)

pub not_cut : (line : List ℕ) → IsWord line → (p : ℕ × Command) → ¬ (IsNumbered p line)
not_cut line is p h = no_space line (decimal p.0) h.0 is h.1

pub not_numbered : (line word text : List ℕ) → line ≡ word ++ 32 ∷ text → IsWord word → ((n : ℕ) → ¬ (IsNumber n word))
    → (p : ℕ × Command) → ¬ (IsNumbered p line)
not_numbered line word text same is none p h = none p.0 (numbered_parts line word text p same is h).0

pub not_command : (line word text : List ℕ) → line ≡ word ++ 32 ∷ text → IsWord word → ((c : Command) → ¬ (IsLine c text))
    → (p : ℕ × Command) → ¬ (IsNumbered p line)
not_command line word text same is none p h = none p.1 (numbered_parts line word text p same is h).1

pub numbered : (line word text : List ℕ) (n : ℕ) (command : Command) → line ≡ word ++ 32 ∷ text → IsNumber n word → IsLine command text
    → IsNumbered (n, command) line
numbered line word text n command same is command_is = (text, same ∙ ap (λ (w : List ℕ). w ++ 32 ∷ text) is.1, is.0, command_is)

-- a line is one number and one command at most
same_numbered : (line : List ℕ) (p q : ℕ × Command) → IsNumbered p line → IsNumbered q line → (p.0 ≡ q.0) × AskSame p.1 q.1
same_numbered line p q h k =
    let parts = numbered_parts line (decimal p.0) h.0 q h.1 (number_word p.0 h.2) k in (
      decimal_injective p.0 q.0 (omega (arith, h.2)) (omega (arith, k.2)) parts.0.1,
      one_of_line h.0 p.1 q.1 h.3 parts.1,
    )

pub none_numbered : (last : ℕ) (b : BenchState) (line : List ℕ) → ((p : ℕ × Command) → ¬ (IsNumbered p line)) → IsNoCommand last b line
none_numbered last b line none n more few text same command is = absurd (none (n, command) (text, same, few, is))

pub low_number : (last : ℕ) (b : BenchState) (line : List ℕ) (p : ℕ × Command) → IsNumbered p line → p.0 ≤ last → IsNoCommand last b line
low_number last b line p h low n more few text same command is =
    let one = same_numbered line p (n, command) h (text, same, few, is) in
    let first = one.0 in absurd (omega (arith, low, more, first))

pub no_slot : (last : ℕ) (b : BenchState) (line : List ℕ) (p : ℕ × Command) → IsNumbered p line → NamesNone b p.1 → IsNoCommand last b line
no_slot last b line p h none n more few text same command is =
    same_none b p.1 command (same_numbered line p (n, command) h (text, same, few, is)).1 none

-- ---- lines of output

-- a line that begins as output is what follows, behind that
pub is_quoted : (line rest output : List ℕ) (r : Bool) → pointwise ◌==◌ (take 2 line) (62 ∷ 32 ∷ []) ≡ true → rest ≡ drop 2 line
    → r ≡ pointwise ◌==◌ rest output → IsTrue r ↔ (line ≡ quoted output)
is_quoted line rest output r begins left same =
    let front : take 2 line ≡ 62 ∷ 32 ∷ [] = (slice_eq-Decides Decides-eqb (take 2 line) (62 ∷ 32 ∷ []) true (sym begins)).0 refl in
    let all : line ≡ quoted rest = sym (take-append-drop 2 line) ∙ ap (λ (l : List ℕ). l ++ drop 2 line) front ∙ ap quoted (sym left) in
    let decides = slice_eq-Decides Decides-eqb rest output r same in
    (λ h. all ∙ ap quoted (decides.0 (is_true r h)), λ e. true_is r (decides.1 (left ∙ ap (drop 2) e)))
  where
    is_true : (b : Bool) → IsTrue b → b ≡ true
    is_true b h = h

    true_is : (b : Bool) → b ≡ true → IsTrue b
    true_is b h = h

pub not_quoted : (line output : List ℕ) → pointwise ◌==◌ (take 2 line) (62 ∷ 32 ∷ []) ≡ false → line ≢ quoted output
not_quoted line output other same =
    let begins : pointwise ◌==◌ (take 2 line) (62 ∷ 32 ∷ []) ≡ true = ap (λ (l : List ℕ). pointwise ◌==◌ (take 2 l) (62 ∷ 32 ∷ [])) same in
    true≢false (sym begins ∙ other)

-- ---- what one line makes of a comparison

-- the output that is missing, one line after another
pub missing_more : (c : Comparison) (output : String Global) → c.found < length c.lines.items → output ≡ get_or c.lines.items c.found output
    → missing_in c ≡ string_bytes output ∷ missing_in (record c { found = c.found + 1 })
missing_more c output some is =
    drop-map string_bytes c.found c.lines.items ∙ ap (map string_bytes) (drop_more c.lines.items c.found output some)
    ∙ ap (λ (s : String Global). string_bytes s ∷ map string_bytes (drop (c.found + 1) c.lines.items)) (sym is)
    ∙ ap (λ (l : List Line). string_bytes output ∷ l) (sym (drop-map string_bytes (c.found + 1) c.lines.items))

-- some is missing, where not all was found
pub some_missing : (c : Comparison) → c.found < length c.lines.items → missing_in c ≢ []
some_missing c more none =
    let n = length-drop c.found (map string_bytes c.lines.items) in
    let m = length-map c.lines.items string_bytes in
    let zero = ap length none in omega (arith, n, m, zero, more)

pub none_missing : (c : Comparison) → length c.lines.items ≤ c.found → missing_in c ≡ []
none_missing c all = let m = length-map c.lines.items string_bytes in drop_all c.found (map string_bytes c.lines.items) (omega (arith, m, all))

-- the line is compared with the first line of the missing output
pub compared : (before after : Comparison) (line output : Line) (is_same : Bool) → missing_in before ≡ output ∷ missing_in after → after.bench ≡ before.bench → after.last ≡ before.last → after.count ≡ before.count
    → IsTrue is_same ↔ (line ≡ quoted output) → MatchBool is_same (GoesOn before line after) (IsAnother (missing_in before) line)
compared before after line output true missing bench last count is = inl (output, is.0 refl, missing, bench, last, count)
compared before after line output false missing bench last count is =
    subst (λ (m : List Line). IsAnother m line) (sym missing) (λ same. let t = is.1 same in cc)

-- ---- recordings, one line after another

ascend_more : (last : ℕ) (told : List Recorded) (t : Recorded) → Ascend last told → last_number last told < t.number → t.number ≤ 4294967295
    → Ascend last (told ++ t ∷ [])
ascend_more last [] t h more few = (more, few, tt)
ascend_more last (u ∷ told) t h more few = (h.0, h.1, ascend_more u.number told t h.2 more few)

last_more : (last : ℕ) (told : List Recorded) (t : Recorded) → last_number last (told ++ t ∷ []) ≡ t.number
last_more last [] t = refl
last_more last (u ∷ told) t = last_more u.number told t

-- a recording that is the same up to the line of a place
abbrev pub HasCompared : ℕ → Option (List ℕ) → Option (List ℕ) → BenchState → Comparison → Type 0
HasCompared place whole now begun c = IfSome whole
    (λ input. (rest : List ℕ) × (now ≡ Some rest) × (front : List Line) × (told : List Recorded) × (lines input ≡ front ++ lines rest)
    × (place ≡ suc (length front)) × IsRecord begun front told (missing_in c) c.bench × (c.last ≡ last_number 0 told) × (c.count ≡ length told))

pub at_start : (whole : Option (List ℕ)) (begun : BenchState) (c : Comparison) → (c.bench ≡ begun) × (c.last ≡ 0) × (c.count ≡ 0) × (missing_in c ≡ [])
    → HasCompared 1 whole whole begun c
at_start None begun c h = tt
at_start (Some input) begun c (bench, last, count, none) =
    (input, refl, [], [], refl, refl, (sym (ap (map quoted) none), tt, bench), last, count)

pub at_last : (place : ℕ) (whole now : Option (List ℕ)) (begun : BenchState) (c : Comparison) (verdict : Replayed) → HasCompared place whole now begun c
    → IsAtEnd now → EndsWith c place verdict → IfSome whole (λ input. Replays begun (lines input) (Ok verdict))
at_last place None now begun c verdict h none ends = tt
at_last place (Some input) now begun c (replayed.Same count) (rest, e, front, told, same, at, (recorded, ascend, leads), last, number) none ends =
    let left : rest ≡ [] = subst IsAtEnd e none in
    let all : lines input ≡ front = same ∙ ap (λ (r : List ℕ). front ++ lines r) left ∙ append-nil front in (
      told,
      c.bench,
      (recorded ∙ ap (λ (m : List Line). front ++ map quoted m) ends.0 ∙ ap (λ (l : List Line). l ++ []) (sym all), ascend, leads),
      ends.1 ∙ number,
    )
at_last place (Some input) now begun c (replayed.Differs n) (rest, e, front, told, same, at, recorded, last, number) none ends =
    let left : rest ≡ [] = subst IsAtEnd e none in
    (front, [], told, missing_in c, c.bench, same ∙ ap (λ (r : List ℕ). front ++ lines r) left, ends.1 ∙ at, recorded, ends.0)

pub at_line : (place : ℕ) (whole now next : Option (List ℕ)) (before read line : List ℕ) (begun : BenchState) (c c' : Comparison)
    → HasCompared place whole now begun c → before ≡ [] → 0 < length read
    → IfSome now (λ xs. read ≡ before ++ take_through 10 xs) → IfSome now (λ xs. next ≡ Some (drop_through 10 xs)) → line ≡ strip_last 10 read
    → GoesOn c line c' → HasCompared (place + 1) whole next begun c'
at_line place None now next before read line begun c c' h empty some is left cut goes = tt
at_line place (Some input) now next before read line begun c c' (rest, e, front, told, same, at, (recorded, ascend, leads), last, number) empty some is left cut goes =
    go (is_read now next rest before read line e empty some is left cut) goes
  where
    size : length (front ++ line ∷ []) ≡ length front + 1
    size = length-append front (line ∷ [])

    go : IsReadOf rest line next → GoesOn c line c' → HasCompared (place + 1) (Some input) next begun c'
    go r (inl (output, quoted_is, missing, bench, stays, count)) = (
      drop_through 10 rest,
      r.1,
      front ++ line ∷ [],
      told,
      same ∙ ap (λ (l : List Line). front ++ l) r.0 ∙ sym (append_assoc front (line ∷ []) (lines (drop_through 10 rest))),
      (let s = size in omega (arith, s, at)),
      (
        recorded ∙ ap (λ (m : List Line). front ++ map quoted m) missing ∙ ap (λ (l : Line). front ++ l ∷ map quoted (missing_in c')) (sym quoted_is)
            ∙ sym (append_assoc front (line ∷ []) (map quoted (missing_in c'))),
        ascend,
        subst (λ (b : BenchState). Leads begun told b) (sym bench) leads,
      ),
      stays ∙ last,
      count ∙ number,
    )
    go r (inr (none, t, (is_line, more, few, does, stays, count, missing))) =
        let longer = length-append told (t ∷ []) in (
          drop_through 10 rest,
          r.1,
          front ++ line ∷ [],
          told ++ t ∷ [],
          same ∙ ap (λ (l : List Line). front ++ l) r.0 ∙ sym (append_assoc front (line ∷ []) (lines (drop_through 10 rest))),
          (let s = size in omega (arith, s, at)),
          (
            flat_map-append record_of told (t ∷ []) ∙ ap (λ (l : List Line). recording_of told ++ l) (append-nil (record_of t))
                ∙ ap (λ (l : List Line). l ++ record_of t) (recorded ∙ ap (λ (m : List Line). front ++ map quoted m) none ∙ append-nil front)
                ∙ ap (λ (l : Line). front ++ l ∷ map quoted t.answer) (sym is_line) ∙ sym (append_assoc front (line ∷ []) (map quoted t.answer))
                ∙ ap (λ (m : List Line). (front ++ line ∷ []) ++ map quoted m) (sym missing),
            ascend_more 0 told t ascend (omega (arith, last, more)) few,
            leads_more begun c.bench c'.bench told (t ∷ []) leads does,
          ),
          stays ∙ sym (last_more 0 told t),
          omega (arith, longer, count, number),
        )

pub at_other : (place : ℕ) (whole now next : Option (List ℕ)) (before read line : List ℕ) (begun : BenchState) (c : Comparison)
    → HasCompared place whole now begun c → before ≡ [] → 0 < length read
    → IfSome now (λ xs. read ≡ before ++ take_through 10 xs) → IfSome now (λ xs. next ≡ Some (drop_through 10 xs)) → line ≡ strip_last 10 read
    → IsAnother (missing_in c) line → IfSome whole (λ input. Replays begun (lines input) (Ok (replayed.Differs place)))
at_other place None now next before read line begun c h empty some is left cut other = tt
at_other place (Some input) now next before read line begun c (rest, e, front, told, same, at, recorded, last, number) empty some is left cut other =
    let r = is_read now next rest before read line e empty some is left cut in
    (front, line ∷ lines (drop_through 10 rest), told, missing_in c, c.bench, same ∙ ap (λ (l : List Line). front ++ l) r.0, at, recorded, other)

pub at_bad : (place : ℕ) (whole now next : Option (List ℕ)) (before read line : List ℕ) (begun : BenchState) (c : Comparison) (stop : Stop)
    → HasCompared place whole now begun c → before ≡ [] → 0 < length read
    → IfSome now (λ xs. read ≡ before ++ take_through 10 xs) → IfSome now (λ xs. next ≡ Some (drop_through 10 xs)) → line ≡ strip_last 10 read
    → IsBadAt c line place stop → IfSome whole (λ input. Replays begun (lines input) (Err stop))
at_bad place None now next before read line begun c stop h empty some is left cut bad = tt
at_bad place (Some input) now next before read line begun c (BadLine n) (rest, e, front, told, same, at, (recorded, ascend, leads), last, number) empty some is left cut (here, none, plain, bad) =
    let r = is_read now next rest before read line e empty some is left cut in (
      front,
      lines (drop_through 10 rest),
      line,
      told,
      c.bench,
      same ∙ ap (λ (l : List Line). front ++ l) r.0,
      here ∙ at,
      (recorded ∙ ap (λ (m : List Line). front ++ map quoted m) none, ascend, leads),
      plain,
      subst (λ (n : ℕ). IsNoCommand n c.bench line) last bad,
    )
at_bad place (Some input) now next before read line begun c Failed h empty some is left cut bad = tt
at_bad place (Some input) now next before read line begun c Usage h empty some is left cut bad = absurd bad
at_bad place (Some input) now next before read line begun c Differs h empty some is left cut bad = absurd bad
