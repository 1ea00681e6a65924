-- Runs over lines, one line after another.
use Rattle.std.proofs.Common.{◌≡◌, ◌≢◌, ℕ, suc, ◌<◌, ◌+◌, List, [], ◌∷◌, ◌++◌, length, length-append, append_assoc, append-nil, Option, None, Some, Ok, Err, refl, sym, ap, subst, ◌∙◌, arith}
use Rattle.std.specs.Prelude.{IfSome}
use Rattle.std.specs.Io.KnownBytes.{Appends, IsAtEnd, Keeps}
use Rattle.std.specs.Io.BufRead.{drop_through, strip_last, take_through}
use Rattle.std.proofs.lemmas.Grind.{flat_map-append}
use mathlib.Core.Logic.{inl, inr}
use Rattle.wl_bench.specs.declared.command.Command.{Command}
use Rattle.wl_bench.specs.declared.command.Command.TheVariants.{Insert, Client, Dispatch, Create, Disable, Remove, Flush, Cleanup, Notes}
use Rattle.wl_bench.specs.declared.commands.Form.{Form}
use Rattle.wl_bench.specs.declared.stop.Stop.{Stop}
use Rattle.wl_bench.specs.declared.stop.Stop.TheVariants.{BadLine, Failed, Usage, Differs}
use Rattle.wl_bench.specs.Answers.{Line}
use Rattle.wl_bench.specs.Bench.{BenchState, Does, LacksClient, NamesNone, latest}
use Rattle.wl_bench.specs.Commands.{AskSame, IsLine}
use Rattle.wl_bench.specs.Record.{Answers, AreOf, IsBad, Leads, Runs, StopsAt, Recorded, fed, lines, text_of, written, written_of}
use Rattle.wl_bench.proofs.InputLines.{first_line, is_first, some_input}

-- ---- what a writer holds

appends_nothing : (held : Option (List ℕ)) → Appends held held []
appends_nothing None = tt
appends_nothing (Some xs) = sym (append-nil xs)

appends_more : (held mid after : Option (List ℕ)) (xs ys : List ℕ) → Appends held mid xs → Appends mid after ys → Appends held after (xs ++ ys)
appends_more None mid after xs ys h k = tt
appends_more (Some a) None after xs ys h k = absurd h
appends_more (Some a) (Some b) None xs ys h k = absurd k
appends_more (Some a) (Some b) (Some c) xs ys h k = k ∙ ap (λ (l : List ℕ). l ++ ys) h ∙ append_assoc a xs ys

keeps_behind : (held mid after : Option (List ℕ)) (xs : List ℕ) → Appends held mid xs → Keeps mid after → Appends held after xs
keeps_behind None mid after xs h k = tt
keeps_behind (Some a) None after xs h k = absurd h
keeps_behind (Some a) (Some b) None xs h k = absurd k
keeps_behind (Some a) (Some b) (Some c) xs h k = k ∙ h

pub keeps_same : (held : Option (List ℕ)) → Keeps held held
keeps_same None = tt
keeps_same (Some xs) = refl

-- ---- commands behind commands

pub leads_more : (before mid after : BenchState) (told others : List Recorded) → Leads before told mid → Leads mid others after → Leads before (told ++ others) after
leads_more before mid after [] others same k = subst (λ (b : BenchState). Leads b others after) same k
leads_more before mid after (t ∷ told) others (command, is, next, does, rest) k =
    (command, is, next, does, leads_more next mid after told others rest k)

empty_more : (n : ℕ) (front : List Line) (told : List Recorded) → AreOf n front told → AreOf n (front ++ [] ∷ []) told
empty_more n [] [] h = tt
empty_more n [] (t ∷ told) h = absurd h
empty_more n ([] ∷ front) told h = empty_more (suc n) front told h
empty_more n ((b ∷ line) ∷ front) [] h = absurd h
empty_more n ((b ∷ line) ∷ front) (t ∷ told) h = (h.0, h.1, empty_more (suc n) front told h.2)

one_of : (n : ℕ) (line : Line) (t : Recorded) → t.number ≡ n → t.line ≡ line → line ≢ [] → AreOf n (line ∷ []) (t ∷ [])
one_of n [] t number same some = absurd (some refl)
one_of n (b ∷ line) t number same some = (number, same, tt)

command_more : (n : ℕ) (front : List Line) (told : List Recorded) (line : Line) (t : Recorded) → AreOf n front told → t.number ≡ n + length front
    → t.line ≡ line → line ≢ [] → AreOf n (front ++ line ∷ []) (told ++ t ∷ [])
command_more n [] [] line t h number same some = one_of n line t (omega (arith, number)) same some
command_more n [] (u ∷ told) line t h number same some = absurd h
command_more n ([] ∷ front) told line t h number same some = command_more (suc n) front told line t h (omega (arith, number)) same some
command_more n ((b ∷ first) ∷ front) [] line t h number same some = absurd h
command_more n ((b ∷ first) ∷ front) (u ∷ told) line t h number same some =
    (h.0, h.1, command_more (suc n) front told line t h.2 (omega (arith, number)) same some)

written_more : (f : Form) (told : List Recorded) (t : Recorded) → text_of (written f (told ++ t ∷ [])) ≡ text_of (written f told) ++ text_of (written_of f t)
written_more f told t =
    ap text_of (flat_map-append (written_of f) told (t ∷ []) ∙ ap (λ (l : List Line). written f told ++ l) (append-nil (written_of f t)))
    ∙ flat_map-append fed (written f told) (written_of f t)

-- ---- a run that has come to the line of a number

abbrev pub HasRun : Form → ℕ → Option (List ℕ) → Option (List ℕ) → BenchState → BenchState → Option (List ℕ) → Option (List ℕ) → Type 0
HasRun f n whole now begun bench held held' = IfSome whole
    (λ input. (rest : List ℕ) × (now ≡ Some rest) × (front : List Line) × (told : List Recorded) × (lines input ≡ front ++ lines rest)
    × (n ≡ suc (length front)) × AreOf 1 front told × Leads begun told bench × Appends held held' (text_of (written f told)))

pub at_first : (f : Form) (whole : Option (List ℕ)) (bench : BenchState) (held : Option (List ℕ)) → HasRun f 1 whole whole bench bench held held
at_first f None bench held = tt
at_first f (Some input) bench held = (input, refl, [], [], refl, refl, tt, refl, appends_nothing held)

pub at_end : (f : Form) (n : ℕ) (whole now : Option (List ℕ)) (begun bench : BenchState) (held held' : Option (List ℕ)) → HasRun f n whole now begun bench held held'
    → IsAtEnd now → IfSome whole (λ input. Runs f 1 begun (lines input) (Ok tt) held held')
at_end f n None now begun bench held held' h none = tt
at_end f n (Some input) now begun bench held held' (rest, e, front, told, same, number, are, leads, appends) none =
    let left : rest ≡ [] = subst IsAtEnd e none in
    let all : lines input ≡ front = same ∙ ap (λ (r : List ℕ). front ++ lines r) left ∙ append-nil front in
    (told, bench, subst (λ (l : List Line). AreOf 1 l told) (sym all) are, leads, appends)

-- the line that is read, and those behind it
abbrev pub IsReadOf : List ℕ → Line → Option (List ℕ) → Type 0
IsReadOf rest line next = (lines rest ≡ line ∷ lines (drop_through 10 rest)) × (next ≡ Some (drop_through 10 rest))

pub is_read : (now next : Option (List ℕ)) (rest before line front : List ℕ) → now ≡ Some rest → before ≡ [] → 0 < length line
    → IfSome now (λ xs. line ≡ before ++ take_through 10 xs) → IfSome now (λ xs. next ≡ Some (drop_through 10 xs)) → front ≡ strip_last 10 line
    → IsReadOf rest front next
is_read now next rest before line front e empty some read left cut =
    let all = subst (λ (o : Option (List ℕ)). IfSome o (λ xs. line ≡ before ++ take_through 10 xs)) e read
    ∙ ap (λ (b : List ℕ). b ++ take_through 10 rest) empty in
    let next_is = subst (λ (o : Option (List ℕ)). IfSome o (λ xs. next ≡ Some (drop_through 10 xs))) e left in
    let first = is_first rest line front all cut in
    (first_line rest (some_input rest line all some) ∙ ap (λ (l : Line). l ∷ lines (drop_through 10 rest)) (sym first), next_is)

pub at_next : (f : Form) (n : ℕ) (whole now next : Option (List ℕ)) (before line front : List ℕ) (begun bench bench' : BenchState) (held held' held'' : Option (List ℕ))
    → HasRun f n whole now begun bench held held' → before ≡ [] → 0 < length line
    → IfSome now (λ xs. line ≡ before ++ take_through 10 xs) → IfSome now (λ xs. next ≡ Some (drop_through 10 xs)) → front ≡ strip_last 10 line
    → Answers f n bench front bench' held' held'' → HasRun f (n + 1) whole next begun bench' held held''
at_next f n None now next before line front begun bench bench' held held' held'' h empty some read left cut answers = tt
at_next f n (Some input) now next before line front begun bench bench' held held' held'' (rest, e, lead, told, same, number, are, leads, appends) empty some read left cut answers =
    at (is_read now next rest before line front e empty some read left cut) answers
  where
    at : IsReadOf rest front next → Answers f n bench front bench' held' held'' → HasRun f (n + 1) (Some input) next begun bench' held held''
    at r (inl (none, stays, keeps)) =
        let all = same ∙ ap (λ (l : List Line). lead ++ l) r.0 ∙ sym (append_assoc lead (front ∷ []) (lines (drop_through 10 rest))) in
        let size = length-append lead (front ∷ []) in (
          drop_through 10 rest,
          r.1,
          lead ++ front ∷ [],
          told,
          all,
          omega (arith, size, number),
          subst (λ (l : Line). AreOf 1 (lead ++ l ∷ []) told) (sym none) (empty_more 1 lead told are),
          subst (λ (b : BenchState). Leads begun told b) (sym stays) leads,
          keeps_behind held held' held'' (text_of (written f told)) appends keeps,
        )
    at r (inr (t, at_number, at_line, filled, does, adds)) =
        let all = same ∙ ap (λ (l : List Line). lead ++ l) r.0 ∙ sym (append_assoc lead (front ∷ []) (lines (drop_through 10 rest))) in
        let size = length-append lead (front ∷ []) in (
          drop_through 10 rest,
          r.1,
          lead ++ front ∷ [],
          told ++ t ∷ [],
          all,
          omega (arith, size, number),
          command_more 1 lead told front t are (omega (arith, at_number, number)) at_line filled,
          leads_more begun bench bench' told (t ∷ []) leads does,
          subst (λ (l : List ℕ). Appends held held'' l) (sym (written_more f told t)) (appends_more held held' held'' (text_of (written f told)) (text_of (written_of f t)) appends adds),
        )

pub at_stop : (f : Form) (n : ℕ) (whole now next : Option (List ℕ)) (before line front : List ℕ) (begun bench bench' : BenchState) (held held' held'' : Option (List ℕ)) (stop : Stop)
    → HasRun f n whole now begun bench held held' → before ≡ [] → 0 < length line
    → IfSome now (λ xs. line ≡ before ++ take_through 10 xs) → IfSome now (λ xs. next ≡ Some (drop_through 10 xs)) → front ≡ strip_last 10 line
    → StopsAt n bench' front stop held' held'' → (stop ≢ Failed → bench' ≡ bench)
    → IfSome whole (λ input. Runs f 1 begun (lines input) (Err stop) held held'')
at_stop f n None now next before line front begun bench bench' held held' held'' stop h empty some read left cut stops same = tt
at_stop f n (Some input) now next before line front begun bench bench' held held' held'' (BadLine m) (rest, e, lead, told, same, number, are, leads, appends) empty some read left cut (is, bad, keeps) stays =
    let r = is_read now next rest before line front e empty some read left cut in
    let all = same ∙ ap (λ (l : List Line). lead ++ l) r.0 in
    let here = stays (λ x. cc) in (
      lead,
      lines (drop_through 10 rest),
      front,
      told,
      bench',
      all,
      omega (arith, is, number),
      are,
      subst (λ (b : BenchState). Leads begun told b) (sym here) leads,
      bad,
      keeps_behind held held' held'' (text_of (written f told)) appends keeps,
    )
at_stop f n (Some input) now next before line front begun bench bench' held held' held'' Failed h empty some read left cut stops same = tt
at_stop f n (Some input) now next before line front begun bench bench' held held' held'' Usage h empty some read left cut stops same = absurd stops
at_stop f n (Some input) now next before line front begun bench bench' held held' held'' Differs h empty some read left cut stops same = absurd stops

-- ---- a line

-- a line that is a command, which was carried out and written
pub answered : (f : Form) (n : ℕ) (before after : BenchState) (line : Line) (command : Command) (answer : List Line) (text : List ℕ) (held mid held' : Option (List ℕ))
    → line ≢ [] → IsLine command line → Does before n command answer after
    → text ≡ text_of (written_of f (record { number = n; line = line; answer = answer })) → Appends held mid text → Keeps mid held'
    → Answers f n before line after held held'
answered f n before after line command answer text held mid held' some is does same adds keeps =
    inr (
      record { number = n; line = line; answer = answer },
      refl,
      refl,
      some,
      (command, is, after, does, refl),
      keeps_behind held mid held' (text_of (written_of f (record { number = n; line = line; answer = answer })))
          (subst (λ (l : List ℕ). Appends held mid l) same adds) keeps,
    )

-- what a command names, each that asks for the same names
pub same_none : (b : BenchState) (c d : Command) → AskSame c d → NamesNone b c → NamesNone b d
same_none b (Client slot c) (Client slot' d) same none = subst (λ (s : ℕ). latest s b.clients ≡ None) same.0 none
same_none b (Dispatch slots) (Dispatch slots') same none = subst (λ (xs : List ℕ). LacksClient b xs) same none
same_none b Insert d same none = absurd none
same_none b (Create name version) d same none = absurd none
same_none b (Disable name) d same none = absurd none
same_none b (Remove name) d same none = absurd none
same_none b Flush d same none = absurd none
same_none b Cleanup d same none = absurd none
same_none b Notes d same none = absurd none
same_none b _ _ same none = absurd same

-- a line is bad where its command names a slot at which none is
pub bad_slot : (b : BenchState) (line : Line) (command : Command) → line ≢ [] → IsLine command line → NamesNone b command
    → ((c d : Command) → IsLine c line → IsLine d line → AskSame c d) → IsBad b line
bad_slot b line command some is none one = (some, λ (d : Command) (h : IsLine d line). same_none b command d (one command d is h) none)

-- and where it is none
pub bad_words : (b : BenchState) (line : Line) → line ≢ [] → ((c : Command) → ¬ (IsLine c line)) → IsBad b line
bad_words b line some none = (some, λ (d : Command) (h : IsLine d line). absurd (none d h))
