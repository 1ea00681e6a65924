-- The numbers in time of the notes of one client: how they rise, and how they are given.
use Rattle.std.proofs.Common.{◌≡◌, ◌∙◌, ℕ, zero, suc, ◌+◌, ◌<◌, ◌≤◌, List, [], ◌∷◌, ◌++◌, length, refl, sym, ap, arith, append_assoc, append-nil}
use Rattle.std.specs.Prelude.{Contains}
use Rattle.std.proofs.lemmas.List.{length-append}
use Rattle.wl_server_client.specs.declared.notes.queues.NoteNumbers.{NoteNumbers}
use Rattle.wl_server_client.specs.NoteTimes.{GivesNumbers, NotesInTime, RiseWithin, last_number, number_after, number_past, numbers_from}
use Rattle.wl_server_client.specs.Stored.{NoteTimes}

-- ---- numbers that rise

pub rise_lower : (low mid : ℕ) (ns : List ℕ) (next : ℕ) → low ≤ mid → RiseWithin mid ns next → RiseWithin low ns next
rise_lower low mid [] next less is = omega (arith, less, is)
rise_lower low mid (n ∷ ns) next less (first, rest) = (omega (arith, less, first), rest)

pub rise_append : (low : ℕ) (ns : List ℕ) (mid : ℕ) (ms : List ℕ) (next : ℕ) → RiseWithin low ns mid → RiseWithin mid ms next
    → RiseWithin low (ns ++ ms) next
rise_append low [] mid ms next is more = rise_lower low mid ms next is more
rise_append low (n ∷ ns) mid ms next (first, rest) more = (first, rise_append (n + 1) ns mid ms next rest more)

pub rise_higher : (low : ℕ) (ns : List ℕ) (next next' : ℕ) → next ≤ next' → RiseWithin low ns next → RiseWithin low ns next'
rise_higher low ns next next' more is = rw append-nil at (rise_append low ns next [] next' is more)

pub rise_last : (low : ℕ) (ns ms : List ℕ) (next : ℕ) → RiseWithin low (ns ++ ms) next → RiseWithin low ms next
rise_last low [] ms next is = is
rise_last low (n ∷ ns) ms next (first, rest) = rise_lower low (n + 1) ms next (omega (arith, first)) (rise_last (n + 1) ns ms next rest)

pub rise_up : (low : ℕ) (ns : List ℕ) (next : ℕ) → RiseWithin low ns next → low ≤ next
rise_up low ns next is = rise_last low ns [] next (rw append-nil is)

pub among : (low : ℕ) (ns : List ℕ) (next n : ℕ) → RiseWithin low ns next → Contains ns n → (low ≤ n) × (n < next)
among low [] next n is (k, below, at) = absurd (omega (arith, below))
among low (m ∷ ns) next n (first, rest) (zero, below, at) = grind (arith, rise_up)
among low (m ∷ ns) next n (first, rest) (suc k, below, at) = grind (arith, among (m + 1) ns next n rest)

-- ---- numbers that are given

pub gives_none : (ns : List ℕ) (next : ℕ) → GivesNumbers ns next ns next
gives_none ns next = record { more = []; behind = sym (append-nil ns); given = refl; past = refl }

pub numbers_more : (next k m : ℕ) → numbers_from next (k + m) ≡ numbers_from next k ++ numbers_from (number_past next k) m
numbers_more next zero m = grind (arith)
numbers_more next (suc k) m =
    let one : suc k + m ≡ suc (k + m) = omega arith in
    ap (numbers_from next) one ∙ ap (λ (l : List ℕ). next ∷ l) (numbers_more (number_after next) k m)

pub past_more : (next k m : ℕ) → number_past next (k + m) ≡ number_past (number_past next k) m
past_more next zero m = grind (arith)
past_more next (suc k) m =
    let one : suc k + m ≡ suc (k + m) = omega arith in
    ap (number_past next) one ∙ past_more (number_after next) k m

-- as long as they are not used up, the numbers rise
pub rise_from : (next count : ℕ) → number_past next count < last_number → RiseWithin next (numbers_from next count) (number_past next count)
rise_from next zero below = omega arith
rise_from next (suc count) below = grind (arith, number_after, rise_up, numbers_from, number_past, rise_from (number_after next) count below)

-- Numbers were given while the next number went from `next` to `next'`.
pub record GivesWithin (ns : List ℕ) (next : ℕ) (ns' : List ℕ) (next' : ℕ) : Type 0 where
  pub more : List ℕ
  pub behind : ns' ≡ ns ++ more
  pub rise : next' < last_number → RiseWithin next more next'

pub within : (ns : List ℕ) (next : ℕ) (ns' : List ℕ) (next' : ℕ) → GivesNumbers ns next ns' next' → GivesWithin ns next ns' next'
within ns next ns' next' gives = grind (arith, numbers_from, rise_from, last_number)

pub within_none : (ns : List ℕ) (next next' : ℕ) → (next' < last_number → next ≤ next') → GivesWithin ns next ns next'
within_none ns next next' up = record { more = []; behind = sym (append-nil ns); rise = up }

pub within_both : (ns ms ks : List ℕ) (a b c : ℕ) → GivesWithin ns a ms b → GivesWithin ms b ks c → GivesWithin ns a ks c
within_both ns ms ks a b c one two = grind (arith, append_assoc, rise_up, rise_append)

-- ---- the notes of one client

pub in_time_none : (t : NoteTimes) (n : NoteNumbers) → NotesInTime t n t n
in_time_none t n = record { made = gives_none t.made n.made; waiting = gives_none t.waiting n.waiting }

pub in_time_both : (t u v : NoteTimes) (a b c : NoteNumbers) → NotesInTime t a u b → NotesInTime u b v c → NotesInTime t a v c
in_time_both t u v a b c one two = grind (arith, append_assoc, numbers_from, length, numbers_more, number_past, past_more, length-append)

pub in_time_same : (t u : NoteTimes) (a b : NoteNumbers) → u ≡ t → b ≡ a → NotesInTime t a u b
in_time_same t u a b same none = rw (same, none) (in_time_none t a)

-- a note waits
pub waits_in_time : (ms ms' ws ws' : List ℕ) (a b : NoteNumbers) → GivesNumbers ws a.waiting ws' b.waiting → ms' ≡ ms → b.made ≡ a.made
    → NotesInTime (record { made = ms; waiting = ws }) a (record { made = ms'; waiting = ws' }) b
waits_in_time ms ms' ws ws' a b gives same none = grind (arith, gives_none)
