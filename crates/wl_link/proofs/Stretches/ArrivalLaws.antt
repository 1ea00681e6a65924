-- What a receive over the transport by script gives of what is left over, and what a reading that would block leaves.
use Rattle.std.proofs.Common.{◌≡◌, ◌≢◌, ℕ, zero, suc, ◌<◌, Bool, true, false, List, [], ◌∷◌, ◌++◌, append-nil, Option, None, Some, is_some, Result, Ok, Err, is_ok, MatchResult, MatchBool, refl, sym, ap, subst, ◌∙◌, true≢false, arith, length, take, drop, cond, eqb}
use Rattle.std.specs.Prelude.{nat_le}
use Rattle.std.proofs.lemmas.Bool.{leb-true, leb-false}
use Rattle.std.proofs.lemmas.Option.{same_Some}
use Rattle.std.proofs.lemmas.List.{take_all, take-append-drop, length-drop}
use mathlib.Core.Logic.{inl, inr}
use Rattle.wl_wire.specs.declared.argument.Token.{Token}
use Rattle.wl_wire.specs.declared.error.IoFault.{IoFault}
use Rattle.wl_wire.specs.declared.error.IoFault.TheVariants as fault
use Rattle.wl_wire.specs.declared.error.MessageParseError.TheVariants as errors
use Rattle.wl_link.specs.Exchange.{Queue, joined}
use Rattle.wl_link.specs.Link.{FilledBy, LinkState, count_of, counted_answer}
use Rattle.wl_link.specs.Puts.{lacks_memory}
use Rattle.wl_link.specs.Reader.{AllFed, Gives, Halts, Handled, IsFed, Lacks, ReaderState, Reader, Reads, Received, Turn, Unread, came_by, stops, with_link}
use Rattle.wl_link.specs.Script.{Script, ScriptReceives, arrivals_after, given}
use Rattle.wl_link.specs.Stretch.{AllPieces, left_over}
use Rattle.wl_link.proofs.Readings.CuttingLaws.{byte_came}
use Rattle.wl_link.proofs.Calls.LaterLaws.{refused_there}
use Rattle.wl_link.proofs.Calls.QueueLaws.{joined_assoc, joined_nothing}
use Rattle.wl_link.proofs.Readings.ServedLaws.{both_false}

pub left_over_more : (arrivals : List (Result Queue IoFault)) (r : Result Queue IoFault) → left_over (arrivals ++ r ∷ []) ≡ joined (left_over arrivals) (came_by r)
left_over_more [] r = joined_nothing (came_by r)
left_over_more (x ∷ arrivals) r =
    ap (joined (came_by x)) (left_over_more arrivals r) ∙ sym (joined_assoc (came_by x) (left_over arrivals) (came_by r))

pub pieces_more : (arrivals : List (Result Queue IoFault)) (r : Result Queue IoFault) → AllPieces arrivals → IsFed r → AllPieces (arrivals ++ r ∷ [])
pieces_more [] r all fed = (fed, tt)
pieces_more (x ∷ arrivals) r all fed = (all.0, pieces_more arrivals r all.1 fed)

-- what a receive gives is the first of what is left over
pub record Pieces (arrivals : List (Result Queue IoFault)) (r : Result Queue IoFault) (after : List (Result Queue IoFault)) : Type 0 where
  pub fed : IsFed r
  pub came : left_over arrivals ≡ joined (came_by r) (left_over after)
  pub pieces : AllPieces after

some_taken : (n : ℕ) (bytes : List ℕ) → bytes ≢ [] → take (suc n) bytes ≢ []
some_taken n [] some none = some refl
some_taken n (b ∷ bytes) some none = let e : length (take (suc n) (b ∷ bytes)) ≡ 0 = ap length none in absurd cc

pub first_came : (n : ℕ) (arrivals : List (Result Queue IoFault))
    → left_over arrivals ≡ joined (came_by (given arrivals (suc n))) (left_over (arrivals_after arrivals (suc n)))
first_came n [] = refl
first_came n (Err f ∷ arrivals) = refl
first_came n (Ok chunk ∷ arrivals) = go (nat_le (length chunk.bytes) (suc n)) refl
  where
    first : Queue
    first = record { bytes = take (suc n) chunk.bytes; tokens = chunk.tokens }

    go : (b : Bool) → nat_le (length chunk.bytes) (suc n) ≡ b
        → joined chunk (left_over arrivals)
        ≡ joined first (left_over (cond b arrivals (Ok (record { bytes = drop (suc n) chunk.bytes; tokens = [] }) ∷ arrivals)))
    go true small =
        let whole = take_all (suc n) chunk.bytes (leb-true (length chunk.bytes) (suc n) small) in
        ap (λ (bs : List ℕ). joined (record { bytes = bs; tokens = chunk.tokens }) (left_over arrivals)) (sym whole)
    go false large =
        let others : Queue = record { bytes = drop (suc n) chunk.bytes; tokens = [] } in
        let bytes = ap (λ (bs : List ℕ). let q : Queue = record { bytes = bs; tokens = chunk.tokens } in q) (sym (take-append-drop (suc n) chunk.bytes)) in
        let fds = ap (λ (ts : List Token). let q : Queue = record { bytes = take (suc n) chunk.bytes ++ drop (suc n) chunk.bytes; tokens = ts } in q) (sym (append-nil chunk.tokens)) in
        let split : chunk ≡ joined first others = bytes ∙ fds in
        ap (λ (q : Queue). joined q (left_over arrivals)) split ∙ joined_assoc first others (left_over arrivals)

first_gives : (n : ℕ) (arrivals : List (Result Queue IoFault)) → AllPieces arrivals → Pieces arrivals (given arrivals (suc n)) (arrivals_after arrivals (suc n))
first_gives n [] all = record { fed = refl; came = refl; pieces = tt }
first_gives n (Err f ∷ arrivals) all = record { fed = all.0; came = refl; pieces = all.1 }
first_gives n (Ok chunk ∷ arrivals) all = record {
  fed = some_taken n chunk.bytes all.0;
  came = first_came n (Ok chunk ∷ arrivals);
  pieces = go (nat_le (length chunk.bytes) (suc n)) refl;
}
  where
    go : (b : Bool) → nat_le (length chunk.bytes) (suc n) ≡ b
        → AllPieces (cond b arrivals (Ok (record { bytes = drop (suc n) chunk.bytes; tokens = [] }) ∷ arrivals))
    go true small = all.1
    go false large =
        let more : suc n < length chunk.bytes = leb-false (length chunk.bytes) (suc n) large in
        (λ none. absurd (omega (arith, more, length-drop (suc n) chunk.bytes, ap length none)), all.1)

-- so does a receive that was not refused memory and was made into some room
pub script_gives_roomy : (script after : Script) (room : ℕ) (r : Result Queue IoFault) → ScriptReceives script room r after → AllPieces script.arrivals
    → counted_answer (count_of r) ≢ Err fault.OutOfMemory → room ≢ 0 → Pieces script.arrivals r after.arrivals
script_gives_roomy script after room r (inr (is, same, asks)) all memory some =
    absurd (memory (ap (λ (z : Result Queue IoFault). counted_answer (count_of z)) is))
script_gives_roomy script after zero r (inl (few, is, same)) all memory some = absurd (some refl)
script_gives_roomy script after (suc n) r (inl (few, is, same)) all memory some =
    let gives = first_gives n script.arrivals all in
    let gives' = subst (λ (z : Result Queue IoFault). Pieces script.arrivals z (arrivals_after script.arrivals (suc n))) (sym is) gives in
    subst (λ (l : List (Result Queue IoFault)). Pieces script.arrivals r l) (sym (ap (λ (x : Script). x.arrivals) same)) gives'

-- ---- what waits

module _ {T S Core Event Finish : Type 0} (sends : T → Queue → Result ℕ IoFault → T → Type 0) (others : S → Queue → Result ℕ IoFault → S → Type 0)
    (reader : Reader Core Event Finish) where
  -- what lacks data or tokens does so over each link where the same waits
  pub lacks_there : (p : ReaderState T Core) (link : LinkState S) → link.incoming ≡ p.link.incoming → Lacks sends reader p → Lacks others reader (record { core = p.core; link = link })
  lacks_there p link waits (inl lacks) =
      inl (refused_there (λ sender opcode found. found ≡ reader.signature p.core sender opcode) p.link link errors.MissingData waits lacks)
  lacks_there p link waits (inr lacks) =
      inr (refused_there (λ sender opcode found. found ≡ reader.signature p.core sender opcode) p.link link errors.MissingFD waits lacks)

none_is_some : {A : Type 0} {x : A} → None ≡ Some x → ⊥
none_is_some e = true≢false (sym (ap is_some e))

memory_blocks : Some fault.OutOfMemory ≡ Some fault.WouldBlock → ⊥
memory_blocks same = cc

no_bytes_block : (b : Bool) → ◌≡◌ {A = Result (Unit {0}) IoFault} (cond b (Err fault.Pipe) (Ok tt)) (Err fault.WouldBlock) → ⊥
no_bytes_block true same = cc
no_bytes_block false same = true≢false (ap is_ok same)

module _ {T Core Event Finish : Type 0} (sends : T → Queue → Result ℕ IoFault → T → Type 0) (receives : T → ℕ → Result Queue IoFault → T → Type 0)
    (reader : Reader Core Event Finish) (blocks : (core : Core) → reader.faulted core fault.WouldBlock ≡ core) (after : ReaderState T Core) where
  -- it would read on, and lacks data or tokens
  abbrev pub Waits : Type 0
  Waits = (reader.reads_on after.core ≡ true) × Lacks sends reader after

  waits_as : (p : ReaderState T Core) → after ≡ p → reader.reads_on p.core ≡ true → Lacks sends reader p → Waits
  waits_as p same on lacks = subst (λ (x : ReaderState T Core). (reader.reads_on x.core ≡ true) × Lacks sends reader x) (sym same) (on, lacks)

  abbrev stopped_of : Gives Event → Option IoFault
  stopped_of o = o.stopped

  abbrev refused_of : Gives Event → Bool
  refused_of o = o.refused

  -- a receive that failed because the transport would block left what waits
  blocked : (p : ReaderState T Core) (link : LinkState T) (r : Result Queue IoFault) (f : IoFault) → counted_answer (count_of r) ≡ Err f → f ≡ fault.WouldBlock
      → FilledBy receives p.link r (counted_answer (count_of r)) link → link.incoming ≡ p.link.incoming
  blocked p link (Err g) f is would filled = ap (λ (l : LinkState T). l.incoming) filled.2
  blocked p link (Ok came) f is would filled =
      absurd (no_bytes_block (eqb (length came.bytes) 0) (is ∙ ap (λ (g : IoFault). let r : Result (Unit {0}) IoFault = Err g in r) would))

  pub reading_waits : (left : ℕ) (p : ReaderState T Core) (turns : List Turn) (out : Gives Event) → Reads sends reader receives left p turns out after
      → out.stopped ≡ Some fault.WouldBlock → Waits
  reading_waits left p [] out (same, ends) waits = go (reader.reads_on p.core) refl ends
    where
      go : (b : Bool) → reader.reads_on p.core ≡ b → MatchBool b (Halts sends reader left p out) (out ≡ stops None false left) → Waits
      go true on (inl (lacks, none, is)) = waits_as p same on lacks
      go true on (inr (inl (asks, is))) = absurd (memory_blocks (sym (ap stopped_of is) ∙ waits))
      go true on (inr (inr (lacks, (n, one, is)))) = absurd (memory_blocks (sym (ap stopped_of is) ∙ waits))
      go false off is = absurd (none_is_some (sym (ap stopped_of is) ∙ waits))
  reading_waits left p (Received r ∷ turns) out (on, lacks, (n, is, (link, filled, finds, h))) waits =
      go (counted_answer (count_of r)) refl h (λ more. reading_waits n (with_link p link) turns out more waits)
    where
      go : (c : Result (Unit {0}) IoFault) → counted_answer (count_of r) ≡ c
          → MatchResult c (λ _. Reads sends reader receives n (with_link p link) turns out after)
          (λ f. (turns ≡ []) × (out ≡ stops (Some f) (lacks_memory (Err f)) n) × (after ≡ record { core = reader.faulted p.core f; link = link }))
          → (Reads sends reader receives n (with_link p link) turns out after → Waits) → Waits
      go (Ok u) was more goes = goes more
      go (Err f) was (none, ends, same) goes =
          let stopped : Some f ≡ Some fault.WouldBlock = sym (ap stopped_of ends) ∙ waits in
          let would : f ≡ fault.WouldBlock = cc in
          let core : reader.faulted p.core f ≡ p.core = ap (reader.faulted p.core) would ∙ blocks p.core in
          let end : after ≡ with_link p link = same ∙ ap (λ (c : Core). let x : ReaderState T Core = record { core = c; link = link } in x) core in
          waits_as (with_link p link) end on (lacks_there sends sends reader p link (blocked p link r f was would filled) lacks)
  reading_waits left p (Handled es ∷ turns) out (on, (v, link, first, lacked, mid, rest, found, carried, split, more)) waits =
      reading_waits left mid turns rest more (sym (ap stopped_of split) ∙ waits)
  reading_waits left p (Unread es ∷ turns) out (on, (v, link, first, lacked, mid, rest, found, carried, split, more)) waits =
      reading_waits left mid turns rest more (sym (ap stopped_of split) ∙ waits)

  -- a reading that was fed stops only because the transport would block, or for want of memory
  pub fed_blocks : (left : ℕ) (p : ReaderState T Core) (turns : List Turn) (out : Gives Event) → Reads sends reader receives left p turns out after → AllFed turns
      → out.refused ≡ false → (f : IoFault) → out.stopped ≡ Some f → f ≡ fault.WouldBlock
  fed_blocks left p [] out (same, ends) fed ample f stopped = go (reader.reads_on p.core) ends
    where
      go : (b : Bool) → MatchBool b (Halts sends reader left p out) (out ≡ stops None false left) → f ≡ fault.WouldBlock
      go true (inl (lacks, none, is)) = same_Some f fault.WouldBlock (sym stopped ∙ ap stopped_of is)
      go true (inr (inl (asks, is))) = absurd (true≢false (sym (ap refused_of is) ∙ ample))
      go true (inr (inr (lacks, (n, one, is)))) = absurd (true≢false (sym (ap refused_of is) ∙ ample))
      go false is = absurd (none_is_some (sym (ap stopped_of is) ∙ stopped))
  fed_blocks left p (Received (Ok came) ∷ turns) out (on, lacks, (n, is, (link, filled, finds, h))) (fed, others) ample f stopped =
      fed_blocks n (with_link p link) turns out
      (subst (λ (c : Result (Unit {0}) IoFault). MatchResult c (λ _. Reads sends reader receives n (with_link p link) turns out after)
      (λ f. (turns ≡ []) × (out ≡ stops (Some f) (lacks_memory (Err f)) n) × (after ≡ record { core = reader.faulted p.core f; link = link }))) (byte_came came fed) h)
      others ample f stopped
  fed_blocks left p (Received (Err g) ∷ turns) out (on, lacks, (n, is, (link, filled, finds, (none, ends, same)))) (blocked', others) ample f stopped =
      sym (same_Some g f (sym (ap stopped_of ends) ∙ stopped)) ∙ blocked'
  fed_blocks left p (Handled es ∷ turns) out (on, (v, link, first, lacked, mid, rest, found, carried, split, more)) fed ample f stopped =
      fed_blocks left mid turns rest more fed (both_false lacked rest.refused (sym ample ∙ ap refused_of split)).1 f (sym (ap stopped_of split) ∙ stopped)
  fed_blocks left p (Unread es ∷ turns) out (on, (v, link, first, lacked, mid, rest, found, carried, split, more)) fed ample f stopped =
      fed_blocks left mid turns rest more fed (both_false lacked rest.refused (sym ample ∙ ap refused_of split)).1 f (sym (ap stopped_of split) ∙ stopped)
