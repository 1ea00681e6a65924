-- That what is passed one message after another is passed.
use Rattle.std.specs.Prelude.{◌≡◌, ℕ, ◌<◌, List, [], ◌∷◌, ◌++◌, length, Option, None, Some, Result, Ok, Err}
use Rattle.std.proofs.Common.{ap, append_assoc, append-nil, arith, inl, inr, refl, subst, sym, ◌∙◌}
use Rattle.std.proofs.lemmas.List.{length-drop, take-append-drop}
use Rattle.wl_wire.specs.declared.argument.ArgumentType.{ArgumentType}
use Rattle.wl_wire.specs.declared.argument.Token.{Token}
use Rattle.wl_wire.specs.declared.error.OutOfMemory.{OutOfMemory}
use Rattle.wl_wire.specs.Message.{WireMessage}
use Rattle.wl_wire.specs.Parse.{IsThere, ReadsMessage, fd_count, length_of, payload_of}
use Rattle.wl_wire.specs.Table.{InterfaceRow, MessageRow}
use Rattle.wl_link.specs.declared.object.Object.{Object}
use Rattle.wl_link.specs.Exchange.{Queue, joined}
use Rattle.wl_link.specs.HandOn.{first_of}
use Rattle.wl_link.specs.Link.{after_first}
use Rattle.wl_link.specs.Store.{Store}
use Rattle.wl_link.proofs.Calls.QueueLaws.{joined_assoc, joined_nothing, queue_is}
use Rattle.wl_link.proofs.Calls.ReadLaws.{reads_enough}
use Rattle.wl_follow.specs.Fronts.{HasNoMessage, ReadsKnown}
use Rattle.wl_follow.specs.declared.front.NoMessage.{NoMessage}
use Rattle.wl_follow.specs.declared.front.NoMessage.TheVariants as none
use Rattle.wl_follow.specs.declared.side.Fault.{Fault}
use Rattle.wl_follow.specs.declared.side.Side.{Side}
use Rattle.wl_guard.specs.Known.{Known}
use Rattle.wl_guard.specs.Passages.{Awaits, Breaks, IsPassed, Judges, NotesUnder, Passage, Passes, all_pieces, all_released, all_sent, ended_after, released_for, rule_of, sent_for}
use Rattle.wl_guard.specs.Policy.{PolicyState}
use Rattle.wl_guard.specs.Steps.{HasPassed, PassesUpTo, Stays, StepsAs, UnreadAs}
use Rattle.wl_guard.specs.declared.session.Fate.{Fate}
use Rattle.wl_guard.specs.declared.session.Passed.{Passed}
use Rattle.wl_guard.specs.declared.session.Passed.TheVariants as passed
use Rattle.wl_guard.specs.declared.session.Rule.{Rule}
use Rattle.wl_guard.specs.declared.session.Told.{Told}

pub sent_append : (xs ys : List Passage) → all_sent (xs ++ ys) ≡ joined (all_sent xs) (all_sent ys)
sent_append [] ys = refl
sent_append (x ∷ xs) ys = ap (λ (q : Queue). joined x.sent q) (sent_append xs ys) ∙ sym (joined_assoc x.sent (all_sent xs) (all_sent ys))

pub pieces_append : (xs ys : List Passage) → all_pieces (xs ++ ys) ≡ joined (all_pieces xs) (all_pieces ys)
pieces_append [] ys = refl
pieces_append (x ∷ xs) ys = ap (λ (q : Queue). joined x.piece q) (pieces_append xs ys) ∙ sym (joined_assoc x.piece (all_pieces xs) (all_pieces ys))

pub released_append : (xs ys : List Passage) → all_released (xs ++ ys) ≡ all_released xs ++ all_released ys
released_append [] ys = refl
released_append (x ∷ xs) ys =
    ap (λ (ts : List Token). x.released ++ ts) (released_append xs ys) ∙ sym (append_assoc x.released (all_released xs) (all_released ys))

-- the first message and what follows it
first_is : (signature : List ArgumentType) (q : Queue) → joined (first_of signature q) (after_first signature q) ≡ q
first_is signature q = queue_is _ _ (take-append-drop (length_of q.bytes) q.bytes) (take-append-drop (fd_count signature) q.tokens)

-- a message that is read is there
pub is_there : (q : Queue) (signature : List ArgumentType) (m : WireMessage) → ReadsMessage q.bytes signature q.tokens m → IsThere q.bytes signature q.tokens
is_there q signature m reads = (reads.whole, reads_enough signature m.args (payload_of q.bytes) q.tokens reads.args)

-- and fewer bytes are left without it
fewer : (q : Queue) (signature : List ArgumentType) → IsThere q.bytes signature q.tokens → length (after_first signature q).bytes < length q.bytes
fewer q signature there =
    let whole = there.0 in
    omega (arith, whole.counts_header, whole.there, length-drop (length_of q.bytes) q.bytes)

module _ (p : PolicyState) (side : Side) where
  pub passes_append : (xs ys : List Passage) (k k1 k2 : Known) (q q1 q2 : Queue) → Passes p side k q xs k1 q1 → Passes p side k1 q1 ys k2 q2
      → Passes p side k q (xs ++ ys) k2 q2
  passes_append [] ys k k1 k2 q q1 q2 none more =
      subst (λ (x : Queue). Passes p side k x ys k2 q2) none.1 (subst (λ (s : Known). Passes p side s q1 ys k2 q2) none.0 more)
  passes_append (x ∷ xs) ys k k1 k2 q q1 q2 some more = (some.0, some.1, some.2, passes_append xs ys some.0 k1 k2 some.1 q1 q2 some.3 more)

  -- what they are and what follows them is what came
  pub pieces_are : (xs : List Passage) (k k' : Known) (q rest : Queue) → Passes p side k q xs k' rest → joined (all_pieces xs) rest ≡ q
  pieces_are [] k k' q rest none = none.1
  pieces_are (x ∷ xs) k k' q rest some =
      let one = some.2 in
      joined_assoc x.piece (all_pieces xs) rest
      ∙ ap (λ (r : Queue). joined x.piece r) (pieces_are xs some.0 k' some.1 rest some.3)
      ∙ ap (λ (f : Queue). joined f some.1) one.piece
      ∙ ap (λ (r : Queue). joined (first_of one.row.signature q) r) one.after
      ∙ first_is one.row.signature q

  pub passed_nothing : (k : Known) (q out : Queue) (released : List Token) → HasPassed p side k q out released k q out released
  passed_nothing k q out released = record {
    passages = [];
    passes = (refl, refl);
    out_is = sym (joined_nothing out);
    released_is = sym (append-nil released);
  }

  -- a message more
  pub passed_one : (k k1 k2 : Known) (q q1 q2 out out1 out2 : Queue) (released released1 released2 : List Token)
      → HasPassed p side k q out released k1 q1 out1 released1 → StepsAs p side k1 q1 out1 released1 (Ok passed.One) k2 q2 out2 released2
      → HasPassed p side k q out released k2 q2 out2 released2
  passed_one k k1 k2 q q1 q2 out out1 out2 released released1 released2 before step =
      let x = step.0.0 in
      let xs = before.passages in record {
        passages = xs ++ x ∷ [];
        passes = passes_append xs (x ∷ []) k k1 k2 q q1 q2 before.passes (k2, q2, step.0.1, (refl, refl));
        out_is = step.0.2 ∙ ap (λ (o : Queue). joined o x.sent) before.out_is ∙ joined_assoc out (all_sent xs) x.sent
            ∙ ap (λ (o : Queue). joined out (joined (all_sent xs) o)) (sym (joined_nothing x.sent))
            ∙ ap (λ (o : Queue). joined out o) (sym (sent_append xs (x ∷ [])));
        released_is = step.0.3 ∙ ap (λ (ts : List Token). ts ++ x.released) before.released_is ∙ append_assoc released (all_released xs) x.released
            ∙ ap (λ (ts : List Token). released ++ (all_released xs ++ ts)) (sym (append-nil x.released))
            ∙ ap (λ (ts : List Token). released ++ ts) (sym (released_append xs (x ∷ [])));
      }

  -- nothing more
  passed_so : (k k1 : Known) (q q1 q2 out out1 out2 : Queue) (released released1 released2 : List Token)
      → HasPassed p side k q out released k1 q1 out1 released1 → Stays q1 out1 released1 q2 out2 released2
      → HasPassed p side k q out released k1 q2 out2 released2
  passed_so k k1 q q1 q2 out out1 out2 released released1 released2 before stays = record {
    passages = before.passages;
    passes = subst (λ (x : Queue). Passes p side k q before.passages k1 x) (sym stays.0) before.passes;
    out_is = stays.1 ∙ before.out_is;
    released_is = stays.2 ∙ before.released_is;
  }

  pub awaiting : (k k1 k2 : Known) (q q1 q2 out out1 out2 : Queue) (released released1 released2 : List Token)
      → HasPassed p side k q out released k1 q1 out1 released1 → StepsAs p side k1 q1 out1 released1 (Ok passed.Nothing) k2 q2 out2 released2
      → PassesUpTo p side k q out released (Ok None) k2 q2 out2 released2
  awaiting k k1 k2 q q1 q2 out out1 out2 released released1 released2 before step = (
    k1,
    passed_so k k1 q q1 q2 out out1 out2 released released1 released2 before step.1,
    (step.0, subst (λ (x : Queue). Awaits p side k1 x) (sym step.1.0) step.2),
  )

  pub broken : (r : Rule) (k k1 k2 : Known) (q q1 q2 out out1 out2 : Queue) (released released1 released2 : List Token)
      → HasPassed p side k q out released k1 q1 out1 released1 → StepsAs p side k1 q1 out1 released1 (Ok (passed.Breach r)) k2 q2 out2 released2
      → PassesUpTo p side k q out released (Ok (Some r)) k2 q2 out2 released2
  broken r k k1 k2 q q1 q2 out out1 out2 released released1 released2 before step = (
    k1,
    passed_so k k1 q q1 q2 out out1 out2 released released1 released2 before step.0,
    (step.1, subst (λ (x : Queue). Breaks p side k1 x r) (sym step.0.0) step.2),
  )

  pub without_memory : (e : OutOfMemory) (k k1 k2 : Known) (q q1 q2 out out1 out2 : Queue) (released released1 released2 : List Token)
      → HasPassed p side k q out released k1 q1 out1 released1 → StepsAs p side k1 q1 out1 released1 (Err e) k2 q2 out2 released2
      → PassesUpTo p side k q out released (Err e) k2 q2 out2 released2
  without_memory e k k1 k2 q q1 q2 out out1 out2 released released1 released2 before step =
      (k1, passed_so k k1 q q1 q2 out out1 out2 released released1 released2 before step, tt)

  -- what was judged of the length that the header says
  judged_as : (k : Known) (q : Queue) (object : Object (Unit {0})) (row : MessageRow) (m : WireMessage) (told' : List Told) (seen : List ℕ) (len : ℕ) (verdict is_so : Result Fate Rule)
      → seen ≡ k.ended → len ≡ length_of q.bytes → verdict ≡ is_so → Judges p side k.told seen object row m len verdict told'
      → Judges p side k.told k.ended object row m (length_of q.bytes) is_so told'
  judged_as k q object row m told' seen len verdict is_so seen_is len_is is judged =
      subst (λ (n : ℕ). Judges p side k.told k.ended object row m n is_so told') len_is
      (subst (λ (v : Result Fate Rule). Judges p side k.told k.ended object row m len v told') is
      (subst (λ (ns : List ℕ). Judges p side k.told ns object row m len verdict told') seen_is judged))

  -- a message that was read, judged and noted, and then carried
  pub found_passed : (k : Known) (o' : Store (Unit {0})) (told' : List Told) (ended' : List ℕ) (q q' out out' : Queue) (released released' : List Token) (object : Object (Unit {0}))
      (row : MessageRow) (m : WireMessage) (f : Fate) (signature : List ArgumentType) (seen : List ℕ) (len : ℕ) (verdict : Result Fate Rule) (fault : Option Fault)
      → ReadsKnown p.table k.objects side q object row m → seen ≡ k.ended → len ≡ length_of q.bytes → verdict ≡ Ok f → Judges p side k.told seen object row m len verdict told'
      → fault ≡ None → NotesUnder p.table side object row m f k.objects fault o' → ended' ≡ ended_after side object.interface row m f k.ended → signature ≡ row.signature
      → out' ≡ joined out (sent_for f signature q m) → released' ≡ released ++ released_for f signature q → q' ≡ after_first signature q
      → StepsAs p side k q out released (Ok passed.One) (record { objects = o'; told = told'; ended = ended' }) q' out' released'
  found_passed k o' told' ended' q q' out out' released released' object row m f signature seen len verdict fault reads seen_is len_is is judged fault_is noted ended under sent back taken =
      let x : Passage = record { fate = f; piece = first_of row.signature q; sent = sent_for f row.signature q m; released = released_for f row.signature q } in
      let passed : IsPassed p side k q x (record { objects = o'; told = told'; ended = ended' }) q' = record {
        object = object;
        row = row;
        message = m;
        reads = reads;
        judged = judged_as k q object row m told' seen len verdict (Ok f) seen_is len_is is judged;
        noted = subst (λ (x : Option Fault). NotesUnder p.table side object row m f k.objects x o') fault_is noted;
        ended = ended;
        piece = refl;
        sent = refl;
        released = refl;
        after = taken ∙ ap (λ (s : List ArgumentType). after_first s q) under;
      } in
      let sent_is : out' ≡ joined out x.sent = sent ∙ ap (λ (s : List ArgumentType). joined out (sent_for f s q m)) under in
      let back_is : released' ≡ released ++ x.released = back ∙ ap (λ (s : List ArgumentType). released ++ released_for f s q) under in
      let less : length q'.bytes < length q.bytes =
      subst (λ (y : Queue). length y.bytes < length q.bytes) (sym (taken ∙ ap (λ (s : List ArgumentType). after_first s q) under))
      (fewer q row.signature (is_there q row.signature m reads.1)) in
      ((x, passed, sent_is, back_is), less)

  -- one that was read, and breaks a rule
  pub judged_broken : (k : Known) (q : Queue) (object : Object (Unit {0})) (row : MessageRow) (m : WireMessage) (r : Rule) (told' : List Told) (seen : List ℕ) (len : ℕ) (verdict : Result Fate Rule)
      → ReadsKnown p.table k.objects side q object row m → seen ≡ k.ended → len ≡ length_of q.bytes → verdict ≡ Err r
      → Judges p side k.told seen object row m len verdict told'
      → Breaks p side k q r
  judged_broken k q object row m r told' seen len verdict reads seen_is len_is is judged = inr (inr (record {
    object = object;
    row = row;
    message = m;
    reads = reads;
    how = inl (told', judged_as k q object row m told' seen len verdict (Err r) seen_is len_is is judged);
  }))

  -- or whose objects cannot be noted
  pub noted_broken : (k : Known) (q : Queue) (object : Object (Unit {0})) (row : MessageRow) (m : WireMessage) (r : Rule) (told' : List Told) (seen : List ℕ) (len : ℕ) (verdict : Result Fate Rule)
      (f : Fate) (fault : Option Fault) (reason : Fault) (o' : Store (Unit {0}))
      → ReadsKnown p.table k.objects side q object row m → seen ≡ k.ended → len ≡ length_of q.bytes → verdict ≡ Ok f
      → Judges p side k.told seen object row m len verdict told' → fault ≡ Some reason → NotesUnder p.table side object row m f k.objects fault o' → r ≡ rule_of reason → Breaks p side k q r
  noted_broken k q object row m r told' seen len verdict f fault reason o' reads seen_is len_is is judged fault_is noted rule_is = inr (inr (record {
    object = object;
    row = row;
    message = m;
    reads = reads;
    how = inr (
      f,
      told',
      judged_as k q object row m told' seen len verdict (Ok f) seen_is len_is is judged,
      (reason, o', subst (λ (x : Option Fault). NotesUnder p.table side object row m f k.objects x o') fault_is noted, rule_is),
    );
  }))

  -- no message was read
  pub unread_steps : (k : Known) (q q' out : Queue) (released : List Token) (reason : NoMessage) (answer : Result Passed OutOfMemory) → q' ≡ q
      → HasNoMessage p.table k.objects side q reason → UnreadAs reason answer → StepsAs p side k q out released answer k q' out released
  unread_steps k q q' out released (none.Unknown sender opcode) answer same lacks is =
      subst (λ (a : Result Passed OutOfMemory). StepsAs p side k q out released a k q' out released) (sym is) ((same, refl, refl), refl, inl (refl, (sender, opcode, lacks)))
  unread_steps k q q' out released none.Incomplete answer same lacks is =
      subst (λ (a : Result Passed OutOfMemory). StepsAs p side k q out released a k q' out released) (sym is) (refl, (same, refl, refl), lacks)
  unread_steps k q q' out released none.Malformed answer same lacks is =
      subst (λ (a : Result Passed OutOfMemory). StepsAs p side k q out released a k q' out released) (sym is) ((same, refl, refl), refl, inr (inl (refl, lacks)))
  unread_steps k q q' out released none.OutOfMemory (Ok x) same lacks is = let e = is in absurd cc
  unread_steps k q q' out released none.OutOfMemory (Err e) same lacks is = (same, refl, refl)

-- the same of what was read of the side
pub steps_of : (p : PolicyState) (by side : Side) (k k' : Known) (q q1 q' out out' : Queue) (released released' : List Token) (answer : Result Passed OutOfMemory)
    → by ≡ side → q1 ≡ q → StepsAs p by k q1 out released answer k' q' out' released' → StepsAs p side k q out released answer k' q' out' released'
steps_of p by side k k' q q1 q' out out' released released' answer by_is same steps =
    subst (λ (s : Side). StepsAs p s k q out released answer k' q' out' released') by_is
    (subst (λ (x : Queue). StepsAs p by k x out released answer k' q' out' released') same steps)

pub reads_of : (table : List InterfaceRow) (o : Store (Unit {0})) (by side : Side) (q q1 : Queue) (object : Object (Unit {0})) (row : MessageRow) (m : WireMessage)
    → by ≡ side → q1 ≡ q → ReadsKnown table o side q object row m → ReadsKnown table o by q1 object row m
reads_of table o by side q q1 object row m by_is same reads =
    subst (λ (s : Side). ReadsKnown table o s q1 object row m) (sym by_is) (subst (λ (x : Queue). ReadsKnown table o side x object row m) (sym same) reads)

pub is_there_under : (q : Queue) (signature under : List ArgumentType) (m : WireMessage) → under ≡ signature → ReadsMessage q.bytes signature q.tokens m
    → IsThere q.bytes under q.tokens
is_there_under q signature under m is reads = subst (λ (s : List ArgumentType). IsThere q.bytes s q.tokens) (sym is) (is_there q signature m reads)
