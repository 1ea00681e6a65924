-- The stream law and the cutting law.
use Rattle.std.specs.Prelude.{◌≡◌, ◌≢◌, ℕ, ◌≤◌, ◌⊎◌, List, [], ◌∷◌, ◌++◌, length, take, drop, nat_le, true, false, MatchOption, Option, Some, None, Result, Ok, Err}
use Rattle.std.specs.List.{AllByRecursion}
use Rattle.std.proofs.Common.{refl, sym, ◌∙◌, ap, subst, inl, inr, arith, length-append}
use Rattle.std.proofs.lemmas.Bool.{le-leb, cases_Bool, MatchBool-at_true, MatchBool-at_false}
use Rattle.std.proofs.lemmas.List.{append-nil, take_at, drop_at, take-append-le, take-append-drop, drop-append-le}
use Rattle.wl_wire.specs.declared.argument.ArgumentType.{ArgumentType}
use Rattle.wl_wire.specs.declared.argument.Token.{Token}
use Rattle.wl_wire.specs.declared.error.IoFault.{IoFault}
use Rattle.wl_wire.specs.declared.error.MessageParseError.{MessageParseError}
use Rattle.wl_wire.specs.declared.error.MessageParseError.TheVariants as errors
use Rattle.wl_wire.specs.Argument.{Matches}
use Rattle.wl_wire.specs.Message.{WireMessage, size, spelling, tokens}
use Rattle.wl_wire.specs.Parse.{length_of, sender_of, opcode_of, payload_of, fd_count, ReadsMessage}
use Rattle.wl_wire.specs.Stream.{Stream}
use Rattle.wl_wire.proofs.Spelling.CursorLaws.{reads_tokens}
use Rattle.wl_wire.proofs.Spelling.RoundTrip.{length-spelling, sender-spelling, length_of-spelling, opcode_of-spelling, written_is_read_lem, one_message_lem}
use Rattle.wl_wire.proofs.Spelling.FrontLaws.{length_front, opcode_front, sender_front}
use Rattle.wl_link.specs.Exchange.{Queue, Sending, joined, nothing, IsWithinOffer}
use Rattle.wl_link.specs.Link.{LinkState, with_transport, FlushedBy, WroteBy, with_came, after_first, ReadFound, ReadOne, spelled}
use Rattle.wl_link.specs.NothingLost.{taken, NoZero, LosesNothing, queued_by}
use Rattle.wl_link.proofs.Calls.NothingLostLaws.{flush_kept, write_kept, gone-taken}
use Rattle.wl_link.proofs.Calls.QueueLaws.{queue_is, joined_assoc, joined_nothing}
use Rattle.wl_link.proofs.Calls.ReadLaws.{reads_enough, refused_though_read, read_under_other}
use Rattle.wl_link.specs.Sides.{SenderCall, SenderRun, written_by, written, all_taken, NoneZero, ReceiverCall, ByFill, ByRead, ReceiverStep, ReceiverRun, brought_by, all_came, messages_read, spelled_all, IsReadable, StreamLaw, AllReadLaw, CuttingLaw, TakesFirst, ReadTakes}

-- ---- queues behind one another

kept_joined : (es : List Sending) (before added after : Queue) → NoZero es → LosesNothing es before added after → joined (taken es) after ≡ joined before added
kept_joined es before added after none kept =
    queue_is _ _ kept.bytes (ap (λ (ts : List Token). ts ++ after.tokens) (sym (gone-taken es none)) ∙ kept.tokens)

pub spelled_all-append : (ms ns : List WireMessage) → spelled_all (ms ++ ns) ≡ joined (spelled_all ms) (spelled_all ns)
spelled_all-append [] ns = refl
spelled_all-append (m ∷ ms) ns = ap (λ (q : Queue). joined (spelled m) q) (spelled_all-append ms ns) ∙ sym (joined_assoc (spelled m) (spelled_all ms) (spelled_all ns))

-- ---- the sending side

module _ {T : Type 0} (sends : T → Queue → Result ℕ IoFault → T → Type 0) (within : IsWithinOffer sends) where
  added_spelled : (m : WireMessage) (answer : Result (Unit {0}) IoFault) → queued_by answer m ≡ spelled_all (written_by (Some m) answer)
  added_spelled m (Ok u) = sym (joined_nothing (spelled m))
  added_spelled m (Err fault) = refl

  step_kept : (before after : LinkState T) (message : Option WireMessage) (es : List Sending) (answer : Result (Unit {0}) IoFault) → NoZero es
      → MatchOption message (FlushedBy sends before es answer after) (λ m. WroteBy sends before m es answer after)
      → joined (taken es) after.outgoing ≡ joined before.outgoing (spelled_all (written_by message answer))
  step_kept before after None es answer none step =
      kept_joined es before.outgoing nothing after.outgoing none (flush_kept sends within before after es answer step)
  step_kept before after (Some m) es answer none step =
      kept_joined es before.outgoing (queued_by answer m) after.outgoing none (write_kept sends within m after answer before es step)
      ∙ ap (λ (q : Queue). joined before.outgoing q) (added_spelled m answer)

  pub sender_kept : (before after : LinkState T) (cs : List SenderCall) → SenderRun sends before cs after → NoneZero cs
      → joined (all_taken cs) after.outgoing ≡ joined before.outgoing (spelled_all (written cs))
  sender_kept before after [] run none = ap (λ (l : LinkState T). l.outgoing) run ∙ sym (joined_nothing before.outgoing)
  sender_kept before after (c ∷ cs) run none =
      let first : joined (taken c.sends) run.1.outgoing ≡ joined before.outgoing (spelled_all (written_by c.message c.answer))
      = step_kept (with_transport before run.0) run.1 c.message c.sends c.answer none.0 run.2 in
      let others : joined (all_taken cs) after.outgoing ≡ joined run.1.outgoing (spelled_all (written cs)) = sender_kept run.1 after cs run.3 none.1 in
      joined_assoc (taken c.sends) (all_taken cs) after.outgoing
      ∙ ap (λ (q : Queue). joined (taken c.sends) q) others
      ∙ sym (joined_assoc (taken c.sends) run.1.outgoing (spelled_all (written cs)))
      ∙ ap (λ (q : Queue). joined q (spelled_all (written cs))) first
      ∙ joined_assoc before.outgoing (spelled_all (written_by c.message c.answer)) (spelled_all (written cs))
      ∙ ap (λ (q : Queue). joined before.outgoing q) (sym (spelled_all-append (written_by c.message c.answer) (written cs)))

-- ---- the receiving side

-- the message that is read is the first of those whose spelling waits, and the others' spelling is left
module _ (look_up : ℕ → ℕ → Option (List ArgumentType)) (waiting pending : Queue) (signature : List ArgumentType) (m : WireMessage)
    (looked : look_up (sender_of waiting.bytes) (opcode_of waiting.bytes) ≡ Some signature)
    (reads : ReadsMessage waiting.bytes signature waiting.tokens m) where
  nothing_spelled : joined waiting pending ≡ nothing → ⊥
  nothing_spelled is = omega (arith, ap (λ (q : Queue). length q.bytes) is, length-append waiting.bytes pending.bytes, reads.whole.header)

  module _ (n : WireMessage) (ns : List WireMessage) (readable : IsReadable look_up n)
      (spelled_is : joined waiting pending ≡ spelled_all (n ∷ ns)) where
    bytes_are : waiting.bytes ++ pending.bytes ≡ spelling n ++ (spelled_all ns).bytes
    bytes_are = ap (λ (q : Queue). q.bytes) spelled_is

    tokens_are : waiting.tokens ++ pending.tokens ≡ tokens n.args ++ (spelled_all ns).tokens
    tokens_are = ap (λ (q : Queue). q.tokens) spelled_is

    length_is : length_of waiting.bytes ≡ size n
    length_is = sym (length_front waiting.bytes pending.bytes reads.whole.header) ∙ ap length_of bytes_are ∙ length_of-spelling n (spelled_all ns).bytes readable.message

    fits : length (spelling n) ≤ length waiting.bytes
    fits = omega (arith, length_is, length-spelling n, reads.whole.there)

    bytes_front : waiting.bytes ≡ spelling n ++ drop (length (spelling n)) waiting.bytes
    bytes_front =
        let first : take (length (spelling n)) waiting.bytes ≡ spelling n
        = sym (take-append-le (length (spelling n)) waiting.bytes pending.bytes fits)
        ∙ ap (λ (bs : List ℕ). take (length (spelling n)) bs) bytes_are ∙ take_at (spelling n) (spelled_all ns).bytes (length (spelling n)) refl in
        sym (take-append-drop (length (spelling n)) waiting.bytes) ∙ ap (λ (bs : List ℕ). bs ++ drop (length (spelling n)) waiting.bytes) first

    bytes_left : drop (length (spelling n)) waiting.bytes ++ pending.bytes ≡ (spelled_all ns).bytes
    bytes_left =
        sym (drop-append-le (length (spelling n)) waiting.bytes pending.bytes fits)
        ∙ ap (λ (bs : List ℕ). drop (length (spelling n)) bs) bytes_are ∙ drop_at (spelling n) (spelled_all ns).bytes (length (spelling n)) refl

    sender_is : sender_of waiting.bytes ≡ n.sender
    sender_is = sym (sender_front waiting.bytes pending.bytes reads.whole.header) ∙ ap sender_of bytes_are ∙ sender-spelling n (spelled_all ns).bytes readable.message

    opcode_is : opcode_of waiting.bytes ≡ n.opcode
    opcode_is = sym (opcode_front waiting.bytes pending.bytes reads.whole.header) ∙ ap opcode_of bytes_are ∙ opcode_of-spelling n (spelled_all ns).bytes readable.message

    signature_is : readable.signature ≡ signature
    signature_is =
        let found : Some readable.signature ≡ Some signature
        = sym readable.looked_up ∙ ap (λ (s : ℕ). look_up s n.opcode) (sym sender_is) ∙ ap (look_up (sender_of waiting.bytes)) (sym opcode_is) ∙ looked in
        cc

    matching : Matches signature n.args
    matching = subst (λ (k : List ArgumentType). Matches k n.args) signature_is readable.matches

    token_count : length (tokens n.args) ≡ fd_count signature
    token_count =
        let read = written_is_read_lem n signature [] [] readable.message matching in
        reads_tokens signature n.args _ _ read.args

    enough : length (tokens n.args) ≤ length waiting.tokens
    enough = omega (arith, token_count, reads_enough signature m.args (payload_of waiting.bytes) waiting.tokens reads.args)

    tokens_front : waiting.tokens ≡ tokens n.args ++ drop (length (tokens n.args)) waiting.tokens
    tokens_front =
        let first : take (length (tokens n.args)) waiting.tokens ≡ tokens n.args
        = sym (take-append-le (length (tokens n.args)) waiting.tokens pending.tokens enough)
        ∙ ap (λ (ts : List Token). take (length (tokens n.args)) ts) tokens_are ∙ take_at (tokens n.args) (spelled_all ns).tokens (length (tokens n.args)) refl in
        sym (take-append-drop (length (tokens n.args)) waiting.tokens) ∙ ap (λ (ts : List Token). ts ++ drop (length (tokens n.args)) waiting.tokens) first

    tokens_left : drop (length (tokens n.args)) waiting.tokens ++ pending.tokens ≡ (spelled_all ns).tokens
    tokens_left =
        sym (drop-append-le (length (tokens n.args)) waiting.tokens pending.tokens enough)
        ∙ ap (λ (ts : List Token). drop (length (tokens n.args)) ts) tokens_are ∙ drop_at (tokens n.args) (spelled_all ns).tokens (length (tokens n.args)) refl

    first_is : m ≡ n
    first_is =
        let read = written_is_read_lem n signature (drop (length (spelling n)) waiting.bytes) (drop (length (tokens n.args)) waiting.tokens) readable.message matching in
        let read' = subst (λ (bs : List ℕ). ReadsMessage bs signature (tokens n.args ++ drop (length (tokens n.args)) waiting.tokens) n) (sym bytes_front) read in
        one_message_lem m n waiting.bytes signature waiting.tokens reads (subst (λ (ts : List Token). ReadsMessage waiting.bytes signature ts n) (sym tokens_front) read')

    left_is : joined (after_first signature waiting) pending ≡ spelled_all ns
    left_is =
        queue_is _ _
        (ap (λ (k : ℕ). drop k waiting.bytes ++ pending.bytes) (length_is ∙ sym (length-spelling n)) ∙ bytes_left)
        (ap (λ (k : ℕ). drop k waiting.tokens ++ pending.tokens) (sym token_count) ∙ tokens_left)

-- what is left to be read: the messages that were read are the first, and the others' spelling waits or is pending
pub record Left (look_up : ℕ → ℕ → Option (List ArgumentType)) (ms read : List WireMessage) (waiting pending : Queue) : Type 0 where
  pub left : List WireMessage
  pub whole : ms ≡ read ++ left
  pub spelled_is : joined waiting pending ≡ spelled_all left
  pub readable : AllByRecursion (IsReadable look_up) left

module _ {T : Type 0} (receives : T → ℕ → Result Queue IoFault → T → Type 0) (look_up : ℕ → ℕ → Option (List ArgumentType)) (pending : Queue) where
  -- what a run does to each stream of readable messages
  abbrev pub Carries : Queue → List ReceiverCall → Queue → Type 0
  Carries before cs after =
      (ms : List WireMessage) → AllByRecursion (IsReadable look_up) ms → joined before (joined (all_came cs) pending) ≡ spelled_all ms
      → Left look_up ms (messages_read cs) after pending

  carries_filled : (received : Option (Result Queue IoFault)) (cs : List ReceiverCall) (before mid after : Queue) → mid ≡ joined before (brought_by (ByFill received))
      → Carries mid cs after → Carries before (ByFill received ∷ cs) after
  carries_filled received cs before mid after is others ms readable spelled_is =
      others ms readable
      (ap (λ (q : Queue). joined q (joined (all_came cs) pending)) is
      ∙ joined_assoc before (brought_by (ByFill received)) (joined (all_came cs) pending)
      ∙ ap (λ (q : Queue). joined before q) (sym (joined_assoc (brought_by (ByFill received)) (all_came cs) pending)) ∙ spelled_is)

  carries_first : (cs : List ReceiverCall) (before after : Queue) (signature : List ArgumentType) (m : WireMessage)
      → look_up (sender_of before.bytes) (opcode_of before.bytes) ≡ Some signature → ReadsMessage before.bytes signature before.tokens m
      → Carries (after_first signature before) cs after → Carries before (ByRead (Ok m) ∷ cs) after
  carries_first cs before after signature m looked reads others [] readable spelled_is =
      absurd (nothing_spelled look_up before (joined (all_came cs) pending) signature m looked reads spelled_is)
  carries_first cs before after signature m looked reads others (n ∷ ns) readable spelled_is =
      let later : Queue = joined (all_came cs) pending in
      let o = others ns readable.1 (left_is look_up before later signature m looked reads n ns readable.0 spelled_is) in record {
        left = o.left;
        whole = ap (λ (xs : List WireMessage). n ∷ xs) o.whole
            ∙ ap (λ (x : WireMessage). x ∷ (messages_read cs ++ o.left)) (sym (first_is look_up before later signature m looked reads n ns readable.0 spelled_is));
        spelled_is = o.spelled_is;
        readable = o.readable;
      }

  -- the message at the front was read, and is gone
  abbrev pub FirstRead : LinkState T → WireMessage → LinkState T → Type 0
  FirstRead before m after =
      (signature : List ArgumentType) × (look_up (sender_of before.incoming.bytes) (opcode_of before.incoming.bytes) ≡ Some signature)
      × ReadsMessage before.incoming.bytes signature before.incoming.tokens m × (after.incoming ≡ after_first signature before.incoming)

  pub read_left : (before after : LinkState T) (m : WireMessage) → ReadOne (λ sender opcode found. found ≡ look_up sender opcode) before (Ok m) after
      → FirstRead before m after
  read_left before after m read = at (cases_Bool (nat_le 8 (length before.incoming.bytes)))
    where
      found : (f : Option (List ArgumentType)) → f ≡ look_up (sender_of before.incoming.bytes) (opcode_of before.incoming.bytes)
          → ReadFound f before (Ok m) after → FirstRead before m after
      found None is none = let e = none.0 in absurd cc
      found (Some signature) is under = (signature, sym is, under.0, ap (λ (l : LinkState T). l.incoming) under.1)

      at : (nat_le 8 (length before.incoming.bytes) ≡ true) ⊎ (nat_le 8 (length before.incoming.bytes) ≡ false) → FirstRead before m after
      at (inl header) = let r = MatchBool-at_true _ _ header read in found r.0 r.1 r.2
      at (inr short) = let r = MatchBool-at_false _ _ short read in let e = r.0 in absurd cc

  pub read_same : (before after : LinkState T) (e : MessageParseError) → ReadOne (λ sender opcode found. found ≡ look_up sender opcode) before (Err e) after → after ≡ before
  read_same before after e read = at (cases_Bool (nat_le 8 (length before.incoming.bytes)))
    where
      found : (f : Option (List ArgumentType)) → ReadFound f before (Err e) after → after ≡ before
      found None none = none.1
      found (Some signature) under = under.2

      at : (nat_le 8 (length before.incoming.bytes) ≡ true) ⊎ (nat_le 8 (length before.incoming.bytes) ≡ false) → after ≡ before
      at (inl header) = let r = MatchBool-at_true _ _ header read in found r.0 r.2
      at (inr short) = (MatchBool-at_false _ _ short read).1

  carries_read : (before mid after : LinkState T) (answer : Result WireMessage MessageParseError) (cs : List ReceiverCall)
      → ReadOne (λ sender opcode found. found ≡ look_up sender opcode) before answer mid → Carries mid.incoming cs after.incoming
      → Carries before.incoming (ByRead answer ∷ cs) after.incoming
  carries_read before mid after (Ok m) cs read others =
      let r = read_left before mid m read in
      carries_first cs before.incoming after.incoming r.0 m r.1 r.2 (subst (λ (q : Queue). Carries q cs after.incoming) r.3 others)
  carries_read before mid after (Err e) cs read others =
      subst (λ (q : Queue). Carries q cs after.incoming) (ap (λ (l : LinkState T). l.incoming) (read_same before mid e read)) others

  came_is : (before : Queue) (r : Result Queue IoFault) → with_came before r ≡ joined before (brought_by (ByFill (Some r)))
  came_is before (Ok came) = refl
  came_is before (Err fault) = sym (joined_nothing before)

  step_carries : (before mid after : LinkState T) (c : ReceiverCall) (cs : List ReceiverCall) → ReceiverStep receives look_up before c mid
      → Carries mid.incoming cs after.incoming → Carries before.incoming (c ∷ cs) after.incoming
  step_carries before mid after (ByFill None) cs step others =
      carries_filled None cs before.incoming mid.incoming after.incoming (ap (λ (l : LinkState T). l.incoming) step ∙ sym (joined_nothing before.incoming)) others
  step_carries before mid after (ByFill (Some received)) cs step others =
      carries_filled (Some received) cs before.incoming mid.incoming after.incoming
      (ap (λ (l : LinkState T). l.incoming) step.1.2 ∙ came_is before.incoming received) others
  step_carries before mid after (ByRead answer) cs step others = carries_read before mid after answer cs step others

  pub receiver_carries : (before after : LinkState T) (cs : List ReceiverCall) → ReceiverRun receives look_up before cs after
      → Carries before.incoming cs after.incoming
  receiver_carries before after [] run = λ ms readable spelled_is. record {
    left = ms;
    whole = refl;
    spelled_is = ap (λ (l : LinkState T). joined l.incoming pending) run ∙ spelled_is;
    readable = readable;
  }
  receiver_carries before after (c ∷ cs) run =
      step_carries (with_transport before run.0) run.1 after c cs run.2 (receiver_carries run.1 after cs run.3)

-- ---- the laws

pub stream_law : {S R : Type 0} (sends : S → Queue → Result ℕ IoFault → S → Type 0) (receives : R → ℕ → Result Queue IoFault → R → Type 0)
    → IsWithinOffer sends → StreamLaw sends receives
stream_law sends receives within look_up start end sent empty full got under_way out fresh none readable in_ starts carried =
    let o = receiver_carries receives look_up (joined under_way end.outgoing) empty full got in_ (written sent) readable (stream within out) in
    (o.left, o.whole, o.spelled_is)
  where
    stream : IsWithinOffer sends → SenderRun sends start sent end → joined empty.incoming (joined (all_came got) (joined under_way end.outgoing)) ≡ spelled_all (written sent)
    stream within run =
        ap (λ (q : Queue). joined q (joined (all_came got) (joined under_way end.outgoing))) starts
        ∙ sym (joined_assoc (all_came got) under_way end.outgoing)
        ∙ ap (λ (q : Queue). joined q end.outgoing) carried
        ∙ sender_kept sends within start end sent run none
        ∙ ap (λ (q : Queue). joined q (spelled_all (written sent))) fresh

-- a read that finds nothing finds no spelled message
nothing_left : {R : Type 0} (look_up : ℕ → ℕ → Option (List ArgumentType)) (full after : LinkState R) (e : MessageParseError) (left : List WireMessage)
    → ReadOne (λ sender opcode found. found ≡ look_up sender opcode) full (Err e) after → e ≢ errors.OutOfMemory
    → full.incoming ≡ spelled_all left → AllByRecursion (IsReadable look_up) left → left ≡ []
nothing_left look_up full after e [] read ok is readable = refl
nothing_left look_up full after e (m ∷ ms) read ok is readable =
    let waits : full.incoming.bytes ≡ spelling m ++ (spelled_all ms).bytes = ap (λ (q : Queue). q.bytes) is in
    let ok_m = readable.0.message in
    let reads = written_is_read_lem m readable.0.signature (spelled_all ms).bytes (spelled_all ms).tokens ok_m readable.0.matches in
    let reads' = subst (λ (q : Queue). ReadsMessage q.bytes readable.0.signature q.tokens m) (sym is) reads in
    let header : 8 ≤ length full.incoming.bytes = reads'.whole.header in
    let looked : look_up (sender_of full.incoming.bytes) (opcode_of full.incoming.bytes) ≡ Some readable.0.signature
    = ap (λ (s : ℕ). look_up s (opcode_of full.incoming.bytes)) (sym reads'.sender) ∙ ap (look_up m.sender) (sym reads'.opcode) ∙ readable.0.looked_up in
    let r = MatchBool-at_true _ _ (le-leb 8 (length full.incoming.bytes) header) read in
    let found : r.0 ≡ Some readable.0.signature = r.1 ∙ looked in
    let under = subst (λ (f : Option (List ArgumentType)). ReadFound f full (Err e) after) found r.2 in
    absurd (ok (refused_though_read full.incoming.bytes readable.0.signature full.incoming.tokens m e reads' under.0))

all_by_recursion-right : {X : Type 0} (P : X → Type 0) (xs ys : List X) → AllByRecursion P (xs ++ ys) → AllByRecursion P ys
all_by_recursion-right P [] ys all = all
all_by_recursion-right P (x ∷ xs) ys all = all_by_recursion-right P xs ys all.1

pub all_read_law : {S R : Type 0} (sends : S → Queue → Result ℕ IoFault → S → Type 0) (receives : R → ℕ → Result Queue IoFault → R → Type 0)
    → IsWithinOffer sends → AllReadLaw sends receives
all_read_law sends receives within look_up start end sent empty full after got e out fresh none readable in_ starts carried drained read ok =
    let o = stream_law sends receives within look_up start end sent empty full got nothing out fresh none readable in_ starts (joined_nothing (all_came got) ∙ carried) in
    let waits : full.incoming ≡ spelled_all o.0 = sym (joined_nothing full.incoming) ∙ ap (λ (q : Queue). joined full.incoming q) (sym drained) ∙ o.2 in
    let others = all_by_recursion-right (IsReadable look_up) (messages_read got) o.0 (subst (AllByRecursion (IsReadable look_up)) o.1 readable) in
    let last : o.0 ≡ [] = nothing_left look_up full after e o.0 read ok waits others in
    sym (o.1 ∙ ap (λ (ms : List WireMessage). messages_read got ++ ms) last ∙ append-nil (messages_read got))

pub cutting_law : {T : Type 0} (receives : T → ℕ → Result Queue IoFault → T → Type 0) → CuttingLaw receives
cutting_law {T = T} receives look_up start mid between end at_once x y a b c e first read second =
    let one : mid.incoming ≡ joined start.incoming x = ap (λ (l : LinkState T). l.incoming) first.2 in
    let same : between.incoming ≡ mid.incoming = ap (λ (l : LinkState T). l.incoming) (read_same receives look_up nothing mid between e read) in
    let two : end.incoming ≡ joined between.incoming y = ap (λ (l : LinkState T). l.incoming) second.2 in
    let both : end.incoming ≡ joined start.incoming (joined x y)
    = two ∙ ap (λ (q : Queue). joined q y) (same ∙ one) ∙ joined_assoc start.incoming x y in
    (both, λ together. both ∙ sym (ap (λ (l : LinkState T). l.incoming) together.2))

-- a read takes the first message off the stream
pub takes_first : (look_up : ℕ → ℕ → Option (List ArgumentType)) (before : Queue) (signature : List ArgumentType) (m : WireMessage)
    → look_up (sender_of before.bytes) (opcode_of before.bytes) ≡ Some signature → ReadsMessage before.bytes signature before.tokens m
    → TakesFirst look_up before m (after_first signature before)
unfolding Stream
takes_first look_up before signature m looked reads ms =
    let count : length (tokens m.args) ≡ fd_count signature = reads_tokens signature m.args (payload_of before.bytes) before.tokens reads.args in
    let mine : look_up m.sender m.opcode ≡ Some signature
    = ap (λ (s : ℕ). look_up s m.opcode) reads.sender ∙ ap (look_up (sender_of before.bytes)) reads.opcode ∙ looked in (
      λ whole. subst (λ (k : ℕ). Stream look_up ms (drop (length_of before.bytes) before.bytes) (drop k before.tokens)) count whole.3,
      λ rest. (signature, mine, reads, subst (λ (k : ℕ). Stream look_up ms (drop (length_of before.bytes) before.bytes) (drop k before.tokens)) (sym count) rest),
    )

pub read_takes : {T : Type 0} (looks_up : ℕ → ℕ → Option (List ArgumentType) → Type 0) (before after : LinkState T) (answer : Result WireMessage MessageParseError)
    → ReadOne looks_up before answer after → ReadTakes looks_up before answer after
read_takes looks_up before after (Ok m) read look_up gives =
    let r = read_left (λ t n c u. ⊥) look_up nothing before after m (read_under_other looks_up (λ s o f. f ≡ look_up s o) before after (Ok m) gives read) in
    subst (λ (q : Queue). TakesFirst look_up before.incoming m q) (sym r.3) (takes_first look_up before.incoming r.0 m r.1 r.2)
read_takes looks_up before after (Err e) read look_up gives = tt
