-- That the lines of the log tell of the messages that came, in their order, and that what goes on for them is sent.
use Rattle.std.specs.Prelude.{◌≡◌, ℕ, ◌<◌, ◌≤◌, ◌⊎◌, Bool, true, false, ◌||◌, List, [], ◌∷◌, ◌++◌, length, nat_le, take, Option, None, Some, Result, Ok, Err, IfOk, OnOk, MatchBool, if◌then◌else◌}
use Rattle.std.proofs.Common.{ap, append_assoc, append-nil, arith, inl, inr, refl, subst, sym, ◌∙◌}
use Rattle.std.proofs.Math.Bool.{or_assoc}
use Rattle.std.proofs.lemmas.Bool.{MatchBool-at_false, MatchBool-at_true}
use Rattle.std.proofs.lemmas.List.{drop-append-le, length-drop, take-append-le}
use Rattle.wl_wire.specs.declared.argument.ArgumentType.{ArgumentType}
use Rattle.wl_wire.specs.declared.argument.Token.{Token}
use Rattle.wl_wire.specs.declared.error.MessageParseError.TheVariants as errors
use Rattle.wl_wire.specs.declared.message.Message.{Message}
use Rattle.wl_wire.specs.Message.{WireMessage, content}
use Rattle.wl_wire.specs.Parse.{IsThere, ReadsMessage, RefusesMessage, fd_count, length_of, opcode_of, payload_of, sender_of}
use Rattle.wl_wire.specs.Table.{InterfaceRow, MessageRow}
use Rattle.wl_wire.proofs.Spelling.FrontLaws.{behind_front, length_front, message_front, opcode_front, sender_front, whole_front}
use Rattle.wl_wire.proofs.Spelling.RoundTrip.{one_message_lem}
use Rattle.wl_link.specs.declared.object.Object.{Object}
use Rattle.wl_link.specs.Exchange.{Queue, joined, nothing}
use Rattle.wl_link.specs.HandOn.{first_of}
use Rattle.wl_link.specs.Link.{LinkState, ReadFound, ReadOne, after_first}
use Rattle.wl_link.specs.Mailbox.{MailboxState}
use Rattle.wl_link.specs.MailboxLink.{still_to_read, still_to_send}
use Rattle.wl_link.specs.Store.{Store}
use Rattle.wl_link.proofs.Calls.QueueLaws.{joined_assoc, joined_nothing, queue_is}
use Rattle.wl_link.proofs.Calls.ReadLaws.{reads_enough}
use Rattle.wl_follow.specs.Sides.{other_side}
use Rattle.wl_follow.specs.Fronts.{HasNoMessage, IsUnknown, LacksPart, ReadsKnown}
use Rattle.wl_follow.specs.declared.front.NoMessage.TheVariants as none
use Rattle.wl_follow.specs.declared.side.Fault.{Fault}
use Rattle.wl_follow.specs.declared.side.Fault.TheVariants as fault
use Rattle.wl_follow.specs.declared.side.Side.{Side}
use Rattle.wl_follow.specs.declared.side.Side.TheVariants.{Client, Server}
use Rattle.wl_relay.specs.Announcements.{EditsMessage, going_on, is_change}
use Rattle.wl_relay.specs.Flow.{Logged, LogsRead, PutsIn, RelayState, not_received, to_read, to_send}
use Rattle.wl_relay.specs.Inside.Passing.{HandsOnAll, NotesUnder, PassedOn, PassesAs, PassesUnknown, ReadsOn, ReadsUpTo, Sends, StopsAt, TakenOff, TellsFault}
use Rattle.wl_relay.specs.Log.{AwaitsMore, Ends, Gains, GrowsLog, IsDone, Known, ObjectsAfter, Passage, Passes, Stops, Tells, all_sent, any_change, fault_line, follows, hears, lines_of, message_line, stopped, unknown_line}
use Rattle.wl_relay.specs.declared.follow.Passed.{Passed}
use Rattle.wl_relay.specs.declared.follow.Passed.TheVariants as passed
use Rattle.wl_relay.specs.declared.notes.Edit.{Edit}
use Rattle.wl_relay.specs.declared.notes.Edit.TheVariants as edit
use Rattle.wl_relay.specs.declared.mode.Mode.{Mode}
use Rattle.wl_relay.specs.declared.mode.Mode.TheVariants.{HandOn, Log}

-- ---- what holds of an answer

pub if_ok : {A E : Type 0} (r : Result A E) (P Q : A → Type 0) → ((x : A) → P x → Q x) → IfOk r P → IfOk r Q
if_ok (Ok x) P Q f p = f x p
if_ok (Err e) P Q f p = tt

pub on_ok_both : {A E : Type 0} (r : Result A E) (P Q R : Type 0) → (P → Q → R) → OnOk r P → OnOk r Q → OnOk r R
on_ok_both (Ok x) P Q R f p q = f p q
on_ok_both (Err e) P Q R f p q = tt

-- tokens that were received with a first byte stay so
tokens_stay : (one two three : Queue) → (two ≡ one) ⊎ (two.tokens ≡ []) → (three ≡ two) ⊎ (three.tokens ≡ []) → (three ≡ one) ⊎ (three.tokens ≡ [])
tokens_stay one two three (inl same) (inl more) = inl (more ∙ same)
tokens_stay one two three (inr none) (inl more) = inr (ap (λ (q : Queue). q.tokens) more ∙ none)
tokens_stay one two three first (inr none) = inr none

-- ---- the first message of a link is the first that is to be read

-- what is left once it is taken off the link
pub taken_off : (signature : List ArgumentType) (from from' : LinkState MailboxState) → TakenOff signature from from'
    → still_to_read from' ≡ after_first signature (still_to_read from)
taken_off signature from from' taken =
    let whole = taken.0.0 in
    ap still_to_read taken.1
    ∙ queue_is _ _
    (sym (behind_front from.incoming.bytes from.transport.arrived.bytes whole.header whole.there))
    (sym (drop-append-le (fd_count signature) from.incoming.tokens from.transport.arrived.tokens taken.0.1))

reads_here : (signature : List ArgumentType) (from : LinkState MailboxState) (m : WireMessage) → ReadsMessage from.incoming.bytes signature from.incoming.tokens m
    → ReadsMessage (still_to_read from).bytes signature (still_to_read from).tokens m
reads_here signature from m reads =
    message_front from.incoming.bytes from.transport.arrived.bytes signature from.incoming.tokens from.transport.arrived.tokens m reads

is_there : (signature : List ArgumentType) (from : LinkState MailboxState) (m : WireMessage) → ReadsMessage from.incoming.bytes signature from.incoming.tokens m
    → IsThere from.incoming.bytes signature from.incoming.tokens
is_there signature from m reads = (reads.whole, reads_enough signature m.args (payload_of from.incoming.bytes) from.incoming.tokens reads.args)

-- its bytes and tokens
first_front : (signature : List ArgumentType) (from : LinkState MailboxState) → IsThere from.incoming.bytes signature from.incoming.tokens
    → first_of signature from.incoming ≡ first_of signature (still_to_read from)
first_front signature from there =
    let whole = there.0 in
    let same = length_front from.incoming.bytes from.transport.arrived.bytes whole.header in
    queue_is _ _
    (sym (ap (λ (n : ℕ). take n (from.incoming.bytes ++ from.transport.arrived.bytes)) same
    ∙ take-append-le (length_of from.incoming.bytes) from.incoming.bytes from.transport.arrived.bytes whole.there))
    (sym (take-append-le (fd_count signature) from.incoming.tokens from.transport.arrived.tokens there.1))

-- fewer bytes are left
taken_fewer : (signature : List ArgumentType) (from from' : LinkState MailboxState) → TakenOff signature from from' → length from'.incoming.bytes < length from.incoming.bytes
taken_fewer signature from from' taken =
    let whole = taken.0.0 in
    omega (arith, whole.counts_header, whole.there, ap (λ (l : LinkState MailboxState). length l.incoming.bytes) taken.1, length-drop (length_of from.incoming.bytes) from.incoming.bytes)

-- a read of the first message takes it off the link
pub taken_one : (signature : List ArgumentType) (before after : LinkState MailboxState) (message : Message ℕ Token)
    → ReadOne (λ _ _ found. found ≡ Some signature) before (Ok (content message)) after
    → TakenOff signature before after × ReadsMessage before.incoming.bytes signature before.incoming.tokens (content message)
taken_one signature before after message read = at (nat_le 8 (length before.incoming.bytes)) refl
  where
    at : (b : Bool) → nat_le 8 (length before.incoming.bytes) ≡ b
        → TakenOff signature before after × ReadsMessage before.incoming.bytes signature before.incoming.tokens (content message)
    at true is =
        let found = MatchBool-at_true _ _ is read in
        let under : ReadFound (Some signature) before (Ok (content message)) after
        = subst (λ (f : Option (List ArgumentType)). ReadFound f before (Ok (content message)) after) found.1 found.2 in
        ((is_there signature before (content message) under.0, under.1), under.0)
    at false is =
        let refused = MatchBool-at_false _ _ is read in
        let e = refused.0 in
        absurd cc

-- a message that is there lacks no part
lacks_none : (signature : List ArgumentType) (q : Queue) → IsThere q.bytes signature q.tokens → LacksPart signature q → ⊥
lacks_none signature q there (inl (inl short)) = let whole = there.0 in omega (arith, whole.header, short)
lacks_none signature q there (inl (inr cut)) = let whole = there.0 in omega (arith, whole.there, cut.2)
lacks_none signature q there (inr missing) = omega (arith, there.1, missing.1)

-- ---- messages one after another

pub or_false : (b : Bool) → (b || false) ≡ b
or_false true = refl
or_false false = refl

lines_append : (xs ys : List Passage) → lines_of (xs ++ ys) ≡ lines_of xs ++ lines_of ys
lines_append [] ys = refl
lines_append (x ∷ xs) ys = ap (λ (ls : List (List ℕ)). x.line ∷ ls) (lines_append xs ys)

sent_append : (xs ys : List Passage) → all_sent (xs ++ ys) ≡ joined (all_sent xs) (all_sent ys)
sent_append [] ys = refl
sent_append (x ∷ xs) ys = ap (λ (q : Queue). joined x.sent q) (sent_append xs ys) ∙ sym (joined_assoc x.sent (all_sent xs) (all_sent ys))

change_append : (xs ys : List Passage) → any_change (xs ++ ys) ≡ (any_change xs || any_change ys)
change_append [] ys = refl
change_append (x ∷ xs) ys = ap (λ (b : Bool). is_change x.edit || b) (change_append xs ys) ∙ sym (or_assoc (is_change x.edit) (any_change xs) (any_change ys))

follows_same : (side : Side) (k k' : Known) → k'.follows_client ≡ k.follows_client → k'.follows_server ≡ k.follows_server → follows side k' ≡ follows side k
follows_same Client k k' client server = client
follows_same Server k k' client server = server

module _ (table : List InterfaceRow) (side : Side) where
  passes_append : (mode : Mode) (heard : Bool) (xs ys : List Passage) (o o1 o2 : Store (Unit {0})) (q q1 q2 : Queue) → Passes table mode side heard o q xs o1 q1
      → Passes table mode side heard o1 q1 ys o2 q2 → Passes table mode side heard o q (xs ++ ys) o2 q2
  passes_append mode heard [] ys o o1 o2 q q1 q2 none more =
      subst (λ (x : Queue). Passes table mode side heard o x ys o2 q2) none.1 (subst (λ (s : Store (Unit {0})). Passes table mode side heard s q1 ys o2 q2) none.0 more)
  passes_append mode heard (x ∷ xs) ys o o1 o2 q q1 q2 some more = (some.0, some.1, some.2, passes_append mode heard xs ys some.1 o1 o2 some.0 q1 q2 some.3 more)

  pub reads_after : (k k1 k2 : Known) (q q1 q2 out out1 out2 : Queue) → ReadsOn table side k q out k1 q1 out1 → ReadsOn table side k1 q1 out1 k2 q2 out2
      → ReadsOn table side k q out k2 q2 out2
  reads_after k k1 k2 q q1 q2 out out1 out2 one two = record {
    passages = one.passages ++ two.passages;
    log = two.log ∙ ap (λ (ls : List (List ℕ)). ls ++ lines_of two.passages) one.log ∙ append_assoc k.log (lines_of one.passages) (lines_of two.passages)
        ∙ ap (λ (ls : List (List ℕ)). k.log ++ ls) (sym (lines_append one.passages two.passages));
    passes = passes_append k.mode (hears side k) one.passages two.passages k.objects k1.objects k2.objects q q1 q2 one.passes
        (subst (λ (b : Bool). Passes table k.mode side b k1.objects q1 two.passages k2.objects q2) (follows_same (other_side side) k k1 one.client one.server)
        (subst (λ (m : Mode). Passes table m side (hears side k1) k1.objects q1 two.passages k2.objects q2) one.mode two.passes));
    out_is = two.out_is ∙ ap (λ (x : Queue). joined x (all_sent two.passages)) one.out_is ∙ joined_assoc out (all_sent one.passages) (all_sent two.passages)
        ∙ ap (λ (x : Queue). joined out x) (sym (sent_append one.passages two.passages));
    changed_is = two.changed_is ∙ ap (λ (b : Bool). b || any_change two.passages) one.changed_is ∙ or_assoc k.has_changed (any_change one.passages) (any_change two.passages)
        ∙ ap (λ (b : Bool). k.has_changed || b) (sym (change_append one.passages two.passages));
    mode = two.mode ∙ one.mode;
    client = two.client ∙ one.client;
    server = two.server ∙ one.server;
    unchanged = λ is. two.unchanged (one.mode ∙ is) ∙ one.unchanged is;
  }

  pub reads_nothing : (k : Known) (q out : Queue) → ReadsOn table side k q out k q out
  reads_nothing k q out = record {
    passages = [];
    log = sym (append-nil k.log);
    passes = (refl, refl);
    out_is = sym (joined_nothing out);
    changed_is = sym (or_false k.has_changed);
    mode = refl;
    client = refl;
    server = refl;
    unchanged = λ _. refl;
  }

  -- one message
  one_reads : (k k' : Known) (q q' out out' : Queue) (p : Passage) → Tells table k.mode side (hears side k) k.objects q p k'.objects q'
      → k' ≡ record k { log = k.log ++ p.line ∷ []; objects = k'.objects; has_changed = k.has_changed || is_change p.edit }
      → out' ≡ joined out p.sent → (k.mode ≡ Log → p.edit ≡ edit.Nothing) → ReadsOn table side k q out k' q' out'
  one_reads k k' q q' out out' p tells is sends no_edit =
      let changed : k'.has_changed ≡ (k.has_changed || is_change p.edit) = ap (λ (x : Known). x.has_changed) is in record {
        passages = p ∷ [];
        log = ap (λ (x : Known). x.log) is;
        passes = (q', k'.objects, tells, (refl, refl));
        out_is = sends ∙ ap (λ (x : Queue). joined out x) (sym (joined_nothing p.sent));
        changed_is = changed ∙ ap (λ (b : Bool). k.has_changed || b) (sym (or_false (is_change p.edit)));
        mode = ap (λ (x : Known). x.mode) is;
        client = ap (λ (x : Known). x.follows_client) is;
        server = ap (λ (x : Known). x.follows_server) is;
        unchanged = λ is_log. changed ∙ ap (λ (e : Edit). k.has_changed || is_change e) (no_edit is_log) ∙ or_false k.has_changed;
      }

  -- ---- the first message of a link

  module _ (k k' : Known) (from from' to to' : LinkState MailboxState) where
    module _ (sender opcode : ℕ) (found : HasNoMessage table k.objects side from.incoming (none.Unknown sender opcode)) where
      sender_is : sender ≡ sender_of from.incoming.bytes
      sender_is = found.1

      opcode_is : opcode ≡ opcode_of from.incoming.bytes
      opcode_is = found.2

      unknown_at : (s o : ℕ) → sender ≡ s → opcode ≡ o → IsUnknown table k.objects side s o
      unknown_at s o same_sender same_opcode =
          subst (λ (n : ℕ). IsUnknown table k.objects side n o) same_sender (subst (λ (n : ℕ). IsUnknown table k.objects side sender n) same_opcode found.3)

      unknown_reads : k.mode ≡ Log → TakenOff [] from from' → Sends to (first_of [] from.incoming) to'
          → k' ≡ record k { log = k.log ++ unknown_line side sender opcode ∷ [] }
          → ReadsOn table side k (still_to_read from) (still_to_send to) k' (still_to_read from') (still_to_send to')
      unknown_reads is_log taken sends is =
          let whole = taken.0.0 in
          let same_sender : sender ≡ sender_of (still_to_read from).bytes
          = sender_is ∙ sym (sender_front from.incoming.bytes from.transport.arrived.bytes whole.header) in
          let same_opcode : opcode ≡ opcode_of (still_to_read from).bytes
          = opcode_is ∙ sym (opcode_front from.incoming.bytes from.transport.arrived.bytes whole.header) in
          let objects : k'.objects ≡ k.objects = ap (λ (x : Known). x.objects) is in
          let p : Passage = record { line = unknown_line side sender opcode; edit = edit.Nothing; sent = first_of [] from.incoming } in
          let tells : Tells table k.mode side (hears side k) k.objects (still_to_read from) p k'.objects (still_to_read from') = inr (record {
            is_log = is_log;
            whole = whole_front from.incoming.bytes from.transport.arrived.bytes whole;
            is_unknown = unknown_at (sender_of (still_to_read from).bytes) (opcode_of (still_to_read from).bytes) same_sender same_opcode;
            text = ap (λ (n : ℕ). unknown_line side n opcode) same_sender ∙ ap (λ (n : ℕ). unknown_line side (sender_of (still_to_read from).bytes) n) same_opcode;
            unedited = refl;
            sent = first_front [] from taken.0;
            unnoted = objects;
            rest = taken_off [] from from' taken;
          }) in
          let known_is : k' ≡ record k { log = k.log ++ p.line ∷ []; objects = k'.objects; has_changed = k.has_changed || false }
          = is ∙ ap (λ (o : Store (Unit {0})). record k { log = k.log ++ p.line ∷ []; objects = o }) (sym objects)
          ∙ ap (λ (b : Bool). record k { log = k.log ++ p.line ∷ []; objects = k'.objects; has_changed = b }) (sym (or_false k.has_changed)) in
          one_reads k k' (still_to_read from) (still_to_read from') (still_to_send to) (still_to_send to') p tells known_is sends (λ _. refl)

      -- a message that is not known
      unknown_passes : (p : Passed) → PassesUnknown side sender opcode k from to p k' from' to' → PassesAs table side k from to p k' from' to'
      unknown_passes passed.One passes = (unknown_reads passes.0 passes.1.0 passes.1.1 passes.2, taken_fewer [] from from' passes.1.0)
      unknown_passes passed.Nothing passes =
          (passes.2, passes.1.0, passes.1.1, inr (inl (passes.0, unknown_at _ _ sender_is opcode_is, passes.1.2)))
      unknown_passes (passed.Fault f) passes =
          let why : (k.mode ≡ HandOn) ⊎ (length_of from.incoming.bytes < 8)
          = elim passes.4 [ inl short ↦ inr short.1.4 | inr is ↦ inl is ] in (
            passes.1,
            passes.2,
            (
              [],
              k.objects,
              inl ((found.0, inl (unknown_at _ _ sender_is opcode_is, why)), passes.3, refl, refl),
              passes.0 ∙ ap (λ (ls : List (List ℕ)). record k { log = ls }) (sym (append-nil k.log)),
            ),
          )

    -- a message that lacks a part
    known_waits : HasNoMessage table k.objects side from.incoming none.Incomplete → k' ≡ k → from' ≡ from → to' ≡ to
        → PassesAs table side k from to passed.Nothing k' from' to'
    known_waits found is same_from same_to =
        (is, same_from, same_to, elim found [ inl short ↦ inl short | inr lacks ↦ inr (inr lacks) ])

    -- a message that cannot be read
    known_malformed : HasNoMessage table k.objects side from.incoming none.Malformed → k' ≡ k → from' ≡ from → to' ≡ to
        → PassesAs table side k from to (passed.Fault fault.Malformed) k' from' to'
    known_malformed found is same_from same_to = (
      same_from,
      same_to,
      (
        [],
        k.objects,
        inl ((found.0, inr found.1), refl, refl, refl),
        is ∙ ap (λ (ls : List (List ℕ)). record k { log = ls }) (sym (append-nil k.log)),
      ),
    )

    module _ (object : Object (Unit {0})) (row : MessageRow) (m : WireMessage) (found : ReadsKnown table k.objects side from.incoming object row m)
        (line : List ℕ) where
      -- a message whose objects cannot be noted
      known_refused : (e : Edit) (f : Fault) (objects' : Store (Unit {0})) → EditsMessage table k.mode side object.interface m e
          → line ≡ message_line table k.objects side object.interface row m e
          → NotesUnder table k.mode side (hears side k) object row m k.objects e (Some f) objects'
          → k' ≡ record k { log = k.log ++ line ∷ []; objects = objects' } → from' ≡ from → to' ≡ to
          → PassesAs table side k from to (passed.Fault f) k' from' to'
      known_refused edit.Nothing f objects' edits text noted is same_from same_to = (
        same_from,
        same_to,
        (
          line ∷ [],
          objects',
          inr (inl (
            line,
            record {
              object = object;
              row = row;
              message = m;
              is_known = found.0;
              reads = found.1;
              edits = edits;
              text = text;
              noted = noted;
            },
            refl,
          )),
          is,
        ),
      )
      known_refused edit.Drop f objects' edits text noted is same_from same_to = let e = noted.0 in absurd cc
      known_refused (edit.Lower version) f objects' edits text noted is same_from same_to = let e = noted.0 in absurd cc

      known_reads : (e : Edit) (sent : Queue) → EditsMessage table k.mode side object.interface m e
          → line ≡ message_line table k.objects side object.interface row m e
          → ObjectsAfter table k.mode side (hears side k) object row m k.objects e k'.objects
          → k' ≡ record k { log = k.log ++ line ∷ []; objects = k'.objects; has_changed = k.has_changed || is_change e }
          → (k.mode ≡ Log → e ≡ edit.Nothing)
          → TakenOff row.signature from from' → sent ≡ going_on e row.signature (still_to_read from) m → Sends to sent to'
          → PassesAs table side k from to passed.One k' from' to'
      known_reads e sent edits text noted is no_edit taken sent_is sends =
          let p : Passage = record { line = line; edit = e; sent = sent } in
          let tells : Tells table k.mode side (hears side k) k.objects (still_to_read from) p k'.objects (still_to_read from') = inl (record {
            object = object;
            row = row;
            message = m;
            is_known = found.0;
            reads = reads_here row.signature from m found.1;
            edits = edits;
            text = text;
            sent = sent_is;
            noted = noted;
            rest = taken_off row.signature from from' taken;
          }) in
          (one_reads k k' (still_to_read from) (still_to_read from') (still_to_send to) (still_to_send to') p tells is sends no_edit, taken_fewer row.signature from from' taken)

      -- a message that was read, logged, noted and passed on
      known_passes : (e : Edit) (p : Passed) → EditsMessage table k.mode side object.interface m e
          → line ≡ message_line table k.objects side object.interface row m e
          → NotesUnder table k.mode side (hears side k) object row m k.objects e None k'.objects
          → k' ≡ record k { log = k.log ++ line ∷ []; objects = k'.objects; has_changed = k.has_changed || is_change e }
          → (k.mode ≡ Log → e ≡ edit.Nothing) → PassedOn row.signature e from to p from' to'
          → PassesAs table side k from to p k' from' to'
      known_passes edit.Nothing passed.One edits text noted is no_edit handed =
          known_reads edit.Nothing (first_of row.signature from.incoming) edits text noted is no_edit handed.0 (first_front row.signature from handed.0.0) handed.1
      known_passes edit.Nothing passed.Nothing edits text noted is no_edit handed =
          absurd (lacks_none row.signature from.incoming (is_there row.signature from m found.1) handed.2)
      known_passes edit.Nothing (passed.Fault f) edits text noted is no_edit handed =
          let whole = found.1.whole in absurd (omega (arith, whole.counts_header, handed.4))
      known_passes edit.Drop p edits text noted is no_edit handed =
          subst (λ (x : Passed). PassesAs table side k from to x k' from' to') (sym handed.0)
          (known_reads edit.Drop nothing edits text noted.1 is no_edit handed.1 refl (ap still_to_send handed.2 ∙ sym (joined_nothing (still_to_send to))))
      known_passes (edit.Lower version) p edits text noted is no_edit handed =
          let same : handed.2.0 ≡ m = one_message_lem handed.2.0 m from.incoming.bytes row.signature from.incoming.tokens handed.2.1 found.1 in
          subst (λ (x : Passed). PassesAs table side k from to x k' from' to') (sym handed.0)
          (known_reads (edit.Lower version) (going_on (edit.Lower version) row.signature from.incoming m) edits text noted.1 is no_edit handed.1 refl
          (handed.2.2 ∙ ap (λ (x : WireMessage). joined (still_to_send to) (going_on (edit.Lower version) row.signature from.incoming x)) same))

  -- ---- the same of the answers of calls; what the relay knows, and the link, are given by other names

  module _ (k0 k k' : Known) (from from1 : LinkState MailboxState) (is : k ≡ k0) (same : from1 ≡ from) where
    as_known : (from' to to' : LinkState MailboxState) (p : Passed) → PassesAs table side k from to p k' from' to' → PassesAs table side k0 from to p k' from' to'
    as_known from' to to' p passes = subst (λ (x : Known). PassesAs table side x from to p k' from' to') is passes

    pub unknown_result : {E : Type 0} (sender opcode s o : ℕ) → sender ≡ s → opcode ≡ o → (from' to to' : LinkState MailboxState) (r : Result Passed E)
        → HasNoMessage table k.objects side from.incoming (none.Unknown s o)
        → IfOk r (λ p. PassesUnknown side sender opcode k from1 to p k' from' to') → IfOk r (λ p. PassesAs table side k0 from to p k' from' to')
    unknown_result sender opcode s o sender_is opcode_is from' to to' r found passes =
        let found_as : HasNoMessage table k.objects side from.incoming (none.Unknown sender opcode)
        = subst (λ (n : ℕ). HasNoMessage table k.objects side from.incoming (none.Unknown n opcode)) (sym sender_is)
        (subst (λ (n : ℕ). HasNoMessage table k.objects side from.incoming (none.Unknown s n)) (sym opcode_is) found) in
        if_ok r (λ p. PassesUnknown side sender opcode k from1 to p k' from' to') (λ p. PassesAs table side k0 from to p k' from' to')
        (λ p h. as_known from' to to' p
        (unknown_passes k k' from from' to to' sender opcode found_as p (subst (λ (l : LinkState MailboxState). PassesUnknown side sender opcode k l to p k' from' to') same h)))
        passes

    pub waits_result : (to : LinkState MailboxState) → HasNoMessage table k.objects side from.incoming none.Incomplete → k' ≡ k
        → PassesAs table side k0 from to passed.Nothing k' from1 to
    waits_result to found still = as_known from1 to to passed.Nothing (known_waits k k' from from1 to to found still same refl)

    pub malformed_result : (to : LinkState MailboxState) → HasNoMessage table k.objects side from.incoming none.Malformed → k' ≡ k
        → PassesAs table side k0 from to (passed.Fault fault.Malformed) k' from1 to
    malformed_result to found still = as_known from1 to to (passed.Fault fault.Malformed) (known_malformed k k' from from1 to to found still same refl)

    module _ (object : Object (Unit {0})) (row : MessageRow) (sent_by : Side) (signature : List ArgumentType) (under : signature ≡ row.signature)
        (sent : sent_by ≡ side) (m : WireMessage) (e : Edit) (found : ReadsKnown table k.objects side from.incoming object row m)
        (edits : EditsMessage table k.mode sent_by object.interface m e) where
      edits_side : EditsMessage table k.mode side object.interface m e
      edits_side = subst (λ (s : Side). EditsMessage table k.mode s object.interface m e) sent edits

      line : List ℕ
      line = message_line table k.objects sent_by object.interface row m e

      text : line ≡ message_line table k.objects side object.interface row m e
      unfolding line
      text = ap (λ (s : Side). message_line table k.objects s object.interface row m e) sent

      pub refused_result : (to : LinkState MailboxState) (f : Fault) (noted : Option Fault) (heard : Bool) (objects' : Store (Unit {0})) → noted ≡ Some f
          → heard ≡ hears side k0 → NotesUnder table k.mode sent_by heard object row m k.objects e noted objects'
          → k'.log ≡ k.log ++ message_line table k.objects sent_by object.interface row m e ∷ []
          → k' ≡ record k { log = k'.log; objects = objects' }
          → PassesAs table side k0 from to (passed.Fault f) k' from1 to
      unfolding line
      refused_result to f noted heard objects' noted_is heard_is notes log_is known_is =
          as_known from1 to to (passed.Fault f)
          (known_refused k k' from from1 to to object row m found line e f objects' edits_side text
          (subst (λ (s : Side). NotesUnder table k.mode s (hears side k) object row m k.objects e (Some f) objects') sent
          (subst (λ (b : Bool). NotesUnder table k.mode sent_by b object row m k.objects e (Some f) objects') (heard_is ∙ ap (hears side) (sym is))
          (subst (λ (x : Option Fault). NotesUnder table k.mode sent_by heard object row m k.objects e x objects') noted_is notes)))
          (known_is ∙ ap (λ (ls : List (List ℕ)). record k { log = ls; objects = objects' }) log_is) same refl)

      pub passes_result : (to from' to' : LinkState MailboxState) (p : Passed) (noted : Option Fault) (heard : Bool) → noted ≡ None
          → heard ≡ hears side k0 → NotesUnder table k.mode sent_by heard object row m k.objects e noted k'.objects
          → k'.log ≡ k.log ++ message_line table k.objects sent_by object.interface row m e ∷ []
          → k'.has_changed ≡ (k.has_changed || is_change e)
          → k' ≡ record k { log = k'.log; objects = k'.objects; has_changed = k'.has_changed }
          → (k.mode ≡ Log → e ≡ edit.Nothing) → PassedOn signature e from1 to p from' to' → PassesAs table side k0 from to p k' from' to'
      unfolding line
      passes_result to from' to' p noted heard noted_is heard_is notes log_is changed_is known_is no_edit passed =
          as_known from' to to' p
          (known_passes k k' from from' to to' object row m found line e p edits_side text
          (subst (λ (s : Side). NotesUnder table k.mode s (hears side k) object row m k.objects e None k'.objects) sent
          (subst (λ (b : Bool). NotesUnder table k.mode sent_by b object row m k.objects e None k'.objects) (heard_is ∙ ap (hears side) (sym is))
          (subst (λ (x : Option Fault). NotesUnder table k.mode sent_by heard object row m k.objects e x k'.objects) noted_is notes)))
          (known_is ∙ ap (λ (ls : List (List ℕ)). record k { log = ls; objects = k'.objects; has_changed = k'.has_changed }) log_is
          ∙ ap (λ (b : Bool). record k { log = k.log ++ line ∷ []; objects = k'.objects; has_changed = b }) changed_is)
          no_edit
          (subst (λ (l : LinkState MailboxState). PassedOn row.signature e l to p from' to') same
          (subst (λ (s : List ArgumentType). PassedOn s e from1 to p from' to') under passed)))

  -- ---- messages up to one that is not passed

  module _ (k mid k' : Known) (from from1 from' to to1 to' : LinkState MailboxState)
      (reads : ReadsOn table side k (still_to_read from) (still_to_send to) mid (still_to_read from1) (still_to_send to1)) where
    reads_to : from' ≡ from1 → to' ≡ to1 → ReadsOn table side k (still_to_read from) (still_to_send to) mid (still_to_read from') (still_to_send to')
    reads_to same_from same_to =
        subst (λ (q : Queue). ReadsOn table side k (still_to_read from) (still_to_send to) mid q (still_to_send to')) (sym (ap still_to_read same_from))
        (subst (λ (q : Queue). ReadsOn table side k (still_to_read from) (still_to_send to) mid (still_to_read from1) q) (sym (ap still_to_send same_to)) reads)

    pub then_awaits : PassesAs table side mid from1 to1 passed.Nothing k' from' to' → ReadsUpTo table side k from to None k' from' to'
    then_awaits waits = (
      subst (λ (x : Known). ReadsOn table side k (still_to_read from) (still_to_send to) x (still_to_read from') (still_to_send to')) (sym waits.0)
          (reads_to waits.1 waits.2),
      subst (λ (l : LinkState MailboxState). AwaitsMore table k'.mode side k'.objects l.incoming) (sym waits.1)
          (subst (λ (x : Known). AwaitsMore table x.mode side x.objects from1.incoming) (sym waits.0) waits.3),
    )

    pub then_stops : (f : Fault) → PassesAs table side mid from1 to1 (passed.Fault f) k' from' to' → ReadsUpTo table side k from to (Some f) k' from' to'
    then_stops f stops = (
      mid,
      reads_to stops.0 stops.1,
      subst (λ (l : LinkState MailboxState). StopsAt table side mid l.incoming f k') (sym stops.0) stops.2,
    )

  -- ---- what a call adds

  gains_after : (mode : Mode) (heard f f1 f2 : Bool) (xs ys : List (List ℕ)) (c d : Bool) (s t : Queue) (o o1 o2 : Store (Unit {0})) (q q1 q2 w w1 : Queue)
      → (w1 ≡ w) ⊎ (w1.tokens ≡ []) → Gains table mode side heard f o q w xs c s f1 o1 q1 → Gains table mode side heard f1 o1 q1 w1 ys d t f2 o2 q2
      → Gains table mode side heard f o q w (xs ++ ys) (c || d) (joined s t) f2 o2 q2
  gains_after mode heard false false f2 xs ys c d s t o o1 o2 q q1 q2 w w1 gone one two = (
    record {
      no_lines = ap (λ (ls : List (List ℕ)). ls ++ ys) one.0.no_lines ∙ two.0.no_lines;
      no_change = ap (λ (b : Bool). b || d) one.0.no_change ∙ two.0.no_change;
      as_it_is = joined_assoc s t q2 ∙ ap (λ (x : Queue). joined s x) two.0.as_it_is ∙ one.0.as_it_is;
    },
    two.1,
    two.2 ∙ one.2,
  )
  gains_after mode heard false true f2 xs ys c d s t o o1 o2 q q1 q2 w w1 gone one two = let e = one.1 in absurd cc
  gains_after mode heard true true true xs ys c d s t o o1 o2 q q1 q2 w w1 gone one two = record {
    passages = one.passages ++ two.passages;
    passes = passes_append mode heard one.passages two.passages o o1 o2 q q1 q2 one.passes two.passes;
    lines_are = ap (λ (ls : List (List ℕ)). ls ++ ys) one.lines_are ∙ ap (λ (ls : List (List ℕ)). lines_of one.passages ++ ls) two.lines_are
        ∙ sym (lines_append one.passages two.passages);
    changed_is = ap (λ (b : Bool). b || d) one.changed_is ∙ ap (λ (b : Bool). any_change one.passages || b) two.changed_is
        ∙ sym (change_append one.passages two.passages);
    sent_is = ap (λ (x : Queue). joined x t) one.sent_is ∙ ap (λ (x : Queue). joined (all_sent one.passages) x) two.sent_is
        ∙ sym (sent_append one.passages two.passages);
  }
  gains_after mode heard true true false xs ys c d s t o o1 o2 q q1 q2 w w1 gone one two =
      let tail : List (List ℕ) = two.last ++ fault_line side two.reason ∷ [] in record {
        passages = one.passages ++ two.passages;
        mid = two.mid;
        received = two.received;
        behind = two.behind;
        reason = two.reason;
        last = two.last;
        handed = two.handed;
        passes = passes_append mode heard one.passages two.passages o o1 two.mid q q1 (joined two.received two.behind) one.passes two.passes;
        tokens_first = tokens_stay w w1 two.behind gone two.tokens_first;
        stops = two.stops;
        lines_are = ap (λ (ls : List (List ℕ)). ls ++ ys) one.lines_are ∙ ap (λ (ls : List (List ℕ)). lines_of one.passages ++ ls) two.lines_are
            ∙ sym (append_assoc (lines_of one.passages) (lines_of two.passages) tail)
            ∙ ap (λ (ls : List (List ℕ)). ls ++ tail) (sym (lines_append one.passages two.passages));
        changed_is = ap (λ (b : Bool). b || d) one.changed_is ∙ ap (λ (b : Bool). any_change one.passages || b) two.changed_is
            ∙ sym (change_append one.passages two.passages);
        sent_is = ap (λ (x : Queue). joined x t) one.sent_is ∙ ap (λ (x : Queue). joined (all_sent one.passages) x) two.sent_is
            ∙ sym (joined_assoc (all_sent one.passages) (all_sent two.passages) two.handed)
            ∙ ap (λ (x : Queue). joined x two.handed) (sym (sent_append one.passages two.passages));
        as_it_is = two.as_it_is;
      }
  gains_after mode heard true false true xs ys c d s t o o1 o2 q q1 q2 w w1 gone one two = let e = two.1 in absurd cc
  gains_after mode heard true false false xs ys c d s t o o1 o2 q q1 q2 w w1 gone one two = record {
    passages = one.passages;
    mid = one.mid;
    received = one.received;
    behind = one.behind;
    reason = one.reason;
    last = one.last;
    handed = joined one.handed t;
    passes = one.passes;
    tokens_first = one.tokens_first;
    stops = subst (λ (x : Store (Unit {0})). Stops table mode side heard one.mid one.received one.reason one.last x) (sym two.2) one.stops;
    lines_are = ap (λ (ls : List (List ℕ)). xs ++ ls) two.0.no_lines ∙ append-nil xs ∙ one.lines_are;
    changed_is = ap (λ (b : Bool). c || b) two.0.no_change ∙ or_false c ∙ one.changed_is;
    sent_is = ap (λ (x : Queue). joined x t) one.sent_is ∙ joined_assoc (all_sent one.passages) one.handed t;
    as_it_is = joined_assoc one.handed t q2 ∙ ap (λ (x : Queue). joined one.handed x) two.0.as_it_is ∙ one.as_it_is;
  }

  pub grows_after : (k k1 k2 : Known) (q q1 q2 w w1 w2 out out1 out2 : Queue) → GrowsLog table side k q w out k1 q1 w1 out1
      → GrowsLog table side k1 q1 w1 out1 k2 q2 w2 out2 → GrowsLog table side k q w out k2 q2 w2 out2
  grows_after k k1 k2 q q1 q2 w w1 w2 out out1 out2 one two = record {
    lines = one.lines ++ two.lines;
    changed = one.changed || two.changed;
    sent = joined one.sent two.sent;
    log = two.log ∙ ap (λ (ls : List (List ℕ)). ls ++ two.lines) one.log ∙ append_assoc k.log one.lines two.lines;
    out_is = two.out_is ∙ ap (λ (x : Queue). joined x two.sent) one.out_is ∙ joined_assoc out one.sent two.sent;
    changed_is = two.changed_is ∙ ap (λ (b : Bool). b || two.changed) one.changed_is ∙ or_assoc k.has_changed one.changed two.changed;
    gains = gains_after k.mode (hears side k) (follows side k) (follows side k1) (follows side k2) one.lines two.lines one.changed two.changed one.sent two.sent
        k.objects k1.objects k2.objects q q1 q2 w w1 one.receives one.gains
        (subst (λ (b : Bool). Gains table k.mode side b (follows side k1) k1.objects q1 w1 two.lines two.changed two.sent (follows side k2) k2.objects q2) one.other
        (subst (λ (m : Mode). Gains table m side (hears side k1) (follows side k1) k1.objects q1 w1 two.lines two.changed two.sent (follows side k2) k2.objects q2) one.mode two.gains));
    receives = tokens_stay w w1 w2 one.receives two.receives;
    mode = two.mode ∙ one.mode;
    unchanged = λ is. two.unchanged (one.mode ∙ is) ∙ one.unchanged is;
    other = two.other ∙ one.other;
  }

  -- a side that is not read adds no line, and what came is handed on
  passes_by : (k : Known) (q q1 w w1 out out1 sent : Queue) → follows side k ≡ false → joined sent q1 ≡ q → w1 ≡ w → out1 ≡ joined out sent
      → GrowsLog table side k q w out k q1 w1 out1
  passes_by k q q1 w w1 out out1 sent unread_is as_it_is same sends = record {
    lines = [];
    changed = false;
    sent = sent;
    log = sym (append-nil k.log);
    out_is = sends;
    changed_is = sym (or_false k.has_changed);
    gains = subst (λ (b : Bool). Gains table k.mode side (hears side k) b k.objects q w [] false sent b k.objects q1) (sym unread_is)
        (record { no_lines = refl; no_change = refl; as_it_is = as_it_is }, refl, refl);
    receives = inl same;
    mode = refl;
    unchanged = λ _. refl;
    other = refl;
  }

stopped_log : (side : Side) (f : Fault) (k : Known) → (stopped side f k).log ≡ k.log ++ fault_line side f ∷ []
stopped_log Client f k = refl
stopped_log Server f k = refl

stopped_rest : (side : Side) (f : Fault) (k : Known)
    → ((stopped side f k).objects ≡ k.objects) × ((stopped side f k).mode ≡ k.mode) × ((stopped side f k).has_changed ≡ k.has_changed)
    × (follows side (stopped side f k) ≡ false) × (follows (other_side side) (stopped side f k) ≡ follows (other_side side) k)
stopped_rest Client f k = (refl, refl, refl, refl, refl)
stopped_rest Server f k = (refl, refl, refl, refl, refl)

-- what a fault changes before it is told
at_fault : (side : Side) (k : Known) (ls : List (List ℕ)) (o : Store (Unit {0}))
    → follows side (record k { log = ls; objects = o }) ≡ follows side k
at_fault Client k ls o = refl
at_fault Server k ls o = refl

-- a link that has handed on all that it received
handed_all : (from from' to to' : LinkState MailboxState) → HandsOnAll from to from' to' → joined from.incoming (still_to_read from') ≡ still_to_read from
handed_all from from' to to' handed = ap (λ (l : LinkState MailboxState). joined from.incoming (still_to_read l)) handed.0

module _ (table : List InterfaceRow) (side : Side) where
  -- the messages of a side that is read
  read_grows : (k k1 : Known) (q q1 w w1 out out1 : Queue) → follows side k ≡ true → w1 ≡ w → ReadsOn table side k q out k1 q1 out1
      → GrowsLog table side k q w out k1 q1 w1 out1
  read_grows k k1 q q1 w w1 out out1 read same reads =
      let still : follows side k1 ≡ true = follows_same side k k1 reads.client reads.server ∙ read in record {
        lines = lines_of reads.passages;
        changed = any_change reads.passages;
        sent = all_sent reads.passages;
        log = reads.log;
        out_is = reads.out_is;
        changed_is = reads.changed_is;
        gains = subst
            (λ (b : Bool). Gains table k.mode side (hears side k) b k.objects q w (lines_of reads.passages) (any_change reads.passages) (all_sent reads.passages) (follows side k1) k1.objects q1)
            (sym read)
            (subst
            (λ (b : Bool). Gains table k.mode side (hears side k) true k.objects q w (lines_of reads.passages) (any_change reads.passages) (all_sent reads.passages) b k1.objects q1)
            (sym still)
            (record { passages = reads.passages; passes = reads.passes; lines_are = refl; changed_is = refl; sent_is = refl }));
        receives = inl same;
        mode = reads.mode;
        unchanged = reads.unchanged;
        other = follows_same (other_side side) k k1 reads.client reads.server;
      }

  -- nothing comes
  grows_nothing : (k : Known) (q w out : Queue) → GrowsLog table side k q w out k q w out
  grows_nothing k q w out = at (follows side k) refl
    where
      at : (b : Bool) → follows side k ≡ b → GrowsLog table side k q w out k q w out
      at true read = read_grows k k q q w w out out read refl (reads_nothing table side k q out)
      at false unread_is = passes_by table side k q q w w out out nothing unread_is refl refl (sym (joined_nothing out))

  pub grows_nothing_as : (k : Known) (from from1 : LinkState MailboxState) (out : Queue) → from1 ≡ from
      → GrowsLog table side k (still_to_read from) from.transport.arrived out k (still_to_read from1) from1.transport.arrived out
  grows_nothing_as k from from1 out same =
      subst (λ (l : LinkState MailboxState). GrowsLog table side k (still_to_read from) from.transport.arrived out k (still_to_read l) l.transport.arrived out) (sym same)
      (grows_nothing k (still_to_read from) from.transport.arrived out)

  -- what was received with the tokens of a mailbox is read
  pub received_grows : (k k2 : Known) (from from1 from2 : LinkState MailboxState) (out out2 : Queue) → from1.transport.arrived.tokens ≡ []
      → still_to_read from1 ≡ still_to_read from
      → GrowsLog table side k (still_to_read from1) from1.transport.arrived out k2 (still_to_read from2) from2.transport.arrived out2
      → GrowsLog table side k (still_to_read from) from.transport.arrived out k2 (still_to_read from2) from2.transport.arrived out2
  received_grows k k2 from from1 from2 out out2 none reads grows = record {
    lines = grows.lines;
    changed = grows.changed;
    sent = grows.sent;
    log = grows.log;
    out_is = grows.out_is;
    changed_is = grows.changed_is;
    gains = subst
        (λ (q : Queue). Gains table k.mode side (hears side k) (follows side k) k.objects q from.transport.arrived grows.lines grows.changed grows.sent (follows side k2) k2.objects (still_to_read from2))
        reads
        (gains_received (follows side k) (follows side k2) grows.gains);
    receives = tokens_stay from.transport.arrived from1.transport.arrived from2.transport.arrived (inr none) grows.receives;
    mode = grows.mode;
    unchanged = grows.unchanged;
    other = grows.other;
  }
    where
      gains_received : (f f2 : Bool) → Gains table k.mode side (hears side k) f k.objects (still_to_read from1) from1.transport.arrived grows.lines grows.changed grows.sent f2 k2.objects (still_to_read from2)
          → Gains table k.mode side (hears side k) f k.objects (still_to_read from1) from.transport.arrived grows.lines grows.changed grows.sent f2 k2.objects (still_to_read from2)
      gains_received false f2 gains = gains
      gains_received true true gains = gains
      gains_received true false gains = record {
        passages = gains.passages;
        mid = gains.mid;
        received = gains.received;
        behind = gains.behind;
        reason = gains.reason;
        last = gains.last;
        handed = gains.handed;
        passes = gains.passes;
        tokens_first = tokens_stay from.transport.arrived from1.transport.arrived gains.behind (inr none) gains.tokens_first;
        stops = gains.stops;
        lines_are = gains.lines_are;
        changed_is = gains.changed_is;
        sent_is = gains.sent_is;
        as_it_is = gains.as_it_is;
      }

  -- a side that is not read
  pub unread_grows : (k : Known) (from from' to to' : LinkState MailboxState) → follows side k ≡ false → HandsOnAll from to from' to'
      → GrowsLog table side k (still_to_read from) from.transport.arrived (still_to_send to) k (still_to_read from') from'.transport.arrived (still_to_send to')
  unread_grows k from from' to to' unread_is handed =
      passes_by table side k (still_to_read from) (still_to_read from') from.transport.arrived from'.transport.arrived (still_to_send to) (still_to_send to')
      from.incoming unread_is (handed_all from from' to to' handed) (ap (λ (l : LinkState MailboxState). l.transport.arrived) handed.0) handed.1

  pub unread_done : (k : Known) (from from' to to' : LinkState MailboxState) → follows side k ≡ false → HandsOnAll from to from' to'
      → IsDone table side k from'.incoming
  unread_done k from from' to to' unread_is handed =
      subst (λ (b : Bool). MatchBool b (AwaitsMore table k.mode side k.objects from'.incoming) (from'.incoming ≡ nothing)) (sym unread_is)
      (ap (λ (l : LinkState MailboxState). l.incoming) handed.0)

  -- a side that is read, up to a message that awaits more
  pub awaiting_grows : (k k1 : Known) (from from1 to to1 : LinkState MailboxState) → follows side k ≡ true → ReadsUpTo table side k from to None k1 from1 to1
      → from1.transport ≡ from.transport
      → GrowsLog table side k (still_to_read from) from.transport.arrived (still_to_send to) k1 (still_to_read from1) from1.transport.arrived (still_to_send to1)
  awaiting_grows k k1 from from1 to to1 read reads same =
      read_grows k k1 (still_to_read from) (still_to_read from1) from.transport.arrived from1.transport.arrived (still_to_send to) (still_to_send to1) read
      (ap (λ (m : MailboxState). m.arrived) same) reads.0

  pub awaiting_done : (k k1 : Known) (from from1 to to1 : LinkState MailboxState) → follows side k ≡ true → ReadsUpTo table side k from to None k1 from1 to1
      → IsDone table side k1 from1.incoming
  awaiting_done k k1 from from1 to to1 read reads =
      let still : follows side k1 ≡ true = follows_same side k k1 reads.0.client reads.0.server ∙ read in
      subst (λ (b : Bool). MatchBool b (AwaitsMore table k1.mode side k1.objects from1.incoming) (from1.incoming ≡ nothing)) (sym still) reads.1

  -- ---- a fault

  module _ (f : Fault) (k k1 k2 : Known) (from from1 from2 to to1 to2 : LinkState MailboxState) (read : follows side k ≡ true)
      (upto : ReadsUpTo table side k from to (Some f) k1 from1 to1) (same : from1.transport ≡ from.transport) (tells : TellsFault side f k1 k2) (handed : HandsOnAll from1 to1 from2 to2) where
    abbrev at : Known
    at = upto.0

    abbrev reads : ReadsOn table side k (still_to_read from) (still_to_send to) at (still_to_read from1) (still_to_send to1)
    reads = upto.1

    still : follows side k1 ≡ true
    still =
        ap (follows side) upto.2.3 ∙ at_fault side at (at.log ++ upto.2.0) upto.2.1
        ∙ follows_same side k at reads.client reads.server ∙ read

    is_stopped : k2 ≡ stopped side f k1
    is_stopped = tells ∙ ap (λ (b : Bool). if b then stopped side f k1 else k1) still

    is_unread : follows side k2 ≡ false
    is_unread = ap (follows side) is_stopped ∙ (stopped_rest side f k1).3

    ends : Ends table k.mode side (hears side k) k.objects (still_to_read from) from.transport.arrived (lines_of reads.passages ++ (upto.2.0 ++ fault_line side f ∷ [])) (any_change reads.passages)
        (joined (all_sent reads.passages) from1.incoming) k2.objects (still_to_read from2)
    ends = record {
      passages = reads.passages;
      mid = at.objects;
      received = from1.incoming;
      behind = from1.transport.arrived;
      reason = f;
      last = upto.2.0;
      handed = from1.incoming;
      passes = reads.passes;
      tokens_first = inl (ap (λ (m : MailboxState). m.arrived) same);
      stops = subst (λ (b : Bool). Stops table k.mode side b at.objects from1.incoming f upto.2.0 k2.objects)
          (follows_same (other_side side) k at reads.client reads.server)
          (subst (λ (m : Mode). Stops table m side (hears side at) at.objects from1.incoming f upto.2.0 k2.objects) reads.mode
          (subst (λ (o : Store (Unit {0})). Stops table at.mode side (hears side at) at.objects from1.incoming f upto.2.0 o)
          (sym (ap (λ (x : Known). x.objects) is_stopped ∙ (stopped_rest side f k1).0 ∙ ap (λ (x : Known). x.objects) upto.2.3)) upto.2.2));
      lines_are = refl;
      changed_is = refl;
      sent_is = refl;
      as_it_is = handed_all from1 from2 to1 to2 handed;
    }

    pub fault_grows : GrowsLog table side k (still_to_read from) from.transport.arrived (still_to_send to) k2 (still_to_read from2) from2.transport.arrived (still_to_send to2)
    fault_grows =
        let after = stopped_rest side f k1 in
        let lines : List (List ℕ) = lines_of reads.passages ++ (upto.2.0 ++ fault_line side f ∷ []) in
        let sent : Queue = joined (all_sent reads.passages) from1.incoming in
        let same_changed : k2.has_changed ≡ at.has_changed
        = ap (λ (x : Known). x.has_changed) is_stopped ∙ after.2 ∙ ap (λ (x : Known). x.has_changed) upto.2.3 in record {
          lines = lines;
          changed = any_change reads.passages;
          sent = sent;
          log = ap (λ (x : Known). x.log) is_stopped ∙ stopped_log side f k1 ∙ ap (λ (x : Known). x.log ++ fault_line side f ∷ []) upto.2.3
              ∙ ap (λ (ls : List (List ℕ)). (ls ++ upto.2.0) ++ fault_line side f ∷ []) reads.log
              ∙ append_assoc (k.log ++ lines_of reads.passages) upto.2.0 (fault_line side f ∷ [])
              ∙ append_assoc k.log (lines_of reads.passages) (upto.2.0 ++ fault_line side f ∷ []);
          out_is = handed.1 ∙ ap (λ (x : Queue). joined x from1.incoming) reads.out_is ∙ joined_assoc (still_to_send to) (all_sent reads.passages) from1.incoming;
          changed_is = same_changed ∙ reads.changed_is;
          gains = subst
              (λ (b : Bool). Gains table k.mode side (hears side k) b k.objects (still_to_read from) from.transport.arrived lines (any_change reads.passages) sent (follows side k2) k2.objects (still_to_read from2))
              (sym read)
              (subst
              (λ (b : Bool). Gains table k.mode side (hears side k) true k.objects (still_to_read from) from.transport.arrived lines (any_change reads.passages) sent b k2.objects (still_to_read from2))
              (sym is_unread)
              ends);
          receives = inl (ap (λ (l : LinkState MailboxState). l.transport.arrived) handed.0 ∙ ap (λ (m : MailboxState). m.arrived) same);
          mode = ap (λ (x : Known). x.mode) is_stopped ∙ after.1 ∙ ap (λ (x : Known). x.mode) upto.2.3 ∙ reads.mode;
          unchanged = λ is. same_changed ∙ reads.unchanged is;
          other = ap (follows (other_side side)) is_stopped ∙ after.4 ∙ ap (follows (other_side side)) upto.2.3
              ∙ at_fault (other_side side) at (at.log ++ upto.2.0) upto.2.1 ∙ follows_same (other_side side) k at reads.client reads.server;
        }

    pub fault_done : IsDone table side k2 from2.incoming
    fault_done = unread_done k2 from1 from2 to1 to2 is_unread handed

    pub fault_unread : follows side k2 ≡ false
    fault_unread = is_unread

  -- ---- a buffer that is full

  -- a side that is not read leaves no buffer full
  pub full_is_read : (k : Known) (q : Queue) → IsDone table side k q → 65536 ≤ length q.bytes → follows side k ≡ true
  full_is_read k q done full = at (follows side k) refl
    where
      at : (b : Bool) → follows side k ≡ b → follows side k ≡ true
      at true is = is
      at false is =
          let none : q ≡ nothing = MatchBool-at_false _ _ is done in
          let no_bytes : length q.bytes ≡ 0 = ap (λ (x : Queue). length x.bytes) none in
          absurd (omega (arith, full, no_bytes))

  -- what waits in a buffer that is full lacks a descriptor
  pub full_stops : (k : Known) (from to : LinkState MailboxState) → IsDone table side k from.incoming → 65536 ≤ length from.incoming.bytes
      → ReadsUpTo table side k from to (Some fault.MissingDescriptor) k from to
  full_stops k from to done full =
      let awaits : AwaitsMore table k.mode side k.objects from.incoming = MatchBool-at_true _ _ (full_is_read k from.incoming done full) done in (
        k,
        reads_nothing table side k (still_to_read from) (still_to_send to),
        ([], k.objects, inr (inr (full, awaits, refl, refl, refl)), ap (λ (ls : List (List ℕ)). record k { log = ls }) (sym (append-nil k.log))),
      )

  -- a fault of a buffer that is full, which was received into
  pub full_grows : (k k2 : Known) (from0 from from2 to to2 : LinkState MailboxState) → IsDone table side k from0.incoming → from.incoming ≡ from0.incoming
      → 65536 ≤ length from0.incoming.bytes → still_to_read from ≡ still_to_read from0 → from.transport ≡ from0.transport → TellsFault side fault.MissingDescriptor k k2
      → HandsOnAll from to from2 to2
      → GrowsLog table side k (still_to_read from0) from0.transport.arrived (still_to_send to) k2 (still_to_read from2) from2.transport.arrived (still_to_send to2)
  full_grows k k2 from0 from from2 to to2 done0 same full0 reads mailbox tells handed =
      let done : IsDone table side k from.incoming = subst (λ (q : Queue). IsDone table side k q) (sym same) done0 in
      let full : 65536 ≤ length from.incoming.bytes = subst (λ (q : Queue). 65536 ≤ length q.bytes) (sym same) full0 in
      subst (λ (m : MailboxState). GrowsLog table side k (still_to_read from0) m.arrived (still_to_send to) k2 (still_to_read from2) from2.transport.arrived (still_to_send to2)) mailbox
      (subst (λ (q : Queue). GrowsLog table side k q from.transport.arrived (still_to_send to) k2 (still_to_read from2) from2.transport.arrived (still_to_send to2)) reads
      (fault_grows fault.MissingDescriptor k k k2 from from from2 to to to2 (full_is_read k from.incoming done full) (full_stops k from to done full) refl tells handed))

-- ---- what came from a side is read behind what was there

-- what was put in follows what is still to be read
pub put_behind : (before after : LinkState MailboxState) (came : Queue) → PutsIn before came after → still_to_read after ≡ joined (still_to_read before) came
put_behind before after came puts = ap still_to_read puts ∙ sym (joined_assoc before.incoming before.transport.arrived came)

abbrev GrowsTo : Side → RelayState → List InterfaceRow → Known → Queue → Queue → Queue → Type 0
GrowsTo side after t k q w out = GrowsLog t side k q w out after.known (to_read side after) (not_received side after) (to_send (other_side side) after)

pub arrives_logged : (side : Side) (came : Queue) (before mid after : RelayState) → mid.known ≡ before.known → mid.table ≡ before.table
    → to_read side mid ≡ joined (to_read side before) came → not_received side mid ≡ joined (not_received side before) came
    → to_send (other_side side) mid ≡ to_send (other_side side) before → LogsRead side mid after → Logged side came before after
arrives_logged side came before mid after same_known same_table behind arrived same_out logs = (
  subst (λ (t : List InterfaceRow). GrowsTo side after t before.known (joined (to_read side before) came) (joined (not_received side before) came) (to_send (other_side side) before)) same_table
      (subst (λ (k : Known). GrowsTo side after mid.table k (joined (to_read side before) came) (joined (not_received side before) came) (to_send (other_side side) before)) same_known
      (subst (λ (q : Queue). GrowsTo side after mid.table mid.known q (joined (not_received side before) came) (to_send (other_side side) before)) behind
      (subst (λ (q : Queue). GrowsTo side after mid.table mid.known (to_read side mid) q (to_send (other_side side) before)) arrived
      (subst (λ (q : Queue). GrowsTo side after mid.table mid.known (to_read side mid) (not_received side mid) q) same_out logs.0)))),
  logs.1 ∙ same_table,
)
