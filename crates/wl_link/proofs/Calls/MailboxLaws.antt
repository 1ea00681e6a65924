-- Nothing is lost in a mailbox, whatever is called and in which order.
use Rattle.std.specs.Prelude.{◌≡◌, ◌<◌, ◌+◌, ℕ, zero, suc, Bool, true, false, Option, None, Some, List, [], ◌∷◌, ◌++◌, length, nat_le, nat_lt, ◌&&◌, ◌==◌, if◌then◌else◌, ◌⊎◌, Result, Ok, Err}
use Rattle.std.proofs.Common.{ap, append-nil, arith, sym, ◌∙◌, inl, inr, refl}
use Rattle.std.proofs.lemmas.Bool.{ltb-true}
use Rattle.std.proofs.lemmas.List.{length-append, take-append-drop}
use Rattle.wl_wire.specs.declared.argument.Token.{Token}
use Rattle.wl_wire.specs.declared.error.IoFault.{IoFault}
use Rattle.wl_link.specs.Exchange.{Queue, joined, nothing}
use Rattle.wl_link.specs.Mailbox.{MailboxState, MailboxReceives, MailboxSends, answer_under, behind, front, given, kept_by, left, mailbox_after_receive, mailbox_gives}
use Rattle.wl_link.specs.MailboxCalls.{MailboxCall, PutIn, Received, Sent, TakenOut, Told, Does, DoesAll, MailboxKeeps, StaysWithinRoom, accepted_by, arrived_by, in_all, received_by, taken_out_by}
use Rattle.wl_link.specs.declared.mailbox.Ending.{Ending}
use Rattle.wl_link.specs.declared.mailbox.Ending.TheVariants as ending
use Rattle.wl_link.proofs.Calls.QueueLaws.{joined_assoc, joined_nothing, queue_is}

-- ---- queues

-- what came out of one call, and then of the others, if it is so of each
joins : (b m a o os i is : Queue) → joined o m ≡ joined b i → joined os a ≡ joined m is → joined (joined o os) a ≡ joined b (joined i is)
joins b m a o os i is one rest =
    joined_assoc o os a ∙ ap (λ (q : Queue). joined o q) rest ∙ sym (joined_assoc o m is) ∙ ap (λ (q : Queue). joined q is) one
    ∙ joined_assoc b i is

-- nothing went in and nothing came out
stays : (b m : Queue) → m ≡ b → joined nothing m ≡ joined b nothing
stays b m same = ap (λ (q : Queue). joined nothing q) same ∙ sym (joined_nothing b)

front_and_behind : (n : ℕ) (q : Queue) → joined (front n q) (behind n q) ≡ q
front_and_behind n q = queue_is _ _ (take-append-drop n q.bytes) (tokens (n == 0))
  where
    tokens : (none : Bool) → (if none then [] else q.tokens) ++ (if none then q.tokens else []) ≡ q.tokens
    tokens true = refl
    tokens false = append-nil q.tokens

-- ---- one call

given_and_left : (bytes : List ℕ) (tokens : List Token) (end : Ending) (n : ℕ)
    → joined (received_by (Received (suc n) (given bytes tokens end (suc n)))) (left bytes tokens (suc n)) ≡ record { bytes = bytes; tokens = tokens }
given_and_left [] tokens ending.Open n = refl
given_and_left [] tokens ending.Ended n = refl
given_and_left [] tokens (ending.Failed fault) n = refl
given_and_left (b ∷ bytes) tokens end n = queue_is _ _ (take-append-drop (suc n) (b ∷ bytes)) (append-nil tokens)

gives_and_leaves : (m : MailboxState) (room : ℕ) → joined (received_by (Received room (mailbox_gives m room))) (mailbox_after_receive m room).arrived ≡ m.arrived
gives_and_leaves m zero = refl
gives_and_leaves m (suc n) = given_and_left m.arrived.bytes m.arrived.tokens m.ending n

receive_sends_nothing : (m : MailboxState) (room : ℕ) → (mailbox_after_receive m room).waiting ≡ m.waiting
receive_sends_nothing m zero = refl
receive_sends_nothing m (suc n) = refl

pub receive_keeps : (before after : MailboxState) (room : ℕ) (answer : Result Queue IoFault) → MailboxReceives before room answer after
    → (joined (received_by (Received room answer)) after.arrived ≡ joined before.arrived nothing) × (after.waiting ≡ before.waiting)
receive_keeps before after room answer (inl r) = (
  ap (λ (a : Result Queue IoFault). joined (received_by (Received room a)) after.arrived) r.1
      ∙ ap (λ (m : MailboxState). joined (received_by (Received room (mailbox_gives before room))) m.arrived) r.2
      ∙ gives_and_leaves before room ∙ sym (joined_nothing before.arrived),
  ap (λ (m : MailboxState). m.waiting) r.2 ∙ receive_sends_nothing before room,
)
receive_keeps before after room answer (inr r) = (
  ap (λ (a : Result Queue IoFault). joined (received_by (Received room a)) after.arrived) r.0
      ∙ stays before.arrived after.arrived (ap (λ (m : MailboxState). m.arrived) r.1),
  ap (λ (m : MailboxState). m.waiting) r.1,
)

kept_is_accepted : (answer : Result ℕ IoFault) (waiting offer : Queue) → joined nothing (kept_by answer waiting offer) ≡ joined waiting (accepted_by (Sent offer answer))
kept_is_accepted (Ok n) waiting offer = refl
kept_is_accepted (Err fault) waiting offer = stays waiting waiting refl

pub send_keeps : (before after : MailboxState) (offer : Queue) (answer : Result ℕ IoFault) → MailboxSends before offer answer after
    → (after.arrived ≡ before.arrived) × (joined nothing after.waiting ≡ joined before.waiting (accepted_by (Sent offer answer)))
send_keeps before after offer answer (inl s) = (
  ap (λ (m : MailboxState). m.arrived) s.1,
  ap (λ (m : MailboxState). joined nothing m.waiting) s.1
      ∙ ap (λ (a : Result ℕ IoFault). joined nothing (kept_by a before.waiting offer)) (sym s.0) ∙ kept_is_accepted answer before.waiting offer,
)
send_keeps before after offer answer (inr s) = (
  ap (λ (m : MailboxState). m.arrived) s.1,
  stays before.waiting after.waiting (ap (λ (m : MailboxState). m.waiting) s.1)
      ∙ sym (ap (λ (a : Result ℕ IoFault). joined before.waiting (accepted_by (Sent offer a))) s.0),
)

call_keeps : (before after : MailboxState) (c : MailboxCall) → Does before c after
    → (joined (received_by c) after.arrived ≡ joined before.arrived (arrived_by c))
    × (joined (taken_out_by c) after.waiting ≡ joined before.waiting (accepted_by c))
call_keeps before after (PutIn chunk) d = (
  ap (λ (m : MailboxState). joined nothing m.arrived) d,
  stays before.waiting after.waiting (ap (λ (m : MailboxState). m.waiting) d),
)
call_keeps before after (Received room answer) d =
    let kept = receive_keeps before after room answer d in
    (kept.0, stays before.waiting after.waiting kept.1)
call_keeps before after (Sent offer answer) d =
    let kept = send_keeps before after offer answer d in
    (stays before.arrived after.arrived kept.0, kept.1)
call_keeps before after (TakenOut n out) d = (
  stays before.arrived after.arrived (ap (λ (m : MailboxState). m.arrived) d.1),
  ap (λ (q : Queue). joined q after.waiting) d.0 ∙ ap (λ (m : MailboxState). joined (front n before.waiting) m.waiting) d.1
      ∙ front_and_behind n before.waiting ∙ sym (joined_nothing before.waiting),
)
call_keeps before after (Told end room fault) d = (
  stays before.arrived after.arrived (ap (λ (m : MailboxState). m.arrived) d),
  stays before.waiting after.waiting (ap (λ (m : MailboxState). m.waiting) d),
)

-- ---- all of them

pub mailbox_keeps : (calls : List MailboxCall) (before after : MailboxState) → DoesAll before calls after → MailboxKeeps calls before after
mailbox_keeps [] before after same = record {
  arrived = stays before.arrived after.arrived (ap (λ (m : MailboxState). m.arrived) same);
  sent = stays before.waiting after.waiting (ap (λ (m : MailboxState). m.waiting) same);
}
mailbox_keeps (c ∷ calls) before after (mid, d, ds) =
    let one = call_keeps before mid c d in
    let rest = mailbox_keeps calls mid after ds in
    record {
      arrived = joins before.arrived mid.arrived after.arrived (received_by c) (in_all received_by calls) (arrived_by c) (in_all arrived_by calls) one.0 rest.arrived;
      sent = joins before.waiting mid.waiting after.waiting (taken_out_by c) (in_all taken_out_by calls) (accepted_by c) (in_all accepted_by calls) one.1 rest.sent;
    }

-- ---- the room

room_stays : (send_fault : Option IoFault) (less few : Bool) (room : ℕ) (waiting offer after : Queue) → (less ≡ true → length waiting.bytes < room)
    → after ≡ kept_by (answer_under send_fault (less && few) (length offer.bytes)) waiting offer
    → (after ≡ waiting) ⊎ (length after.bytes < room + length offer.bytes)
room_stays (Some fault) less few room waiting offer after has same = inl same
room_stays None false few room waiting offer after has same = inl same
room_stays None true false room waiting offer after has same = inl same
room_stays None true true room waiting offer after has same =
    inr (omega (arith, has refl, ap (λ (q : Queue). length q.bytes) same, length-append waiting.bytes offer.bytes))

pub mailbox_stays_within_room : (before after : MailboxState) (offer : Queue) (answer : Result ℕ IoFault) → MailboxSends before offer answer after
    → StaysWithinRoom before offer after
mailbox_stays_within_room before after offer answer (inl s) =
    room_stays before.send_fault (nat_lt (length before.waiting.bytes) before.room) (nat_le (length before.waiting.tokens + length offer.tokens) 28) before.room
    before.waiting offer after.waiting (ltb-true (length before.waiting.bytes) before.room) (ap (λ (m : MailboxState). m.waiting) s.1)
mailbox_stays_within_room before after offer answer (inr s) = inl (ap (λ (m : MailboxState). m.waiting) s.1)
