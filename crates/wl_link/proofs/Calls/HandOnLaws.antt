-- That handing on loses nothing and adds nothing.
use Rattle.std.specs.Prelude.{◌≡◌, ℕ, List, [], ◌∷◌, ◌++◌, Result, Ok, Err}
use Rattle.std.proofs.Common.{refl, sym, ◌∙◌, ap, inl, inr}
use Rattle.std.proofs.lemmas.List.{take-append-drop}
use Rattle.wl_wire.specs.declared.argument.ArgumentType.{ArgumentType}
use Rattle.wl_wire.specs.declared.argument.Token.{Token}
use Rattle.wl_wire.specs.declared.error.IoFault.{IoFault}
use Rattle.wl_wire.specs.Parse.{length_of, fd_count}
use Rattle.wl_link.specs.declared.buffered_socket.hand_on.HandOnError.{HandOnError}
use Rattle.wl_link.specs.declared.buffered_socket.hand_on.HandOnError.TheVariants as hand
use Rattle.wl_link.specs.Exchange.{Queue, Sending, joined, nothing, IsWithinOffer}
use Rattle.wl_link.specs.HandOn.{HandsOn, Carries, RefusesHandOn, first_of}
use Rattle.wl_link.specs.Link.{LinkState, after_first, with_came, with_transport}
use Rattle.wl_link.specs.NothingLost.{taken, NoZero, LosesNothing}
use Rattle.wl_link.specs.Relayed.{RelayCall, ByReceive, ByHandOn, BySend, RelayStep, RelayLaw, came_by, left_by, all_came, all_left, NotZero}
use Rattle.wl_link.proofs.Calls.NothingLostLaws.{flush_kept, gone-taken}
use Rattle.wl_link.proofs.Calls.QueueLaws.{queue_is, joined_assoc, joined_nothing}

-- the first message, and then what follows it
first_and_rest : (signature : List ArgumentType) (q : Queue) → joined (first_of signature q) (after_first signature q) ≡ q
first_and_rest signature q = queue_is _ _ (take-append-drop (length_of q.bytes) q.bytes) (take-append-drop (fd_count signature) q.tokens)

module _ {R S : Type 0} (signature : List ArgumentType) (from from' : LinkState R) (to to' : LinkState S) where
  same_outgoing : (e : HandOnError) → RefusesHandOn signature from to e to' → to'.outgoing ≡ to.outgoing
  same_outgoing hand.MissingData r = ap (λ (l : LinkState S). l.outgoing) r.1
  same_outgoing hand.Malformed r = ap (λ (l : LinkState S). l.outgoing) r.2
  same_outgoing hand.MissingFD r = ap (λ (l : LinkState S). l.outgoing) r.1
  same_outgoing hand.NoRoom r = ap (λ (l : LinkState S). l.outgoing) r.1.1
  same_outgoing hand.OutOfMemory r = elim r.1 [ inl same ↦ ap (λ (l : LinkState S). l.outgoing) same.0 | inr grown ↦ ap (λ (l : LinkState S). l.outgoing) grown.0.1 ]

  pub carries : (answer : Result (Unit {0}) HandOnError) → HandsOn signature from to answer from' to' → Carries from to from' to'
  carries (Ok u) h =
      let out : to'.outgoing ≡ joined to.outgoing (first_of signature from.incoming)
      = ap (λ (l : LinkState S). l.outgoing) h.2.2 ∙ ap (λ (l : LinkState S). joined l.outgoing (first_of signature from.incoming)) h.2.1.1 in
      let in_ : from'.incoming ≡ after_first signature from.incoming = ap (λ (l : LinkState R). l.incoming) h.1 in
      ap (λ (q : Queue). joined q from'.incoming) out
      ∙ ap (λ (q : Queue). joined (joined to.outgoing (first_of signature from.incoming)) q) in_
      ∙ joined_assoc to.outgoing (first_of signature from.incoming) (after_first signature from.incoming)
      ∙ ap (λ (q : Queue). joined to.outgoing q) (first_and_rest signature from.incoming)
  carries (Err e) h =
      ap (λ (q : Queue). joined q from'.incoming) (same_outgoing e h.1) ∙ ap (λ (l : LinkState R). joined to.outgoing l.incoming) h.0

kept_joined : (es : List Sending) (before after : Queue) → NoZero es → LosesNothing es before nothing after → joined (taken es) after ≡ before
kept_joined es before after none kept =
    queue_is _ _ kept.bytes (ap (λ (ts : List Token). ts ++ after.tokens) (sym (gone-taken es none)) ∙ kept.tokens) ∙ joined_nothing before

came_is : (before : Queue) (r : Result Queue IoFault) → with_came before r ≡ joined before (came_by (ByReceive r))
came_is before (Ok came) = refl
came_is before (Err fault) = sym (joined_nothing before)

module _ {R S : Type 0} (receives : R → ℕ → Result Queue IoFault → R → Type 0) (sends : S → Queue → Result ℕ IoFault → S → Type 0) (within : IsWithinOffer sends) where
  step_kept : (from from' : LinkState R) (to to' : LinkState S) (c : RelayCall) → RelayStep receives sends from to c from' to' → NotZero c
      → joined (left_by c) (joined to'.outgoing from'.incoming) ≡ joined (joined to.outgoing from.incoming) (came_by c)
  step_kept from from' to to' (ByReceive received) step none =
      ap (λ (l : LinkState S). joined l.outgoing from'.incoming) step.1
      ∙ ap (λ (q : Queue). joined to.outgoing q) (ap (λ (l : LinkState R). l.incoming) step.0.1.2 ∙ came_is from.incoming received)
      ∙ sym (joined_assoc to.outgoing from.incoming (came_by (ByReceive received)))
  step_kept from from' to to' (ByHandOn signature answer) step none =
      carries signature from from' to to' answer step ∙ sym (joined_nothing (joined to.outgoing from.incoming))
  step_kept from from' to to' (BySend es answer) step none =
      sym (joined_assoc (taken es) to'.outgoing from'.incoming)
      ∙ ap (λ (q : Queue). joined q from'.incoming) (kept_joined es to.outgoing to'.outgoing none (flush_kept sends within to to' es answer step.0))
      ∙ ap (λ (l : LinkState R). joined to.outgoing l.incoming) step.1
      ∙ sym (joined_nothing (joined to.outgoing from.incoming))

  pub relay_law : RelayLaw receives sends
  relay_law from from' to to' [] run none =
      ap (λ (l : LinkState S). joined l.outgoing from'.incoming) run.1 ∙ ap (λ (l : LinkState R). joined to.outgoing l.incoming) run.0
      ∙ sym (joined_nothing (joined to.outgoing from.incoming))
  relay_law from from' to to' (c ∷ cs) run none =
      let mid_from : LinkState R = run.2 in
      let mid_to : LinkState S = run.3 in
      let first : joined (left_by c) (joined mid_to.outgoing mid_from.incoming) ≡ joined (joined to.outgoing from.incoming) (came_by c)
      = step_kept (with_transport from run.0) mid_from (with_transport to run.1) mid_to c run.4 none.0 in
      let others : joined (all_left cs) (joined to'.outgoing from'.incoming) ≡ joined (joined mid_to.outgoing mid_from.incoming) (all_came cs)
      = relay_law mid_from from' mid_to to' cs run.5 none.1 in
      joined_assoc (left_by c) (all_left cs) (joined to'.outgoing from'.incoming)
      ∙ ap (λ (q : Queue). joined (left_by c) q) others
      ∙ sym (joined_assoc (left_by c) (joined mid_to.outgoing mid_from.incoming) (all_came cs))
      ∙ ap (λ (q : Queue). joined q (all_came cs)) first
      ∙ joined_assoc (joined to.outgoing from.incoming) (came_by c) (all_came cs)
