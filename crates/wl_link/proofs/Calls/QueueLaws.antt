-- Queues behind one another.
use Rattle.std.proofs.Common.{◌≡◌, ℕ, List, [], ◌∷◌, ◌++◌, append_assoc, append-nil, Result, refl, ap, subst, ◌∙◌}
use Rattle.wl_wire.specs.declared.argument.Token.{Token}
use Rattle.wl_wire.specs.declared.error.IoFault.{IoFault}
use Rattle.wl_link.specs.Exchange.{Chain, Queue, Sending, joined, nothing}

pub queue_is : (q r : Queue) → q.bytes ≡ r.bytes → q.tokens ≡ r.tokens → q ≡ r
queue_is q r bytes fds =
    let with_bytes : List ℕ → Queue = λ b. record { bytes = b; tokens = q.tokens } in
    let with_tokens : List Token → Queue = λ t. record { bytes = r.bytes; tokens = t } in
    ap with_bytes bytes ∙ ap with_tokens fds

pub joined_assoc : (p q r : Queue) → joined (joined p q) r ≡ joined p (joined q r)
joined_assoc p q r = queue_is _ _ (append_assoc p.bytes q.bytes r.bytes) (append_assoc p.tokens q.tokens r.tokens)

pub joined_nothing : (q : Queue) → joined q nothing ≡ q
joined_nothing q = queue_is _ _ (append-nil q.bytes) (append-nil q.tokens)

-- ---- sends one after another

-- a chain in two parts
pub chain_parts : {S : Type 0} (sends : S → Queue → Result ℕ IoFault → S → Type 0) (es fs : List Sending) (t u : S) → Chain sends t (es ++ fs) u
    → (mid : S) × Chain sends t es mid × Chain sends mid fs u
chain_parts sends [] fs t u chain = (t, refl, chain)
chain_parts sends (e ∷ es) fs t u (v, one, chain) =
    let r = chain_parts sends es fs v u chain in
    (r.0, (v, one, r.1), r.2)

-- and of two
pub chain_joins : {S : Type 0} (sends : S → Queue → Result ℕ IoFault → S → Type 0) (t u v : S) (es fs : List Sending) → Chain sends t es u → Chain sends u fs v
    → Chain sends t (es ++ fs) v
chain_joins sends t u v [] fs same chain = subst (λ (s : _). Chain sends s fs v) same chain
chain_joins sends t u v (e ∷ es) fs (mid, one, rest) chain = (mid, one, chain_joins sends mid u v es fs rest chain)
