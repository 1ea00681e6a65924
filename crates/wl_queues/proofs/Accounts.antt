-- What comes into a queue leaves it in order, or waits.
use Rattle.std.proofs.Common.{◌≡◌, ℕ, List, [], ◌∷◌, ◌++◌, Bool, true, false, drop, refl, sym, ap, ◌∙◌, arith, append_assoc, append-nil}
use Rattle.std.specs.Prelude.{if◌then◌else◌, ◌==◌}
use Rattle.std.proofs.lemmas.Bool.Decides.{nat_tests}
use Rattle.wl_queues.specs.declared.events.Event.{Event}
use Rattle.wl_queues.specs.Queues.{Call, Add, Destroy, DropQueue, Does, Fail, Finish, NewQueue, Next, NextUnused, Put, QueuesState, SetQueue}
use Rattle.wl_queues.specs.Runs.{AccountsForQueues, Runs, all_by, comes_by, leaves_by, new_queues}

module _ {E : Type 0} where
  -- nothing comes or leaves
  as-it-was : (s m : QueuesState E) (q : ℕ) → m.waiting q ≡ s.waiting q → s.waiting q ++ [] ≡ m.waiting q
  as-it-was s m q same = append-nil (s.waiting q) ∙ sym same

  put-step : (waiting : ℕ → List (Event E)) (q queue : ℕ) (e : Event E) (b : Bool) → (q == queue) ≡ b →
      waiting q ++ (if b then e ∷ [] else []) ≡ (if b then waiting queue ++ e ∷ [] else waiting q)
  put-step waiting q queue e true here = let same : q ≡ queue = grind (arith, nat_tests, here) in ap (λ n. waiting n ++ e ∷ []) same
  put-step waiting q queue e false other = append-nil (waiting q)

  next-step : (waiting : ℕ → List (Event E)) (q queue : ℕ) (e : Event E) (later : List (Event E)) → waiting queue ≡ e ∷ later → (b : Bool) → (q == queue) ≡ b →
      waiting q ++ [] ≡ (if b then e ∷ [] else []) ++ (if b then drop 1 (waiting queue) else waiting q)
  next-step waiting q queue e later first true here =
      let same : q ≡ queue = grind (arith, nat_tests, here) in
      append-nil (waiting q) ∙ (ap waiting same ∙ (first ∙ sym (ap (λ ws. e ∷ drop 1 ws) first)))
  next-step waiting q queue e later first false other = append-nil (waiting q)

  step : (s m : QueuesState E) (q : ℕ) (c : Call E) → Does s c m → s.waiting q ++ comes_by q c ≡ leaves_by q c ++ m.waiting q
  step s m q (Put queue e) d = put-step s.waiting q queue e (q == queue) refl ∙ sym (d.leaves.waiting q)
  step s m q (Next queue e outcome) d =
      next-step s.waiting q queue e d.answers.0.0 d.answers.0.1 (q == queue) refl
      ∙ sym (ap (λ ws. leaves_by q (Next queue e outcome) ++ ws) (d.leaves.waiting q))
  step s m q (NewQueue queue) d = as-it-was s m q (d.leaves.waiting q)
  step s m q (DropQueue queue) d = as-it-was s m q (d.leaves.waiting q)
  step s m q (Add object queue content) d = as-it-was s m q (d.leaves.waiting q)
  step s m q (SetQueue object queue) d = as-it-was s m q (d.leaves.waiting q)
  step s m q (Destroy object) d = as-it-was s m q (d.leaves.waiting q)
  step s m q (Finish ticket e) d = as-it-was s m q (d.leaves.waiting q)
  step s m q Fail d = as-it-was s m q (d.leaves.waiting q)
  step s m q (NextUnused object content) d = as-it-was s m q (d.leaves.waiting q)

  accounts : (s t : QueuesState E) (q : ℕ) (calls : List (Call E)) → Runs s calls t →
      s.waiting q ++ all_by (comes_by q) calls ≡ all_by (leaves_by q) calls ++ t.waiting q
  accounts s t q [] r = as-it-was s t q (r.waiting q)
  accounts s t q (c ∷ calls) r =
      let m = r.0 in
      sym (append_assoc (s.waiting q) (comes_by q c) (all_by (comes_by q) calls))
      ∙ (ap (λ ws. ws ++ all_by (comes_by q) calls) (step s m q c r.1)
      ∙ (append_assoc (leaves_by q c) (m.waiting q) (all_by (comes_by q) calls)
      ∙ (ap (λ ws. leaves_by q c ++ ws) (accounts m t q calls r.2)
      ∙ sym (append_assoc (leaves_by q c) (all_by (leaves_by q) calls) (t.waiting q)))))

pub accounts_for_queues : (E : Type 0) → AccountsForQueues E
accounts_for_queues E calls s r q = accounts new_queues s q calls r
