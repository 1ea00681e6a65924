-- What is dropped stays dropped, and a session that failed stays failed.
use Rattle.std.proofs.Common.{◌≡◌, ℕ, ◌<◌, List, [], ◌∷◌, ◌++◌, Bool, true, false, refl, sym, ap, ◌∙◌, arith, subst}
use Rattle.std.specs.Prelude.{if◌then◌else◌, ◌==◌}
use Rattle.std.proofs.lemmas.Bool.Decides.{nat_tests}
use Rattle.wl_queues.specs.declared.events.Event.{Event}
use Rattle.wl_queues.specs.declared.objects.Fate.TheVariants.{Alive}
use Rattle.wl_queues.specs.declared.objects.Object.{Object}
use Rattle.wl_queues.specs.Events.{reason_against}
use Rattle.wl_queues.specs.Objects.{alive_in, destroyed, in_queue, is_alive, nobody}
use Rattle.wl_queues.specs.Queues.{Call, Add, Destroy, DropQueue, Does, Fail, Finish, NewQueue, Next, NextUnused, Outcome, Put, QueuesState, SetQueue, outcome_by}
use Rattle.wl_queues.specs.Runs.{DropsForGood, HandsNoneOutAfterFailing, Runs, all_by, comes_by, hands_by, is_handed, new_queues}

-- an event is handed out only if nothing is against it
handed-of-dropped : (ticket : ℕ) (failed alive : Bool) → is_handed (outcome_by ticket (reason_against failed true alive)) ≡ false
handed-of-dropped ticket true alive = refl
handed-of-dropped ticket false alive = refl

handed-of-failed : (ticket : ℕ) (dropped alive : Bool) → is_handed (outcome_by ticket (reason_against true dropped alive)) ≡ false
handed-of-failed ticket dropped alive = refl

alive-left : (queue : ℕ) (x : Object) (b : Bool) → (if b then in_queue 0 x else x).fate ≡ Alive → x.fate ≡ Alive
alive-left queue x true alive = alive
alive-left queue x false alive = alive

module _ {E : Type 0} where
  -- no object that is alive has a queue that was dropped, and the default queue was not
  record AreOpen (s : QueuesState E) : Type 0 where
    first : s.is_dropped 0 ≡ false
    each : (o : ℕ) → (s.objects o).fate ≡ Alive → s.is_dropped (s.objects o).queue ≡ false

  open-as : (s m : QueuesState E) → ((o : ℕ) → m.objects o ≡ s.objects o) → ((q : ℕ) → m.is_dropped q ≡ s.is_dropped q) → AreOpen s → AreOpen m
  open-as s m objects dropped was = record {
    first = dropped 0 ∙ was.first;
    each = λ o alive. dropped (m.objects o).queue ∙ (ap (λ x. s.is_dropped x.queue) (objects o) ∙ was.each o (subst (λ x. x.fate ≡ Alive) (objects o) alive));
  }

  -- an object that changes has an open queue, too
  open-with : (s m : QueuesState E) (object : ℕ) (x : Object) → ((o : ℕ) → m.objects o ≡ (if o == object then x else s.objects o)) → ((q : ℕ) → m.is_dropped q ≡ s.is_dropped q) →
      (x.fate ≡ Alive → s.is_dropped x.queue ≡ false) → AreOpen s → AreOpen m
  open-with s m object x objects dropped its was = record {
    first = dropped 0 ∙ was.first;
    each = λ o alive. dropped (m.objects o).queue ∙ (ap (λ y. s.is_dropped y.queue) (objects o) ∙ either o (o == object) (subst (λ y. y.fate ≡ Alive) (objects o) alive));
  }
    where
      either : (o : ℕ) (b : Bool) → (if b then x else s.objects o).fate ≡ Alive → s.is_dropped (if b then x else s.objects o).queue ≡ false
      either o true alive = its alive
      either o false alive = was.each o alive

  open-left : (s : QueuesState E) (queue : ℕ) (x : Object) → 0 < queue → s.is_dropped 0 ≡ false → s.is_dropped x.queue ≡ false → (b : Bool) → (x.queue == queue) ≡ b →
      (if (if b then in_queue 0 x else x).queue == queue then true else s.is_dropped (if b then in_queue 0 x else x).queue) ≡ false
  open-left s queue x some first its true here = grind (arith, nat_tests, some, first)
  open-left s queue x some first its false other = grind (arith, nat_tests, other, its)

  open-step : (s m : QueuesState E) (c : Call E) → Does s c m → AreOpen s → AreOpen m
  open-step s m (Add object queue content) d was = open-with s m object (alive_in queue content) d.leaves.objects d.leaves.is_dropped (λ alive. d.answers.1.kept) was
  open-step s m (SetQueue object queue) d was = open-with s m object (in_queue queue (s.objects object)) d.leaves.objects d.leaves.is_dropped (λ alive. d.answers.1.kept) was
  open-step s m (Destroy object) d was = open-with s m object (destroyed (s.objects object)) d.leaves.objects d.leaves.is_dropped (λ alive. absurd (grind (arith, alive))) was
  open-step s m (NextUnused object content) d was = open-with s m object nobody d.leaves.objects d.leaves.is_dropped (λ alive. absurd (grind (arith, alive))) was
  open-step s m (DropQueue queue) d was = record {
    first = d.leaves.is_dropped 0 ∙ grind (arith, nat_tests, d.answers.1, was.first);
    each = λ o alive.
        let x = s.objects o in
        let now = alive-left queue x (x.queue == queue) (subst (λ y. y.fate ≡ Alive) (d.leaves.objects o) alive) in
        d.leaves.is_dropped (m.objects o).queue
        ∙ (ap (λ y. if y.queue == queue then true else s.is_dropped y.queue) (d.leaves.objects o)
        ∙ open-left s queue x d.answers.1 was.first (was.each o now) (x.queue == queue) refl);
  }
  open-step s m (NewQueue queue) d was = open-as s m d.leaves.objects d.leaves.is_dropped was
  open-step s m (Put queue e) d was = open-as s m d.leaves.objects d.leaves.is_dropped was
  open-step s m (Next queue e outcome) d was = open-as s m d.leaves.objects d.leaves.is_dropped was
  open-step s m (Finish ticket e) d was = open-as s m d.leaves.objects d.leaves.is_dropped was
  open-step s m Fail d was = open-as s m d.leaves.objects d.leaves.is_dropped was

  open-run : (s t : QueuesState E) (calls : List (Call E)) → Runs s calls t → AreOpen s → AreOpen t
  open-run s t [] r was = open-as s t r.objects r.is_dropped was
  open-run s t (c ∷ calls) r was = open-run r.0 t calls r.2 (open-step s r.0 c r.1 was)

  -- ---- a queue that was dropped

  dropped-more : (s : QueuesState E) (q : ℕ) (b : Bool) → s.is_dropped q ≡ true → (if b then true else s.is_dropped q) ≡ true
  dropped-more s q true dropped = refl
  dropped-more s q false dropped = dropped

  dropped-step : (s m : QueuesState E) (q : ℕ) (c : Call E) → Does s c m → s.is_dropped q ≡ true → m.is_dropped q ≡ true
  dropped-step s m q (DropQueue queue) d dropped = d.leaves.is_dropped q ∙ dropped-more s q (q == queue) dropped
  dropped-step s m q (NewQueue queue) d dropped = d.leaves.is_dropped q ∙ dropped
  dropped-step s m q (Add object queue content) d dropped = d.leaves.is_dropped q ∙ dropped
  dropped-step s m q (SetQueue object queue) d dropped = d.leaves.is_dropped q ∙ dropped
  dropped-step s m q (Destroy object) d dropped = d.leaves.is_dropped q ∙ dropped
  dropped-step s m q (Put queue e) d dropped = d.leaves.is_dropped q ∙ dropped
  dropped-step s m q (Next queue e outcome) d dropped = d.leaves.is_dropped q ∙ dropped
  dropped-step s m q (Finish ticket e) d dropped = d.leaves.is_dropped q ∙ dropped
  dropped-step s m q Fail d dropped = d.leaves.is_dropped q ∙ dropped
  dropped-step s m q (NextUnused object content) d dropped = d.leaves.is_dropped q ∙ dropped

  none-put : (s : QueuesState E) (q queue : ℕ) (e : Event E) → s.is_dropped q ≡ true → s.is_dropped queue ≡ false → (b : Bool) → (q == queue) ≡ b → (if b then e ∷ [] else []) ≡ []
  none-put s q queue e dropped kept true here = let same : q ≡ queue = grind (arith, nat_tests, here) in absurd (clash (sym dropped ∙ (ap s.is_dropped same ∙ kept)))
    where
      clash : true ≡ false → ⊥
      clash h = grind (arith, h)
  none-put s q queue e dropped kept false other = refl

  comes-none : (s m : QueuesState E) (q : ℕ) (c : Call E) → Does s c m → AreOpen s → s.is_dropped q ≡ true → comes_by q c ≡ []
  comes-none s m q (Put queue e) d was dropped =
      none-put s q queue e dropped (ap s.is_dropped d.answers.1 ∙ was.each e.sender d.answers.0.sender) (q == queue) refl
  comes-none s m q (NewQueue queue) d was dropped = refl
  comes-none s m q (DropQueue queue) d was dropped = refl
  comes-none s m q (Add object queue content) d was dropped = refl
  comes-none s m q (SetQueue object queue) d was dropped = refl
  comes-none s m q (Destroy object) d was dropped = refl
  comes-none s m q (Next queue e outcome) d was dropped = refl
  comes-none s m q (Finish ticket e) d was dropped = refl
  comes-none s m q Fail d was dropped = refl
  comes-none s m q (NextUnused object content) d was dropped = refl

  none-handed : (e : Event E) (outcome : Outcome) (b : Bool) → is_handed outcome ≡ false → (if b then (if is_handed outcome then e ∷ [] else []) else []) ≡ []
  none-handed e outcome true against = ap (λ h. if h then e ∷ [] else []) against
  none-handed e outcome false against = refl

  hands-dropped : (s : QueuesState E) (q queue : ℕ) (e : Event E) (outcome : Outcome) → s.is_dropped q ≡ true →
      outcome ≡ outcome_by s.tickets (reason_against s.failed (s.is_dropped queue) (is_alive (s.objects e.sender).fate)) → (b : Bool) → (q == queue) ≡ b →
      (if b then (if is_handed outcome then e ∷ [] else []) else []) ≡ []
  hands-dropped s q queue e outcome dropped is true here =
      let same : queue ≡ q = grind (arith, nat_tests, here) in
      let alive = is_alive (s.objects e.sender).fate in
      none-handed e outcome true
      (ap is_handed is ∙ (ap (λ d. is_handed (outcome_by s.tickets (reason_against s.failed d alive))) (ap s.is_dropped same ∙ dropped) ∙ handed-of-dropped s.tickets s.failed alive))
  hands-dropped s q queue e outcome dropped is false other = refl

  hands-none : (s m : QueuesState E) (q : ℕ) (c : Call E) → Does s c m → s.is_dropped q ≡ true → hands_by q c ≡ []
  hands-none s m q (Next queue e outcome) d dropped = hands-dropped s q queue e outcome dropped d.answers.1 (q == queue) refl
  hands-none s m q (NewQueue queue) d dropped = refl
  hands-none s m q (DropQueue queue) d dropped = refl
  hands-none s m q (Add object queue content) d dropped = refl
  hands-none s m q (SetQueue object queue) d dropped = refl
  hands-none s m q (Destroy object) d dropped = refl
  hands-none s m q (Put queue e) d dropped = refl
  hands-none s m q (Finish ticket e) d dropped = refl
  hands-none s m q Fail d dropped = refl
  hands-none s m q (NextUnused object content) d dropped = refl

  both-none : (xs ys : List (Event E)) → xs ≡ [] → ys ≡ [] → xs ++ ys ≡ []
  both-none xs ys x y = ap (λ zs. zs ++ ys) x ∙ y

  dropped-run : (s t : QueuesState E) (q : ℕ) (calls : List (Call E)) → Runs s calls t → AreOpen s → s.is_dropped q ≡ true →
      (t.is_dropped q ≡ true) × (all_by (comes_by q) calls ≡ []) × (all_by (hands_by q) calls ≡ [])
  dropped-run s t q [] r was dropped = (r.is_dropped q ∙ dropped, refl, refl)
  dropped-run s t q (c ∷ calls) r was dropped =
      let rest = dropped-run r.0 t q calls r.2 (open-step s r.0 c r.1 was) (dropped-step s r.0 q c r.1 dropped) in
      (rest.0, both-none _ _ (comes-none s r.0 q c r.1 was dropped) rest.1, both-none _ _ (hands-none s r.0 q c r.1 dropped) rest.2)

  -- ---- a session that failed

  failed-step : (s m : QueuesState E) (c : Call E) → Does s c m → s.failed ≡ true → m.failed ≡ true
  failed-step s m Fail d failed = d.leaves.failed
  failed-step s m (NewQueue queue) d failed = d.leaves.failed ∙ failed
  failed-step s m (DropQueue queue) d failed = d.leaves.failed ∙ failed
  failed-step s m (Add object queue content) d failed = d.leaves.failed ∙ failed
  failed-step s m (SetQueue object queue) d failed = d.leaves.failed ∙ failed
  failed-step s m (Destroy object) d failed = d.leaves.failed ∙ failed
  failed-step s m (Put queue e) d failed = d.leaves.failed ∙ failed
  failed-step s m (Next queue e outcome) d failed = d.leaves.failed ∙ failed
  failed-step s m (Finish ticket e) d failed = d.leaves.failed ∙ failed
  failed-step s m (NextUnused object content) d failed = d.leaves.failed ∙ failed

  hands-failed : (s m : QueuesState E) (q : ℕ) (c : Call E) → Does s c m → s.failed ≡ true → hands_by q c ≡ []
  hands-failed s m q (Next queue e outcome) d failed =
      none-handed e outcome (q == queue)
      (ap is_handed d.answers.1 ∙ ap (λ f. is_handed (outcome_by s.tickets (reason_against f (s.is_dropped queue) (is_alive (s.objects e.sender).fate)))) failed)
  hands-failed s m q (NewQueue queue) d failed = refl
  hands-failed s m q (DropQueue queue) d failed = refl
  hands-failed s m q (Add object queue content) d failed = refl
  hands-failed s m q (SetQueue object queue) d failed = refl
  hands-failed s m q (Destroy object) d failed = refl
  hands-failed s m q (Put queue e) d failed = refl
  hands-failed s m q (Finish ticket e) d failed = refl
  hands-failed s m q Fail d failed = refl
  hands-failed s m q (NextUnused object content) d failed = refl

  failed-run : (s t : QueuesState E) (q : ℕ) (calls : List (Call E)) → Runs s calls t → s.failed ≡ true → (t.failed ≡ true) × (all_by (hands_by q) calls ≡ [])
  failed-run s t q [] r failed = (r.failed ∙ failed, refl)
  failed-run s t q (c ∷ calls) r failed =
      let rest = failed-run r.0 t q calls r.2 (failed-step s r.0 c r.1 failed) in
      (rest.0, both-none _ _ (hands-failed s r.0 q c r.1 failed) rest.1)

pub drops_for_good : (E : Type 0) → DropsForGood E
drops_for_good E before later s t r after q dropped =
    dropped-run s t q later after (open-run new_queues s before r (record { first = refl; each = λ o alive. refl })) dropped

pub hands_none_out_after_failing : (E : Type 0) → HandsNoneOutAfterFailing E
hands_none_out_after_failing E calls s t failed r = ((failed-run s t 0 calls r failed).0, λ q. (failed-run s t q calls r failed).1)
