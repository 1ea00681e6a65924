-- Each object is told unused once, and no event names a slot that is free.
use Rattle.std.proofs.Common.{◌≡◌, ℕ, suc, ◌+◌, List, [], ◌∷◌, ◌++◌, Bool, true, false, take, drop, refl, sym, ap, ◌∙◌, arith, subst}
use Rattle.std.specs.Prelude.{if◌then◌else◌, ◌==◌, ◌≤◌, All, cond}
use Rattle.std.proofs.lemmas.Bool.Decides.{nat_tests}
use Rattle.std.proofs.lemmas.List.Elements.{All-append, All-drop, All-head, All-nil, All-push, All-take, All-cons, All-weaker}
use Rattle.std.proofs.lemmas.List.Sums.{sum_by-le}
use Rattle.wl_queues.specs.declared.events.Event.{Event}
use Rattle.wl_queues.specs.declared.objects.Fate.{Fate}
use Rattle.wl_queues.specs.declared.objects.Fate.TheVariants.{Alive, Destroyed, Free}
use Rattle.wl_queues.specs.declared.objects.Object.{Object}
use Rattle.wl_queues.specs.Events.{NamesLive, times_in, times_named}
use Rattle.wl_queues.specs.Objects.{alive_in, destroyed, in_queue, nobody}
use Rattle.wl_queues.specs.Queues.{Call, Add, Destroy, DropQueue, Does, Dropped, Fail, Finish, Handed, IsAlike, IsUnnamed, NewQueue, Next, NextUnused, Outcome, Put, QueuesState, SetQueue, after, handed, place_of}
use Rattle.wl_queues.specs.Runs.{NamesNoFreeObject, Runs, TellsEachObjectUnusedOnce, added_by, count_all, new_queues, times_kept, told_by}

-- ---- how often it is told unused

kept-add : (o object queue content : ℕ) (objects : ℕ → Object) → (objects object).fate ≡ Free → (b : Bool) → (o == object) ≡ b →
    times_kept (objects o).fate + (if b then 1 else 0) ≡ times_kept (if b then alive_in queue content else objects o).fate
kept-add o object queue content objects free true here =
    let same : o ≡ object = grind (arith, nat_tests, here) in
    ap (λ n. times_kept (objects n).fate + 1) same ∙ ap (λ f. times_kept f + 1) free
kept-add o object queue content objects free false other = omega arith

kept-told : (o object : ℕ) (objects : ℕ → Object) → (objects object).fate ≡ Destroyed → (b : Bool) → (o == object) ≡ b →
    times_kept (objects o).fate ≡ (if b then 1 else 0) + times_kept (if b then nobody else objects o).fate
kept-told o object objects gone true here =
    let same : o ≡ object = grind (arith, nat_tests, here) in
    ap (λ n. times_kept (objects n).fate) same ∙ ap times_kept gone
kept-told o object objects gone false other = omega arith

kept-destroy : (o object : ℕ) (objects : ℕ → Object) → (objects object).fate ≡ Alive → (b : Bool) → (o == object) ≡ b →
    times_kept (objects o).fate ≡ times_kept (if b then destroyed (objects object) else objects o).fate
kept-destroy o object objects alive true here =
    let same : o ≡ object = grind (arith, nat_tests, here) in
    ap (λ n. times_kept (objects n).fate) same ∙ ap times_kept alive
kept-destroy o object objects alive false other = refl

fate-moved : (o object queue : ℕ) (objects : ℕ → Object) (b : Bool) → (o == object) ≡ b →
    (objects o).fate ≡ (if b then in_queue queue (objects object) else objects o).fate
fate-moved o object queue objects true here =
    let same : o ≡ object = grind (arith, nat_tests, here) in ap (λ n. (objects n).fate) same
fate-moved o object queue objects false other = refl

fate-left : (queue : ℕ) (x : Object) (b : Bool) → x.fate ≡ (if b then in_queue 0 x else x).fate
fate-left queue x true = refl
fate-left queue x false = refl

-- an event that names what is alive alone does not name a free slot
free-or-alive : (f : Fate) → f ≡ Free → f ≡ Alive → ⊥
free-or-alive f free alive = grind (arith, free, alive)

not-same : (objects : ℕ → Object) (o n : ℕ) → (objects o).fate ≡ Free → (objects n).fate ≡ Alive → (b : Bool) → (n == o) ≡ b → b ≡ false
not-same objects o n free alive true here =
    let same : n ≡ o = grind (arith, nat_tests, here) in
    absurd (free-or-alive (objects o).fate free (subst (λ k. (objects k).fate ≡ Alive) same alive))
not-same objects o n free alive false other = refl

no-time : (objects : ℕ → Object) (o n : ℕ) → (objects o).fate ≡ Free → (objects n).fate ≡ Alive → cond (n == o) 1 0 ≤ 0
no-time objects o n free alive = rw (not-same objects o n free alive (n == o) refl) (omega arith)

no-argument : (objects : ℕ → Object) (o : ℕ) (arguments : List ℕ) → (objects o).fate ≡ Free → All (λ n. (objects n).fate ≡ Alive) arguments → times_in o arguments ≡ 0
no-argument objects o arguments free alive =
    let le = sum_by-le (λ n. cond (n == o) 1 0) 0 arguments
    (All-weaker (λ n. (objects n).fate ≡ Alive) (λ n. cond (n == o) 1 0 ≤ 0) (λ n h. no-time objects o n free h) arguments alive) in
    grind (arith, le)

-- a slot that is free after a new object came was free before
free-added : (o object queue content : ℕ) (objects : ℕ → Object) (b : Bool) → (if b then alive_in queue content else objects o).fate ≡ Free → (objects o).fate ≡ Free
free-added o object queue content objects true free = absurd (free-or-alive Alive free refl)
free-added o object queue content objects false free = free

free-destroyed : (o object : ℕ) (objects : ℕ → Object) (b : Bool) → (if b then destroyed (objects object) else objects o).fate ≡ Free → (objects o).fate ≡ Free
free-destroyed o object objects true free = absurd (not-free free)
  where
    not-free : Destroyed ≡ Free → ⊥
    not-free h = grind (arith, h)
free-destroyed o object objects false free = free

module _ {E : Type 0} where
  -- the object is kept as it was
  kept-as : (s m : QueuesState E) (o : ℕ) → (s.objects o).fate ≡ (m.objects o).fate → 0 + times_kept (s.objects o).fate ≡ 0 + times_kept (m.objects o).fate
  kept-as s m o same = ap (λ f. 0 + times_kept f) same

  kept-step : (s m : QueuesState E) (o : ℕ) (c : Call E) → Does s c m →
      added_by o c + times_kept (s.objects o).fate ≡ told_by o c + times_kept (m.objects o).fate
  kept-step s m o (Add object queue content) d =
      omega (arith, kept-add o object queue content s.objects d.answers.0 (o == object) refl, ap (λ x. times_kept x.fate) (d.leaves.objects o))
  kept-step s m o (NextUnused object content) d =
      omega (arith, kept-told o object s.objects d.answers.0.destroyed (o == object) refl, ap (λ x. times_kept x.fate) (d.leaves.objects o))
  kept-step s m o (Destroy object) d =
      omega (arith, kept-destroy o object s.objects d.answers (o == object) refl, ap (λ x. times_kept x.fate) (d.leaves.objects o))
  kept-step s m o (SetQueue object queue) d = kept-as s m o (fate-moved o object queue s.objects (o == object) refl ∙ sym (ap (λ x. x.fate) (d.leaves.objects o)))
  kept-step s m o (DropQueue queue) d = kept-as s m o (fate-left queue (s.objects o) ((s.objects o).queue == queue) ∙ sym (ap (λ x. x.fate) (d.leaves.objects o)))
  kept-step s m o (NewQueue queue) d = kept-as s m o (sym (ap (λ x. x.fate) (d.leaves.objects o)))
  kept-step s m o (Put queue e) d = kept-as s m o (sym (ap (λ x. x.fate) (d.leaves.objects o)))
  kept-step s m o (Next queue e outcome) d = kept-as s m o (sym (ap (λ x. x.fate) (d.leaves.objects o)))
  kept-step s m o (Finish ticket e) d = kept-as s m o (sym (ap (λ x. x.fate) (d.leaves.objects o)))
  kept-step s m o Fail d = kept-as s m o (sym (ap (λ x. x.fate) (d.leaves.objects o)))

  kept-run : (s t : QueuesState E) (o : ℕ) (calls : List (Call E)) → Runs s calls t →
      count_all (added_by o) calls + times_kept (s.objects o).fate ≡ count_all (told_by o) calls + times_kept (t.objects o).fate
  kept-run s t o [] r = kept-as s t o (sym (ap (λ x. x.fate) (r.objects o)))
  kept-run s t o (c ∷ calls) r = omega (arith, kept-step s r.0 o c r.1, kept-run r.0 t o calls r.2)

  -- ---- what names it

  abbrev NamesNone : QueuesState E → Type 0
  NamesNone s = (o : ℕ) → (s.objects o).fate ≡ Free → IsUnnamed s o

  names-none : (objects : ℕ → Object) (o : ℕ) (e : Event E) → (objects o).fate ≡ Free → NamesLive objects e → times_named o e ≡ 0
  names-none objects o e free live =
      ap (λ b. (if b then 1 else 0) + times_in o e.arguments.items) (not-same objects o e.sender free live.sender (e.sender == o) refl)
      ∙ ap (λ k. 0 + k) (no-argument objects o e.arguments.items free live.arguments)

  -- ---- what waits and what is in hand after a call

  unnamed-at : (o q queue : ℕ) (waiting : ℕ → List (Event E)) (events : List (Event E)) (b : Bool) →
      All (λ e. times_named o e ≡ 0) events → All (λ e. times_named o e ≡ 0) (waiting q) → All (λ e. times_named o e ≡ 0) (if b then events else waiting q)
  unnamed-at o q queue waiting events true new old = new
  unnamed-at o q queue waiting events false new old = old

  unnamed-handed : (o : ℕ) (outcome : Outcome) (e : Event E) → times_named o e ≡ 0 → All (λ h. times_named o h.event ≡ 0) (handed outcome e)
  unnamed-handed o (Handed ticket) e none = All-cons (λ h. times_named o h.event ≡ 0) (record { ticket = ticket; event = e }) [] none (All-nil (λ h. times_named o h.event ≡ 0))
  unnamed-handed o (Dropped reason) e none = All-nil (λ h. times_named o h.event ≡ 0)

  unnamed-put : (s : QueuesState E) (o queue : ℕ) (e : Event E) → IsUnnamed s o → times_named o e ≡ 0 → IsUnnamed (after s (Put queue e)) o
  unnamed-put s o queue e u none = record {
    waiting = λ q. unnamed-at o q queue s.waiting (s.waiting queue ++ e ∷ []) (q == queue) (All-push (λ e. times_named o e ≡ 0) (s.waiting queue) e (u.waiting queue) none) (u.waiting q);
    in_hand = u.in_hand;
  }

  unnamed-next : (s : QueuesState E) (o queue : ℕ) (e : Event E) (later : List (Event E)) (outcome : Outcome) → s.waiting queue ≡ e ∷ later → IsUnnamed s o → IsUnnamed (after s (Next queue e outcome)) o
  unnamed-next s o queue e later outcome first u =
      let none = All-head (λ e. times_named o e ≡ 0) e later (subst (λ ws. All (λ e. times_named o e ≡ 0) ws) first (u.waiting queue)) in
      record {
        waiting = λ q. unnamed-at o q queue s.waiting (drop 1 (s.waiting queue)) (q == queue) (All-drop (λ e. times_named o e ≡ 0) 1 (s.waiting queue) (u.waiting queue)) (u.waiting q);
        in_hand = All-append (λ h. times_named o h.event ≡ 0) s.in_hand (handed outcome e) u.in_hand (unnamed-handed o outcome e none);
      }

  unnamed-finish : (s : QueuesState E) (o ticket : ℕ) (e : Event E) → IsUnnamed s o → IsUnnamed (after s (Finish ticket e)) o
  unnamed-finish s o ticket e u = record {
    waiting = u.waiting;
    in_hand = All-append (λ h. times_named o h.event ≡ 0) (take (place_of ticket s.in_hand) s.in_hand) (drop (suc (place_of ticket s.in_hand)) s.in_hand)
        (All-take (λ h. times_named o h.event ≡ 0) (place_of ticket s.in_hand) s.in_hand u.in_hand)
        (All-drop (λ h. times_named o h.event ≡ 0) (suc (place_of ticket s.in_hand)) s.in_hand u.in_hand);
  }

  -- the parts of an unnamed object stay as they were
  unnamed-alike : (s t : QueuesState E) (o : ℕ) → IsAlike s t → IsUnnamed s o → IsUnnamed t o
  unnamed-alike s t o alike u = record {
    waiting = λ q. subst (λ ws. All (λ e. times_named o e ≡ 0) ws) (sym (alike.waiting q)) (u.waiting q);
    in_hand = subst (λ hs. All (λ h. times_named o h.event ≡ 0) hs) (sym alike.in_hand) u.in_hand;
  }

  unnamed-same : (s t : QueuesState E) (o : ℕ) → ((q : ℕ) → t.waiting q ≡ s.waiting q) → t.in_hand ≡ s.in_hand → IsUnnamed s o → IsUnnamed t o
  unnamed-same s t o waiting in_hand u = record {
    waiting = λ q. subst (λ ws. All (λ e. times_named o e ≡ 0) ws) (sym (waiting q)) (u.waiting q);
    in_hand = subst (λ hs. All (λ h. times_named o h.event ≡ 0) hs) (sym in_hand) u.in_hand;
  }

  told-or-free : (s : QueuesState E) (o object : ℕ) → NamesNone s → IsUnnamed s object → (b : Bool) → (o == object) ≡ b → (if b then nobody else s.objects o).fate ≡ Free → IsUnnamed s o
  told-or-free s o object was unnamed true here free = let same : object ≡ o = grind (arith, nat_tests, here) in subst (λ n. IsUnnamed s n) same unnamed
  told-or-free s o object was unnamed false other free = was o free

  names-step : (s m : QueuesState E) (c : Call E) → Does s c m → NamesNone s → NamesNone m
  names-step s m (Add object queue content) d was = λ o free.
      unnamed-same s m o d.leaves.waiting d.leaves.in_hand (was o (free-added o object queue content s.objects (o == object) (sym (ap (λ x. x.fate) (d.leaves.objects o)) ∙ free)))
  names-step s m (NextUnused object content) d was = λ o free.
      unnamed-same s m o d.leaves.waiting d.leaves.in_hand (told-or-free s o object was d.answers.0.unnamed (o == object) refl (sym (ap (λ x. x.fate) (d.leaves.objects o)) ∙ free))
  names-step s m (Destroy object) d was = λ o free.
      unnamed-same s m o d.leaves.waiting d.leaves.in_hand (was o (free-destroyed o object s.objects (o == object) (sym (ap (λ x. x.fate) (d.leaves.objects o)) ∙ free)))
  names-step s m (SetQueue object queue) d was = λ o free.
      unnamed-same s m o d.leaves.waiting d.leaves.in_hand (was o (fate-moved o object queue s.objects (o == object) refl ∙ (sym (ap (λ x. x.fate) (d.leaves.objects o)) ∙ free)))
  names-step s m (DropQueue queue) d was = λ o free.
      unnamed-same s m o d.leaves.waiting d.leaves.in_hand (was o (fate-left queue (s.objects o) ((s.objects o).queue == queue) ∙ (sym (ap (λ x. x.fate) (d.leaves.objects o)) ∙ free)))
  names-step s m (NewQueue queue) d was = λ o free. unnamed-same s m o d.leaves.waiting d.leaves.in_hand (was o (sym (ap (λ x. x.fate) (d.leaves.objects o)) ∙ free))
  names-step s m Fail d was = λ o free. unnamed-same s m o d.leaves.waiting d.leaves.in_hand (was o (sym (ap (λ x. x.fate) (d.leaves.objects o)) ∙ free))
  names-step s m (Put queue e) d was = λ o free.
      let now = sym (ap (λ x. x.fate) (d.leaves.objects o)) ∙ free in
      unnamed-alike (after s (Put queue e)) m o d.leaves (unnamed-put s o queue e (was o now) (names-none s.objects o e now d.answers.0))
  names-step s m (Next queue e outcome) d was = λ o free.
      unnamed-alike (after s (Next queue e outcome)) m o d.leaves (unnamed-next s o queue e d.answers.0.0 outcome d.answers.0.1 (was o (sym (ap (λ x. x.fate) (d.leaves.objects o)) ∙ free)))
  names-step s m (Finish ticket e) d was = λ o free.
      unnamed-alike (after s (Finish ticket e)) m o d.leaves (unnamed-finish s o ticket e (was o (sym (ap (λ x. x.fate) (d.leaves.objects o)) ∙ free)))

  names-run : (s t : QueuesState E) (calls : List (Call E)) → Runs s calls t → NamesNone s → NamesNone t
  names-run s t [] r was = λ o free. unnamed-alike s t o r (was o (sym (ap (λ x. x.fate) (r.objects o)) ∙ free))
  names-run s t (c ∷ calls) r was = names-run r.0 t calls r.2 (names-step s r.0 c r.1 was)

pub tells_each_object_unused_once : (E : Type 0) → TellsEachObjectUnusedOnce E
tells_each_object_unused_once E calls s r o = let h = kept-run new_queues s o calls r in omega (arith, h)

pub names_no_free_object : (E : Type 0) → NamesNoFreeObject E
names_no_free_object E calls s r = names-run new_queues s calls r
    (λ o free. record { waiting = λ queue. All-nil (λ e. times_named o e ≡ 0); in_hand = All-nil (λ h. times_named o h.event ≡ 0) })
