-- Each object is told unused with the content with which it was added.
use Rattle.std.proofs.Common.{◌≡◌, ℕ, List, [], ◌∷◌, ◌++◌, Bool, true, false, refl, sym, ap, ◌∙◌, arith, append-nil, append_assoc}
use Rattle.std.specs.Prelude.{if◌then◌else◌, ◌==◌}
use Rattle.std.proofs.lemmas.Bool.Decides.{nat_tests}
use Rattle.wl_queues.specs.declared.objects.Fate.TheVariants.{Alive, Destroyed, Free}
use Rattle.wl_queues.specs.declared.objects.Object.{Object}
use Rattle.wl_queues.specs.Objects.{alive_in, destroyed, in_queue, nobody}
use Rattle.wl_queues.specs.Queues.{Call, Add, Destroy, DropQueue, Does, Fail, Finish, NewQueue, Next, NextUnused, Put, QueuesState, SetQueue}
use Rattle.wl_queues.specs.Runs.{Runs, TellsEachContent, all_by, content_added, content_if, content_kept, content_told, new_queues}

-- ---- one slot

content-add : (o object queue content : ℕ) (objects : ℕ → Object) → (objects object).fate ≡ Free → (b : Bool) → (o == object) ≡ b →
    content_kept (objects o) ++ (if b then content ∷ [] else []) ≡ content_kept (if b then alive_in queue content else objects o)
content-add o object queue content objects free true here =
    let same : o ≡ object = grind (arith, nat_tests, here) in
    ap (λ n. content_kept (objects n) ++ content ∷ []) same ∙ ap (λ f. content_if f (objects object).content ++ content ∷ []) free
content-add o object queue content objects free false other = append-nil (content_kept (objects o))

content-tell : (o object content : ℕ) (objects : ℕ → Object) → (objects object).fate ≡ Destroyed → content ≡ (objects object).content → (b : Bool) → (o == object) ≡ b →
    content_kept (objects o) ++ [] ≡ (if b then content ∷ [] else []) ++ content_kept (if b then nobody else objects o)
content-tell o object content objects gone is true here =
    let same : o ≡ object = grind (arith, nat_tests, here) in
    append-nil (content_kept (objects o))
    ∙ (ap (λ n. content_kept (objects n)) same
    ∙ (ap (λ f. content_if f (objects object).content) gone
    ∙ sym (ap (λ n. n ∷ []) is)))
content-tell o object content objects gone is false other = append-nil (content_kept (objects o))

content-destroyed : (o object : ℕ) (objects : ℕ → Object) → (objects object).fate ≡ Alive → (b : Bool) → (o == object) ≡ b →
    content_kept (objects o) ≡ content_kept (if b then destroyed (objects object) else objects o)
content-destroyed o object objects alive true here =
    let same : o ≡ object = grind (arith, nat_tests, here) in
    ap (λ n. content_kept (objects n)) same ∙ ap (λ f. content_if f (objects object).content) alive
content-destroyed o object objects alive false other = refl

content-moved : (o object queue : ℕ) (objects : ℕ → Object) (b : Bool) → (o == object) ≡ b →
    content_kept (objects o) ≡ content_kept (if b then in_queue queue (objects object) else objects o)
content-moved o object queue objects true here =
    let same : o ≡ object = grind (arith, nat_tests, here) in ap (λ n. content_kept (objects n)) same
content-moved o object queue objects false other = refl

content-left : (x : Object) (b : Bool) → content_kept x ≡ content_kept (if b then in_queue 0 x else x)
content-left x true = refl
content-left x false = refl

module _ {E : Type 0} where
  -- nothing comes into the slot, and nothing is told
  as-it-was : (s m : QueuesState E) (o : ℕ) → content_kept (s.objects o) ≡ content_kept (m.objects o) → content_kept (s.objects o) ++ [] ≡ content_kept (m.objects o)
  as-it-was s m o same = append-nil (content_kept (s.objects o)) ∙ same

  step : (s m : QueuesState E) (o : ℕ) (c : Call E) → Does s c m → content_kept (s.objects o) ++ content_added o c ≡ content_told o c ++ content_kept (m.objects o)
  step s m o (Add object queue content) d =
      content-add o object queue content s.objects d.answers.0 (o == object) refl ∙ sym (ap content_kept (d.leaves.objects o))
  step s m o (NextUnused object content) d =
      content-tell o object content s.objects d.answers.0.destroyed d.answers.1 (o == object) refl
      ∙ sym (ap (λ x. content_told {E = E} o (NextUnused object content) ++ content_kept x) (d.leaves.objects o))
  step s m o (Destroy object) d = as-it-was s m o (content-destroyed o object s.objects d.answers (o == object) refl ∙ sym (ap content_kept (d.leaves.objects o)))
  step s m o (SetQueue object queue) d = as-it-was s m o (content-moved o object queue s.objects (o == object) refl ∙ sym (ap content_kept (d.leaves.objects o)))
  step s m o (DropQueue queue) d = as-it-was s m o (content-left (s.objects o) ((s.objects o).queue == queue) ∙ sym (ap content_kept (d.leaves.objects o)))
  step s m o (NewQueue queue) d = as-it-was s m o (sym (ap content_kept (d.leaves.objects o)))
  step s m o (Put queue e) d = as-it-was s m o (sym (ap content_kept (d.leaves.objects o)))
  step s m o (Next queue e outcome) d = as-it-was s m o (sym (ap content_kept (d.leaves.objects o)))
  step s m o (Finish ticket e) d = as-it-was s m o (sym (ap content_kept (d.leaves.objects o)))
  step s m o Fail d = as-it-was s m o (sym (ap content_kept (d.leaves.objects o)))

  tells : (s t : QueuesState E) (o : ℕ) (calls : List (Call E)) → Runs s calls t →
      content_kept (s.objects o) ++ all_by (content_added o) calls ≡ all_by (content_told o) calls ++ content_kept (t.objects o)
  tells s t o [] r = as-it-was s t o (sym (ap content_kept (r.objects o)))
  tells s t o (c ∷ calls) r =
      let m = r.0 in
      sym (append_assoc (content_kept (s.objects o)) (content_added o c) (all_by (content_added o) calls))
      ∙ (ap (λ ns. ns ++ all_by (content_added o) calls) (step s m o c r.1)
      ∙ (append_assoc (content_told o c) (content_kept (m.objects o)) (all_by (content_added o) calls)
      ∙ (ap (λ ns. content_told o c ++ ns) (tells m t o calls r.2)
      ∙ sym (append_assoc (content_told o c) (all_by (content_told o) calls) (content_kept (t.objects o))))))

pub tells_each_content : (E : Type 0) → TellsEachContent E
tells_each_content E calls s r o = tells new_queues s o calls r
