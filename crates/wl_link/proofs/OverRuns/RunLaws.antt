-- Runs of calls: how they join, what lasts over them, and that they have one outcome where each step has.
use Rattle.std.proofs.Common.{◌≡◌, ℕ, ◌<◌, Bool, true, false, List, [], ◌∷◌, ◌++◌, append_assoc, append-nil, refl, sym, ap, subst, ◌∙◌, arith, length, length-append, reverse}
use Rattle.std.proofs.lemmas.List.{reverse-reverse, reverse-append}
use mathlib.Core.Logic.{inl, inr}
use Rattle.wl_link.specs.Runs.{AllSame, RunEntry, HasOneOutcome, IsWhereItStops, Leads, StopsAt, entries}

-- These steps were made and have these replies; what is left is kept with the last of it first. So the loops say it that
-- make a run.
abbrev pub MadeSoFar : {State Step Reply : Type 0} → (State → Step → Reply → Bool → State → Type 0) → State → List Step → List Reply → List Step → State → Type 0
MadeSoFar {Step = Step} makes start steps replies rest now =
    (done : List Step) × (steps ≡ done ++ reverse rest) × (length done ≡ length replies) × Leads makes start (entries done replies) now

pub empty_of : {A : Type 0} (n : ℕ) (xs : List A) → n ≡ length xs → ¬ (0 < n) → xs ≡ []
empty_of n [] counted none = refl
empty_of n (x ∷ xs) counted none = absurd (none (omega (arith, counted)))

-- what is left, with its first step at its end
turned_rest : {Step : Type 0} (rest rest' : List Step) (x : Step) → rest ≡ rest' ++ x ∷ [] → reverse rest ≡ x ∷ reverse rest'
turned_rest rest rest' x split = ap reverse split ∙ reverse-append rest' (x ∷ [])

module _ {Step Reply : Type 0} where
  entries_more : (done : List Step) (replies : List Reply) (x : Step) (r : Reply) → length done ≡ length replies
      → entries (done ++ x ∷ []) (replies ++ r ∷ []) ≡ entries done replies ++ record { step = x; answer = r; refused = false } ∷ []
  entries_more [] [] x r same = refl
  entries_more [] (s ∷ replies) x r same = absurd (omega (arith, same))
  entries_more (d ∷ done) [] x r same = absurd (omega (arith, same))
  entries_more (d ∷ done) (s ∷ replies) x r same =
      ap (λ (run : List (RunEntry Step Reply)). record { step = d; answer = s; refused = false } ∷ run)
      (entries_more done replies x r (omega (arith, same)))

  -- only the steps that have replies count
  entries_none : (steps : List Step) → entries {Reply = Reply} steps [] ≡ []
  entries_none [] = refl
  entries_none (s ∷ steps) = refl

  entries_done : (done left : List Step) (replies : List Reply) → length done ≡ length replies → entries (done ++ left) replies ≡ entries done replies
  entries_done [] left [] same = entries_none left
  entries_done [] left (r ∷ replies) same = absurd (omega (arith, same))
  entries_done (d ∷ done) left [] same = absurd (omega (arith, same))
  entries_done (d ∷ done) left (r ∷ replies) same =
      ap (λ (run : List (RunEntry Step Reply)). record { step = d; answer = r; refused = false } ∷ run)
      (entries_done done left replies (omega (arith, same)))

module _ {State Step Reply : Type 0} (makes : State → Step → Reply → Bool → State → Type 0) where
  -- ---- runs behind one another

  pub joins : (start mid after : State) (run others : List (RunEntry Step Reply)) → Leads makes start run mid → Leads makes mid others after
      → Leads makes start (run ++ others) after
  joins start mid after [] others same leads = subst (λ (s : State). Leads makes s others after) same leads
  joins start mid after (e ∷ run) others (next, first, rest) leads = (next, first, joins next mid after run others rest leads)

  pub parts : (start after : State) (run others : List (RunEntry Step Reply)) → Leads makes start (run ++ others) after
      → (mid : State) × Leads makes start run mid × Leads makes mid others after
  parts start after [] others leads = (start, refl, leads)
  parts start after (e ∷ run) others (next, first, rest) =
      let r = parts next after run others rest in
      (r.0, (next, first, r.1), r.2)

  -- one more step
  pub leads_more : (start mid after : State) (run : List (RunEntry Step Reply)) (e : RunEntry Step Reply) → Leads makes start run mid
      → makes mid e.step e.answer e.refused after → Leads makes start (run ++ e ∷ []) after
  leads_more start mid after [] e same made =
      (after, subst (λ (s : State). makes s e.step e.answer e.refused after) same made, refl)
  leads_more start mid after (f ∷ run) e (next, first, rest) made = (next, first, leads_more next mid after run e rest made)

  -- what each step leaves so, a run leaves so
  pub lasts : (holds : State → Type 0) → ((s t : State) (call : Step) (answer : Reply) (refused : Bool) → makes s call answer refused t → holds s → holds t)
      → (start after : State) (run : List (RunEntry Step Reply)) → Leads makes start run after → holds start → holds after
  lasts holds keeps start after [] same h = subst holds (sym same) h
  lasts holds keeps start after (e ∷ run) (next, first, rest) h = lasts holds keeps next after run rest (keeps start next e.step e.answer e.refused first h)

  -- ---- a run that is being made

  pub begins : (start : State) (steps rest : List Step) → rest ≡ reverse steps → MadeSoFar {Reply = Reply} makes start steps [] rest start
  begins start steps rest turned = ([], sym (ap reverse turned ∙ reverse-reverse steps), refl, refl)

  pub more : (start now after : State) (steps : List Step) (replies : List Reply) (rest rest' : List Step)
      (x : Step) (r : Reply) → rest ≡ rest' ++ x ∷ [] → MadeSoFar makes start steps replies rest now → makes now x r false after
      → MadeSoFar makes start steps (replies ++ r ∷ []) rest' after
  more start now after steps replies rest rest' x r split (done, whole, same, leads) made = (
    done ++ x ∷ [],
    whole ∙ ap (λ l. done ++ l) (turned_rest rest rest' x split) ∙ sym (append_assoc done (x ∷ []) (reverse rest')),
    omega (arith, same, length-append done (x ∷ []), length-append replies (r ∷ [])),
    subst (λ (run : List (RunEntry Step Reply)). Leads makes start run after) (sym (entries_more done replies x r same))
        (leads_more start now after (entries done replies) (record { step = x; answer = r; refused = false }) leads made),
  )

  pub ends : (start now : State) (steps : List Step) (replies : List Reply) (rest : List Step)
      → rest ≡ [] → MadeSoFar makes start steps replies rest now → Leads makes start (entries steps replies) now × (length replies ≡ length steps)
  ends start now steps replies rest none (done, whole, same, leads) =
      let all : steps ≡ done = whole ∙ ap (λ l. done ++ reverse l) none ∙ append-nil done in
      (subst (λ (l : List Step). Leads makes start (entries l replies) now) (sym all) leads, sym same ∙ ap length (sym all))

  pub stops : (start now after : State) (steps : List Step) (replies : List Reply) (rest rest' : List Step)
      (x : Step) (r : Reply) → rest ≡ rest' ++ x ∷ [] → MadeSoFar makes start steps replies rest now → makes now x r true after
      → StopsAt makes start steps (length replies) replies after
  stops start now after steps replies rest rest' x r split (done, whole, same, leads) made =
      inr (done, x, reverse rest', r, now, whole ∙ ap (λ l. done ++ l) (turned_rest rest rest' x split), sym same, refl, leads, made)

  -- a run that stopped is one of the steps that have replies, and perhaps of the next, which met a want of memory
  pub stopped_leads : (start after : State) (steps : List Step) (n : ℕ) (replies : List Reply) → StopsAt makes start steps n replies after
      → (last : List (RunEntry Step Reply)) × IsWhereItStops steps (length replies) last × Leads makes start (entries steps replies ++ last) after
  stopped_leads start after steps n replies (inl (zeroth, none, same)) = (
    [],
    tt,
    subst (λ (run : List (RunEntry Step Reply)). Leads makes start (run ++ []) after)
        (sym (ap (λ (rs : List Reply). entries steps rs) none ∙ entries_none steps)) same,
  )
  stopped_leads start after steps n replies (inr (done, next, left, answer, mid, whole, counted, as_many, leads, made)) =
      let e : RunEntry Step Reply = record { step = next; answer = answer; refused = true } in (
        e ∷ [],
        (refl, (done, left, whole, sym counted ∙ as_many)),
        subst (λ (run : List (RunEntry Step Reply)). Leads makes start (run ++ e ∷ []) after)
            (sym (ap (λ (l : List Step). entries l replies) whole ∙ entries_done done (next ∷ left) replies (sym counted ∙ as_many)))
            (leads_more start mid after (entries done replies) e leads made),
      )

  -- ---- one outcome

  -- where each step has one outcome, so has each run in which memory is not refused
  pub run_one : (same : Reply → Reply → Type 0) → HasOneOutcome makes same → (s x y : State) (steps : List Step) (replies replies' : List Reply)
      → length replies ≡ length steps → length replies' ≡ length steps → Leads makes s (entries steps replies) x → Leads makes s (entries steps replies') y
      → AllSame same replies replies' × (x ≡ y)
  run_one same one s x y [] [] [] n n' is is' = (tt, is ∙ sym is')
  run_one same one s x y [] (p ∷ replies) replies' n n' h g = absurd (omega (arith, n))
  run_one same one s x y [] [] (q ∷ replies') n n' h g = absurd (omega (arith, n'))
  run_one same one s x y (call ∷ steps) [] replies' n n' h g = absurd (omega (arith, n))
  run_one same one s x y (call ∷ steps) (p ∷ replies) [] n n' h g = absurd (omega (arith, n'))
  run_one same one s x y (call ∷ steps) (p ∷ replies) (q ∷ replies') n n' (mid, by, leads) (mid', by', leads') =
      let first = one s mid mid' call p q by by' in
      let joined' = subst (λ (t : State). Leads makes t (entries steps replies') y) (sym first.1) leads' in
      let rest = run_one same one mid x y steps replies replies' (omega (arith, n)) (omega (arith, n')) leads joined' in
      ((first.0, rest.0), rest.1)
