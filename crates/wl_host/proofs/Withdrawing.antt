-- Registries that are handed out: what is kept of them is what they are to be told of.
use Rattle.std.proofs.Common.{◌≡◌, ◌≢◌, ◌⊎◌, ◌∙◌, ℕ, Bool, true, false, not, List, [], ◌∷◌, ◌++◌, map, is_some, Result, Ok, Err, refl, sym, ap, subst, true≢false, arith}
use mathlib.Core.Bool.{cond}
use mathlib.Core.Logic.{inl, inr}
use Rattle.std.specs.List.{filter, list_any}
use Rattle.std.proofs.lemmas.List.Elements.{filter-append}
use Rattle.wl_link.proofs.Calls.Branches.{either_option}
use Rattle.wl_server_client.specs.declared.error.EventError.{EventError}
use Rattle.wl_server_client.specs.Deeds.{IsAmong}
use Rattle.wl_server_client.specs.Ids.{GlobalParts, IdParts}
use Rattle.wl_server_model.specs.Lookups.{global_info_by, object_info_of}
use Rattle.wl_server_model.specs.Plain.{same_object}
use Rattle.wl_host.specs.Calls.{CoreState, status_by}
use Rattle.wl_host.specs.Registries.{AllTell, Announced, Announces, Called, IsThereMeanwhile, KeepsOutstanding, KeepsThere, Neither, Tells, TellsRemoval, TellsRemovals, Withdrawn, Withdraws, is_of, is_there, is_to, kept_after, outstanding, outstanding_after, registries_told, said_with, told_with, without_global}
use Rattle.wl_host.specs.Server.{ServerState}
use Rattle.wl_flat.specs.Status.{of_event}
use Rattle.wl_host.specs.declared.server.registries.Told.{Told}
use Rattle.wl_flat.specs.declared.status.Status.{Status}
use Rattle.wl_flat.specs.declared.status.Status.TheVariants as status

-- ---- filters

module _ {A : Type 0} (p q : A → Bool) where
  filters_swap : (xs : List A) → filter p (filter q xs) ≡ filter q (filter p xs)
  filters_swap [] = refl
  filters_swap (x ∷ xs) = grind (arith, filter, p x, q x, filters_swap xs)

  -- nothing that the outer one takes is dropped by the inner one
  filters_within : ((x : A) → p x ≡ true → q x ≡ true) → (xs : List A) → filter p (filter q xs) ≡ filter p xs
  filters_within keeps [] = refl
  filters_within keeps (x ∷ xs) = grind (arith, filter, p x, q x, true≢false, keeps x, filters_within keeps xs)

  -- what it takes was there
  filtered_among : (xs : List A) (x : A) → IsAmong (filter p xs) x → IsAmong xs x
  filtered_among [] x among = among
  filtered_among (y ∷ xs) x among = grind (arith, filter, p y, filtered_among xs x)

  -- if it takes none, the others are all
  none_taken : (xs : List A) → list_any p xs ≡ false → filter (λ x. not (p x)) xs ≡ xs
  none_taken [] none = refl
  none_taken (x ∷ xs) none = grind (arith, filter, list_any, p x, true≢false, none_taken xs)

  -- the filter of a smaller list is smaller
  filter_smaller : (xs ys : List A) → ((x : A) → IsAmong xs x → IsAmong ys x) → (x : A) → IsAmong (filter p xs) x → IsAmong (filter p ys) x
  filter_smaller xs ys smaller x among = among_filter ys x (smaller x (filtered_among xs x among)) (among_passes xs x among)
    where
      among_passes : (xs : List A) (x : A) → IsAmong (filter p xs) x → p x ≡ true
      among_passes [] x among = absurd among
      among_passes (y ∷ xs) x among = grind (arith, filter, p y, among_passes xs x)

      among_filter : (ys : List A) (x : A) → IsAmong ys x → p x ≡ true → IsAmong (filter p ys) x
      among_filter [] x among passes = absurd among
      among_filter (y ∷ ys) x among passes = grind (arith, filter, p y, true≢false, among_filter ys x)

module _ {A : Type 0} where
  one_more : (xs ys : List A) (y : A) → ((x : A) → IsAmong xs x → IsAmong ys x) → (x : A) → IsAmong (xs ++ y ∷ []) x → IsAmong (ys ++ y ∷ []) x
  one_more xs ys y smaller x among = elim (behind xs x among) [ inl old ↦ in_front ys x (smaller x old) | inr new ↦ at_end ys x new ]
    where
      behind : (xs : List A) (x : A) → IsAmong (xs ++ y ∷ []) x → IsAmong xs x ⊎ (y ≡ x)
      behind [] x among = grind (arith)
      behind (z ∷ xs) x among = grind (arith, behind xs x)

      in_front : (ys : List A) (x : A) → IsAmong ys x → IsAmong (ys ++ y ∷ []) x
      in_front [] x among = absurd among
      in_front (z ∷ ys) x among = grind (arith, in_front ys x)

      at_end : (ys : List A) (x : A) → y ≡ x → IsAmong (ys ++ y ∷ []) x
      at_end [] x is = inl is
      at_end (z ∷ ys) x is = inr (at_end ys x is)

-- ---- the removals

-- the registries that are told are those of the list, each in its turn
module _ (name : ℕ) (global : GlobalParts) (before after : CoreState) (t : Told) (rest : List Told) (so_far s : Status) where
  abbrev told_where : Bool → Type 0
  told_where told = TellsRemovals name before (map (λ t. t.registry) (cond told (t ∷ filter (is_of global) rest) (filter (is_of global) rest))) so_far s after

  pub first_told : (answer : Result (Unit {0}) EventError) (mid : CoreState) → is_of global t ≡ true → TellsRemoval name before t.registry answer mid
      → TellsRemovals name mid (registries_told global rest) (said_with so_far answer) s after
      → TellsRemovals name before (registries_told global (t ∷ rest)) so_far s after
  first_told answer mid is told more = subst told_where (sym is) (answer, mid, told, more)

  pub first_passed : is_of global t ≡ false → TellsRemovals name before (registries_told global rest) so_far s after
      → TellsRemovals name before (registries_told global (t ∷ rest)) so_far s after
  first_passed is more = subst told_where (sym is) more

-- ---- what is kept

-- what is kept of a registry that is there
there_stays : (core : CoreState) (registry : IdParts) (before after : List Told) → is_some (object_info_of core.server registry) ≡ true
    → KeepsThere core before after → filter (is_to registry) after ≡ filter (is_to registry) before
there_stays core registry before after there (inl same) = ap (filter (is_to registry)) same
there_stays core registry before after there (inr same) =
    ap (filter (is_to registry)) same
    ∙ filters_within (is_to registry) (is_there core) (λ t to. (grind (arith, same_object, object_info_of, registry, t))) before

-- nothing is added
there_smaller : (core : CoreState) (before after : List Told) → KeepsThere core before after → (t : Told) → IsAmong after t → IsAmong before t
there_smaller core before after (inl same) t among = rw (← same) among
there_smaller core before after (inr same) t among = filtered_among (is_there core) (is_there core) before t (rw same at among)

-- an announcement that was made is kept
announced : (before : ServerState) (registry : IdParts) (global : GlobalParts) (after : ServerState) → Announces before registry global status.Ok after
    → (kept : List Told) × KeepsThere before.core before.told kept × (after.told ≡ kept ++ record { registry = registry; global = global } ∷ [])
announced before registry global after by =
    elim (either_option (global_info_by before.core.server global) by) [
      | inl (none, (is, same)) ↦ absurd cc
      | inr (info, there, (kept, keeps, inl (is, same))) ↦ absurd cc
      | inr (info, there, (kept, keeps, inr (event, answer, tells, calls, is, same))) ↦ (kept, keeps, ap (λ (s : ServerState). s.told) same ∙ with_ok kept answer is)
    ]
  where
    with_ok : (kept : List Told) (answer : Result (Unit {0}) EventError) → status.Ok ≡ status_by of_event answer
        → told_with kept (record { registry = registry; global = global }) answer ≡ kept ++ record { registry = registry; global = global } ∷ []
    with_ok kept answer is = grind (arith, answer)

-- what is kept after a removal is without the global
withdrawn : (before : ServerState) (global : GlobalParts) (s : Status) (after : ServerState) → Withdraws before global s after
    → after.told ≡ without_global global before.told
withdrawn before global s after by =
    elim by [
      | inl (none, is, same) ↦ ap (λ (s : ServerState). s.told) same ∙ sym (none_taken (is_of global) (is_of global) before.told none)
      | inr (some, tells, same) ↦ ap (λ (s : ServerState). s.told) same
    ]

-- an announcement that was refused leaves what was kept
pub refused_keeps : (before : ServerState) (registry : IdParts) (global : GlobalParts) (s : Status) (after : ServerState) → Announces before registry global s after
    → s ≢ status.Ok → KeepsThere before.core before.told after.told
refused_keeps before registry global s after by failed =
    elim (either_option (global_info_by before.core.server global) by) [
      | inl (none, (is, same)) ↦ inl (ap (λ (s : ServerState). s.told) same)
      | inr (info, there, (kept, keeps, inl (is, same))) ↦ rw (ap (λ (s : ServerState). s.told) same) keeps
      | inr (info, there, (kept, keeps, inr (event, answer, tells, calls, is, same))) ↦
          rw (ap (λ (s : ServerState). s.told) same) (with_err kept answer is keeps)
    ]
  where
    with_err : (kept : List Told) (answer : Result (Unit {0}) EventError) → s ≡ status_by of_event answer → KeepsThere before.core before.told kept
        → KeepsThere before.core before.told (told_with kept (record { registry = registry; global = global }) answer)
    with_err kept (Ok u) is keeps = absurd (failed is)
    with_err kept (Err e) is keeps = keeps

module _ (registry : IdParts) where
  abbrev of_it : List Told → List Told
  of_it told = filter (is_to registry) told

  -- one call
  call_keeps : (before : ServerState) (c : Called) (told : List Told) → Tells before c.call c.after
      → is_some (object_info_of before.core.server registry) ≡ true → of_it before.told ≡ of_it told
      → of_it c.after.told ≡ of_it (outstanding_after told c.call)
  call_keeps before c told by there same = go c.call by
    where
      go : (call : _) → Tells before call c.after → of_it c.after.told ≡ of_it (outstanding_after told call)
      go (Announced r g) by =
          let (kept, keeps, is) = announced before r g c.after by in
          ap of_it is ∙ filter-append (is_to registry) kept _
          ∙ ap (λ (l : List Told). l ++ of_it (record { registry = r; global = g } ∷ []))
          (there_stays before.core registry before.told kept there keeps ∙ same)
          ∙ sym (filter-append (is_to registry) told _)
      go (Withdrawn g) by =
          ap of_it (withdrawn before g by.0 c.after by.1) ∙ filters_swap (is_to registry) (λ t. not (is_of g t)) before.told
          ∙ ap (without_global g) same ∙ sym (filters_swap (is_to registry) (λ t. not (is_of g t)) told)
      go Neither by = there_stays before.core registry before.told c.after.told there by ∙ same

  calls_keep : (before : ServerState) (run : List Called) (told : List Told) → AllTell before run → IsThereMeanwhile registry before run
      → of_it before.told ≡ of_it told → of_it (kept_after before.told run) ≡ of_it (outstanding told run)
  calls_keep before [] told all there same = same
  calls_keep before (c ∷ run) told all there same =
      calls_keep c.after run (outstanding_after told c.call) all.1 there.1 (call_keeps before c told all.0 there.0 same)

abbrev IsSmaller : List Told → List Told → Type 0
IsSmaller xs ys = (t : Told) → IsAmong xs t → IsAmong ys t

call_smaller : (before : ServerState) (c : Called) (told : List Told) → Tells before c.call c.after → IsSmaller before.told told
    → IsSmaller c.after.told (outstanding_after told c.call)
call_smaller before c told by smaller = go c.call by
  where
    go : (call : _) → Tells before call c.after → IsSmaller c.after.told (outstanding_after told call)
    go (Announced r g) by =
        let (kept, keeps, is) = announced before r g c.after by in
        rw is (one_more kept told (record { registry = r; global = g }) (λ t among. smaller t (there_smaller before.core before.told kept keeps t among)))
    go (Withdrawn g) by =
        rw (withdrawn before g by.0 c.after by.1)
        (filter_smaller (λ t. not (is_of g t)) (λ t. not (is_of g t)) before.told told smaller)
    go Neither by = λ t among. smaller t (there_smaller before.core before.told c.after.told by t among)

calls_smaller : (before : ServerState) (run : List Called) (told : List Told) → AllTell before run → IsSmaller before.told told
    → IsSmaller (kept_after before.told run) (outstanding told run)
calls_smaller before [] told all smaller = smaller
calls_smaller before (c ∷ run) told all smaller =
    calls_smaller c.after run (outstanding_after told c.call) all.1 (call_smaller before c told all.0 smaller)

pub keeps_outstanding : (before : ServerState) (run : List Called) → AllTell before run → KeepsOutstanding before run
keeps_outstanding before run all = record {
  only = calls_smaller before run before.told all (λ t among. among);
  all = λ registry there. calls_keep registry before run before.told all there refl;
}
