-- The places of the two ranges, and the store that they keep.
use Rattle.std.proofs.Common.{◌≡◌, ◌≢◌, ◌⊎◌, ℕ, zero, suc, ◌+◌, ◌-◌, ◌<◌, ◌≤◌, Bool, true, false, true≢false, cond, ◌&&◌, eqb, nat_le, nat_lt, T, List, [], ◌∷◌, ◌++◌, length, set, get_or-set_other, Option, None, Some, is_some, not, refl, sym, ap, ap₂, ◌∙◌, subst, arith, nat_cmp, is_lt, Less, append-nil, Result, Ok, Err, MatchOption}
use mathlib.Core.Logic.{inl, inr}
use Rattle.std.proofs.lemmas.Bool.{and_from, and_parts, eq-eqb, ne_eqb, lt-leb, le-leb, lt-ltb, le-ltb, ltb-true, cases_eq, cases_lt}
use Rattle.std.proofs.lemmas.List.{get_or_past}
use Rattle.std.proofs.lemmas.Grind.{get_or-set_at}
use Rattle.std.specs.Option.{option_or}
use Rattle.std.specs.Prelude.{IfSome}
use Rattle.std.specs.Cmp.{unsigned_tied, nat_cmp_total, nat_cmp_is}
use Rattle.std.specs.Ordering.{eq_by_cmp}
use Rattle.std.specs.FinMap as map
use Rattle.std.specs.FinMap.Entries.{below_all}
use Rattle.wl_link.specs.declared.object.Object.{Object}
use Rattle.wl_link.specs.Store.{Store, Range, client_range, server_range, is_server_number, unused_after, empty_store, held, first_unused, is_free, is_vacant, stored, removed, rewritten, IsLeastAbsent, IsFull, IsWalk}
use Rattle.wl_link.specs.declared.object_map.InsertError.{InsertError}
use Rattle.wl_link.specs.declared.object_map.InsertError.TheVariants as insert
use Rattle.wl_link.specs.declared.object_map.NewError.{NewError}
use Rattle.wl_link.specs.declared.object_map.NewError.TheVariants as new
use Rattle.wl_link.specs.ObjectMap.{InsertsAt, InsertsNew, NextNew, InsertionsGive, Lends}
use Rattle.wl_link.proofs.Ids.StoreLaws.{removed_here, removed_other, stored_other, walk_of_entries}
use Rattle.wl_link.specs.Inside.PlaceList.{place, free_flag, put_len, SetsPlace, is_free_place, PutsAt, PutsNew, LendsAt, IsFirstFree, entries_from, store_of, Within}

-- ---- tests on numbers

tied_same : (q k : ℕ) → q ≡ k → eq_by_cmp nat_cmp q k ≡ true
tied_same q k e = unsigned_tied q k ∙ eq-eqb q k e

tied_other : (q k : ℕ) → q ≢ k → eq_by_cmp nat_cmp q k ≡ false
tied_other q k e = unsigned_tied q k ∙ ne_eqb q k e

less_test : (q k : ℕ) → q < k → is_lt (nat_cmp q k) ≡ true
less_test q k h = ap is_lt (sym (nat_cmp_is q k Less h))

same_test : (k i at m n : ℕ) → m ≡ k + i → n ≡ k + at → eqb i at ≡ eqb m n
same_test k i at m n d e =
    elim (cases_eq i at) [
      | inl s ↦ eq-eqb i at s ∙ sym (eq-eqb m n (omega arith))
      | inr s ↦ ne_eqb i at s ∙ sym (ne_eqb m n (λ t. s (omega arith)))
    ]

-- ---- the entries of places

and_true : (a b : Bool) → a ≡ true → T b → T (a && b)
and_true a b e h = subst (λ x. T (x && b)) (sym e) h

module _ {A : Type 0} where
  find_below : (places : List (Option A)) (k q : ℕ) → q < k → map.find nat_cmp q (entries_from k places) ≡ None
  find_below [] k q h = refl
  find_below (None ∷ rest) k q h = find_below rest (k + 1) q (omega arith)
  find_below (Some x ∷ rest) k q h =
      ap (λ b. cond b (Some x) (map.find nat_cmp q (entries_from (k + 1) rest))) (tied_other q k (λ e. omega arith))
      ∙ find_below rest (k + 1) q (omega arith)

  find_entries : (places : List (Option A)) (k j q : ℕ) → q ≡ k + j → map.find nat_cmp q (entries_from k places) ≡ place places j
  find_entries [] k j q e = refl
  find_entries (None ∷ rest) k zero q e = find_below rest (k + 1) q (omega arith)
  find_entries (None ∷ rest) k (suc j) q e = find_entries rest (k + 1) j q (omega arith)
  find_entries (Some x ∷ rest) k zero q e =
      ap (λ b. cond b (Some x) (map.find nat_cmp q (entries_from (k + 1) rest))) (tied_same q k (omega arith))
  find_entries (Some x ∷ rest) k (suc j) q e =
      ap (λ b. cond b (Some x) (map.find nat_cmp q (entries_from (k + 1) rest))) (tied_other q k (λ s. omega arith))
      ∙ find_entries rest (k + 1) j q (omega arith)

  find_joined : (q : ℕ) (es fs : List (ℕ × A)) → map.find nat_cmp q (es ++ fs) ≡ option_or (map.find nat_cmp q es) (map.find nat_cmp q fs)
  find_joined q [] fs = refl
  find_joined q (e ∷ es) fs =
      elim (eq_by_cmp nat_cmp q e.0) as (λ b. cond b (Some e.1) (map.find nat_cmp q (es ++ fs)) ≡ option_or (cond b (Some e.1) (map.find nat_cmp q es)) (map.find nat_cmp q fs)) [
        | true ↦ refl
        | false ↦ find_joined q es fs
      ]

  below_entries : (places : List (Option A)) (k q : ℕ) (after : List (ℕ × A)) → q < k → T (below_all nat_cmp q after)
      → T (below_all nat_cmp q (entries_from k places ++ after))
  below_entries [] k q after h below = below
  below_entries (None ∷ rest) k q after h below = below_entries rest (k + 1) q after (omega arith) below
  below_entries (Some x ∷ rest) k q after h below =
      and_true (is_lt (nat_cmp q k)) _ (less_test q k h) (below_entries rest (k + 1) q after (omega arith) below)

  sorted_entries : (places : List (Option A)) (k m : ℕ) (after : List (ℕ × A)) → k + length places ≤ m
      → ((q : ℕ) → q < m → T (below_all nat_cmp q after)) → T (map.is_sorted nat_cmp after)
      → T (map.is_sorted nat_cmp (entries_from k places ++ after))
  sorted_entries [] k m after fits below sorted = sorted
  sorted_entries (None ∷ rest) k m after fits below sorted = sorted_entries rest (k + 1) m after (omega arith) below sorted
  sorted_entries (Some x ∷ rest) k m after fits below sorted =
      both (below_all nat_cmp k (entries_from (k + 1) rest ++ after)) _
      (below_entries rest (k + 1) k after (omega arith) (below k (omega arith)))
      (sorted_entries rest (k + 1) m after (omega arith) below sorted)
    where
      both : (a b : Bool) → T a → T b → T (a && b)
      both true b p q = q
      both false b p q = absurd p

  below_alone : (places : List (Option A)) (k q : ℕ) → q < k → T (below_all nat_cmp q (entries_from k places))
  below_alone places k q h = subst (λ es. T (below_all nat_cmp q es)) (append-nil (entries_from k places)) (below_entries places k q [] h tt)

  sorted_alone : (places : List (Option A)) (k : ℕ) → T (map.is_sorted nat_cmp (entries_from k places))
  sorted_alone places k =
      subst (λ es. T (map.is_sorted nat_cmp es)) (append-nil (entries_from k places))
      (sorted_entries places k (k + length places) [] (omega arith) (λ q h. tt) tt)

  -- a map that answers as this one does, but at one key, is this one changed there
  insert_is : (before after : map.FinMap nat_cmp A) (n : ℕ) (x : A)
      → ((m : ℕ) → map.get after m ≡ cond (eqb m n) (Some x) (map.get before m)) → after ≡ map.insert before n x
  insert_is before after n x h =
      map.same_map nat_cmp_total map.nat_cmp-IsAntisymmetric after (map.insert before n x)
      (λ m. h m ∙ sym (map.get-insert nat_cmp_total before n x m ∙ ap (λ b. cond b (Some x) (map.get before m)) (unsigned_tied m n)))

  remove_is : (before after : map.FinMap nat_cmp A) (n : ℕ)
      → ((m : ℕ) → map.get after m ≡ cond (eqb m n) None (map.get before m)) → after ≡ map.remove before n
  remove_is before after n h =
      map.same_map nat_cmp_total map.nat_cmp-IsAntisymmetric after (map.remove before n)
      (λ m. h m ∙ sym (map.get-remove nat_cmp_total before n m ∙ ap (λ b. cond b None (map.get before m)) (unsigned_tied m n)))

or_none : {A : Type 0} (x y : Option A) → y ≡ None → option_or x y ≡ x
or_none None y e = e
or_none (Some x) y e = refl

-- ---- what a number holds

module _ {D : Type 0} (c s : List (Option (Object D))) (w : Within c s) where
  pub all_entries : map.entries (store_of c s).objects ≡ entries_from client_range.first c ++ entries_from server_range.first s
  all_entries =
      map.entries-from_sorted nat_cmp (entries_from client_range.first c ++ entries_from server_range.first s)
      (sorted_entries c client_range.first server_range.first (entries_from server_range.first s) w.clients_fit
      (λ q h. below_alone s server_range.first q h) (sorted_alone s server_range.first))

  pub walk_of_places : IsWalk (store_of c s) (entries_from client_range.first c ++ entries_from server_range.first s)
  walk_of_places = subst (λ walk. IsWalk (store_of c s) walk) all_entries (walk_of_entries (store_of c s))

  held_find : (n : ℕ) → held (store_of c s) n
      ≡ option_or (map.find nat_cmp n (entries_from client_range.first c)) (map.find nat_cmp n (entries_from server_range.first s))
  held_find n =
      map.get-entries (store_of c s).objects n ∙ ap (map.find nat_cmp n) all_entries
      ∙ find_joined n (entries_from client_range.first c) (entries_from server_range.first s)

  pub held_zero : (n : ℕ) → n ≡ 0 → held (store_of c s) n ≡ None
  held_zero n e =
      held_find n ∙ ap₂ option_or (find_below c 1 n (omega arith)) (find_below s server_range.first n (omega arith))

  pub held_client : (n j : ℕ) → n ≡ client_range.first + j → n < client_range.end → held (store_of c s) n ≡ place c j
  held_client n j e h =
      held_find n ∙ or_none _ _ (find_below s server_range.first n h) ∙ find_entries c 1 j n e

  pub held_server : (n j : ℕ) → n ≡ server_range.first + j → held (store_of c s) n ≡ place s j
  held_server n j e =
      let fit = w.clients_fit in
      let past : length c ≤ n - 1 = omega arith in
      let none : map.find nat_cmp n (entries_from 1 c) ≡ None = find_entries c 1 (n - 1) n (omega arith) ∙ get_or_past c (n - 1) None past in
      held_find n ∙ ap (λ o. option_or o (map.find nat_cmp n (entries_from server_range.first s))) none
      ∙ find_entries s server_range.first j n e

-- where the object of a number is kept
pub data RangeOf (m : ℕ) : Type 0 where
  nowhere : m ≡ 0 → RangeOf m
  in_clients : (i : ℕ) → m ≡ client_range.first + i → m < client_range.end → RangeOf m
  in_servers : (i : ℕ) → m ≡ server_range.first + i → RangeOf m

range_of : (m : ℕ) → RangeOf m
range_of m =
    elim (cases_lt m server_range.first) [
      | inl h ↦ elim (cases_eq m 0) [ inl e ↦ nowhere e | inr e ↦ in_clients (m - 1) (omega arith) h ]
      | inr h ↦ in_servers (m - server_range.first) (omega arith)
    ]

-- ---- one place changed

module _ {D : Type 0} (c s : List (Option (Object D))) (w : Within c s) where
  pub changed_client : (c' : List (Option (Object D))) → Within c' s → (at n : ℕ) (x : Option (Object D)) → n ≡ client_range.first + at
      → n < client_range.end → SetsPlace c at x c' → (m : ℕ) → held (store_of c' s) m ≡ cond (eqb m n) x (held (store_of c s) m)
  changed_client c' w' at n x e h puts m =
      elim (range_of m) [
        | nowhere d ↦ held_zero c' s w' m d ∙ sym (ap₂ (λ b o. cond b x o) (ne_eqb m n (λ t. omega arith)) (held_zero c s w m d))
        | in_clients i d l ↦
            held_client c' s w' m i d l ∙ puts.places i
            ∙ ap₂ (λ b o. cond b x o) (same_test 1 i at m n d e) (sym (held_client c s w m i d l))
        | in_servers i d ↦
            held_server c' s w' m i d ∙ sym (ap₂ (λ b o. cond b x o) (ne_eqb m n (λ t. omega arith)) (held_server c s w m i d))
      ]

  pub changed_server : (s' : List (Option (Object D))) → Within c s' → (at n : ℕ) (x : Option (Object D)) → n ≡ server_range.first + at
      → SetsPlace s at x s' → (m : ℕ) → held (store_of c s') m ≡ cond (eqb m n) x (held (store_of c s) m)
  changed_server s' w' at n x e puts m =
      elim (range_of m) [
        | nowhere d ↦ held_zero c s' w' m d ∙ sym (ap₂ (λ b o. cond b x o) (ne_eqb m n (λ t. omega arith)) (held_zero c s w m d))
        | in_clients i d l ↦
            held_client c s' w' m i d l ∙ sym (ap₂ (λ b o. cond b x o) (ne_eqb m n (λ t. omega arith)) (held_client c s w m i d l))
        | in_servers i d ↦
            held_server c s' w' m i d ∙ puts.places i
            ∙ ap₂ (λ b o. cond b x o) (same_test server_range.first i at m n d e) (sym (held_server c s w m i d))
      ]

same_store : {D : Type 0} (a b : Store D) → a.objects ≡ b.objects → a.client_unused ≡ b.client_unused → a.server_unused ≡ b.server_unused → a ≡ b
same_store a b p q r = λ i. record { objects = p i; client_unused = q i; server_unused = r i }

is_client : (n : ℕ) → n < client_range.end → is_server_number n ≡ false
is_client n h = lt-leb server_range.first n h

is_server : (n at : ℕ) → n ≡ server_range.first + at → is_server_number n ≡ true
is_server n at e = le-leb server_range.first n (omega arith)

-- ---- the calls that change one place

grown : (k at n len : ℕ) → n ≡ k + at → k + put_len at len ≡ unused_after (k + len) n
grown k at n len e =
    elim (cases_eq at len) [
      | inl s ↦ rw (eq-eqb at len s, eq-eqb n (k + len) (omega arith)) (omega arith)
      | inr s ↦ rw (ne_eqb at len s, ne_eqb n (k + len) (λ t. s (omega arith))) refl
    ]

still_fits : (k at n len end : ℕ) → n ≡ k + at → n < end → k + len ≤ end → k + put_len at len ≤ end
still_fits k at n len end e h fits =
    elim (cases_eq at len) [
      | inl s ↦ rw (eq-eqb at len s) (omega arith)
      | inr s ↦ rw (ne_eqb at len s) fits
    ]

module _ {D : Type 0} (c s : List (Option (Object D))) (w : Within c s) where
  pub within_client : (c' : List (Option (Object D))) → length c' ≡ length c → Within c' s
  within_client c' len = record { clients_fit = rw len w.clients_fit; servers_fit = w.servers_fit }

  pub within_server : (s' : List (Option (Object D))) → length s' ≡ length s → Within c s'
  within_server s' len = record { clients_fit = w.clients_fit; servers_fit = rw len w.servers_fit }

  pub within_put_client : (c' : List (Option (Object D))) (at n : ℕ) → n ≡ client_range.first + at → n < client_range.end
      → length c' ≡ put_len at (length c) → Within c' s
  within_put_client c' at n e h len =
      record { clients_fit = rw len (still_fits 1 at n (length c) client_range.end e h w.clients_fit); servers_fit = w.servers_fit }

  pub within_put_server : (s' : List (Option (Object D))) (at n : ℕ) → n ≡ server_range.first + at → n < server_range.end
      → length s' ≡ put_len at (length s) → Within c s'
  within_put_server s' at n e h len =
      record { clients_fit = w.clients_fit; servers_fit = rw len (still_fits server_range.first at n (length s) server_range.end e h w.servers_fit) }

  pub removed_nowhere : (n : ℕ) → n ≡ 0 → store_of c s ≡ removed (store_of c s) n
  removed_nowhere n e =
      same_store (store_of c s) (removed (store_of c s) n)
      (remove_is (store_of c s).objects (store_of c s).objects n (λ m. unchanged m (cases_eq m n))) refl refl
    where
      unchanged : (m : ℕ) → (m ≡ n) ⊎ (m ≢ n) → held (store_of c s) m ≡ cond (eqb m n) None (held (store_of c s) m)
      unchanged m (inl d) = rw (eq-eqb m n d) (held_zero c s w m (d ∙ e))
      unchanged m (inr d) = rw (ne_eqb m n d) refl

  pub removed_client : (c' : List (Option (Object D))) (at n : ℕ) → n ≡ client_range.first + at → n < client_range.end
      → SetsPlace c at None c' → length c' ≡ length c → store_of c' s ≡ removed (store_of c s) n
  removed_client c' at n e h puts len =
      same_store (store_of c' s) (removed (store_of c s) n)
      (remove_is (store_of c s).objects (store_of c' s).objects n (changed_client c s w c' (within_client c' len) at n None e h puts))
      (ap (λ k. client_range.first + k) len) refl

  pub removed_server : (s' : List (Option (Object D))) (at n : ℕ) → n ≡ server_range.first + at
      → SetsPlace s at None s' → length s' ≡ length s → store_of c s' ≡ removed (store_of c s) n
  removed_server s' at n e puts len =
      same_store (store_of c s') (removed (store_of c s) n)
      (remove_is (store_of c s).objects (store_of c s').objects n (changed_server c s w s' (within_server s' len) at n None e puts))
      refl (ap (λ k. server_range.first + k) len)

  pub rewritten_client : (c' : List (Option (Object D))) (at n : ℕ) (x : Object D) → n ≡ client_range.first + at → n < client_range.end
      → SetsPlace c at (Some x) c' → length c' ≡ length c → store_of c' s ≡ rewritten (store_of c s) n x
  rewritten_client c' at n x e h puts len =
      same_store (store_of c' s) (rewritten (store_of c s) n x)
      (insert_is (store_of c s).objects (store_of c' s).objects n x (changed_client c s w c' (within_client c' len) at n (Some x) e h puts))
      (ap (λ k. client_range.first + k) len) refl

  pub rewritten_server : (s' : List (Option (Object D))) (at n : ℕ) (x : Object D) → n ≡ server_range.first + at
      → SetsPlace s at (Some x) s' → length s' ≡ length s → store_of c s' ≡ rewritten (store_of c s) n x
  rewritten_server s' at n x e puts len =
      same_store (store_of c s') (rewritten (store_of c s) n x)
      (insert_is (store_of c s).objects (store_of c s').objects n x (changed_server c s w s' (within_server s' len) at n (Some x) e puts))
      refl (ap (λ k. server_range.first + k) len)

  pub stored_client : (c' : List (Option (Object D))) (at n : ℕ) (x : Object D) → n ≡ client_range.first + at → n < client_range.end
      → SetsPlace c at (Some x) c' → length c' ≡ put_len at (length c) → store_of c' s ≡ stored (store_of c s) n x
  stored_client c' at n x e h puts len =
      same_store (store_of c' s) (stored (store_of c s) n x)
      (insert_is (store_of c s).objects (store_of c' s).objects n x
      (changed_client c s w c' (within_put_client c' at n e h len) at n (Some x) e h puts))
      (rw (is_client n h, len) (grown client_range.first at n (length c) e))
      (rw (is_client n h) refl)

  pub stored_server : (s' : List (Option (Object D))) (at n : ℕ) (x : Object D) → n ≡ server_range.first + at → n < server_range.end
      → SetsPlace s at (Some x) s' → length s' ≡ put_len at (length s) → store_of c s' ≡ stored (store_of c s) n x
  stored_server s' at n x e h puts len =
      same_store (store_of c s') (stored (store_of c s) n x)
      (insert_is (store_of c s).objects (store_of c s').objects n x
      (changed_server c s w s' (within_put_server s' at n e h len) at n (Some x) e puts))
      (rw (is_server n at e) refl)
      (rw (is_server n at e, len) (grown server_range.first at n (length s) e))

-- ---- free numbers

same_bound : (k at n len : ℕ) → n ≡ k + at → nat_le n (k + len) ≡ nat_le at len
same_bound k at n len e =
    elim (cases_lt len at) [
      | inl h ↦ lt-leb n (k + len) (omega arith) ∙ sym (lt-leb at len h)
      | inr h ↦ le-leb n (k + len) (omega arith) ∙ sym (le-leb at len h)
    ]

below_bound : (k at n len : ℕ) → n ≡ k + at → nat_lt n (k + len) ≡ nat_lt at len
below_bound k at n len e =
    elim (cases_lt at len) [
      | inl h ↦ lt-ltb n (k + len) (omega arith) ∙ sym (lt-ltb at len h)
      | inr h ↦ le-ltb n (k + len) (omega arith) ∙ sym (le-ltb at len h)
    ]

and_false : (b : Bool) → (b && false) ≡ false
and_false true = refl
and_false false = refl

module _ {D : Type 0} (c s : List (Option (Object D))) (w : Within c s) where
  pub vacant_nowhere : (n : ℕ) → n ≡ 0 → is_vacant (store_of c s) n ≡ false
  vacant_nowhere n e = rw e refl

  pub vacant_client : (n at : ℕ) → n ≡ client_range.first + at → n < client_range.end → is_vacant (store_of c s) n ≡ free_flag c at
  vacant_client n at e h =
      rw (held_client c s w n at e h, is_client n h, lt-ltb 0 n (omega arith), below_bound client_range.first at n (length c) e) refl

  pub vacant_server : (n at : ℕ) → n ≡ server_range.first + at → is_vacant (store_of c s) n ≡ free_flag s at
  vacant_server n at e =
      rw (held_server c s w n at e, is_server n at e, lt-ltb 0 n (omega arith), below_bound server_range.first at n (length s) e) refl

-- a number that was in use before and is free
module _ {D : Type 0} (store : Store D) (n : ℕ) (vacant : is_vacant store n ≡ true) where
  parts : (nat_lt 0 n ≡ true) × (nat_lt n (first_unused store n) ≡ true) × (not (is_some (held store n)) ≡ true)
  parts =
      let p = and_parts (nat_lt 0 n && nat_lt n (first_unused store n)) (not (is_some (held store n))) vacant in
      let q = and_parts (nat_lt 0 n) (nat_lt n (first_unused store n)) p.0 in
      (q.0, q.1, p.1)

  pub vacant_is_free : is_free store n ≡ true
  vacant_is_free =
      let below : n < first_unused store n = ltb-true n (first_unused store n) parts.1 in
      and_from (not (is_some (held store n))) _ parts.2
      (and_from (nat_lt 0 n) _ parts.0 (le-leb n (first_unused store n) (omega (arith, below))))

  none_held : (o : Option (Object D)) → not (is_some o) ≡ true → o ≡ None
  none_held None e = refl
  none_held (Some x) e = absurd (true≢false (sym e))

  unused_stays : (b : Bool) (clients servers : ℕ) → n < cond b servers clients
      → (cond b clients (unused_after clients n) ≡ clients) × (cond b (unused_after servers n) servers ≡ servers)
  unused_stays true clients servers h = (refl, rw (ne_eqb n servers (λ e. omega arith)) refl)
  unused_stays false clients servers h = (rw (ne_eqb n clients (λ e. omega arith)) refl, refl)

  -- so an object that is put there and taken out again leaves the store as it was
  pub vacant_stays : (x : Object D) → removed (stored store n x) n ≡ store
  vacant_stays x =
      let below : n < first_unused store n = ltb-true n (first_unused store n) parts.1 in
      let unused = unused_stays (is_server_number n) store.client_unused store.server_unused below in
      same_store (removed (stored store n x) n) store
      (map.same_map nat_cmp_total map.nat_cmp-IsAntisymmetric (removed (stored store n x) n).objects store.objects (λ m. same m (cases_eq m n)))
      unused.0 unused.1
    where
      same : (m : ℕ) → (m ≡ n) ⊎ (m ≢ n) → held (removed (stored store n x) n) m ≡ held store m
      same m (inl e) = removed_here (stored store n x) n m e ∙ sym (ap (held store) e ∙ none_held (held store n) parts.2)
      same m (inr e) = removed_other (stored store n x) n m e ∙ stored_other store n x m e

module _ {D : Type 0} (c s : List (Option (Object D))) (w : Within c s) where
  pub free_nowhere : (n : ℕ) → n ≡ 0 → is_free (store_of c s) n ≡ false
  free_nowhere n e = rw e (and_false (not (is_some (held (store_of c s) 0))))

  pub free_client : (n at : ℕ) → n ≡ client_range.first + at → n < client_range.end → is_free (store_of c s) n ≡ is_free_place c at
  free_client n at e h =
      rw (held_client c s w n at e h, is_client n h, lt-ltb 0 n (omega arith), same_bound client_range.first at n (length c) e) refl

  pub free_server : (n at : ℕ) → n ≡ server_range.first + at → is_free (store_of c s) n ≡ is_free_place s at
  free_server n at e =
      rw (held_server c s w n at e, is_server n at e, lt-ltb 0 n (omega arith), same_bound server_range.first at n (length s) e) refl

  pub unused_client : (n at : ℕ) → n ≡ client_range.first + at → n < client_range.end → at ≡ length c → n ≡ first_unused (store_of c s) n
  unused_client n at e h last = rw (is_client n h) (omega arith)

  pub below_client : (n at : ℕ) → n ≡ client_range.first + at → n < client_range.end → at < length c → n < first_unused (store_of c s) n
  below_client n at e h last = rw (is_client n h) (omega arith)

  pub below_server : (n at : ℕ) → n ≡ server_range.first + at → at < length s → n < first_unused (store_of c s) n
  below_server n at e last = rw (is_server n at e) (omega arith)

  pub unused_server : (n at : ℕ) → n ≡ server_range.first + at → at ≡ length s → n ≡ first_unused (store_of c s) n
  unused_server n at e last = rw (is_server n at e) (omega arith)

  pub least_client : (at n : ℕ) → n ≡ client_range.first + at → n < client_range.end → IsFirstFree c at → IsLeastAbsent client_range (store_of c s) n
  least_client at n e h first = record {
    within = omega arith;
    below = h;
    absent = held_client c s w n at e h ∙ first.free;
    least = λ k low high. ap is_some (held_client c s w k (k - 1) (omega arith) (omega arith)) ∙ first.taken (k - 1) (omega arith);
  }

  pub least_server : (at n : ℕ) → n ≡ server_range.first + at → n < server_range.end → IsFirstFree s at → IsLeastAbsent server_range (store_of c s) n
  least_server at n e h first = record {
    within = omega arith;
    below = h;
    absent = held_server c s w n at e ∙ first.free;
    least = λ k low high. ap is_some (held_server c s w k (k - server_range.first) (omega arith)) ∙ first.taken (k - server_range.first) (omega arith);
  }

  pub full_client : (at : ℕ) → client_range.end ≤ client_range.first + at → IsFirstFree c at → IsFull client_range (store_of c s)
  full_client at h first = record {
    each = λ k low high. ap is_some (held_client c s w k (k - 1) (omega arith) high) ∙ first.taken (k - 1) (omega arith);
  }

  pub full_server : (at : ℕ) → server_range.end ≤ server_range.first + at → IsFirstFree s at → IsFull server_range (store_of c s)
  full_server at h first = record {
    each = λ k low high. ap is_some (held_server c s w k (k - server_range.first) (omega arith)) ∙ first.taken (k - server_range.first) (omega arith);
  }

pub first_is_free : {A : Type 0} (places : List (Option A)) (at : ℕ) → IsFirstFree places at → is_free_place places at ≡ true
first_is_free places at first = rw (first.free, le-leb at (length places) first.within) refl

module _ {D : Type 0} (c s : List (Option (Object D))) (w : Within c s) where
  -- ---- the number of the first free place

  abbrev Numbered : ℕ → ℕ → ℕ → Option ℕ → Type 0
  Numbered at first end number = MatchOption number (end ≤ at) (λ n. (at < end) × (n ≡ at + first))

  pub next_client : (at : ℕ) (number : Option ℕ) → IsFirstFree c at → Numbered at 1 0xFEFFFFFF number → NextNew client_range (store_of c s) number
  next_client at None free past = full_client c s w at (omega arith) free
  next_client at (Some n) free (below, is) = least_client c s w at n (omega arith) (omega arith) free

  pub next_server : (at : ℕ) (number : Option ℕ) → IsFirstFree s at → Numbered at 0xFF000000 0x1000000 number → NextNew server_range (store_of c s) number
  next_server at None free past = full_server c s w at (omega arith) free
  next_server at (Some n) free (below, is) = least_server c s w at n (omega arith) (omega arith) free

  pub next_is_free : (at : ℕ) (number : Option ℕ) → IsFirstFree c at → Numbered at 1 0xFEFFFFFF number → IfSome number (λ n. is_free (store_of c s) n ≡ true)
  next_is_free at None free past = tt
  next_is_free at (Some n) free (below, is) = free_client c s w n at (omega arith) (omega arith) ∙ first_is_free c at free

-- ---- the number that is told

is_held : {A : Type 0} (o : Option A) → o ≡ None → is_some o ≡ true → ⊥
is_held None e h = true≢false (sym h)
is_held (Some x) e h = true≢false (ap is_some e)

module _ {D : Type 0} (range : Range) (store : Store D) where
  one_least : (n m : ℕ) → IsLeastAbsent range store n → IsLeastAbsent range store m → n ≡ m
  one_least n m a b =
      elim (cases_lt n m) [
        | inl before ↦ absurd (is_held (held store n) a.absent (b.least n a.within before))
        | inr h ↦ elim (cases_lt m n) [
          | inl after ↦ absurd (is_held (held store m) b.absent (a.least m b.within after))
          | inr g ↦ omega arith
        ]
      ]

  not_full : (n : ℕ) → IsLeastAbsent range store n → IsFull range store → ⊥
  not_full n a full = is_held (held store n) a.absent (full.each n a.within a.below)

  pub told_is_given : (next : Option ℕ) → NextNew range store next → InsertionsGive range store next
  told_is_given (Some n) least x (Ok m) after (other, _) = ap Some (one_least n m least other)
  told_is_given (Some n) least x (Err new.IdsExhausted) after (full, _) = absurd (not_full n least full)
  told_is_given (Some n) least x (Err new.OutOfMemory) after _ = refl
  told_is_given None full x (Ok m) after (other, _) = absurd (not_full m other full)
  told_is_given None full x (Err new.IdsExhausted) after _ = refl
  told_is_given None full x (Err new.OutOfMemory) after ((m, other, _), _) = absurd (not_full m other full)

-- ---- a map without objects

pub store_none : {D : Type 0} → store_of {D = D} [] [] ≡ empty_store
store_none {D} =
    same_store {D = D} (store_of [] []) empty_store
    (map.same_map nat_cmp_total map.nat_cmp-IsAntisymmetric (map.from_sorted []) map.empty
    (λ q. map.get-from_sorted nat_cmp [] q tt ∙ sym (map.get-empty nat_cmp q)))
    refl refl

-- ---- a place lent for writing

pub lends_at : {A R : Type 0} (call : A → R → A → Type 0) (places : List (Option A)) (at : ℕ) (x y : A) (r : R)
    → at < length places → place places at ≡ Some x → call x r y → LendsAt call places at (Some r) (set places at (Some y))
lends_at call places at x y r h holds called =
    rw holds (r, y, called, refl, record { places = λ i. written i (cases_eq i at) })
  where
    written : (i : ℕ) → (i ≡ at) ⊎ (i ≢ at) → place (set places at (Some y)) i ≡ cond (eqb i at) (Some y) (place places i)
    written i (inl e) = rw (eq-eqb i at e) (get_or-set_at places at i (Some y) None e h)
    written i (inr e) = rw (ne_eqb i at e) (get_or-set_other places at i (Some y) None e)

-- ---- the answers of both ranges

module _ {D : Type 0} (c s : List (Option (Object D))) (w : Within c s) where
  pub inserts_client : (c' : List (Option (Object D))) (at n : ℕ) (x : Object D) (r : Result (Unit {0}) InsertError)
      → n ≡ client_range.first + at → n < client_range.end → PutsAt c at x r c' → InsertsAt (store_of c s) n x r (store_of c' s)
  inserts_client c' at n x (Ok u) e h (free, puts, len) = (free_client c s w n at e h ∙ free, stored_client c s w c' at n x e h puts len)
  inserts_client c' at n x (Err insert.NotFree) e h (taken, same) = (free_client c s w n at e h ∙ taken, ap (λ k. store_of k s) same)
  inserts_client c' at n x (Err insert.OutOfMemory) e h (free, last, same) =
      (free_client c s w n at e h ∙ free, unused_client c s w n at e h last, ap (λ k. store_of k s) same)

  pub inserts_server : (s' : List (Option (Object D))) (at n : ℕ) (x : Object D) (r : Result (Unit {0}) InsertError)
      → n ≡ server_range.first + at → n < server_range.end → PutsAt s at x r s' → InsertsAt (store_of c s) n x r (store_of c s')
  inserts_server s' at n x (Ok u) e h (free, puts, len) = (free_server c s w n at e ∙ free, stored_server c s w s' at n x e h puts len)
  inserts_server s' at n x (Err insert.NotFree) e h (taken, same) = (free_server c s w n at e ∙ taken, ap (λ k. store_of c k) same)
  inserts_server s' at n x (Err insert.OutOfMemory) e h (free, last, same) =
      (free_server c s w n at e ∙ free, unused_server c s w n at e last, ap (λ k. store_of c k) same)

  pub inserts_new_client : (c' : List (Option (Object D))) (x : Object D) (r : Result ℕ NewError) → PutsNew c 1 4278190079 x r c'
      → InsertsNew client_range (store_of c s) x r (store_of c' s)
  inserts_new_client c' x (Ok n) (at, is, below, first, puts, len) =
      let h : n < client_range.end = omega arith in
      (least_client c s w at n (omega arith) h first, stored_client c s w c' at n x (omega arith) h puts len)
  inserts_new_client c' x (Err new.IdsExhausted) ((at, past, first), same) =
      (full_client c s w at (omega arith) first, ap (λ k. store_of k s) same)
  inserts_new_client c' x (Err new.OutOfMemory) ((at, below, first, last), same) =
      let h : at + 1 < client_range.end = omega arith in
      ((at + 1, least_client c s w at (at + 1) (omega arith) h first, unused_client c s w (at + 1) at (omega arith) h last), ap (λ k. store_of k s) same)

  pub inserts_new_server : (s' : List (Option (Object D))) (x : Object D) (r : Result ℕ NewError) → PutsNew s 4278190080 16777216 x r s'
      → InsertsNew server_range (store_of c s) x r (store_of c s')
  inserts_new_server s' x (Ok n) (at, is, below, first, puts, len) =
      let h : n < server_range.end = omega arith in
      (least_server c s w at n (omega arith) h first, stored_server c s w s' at n x (omega arith) h puts len)
  inserts_new_server s' x (Err new.IdsExhausted) ((at, past, first), same) =
      (full_server c s w at (omega arith) first, ap (λ k. store_of c k) same)
  inserts_new_server s' x (Err new.OutOfMemory) ((at, below, first, last), same) =
      let h : at + 4278190080 < server_range.end = omega arith in
      ((at + 4278190080, least_server c s w at (at + 4278190080) (omega arith) h first, unused_server c s w (at + 4278190080) at (omega arith) last), ap (λ k. store_of c k) same)

  pub lends_nowhere : {R : Type 0} (call : Object D → R → Object D → Type 0) (n : ℕ) → n ≡ 0
      → Lends call (store_of c s) n None (store_of c s)
  lends_nowhere call n e = rw (held_zero c s w n e) (refl, refl)

  pub lends_client : {R : Type 0} (call : Object D → R → Object D → Type 0) (c' : List (Option (Object D))) (at n : ℕ) (answer : Option R)
      → n ≡ client_range.first + at → n < client_range.end → length c' ≡ length c → LendsAt call c at answer c'
      → Lends call (store_of c s) n answer (store_of c' s)
  lends_client call c' at n answer e h len lent = rw (held_client c s w n at e h) (lent_at (place c at) lent)
    where
      lent_at : (o : Option (Object D))
          → MatchOption o ((answer ≡ None) × (c' ≡ c)) (λ x. (r : _) × (y : Object D) × call x r y × (answer ≡ Some r) × SetsPlace c at (Some y) c')
          → MatchOption o ((answer ≡ None) × (store_of c' s ≡ store_of c s))
          (λ x. (r : _) × (y : Object D) × call x r y × (answer ≡ Some r) × (store_of c' s ≡ rewritten (store_of c s) n y))
      lent_at None (none, same) = (none, ap (λ k. store_of k s) same)
      lent_at (Some x) (r, y, called, gives, puts) = (r, y, called, gives, rewritten_client c s w c' at n y e h puts len)

  pub lends_server : {R : Type 0} (call : Object D → R → Object D → Type 0) (s' : List (Option (Object D))) (at n : ℕ) (answer : Option R)
      → n ≡ server_range.first + at → length s' ≡ length s → LendsAt call s at answer s'
      → Lends call (store_of c s) n answer (store_of c s')
  lends_server call s' at n answer e len lent = rw (held_server c s w n at e) (lent_at (place s at) lent)
    where
      lent_at : (o : Option (Object D))
          → MatchOption o ((answer ≡ None) × (s' ≡ s)) (λ x. (r : _) × (y : Object D) × call x r y × (answer ≡ Some r) × SetsPlace s at (Some y) s')
          → MatchOption o ((answer ≡ None) × (store_of c s' ≡ store_of c s))
          (λ x. (r : _) × (y : Object D) × call x r y × (answer ≡ Some r) × (store_of c s' ≡ rewritten (store_of c s) n y))
      lent_at None (none, same) = (none, ap (λ k. store_of c k) same)
      lent_at (Some x) (r, y, called, gives, puts) = (r, y, called, gives, rewritten_server c s w s' at n y e puts len)
