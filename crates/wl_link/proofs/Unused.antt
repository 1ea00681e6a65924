-- The first place past each range, and the numbers that were never in use.
use Rattle.std.proofs.Common.{◌≡◌, ℕ, ◌+◌, ◌-◌, ◌<◌, ◌≤◌, true, List, length, Option, None, Some, is_some, not, refl, ◌∙◌, ap, arith}
use Rattle.std.specs.Prelude.{MatchOption, IfSome}
use Rattle.std.proofs.lemmas.Bool.{and_from, le-leb, lt-leb, lt-ltb, cases_lt}
use Rattle.std.proofs.lemmas.List.{get_or_past}
use mathlib.Core.Logic.{inl, inr}
use Rattle.wl_link.specs.declared.object.Object.{Object}
use Rattle.wl_link.specs.Store.{Store, client_range, server_range, held, first_unused, is_free}
use Rattle.wl_link.specs.Unused.{IsLeastUnused, NextUnused, all_numbers}
use Rattle.wl_link.specs.Inside.PlaceList.{store_of, Within}
use Rattle.wl_link.proofs.Keeping.{held_client, held_server}

module _ {D : Type 0} (c s : List (Option (Object D))) (w : Within c s) where
  -- the numbers of a client's range are in use up to its first unused one
  client_unused : (k : ℕ) → k < client_range.end → first_unused (store_of c s) k ≡ client_range.first + length c
  client_unused k h = rw (lt-leb server_range.first k h) refl

  server_unused : (k at : ℕ) → k ≡ server_range.first + at → first_unused (store_of c s) k ≡ server_range.first + length s
  server_unused k at e = rw (le-leb server_range.first k (omega (arith, e))) refl

  pub next_of_client : (n : ℕ) → length c < 0xFEFFFFFF → n ≡ length c + 1 → IsLeastUnused all_numbers (store_of c s) n
  next_of_client n fits is = record {
    within = omega arith;
    below = omega arith;
    absent = held_client c s w n (length c) (omega arith) (omega arith) ∙ get_or_past c (length c) None (omega arith);
    unused = omega (arith, is, client_unused n (omega (arith, is, fits)));
    least = λ k from below. omega (arith, is, client_unused k (omega (arith, is, fits, below)), below);
  }

  -- where the client's range is used up
  pub next_of_server : 0xFEFFFFFF ≤ length c → (o : Option ℕ)
      → MatchOption o (0x01000000 ≤ length s) (λ n. (length s < 0x01000000) × (n ≡ length s + 0xFF000000)) → NextUnused all_numbers (store_of c s) o
  next_of_server full None used = record {
    each = λ k from below. (elim (cases_lt k 0xFF000000) [
      | inl small ↦ omega (arith, client_unused k small, full)
      | inr large ↦ omega (arith, server_unused k (k - 0xFF000000) (omega arith), used)
    ]);
  }
  next_of_server full (Some n) (fits, is) = record {
    within = omega arith;
    below = omega arith;
    absent = held_server c s w n (length s) (omega (arith, is)) ∙ get_or_past s (length s) None (omega arith);
    unused = omega (arith, is, server_unused n (length s) (omega (arith, is)));
    least = λ k from below. (elim (cases_lt k 0xFF000000) [
      | inl small ↦ omega (arith, client_unused k small, full)
      | inr large ↦ omega (arith, server_unused k (k - 0xFF000000) (omega arith), is, below)
    ]);
  }

module _ {D : Type 0} (store : Store D) where
  -- a number that was never in use and is next is free
  pub unused_is_free : (n : ℕ) → IsLeastUnused all_numbers store n → is_free store n ≡ true
  unused_is_free n least =
      and_from (not (is_some (held store n))) _ (ap (λ (o : Option (Object D)). not (is_some o)) least.absent)
      (and_from _ _ (lt-ltb 0 n least.within) (le-leb n (first_unused store n) (omega (arith, least.unused))))

  pub next_unused_free : (o : Option ℕ) → NextUnused all_numbers store o → IfSome o (λ n. is_free store n ≡ true)
  next_unused_free None used = tt
  next_unused_free (Some n) least = unused_is_free n least
