-- What all slots give, by the client that it is about.
use Rattle.std.proofs.Common.{◌≡◌, ℕ, zero, suc, ◌+◌, ◌<◌, ◌≤◌, Bool, true, false, List, [], ◌∷◌, ◌++◌, Option, None, Some, refl, ◌∙◌, arith, append-nil, All}
use Rattle.std.specs.FinMap.{entries}
use Rattle.std.specs.Option.{option_map_or}
use Rattle.std.specs.Prelude.{AllPairs, ◌==◌, if◌then◌else◌, slice_get}
use Rattle.std.proofs.lemmas.Bool.{eqb-true, ne_eqb}
use Rattle.std.proofs.lemmas.Option.{slice_get-map}
use Rattle.std.proofs.lemmas.List.Elements.{All-append}
use Rattle.std.proofs.lemmas.List.Kept.{AllPairs-cons}
use Rattle.wl_server_client.specs.Ids.{ClientParts}
use Rattle.wl_server_model.specs.Inside.Leaving.{all_staying, collected, ends_at, ends_in, given_at, given_in, id_in, staying}
use Rattle.wl_server_client.specs.Inside.Leaving.{ends_of}
use Rattle.wl_server_model.specs.PartStep.{share_of}
use Rattle.wl_server_client.specs.Stored.{Stored}
use Rattle.wl_server_model.specs.Server.{client_at, if_serial, notes_of}
use Rattle.wl_server_model.proofs.CleanupSteps.Gathering.{notes_other, notes_same, notes_append}
use Rattle.wl_server_model.proofs.CallSteps.Slots.{same_parts, same_self, same_serials, same_slots}

-- ---- shares

share_append : {T : Type 0} (id : ClientParts) (a b : List (ClientParts × T)) → share_of id (a ++ b) ≡ share_of id a ++ share_of id b
share_append id [] b = refl
share_append id (e ∷ a) b = grind (arith, share_append id a b)

module _ {T U C : Type 0} where
  -- ---- of what all slots give, a part that only one slot has

  module _ {A B : Type 0} (part : List A → List B) (give : ℕ → Option (Stored T U C) → List A) (slot : ℕ) (none : part [] ≡ [])
      (both : (a b : List A) → part (a ++ b) ≡ part a ++ part b)
      (other : (n : ℕ) (x : Option (Stored T U C)) → (n == slot) ≡ false → part (give n x) ≡ []) where
    collected_past : (n : ℕ) (clients : List (Option (Stored T U C))) → slot < n → part (collected give n clients) ≡ []
    collected_past n [] past = none
    collected_past n (x ∷ clients) past = grind (arith, collected, ne_eqb, collected_past (n + 1) clients)

    collected_at : (n k : ℕ) (clients : List (Option (Stored T U C))) → slot ≡ n + k
        → part (collected give n clients) ≡ option_map_or (λ x. part (give slot x)) (slice_get clients k) []
    collected_at n k [] at = none
    collected_at n zero (x ∷ clients) at = grind (arith, collected, collected_past, append-nil)
    collected_at n (suc k) (x ∷ clients) at = grind (arith, collected, ne_eqb, collected_at (n + 1) k clients)

  -- ---- notes

  other_ends : (id : ClientParts) (n : ℕ) (x : Option (Stored T U C)) → (n == id.slot) ≡ false → notes_of id (ends_at n x) ≡ []
  other_ends id n None other = refl
  other_ends id n (Some s) other =
      grind (arith, s.part.is_killed, notes_other (id_in n s) id (ends_of (id_in n s) (entries s.part.store.objects)) (same_slots (id_in n s) id other))

  own_ends : (id : ClientParts) (x : Option (Stored T U C)) → notes_of id (ends_at id.slot x) ≡ ends_in id (if_serial id.serial x)
  own_ends id None = refl
  own_ends id (Some s) = at (s.serial == id.serial) refl
    where
      at : (same : Bool) → (s.serial == id.serial) ≡ same → notes_of id (ends_at id.slot (Some s)) ≡ ends_in id (if same then Some s else None)
      at true same = rw (same_parts (id_in id.slot s) id refl (eqb-true s.serial id.serial same))
          (grind (arith, s.part.is_killed, notes_same id id (ends_of id (entries s.part.store.objects)) (same_self id)))
      at false other =
          grind (arith, s.part.is_killed, notes_other (id_in id.slot s) id (ends_of (id_in id.slot s) (entries s.part.store.objects)) (same_serials (id_in id.slot s) id refl other))

  pub ends_for : (id : ClientParts) (clients : List (Option (Stored T U C))) → notes_of id (collected ends_at 0 clients) ≡ ends_in id
      (client_at id clients)
  ends_for id clients =
      collected_at (notes_of id) ends_at id.slot refl (notes_append id) (other_ends id) 0 id.slot clients (omega arith)
      ∙ (grind (arith, own_ends, slice_get clients id.slot))

  -- ---- transports

  pub given_for : (id : ClientParts) (clients : List (Option (Stored T U C)))
      → share_of id (collected given_at 0 clients) ≡ given_in (client_at id clients)
  given_for id clients =
      collected_at (share_of id) given_at id.slot refl (share_append id) (λ n x h1. grind (arith, id_in, same_slots)) 0 id.slot clients (omega arith)
      ∙ (grind (arith, id_in, given_in, same_parts, same_self, same_serials, slice_get clients id.slot))

  -- ---- who stays

  pub staying_for : (id : ClientParts) (clients : List (Option (Stored T U C))) → client_at id (all_staying clients) ≡ staying (client_at id clients)
  staying_for id clients = grind (arith, if_serial, option_map_or, slice_get-map, staying, slice_get)

-- ---- the order

abbrev pub Rises : {T : Type 0} → List (ClientParts × T) → Type 0
Rises out = AllPairs (λ a b. a.0.slot < b.0.slot) out

module _ {T U C : Type 0} where
  given_from : (m n : ℕ) (clients : List (Option (Stored T U C))) → m ≤ n → All (λ d. m ≤ d.0.slot) (collected given_at n clients)
  given_from m n [] le = λ k d below. absurd (omega (arith, below))
  given_from m n (x ∷ clients) le = grind (arith, All-append, given_at, collected, id_in, x, given_from m (n + 1) clients)

  rises_more : (n : ℕ) (x : Option (Stored T U C)) (rest : List (ClientParts × T)) → All (λ d. n < d.0.slot) rest → Rises rest → Rises
      (given_at n x ++ rest)
  rises_more n x rest from rises = grind (arith, AllPairs-cons, id_in, x)

  -- the clients that leave stand by slot
  pub given_rises : (n : ℕ) (clients : List (Option (Stored T U C))) → Rises (collected given_at n clients)
  given_rises n [] = λ i j d less below. absurd (omega (arith, below))
  given_rises n (x ∷ clients) = rises_more n x (collected given_at (n + 1) clients) (given_from (suc n) (n + 1) clients (omega arith))
      (given_rises (n + 1) clients)
