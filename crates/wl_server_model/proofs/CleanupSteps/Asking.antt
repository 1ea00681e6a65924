-- What a cleanup, and what the list of notes, asks for memory for.
use Rattle.std.proofs.Common.{◌≡◌, ◌≢◌, ℕ, suc, ◌+◌, ◌<◌, ◌≤◌, ◌^◌, Bool, true, false, List, [], ◌∷◌, ◌++◌, length, Option, None, Some, Result, OnErr, refl, ap, arith}
use mathlib.Core.Logic.{inl, inr}
use Rattle.std.specs.Prelude.{◌⊎◌}
use Rattle.std.proofs.lemmas.List.{nil_from_length}
use Rattle.std.proofs.lemmas.Bool.{cases_lt}
use Rattle.wl_server_client.specs.declared.notes.Happening.{Happening}
use Rattle.wl_server_model.specs.Inside.Gathering.{AllLeft, count_leaving}
use Rattle.wl_server_client.specs.NoteTimes.{to_gather}
use Rattle.wl_server_model.specs.Inside.Leaving.{collected, ends_at, given_at}
use Rattle.wl_server_client.specs.Stored.{Stored}
use Rattle.wl_server_model.specs.Steps.{SomeClient}
use Rattle.wl_server_model.proofs.CleanupSteps.Gathering.{count_at}

pub on_err : {A E P : Type 0} (r : Result A E) → P → OnErr r P
on_err h1 p = grind (arith)

-- what is none in all is none
pub none_of : (n m : ℕ) → n ≡ 0 → (n < 0xFFFFFFFFFFFFFFFF → m ≤ n) → m ≤ 0
none_of n m none all = let few : n < 0xFFFFFFFFFFFFFFFF = omega (arith, none) in let fits = all few in omega (arith, none, fits)

-- room for what was counted is room for what there is
pub room_of : (len n m cap : ℕ) → (n < 0xFFFFFFFFFFFFFFFF → m ≤ n) → len + n ≤ cap → cap < 2 ^ 63 → len + m ≤ cap
room_of len n m cap all room small = let few : n < 0xFFFFFFFFFFFFFFFF = omega (arith, room, small) in let fits = all few in omega (arith, room, fits)

module _ {T U C : Type 0} where
  -- ---- what nobody asks for

  pub none_leaving : (waits : Bool) (clients : List (Option (Stored T U C))) → count_leaving waits clients ≤ 0 → AllLeft waits clients
  none_leaving waits clients none slot x here = nil_from_length (to_gather waits x) (omega (arith, count_at waits clients slot x here, none))

  pub none_ends : (n : ℕ) (clients : List (Option (Stored T U C))) → length (collected given_at n clients) ≤ 0
      → length (collected ends_at n clients) ≤ 0
  none_ends n [] none = none
  none_ends n (None ∷ clients) none = none_ends (n + 1) clients none
  none_ends n (Some s ∷ clients) none = grind (arith, none_ends (n + 1) clients)

  -- ---- who asks

  later : {R : Stored T U C → Type 0} (x : Option (Stored T U C)) (clients : List (Option (Stored T U C))) → SomeClient clients R
      → SomeClient (x ∷ clients) R
  later x clients (slot, s, here, is) = (suc slot, s, here, is)

  pub one_leaves : (waits : Bool) (clients : List (Option (Stored T U C))) → 0 < count_leaving waits clients
      → SomeClient clients (λ s. to_gather waits (Some s) ≢ [])
  one_leaves waits [] more = absurd (omega (arith, more))
  one_leaves waits (None ∷ clients) more = later None clients (one_leaves waits clients (omega (arith, more)))
  one_leaves waits (Some s ∷ clients) more = at (to_gather waits (Some s)) refl (one_leaves waits clients)
    where
      at : (told : List (Happening U)) → to_gather waits (Some s) ≡ told
          → (0 < count_leaving waits clients → SomeClient clients (λ s. to_gather waits (Some s) ≢ []))
          → SomeClient (Some s ∷ clients) (λ s. to_gather waits (Some s) ≢ [])
      at [] none rest = later (Some s) clients (rest (omega (arith, more, ap length none)))
      at (h ∷ told) is rest = (0, s, refl, λ none. (cc))

  one_is_killed : (n : ℕ) (clients : List (Option (Stored T U C))) → 0 < length (collected given_at n clients)
      → SomeClient clients (λ s. s.part.is_killed ≡ true)
  one_is_killed n [] more = absurd (omega (arith, more))
  one_is_killed n (None ∷ clients) more = later None clients (one_is_killed (n + 1) clients more)
  one_is_killed n (Some s ∷ clients) more = at s.part.is_killed refl (one_is_killed (n + 1) clients)
    where
      at : (b : Bool) → s.part.is_killed ≡ b → (0 < length (collected given_at (n + 1) clients) → SomeClient clients (λ s. s.part.is_killed ≡ true))
          → SomeClient (Some s ∷ clients) (λ s. s.part.is_killed ≡ true)
      at true killed rest = (0, s, refl, killed)
      at false live rest = later (Some s) clients (rest (rw live at more))

  pub cleanup_asks : (clients : List (Option (Stored T U C))) → 0 < count_leaving true clients + length (collected given_at 0 clients)
      → SomeClient clients (λ s. (s.made ++ s.part.waiting ≢ []) ⊎ (s.part.is_killed ≡ true))
  cleanup_asks clients some = elim (cases_lt 0 (count_leaving true clients)) [
    | inl more ↦ let (slot, s, here, is) = one_leaves true clients more in (slot, s, here, inl is)
    | inr none ↦ let (slot, s, here, killed) = one_is_killed 0 clients (omega (arith, some, none)) in (slot, s, here, inr killed)
  ]
