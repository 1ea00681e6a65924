-- What is so of each client that is not in a set of slots, while clients and sets change.
use Rattle.std.proofs.Common.{◌≡◌, ℕ, zero, suc, ◌+◌, ◌<◌, ◌≤◌, Bool, List, [], length, Option, None, Some, ap, subst, arith}
use Rattle.std.specs.Option.{option_map_or}
use Rattle.std.specs.Prelude.{IsTrue, MatchOption, slice_get, slice_set}
use Rattle.std.proofs.lemmas.Bool.{eqb-true}
use Rattle.std.proofs.lemmas.Option.{slice_get_cases}
use Rattle.wl_server.specs.declared.client.touched.Touched.{Touched}
use Rattle.wl_server_model.specs.Inside.Inserting.{IsPut}
use Rattle.wl_sets.specs.SlotSets.{Adds, IsOut, TakesOut}
use Rattle.wl_server.specs.Inside.Touched.{AllOut, AreTouched, StayTouched, HasSent, IsQuiet}
use Rattle.wl_server_client.specs.Stored.{Stored}
use Rattle.wl_server_model.specs.Server.{stored_at}
use Rattle.wl_sets.proofs.Lists.{get_set_other, get_set_same, other_of}

-- ---- from one slot to a later one

pub carry : (P : ℕ → Type 0) (from to : ℕ) → from ≤ to → P from → ((k : ℕ) → from ≤ k → k < to → P k → P (k + 1)) → P to
carry P from zero less is step = subst P (let e : from ≡ zero = omega (arith, less) in e) is
carry P from (suc to) less is step = grind (arith, eqb-true, other_of, carry P from to)

pub there : {A : Type 0} (xs : List A) (k : ℕ) → k < length xs → (x : A) × (slice_get xs k ≡ Some x)
there xs k within = grind (arith, slice_get_cases xs k)

module _ {T U C : Type 0} where
  -- the client of a slot, where the list has one
  abbrev place_at : Option (Option (Stored T U C)) → Option (Stored T U C)
  place_at o = option_map_or (λ s. s) o None

  module _ (P : Option (Stored T U C) → Type 0) where
    -- ---- the clients change

    pub out_each : (words : List ℕ) (clients clients' : List (Option (Stored T U C))) → ((k : ℕ) → P (stored_at k clients) → P (stored_at k clients'))
        → AllOut P words clients → AllOut P words clients'
    unfolding AllOut
    out_each words clients clients' each all k out = each k (all k out)

    pub out_all : (words : List ℕ) (clients : List (Option (Stored T U C))) → ((k : ℕ) → IsOut words k → P (stored_at k clients))
        → AllOut P words clients
    unfolding AllOut
    out_all words clients all = all

    pub out_none : (words : List ℕ) (clients : List (Option (Stored T U C))) → ((k : ℕ) → IsOut words k → ⊥) → AllOut P words clients
    out_none words clients none = out_all words clients (λ k out. absurd (none k out))

    pub out_here : (words : List ℕ) (clients : List (Option (Stored T U C))) (k : ℕ) (x : Option (Stored T U C)) → slice_get clients k ≡ Some x
        → IsOut words k
        → AllOut P words clients → P x
    unfolding AllOut
    out_here words clients k x here out all = subst P (ap place_at here) (all k out)

    -- one client becomes another of which it is so, too
    pub out_set : (words : List ℕ) (clients : List (Option (Stored T U C))) (slot : ℕ) (x x' : Option (Stored T U C))
        → slice_get clients slot ≡ Some x → (P x → P x')
        → AllOut P words clients → AllOut P words (slice_set clients slot x')
    unfolding AllOut
    out_set words clients slot x x' here keeps all k out = grind (arith, slice_set, eqb-true, get_set_same, get_set_other, other_of)

    -- ---- a slot is taken out of the set

    pub out_taken : (words words' : List ℕ) (clients : List (Option (Stored T U C))) (slot : ℕ) (x : Option (Stored T U C)) (flag : Bool)
        → TakesOut slot flag words words'
        → slice_get clients slot ≡ Some x → (IsTrue flag → P x) → AllOut P words clients → AllOut P words' clients
    unfolding AllOut
    out_taken words words' clients slot x flag takes here is all k out = grind (arith)

  -- ---- what follows of each

  pub out_weaker : (P Q : Option (Stored T U C) → Type 0) (words : List ℕ) (clients : List (Option (Stored T U C)))
      → ((o : Option (Stored T U C)) → P o → Q o) → AllOut P words clients → AllOut Q words clients
  unfolding AllOut
  out_weaker P Q words clients weaker all k out = weaker (stored_at k clients) (all k out)

  -- ---- both sets

  pub stay_touched : (touched touched' : Touched) (clients : List (Option (Stored T U C))) → StayTouched touched touched' → AreTouched touched clients
      → AreTouched touched' clients
  unfolding AllOut
  stay_touched touched touched' clients stay are =
      record { sent = λ k out. are.sent k (stay.to_send k out); quiet = λ k out. are.quiet k (stay.to_note k out) }

  pub none_touched : (touched : Touched) → AreTouched {T = T} {U = U} {C = C} touched []
  unfolding AllOut
  none_touched touched = record { sent = λ k out. tt; quiet = λ k out. tt }

  pub all_touched : (touched : Touched) (clients : List (Option (Stored T U C))) → ((k : ℕ) → IsOut touched.to_send.words.items k → ⊥)
      → ((k : ℕ) → IsOut touched.to_note.words.items k → ⊥) → AreTouched touched clients
  all_touched touched clients send note =
      record { sent = out_all HasSent _ _ (λ k out. absurd (send k out)); quiet = out_all IsQuiet _ _ (λ k out. absurd (note k out)) }

  -- the client was looked up, and there may be none: a client that was touched may become any other
  pub looked_up : {X : Type 0} (o : Option X) (touched touched' : Touched) (clients : List (Option (Stored T U C))) (slot slot' : ℕ) → slot ≡ slot'
      → Adds slot touched.to_send.words.items touched'.to_send.words.items → Adds slot touched.to_note.words.items touched'.to_note.words.items
      → AreTouched touched clients
      → MatchOption o (AreTouched touched' clients) (λ _. (s : Stored T U C) → AreTouched touched' (slice_set clients slot' (Some s)))
  unfolding AllOut
  looked_up o touched touched' clients slot slot' same send note are = grind (arith, o, slice_set, get_set_other)

  pub put_touched : (touched touched' : Touched) (clients clients' : List (Option (Stored T U C))) (slot : ℕ) (s : Stored T U C)
      → Adds slot touched.to_send.words.items touched'.to_send.words.items → Adds slot touched.to_note.words.items touched'.to_note.words.items
      → IsPut clients slot s clients' → AreTouched touched clients → AreTouched touched' clients'
  unfolding AllOut
  put_touched touched touched' clients clients' slot s send note put are = grind (arith)
