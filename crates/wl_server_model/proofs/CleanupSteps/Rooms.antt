-- The room that a cleanup made is enough, also once the killed clients were flushed and all notes gathered.
use Rattle.std.proofs.Common.{◌≡◌, ℕ, suc, ◌+◌, Bool, true, List, [], ◌∷◌, length, Option, Some, is_some, Result, refl, sym, subst, arith, append-nil}
use Rattle.std.specs.Option.{option_map, option_map_or}
use Rattle.std.specs.Prelude.{map, slice_get}
use Rattle.std.proofs.lemmas.List.{length-append}
use Rattle.std.proofs.lemmas.Option.{slice_get_within}
use Rattle.wl_wire.specs.declared.error.IoFault.{IoFault}
use Rattle.wl_link.specs.Exchange.{Queue}
use Rattle.wl_server_client.specs.declared.notes.Note.{Note}
use Rattle.wl_server_client.specs.Deeds.{notes_in}
use Rattle.wl_server_model.specs.Inside.Gathering.{Gathers, all_emptied, count_leaving}
use Rattle.wl_server_client.specs.Inside.Gathering.{emptied}
use Rattle.wl_server_model.specs.NoteOrder.{IsOrderOf}
use Rattle.wl_server_client.specs.NoteTimes.{times_of, to_gather}
use Rattle.wl_server_model.specs.Inside.Leaving.{FlushesKilled, collected, ends_at, given_at}
use Rattle.wl_server_client.specs.Part.{with_link}
use Rattle.wl_server_model.specs.Inside.Places.{AllFeel, PlaceFeels}
use Rattle.wl_server_client.specs.Stored.{Stored, no_times}
use Rattle.wl_server_model.specs.Server.{stored_at}
use Rattle.wl_server_client.specs.declared.notes.queues.NotePlace.{NotePlace}
use Rattle.wl_server_client.proofs.Readings.Notes.{notes_of_sends}

module _ {T U C : Type 0} where
  -- two places at which a cleanup finds as much
  abbrev pub SamePlace : ℕ → Option (Stored T U C) → Option (Stored T U C) → Type 0
  SamePlace slot x y =
      (length (to_gather true y) ≡ length (to_gather true x)) × (length (ends_at slot y) ≡ length (ends_at slot x))
      × (length (given_at slot y) ≡ length (given_at slot x))

  abbrev pub SameCounts : ℕ → List (Option (Stored T U C)) → List (Option (Stored T U C)) → Type 0
  SameCounts n xs ys =
      (count_leaving true ys ≡ count_leaving true xs) × (length (collected ends_at n ys) ≡ length (collected ends_at n xs))
      × (length (collected given_at n ys) ≡ length (collected given_at n xs))

  same_counts : (n : ℕ) (xs ys : List (Option (Stored T U C))) → length ys ≡ length xs
      → ((slot k : ℕ) (x y : Option (Stored T U C)) → slot ≡ n + k → slice_get xs k ≡ Some x → slice_get ys k ≡ Some y → SamePlace slot x y)
      → SameCounts n xs ys
  same_counts n [] [] len all = (refl, refl, refl)
  same_counts n (x ∷ xs) (y ∷ ys) len all =
      let here = all n 0 x y (omega arith) refl refl in
      let more = same_counts (n + 1) xs ys (omega (arith, len))
      (λ slot k a b at is is'. all slot (suc k) a b (omega (arith, at)) is is') in grind (arith, length-append, ends_at, collected, given_at)
  same_counts n _ _ len all = absurd (omega (arith, len))

  -- ---- a flush

  same_place : (sends : T → Queue → Result ℕ IoFault → T → Type 0) (slot : ℕ) (x y : Option (Stored T U C)) (lacked : Bool)
      → PlaceFeels (λ id p lacked did q. FlushesKilled sends p lacked did q) slot x lacked y → SamePlace slot x y
  same_place sends slot x y lacked h = grind (arith, no_times, append-nil, notes_in, notes_of_sends, with_link, x)

  pub flushed_counts : (sends : T → Queue → Result ℕ IoFault → T → Type 0) (refused : Bool) (start now : List (Option (Stored T U C)))
      → AllFeel (λ id p lacked did q. FlushesKilled sends p lacked did q) refused (length start) start now → SameCounts 0 start now
  flushed_counts sends refused start now all = same_counts 0 start now all.len (λ slot k x y at is is'. (let same : slot ≡ k = omega (arith, at) in
      subst (λ (n : ℕ). SamePlace n x y) (sym same) (grind (arith, is_some, same_place, slice_get start k, slice_get now k, all.felt k (slice_get_within start k x is)))))

  -- ---- the places of notes

  -- the places that were taken down before the flush are still those of the notes
  pub flushed_order : (sends : T → Queue → Result ℕ IoFault → T → Type 0) (refused : Bool) (start now : List (Option (Stored T U C)))
      (order : List NotePlace)
      → AllFeel (λ id p lacked did q. FlushesKilled sends p lacked did q) refused (length start) start now → map times_of now ≡ map times_of start
      → IsOrderOf true start order → IsOrderOf true now order
  flushed_order sends refused start now order all times is = grind (arith, stored_at, same_place, slice_get, option_map_or)

  -- ---- gathered notes

  collected_emptied : {A : Type 0} (give : ℕ → Option (Stored T U C) → List A)
      → ((slot : ℕ) (x : Option (Stored T U C)) → give slot (option_map (emptied true) x) ≡ give slot x)
      → (n : ℕ) (clients : List (Option (Stored T U C))) → collected give n (all_emptied true clients) ≡ collected give n clients
  collected_emptied give same n [] = refl
  collected_emptied give same n (x ∷ clients) = grind (arith, collected, all_emptied, collected_emptied give same (n + 1) clients)

  pub gathered_ends : (clients : List (Option (Stored T U C))) (notes : List (Note U)) (clients' : List (Option (Stored T U C)))
      (notes' : List (Note U))
      → Gathers true clients notes clients' notes' → collected ends_at 0 clients' ≡ collected ends_at 0 clients
  gathered_ends clients notes clients' notes' by = grind (arith, collected_emptied, ends_at, collected)

  pub gathered_given : (clients : List (Option (Stored T U C))) (notes : List (Note U)) (clients' : List (Option (Stored T U C)))
      (notes' : List (Note U))
      → Gathers true clients notes clients' notes' → collected given_at 0 clients' ≡ collected given_at 0 clients
  gathered_given clients notes clients' notes' by = grind (arith, collected_emptied, given_at, collected)
