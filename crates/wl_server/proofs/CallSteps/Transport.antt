-- A transport that the program changed.
use Rattle.std.proofs.Common.{◌≡◌, ◌∙◌, ◌+◌, ℕ, zero, suc, Bool, List, [], ◌∷◌, ◌++◌, Option, None, Some, option_map, is_some, refl, sym, ap, arith, false}
use mathlib.Core.Logic.{inl, inr}
use Rattle.std.specs.FinMap as finmap
use Rattle.std.specs.Prelude.{map, slice_set}
use Rattle.wl_link.specs.Link.{LinkState, with_transport}
use Rattle.wl_link.specs.Store.{held}
use Rattle.wl_server_model.specs.Backend.{BackendState, IsChange}
use Rattle.wl_server_client.specs.Deeds.{Deed, notes_in}
use Rattle.wl_server_client.specs.Globals.{global_of}
use Rattle.wl_server_client.specs.Ids.{ClientParts}
use Rattle.wl_server_client.specs.Lending.{over_transport}
use Rattle.wl_server.specs.Lending.{server_over, state_over}
use Rattle.wl_server_model.specs.Lookups.{and_then, id_if, id_if_stored, live_from, name_if}
use Rattle.wl_server_model.specs.Next.{NextClient}
use Rattle.wl_server_client.specs.Part.{Part, id_at, named, with_link}
use Rattle.wl_server_model.specs.PartStep.{Quietly, WithTransport, World}
use Rattle.wl_server_model.specs.Plain.Transport.{LeavesTransport}
use Rattle.wl_server_client.specs.Stored.{Stored}
use Rattle.wl_server_model.specs.Server.{client_at, seen, stored_at}
use Rattle.wl_server_model.proofs.Plain.Base.{IsOfOne, made_stay, none_and_some, of_one, one_value, stays}

module _ {T U C : Type 0} (t : T) where
  abbrev changed_to : Part T U C → Part T U C
  changed_to p = with_link p (with_transport p.link t)

  -- the ids of the live clients do not speak of transports
  live_over : (slot k : ℕ) (clients : List (Option (Stored T U C)))
      → live_from slot (slice_set clients k (option_map (λ c. over_transport c t) (stored_at k clients))) ≡ live_from slot clients
  live_over slot k [] = refl
  live_over slot zero (None ∷ clients) = refl
  live_over slot zero (Some c ∷ clients) = refl
  live_over slot (suc k) (c ∷ clients) = ap (λ (ids : List ClientParts). id_if_stored slot c ++ ids) (live_over (slot + 1) k clients)

  -- a slot that has a client keeps one, and one that is free stays so
  is_free : (slot k : ℕ) (clients : List (Option (Stored T U C)))
      → is_some (stored_at k (slice_set clients slot (option_map (λ c. over_transport c t) (stored_at slot clients)))) ≡ is_some (stored_at k clients)
  is_free slot k [] = refl
  is_free zero zero (None ∷ clients) = refl
  is_free zero zero (Some c ∷ clients) = refl
  is_free zero (suc k) (c ∷ clients) = refl
  is_free (suc slot) zero (c ∷ clients) = refl
  is_free (suc slot) (suc k) (c ∷ clients) = is_free slot k clients

  next_stays : (last slot : ℕ) (clients : List (Option (Stored T U C))) (told : Option ClientParts) → NextClient last clients told
      → NextClient last (slice_set clients slot (option_map (λ c. over_transport c t) (stored_at slot clients))) told
  next_stays last slot clients (Some id) (least, left, serial) =
      let free = is_free slot id.slot clients in
      (record { below = least.below; free = grind (arith, free, least.free); least = λ k under. is_free slot k clients ∙ least.least k under }, left, serial)
  next_stays last slot clients None (inl each) = inl (λ k under. is_free slot k clients ∙ each k under)
  next_stays last slot clients None (inr none) = inr none

-- what the change does to its client
abbrev Does : {T U C : Type 0} → T → ClientParts → Bool → List (Deed U) → Part T U C → Part T U C → Type 0
Does t id lacked did p q = Quietly lacked did (WithTransport (λ _ t'. t' ≡ t) p q)

module _ {T U G C : Type 0} (w : World T G C) (before : BackendState T U G C) (id : ClientParts) (t : T)
    (change : IsChange w before.server id t (server_over before.server id t)) where
  abbrev after : BackendState T U G C
  after = record { server = server_over before.server id t; refused = false }

  one : IsOfOne before after id (Does t id) (Unit {0})
  one = of_one change.step id (Does t) (Unit {0}) (λ other s s' lacked did h. h) refl refl refl

  -- what no transport changes is as before
  keeps_all : {A : Type 0} (f : Option (Part T U C) → A) → ((p : Part T U C) (link : LinkState T) → f (Some (with_link p link)) ≡ f (Some p))
      → (other : ClientParts)
      → f (seen other (server_over before.server id t)).part ≡ f (seen other before.server).part
  keeps_all f same other = stays one f other (λ about did p q there r. ap (λ (x : Part T U C). f (Some x)) r.2.2 ∙ same p _)

  changed_part : (p : Part T U C) → (seen id before.server).part ≡ Some p → (seen id (server_over before.server id t)).part ≡ Some (changed_to t p)
  changed_part p h1 = grind (arith, one, none_and_some, changed_to, one_value)

  pub leaves_transport : (s : Stored T U C) → Some s ≡ client_at id before.server.clients → LeavesTransport before id t (state_over before id t)
  leaves_transport s is =
      let there : (seen id before.server).part ≡ Some s.part = ap (option_map (λ (x : Stored T U C). x.part)) (sym is) in
      record {
        transport = ap (option_map (λ p. p.link.transport)) (changed_part s.part there);
        client = changed_part s.part there ∙ ap (option_map (changed_to t)) (sym there);
        clients = one.clients;
        objects = λ o. keeps_all (λ x. and_then x (λ p. named p.store o)) (λ p link. refl) o.client;
        notes = made_stay one (λ did p q r. ap notes_in r.1);
        globals = refl;
        lookups = record {
          client = λ o. keeps_all (option_map (λ p. o.client)) (λ p link. refl) o.client;
          client_data = λ other. keeps_all (option_map (λ p. p.client_data)) (λ p link. refl) other;
          for_number = λ other i n. keeps_all (λ x. and_then x (λ p. and_then (held p.store n) (id_if other i n))) (λ p link. refl) other;
          clients = live_over t 0 id.slot before.server.clients;
          next = λ told. next_stays t before.server.last_client id.slot before.server.clients told;
          objects = λ other. keeps_all (option_map (λ p. map (λ e. id_at other e.0 e.1) (finmap.entries p.store.objects))) (λ p link. refl) other;
          name = λ views g other.
              keeps_all (λ x. and_then x (λ p. and_then (global_of before.server.offer.globals g) (name_if views other p.client_data g.name)))
              (λ p link. refl) other;
        };
        memory = refl;
      }
