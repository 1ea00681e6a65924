-- The words that a search reads, told of the store.
use Rattle.std.proofs.Common.{ℕ, ◌+◌, ◌-◌, List, Option, is_some, refl, sym, ap, subst, ◌∙◌, arith}
use Rattle.wl_link.specs.declared.object.Object.{Object}
use Rattle.wl_link.specs.Store.{client_range, server_range}
use Rattle.wl_sets.specs.FreeTree.{IsHeight}
use Rattle.wl_link.specs.ObjectMap.{WordsRead}
use Rattle.wl_link.specs.Inside.PlaceList.{store_of, Within, WordsReadIn}
use Rattle.wl_link.proofs.Keeping.{held_client, held_server}

module _ {D : Type 0} (c s : List (Option (Object D))) (w : Within c s) where
  pub words_client : (read : ℕ) → WordsReadIn c read → WordsRead client_range (store_of c s) read
  words_client read r =
      let fits = w.clients_fit in
      record {
        none = λ e. r.none (omega arith);
        full = λ l f. r.full (omega arith) (λ i h. ap is_some (sym (held_client c s w (1 + i) i refl (omega arith))) ∙ f (1 + i) (omega arith) (omega arith));
        some = λ n l h none. subst (λ (m : ℕ). IsHeight m read) (omega arith) (r.some (n - 1) (omega arith) (sym (held_client c s w n (n - 1) (omega arith) (omega arith)) ∙ none));
      }

  pub words_server : (read : ℕ) → WordsReadIn s read → WordsRead server_range (store_of c s) read
  words_server read r =
      let fits = w.servers_fit in
      record {
        none = λ e. r.none (omega arith);
        full = λ l f. r.full (omega arith) (λ i h. ap is_some (sym (held_server c s w (4278190080 + i) i refl)) ∙ f (4278190080 + i) (omega arith) (omega arith));
        some = λ n l h none. subst (λ (m : ℕ). IsHeight m read) (omega arith) (r.some (n - 4278190080) (omega arith) (sym (held_server c s w n (n - 4278190080) (omega arith)) ∙ none));
      }
