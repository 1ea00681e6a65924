-- What is so of a client before a call and after it, said of what is held of its id.
use Rattle.std.proofs.Common.{arith, ◌≡◌, List, Option, Some}
use Rattle.std.specs.Option.{option_map}
use Rattle.std.specs.Prelude.{slice_set}
use Rattle.std.proofs.lemmas.Option.{same_Some}
use Rattle.wl_server_client.specs.Ids.{ClientParts}
use Rattle.wl_server_client.specs.Inside.Client.{Does}
use Rattle.wl_server_client.specs.Part.{Part}
use Rattle.wl_server_client.specs.Stored.{Stored}
use Rattle.wl_server_model.specs.Server.{client_at}
use Rattle.wl_sets.proofs.Lists.{get_set_same}

module _ {T U C : Type 0} where
  -- what is so of the client before the call and after it is so of what is held of its id
  pub at_slot : (Q : Part T U C → Part T U C → Type 0) (clients : List (Option (Stored T U C))) (target read : ClientParts) (c c' : Stored T U C)
      (R : Part T U C → List _ → Part T U C → Type 0) → read ≡ target → Some c ≡ client_at read clients
      → Does c R c' → Q c.part c'.part → (p q : Part T U C) → option_map (λ s. s.part) (client_at target clients) ≡ Some p
      → option_map (λ s. s.part) (client_at target (slice_set clients read.slot (Some c'))) ≡ Some q → Q p q
  at_slot Q clients target read c c' R same is does holds p q before after = grind (arith, get_set_same, same_Some)
