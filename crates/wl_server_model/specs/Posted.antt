-- What the post of an error does to the link of its client, said of a server.
use Rattle.std.specs.Prelude.{◌≡◌, ℕ, List, Some, Result}
use Rattle.wl_wire.specs.declared.error.IoFault.{IoFault}
use Rattle.wl_link.specs.Exchange.{Queue}
use Rattle.wl_server_model.specs.Backend.{BackendState}
use Rattle.wl_server_client.specs.Ids.{IdParts}
use Rattle.wl_server_model.specs.Lookups.{client_of}
use Rattle.wl_server_client.specs.Part.{Part}
use Rattle.wl_server_client.specs.Posted.{PostsOn}

module _ {T : Type 0} (sends : T → Queue → Result ℕ IoFault → T → Type 0) where
  -- one write and one flush, or nothing, if the client is live and the object is kept
  abbrev pub PostsExactly : {U G C : Type 0} → BackendState T U G C → IdParts → ℕ → List ℕ → BackendState T U G C → Type 0
  PostsExactly {U = U} {C = C} before id code text after =
      (p q : Part T U C) → client_of before.server id.client ≡ Some p → client_of after.server id.client ≡ Some q → PostsOn sends p id code text after.refused q
