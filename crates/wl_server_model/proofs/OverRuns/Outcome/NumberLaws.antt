-- That the numbers which are given out have one outcome: those of globals and of clients.
use Rattle.std.proofs.Common.{◌≡◌, ◌≢◌, ℕ, Option, is_some, Result, Err, true≢false, arith}
use Rattle.std.specs.Prelude.{List}
use Rattle.std.proofs.lemmas.Bool.{cases_order}
use Rattle.wl_server_client.specs.declared.error.InsertClientError.{InsertClientError}
use Rattle.wl_server_client.specs.declared.error.InsertClientError.TheVariants as insert
use Rattle.wl_server_client.specs.Ids.{ClientParts, GlobalParts}
use Rattle.wl_server_model.specs.Next.{NextClient, NextClientIsGiven}
use Rattle.wl_server_client.specs.Stored.{Stored}
use Rattle.wl_server_model.specs.Server.{stored_at}
use Rattle.wl_server_model.specs.Steps.{InsertsNext}
use Rattle.wl_server_model.proofs.CallSteps.Slots.{same_parts}

-- ---- globals

pub global_is : (a b : GlobalParts) → a.name ≡ b.name → a.serial ≡ b.serial → a ≡ b
global_is a b names serials = grind (arith)

-- ---- clients

module _ {T U C : Type 0} (last : ℕ) (clients : List (Option (Stored T U C))) where
  -- the answer to the insertion of a client
  pub inserts_next_one : (a b : Result ClientParts InsertClientError) → a ≢ Err insert.OutOfMemory → b ≢ Err insert.OutOfMemory
      → InsertsNext last clients a → InsertsNext last clients b → a ≡ b
  inserts_next_one a b h1 h2 h3 h4 = grind (arith, same_parts, cases_order, true≢false, is_some, stored_at)

  -- the id that was told is the one that is given
  pub client_is_as_told : (told : Option ClientParts) → NextClient last clients told → NextClientIsGiven last clients told
  client_is_as_told told h1 = grind (arith, same_parts, cases_order, true≢false, is_some, stored_at)
