-- What a program finds after a dispatch, in the words of the look-ups.
--
-- A contract that cites one of these has another clause beside it, `call`, from which it follows.
use Rattle.std.specs.Prelude.{◌≡◌, ◌≢◌, ◌⊎◌, ◌<◌, true, false, ℕ, List, [], Option, None, Some, IsSome, Result, Ok, Err, MatchResult}
use Rattle.wl_wire.specs.declared.argument.Argument.{Argument}
use Rattle.wl_wire.specs.declared.argument.Token.{Token}
use Rattle.wl_wire.specs.declared.error.IoFault.{IoFault}
use Rattle.wl_wire.specs.declared.error.IoFault.TheVariants as fault
use Rattle.wl_server_model.specs.Backend.{BackendState}
use Rattle.wl_server_model.specs.Dispatch.{Answering}
use Rattle.wl_server_client.specs.Ids.{ClientParts, GlobalParts, IdParts}
use Rattle.wl_server_client.specs.Part.{Part}
use Rattle.wl_server_model.specs.Plain.{GlobalsStay, client_in}
use Rattle.wl_server_model.specs.Server.{ServerState}

module _ {T U C : Type 0} where
  -- the client is stored and live, and no action of it is open
  abbrev pub IsIdle : Option (Part T U C) → Type 0
  IsIdle found = (p : Part T U C) × (found ≡ Some p) × (p.is_killed ≡ false) × (p.action ≡ None)

  -- the client is stored and live, and an action of it is open
  abbrev pub IsBusy : Option (Part T U C) → Type 0
  IsBusy found = (p : Part T U C) × (found ≡ Some p) × (p.is_killed ≡ false) × IsSome p.action

module _ {T U G C : Type 0} (before : ServerState T U G C) (id : ClientParts) where
  -- After a count, which is not 0, or `WouldBlock`, more may be read of the client later. After `InvalidInput` it is not stored, or
  -- an action of it is open, or its serial was given to no client before the dispatch. After `OutOfMemory` nothing is said of it.
  -- After any other fault it is no longer stored.
  abbrev pub LeftBy : Option (Part T U C) → Result ℕ IoFault → Type 0
  LeftBy found (Ok count) = (count ≢ 0) × IsIdle found
  LeftBy found (Err fault.WouldBlock) = IsIdle found
  LeftBy found (Err fault.InvalidInput) = (found ≡ None) ⊎ (IsBusy found ⊎ (before.last_client < id.serial))
  LeftBy found (Err fault.OutOfMemory) = Unit {0}
  LeftBy found (Err _) = found ≡ None

-- no call of the handler changes a global, the table of interfaces or the limit of new clients
pub record KeepsGlobals {H T U G C : Type 0} (answers : Answering H T U G C) : Type 0 where
  pub requests : (h h' : H) (before after : BackendState T U G C) (client : ClientParts) (sender : IdParts) (opcode : ℕ)
      (args : List (Argument IdParts Token)) (created : Option IdParts) (u : Option U)
      → answers.requests h before client sender opcode args created u h' after → GlobalsStay before after
  pub binds : (h h' : H) (before after : BackendState T U G C) (client : ClientParts) (global : GlobalParts) (object : IdParts) (u : U)
      → answers.binds h before client global object u h' after → GlobalsStay before after

module _ {T U G C : Type 0} where
  -- each client that is stored is live, and no note of it waits for a cleanup
  abbrev pub AllLive : BackendState T U G C → Type 0
  AllLive after = (id : ClientParts) (p : Part T U C) → client_in after id ≡ Some p → (p.is_killed ≡ false) × (p.waiting ≡ [])

  -- A dispatch of one client. After each answer but `OutOfMemory` the killed clients are taken out. After `OutOfMemory`
  -- `memory_refused` is true. The globals, the table and the limit of new clients are
  -- as before, if no call of the handler changes them.
  pub record DispatchOfOneLeaves {H : Type 0} (answers : Answering H T U G C) (before : ServerState T U G C) (id : ClientParts) (answer : Result ℕ IoFault)
      (after : BackendState T U G C) : Type 0 where
    pub client : LeftBy before id (client_in after id) answer
    pub all : ¬ (answer ≡ Err fault.OutOfMemory) → AllLive after
    pub memory : answer ≡ Err fault.OutOfMemory → after.refused ≡ true
    pub globals : KeepsGlobals answers → after.server.offer ≡ before.offer

  -- A dispatch of several clients. After a count every stored client is live, and no note waits for a cleanup. The one fault is
  -- `OutOfMemory`, and then `memory_refused` is true. The globals, the table and the limit of new clients are
  -- as before, if no call of the handler changes them.
  pub record DispatchOfSeveralLeaves {H : Type 0} (answers : Answering H T U G C) (before : ServerState T U G C) (answer : Result ℕ IoFault)
      (after : BackendState T U G C) : Type 0 where
    pub all : MatchResult answer (λ count. AllLive after) (λ f. (f ≡ fault.OutOfMemory) × (after.refused ≡ true))
    pub globals : KeepsGlobals answers → after.server.offer ≡ before.offer
