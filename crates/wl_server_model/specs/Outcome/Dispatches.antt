-- That a dispatch has one outcome, if its handler is deterministic.
--
-- A handler is deterministic if what it answers, what becomes of it, and how the server looks afterwards follow from what it is
-- given, from its own value and from how the server looked. What follows may be left open where memory was refused to a call
-- of the handler, if it says so in its own value. Servers that look the same have their notes in one order, or in any, if the
-- order does not count (`ordered`).
use Rattle.std.specs.Prelude.{◌≡◌, ℕ, Bool, true, false, List, Option, Result}
use Rattle.wl_wire.specs.declared.argument.Argument.{Argument}
use Rattle.wl_wire.specs.declared.argument.Token.{Token}
use Rattle.wl_wire.specs.declared.error.IoFault.{IoFault}
use Rattle.wl_server_model.specs.Backend.{BackendState}
use Rattle.wl_server_model.specs.Dispatch.{Answering, DispatchesAll, DispatchesClient}
use Rattle.wl_server_client.specs.Ids.{ClientParts, GlobalParts, IdParts}
use Rattle.wl_server_model.specs.PartStep.{World}
use Rattle.wl_server_model.specs.Server.{ServerState}
use Rattle.wl_server_model.specs.Outcome.Whole.{SameServer}

-- two backends look the same: so do their servers, and both tell the same of whether memory was refused
pub record SameBackend {T U G C : Type 0} (ordered : Bool) (a b : BackendState T U G C) : Type 0 where
  pub server : SameServer ordered a.server b.server
  pub refused : a.refused ≡ b.refused

-- a handler was called twice: it answered the same, became the same, and left servers that look the same
abbrev pub HandledSame : {H A T U G C : Type 0} → Bool → A → A → H → H → BackendState T U G C → BackendState T U G C → Type 0
HandledSame ordered u u' h h' after after' = (u ≡ u') × (h ≡ h') × SameServer ordered after.server after'.server

module _ {H T U G C : Type 0} (ordered : Bool) where
  -- called twice with the same, over backends that look the same, the handler does the same
  pub record IsDeterministic (answers : Answering H T U G C) : Type 0 where
    pub requests : (h h1 h2 : H) (a b x y : BackendState T U G C) (client : ClientParts) (sender : IdParts) (opcode : ℕ) (args : List (Argument IdParts Token))
        (created : Option IdParts) (u v : Option U) → SameBackend ordered a b → answers.requests h a client sender opcode args created u h1 x
        → answers.requests h b client sender opcode args created v h2 y → HandledSame ordered u v h1 h2 x y
    pub binds : (h h1 h2 : H) (a b x y : BackendState T U G C) (client : ClientParts) (global : GlobalParts) (object : IdParts) (u v : U)
        → SameBackend ordered a b → answers.binds h a client global object u h1 x → answers.binds h b client global object v h2 y → HandledSame ordered u v h1 h2 x y

  -- `spared` tells by the value of a handler that none of its calls lacked memory so far. If that holds after a call of the
  -- handler, it held before. And if it holds after both of two calls with the same, over backends that look the same, the handler
  -- does the same in both.
  pub record IsDeterministicIfSpared (answers : Answering H T U G C) (spared : H → Bool) : Type 0 where
    pub requests : (h h1 h2 : H) (a b x y : BackendState T U G C) (client : ClientParts) (sender : IdParts) (opcode : ℕ)
        (args : List (Argument IdParts Token)) (created : Option IdParts) (u v : Option U) → SameBackend ordered a b
        → answers.requests h a client sender opcode args created u h1 x → answers.requests h b client sender opcode args created v h2 y
        → spared h1 ≡ true → spared h2 ≡ true → HandledSame ordered u v h1 h2 x y
    pub binds : (h h1 h2 : H) (a b x y : BackendState T U G C) (client : ClientParts) (global : GlobalParts) (object : IdParts) (u v : U)
        → SameBackend ordered a b → answers.binds h a client global object u h1 x → answers.binds h b client global object v h2 y
        → spared h1 ≡ true → spared h2 ≡ true → HandledSame ordered u v h1 h2 x y
    pub after_requests : (h h1 : H) (a x : BackendState T U G C) (client : ClientParts) (sender : IdParts) (opcode : ℕ)
        (args : List (Argument IdParts Token)) (created : Option IdParts) (u : Option U)
        → answers.requests h a client sender opcode args created u h1 x → spared h1 ≡ true → spared h ≡ true
    pub after_binds : (h h1 : H) (a x : BackendState T U G C) (client : ClientParts) (global : GlobalParts) (object : IdParts) (u : U)
        → answers.binds h a client global object u h1 x → spared h1 ≡ true → spared h ≡ true

  -- Two dispatches of one client, over servers that look the same, with the same handler, and in which memory is not refused,
  -- answer the same and leave servers that look the same.
  abbrev pub DispatchesHaveOneOutcome : World T G C → Answering H T U G C → Type 0
  DispatchesHaveOneOutcome w answers =
      (id : ClientParts) (h h1 h2 : H) (s t : ServerState T U G C) (x y : BackendState T U G C) (result result' : Result ℕ IoFault) → SameServer ordered s t →
      DispatchesClient w answers id h s result h1 x → DispatchesClient w answers id h t result' h2 y → x.refused ≡ false → y.refused ≡ false →
      HandledSame ordered result result' h1 h2 x y

  -- The same for dispatches of several clients.
  abbrev pub ManyDispatchesHaveOneOutcome : World T G C → Answering H T U G C → Type 0
  ManyDispatchesHaveOneOutcome w answers =
      (ids : List ClientParts) (h h1 h2 : H) (s t : ServerState T U G C) (x y : BackendState T U G C) (result result' : Result ℕ IoFault) → SameServer ordered s t →
      DispatchesAll w answers ids h s result h1 x → DispatchesAll w answers ids h t result' h2 y → x.refused ≡ false → y.refused ≡ false →
      HandledSame ordered result result' h1 h2 x y

  -- The same where memory may be refused to a call of the handler, but was not.
  abbrev pub SparedDispatchesHaveOneOutcome : World T G C → Answering H T U G C → (H → Bool) → Type 0
  SparedDispatchesHaveOneOutcome w answers spared =
      (id : ClientParts) (h h1 h2 : H) (s t : ServerState T U G C) (x y : BackendState T U G C) (result result' : Result ℕ IoFault) → SameServer ordered s t →
      DispatchesClient w answers id h s result h1 x → DispatchesClient w answers id h t result' h2 y → x.refused ≡ false → y.refused ≡ false →
      spared h1 ≡ true → spared h2 ≡ true → HandledSame ordered result result' h1 h2 x y

  abbrev pub ManySparedDispatchesHaveOneOutcome : World T G C → Answering H T U G C → (H → Bool) → Type 0
  ManySparedDispatchesHaveOneOutcome w answers spared =
      (ids : List ClientParts) (h h1 h2 : H) (s t : ServerState T U G C) (x y : BackendState T U G C) (result result' : Result ℕ IoFault) →
      SameServer ordered s t → DispatchesAll w answers ids h s result h1 x → DispatchesAll w answers ids h t result' h2 y → x.refused ≡ false → y.refused ≡ false →
      spared h1 ≡ true → spared h2 ≡ true → HandledSame ordered result result' h1 h2 x y
