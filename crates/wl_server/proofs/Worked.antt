-- Worked values of what a program may choose, computed from the definitions: they say what was meant.
use Rattle.std.proofs.Common.{◌≡◌, ℕ, Bool, List, [], ◌∷◌, Err, Ok, None, Some, true, false, refl}
use Rattle.wl_wire.specs.declared.error.IoFault.TheVariants as fault
use Rattle.wl_server.specs.declared.client.flush_client.Flushed.TheVariants.{All, More}
use Rattle.wl_server_client.specs.declared.error.CreateAtError.TheVariants as create
use Rattle.wl_server_client.specs.declared.error.VersionError.TheVariants as version
use Rattle.wl_server_client.specs.declared.notes.Happening.{Happening}
use Rattle.wl_server_model.specs.declared.step.Reply.{Reply}
use Rattle.wl_server_model.specs.declared.step.Reply.TheVariants as reply
use Rattle.wl_server_model.specs.declared.step.Step.{Step}
use Rattle.wl_server_model.specs.declared.step.Step.TheVariants as step
use Rattle.wl_server_client.specs.Chosen.{has_version, with_version}
use Rattle.wl_server.specs.FlushedClient.{TellsLeft, left_by}
use Rattle.wl_server_client.specs.Globals.{keeping, new_offer}
use Rattle.wl_server_client.specs.Part.{fresh_object}
use Rattle.wl_server_model.specs.PartStep.{Asked, PartStep, World}
use Rattle.wl_server_model.specs.Server.{Seen}
use Rattle.wl_server_model.specs.Steps.{offer_after}
use Rattle.wl_server_model.proofs.Worked.Messages.{client, id_in, quad_id, table}

-- ---- names

-- the setting changes nothing else of what is offered
setting : offer_after {T = ℕ} {U = ℕ} {G = ℕ} {C = Bool} (new_offer table) (Asked (step.KeepGlobalNames true) reply.KeepGlobalNames) ≡ keeping (new_offer table) true
setting = refl

-- ---- versions

-- `quad` has the version 3, and the table has no interface 9
versions : (has_version table quad_id 1 ≡ true) × (has_version table quad_id 3 ≡ true) × (has_version table quad_id 0 ≡ false)
    × (has_version table quad_id 4 ≡ false) × (has_version table (record { 0 = 9 }) 1 ≡ false)
versions = (refl, refl, refl, refl, refl)

-- all else of the object stays
other_version : with_version {U = ℕ} 2 (fresh_object quad_id 3 5 (Some 9)) ≡ fresh_object quad_id 2 5 (Some 9)
other_version = refl

-- ---- a client that is not stored

module _ (w : World ℕ ℕ Bool) (made : List (Happening ℕ)) where
  abbrev out : Seen ℕ ℕ Bool
  out = record { part = None; made = made }

  abbrev Answers : Step ℕ ℕ ℕ Bool → Reply ℕ ℕ → Type 0
  Answers call answer = PartStep w client (new_offer table) call answer out false [] out

  calls_of_none : Answers (step.SetObjectVersion (id_in client 3 2 quad_id) 3) (reply.SetObjectVersion (Err version.InvalidId))
      × Answers (step.CreateObjectAt client quad_id 3 2 9) (reply.CreateObjectAt (Err create.InvalidId))
      × Answers (step.KeepGlobalNames true) reply.KeepGlobalNames
  calls_of_none = ((_, refl, (refl, (refl, refl, refl))), (_, refl, (refl, (refl, refl, refl))), (refl, (refl, refl, refl)))

-- ---- a flush

-- a transport that takes no more is no error, and bytes wait then
flushes : (left_by [] ≡ All) × (left_by (7 ∷ []) ≡ More) × TellsLeft (Ok tt) All (Ok All) × TellsLeft (Err fault.WouldBlock) More (Ok More)
    × TellsLeft (Err fault.Pipe) More (Err fault.Pipe)
flushes = (refl, refl, refl, refl, refl)
