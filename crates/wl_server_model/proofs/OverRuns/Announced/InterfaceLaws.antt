-- The table has the interface of each global, so each global keeps its interface's name as the table grows.
use Rattle.std.proofs.Common.{◌≡◌, ◌<◌, ◌+◌, ◌∙◌, ℕ, List, [], ◌∷◌, length, length-append, Some, sym, subst, arith, eqb}
use Rattle.std.specs.Prelude.{slice_get}
use Rattle.std.proofs.lemmas.Bool.{cases_eq}
use Rattle.std.proofs.lemmas.Option.{same_Some, slice_get_within, none-some}
use Rattle.wl_wire.specs.Table.{InterfaceRow}
use Rattle.wl_wire.proofs.Extension.{extended_length}
use Rattle.wl_link.specs.declared.object.Object.{Object}
use Rattle.wl_link.specs.Store.{held}
use Rattle.wl_link.proofs.Ids.StoreLaws.{held_empty, removed_here, removed_other, rewritten_here, rewritten_other, stored_here, stored_other}
use Rattle.wl_server_client.specs.declared.globals.KeptGlobal.{KeptGlobal}
use Rattle.wl_server_client.specs.Globals.{Offer, as_disabled, disabled, freed, global_of, new_global, new_offer, with_globals, global_serial}
use Rattle.wl_server_client.specs.Ids.{GlobalParts}
use Rattle.wl_server_model.specs.PartStep.{Call}
use Rattle.wl_server_model.specs.Runs.{SharedAlone}
use Rattle.wl_server_model.specs.Steps.{Entry, AnswersShared, inserted_by, offer_after}

-- a row is there for the interface of each global that is kept
pub record HasInterfaces {G : Type 0} (offer : Offer G) : Type 0 where
  pub row : (name : ℕ) (x : Object (KeptGlobal G)) → held offer.globals.store name ≡ Some x → x.interface.0 < length offer.table

module _ {G : Type 0} where
  pub at_first : (table : List InterfaceRow) → HasInterfaces {G = G} (new_offer table)
  at_first table = record { row = λ name x there. absurd (none-some _ (sym (held_empty name) ∙ there)) }

  module _ (offer : Offer G) (known : HasInterfaces offer) where
    -- ---- what a call leaves

    after_disabled : (g : GlobalParts) → HasInterfaces (with_globals offer (disabled offer.globals g))
    after_disabled g = grind (arith, global_of, cases_eq, same_Some, as_disabled, rewritten_here, held, eqb, global_serial, rewritten_other)

    after_freed : (g : GlobalParts) → HasInterfaces (with_globals offer (freed offer.globals g))
    after_freed g = grind (arith, global_of, removed_here, removed_other)

module _ {T U G C : Type 0} where
  pub after_call : (offer : Offer G) (call : Call T U G C) → HasInterfaces offer → AnswersShared offer call → HasInterfaces (offer_after offer call)
  after_call offer h2 known n = grind (arith, cases_eq, same_Some, stored_here, length, slice_get, stored_other, new_global, slice_get_within, after_disabled, after_freed, length-append, extended_length)

  pub after_run : (offer : Offer G) (last : ℕ) (run : List (Entry T U G C)) (offer' : Offer G) (last' : ℕ) → HasInterfaces offer
      → SharedAlone offer last run offer' last' → HasInterfaces offer'
  after_run offer last [] offer' last' known (same, none) = subst (λ (o : Offer G). HasInterfaces o) (sym same) known
  after_run offer last (e ∷ run) offer' last' known
      (numbered, next, rest) = grind (arith, offer_after, inserted_by, after_call, after_run (offer_after offer e.call) (last + inserted_by e.call) run offer' last' (after_call offer e.call known numbered) rest)
