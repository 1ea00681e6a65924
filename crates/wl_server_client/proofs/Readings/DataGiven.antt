-- What becomes of the data that an action is ended with.
use Rattle.std.proofs.Common.{◌≡◌, Bool, None, Some, Result, arith, Option}
use Rattle.std.specs.Prelude.{option_map, IfOk, MatchOption}
use Rattle.wl_server_client.specs.declared.error.FinishRefused.{FinishRefused}
use Rattle.wl_server_client.specs.Finish.{data_given, HoldsData}
use Rattle.wl_server_client.specs.Ids.{IdParts}
use Rattle.wl_server_client.specs.Part.{Part, named, with_user_data}
use Rattle.wl_server_client.proofs.ObjectCalls.Naming.{names_so, rewritten_named}
use Rattle.wl_link.specs.Store.{Store}
use Rattle.wl_server_client.specs.declared.objects.Kept.{Kept}
use Rattle.wl_server_client.specs.Inside.Finishing.{DataHeld, RequestLeaves}
use Rattle.wl_server_client.specs.declared.reading.action.OpenAction.TheVariants as opened

module _ {U : Type 0} where
  -- the object that is kept has them, or they come back
  pub given_held : (store after : Store (Kept U)) (id : IdParts) (u : U) (back : Option U)
      → MatchOption (named store id) (back ≡ Some u) (λ _. back ≡ None)
      → after ≡ data_given store id.number (named store id) u → HoldsData (named after id) u back
  given_held store after id u back returned given = grind (arith, named, option_map, with_user_data, rewritten_named, names_so)

module _ {T U C : Type 0} (p q : Part T U C) where
  pub request_leaves : (u : Option U) (sender : IdParts) (is_destructor : Bool) (created : Option IdParts)
      (answer : Result (Option U) (FinishRefused (Option U)))
      → p.action ≡ Some (opened.Request sender is_destructor created) → IfOk answer (λ back. DataHeld q.store created u back)
      → RequestLeaves p u answer q
  request_leaves u sender is_destructor created h5 is held = grind (arith)
