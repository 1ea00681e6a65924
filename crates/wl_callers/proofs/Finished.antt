-- Why the sender of a destructor request is found no more once the request has ended.
use Rattle.std.proofs.Common.{◌≡◌, Bool, true, Option, None, Some, Result, Ok, Err, sym, subst, ◌∙◌}
use Rattle.std.specs.Prelude.{OnOk}
use Rattle.wl_server_client.specs.declared.error.FinishRefused.{FinishRefused}
use Rattle.wl_server_client.specs.declared.reading.action.OpenAction.{OpenAction}
use Rattle.wl_server_client.specs.declared.reading.action.OpenAction.TheVariants as opened
use Rattle.wl_server_model.specs.Backend.{BackendState}
use Rattle.wl_server_client.specs.Ids.{ClientParts, IdParts}
use Rattle.wl_server_model.specs.Lookups.{object_of}
use Rattle.wl_server_model.specs.Plain.{EndsOpenRequest, action_in, object_of_client}

module _ {T U G C : Type 0} (before after : BackendState T U G C) (sender : IdParts) (u : Option U) where
  same_request : (s : IdParts) (d : Bool) (c created : Option IdParts)
      → ◌≡◌ {A = Option OpenAction} (Some (opened.Request s d c)) (Some (opened.Request sender true created)) → (s ≡ sender) × (d ≡ true)
  same_request s d c created is = (cc, cc)

  pub sender_gone : (client : ClientParts) → client ≡ sender.client → (answer : Result (Unit {0}) (FinishRefused (Option U))) → EndsOpenRequest before client u answer after
      → OnOk answer ((created : Option IdParts) → action_in before sender.client ≡ Some (opened.Request sender true created) → object_of after.server sender ≡ None)
  sender_gone client own (Err refused) ends = tt
  sender_gone client own (Ok ok) ends = λ created is_open.
      let (s, d, c, ended, memory) = (subst (λ (i : ClientParts). EndsOpenRequest before i u (Ok ok) after) own ends).request in
      let (same, destroys) = same_request s d c created (sym ended.was_open ∙ is_open) in
      subst (λ (i : IdParts). object_of_client after sender.client i ≡ None) same (ended.gone destroys)
