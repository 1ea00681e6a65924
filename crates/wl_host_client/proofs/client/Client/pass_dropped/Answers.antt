use Rattle.std.proofs.Common.{◌≡◌, ◌∙◌, ℕ, List, Bool, ap, get_or, length, sym}
use Rattle.std.specs.List.{count_by}
use Rattle.wl_wire.specs.declared.argument.Argument.{Argument}
use Rattle.wl_wire.specs.declared.argument.Token.{Token}
use Rattle.wl_client.specs.ObjectId.{IdParts}
use Rattle.wl_host_client.proofs.ClientDescriptors.{passed_dropped}
use Rattle.wl_flat.specs.Arguments.{is_descriptor}
use Rattle.wl_host_client.specs.Client.{brought, kept_of, without_dropped}
use Rattle.wl_host_client.specs.contracts.client.Client.{the_view}
use Rattle.wl_host_client.proofs.client.Client.pass_dropped.Goals as goal
use Rattle.wl_host_client.proofs.client.Client.pass_dropped.Goals.{then-self, else-self}

-- how many descriptors the event brought, if it is kept
counted : (c : goal.After-keep_last) → c.if-self.brought ≡ brought (kept_of c.self.inside.is_kept c.self.inside.event)
counted c = elim c.if-self.branch [
  | then-self w ↦
      w.brought-is
      ∙ (w.descriptor_count-brought.ensures
      ∙ (ap (λ (args : List (Argument IdParts Token)). count_by is_descriptor args) w.as_slice.ensures
      ∙ ap (λ (b : Bool). brought (kept_of b c.self.inside.event)) (sym w.if-self.true)))
  | else-self w ↦ w.brought-is ∙ ap (λ (b : Bool). brought (kept_of b c.self.inside.event)) (sym w.if-self.false)
]

pub returns : goal.returns
returns c =
    passed_dropped (the_view c.self.inside) c.keep_last.new.self c.if-self.brought (get_or c.waiting.result 1 0) _ c.saturating_add.result c.saturating_add-awaited.result
    c.keep_last.ensures.few (counted c) (ap (λ (xs : List ℕ). get_or xs 1 0) c.waiting.ensures) (ap (λ ts. length ts) (c.tokens_left-in_mailbox.ensures.tokens ∙ ap (λ m. m.arrived.tokens) c.transport.ensures))
    c.saturating_add.ensures c.saturating_add-awaited.ensures c.keep_last.ensures.after
    ∙ ap without_dropped c.self.view_is
