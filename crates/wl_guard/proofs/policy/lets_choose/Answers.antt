-- That what holds of the rows holds of the messages that they are of.
use Rattle.std.proofs.Common.{sym, ◌∙◌, ap}
use Rattle.std.specs.Prelude.{List}
use Rattle.std.specs.List.{list_any}
use Rattle.wl_wire.specs.declared.interface.MessageDesc.{MessageDesc}
use Rattle.wl_wire.specs.Table.{message_row}
use Rattle.wl_guard.specs.Policy.{is_chosen}
use Rattle.wl_guard.proofs.Rows.{any_map}
use Rattle.wl_guard.proofs.policy.lets_choose.Goals as goal

pub returns : goal.returns
returns c =
    c.any_chosen.ensures
    ∙ ap (λ (ms : List MessageDesc). list_any (λ m. is_chosen (message_row m).child_interface) ms) c.as_slice.ensures.value
    ∙ sym (any_map (λ m. is_chosen m.child_interface) message_row c.args.interface.now.requests.items)
