use Rattle.std.proofs.Common.{◌∙◌, map, arith}
use Rattle.std.proofs.lemmas.List.{map-append}
use Rattle.std.proofs.lemmas.Grind.{common_steps}
use Rattle.wl_wire.specs.Table.{message_row}
use Rattle.wl_flat.proofs.RowsRead.{messages_said-one}
use Rattle.wl_flat.proofs.rows.next_messages.Goals as goal

pub loop-row-preserved : goal.loop-row-preserved
loop-row-preserved c =
    let one = messages_said-one c.args.text.now c.in_ok-rows.rows.now c.loop-row.row-index _ _ _ _ (map message_row c.loop-row.messages.items) _
    c.loop-row-test.true c.in_ok-arguments.ensures.rows c.in_ok-message_of.ensures in
    record { said = rw (c.in_ok-push.ensures.items, map-append) (c.loop-row.invariant.said ∙ one); kept = c.loop-row.invariant.kept }

pub returns-in_err-arguments : goal.returns-in_err-arguments
returns-in_err-arguments c = grind (arith, common_steps)

pub returns-in_err-message_of : goal.returns-in_err-message_of
returns-in_err-message_of c = grind (arith, common_steps)

pub returns : goal.returns
returns c = grind (arith, common_steps)
