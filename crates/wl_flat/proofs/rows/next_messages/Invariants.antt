use Rattle.std.proofs.Common.{◌≡◌, drop, map}
use Rattle.wl_wire.specs.Table.{message_row}
use Rattle.wl_flat.specs.Rows.{messages_said}
use Rattle.wl_flat.proofs.RowsRead.{behind}
use Rattle.wl_flat.proofs.rows.next_messages.Given as goal

-- the rows that are left say what comes behind the messages that were read
abbrev pub invariant-loop-row : goal.invariant-loop-row
invariant-loop-row l = record {
  said : messages_said l.text l.rows l.initial.unread.arguments.now ≡ behind (map message_row l.messages.items) (messages_said l.text (drop l.row-index l.rows) l.unread.arguments.now);
  kept : l.unread.messages ≡ l.initial.unread.messages;
}
