use Rattle.wl_link.proofs.Calls.MailboxLaws.{mailbox_keeps, mailbox_stays_within_room}
use Rattle.wl_link.proofs.laws.calls.mailbox_loses_nothing.Goals as goal

pub returns-clause-kept : goal.returns-clause-kept
returns-clause-kept c = λ before after calls did. mailbox_keeps calls before after did

pub returns-clause-room : goal.returns-clause-room
returns-clause-room c = λ before after offer answer sent. mailbox_stays_within_room before after offer answer sent
