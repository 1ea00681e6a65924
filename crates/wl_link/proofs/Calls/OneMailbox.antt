-- What a transport by mailbox does follows from its value.
use Rattle.std.specs.Prelude.{◌≡◌, ◌≢◌, ℕ, Result, Err}
use Rattle.std.proofs.Common.{sym, ◌∙◌, inl, inr}
use Rattle.wl_wire.specs.declared.error.IoFault.{IoFault}
use Rattle.wl_wire.specs.declared.error.IoFault.TheVariants as fault
use Rattle.wl_link.specs.Exchange.{Queue, IsFunction, IsReceiveFunction}
use Rattle.wl_link.specs.Mailbox.{MailboxState, MailboxSends, MailboxReceives, mailbox_answer, mailbox_after_send, mailbox_gives, mailbox_after_receive}

mailbox_send_answered : (before after : MailboxState) (offer : Queue) (answer : Result ℕ IoFault) → MailboxSends before offer answer after
    → answer ≢ Err fault.OutOfMemory → (answer ≡ mailbox_answer before offer) × (after ≡ mailbox_after_send before offer)
mailbox_send_answered before after offer answer (inl s) ok = s
mailbox_send_answered before after offer answer (inr s) ok = absurd (ok s.0)

pub mailbox_sends_function : IsFunction MailboxSends
mailbox_sends_function before offer one two after after' s t ok ok' =
    let a = mailbox_send_answered before after offer one s ok in
    let b = mailbox_send_answered before after' offer two t ok' in
    (a.0 ∙ sym b.0, a.1 ∙ sym b.1)

mailbox_receive_answered : (before after : MailboxState) (room : ℕ) (answer : Result Queue IoFault) → MailboxReceives before room answer after
    → answer ≢ Err fault.OutOfMemory → (answer ≡ mailbox_gives before room) × (after ≡ mailbox_after_receive before room)
mailbox_receive_answered before after room answer (inl s) ok = (s.1, s.2)
mailbox_receive_answered before after room answer (inr s) ok = absurd (ok s.0)

pub mailbox_receives_function : IsReceiveFunction MailboxReceives
mailbox_receives_function before room one two after after' s t ok ok' =
    let a = mailbox_receive_answered before after room one s ok in
    let b = mailbox_receive_answered before after' room two t ok' in
    (a.0 ∙ sym b.0, a.1 ∙ sym b.1)
