-- That calls one after another hold no link back, and that a flush does not.
use Rattle.std.specs.Prelude.{◌≡◌, ℕ, Option, List, [], ◌∷◌, Result}
use Rattle.std.proofs.Common.{ap, inl, inr, ◌∙◌}
use Rattle.wl_wire.specs.declared.error.IoFault.{IoFault}
use Rattle.wl_link.specs.Exchange.{Chain, Queue, Sending}
use Rattle.wl_link.specs.Link.{Flushed, LinkState}
use Rattle.wl_link.specs.Mailbox.{MailboxSends, MailboxState}
use Rattle.wl_relay.specs.Flow.{Settings, settings}
use Rattle.wl_relay.specs.Inside.Passing.{KeepBoth}

pub keep_after : (from from1 from2 to to1 to2 : LinkState MailboxState) → KeepBoth from to from1 to1 → KeepBoth from1 to1 from2 to2 → KeepBoth from to from2 to2
keep_after from from1 from2 to to1 to2 one two = ((two.0.0 ∙ one.0.0, two.0.1 ∙ one.0.1), (two.1.0 ∙ one.1.0, two.1.1 ∙ one.1.1))

abbrev settings_of : Option ℕ → MailboxState → Settings
settings_of limit m = record { limit = limit; ending = m.ending; room = m.room; send_fault = m.send_fault }

send_settings : (limit : Option ℕ) (m m' : MailboxState) (offer : Queue) (answer : Result ℕ IoFault) → MailboxSends m offer answer m'
    → settings_of limit m' ≡ settings_of limit m
send_settings limit m m' offer answer (inl s) = ap (settings_of limit) s.1
send_settings limit m m' offer answer (inr s) = ap (settings_of limit) s.1

chain_settings : (limit : Option ℕ) (es : List Sending) (m m' : MailboxState) → Chain MailboxSends m es m' → settings_of limit m' ≡ settings_of limit m
chain_settings limit [] m m' same = ap (settings_of limit) same
chain_settings limit (e ∷ es) m m' chain = chain_settings limit es chain.0 m' chain.2 ∙ send_settings limit m chain.0 e.offer e.answer chain.1

pub flush_settings : (before after : LinkState MailboxState) (answer : Result (Unit {0}) IoFault) → Flushed MailboxSends before answer after
    → settings after ≡ settings before
flush_settings before after answer f =
    chain_settings after.limit f.0 before.transport after.transport f.1.0
    ∙ ap (λ (l : LinkState MailboxState). settings_of l.limit before.transport) f.1.2
