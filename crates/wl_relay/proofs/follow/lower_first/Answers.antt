-- That the message that is written is the lowered one.
use Rattle.std.specs.Prelude.{◌≡◌, ℕ, List, [], ◌∷◌, ◌++◌, ◌-◌, length, take, Ok}
use Rattle.std.proofs.Common.{ap, refl, subst, ◌∙◌, arith}
use Rattle.std.proofs.lemmas.Grind.{common_steps}
use Rattle.wl_wire.specs.declared.argument.Argument.TheVariants as arg
use Rattle.wl_wire.specs.Argument.{WireArgument}
use Rattle.wl_wire.specs.Message.{WireMessage, content}
use Rattle.wl_link.specs.Link.{LinkState, Wrote}
use Rattle.wl_link.specs.Mailbox.{MailboxSends, MailboxState}
use Rattle.wl_relay.specs.Announcements.{lowered}
use Rattle.wl_relay.proofs.Flows.{Adds, write_adds}
use Rattle.wl_relay.proofs.follow.lower_first.Goals as goal

written_lowered : (m : WireMessage) (version : ℕ) (items : List WireArgument) (before after : LinkState MailboxState) (u : Unit {0})
    → items ≡ take (length m.args - 1) m.args ++ arg.Uint version ∷ []
    → Wrote MailboxSends before (record m { args = items }) (Ok u) after → Adds before (lowered m version) after
written_lowered m version items before after u is wrote =
    write_adds (lowered m version) after u before
    (subst (λ (xs : List WireArgument). Wrote MailboxSends before (record m { args = xs }) (Ok u) after) is wrote)

pub returns-in-Ok-clause-passed : goal.returns-in-Ok-clause-passed
returns-in-Ok-clause-passed c =
    let m : WireMessage = content c.take_first.new.message in
    let adds = written_lowered m c.args.version c.push.new.self.items c.args.to.now c.write_message.new.self c.in-Ok.field-0
    (c.in_ok-push.ensures.ok ∙ ap (λ (xs : List WireArgument). xs ++ arg.Uint c.args.version ∷ []) c.pop-old.ensures.rest) c.in-Ok.ensures.wrote in
    (refl, c.in_ok-take_first.ensures.taken, (m, c.in_ok-take_first.ensures.read, adds.0))

pub returns-in-Ok-clause-way_back : goal.returns-in-Ok-clause-way_back
returns-in-Ok-clause-way_back c =
    let m : WireMessage = content c.take_first.new.message in
    let adds = written_lowered m c.args.version c.push.new.self.items c.args.to.now c.write_message.new.self c.in-Ok.field-0
    (c.in_ok-push.ensures.ok ∙ ap (λ (xs : List WireArgument). xs ++ arg.Uint c.args.version ∷ []) c.pop-old.ensures.rest) c.in-Ok.ensures.wrote in
    let taken = c.in_ok-take_first.ensures.taken.1 in
    (ap (λ (l : LinkState MailboxState). l.transport) taken, ap (λ (l : LinkState MailboxState). l.outgoing) taken, adds.1)

pub returns-clause-settings : goal.returns-clause-settings
returns-clause-settings c = grind (arith, common_steps)
